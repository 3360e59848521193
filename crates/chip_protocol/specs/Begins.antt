-- What an accepted call of N10 begins with: its bitrate is one of the kind, its data can be sent.
use Rattle.std.specs.Prelude.{◌≡◌, refl, Bool, true, false, cond, ◌&&◌, List, ℕ, ◌+◌, ◌≤◌, ◌<◌, eqb, leb, ltb, length}
use Rattle.std.proofs.Common.{sym, ap, ◌∙◌, arith, ltb-false, ne_eqb, leb-true}
use Rattle.std.proofs.lemmas.Bool.{false≢true}
use Rattle.std.proofs.Math.Option.{Option, none, some}
use Rattle.errors.specs.Choice.{pick}
use Rattle.errors.specs.declared.Refusal.TheVariants.{OverLong, Bitrate as BadBitrate}
use Rattle.framing.specs.Lists.{both}
use Rattle.targets.specs.Bitrates.{choice_of, chosen}
use Rattle.targets.specs.declared.Bitrate.{Bitrate}
use Rattle.targets.specs.declared.Bitrate.TheVariants.{B106A, B212F, B424F, B106B, B212B, B424B, B848B, Other}
use Rattle.protocol.specs.Scripts.{Script, if_else}
use Rattle.protocol.specs.Arguments.{atr_req_fits, shortest_atr_req, longest_atr_req}
use Rattle.protocol.specs.Calls.{reader, device, transceive}
use Rattle.protocol.specs.Discovery as discovery
use Rattle.protocol.specs.Starts.{Start, refuses, starts, start_of, code_for, asserted, data_limit, type_a_code, type_b_code, type_f_code, dep_code, is106a, type2_sel_res, clock_of}
use Rattle.chip_protocol.specs.Field.{is_bitrate_of, br_ty, is_type2_at}
use Rattle.chip_protocol.specs.declared.Kind.{Kind}
use Rattle.chip_protocol.specs.declared.Kind.TheVariants.{TypeA, TypeB, TypeF, Dep}
use Rattle.chip_protocol.specs.Answers.{sel_res_of}
use Rattle.chip_protocol.specs.Script.{AllBytes, Sends}
use Rattle.chip_protocol.specs.Sent.{thru_sends, type_2_sends}

abbrev is_refused : Start → Bool
is_refused (refuses r) = true
is_refused (starts x) = false

-- ---- bitrates

-- the codes that the discoveries send
abbrev pub taken_by : Kind → Bitrate → Option ℕ
taken_by TypeA r = type_a_code r
taken_by TypeB r = type_b_code r
taken_by TypeF r = type_f_code r
taken_by Dep r = dep_code r

-- they are the chip's
code_of : (k : Kind) (r : Bitrate) → taken_by k r ≡ cond (is_bitrate_of k r) (some (br_ty r)) none
code_of TypeA B106A = refl
code_of TypeA B212F = refl
code_of TypeA B424F = refl
code_of TypeA B106B = refl
code_of TypeA B212B = refl
code_of TypeA B424B = refl
code_of TypeA B848B = refl
code_of TypeA Other = refl
code_of TypeB B106A = refl
code_of TypeB B212F = refl
code_of TypeB B424F = refl
code_of TypeB B106B = refl
code_of TypeB B212B = refl
code_of TypeB B424B = refl
code_of TypeB B848B = refl
code_of TypeB Other = refl
code_of TypeF B106A = refl
code_of TypeF B212F = refl
code_of TypeF B424F = refl
code_of TypeF B106B = refl
code_of TypeF B212B = refl
code_of TypeF B424B = refl
code_of TypeF B848B = refl
code_of TypeF Other = refl
code_of Dep B106A = refl
code_of Dep B212F = refl
code_of Dep B424F = refl
code_of Dep B106B = refl
code_of Dep B212B = refl
code_of Dep B424B = refl
code_of Dep B848B = refl
code_of Dep Other = refl

pub code_byte : (r : Bitrate) → br_ty r < 256
code_byte B106A = omega arith
code_byte B212F = omega arith
code_byte B424F = omega arith
code_byte B106B = omega arith
code_byte B212B = omega arith
code_byte B424B = omega arith
code_byte B848B = omega arith
code_byte Other = omega arith

module _ (k : Kind) (text : List ℕ) (rate : Bitrate) (named : choice_of text ≡ chosen rate) (f : ℕ → Start) where
  -- the bitrate of an accepted discovery is one of its kind
  pub taken_of : (x : Script) → code_for (taken_by k) text f ≡ starts x → is_bitrate_of k rate ≡ true
  taken_of x e = go (is_bitrate_of k rate) refl
    where
      go : (t : Bool) → is_bitrate_of k rate ≡ t → t ≡ true
      go true p = refl
      go false p =
          let refused : code_for (taken_by k) text f ≡ refuses BadBitrate = rw (named, code_of k rate, p) in
          absurd (false≢true (sym (ap is_refused (sym refused ∙ e))))

  -- and it is sent by its code
  pub begins_with : is_bitrate_of k rate ≡ true → code_for (taken_by k) text f ≡ f (br_ty rate)
  begins_with t = rw (named, code_of k rate, t)

-- an argument that is asserted
pub asserted_holds : (t : Bool) (s : Start) (x : Script) → asserted t s ≡ starts x → (t ≡ true) × (s ≡ starts x)
asserted_holds true s x e = (refl, e)
asserted_holds false s x e = absurd (false≢true (sym (ap is_refused e)))

both_right : (a b : Bool) → both a b ≡ true → b ≡ true
both_right true b h = h
both_right false b h = absurd (false≢true h)

pub atr_req_short : (atrReq : List ℕ) → atr_req_fits atrReq ≡ true → length atrReq ≤ longest_atr_req
atr_req_short atrReq h = leb-true (length atrReq) longest_atr_req (both_right (leb shortest_atr_req (length atrReq)) (leb (length atrReq) longest_atr_req) h)

-- ---- transceive

and_false : (t : Bool) → (t && false) ≡ false
and_false true = refl
and_false false = refl

pick_and : (t u : Bool) → (t && u) ≡ pick t u false
unfolding pick
pick_and true u = refl
pick_and false u = refl

-- to the card's own SEL_RES: a Type 2 card is one to the reader, too
is_type_2 : (k : Kind) (r : Bitrate) (l : List ℕ) → (is106a r && type2_sel_res (sel_res_of k l)) ≡ is_type2_at k r l
is_type_2 TypeA r l = pick_and (is106a r) (type2_sel_res (sel_res_of TypeA l))
is_type_2 TypeB r l = and_false (is106a r)
is_type_2 TypeF r l = and_false (is106a r)
is_type_2 Dep r l = and_false (is106a r)

-- the clock of a transceive is never 0
pub clock_runs : (ms : Option ℕ) → eqb (clock_of ms) 0 ≡ false
clock_runs none = refl
clock_runs (some ms) = ne_eqb (ms + 100) 0 (λ e. omega arith)

module _ (k : Kind) (r : Bitrate) (l text bytes : List ℕ) (ms : Option ℕ) (named : choice_of text ≡ chosen r) where
  abbrev pub transceive_script : Script
  transceive_script = if_else (is_type2_at k r l) (discovery.transceive_type2 bytes (clock_of ms)) (discovery.transceive_thru bytes (clock_of ms))

  whole : start_of (reader (device (transceive text (sel_res_of k l) false bytes ms)))
      ≡ cond (ltb data_limit (length bytes)) (refuses OverLong) (starts transceive_script)
  whole = rw (named, is_type_2 k r l) refl

  pub transceive_short : (x : Script) → start_of (reader (device (transceive text (sel_res_of k l) false bytes ms))) ≡ starts x → ltb data_limit (length bytes) ≡ false
  transceive_short x e = go (ltb data_limit (length bytes)) (sym whole ∙ e)
    where
      go : (t : Bool) → cond t (refuses OverLong) (starts transceive_script) ≡ starts x → t ≡ false
      go true e = absurd (false≢true (sym (ap is_refused e)))
      go false e = refl

  pub transceive_begins : ltb data_limit (length bytes) ≡ false → start_of (reader (device (transceive text (sel_res_of k l) false bytes ms))) ≡ starts transceive_script
  transceive_begins h = whole ∙ rw h refl

  pub transceive_sends : ltb data_limit (length bytes) ≡ false → AllBytes bytes → Sends transceive_script
  transceive_sends h all = go (is_type2_at k r l)
    where
      short : length bytes ≤ data_limit
      short = ltb-false data_limit (length bytes) h

      go : (t : Bool) → Sends (if_else t (discovery.transceive_type2 bytes (clock_of ms)) (discovery.transceive_thru bytes (clock_of ms)))
      go true = type_2_sends (clock_of ms) bytes (clock_runs ms) all short
      go false = thru_sends (clock_of ms) bytes (clock_runs ms) all short
