-- Laws of how the discoveries start.
use Rattle.std.specs.Prelude.{Option, Some, None, Result, Ok, Err, ok_or, cond, ◌≡◌, refl, Bool, true, false, List, [], ◌∷◌, ◌++◌, ℕ, ◌+◌, ◌*◌, ◌-◌, ◌/◌, ◌%◌, ◌≤◌, ◌<◌, eqb, leb, length, take, drop, get_or}
use Rattle.std.proofs.Common.{ap, ap₂, arith, lt-ltb, le-ltb, le-leb, leb-true, eqb-true, length-append, length-take, length-drop, take_all}
use Rattle.std.proofs.Math.Option.{Option as Maybe}
use mathlib.Core.Logic.{◌⊎◌, inl, inr}
use Rattle.std.proofs.lemmas.Bool.{lt-leb}
use Rattle.std.specs.Int.{w16, to_be_bytes}
use Rattle.errors.specs.declared.Refusal.{Refusal}
use Rattle.errors.specs.declared.Refusal.TheVariants.{OutOfTurn, ShortBuffer, OverLong, BadArgument, Bitrate as BadBitrate, NotSendable}
use Rattle.errors.specs.Refusals.{answered, refused, numbered}
use Rattle.framing.specs.Lists.{both}
use Rattle.framing.specs.Valid.{both_left, both_right}
use Rattle.protocol.specs.Arguments.{word, bit, jump_data, system_codes_fit, shortest_atr_req, longest_atr_req, system_codes, nfcid3_size, active_byte, nfcid3_offset}
use Rattle.protocol.specs.Discovery.{cascaded}
use Rattle.protocol.specs.Starts.{data_limit}
use Rattle.protocol.specs.Names.{cascade_tag}
use Rattle.stages.specs.Starts.{Start, Starts, starts_refused}
use Rattle.targets.specs.Bitrates.{Choice, chosen, no_code_of, choice_on, choice_of, coded, send_length, send_part_of, is_bitrate}
use Rattle.targets.specs.declared.Bitrate.{Bitrate}
use Rattle.stages.specs.Bitrates.{code_for}
use Rattle.stages.specs.declared.start.Start as code
use Rattle.discovery.specs.Firsts.{supported_in, Rated, type_b_first}

-- ---- a bitrate: malformed, not taken by the call, or taken

-- a refusal that a text is answered with is 5
by_number : (e : Refusal) → (numbered e).number ≡ 5 → e ≡ BadBitrate
by_number OutOfTurn h = absurd (omega (arith, h))
by_number ShortBuffer h = absurd (omega (arith, h))
by_number OverLong h = absurd (omega (arith, h))
by_number BadArgument h = absurd (omega (arith, h))
by_number BadBitrate h = refl
by_number NotSendable h = absurd (omega (arith, h))

not_refused : (e : Refusal) → (numbered e).number ≡ 0 → ⊥
not_refused OutOfTurn h = omega (arith, h)
not_refused ShortBuffer h = omega (arith, h)
not_refused OverLong h = omega (arith, h)
not_refused BadArgument h = omega (arith, h)
not_refused BadBitrate h = omega (arith, h)
not_refused NotSendable h = omega (arith, h)

abbrev refused_by : Choice → ℕ
refused_by (chosen b) = 0
refused_by (no_code_of k) = k.number

no_bitrate : (t : List ℕ) (u : Bool) (e : Refusal) → coded (Err e) ≡ choice_on t (cond u (answered (send_length t)) (refused (numbered BadBitrate)))
    → (e ≡ BadBitrate) × (choice_on t (cond u (answered (send_length t)) (refused (numbered BadBitrate))) ≡ no_code_of (numbered BadBitrate))
no_bitrate t true e h = absurd (not_refused e (ap refused_by h))
no_bitrate t false e h = (by_number e (ap refused_by h), refl)

-- a malformed text, a bitrate that the call does not take, and one that it takes
module _ (t : List ℕ) (takes : Bitrate → Maybe ℕ) where
  pub malformed : (r : Result ℕ Refusal) (e : Refusal) → r ≡ Err e → coded (Err e) ≡ choice_of t → Rated r takes t
  unfolding code_for choice_of send_part_of
  malformed r e is read = let h = no_bitrate t (is_bitrate t) e read in rw is (h.0, λ f. rw h.1 refl)

  pub well_formed : (b : Bitrate) (o : Option ℕ) → coded (Ok b) ≡ choice_of t → supported_in o ≡ takes b → Rated (ok_or o BadBitrate) takes t
  unfolding code_for
  well_formed b None read h = (refl, λ f. rw (← read, ← h) refl)
  well_formed b (Some x) read h = λ f. rw (← read, ← h) refl

  pub not_supported : (r : Result code.Start Refusal) (c : List ℕ) (f : ℕ → Start) (e : Refusal) → r ≡ Err e → Rated (Err e) takes t → Starts r c c (code_for takes t f)
  not_supported r c f e is h = rw (is, h.1 f, h.0) (starts_refused BadBitrate c)

  pub supported : (r : Result code.Start Refusal) (c₀ c₁ : List ℕ) (f : ℕ → Start) (code : ℕ) → Rated (Ok code) takes t → Starts r c₀ c₁ (f code) → Starts r c₀ c₁ (code_for takes t f)
  supported r c₀ c₁ f code h s = rw (h f) s

-- ---- detect_type_a: the UID by its length

pub cascaded_none : (l : List ℕ) → length l ≤ 4 → cascaded l ≡ l
cascaded_none l h =
    let k : length l ≤ 8 = omega arith in
    rw (le-ltb 4 (length l) h, le-ltb 8 (length l) k)

pub cascaded_once : (l : List ℕ) → 4 < length l → length l ≤ 7 → cascaded l ≡ cascade_tag ∷ l
cascaded_once l g h =
    let k : length (cascade_tag ∷ l) ≤ 8 = omega arith in
    rw (lt-ltb 4 (length l) g, le-ltb 8 (length (cascade_tag ∷ l)) k)

pub cascaded_twice : (l : List ℕ) → 7 < length l
    → cascaded l ≡ cascade_tag ∷ take 3 l ++ (cascade_tag ∷ take (length l - 3) (drop 3 l))
cascaded_twice [] h = absurd (omega arith)
cascaded_twice (x ∷ []) h = absurd (omega arith)
cascaded_twice (x ∷ y ∷ []) h = absurd (omega arith)
cascaded_twice (x ∷ y ∷ z ∷ l) h =
    let g : 4 < length (x ∷ y ∷ z ∷ l) = omega arith in
    let k : 8 < length (cascade_tag ∷ x ∷ y ∷ z ∷ l) = omega arith in
    let all : take (length (x ∷ y ∷ z ∷ l) - 3) l ≡ l = take_all (length (x ∷ y ∷ z ∷ l) - 3) l (omega arith) in
    rw (lt-ltb 4 (length (x ∷ y ∷ z ∷ l)) g, lt-ltb 8 (length (cascade_tag ∷ x ∷ y ∷ z ∷ l)) k, all)

-- ---- detect_type_b: the AFI as a call answered it

pub same_afi : (r : Result code.Start Refusal) (c₀ c₁ : List ℕ) (code x y : ℕ) → x ≡ y → Starts r c₀ c₁ (type_b_first x code) → Starts r c₀ c₁ (type_b_first y code)
same_afi r c₀ c₁ code x y e s = rw (← e) s

-- ---- detect_type_f: the bytes of the system code

pub word_bytes : (l : List ℕ) (n : ℕ) → n < 65536 → l ≡ to_be_bytes w16 n → get_or l 0 0 ∷ get_or l 1 0 ∷ [] ≡ word n
word_bytes l n h e = let x : n / 256 % 256 ≡ n / 256 = omega arith in rw (e, x)

-- ---- poll_type_f: 2 to 32 bytes

pub list_few : (words : List ℕ) → system_codes_fit words ≡ true → length words ≤ 2 * system_codes
list_few words h =
    let even = eqb-true (length words % 2) 0 (both_left (eqb (length words % 2) 0) _ h) in
    let some_fit = both_right (eqb (length words % 2) 0) _ h in
    let few = leb-true (length words / 2) system_codes (both_right (leb 1 (length words / 2)) _ some_fit) in
    omega (arith, even, few)

-- ---- detect_dep: the lengths of ATR_REQ, and the jump

module _ (n : ℕ) where
  pub too_short : n < shortest_atr_req → both (leb shortest_atr_req n) (leb n longest_atr_req) ≡ false
  too_short h = rw (lt-leb shortest_atr_req n h)

  pub too_long : shortest_atr_req ≤ n → longest_atr_req < n → both (leb shortest_atr_req n) (leb n longest_atr_req) ≡ false
  too_long g h = rw (le-leb shortest_atr_req n g, lt-leb n longest_atr_req h)

  pub out_of_range : (n < shortest_atr_req) ⊎ ((shortest_atr_req ≤ n) × (longest_atr_req < n)) → both (leb shortest_atr_req n) (leb n longest_atr_req) ≡ false
  out_of_range (inl h) = too_short h
  out_of_range (inr h) = too_long h.0 h.1

  pub in_range_lem : shortest_atr_req ≤ n → n ≤ longest_atr_req → both (leb shortest_atr_req n) (leb n longest_atr_req) ≡ true
  in_range_lem g h = rw (le-leb shortest_atr_req n g, le-leb n longest_atr_req h)

-- the jump's data: three bytes, and behind them two parts of ATR_REQ
pub jump_data_lem : (a : List ℕ) (code f : ℕ) → shortest_atr_req ≤ length a → f ≡ 2 * bit (take nfcid3_size (drop nfcid3_offset a)) + 4 * bit (drop shortest_atr_req a)
    → (active_byte true ∷ code ∷ f ∷ []) ++ take nfcid3_size (drop nfcid3_offset a) ++ take (length a - shortest_atr_req) (drop shortest_atr_req a)
    ≡ jump_data (active_byte true) code [] (take nfcid3_size (drop nfcid3_offset a)) (drop shortest_atr_req a)
jump_data_lem a code f long e =
    let p : List ℕ = take nfcid3_size (drop nfcid3_offset a) in
    let all : take (length a - shortest_atr_req) (drop shortest_atr_req a) ≡ drop shortest_atr_req a = take_all (length a - shortest_atr_req) (drop shortest_atr_req a) (rw (length-drop shortest_atr_req a) (omega arith)) in
    let flags : f ≡ bit [] + 2 * bit p + 4 * bit (drop shortest_atr_req a) = omega arith in
    ap₂ (λ x y. active_byte true ∷ code ∷ x ∷ p ++ y) flags all

pub jump_few : (a : List ℕ) (code : ℕ) → length a ≤ longest_atr_req → length (jump_data (active_byte true) code [] (take nfcid3_size (drop nfcid3_offset a)) (drop shortest_atr_req a)) ≤ data_limit
jump_few a code h = omega (arith, length-append (take nfcid3_size (drop nfcid3_offset a)) (drop shortest_atr_req a), length-take nfcid3_size (drop nfcid3_offset a), length-drop shortest_atr_req a)
