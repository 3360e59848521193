-- What each discovery comes to with the simulated chip.
use Rattle.std.specs.Prelude.{◌≡◌, Bool, cond, eqb, ltb, length}
use Rattle.std.proofs.Math.Path.{refl, ap, subst}
use Rattle.std.proofs.Common.{sym, ◌∙◌, arith, le-ltb}
use Rattle.std.proofs.Math.Bool.{true, false}
use Rattle.std.proofs.lemmas.Bool.{false≢true}
use mathlib.Core.List.{List, [], ◌∷◌, ◌++◌}
use Rattle.std.proofs.Math.Option.{Option, none, some}
use Prim.Native.Nat.{ℕ, ◌/◌, ◌%◌, ◌≤◌}
use Rattle.std.proofs.Math.ListN.{get_or}
use Rattle.errors.specs.Choice.{pick}
use Rattle.targets.specs.TypeA.{is_type2}
use Rattle.targets.specs.declared.Bitrate.{Bitrate}
use Rattle.exchange.specs.Packets.{response}
use Rattle.protocol.specs.Scripts.{Byte, if_else, Answer, done, Script, finish}
use Rattle.protocol.specs.Discovery.{card_a, without_crc, wake_up, poll, detect_type_a_of, detect_type_b_of, detect_type_f_of, detect_dep_of, sensf_req}
use Rattle.protocol.specs.Machine.{plain_answer}
use Rattle.protocol.specs.Names.{atr_res_cmd0, atr_res_cmd1}
use Rattle.protocol.specs.Values.{rest-values}
use Rattle.chip_protocol.specs.Field.{Card, wupb, reply_to, is_stated, wakes_up, protocol_fits, least_list_data, CardFits, FieldFits}
use Rattle.chip_protocol.specs.Chip.{ChipState, with_found_of, card_at, first_place_of, listed, jumped, exchanged, exchanged_with}
use Rattle.chip_protocol.specs.Names.{tx_control_on, tx_control_off}
use Rattle.chip_protocol.specs.declared.Kind.{Kind}
use Rattle.chip_protocol.specs.declared.Kind.TheVariants.{TypeA, TypeB, TypeF, Dep}
use Rattle.protocol.specs.Runs.{run_answer, run_state, run_events}
use Rattle.chip_protocol.specs.Script.{more, responder, peer_of}
use Rattle.chip_protocol.specs.Answers.{answer_a, answer_wake_up, answer_b, answer_f, answer_dep, events_a, events_b, events_f, events_dep}
use Rattle.chip_protocol.specs.First.{First}
use Rattle.chip_protocol.specs.Found.{on_reply, responses, Comes, FoundFits}

card_of : (f before behind : List Card) (c : Card) → FieldFits f → f ≡ before ++ (c ∷ behind) → CardFits c
card_of f [] behind c h e = (subst FieldFits e h).0
card_of f (d ∷ ds) behind c h e = card_of (ds ++ (c ∷ behind)) ds behind c (subst FieldFits e h).1 refl

-- as the first card of its kind does
pub first_fits : (k : Kind) (r : Bitrate) (f : List Card) (o : Option Card) → FieldFits f → First k r f o → FoundFits k o
first_fits k r f none g h = tt
first_fits k r f (some c) g h = (card_of f h.before h.behind c g h.whole, h.is.0)

long_data : (k : Kind) (c : Card) → FoundFits k (some c) → least_list_data k ≤ length c.list_data
long_data k c h = subst (λ j. least_list_data j ≤ length c.list_data) h.1 h.0.long

-- list data of at least k bytes, behind two more
two : (l : List ℕ) → ltb (length (1 ∷ 1 ∷ l)) 2 ≡ false
two l = le-ltb (length (1 ∷ 1 ∷ l)) 2 (omega arith)

enough : (l : List ℕ) (n : ℕ) → n ≤ length (1 ∷ 1 ∷ l) → ltb (length (1 ∷ 1 ∷ l)) n ≡ false
enough l n h = le-ltb (length (1 ∷ 1 ∷ l)) n h

-- ---- Type F

module _ (k : ℕ) (code request slots : ℕ) (s : ChipState) (p : Option ℕ) where
  abbrev polled : Option Card → Script
  polled o = on_reply (poll k code (sensf_req 0xFFFF request slots)) (response (listed o))

  on-poll : (o : Option Card) → FoundFits TypeF o → Comes (polled o) (with_found_of s p true) (answer_f o) (with_found_of s p true) 0
  on-poll none h = record { answer = refl; state = refl; events = λ m. refl }
  on-poll (some c) h =
      let l : List ℕ = c.list_data in
      let long = enough l 20 (omega (arith, long_data TypeF c h)) in
      record {
        answer = rw (two l, long) (ap done (rest-values k (1 ∷ 1 ∷ l) 4));
        state = rw (two l, long) refl;
        events = λ m. rw (two l, long) refl;
      }

module _ (code request slots : ℕ) (s : ChipState) (o : Option Card) where
  abbrev place_f : Option ℕ
  place_f = first_place_of TypeF code s.field

  poll-comes : (k : ℕ) (on : Bool) → card_at s.field place_f ≡ o → FoundFits TypeF o
      → Comes (poll k code (sensf_req 0xFFFF request slots)) (with_found_of s s.found on) (answer_f o) (with_found_of s place_f true) 3
  unfolding responses
  poll-comes k on e h =
      let g = on-poll k code request slots s place_f o h in
      record {
        answer = ap (λ (x : Option Card). plain_answer (run_answer (peer_of responder) (polled k code request slots s place_f x) (with_found_of s place_f true))) e ∙ g.answer;
        state = ap (λ (x : Option Card). run_state (peer_of responder) (polled k code request slots s place_f x) (with_found_of s place_f true)) e ∙ g.state;
        events = λ m. ap (λ (x : Option Card). more 3 (run_events (peer_of responder) m (polled k code request slots s place_f x) (with_found_of s place_f true))) e ∙ ap (more 3) (g.events m);
      }

  -- CIU_TxControl says whether the RF field is on
  abbrev behind_f : Bool → Script
  behind_f t = on_reply (detect_type_f_of code (sensf_req 0xFFFF request slots)) (response (pick t tx_control_on tx_control_off ∷ []))

  abbrev BehindF : Bool → Type 0
  BehindF t =
      (plain_answer (run_answer (peer_of responder) (behind_f t) s) ≡ answer_f o) × (run_state (peer_of responder) (behind_f t) s ≡ with_found_of s place_f true)
      × ((m : ℕ) → more 3 (run_events (peer_of responder) m (behind_f t) s) ≡ more (events_f t) m)

  by-control : (t : Bool) → Comes (poll 1 code (sensf_req 0xFFFF request slots)) s (answer_f o) (with_found_of s place_f true) 3
      → Comes (poll 2 code (sensf_req 0xFFFF request slots)) (with_found_of s s.found true) (answer_f o) (with_found_of s place_f true) 3
      → BehindF t
  unfolding responses
  by-control true g k = (g.answer, g.state, λ m. ap (more 3) (g.events m))
  by-control false g k = (k.answer, k.state, λ m. ap (more 7) (k.events m))

  pub found_f : card_at s.field place_f ≡ o → FoundFits TypeF o
      → Comes (detect_type_f_of code (sensf_req 0xFFFF request slots)) s (answer_f o) (with_found_of s place_f true) (events_f s.is_rf_field_on)
  unfolding responses
  found_f e h =
      let g = by-control s.is_rf_field_on (poll-comes 1 s.is_rf_field_on e h) (poll-comes 2 true e h) in
      record { answer = g.0; state = g.1; events = g.2 }

-- ---- Type A

-- the RX mode is read and written for Type 2, and the answer is the same
by_type_2 : (t : Bool) (a : Answer Byte) (s : ChipState) → Comes (if_else t (without_crc a) (finish a)) s (plain_answer a) s (cond t 6 0)
unfolding responses
by_type_2 true a s = record { answer = refl; state = refl; events = λ m. refl }
by_type_2 false a s = record { answer = refl; state = refl; events = λ m. refl }

events_type_2 : (t : Bool) (m : ℕ) → more 3 (more (cond t 6 0) m) ≡ more (cond t 9 3) m
events_type_2 true m = refl
events_type_2 false m = refl

module _ (code : ℕ) (s : ChipState) (p : Option ℕ) where
  abbrev listed_a_of : Option Card → Script
  listed_a_of o = on_reply (detect_type_a_of code []) (response (listed o))

  abbrev BehindA : Option Card → Option Card → Type 0
  BehindA x o =
      (plain_answer (run_answer (peer_of responder) (listed_a_of x) (with_found_of s p true)) ≡ answer_a o) × (run_state (peer_of responder) (listed_a_of x) (with_found_of s p true) ≡ with_found_of s p true)
      × ((m : ℕ) → more 3 (run_events (peer_of responder) m (listed_a_of x) (with_found_of s p true)) ≡ more (events_a o) m)

  on-list-a : (o : Option Card) → FoundFits TypeA o → BehindA o o
  unfolding responses
  on-list-a none h = (refl, refl, λ m. refl)
  on-list-a (some c) h =
      let l : List ℕ = c.list_data in
      let long = enough l 6 (omega (arith, long_data TypeA c h)) in
      let g = by_type_2 (is_type2 (get_or l 2 0)) (done (card_a (1 ∷ 1 ∷ l))) (with_found_of s p true) in
      rw (two l, long) (
        g.answer ∙ ap (λ r. done (get_or l 1 0 ∷ get_or l 0 0 ∷ get_or l 2 0 ∷ r)) (rest-values 0 (1 ∷ 1 ∷ l) 6),
        g.state,
        λ m. ap (more 3) (g.events m) ∙ events_type_2 (is_type2 (get_or l 2 0)) m,
      )

module _ (code : ℕ) (s : ChipState) (o : Option Card) where
  abbrev place_a : Option ℕ
  place_a = first_place_of TypeA code s.field

  pub found_a_lem : card_at s.field place_a ≡ o → FoundFits TypeA o → Comes (detect_type_a_of code []) s (answer_a o) (with_found_of s place_a true) (events_a o)
  unfolding responses
  found_a_lem e h =
      let g = subst (λ (x : Option Card). BehindA code s place_a x o) (sym e) (on-list-a code s place_a o h) in
      record { answer = g.0; state = g.1; events = g.2 }

-- ---- Type B

module _ (s : ChipState) (p : Option ℕ) where
  -- the card found: its reply to DESELECT is ignored, that to WUPB is handed out
  on-wake-up : (o : Option (List ℕ)) → is_stated o ≡ true
      → Comes (on_reply (wake_up 0) (response (exchanged o))) (with_found_of s p true) (answer_wake_up o) (with_found_of s p true) 0
  on-wake-up none h = absurd (false≢true h)
  on-wake-up (some r) h = record { answer = ap done (rest-values 2 (0 ∷ r) 1); state = refl; events = λ m. refl }

pub wakes_b : (c : Card) → c.kind ≡ TypeB → wakes_up c.kind c.replies ≡ true → is_stated (reply_to c.replies wupb) ≡ true
wakes_b c e h = subst (λ k. wakes_up k c.replies ≡ true) e h

-- byte 10, masked with 09
protocol_b : (l : List ℕ) → protocol_fits TypeB l ≡ true → (eqb (get_or l 10 0 % 2) 1 ≡ true) × (eqb (get_or l 10 0 / 8 % 2) 0 ≡ true)
unfolding pick
protocol_b l h = go (eqb (get_or l 10 0 % 2) 1) h
  where
    go : (t : Bool) → pick t (eqb (get_or l 10 0 / 8 % 2) 0) false ≡ true → (t ≡ true) × (eqb (get_or l 10 0 / 8 % 2) 0 ≡ true)
    go true e = (refl, e)
    go false e = absurd (false≢true e)

module _ (code : ℕ) (s : ChipState) (p : Option ℕ) where
  abbrev listed_b_of : Option Card → Script
  listed_b_of o = on_reply (detect_type_b_of code 0) (response (listed o))

  abbrev BehindB : Option Card → Option Card → Type 0
  BehindB x o =
      (plain_answer (run_answer (peer_of responder) (listed_b_of x) (with_found_of s p true)) ≡ answer_b o) × (run_state (peer_of responder) (listed_b_of x) (with_found_of s p true) ≡ with_found_of s p true)
      × ((m : ℕ) → more 3 (run_events (peer_of responder) m (listed_b_of x) (with_found_of s p true)) ≡ more (events_b o) m)

  -- WUPB to the card found
  wakes : (c : Card) → card_at s.field p ≡ some c → FoundFits TypeB (some c) → Comes (wake_up 0) (with_found_of s p true) (answer_b (some c)) (with_found_of s p true) 3
  unfolding responses
  wakes c e h =
      let g = on-wake-up s p (reply_to c.replies wupb) (wakes_b c h.1 h.0.wakes) in
      record {
        answer = ap (λ (x : Option Card). plain_answer (run_answer (peer_of responder) (on_reply (wake_up 0) (response (exchanged_with x wupb))) (with_found_of s p true))) e ∙ g.answer;
        state = ap (λ (x : Option Card). run_state (peer_of responder) (on_reply (wake_up 0) (response (exchanged_with x wupb))) (with_found_of s p true)) e ∙ g.state;
        events = λ m. ap (λ (x : Option Card). more 3 (run_events (peer_of responder) m (on_reply (wake_up 0) (response (exchanged_with x wupb))) (with_found_of s p true))) e ∙ ap (more 3) (g.events m);
      }

  on-list-b : (o : Option Card) → card_at s.field p ≡ o → FoundFits TypeB o → BehindB o o
  unfolding responses
  on-list-b none e h = (refl, refl, λ m. refl)
  on-list-b (some c) e h =
      let l : List ℕ = c.list_data in
      let long = enough l 13 (omega (arith, long_data TypeB c h)) in
      let q = protocol_b l (subst (λ k. protocol_fits k l ≡ true) h.1 h.0.protocol) in
      let g = wakes c e h in
      rw (two l, long, q.0, q.1) (g.answer, g.state, λ m. ap (more 6) (g.events m))

module _ (code : ℕ) (s : ChipState) (o : Option Card) where
  abbrev place_b : Option ℕ
  place_b = first_place_of TypeB code s.field

  pub found_b_lem : card_at s.field place_b ≡ o → FoundFits TypeB o → Comes (detect_type_b_of code 0) s (answer_b o) (with_found_of s place_b true) (events_b o)
  unfolding responses
  found_b_lem e h =
      let g = subst (λ (x : Option Card). BehindB code s place_b x o) (sym e) (on-list-b code s place_b o e h) in
      record { answer = g.0; state = g.1; events = g.2 }

-- ---- DEP

module _ (code : ℕ) (atrReq : List ℕ) (s : ChipState) (p : Option ℕ) where
  abbrev jumped_to : Option Card → Script
  jumped_to o = on_reply (on_reply (detect_dep_of code atrReq) (response [])) (response (jumped o))

  abbrev BehindDep : Option Card → Option Card → Type 0
  BehindDep x o =
      (plain_answer (run_answer (peer_of responder) (jumped_to x) (with_found_of s p true)) ≡ answer_dep o) × (run_state (peer_of responder) (jumped_to x) (with_found_of s p true) ≡ with_found_of s p true)
      × ((m : ℕ) → more 6 (run_events (peer_of responder) m (jumped_to x) (with_found_of s p true)) ≡ more (events_dep o) m)

  on-jump : (o : Option Card) → BehindDep o o
  unfolding responses
  on-jump none = (refl, refl, λ m. refl)
  on-jump (some c) =
      let l : List ℕ = c.list_data in
      rw (le-ltb (length (0 ∷ 1 ∷ l)) 2 (omega arith)) (ap (λ r. done (atr_res_cmd0 ∷ atr_res_cmd1 ∷ r)) (rest-values 1 (0 ∷ 1 ∷ l) 2), refl, λ m. refl)

module _ (code : ℕ) (atrReq : List ℕ) (s : ChipState) (o : Option Card) where
  abbrev place_dep : Option ℕ
  place_dep = first_place_of Dep code s.field

  pub found_dep : card_at s.field place_dep ≡ o → Comes (detect_dep_of code atrReq) s (answer_dep o) (with_found_of s place_dep true) (events_dep o)
  unfolding responses
  found_dep e =
      let g = subst (λ (x : Option Card). BehindDep code atrReq s place_dep x o) (sym e) (on-jump code atrReq s place_dep o) in
      record { answer = g.0; state = g.1; events = g.2 }
