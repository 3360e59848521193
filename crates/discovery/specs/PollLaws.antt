-- Laws of a list of system codes.
use Rattle.std.specs.Prelude.{◌≡◌, refl, Bool, true, false, List, [], ◌∷◌, ◌++◌, ℕ, ◌+◌, ◌*◌, ◌/◌, ◌%◌, ◌≤◌, ◌<◌, min, eqb, ltb, length, take, drop, get_or}
use Rattle.std.proofs.Math.Path.{sym, ap}
use Rattle.std.proofs.Common.{◌∙◌, arith, ltb-true, ltb-false, ne_eqb, take_all}
use Rattle.std.proofs.Math.Nat.{min_comm}
use Rattle.std.proofs.lemmas.List.{take_min}
use Rattle.errors.specs.Choice.{pick}
use Rattle.errors.specs.declared.Fault.{Fault}
use Rattle.errors.specs.declared.Fault.TheVariants.{NoCard, ShortResponse}
use Rattle.framing.specs.Valid.{both_left}
use Rattle.protocol.specs.Scripts.{done, type1, uid_and_ats, nothing, refused, refused_after}
use Rattle.stages.specs.Stages.{Decision, send, keep, next, put, pause, ends, refuse, with_length}
use Rattle.stages.specs.Decided.{decision_in, Lays, DecisionRefines}
use Rattle.stages.specs.declared.Decision as code
use Rattle.stages.specs.declared.Decision.TheVariants.{Refused}
use Rattle.stages.specs.declared.Layout.{Layout}
use Rattle.discovery.specs.Decisions.{tx_control_read, polled, type_f_decision, poll_of, so_far_limit, so_far, last_code, has_next_of, code_finished, poll_failure, poll_decision}
use Rattle.protocol.specs.Names.{field_pause_time, idm_and_pmm, listed_idm_offset, pmm_end, one_target, card_mark, sensf_req_code, system_code_request, one_time_slot, tx_rf_en}
use Rattle.discovery.specs.Kinds.{rf_on_stage, poll_stage}

-- ---- what the finished codes add

module _ (cursor : ℕ) (found : List ℕ) where
  pub none_yet : cursor ≡ 0 → [] ≡ so_far cursor found
  unfolding so_far pick
  none_yet h = rw h

  pub all_found : (cursor ≡ 0 → ⊥) → length found ≤ so_far_limit → found ≡ so_far cursor found
  unfolding so_far pick
  all_found h few = rw (ne_eqb cursor 0 h) (sym (take_all so_far_limit found few))

  pub most-found : (cursor ≡ 0 → ⊥) → take so_far_limit found ≡ so_far cursor found
  unfolding so_far pick
  most-found h = rw (ne_eqb cursor 0 h)

  pub least_found : (n : ℕ) → (cursor ≡ 0 → ⊥) → n ≡ min (length found) so_far_limit → take n found ≡ so_far cursor found
  least_found n h e = rw (e, min_comm (length found) so_far_limit, take_min so_far_limit found) (most-found h)

pub lays_so_far : (f b : List ℕ) (l : Layout) (k : ℕ) (s x : List ℕ) → take k f ≡ s → Lays f b l (take k f ++ x) → Lays f b l (s ++ x)
lays_so_far f b l k s x e h = rw (← e) h

-- ---- the codes of the list

pub next_within : (cursor : ℕ) (pending : List ℕ) → has_next_of cursor pending ≡ true → cursor < last_code
unfolding has_next_of
next_within cursor pending h = ltb-true cursor last_code (both_left (ltb cursor last_code) _ h)

-- the poll, of its bytes
pub poll_bytes : (cursor : ℕ) (pending : List ℕ) (code high low : ℕ) → code ≡ get_or pending 0 0 → high ≡ get_or pending (2 * cursor + 1) 0
    → low ≡ get_or pending (2 * cursor + 2) 0 → high < 256 → low < 256
    → one_target ∷ code ∷ sensf_req_code ∷ high ∷ low ∷ system_code_request ∷ one_time_slot ∷ [] ≡ poll_of cursor pending
poll_bytes cursor pending code high low p q r h l =
    let n : ℕ = 256 * get_or pending (2 * cursor + 1) 0 + get_or pending (2 * cursor + 2) 0 in
    let is : n ≡ 256 * high + low = rw (← q, ← r) refl in
    let x : high ≡ n / 256 = rw is (omega arith) in
    let y : low ≡ n % 256 = rw is (omega arith) in
    λ i. one_target ∷ p i ∷ sensf_req_code ∷ x i ∷ y i ∷ system_code_request ∷ one_time_slot ∷ []

-- ---- where Type F ends with bytes, they are those of the response from byte 4 on, and IDm and PMm are among them

-- the bytes of an answer, none of any other decision
abbrev HasBytes : Decision → List ℕ → Type 0
HasBytes (send n) l = ⊥
HasBytes (keep n k) l = ⊥
HasBytes (next n c k) l = ⊥
HasBytes (put n k) l = ⊥
HasBytes (pause us n) l = ⊥
HasBytes (ends (done bytes)) l = bytes ≡ l
HasBytes (ends (type1 bytes)) l = ⊥
HasBytes (ends (uid_and_ats bytes uid ats)) l = ⊥
HasBytes (ends nothing) l = ⊥
HasBytes (ends (refused fault)) l = ⊥
HasBytes (ends (refused_after fault n)) l = ⊥

type_f_done : (stage : ℕ) (bs l : List ℕ) → HasBytes (type_f_decision stage bs) l → (drop listed_idm_offset bs ≡ l) × (pmm_end ≤ length bs)
unfolding type_f_decision tx_control_read polled with_length pick
type_f_done stage bs l = go (eqb stage 0) (eqb stage 1)
  where
    on : (t u : Bool) → HasBytes (pick t (refuse ShortResponse) (pick u (send rf_on_stage) (send poll_stage))) l → (drop listed_idm_offset bs ≡ l) × (pmm_end ≤ length bs)
    on true u h = absurd h
    on false true h = absurd h
    on false false h = absurd h

    met : (t u v : Bool) → ltb (length bs) pmm_end ≡ v
        → HasBytes (pick t (refuse NoCard) (pick u (refuse ShortResponse) (pick v (refuse ShortResponse) (ends (done (drop listed_idm_offset bs)))))) l → (drop listed_idm_offset bs ≡ l) × (pmm_end ≤ length bs)
    met true u v e h = absurd h
    met false true v e h = absurd h
    met false false true e h = absurd h
    met false false false e h = (h, ltb-false (length bs) pmm_end e)

    go : (t u : Bool) → HasBytes (pick t (tx_control_read bs) (pick u (pause field_pause_time poll_stage) (polled bs))) l → (drop listed_idm_offset bs ≡ l) × (pmm_end ≤ length bs)
    go true u h = on (ltb (length bs) 1) (eqb (get_or bs 0 0 % tx_rf_en) 0) h
    go false true h = absurd h
    go false false h = met (eqb (get_or bs 0 0) 0) (ltb (length bs) 2) (ltb (length bs) pmm_end) refl h

with_bytes_lem : (d : Decision) (l : List ℕ) → ends (done l) ≡ d → HasBytes d l
with_bytes_lem d l e = rw (← e) refl

-- what the code decides, where d is what Type F's function gave
module _ (f b pending : List ℕ) (r d : code.Decision) (stage cursor : ℕ) (given : DecisionRefines f b d (type_f_decision stage b)) where
  pub poll-done : (bytes : List ℕ) → decision_in f b d ≡ ends (done bytes) → (pmm_end ≤ length b → DecisionRefines f b r (code_finished cursor pending f (card_mark ∷ take idm_and_pmm (drop 4 b))))
      → DecisionRefines f b r (poll_decision stage cursor pending f b)
  unfolding poll_decision
  poll-done bytes e k =
      let is : ends (done bytes) ≡ type_f_decision stage b = sym e ∙ given.is in
      let m = type_f_done stage b bytes (with_bytes_lem _ _ is) in
      rw (← is, ← m.0) (k m.1)

  pub poll_refused : (fault : Fault) → d ≡ Refused fault → DecisionRefines f b r (poll_failure cursor pending f fault) → DecisionRefines f b r (poll_decision stage cursor pending f b)
  unfolding poll_decision
  poll_refused fault e k = let is : refuse fault ≡ type_f_decision stage b = ap (decision_in f b) (sym e) ∙ given.is in rw (← is) k
