-- What is decided upon a command's end, and what the arm for all other decisions knows.
use Rattle.std.specs.Prelude.{◌≡◌, ℕ, ◌≤◌, List, [], length, Result, Ok, Err}
use Rattle.std.proofs.Common.{Bor}
use Rattle.std.specs.Result.{result_unwrap_or}
use mathlib.Core.Path.{refl, sym, ap, ◌∙◌, subst}
use native.Mathlib.Omega.{arith}
use Rattle.errors.specs.declared.Fault.{Fault}
use Rattle.exchange.specs.Packets.{Reply, response, failed, reply_of}
use Rattle.protocol.specs.Session.{packet_limit}
use Rattle.stages.specs.Decided.{DecisionRefines, response_limit}
use Rattle.stages.specs.declared.Decision.{Decision}
use Rattle.stages.specs.declared.Layout.{Layout}
use Rattle.stages.specs.declared.Decision.TheVariants.{Send, Keep, Next, Put, Pause, Done, Part, Type1, UidAndAts, Nothing, Refused, RefusedAfter}
use Rattle.engine.specs.Core.{Arrays, found_of, reply_decision}
use Rattle.engine.specs.Transitions.{end_transition, reply_transition, reply_length}
use Rattle.engine.specs.Ends.{reply_in, GoesOn}
use Rattle.engine.specs.declared.call.End.{End}
use Rattle.engine.specs.declared.call.End.TheVariants.{ResetDone, Arrived, Failed}
use Rattle.engine.specs.declared.running.Core.{Core}

-- the bytes of a response are within their limit
abbrev bytes_in : Reply → List ℕ
bytes_in (response bytes) = bytes
bytes_in (failed r) = []

few_in : (r : Reply) → reply_length (reply_transition r) ≤ packet_limit → length (bytes_in r) ≤ response_limit
few_in (response bytes) h = omega (arith, h)
few_in (failed r) h = omega arith

few_at : (code : ℕ) (packet : List ℕ) (e : End) → reply_length (end_transition code packet e) ≤ packet_limit → length (bytes_in (reply_in code packet e)) ≤ response_limit
few_at code packet ResetDone h = omega arith
few_at code packet Arrived h = few_in (reply_of code packet) h
few_at code packet (Failed r) h = omega arith

-- what is decided upon the reply, beside the bytes of its response, of which a fault has none
pub record Decided (s : Core) (f : Arrays) (reply : Reply) (bytes : List ℕ) (d : Decision) : Type 0 where
  pub few : length bytes ≤ response_limit
  pub refines : DecisionRefines (found_of s f) bytes d (reply_decision s f reply)

module _ (s : Core) (f : Arrays) (code : ℕ) (packet : List ℕ) (e : End) (d : Decision) where
  pub upon_response : (bytes : List ℕ) → response bytes ≡ reply_in code packet e → reply_length (end_transition code packet e) ≤ packet_limit
      → DecisionRefines (found_of s f) bytes d (reply_decision s f (response bytes)) → Decided s f (reply_in code packet e) bytes d
  upon_response bytes q short h =
      let n : length (bytes_in (response bytes)) ≤ response_limit = subst (λ r. length (bytes_in r) ≤ response_limit) (sym q) (few_at code packet e short) in
      rw (← q) (record { few = n; refines = h })

  pub upon_fault : (fault : Fault) → failed fault ≡ reply_in code packet e → ((b : List ℕ) → DecisionRefines (found_of s f) b d (reply_decision s f (failed fault)))
      → Decided s f (reply_in code packet e) [] d
  upon_fault fault q h = rw (← q) (record { few = omega arith; refines = h [] })

-- the bytes of a response, and none of a fault
pub answered : (r : Result (Bor (List ℕ)) Fault) (none part bytes : Bor (List ℕ)) → r ≡ Ok part → bytes ≡ result_unwrap_or r none → bytes.now ≡ part.now
answered r none part bytes p q = ap (λ x. x.now) (q ∙ ap (λ y. result_unwrap_or y none) p)

pub unanswered : (r : Result (Bor (List ℕ)) Fault) (none bytes : Bor (List ℕ)) (fault : Fault) → r ≡ Err fault → bytes ≡ result_unwrap_or r none → none.now ≡ [] → bytes.now ≡ []
unanswered r none bytes fault p q empty = ap (λ x. x.now) (q ∙ ap (λ y. result_unwrap_or y none) p) ∙ empty

-- the call goes on, and it ends
pub goes_on : (d : Decision) → ((l : Layout) → d ≡ Done l → ⊥) → ((start n : ℕ) → d ≡ Part start n → ⊥) → ((l : Layout) → d ≡ Type1 l → ⊥)
    → ((l : Layout) (uid ats : ℕ) → d ≡ UidAndAts l uid ats → ⊥) → (d ≡ Nothing → ⊥) → ((r : Fault) → d ≡ Refused r → ⊥)
    → ((r : Fault) (n : ℕ) → d ≡ RefusedAfter r n → ⊥) → GoesOn d
goes_on (Send n) h1 h2 h3 h4 h5 h6 h7 = tt
goes_on (Keep n l) h1 h2 h3 h4 h5 h6 h7 = tt
goes_on (Next n c l) h1 h2 h3 h4 h5 h6 h7 = tt
goes_on (Put n x) h1 h2 h3 h4 h5 h6 h7 = tt
goes_on (Pause us n) h1 h2 h3 h4 h5 h6 h7 = tt
goes_on (Done l) h1 h2 h3 h4 h5 h6 h7 = absurd (h1 l refl)
goes_on (Part s n) h1 h2 h3 h4 h5 h6 h7 = absurd (h2 s n refl)
goes_on (Type1 l) h1 h2 h3 h4 h5 h6 h7 = absurd (h3 l refl)
goes_on (UidAndAts l uid ats) h1 h2 h3 h4 h5 h6 h7 = absurd (h4 l uid ats refl)
goes_on Nothing h1 h2 h3 h4 h5 h6 h7 = absurd (h5 refl)
goes_on (Refused r) h1 h2 h3 h4 h5 h6 h7 = absurd (h6 r refl)
goes_on (RefusedAfter r n) h1 h2 h3 h4 h5 h6 h7 = absurd (h7 r n refl)

pub does_not_go_on : {A : Type 0} (d : Decision) → ((n : ℕ) → d ≡ Send n → ⊥) → ((n : ℕ) (l : Layout) → d ≡ Keep n l → ⊥)
    → ((n c : ℕ) (l : Layout) → d ≡ Next n c l → ⊥) → ((n : ℕ) (x : List ℕ) → d ≡ Put n x → ⊥) → ((us n : ℕ) → d ≡ Pause us n → ⊥) → GoesOn d → A
does_not_go_on (Send n) h1 h2 h3 h4 h5 g = absurd (h1 n refl)
does_not_go_on (Keep n l) h1 h2 h3 h4 h5 g = absurd (h2 n l refl)
does_not_go_on (Next n c l) h1 h2 h3 h4 h5 g = absurd (h3 n c l refl)
does_not_go_on (Put n x) h1 h2 h3 h4 h5 g = absurd (h4 n x refl)
does_not_go_on (Pause us n) h1 h2 h3 h4 h5 g = absurd (h5 us n refl)
does_not_go_on (Done l) h1 h2 h3 h4 h5 g = absurd g
does_not_go_on (Part s n) h1 h2 h3 h4 h5 g = absurd g
does_not_go_on (Type1 l) h1 h2 h3 h4 h5 g = absurd g
does_not_go_on (UidAndAts l uid ats) h1 h2 h3 h4 h5 g = absurd g
does_not_go_on Nothing h1 h2 h3 h4 h5 g = absurd g
does_not_go_on (Refused r) h1 h2 h3 h4 h5 g = absurd g
does_not_go_on (RefusedAfter r n) h1 h2 h3 h4 h5 g = absurd g
