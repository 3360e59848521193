-- The same of a machine that simulates the definitions, from states that stand for one session.
use Rattle.std.specs.Prelude.{◌≡◌, refl, List, [], ◌∷◌, map, ℕ}
use Rattle.std.proofs.Common.{sym, ap, ap₂, ◌∙◌, subst}
use Rattle.protocol.specs.Scripts.{Byte}
use Rattle.protocol.specs.Calls.{Call}
use Rattle.protocol.specs.Session.{Session, Output, orders, answers, rejects, outputs, session_after}
use Rattle.protocol.specs.Machine.{output_values, plain_answer, Machine, state_after, entries}
use Rattle.protocol.proofs.Machine.{same_out, still_represents}
use Rattle.protocol.specs.Runs.{EventAndRoom, call_entries, lines_from, cons_if, write_of, answers_in, writes_in}
use Rattle.protocol.specs.Chatter.{waits, Alike, SameFor}
use Rattle.protocol.proofs.ChatterSame.{chatter_same}
use Rattle.protocol.specs.ChatterMachine.{SameFrom}

plain_answers : (outs : List (Output Byte)) → answers_in (map output_values outs) ≡ map plain_answer (answers_in outs)
plain_answers [] = refl
plain_answers (orders x ∷ outs) = plain_answers outs
plain_answers (answers a ∷ outs) = ap (λ others. plain_answer a ∷ others) (plain_answers outs)
plain_answers (rejects r ∷ outs) = plain_answers outs

plain_write : (out : Output Byte) → write_of (output_values out) ≡ write_of out
plain_write (orders x) = refl
plain_write (answers a) = refl
plain_write (rejects r) = refl

plain-writes : (outs : List (Output Byte)) → writes_in (map output_values outs) ≡ writes_in outs
plain-writes [] = refl
plain-writes (out ∷ outs) = ap₂ cons_if (plain_write out) (plain-writes outs)

module _ (M : Machine) where
  same_from : (s t : M.State) (m : Session) → M.Represents s m → M.Represents t m → (is js : List M.Input) → SameFor m (entries M is) (entries M js) → SameFrom M s t is js
  same_from s t m h k is js e =
      let n : Session = session_after m (entries M is) in
      let p : M.Represents (state_after M s is) n = still_represents M s m h is in
      let q : M.Represents (state_after M t js) n = subst (λ r. M.Represents (state_after M t js) r) (sym e.after) (still_represents M t m k js) in
      record {
        result =
            ap answers_in (same_out M s m h is) ∙ plain_answers (outputs m (entries M is))
            ∙ ap (map plain_answer) e.result
            ∙ sym (plain_answers (outputs m (entries M js))) ∙ sym (ap answers_in (same_out M t m k js));
        written =
            ap writes_in (same_out M s m h is) ∙ plain-writes (outputs m (entries M is))
            ∙ e.written
            ∙ sym (plain-writes (outputs m (entries M js))) ∙ sym (ap writes_in (same_out M t m k js));
        counted = M.counts (state_after M s is) n p ∙ sym (M.counts (state_after M t js) n q);
        after = (n, p, q);
        later = λ ks. same_out M (state_after M s is) n p ks ∙ sym (same_out M (state_after M t js) n q ks);
      }

  pub machine_chatter : (s t : M.State) (m : Session) → M.Represents s m → M.Represents t m → (caller : ℕ) (c : Call) (room : ℕ) (es ds : List EventAndRoom) (is js : List M.Input)
      → entries M is ≡ call_entries caller c room es → entries M js ≡ call_entries caller c room ds
      → Alike waits (lines_from m caller c room es) (lines_from m caller c room ds) → SameFrom M s t is js
  machine_chatter s t m h k caller c room es ds is js p q a = same_from s t m h k is js (rw (p, q) (chatter_same m caller c room es ds a))
