-- A machine that simulates the definitions: from an open, idle state it gives out for the one call what it gives out for the single calls.
use Rattle.std.specs.Prelude.{◌≡◌, true, List, ℕ, length}
use Rattle.std.proofs.Common.{ap, sym, ◌∙◌}
use Rattle.protocol.specs.Arguments.{system_codes_fit, words_in}
use Rattle.protocol.specs.Session.{Books, session_after}
use Rattle.protocol.specs.Machine.{Machine, state_after, entries}
use Rattle.protocol.proofs.Machine.{same_out, still_represents}
use Rattle.protocol.specs.PollList.{one_call, single_calls, run, Equal}
use Rattle.protocol.specs.Runs.{EventAndRoom, idle_with}
use Rattle.protocol.proofs.PollEqual.{poll_equals_singles}
use Rattle.protocol.specs.PollMachine.{EqualFrom}

module _ (M : Machine) where
  pub machine_singles : (s : M.State) (b : Books) → M.Represents s (idle_with b) → b.opened ≡ true → (caller : ℕ) (text words : List ℕ) → system_codes_fit words ≡ true
      → (room : ℕ) (es : List EventAndRoom) (one many : List M.Input) → entries M one ≡ one_call caller text words room es → entries M many ≡ single_calls caller text words room es (idle_with b)
      → EqualFrom M (length (words_in words)) s (idle_with b) one many
  machine_singles s b represents isOpen caller text words fits room es one many e f =
      let q : Equal (length (words_in words)) (run (idle_with b) (entries M one)) (run (idle_with b) (entries M many)) =
      rw (e, f) (poll_equals_singles b isOpen caller text words fits room es) in
      record {
        same_one = same_out M s (idle_with b) represents one;
        same_many = same_out M s (idle_with b) represents many;
        equal = q;
        counts =
            M.counts (state_after M s one) (session_after (idle_with b) (entries M one)) (still_represents M s (idle_with b) represents one)
            ∙ (ap (λ (x : Books). x.counts) q.books
            ∙ sym (M.counts (state_after M s many) (session_after (idle_with b) (entries M many)) (still_represents M s (idle_with b) represents many)));
      }
