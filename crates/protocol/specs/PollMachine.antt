-- A machine that simulates the definitions: from an open, idle state it gives out for the one call what it gives out for the single calls.
use Rattle.std.specs.Prelude.{◌≡◌, List, map, ℕ}
use Rattle.protocol.specs.Session.{Session, outputs}
use Rattle.protocol.specs.Machine.{output_values, Machine, given_out, state_after, entries}
use Rattle.protocol.specs.PollList.{run, Equal}

module _ (M : Machine) where
  -- of the inputs of the one call and of the single calls, from a state s that stands for the session m: what is given out is what the
  -- definitions give out, which is equal; and the machine's counts are equal
  pub record EqualFrom (n : ℕ) (s : M.State) (m : Session) (one many : List M.Input) : Type 0 where
    pub same_one : given_out M s one ≡ map output_values (outputs m (entries M one))
    pub same_many : given_out M s many ≡ map output_values (outputs m (entries M many))
    pub equal : Equal n (run m (entries M one)) (run m (entries M many))
    pub counts : M.frames (state_after M s one) ≡ M.frames (state_after M s many)
