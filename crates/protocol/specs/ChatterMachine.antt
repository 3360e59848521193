-- The same of a machine that simulates the definitions, from states that stand for one session.
use Rattle.std.specs.Prelude.{◌≡◌, List}
use Rattle.protocol.specs.Session.{Session}
use Rattle.protocol.specs.Machine.{Machine, given_out, state_after}
use Rattle.protocol.specs.Runs.{answers_in, writes_in}

module _ (M : Machine) where
  -- two lists of inputs, from two states. Afterwards both stand for one session, so that any further inputs give the same of both.
  pub record SameFrom (s t : M.State) (is js : List M.Input) : Type 0 where
    pub result : answers_in (given_out M s is) ≡ answers_in (given_out M t js)
    pub written : writes_in (given_out M s is) ≡ writes_in (given_out M t js)
    pub counted : M.frames (state_after M s is) ≡ M.frames (state_after M t js)
    pub after : (m : Session) × M.Represents (state_after M s is) m × M.Represents (state_after M t js) m
    pub later : (ks : List M.Input) → given_out M (state_after M s is) ks ≡ given_out M (state_after M t js) ks
