-- A machine that simulates the session of the definitions gives out the same, and so has demand 3.
use Rattle.std.specs.Prelude.{◌≡◌, refl, List, [], ◌∷◌, map, ℕ}
use Rattle.std.proofs.Common.{ap₂}
use Rattle.protocol.specs.Session.{Session, fresh, Output, step, outputs, session_after}
use Rattle.protocol.proofs.Demand3.{demand3}
use Rattle.protocol.specs.Machine.{output_values, Machine, given_out, state_after, entries, Obeys}

module _ (M : Machine) where
  pub same_out : (s : M.State) (m : Session) → M.Represents s m → (is : List M.Input) → given_out M s is ≡ map output_values (outputs m (entries M is))
  same_out s m h [] = refl
  same_out s m h (i ∷ is) =
      let f = M.simulates s m i h in
      ap₂ (λ (x : Output ℕ) (xs : List (Output ℕ)). x ∷ xs) f.1 (same_out (M.act s i).state (step m (M.entry i)).state f.0 is)

  pub still_represents : (s : M.State) (m : Session) → M.Represents s m → (is : List M.Input) → M.Represents (state_after M s is) (session_after m (entries M is))
  still_represents s m h [] = h
  still_represents s m h (i ∷ is) = still_represents (M.act s i).state (step m (M.entry i)).state (M.simulates s m i h).0 is

  pub same-given : (is : List M.Input) → given_out M M.new is ≡ map output_values (outputs fresh (entries M is))
  same-given is = same_out M.new fresh M.begins is

  pub same-counts : (is : List M.Input) → M.frames (state_after M M.new is) ≡ (session_after fresh (entries M is)).books.counts
  same-counts is = M.counts (state_after M M.new is) (session_after fresh (entries M is)) (still_represents M.new fresh M.begins is)

  pub obeys : (is : List M.Input) → Obeys M is
  obeys is = record { same = same-given is; demand = rw (same-counts is) (demand3 (entries M is)) }
