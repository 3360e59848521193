-- The theorems about the list: all short frames of each setting, in order, none twice; the whole list; what is printed.
use Rattle.std.specs.Prelude.{◌≡◌, List, [], ◌∷◌, ℕ, ◌-◌, ◌≤◌}
use Rattle.acceptance.specs.Claim.{start}
use Rattle.acceptance.specs.Order.{entry_count, Reached}
use Rattle.acceptance.specs.Steps.{run_from}
use Rattle.acceptance.specs.declared.Payload.{Payload}
use Rattle.acceptance.specs.declared.Payload.TheVariants.{Empty, One, Two}

-- ---- short payloads as lists of bytes

unfoldable pub payload_in : List ℕ → Payload
payload_in [] = Empty
payload_in (a ∷ []) = One a
payload_in (a ∷ b ∷ l) = Two a b

-- a program that has some entries left to print, and the next block
pub record OnWay (left : ℕ) (s : Reached) : Type 0 where
  pub few : left ≤ entry_count
  pub at : s ≡ run_from (entry_count - left) start
