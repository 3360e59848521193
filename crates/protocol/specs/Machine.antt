-- A machine that simulates the session of the definitions gives out the same, and so has demand 3.
use Rattle.std.specs.Prelude.{◌≡◌, List, [], ◌∷◌, map, ℕ}
use Rattle.protocol.specs.Scripts.{Byte, value, Answer, done, type1, uid_and_ats, nothing, refused, refused_after}
use Rattle.protocol.specs.Session.{Session, fresh, Entry, Output, orders, answers, rejects, step, outputs, StepResult}
use Rattle.protocol.specs.Claim.{Demand3}

-- what is given out, its bytes without their places
abbrev pub plain_answer : Answer Byte → Answer ℕ
plain_answer (done bytes) = done (map value bytes)
plain_answer (type1 bytes) = type1 (map value bytes)
plain_answer (uid_and_ats bytes uid ats) = uid_and_ats (map value bytes) uid ats
plain_answer nothing = nothing
plain_answer (refused r) = refused r
plain_answer (refused_after r n) = refused_after r n

abbrev pub output_values : Output Byte → Output ℕ
output_values (orders x) = orders x
output_values (answers a) = answers (plain_answer a)
output_values (rejects r) = rejects r

-- `Represents s m`: the state s of the machine, such as the fields of a struct, stands for the session m of the definitions.
-- An input is a call or an event with all that it is lent; `entry` is what the list holds of it.
pub record Machine : Type 1 where
  pub State : Type 0
  pub Input : Type 0
  pub entry : Input → Entry
  pub new : State
  pub act : State → Input → StepResult State ℕ
  pub frames : State → List ℕ  -- the counts
  pub Represents : State → Session → Type 0
  pub begins : Represents new fresh
  pub counts : (s : State) (m : Session) → Represents s m → frames s ≡ m.books.counts
  pub simulates : (s : State) (m : Session) (i : Input) → Represents s m
      → Represents (act s i).state (step m (entry i)).state × ((act s i).output ≡ output_values (step m (entry i)).output)

module _ (M : Machine) where
  abbrev pub given_out : M.State → List M.Input → List (Output ℕ)
  given_out s [] = []
  given_out s (i ∷ is) = (M.act s i).output ∷ given_out (M.act s i).state is

  abbrev pub state_after : M.State → List M.Input → M.State
  state_after s [] = s
  state_after s (i ∷ is) = state_after (M.act s i).state is

  abbrev pub entries : List M.Input → List Entry
  entries is = map M.entry is

  -- demand 3 of the machine: what it gives out is what the definitions give out, places left out, and the counts are its own
  pub record Obeys (is : List M.Input) : Type 0 where
    pub same : given_out M.new is ≡ map output_values (outputs fresh (entries is))
    pub demand : Demand3 (entries is) (outputs fresh (entries is)) (M.frames (state_after M.new is))
