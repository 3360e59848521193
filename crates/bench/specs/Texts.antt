-- A text put into a buffer, and a number as text. A text is the list of its bytes.
use Rattle.std.specs.Prelude.{◌≡◌, List, [], ◌∷◌, ◌++◌, ℕ, zero, suc, ◌+◌, ◌%◌, ◌/◌, ◌≤◌, ltb, length, take, drop}
use Rattle.errors.specs.Refusals.{answered, refused, plain}
use Rattle.errors.specs.Choice.{pick}
use Rattle.framing.specs.Build.{Left, left}

-- the buffer b with the text t from place `at` on
unfoldable pub over : ℕ → List ℕ → List ℕ → List ℕ
over at t b = take at b ++ (t ++ drop (at + length t) b)

-- the text at the buffer's start, or refusal 2 and nothing written
unfoldable pub put_of : List ℕ → List ℕ → Left
put_of t b = pick (ltb (length b) (length t)) (left (refused (plain 2)) b) (left (answered (length t)) (over 0 t b))

-- the place behind a text, and the buffer with it
pub record Placed : Type 0 where
  pub next : ℕ
  pub buffer : List ℕ

abbrev pub placed : ℕ → List ℕ → Placed
placed n b = record { next = n; buffer = b }

abbrev pub placed_at : ℕ → List ℕ → List ℕ → Placed
placed_at at t b = placed (at + length t) (over at t b)

-- the text t put from place `at` on; nothing is put where there is no room
unfoldable pub put_at : ℕ → List ℕ → List ℕ → Placed
put_at at t b = pick (ltb (length b) (at + length t)) (placed at b) (placed_at at t b)

-- where the buffer o has a text up to place `at`, o' has it with t behind it up to place r, if there is room
pub record Appends (at : ℕ) (t o : List ℕ) (r : ℕ) (o' : List ℕ) : Type 0 where
  pub behind : (s b : List ℕ) → placed at o ≡ placed_at 0 s b → length s + length t ≤ length b → placed r o' ≡ placed_at 0 (s ++ t) b

-- the decimal digits of a number below 10 ^ k, the highest first, with no zero before them
unfoldable pub decimal_under : ℕ → ℕ → List ℕ
decimal_under zero n = []
decimal_under (suc k) n = pick (ltb n 10) ((48 + n) ∷ []) (decimal_under k (n / 10) ++ ((48 + n % 10) ∷ []))

-- any number of 64 bits is below 10 ^ 20
unfoldable pub decimal_of : ℕ → List ℕ
decimal_of n = decimal_under 20 n
