-- What the functions answer. That `is_rate` and `send_part_of` take exactly the texts of `Form` is proved in `proofs/Exact`.
use Rattle.std.specs.Prelude.{Bool, cond, ◌&&◌, ◌||◌, List, [], ◌∷◌, ◌++◌, ◌≡◌, ℕ, ◌+◌, ◌-◌, ◌*◌, ◌≤◌, leb, eqb, length, take, drop, get_or, Result, Ok, Err}
use Rattle.std.proofs.Math.Option.{Option, none, some}
use Prim.Native.Char.{code}
use Prim.Native.String.{String, [] as empty, ◌∷◌ as ◌then◌}
use Rattle.errors.specs.Choice.{same}
use Rattle.errors.specs.declared.Numbered.{Numbered}
use Rattle.errors.specs.declared.Refusal.{Refusal}
use Rattle.errors.specs.declared.Refusal.TheVariants.{Bitrate as BadBitrate}
use Rattle.errors.specs.Refusals.{Returned, answered, refused, numbered}
use Rattle.targets.specs.declared.Bitrate.{Bitrate}
use Rattle.targets.specs.declared.Bitrate.TheVariants.{B106A, B212F, B424F, B106B, B212B, B424B, B848B, Other}
use Rattle.targets.specs.Form.{Rate, all_digits, is_capital, is_digit}

-- One rate, as a test: at least two bytes, all digits but the last, and that a capital letter.
unfoldable pub is_rate : List ℕ → Bool
is_rate t = leb 2 (length t) && all_digits (take (length t - 1) t) && is_capital (get_or t (length t - 1) 0)

-- The length of the send part: the bytes before the first `/` (47), or all where there is none.
unfoldable pub send_length : List ℕ → ℕ
send_length [] = 0
send_length (b ∷ bs) = cond (eqb b 47) 0 (send_length bs + 1)

-- A bitrate: the send part is a rate, and it is the whole text or what stands behind the `/` is a rate.
unfoldable pub is_bitrate : List ℕ → Bool
is_bitrate t = is_rate (take (send_length t) t) && (eqb (send_length t) (length t) || is_rate (drop (send_length t + 1) t))

-- The length of the send part, or refusal 5.
unfoldable pub send_part_of : List ℕ → Returned
send_part_of t = cond (is_bitrate t) (answered (send_length t)) (refused (numbered BadBitrate))

-- The bytes of a text in quotes.
abbrev pub ascii : String → List ℕ
ascii empty = []
ascii (c then s) = code c ∷ ascii s

-- The number that three digits write; 0 where one is no digit.
unfoldable pub rate_number : ℕ → ℕ → ℕ → ℕ
rate_number a b c = cond (is_digit a && (is_digit b && is_digit c)) (100 * (a - 48) + 10 * (b - 48) + (c - 48)) 0

-- The code of a send part, by its text.
unfoldable pub code_of : List ℕ → Bitrate
code_of s =
    cond (same s (ascii "106A")) B106A
    (cond (same s (ascii "212F")) B212F
    (cond (same s (ascii "424F")) B424F
    (cond (same s (ascii "106B")) B106B
    (cond (same s (ascii "212B")) B212B
    (cond (same s (ascii "424B")) B424B
    (cond (same s (ascii "848B")) B848B
    Other))))))

-- The code of the send part, or refusal 5.
pub data Choice : Type 0 where
  chosen : Bitrate → Choice
  no_code_of : Numbered → Choice

abbrev pub coded : Result Bitrate Refusal → Choice
coded (Ok b) = chosen b
coded (Err e) = no_code_of (numbered e)

abbrev pub choice_on : List ℕ → Returned → Choice
choice_on t (answered n) = chosen (code_of (take n t))
choice_on t (refused k) = no_code_of k

unfoldable pub choice_of : List ℕ → Choice
choice_of t = choice_on t (send_part_of t)

-- What follows a bitrate, and the chip's code of one: `r` where there is none.
abbrev pub by_bitrate : {S : Type 0} → S → Choice → (Bitrate → S) → S
by_bitrate r (chosen b) f = f b
by_bitrate r (no_code_of e) f = r

abbrev pub by_code_of : {S : Type 0} → S → Option ℕ → (ℕ → S) → S
by_code_of r none f = r
by_code_of r (some code) f = f code

-- the code by which a call names a text's bitrate to the chip: `takes` has those of the bitrates that it takes
abbrev pub code_or : {S : Type 0} → S → (Bitrate → Option ℕ) → List ℕ → (ℕ → S) → S
code_or r takes text f = by_bitrate r (choice_of text) (λ b. by_code_of r (takes b) f)

-- `rate_length`: the rate that a text starts with has n bytes; or it starts with none.
pub record StartsWithRate (t : List ℕ) (n : ℕ) : Type 0 where
  pub rated : Rate (take n t)
  pub within : n ≤ length t
  pub only : (s u : List ℕ) → Rate s → t ≡ s ++ u → length s ≡ n

abbrev pub NoRate : List ℕ → Type 0
NoRate t = (s u : List ℕ) → Rate s → t ≡ s ++ u → ⊥
