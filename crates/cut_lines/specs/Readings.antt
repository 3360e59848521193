-- The code's values in the terms of the definitions: the entries of a script, and the answer.
use Rattle.std.specs.Prelude.{◌≡◌, ℕ, ◌+◌, ◌<◌, ◌≤◌, Option as Found, Some, None, Result, Ok, Err, List, [], length, nat_lt, slice_index_or}
use Rattle.std.proofs.Math.Seq.{slice}
use Rattle.errors.specs.Choice.{pick}
use Rattle.bench_input.specs.Readings.{end_at, input_in}
use Rattle.bench_input.specs.declared.Input.{Input}
use Rattle.bench_input.specs.declared.Input.TheVariants.{Call, Event}
use Rattle.cut_script.specs.Answer.{CutAnswer, refused, from, over_long_number, no_refusal_number, line_count_limit}
use Rattle.cut_script.specs.ScriptLines.{place}
use Rattle.cut_script.specs.Bench.{is_feed, script_lines, line_says}
use Rattle.cut_lines.specs.declared.CutRefusal.{CutRefusal}
use Rattle.cut_lines.specs.declared.CutRefusal.TheVariants.{OverLong, NoRefusal}
use Rattle.cut_lines.specs.declared.entries.Entry.{Entry}

abbrev pub answer_in : Result ℕ CutRefusal → CutAnswer
answer_in (Ok p) = from p
answer_in (Err OverLong) = refused over_long_number
answer_in (Err NoRefusal) = refused no_refusal_number

-- how many bytes the byte strings of a line take
abbrev pub used_by : Found Input → ℕ
used_by (Some (Call number n e)) = end_at e 3
used_by (Some (Event number n)) = n
used_by None = 0

unfoldable pub behind_feed : ℕ → ℕ → ℕ
behind_feed stop len = pick (nat_lt stop len) (stop + 1) len

-- what stands behind a list's last entry
abbrev pub no_entry : Entry
no_entry = record { input = None; from = 0; to = 0 }

abbrev pub entry_at : List Entry → ℕ → Entry
entry_at es k = slice_index_or es k no_entry

-- the first n lines of the script s are read, the last of them up to the place `at`: what each says, by the bytes b, and where it begins
pub record LinesRead (s b : List ℕ) (es : List Entry) (n at : ℕ) : Type 0 where
  pub says : (k : ℕ) → k < n → input_in (slice (entry_at es k).from (entry_at es k).to b) (entry_at es k).input ≡ line_says (slice_index_or (script_lines s) k [])
  pub begins : (k : ℕ) → k < n → (entry_at es k).from ≡ place is_feed s k
  pub within : (k : ℕ) → k < n → (entry_at es k).to ≤ at

-- all n lines of the script are read
pub record AllRead (s b : List ℕ) (es : List Entry) (n : ℕ) : Type 0 where
  pub size : length es ≡ line_count_limit
  pub few : n ≤ line_count_limit
  pub count : n ≡ length (script_lines s)
  pub lines : LinesRead s b es n (length s)

-- all lines of the script are read, or there are too many
abbrev pub EntriesOf : List ℕ → List ℕ → List Entry → Found ℕ → Type 0
EntriesOf s b es (Some n) = AllRead s b es n
EntriesOf s b es None = line_count_limit < length (script_lines s)
