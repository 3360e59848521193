-- Runs of the stepper, and the frames that they come by.
use Rattle.std.specs.Prelude.{List, [], ◌∷◌, ◌++◌, ◌≡◌, ℕ, zero, suc, ◌+◌, ◌≤◌, ◌<◌, length, Option, Some, None, Ok, Err}
use Rattle.errors.specs.Refusals.{refused, plain}
use Rattle.framing.specs.Build.{Left, left, build_of}
use Rattle.framing.specs.Frames.{frame_of}
use Rattle.framing.specs.Settings.{setting_of}
use Rattle.framing.specs.declared.FrameFormat.{FrameFormat}
use Rattle.bench.specs.Hex.{digits_of_lem}
use Rattle.bench.specs.Texts.{over}
use Rattle.acceptance.specs.Order.{payload_bytes, step_from, End, Reached, Refused}
use Rattle.acceptance.specs.declared.Entry.{Entry}
use Rattle.acceptance.specs.declared.lines.Block.{Block}
use Rattle.bench.specs.Lines.{feed}

-- a step more; an end stays the end
unfoldable pub stepped_on : Reached → Reached
stepped_on (Ok (Some e)) = step_from e
stepped_on (Ok None) = End
stepped_on (Err r) = Refused r

-- n steps
unfoldable pub run_from : ℕ → Reached → Reached
run_from zero s = s
run_from (suc n) s = stepped_on (run_from n s)

-- a setting, or what is said of none
abbrev pub by_setting : {A : Type 0} → (FrameFormat → A) → A → Option FrameFormat → A
by_setting f a (Some x) = f x
by_setting f a None = a

-- what building an entry's frame answers and leaves in the buffer
unfoldable pub entry_built : Entry → List ℕ → Left
entry_built e b = by_setting (λ f. build_of f (payload_bytes e.payload) b) (left (refused (plain 1)) b) (setting_of e.setting)

-- an entry's frame; none of an entry of no setting
unfoldable pub frame_at : Entry → List (List ℕ)
frame_at e = by_setting (λ f. frame_of f.length (payload_bytes e.payload) ∷ []) [] (setting_of e.setting)

unfoldable pub frame_in : Reached → List (List ℕ)
frame_in (Ok (Some e)) = frame_at e
frame_in (Ok None) = []
frame_in (Err r) = []

-- the frames that a run of n steps comes by, the n-th step's own not among them
unfoldable pub frames_from : ℕ → Reached → List (List ℕ)
frames_from zero s = []
frames_from (suc n) s = frames_from n s ++ frame_in (run_from n s)

-- frames as text: each in upper-case hex, with a line feed behind it
unfoldable pub text_lines : List (List ℕ) → List ℕ
text_lines [] = []
text_lines (f ∷ fs) = digits_of_lem f ++ (feed ∷ text_lines fs)

-- whether a step leads to an entry: 1, or 0
abbrev pub on_entry : Reached → ℕ
on_entry (Ok (Some e)) = 1
on_entry (Ok None) = 0
on_entry (Err r) = 0

-- no line of a short payload is longer: 12 bytes in hex, and a line feed
abbrev pub longest_line : ℕ
longest_line = 25

-- What `put_lines` hands out of the step s and leaves in a buffer that had the bytes b: at its start the lines of as many steps as it counts.
-- Each of them leads to an entry, and the next one has no room or is none.
pub record Filled (s : Reached) (b : List ℕ) (r : Block) (after : List ℕ) : Type 0 where
  pub step : r.step ≡ run_from r.count s
  pub len : r.len ≡ length (text_lines (frames_from r.count s))
  pub text : after ≡ over 0 (text_lines (frames_from r.count s)) b
  pub inside : r.len ≤ length b
  pub counted : (k : ℕ) → k < r.count → on_entry (run_from k s) ≡ 1
  pub full : on_entry r.step ≡ 1 → length b < r.len + longest_line
