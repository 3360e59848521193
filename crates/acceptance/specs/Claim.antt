-- What is claimed of the list, of each setting and of all six.
use Rattle.std.specs.Prelude.{List, [], ◌++◌, ◌≡◌, ℕ, zero, suc, ◌≤◌, ◌<◌, length, take, get_or}
use Rattle.framing.specs.Build.{build_of, put_frame}
use Rattle.framing.specs.Frames.{frame_of}
use Rattle.framing.specs.Lists.{Bytes}
use Rattle.framing.specs.declared.FrameFormat.{FrameFormat}
use Rattle.acceptance.specs.Order.{Before, payloads, entry_count, payload_number_in, payload_at, entry_with, entry_at, first_entry, At, End, Reached}
use Rattle.acceptance.specs.Steps.{run_from, frames_from, on_entry, Filled}
use Rattle.acceptance.specs.declared.lines.Block.{Block}

-- the payloads that are meant: 0, 1 or 2 bytes
abbrev pub Short : List ℕ → Type 0
Short p = (length p ≤ 2) × Bytes p

-- the numbers of short payloads go by the order
abbrev pub InOrder : Type 0
InOrder = (p q : List ℕ) → Short p → Short q → (payload_number_in p < payload_number_in q → Before p q) × (Before p q → payload_number_in p < payload_number_in q)

-- the stepper's first entry
abbrev pub start : Reached
start = At (first_entry 0)

-- the frames that the stepper comes by from a setting's first entry on
unfoldable pub setting_frames : ℕ → List (List ℕ)
setting_frames s = frames_from payloads (At (first_entry s))

-- the n-th of them is the frame of the short payload whose number is n
pub record Listed (s : ℕ) (f : FrameFormat) (n : ℕ) : Type 0 where
  pub payload : List ℕ
  pub short : Short payload
  pub number : payload_number_in payload ≡ n
  pub frame : get_or (setting_frames s) n [] ≡ frame_of f.length payload

-- a setting's list
pub record AllShortFrames (s : ℕ) (f : FrameFormat) : Type 0 where
  -- n steps from the setting's first entry lead to the payload whose number is n
  pub steps : (n : ℕ) → n < payloads → run_from n (At (first_entry s)) ≡ At (entry_with s (payload_at n))
  pub count : length (setting_frames s) ≡ payloads
  -- each line is the frame of a short payload
  pub only : (n : ℕ) → n < payloads → Listed s f n
  -- what building gives for a short payload is listed, at the payload's number
  pub all : (p : List ℕ) → Short p → (payload_number_in p < payloads) × ((b : List ℕ) → build_of f p b ≡ put_frame (get_or (setting_frames s) (payload_number_in p) []) b)
  -- none repeats
  pub once : (m n : ℕ) → m < payloads → n < payloads → get_or (setting_frames s) m [] ≡ get_or (setting_frames s) n [] → m ≡ n

-- the frames of the first k settings, one setting behind the other
unfoldable pub settings_frames : ℕ → List (List ℕ)
settings_frames zero = []
settings_frames (suc k) = settings_frames k ++ setting_frames k

-- The whole run: n steps from the start lead to the n-th entry, and behind the last one the run is at its end.
pub record WholeList : Type 0 where
  pub reached : (n : ℕ) → n < entry_count → run_from n start ≡ At (entry_at n)
  pub end : run_from entry_count start ≡ End
  pub settings : frames_from entry_count start ≡ settings_frames 6
  pub total : length (frames_from entry_count start) ≡ entry_count

-- What a program prints that fills a buffer again and again, writes the part that was filled, and ends where no entry is left.
pub data Prints : Reached → List ℕ → Type 0 where
  nothing : {s : Reached} → on_entry s ≡ 0 → Prints s []
  block : {s : Reached} {t b after : List ℕ} {r : Block} → Filled s b r after → Prints r.step t → Prints s (take r.len after ++ t)
