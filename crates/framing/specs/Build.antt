-- What `build` answers and leaves in the buffer: refusal 3 before 2, nothing written; else the frame at the buffer's start.
use Rattle.std.specs.Prelude.{ℕ, ◌+◌, min, List, ◌++◌, length, take, drop, nat_lt, Result, Ok, Err}
use Rattle.errors.specs.Refusals.{Returned, answered, refused, plain}
use Rattle.errors.specs.declared.Refusal.{Refusal}
use Rattle.errors.specs.declared.Refusal.TheVariants.{OverLong, ShortBuffer}
use Rattle.framing.specs.Frames.{frame_of, data_start_of, longest}
use Rattle.errors.specs.Choice.{pick}
use Rattle.framing.specs.Names.{ending_size}
use Rattle.framing.specs.declared.FrameFormat.{FrameFormat}
use Rattle.framing.specs.declared.LengthEncoding.{LengthEncoding}

-- the longest payload under a format: its limit, as far as its length form reaches
unfoldable pub limit_of : FrameFormat → ℕ
limit_of f = min f.limit (longest f.length)

-- what was returned, and the buffer after it
pub record Left : Type 0 where
  pub result : Returned
  pub buffer : List ℕ

abbrev pub left : Returned → List ℕ → Left
left o b = record { result = o; buffer = b }

unfoldable pub put_frame : List ℕ → List ℕ → Left
put_frame frame b = pick (nat_lt (length b) (length frame)) (left (refused (plain 2)) b) (left (answered (length frame)) (frame ++ drop (length frame) b))

unfoldable pub build_of : FrameFormat → List ℕ → List ℕ → Left
build_of f payload b = pick (nat_lt (limit_of f) (length payload)) (left (refused (plain 3)) b) (put_frame (frame_of f.length payload) b)

-- head and ending put around the n bytes that stand at their place in the buffer b
unfoldable pub enclosed : LengthEncoding → ℕ → List ℕ → List ℕ
enclosed e n b = frame_of e (take n (drop (data_start_of e n) b)) ++ drop (data_start_of e n + n + ending_size) b

-- where the payload is put, or why not
unfoldable pub place_of : FrameFormat → ℕ → ℕ → Result ℕ Refusal
place_of f n room =
    pick (nat_lt (limit_of f) n) (Err OverLong)
    (pick (nat_lt room (data_start_of f.length n + n + ending_size)) (Err ShortBuffer) (Ok (data_start_of f.length n)))
