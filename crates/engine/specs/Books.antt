-- The reader's books, as books.rt has them in two arrays: their range, and what is booked of what comes out.
use Rattle.std.specs.Prelude.{ℕ, ◌+◌, Bool, List, [], ◌∷◌, length, nat_le, nat_lt, slice_index, slice_set}
use Rattle.errors.specs.Choice.{pick}
use Rattle.framing.specs.Lists.{both}
use Rattle.framing.specs.Padded.{extra_zeros_of}
use Rattle.protocol.specs.Calls.{is_padded_mode}
use Rattle.protocol.specs.Session.{packet_limit, last_caller, no_counts, ceiling}
use Rattle.engine.specs.declared.running.Output.{Output}
use Rattle.engine.specs.declared.running.Output.TheVariants.{Ack, Command, Read, Drain, Pause, Done, Type1, UidAndAts, Nothing, Failed, FailedAfter, Refused}

abbrev pub books_size : ℕ
books_size = 3

pub record Books : Type 0 where
  pub numbers : List ℕ  -- whether the reader is open, the mode, the caller
  pub frames : List ℕ  -- the counts, by caller

abbrev pub books_of : List ℕ → List ℕ → Books
books_of numbers frames = record { numbers = numbers; frames = frames }

abbrev pub books : ℕ → ℕ → ℕ → List ℕ → Books
books opened mode caller frames = books_of (opened ∷ mode ∷ caller ∷ []) frames

abbrev pub opened_in : Books → ℕ
opened_in b = slice_index b.numbers 0

abbrev pub mode_in : Books → ℕ
mode_in b = slice_index b.numbers 1

abbrev pub caller_in : Books → ℕ
caller_in b = slice_index b.numbers 2

abbrev pub no_books : ℕ → Books
no_books mode = books 0 mode 0 no_counts

abbrev pub books_in_range : ℕ → ℕ → ℕ → Bool
books_in_range opened mode caller = both (nat_le opened 1) (both (nat_le mode 1) (nat_le caller last_caller))

abbrev pub is_in_range : Books → Bool
is_in_range b = books_in_range (opened_in b) (mode_in b) (caller_in b)

-- how many bytes the mode takes off a packet's start: its extra zeros in the padded one, unless it is over-long
unfoldable pub extra_in : ℕ → List ℕ → ℕ
extra_in mode packet = pick (is_padded_mode mode) (pick (nat_lt packet_limit (length packet)) 0 (extra_zeros_of packet)) 0

-- one command frame more, up to the ceiling
unfoldable pub one_more_of : ℕ → ℕ
one_more_of n = pick (nat_lt n ceiling) (n + 1) n

-- the same, for the call of another caller
abbrev pub by_caller : ℕ → Books → Books
by_caller k b = books_of (slice_set b.numbers 2 k) b.frames

-- a command frame counts for a caller
abbrev pub counted_in : ℕ → List ℕ → List ℕ
counted_in k n = slice_set n k (one_more_of (slice_index n k))

abbrev pub frame_counted : ℕ → Books → Books
frame_counted k b = books_of b.numbers (counted_in k b.frames)

-- an opening that ends leaves the reader open or not; any other call leaves it as it was
unfoldable pub ended : Books → Bool → ℕ → Books
ended b is_opening opened = pick is_opening (books_of (slice_set b.numbers 0 opened) b.frames) b

-- a refusal at once leaves the books, the caller too
abbrev pub booked : ℕ → Bool → Output → Books → Books
booked k is_opening Ack b = by_caller k b
booked k is_opening (Command n) b = frame_counted k (by_caller k b)
booked k is_opening (Read ms) b = by_caller k b
booked k is_opening Drain b = by_caller k b
booked k is_opening (Pause us) b = by_caller k b
booked k is_opening (Done n) b = ended (by_caller k b) is_opening 1
booked k is_opening (Type1 n) b = ended (by_caller k b) is_opening 1
booked k is_opening (UidAndAts n uid ats) b = ended (by_caller k b) is_opening 1
booked k is_opening Nothing b = ended (by_caller k b) is_opening 0
booked k is_opening (Failed r) b = ended (by_caller k b) is_opening 0
booked k is_opening (FailedAfter r n) b = ended (by_caller k b) is_opening 0
booked k is_opening (Refused r) b = b
