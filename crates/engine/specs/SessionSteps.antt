-- What each entry does to a session, field by field, and to the buffer: the contracts of state.rt and session.rt.
use Rattle.std.specs.Prelude.{ℕ, Bool, true, false, List, length, replicate, ◌==◌, nat_lt, slice_index}
use Rattle.errors.specs.Choice.{pick}
use Rattle.errors.specs.declared.Refusal.TheVariants.{OutOfTurn, ShortBuffer, BadArgument}
use Rattle.framing.specs.Lists.{both}
use Rattle.exchange.specs.Exchange.{Event}
use Rattle.protocol.specs.Calls.{is_padded_mode}
use Rattle.protocol.specs.Session.{seen, buffer_need, no_counts, last_caller}
use Rattle.protocol.specs.Starts.{data_limit}
use Rattle.stages.specs.Starts.{Start}
use Rattle.stages.specs.Decided.{found_limit}
use Rattle.engine.specs.Books.{Books, books_of, opened_in, mode_in, caller_in, no_books, books_in_range, booked, books_size}
use Rattle.engine.specs.Core.{no_core, Arrays, arrays, progressed, After, after, unchanged, event_core, open_core, start_on}
use Rattle.engine.specs.Core.{is_valid_of as valid_core}
use Rattle.engine.specs.declared.running.Core.{Core}
use Rattle.engine.specs.declared.running.Output.{Output}
use Rattle.engine.specs.declared.running.Progress.{Progress}
use Rattle.engine.specs.declared.session.Session.{Session}
use Rattle.engine.specs.declared.session.Step.{Step}
use Rattle.calls.specs.Kinds.{no_call_kind}
use Rattle.device.specs.Kinds.{opening_kind}

-- the running call's numbers, and the books
pub record State : Type 0 where
  pub core : Core
  pub books : Books

abbrev pub state : Core → Books → State
state c b = record { core = c; books = b }

-- the numbers of the running call with those of the books and the counts, which lie beside them
abbrev pub state_of : Core → List ℕ → List ℕ → State
state_of c b n = state c (books_of b n)

-- every number is in its range
unfoldable pub valid : Core → ℕ → ℕ → ℕ → Bool
valid c opened mode caller = both (valid_core c) (books_in_range opened mode caller)

-- the same, with the three numbers where they lie
abbrev pub valid_in : Core → List ℕ → Bool
valid_in c b = valid c (slice_index b 0) (slice_index b 1) (slice_index b 2)

abbrev pub is_valid_state : State → Bool
is_valid_state s = valid s.core (opened_in s.books) (mode_in s.books) (caller_in s.books)

abbrev pub with_books : List ℕ → List ℕ → After Core → After State
with_books b n a = after (state_of a.state b n) a.arrays a.output a.buffer

abbrev pub effected : Progress → List ℕ → List ℕ → Arrays → List ℕ → After State
effected p b n f buffer = with_books b n (progressed p f buffer)

-- what came out of a caller's call, an opening or not, is booked
abbrev pub booked_after_of : ℕ → Bool → Books → After Core → After State
booked_after_of k is_opening b a = after (state a.state (booked k is_opening a.output b)) a.arrays a.output a.buffer

-- ---- the entries: a session out of range is refused with 1

-- an event is taken as the mode sees it
unfoldable pub event_after : State → Arrays → Event → List ℕ → After State
event_after s f e b =
    pick (is_valid_state s) (booked_after_of (caller_in s.books) (s.core.call.kind == opening_kind) s.books (event_core s.core f (seen (is_padded_mode (mode_in s.books)) e) b)) (unchanged s f OutOfTurn b)

-- a call: 1, 2, then its own refusals
abbrev pub free : Core → ℕ → ℕ → ℕ → Bool
free c opened mode caller = both (valid c opened mode caller) (c.call.kind == no_call_kind)

abbrev pub free_in : Core → List ℕ → Bool
free_in c b = free c (slice_index b 0) (slice_index b 1) (slice_index b 2)

abbrev pub is_free : State → Bool
is_free s = free s.core (opened_in s.books) (mode_in s.books) (caller_in s.books)

abbrev pub with_room : State → Arrays → List ℕ → After State → After State
with_room s f b x = pick (nat_lt (length b) buffer_need) (unchanged s f ShortBuffer b) x

-- a caller above 7 is a bad argument
abbrev pub with_caller : State → Arrays → ℕ → List ℕ → After State → After State
with_caller s f k b x = pick (nat_lt last_caller k) (unchanged s f BadArgument b) x

-- an opening begins the books anew, in a mode that there is
abbrev pub open_in : State → Arrays → ℕ → ℕ → List ℕ → After State
open_in s f k mode b = pick (nat_lt 1 mode) (unchanged s f BadArgument b) (booked_after_of k true (no_books mode) (open_core s.core f b))

unfoldable pub open_after : State → Arrays → ℕ → ℕ → List ℕ → After State
open_after s f k mode b = pick (is_free s) (with_room s f b (with_caller s f k b (open_in s f k mode b))) (unchanged s f OutOfTurn b)

-- a call of an open reader
abbrev pub admits_call : Core → ℕ → ℕ → ℕ → Bool
admits_call c opened mode caller = both (free c opened mode caller) (opened == 1)

abbrev pub admits_in : Core → List ℕ → Bool
admits_in c b = admits_call c (slice_index b 0) (slice_index b 1) (slice_index b 2)

abbrev pub is_admitted : State → Bool
is_admitted s = admits_call s.core (opened_in s.books) (mode_in s.books) (caller_in s.books)

unfoldable pub start_after : State → Arrays → ℕ → Start → List ℕ → After State
start_after s f k x b =
    pick (is_admitted s) (with_room s f b (with_caller s f k b (booked_after_of k false s.books (start_on s.core f x b)))) (unchanged s f OutOfTurn b)

-- ---- the session whole

pub record Stepped : Type 0 where
  pub session : Session
  pub output : Output
  pub buffer : List ℕ

abbrev pub stepped : Step → List ℕ → Stepped
stepped r b = record { session = r.session; output = r.output; buffer = b }

abbrev pub stepped_of : After State → Stepped
stepped_of a =
    record { session = record { command = a.arrays.command; found = a.arrays.found; frames = a.state.books.frames; books = a.state.books.numbers; core = a.state.core }; output = a.output; buffer = a.buffer }

abbrev pub arrays_in : Session → Arrays
arrays_in s = arrays s.command s.found

abbrev pub state_in : Session → State
state_in s = state_of s.core s.books s.frames

abbrev pub fresh_session : Session
fresh_session =
    record {
      command = replicate data_limit 0;
      found = replicate found_limit 0;
      frames = no_counts;
      books = replicate books_size 0;
      core = no_core;
    }
