-- What a line of the program `simulator` asks for: a line of `chip` but `frame`, the trace on or off, or a call of `session`. An event is no line here.
use Rattle.std.specs.Prelude.{Option, Some, None, ℕ, Bool, true, false, List, length, nat_lt}
use Rattle.errors.specs.Choice.{pick, same}
use Rattle.targets.specs.Bitrates.{ascii}
use Rattle.bench_input.specs.Arguments.{line_limit, word_at}
use Rattle.bench_input.specs.Readings.{input_in}
use Rattle.bench_input.specs.Table.{Said, calls, happens, unreadable, input_of}
use Rattle.bench_input.specs.declared.Input.TheVariants.{Call as CallInput}
use Rattle.simulator_lines.specs.declared.request.Request.{Request}
use Rattle.simulator_lines.specs.declared.request.Request.TheVariants.{Field, Trace, Call}

pub data Asked : Type 0 where
  changes_field : Asked
  traces : Bool → Asked
  starts : Said → Asked
  nothing : Asked

-- the names of the lines of `chip` but `frame`
unfoldable pub is_field_name_of : List ℕ → Bool
is_field_name_of w = pick (same (ascii "fresh") w) true (pick (same (ascii "card") w) true (same (ascii "reply") w))

abbrev pub on_said : Said → Asked
on_said (calls number n first second third fourth) = starts (calls number n first second third fourth)
on_said (happens number packet) = nothing
on_said unreadable = nothing

unfoldable pub asked_of : List ℕ → Asked
asked_of l =
    pick (nat_lt line_limit (length l)) nothing
    (pick (is_field_name_of (word_at l 0)) changes_field
    (pick (same (ascii "trace on") l) (traces true)
    (pick (same (ascii "trace off") l) (traces false) (on_said (input_of l)))))

-- the same of what was read, with the bytes of a call's arguments in b
abbrev pub asked_in : List ℕ → Option Request → Asked
asked_in b (Some Field) = changes_field
asked_in b (Some (Trace t)) = traces t
asked_in b (Some (Call number n e)) = starts (input_in b (Some (CallInput number n e)))
asked_in b None = nothing
