-- The session, the engine's buffer and the text after a line.
use Rattle.std.specs.Prelude.{ℕ, ◌+◌, List, length, take, slice_set}
use Rattle.std.proofs.Math.Option.{Option, none, some}
use Rattle.errors.specs.declared.Refusal.TheVariants.{BadArgument}
use Rattle.exchange.specs.Exchange.{Event}
use Rattle.engine.specs.Inputs.{gives, step_with}
use Rattle.calls.specs.Numbers.{call_of}
use Rattle.engine.specs.Numbers.{call_input, event_by_of}
use Rattle.engine.specs.SessionSteps.{Stepped}
use Rattle.engine.specs.declared.running.Output.TheVariants.{Refused}
use Rattle.engine.specs.declared.session.Session.{Session}
use Rattle.bench.specs.Texts.{over}
use Rattle.bench.specs.declared.lines.Line.{Line}
use Rattle.bench.specs.declared.lines.Line.TheVariants.{Text, OverLong, End}
use Rattle.bench_input.specs.Table.{Said, calls, happens, unreadable, input_of}
use Rattle.bench_session.specs.Outputs.{text_of}
use Rattle.bench.specs.Lines.{feed}

-- a line that cannot be read: the session stays as it was
abbrev pub unread_step : Session → List ℕ → Stepped
unread_step s b = record { session = s; output = Refused BadArgument; buffer = b }

-- an event, where its number has one
abbrev pub event_step : Session → Option Event → List ℕ → Stepped
event_step s none b = unread_step s b
event_step s (some e) b = step_with s (gives e b)

-- what the engine does with what a line says; the program's calls are caller 0's
unfoldable pub said_step : Session → Said → List ℕ → Stepped
said_step s (calls number n first second third fourth) b = step_with s (call_input n.caller (call_of number n first second third fourth) b)
said_step s (happens number packet) b = event_step s (event_by_of number packet) b
said_step s unreadable b = unread_step s b

-- a session and a text's length, with the engine's buffer and the text's buffer
pub record AfterLine : Type 0 where
  pub session : Session
  pub len : ℕ
  pub buffer : List ℕ
  pub out : List ℕ

abbrev pub after_line : Session → ℕ → List ℕ → List ℕ → AfterLine
after_line s n b o = record { session = s; len = n; buffer = b; out = o }

-- the text of an output at the start of o
unfoldable pub printed : Stepped → List ℕ → AfterLine
printed t o = after_line t.session (length (text_of t.output t.buffer)) t.buffer (over 0 (text_of t.output t.buffer) o)

-- the line l
unfoldable pub answer_of : Session → List ℕ → List ℕ → List ℕ → AfterLine
answer_of s l b o = printed (said_step s (input_of l) b) o

-- a line feed (10) behind the text
unfoldable pub fed : AfterLine → AfterLine
fed a = after_line a.session (a.len + 1) a.buffer (slice_set a.out a.len feed)

-- what is written for a line that stands at the start of l: nothing at the end of the input
unfoldable pub line_reply : Session → Line → List ℕ → List ℕ → List ℕ → AfterLine
line_reply s (Text n) l b o = fed (answer_of s (take n l) b o)
line_reply s OverLong l b o = fed (printed (unread_step s b) o)
line_reply s End l b o = after_line s 0 b o
