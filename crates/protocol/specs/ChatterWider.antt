-- One place more, and it is untrue: ACK-led packets before a first packet without the start bytes. `unanswered` has that place beside those of
-- `waits`. docs/requests/N11.md has both runs as lines of `session`.
use Rattle.std.specs.Prelude.{◌≡◌, refl, true, false, List, [], ◌∷◌, ◌++◌, map, ℕ, length}
use Rattle.std.proofs.Common.{ap, arith}
use Rattle.errors.specs.declared.Fault.TheVariants.{FalseStart, BrokenFrame}
use Rattle.framing.specs.Frames.{ack}
use Rattle.exchange.specs.Packets.{command_frame}
use Rattle.exchange.specs.Exchange.{write, read, drain, ok, pkt, time, first_read_time}
use Rattle.protocol.specs.Scripts.{refused}
use Rattle.protocol.specs.Calls.{Call, reader, request, version, get_firmware_version_code}
use Rattle.protocol.specs.Session.{no_counts, Session, Output, orders, answers, outputs, buffer_need}
use Rattle.protocol.specs.Machine.{output_values}
use Rattle.protocol.specs.Runs.{EventAndRoom, idle_with, event_with, call_entries, lines_from, answers_in}
use Rattle.protocol.specs.Chatter.{unanswered, Alike, SameFor}
use Rattle.protocol.specs.Sample.{formats}
use Rattle.protocol.specs.Names.{command_clock}

abbrev open_reader : Session
open_reader = idle_with (record { opened = true; padded = false; caller = 0; counts = no_counts })

abbrev asks_version : Call
asks_version = reader (request version)

abbrev false_start : EventAndRoom
false_start = event_with (pkt (0x00 ∷ [])) buffer_need

-- without ACK before it, and with ACK
abbrev first : List EventAndRoom
first = event_with ok buffer_need ∷ false_start ∷ []

abbrev second : List EventAndRoom
second = event_with ok buffer_need ∷ event_with (pkt ack) buffer_need ∷ false_start ∷ []

abbrev given_for : List EventAndRoom → List (Output ℕ)
given_for es = map output_values (outputs open_reader (call_entries 0 asks_version buffer_need es))

-- the first writes ACK, drains and ends with 9; the second ends with 10
first_run : given_for (first ++ (event_with ok buffer_need ∷ event_with time buffer_need ∷ []))
    ≡ orders (write (command_frame get_firmware_version_code [])) ∷ orders (read first_read_time) ∷ orders (write ack) ∷ orders drain ∷ answers (refused FalseStart) ∷ []
unfolding formats
first_run = refl

second_run : given_for second ≡ orders (write (command_frame get_firmware_version_code [])) ∷ orders (read first_read_time) ∷ orders (read command_clock) ∷ answers (refused BrokenFrame) ∷ []
unfolding formats
second_run = refl

alike_widened : Alike unanswered (lines_from open_reader 0 asks_version buffer_need first) (lines_from open_reader 0 asks_version buffer_need second)
unfolding formats
alike_widened = refl

-- the first has no answer yet
answers_differ : answers_in (outputs open_reader (call_entries 0 asks_version buffer_need first)) ≡ answers_in (outputs open_reader (call_entries 0 asks_version buffer_need second)) → ⊥
unfolding formats
answers_differ e = let z : ◌≡◌ {A = ℕ} 0 1 = ap length e in omega arith

pub widened_refuted : ((s : Session) (caller : ℕ) (c : Call) (room : ℕ) (es ds : List EventAndRoom)
    → Alike unanswered (lines_from s caller c room es) (lines_from s caller c room ds)
    → SameFor s (call_entries caller c room es) (call_entries caller c room ds))
    → ⊥
widened_refuted f = answers_differ (f open_reader 0 asks_version buffer_need first second alike_widened).result
