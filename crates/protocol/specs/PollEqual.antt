-- One call for a list of system codes equals the single calls made in list order.
use Rattle.std.specs.Prelude.{List, ◌∷◌, length}
use Rattle.exchange.specs.Packets.{command_frame}
use Rattle.exchange.specs.Exchange.{Order, write}
use Rattle.protocol.specs.Arguments.{word}
use Rattle.protocol.specs.Calls.{Call, read_register_code}
use Rattle.protocol.specs.Session.{Phase}
use Rattle.protocol.specs.Session.{busy, Books, Session}
use Rattle.protocol.specs.Record.{accepted, Record, Note, line}
use Rattle.protocol.specs.Runs.{EventAndRoom}
use Rattle.protocol.specs.Names.{ciu_tx_control}

-- a code's first order: the field check
abbrev pub ask_field : Order
ask_field = write (command_frame read_register_code (word ciu_tx_control))

-- the record, with the event under the newest call's number
abbrev pub with_event : Record → List Note → EventAndRoom → Record
with_event m ns e = line (length ns) (accepted e.event) ∷ m

abbrev pub busy_with : Call → Phase → Books → Session
busy_with c p b = record { running = busy c p; books = b }
