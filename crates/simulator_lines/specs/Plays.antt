-- A call of the program `simulator`, played to its end: the definitions' session and the definitions' chip over a channel, with the program's two limits.
use Rattle.std.specs.Prelude.{ℕ, zero, suc, List, [], ◌∷◌}
use Rattle.exchange.specs.Exchange.{Order, write, read, drain, pause}
use Rattle.protocol.specs.Scripts.{Byte}
use Rattle.protocol.specs.Session.{Session, Output, orders, answers, rejects, event, buffer_need, StepResult, step}
use Rattle.protocol.specs.Machine.{output_values}
use Rattle.bench_input.specs.Table.{Said}
use Rattle.bench_session.specs.Sessions.{line_step, given_text}
use Rattle.chip_protocol.specs.Chip.{chip_step}
use Rattle.chip_protocol.specs.Channel.{simulated, Channel, channel, behind_next, event_for}
use Rattle.simulator_lines.specs.Ring.{kept_with}

-- the most events of a call; `places_limit` is the most packets unread
abbrev pub event_limit : ℕ
event_limit = 4096

abbrev pub kept_all : List (List ℕ) → List (List ℕ) → List (List ℕ)
kept_all q [] = q
kept_all q (p ∷ ps) = kept_all (kept_with q p) ps

-- chip_protocol's channel, but for packets that are lost
abbrev pub limited_after : Channel simulated → Order → Channel simulated
limited_after l (write bytes) = channel simulated (chip_step l.chip bytes).state (kept_all l.unread (chip_step l.chip bytes).packets)
limited_after l (read ms) = channel simulated l.chip (behind_next simulated l.unread)
limited_after l drain = channel simulated l.chip (behind_next simulated l.unread)
limited_after l (pause us) = l

-- the session with its last output, and the channel
pub record Playing : Type 0 where
  pub session : Session
  pub channel : Channel simulated
  pub output : Output Byte

abbrev pub playing : Session → Channel simulated → Output Byte → Playing
playing s l out = record { session = s; channel = l; output = out }

-- an order gets its event
abbrev pub answered : Session → Channel simulated → Order → StepResult Session Byte
answered s l x = step s (event (event_for simulated l x) buffer_need)

-- while the session orders, and for so many events at most
abbrev pub played : ℕ → Session → Channel simulated → Output Byte → Playing
played zero s l out = playing s l out
played (suc n) s l (orders x) = played n (answered s l x).state (limited_after l x) (answered s l x).output
played (suc n) s l (answers a) = playing s l (answers a)
played (suc n) s l (rejects r) = playing s l (rejects r)

abbrev pub played_from : ℕ → Playing → Playing
played_from n p = played n p.session p.channel p.output

-- a call, and what is printed at its end
abbrev pub call_played : Session → Channel simulated → Said → Playing
call_played s l c = played event_limit (line_step s c).state l (line_step s c).output

abbrev pub end_text : Playing → List ℕ
end_text p = given_text (output_values p.output)
