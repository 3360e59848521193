-- What an exchange can go on with, and what it can end with.
use Rattle.std.specs.Prelude.{◌≡◌, ℕ, ◌≤◌, Bool, true, false, List, length, ◌==◌, nat_le}
use Rattle.std.proofs.Math.Path.{refl}
use Rattle.std.proofs.Common.{arith}
use Rattle.errors.specs.Choice.{pick}
use Rattle.framing.specs.Frames.{ack}
use Rattle.exchange.specs.Packets.{reply_of, is_empty, has_start, ack_led, Reply, response, failed}
use Rattle.exchange.specs.Exchange.{Order, write, read, drain, pause, Event, unfit, pending, ended, ExchangePhase, ExchangeResult, on_packet, on_first_packet, on_later_packet, on_drained, advance}
use Rattle.exchange.specs.Steps.{phase_in, exchange_at, draining_phase, rejecting_phase, reading_phase, unsent_phase, overdue_phase, sending_phase, waiting_phase}
use Rattle.exchange.specs.Responses.{response_short}
use Rattle.exchange.specs.declared.Exchange.{Exchange}
use Rattle.protocol.specs.Laws.{split, by_write, by_read, by_pause}
use Rattle.calls.specs.Tables.{is_reset_of}
use Rattle.protocol.specs.Session.{packet_length}
use Rattle.engine.specs.Transitions.{exchange_phase, reset_ack_phase, reset_pause_phase, opening_ack_phase, opening_reads_phase, pause_phase, phase_of, reply_length, Transitioned, unfitting, reply_transition, over_transition, exchange_transition, transition_of}
use Rattle.engine.specs.declared.call.Call.{Call}

-- an order that writes no command: a write is ACK's
abbrev pub NoCommand : Order → Type 0
NoCommand (write bytes) = bytes ≡ ack
NoCommand (read ms) = Unit {0}
NoCommand drain = Unit {0}
NoCommand (pause us) = Unit {0}

-- an exchange goes on in one of its seven phases with no command, or ends; a response has two bytes less than the packet, which has n
abbrev pub Good : ℕ → ℕ → ℕ → ExchangeResult → Type 0
Good n code clock unfit = Unit {0}
Good n code clock (pending o to) = (phase_in (exchange_at (phase_of to) code clock) ≡ to) × (nat_le (phase_of to) draining_phase ≡ true) × NoCommand o
Good n code clock (ended r) = reply_length (reply_transition r) ≤ n

reply-fits : (code : ℕ) (packet : List ℕ) → reply_length (reply_transition (reply_of code packet)) ≤ length packet
reply-fits code packet = go (reply_of code packet) refl
  where
    go : (r : Reply) → reply_of code packet ≡ r → reply_length (reply_transition r) ≤ length packet
    go (response bytes) e = response_short code packet bytes e
    go (failed r) e = omega arith

module _ (code clock : ℕ) where
  good-packet : (p : List ℕ) → Good (length p) code clock (on_packet code clock p)
  unfolding phase_in
  good-packet p =
      split (Good (length p) code clock) (ack_led p) _ _
      (λ _. split (Good (length p) code clock) (clock == 0) _ _ (λ _. (refl, refl, refl)) (λ _. (refl, refl, tt)))
      (λ _. reply-fits code p)

  good-first : (p : List ℕ) → Good (length p) code clock (on_first_packet code clock p)
  unfolding phase_in
  good-first p =
      split (Good (length p) code clock) (is_empty p) _ _ (λ _. omega arith)
      (λ _. split (Good (length p) code clock) (has_start p) _ _ (λ _. good-packet p) (λ _. (refl, refl, refl)))

  good-later : (p : List ℕ) → Good (length p) code clock (on_later_packet code clock p)
  good-later p = split (Good (length p) code clock) (is_empty p) _ _ (λ _. omega arith) (λ _. good-packet p)

  good-drained : (p : List ℕ) → Good (length p) code clock (on_drained p)
  unfolding phase_in
  good-drained p = split (Good (length p) code clock) (is_empty p) _ _ (λ _. omega arith) (λ _. (refl, refl, tt))

pub good : (x : Exchange) (e : Event) → Good (packet_length e) x.code x.clock (advance (phase_in x) e)
unfolding phase_in
good x e =
    let P : Event → ExchangeResult → Type 0 = λ d r. Good (packet_length d) x.code x.clock r in
    let Q : ExchangePhase → Type 0 = λ s. Good (packet_length e) x.code x.clock (advance s e) in
    split Q (x.phase == sending_phase) _ _ (λ _. by_write P unfit (λ _. tt) _ _ (refl, refl, tt) (refl, refl, refl) e)
    (λ _. split Q (x.phase == reading_phase) _ _ (λ _. by_read P unfit (λ _. tt) _ _ _ _ (good-first x.code x.clock) (omega arith) (omega arith) tt e)
    (λ _. split Q (x.phase == waiting_phase) _ _ (λ _. by_read P unfit (λ _. tt) _ _ _ _ (good-later x.code x.clock) (omega arith) (omega arith) (refl, refl, refl) e)
    (λ _. split Q (x.phase == unsent_phase) _ _ (λ _. by_write P unfit (λ _. tt) _ _ (omega arith) (omega arith) e)
    (λ _. split Q (x.phase == overdue_phase) _ _ (λ _. by_write P unfit (λ _. tt) _ _ (omega arith) (omega arith) e)
    (λ _. split Q (x.phase == rejecting_phase) _ _ (λ _. by_write P unfit (λ _. tt) _ _ (refl, refl, tt) (refl, refl, tt) e)
    (λ _. by_read P unfit (λ _. tt) _ _ _ _ (good-drained x.code x.clock) (omega arith) (refl, refl, tt) (omega arith) e))))))

-- ---- the same of a call's move

pub by_pick : {X : Type 0} (P : X → Type 0) (t : Bool) (x y : X) → P x → P y → P (pick t x y)
unfolding pick
by_pick P true x y h k = h
by_pick P false x y h k = k

exchange_short : (n : ℕ) (c : Call) (x : Exchange) (r : ExchangeResult) → Good n x.code x.clock r → reply_length (exchange_transition c x r) ≤ n
unfolding exchange_transition over_transition
exchange_short n c x unfit h = omega arith
exchange_short n c x (pending o to) h = omega arith
exchange_short n c x (ended r) h = by_pick (λ m. reply_length m ≤ n) (is_reset_of c.kind c.stage) _ _ (omega arith) h

-- a response is shorter than the packet
pub reply_short_lem : (c : Call) (x : Exchange) (e : Event) → reply_length (transition_of c x e) ≤ packet_length e
unfolding transition_of
reply_short_lem c x e =
    let L : Transitioned → Type 0 = λ m. reply_length m ≤ packet_length e in
    let P : Event → Transitioned → Type 0 = λ d m. reply_length m ≤ packet_length d in
    let none : (d : Event) → P d unfitting = λ d. omega arith in
    by_pick L (c.phase == exchange_phase) _ _ (exchange_short (packet_length e) c x (advance (phase_in x) e) (good x e))
    (by_pick L (c.phase == reset_ack_phase) _ _ (by_write P unfitting none _ _ (omega arith) (omega arith) e)
    (by_pick L (c.phase == reset_pause_phase) _ _ (by_pause P unfitting none _ (omega arith) e)
    (by_pick L (c.phase == opening_ack_phase) _ _ (by_write P unfitting none _ _ (omega arith) (omega arith) e)
    (by_pick L (c.phase == opening_reads_phase) _ _ (by_read P unfitting none _ _ _ _ (λ _. omega arith) (omega arith) (omega arith) (omega arith) e)
    (by_pick L (c.phase == pause_phase) _ _ (by_pause P unfitting none _ (omega arith) e) (omega arith))))))
