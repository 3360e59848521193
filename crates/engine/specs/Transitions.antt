-- What an event does to a running call, as call.rt has it: a few numbers, apart from buffer and session.
use Rattle.std.specs.Prelude.{◌≡◌, ℕ, zero, suc, ◌+◌, ◌≤◌, Bool, true, false, List, length, ◌==◌, nat_eq, nat_le}
use Rattle.std.specs.Prelude.{refl, Option, Some, None}
use Rattle.std.proofs.Math.Path.{sym, ap, subst}
use Rattle.std.proofs.Common.{◌∙◌, arith, eq-eqb}
use Rattle.errors.specs.Choice.{pick}
use Rattle.errors.specs.declared.Fault.{Fault}
use Rattle.errors.specs.declared.Fault.TheVariants.{Transport, TimeOut, FalseStart, BrokenFrame, Length, FrameKind, Identifier, Code, Status, ShortResponse, NoCard, CrcA, Rate, CardStatus, OtherCard, UidLayout}
use Rattle.framing.specs.Frames.{ack}
use Rattle.framing.specs.Lists.{both}
use Rattle.errors.specs.Rules.{at_true, at_false}
use Rattle.exchange.specs.Exchange.{Event, unfit, pending, ended, on_write, on_read, on_pause, ExchangePhase, sending, reading, waiting, cancelling, rejecting, draining, ExchangeResult, advance}
use Rattle.exchange.specs.Exchange.{Order as HostOrder, write, read, pause}
use Rattle.exchange.specs.Packets.{Reply, response, failed, reply_of}
use Rattle.exchange.specs.Steps.{order_of, phase_in, exchange_at, result_in, SameCommand, sending_phase, reading_phase, waiting_phase, unsent_phase, overdue_phase, rejecting_phase, draining_phase}
use Rattle.exchange.specs.declared.Advanced.{Advanced}
use Rattle.exchange.specs.declared.Order.{Order}
use Rattle.exchange.specs.declared.Exchange.{Exchange}
use Rattle.calls.specs.Tables.{is_reset_of}
use Rattle.engine.specs.declared.call.Call.{Call}
use Rattle.engine.specs.declared.call.End.{End}
use Rattle.engine.specs.declared.call.End.TheVariants.{ResetDone, Arrived, Failed}
use Rattle.engine.specs.declared.call.Transition.{Transition}
use Rattle.engine.specs.declared.call.Transition.TheVariants.{Orders, Sends, Ends}
use Rattle.protocol.specs.Names.{opening_read_time, reset_pause_time}
use Rattle.calls.specs.Kinds.{no_call_kind, last_kind, first_stage, last_stage}

-- what a call waits for: its command's exchange, a reset's ACK or pause, the opening's ACK or reads, a pause (src/call.rt)
abbrev pub exchange_phase : ℕ
exchange_phase = 0

abbrev pub reset_ack_phase : ℕ
reset_ack_phase = 1

abbrev pub reset_pause_phase : ℕ
reset_pause_phase = 2

abbrev pub opening_ack_phase : ℕ
opening_ack_phase = 3

abbrev pub opening_reads_phase : ℕ
opening_reads_phase = 4

abbrev pub pause_phase : ℕ
pause_phase = 5

abbrev pub no_call_of : Call
no_call_of = record { kind = no_call_kind; stage = first_stage; cursor = 0; phase = exchange_phase }

-- at the first command of a call
abbrev pub first_call : ℕ → Call
first_call kind = record { kind = kind; stage = first_stage; cursor = 0; phase = exchange_phase }

-- a call at another phase, at the command of a stage, and at that with another cursor
abbrev pub at : Call → ℕ → Call
at c phase = record { kind = c.kind; stage = c.stage; cursor = c.cursor; phase = phase }

abbrev pub to_stage : Call → ℕ → Call
to_stage c n = record { kind = c.kind; stage = n; cursor = c.cursor; phase = exchange_phase }

abbrev pub to_cursor : Call → ℕ → ℕ → Call
to_cursor c n cursor = record { kind = c.kind; stage = n; cursor = cursor; phase = exchange_phase }

-- ACK is being written: after a failed write 3, at the deadline 4
abbrev cancel_phase : Fault → ℕ
cancel_phase Transport = unsent_phase
cancel_phase TimeOut = overdue_phase
cancel_phase FalseStart = overdue_phase
cancel_phase BrokenFrame = overdue_phase
cancel_phase Length = overdue_phase
cancel_phase FrameKind = overdue_phase
cancel_phase Identifier = overdue_phase
cancel_phase Code = overdue_phase
cancel_phase (Status s) = overdue_phase
cancel_phase ShortResponse = overdue_phase
cancel_phase NoCard = overdue_phase
cancel_phase CrcA = overdue_phase
cancel_phase Rate = overdue_phase
cancel_phase (CardStatus s t) = overdue_phase
cancel_phase OtherCard = overdue_phase
cancel_phase UidLayout = overdue_phase

-- the number of an exchange's step
abbrev pub phase_of : ExchangePhase → ℕ
phase_of (sending code clock) = sending_phase
phase_of (reading code clock) = reading_phase
phase_of (waiting code clock) = waiting_phase
phase_of (cancelling r) = cancel_phase r
phase_of rejecting = rejecting_phase
phase_of draining = draining_phase

-- the exchange at another step
abbrev pub exchange_in : Exchange → ExchangePhase → Exchange
exchange_in x step = exchange_at (phase_of step) x.code x.clock

-- what the code's Transition says, with a response by its bytes
pub data Transitioned : Type 0 where
  unfitting : Transitioned
  orders : HostOrder → Call → Exchange → Transitioned
  sends : Call → Transitioned  -- the command of the call's stage
  reset_done : Transitioned
  replies : List ℕ → Transitioned
  refuses : Fault → Transitioned

-- the response in a packet, or its fault
abbrev pub reply_transition : Reply → Transitioned
reply_transition (response bytes) = replies bytes
reply_transition (failed r) = refuses r

-- the end of a command with this code, by a packet
abbrev pub end_transition : ℕ → List ℕ → End → Transitioned
end_transition code packet ResetDone = reset_done
end_transition code packet Arrived = reply_transition (reply_of code packet)
end_transition code packet (Failed r) = refuses r

-- of a packet that a command with this code waits for
abbrev pub transition_in : ℕ → List ℕ → Option Transition → Transitioned
transition_in code packet None = unfitting
transition_in code packet (Some (Orders o c x)) = orders (order_of o) c x
transition_in code packet (Some (Sends c)) = sends c
transition_in code packet (Some (Ends e)) = end_transition code packet e

-- a command's exchange is over: behind a reset's follows ACK, whatever came of it
unfoldable pub over_transition : Call → Exchange → Transitioned → Transitioned
over_transition c x m = pick (is_reset_of c.kind c.stage) (orders (write ack) (at c reset_ack_phase) x) m

abbrev pub ended_transition : Call → Exchange → Reply → Transitioned
ended_transition c x r = over_transition c x (reply_transition r)

unfoldable pub exchange_transition : Call → Exchange → ExchangeResult → Transitioned
exchange_transition c x unfit = unfitting
exchange_transition c x (pending o step) = orders o c (exchange_in x step)
exchange_transition c x (ended r) = ended_transition c x r

abbrev pub reset_ack_transition : Call → Exchange → Event → Transitioned
reset_ack_transition c x e = on_write unfitting (orders (pause reset_pause_time) (at c reset_pause_phase) x) (refuses Transport) e

abbrev pub reset_pause_transition : Event → Transitioned
reset_pause_transition e = on_pause unfitting reset_done e

abbrev pub opening_ack_transition : Call → Exchange → Event → Transitioned
opening_ack_transition c x e = on_write unfitting (orders (read opening_read_time) (at c opening_reads_phase) x) (refuses Transport) e

abbrev pub opening_reads_transition : Call → Exchange → Event → Transitioned
opening_reads_transition c x e = on_read unfitting (λ p. orders (read opening_read_time) c x) (sends (at c exchange_phase)) (sends (at c exchange_phase)) unfitting e

abbrev pub pause_transition : Call → Event → Transitioned
pause_transition c e = on_pause unfitting (sends (at c exchange_phase)) e

unfoldable pub transition_of : Call → Exchange → Event → Transitioned
transition_of c x e =
    pick (c.phase == exchange_phase) (exchange_transition c x (advance (phase_in x) e))
    (pick (c.phase == reset_ack_phase) (reset_ack_transition c x e)
    (pick (c.phase == reset_pause_phase) (reset_pause_transition e)
    (pick (c.phase == opening_ack_phase) (opening_ack_transition c x e)
    (pick (c.phase == opening_reads_phase) (opening_reads_transition c x e)
    (pick (c.phase == pause_phase) (pause_transition c e) unfitting)))))

abbrev pub fits : Transitioned → Bool
fits unfitting = false
fits (orders o c x) = true
fits (sends c) = true
fits reset_done = true
fits (replies bytes) = true
fits (refuses r) = true

-- a reply fits the order that waits for it
pub reply-fits : (r : Reply) → fits (reply_transition r) ≡ true
reply-fits (response bytes) = refl
reply-fits (failed r) = refl

pub end_fits : (code : ℕ) (packet : List ℕ) (e : End) → fits (end_transition code packet e) ≡ true
end_fits code packet ResetDone = refl
end_fits code packet Arrived = reply-fits (reply_of code packet)
end_fits code packet (Failed r) = refl

-- how many bytes a response's packet has at least
abbrev pub reply_length : Transitioned → ℕ
reply_length unfitting = 0
reply_length (orders o c x) = 0
reply_length (sends c) = 0
reply_length reset_done = 0
reply_length (replies bytes) = length bytes + 2
reply_length (refuses r) = 0

-- every field of a call is in its range; a cursor has none
unfoldable pub valid_call : Call → Bool
valid_call c = both (nat_le c.kind last_kind) (both (nat_le c.stage last_stage) (nat_le c.phase pause_phase))

-- ---- laws

pub over_reset : (c k : Call) (x : Exchange) (m : Transitioned) → is_reset_of c.kind c.stage ≡ true → k ≡ at c reset_ack_phase → orders (write ack) k x ≡ over_transition c x m
unfolding over_transition pick
over_reset c k x m h e = rw h (ap (λ d. orders (write ack) d x) e)

pub over-other : (c : Call) (x : Exchange) (m : Transitioned) → is_reset_of c.kind c.stage ≡ false → m ≡ over_transition c x m
unfolding over_transition pick
over-other c x m h = rw h

-- the exchange that goes on is the old one at its new step
phase_of_lem : (n code clock : ℕ) → n ≤ draining_phase → phase_of (phase_in (exchange_at n code clock)) ≡ n
unfolding phase_in pick
phase_of_lem zero code clock h = refl
phase_of_lem (suc zero) code clock h = refl
phase_of_lem (suc (suc zero)) code clock h = refl
phase_of_lem (suc (suc (suc zero))) code clock h = refl
phase_of_lem (suc (suc (suc (suc zero)))) code clock h = refl
phase_of_lem (suc (suc (suc (suc (suc zero))))) code clock h = refl
phase_of_lem (suc (suc (suc (suc (suc (suc zero)))))) code clock h = refl
phase_of_lem (suc (suc (suc (suc (suc (suc (suc n))))))) code clock h = absurd (omega arith)

exchange_kept : (x y : Exchange) → y.phase ≤ draining_phase → y.code ≡ x.code → y.clock ≡ x.clock → y ≡ exchange_in x (phase_in y)
exchange_kept x y h p q =
    λ i. exchange_at (sym (phase_of_lem y.phase y.code y.clock h) i) (p i) (q i)

module _ (c : Call) (x : Exchange) (packet : List ℕ) (a : Advanced) (r : ExchangeResult) (is : result_in x packet a ≡ r) where
  pub exchange_unfit : a ≡ Advanced.Unfit → unfitting ≡ exchange_transition c x r
  unfolding exchange_transition
  exchange_unfit h = let e : r ≡ unfit = sym is ∙ ap (result_in x packet) h in rw e

  pub exchange_pending : (m : Transitioned) (n : Order) (y : Exchange) → a ≡ Advanced.Pending n y → SameCommand x a → m ≡ orders (order_of n) c y → m ≡ exchange_transition c x r
  unfolding exchange_transition
  exchange_pending m n y h kept p =
      let e : r ≡ pending (order_of n) (phase_in y) = sym is ∙ ap (result_in x packet) h in
      let k = subst (SameCommand x) h kept in
      rw e (p ∙ ap (λ z. orders (order_of n) c z) (exchange_kept x y k.0 k.1 k.2))

  -- the exchange is over
  pub exchange_arrived : (e : End) → a ≡ Advanced.Arrived → e ≡ Arrived → over_transition c x (end_transition x.code packet e) ≡ exchange_transition c x r
  unfolding exchange_transition
  exchange_arrived e h q = let o : r ≡ ended (reply_of x.code packet) = sym is ∙ ap (result_in x packet) h in rw (o, q)

  pub exchange_failed : (e : End) (fault : Fault) → a ≡ Advanced.Failed fault → e ≡ Failed fault → over_transition c x (end_transition x.code packet e) ≡ exchange_transition c x r
  unfolding exchange_transition
  exchange_failed e fault h q = let o : r ≡ ended (failed fault) = sym is ∙ ap (result_in x packet) h in rw (o, q)

-- a number that is n is none that n is not
other : {p : ℕ} (n : ℕ) → p ≡ n → (k : ℕ) → (n == k) ≡ false → (p == k) ≡ false
other n h k q = ap (λ j. nat_eq j k) h ∙ q

module _ (c : Call) (x : Exchange) (e : Event) (m : Transitioned) where
  pub transition_exchange : c.phase ≡ exchange_phase → m ≡ exchange_transition c x (advance (phase_in x) e) → m ≡ transition_of c x e
  unfolding transition_of
  transition_exchange h p = at_true m _ _ _ (eq-eqb c.phase exchange_phase h) p

  pub transition_pause : c.phase ≡ reset_pause_phase → m ≡ reset_pause_transition e → m ≡ transition_of c x e
  unfolding transition_of
  transition_pause h p =
      at_false m _ _ _ (other 2 h 0 refl) (at_false m _ _ _ (other 2 h 1 refl) (at_true m _ _ _ (eq-eqb c.phase reset_pause_phase h) p))

  pub transition_reads : c.phase ≡ opening_reads_phase → m ≡ opening_reads_transition c x e → m ≡ transition_of c x e
  unfolding transition_of
  transition_reads h p =
      at_false m _ _ _ (other 4 h 0 refl) (at_false m _ _ _ (other 4 h 1 refl) (at_false m _ _ _ (other 4 h 2 refl) (at_false m _ _ _ (other 4 h 3 refl)
      (at_true m _ _ _ (eq-eqb c.phase opening_reads_phase h) p))))

  pub transition_awaited : c.phase ≡ pause_phase → m ≡ pause_transition c e → m ≡ transition_of c x e
  unfolding transition_of
  transition_awaited h p =
      at_false m _ _ _ (other 5 h 0 refl) (at_false m _ _ _ (other 5 h 1 refl) (at_false m _ _ _ (other 5 h 2 refl) (at_false m _ _ _ (other 5 h 3 refl)
      (at_false m _ _ _ (other 5 h 4 refl) (at_true m _ _ _ (eq-eqb c.phase pause_phase h) p)))))
