-- A script with another behind it, in a session: it goes the way of the script alone until that ends.
use Rattle.std.specs.Prelude.{◌≡◌, refl, Bool, true, false, List, ℕ, suc, ◌+◌, eqb}
use Rattle.std.proofs.Common.{arith}
use Rattle.errors.specs.declared.Fault.{Fault}
use Rattle.framing.specs.Frames.{ack}
use Rattle.exchange.specs.Packets.{command_frame, Reply, response, failed}
use Rattle.exchange.specs.Exchange.{write, Event, ok, bad, pkt, time, fail, late, slept, unfit, pending, ended}
use Rattle.exchange.specs.Exchange.{ExchangePhase, sending, reading, waiting, cancelling, rejecting, draining}
use Rattle.exchange.specs.Exchange.{ExchangeResult, after_ack, advance}
use Rattle.protocol.specs.Scripts.{Byte, Answer, Script, finish, command, reset, field_pause, either, if_else, and_then}
use Rattle.protocol.specs.Discovery.{detect_type_f_of}
use Rattle.protocol.specs.Session.{by_reply, of_reset, Phase, exchange, reset_ack, reset_pause, field_pausing, opening_ack, opening_reads}
use Rattle.protocol.specs.Session.{CallResult, start_script, after_exchange, progress}
use Rattle.protocol.specs.Record.{ordered, one_if, is_command}
use Rattle.protocol.proofs.RunLaws.{sending_cases, reading_cases, waiting_cases, cancelling_cases, rejecting_cases, draining_cases}
use Rattle.protocol.specs.Laws.{split, frame_not_ack, ack_is_ack}
use Rattle.protocol.specs.PollAlong.{NoReset, Bare}

no_reset_either : (f : List ℕ → Script) (g : Fault → Script) → ((bs : List ℕ) → NoReset (f bs)) → ((e : Fault) → NoReset (g e)) → (r : Reply) → NoReset (either f g r)
no_reset_either f g h k (response bs) = h bs
no_reset_either f g h k (failed e) = k e

no_reset_if : (b : Bool) (x y : Script) → NoReset x → NoReset y → NoReset (if_else b x y)
no_reset_if true x y h k = h
no_reset_if false x y h k = k

no_answer : Unit {0}
no_answer = tt

pub detect_no_reset : (code : ℕ) (req : List ℕ) → NoReset (detect_type_f_of code req)
detect_no_reset code req = search (no_reset_either, no_reset_if, no_answer) depth 30

bare_ack : is_command (ordered (write ack)) ≡ false
bare_ack = rw ack_is_ack refl

bare_after-ack : (code clock : ℕ) → Bare (after_ack code clock)
bare_after-ack code clock = split Bare (eqb clock 0) _ _ (λ _. bare_ack) (λ _. refl)

pub bare : (step : ExchangePhase) (e : Event) → Bare (advance step e)
bare (sending code clock) = sending_cases (λ e r. Bare r) (λ _. tt) code clock refl bare_ack
bare (reading code clock) = reading_cases (λ e r. Bare r) (λ _. tt) code clock (λ _. tt) tt (λ _ _. bare_after-ack code clock) (λ _. tt) (λ _. bare_ack)
bare (waiting code clock) = waiting_cases (λ e r. Bare r) (λ _. tt) code clock (λ _. tt) tt (λ _ _. bare_after-ack code clock) (λ _. tt) bare_ack
bare (cancelling r) = cancelling_cases (λ e r. Bare r) (λ _. tt) r (λ _. tt)
bare rejecting = rejecting_cases (λ e r. Bare r) (λ _. tt) (λ _. refl)
bare draining = draining_cases (λ e r. Bare r) (λ _. tt) (λ _. tt) (λ _ _. refl) refl

-- ---- side by side

-- f: what follows the answer. k: the commands so far.
module _ (f : ℕ → Answer Byte → Script) where
  -- the first phase is the second with f behind it
  abbrev pub Along : ℕ → Phase → Phase → Type 0
  Along k p (exchange step (by_reply g)) = (p ≡ exchange step (by_reply (λ r. and_then (g r) k f))) × ((r : Reply) → NoReset (g r))
  Along k p (exchange step (of_reset s)) = ⊥
  Along k p (reset_ack s) = ⊥
  Along k p (reset_pause s) = ⊥
  Along k p (field_pausing s) = (p ≡ field_pausing (and_then s k f)) × NoReset s
  Along k p (opening_ack s) = ⊥
  Along k p (opening_reads s) = ⊥

  -- of what the two lead to; where the second ends, f starts
  abbrev pub Goes : ℕ → CallResult → CallResult → Type 0
  Goes k r unfit = r ≡ unfit
  Goes k r (pending x q) = (p : Phase) × (r ≡ pending x p) × Along (one_if (is_command (ordered x)) + k) p q
  Goes k r (ended a) = r ≡ start_script (f k a)

  along-start : (s : Script) (k : ℕ) → NoReset s → Goes k (start_script (and_then s k f)) (start_script s)
  along-start (finish a) k h = refl
  along-start (command code clock bytes g) k h =
      let e : one_if (is_command (ordered (write (command_frame code bytes)))) + k ≡ suc k = rw (frame_not_ack code bytes) (omega arith) in
      (_, refl, (rw e refl, h))
  along-start (reset s) k h = absurd h
  along-start (field_pause s) k h = let e : 0 + k ≡ k = omega arith in (_, refl, (rw e refl, h))

  along-exchange : (g : Reply → Script) (k : ℕ) → ((r : Reply) → NoReset (g r)) → (r : ExchangeResult) → Bare r
      → Goes k (after_exchange (by_reply (λ r. and_then (g r) k f)) r) (after_exchange (by_reply g) r)
  along-exchange g k h unfit i = refl
  along-exchange g k h (pending x step) i = let e : one_if (is_command (ordered x)) + k ≡ k = rw i (omega arith) in (_, refl, (rw e refl, h))
  along-exchange g k h (ended r) i = along-start (g r) k (h r)

  along-pause : (s : Script) (k : ℕ) → NoReset s → (e : Event) → Goes k (progress (field_pausing (and_then s k f)) e) (progress (field_pausing s) e)
  along-pause s k h ok = refl
  along-pause s k h bad = refl
  along-pause s k h (pkt p) = refl
  along-pause s k h time = refl
  along-pause s k h fail = refl
  along-pause s k h late = refl
  along-pause s k h slept = along-start s k h

  pub along : (k : ℕ) (p q : Phase) → Along k p q → (e : Event) → Goes k (progress p e) (progress q e)
  along k p (exchange step (by_reply g)) (i, h) e = rw i (along-exchange g k h (advance step e) (bare step e))
  along k p (exchange step (of_reset s)) i e = absurd i
  along k p (reset_ack s) i e = absurd i
  along k p (reset_pause s) i e = absurd i
  along k p (field_pausing s) (i, h) e = rw i (along-pause s k h e)
  along k p (opening_ack s) i e = absurd i
  along k p (opening_reads s) i e = absurd i
