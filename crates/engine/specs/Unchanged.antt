-- Refusals at once change neither session nor buffer, of any session; a fault ends the call, leaves the buffer as it was and the
-- session free.
use Rattle.std.specs.Prelude.{◌≡◌, ℕ, ◌≤◌, Bool, true, false, List, [], length, ◌==◌, ◌≢◌, nat_le, nat_lt}
use Rattle.std.proofs.Math.Path.{refl, ap}
use Rattle.std.proofs.Common.{arith, ltb-false}
use Rattle.errors.specs.Choice.{pick}
use Rattle.errors.specs.declared.Refusal.{Refusal}
use Rattle.errors.specs.declared.Refusal.TheVariants.{OutOfTurn, ShortBuffer, OverLong, BadArgument}
use Rattle.errors.specs.declared.Fault.{Fault}
use Rattle.exchange.specs.Exchange.{Order, write, read, drain, pause, Event}
use Rattle.exchange.specs.declared.Exchange.{Exchange}
use Rattle.exchange.specs.Steps.{draining_phase}
use Rattle.framing.specs.Valid.{both_left, both_right}
use Rattle.protocol.specs.Scripts.{Answer, done, type1, uid_and_ats, nothing, refused, refused_after}
use Rattle.protocol.specs.Starts.{data_limit}
use Rattle.protocol.specs.Session.{buffer_need, last_caller}
use Rattle.stages.specs.Starts.{Start, staged, sends as sends_first, refuses as refuses_at_once}
use Rattle.stages.specs.Stages.{Decision, send, keep, next, put as put_by, pause as pause_for, ends as ends_decision}
use Rattle.stages.specs.Decided.{found_limit}
use Rattle.calls.specs.Firsts.{start_for}
use Rattle.engine.specs.Books.{Books, is_in_range, by_caller, ended, booked}
use Rattle.engine.specs.Booking.{ended_range}
use Rattle.engine.specs.Laws.{valid_caller}
use Rattle.engine.specs.Core.{Arrays, After, after, unchanged, idle, orders_of, stage_of, ends_of, answers_of, performs_of, replies_of, fails_of, transitioned_of, is_long_of, admitted_of, event_core, open_core, start_on}
use Rattle.engine.specs.Core.{is_valid_of as valid_core}
use Rattle.engine.specs.Exchanges.{by_pick}
use Rattle.engine.specs.Inputs.{Input, opens as opened, asks, gives, buffer_of, step_with, after_input}
use Rattle.engine.specs.Transitions.{Transitioned, unfitting, orders, sends as sends_stage, reset_done, replies, refuses, fits, transition_of, valid_call}
use Rattle.engine.specs.SessionSteps.{State, state, state_in, valid, is_valid_state, is_free, is_admitted, with_room, with_caller, booked_after_of, event_after, open_after, start_after, arrays_in, stepped_of}
use Rattle.engine.specs.declared.call.Call.{Call}
use Rattle.engine.specs.declared.running.Core.{Core}
use Rattle.engine.specs.declared.running.Output.{Output}
use Rattle.engine.specs.declared.running.Output.TheVariants.{Ack, Command, Read, Drain, Pause, Done, Type1, UidAndAts, Nothing, Failed, FailedAfter, Refused}
use Rattle.engine.specs.declared.session.Session.{Session}
use Rattle.calls.specs.Kinds.{no_call_kind}

-- a fault 1, a refusal at once 2, any other output 0
abbrev class : Output → ℕ
class Ack = 0
class (Command n) = 0
class (Read ms) = 0
class Drain = 0
class (Pause us) = 0
class (Done n) = 0
class (Type1 n) = 0
class (UidAndAts n uid ats) = 0
class Nothing = 0
class (Failed r) = 1
class (FailedAfter r n) = 1
class (Refused r) = 2

other-class : {o p : Output} → o ≡ p → (class o ≢ class p) → ⊥
other-class e h = h (ap class e)

-- ---- the running call

module _ (s : Core) (f : Arrays) (b : List ℕ) where
  -- refused at once, nothing has changed; after a fault no call runs, and the buffer is the same
  record UnchangedIfRefused (a : After Core) : Type 0 where
    early : (r : Refusal) → a.output ≡ Refused r → a ≡ unchanged s f r b
    late : class a.output ≡ 1 → (a.state ≡ idle s) × (a.buffer ≡ b)

  same : (r : Refusal) → UnchangedIfRefused (unchanged s f r b)
  same r = record { early = λ q e. ap (λ o. after s f o b) e; late = λ e. absurd (omega (arith, e)) }

  fails : (o : Output) → class o ≡ 1 → UnchangedIfRefused (ends_of s f o b)
  fails o h = record { early = λ q e. absurd (other-class e (λ z. omega (arith, z, h))); late = λ e. (refl, refl) }

  -- an order or an answer
  goes_on : (a : After Core) → class a.output ≡ 0 → UnchangedIfRefused a
  goes_on a h = record {
    early = λ q e. absurd (other-class e (λ z. omega (arith, z, h)));
    late = λ e. absurd (omega (arith, e, h));
  }

  order : (t : Core) (g : Arrays) (o : Order) (c : Call) (x : Exchange) → UnchangedIfRefused (orders_of t g o c x b)
  order t g (write bytes) c x = goes_on _ refl
  order t g (read ms) c x = goes_on _ refl
  order t g drain c x = goes_on _ refl
  order t g (pause us) c x = goes_on _ refl

  stage : (t : Core) (g : Arrays) (c : Call) → UnchangedIfRefused (stage_of t g c b)
  unfolding stage_of
  stage t g c = goes_on _ refl

  answers : (a : Answer ℕ) → UnchangedIfRefused (answers_of s f a b)
  answers (done bytes) = goes_on _ refl
  answers (type1 bytes) = goes_on _ refl
  answers (uid_and_ats bytes uid ats) = goes_on _ refl
  answers nothing = goes_on _ refl
  answers (refused r) = fails (Failed r) refl
  answers (refused_after r n) = fails (FailedAfter r n) refl

  decision : (d : Decision) → UnchangedIfRefused (performs_of s f d b)
  unfolding performs_of
  decision (send n) = stage _ _ _
  decision (keep n bytes) = stage _ _ _
  decision (next n c bytes) = stage _ _ _
  decision (put_by n bytes) = stage _ _ _
  decision (pause_for us n) = goes_on _ refl
  decision (ends_decision a) = answers a

  reply : (bytes : List ℕ) → UnchangedIfRefused (replies_of s f bytes b)
  unfolding replies_of
  reply bytes = decision _

  failure : (r : Fault) → UnchangedIfRefused (fails_of s f r b)
  unfolding fails_of
  failure r = decision _

  transition : (m : Transitioned) → UnchangedIfRefused (transitioned_of s f m b)
  unfolding transitioned_of
  transition unfitting = same OutOfTurn
  transition (orders o c x) = order s f o c x
  transition (sends_stage c) = stage s f c
  transition reset_done = reply []
  transition (replies bytes) = reply bytes
  transition (refuses r) = failure r

  event_unchanged : (e : Event) → UnchangedIfRefused (event_core s f e b)
  unfolding event_core admitted_of
  event_unchanged e =
      let m = transition_of s.call s.exchange e in
      by_pick UnchangedIfRefused (s.call.kind == no_call_kind) _ _ (same OutOfTurn)
      (by_pick UnchangedIfRefused (fits m) _ _
      (by_pick UnchangedIfRefused (nat_lt (length b) buffer_need) _ _ (same ShortBuffer) (by_pick UnchangedIfRefused (is_long_of e) _ _ (same OverLong) (transition m)))
      (same OutOfTurn))

  start-unchanged : (x : Start) → UnchangedIfRefused (start_on s f x b)
  unfolding start_on stage_of
  start-unchanged (refuses_at_once r) = same r
  start-unchanged (sends_first kind m) = goes_on _ refl
  start-unchanged (staged kind pending) = goes_on _ refl

-- ---- the session's numbers

fault_booked : (k : ℕ) (t : Bool) (b : Books) (o : Output) → class o ≡ 1 → booked k t o b ≡ ended (by_caller k b) t 0
fault_booked k t b Ack e = absurd (omega (arith, e))
fault_booked k t b (Command n) e = absurd (omega (arith, e))
fault_booked k t b (Read ms) e = absurd (omega (arith, e))
fault_booked k t b Drain e = absurd (omega (arith, e))
fault_booked k t b (Pause us) e = absurd (omega (arith, e))
fault_booked k t b (Done n) e = absurd (omega (arith, e))
fault_booked k t b (Type1 n) e = absurd (omega (arith, e))
fault_booked k t b (UidAndAts n uid ats) e = absurd (omega (arith, e))
fault_booked k t b Nothing e = absurd (omega (arith, e))
fault_booked k t b (Failed r) e = refl
fault_booked k t b (FailedAfter r n) e = refl
fault_booked k t b (Refused r) e = absurd (omega (arith, e))

-- numbers whose call has ended are free
idle-free : (s : Core) (b : Books) → valid_core s ≡ true → is_in_range b ≡ true → is_free (state (idle s) b) ≡ true
unfolding valid valid_core valid_call
idle-free s b h r =
    let k = both_right (nat_le s.command data_limit) _ h in
    rw (both_left (nat_le s.command data_limit) _ h, both_left (nat_le s.found found_limit) _ k, both_left (nat_le s.exchange.phase draining_phase) _ (both_right (nat_le s.found found_limit) _ k), r) refl

by_cases : (P : After State → Type 0) (t : Bool) (x y : After State) → (t ≡ true → P x) → (t ≡ false → P y) → P (pick t x y)
unfolding pick
by_cases P true x y h k = h refl
by_cases P false x y h k = k refl

module _ (s : State) (f : Arrays) (b : List ℕ) where
  record Stays (a : After State) : Type 0 where
    early : (r : Refusal) → a.output ≡ Refused r → a ≡ unchanged s f r b
    late : class a.output ≡ 1 → (is_free a.state ≡ true) × (a.buffer ≡ b)

  refuses-once : (r : Refusal) → Stays (unchanged s f r b)
  refuses-once r = record { early = λ q e. ap (λ o. after s f o b) e; late = λ e. absurd (omega (arith, e)) }

  -- what is booked of the running call
  booked-stays : (k : ℕ) (t : Bool) (a : After Core) → k ≤ last_caller → is_valid_state s ≡ true → UnchangedIfRefused s.core f b a → Stays (booked_after_of k t s.books a)
  unfolding valid
  booked-stays c t a few valid k = record {
    early = λ r e. ap (booked_after_of c t s.books) (k.early r e);
    late = λ e.
        let l = k.late e in (
          rw (l.0, fault_booked c t s.books a.output e) (idle-free s.core (ended (by_caller c s.books) t 0) (both_left (valid_core s.core) _ valid) (ended_range s.books c t (both_right (valid_core s.core) _ valid) few)),
          l.1,
        );
  }

  -- a call: 1, 2, a caller's 4, and then what it does
  called-stays : (t : Bool) (k : ℕ) (a : After State) → (t ≡ true → k ≤ last_caller → Stays a) → Stays (pick t (with_room s f b (with_caller s f k b a)) (unchanged s f OutOfTurn b))
  called-stays t k a h =
      by_cases Stays t _ _
      (λ admitted. by_pick Stays (nat_lt (length b) buffer_need) _ _ (refuses-once ShortBuffer)
      (by_cases Stays (nat_lt last_caller k) _ _ (λ _. refuses-once BadArgument) (λ few. h admitted (ltb-false last_caller k few))))
      (λ _. refuses-once OutOfTurn)

  open_stays : (k mode : ℕ) → Stays (open_after s f k mode b)
  unfolding open_after open_core
  open_stays k mode =
      called-stays (is_free s) k _ (λ _ _. by_pick Stays (nat_lt 1 mode) _ _ (refuses-once BadArgument)
      (record { early = λ r e. absurd (other-class e (λ z. omega (arith, z))); late = λ e. absurd (omega (arith, e)) }))

  start-stays : (k : ℕ) (x : Start) → Stays (start_after s f k x b)
  unfolding start_after
  start-stays k x =
      called-stays (is_admitted s) k _
      (λ admitted few. booked-stays k false _ few (both_left (is_valid_state s) _ (both_left (is_free s) _ admitted)) (start-unchanged s.core f b x))

  event-stays : (e : Event) → Stays (event_after s f e b)
  unfolding event_after
  event-stays e =
      by_cases Stays (is_valid_state s) _ _ (λ valid. booked-stays _ _ _ (valid_caller s valid) valid (event_unchanged s.core f b _)) (λ _. refuses-once OutOfTurn)

all_stay : (s : State) (f : Arrays) (i : Input) → Stays s f (buffer_of i) (after_input s f i)
all_stay s f (opened k mode b) = open_stays s f b k mode
all_stay s f (asks k q b) = start-stays s f b k (start_for q)
all_stay s f (gives e b) = event-stays s f b e

-- ---- the session

stays : (s : Session) (i : Input) → Stays (state_in s) (arrays_in s) (buffer_of i) (after_input (state_in s) (arrays_in s) i)
stays s i = all_stay (state_in s) (arrays_in s) i

pub refused_unchanged : (s : Session) (i : Input) (r : Refusal) → (step_with s i).output ≡ Refused r
    → step_with s i ≡ record { session = s; output = Refused r; buffer = buffer_of i }
refused_unchanged s i r e = ap stepped_of ((stays s i).early r e)

ends_free : (s : Session) (i : Input) → class (step_with s i).output ≡ 1
    → (is_free (state_in (step_with s i).session) ≡ true) × ((step_with s i).buffer ≡ buffer_of i)
ends_free s i e = (stays s i).late e

pub refused_ends : (s : Session) (i : Input) (r : Fault) → (step_with s i).output ≡ Failed r
    → (is_free (state_in (step_with s i).session) ≡ true) × ((step_with s i).buffer ≡ buffer_of i)
refused_ends s i r e = ends_free s i (ap class e)

-- the same of a list's
pub list_ends : (s : Session) (i : Input) (r : Fault) (n : ℕ) → (step_with s i).output ≡ FailedAfter r n
    → (is_free (state_in (step_with s i).session) ≡ true) × ((step_with s i).buffer ≡ buffer_of i)
list_ends s i r n e = ends_free s i (ap class e)
