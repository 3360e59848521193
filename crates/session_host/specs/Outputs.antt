-- What an outcome and the buffer say: the order, the answer or the refusal.
use Rattle.std.specs.Prelude.{◌≡◌, ℕ, ◌≤◌, cond, List, [], ◌∷◌, take, ◌==◌, slice_index_or}
use Rattle.std.specs.Prelude.{refl}
use Rattle.std.proofs.Common.{ap, arith}
use Rattle.errors.specs.Refusals.{numbered, fault_numbered}
use Rattle.errors.specs.declared.Numbered.{Numbered}
use Rattle.errors.specs.declared.Refusal.{Refusal}
use Rattle.errors.specs.declared.Refusal.TheVariants.{OutOfTurn, ShortBuffer, OverLong, BadArgument, Bitrate, NotSendable}
use Rattle.errors.specs.declared.Fault.{Fault}
use Rattle.errors.specs.declared.Fault.TheVariants.{Transport, TimeOut, FalseStart, BrokenFrame, Length, FrameKind, Identifier, Code, Status, ShortResponse, NoCard, CrcA, Rate, CardStatus, OtherCard, UidLayout}
use Rattle.exchange.specs.Exchange.{write, read, drain, pause}
use Rattle.protocol.specs.Scripts.{done, type1, uid_and_ats, nothing, refused, refused_after}
use Rattle.protocol.specs.Session.{Output as Given, orders, answers, rejects}
use Rattle.engine.specs.Inputs.{output_of}
use Rattle.engine.specs.declared.running.Output.{Output}
use Rattle.engine.specs.declared.running.Output.TheVariants.{Ack, Command, Read, Drain, Pause, Done, Type1, UidAndAts, Nothing, Failed, FailedAfter, Refused}
use Rattle.session_host.specs.Outcomes.{outcome_of}
use Rattle.session_host.specs.declared.outcome.Outcome.{Outcome}

-- the first of a list that has this number; x where none has
unfoldable pub with_number : {A : Type 0} → (A → Numbered) → A → List A → ℕ → A
with_number f x [] n = x
with_number f x (y ∷ ys) n = cond ((f y).number == n) y (with_number f x ys n)

-- at once
abbrev pub refusal_by : ℕ → Refusal
refusal_by = with_number numbered OutOfTurn (OutOfTurn ∷ ShortBuffer ∷ OverLong ∷ BadArgument ∷ Bitrate ∷ NotSendable ∷ [])

-- of a call that ran, with the status byte of 15 and the status flags of 20
abbrev pub fault_by : ℕ → ℕ → ℕ → Fault
fault_by number status status2 =
    with_number fault_numbered Transport
    (Transport
    ∷ TimeOut
    ∷ FalseStart
    ∷ BrokenFrame
    ∷ Length
    ∷ FrameKind
    ∷ Identifier
    ∷ Code
    ∷ Status status
    ∷ ShortResponse
    ∷ NoCard
    ∷ CrcA
    ∷ Rate
    ∷ CardStatus status status2
    ∷ OtherCard
    ∷ UidLayout
    ∷ [])
    number

abbrev fault_in : Outcome → Fault
fault_in o = fault_by o.refusal o.status o.status2

-- by the kind; bytes stand at the buffer's start
abbrev pub output_in : Outcome → List ℕ → Given ℕ
output_in o b =
    slice_index_or
    (orders (write (take o.len b))
    ∷ orders (read o.time)
    ∷ orders drain
    ∷ orders (pause o.time)
    ∷ answers (done (take o.len b))
    ∷ answers (type1 (take o.len b))
    ∷ answers nothing
    ∷ answers (refused (fault_in o))
    ∷ answers (refused_after (fault_in o) o.finished)
    ∷ answers (uid_and_ats (take o.len b) o.uid o.ats)
    ∷ [])
    o.kind
    (rejects (refusal_by o.refusal))

refusal_is : (e : Refusal) → refusal_by (numbered e).number ≡ e
unfolding with_number
refusal_is OutOfTurn = refl
refusal_is ShortBuffer = refl
refusal_is OverLong = refl
refusal_is BadArgument = refl
refusal_is Bitrate = refl
refusal_is NotSendable = refl

-- a fault's number and values say which it is; its number is none of the first six
pub fault_is : (e : Fault) → (fault_by (fault_numbered e).number (fault_numbered e).status (fault_numbered e).status2 ≡ e) × (7 ≤ (fault_numbered e).number)
unfolding with_number
fault_is Transport = (refl, omega arith)
fault_is TimeOut = (refl, omega arith)
fault_is FalseStart = (refl, omega arith)
fault_is BrokenFrame = (refl, omega arith)
fault_is Length = (refl, omega arith)
fault_is FrameKind = (refl, omega arith)
fault_is Identifier = (refl, omega arith)
fault_is Code = (refl, omega arith)
fault_is (Status s) = (refl, omega arith)
fault_is ShortResponse = (refl, omega arith)
fault_is NoCard = (refl, omega arith)
fault_is CrcA = (refl, omega arith)
fault_is Rate = (refl, omega arith)
fault_is (CardStatus s t) = (refl, omega arith)
fault_is OtherCard = (refl, omega arith)
fault_is UidLayout = (refl, omega arith)

-- nothing of an output is lost in the numbers
pub output_is : (o : Output) (b : List ℕ) → output_in (outcome_of o) b ≡ output_of o b
output_is Ack b = refl
output_is (Command n) b = refl
output_is (Read ms) b = refl
output_is Drain b = refl
output_is (Pause us) b = refl
output_is (Done n) b = refl
output_is (Type1 n) b = refl
output_is (UidAndAts n uid ats) b = refl
output_is Nothing b = refl
output_is (Failed e) b = ap (λ (f : Fault). answers (refused f)) (fault_is e).0
output_is (FailedAfter e n) b = ap (λ (f : Fault). answers (refused_after f n)) (fault_is e).0
output_is (Refused e) b = ap rejects (refusal_is e)
