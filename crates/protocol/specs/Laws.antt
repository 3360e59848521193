-- Laws of tests, of faults, of scripts one behind the other, of events by the order that they answer, of frames, and of a call's lines.
use Rattle.std.specs.Prelude.{◌≡◌, refl, Bool, true, false, cond, List, [], ◌∷◌, ℕ, ◌+◌, ◌%◌, ◌≤◌, ◌<◌, eqb, ltb, length, Option, Some, None}
use Rattle.std.proofs.Common.{ap, arith, eq-eqb, ne_eqb}
use Rattle.framing.specs.Enclose.{length-frame}
use Rattle.framing.specs.Frames.{ack, data_start_of}
use Rattle.errors.specs.Choice.{pick, same_self, same_not}
use Rattle.framing.specs.Parse.{parse_of, payload_of}
use Rattle.framing.specs.Settings.{rcs956, command_payload}
use Rattle.framing.specs.declared.FrameType.{FrameType}
use Rattle.framing.specs.declared.FrameType.TheVariants.{Ack, Error, Data}
use Rattle.framing.specs.declared.LengthEncoding.TheVariants.{NormalOrExtendedBigEndian}
use Rattle.errors.specs.declared.Fault.{Fault}
use Rattle.errors.specs.declared.Fault.TheVariants.{Transport, TimeOut, FalseStart, BrokenFrame, Length, FrameKind, Identifier, Code, Status, ShortResponse, NoCard, CrcA, Rate, CardStatus, OtherCard, UidLayout}
use Rattle.exchange.specs.Packets.{command_frame, is_ack, Reply, code_reply, payload_reply, filling, frame_reply, reply_of, error_identifier}
use Rattle.exchange.specs.Exchange.{Event, ok, bad, pkt, time, fail, late, slept, on_write, on_read, on_pause}
use Rattle.protocol.specs.Scripts.{Byte, Answer, Script, if_else, and_then}
use Rattle.protocol.specs.Discovery.{by_no_card}
use Rattle.protocol.specs.Record.{Item, Record, lines_of, line}
use Rattle.protocol.specs.Sound.{OfExchange}
use Rattle.framing.specs.Names.{controller_to_host}

-- a test, by cases, with the equation
pub split {ℓ} : {X : Type 0} (P : X → Type ℓ) (b : Bool) (x y : X) → (b ≡ true → P x) → (b ≡ false → P y) → P (cond b x y)
split P true x y f g = f refl
split P false x y f g = g refl

-- two that go by one test
pub split₂ {ℓ} : {X Y : Type 0} (P : X → Y → Type ℓ) (b : Bool) (x y : X) (u v : Y) → (b ≡ true → P x u) → (b ≡ false → P y v) → P (cond b x y) (cond b u v)
split₂ P true x y u v f g = f refl
split₂ P false x y u v f g = g refl

-- 17, or another fault
pub by_fault : (P : Fault → Type 0) → P NoCard → ((r : Fault) → ((A : Type 0) (x y : A) → by_no_card x y r ≡ y) → P r) → (r : Fault) → P r
by_fault P h k Transport = k Transport (λ A x y. refl)
by_fault P h k TimeOut = k TimeOut (λ A x y. refl)
by_fault P h k FalseStart = k FalseStart (λ A x y. refl)
by_fault P h k BrokenFrame = k BrokenFrame (λ A x y. refl)
by_fault P h k Length = k Length (λ A x y. refl)
by_fault P h k FrameKind = k FrameKind (λ A x y. refl)
by_fault P h k Identifier = k Identifier (λ A x y. refl)
by_fault P h k Code = k Code (λ A x y. refl)
by_fault P h k (Status s) = k (Status s) (λ A x y. refl)
by_fault P h k ShortResponse = k ShortResponse (λ A x y. refl)
by_fault P h k NoCard = h
by_fault P h k CrcA = k CrcA (λ A x y. refl)
by_fault P h k Rate = k Rate (λ A x y. refl)
by_fault P h k (CardStatus s t) = k (CardStatus s t) (λ A x y. refl)
by_fault P h k OtherCard = k OtherCard (λ A x y. refl)
by_fault P h k UidLayout = k UidLayout (λ A x y. refl)

-- an exchange never fails with 17
code_reply_lem : (code : ℕ) (bytes : List ℕ) → OfExchange (code_reply code bytes)
code_reply_lem code [] = refl
code_reply_lem code (b ∷ bytes) = split OfExchange (eqb b ((code + 1) % 256)) _ _ (λ _. tt) (λ _. refl)

payload_reply_lem : (code : ℕ) (bytes : List ℕ) → OfExchange (payload_reply code bytes)
payload_reply_lem code [] = refl
payload_reply_lem code (b ∷ bytes) =
    split OfExchange (eqb b error_identifier) _ _ (λ _. refl) (λ _. split OfExchange (eqb b controller_to_host) _ _ (λ _. code_reply_lem code bytes) (λ _. refl))

filling-reply : (frame : ℕ) (packet : List ℕ) (r : Reply) → OfExchange r → OfExchange (filling frame packet r)
filling-reply frame packet r h = split OfExchange (eqb frame (length packet)) _ _ (λ _. h) (λ _. refl)

frame-reply : (code : ℕ) (packet : List ℕ) (f : Option FrameType) → OfExchange (frame_reply code packet f)
frame-reply code packet None = refl
frame-reply code packet (Some (Ack frame)) = filling-reply frame packet _ refl
frame-reply code packet (Some (Error frame)) = filling-reply frame packet _ refl
frame-reply code packet (Some (Data start len frame)) = filling-reply frame packet _ (payload_reply_lem code (payload_of (Some (Data start len frame)) packet))

pub of_exchange : (code : ℕ) (packet : List ℕ) → OfExchange (reply_of code packet)
unfolding reply_of
of_exchange code packet = frame-reply code packet (parse_of rcs956 packet)

-- a script behind one that begins with a test
module _ (k : ℕ) (f : ℕ → Answer Byte → Script) where
  pub then_if : (b : Bool) (x y : Script) → and_then (if_else b x y) k f ≡ if_else b (and_then x k f) (and_then y k f)
  then_if true x y = refl
  then_if false x y = refl

-- an event, by the kind of order that it answers
module _ {X : Type 0} (P : Event → X → Type 0) (u : X) (others : (e : Event) → P e u) where
  pub by_write : (a b : X) → P ok a → P bad b → (e : Event) → P e (on_write u a b e)
  by_write a b x y ok = x
  by_write a b x y bad = y
  by_write a b x y (pkt p) = others (pkt p)
  by_write a b x y time = others time
  by_write a b x y fail = others fail
  by_write a b x y late = others late
  by_write a b x y slept = others slept

  pub by_read : (p : List ℕ → X) (t f d : X) → ((bs : List ℕ) → P (pkt bs) (p bs)) → P time t → P fail f → P late d → (e : Event) → P e (on_read u p t f d e)
  by_read p t f d x y z v ok = others ok
  by_read p t f d x y z v bad = others bad
  by_read p t f d x y z v (pkt bs) = x bs
  by_read p t f d x y z v time = y
  by_read p t f d x y z v fail = z
  by_read p t f d x y z v late = v
  by_read p t f d x y z v slept = others slept

  pub by_pause : (a : X) → P slept a → (e : Event) → P e (on_pause u a e)
  by_pause a x ok = others ok
  by_pause a x bad = others bad
  by_pause a x (pkt p) = others (pkt p)
  by_pause a x time = others time
  by_pause a x fail = others fail
  by_pause a x late = others late
  by_pause a x slept = x

-- no command frame is the bare ACK: it is longer
longer : (x : List ℕ) → 6 < length x → is_ack x ≡ false
unfolding is_ack
longer x h = same_not ack x (λ e. omega (arith, ap length e))

start_least : (n : ℕ) → 5 ≤ data_start_of NormalOrExtendedBigEndian n
unfolding data_start_of pick
start_least n = go (ltb n 256)
  where
    go : (t : Bool) → 5 ≤ pick t 5 8
    go true = omega arith
    go false = omega arith

pub frame_not_ack : (code : ℕ) (bytes : List ℕ) → is_ack (command_frame code bytes) ≡ false
unfolding command_frame
frame_not_ack code bytes =
    let payload : List ℕ = command_payload code bytes in
    longer (command_frame code bytes) (rw (length-frame NormalOrExtendedBigEndian payload) (omega (arith, start_least (length payload))))

pub ack_is_ack : is_ack ack ≡ true
unfolding is_ack
ack_is_ack = same_self ack

-- lines of the call, and of another
pub lines_own : (n : ℕ) (l : Record) (x : Item) (xs : List Item) → lines_of n l ≡ xs → lines_of n (line n x ∷ l) ≡ x ∷ xs
lines_own n l x xs e = rw (eq-eqb n n refl, e)

pub lines_other : (m n : ℕ) (l : Record) (x : Item) → (m ≡ n → ⊥) → lines_of m (line n x ∷ l) ≡ lines_of m l
lines_other m n l x h = rw (ne_eqb m n h)
