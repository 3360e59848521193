-- What the place of a response says of the packet's reply, for whoever holds the part that stands there.
use Rattle.std.specs.Prelude.{◌≡◌, ℕ, ◌+◌, ◌-◌, ◌%◌, ◌≤◌, Bool, true, false, cond, List, [], ◌∷◌, length, take, drop, ◌==◌, ◌≢◌, Option, Some, None}
use Rattle.std.proofs.Math.Path.{refl}
use Rattle.std.proofs.Common.{sym, ap, ◌∙◌, true≢false, ⊎_elim, arith, length-append, length-take, length-drop, take_all, eq-eqb}
use Rattle.std.proofs.lemmas.Bool.{false≢true}
use Rattle.errors.specs.declared.Fault.{Fault}
use Rattle.errors.specs.declared.Fault.TheVariants.{Length, FrameKind, Identifier, Code, Status}
use Rattle.framing.specs.Exact.{StartsWithFrame, data_exact}
use Rattle.framing.specs.Frames.{normal_head, normal_frame}
use Rattle.framing.specs.Lists.{Bytes}
use Rattle.framing.specs.Parse.{parse_of, payload_of}
use Rattle.framing.specs.Settings.{rcs956}
use Rattle.framing.specs.Valid.{length_framed, length_extended}
use Rattle.framing.specs.declared.FrameFormat.{FrameFormat}
use Rattle.framing.specs.declared.FrameType.{FrameType}
use Rattle.framing.specs.declared.FrameType.TheVariants.{Ack, Error, Data}
use Rattle.exchange.specs.Packets.{Reply, response, failed, code_reply, payload_reply, frame_reply, reply_of, error_identifier}
use Rattle.exchange.specs.Spans.{part_at, is_response, payload_span, response_span, payload_fault, frame_fault, fault_of}
use Rattle.framing.specs.Names.{controller_to_host}

-- a data frame lies inside the packet
pub data_within : (f : FrameFormat) (p : List ℕ) → Bytes p → (s n m : ℕ) → parse_of f p ≡ Some (Data s n m) → s + n ≤ length p
unfolding normal_frame
data_within f p bytes s n m e = go ((data_exact f p bytes s n m).0 e).1
  where
    go : StartsWithFrame f.length p s n m → s + n ≤ length p
    go w =
        let l = ap length w.whole ∙ length-append w.frame w.behind in
        ⊎_elim
        (λ h. omega (arith, ap length h.0, length_framed (normal_head (length w.payload)) w.payload))
        (λ h. omega (arith, ap length h.0, length_extended f.length w.payload))
        w.carries

-- a payload that is a response: identifier, code, and the response
answers : (code : ℕ) (l : List ℕ) → is_response (payload_reply code l) ≡ true → (2 ≤ length l) × (payload_reply code l ≡ response (drop 2 l))
answers code [] e = absurd (false≢true e)
answers code (b ∷ []) e = absurd (go (b == error_identifier) (b == controller_to_host) e)
  where
    go : (t u : Bool) → is_response (cond t (failed (Status error_identifier)) (cond u (failed Code) (failed Identifier))) ≢ true
    go true u h = false≢true h
    go false true h = false≢true h
    go false false h = false≢true h
answers code (b ∷ i ∷ bs) e = (omega arith, go (b == error_identifier) (b == controller_to_host) (i == (code + 1) % 256) e)
  where
    go : (t u v : Bool)
        → is_response (cond t (failed (Status error_identifier)) (cond u (cond v (response bs) (failed Code)) (failed Identifier))) ≡ true
        → cond t (failed (Status error_identifier)) (cond u (cond v (response bs) (failed Code)) (failed Identifier)) ≡ response bs
    go true u v h = absurd (false≢true h)
    go false true true h = refl
    go false true false h = absurd (false≢true h)
    go false false v h = absurd (false≢true h)

-- a payload that is none
refuses : (code : ℕ) (l : List ℕ) → is_response (payload_reply code l) ≡ false → payload_reply code l ≡ failed (payload_fault l)
refuses code [] e = refl
refuses code (b ∷ bs) e = go (b == error_identifier) (b == controller_to_host) e
  where
    late : (l : List ℕ) → is_response (code_reply code l) ≡ false → code_reply code l ≡ failed Code
    late [] h = refl
    late (i ∷ l) h = known (i == (code + 1) % 256) h
      where
        known : (v : Bool) → is_response (cond v (response l) (failed Code)) ≡ false → cond v (response l) (failed Code) ≡ failed Code
        known true g = absurd (true≢false g)
        known false g = refl

    go : (t u : Bool) → is_response (cond t (failed (Status error_identifier)) (cond u (code_reply code bs) (failed Identifier))) ≡ false
        → cond t (failed (Status error_identifier)) (cond u (code_reply code bs) (failed Identifier))
        ≡ failed (cond t (Status error_identifier) (cond u Code Identifier))
    go true u h = refl
    go false true h = late bs h
    go false false h = refl

-- the same of a frame that was found
frame-refuses : (code : ℕ) (p : List ℕ) (x : Option FrameType) → is_response (frame_reply code p x) ≡ false → frame_reply code p x ≡ failed (frame_fault p x)
unfolding payload_of
frame-refuses code p x e = by x e
  where
    kind : (t : Bool) → cond t (failed FrameKind) (failed Length) ≡ failed (cond t FrameKind Length)
    kind true = refl
    kind false = refl

    full : (l : List ℕ) (t : Bool) → is_response (cond t (payload_reply code l) (failed Length)) ≡ false
        → cond t (payload_reply code l) (failed Length) ≡ failed (cond t (payload_fault l) Length)
    full l true h = refuses code l h
    full l false h = refl

    by : (x : Option FrameType) → is_response (frame_reply code p x) ≡ false → frame_reply code p x ≡ failed (frame_fault p x)
    by (Some (Ack m)) h = kind (m == length p)
    by (Some (Error m)) h = kind (m == length p)
    by (Some (Data s n m)) h = full (take n (drop s p)) (m == length p) h
    by None h = refl

-- the payload of an intact response: the response stands behind identifier and code, at `&payload[2..]`
pub record Answered (reply : Reply) (packet payload : List ℕ) : Type 0 where
  pub long : 2 ≤ length payload
  pub rest : reply ≡ response (take (length payload - 2) (drop 2 payload))
  pub inside : length (take (length payload - 2) (drop 2 payload)) + 2 ≤ length packet
  pub whole : take (length payload - 2) (drop 2 payload) ≡ drop 2 payload

sliced : {reply : Reply} {p : List ℕ} (l : List ℕ) → (2 ≤ length l) × (reply ≡ response (drop 2 l)) → length l ≤ length p → Answered reply p l
sliced l two short =
    let all : take (length l - 2) (drop 2 l) ≡ drop 2 l = take_all (length l - 2) (drop 2 l) (rw (length-drop 2 l) (omega arith)) in
    record { long = two.0; rest = two.1 ∙ ap response (sym all); inside = rw (all, length-drop 2 l) (omega (arith, two.0)); whole = all }

frame_answers : (code : ℕ) (p : List ℕ) (x : Option FrameType) → is_response (frame_reply code p x) ≡ true
    → Answered (frame_reply code p x) p (part_at (payload_span x) p)
unfolding payload_of
frame_answers code p x e = by x e
  where
    kind : (t : Bool) → is_response (cond t (failed FrameKind) (failed Length)) ≢ true
    kind true h = false≢true h
    kind false h = false≢true h

    full : (s n : ℕ) (t : Bool) → is_response (cond t (payload_reply code (take n (drop s p))) (failed Length)) ≡ true
        → Answered (cond t (payload_reply code (take n (drop s p))) (failed Length)) p (take n (drop s p))
    full s n true h = sliced (take n (drop s p)) (answers code (take n (drop s p)) h) (omega (arith, length-take n (drop s p), length-drop s p))
    full s n false h = absurd (false≢true h)

    by : (x : Option FrameType) → is_response (frame_reply code p x) ≡ true → Answered (frame_reply code p x) p (part_at (payload_span x) p)
    by (Some (Ack m)) h = absurd (kind (m == length p) h)
    by (Some (Error m)) h = absurd (kind (m == length p) h)
    by (Some (Data s n m)) h = full s n (m == length p) h
    by None h = absurd (false≢true h)

-- what the part at the response's place says of the reply
module _ (code : ℕ) (packet payload : List ℕ) (known : payload ≡ part_at (response_span code packet) packet) where
  here : is_response (reply_of code packet) ≡ true → Answered (reply_of code packet) packet payload
  unfolding response_span reply_of
  here e = rw (known, e) (frame_answers code packet (parse_of rcs956 packet) e)

  gone : is_response (reply_of code packet) ≡ false → length payload ≡ 0
  unfolding response_span
  gone e = rw (known, e)

  pub no_response : length payload ≡ 0 → reply_of code packet ≡ failed (fault_of packet)
  unfolding fault_of reply_of
  no_response h = go (is_response (reply_of code packet)) refl
    where
      go : (t : Bool) → is_response (reply_of code packet) ≡ t → reply_of code packet ≡ failed (fault_of packet)
      go true e = let two = (here e).long in absurd (omega arith)
      go false e = frame-refuses code packet (parse_of rcs956 packet) e

  pub its_response : (length payload ≢ 0) → Answered (reply_of code packet) packet payload
  its_response h = go (is_response (reply_of code packet)) refl
    where
      go : (t : Bool) → is_response (reply_of code packet) ≡ t → Answered (reply_of code packet) packet payload
      go true e = here e
      go false e = absurd (h (gone e))

-- ---- what is found of a packet on the way to its response

-- the payload of a data frame that fills the packet
pub record Fills (packet payload : List ℕ) : Type 0 where
  pub start : ℕ
  pub len : ℕ
  pub frame : parse_of rcs956 packet ≡ Some (Data start len (length packet))
  pub is : payload ≡ take len (drop start packet)

-- there is no such frame, and the fault is one whatever the command's code is
abbrev pub Unfilled : List ℕ → Fault → Type 0
Unfilled packet fault = (code : ℕ) → reply_of code packet ≡ failed fault

-- the payload of the packet's response to a command of this code, at its place
pub record Responds (code : ℕ) (packet payload : List ℕ) : Type 0 where
  pub place : payload ≡ part_at (response_span code packet) packet
  pub answered : Answered (reply_of code packet) packet payload

-- the packet has no such response, by this fault
pub record Fails (code : ℕ) (packet : List ℕ) (fault : Fault) : Type 0 where
  pub reply : reply_of code packet ≡ failed fault
  pub first : fault ≡ fault_of packet

abbrev fault_in : Fault → Reply → Fault
fault_in r (response bytes) = r
fault_in r (failed fault) = fault

pub not_response : (code : ℕ) (packet : List ℕ) (fault : Fault) → reply_of code packet ≡ failed fault → Fails code packet fault
unfolding fault_of reply_of
not_response code packet fault e =
    record { reply = e; first = ap (fault_in fault) (sym e ∙ frame-refuses code packet (parse_of rcs956 packet) (ap is_response e)) }

-- where there is no response, the part at its place is empty
pub none_there : (code : ℕ) (packet : List ℕ) (fault : Fault) → Fails code packet fault → [] ≡ part_at (response_span code packet) packet
unfolding response_span
none_there code packet fault f = rw f.reply refl

module _ (code : ℕ) (packet payload : List ℕ) (fills : Fills packet payload) where
  pub by_payload : reply_of code packet ≡ payload_reply code payload
  unfolding reply_of payload_of
  by_payload = rw (fills.frame, eq-eqb (length packet) (length packet) refl, ← fills.is)

  pub responds : is_response (payload_reply code payload) ≡ true → Responds code packet payload
  unfolding response_span
  responds e =
      let t : is_response (reply_of code packet) ≡ true = ap is_response by_payload ∙ e in
      let place : payload ≡ part_at (response_span code packet) packet = rw (t, fills.frame) fills.is in
      record { place = place; answered = here code packet payload place t }

  pub fails : (fault : Fault) → payload_reply code payload ≡ failed fault → Fails code packet fault
  fails fault e = not_response code packet fault (by_payload ∙ e)

abbrev bytes_in : Reply → List ℕ
bytes_in (response bytes) = bytes
bytes_in (failed r) = []

-- a response has two bytes less than its packet
pub response_short : (code : ℕ) (packet bytes : List ℕ) → reply_of code packet ≡ response bytes → length bytes + 2 ≤ length packet
response_short code packet bytes e =
    let a = here code packet _ refl (ap is_response e) in
    let l = ap (λ r. length (bytes_in r)) (sym e ∙ a.rest) in
    omega (arith, l, a.inside)
