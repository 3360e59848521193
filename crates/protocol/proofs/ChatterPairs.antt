-- There are such pairs: wherever a record waits, any ACK-led packets may come in between, and whatever follows them then. And each command
-- whose clock is not 0 ms comes to wait.
use Rattle.std.specs.Prelude.{◌≡◌, refl, Bool, true, false, cond, ◌&&◌, ◌||◌, List, [], ◌∷◌, ◌++◌, map, ℕ, zero, suc, ◌+◌, eqb, ltb, length, replicate}
use Rattle.std.proofs.Common.{sym, ap, ap₂, ◌∙◌, subst, subst₂, zero-add, add-zero, arith}
use Rattle.std.proofs.lemmas.Bool.{false≢true}
use Rattle.std.proofs.Math.Option.{Option, none, some}
use Rattle.std.proofs.lemmas.List.{length-replicate}
use Rattle.framing.specs.Frames.{ack}
use Rattle.framing.specs.Lists.{starts}
use Rattle.exchange.specs.Packets.{ack_led}
use Rattle.exchange.specs.Exchange.{Order, write, read, drain, pause, Event, ok, pkt, pending, sending, reading, waiting, first_read_time}
use Rattle.protocol.specs.Scripts.{Byte}
use Rattle.protocol.specs.Calls.{Call}
use Rattle.protocol.specs.Session.{Rest, Phase, exchange, Running, idle, busy, Books, book_order, Session, packet_limit, seen, call, event, Output, orders, answers, rejects, buffer_need, step_result}
use Rattle.protocol.specs.Session.{packet_length, step, outputs, session_after}
use Rattle.protocol.specs.Record.{Item, ordered, accepted, Record, Note, Observed, observed, add, observe, one_if, is_command, frames, events, pending_order, is_ack_led, acked, idle_under, idle_reads, line}
use Rattle.protocol.specs.Claim.{allowed_between}
use Rattle.protocol.specs.Runs.{session_at, busy_in, EventAndRoom, event_with, event_entry, call_entries, seen_behind, seen_of, InCall, lines_from}
use Rattle.protocol.proofs.RunLaws.{stepped, stepped-plain, plain_ok, plain-ack, seen-append, outputs-append}
use Rattle.protocol.specs.Chatter.{unanswered, waits, is_further, events_but}
use Rattle.protocol.specs.ChatterLaws.{NoWait, Placed}
use Rattle.protocol.proofs.ChatterLaws.{placed-waits, and_left, and_right, read_books, led_start, further_led, led_again}
use Rattle.protocol.proofs.ChatterSame.{begun_with, seen_first, call_follows}
use Rattle.protocol.specs.ChatterPairs.{shown, Beside, Furthers, acks, acknowledged}

idle_alike : (p : Option Order) (xs ys : List Item) (e : Event) → acked xs ≡ acked ys → frames xs ≡ frames ys → idle_under p xs e ≡ idle_under p ys e
idle_alike none xs ys e a f = refl
idle_alike (some (write bytes)) xs ys e a f = refl
idle_alike (some (read ms)) xs ys e a f = rw (a, f)
idle_alike (some drain) xs ys e a f = refl
idle_alike (some (pause us)) xs ys e a f = refl

beside_order : {n : ℕ} (x : Order) {xs ys : List Item} → Beside n xs ys → Beside n (ordered x ∷ xs) (ordered x ∷ ys)
beside_order x h = record {
  alike = h.alike;
  more = let m = h.more in omega arith;
  idles = h.idles;
  same_unanswered = ap (λ u. is_command (ordered x) || (allowed_between (ordered x) && u)) h.same_unanswered;
  same_acked = ap (λ a. cond (is_command (ordered x)) false a) h.same_acked;
  same_frames = ap (λ n. one_if (is_command (ordered x)) + n) h.same_frames;
  same_pending = refl;
}

beside_event : {n : ℕ} (e : Event) {xs ys : List Item} → Beside n xs ys → Beside n (accepted e ∷ xs) (accepted e ∷ ys)
beside_event e {xs} {ys} h =
    let idle-so : idle_under (pending_order xs) xs e ≡ idle_under (pending_order ys) ys e =
    ap (λ p. idle_under p xs e) h.same_pending ∙ idle_alike (pending_order ys) xs ys e h.same_acked h.same_frames in
    record {
      alike = λ i. cond ((h.same_unanswered i && h.same_acked i) && is_further e) (h.alike i) (e ∷ h.alike i);
      more = let m = h.more in omega arith;
      idles = rw idle-so (omega (arith, h.idles));
      same_unanswered = ap (λ u. allowed_between (accepted e) && u) h.same_unanswered;
      same_acked = ap (λ a. is_ack_led (accepted e) || a) h.same_acked;
      same_frames = ap (λ n. 0 + n) h.same_frames;
      same_pending = refl;
    }

run_beside : (n : ℕ) (mode : Bool) (es : List EventAndRoom) (outs : List (Output Byte)) (l k : Record) (y : Note) → Beside n (seen_of mode l) (seen_of mode k)
    → Beside n (seen_of mode (observe (observed l (y ∷ [])) (map event_entry es) outs).lines) (seen_of mode (observe (observed k (y ∷ [])) (map event_entry es) outs).lines)
run_beside n mode [] outs l k y h = h
run_beside n mode (e ∷ es) [] l k y h = h
run_beside n mode (e ∷ es) (orders x ∷ outs) l k y h = run_beside n mode es outs _ _ y (beside_order x (beside_event (seen mode e.event) h))
run_beside n mode (e ∷ es) (answers a ∷ outs) l k y h = run_beside n mode es outs _ _ _ (beside_event (seen mode e.event) h)
run_beside n mode (e ∷ es) (rejects r ∷ outs) l k y h = run_beside n mode es outs l k y h

beside_itself : (xs : List Item) → Beside 0 xs xs
beside_itself xs =
    record { alike = refl; more = sym (zero-add (events xs)); idles = sym (zero-add (idle_reads xs)); same_unanswered = refl; same_acked = refl; same_frames = refl; same_pending = refl }

seen-ack : (mode : Bool) → seen mode (pkt ack) ≡ pkt ack
seen-ack false = refl
seen-ack true = plain-ack.same

ack_led_lem : ack_led ack ≡ true
unfolding ack_led starts
ack_led_lem = refl

pub bare_acks : (mode : Bool) (n : ℕ) → Furthers mode (acks n)
bare_acks mode zero = tt
bare_acks mode (suc n) = (rw (seen-ack mode, ack_led_lem) (refl, refl, refl), bare_acks mode n)

either_way : (t : Bool) → (t || true) ≡ true
either_way true = refl
either_way false = refl

-- one more, and its read order
module _ (ms : ℕ) (e : Event) (ys : List Item) (w : waits ys ≡ true) (asks : pending_order ys ≡ some (read ms)) (f : is_further e ≡ true) where
  between : allowed_between (accepted e) ≡ true
  between = further_led (λ e. allowed_between (accepted e) ≡ true) (λ packet h. h) e f

  is-idle : idle_under (pending_order ys) ys e ≡ true
  is-idle = rw asks (further_led (λ e. idle_under (some (read ms)) ys e ≡ true) (λ packet h. rw (h, and_right (unanswered ys) (acked ys) w) (either_way (eqb (frames ys) 0))) e f)

  further-beside : (n : ℕ) (xs : List Item) → Beside n xs ys → Beside (suc n) xs (ordered (read ms) ∷ accepted e ∷ ys)
  further-beside n xs h =
      let both_hold : (waits ys && is_further e) ≡ true = rw (w, f) refl in
      record {
        alike = h.alike ∙ sym (ap (λ t. cond t (events_but waits ys) (e ∷ events_but waits ys)) both_hold);
        more = let m = h.more in omega arith;
        idles = rw is-idle (omega (arith, h.idles));
        same_unanswered = h.same_unanswered ∙ sym (ap (λ t. t && unanswered ys) between);
        same_acked = h.same_acked ∙ and_right (unanswered ys) (acked ys) w ∙ sym (ap (λ t. t || acked ys) f);
        same_frames = let m = h.same_frames in omega arith;
        same_pending = h.same_pending ∙ asks;
      }

  further-waits : waits (ordered (read ms) ∷ accepted e ∷ ys) ≡ true
  further-waits = ap₂ (λ t a. (t && unanswered ys) && (a || acked ys)) between f ∙ ap (λ u. u && true) (and_left (unanswered ys) (acked ys) w)

-- ---- a call that waits under its clock

module _ (c : Call) (code clock : ℕ) (rest : Rest) (b : Books) (z : eqb clock 0 ≡ false) where
  abbrev waiting_in : Session
  waiting_in = busy_in c (exchange (waiting code clock) rest) b

  taken_step : (e : EventAndRoom) → is_further (seen b.padded e.event) ≡ true → ltb packet_limit (packet_length (seen b.padded e.event)) ≡ false → ltb e.room buffer_need ≡ false
      → step waiting_in (event_entry e) ≡ step_result waiting_in (orders (read clock))
  taken_step e f p r =
      stepped c (exchange (waiting code clock) rest) b e.event e.room _ r p (led_again code clock rest (seen b.padded e.event) z f) refl
      ∙ ap (λ x. step_result (busy_in c (exchange (waiting code clock) rest) x) (orders (read clock))) (read_books clock b)

  furthers-out : (ps ds : List EventAndRoom) → Furthers b.padded ps
      → outputs waiting_in (map event_entry (ps ++ ds)) ≡ replicate (length ps) (orders (read clock)) ++ outputs waiting_in (map event_entry ds)
  furthers-out [] ds q = refl
  furthers-out (e ∷ ps) ds q =
      ap (λ r. r.output ∷ outputs r.state (map event_entry (ps ++ ds))) (taken_step e q.0.0 q.0.1 q.0.2)
      ∙ ap (λ outs. orders (read clock) ∷ outs) (furthers-out ps ds q.1)

  module _ (y : Note) (ds : List EventAndRoom) where
    abbrev lines_on : Record → List EventAndRoom → List Item
    lines_on l es = shown b.padded (observed l (y ∷ [])) waiting_in es

    furthers-beside : (ps : List EventAndRoom) → Furthers b.padded ps → (n : ℕ) (l k : Record) → Beside n (seen_of b.padded l) (seen_of b.padded k)
        → waits (seen_of b.padded k) ≡ true → pending_order (seen_of b.padded k) ≡ some (read clock) → Beside (length ps + n) (lines_on l ds) (lines_on k (ps ++ ds))
    furthers-beside [] q n l k h w a = rw (zero-add n) (run_beside n b.padded ds (outputs waiting_in (map event_entry ds)) l k y h)
    furthers-beside (e ∷ ps) q n l k h w a =
        let f = q.0.0 in
        let d = seen b.padded e.event in
        let ys = seen_of b.padded k in
        let on = furthers-beside ps q.1 (suc n) l (line 0 (ordered (read clock)) ∷ line 0 (accepted e.event) ∷ k) (further-beside clock d ys w a f n (seen_of b.padded l) h) (further-waits clock d ys w a f) refl in
        let count : length ps + suc n ≡ length (e ∷ ps) + n = omega arith in
        subst (λ m. Beside m (lines_on l ds) (lines_on k ((e ∷ ps) ++ ds))) count
        (subst (λ r. Beside (length ps + suc n) (lines_on l ds) (shown b.padded (add (observed k (y ∷ [])) (event_entry e) r.output) r.state (ps ++ ds)))
        (sym (taken_step e f q.0.1 q.0.2)) on)

-- ---- any record that waits

module _ (mode : Bool) (P : Session → Observed → Type 0) where
  -- a call that runs, and is the one observed
  busy-cases : (c : Call) (phase : Phase) (b : Books) (l : Record) → ((y : Note) → Placed (seen_of mode l) phase → P (busy_in c phase b) (observed l (y ∷ [])))
      → (ns : List Note) → InCall NoWait Placed mode (busy c phase) l ns → P (busy_in c phase b) (observed l ns)
  busy-cases c phase b l f [] h = absurd h
  busy-cases c phase b l f (y ∷ []) h = f y h
  busy-cases c phase b l f (y ∷ (z ∷ ns)) h = absurd h

  waits-cases : ((c : Call) (code clock : ℕ) (rest : Rest) (b : Books) (l : Record) (y : Note) → eqb clock 0 ≡ false → b.padded ≡ mode → waits (seen_of mode l) ≡ true
      → pending_order (seen_of mode l) ≡ some (read clock) → P (busy_in c (exchange (waiting code clock) rest) b) (observed l (y ∷ [])))
      → (r : Running) (b : Books) (l : Record) (ns : List Note) → b.padded ≡ mode → InCall NoWait Placed mode r l ns → waits (seen_of mode l) ≡ true → P (session_at r b) (observed l ns)
  waits-cases f idle b l ns m h w = absurd (false≢true (sym h ∙ and_left (unanswered (seen_of mode l)) (acked (seen_of mode l)) w))
  waits-cases f (busy c phase) b l ns m h w =
      busy-cases c phase b l
      (λ y q. let k = placed-waits (seen_of mode l) phase q w in
      subst (λ p. P (busy_in c p b) (observed l (y ∷ []))) (sym k.is) (f c k.code k.clock k.rest b l y k.runs m w k.asks))
      ns h

shown-append : (mode : Bool) (w : Observed) (s : Session) (es ds : List EventAndRoom) → shown mode w s (es ++ ds) ≡ shown mode (seen_behind w s es) (session_after s (map event_entry es)) ds
shown-append mode w s es ds = ap (λ x. seen_of mode x.lines) (seen-append es ds w s)

module _ (ps ds : List EventAndRoom) where
  abbrev PairsAt : Bool → Session → Observed → Type 0
  PairsAt mode s w = Furthers mode ps → Beside (length ps) (shown mode w s ds) (shown mode w s (ps ++ ds))

  waiting-pairs : (mode : Bool) (c : Call) (code clock : ℕ) (rest : Rest) (b : Books) (l : Record) (y : Note) → eqb clock 0 ≡ false → b.padded ≡ mode → waits (seen_of mode l) ≡ true
      → pending_order (seen_of mode l) ≡ some (read clock) → PairsAt mode (busy_in c (exchange (waiting code clock) rest) b) (observed l (y ∷ []))
  waiting-pairs mode c code clock rest b l y z m =
      let s : Session = busy_in c (exchange (waiting code clock) rest) b in
      let v : Observed = observed l (y ∷ []) in
      subst (λ k. waits (seen_of k l) ≡ true → pending_order (seen_of k l) ≡ some (read clock) → PairsAt k s v) m
      (λ w a f. subst (λ n. Beside n (shown b.padded v s ds) (shown b.padded v s (ps ++ ds))) (add-zero (length ps))
      (furthers-beside c code clock rest b z y ds ps f 0 l l (beside_itself _) w a))

-- behind any events es after which a command waits: further packets ps, and then any events ds
pub further_pairs : (s : Session) (caller : ℕ) (c : Call) (room : ℕ) (es ps ds : List EventAndRoom) → waits (lines_from s caller c room es) ≡ true
    → Furthers (step s (call caller c room)).state.books.padded ps → Beside (length ps) (lines_from s caller c room (es ++ ds)) (lines_from s caller c room (es ++ (ps ++ ds)))
further_pairs s caller c room es ps ds h f =
    let b = begun_with s caller c room in
    let g = call_follows s caller c room es in
    let r = session_after b.state (map event_entry es) in
    let w = seen_behind (seen_first s caller c room) b.state es in
    let mode = b.state.books.padded in
    subst₂ (Beside (length ps)) (sym (shown-append mode (seen_first s caller c room) b.state es ds)) (sym (shown-append mode (seen_first s caller c room) b.state es (ps ++ ds)))
    (waits-cases mode (PairsAt ps ds mode) (waiting-pairs ps ds mode) r.running r.books w.lines w.notes g.1.0 g.1.1 h f)

-- each of them gets a read order, and the others what they get without
pub further_orders : (s : Session) (caller : ℕ) (c : Call) (room : ℕ) (es ps ds : List EventAndRoom) → waits (lines_from s caller c room es) ≡ true
    → Furthers (step s (call caller c room)).state.books.padded ps
    → (ms : ℕ) × (outputs s (call_entries caller c room (es ++ (ps ++ ds)))
    ≡ outputs s (call_entries caller c room es) ++ (replicate (length ps) (orders (read ms)) ++ outputs (session_after s (call_entries caller c room es)) (map event_entry ds)))
further_orders s caller c room es ps ds h f =
    let b = begun_with s caller c room in
    let g = call_follows s caller c room es in
    let r = session_after b.state (map event_entry es) in
    let w = seen_behind (seen_first s caller c room) b.state es in
    let mode = b.state.books.padded in
    let k = waits-cases mode (λ s w. (ms : ℕ) × (outputs s (map event_entry (ps ++ ds)) ≡ replicate (length ps) (orders (read ms)) ++ outputs s (map event_entry ds)))
    (λ c code clock rest b l y z m w a. (clock, furthers-out c code clock rest b z ps ds (subst (λ t. Furthers t ps) (sym m) f)))
    r.running r.books w.lines w.notes g.1.0 g.1.1 h in
    (k.0, ap (λ outs. b.output ∷ outs) (outputs-append es (ps ++ ds) b.state ∙ ap (λ outs. outputs b.state (map event_entry es) ++ outs) k.1))

-- with n bare ACKs
pub any-length : (s : Session) (caller : ℕ) (c : Call) (room : ℕ) (es : List EventAndRoom) → waits (lines_from s caller c room es) ≡ true
    → (n : ℕ) (ds : List EventAndRoom) → Beside n (lines_from s caller c room (es ++ ds)) (lines_from s caller c room (es ++ (acks n ++ ds)))
any-length s caller c room es h n ds =
    subst (λ m. Beside m (lines_from s caller c room (es ++ ds)) (lines_from s caller c room (es ++ (acks n ++ ds)))) (length-replicate n (event_with (pkt ack) buffer_need))
    (further_pairs s caller c room es (acks n) ds h (bare_acks _ n))

seen_ok : (mode : Bool) → seen mode ok ≡ ok
seen_ok false = refl
seen_ok true = refl

module _ (c : Call) (code clock : ℕ) (rest : Rest) (z : eqb clock 0 ≡ false) where
  reaches-wait : (b : Books) (l : Record) (y : Note) → unanswered (seen_of b.padded l) ≡ true
      → waits (shown b.padded (observed l (y ∷ [])) (busy_in c (exchange (sending code clock) rest) b) acknowledged) ≡ true
  reaches-wait b l y u =
      let w : Observed = observed l (y ∷ []) in
      let r : Observed = observed (line 0 (ordered (read first_read_time)) ∷ line 0 (accepted ok) ∷ l) (y ∷ []) in
      let first = stepped-plain c (exchange (sending code clock) rest) b ok buffer_need (pending (read first_read_time) (exchange (reading code clock) rest)) refl plain_ok refl refl in
      let second = stepped-plain c (exchange (reading code clock) rest) (book_order (read first_read_time) b) (pkt ack) buffer_need (pending (read clock) (exchange (waiting code clock) rest)) refl plain-ack (rw (led_start ack ack_led_lem, ack_led_lem, z) refl) refl in
      ap (λ p. waits (shown b.padded (add w (event ok buffer_need) p.output) p.state (event_with (pkt ack) buffer_need ∷ []))) first
      ∙ ap (λ p. waits (seen_of b.padded (add r (event (pkt ack) buffer_need) p.output).lines)) second
      ∙ rw (seen-ack b.padded, seen_ok b.padded, ack_led_lem, u) refl

-- behind any events es after which a command frame has been ordered: its `ok` and ACK, if its clock is not 0 ms
pub command_waits : (s : Session) (caller : ℕ) (c : Call) (room : ℕ) (es : List EventAndRoom) (d : Call) (code clock : ℕ) (rest : Rest) → eqb clock 0 ≡ false
    → unanswered (lines_from s caller c room es) ≡ true → (session_after s (call_entries caller c room es)).running ≡ busy d (exchange (sending code clock) rest)
    → waits (lines_from s caller c room (es ++ acknowledged)) ≡ true
command_waits s caller c room es d code clock rest z u p =
    let b = begun_with s caller c room in
    let g = call_follows s caller c room es in
    let r = session_after b.state (map event_entry es) in
    let w = seen_behind (seen_first s caller c room) b.state es in
    let mode = b.state.books.padded in
    ap waits (shown-append mode (seen_first s caller c room) b.state es acknowledged)
    ∙ subst (λ q. InCall NoWait Placed mode q w.lines w.notes → waits (shown mode w (session_at q r.books) acknowledged) ≡ true) (sym p)
    (busy-cases mode (λ s v. waits (shown mode v s acknowledged) ≡ true) d (exchange (sending code clock) rest) r.books w.lines
    (λ y _. subst (λ k. unanswered (seen_of k w.lines) ≡ true → waits (shown k (observed w.lines (y ∷ [])) (busy_in d (exchange (sending code clock) rest) r.books) acknowledged) ≡ true) g.1.0
    (reaches-wait d code clock rest z r.books w.lines y) u)
    w.notes) g.1.1
