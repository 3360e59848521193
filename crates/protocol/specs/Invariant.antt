-- The invariant of a running call: that a script which starts has it, and that a reply to a command stands in the record.
use Rattle.std.specs.Prelude.{◌≡◌, refl, Bool, true, false, cond, ℕ, zero, suc, ◌+◌, ◌≤◌, ◌<◌, eqb, length, drop}
use Rattle.std.proofs.Common.{ap, ◌∙◌, inl, inr, arith, eqb-true}
use mathlib.Core.List.Memᴰ
use mathlib.Core.List.{List, [], ◌∷◌, Memᴰ}
use Rattle.std.proofs.Math.Option.{some}
use Rattle.std.proofs.Math.ListN.{get_elem?}
use Rattle.framing.specs.Frames.{ack}
use Rattle.errors.specs.Choice.{same, same_self}
use Rattle.exchange.specs.Packets.{command_frame, Reply, response, failed, reply_of}
use Rattle.exchange.specs.Exchange.{write, read, drain, pause, pkt}
use Rattle.exchange.specs.Exchange.{unfit, pending, ended, ExchangePhase, sending, reading, waiting, cancelling, rejecting, draining}
use Rattle.protocol.specs.Scripts.{Byte, card, Answer, done, type1, uid_and_ats, nothing, refused, refused_after, Script, finish, command, reset, field_pause}
use Rattle.protocol.specs.Calls.{Call, limit, reset_mode_code, reset_mode_data}
use Rattle.protocol.specs.Session.{Rest, by_reply, of_reset, Phase, exchange, reset_ack, reset_pause, field_pausing, opening_ack, opening_reads}
use Rattle.protocol.specs.Session.{CallResult, start_script}
use Rattle.protocol.specs.Record.{Item, ordered, accepted, Record, lines_of, one_if, frames, events, pending_order, acked, allowed, line, RecordLine}
use Rattle.protocol.specs.Claim.{allowed_between, Between, CardByte, bytes_of, EndedCall}
use Rattle.protocol.specs.Own.{Form, only_cards, version_and_name, cards_and_flag, card_and_rates, dep_and_cards, polled_codes, HasForm, Formed, form_of}
use Rattle.protocol.specs.Sound.{Within, response_to, response_in, PlacedBytes, no_bytes, own_byte, card_byte, IsResponseByte, Final, OfExchange, Correct}
use Rattle.protocol.specs.Laws.{frame_not_ack, ack_is_ack, lines_own}
use Rattle.protocol.specs.Names.{command_clock, opening_read_time, field_pause_time, uid_length_offset}

-- ---- the invariant

-- the events that are still to come and are not idle reads
abbrev pub due_rest : Rest → ℕ
due_rest (by_reply k) = 0
due_rest (of_reset s) = 2

abbrev pub due_step : ExchangePhase → ℕ
due_step (sending code clock) = 4
due_step (reading code clock) = 3
due_step (waiting code clock) = 2
due_step (cancelling r) = 1
due_step rejecting = 2
due_step draining = 1

abbrev pub due : Phase → ℕ
due (exchange step rest) = due_step step + due_rest rest
due (reset_ack s) = 2
due (reset_pause s) = 1
due (field_pausing s) = 1
due (opening_ack s) = 2
due (opening_reads s) = 1

pub step-due : (step : ExchangePhase) → 1 ≤ due_step step
step-due (sending code clock) = omega arith
step-due (reading code clock) = omega arith
step-due (waiting code clock) = omega arith
step-due (cancelling r) = omega arith
step-due rejecting = omega arith
step-due draining = omega arith

pub phase_due : (phase : Phase) → 1 ≤ due phase
phase_due (exchange step rest) = omega (arith, step-due step)
phase_due (reset_ack s) = omega arith
phase_due (reset_pause s) = omega arith
phase_due (field_pausing s) = omega arith
phase_due (opening_ack s) = omega arith
phase_due (opening_reads s) = omega arith

-- what is left of the script after the responses rs: at most m frames, and correct
abbrev pub RestSound : Form → Script → ℕ → List (List ℕ) → Type 0
RestSound o s m rs = Within s m × Correct o s rs

abbrev pub ReplySound : Form → Rest → ℕ → List (List ℕ) → Type 0
ReplySound o (by_reply k) m rs = ((r : Reply) → Within (k r) m) × ((r : Reply) → OfExchange r → Correct o (k r) (response_in r ∷ rs))
ReplySound o (of_reset s) m rs = Within s m × ((bs : List ℕ) → Correct o s (bs ∷ rs))

abbrev pub PhaseSound : Form → Phase → ℕ → List (List ℕ) → Type 0
PhaseSound o (exchange step rest) m rs = ReplySound o rest m rs
PhaseSound o (reset_ack s) m rs = RestSound o s m rs
PhaseSound o (reset_pause s) m rs = RestSound o s m rs
PhaseSound o (field_pausing s) m rs = RestSound o s m rs
PhaseSound o (opening_ack s) m rs = RestSound o s m rs
PhaseSound o (opening_reads s) m rs = RestSound o s m rs

-- the form of an answer, if what it is worked out from stands elsewhere too
module _ (P Q : ℕ → ℕ → ℕ → Type 0) (f : (k p b : ℕ) → P k p b → Q k p b) where
  has-form-by : (o : Form) (bytes : List Byte) → HasForm P o bytes → HasForm Q o bytes
  has-form-by only_cards bytes h = h
  has-form-by version_and_name bytes h = h
  has-form-by cards_and_flag bytes h =
      record { cards = h.cards; status = h.status; form = h.form; all_cards = h.all_cards; source = f 0 0 h.status h.source }
  has-form-by card_and_rates bytes h = record { state = h.state; indices = h.indices; form = h.form; source = f 0 1 h.indices h.source }
  has-form-by dep_and_cards bytes h = h
  has-form-by (polled_codes m) bytes h = h

  pub form_by : (o : Form) (a : Answer Byte) → Formed P o a → Formed Q o a
  form_by o (done bytes) h = has-form-by o bytes h
  form_by o (type1 bytes) h = has-form-by o bytes h
  form_by o (uid_and_ats bytes uid ats) h =
      let u = h.1 in
      (h.0, record { list = u.list; uid = u.uid; ats = u.ats; form = u.form; target = u.target; uid_is = u.uid_is; ats_is = u.ats_is; source = f 0 uid_length_offset uid u.source })
  form_by o nothing h = tt
  form_by o (refused r) h = tt
  form_by o (refused_after r m) h = tt

-- n: the call's number. c: the call.
module _ (n : ℕ) (c : Call) where
  -- the command with this code was ordered as the call's k-th, and since then only what may stand before its packet
  pub record Asked (l : Record) (k code : ℕ) : Type 0 where
    pub order_line : ℕ
    pub sent : List ℕ
    pub written : get_elem? l order_line ≡ some (line n (ordered (write (command_frame code sent))))
    pub ordinal : frames (lines_of n (drop (suc order_line) l)) ≡ k
    pub since : (i : ℕ) → i < order_line → Between l n i

  abbrev pub AtStep : ExchangePhase → Record → List Item → ℕ → Type 0
  AtStep (sending code clock) l xs k = Asked l k code
  AtStep (reading code clock) l xs k = Asked l k code
  AtStep (waiting code clock) l xs k = Asked l k code × (pending_order xs ≡ some (read clock)) × (acked xs ≡ true)
  AtStep (cancelling r) l xs k = OfExchange (failed r)
  AtStep rejecting l xs k = Unit {0}
  AtStep draining l xs k = pending_order xs ≡ some drain

  -- k responses are in, and the record is as the phase says
  abbrev pub At : Phase → Record → List Item → ℕ → Type 0
  At (exchange step rest) l xs k = (frames xs ≡ suc k) × AtStep step l xs k
  At (reset_ack s) l xs k = frames xs ≡ k
  At (reset_pause s) l xs k = frames xs ≡ k
  At (field_pausing s) l xs k = frames xs ≡ k
  At (opening_ack s) l xs k = (frames xs ≡ k) × (k ≡ 0)
  At (opening_reads s) l xs k = (frames xs ≡ k) × (k ≡ 0) × (pending_order xs ≡ some (read opening_read_time))

  -- the responses rs stand in the record
  abbrev pub Sourced : Record → List (List ℕ) → Type 0
  Sourced l rs = (k p b : ℕ) → get_elem? (response_to rs k) p ≡ some b → CardByte l n k p b

  -- of the running call whose lines in the record l are xs
  pub record Invariant (l : Record) (xs : List Item) (phase : Phase) : Type 0 where
    pub lines : lines_of n l ≡ xs
    pub responses : List (List ℕ)
    pub budget : events xs + due phase ≤ allowed c xs
    pub left : ℕ
    pub room : frames xs + left ≤ limit c
    pub script : PhaseSound (form_of c) phase left responses
    pub place : At phase l xs (length responses)
    pub source : Sourced l responses

  -- of what an event, or the call's beginning, leads to
  abbrev pub Preserved : Record → List Item → CallResult → Type 0
  Preserved l xs unfit = Unit {0}
  Preserved l xs (pending x phase) = Invariant (line n (ordered x) ∷ l) (ordered x ∷ xs) phase
  Preserved l xs (ended a) = EndedCall l n c a

  -- ---- a new line

  later-between : (l : Record) (x : RecordLine) (m q w : ℕ) → ((i : ℕ) → q < i → i < w → Between l m i) → (i : ℕ) → suc q < i → i < suc w → Between (x ∷ l) m i
  later-between l x m q w f zero g h = absurd (omega arith)
  later-between l x m q w f (suc i) g h = f i (omega arith) (omega arith)

  pub later-card : {l : Record} {x : RecordLine} {m k p b : ℕ} → CardByte l m k p b → CardByte (x ∷ l) m k p b
  later-card {l} {x} {m} b =
      let s = b.serves in
      record {
        bytes = b.bytes;
        serves = record {
          order_line = suc s.order_line;
          packet_line = suc s.packet_line;
          code = s.code;
          sent = s.sent;
          received = s.received;
          written = s.written;
          ordinal = s.ordinal;
          arrived = s.arrived;
          newer = omega arith;
          between = later-between l x m s.packet_line s.order_line s.between;
          intact = s.intact;
        };
        there = b.there;
      }

  pub later_sourced : {l : Record} {x : RecordLine} (rs : List (List ℕ)) → Sourced l rs → Sourced (x ∷ l) rs
  later_sourced rs f k p b e = later-card (f k p b e)

  later-since : (l : Record) (w : ℕ) (x : Item) → allowed_between x ≡ true → ((i : ℕ) → i < w → Between l n i) → (i : ℕ) → i < suc w → Between (line n x ∷ l) n i
  later-since l w x q f zero h = (x, refl, q)
  later-since l w x q f (suc i) h = f i (omega arith)

  pub asked-later : {l : Record} {k code : ℕ} (x : Item) → Asked l k code → allowed_between x ≡ true → Asked (line n x ∷ l) k code
  asked-later {l} x a q = record
      { order_line = suc a.order_line; sent = a.sent; written = a.written; ordinal = a.ordinal; since = later-since l a.order_line x q a.since }

  -- ---- a call ends

  placed-cards : (l : Record) (rs : List (List ℕ)) → Sourced l rs → {bs : List Byte} → PlacedBytes rs bs → (k p b : ℕ) → Memᴰ (card k p b) bs → CardByte l n k p b
  placed-cards l rs f no_bytes k p b m = absurd (Memᴰ.not-nil m)
  placed-cards l rs f (own_byte h) k p b m =
      elim (Memᴰ.cases_cons m) [ inl e ↦ absurd (let z : ◌≡◌ {A = ℕ} 0 1 = cc in omega arith) | inr t ↦ placed-cards l rs f h k p b t ]
  placed-cards l rs f (card_byte e h) k p b m = elim (Memᴰ.cases_cons m) [ inl q ↦ f k p b (cc) | inr t ↦ placed-cards l rs f h k p b t ]

  final-cards : (l : Record) (rs : List (List ℕ)) → Sourced l rs → (a : Answer Byte) → Final (form_of c) rs a → (k p b : ℕ) → Memᴰ (card k p b) (bytes_of a) → CardByte l n k p b
  final-cards l rs f (done bs) h k p b m = placed-cards l rs f h.0 k p b m
  final-cards l rs f (type1 bs) h k p b m = placed-cards l rs f h.0 k p b m
  final-cards l rs f (uid_and_ats bs uid ats) h k p b m = placed-cards l rs f h.0 k p b m
  final-cards l rs f nothing h k p b m = absurd (Memᴰ.not-nil m)
  final-cards l rs f (refused r) h k p b m = absurd (Memᴰ.not-nil m)
  final-cards l rs f (refused_after r j) h k p b m = absurd (Memᴰ.not-nil m)

  final-form : (l : Record) (rs : List (List ℕ)) → Sourced l rs → (a : Answer Byte) → Final (form_of c) rs a → Formed (CardByte l n) (form_of c) a
  final-form l rs f (done bs) h = form_by (IsResponseByte rs) (CardByte l n) f (form_of c) (done bs) h.1
  final-form l rs f (type1 bs) h = form_by (IsResponseByte rs) (CardByte l n) f (form_of c) (type1 bs) h.1
  final-form l rs f (uid_and_ats bs uid ats) h = form_by (IsResponseByte rs) (CardByte l n) f (form_of c) (uid_and_ats bs uid ats) h.1
  final-form l rs f nothing h = tt
  final-form l rs f (refused r) h = tt
  final-form l rs f (refused_after r j) h = tt

  pub closed : (l : Record) (xs : List Item) (rs : List (List ℕ)) (a : Answer Byte) → lines_of n l ≡ xs → frames xs ≤ limit c → events xs ≤ allowed c xs
      → Final (form_of c) rs a → Sourced l rs → Preserved l xs (ended a)
  closed l xs rs a e f g h s = record { frames_within = rw e f; events_within = rw e g; card_bytes = final-cards l rs s a h; form = final-form l rs s a h }

  -- ---- a script starts after the responses rs

  module _ (l : Record) (xs : List Item) (rs : List (List ℕ)) (own-lines : lines_of n l ≡ xs) where
    counts : (code : ℕ) (bytes : List ℕ) → frames (ordered (write (command_frame code bytes)) ∷ xs) ≡ suc (frames xs)
    counts code bytes = rw (frame_not_ack code bytes) (omega arith)

    -- a command is ordered
    sent : (code clock : ℕ) (bytes : List ℕ) (rest : Rest) (m : ℕ)
        → events xs + (4 + due_rest rest) ≤ allowed c (ordered (write (command_frame code bytes)) ∷ xs)
        → frames xs + suc m ≤ limit c
        → ReplySound (form_of c) rest m rs
        → frames xs ≡ length rs
        → Sourced l rs
        → Preserved l xs (pending (write (command_frame code bytes)) (exchange (sending code clock) rest))
    sent code clock bytes rest m b q w e f =
        let h : frames (ordered (write (command_frame code bytes)) ∷ xs) ≡ suc (frames xs) = counts code bytes in
        record {
          lines = lines_own n l (ordered (write (command_frame code bytes))) xs own-lines;
          responses = rs;
          budget = omega arith;
          left = m;
          room = omega arith;
          script = w;
          place = (h ∙ ap suc e, record { order_line = 0; sent = bytes; written = refl; ordinal = rw own-lines e; since = λ i z. absurd (omega arith) });
          source = later_sourced rs f;
        }

    pub script-started : (s : Script) (m : ℕ) → events xs ≤ allowed c xs → frames xs + m ≤ limit c → RestSound (form_of c) s m rs → frames xs ≡ length rs → Sourced l rs
        → Preserved l xs (start_script s)
    script-started (finish a) m b q w e f = closed l xs rs a own-lines (omega arith) b w.1 f
    script-started (command code clock bytes k) zero b q w e f = absurd w.0
    script-started (command code clock bytes k) (suc m) b q w e f =
        let h : frames (ordered (write (command_frame code bytes)) ∷ xs) ≡ suc (frames xs) = counts code bytes in
        sent code clock bytes (by_reply k) m (omega arith) q w e f
    script-started (reset s) zero b q w e f = absurd w.0
    script-started (reset s) (suc m) b q w e f =
        let h : frames (ordered (write (command_frame reset_mode_code reset_mode_data)) ∷ xs) ≡ suc (frames xs) = counts reset_mode_code reset_mode_data in
        let g : one_if (same (command_frame reset_mode_code reset_mode_data) (command_frame reset_mode_code reset_mode_data)) ≡ 1 = rw (same_self (command_frame reset_mode_code reset_mode_data)) in
        sent reset_mode_code command_clock reset_mode_data (of_reset s) m (omega arith) q w e f
    script-started (field_pause s) m b q w e f = record {
      lines = lines_own n l (ordered (pause field_pause_time)) xs own-lines;
      responses = rs;
      budget = omega arith;
      left = m;
      room = omega arith;
      script = w;
      place = omega arith;
      source = later_sourced rs f;
    }

  -- the bare ACK is no command frame
  pub bare : (xs : List Item) → frames (ordered (write ack) ∷ xs) ≡ frames xs
  bare xs = rw ack_is_ack (omega arith)

  -- ---- a reply is in

  -- the response bs to command k stands in the record
  abbrev pub Brought : Record → ℕ → List ℕ → Type 0
  Brought l k bs = (p b : ℕ) → get_elem? bs p ≡ some b → CardByte l n k p b

  pub sourced_more : (l : Record) (rs : List (List ℕ)) (bs : List ℕ) → Sourced l rs → Brought l (length rs) bs → Sourced l (bs ∷ rs)
  sourced_more l rs bs f g k p b = go (eqb k (length rs)) refl
    where
      go : (t : Bool) → eqb k (length rs) ≡ t → get_elem? (cond t bs (response_to rs k)) p ≡ some b → CardByte l n k p b
      go true e h = rw (eqb-true k (length rs) e) (g p b h)
      go false e h = f k p b h

  pub nothing_brought : (l : Record) (k : ℕ) → Brought l k []
  nothing_brought l k p b e = absurd (let z : ◌≡◌ {A = ℕ} 0 1 = cc in omega arith)

  later-asked : (l : Record) (x : RecordLine) (w : ℕ) → ((i : ℕ) → i < w → Between l n i) → (i : ℕ) → 0 < i → i < suc w → Between (x ∷ l) n i
  later-asked l x w f zero g h = absurd (omega arith)
  later-asked l x w f (suc i) g h = f i (omega arith)

  pub brought : (l : Record) (k code : ℕ) (packet : List ℕ) (r : Reply) → Asked l k code → reply_of code packet ≡ r → Brought (line n (accepted (pkt packet)) ∷ l) k (response_in r)
  brought l k code packet (response bs) a i p b e = record {
    bytes = bs;
    serves = record {
      order_line = suc a.order_line;
      packet_line = 0;
      code = code;
      sent = a.sent;
      received = packet;
      written = a.written;
      ordinal = a.ordinal;
      arrived = refl;
      newer = omega arith;
      between = later-asked l (line n (accepted (pkt packet))) a.order_line a.since;
      intact = i;
    };
    there = e;
  }
  brought l k code packet (failed r) a i p b e = nothing_brought (line n (accepted (pkt packet)) ∷ l) k p b e
