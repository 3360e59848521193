-- Laws of a play: what an order asks, the chip's step over the channel, a turn, and the turns up to the end.
use Rattle.std.specs.Prelude.{◌≡◌, ℕ, zero, suc, ◌+◌, ◌-◌, ◌<◌, ◌≤◌, Bool, true, false, eqb, ◌⊎◌, Option, Some, None, Ok, Err, List, [], ◌∷◌, length, take, drop}
use Rattle.std.specs.Result.{result_unwrap_or}
use mathlib.Core.Path.{refl, sym, ap, ap₂, ◌∙◌, subst}
use mathlib.Core.Bool.{false≢true}
use mathlib.Core.Logic.{inl, inr}
use native.Mathlib.Nat.{zero-add}
use native.Mathlib.Omega.{arith}
use borrow.Author.Tests.{eqb-true, eqb-false}
use lib.ListN.{length-take}
use lib.Seq.{take_all, take-append_seam}
use Rattle.errors.specs.Choice.{pick}
use Rattle.framing.specs.Frames.{ack}
use Rattle.exchange.specs.Exchange.{Order, write, read, drain, pause, Event, ok, pkt, slept}
use Rattle.exchange.specs.Steps.{event_of}
use Rattle.exchange.specs.declared.Event.{Event as CodeEvent}
use Rattle.protocol.specs.Scripts.{Byte}
use Rattle.protocol.specs.Session.{Session, Output, orders, answers, rejects, event, buffer_need, step}
use Rattle.protocol.specs.Machine.{output_values}
use Rattle.engine.specs.Inputs.{gives, output_of, step_with}
use Rattle.engine.specs.Relation.{SessionRepresents}
use Rattle.engine.specs.Refinement.{simulate}
use Rattle.engine.specs.SessionSteps.{Stepped, stepped}
use Rattle.engine.specs.declared.running.Output as Engine
use Rattle.engine.specs.declared.running.Output.TheVariants.{Ack, Command, Read, Drain, Pause, Done, Type1, UidAndAts, Nothing, Failed, FailedAfter, Refused}
use Rattle.engine.specs.declared.session.Session as Engine-session
use Rattle.engine.specs.declared.session.Step.{Step}
use Rattle.bench.specs.Texts.{over, Placed, placed, placed_at}
use Rattle.bench_input.specs.Table.{Said}
use Rattle.bench_session.specs.Answers.{said_step}
use Rattle.bench_session.specs.Outputs.{text_of}
use Rattle.bench_session.specs.Sessions.{line_step, given_text, text_given, line_follows}
use Rattle.chip_protocol.specs.Names.{longest_packet}
use Rattle.chip_protocol.specs.Chip.{ChipState, chip_step}
use Rattle.chip_protocol.specs.Channel.{simulated, Channel, behind_next, next_packet, event_for}
use Rattle.simulated_chip.specs.Counted.{list_from}
use Rattle.simulated_chip.specs.Memory.{chip_state}
use Rattle.simulated_chip.specs.Range.{chip_in_range}
use Rattle.simulated_chip.specs.Steps.{Answer, LeftBy, left_by, step_in, step_of}
use Rattle.simulated_chip.specs.StepMeaning.{packets_in, Means, step_means}
use Rattle.simulated_chip.specs.declared.chip.Chip.{Chip}
use Rattle.simulator_lines.specs.Ring.{kept_with, packet_at, unread_in}
use Rattle.simulator_lines.specs.Plays.{kept_all, limited_after, Playing, playing, answered, played, played_from, end_text}
use Rattle.simulator_lines.specs.Represents.{order_asked, next_event_of, ChannelIn, ReaderIn, PlayIn}
use Rattle.simulator_lines.specs.declared.channel.Channel.{Channel as End}
use Rattle.simulator_lines.specs.declared.channel.Unread.{Unread}
use Rattle.simulator_lines.specs.declared.play.Order.{Order as Asked}
use Rattle.simulator_lines.specs.declared.play.Order.TheVariants.{Write, Next, Pause as Pauses}
use Rattle.simulator_lines.specs.declared.play.Simulator.{Simulator as Program}
use Rattle.simulator_lines.proofs.RingLaws.{next-packet}

-- ---- what an output asks

abbrev is_order : {A : Type 0} → Output A → Bool
is_order (orders x) = true
is_order (answers a) = false
is_order (rejects r) = false

abbrev Asks : Option Asked → Output ℕ → List ℕ → Type 0
Asks (Some (Write n)) g b = g ≡ orders (write (take n b))
Asks (Some Next) g b = (g ≡ orders drain) ⊎ ((ms : ℕ) × (g ≡ orders (read ms)))
Asks (Some Pauses) g b = (us : ℕ) × (g ≡ orders (pause us))
Asks None g b = is_order g ≡ false

asks : (o : Engine.Output) (b : List ℕ) → Asks (order_asked o) (output_of o b) b
asks Ack b = refl
asks (Command n) b = refl
asks (Read ms) b = inr (ms, refl)
asks Drain b = inl refl
asks (Pause us) b = (us, refl)
asks (Done n) b = refl
asks (Type1 n) b = refl
asks (UidAndAts n uid ats) b = refl
asks Nothing b = refl
asks (Failed r) b = refl
asks (FailedAfter r n) b = refl
asks (Refused r) b = refl

asked : (o : Engine.Output) (x : Option Asked) (b : List ℕ) → order_asked o ≡ x → Asks x (output_of o b) b
asked o x b h = subst (λ (y : Option Asked). Asks y (output_of o b) b) h (asks o b)

-- the definitions' output is that order too
order_given : (out : Output Byte) (x : Order) → output_values out ≡ orders x → out ≡ orders x
order_given (orders y) x h = ap orders cc
order_given (answers a) x h = let q : ◌≡◌ {A = ℕ} 0 1 = cc in absurd (omega arith)
order_given (rejects r) x h = let q : ◌≡◌ {A = ℕ} 0 1 = cc in absurd (omega arith)

no_order : (out : Output Byte) → is_order (output_values out) ≡ is_order out
no_order (orders y) = refl
no_order (answers a) = refl
no_order (rejects r) = refl

-- ---- the bytes written: the chip's step, and its packets behind the others

module _ (c : End) (chip : Chip) (written b b' : List ℕ) (a : Answer) (l : Channel simulated) (known : left_by chip a b' ≡ step_of c.chip written b) (room : length b ≡ longest_packet) (h : ChannelIn c l) where
  means : Means c.chip.state c.chip.cards c.chip.sent c.chip.replies h.range (step_in c.chip.state c.chip.cards c.chip.sent c.chip.replies written b) written
  means = step_means c.chip.state c.chip.cards c.chip.sent c.chip.replies h.range written b (omega arith)

  packets-are : packets_in a b' ≡ (chip_step l.chip written).packets
  unfolding step_of
  packets-are = ap (λ (y : LeftBy). packets_in y.step.answer y.buffer) known ∙ means.packets ∙ ap (λ (k : ChipState). (chip_step k written).packets) h.chip

  heard : (u : Unread) → unread_in u ≡ kept_all l.unread (chip_step l.chip written).packets → ChannelIn (record { chip = chip; unread = u }) (limited_after l (write written))
  unfolding step_of
  heard u e =
      record {
        chip = ap (λ (y : LeftBy). chip_state y.step.chip) known ∙ means.state ∙ ap (λ (k : ChipState). (chip_step k written).state) h.chip;
        range = ap (λ (y : LeftBy). chip_in_range y.step.chip) known ∙ means.inside;
        unread = e;
        cards_size = ap (λ (y : LeftBy). length y.step.chip.cards) known ∙ h.cards_size;
        sent_bytes = ap (λ (y : LeftBy). length y.step.chip.sent) known ∙ h.sent_bytes;
        reply_bytes = ap (λ (y : LeftBy). length y.step.chip.replies) known ∙ h.reply_bytes;
      }

  -- what the answer gives, where it is no refusal
  module _ (o : Option ℕ) (given : o ≡ result_unwrap_or a None) where
    pub none_sent : o ≡ None → ChannelIn (record { chip = chip; unread = c.unread }) (limited_after l (write written))
    none_sent e = heard c.unread (h.unread ∙ ap (kept_all l.unread) (sym (go a (sym given ∙ e)) ∙ packets-are))
      where
        go : (a : Answer) → result_unwrap_or a None ≡ None → packets_in a b' ≡ []
        go (Ok None) e = refl
        go (Ok (Some n)) e = absurd (cc)
        go (Err x) e = refl

    pub both_sent : (n : ℕ) (q : List ℕ) (u₁ u₂ : Unread) → o ≡ Some n → q ≡ take n b' → length b' ≡ longest_packet → unread_in u₁ ≡ kept_with (unread_in c.unread) (take longest_packet ack)
        → unread_in u₂ ≡ kept_with (unread_in u₁) (take longest_packet q) → ChannelIn (record { chip = chip; unread = u₂ }) (limited_after l (write written))
    both_sent n q u₁ u₂ is part long first second =
        let short : length q ≤ longest_packet = omega (arith, ap length part, length-take n b') in
        heard u₂
        (second ∙ ap₂ kept_with (first ∙ ap (λ (k : List (List ℕ)). kept_with k ack) h.unread) (take_all longest_packet q short ∙ part)
        ∙ ap (kept_all l.unread) (sym (go a (sym given ∙ is)) ∙ packets-are))
      where
        go : (a : Answer) → result_unwrap_or a None ≡ Some n → packets_in a b' ≡ ack ∷ take n b' ∷ []
        go (Ok None) e = absurd (cc)
        go (Ok (Some m)) e = ap (λ (k : ℕ). ack ∷ take k b' ∷ []) (cc)
        go (Err x) e = absurd (cc)

-- ---- the next packet

module _ (u : Unread) (p : List ℕ) (q : List (List ℕ)) (known : unread_in u ≡ q) (next : p ≡ packet_at u.places u.first) where
  event_next : event_of (next_event_of u.count) p ≡ next_packet simulated q
  unfolding next_event_of pick list_from
  event_next = go (eqb u.count 0) refl
    where
      go : (t : Bool) → eqb u.count 0 ≡ t → event_of (next_event_of u.count) p ≡ next_packet simulated q
      go true e = rw (e, ← known, eqb-true u.count 0 e) refl
      go false e = rw e (ap pkt next ∙ ap (next_packet simulated) (sym (next-packet u (let n = eqb-false u.count 0 e in omega arith)) ∙ known))

-- ---- a turn

module _ (x : Program) (out : Engine.Output) (t : Step) (b' room' : List ℕ) (p : Playing) (e : Event) (known : stepped t b' ≡ step_with x.session (gives e x.buffer)) (h : PlayIn x out p) (room : length x.buffer ≡ buffer_need) where
  follows : SessionRepresents t.session (step p.session (event e buffer_need)).state × (output_of t.output b' ≡ output_values (step p.session (event e buffer_need)).output)
  follows =
      let f = simulate x.session p.session (gives e x.buffer) h.reader.session in
      subst (λ (n : ℕ). SessionRepresents t.session (step p.session (event e n)).state × (output_of t.output b' ≡ output_values (step p.session (event e n)).output)) room
      (subst (λ (y : Stepped). SessionRepresents y.session (step p.session (event e (length x.buffer))).state × (output_of y.output y.buffer ≡ output_values (step p.session (event e (length x.buffer))).output)) (sym known) (f.0, f.1))

  abbrev after : End → Program
  after c = record { session = t.session; channel = c; trace = x.trace; buffer = b'; out = room' }

  one-turn : (o : Output Byte) (y : Order) → o ≡ orders y → played 1 p.session p.channel o ≡ playing (answered p.session p.channel y).state (limited_after p.channel y) (answered p.session p.channel y).output
  one-turn o y q = rw q refl

  turn_is : (c : End) (y : Order) → output_of out x.buffer ≡ orders y → e ≡ event_for simulated p.channel y → ChannelIn c (limited_after p.channel y) → PlayIn (after c) t.output (played_from 1 p)
  turn_is c y q event-is k =
      let given : p.output ≡ orders y = order_given p.output y (sym h.reader.output ∙ q) in
      subst (λ (z : Playing). PlayIn (after c) t.output z) (sym (one-turn p.output y given))
      (rw (← event-is) (record { reader = record { session = follows.0; output = follows.1 }; chip = k }))

  pub write_turn : (c : End) (n : ℕ) (w : List ℕ) → order_asked out ≡ Some (Write n) → w ≡ take n x.buffer → e ≡ ok → ChannelIn c (limited_after p.channel (write w)) → PlayIn (after c) t.output (played_from 1 p)
  write_turn c n w a part event-is k = turn_is c (write w) (asked out (Some (Write n)) x.buffer a ∙ ap (λ (l : List ℕ). orders (write l)) (sym part)) event-is k

  pub pause_turn : order_asked out ≡ Some Pauses → e ≡ slept → PlayIn (after x.channel) t.output (played_from 1 p)
  pause_turn a event-is = let o = asked out (Some Pauses) x.buffer a in turn_is x.channel (pause o.0) o.1 event-is h.chip

  pub next_turn : (u : Unread) (q : List ℕ) (k : CodeEvent) → order_asked out ≡ Some Next → e ≡ event_of k q → k ≡ next_event_of x.channel.unread.count → q ≡ packet_at x.channel.unread.places x.channel.unread.first
      → unread_in u ≡ behind_next simulated (unread_in x.channel.unread) → PlayIn (after (record { chip = x.channel.chip; unread = u })) t.output (played_from 1 p)
  next_turn u q k a event-is kind part behind = go (asked out (Some Next) x.buffer a)
    where
      is-next : e ≡ next_packet simulated p.channel.unread
      is-next = event-is ∙ ap (λ (y : CodeEvent). event_of y q) kind ∙ event_next x.channel.unread q p.channel.unread h.chip.unread part

      gone : ChannelIn (record { chip = x.channel.chip; unread = u }) (limited_after p.channel drain)
      gone =
          record {
            chip = h.chip.chip;
            range = h.chip.range;
            unread = behind ∙ ap (behind_next simulated) h.chip.unread;
            cards_size = h.chip.cards_size;
            sent_bytes = h.chip.sent_bytes;
            reply_bytes = h.chip.reply_bytes;
          }

      go : (output_of out x.buffer ≡ orders drain) ⊎ ((ms : ℕ) × (output_of out x.buffer ≡ orders (read ms))) → PlayIn (after (record { chip = x.channel.chip; unread = u })) t.output (played_from 1 p)
      go (inl o) = turn_is _ drain o is-next gone
      go (inr o) = turn_is _ (read o.0) o.1 is-next gone

-- ---- the end

pub stays : (n : ℕ) (p : Playing) → is_order p.output ≡ false → played_from n p ≡ p
stays n p h = go n p.output refl h
  where
    go : (n : ℕ) (out : Output Byte) → p.output ≡ out → is_order out ≡ false → played n p.session p.channel out ≡ p
    go zero out e h = ap (playing p.session p.channel) (sym e)
    go (suc n) (orders y) e h = absurd (false≢true (sym h))
    go (suc n) (answers a) e h = ap (playing p.session p.channel) (sym e)
    go (suc n) (rejects r) e h = ap (playing p.session p.channel) (sym e)

pub one_more : (n : ℕ) (p : Playing) → played_from (suc n) p ≡ played_from n (played_from 1 p)
one_more n p = go p.output refl
  where
    go : (out : Output Byte) → p.output ≡ out → played (suc n) p.session p.channel out ≡ played_from n (played 1 p.session p.channel out)
    go (orders y) e = refl
    go (answers a) e = sym (stays n (playing p.session p.channel (answers a)) refl)
    go (rejects r) e = sym (stays n (playing p.session p.channel (rejects r)) refl)

-- a program whose call is over
module _ (x : Program) (out : Engine.Output) (q z : Playing) (left : ℕ) (h : PlayIn x out q) (rest : played_from left q ≡ z) where
  pub ends_over : order_asked out ≡ None → PlayIn x out z
  ends_over o =
      subst (λ (y : Playing). PlayIn x out y)
      (sym (stays left q (sym (no_order q.output) ∙ sym (ap is_order h.reader.output) ∙ asked out None x.buffer o)) ∙ rest) h

  pub ends_limit : left ≤ 0 → PlayIn x out z
  ends_limit e = subst (λ (y : Playing). PlayIn x out y) (ap (λ (n : ℕ). played_from n q) none ∙ rest) h
    where
      none : 0 ≡ left
      none = omega arith

pub again : (n i : ℕ) (q z : Playing) → i < n → played_from (n - i) q ≡ z → played_from (n - (i + 1)) (played_from 1 q) ≡ z
again n i q z h e = sym (one_more (n - (i + 1)) q) ∙ ap (λ (k : ℕ). played_from k q) counted ∙ e
  where
    counted : suc (n - (i + 1)) ≡ n - i
    counted = omega arith

-- ---- a call

pub begins : (s : Engine-session.Session) (m : Session) (t : Step) (b b' : List ℕ) (c : Said) (l : Channel simulated) → SessionRepresents s m → length b ≡ buffer_need → stepped t b' ≡ said_step s c b
    → ReaderIn t.session t.output b' (playing (line_step m c).state l (line_step m c).output)
begins s m t b b' c l h room known =
    let f = line_follows s m h c b room in
    subst (λ (y : Stepped). ReaderIn y.session y.output y.buffer (playing (line_step m c).state l (line_step m c).output)) (sym known)
    (record { session = f.represents; output = f.output })

pub prints : (o : Engine.Output) (b out out' : List ℕ) (n : ℕ) (p : Playing) → placed n out' ≡ placed_at 0 (text_of o b) out → output_of o b ≡ output_values p.output → take n out' ≡ end_text p
unfolding over
prints o b out out' n p put h =
    ap₂ (λ (k : ℕ) (l : List ℕ). take k l) (ap (λ (y : Placed). y.next) put ∙ zero-add (length (text_of o b))) (ap (λ (y : Placed). y.buffer) put)
    ∙ take-append_seam (text_of o b) (drop (0 + length (text_of o b)) out) ∙ text_given o b ∙ ap given_text h
