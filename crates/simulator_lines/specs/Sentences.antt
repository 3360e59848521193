-- N10's sentences of the program `simulator`: a call that ends within n events, with room for two packets of each besides those unread, ends in the program as in the run of chip_protocol's
-- channel, which loses nothing. So what is printed at its end is the sentence's answer.
use Rattle.std.specs.Prelude.{◌≡◌, ℕ, zero, suc, ◌+◌, ◌-◌, ◌*◌, ◌<◌, ◌≤◌, false, List, [], ◌∷◌, ◌++◌, length, slice_index}
use Rattle.std.specs.Prelude.{refl}
use Rattle.std.proofs.Common.{sym, ap, ◌∙◌, subst, append-nil, append_assoc, zero-add, suc-add, arith, lt-ltb, length-append}
use Rattle.std.proofs.Math.Option.{Option, none, some}
use Rattle.errors.specs.Choice.{pick}
use Rattle.framing.specs.Lists.{Bytes}
use Rattle.targets.specs.Bitrates.{choice_of, chosen}
use Rattle.targets.specs.declared.Bitrate.{Bitrate}
use Rattle.exchange.specs.Exchange.{Order, write, read, drain, pause, Event}
use Rattle.protocol.specs.Calls.{Call, opening, reader, DeviceCall, device, detect_type_a_of, detect_type_b_of, detect_type_f_of, detect_dep_of, transceive}
use Rattle.protocol.specs.Scripts.{Byte, Answer, done}
use Rattle.protocol.specs.Session.{Session, Entry, event, Output, orders, answers, rejects, buffer_need, step}
use Rattle.protocol.specs.Machine.{output_values}
use Rattle.bench_session.specs.Sessions.{answer_text, given_text}
use Rattle.chip_protocol.specs.Names.{firmware_version}
use Rattle.chip_protocol.specs.Field.{Card, reply_to, is_type2_card, FieldFits}
use Rattle.chip_protocol.specs.Packets.{Received, received, no_command, received_in}
use Rattle.chip_protocol.specs.Chip.{ChipState, card_at, step_for, chip_step}
use Rattle.chip_protocol.specs.Channel.{simulated, as_is, Channel, channel, channel_after, behind_next, End, run}
use Rattle.chip_protocol.specs.Answers.{answer_a, answer_b, answer_f, answer_dep, events_a, events_b, events_f, events_dep, most_events, opening_answer, opening_events, sel_res_of, handed_out, transceive_events}
use Rattle.chip_protocol.specs.Claim.{PacketsFit, Ready, Called, Ends, N10}
use Rattle.chip_protocol.proofs.Exactly.{few_a, few_b, few_f, few_dep}
use Rattle.chip_protocol.specs.First.{First}
use Rattle.chip_protocol.specs.SessionReader.{session}
use Rattle.chip_protocol.proofs.SessionReader.{session_n10}
use Rattle.chip_protocol.specs.declared.Kind.TheVariants.{TypeA, TypeB, TypeF, Dep}
use Rattle.simulator_lines.specs.Ring.{places_limit, kept_with}
use Rattle.simulator_lines.specs.Plays.{event_limit, kept_all, limited_after, Playing, playing, answered, played, played_from, end_text}

-- ---- nothing is lost while there is room

kept_with_lem : (q : List (List ℕ)) (p : List ℕ) → length q + 1 ≤ places_limit → kept_with q p ≡ q ++ (p ∷ [])
unfolding kept_with pick
kept_with_lem q p h = rw (lt-ltb (length q) places_limit (omega arith))

at_most_two : (s : ChipState) (written : List ℕ) → (q : List (List ℕ)) → length q + 2 ≤ places_limit → kept_all q (chip_step s written).packets ≡ q ++ (chip_step s written).packets
unfolding chip_step
at_most_two s written q h = go (received_in written)
  where
    second : (p r : List ℕ) → kept_with (kept_with q p) r ≡ q ++ (p ∷ r ∷ [])
    second p r =
        ap (λ (k : List (List ℕ)). kept_with k r) (kept_with_lem q p (omega arith))
        ∙ kept_with_lem (q ++ (p ∷ [])) r (omega (arith, length-append q (p ∷ []))) ∙ append_assoc q (p ∷ []) (r ∷ [])

    go : (x : Received) → kept_all q (step_for s x).packets ≡ q ++ (step_for s x).packets
    go (received code bytes) = second _ _
    go no_command = sym (append-nil q)

two_more : (s : ChipState) (written : List ℕ) → length (chip_step s written).packets ≤ 2
unfolding chip_step
two_more s written = go (received_in written)
  where
    go : (x : Received) → length (step_for s x).packets ≤ 2
    go (received code bytes) = omega arith
    go no_command = omega arith

same-channel : (l : Channel simulated) (x : Order) → length l.unread + 2 ≤ places_limit → limited_after l x ≡ channel_after simulated l x
same-channel l (write bytes) h = ap (channel simulated (chip_step l.chip bytes).state) (at_most_two l.chip bytes l.unread h)
same-channel l (read ms) h = refl
same-channel l drain h = refl
same-channel l (pause us) h = refl

less_behind : (q : List (List ℕ)) → length (behind_next simulated q) ≤ length q
less_behind [] = omega arith
less_behind (p ∷ q) = omega arith

two_more_unread : (l : Channel simulated) (x : Order) → length (channel_after simulated l x).unread ≤ length l.unread + 2
two_more_unread l (write bytes) = omega (arith, length-append l.unread (chip_step l.chip bytes).packets, two_more l.chip bytes)
two_more_unread l (read ms) = omega (arith, less_behind l.unread)
two_more_unread l drain = omega (arith, less_behind l.unread)
two_more_unread l (pause us) = omega arith

-- ---- the same run

abbrev give : ℕ → Event → Entry
give n e = event e buffer_need

pub record SameEnd (p : Playing) (e : End session simulated give) : Type 0 where
  pub session : p.session ≡ e.state
  pub channel : p.channel ≡ e.channel
  pub output : output_values p.output ≡ e.output

same-run : (n : ℕ) (s : Session) (l : Channel simulated) (out : Output Byte) → length l.unread + 2 * n ≤ places_limit
    → SameEnd (played n s l out) (run session simulated give n s l (output_values out))
same-run zero s l out h = record { session = refl; channel = refl; output = refl }
same-run (suc n) s l (answers a) h = record { session = refl; channel = refl; output = refl }
same-run (suc n) s l (rejects r) h = record { session = refl; channel = refl; output = refl }
same-run (suc n) s l (orders x) h =
    let m : Channel simulated = channel_after simulated l x in
    subst (λ (z : Channel simulated). SameEnd (played n (answered s l x).state z (answered s l x).output) (run session simulated give n (answered s l x).state m (output_values (answered s l x).output)))
    (sym (same-channel l x (omega arith))) (same-run n (answered s l x).state m (answered s l x).output (omega (arith, two_more_unread l x)))

-- an answer stays, whatever events are left
ended : (m : ℕ) (p : Playing) (a : Answer ℕ) → output_values p.output ≡ answers a → played_from m p ≡ p
ended m p a h = go m p.output refl h
  where
    go : (m : ℕ) (out : Output Byte) → p.output ≡ out → output_values out ≡ answers a → played m p.session p.channel out ≡ p
    go zero out e k = ap (playing p.session p.channel) (sym e)
    go (suc m) (orders x) e k = let q : ◌≡◌ {A = ℕ} 0 1 = cc in absurd (omega arith)
    go (suc m) (answers b) e k = ap (playing p.session p.channel) (sym e)
    go (suc m) (rejects r) e k = ap (playing p.session p.channel) (sym e)

more-events : (n m : ℕ) (s : Session) (l : Channel simulated) (out : Output Byte) (a : Answer ℕ) → output_values (played n s l out).output ≡ answers a → played (n + m) s l out ≡ played n s l out
more-events zero m s l out a h = ap (λ (k : ℕ). played k s l out) (zero-add m) ∙ ended m (playing s l out) a h
more-events (suc n) m s l (answers b) a h = ap (λ (k : ℕ). played k s l (answers b)) (suc-add n m)
more-events (suc n) m s l (rejects r) a h = ap (λ (k : ℕ). played k s l (rejects r)) (suc-add n m)
more-events (suc n) m s l (orders x) a h = ap (λ (k : ℕ). played k s l (orders x)) (suc-add n m) ∙ more-events n m (answered s l x).state (limited_after l x) (answered s l x).output a h

-- ---- a call that ends

-- the play of an accepted call
abbrev pub called_play : {c : Call} → Called simulated as_is session buffer_need give c → Playing
called_play x = played event_limit (step x.state x.input).state x.channel (step x.state x.input).output

-- what each of N10's sentences says of a run is so of the program's play: the text at its end, and session and channel for the next call
pub record Prints {c : Call} (x : Called simulated as_is session buffer_need give c) (n : ℕ) (a : Answer ℕ) : Type 0 where
  pub text : end_text (called_play x) ≡ answer_text a
  pub same : SameEnd (called_play x) (run session simulated give n (step x.state x.input).state x.channel (output_values (step x.state x.input).output))

pub simulator_prints : {c : Call} (x : Called simulated as_is session buffer_need give c) (n : ℕ) (a : Answer ℕ) (o : Option Card) → Ends simulated as_is session buffer_need give x n a o
    → n ≤ event_limit → length x.channel.unread + 2 * n ≤ places_limit → Prints x n a
simulator_prints x n a o ends few room =
    let s : Session = (step x.state x.input).state in
    let out : Output Byte = (step x.state x.input).output in
    let same = same-run n s x.channel out room in
    let all : n + 0 ≡ n = omega arith in
    let answer : output_values (played n s x.channel out).output ≡ answers a =
    same.output ∙ ap (λ (k : ℕ). (run session simulated give k s x.channel (output_values out)).output) (sym all) ∙ (ends 0).output in
    let whole : n + (event_limit - n) ≡ event_limit = omega arith in
    let is : called_play x ≡ played n s x.channel out =
    ap (λ (k : ℕ). played k s x.channel out) (sym whole) ∙ more-events n (event_limit - n) s x.channel out a answer in
    record {
      text = ap end_text is ∙ ap given_text answer;
      same = subst (λ (p : Playing). SameEnd p (run session simulated give n s x.channel (output_values out))) (sym is) same;
    }

-- ---- document 02's sentences, of what the program prints at a call's end

abbrev CalledHere : Call → Type 0
CalledHere c = Called simulated as_is session buffer_need give c

abbrev FoundBy : DeviceCall → Type 0
FoundBy d = CalledHere (reader (device d))

abbrev ReadyHere : Channel simulated → Type 0
ReadyHere l = Ready simulated as_is session buffer_need give l

abbrev cards_of : {c : Call} → CalledHere c → List Card
cards_of x = x.channel.chip.field

sentences : N10 simulated as_is session buffer_need give
sentences = session_n10 buffer_need

-- with nothing unread
few_print : {c : Call} (x : CalledHere c) (n : ℕ) (a : Answer ℕ) (o : Option Card) → ReadyHere x.channel → n ≤ most_events → Ends simulated as_is session buffer_need give x n a o → Prints x n a
few_print x n a o ready few ends = simulator_prints x n a o ends (omega arith) (omega (arith, ap length ready.unread))

-- an accepted opening prints the chip's version, with up to 18 packets unread
pub opening_prints : (mode : ℕ) (x : CalledHere (opening mode)) → FieldFits (cards_of x) → PacketsFit x.channel.unread → length x.channel.unread ≤ 18
    → Prints x (opening_events + length x.channel.unread) (opening_answer firmware_version)
opening_prints mode x fits short few =
    simulator_prints x (opening_events + length x.channel.unread) (opening_answer firmware_version) none (sentences.opening_succeeds mode x fits short) (omega arith) (omega arith)

-- each discovery prints the first card of its kind at the bitrate searched, and none (17 of F) where there is no such card: `answer_a none` and so on
pub a_prints : (text : List ℕ) (rate : Bitrate) → choice_of text ≡ chosen rate → (x : FoundBy (detect_type_a_of text [])) → ReadyHere x.channel → (o : Option Card) → First TypeA rate (cards_of x) o → Prints x (events_a o) (answer_a o)
a_prints text rate named x ready o first = few_print x (events_a o) (answer_a o) o ready (few_a o) (sentences.finds_a text rate named x ready o first)

pub b_prints : (text sensbReq : List ℕ) (rate : Bitrate) → choice_of text ≡ chosen rate → slice_index sensbReq 0 ≡ 0 → (x : FoundBy (detect_type_b_of text sensbReq)) → ReadyHere x.channel
    → (o : Option Card) → First TypeB rate (cards_of x) o → Prints x (events_b o) (answer_b o)
b_prints text sensbReq rate named afi x ready o first = few_print x (events_b o) (answer_b o) o ready (few_b o) (sentences.finds_b text sensbReq rate named afi x ready o first)

pub f_prints : (text : List ℕ) (request slots : ℕ) (rate : Bitrate) → choice_of text ≡ chosen rate → request < 256 → slots < 256 → (x : FoundBy (detect_type_f_of text 0xFFFF request slots)) → ReadyHere x.channel
    → (o : Option Card) → First TypeF rate (cards_of x) o → Prints x (events_f x.channel.chip.is_rf_field_on) (answer_f o)
f_prints text request slots rate named r t x ready o first =
    few_print x (events_f x.channel.chip.is_rf_field_on) (answer_f o) o ready (few_f x.channel.chip.is_rf_field_on) (sentences.finds_f text request slots rate named r t x ready o first)

pub dep_prints : (text atrReq : List ℕ) (rate : Bitrate) → choice_of text ≡ chosen rate → Bytes atrReq → (x : FoundBy (detect_dep_of text atrReq)) → ReadyHere x.channel
    → (o : Option Card) → First Dep rate (cards_of x) o → Prints x (events_dep o) (answer_dep o)
dep_prints text atrReq rate named bytes x ready o first = few_print x (events_dep o) (answer_dep o) o ready (few_dep o) (sentences.finds_dep text atrReq rate named bytes x ready o first)

-- a transceive to the card found prints its stated reply
pub transceive_prints : (c : Card) (text bytes reply : List ℕ) (ms : Option ℕ) → choice_of text ≡ chosen c.bitrate → Bytes bytes → reply_to c.replies bytes ≡ some reply
    → (x : FoundBy (transceive text (sel_res_of c.kind c.list_data) false bytes ms)) → ReadyHere x.channel → card_at (cards_of x) x.channel.chip.found ≡ some c
    → Prints x transceive_events (done (handed_out (is_type2_card c) reply))
transceive_prints c text bytes reply ms named all stated x ready found =
    few_print x transceive_events (done (handed_out (is_type2_card c) reply)) (some c) ready (omega arith) (sentences.hands_out c text bytes reply ms named all stated x ready found)
