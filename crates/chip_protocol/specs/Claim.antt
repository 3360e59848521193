-- Document 02, N10: its sentences, of any machine that simulates the definitions and any chip that does as the definitions' chip. Readers.antt has the machines: the
-- definitions' own session, the engine, the C interface, and lists of both; ChipCode.antt the chip's own code. They hold for every field that fits, every chip
-- that has it whatever went before, every session that is reached from a fresh one, both modes of N2, any caller and any buffers of the room.
use Rattle.std.specs.Prelude.{◌≡◌, Bool, true, false, List, [], ◌∷◌, ◌↔◌, ℕ, ◌+◌, ◌≤◌, ◌<◌, length, get_or}
use Rattle.std.proofs.Math.Option.{Option, none, some}
use Rattle.errors.specs.declared.Fault.TheVariants.{NoCard}
use Rattle.framing.specs.Lists.{Bytes}
use Rattle.felica.specs.Checks.{read_check, write_check}
use Rattle.felica.specs.Packets.{read_request_of, write_request_of}
use Rattle.targets.specs.Bitrates.{choice_of, chosen}
use Rattle.targets.specs.declared.Bitrate.{Bitrate}
use Rattle.exchange.specs.Exchange.{Event}
use Rattle.protocol.specs.Calls.{Call, opening, reader, DeviceCall, device, detect_type_a_of, detect_type_b_of, detect_type_f_of, detect_dep_of, transceive, read_without_encryption, write_without_encryption}
use Rattle.protocol.specs.Scripts.{Answer, done, nothing, refused}
use Rattle.protocol.specs.Session.{call, Output, orders, answers, rejects, packet_limit}
use Rattle.protocol.specs.Machine.{Machine, state_after}
use Rattle.chip_protocol.specs.Names.{firmware_version}
use Rattle.chip_protocol.specs.Field.{Card, reply_to, is_type2_card, FieldFits}
use Rattle.chip_protocol.specs.Chip.{ChipState, card_at}
use Rattle.chip_protocol.specs.declared.Kind.TheVariants.{TypeA, TypeB, TypeF, Dep}
use Rattle.chip_protocol.specs.Channel.{Chip, Channel, End, call_run}
use Rattle.chip_protocol.specs.First.{NoneOf, First}
use Rattle.chip_protocol.specs.Answers.{answer_a, answer_b, answer_f, answer_dep, events_a, events_b, events_f, events_dep, most_events, opening_answer, opening_events, sel_res_of, handed_out, transceive_events, answer_read, answer_write}

-- ---- what is asked for

abbrev pub is_accepted : {B : Type 0} → Output B → Bool
is_accepted (orders x) = true
is_accepted (answers a) = true
is_accepted (rejects r) = false

module _ (M : Machine) where
  -- a session that is reached from a fresh one, by any list of calls and events
  pub record Reached (s : M.State) : Type 0 where
    pub before : List M.Input
    pub is : s ≡ state_after M M.new before

  -- an accepted call: the input is this call, of some caller, with a buffer of so much room, and is not refused at once
  pub record Accepted (room : ℕ) (s : M.State) (i : M.Input) (c : Call) : Type 0 where
    pub caller : ℕ
    pub entry : M.entry i ≡ call caller c room
    pub accepted : is_accepted (M.act s i).output ≡ true

-- packets that a channel can have
abbrev pub PacketsFit : List (List ℕ) → Type 0
PacketsFit [] = Unit {0}
PacketsFit (p ∷ q) = (length p ≤ packet_limit) × PacketsFit q

-- ---- what is said

-- D: the chip, each state of which says one of the definitions' chip; give: what the reader is lent for an event, with so many events left
module _ (D : Chip) (says : D.State → ChipState) (M : Machine) (room : ℕ) (give : ℕ → Event → M.Input) where
  -- a channel whose chip has a field that fits, with nothing unread
  pub record Ready (l : Channel D) : Type 0 where
    pub fits : FieldFits (says l.chip).field
    pub unread : l.unread ≡ []

  -- how a run ends: its answer, how many of the events it was given are left, and the channel then: nothing unread, the field, the card found
  pub record EndsWith (e : End M D give) (a : Answer ℕ) (f : List Card) (o : Option Card) (m : ℕ) : Type 0 where
    pub output : e.output ≡ answers a
    pub left : e.left ≡ m
    pub unread : e.channel.unread ≡ []
    pub field : (says e.channel.chip).field ≡ f
    pub found : card_at f (says e.channel.chip).found ≡ o
    pub reached : Reached M e.state

  -- an accepted call, in a session that is reached, over a channel
  pub record Called (c : Call) : Type 0 where
    pub state : M.State
    pub reached : Reached M state
    pub input : M.Input
    pub accepted : Accepted M room state input c
    pub channel : Channel D

  abbrev pub field_of : {c : Call} → Called c → List Card
  field_of x = (says x.channel.chip).field

  -- its run, for so many events at most
  abbrev pub run_of : {c : Call} → Called c → ℕ → End M D give
  run_of x n = call_run M D give n x.state x.channel x.input

  -- it takes exactly n events, and ends with this answer; the field stays, and this card is found
  abbrev pub Ends : {c : Call} → Called c → ℕ → Answer ℕ → Option Card → Type 0
  Ends x n a o = (m : ℕ) → EndsWith (run_of x (n + m)) a (field_of x) o m

  abbrev pub CalledFor : DeviceCall → Type 0
  CalledFor d = Called (reader (device d))

  pub record N10 : Type 0 where
    -- "an accepted opening succeeds", with the chip's version, whatever is unread
    pub opening_succeeds : (mode : ℕ) (x : Called (opening mode)) → FieldFits (field_of x) → PacketsFit x.channel.unread
        → Ends x (opening_events + length x.channel.unread) (opening_answer firmware_version) none
    -- "each discovery finds the first card of its kind in the field and hands out its bytes as the rules arrange them". No UID
    pub finds_a : (text : List ℕ) (rate : Bitrate) → choice_of text ≡ chosen rate → (x : CalledFor (detect_type_a_of text [])) → Ready x.channel
        → (o : Option Card) → First TypeA rate (field_of x) o → Ends x (events_a o) (answer_a o) o
    -- AFI 0: no SENSB_REQ, or one of which that is the first byte
    pub finds_b : (text sensbReq : List ℕ) (rate : Bitrate) → choice_of text ≡ chosen rate → get_or sensbReq 0 0 ≡ 0 → (x : CalledFor (detect_type_b_of text sensbReq)) → Ready x.channel
        → (o : Option Card) → First TypeB rate (field_of x) o → Ends x (events_b o) (answer_b o) o
    -- system code FFFF, any request code and time slots
    pub finds_f : (text : List ℕ) (request slots : ℕ) (rate : Bitrate) → choice_of text ≡ chosen rate → request < 256 → slots < 256
        → (x : CalledFor (detect_type_f_of text 0xFFFF request slots)) → Ready x.channel
        → (o : Option Card) → First TypeF rate (field_of x) o → Ends x (events_f (says x.channel.chip).is_rf_field_on) (answer_f o) o
    pub finds_dep : (text atrReq : List ℕ) (rate : Bitrate) → choice_of text ≡ chosen rate → Bytes atrReq → (x : CalledFor (detect_dep_of text atrReq)) → Ready x.channel
        → (o : Option Card) → First Dep rate (field_of x) o → Ends x (events_dep o) (answer_dep o) o
    -- "and says none, or 17 for Type F, exactly when there is no such card"
    pub none_a : (text : List ℕ) (rate : Bitrate) → choice_of text ≡ chosen rate → (x : CalledFor (detect_type_a_of text [])) → Ready x.channel
        → (m : ℕ) → ((run_of x (most_events + m)).output ≡ answers nothing) ↔ NoneOf TypeA rate (field_of x)
    pub none_b : (text sensbReq : List ℕ) (rate : Bitrate) → choice_of text ≡ chosen rate → get_or sensbReq 0 0 ≡ 0 → (x : CalledFor (detect_type_b_of text sensbReq)) → Ready x.channel
        → (m : ℕ) → ((run_of x (most_events + m)).output ≡ answers nothing) ↔ NoneOf TypeB rate (field_of x)
    pub none_f : (text : List ℕ) (request slots : ℕ) (rate : Bitrate) → choice_of text ≡ chosen rate → request < 256 → slots < 256
        → (x : CalledFor (detect_type_f_of text 0xFFFF request slots)) → Ready x.channel
        → (m : ℕ) → ((run_of x (most_events + m)).output ≡ answers (refused NoCard)) ↔ NoneOf TypeF rate (field_of x)
    pub none_dep : (text atrReq : List ℕ) (rate : Bitrate) → choice_of text ≡ chosen rate → Bytes atrReq → (x : CalledFor (detect_dep_of text atrReq)) → Ready x.channel
        → (m : ℕ) → ((run_of x (most_events + m)).output ≡ answers nothing) ↔ NoneOf Dep rate (field_of x)
    -- "an accepted transceive to the found card", by its bitrate, its own SEL_RES and no RID_RES, "of bytes with a stated reply, hands that reply out by the rules"
    pub hands_out : (c : Card) (text bytes reply : List ℕ) (ms : Option ℕ) → choice_of text ≡ chosen c.bitrate → Bytes bytes → reply_to c.replies bytes ≡ some reply
        → (x : CalledFor (transceive text (sel_res_of c.kind c.list_data) false bytes ms)) → Ready x.channel → card_at (field_of x) (says x.channel.chip).found ≡ some c
        → Ends x transceive_events (done (handed_out (is_type2_card c) reply)) (some c)
    -- "right after": e is how the run of a discovery ended that found the card
    pub right_after : (c : Card) (text bytes reply : List ℕ) (ms : Option ℕ) → choice_of text ≡ chosen c.bitrate → Bytes bytes → reply_to c.replies bytes ≡ some reply
        → (e : End M D give) (a : Answer ℕ) (f : List Card) (j : ℕ) → FieldFits f → EndsWith e a f (some c) j
        → (i : M.Input) → Accepted M room e.state i (reader (device (transceive text (sel_res_of c.kind c.list_data) false bytes ms)))
        → (m : ℕ) → EndsWith (call_run M D give (transceive_events + m) e.state e.channel i) (done (handed_out (is_type2_card c) reply)) f (some c) m
    -- N5 through the chip: the reply stated to the request is held against it
    pub answered_read : (c : Card) (idm blocks reply : List ℕ) (service : ℕ) (ms : Option ℕ) → service < 65536 → Bytes idm → Bytes blocks
        → reply_to c.replies (read_request_of idm service blocks) ≡ some reply
        → (x : CalledFor (read_without_encryption idm service blocks ms)) → Ready x.channel → card_at (field_of x) (says x.channel.chip).found ≡ some c
        → Ends x transceive_events (answer_read (length blocks) reply (read_check idm (length blocks) reply)) (some c)
    pub answered_write : (c : Card) (idm blocks bytes reply : List ℕ) (service : ℕ) (ms : Option ℕ) → service < 65536 → Bytes idm → Bytes blocks → Bytes bytes
        → reply_to c.replies (write_request_of idm service blocks bytes) ≡ some reply
        → (x : CalledFor (write_without_encryption idm service blocks bytes ms)) → Ready x.channel → card_at (field_of x) (says x.channel.chip).found ≡ some c
        → Ends x transceive_events (answer_write (write_check idm reply)) (some c)
