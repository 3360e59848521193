-- How the run of each call of N10 ends, one call at a time (the statements are those of Claim.antt).
use Rattle.std.specs.Prelude.{◌≡◌, refl, true, false, List, [], ℕ, ◌+◌, ◌<◌, leb, length, get_or}
use Rattle.std.proofs.Common.{sym, ap, ◌∙◌, subst}
use Rattle.std.proofs.Math.Option.{Option, none, some}
use Rattle.framing.specs.Lists.{Bytes}
use Rattle.felica.specs.Checks.{read_check, write_check}
use Rattle.felica.specs.Packets.{read_request_of, write_request_of, request_fits, write_fits_of}
use Rattle.targets.specs.Bitrates.{choice_of, chosen}
use Rattle.targets.specs.declared.Bitrate.{Bitrate}
use Rattle.exchange.specs.Exchange.{Event}
use Rattle.protocol.specs.Scripts.{Script, Answer, done}
use Rattle.protocol.specs.Arguments.{atr_req_fits}
use Rattle.protocol.specs.Blocks.{read_blocks, write_blocks}
use Rattle.protocol.specs.Calls.{opening, reader, ReaderCall, device, detect_type_a_of, detect_type_b_of, detect_type_f_of, detect_dep_of, transceive, read_without_encryption, write_without_encryption, padded_mode}
use Rattle.protocol.specs.Device.{device_new}
use Rattle.protocol.specs.Discovery as discovery
use Rattle.protocol.specs.Discovery.{sensf_req}
use Rattle.protocol.specs.Machine.{Machine}
use Rattle.protocol.specs.Session.{event}
use Rattle.protocol.specs.Starts.{start_of, starts, clock_of, code_for}
use Rattle.chip_protocol.specs.Names.{firmware_version}
use Rattle.chip_protocol.specs.Field.{Card, is_bitrate_of, br_ty, reply_to, is_type2_card, FieldFits}
use Rattle.chip_protocol.specs.Chip.{ChipState, card_at}
use Rattle.chip_protocol.specs.declared.Kind.TheVariants.{TypeA, TypeB, TypeF, Dep}
use Rattle.chip_protocol.specs.Channel.{simulated, as_is, Channel, channel, End, call_run}
use Rattle.chip_protocol.proofs.Search.{finds_first}
use Rattle.chip_protocol.specs.First.{First}
use Rattle.chip_protocol.specs.Answers.{answer_a, answer_b, answer_f, answer_dep, events_a, events_b, events_f, events_dep, opening_answer, opening_events, sel_res_of, handed_out, transceive_events, answer_read, answer_write}
use Rattle.chip_protocol.specs.Claim.{PacketsFit, Reached, Accepted, Ready, EndsWith}
use Rattle.chip_protocol.specs.Intact.{bytes_all}
use Rattle.chip_protocol.specs.Machines.{accepted_script}
use Rattle.chip_protocol.specs.Sent.{opening_sends, type_a_sends, type_b_sends, type_f_sends, dep_sends, read_sends, write_sends}
use Rattle.chip_protocol.specs.Requests.{read_bytes_lem, read_short, write_bytes, write_short}
use Rattle.chip_protocol.specs.Script.{Sends}
use Rattle.chip_protocol.specs.Begins.{taken_by, taken_of, begins_with, code_byte, asserted_holds, atr_req_short, clock_runs, transceive_script, transceive_short, transceive_begins, transceive_sends}
use Rattle.chip_protocol.specs.Found.{Comes}
use Rattle.chip_protocol.proofs.Found.{first_fits, found_a_lem, found_b_lem, found_f, found_dep}
use Rattle.chip_protocol.specs.Handed.{found_opening, transceive_comes, read_comes, write_comes}
use Rattle.chip_protocol.proofs.Fits.{crc_of_reply}
use Rattle.chip_protocol.proofs.Ends.{ends_call, ends_opening}

-- the bitrate of an accepted discovery is one of its kind
module _ (M : Machine) (room : ℕ) (give : ℕ → Event → M.Input) (gives : (n : ℕ) (e : Event) → M.entry (give n e) ≡ event e room)
    (s : M.State) (reached : Reached M s) (i : M.Input) (text : List ℕ) (rate : Bitrate) (named : choice_of text ≡ chosen rate) where
  pub taken_a : Accepted M room s i (reader (device (detect_type_a_of text []))) → is_bitrate_of TypeA rate ≡ true
  taken_a acc =
      let begins = accepted_script M room s i (reader (device (detect_type_a_of text []))) reached acc in
      taken_of TypeA text rate named (λ code. starts (discovery.detect_type_a_of code [])) begins.0 begins.1

  pub taken_b : (sensbReq : List ℕ) → Accepted M room s i (reader (device (detect_type_b_of text sensbReq))) → is_bitrate_of TypeB rate ≡ true
  taken_b sensbReq acc =
      let begins = accepted_script M room s i (reader (device (detect_type_b_of text sensbReq))) reached acc in
      taken_of TypeB text rate named (λ code. starts (discovery.detect_type_b_of code (get_or sensbReq 0 0))) begins.0 begins.1

  pub taken_f : (request slots : ℕ) → Accepted M room s i (reader (device (detect_type_f_of text 0xFFFF request slots))) → is_bitrate_of TypeF rate ≡ true
  taken_f request slots acc =
      let begins = accepted_script M room s i (reader (device (detect_type_f_of text 0xFFFF request slots))) reached acc in
      taken_of TypeF text rate named (λ code. starts (discovery.detect_type_f_of code (sensf_req 0xFFFF request slots))) begins.0 begins.1

  -- and ATR_REQ fits
  pub fits_dep : (atrReq : List ℕ) → Accepted M room s i (reader (device (detect_dep_of text atrReq))) → (atr_req_fits atrReq ≡ true) × (is_bitrate_of Dep rate ≡ true)
  fits_dep atrReq acc =
      let begins = accepted_script M room s i (reader (device (detect_dep_of text atrReq))) reached acc in
      let holds = asserted_holds (atr_req_fits atrReq) (code_for (taken_by Dep) text (λ code. starts (discovery.detect_dep_of code atrReq))) begins.0 begins.1 in
      (holds.0, taken_of Dep text rate named (λ code. starts (discovery.detect_dep_of code atrReq)) begins.0 holds.1)

  pub taken_dep : (atrReq : List ℕ) → Accepted M room s i (reader (device (detect_dep_of text atrReq))) → is_bitrate_of Dep rate ≡ true
  taken_dep atrReq acc = (fits_dep atrReq acc).1

module _ (M : Machine) (room : ℕ) (give : ℕ → Event → M.Input) (gives : (n : ℕ) (e : Event) → M.entry (give n e) ≡ event e room)
    (s : M.State) (reached : Reached M s) (i : M.Input) (l : Channel simulated) (m : ℕ) where
  -- the run of the call i, for so many events and m more
  abbrev pub run_of : ℕ → End M simulated give
  run_of n = call_run M simulated give (n + m) s l i

  abbrev field : List Card
  field = l.chip.field

  -- it ends with this answer, m events being left; then nothing is unread, the field is as it was, and this card is found
  abbrev pub Ends : ℕ → Answer ℕ → Option Card → Type 0
  Ends n a o = EndsWith simulated as_is M room give (run_of n) a field o m

  -- ---- an opening
  pub opening_succeeds : (mode : ℕ) → FieldFits field → PacketsFit l.unread → Accepted M room s i (opening mode)
      → Ends (opening_events + length l.unread) (opening_answer firmware_version) none
  opening_succeeds mode fits short acc =
      let begins = accepted_script M room s i (opening mode) reached acc in
      ends_opening M room give gives s i mode l.chip l.unread (opening_answer firmware_version) _ 34 device_new m reached acc fits short
      (rw (asserted_holds (leb mode padded_mode) (starts device_new) begins.0 begins.1).0) opening_sends (found_opening l.chip) refl

  -- a call of an open reader, with nothing unread
  called : (d : ReaderCall) (x : Script) (n : ℕ) (a : Answer ℕ) (u : ChipState) (o : Option Card) → Ready simulated as_is M room give l → Accepted M room s i (reader d) → start_of (reader d) ≡ starts x
      → Sends x → Comes x l.chip a u n → u.field ≡ field → card_at field u.found ≡ o → Ends n a o
  called d x n a u o ready acc begins sends comes same found =
      let h = ends_call M room give gives s i d l.chip a u n x m reached acc ready.fits begins sends comes same in
      subst (λ (v : Option Card). Ends n a v) found
      (subst (λ (q : List (List ℕ)). EndsWith simulated as_is M room give (call_run M simulated give (n + m) s (channel simulated l.chip q) i) a field (card_at field u.found) m) (sym ready.unread) h)

  module _ (ready : Ready simulated as_is M room give l) (text : List ℕ) (rate : Bitrate) (named : choice_of text ≡ chosen rate) (o : Option Card) where
    -- ---- the discoveries
    pub finds_a : Accepted M room s i (reader (device (detect_type_a_of text []))) → First TypeA rate field o → Ends (events_a o) (answer_a o) o
    finds_a acc first =
        let taken = taken_a M room give gives s reached i text rate named acc in
        let found = finds_first TypeA rate taken field o first in
        called (device (detect_type_a_of text [])) (discovery.detect_type_a_of (br_ty rate) []) (events_a o) (answer_a o) _ o ready acc
        (begins_with TypeA text rate named (λ code. starts (discovery.detect_type_a_of code [])) taken) (type_a_sends (br_ty rate) (code_byte rate))
        (found_a_lem (br_ty rate) l.chip o found (first_fits TypeA rate field o ready.fits first)) refl found

    pub finds_b : (sensbReq : List ℕ) → get_or sensbReq 0 0 ≡ 0 → Accepted M room s i (reader (device (detect_type_b_of text sensbReq)))
        → First TypeB rate field o → Ends (events_b o) (answer_b o) o
    finds_b sensbReq afi acc first =
        let taken = taken_b M room give gives s reached i text rate named sensbReq acc in
        let found = finds_first TypeB rate taken field o first in
        called (device (detect_type_b_of text sensbReq)) (discovery.detect_type_b_of (br_ty rate) 0) (events_b o) (answer_b o) _ o ready acc
        (begins_with TypeB text rate named (λ code. starts (discovery.detect_type_b_of code (get_or sensbReq 0 0))) taken ∙ ap (λ n. starts (discovery.detect_type_b_of (br_ty rate) n)) afi)
        (type_b_sends (br_ty rate) (code_byte rate)) (found_b_lem (br_ty rate) l.chip o found (first_fits TypeB rate field o ready.fits first)) refl found

    pub finds_f : (request slots : ℕ) → request < 256 → slots < 256 → Accepted M room s i (reader (device (detect_type_f_of text 0xFFFF request slots)))
        → First TypeF rate field o → Ends (events_f l.chip.is_rf_field_on) (answer_f o) o
    finds_f request slots x y acc first =
        let taken = taken_f M room give gives s reached i text rate named request slots acc in
        let found = finds_first TypeF rate taken field o first in
        called (device (detect_type_f_of text 0xFFFF request slots)) (discovery.detect_type_f_of (br_ty rate) (sensf_req 0xFFFF request slots)) (events_f l.chip.is_rf_field_on) (answer_f o) _ o ready acc
        (begins_with TypeF text rate named (λ code. starts (discovery.detect_type_f_of code (sensf_req 0xFFFF request slots))) taken)
        (type_f_sends (br_ty rate) request slots (code_byte rate) x y) (found_f (br_ty rate) request slots l.chip o found (first_fits TypeF rate field o ready.fits first)) refl found

    pub finds_dep : (atrReq : List ℕ) → Bytes atrReq → Accepted M room s i (reader (device (detect_dep_of text atrReq)))
        → First Dep rate field o → Ends (events_dep o) (answer_dep o) o
    finds_dep atrReq bytes acc first =
        let holds = fits_dep M room give gives s reached i text rate named atrReq acc in
        let taken = holds.1 in
        let found = finds_first Dep rate taken field o first in
        called (device (detect_dep_of text atrReq)) (discovery.detect_dep_of (br_ty rate) atrReq) (events_dep o) (answer_dep o) _ o ready acc
        (rw holds.0 (begins_with Dep text rate named (λ code. starts (discovery.detect_dep_of code atrReq)) taken))
        (dep_sends (br_ty rate) atrReq (code_byte rate) (bytes_all atrReq bytes) (atr_req_short atrReq holds.0)) (found_dep (br_ty rate) atrReq l.chip o found) refl found

  -- ---- to the card found
  module _ (ready : Ready simulated as_is M room give l) (c : Card) (found : card_at field l.chip.found ≡ some c) (reply : List ℕ) where
    pub hands_out : (text bytes : List ℕ) (ms : Option ℕ) → choice_of text ≡ chosen c.bitrate → Bytes bytes → reply_to c.replies bytes ≡ some reply
        → Accepted M room s i (reader (device (transceive text (sel_res_of c.kind c.list_data) false bytes ms)))
        → Ends transceive_events (done (handed_out (is_type2_card c) reply)) (some c)
    hands_out text bytes ms named all stated acc =
        let d : ReaderCall = device (transceive text (sel_res_of c.kind c.list_data) false bytes ms) in
        let begins = accepted_script M room s i (reader d) reached acc in
        let short = transceive_short c.kind c.bitrate c.list_data text bytes ms named begins.0 begins.1 in
        called d (transceive_script c.kind c.bitrate c.list_data text bytes ms named) transceive_events (done (handed_out (is_type2_card c) reply)) l.chip (some c) ready acc
        (transceive_begins c.kind c.bitrate c.list_data text bytes ms named short)
        (transceive_sends c.kind c.bitrate c.list_data text bytes ms named short (bytes_all bytes all))
        (transceive_comes l.chip c bytes reply found stated (clock_of ms) (is_type2_card c) (crc_of_reply field l.chip.found c bytes reply ready.fits found stated)) refl found

    pub answered_read : (idm blocks : List ℕ) (service : ℕ) (ms : Option ℕ) → service < 65536 → Bytes idm → Bytes blocks → reply_to c.replies (read_request_of idm service blocks) ≡ some reply
        → Accepted M room s i (reader (device (read_without_encryption idm service blocks ms)))
        → Ends transceive_events (answer_read (length blocks) reply (read_check idm (length blocks) reply)) (some c)
    answered_read idm blocks service ms known bi bb stated acc =
        let d : ReaderCall = device (read_without_encryption idm service blocks ms) in
        let begins = accepted_script M room s i (reader d) reached acc in
        let holds = (asserted_holds (request_fits idm blocks) (starts (read_blocks idm service blocks (clock_of ms))) begins.0 begins.1).0 in
        called d (read_blocks idm service blocks (clock_of ms)) transceive_events (answer_read (length blocks) reply (read_check idm (length blocks) reply)) l.chip (some c) ready acc
        (rw holds)
        (read_sends idm service blocks (clock_of ms) (clock_runs ms) (read_bytes_lem service idm blocks known (bytes_all idm bi) (bytes_all blocks bb) holds)
        (read_short service idm blocks known (bytes_all idm bi) (bytes_all blocks bb) holds))
        (read_comes l.chip c reply idm blocks service (clock_of ms) found stated) refl found

    pub answered_write : (idm blocks bytes : List ℕ) (service : ℕ) (ms : Option ℕ) → service < 65536 → Bytes idm → Bytes blocks → Bytes bytes
        → reply_to c.replies (write_request_of idm service blocks bytes) ≡ some reply
        → Accepted M room s i (reader (device (write_without_encryption idm service blocks bytes ms)))
        → Ends transceive_events (answer_write (write_check idm reply)) (some c)
    answered_write idm blocks bytes service ms known bi bb all stated acc =
        let d : ReaderCall = device (write_without_encryption idm service blocks bytes ms) in
        let begins = accepted_script M room s i (reader d) reached acc in
        let holds = (asserted_holds (write_fits_of idm blocks bytes) (starts (write_blocks idm service blocks bytes (clock_of ms))) begins.0 begins.1).0 in
        called d (write_blocks idm service blocks bytes (clock_of ms)) transceive_events (answer_write (write_check idm reply)) l.chip (some c) ready acc
        (rw holds)
        (write_sends idm service blocks (clock_of ms) (clock_runs ms) bytes
        (write_bytes service idm blocks known (bytes_all idm bi) (bytes_all blocks bb) bytes holds (bytes_all bytes all))
        (write_short service idm blocks known (bytes_all idm bi) (bytes_all blocks bb) bytes holds))
        (write_comes l.chip c reply idm blocks service (clock_of ms) found bytes stated) refl found
