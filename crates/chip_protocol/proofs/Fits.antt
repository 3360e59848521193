-- The simulated chip with a field that fits: each response fits a packet, and the field stays.
use Rattle.std.specs.Prelude.{◌≡◌, refl, Bool, true, false, List, [], ◌∷◌, map, ℕ, suc, ◌/◌, ◌≤◌, ◌<◌, eqb, ltb, length, drop}
use Rattle.std.proofs.Common.{ap, subst, arith, ltb-false}
use Rattle.std.proofs.Math.Option.{Option, none, some}
use Rattle.errors.specs.Choice.{pick, same}
use Rattle.framing.specs.Intact.{bytes_cons, bytes_nil}
use Rattle.protocol.specs.Arguments.{words_in}
use Rattle.protocol.specs.Calls.{get_firmware_version_code, read_register_code, write_register_code, set_parameters_code, reset_mode_code, rf_configuration_code, in_data_exchange_code, in_communicate_thru_code, in_list_passive_target_code, in_jump_for_dep_code}
use Rattle.protocol.specs.Names.{ciu_fifo_data, ciu_tx_control, sens_req, one_target, target_number}
use Rattle.chip_protocol.specs.Names.{longest_response, firmware_version, success_status, tx_control_on, tx_control_off, other_register}
use Rattle.chip_protocol.specs.Packets.{responds, syntax_error, ResponseFits}
use Rattle.chip_protocol.specs.Field.{StatedReply, Card, reply_to, is_type2_card, crc_fits, RepliesFit, FieldFits}
use Rattle.chip_protocol.specs.Chip.{ChipState, with_found_of, card_at, listed_place, partner_place, listed, jumped, exchanged, exchanged_with, register_value_of, registers_read, response_to, field_on_after, state_after}
use Rattle.chip_protocol.specs.Script.{AllBytes, Fits, responder}
use Rattle.chip_protocol.specs.Intact.{all_bytes_lem}
use Rattle.chip_protocol.specs.Search.{OptionFits}
use Rattle.chip_protocol.proofs.Search.{card-at-fits}
use Rattle.chip_protocol.specs.Fits.{StatedFits, LineFits, IsByte, HasFitting}

pub by_pick : {X : Type 0} (P : X → Type 0) (t : Bool) (x y : X) → P x → P y → P (pick t x y)
unfolding pick
by_pick P true x y h k = h
by_pick P false x y h k = k

pub reply-fits : (t : Bool) (xs : List StatedReply) (bytes : List ℕ) → RepliesFit t xs → StatedFits t (reply_to xs bytes)
unfolding reply_to
reply-fits t [] bytes h = tt
reply-fits t (x ∷ xs) bytes h = by_pick (StatedFits t) (same x.sent bytes) (some x.reply) (reply_to xs bytes) h.0 (reply-fits t xs bytes h.1)

-- the CRC_A of a card's reply
pub crc_of_reply : (f : List Card) (p : Option ℕ) (c : Card) (bytes r : List ℕ) → FieldFits f → card_at f p ≡ some c → reply_to c.replies bytes ≡ some r
    → crc_fits (is_type2_card c) r ≡ true
crc_of_reply f p c bytes r g e k =
    let fits : OptionFits (some c) = subst OptionFits e (card-at-fits f p g) in
    let reply : StatedFits (is_type2_card c) (some r) = subst (StatedFits (is_type2_card c)) k (reply-fits (is_type2_card c) c.replies bytes fits.replies) in
    reply.crc

one : (b : ℕ) → b < 256 → LineFits (b ∷ [])
one b h = (bytes_cons b [] h bytes_nil, omega arith)

listed-fits : (o : Option Card) → OptionFits o → LineFits (listed o)
listed-fits none h = one 0 (omega arith)
listed-fits (some c) h = (
  bytes_cons one_target (target_number ∷ c.list_data) (omega arith) (bytes_cons target_number c.list_data (omega arith) h.bytes),
  omega (arith, h.short),
)

jumped-fits : (o : Option Card) → OptionFits o → LineFits (jumped o)
jumped-fits none h = one 1 (omega arith)
jumped-fits (some c) h = (
  bytes_cons success_status (target_number ∷ c.list_data) (omega arith) (bytes_cons target_number c.list_data (omega arith) h.bytes),
  omega (arith, h.short),
)

exchanged-fits : (t : Bool) (o : Option (List ℕ)) → StatedFits t o → LineFits (exchanged o)
exchanged-fits t none h = one 1 (omega arith)
exchanged-fits t (some r) h = (bytes_cons success_status r (omega arith) h.bytes, omega (arith, h.short))

with_fits : (o : Option Card) (bytes : List ℕ) → OptionFits o → LineFits (exchanged_with o bytes)
with_fits none bytes h = one 1 (omega arith)
with_fits (some c) bytes h = exchanged-fits (is_type2_card c) (reply_to c.replies bytes) (reply-fits (is_type2_card c) c.replies bytes h.replies)

register_byte : (on : Bool) (address : ℕ) → IsByte (register_value_of on address)
unfolding register_value_of
register_byte on address =
    by_pick IsByte (eqb address ciu_fifo_data) sens_req (pick (eqb address ciu_tx_control) (pick on tx_control_on tx_control_off) other_register) (omega arith)
    (by_pick IsByte (eqb address ciu_tx_control) (pick on tx_control_on tx_control_off) other_register
    (by_pick IsByte on tx_control_on tx_control_off (omega arith) (omega arith)) (omega arith))

registers_bytes : (on : Bool) (l : List ℕ) → AllBytes (map (register_value_of on) l)
registers_bytes on [] = tt
registers_bytes on (a ∷ l) = (register_byte on a, registers_bytes on l)

length-registers : (on : Bool) (l : List ℕ) → length (map (register_value_of on) l) ≡ length l
length-registers on [] = refl
length-registers on (a ∷ l) = ap suc (length-registers on l)

length_words : (l : List ℕ) → length (words_in l) ≤ length l / 2
length_words [] = omega arith
length_words (a ∷ []) = omega arith
length_words (a ∷ b ∷ l) = omega (arith, length_words l)

read_fits : (on : Bool) (bytes : List ℕ) → ResponseFits (registers_read on bytes)
unfolding registers_read pick
read_fits on bytes = go (ltb longest_response (length bytes / 2)) refl
  where
    go : (t : Bool) → ltb longest_response (length bytes / 2) ≡ t → ResponseFits (pick t syntax_error (responds (map (register_value_of on) (words_in bytes))))
    go true e = tt
    go false e = (
      all_bytes_lem (map (register_value_of on) (words_in bytes)) (registers_bytes on (words_in bytes)),
      omega (arith, length-registers on (words_in bytes), length_words bytes, ltb-false longest_response (length bytes / 2) e),
    )

version_fits : LineFits firmware_version
version_fits = (all_bytes_lem firmware_version (omega arith, (omega arith, (omega arith, (omega arith, tt)))), omega arith)

response_fits : (s : ChipState) → HasFitting s → (code : ℕ) (bytes : List ℕ) → ResponseFits (response_to s code bytes)
unfolding response_to
response_fits s g code bytes =
    let found = card-at-fits s.field s.found g in
    by_pick ResponseFits (eqb code get_firmware_version_code) (responds firmware_version) _ version_fits
    (by_pick ResponseFits (eqb code read_register_code) (registers_read s.is_rf_field_on bytes) _ (read_fits s.is_rf_field_on bytes)
    (by_pick ResponseFits (eqb code write_register_code) (responds (success_status ∷ [])) _ (one 0 (omega arith))
    (by_pick ResponseFits (eqb code set_parameters_code) (responds []) _ (bytes_nil, omega arith)
    (by_pick ResponseFits (eqb code reset_mode_code) (responds []) _ (bytes_nil, omega arith)
    (by_pick ResponseFits (eqb code rf_configuration_code) (responds []) _ (bytes_nil, omega arith)
    (by_pick ResponseFits (eqb code in_data_exchange_code) (responds (exchanged_with (card_at s.field s.found) (drop 1 bytes))) _
    (with_fits (card_at s.field s.found) (drop 1 bytes) found)
    (by_pick ResponseFits (eqb code in_communicate_thru_code) (responds (exchanged_with (card_at s.field s.found) bytes)) _
    (with_fits (card_at s.field s.found) bytes found)
    (by_pick ResponseFits (eqb code in_list_passive_target_code) (responds (listed (card_at s.field (listed_place s.field bytes)))) _
    (listed-fits (card_at s.field (listed_place s.field bytes)) (card-at-fits s.field (listed_place s.field bytes) g))
    (by_pick ResponseFits (eqb code in_jump_for_dep_code) (responds (jumped (card_at s.field (partner_place s.field bytes)))) syntax_error
    (jumped-fits (card_at s.field (partner_place s.field bytes)) (card-at-fits s.field (partner_place s.field bytes) g)) tt)))))))))

field_stays : (s : ChipState) → HasFitting s → (code : ℕ) (bytes : List ℕ) → HasFitting (state_after s code bytes)
unfolding state_after
field_stays s g code bytes =
    by_pick HasFitting (eqb code reset_mode_code) (with_found_of s none false) _ g
    (by_pick HasFitting (eqb code rf_configuration_code) (with_found_of s s.found (field_on_after s.is_rf_field_on bytes)) _ g
    (by_pick HasFitting (eqb code in_list_passive_target_code) (with_found_of s (listed_place s.field bytes) true) _ g
    (by_pick HasFitting (eqb code in_jump_for_dep_code) (with_found_of s (partner_place s.field bytes) true) s g g)))

pub chip_fits : Fits responder HasFitting
chip_fits = record { fits = response_fits; good = field_stays }
