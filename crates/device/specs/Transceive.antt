-- transceive: how it starts, and its answers.
use Rattle.std.specs.Prelude.{◌≡◌, refl, Bool, true, false, ◌&&◌, List, [], ◌∷◌, ℕ, ◌-◌, ◌/◌, ◌%◌, ◌≤◌, eqb, ltb, length, take, drop, get_or, Some, None, Result}
use Rattle.std.specs.Prelude as given
use Rattle.std.proofs.Common.{sym, ap, ◌∙◌, arith, length-drop, take_all}
use Rattle.std.proofs.Math.Option.{Option, none, some}
use Rattle.errors.specs.Choice.{pick}
use Rattle.errors.specs.declared.Fault.TheVariants.{Status, CrcA}
use Rattle.errors.specs.declared.Refusal.TheVariants.{NotSendable, Bitrate as BadBitrate}
use Rattle.crc.specs.Crc.{type_a as crc_a, checks}
use Rattle.targets.specs.Bitrates.{choice_of, by_bitrate}
use Rattle.targets.specs.declared.Bitrate.{Bitrate}
use Rattle.protocol.specs.Scripts.{Answer, done, refused}
use Rattle.protocol.specs.Rules.{masked_status}
use Rattle.protocol.specs.Starts.{is106a, type2_sel_res, is_sendable}
use Rattle.stages.specs.Stages.{cmd}
use Rattle.stages.specs.Starts.{Start, refuses, limited}
use Rattle.chipset.specs.Responses.{with_status}
use Rattle.protocol.specs.Calls.{in_communicate_thru_code, in_data_exchange_code}
use Rattle.protocol.specs.Names.{no_data, target_number}
use Rattle.chipset.specs.Kinds.{thru_kind}
use Rattle.device.specs.Kinds.{type2_kind, type1_kind}

abbrev pub timeout_of : given.Option ℕ → Option ℕ
timeout_of None = none
timeout_of (Some ms) = some ms

-- by the kind of target; any other is in_communicate_thru's
unfoldable pub type1_first : List ℕ → ℕ → Start
type1_first bytes ms = pick (is_sendable bytes) (limited type1_kind (cmd in_data_exchange_code ms (target_number ∷ bytes))) (refuses NotSendable)

unfoldable pub thru_first : Bitrate → List ℕ → List ℕ → ℕ → Start
thru_first rate selRes bytes ms = limited (pick (is106a rate && type2_sel_res selRes) type2_kind thru_kind) (cmd in_communicate_thru_code ms bytes)

unfoldable pub transceive_first : List ℕ → List ℕ → Bool → List ℕ → ℕ → Start
transceive_first text selRes ridRes bytes ms = by_bitrate (refuses BadBitrate) (choice_of text) (λ rate. pick ridRes (type1_first bytes ms) (thru_first rate selRes bytes ms))

-- the answers: of Type 2, whose reply over 2 bytes must pass CRC_A and loses two bytes, and of Type 1
unfoldable pub type2_answer : List ℕ → Answer ℕ
type2_answer bs =
    with_status bs
    (pick (ltb 3 (length bs)) (pick (checks crc_a (drop 1 bs)) (done (take (length bs - 3) (drop 1 bs))) (refused CrcA)) (done (drop 1 bs)))

unfoldable pub type1_answer : List ℕ → Answer ℕ
type1_answer bs =
    pick (eqb (length bs) 0) (refused (Status no_data)) (pick (eqb (masked_status bs) 0) (done (drop 1 bs)) (refused (Status (masked_status bs))))

-- ---- laws

-- the check of a reply, which stands behind the status byte
pub check_known : (bs : List ℕ) (r t : Bool) → r ≡ checks crc_a (take (length bs - 1) (drop 1 bs)) → r ≡ t → checks crc_a (drop 1 bs) ≡ t
check_known bs r t e f =
    let l : length (drop 1 bs) ≤ length bs - 1 = rw (length-drop 1 bs) (omega arith) in
    ap (checks crc_a) (sym (take_all (length bs - 1) (drop 1 bs) l)) ∙ sym e ∙ f
