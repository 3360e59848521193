-- How each discovery starts: the bytes that are put by for its stages, or its refusal at once.
use Rattle.std.specs.Prelude.{true, ◌≡◌, List, [], ◌∷◌, ℕ, take, drop}
use Rattle.std.specs.Prelude.{Option, Some, None, Result, Ok, Err}
use Rattle.std.proofs.Math.Option.{Option as Maybe, none, some}
use Rattle.protocol.specs.Arguments.{jump_data, system_codes_fit, atr_req_fits, shortest_atr_req, nfcid3_size, active_byte, nfcid3_offset}
use Rattle.protocol.specs.Discovery.{cascaded}
use Rattle.protocol.specs.Starts.{type_f_code, dep_code}
use Rattle.stages.specs.Starts.{Start, staged, staged_limited, asserted, refuses}
use Rattle.stages.specs.Bitrates.{code_for}
use Rattle.targets.specs.declared.Bitrate.{Bitrate}
use Rattle.discovery.specs.Kinds.{type_a_kind, type_b_kind, type_f_kind, dep_kind, poll_type_f_kind, type_a_split_kind}
use Rattle.protocol.specs.Names.{one_target}
use Rattle.errors.specs.declared.Refusal.{Refusal}
use Rattle.errors.specs.declared.Refusal.TheVariants.{Bitrate as BadBitrate}

-- the list with the UID, of a kind that has Type A's stages
unfoldable pub list_first : ℕ → List ℕ → ℕ → Start
list_first kind uid code = staged_limited kind (one_target ∷ code ∷ cascaded uid)

abbrev pub type_a_first : List ℕ → ℕ → Start
type_a_first uid code = list_first type_a_kind uid code

-- the same in the mode that separates UID and ATS
abbrev pub split_first : List ℕ → ℕ → Start
split_first uid code = list_first type_a_split_kind uid code

-- the list with the AFI
unfoldable pub type_b_first : ℕ → ℕ → Start
type_b_first afi code = staged type_b_kind (one_target ∷ code ∷ afi ∷ [])

-- the poll
unfoldable pub type_f_first : List ℕ → ℕ → Start
type_f_first req code = staged type_f_kind (one_target ∷ code ∷ req)

-- the bitrate's code and the words of the system codes
unfoldable pub poll_first : List ℕ → ℕ → Start
poll_first words code = staged poll_type_f_kind (code ∷ words)

unfoldable pub poll_asserted : List ℕ → List ℕ → Start
poll_asserted text words = asserted (system_codes_fit words) (code_for type_f_code text (poll_first words))

-- the jump
unfoldable pub dep_first : List ℕ → ℕ → Start
dep_first atrReq code = staged dep_kind (jump_data (active_byte true) code [] (take nfcid3_size (drop nfcid3_offset atrReq)) (drop shortest_atr_req atrReq))

unfoldable pub dep_asserted : List ℕ → List ℕ → Start
dep_asserted text atrReq = asserted (atr_req_fits atrReq) (code_for dep_code text (dep_first atrReq))

-- the code by which a call names a text's bitrate, or refusal 5
abbrev pub Rated : Result ℕ Refusal → (Bitrate → Maybe ℕ) → List ℕ → Type 0
Rated (Ok code) takes text = (f : ℕ → Start) → code_for takes text f ≡ f code
Rated (Err e) takes text = (e ≡ BadBitrate) × ((f : ℕ → Start) → code_for takes text f ≡ refuses BadBitrate)

-- what the code's answer says
abbrev pub supported_in : Option ℕ → Maybe ℕ
supported_in (Some code) = some code
supported_in None = none
