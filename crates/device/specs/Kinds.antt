-- The kinds of this crate's calls, and the stages of the opening (src/lib.rt, transceive.rt, blocks.rt).
use Rattle.std.specs.Prelude.{ℕ}

abbrev pub opening_kind : ℕ
opening_kind = 1

-- transceive of a Type 2 and of a Type 1 target
abbrev pub type2_kind : ℕ
type2_kind = 15

abbrev pub type1_kind : ℕ
type1_kind = 16

abbrev pub read_blocks_kind : ℕ
read_blocks_kind = 23

abbrev pub write_blocks_kind : ℕ
write_blocks_kind = 24

-- ---- the opening's stages

abbrev pub reset_stage : ℕ
reset_stage = 0

abbrev pub version_stage : ℕ
version_stage = 1

abbrev pub field_off_stage : ℕ
field_off_stage = 2

abbrev pub timeouts_stage : ℕ
timeouts_stage = 3

abbrev pub max_rty_com_stage : ℕ
max_rty_com_stage = 4

abbrev pub max_retries_stage : ℕ
max_retries_stage = 5

abbrev pub analog_stage : ℕ
analog_stage = 6

abbrev pub parameters_stage : ℕ
parameters_stage = 7

abbrev pub reset_again_stage : ℕ
reset_again_stage = 8

abbrev pub rf_cfg_stage : ℕ
rf_cfg_stage = 9
