-- The ranges of a call's kind and of its stage.
use Rattle.std.specs.Prelude.{ℕ}
use Rattle.device.specs.Kinds.{write_blocks_kind, rf_cfg_stage}

-- no call runs
abbrev pub no_call_kind : ℕ
no_call_kind = 0

abbrev pub last_kind : ℕ
last_kind = write_blocks_kind

-- of any call: the opening has the most stages
abbrev pub last_stage : ℕ
last_stage = rf_cfg_stage

-- a call begins with this one
abbrev pub first_stage : ℕ
first_stage = 0
