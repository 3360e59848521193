-- The kinds of the discoveries, and their stages (src/lib.rt, type_a.rt, type_b.rt, type_f.rt, dep.rt).
use Rattle.std.specs.Prelude.{ℕ}

abbrev pub type_a_kind : ℕ
type_a_kind = 17

abbrev pub type_b_kind : ℕ
type_b_kind = 18

abbrev pub type_f_kind : ℕ
type_f_kind = 19

abbrev pub dep_kind : ℕ
dep_kind = 20

abbrev pub poll_type_f_kind : ℕ
poll_type_f_kind = 21

abbrev pub type_a_split_kind : ℕ
type_a_split_kind = 22

-- ---- Type A's stages

abbrev pub list_stage : ℕ
list_stage = 0

abbrev pub fifo_stage : ℕ
fifo_stage = 1

abbrev pub list_type1_stage : ℕ
list_type1_stage = 2

abbrev pub rid_stage : ℕ
rid_stage = 3

abbrev pub read_rx_mode_stage : ℕ
read_rx_mode_stage = 4

abbrev pub write_rx_mode_stage : ℕ
write_rx_mode_stage = 5

-- ---- Type B's, behind the list

abbrev pub deselect_stage : ℕ
deselect_stage = 1

abbrev pub wake_up_stage : ℕ
wake_up_stage = 2

-- ---- Type F's

abbrev pub field_stage : ℕ
field_stage = 0

abbrev pub rf_on_stage : ℕ
rf_on_stage = 1

abbrev pub poll_stage : ℕ
poll_stage = 2

-- ---- DEP's

abbrev pub dep_timeouts_stage : ℕ
dep_timeouts_stage = 0

abbrev pub jump_stage : ℕ
jump_stage = 1

abbrev pub write_mode_stage : ℕ
write_mode_stage = 2
