-- What N10's calls hand out, by document 01's rules, and the exact number of their events.
use Rattle.std.specs.Prelude.{Bool, true, false, cond, List, [], ◌∷◌, ℕ, ◌-◌, ◌*◌, ltb, length, get_or, take, drop, Result, Ok, Err}
use Rattle.std.proofs.Math.Option.{Option, none, some}
use Rattle.errors.specs.declared.Fault.TheVariants.{NoCard}
use Rattle.felica.specs.Names.{block_size, blocks_offset}
use Rattle.errors.specs.declared.Fault.{Fault}
use Rattle.targets.specs.TypeA.{is_type2}
use Rattle.protocol.specs.Scripts.{Answer, done, nothing, refused}
use Rattle.protocol.specs.Device.{name_bytes}
use Rattle.protocol.specs.Names.{atr_res_cmd0, atr_res_cmd1}
use Rattle.chip_protocol.specs.Field.{Card, wupb, reply_to}
use Rattle.chip_protocol.specs.declared.Kind.{Kind}
use Rattle.chip_protocol.specs.declared.Kind.TheVariants.{TypeA, TypeB, TypeF, Dep}

-- ---- the discoveries: the first card of the kind, if any

-- SENS_RES in the other order, SEL_RES, and all from byte 4 on
abbrev pub answer_a : Option Card → Answer ℕ
answer_a none = nothing
answer_a (some c) = done (get_or c.list_data 1 0 ∷ get_or c.list_data 0 0 ∷ get_or c.list_data 2 0 ∷ drop 4 c.list_data)

-- the card's reply to the wake-up
abbrev pub answer_wake_up : Option (List ℕ) → Answer ℕ
answer_wake_up none = nothing
answer_wake_up (some reply) = done reply

abbrev pub answer_b : Option Card → Answer ℕ
answer_b none = nothing
answer_b (some c) = answer_wake_up (reply_to c.replies wupb)

-- IDm and PMm, and what stands behind them
abbrev pub answer_f : Option Card → Answer ℕ
answer_f none = refused NoCard
answer_f (some c) = done (drop 2 c.list_data)

abbrev pub answer_dep : Option Card → Answer ℕ
answer_dep none = nothing
answer_dep (some c) = done (atr_res_cmd0 ∷ atr_res_cmd1 ∷ c.list_data)

-- ---- their events: three a command

-- a search, and with no card the FIFO; of a Type 2 card its RX mode, read and written
abbrev pub events_a : Option Card → ℕ
events_a none = 6
events_a (some c) = cond (is_type2 (get_or c.list_data 2 0)) 9 3

-- a search, and of a card DESELECT and WUPB
abbrev pub events_b : Option Card → ℕ
events_b none = 3
events_b (some c) = 9

-- CIU_TxControl and a search; where the RF field is off, it is switched on, and the field pause
abbrev pub events_f : Bool → ℕ
events_f true = 6
events_f false = 10

-- the time-outs and the search, and of a partner CIU_Mode
abbrev pub events_dep : Option Card → ℕ
events_dep none = 6
events_dep (some c) = 9

-- no discovery has more
abbrev pub most_events : ℕ
most_events = 10

-- ---- the opening

-- three bytes of the version, and the name that is made of them
abbrev pub opening_answer : List ℕ → Answer ℕ
opening_answer v = done (get_or v 0 0 ∷ get_or v 1 0 ∷ get_or v 2 0 ∷ name_bytes (get_or v 1 0) (get_or v 2 0))

-- ACK and a read that times out, and one more for each packet that was unread; then ten commands, two of them resets with their ACK and pause
abbrev pub opening_events : ℕ
opening_events = 36

-- ---- transceive

-- SEL_RES, which a Type A card has
abbrev pub sel_res_of : Kind → List ℕ → List ℕ
sel_res_of TypeA l = get_or l 2 0 ∷ []
sel_res_of TypeB l = []
sel_res_of TypeF l = []
sel_res_of Dep l = []

-- a Type 2 card's reply over 2 bytes loses its CRC_A
abbrev pub handed_out : Bool → List ℕ → List ℕ
handed_out true r = cond (ltb 2 (length r)) (take (length r - 2) r) r
handed_out false r = r

abbrev pub transceive_events : ℕ
transceive_events = 3

-- ---- FeliCa blocks (N5): the reply is held against the request; a read hands out 16 bytes a block, a write no bytes

abbrev pub answer_read : ℕ → List ℕ → Result (Unit {0}) Fault → Answer ℕ
answer_read blocks reply (Ok u) = done (take (block_size * blocks) (drop blocks_offset reply))
answer_read blocks reply (Err r) = refused r

abbrev pub answer_write : Result (Unit {0}) Fault → Answer ℕ
answer_write (Ok u) = done []
answer_write (Err r) = refused r
