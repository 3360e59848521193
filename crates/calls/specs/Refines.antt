-- What is decided at a stage refines what the script has there.
use Rattle.std.specs.Prelude.{◌≡◌, Bool, List, [], ℕ, ◌≤◌, leb, ltb, length}
use Rattle.std.proofs.Math.Path.{refl}
use Rattle.std.proofs.Math.Bool.{true, false}
use Rattle.std.proofs.Common.{ltb-false}
use Rattle.errors.specs.Choice.{pick}
use Rattle.errors.specs.Refusals.{by_status}
use Rattle.errors.specs.declared.Fault.{Fault}
use Rattle.errors.specs.declared.Fault.TheVariants.{Transport, TimeOut, FalseStart, BrokenFrame, Length, FrameKind, Identifier, Code, Status, ShortResponse, NoCard, CrcA, Rate, CardStatus, OtherCard, UidLayout}
use Rattle.exchange.specs.Packets.{Reply, response, failed}
use Rattle.protocol.specs.Scripts.{Byte, Answer, nothing, refused, Script, finish, command, reset, field_pause, refuse, if_else}
use Rattle.protocol.specs.Machine.{plain_answer}
use Rattle.stages.specs.Stages.{cmd, Decision, send, keep, next, put, pause, ends, with_length}
use Rattle.stages.specs.Decided.{found_limit, response_limit}
use Rattle.calls.specs.Tables.{command_of, is_reset_of, decided_of, failed_of}
use Rattle.protocol.specs.Names.{field_pause_time, command_clock}
use Rattle.protocol.specs.Starts.{data_limit}
use Rattle.calls.specs.Kinds.{last_stage}
use Rattle.protocol.specs.Calls.{reset_mode_code, reset_mode_data}

-- A decision of a call of this kind, with its cursor, its pending command and its found bytes, leads to the script: both end with the same answer, or
-- send the same command and go on so for every reply; what is kept or put by is what the later decisions see.
pub data Refines (kind : ℕ) : ℕ → List ℕ → List ℕ → Decision → Script → Type 0 where
  refines_end : {cursor : ℕ} {pending found : List ℕ} (a : Answer Byte) (b : Answer ℕ) → plain_answer a ≡ b → Refines kind cursor pending found (ends b) (finish a)
  refines_send : {cursor : ℕ} {pending found : List ℕ} (n code clock : ℕ) (bytes : List ℕ) (k : Reply → Script) → leb n last_stage ≡ true → is_reset_of kind n ≡ false
      → command_of kind n cursor pending ≡ cmd code clock bytes
      → ((cs : List ℕ) → length cs ≤ response_limit → Refines kind cursor pending found (decided_of kind n cursor pending found cs) (k (response cs)))
      → ((r : Fault) → Refines kind cursor pending found (failed_of kind n cursor pending found r) (k (failed r)))
      → Refines kind cursor pending found (send n) (command code clock bytes k)
  refines_reset : {cursor : ℕ} {pending found : List ℕ} (n : ℕ) (s : Script) → leb n last_stage ≡ true → is_reset_of kind n ≡ true
      → command_of kind n cursor pending ≡ cmd reset_mode_code command_clock reset_mode_data
      → Refines kind cursor pending found (decided_of kind n cursor pending found []) s → Refines kind cursor pending found (send n) (reset s)
  refines_keep : {cursor : ℕ} {pending found : List ℕ} (n : ℕ) (l : List ℕ) (s : Script) → length l ≤ found_limit → Refines kind cursor pending l (send n) s
      → Refines kind cursor pending found (keep n l) s
  refines_next : {cursor : ℕ} {pending found : List ℕ} (n later : ℕ) (l : List ℕ) (s : Script) → length l ≤ found_limit → Refines kind later pending l (send n) s
      → Refines kind cursor pending found (next n later l) s
  refines_put : {cursor : ℕ} {pending found : List ℕ} (n : ℕ) (l : List ℕ) (s : Script) → length l ≤ data_limit → Refines kind cursor l found (send n) s
      → Refines kind cursor pending found (put n l) s
  refines_pause : {cursor : ℕ} {pending found : List ℕ} (n : ℕ) (s : Script) → leb n last_stage ≡ true → Refines kind cursor pending found (send n) s
      → Refines kind cursor pending found (pause field_pause_time n) (field_pause s)

-- the command of a stage was sent: both its response and its failure lead on
pub record Awaits (kind stage cursor : ℕ) (pending found : List ℕ) (k : Reply → Script) : Type 0 where
  pub answered : (cs : List ℕ) → length cs ≤ response_limit → Refines kind cursor pending found (decided_of kind stage cursor pending found cs) (k (response cs))
  pub failing : (r : Fault) → Refines kind cursor pending found (failed_of kind stage cursor pending found r) (k (failed r))

-- ---- rules

module _ {kind cursor : ℕ} {pending found : List ℕ} where
  pub refines_if : (t : Bool) {x y : Decision} {s u : Script}
      → (t ≡ true → Refines kind cursor pending found x s) → (t ≡ false → Refines kind cursor pending found y u) → Refines kind cursor pending found (pick t x y) (if_else t s u)
  unfolding pick
  refines_if true h k = h refl
  refines_if false h k = k refl

  -- a fault, by its status byte
  pub refines_status : (r : Fault) {f : ℕ → Decision} {d : Decision} {g : ℕ → Script} {s : Script} → ((k : ℕ) → r ≡ Status k → Refines kind cursor pending found (f k) (g k))
      → Refines kind cursor pending found d s → Refines kind cursor pending found (by_status f d r) (by_status g s r)
  refines_status Transport h k = k
  refines_status TimeOut h k = k
  refines_status FalseStart h k = k
  refines_status BrokenFrame h k = k
  refines_status Length h k = k
  refines_status FrameKind h k = k
  refines_status Identifier h k = k
  refines_status Code h k = k
  refines_status (Status n) h k = h n refl
  refines_status ShortResponse h k = k
  refines_status NoCard h k = k
  refines_status CrcA h k = k
  refines_status Rate h k = k
  refines_status (CardStatus s t) h k = k
  refines_status OtherCard h k = k
  refines_status UidLayout h k = k

  pub ending : (a : Answer Byte) {b : Answer ℕ} → plain_answer a ≡ b → Refines kind cursor pending found (ends b) (finish a)
  ending a h = refines_end a _ h

  pub none_found : Refines kind cursor pending found (ends nothing) (finish nothing)
  none_found = ending nothing refl

  pub refusal : (r : Fault) → Refines kind cursor pending found (ends (refused r)) (refuse r)
  refusal r = ending (refused r) refl

  pub by_length : (bs : List ℕ) (n : ℕ) {d : Decision} {s : Script} → (n ≤ length bs → Refines kind cursor pending found d s)
      → Refines kind cursor pending found (with_length bs n d) (if_else (ltb (length bs) n) (refuse ShortResponse) s)
  unfolding with_length
  by_length bs n h = refines_if (ltb (length bs) n) (λ _. refusal ShortResponse) (λ e. h (ltb-false (length bs) n e))

  pub go_on : (n code clock : ℕ) (bytes : List ℕ) {k : Reply → Script} → leb n last_stage ≡ true → is_reset_of kind n ≡ false
      → command_of kind n cursor pending ≡ cmd code clock bytes → Awaits kind n cursor pending found k → Refines kind cursor pending found (send n) (command code clock bytes k)
  go_on n code clock bytes h q p s = refines_send n code clock bytes _ h q p s.answered s.failing
