-- Each call of an open reader: it is refused as its script has it, or the script's first command is the one that is sent.
use Rattle.std.specs.Prelude.{◌≡◌, refl, Bool, true, false, cond, ◌&&◌, List, [], ◌∷◌, ℕ, ◌≤◌, eqb, leb, ltb, length, get_or}
use Rattle.std.proofs.Common.{ap, arith, leb-true, ltb-false}
use Rattle.std.proofs.Math.Option.{Option, none, some}
use Rattle.errors.specs.Choice.{pick}
use Rattle.errors.specs.declared.Refusal.{Refusal}
use Rattle.errors.specs.declared.Refusal.TheVariants.{OverLong, BadArgument, Bitrate as BadBitrate, NotSendable}
use Rattle.errors.specs.declared.Fault.{Fault}
use Rattle.framing.specs.Valid.{both_right}
use Rattle.exchange.specs.Packets.{Reply}
use Rattle.targets.specs.Bitrates.{Choice, chosen, no_code_of, choice_of, by_bitrate, by_code_of}
use Rattle.targets.specs.declared.Bitrate.{Bitrate}
use Rattle.protocol.specs.Scripts.{Answer, Script, command, either, refuse, if_else}
use Rattle.protocol.specs.Rules.{Rule, version, no_bytes_of, all_bytes, registers_written, first_byte_of, listed_target, exchanged_data, thru, jump, status, initiator_command, target_status, rule_script}
use Rattle.protocol.specs.Discovery.{cascaded, sensf_req, detect_dep_of as dep_script, transceive_type1, transceive_type2, transceive_thru}
use Rattle.protocol.specs.Blocks.{read_blocks, write_blocks}
use Rattle.protocol.specs.Calls.{Row, row, resets, row_of, in_communicate_thru_code, in_data_exchange_code, ReaderCall, request, device, unknown}
use Rattle.protocol.specs.Calls.{DeviceCall, detect_type_a_of, detect_type_a_split, detect_type_b_of, detect_type_f_of, poll_type_f, detect_dep_of, transceive, read_without_encryption, write_without_encryption}
use Rattle.protocol.specs.Starts.{Start, starts, row_start, device_start, reader_start, type_a_code, type_b_code, type_f_code, dep_code, is106a, type2_sel_res, is_sendable, clock_of, transceive_start, data_limit}
use Rattle.protocol.specs.Arguments.{system_codes_fit, atr_req_fits, shortest_atr_req, longest_atr_req}
use Rattle.protocol.specs.Starts.{refuses as refuses_start, limited as limited_start, asserted as asserted_start}
use Rattle.stages.specs.Stages.{Decision, cmd, send, ends, refuse as refuse_with}
use Rattle.stages.specs.Starts.{refuses, sends, staged, limited, staged_limited, asserted}
use Rattle.stages.specs.Starts as stages
use Rattle.stages.specs.Bitrates.{code_for}
use Rattle.chipset.specs.Commands.{row_first, first_of}
use Rattle.chipset.specs.Kinds.{kind_of, reset_mode_kind, thru_kind}
use Rattle.device.specs.Transceive.{type1_first, thru_first, transceive_first}
use Rattle.device.specs.Blocks.{read_first, write_first}
use Rattle.felica.specs.Packets.{request_fits, write_fits_of}
use Rattle.discovery.specs.Firsts.{list_first, type_b_first, type_f_first, poll_first, poll_asserted, dep_first, dep_asserted}
use Rattle.discovery.specs.FirstLaws.{jump_few, list_few}
use Rattle.calls.specs.Firsts.{device_first, start_for}
use Rattle.calls.specs.Tables.{command_of, is_reset_of, decided_of, failed_of}
use Rattle.calls.specs.Refines.{Refines, refines_reset, Awaits, refusal}
use Rattle.calls.specs.Single.{Interprets, answer_refines, answers, empty, by_status_lem, interprets_version, interprets_write, interprets_first, interprets_list, interprets_exchange, interprets_thru, interprets_type2, interprets_type1, interprets_jump, interprets_initiator, interprets_target}
use Rattle.calls.specs.TypeA.{type_a_refines, split_refines}
use Rattle.calls.specs.Discoveries.{type_b_refines, type_f_refines, dep_refines}
use Rattle.calls.specs.Blocks.{read_length, write_length, interprets_read, interprets_written}
use Rattle.calls.specs.Polls.{poll_refines}
use Rattle.device.specs.Kinds.{opening_kind, type2_kind, type1_kind}
use Rattle.discovery.specs.Kinds.{type_a_kind, type_b_kind, type_f_kind, dep_kind, poll_type_f_kind, type_a_split_kind}
use Rattle.calls.specs.Kinds.{no_call_kind, last_kind, first_stage}
use Rattle.protocol.specs.Names.{one_target, target_number}

-- a kind of a call of an open reader
pub record Kind (kind : ℕ) : Type 0 where
  pub running : eqb kind no_call_kind ≡ false
  pub no_opening : eqb kind opening_kind ≡ false
  pub within : leb kind last_kind ≡ true

a_kind : {kind : ℕ} → eqb kind no_call_kind ≡ false → eqb kind opening_kind ≡ false → leb kind last_kind ≡ true → Kind kind
a_kind p q r = record { running = p; no_opening = q; within = r }

-- both refuse; the script's first command is the one sent; or the command of stage 0 leads to the script
pub data Starting : Start → stages.Start → Type 0 where
  refused_now : (r : Refusal) → Starting (refuses_start r) (refuses r)
  first : (kind code clock : ℕ) (bytes : List ℕ) (k : Reply → Script) → Kind kind → is_reset_of kind first_stage ≡ false → length bytes ≤ data_limit
      → ((found : List ℕ) → Awaits kind first_stage 0 bytes found k) → Starting (starts (command code clock bytes k)) (sends kind (cmd code clock bytes))
  from_stage : (kind : ℕ) (pending : List ℕ) (s : Script) → Kind kind → length pending ≤ data_limit → ((found : List ℕ) → Refines kind 0 pending found (send first_stage) s)
      → Starting (starts s) (staged kind pending)

-- data over 512 bytes are refused
begins-limited : (bytes : List ℕ) {s : Script} {l : stages.Start} → (length bytes ≤ data_limit → Starting (starts s) l)
    → Starting (limited_start bytes s) (pick (ltb data_limit (length bytes)) (refuses OverLong) l)
unfolding pick
begins-limited bytes {s} {l} h = go (ltb data_limit (length bytes)) refl
  where
    go : (t : Bool) → ltb data_limit (length bytes) ≡ t → Starting (cond t (refuses_start OverLong) (starts s)) (pick t (refuses OverLong) l)
    go true e = refused_now OverLong
    go false e = h (ltb-false data_limit (length bytes) e)

begins-asserted : (t : Bool) {x : Start} {l : stages.Start} → (t ≡ true → Starting x l) → Starting (asserted_start t x) (asserted t l)
unfolding asserted pick
begins-asserted true h = h refl
begins-asserted false h = refused_now BadArgument

-- ---- a call of one command

-- what the tables have for a kind and its first stage
record Stage : Type 0 where
  no_call_of : Bool
  opening : Bool
  within : Bool
  reset : Bool
  decision : List ℕ → List ℕ → Decision
  failure : List ℕ → Fault → Decision

abbrev stage_of : ℕ → List ℕ → Stage
stage_of kind bytes =
    record {
      no_call_of = eqb kind no_call_kind;
      opening = eqb kind opening_kind;
      within = leb kind last_kind;
      reset = is_reset_of kind first_stage;
      decision = decided_of kind first_stage 0 bytes;
      failure = failed_of kind first_stage 0 bytes;
    }

-- the response ends the call with the answer a, a failure with its fault
abbrev ending : (List ℕ → Answer ℕ) → Stage
ending a = record { no_call_of = false; opening = false; within = true; reset = false; decision = λ _ bs. ends (a bs); failure = λ _ r. refuse_with r }

-- a kind of this stage, with the answer that the script f has
record Reads (kind : ℕ) (bytes : List ℕ) (f : List ℕ → Script) : Type 0 where
  answer : List ℕ → Answer ℕ
  stage : stage_of kind bytes ≡ ending answer
  interprets : (bs : List ℕ) → Interprets (f bs) (answer bs)

reads : {kind : ℕ} {bytes : List ℕ} {f : List ℕ → Script} {a : List ℕ → Answer ℕ} → stage_of kind bytes ≡ ending a → ((bs : List ℕ) → Interprets (f bs) (a bs)) → Reads kind bytes f
reads e h = record { answer = _; stage = e; interprets = h }

module _ {kind : ℕ} {bytes : List ℕ} {f : List ℕ → Script} (code clock : ℕ) (k : Reads kind bytes f) where
  single : length bytes ≤ data_limit → Starting (starts (command code clock bytes (either f refuse))) (sends kind (cmd code clock bytes))
  single few =
      first kind code clock bytes (either f refuse)
      (a_kind (ap (λ s. s.no_call_of) k.stage) (ap (λ s. s.opening) k.stage) (ap (λ s. s.within) k.stage))
      (ap (λ s. s.reset) k.stage) few
      (λ found. record {
        answered = λ cs _. rw (ap (λ s. s.decision found cs) k.stage) (answer_refines (k.interprets cs));
        failing = λ e. rw (ap (λ s. s.failure found e) k.stage) (refusal e);
      })

  single-limited : Starting (limited_start bytes (command code clock bytes (either f refuse))) (limited kind (cmd code clock bytes))
  unfolding limited
  single-limited = begins-limited bytes single

-- a line for each rule
rule_reads : (bytes : List ℕ) (q : Rule) → Reads (kind_of q) bytes (rule_script q)
unfolding decided_of failed_of is_reset_of pick
rule_reads bytes version = reads refl interprets_version
rule_reads bytes no_bytes_of = reads refl (λ _. empty)
rule_reads bytes all_bytes = reads refl (answers 0)
rule_reads bytes registers_written = reads refl interprets_write
rule_reads bytes first_byte_of = reads refl interprets_first
rule_reads bytes listed_target = reads refl interprets_list
rule_reads bytes exchanged_data = reads refl interprets_exchange
rule_reads bytes thru = reads refl interprets_thru
rule_reads bytes jump = reads refl interprets_jump
rule_reads bytes status = reads refl (λ bs. by_status_lem bs empty)
rule_reads bytes initiator_command = reads refl interprets_initiator
rule_reads bytes target_status = reads refl interprets_target

row-begins : (w : Row) → Starting (row_start w) (row_first w)
unfolding is_reset_of command_of decided_of pick
row-begins (row holds code clock bytes q) = begins-asserted holds (λ _. single-limited code clock (rule_reads bytes q))
row-begins resets = from_stage reset_mode_kind [] _ (a_kind refl refl refl) (omega arith) (λ found. refines_reset first_stage _ refl refl refl (answer_refines empty))

-- ---- a discovery, or transceive

by_code : (takes : Bitrate → Option ℕ) (text : List ℕ) (f : ℕ → Start) (g : ℕ → stages.Start) → ((code : ℕ) → Starting (f code) (g code))
    → Starting (by_bitrate (refuses_start BadBitrate) (choice_of text) (λ b. by_code_of (refuses_start BadBitrate) (takes b) f)) (code_for takes text g)
unfolding code_for
by_code takes text f g h = go (choice_of text)
  where
    on : (o : Option ℕ) → Starting (by_code_of (refuses_start BadBitrate) o f) (by_code_of (refuses BadBitrate) o g)
    on none = refused_now BadBitrate
    on (some code) = h code

    go : (c : Choice) → Starting (by_bitrate (refuses_start BadBitrate) c (λ b. by_code_of (refuses_start BadBitrate) (takes b) f)) (by_bitrate (refuses BadBitrate) c (λ b. by_code_of (refuses BadBitrate) (takes b) g))
    go (chosen b) = on (takes b)
    go (no_code_of e) = refused_now BadBitrate

-- Type A's list, of a kind that has its stages
list_begins : (kind : ℕ) → Kind kind → (uid : List ℕ) (code : ℕ) (s : Script) → ((found : List ℕ) → Refines kind 0 (one_target ∷ code ∷ cascaded uid) found (send first_stage) s)
    → Starting (limited_start (one_target ∷ code ∷ cascaded uid) s) (list_first kind uid code)
unfolding list_first staged_limited
list_begins kind h uid code s k = begins-limited (one_target ∷ code ∷ cascaded uid) (λ few. from_stage kind _ _ h few k)

dep_begins : (req : List ℕ) → length req ≤ longest_atr_req → (code : ℕ) → Starting (starts (dep_script code req)) (dep_first req code)
unfolding dep_first
dep_begins req h code = from_stage dep_kind _ _ (a_kind refl refl refl) (jump_few req code h) (dep_refines code req)

transceive_begins : (rate : Bitrate) (selRes : List ℕ) (ridRes : Bool) (bytes : List ℕ) (ms : ℕ)
    → Starting (transceive_start rate selRes ridRes bytes ms) (pick ridRes (type1_first bytes ms) (thru_first rate selRes bytes ms))
unfolding type1_first thru_first decided_of failed_of is_reset_of pick
transceive_begins rate selRes true bytes ms = go (is_sendable bytes)
  where
    go : (t : Bool) → Starting (cond t (limited_start (target_number ∷ bytes) (transceive_type1 bytes ms)) (refuses_start NotSendable)) (pick t (limited type1_kind (cmd in_data_exchange_code ms (target_number ∷ bytes))) (refuses NotSendable))
    go true = single-limited in_data_exchange_code ms (reads refl interprets_type1)
    go false = refused_now NotSendable
transceive_begins rate selRes false bytes ms = go (is106a rate && type2_sel_res selRes)
  where
    go : (t : Bool) → Starting (limited_start bytes (if_else t (transceive_type2 bytes ms) (transceive_thru bytes ms))) (limited (pick t type2_kind thru_kind) (cmd in_communicate_thru_code ms bytes))
    go true = single-limited in_communicate_thru_code ms (reads refl interprets_type2)
    go false = single-limited in_communicate_thru_code ms (rule_reads bytes thru)

-- a read and a write of FeliCa blocks
read_begins : (idm : List ℕ) (service : ℕ) (blocks : List ℕ) (ms : ℕ)
    → Starting (asserted_start (request_fits idm blocks) (starts (read_blocks idm service blocks ms))) (read_first idm service blocks ms)
unfolding read_first decided_of failed_of is_reset_of pick
read_begins idm service blocks ms =
    begins-asserted (request_fits idm blocks)
    (λ h. single in_communicate_thru_code ms (reads refl (interprets_read idm service blocks h)) (read_length idm service blocks h))

write_begins : (idm : List ℕ) (service : ℕ) (blocks bytes : List ℕ) (ms : ℕ)
    → Starting (asserted_start (write_fits_of idm blocks bytes) (starts (write_blocks idm service blocks bytes ms))) (write_first idm service blocks bytes ms)
unfolding write_first decided_of failed_of is_reset_of pick
write_begins idm service blocks bytes ms =
    begins-asserted (write_fits_of idm blocks bytes)
    (λ h. single in_communicate_thru_code ms (reads refl (interprets_written idm service blocks bytes h)) (write_length idm service blocks bytes h))

-- one line for each call
device_begins : (d : DeviceCall) → Starting (device_start d) (device_first d)
unfolding device_first type_b_first type_f_first poll_asserted poll_first dep_asserted transceive_first
device_begins (detect_type_a_of text uid) = by_code type_a_code text _ _ (λ code. list_begins type_a_kind (a_kind refl refl refl) uid code _ (type_a_refines code uid))
device_begins (detect_type_a_split text uid) = by_code type_a_code text _ _ (λ code. list_begins type_a_split_kind (a_kind refl refl refl) uid code _ (split_refines code uid))
device_begins (detect_type_b_of text sensbReq) =
    by_code type_b_code text _ _ (λ code. from_stage type_b_kind _ _ (a_kind refl refl refl) (omega arith) (type_b_refines code (get_or sensbReq 0 0)))
device_begins (detect_type_f_of text systemCode requestCode timeSlots) =
    by_code type_f_code text _ _
    (λ code. from_stage type_f_kind _ _ (a_kind refl refl refl) (omega arith) (type_f_refines code (sensf_req systemCode requestCode timeSlots)))
device_begins (poll_type_f text words) =
    begins-asserted (system_codes_fit words)
    (λ h. by_code type_f_code text _ _ (λ code. from_stage poll_type_f_kind _ _ (a_kind refl refl refl) (omega (arith, list_few words h)) (poll_refines code words h)))
device_begins (detect_dep_of text atrReq) =
    begins-asserted (atr_req_fits atrReq)
    (λ h. by_code dep_code text _ _ (dep_begins atrReq (leb-true (length atrReq) longest_atr_req (both_right (leb shortest_atr_req (length atrReq)) _ h))))
device_begins (transceive text selRes ridRes bytes ms) = go (choice_of text)
  where
    go : (c : Choice)
        → Starting (by_bitrate (refuses_start BadBitrate) c (λ rate. transceive_start rate selRes ridRes bytes (clock_of ms)))
        (by_bitrate (refuses BadBitrate) c (λ rate. pick ridRes (type1_first bytes (clock_of ms)) (thru_first rate selRes bytes (clock_of ms))))
    go (chosen rate) = transceive_begins rate selRes ridRes bytes (clock_of ms)
    go (no_code_of e) = refused_now BadBitrate
device_begins (read_without_encryption idm service blocks ms) = read_begins idm service blocks (clock_of ms)
device_begins (write_without_encryption idm service blocks bytes ms) = write_begins idm service blocks bytes (clock_of ms)

pub reader_begins : (q : ReaderCall) → Starting (reader_start q) (start_for q)
unfolding start_for first_of
reader_begins (request r) = row-begins (row_of r)
reader_begins (device d) = device_begins d
reader_begins unknown = refused_now BadArgument
