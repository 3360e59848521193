-- Type A's discovery, and the mode that separates UID and ATS: what is decided at each stage is what the script has.
use Rattle.std.specs.Prelude.{◌≡◌, Bool, ℕ, ◌+◌, ◌%◌, ◌≤◌, eqb, ltb, length, take}
use Rattle.std.proofs.Math.Path.{refl, sym}
use Rattle.std.proofs.Common.{ap, ◌∙◌, arith, length-drop, get_or-drop, get_or-append-add}
use Rattle.std.proofs.Math.Bool.{true, false}
use mathlib.Core.List.{List, [], ◌∷◌, ◌++◌}
use Rattle.std.proofs.Math.ListN.{drop, get_or}
use Rattle.errors.specs.Choice.{pick}
use Rattle.errors.specs.declared.Fault.{Fault}
use Rattle.errors.specs.declared.Fault.TheVariants.{Status, ShortResponse, UidLayout}
use Rattle.exchange.specs.Packets.{Reply, response, is_empty}
use Rattle.targets.specs.TypeA.{is_target_data, is_type2}
use Rattle.protocol.specs.Scripts.{Byte, Answer, done, type1, uid_and_ats, nothing, refused, Script, finish, command, either, refuse, if_else, byte_at, rest}
use Rattle.protocol.specs.Rules.{any_nonzero_of, masked_status}
use Rattle.protocol.specs.Arguments.{word}
use Rattle.protocol.specs.Discovery.{detect_type_a_of, detect_type_a_split, cascaded, card_a, uid_length, ats_length, found_a, found_split, none_on_status, card_type1, try_type1, no_target}
use Rattle.protocol.specs.Machine.{plain_answer}
use Rattle.protocol.specs.Values.{rest-values}
use Rattle.stages.specs.Stages.{Decision, send, ends, with_length}
use Rattle.chipset.specs.Responses.{found_written_of}
use Rattle.discovery.specs.Decisions.{type_a_command, card_bytes, listed_a_of, fifo_read, sens_res, listed_type1_of, rid_of, rx_mode_read, type_a_decision, rid_failure, type_a_failure, split_found, split_listed, split_written, split_decision}
use Rattle.stages.specs.Decided.{found_limit}
use Rattle.calls.specs.Tables.{command_of, is_reset_of, decided_of, failed_of}
use Rattle.calls.specs.Refines.{Refines, refines_keep, refines_next, refines_put, Awaits, refines_if, refines_status, ending, none_found, refusal, by_length, go_on}
use Rattle.calls.specs.Single.{empty_length}
use Rattle.protocol.specs.Names.{ciu_rx_mode, in_list_passive_target_clock, register_write_failed, registers_clock, rid_clock, sel_res_offset, sens_req, sens_res_offset, target_offset, uid_offset, rx_crc_en, one_target, target_number, rid_data}
use Rattle.protocol.specs.Calls.{in_data_exchange_code, in_list_passive_target_code, read_register_code, write_register_code}
use Rattle.discovery.specs.Kinds.{type_a_kind, type_a_split_kind, list_stage, fifo_stage, list_type1_stage, rid_stage, read_rx_mode_stage, write_rx_mode_stage}

-- the answer without places, at once and where its bytes were kept
card-plain : (list : List ℕ) → plain_answer (done (card_a list)) ≡ done (card_bytes list)
card-plain list = ap (λ l. done (get_or list (sens_res_offset + 1) 0 ∷ get_or list sens_res_offset 0 ∷ get_or list sel_res_offset 0 ∷ l)) (rest-values 0 list uid_offset)

split_plain : (list : List ℕ) → plain_answer (uid_and_ats (card_a list) (uid_length list) (ats_length list)) ≡ uid_and_ats (card_bytes list) (uid_length list) (ats_length list)
split_plain list = ap (λ l. uid_and_ats (get_or list (sens_res_offset + 1) 0 ∷ get_or list sens_res_offset 0 ∷ get_or list sel_res_offset 0 ∷ l) (uid_length list) (ats_length list)) (rest-values 0 list uid_offset)

ats-kept : (list : List ℕ) → ats_length list ≡ get_or (card_bytes list) (3 + uid_length list) 0
ats-kept list =
    sym (get_or-append-add (get_or list (sens_res_offset + 1) 0 ∷ get_or list sens_res_offset 0 ∷ get_or list sel_res_offset 0 ∷ []) (drop uid_offset list) (uid_length list) 0 ∙ get_or-drop uid_offset list (uid_length list) 0)

-- the scripts behind each of its commands; a is the answer behind the RX mode
abbrev rx_written : Answer Byte → Reply → Script
rx_written a = either (λ bs. if_else (any_nonzero_of bs) (refuse (Status register_write_failed)) (finish a)) refuse

abbrev rx_read : Answer Byte → Reply → Script
rx_read a = either (λ bs. if_else (ltb (length bs) 1) (refuse ShortResponse) (command write_register_code registers_clock (word ciu_rx_mode ++ (get_or bs 0 0 % rx_crc_en ∷ [])) (rx_written a))) refuse

abbrev rid_answered : List ℕ → Reply → Script
rid_answered found =
    either (λ bs. if_else (is_empty bs) (finish nothing) (if_else (eqb (masked_status bs) 0) (card_type1 found bs) (finish nothing))) none_on_status

abbrev list_answered : (List ℕ → Script) → Reply → Script
list_answered found = either (λ list. if_else (eqb (get_or list 0 0) 0) no_target (if_else (ltb (length list) 2) (refuse ShortResponse) (found list))) refuse

-- SENS_RES is kept, or nothing of a list that is too short for it
sens_res_few : (list : List ℕ) → length (sens_res list) ≤ found_limit
unfolding sens_res pick
sens_res_few list = go (ltb (length list) 4)
  where
    go : (t : Bool) → length (pick t [] (get_or list (sens_res_offset + 1) 0 ∷ get_or list sens_res_offset 0 ∷ [])) ≤ found_limit
    go true = omega arith
    go false = omega arith

-- ---- a kind whose commands, failures and stages 1 to 4 are Type A's

record LikeTypeA (kind : ℕ) : Type 0 where
  commands : (stage cursor : ℕ) (pending : List ℕ) → command_of kind stage cursor pending ≡ type_a_command stage pending
  no_reset : (stage : ℕ) → is_reset_of kind stage ≡ false
  fifo : (cursor : ℕ) (pending found bs : List ℕ) → decided_of kind fifo_stage cursor pending found bs ≡ fifo_read bs
  type1_list : (cursor : ℕ) (pending found bs : List ℕ) → decided_of kind list_type1_stage cursor pending found bs ≡ listed_type1_of bs
  rid : (cursor : ℕ) (pending found bs : List ℕ) → decided_of kind rid_stage cursor pending found bs ≡ rid_of found bs
  rx_mode : (cursor : ℕ) (pending found bs : List ℕ) → decided_of kind read_rx_mode_stage cursor pending found bs ≡ rx_mode_read bs
  fails : (stage cursor : ℕ) (pending found : List ℕ) (r : Fault) → failed_of kind stage cursor pending found r ≡ type_a_failure stage r

module _ (kind : ℕ) (like : LikeTypeA kind) where
  rid-done : (pending list cs : List ℕ)
      → Refines kind 0 pending (sens_res list) (with_length (sens_res list) 2 (ends (type1 (take 2 (sens_res list) ++ drop 1 cs)))) (card_type1 list cs)
  unfolding sens_res with_length pick
  rid-done pending list cs = go (ltb (length list) 4)
    where
      go : (t : Bool)
          → Refines kind 0 pending (sens_res list) (pick (ltb (length (pick t [] (get_or list (sens_res_offset + 1) 0 ∷ get_or list sens_res_offset 0 ∷ []))) 2) (ends (refused ShortResponse)) (ends (type1 (take 2 (pick t [] (get_or list (sens_res_offset + 1) 0 ∷ get_or list sens_res_offset 0 ∷ [])) ++ drop 1 cs))))
          (if_else t (refuse ShortResponse) (finish (type1 (byte_at 2 list (sens_res_offset + 1) ∷ byte_at 2 list sens_res_offset ∷ rest 3 cs 1))))
      go true = refusal ShortResponse
      go false = ending _ (ap (λ l. type1 (get_or list (sens_res_offset + 1) 0 ∷ get_or list sens_res_offset 0 ∷ l)) (rest-values 3 cs 1))

  stage-3 : (pending list : List ℕ) → Awaits kind rid_stage 0 pending (sens_res list) (rid_answered list)
  unfolding type_a_failure rid_of rid_failure pick
  stage-3 pending list = record {
    answered = λ cs few.
        rw (like.rid 0 pending (sens_res list) cs, sym (empty_length cs))
        (refines_if (is_empty cs) (λ _. none_found)
        (λ _. refines_if (eqb (masked_status cs) 0) (λ _. rid-done pending list cs) (λ _. none_found)));
    failing = λ r. rw (like.fails 3 0 pending (sens_res list) r) (refines_status r (λ _ _. none_found) (refusal r));
  }

  -- the RX mode, with any cursor
  stage-4 : (cursor : ℕ) (found : List ℕ) (a : Answer Byte) → ((pending : List ℕ) → Awaits kind write_rx_mode_stage cursor pending found (rx_written a))
      → (pending : List ℕ) → Awaits kind read_rx_mode_stage cursor pending found (rx_read a)
  unfolding rx_mode_read type_a_failure type_a_command pick
  stage-4 cursor found a then pending = record {
    answered = λ cs few.
        rw (like.rx_mode cursor pending found cs)
        (by_length cs 1 (λ _. refines_put write_rx_mode_stage _ _ (omega arith) (go_on write_rx_mode_stage write_register_code registers_clock _ refl (like.no_reset write_rx_mode_stage) (like.commands write_rx_mode_stage cursor _) (then (word ciu_rx_mode ++ (get_or cs 0 0 % rx_crc_en ∷ []))))));
    failing = λ r. rw (like.fails read_rx_mode_stage cursor pending found r) (refusal r);
  }

  stage-2 : (pending found : List ℕ)
      → Awaits kind list_type1_stage 0 pending found (either (λ list. if_else (eqb (get_or list 0 0) 0) (finish nothing) (if_else (ltb (length list) 2) (refuse ShortResponse) (command in_data_exchange_code rid_clock (target_number ∷ rid_data) (rid_answered list)))) refuse)
  unfolding type_a_failure listed_type1_of type_a_command pick
  stage-2 pending found = record {
    answered = λ cs few.
        rw (like.type1_list 0 pending found cs)
        (refines_if (eqb (get_or cs 0 0) 0) (λ _. none_found)
        (λ _. by_length cs 2 (λ _. refines_keep rid_stage _ _ (sens_res_few cs) (go_on rid_stage in_data_exchange_code rid_clock _ refl (like.no_reset 3) (like.commands 3 0 _) (stage-3 pending cs)))));
    failing = λ r. rw (like.fails 2 0 pending found r) (refusal r);
  }

  stage-1 : (pending found : List ℕ) → Awaits kind fifo_stage 0 pending found (either (λ bs. if_else (eqb (get_or bs 0 0) sens_req) (finish nothing) try_type1) (λ _. try_type1))
  unfolding fifo_read type_a_failure type_a_command pick
  stage-1 pending found =
      let type1Try = go_on list_type1_stage in_list_passive_target_code in_list_passive_target_clock _ refl (like.no_reset 2) (like.commands 2 0 _) (stage-2 pending found) in
      record {
        answered = λ cs few. rw (like.fifo 0 pending found cs) (refines_if (eqb (get_or cs 0 0) sens_req) (λ _. none_found) (λ _. type1Try));
        failing = λ r. rw (like.fails 1 0 pending found r) type1Try;
      }

  -- no target, and a list that is too short; the rest by what was listed
  listed-else : (f : List ℕ → Script) (pending found cs : List ℕ) {d : Decision} → (2 ≤ length cs → Refines kind 0 pending found d (f cs))
      → Refines kind 0 pending found (pick (eqb (get_or cs 0 0) 0) (send fifo_stage) (with_length cs 2 d)) (list_answered f (response cs))
  unfolding type_a_command pick
  listed-else f pending found cs h =
      refines_if (eqb (get_or cs 0 0) 0) (λ _. go_on fifo_stage read_register_code registers_clock _ refl (like.no_reset 1) (like.commands 1 0 _) (stage-1 pending found)) (λ _. by_length cs 2 h)

  from_list : (code : ℕ) (uid found : List ℕ) (f : List ℕ → Script) → Awaits kind list_stage 0 (one_target ∷ code ∷ cascaded uid) found (list_answered f)
      → Refines kind 0 (one_target ∷ code ∷ cascaded uid) found (send list_stage) (command in_list_passive_target_code in_list_passive_target_clock (one_target ∷ code ∷ cascaded uid) (list_answered f))
  unfolding type_a_command pick
  from_list code uid found f h = go_on list_stage in_list_passive_target_code in_list_passive_target_clock _ refl (like.no_reset 0) (like.commands 0 0 _) h

-- ---- the mode off

off : LikeTypeA type_a_kind
unfolding command_of is_reset_of decided_of failed_of type_a_decision pick
off = record {
  commands = λ stage cursor pending. refl;
  no_reset = λ stage. refl;
  fifo = λ cursor pending found bs. refl;
  type1_list = λ cursor pending found bs. refl;
  rid = λ cursor pending found bs. refl;
  rx_mode = λ cursor pending found bs. refl;
  fails = λ stage cursor pending found r. refl;
}

type_a_5 : (list pending : List ℕ) → Awaits type_a_kind write_rx_mode_stage 0 pending (card_bytes list) (rx_written (done (card_a list)))
unfolding decided_of failed_of type_a_decision found_written_of type_a_failure pick
type_a_5 list pending = record {
  answered = λ cs few. refines_if (any_nonzero_of cs) (λ _. refusal (Status register_write_failed)) (λ _. ending _ (card-plain list));
  failing = λ r. refusal r;
}

type_a_0 : (pending found : List ℕ) → Awaits type_a_kind list_stage 0 pending found (list_answered found_a)
unfolding decided_of failed_of type_a_decision type_a_failure listed_a_of type_a_command pick
type_a_0 pending found = record {
  answered = λ cs few.
      listed-else type_a_kind off found_a pending found cs
      (λ _. refines_if (ltb (length cs) uid_offset) (λ _. none_found)
      (λ _. refines_if (is_type2 (get_or cs sel_res_offset 0)) (λ _. refines_keep read_rx_mode_stage _ _ (omega (arith, length-drop uid_offset cs)) (go_on read_rx_mode_stage read_register_code registers_clock _ refl (off.no_reset 4) (off.commands 4 0 _) (stage-4 type_a_kind off 0 _ _ (type_a_5 cs) pending))) (λ _. ending _ (card-plain cs))));
  failing = λ r. refusal r;
}

pub type_a_refines : (code : ℕ) (uid found : List ℕ) → Refines type_a_kind 0 (one_target ∷ code ∷ cascaded uid) found (send list_stage) (detect_type_a_of code uid)
type_a_refines code uid found = from_list type_a_kind off code uid found found_a (type_a_0 _ found)

-- ---- the mode on: the cursor is the UID's length behind the list

on : LikeTypeA type_a_split_kind
unfolding command_of is_reset_of decided_of failed_of split_decision type_a_decision pick
on = record {
  commands = λ stage cursor pending. refl;
  no_reset = λ stage. refl;
  fifo = λ cursor pending found bs. refl;
  type1_list = λ cursor pending found bs. refl;
  rid = λ cursor pending found bs. refl;
  rx_mode = λ cursor pending found bs. refl;
  fails = λ stage cursor pending found r. refl;
}

split_5 : (list pending : List ℕ) → Awaits type_a_split_kind write_rx_mode_stage (uid_length list) pending (card_bytes list) (rx_written (uid_and_ats (card_a list) (uid_length list) (ats_length list)))
unfolding decided_of failed_of split_decision split_written type_a_failure pick
split_5 list pending = record {
  answered = λ cs few.
      refines_if (any_nonzero_of cs) (λ _. refusal (Status register_write_failed))
      (λ _. ending _ (split_plain list ∙ ap (uid_and_ats (card_bytes list) (uid_length list)) (ats-kept list)));
  failing = λ r. refusal r;
}

split_0 : (pending found : List ℕ) → Awaits type_a_split_kind list_stage 0 pending found (list_answered found_split)
unfolding decided_of failed_of split_decision type_a_failure split_listed split_found type_a_command pick
split_0 pending found = record {
  answered = λ cs few.
      listed-else type_a_split_kind on found_split pending found cs
      (λ _. refines_if (ltb (length cs) uid_offset) (λ _. none_found)
      (λ _. refines_if (is_target_data (drop target_offset cs))
      (λ _. refines_if (is_type2 (get_or cs sel_res_offset 0)) (λ _. refines_next read_rx_mode_stage _ _ _ (omega (arith, length-drop uid_offset cs)) (go_on read_rx_mode_stage read_register_code registers_clock _ refl (on.no_reset 4) (on.commands 4 (uid_length cs) _) (stage-4 type_a_split_kind on _ _ _ (split_5 cs) pending))) (λ _. ending _ (split_plain cs)))
      (λ _. refusal UidLayout)));
  failing = λ r. refusal r;
}

pub split_refines : (code : ℕ) (uid found : List ℕ) → Refines type_a_split_kind 0 (one_target ∷ code ∷ cascaded uid) found (send list_stage) (detect_type_a_split code uid)
split_refines code uid found = from_list type_a_split_kind on code uid found found_split (split_0 _ found)
