-- Several system codes in one poll: what is decided at each stage of each code is what the script of the list has.
use Rattle.std.specs.Prelude.{◌≡◌, Bool, eqb, leb, ltb, take, drop, get_or}
use Rattle.std.proofs.Math.Path.{refl, ap}
use Rattle.std.proofs.Common.{sym, ap₂, ◌∙◌, length-append, length-drop, get_or-drop, drop-drop}
use Rattle.std.proofs.Math.Bool.{true, false}
use mathlib.Core.List.{List, [], ◌∷◌, ◌++◌, map, map-append}
use Prim.Native.Nat.{ℕ, zero, suc, ◌+◌, ◌*◌, ◌/◌, ◌%◌, ◌≤◌, ◌<◌}
use native.Mathlib.Omega.{arith}
use borrow.Author.Tests.{lt-ltb, lt-leb, le-leb, leb-true}
use Rattle.std.proofs.Math.ListN.{length, length-take, length-map}
use Rattle.errors.specs.Choice.{pick}
use Rattle.errors.specs.declared.Fault.{Fault}
use Rattle.errors.specs.declared.Fault.TheVariants.{ShortResponse, NoCard}
use Rattle.framing.specs.Valid.{both_left, both_right}
use Rattle.protocol.specs.Scripts.{Byte, own, card, value, commands_later, Answer, done, refused, refused_after, Script, finish, command, field_pause, either, refuse, if_else, and_then, rest}
use Rattle.protocol.specs.Discovery.{poll, by_no_card, card_met, no_card_met, detect_type_f_of, code_end, poll_codes, poll_type_f, system_code_req}
use Rattle.protocol.specs.Arguments.{system_codes_fit, words_in, system_codes}
use Rattle.protocol.specs.Laws.{by_fault}
use Rattle.stages.specs.Stages.{cmd, Decision, send, ends, with_length}
use Rattle.discovery.specs.Decisions.{type_f_command, tx_control_read, polled, type_f_decision, poll_of, poll_command, so_far_limit, so_far, last_code, has_next_of, code_finished, poll_failure, on_end, poll_decision}
use Rattle.discovery.specs.FirstLaws.{list_few}
use Rattle.discovery.specs.PollLaws.{none_yet, all_found}
use Rattle.stages.specs.Decided.{found_limit}
use Rattle.calls.specs.Tables.{command_of, is_reset_of, decided_of, failed_of}
use Rattle.calls.specs.Refines.{Refines, refines_next, refines_pause, Awaits, ending, go_on}
use Rattle.protocol.specs.Values.{rest-values}
use Rattle.protocol.specs.Names.{command_clock, in_list_passive_target_clock, registers_clock, idm_and_pmm, listed_idm_offset, pmm_end, one_target, card_mark, tx_rf_en}
use Rattle.protocol.specs.Calls.{in_list_passive_target_code, read_register_code, rf_configuration_code}
use Rattle.discovery.specs.Kinds.{poll_type_f_kind, field_stage, rf_on_stage, poll_stage}

-- ---- one code: Type F's stages, and behind its end whatever f has

module _ (cursor : ℕ) (pending found : List ℕ) (f : ℕ → Answer Byte → Script) where
  abbrev RefinesHere : Decision → Script → Type 0
  RefinesHere = Refines poll_type_f_kind cursor pending found

  -- Type F's decision with the ends of a code
  abbrev ended : Decision → Decision
  ended = on_end (λ bytes. code_finished cursor pending found (card_mark ∷ take idm_and_pmm bytes)) (poll_failure cursor pending found)

  -- f code-ends the ends of a code
  record CodeEnds : Type 0 where
    met : (k : ℕ) (bytes : List Byte) → RefinesHere (code_finished cursor pending found (card_mark ∷ take idm_and_pmm (map value bytes))) (f k (done bytes))
    fails : (k : ℕ) (r : Fault) → RefinesHere (poll_failure cursor pending found r) (f k (refused r))

  then_if : (t : Bool) (k : ℕ) (x y : Decision) (s u : Script) → RefinesHere (ended x) (and_then s k f) → RefinesHere (ended y) (and_then u k f)
      → RefinesHere (ended (pick t x y)) (and_then (if_else t s u) k f)
  unfolding pick
  then_if true k x y s u h l = h
  then_if false k x y s u h l = l

  module _ (code-ends : CodeEnds) where
    then-long : (bs : List ℕ) (n k : ℕ) (d : Decision) (s : Script) → RefinesHere (ended d) (and_then s k f)
        → RefinesHere (ended (with_length bs n d)) (and_then (if_else (ltb (length bs) n) (refuse ShortResponse) s) k f)
    unfolding with_length
    then-long bs n k d s h = then_if (ltb (length bs) n) k _ d _ s (code-ends.fails k ShortResponse) h

    module _ (code : ℕ) (req : List ℕ) (polls : poll_of cursor pending ≡ one_target ∷ code ∷ req) where
      -- the poll is command j of the code, and k commands of the call are through behind it
      poll-2 : (j k : ℕ)
          → Awaits poll_type_f_kind poll_stage cursor pending found (λ r. and_then (either (λ list. if_else (eqb (get_or list 0 0) 0) (refuse NoCard) (if_else (ltb (length list) 2) (refuse ShortResponse) (if_else (ltb (length list) pmm_end) (refuse ShortResponse) (finish (done (rest j list listed_idm_offset)))))) refuse r) k f)
      unfolding decided_of failed_of poll_decision type_f_decision polled pick
      poll-2 j k = record {
        answered = λ cs few.
            then_if (eqb (get_or cs 0 0) 0) k _ _ _ _ (code-ends.fails k NoCard)
            (then-long cs 2 k _ _ (then-long cs pmm_end k (ends (done (drop listed_idm_offset cs))) (finish (done (rest j cs listed_idm_offset))) (rw (rest-values j cs listed_idm_offset) at (code-ends.met k (rest j cs listed_idm_offset)))));
        failing = λ r. code-ends.fails k r;
      }

      poll-1 : (k : ℕ) → Awaits poll_type_f_kind rf_on_stage cursor pending found (λ r. and_then (either (λ _. field_pause (poll 2 code req)) refuse r) k f)
      unfolding decided_of failed_of poll_decision type_f_decision command_of is_reset_of poll_command type_f_command pick
      poll-1 k = record {
        answered = λ cs few. refines_pause poll_stage _ refl (go_on poll_stage in_list_passive_target_code in_list_passive_target_clock (one_target ∷ code ∷ req) refl refl (ap (cmd in_list_passive_target_code in_list_passive_target_clock) polls) (poll-2 2 (suc k)));
        failing = λ r. code-ends.fails k r;
      }

      poll-0 : (k : ℕ)
          → Awaits poll_type_f_kind field_stage cursor pending found (λ r. and_then (either (λ bs. if_else (ltb (length bs) 1) (refuse ShortResponse) (if_else (eqb (get_or bs 0 0 % tx_rf_en) 0) (command rf_configuration_code command_clock (0x01 ∷ 0x01 ∷ []) (either (λ _. field_pause (poll 2 code req)) refuse)) (poll 1 code req))) refuse r) k f)
      unfolding decided_of failed_of poll_decision type_f_decision tx_control_read command_of is_reset_of poll_command type_f_command pick
      poll-0 k = record {
        answered = λ cs few.
            then-long cs 1 k _ _
            (then_if (eqb (get_or cs 0 0 % tx_rf_en) 0) k (send rf_on_stage) (send poll_stage) _ _ (go_on rf_on_stage rf_configuration_code command_clock _ refl refl refl (poll-1 (suc k))) (go_on poll_stage in_list_passive_target_code in_list_passive_target_clock (one_target ∷ code ∷ req) refl refl (ap (cmd in_list_passive_target_code in_list_passive_target_clock) polls) (poll-2 1 (suc k))));
        failing = λ r. code-ends.fails k r;
      }

      code-refines : (first : ℕ) → RefinesHere (send field_stage) (and_then (detect_type_f_of code req) first f)
      unfolding command_of is_reset_of poll_command type_f_command pick
      code-refines first = go_on field_stage read_register_code registers_clock _ refl refl refl (poll-0 (suc first))

-- ---- the codes one after the other

-- what a code adds at most
abbrev card_met_size : ℕ
card_met_size = 17

-- a fault, by whether it is 17
module _ {kind cursor : ℕ} {pending found : List ℕ} {x d : Decision} {s u : Script} where
  by_no_card_lem : Refines kind cursor pending found x s → Refines kind cursor pending found d u → (r : Fault) → Refines kind cursor pending found (by_no_card x d r) (by_no_card s u r)
  by_no_card_lem h k = by_fault (λ r. Refines kind cursor pending found (by_no_card x d r) (by_no_card s u r)) h (λ r e. rw (e _ x d, e _ s u) k)

values-behind : (n : ℕ) (bytes : List Byte) → map value (map (commands_later n) bytes) ≡ map value bytes
values-behind n [] = refl
values-behind n (own b ∷ bytes) = ap (λ l. b ∷ l) (values-behind n bytes)
values-behind n (card k p b ∷ bytes) = ap (λ l. b ∷ l) (values-behind n bytes)

values_taken : (n : ℕ) (bytes : List Byte) → map value (take n bytes) ≡ take n (map value bytes)
values_taken zero bytes = refl
values_taken (suc n) [] = refl
values_taken (suc n) (b ∷ bytes) = ap (λ l. value b ∷ l) (values_taken n bytes)

-- the answer so far with what a code adds
module _ (cursor first : ℕ) (found : List ℕ) (bytes add : List Byte) (is : map value bytes ≡ so_far cursor found) where
  values-added : map value (bytes ++ map (commands_later first) add) ≡ so_far cursor found ++ map value add
  values-added = map-append value bytes (map (commands_later first) add) ∙ ap₂ ◌++◌ is (values-behind first add)

  length-added : length (bytes ++ map (commands_later first) add) ≡ length bytes + length add
  length-added = length-append bytes (map (commands_later first) add) ∙ ap (λ n. length bytes + n) (length-map add (commands_later first))

module _ (cursor : ℕ) (pending : List ℕ) where
  has-next : cursor < last_code → 2 * cursor + 5 ≤ length pending → has_next_of cursor pending ≡ true
  unfolding has_next_of
  has-next h k = rw (lt-ltb cursor last_code h, le-leb (2 * cursor + 5) (length pending) k)

  has-no-next : length pending < 2 * cursor + 5 → has_next_of cursor pending ≡ false
  unfolding has_next_of
  has-no-next k = go (ltb cursor last_code)
    where
      go : (t : Bool) → Rattle.framing.specs.Lists.both t (leb (2 * cursor + 5) (length pending)) ≡ false
      go true = lt-leb (2 * cursor + 5) (length pending) k
      go false = refl

-- the poll of a code with these two bytes
polls_code : (code : ℕ) (words : List ℕ) (cursor high low : ℕ) (ws : List ℕ) → drop (2 * cursor) words ≡ high ∷ low ∷ ws
    → poll_of cursor (code ∷ words) ≡ one_target ∷ code ∷ system_code_req (256 * high + low)
polls_code code words cursor high low ws e =
    let one : 2 * cursor + 1 ≡ suc (2 * cursor + 0) = omega arith in
    let two : 2 * cursor + 2 ≡ suc (2 * cursor + 1) = omega arith in
    let h : get_or (code ∷ words) (2 * cursor + 1) 0 ≡ high = ap (λ n. get_or (code ∷ words) n 0) one ∙ sym (get_or-drop (2 * cursor) words 0 0) ∙ ap (λ l. get_or l 0 0) e in
    let l : get_or (code ∷ words) (2 * cursor + 2) 0 ≡ low = ap (λ n. get_or (code ∷ words) n 0) two ∙ sym (get_or-drop (2 * cursor) words 1 0) ∙ ap (λ l. get_or l 1 0) e in
    ap₂ (λ x y. one_target ∷ code ∷ system_code_req (256 * x + y)) h l

module _ (code : ℕ) (words : List ℕ) (few : length words ≤ 2 * system_codes) where
  -- at a code with these two bytes, behind which ws are left; what the finished codes added is `bytes`
  record At (cursor : ℕ) (high low : ℕ) (ws : List ℕ) (found : List ℕ) (bytes : List Byte) : Type 0 where
    left : drop (2 * cursor) words ≡ high ∷ low ∷ ws
    same : map value bytes ≡ so_far cursor found
    within : length bytes ≤ card_met_size * cursor

  module _ (cursor first high low : ℕ) (ws found : List ℕ) (bytes : List Byte) (at : At cursor high low ws found bytes) where
    abbrev pending : List ℕ
    pending = code ∷ words

    -- the answer with what this code adds
    abbrev added : List Byte → List Byte
    added add = bytes ++ map (commands_later first) add

    count : length words ≡ 2 * cursor + (2 + length ws)
    count = omega (arith, sym (length-drop (2 * cursor) words) ∙ ap length at.left)

    -- the last code is finished
    list_ends : (add : List Byte) → length ws < 2 → Refines poll_type_f_kind cursor pending found (code_finished cursor pending found (map value add)) (finish (done (added add)))
    unfolding code_finished pick
    list_ends add h =
        rw (has-no-next cursor pending (omega (arith, h, count))) (ending _ (ap done (values-added cursor first found bytes add at.same)))

    -- another code code-ends
    list-goes-on : (add : List Byte) (s : Script) → length add ≤ card_met_size → 2 ≤ length ws → Refines poll_type_f_kind (suc cursor) pending (so_far cursor found ++ map value add) (send field_stage) s
        → Refines poll_type_f_kind cursor pending found (code_finished cursor pending found (map value add)) s
    unfolding code_finished pick
    list-goes-on add s short h l =
        let n : length (so_far cursor found ++ map value add) ≤ found_limit
        = omega (arith, short, count, few, at.within, ap length (sym (values-added cursor first found bytes add at.same)), length-map (added add) value, length-added cursor first found bytes add at.same) in
        let one : cursor + 1 ≡ suc cursor = omega arith in
        rw (has-next cursor pending (omega (arith, h, count, few)) (omega (arith, h, count)), one) (refines_next field_stage (suc cursor) _ s n l)

    -- a code leads to its script where its end does
    code_step : (codes : List ℕ) → ((k : ℕ) (add : List Byte) → length add ≤ card_met_size → Refines poll_type_f_kind cursor pending found (code_finished cursor pending found (map value add)) (poll_codes code k (suc cursor) (added add) codes))
        → Refines poll_type_f_kind cursor pending found (send field_stage) (poll_codes code first cursor bytes ((256 * high + low) ∷ codes))
    unfolding poll_failure
    code_step codes finishes =
        let f : ℕ → Answer Byte → Script = λ k a. code_end (λ add. poll_codes code k (suc cursor) (added add) codes) (λ r. finish (refused_after r cursor)) a in
        let code-ends : CodeEnds cursor pending found f = record {
          met = λ k bs. rw (values_taken idm_and_pmm bs) at (finishes k (card_met bs) (omega (arith, length-take idm_and_pmm bs)));
          fails = λ k r. by_no_card_lem (finishes k no_card_met (omega arith)) (ending (refused_after r cursor) refl) r;
        } in
        code-refines cursor pending found f code-ends code _ (polls_code code words cursor high low ws at.left) first

  -- the next code, where there is one
  next-at : (cursor first high low x y : ℕ) (ws found : List ℕ) (bytes add : List Byte) (at : At cursor high low (x ∷ y ∷ ws) found bytes) → length add ≤ card_met_size
      → At (suc cursor) x y ws (so_far cursor found ++ map value add) (bytes ++ map (commands_later first) add)
  next-at cursor first high low x y ws found bytes add at short =
      let two : 2 * suc cursor ≡ 2 * cursor + 2 = omega arith in
      let v = values-added cursor first found bytes add at.same in
      let n = length-added cursor first found bytes add at.same in
      let c = count cursor first high low (x ∷ y ∷ ws) found bytes at in
      let m : length (so_far cursor found ++ map value add) ≤ so_far_limit
      = omega (arith, short, few, c, n, at.within, ap length (sym v), length-map (bytes ++ map (commands_later first) add) value) in
      record {
        left = ap (λ k. drop k words) two ∙ sym (drop-drop 2 (2 * cursor) words) ∙ ap (drop 2) at.left;
        same = v ∙ all_found (suc cursor) (so_far cursor found ++ map value add) (λ e. omega (arith, e)) m;
        within = omega (arith, n, short, at.within);
      }

  codes-refine : (ws : List ℕ) (cursor first high low : ℕ) (found : List ℕ) (bytes : List Byte) → At cursor high low ws found bytes
      → Refines poll_type_f_kind cursor (code ∷ words) found (send field_stage) (poll_codes code first cursor bytes ((256 * high + low) ∷ words_in ws))
  codes-refine [] cursor first high low found bytes at =
      code_step cursor first high low [] found bytes at [] (λ k add short. list_ends cursor first high low [] found bytes at add (omega arith))
  codes-refine (x ∷ []) cursor first high low found bytes at =
      code_step cursor first high low (x ∷ []) found bytes at [] (λ k add short. list_ends cursor first high low (x ∷ []) found bytes at add (omega arith))
  codes-refine (x ∷ y ∷ ws) cursor first high low found bytes at =
      code_step cursor first high low (x ∷ y ∷ ws) found bytes at ((256 * x + y) ∷ words_in ws)
      (λ k add short. list-goes-on cursor first high low (x ∷ y ∷ ws) found bytes at add _ short (omega arith)
      (codes-refine ws (suc cursor) k x y (so_far cursor found ++ map value add) (bytes ++ map (commands_later first) add) (next-at cursor first high low x y ws found bytes add at short)))

pub poll_refines : (code : ℕ) (words : List ℕ) → system_codes_fit words ≡ true → (found : List ℕ) → Refines poll_type_f_kind 0 (code ∷ words) found (send field_stage) (poll_type_f code (words_in words))
poll_refines code words fits found = go words (list_few words fits) some-code
  where
    some-code : 1 ≤ length words / 2
    some-code = leb-true 1 (length words / 2) (both_left (leb 1 (length words / 2)) _ (both_right (eqb (length words % 2) 0) _ fits))

    go : (l : List ℕ) → length l ≤ 2 * system_codes → 1 ≤ length l / 2 → Refines poll_type_f_kind 0 (code ∷ l) found (send field_stage) (poll_type_f code (words_in l))
    go [] few h = absurd (omega (arith, h))
    go (x ∷ []) few h = absurd (omega (arith, h))
    go (x ∷ y ∷ ws) few h =
        codes-refine code (x ∷ y ∷ ws) few ws 0 0 x y found [] record { left = refl; same = none_yet 0 found refl; within = omega arith }
