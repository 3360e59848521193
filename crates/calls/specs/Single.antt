-- Each rule, and transceive: the response leads to what the script has.
use Rattle.std.specs.Prelude.{◌≡◌, refl, Bool, true, false, List, [], ◌∷◌, ◌++◌, ℕ, suc, ◌-◌, ◌≤◌, eqb, ltb, length, take, drop, get_or}
use Rattle.std.proofs.Common.{sym, ap, ◌∙◌, arith, ltb-true, ltb-false, ne_eqb, drop-cons}
use Rattle.std.proofs.lemmas.List.{map-append}
use Rattle.errors.specs.Choice.{pick}
use Rattle.errors.specs.declared.Fault.{Fault}
use Rattle.errors.specs.declared.Fault.TheVariants.{ShortResponse, Status, CrcA, Rate}
use Rattle.crc.specs.Crc.{type_a as crc_a, checks}
use Rattle.exchange.specs.Packets.{is_empty}
use Rattle.protocol.specs.Scripts.{Byte, own, value, Answer, done, nothing, refused, Script, finish, refuse, if_else, part, rest}
use Rattle.protocol.specs.Rules.{any_nonzero_of, status_byte, with_status as status_then, with_length as length_then, masked_status, more_flag, send_index, receive_index, finished, answer, rule_script, version, registers_written, first_byte_of, listed_target, exchanged_data, thru, jump, initiator_command, target_status}
use Rattle.protocol.specs.Machine.{plain_answer}
use Rattle.protocol.specs.Values.{part-values, rest-values}
use Rattle.chipset.specs.Responses.{with_length, with_status, version_answer, written_answer, first_answer, list_answer, exchange_answer, jump_answer, initiator_answer, target_answer}
use Rattle.device.specs.Transceive.{type2_answer, type1_answer}
use Rattle.stages.specs.Stages.{ends as ends_with}
use Rattle.device.specs.Names.{first_three}
use Rattle.calls.specs.Refines.{Refines, refines_end}
use Rattle.protocol.specs.Names.{no_data, register_write_failed, version_need}

-- the script ends with an answer, which is this one but for the places of its bytes
pub record Interprets (s : Script) (a : Answer ℕ) : Type 0 where
  pub answer : Answer Byte
  pub is : s ≡ finish answer
  pub plain : plain_answer answer ≡ a

-- so it is what the response leads to
pub answer_refines : {kind cursor : ℕ} {pending found : List ℕ} {s : Script} {a : Answer ℕ} → Interprets s a → Refines kind cursor pending found (ends_with a) s
answer_refines j = rw j.is (refines_end j.answer _ j.plain)

pub ends : (a : Answer Byte) {b : Answer ℕ} → plain_answer a ≡ b → Interprets (finish a) b
ends a h = record { answer = a; is = refl; plain = h }

interprets_if : (t : Bool) {x y : Script} {a b : Answer ℕ} → (t ≡ true → Interprets x a) → (t ≡ false → Interprets y b) → Interprets (if_else t x y) (pick t a b)
unfolding pick
interprets_if true h k = h refl
interprets_if false h k = k refl

pub refusing : (r : Fault) → Interprets (refuse r) (refused r)
refusing r = ends (refused r) refl

by_length : (bs : List ℕ) (n : ℕ) {s : Script} {a : Answer ℕ} → (n ≤ length bs → Interprets s a) → Interprets (length_then bs n s) (with_length bs n a)
unfolding with_length
by_length bs n h = interprets_if (ltb (length bs) n) (λ _. refusing ShortResponse) (λ e. h (ltb-false (length bs) n e))

pub by_status_lem : (bs : List ℕ) {s : Script} {a : Answer ℕ} → Interprets s a → Interprets (status_then bs s) (with_status bs a)
unfolding with_status
by_status_lem bs h = interprets_if (eqb (status_byte bs) 0) (λ _. h) (λ _. refusing (Status (status_byte bs)))

pub answers : (p : ℕ) (bs : List ℕ) → Interprets (answer p bs) (done (drop p bs))
answers p bs = ends (done (rest 0 bs p)) (ap done (rest-values 0 bs p))

pub empty : Interprets finished (done [])
empty = ends (done []) refl

-- ---- the rules

pub interprets_version : (bs : List ℕ) → Interprets (rule_script version bs) (version_answer bs)
unfolding version_answer
interprets_version bs = by_length bs version_need (λ h. ends _ (ap done (sym (first_three bs (omega arith)))))

pub interprets_write : (bs : List ℕ) → Interprets (rule_script registers_written bs) (written_answer bs)
unfolding written_answer
interprets_write bs = interprets_if (any_nonzero_of bs) (λ _. refusing (Status register_write_failed)) (λ _. empty)

pub interprets_first : (bs : List ℕ) → Interprets (rule_script first_byte_of bs) (first_answer bs)
unfolding first_answer
interprets_first bs = by_length bs 1 (λ h. ends _ (ap done (sym (ap (take 1) (drop-cons bs 0 0 (omega arith))))))

pub interprets_list : (bs : List ℕ) → Interprets (rule_script listed_target bs) (list_answer bs)
unfolding list_answer
interprets_list bs = interprets_if (eqb (get_or bs 0 0) 0) (λ _. ends nothing refl) (λ _. by_length bs 2 (λ _. answers 2 bs))

pub empty_length : (bs : List ℕ) → is_empty bs ≡ eqb (length bs) 0
empty_length [] = refl
empty_length (b ∷ bs) = sym (ne_eqb (suc (length bs)) 0 (λ e. omega (arith, e)))

pub interprets_thru : (bs : List ℕ) → Interprets (rule_script thru bs) (with_status bs (done (drop 1 bs)))
interprets_thru bs = by_status_lem bs (answers 1 bs)

pub interprets_exchange : (bs : List ℕ) → Interprets (rule_script exchanged_data bs) (exchange_answer bs)
unfolding exchange_answer
interprets_exchange bs =
    rw (sym (empty_length bs))
    (interprets_if (is_empty bs) (λ _. refusing (Status no_data))
    (λ _. interprets_if (eqb (masked_status bs) 0)
    (λ _. ends _ (ap done (map-append value (rest 0 bs 1) (own (more_flag bs) ∷ []) ∙ ap (λ l. l ++ (more_flag bs ∷ [])) (rest-values 0 bs 1))))
    (λ _. refusing (Status (masked_status bs)))))

-- transceive of Type 2 and of Type 1
pub interprets_type2 : (bs : List ℕ)
    → Interprets (status_then bs (if_else (ltb 3 (length bs)) (if_else (checks crc_a (drop 1 bs)) (finish (done (part 0 bs 1 (length bs - 3)))) (refuse CrcA)) (answer 1 bs)))
    (type2_answer bs)
unfolding type2_answer
interprets_type2 bs =
    by_status_lem bs (interprets_if (ltb 3 (length bs))
    (λ h. interprets_if (checks crc_a (drop 1 bs))
    (λ _. ends _ (ap done (part-values 0 bs 1 (length bs - 3) (omega (arith, ltb-true 3 (length bs) h))))) (λ _. refusing CrcA))
    (λ _. answers 1 bs))

pub interprets_type1 : (bs : List ℕ)
    → Interprets (if_else (is_empty bs) (refuse (Status no_data)) (if_else (eqb (masked_status bs) 0) (answer 1 bs) (refuse (Status (masked_status bs))))) (type1_answer bs)
unfolding type1_answer
interprets_type1 bs =
    rw (sym (empty_length bs))
    (interprets_if (is_empty bs) (λ _. refusing (Status no_data)) (λ _. interprets_if (eqb (masked_status bs) 0) (λ _. answers 1 bs) (λ _. refusing (Status (masked_status bs)))))

pub interprets_jump : (bs : List ℕ) → Interprets (rule_script jump bs) (jump_answer bs)
unfolding jump_answer
interprets_jump bs = by_status_lem bs (by_length bs 2 (λ _. answers 2 bs))

pub interprets_initiator : (bs : List ℕ) → Interprets (rule_script initiator_command bs) (initiator_answer bs)
unfolding initiator_answer
interprets_initiator bs = interprets_if (eqb (status_byte bs) 0) (λ _. answers 1 bs) (λ _. ends nothing refl)

pub interprets_target : (bs : List ℕ) → Interprets (rule_script target_status bs) (target_answer bs)
unfolding target_answer
interprets_target bs =
    by_length bs 2
    (λ _. interprets_if (eqb (get_or bs 0 0) 1)
    (λ _. interprets_if (ltb 2 (send_index bs)) (λ _. refusing Rate) (λ _. interprets_if (ltb 2 (receive_index bs)) (λ _. refusing Rate) (λ _. ends _ refl)))
    (λ _. ends _ refl))
