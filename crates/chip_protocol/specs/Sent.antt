-- The chip can receive the commands of the opening, the discoveries and transceive, whatever the replies.
use Rattle.std.specs.Prelude.{◌≡◌, refl, Bool, true, false, List, [], ◌∷◌, ◌++◌, map, ℕ, zero, suc, ◌+◌, ◌/◌, ◌%◌, ◌≤◌, ◌<◌, T, eqb, leb, ltb, length, take, drop, Result, Ok, Err}
use Rattle.std.proofs.Common.{sym, subst, arith, ltb→lt, leb→le, length-append, length-take, length-drop}
use Rattle.errors.specs.Refusals.{by_status}
use Rattle.errors.specs.declared.Fault.{Fault}
use Rattle.errors.specs.declared.Fault.TheVariants.{Transport, TimeOut, FalseStart, BrokenFrame, Length, FrameKind, Identifier, Code, Status, ShortResponse, NoCard, CrcA, Rate, CardStatus, OtherCard, UidLayout}
use Rattle.exchange.specs.Packets.{Reply, response, failed}
use Rattle.felica.specs.Packets.{read_request_of, write_request_of}
use Rattle.protocol.specs.Scripts.{Byte, Answer, done, type1, uid_and_ats, nothing, refused, refused_after, commands_later, Script, finish, command, reset, field_pause, ask, and_then, either, if_else}
use Rattle.protocol.specs.Rules.{Rule, version, no_bytes_of, all_bytes, registers_written, first_byte_of, listed_target, exchanged_data, thru, jump, status, initiator_command, target_status, rule_script}
use Rattle.protocol.specs.Blocks.{by_check, read_blocks, write_blocks}
use Rattle.protocol.specs.Arguments.{bit, jump_data, active_byte}
use Rattle.protocol.specs.Calls.{in_jump_for_dep_code}
use Rattle.protocol.specs.Laws.{by_fault}
use Rattle.protocol.specs.Device.{device_new}
use Rattle.protocol.specs.Discovery.{code_end, card_met, no_card_met, by_no_card, poll_codes, system_code_req, detect_type_a_split, detect_type_a_of, detect_type_b_of, detect_type_f_of, detect_dep_of, sensf_req, transceive_type2, transceive_thru}
use Rattle.protocol.specs.Starts.{data_limit}
use Rattle.chip_protocol.specs.Script.{AllBytes, Sends}

-- ---- rules

sends-either : (f : List ℕ → Script) (g : Fault → Script) → ((bs : List ℕ) → Sends (f bs)) → ((e : Fault) → Sends (g e)) → (r : Reply) → Sends (either f g r)
sends-either f g h k (response bs) = h bs
sends-either f g h k (failed e) = k e

sends_if : (b : Bool) (x y : Script) → Sends x → Sends y → Sends (if_else b x y)
sends_if true x y h k = h
sends_if false x y h k = k

sends_status : (f : ℕ → Script) (a : Script) (r : Fault) → ((s : ℕ) → Sends (f s)) → Sends a → Sends (by_status f a r)
sends_status f a Transport h k = k
sends_status f a TimeOut h k = k
sends_status f a FalseStart h k = k
sends_status f a BrokenFrame h k = k
sends_status f a Length h k = k
sends_status f a FrameKind h k = k
sends_status f a Identifier h k = k
sends_status f a Code h k = k
sends_status f a (Status s) h k = h s
sends_status f a ShortResponse h k = k
sends_status f a NoCard h k = k
sends_status f a CrcA h k = k
sends_status f a Rate h k = k
sends_status f a (CardStatus s t) h k = k
sends_status f a OtherCard h k = k
sends_status f a UidLayout h k = k

holds : Unit {0}
holds = tt

small : (n : ℕ) → T (ltb n 256) → n < 256
small n h = ltb→lt n 256 h

masked : (n : ℕ) → n % 128 < 256
masked n = omega arith

within : (n m : ℕ) → T (leb n m) → n ≤ m
within n m h = leb→le n m h

ruleset sends-rules = (sends-either, sends_if, sends_status, holds, small, masked, within)

-- ---- the opening and the discoveries

pub opening_sends : Sends device_new
opening_sends = search (sends-rules, refl) depth 60 fits 20000

pub type_a_sends : (code : ℕ) → code < 256 → Sends (detect_type_a_of code [])
type_a_sends code h = search (sends-rules, refl) depth 60

pub type_b_sends : (code : ℕ) → code < 256 → Sends (detect_type_b_of code 0)
type_b_sends code h = search (sends-rules, refl) depth 60

pub type_f_sends : (code request slots : ℕ) → code < 256 → request < 256 → slots < 256 → Sends (detect_type_f_of code (sensf_req 0xFFFF request slots))
type_f_sends code request slots h k l = search (sends-rules, refl) depth 60

-- ---- DEP

pub all_append : (l r : List ℕ) → AllBytes l → AllBytes r → AllBytes (l ++ r)
all_append [] r h k = k
all_append (b ∷ l) r h k = (h.0, all_append l r h.1 k)

all_take : (n : ℕ) (l : List ℕ) → AllBytes l → AllBytes (take n l)
all_take zero l h = tt
all_take (suc n) [] h = tt
all_take (suc n) (b ∷ l) h = (h.0, all_take n l h.1)

all_drop : (n : ℕ) (l : List ℕ) → AllBytes l → AllBytes (drop n l)
all_drop zero l h = h
all_drop (suc n) [] h = tt
all_drop (suc n) (b ∷ l) h = all_drop n l h.1

bit-most : (l : List ℕ) → bit l ≤ 1
bit-most [] = omega arith
bit-most (b ∷ l) = omega arith

jump_bytes : (code : ℕ) (l r : List ℕ) → code < 256 → AllBytes l → AllBytes r → AllBytes (in_jump_for_dep_code ∷ jump_data (active_byte true) code [] l r)
jump_bytes code l r h k m = (omega arith, (omega arith, (h, (omega (arith, bit-most l, bit-most r), all_append l r k m))))

jump_length : (code : ℕ) (l r : List ℕ) → length l + length r ≤ 500 → length (jump_data (active_byte true) code [] l r) ≤ data_limit
jump_length code l r h = omega (arith, length-append l r)

pub dep_sends : (code : ℕ) (atrReq : List ℕ) → code < 256 → AllBytes atrReq → length atrReq ≤ 64 → Sends (detect_dep_of code atrReq)
dep_sends code atrReq h k m =
    let b = jump_bytes code (take 10 (drop 2 atrReq)) (drop 16 atrReq) h (all_take 10 (drop 2 atrReq) (all_drop 2 atrReq k)) (all_drop 16 atrReq k) in
    let n = jump_length code (take 10 (drop 2 atrReq)) (drop 16 atrReq) (omega (arith, length-take 10 (drop 2 atrReq), length-drop 16 atrReq)) in
    search (sends-rules, refl, b, n) depth 60 fits 9000

-- ---- transceive

module _ (clock : ℕ) (bytes : List ℕ) (awaits : eqb clock 0 ≡ false) (all : AllBytes bytes) (short : length bytes ≤ data_limit) where
  pub thru_sends : Sends (transceive_thru bytes clock)
  thru_sends = search (sends-rules, refl) depth 60 fits 9000

  pub type_2_sends : Sends (transceive_type2 bytes clock)
  type_2_sends = search (sends-rules, refl) depth 60 fits 9000

-- ---- the commands, of any rule

pub command_sends : (code clock : ℕ) (bytes : List ℕ) → eqb clock 0 ≡ false → AllBytes (code ∷ bytes) → length bytes ≤ data_limit → (q : Rule) → Sends (ask code clock bytes (rule_script q))
command_sends code clock bytes awaits all short version = search (sends-rules, refl) depth 60
command_sends code clock bytes awaits all short no_bytes_of = search (sends-rules, refl) depth 60
command_sends code clock bytes awaits all short all_bytes = search (sends-rules, refl) depth 60
command_sends code clock bytes awaits all short registers_written = search (sends-rules, refl) depth 60
command_sends code clock bytes awaits all short first_byte_of = search (sends-rules, refl) depth 60
command_sends code clock bytes awaits all short listed_target = search (sends-rules, refl) depth 60
command_sends code clock bytes awaits all short exchanged_data = search (sends-rules, refl) depth 60
command_sends code clock bytes awaits all short thru = search (sends-rules, refl) depth 60
command_sends code clock bytes awaits all short jump = search (sends-rules, refl) depth 60
command_sends code clock bytes awaits all short status = search (sends-rules, refl) depth 60
command_sends code clock bytes awaits all short initiator_command = search (sends-rules, refl) depth 60
command_sends code clock bytes awaits all short target_status = search (sends-rules, refl) depth 60

-- ---- a list of system codes (N1): one script behind the other

pub then_sends : (x : Script) (k : ℕ) (f : ℕ → Answer Byte → Script) → Sends x → ((n : ℕ) (a : Answer Byte) → Sends (f n a)) → Sends (and_then x k f)
then_sends (finish a) k f h g = g k a
then_sends (command code clock bytes c) k f h g = (h.0, h.1, h.2, λ r. then_sends (c r) (suc k) f (h.3 r) g)
then_sends (reset x) k f h g = then_sends x (suc k) f h g
then_sends (field_pause x) k f h g = then_sends x k f h g

high_byte : (n : ℕ) → n < 65536 → n / 256 < 256
high_byte n h = omega arith

low_byte : (n : ℕ) → n % 256 < 256
low_byte n = omega arith

pub any_f_sends : (code system request slots : ℕ) → code < 256 → system < 65536 → request < 256 → slots < 256 → Sends (detect_type_f_of code (sensf_req system request slots))
any_f_sends code system request slots h i k l = search (sends-rules, high_byte, low_byte, refl) depth 60

abbrev pub Words : List ℕ → Type 0
Words [] = Unit {0}
Words (n ∷ l) = (n < 65536) × Words l

end-sends : (f : List Byte → Script) (g : Fault → Script) (a : Answer Byte) → ((l : List Byte) → Sends (f l)) → ((r : Fault) → Sends (g r)) → Sends (code_end f g a)
end-sends f g (done l) h k = h (card_met l)
end-sends f g (type1 l) h k = h (card_met l)
end-sends f g (uid_and_ats l u v) h k = h (card_met l)
end-sends f g nothing h k = h no_card_met
end-sends f g (refused r) h k = by_fault (λ e. Sends (by_no_card (f no_card_met) (g r) e)) (h no_card_met) (λ e same. subst Sends (sym (same Script (f no_card_met) (g r))) (k r)) r
end-sends f g (refused_after r n) h k = k r

pub poll-sends : (code first finished : ℕ) (found : List Byte) (codes : List ℕ) → code < 256 → Words codes → Sends (poll_codes code first finished found codes)
poll-sends code first finished found [] h w = tt
poll-sends code first finished found (n ∷ codes) h w =
    then_sends (detect_type_f_of code (system_code_req n)) first
    (λ next a. code_end (λ bytes. poll_codes code next (suc finished) (found ++ map (commands_later first) bytes) codes) (λ r. finish (refused_after r finished)) a)
    (any_f_sends code n 1 0 h w.0 (omega arith) (omega arith))
    (λ next a. end-sends (λ bytes. poll_codes code next (suc finished) (found ++ map (commands_later first) bytes) codes) (λ r. finish (refused_after r finished)) a
    (λ bytes. poll-sends code next (suc finished) (found ++ map (commands_later first) bytes) codes h w.1) (λ r. tt))

pub split_sends : (code : ℕ) → code < 256 → Sends (detect_type_a_split code [])
split_sends code h = search (sends-rules, refl) depth 60

-- ---- FeliCa blocks (N5), where the request is bytes

sends_check : (x : Script) (t : Result (Unit {0}) Fault) → Sends x → Sends (by_check x t)
sends_check x (Ok u) h = h
sends_check x (Err r) h = tt

module _ (idm : List ℕ) (service : ℕ) (blocks : List ℕ) (clock : ℕ) (awaits : eqb clock 0 ≡ false) where
  pub read_sends : AllBytes (read_request_of idm service blocks) → length (read_request_of idm service blocks) ≤ data_limit → Sends (read_blocks idm service blocks clock)
  read_sends all short = search (sends-rules, sends_check, refl) depth 60 fits 9000

  pub write_sends : (bytes : List ℕ) → AllBytes (write_request_of idm service blocks bytes) → length (write_request_of idm service blocks bytes) ≤ data_limit
      → Sends (write_blocks idm service blocks bytes clock)
  write_sends bytes all short = search (sends-rules, sends_check, refl) depth 60 fits 9000
