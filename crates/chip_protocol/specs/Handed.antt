-- What the opening, a transceive to the card found, and a read or write of its blocks come to with the simulated chip.
use Rattle.std.specs.Prelude.{◌≡◌, Bool, cond, List, [], ◌∷◌, map, ℕ, ◌-◌, ◌*◌, Result, Ok, Err}
use Rattle.std.proofs.Math.Path.{refl, ap}
use Rattle.std.proofs.Common.{sym, ◌∙◌, subst}
use Rattle.std.proofs.Math.Bool.{true, false}
use Rattle.std.proofs.Math.Option.{Option, none, some}
use native.Mathlib.Omega.{arith}
use borrow.Author.Tests.{le-ltb, lt-ltb, ltb-true, ltb-false}
use Rattle.std.proofs.Math.Dec.{ltb}
use Rattle.std.proofs.Math.ListN.{length, take}
use Rattle.errors.specs.Choice.{pick}
use Rattle.crc.specs.Crc.{type_a as crc_a, checks}
use Rattle.felica.specs.Names.{block_size}
use Rattle.felica.specs.Packets.{read_request_of, write_request_of}
use Rattle.felica.proofs.Accepted.{good_read}
use Rattle.felica.specs.Checks.{read_check, write_check}
use Rattle.errors.specs.declared.Fault.{Fault}
use Rattle.exchange.specs.Packets.{response}
use Rattle.protocol.specs.Scripts.{value, own, if_else, part, Answer, done, Script, finish}
use Rattle.protocol.specs.Blocks.{by_check, read_blocks, write_blocks, response_blocks_offset}
use Rattle.protocol.specs.Device.{device_new, name_bytes}
use Rattle.protocol.specs.Discovery.{transceive_type2, transceive_thru}
use Rattle.protocol.specs.Values.{rest-values, part-values}
use Rattle.chip_protocol.specs.Names.{firmware_version}
use Rattle.chip_protocol.specs.Field.{Card, reply_to, crc_fits}
use Rattle.chip_protocol.specs.Chip.{ChipState, with_found_of, card_at, exchanged, exchanged_with}
use Rattle.chip_protocol.specs.Script.{more}
use Rattle.chip_protocol.specs.Answers.{opening_answer, handed_out, answer_read, answer_write}
use Rattle.chip_protocol.specs.Found.{on_reply, responses, Comes}

-- ---- the opening

own_values : (l : List ℕ) → map value (map own l) ≡ l
own_values [] = refl
own_values (b ∷ l) = ap (λ m. b ∷ m) (own_values l)

pub found_opening : (s : ChipState) → Comes device_new s (opening_answer firmware_version) (with_found_of s none false) 34
unfolding responses
found_opening s = record { answer = ap (λ l. done (0x33 ∷ 0x01 ∷ 0x30 ∷ l)) (own_values (name_bytes 0x01 0x30)); state = refl; events = λ m. refl }

-- ---- transceive to the card found, of bytes with a stated reply

module _ (s : ChipState) (c : Card) (bytes r : List ℕ) (f : card_at s.field s.found ≡ some c) (e : reply_to c.replies bytes ≡ some r) where
  -- the response to InCommunicateThru
  thru-response : exchanged_with (card_at s.field s.found) bytes ≡ 0 ∷ r
  thru-response = ap (λ (o : Option Card). exchanged_with o bytes) f ∙ ap exchanged e

  -- behind its first command, which is InCommunicateThru of the bytes
  behind-thru : (x : Script) (a : Answer ℕ) → Comes (on_reply x (response (0 ∷ r))) s a s 0
      → Comes (on_reply x (response (exchanged_with (card_at s.field s.found) bytes))) s a s 0
  behind-thru x a h = subst (λ l. Comes (on_reply x (response l)) s a s 0) (sym thru-response) h

  module _ (clock : ℕ) where
    thru-comes : Comes (transceive_thru bytes clock) s (done r) s 3
    unfolding responses
    thru-comes =
        let g = behind-thru (transceive_thru bytes clock) (done r) record { answer = ap done (rest-values 0 (0 ∷ r) 1); state = refl; events = λ m. refl } in
        record { answer = g.answer; state = g.state; events = λ m. ap (more 3) (g.events m) }

    on-crc : (t : Bool) → ltb 2 (length r) ≡ t → pick t (checks crc_a r) true ≡ true
        → Comes (on_reply (transceive_type2 bytes clock) (response (0 ∷ r))) s (done (cond t (take (length r - 2) r) r)) s 0
    unfolding pick
    on-crc true u k =
        let over : ltb 3 (length (0 ∷ r)) ≡ true = lt-ltb 3 (length (0 ∷ r)) (omega (arith, ltb-true 2 (length r) u)) in
        let less : length (0 ∷ r) - 3 ≡ length r - 2 = omega arith in
        record {
          answer = rw (over, k) (ap done (part-values 0 (0 ∷ r) 1 (length (0 ∷ r) - 3) (omega (arith, ltb-true 2 (length r) u)) ∙ ap (λ n. take n r) less));
          state = rw (over, k) refl;
          events = λ m. rw (over, k) refl;
        }
    on-crc false u k =
        let under : ltb 3 (length (0 ∷ r)) ≡ false = le-ltb 3 (length (0 ∷ r)) (omega (arith, ltb-false 2 (length r) u)) in
        record { answer = rw under (ap done (rest-values 0 (0 ∷ r) 1)); state = rw under refl; events = λ m. rw under refl }

    type-2-comes : crc_fits true r ≡ true → Comes (transceive_type2 bytes clock) s (done (handed_out true r)) s 3
    unfolding responses
    type-2-comes k =
        let g = behind-thru (transceive_type2 bytes clock) (done (handed_out true r)) (on-crc (ltb 2 (length r)) refl k) in
        record { answer = g.answer; state = g.state; events = λ m. ap (more 3) (g.events m) }

    pub transceive_comes : (t : Bool) → crc_fits t r ≡ true
        → Comes (if_else t (transceive_type2 bytes clock) (transceive_thru bytes clock)) s (done (handed_out t r)) s 3
    transceive_comes true k = type-2-comes k
    transceive_comes false k = thru-comes

-- ---- FeliCa blocks (N5) of the card found, by a reply that is stated to the request

module _ (s : ChipState) (c : Card) (r idm blocks : List ℕ) (service clock : ℕ) (f : card_at s.field s.found ≡ some c) where
  checked-write : (t : Result (Unit {0}) Fault) → Comes (by_check (finish (done [])) t) s (answer_write t) s 0
  checked-write (Ok u) = record { answer = refl; state = refl; events = λ m. refl }
  checked-write (Err x) = record { answer = refl; state = refl; events = λ m. refl }

  pub write_comes : (bytes : List ℕ) → reply_to c.replies (write_request_of idm service blocks bytes) ≡ some r
      → Comes (write_blocks idm service blocks bytes clock) s (answer_write (write_check idm r)) s 3
  unfolding responses
  write_comes bytes e =
      let g = behind-thru s c (write_request_of idm service blocks bytes) r f e (write_blocks idm service blocks bytes clock) (answer_write (write_check idm r)) (checked-write (write_check idm r)) in
      record { answer = g.answer; state = g.state; events = λ m. ap (more 3) (g.events m) }

  checked-read : (t : Result (Unit {0}) Fault) → read_check idm (length blocks) r ≡ t
      → Comes (by_check (finish (done (part 0 (0 ∷ r) response_blocks_offset (block_size * length blocks)))) t) s (answer_read (length blocks) r t) s 0
  checked-read (Ok u) e =
      let long = (good_read idm (length blocks) r e).long in
      record { answer = ap done (part-values 0 (0 ∷ r) response_blocks_offset (block_size * length blocks) (omega (arith, long))); state = refl; events = λ m. refl }
  checked-read (Err x) e = record { answer = refl; state = refl; events = λ m. refl }

  pub read_comes : reply_to c.replies (read_request_of idm service blocks) ≡ some r
      → Comes (read_blocks idm service blocks clock) s (answer_read (length blocks) r (read_check idm (length blocks) r)) s 3
  unfolding responses
  read_comes e =
      let t : Result (Unit {0}) Fault = read_check idm (length blocks) r in
      let g = behind-thru s c (read_request_of idm service blocks) r f e (read_blocks idm service blocks clock) (answer_read (length blocks) r t) (checked-read t refl) in
      record { answer = g.answer; state = g.state; events = λ m. ap (more 3) (g.events m) }
