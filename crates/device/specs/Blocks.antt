-- Read and Write Without Encryption: how each starts, and its answers. The pending command is the request.
use Rattle.std.proofs.Math.Path.{◌≡◌, refl, ap}
use Rattle.std.proofs.Common.{sym, arith}
use Rattle.std.specs.Prelude.{Bool, List, [], ◌++◌, ℕ, ◌≤◌, Result, Ok, Err}
use Rattle.std.proofs.Math.Bool.{true, false}
use borrow.Author.Tests.{le-ltb}
use Rattle.std.proofs.Math.Dec.{ltb}
use Rattle.std.proofs.Math.ListN.{length, drop}
use Rattle.errors.specs.Choice.{pick}
use Rattle.errors.specs.Refusals.{Returned, answered, refused as refused_with, numbered}
use Rattle.errors.specs.declared.Refusal.{Refusal}
use Rattle.errors.specs.declared.Refusal.TheVariants.{OutOfTurn, ShortBuffer, OverLong, BadArgument, Bitrate, NotSendable}
use Rattle.framing.specs.Build.{left, put_frame}
use Rattle.felica.specs.Packets.{read_request_of, write_request_of, read_code, write_code, request_fits, write_fits_of, built_of}
use Rattle.felica.specs.Fields.{idm_in, count_in}
use Rattle.felica.specs.Checks.{read_check, write_check}
use Rattle.felica.specs.Laid.{request-length, fits_idm, fits_few, write_idm, write_few as felica_few, write_few_bytes}
use Rattle.errors.specs.declared.Fault.{Fault}
use Rattle.protocol.specs.Blocks.{response_blocks_offset}
use Rattle.protocol.specs.Calls.{in_communicate_thru_code}
use Rattle.protocol.specs.Scripts.{Answer, done, refused}
use Rattle.protocol.specs.Starts.{data_limit}
use Rattle.stages.specs.Put.{Joins, joins_within}
use Rattle.stages.specs.Stages.{cmd}
use Rattle.stages.specs.Starts.{Start, refuses, sends, limited, asserted, Starts, short_command}
use Rattle.stages.specs.declared.start.Start as code
use Rattle.chipset.specs.Responses.{with_status}
use Rattle.device.specs.Kinds.{read_blocks_kind, write_blocks_kind}

-- the request is sent through InCommunicateThru where there is one, else 4
abbrev pub thru_if : Bool → ℕ → ℕ → List ℕ → Start
thru_if fits kind ms p = asserted fits (sends kind (cmd in_communicate_thru_code ms p))

unfoldable pub read_first : List ℕ → ℕ → List ℕ → ℕ → Start
read_first idm service blocks ms = thru_if (request_fits idm blocks) read_blocks_kind ms (read_request_of idm service blocks)

unfoldable pub write_first : List ℕ → ℕ → List ℕ → List ℕ → ℕ → Start
write_first idm service blocks bytes ms = thru_if (write_fits_of idm blocks bytes) write_blocks_kind ms (write_request_of idm service blocks bytes)

-- the response from a place on where the reply is good; else its fault
abbrev pub if_good : ℕ → List ℕ → Result (Unit {0}) Fault → Answer ℕ
if_good start bs (Ok v) = done (drop start bs)
if_good start bs (Err r) = refused r

-- the reply stands behind the status byte; a write has no bytes
unfoldable pub read_answer : List ℕ → List ℕ → Answer ℕ
read_answer pending bs = with_status bs (if_good response_blocks_offset bs (read_check (idm_in pending) (count_in pending) (drop 1 bs)))

unfoldable pub write_answer : List ℕ → List ℕ → Answer ℕ
write_answer pending bs = with_status bs (if_good (length bs) bs (write_check (idm_in pending) (drop 1 bs)))

-- ---- laws

abbrev returned_number : Returned → ℕ
returned_number (answered j) = 0
returned_number (refused_with y) = y.number

-- a request that was built, or refused
module _ (c₀ c₁ p : List ℕ) where
  pub built_sent : (n kind ms : ℕ) (r : Result code.Start Refusal) (fits : Bool) → (fits ≡ true → (length p ≤ data_limit) × (length p ≤ length c₀)) → left (answered n) c₁ ≡ built_of fits p c₀
      → ((c d l : List ℕ) → Joins n c d l → Starts r c d (limited kind (cmd in_communicate_thru_code ms l))) → Starts r c₀ c₁ (thru_if fits kind ms p)
  unfolding built_of put_frame asserted pick
  built_sent n kind ms r true few e k =
      let room : ltb (length c₀) (length p) ≡ false = le-ltb (length c₀) (length p) (few refl).1 in
      let f : left (answered n) c₁ ≡ left (answered (length p)) (p ++ drop (length p) c₀) = rw room at e in
      let o : answered n ≡ answered (length p) = ap (λ l. l.result) f in
      let m : n ≡ length p = cc in
      let b : c₁ ≡ p ++ drop (length p) c₀ = ap (λ l. l.buffer) f in
      short_command r c₀ c₁ kind (cmd in_communicate_thru_code ms p) (few refl).0 (k c₀ c₁ p (joins_within n c₀ c₁ p (few refl).0 record { count = m; is = b }))
  built_sent n kind ms r false few e k = absurd (let z : 0 ≡ 4 = ap (λ l. returned_number l.result) e in omega (arith, z))

  pub built_refused : (x : Refusal) (kind ms : ℕ) (r : Result code.Start Refusal) (fits : Bool) → (fits ≡ true → (length p ≤ data_limit) × (length p ≤ length c₀))
      → left (refused_with (numbered x)) c₁ ≡ built_of fits p c₀ → ((c : List ℕ) → Starts r c c (refuses x)) → Starts r c₀ c₁ (thru_if fits kind ms p)
  unfolding built_of put_frame asserted pick
  built_refused x kind ms r true few e k =
      let room : ltb (length c₀) (length p) ≡ false = le-ltb (length c₀) (length p) (few refl).1 in
      let f : left (refused_with (numbered x)) c₁ ≡ left (answered (length p)) (p ++ drop (length p) c₀) = rw room at e in
      let o : refused_with (numbered x) ≡ answered (length p) = ap (λ l. l.result) f in
      absurd (let z : ◌≡◌ {A = ℕ} 0 1 = cc in omega arith)
  built_refused x kind ms r false few e k =
      let b : c₁ ≡ c₀ = ap (λ l. l.buffer) e in
      let n : (numbered x).number ≡ 4 = ap (λ l. returned_number l.result) e in
      rw (b, ← bad x n) (k c₀)
    where
      bad : (y : Refusal) → (numbered y).number ≡ 4 → y ≡ BadArgument
      bad OutOfTurn h = absurd (omega (arith, h))
      bad ShortBuffer h = absurd (omega (arith, h))
      bad OverLong h = absurd (omega (arith, h))
      bad BadArgument h = refl
      bad Bitrate h = absurd (omega (arith, h))
      bad NotSendable h = absurd (omega (arith, h))

-- the clock as a call answered it
pub thru_clock : (r : Result code.Start Refusal) (c₀ c₁ p : List ℕ) (fits : Bool) (kind ms m : ℕ) → ms ≡ m → Starts r c₀ c₁ (thru_if fits kind ms p) → Starts r c₀ c₁ (thru_if fits kind m p)
thru_clock r c₀ c₁ p fits kind ms m e h = rw (← e) h

-- a request fits the pending command
pub read_few : (idm blocks c : List ℕ) (service : ℕ) → length c ≡ data_limit → request_fits idm blocks ≡ true
    → (length (read_request_of idm service blocks) ≤ data_limit) × (length (read_request_of idm service blocks) ≤ length c)
read_few idm blocks c service n h =
    let i = fits_idm idm blocks true (sym h) refl in
    let f = fits_few idm blocks true (sym h) refl in
    let l = request-length read_code service idm blocks [] i in
    (omega (arith, l), omega (arith, l))

pub write_few : (idm blocks bytes c : List ℕ) (service : ℕ) → length c ≡ data_limit → write_fits_of idm blocks bytes ≡ true
    → (length (write_request_of idm service blocks bytes) ≤ data_limit) × (length (write_request_of idm service blocks bytes) ≤ length c)
write_few idm blocks bytes c service n h =
    let i = write_idm idm blocks bytes true (sym h) refl in
    let f = felica_few idm blocks bytes true (sym h) refl in
    let b = write_few_bytes idm blocks bytes true (sym h) refl in
    let l = request-length write_code service idm blocks bytes i in
    (omega (arith, l), omega (arith, l))
