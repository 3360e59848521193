-- Laws of what the session's functions do.
use Rattle.std.specs.Prelude.{◌≡◌, ℕ, ◌+◌, ◌-◌, ◌≤◌, Bool, true, false, cond, List, [], length, take, drop, nat_le, nat_lt, Result, Ok, Err}
use Rattle.std.proofs.Math.Path.{refl, ap}
use Rattle.std.proofs.Common.{sym, ◌∙◌, le-ltb, leb-true, length-drop, length-take, take_all, length-take-le}
use native.Mathlib.Omega.{arith}
use Rattle.errors.specs.Choice.{pick}
use Rattle.errors.specs.Refusals.{returned, answered, refused, numbered}
use Rattle.errors.specs.declared.Refusal.{Refusal}
use Rattle.framing.specs.Build.{left, build_of, put_frame, limit_of}
use Rattle.framing.specs.Enclose.{length-frame, start-most}
use Rattle.framing.specs.Settings.{rcs956, command_payload}
use Rattle.framing.specs.Valid.{both_left, both_right}
use Rattle.framing.specs.Padded.{extra_zeros_of, unpadded}
use Rattle.framing.specs.Unpadded.{extra_fits}
use Rattle.exchange.specs.Exchange.{pkt}
use Rattle.exchange.specs.Packets.{command_frame}
use Rattle.exchange.specs.Steps.{exchange_at, event_of, sending_phase}
use Rattle.exchange.specs.declared.Event.{Event}
use Rattle.exchange.specs.declared.Event.TheVariants.{Ok, Bad, Packet, Time, Fail, Late, Slept}
use Rattle.exchange.specs.declared.Exchange.{Exchange}
use Rattle.stages.specs.Few.{few}
use Rattle.stages.specs.Decided.{Fitting, found_limit, response_limit}
use Rattle.stages.specs.Put.{put, AppendsPart, puts_none}
use Rattle.stages.specs.declared.Layout.{Layout}
use Rattle.stages.specs.Stages.{Command}
use Rattle.protocol.specs.Scripts.{type1, uid_and_ats}
use Rattle.protocol.specs.Calls.{is_padded_mode}
use Rattle.protocol.specs.Session.{seen, buffer_need, packet_limit, last_caller}
use Rattle.protocol.specs.Starts.{data_limit}
use Rattle.engine.specs.Books.{Books, books_of, caller_in, booked, extra_in}
use Rattle.engine.specs.declared.running.Progress.{Progress}
use Rattle.engine.specs.Booking.{range_caller}
use Rattle.engine.specs.SessionSteps.{State, state, effected, booked_after_of, valid, is_valid_state}
use Rattle.engine.specs.Core.{is_valid_of, Lent, Arrays, progressed, After, event_core, ends_of, done_of, answers_of, sends_of, running, after}
use Rattle.engine.specs.declared.call.Call.{Call}
use Rattle.engine.specs.declared.running.Core.{Core}
use Rattle.engine.specs.declared.running.Output.TheVariants.{Command as Sends, Done, Type1, UidAndAts}
use Rattle.framing.specs.Names.{longest_extended}

-- ---- a command's frame fits a buffer of 1,024 bytes

command_length : (code : ℕ) (bytes : List ℕ) → length bytes ≤ data_limit → length (command_frame code bytes) ≤ buffer_need
unfolding command_frame
command_length code bytes h =
    omega (arith, length-frame rcs956.length (command_payload code bytes), start-most rcs956.length (length (command_payload code bytes)))

pub command_built : (code : ℕ) (bytes b : List ℕ) → length bytes ≤ data_limit → buffer_need ≤ length b
    → build_of rcs956 (command_payload code bytes) b ≡ left (answered (length (command_frame code bytes))) (put (command_frame code bytes) b)
unfolding build_of put_frame limit_of command_frame pick
command_built code bytes b h room =
    let n : length (command_payload code bytes) ≤ longest_extended = omega arith in
    let m = command_length code bytes h in
    rw (le-ltb longest_extended (length (command_payload code bytes)) n, le-ltb (length b) (length (command_frame code bytes)) (omega (arith, m)))

-- the frame of a command was built, and nothing else can be
module _ (s : Core) (f : Arrays) (c : Call) (m : Command) (b b₁ : List ℕ) (h : length m.bytes ≤ data_limit) (room : buffer_need ≤ length b) where
  pub sent_frame : (core : Core) (built : Result ℕ Refusal) (n : ℕ) (x : Exchange) → built ≡ Ok n → left (returned built) b₁ ≡ build_of rcs956 (command_payload m.code m.bytes) b
      → x ≡ exchange_at sending_phase m.code m.clock → core ≡ running s c x → after core f (Sends n) b₁ ≡ sends_of s f c m b
  unfolding returned
  sent_frame core built n x e l k is =
      let q : left (answered n) b₁ ≡ left (answered (length (command_frame m.code m.bytes))) (put (command_frame m.code m.bytes) b)
      = ap (λ y. left (returned y) b₁) (sym e) ∙ l ∙ command_built m.code m.bytes b h room in
      let t : answered n ≡ answered (length (command_frame m.code m.bytes)) = ap (λ y. y.result) q in
      let size : n ≡ length (command_frame m.code m.bytes) = cc in
      rw is (λ i. after (running s c (k i)) f (Sends (size i)) ((ap (λ y. y.buffer) q) i))

  pub sent_refused : (a : After Core) (built : Result ℕ Refusal) (r : Refusal) → built ≡ Err r → left (returned built) b₁ ≡ build_of rcs956 (command_payload m.code m.bytes) b
      → a ≡ sends_of s f c m b
  unfolding returned
  sent_refused a built r e l =
      let q : left (refused (numbered r)) b₁ ≡ left (answered (length (command_frame m.code m.bytes))) (put (command_frame m.code m.bytes) b)
      = ap (λ y. left (returned y) b₁) (sym e) ∙ l ∙ command_built m.code m.bytes b h room in
      let t : refused (numbered r) ≡ answered (length (command_frame m.code m.bytes)) = ap (λ y. y.result) q in
      let z : ◌≡◌ {A = ℕ} 0 1 = cc in
      absurd (omega (arith, z))

-- a call that is done with bytes at the buffer's start
pub done_copied : (s : Core) (f : Arrays) (bytes b b₁ : List ℕ) (n : ℕ) (a : After Core) → n ≡ length bytes → b₁ ≡ put bytes b → a ≡ ends_of s f (Done n) b₁ → a ≡ done_of s f bytes b
done_copied s f bytes b b₁ n a p q e = e ∙ (λ i. ends_of s f (Done (p i)) (q i))

-- the same of a Type 1 tag
pub type1_copied : (s : Core) (f : Arrays) (bytes b b₁ : List ℕ) (n : ℕ) (a : After Core) → n ≡ length bytes → b₁ ≡ put bytes b → a ≡ ends_of s f (Type1 n) b₁
    → a ≡ answers_of s f (type1 bytes) b
type1_copied s f bytes b b₁ n a p q e = e ∙ (λ i. ends_of s f (Type1 (p i)) (q i))

-- the same with two lengths
pub lengths_copied : (s : Core) (f : Arrays) (bytes b b₁ : List ℕ) (n uid ats : ℕ) (a : After Core) → n ≡ length bytes → b₁ ≡ put bytes b
    → a ≡ ends_of s f (UidAndAts n uid ats) b₁ → a ≡ answers_of s f (uid_and_ats bytes uid ats) b
lengths_copied s f bytes b b₁ n uid ats a p q e = e ∙ (λ i. ends_of s f (UidAndAts (p i) uid ats) (q i))

-- done with a part of the response
pub part_copied : (s : Core) (f : Arrays) (bs b b₁ : List ℕ) (n : ℕ) (a : After Core) (start len : ℕ) → start + len ≤ length bs → length bs ≤ response_limit → buffer_need ≤ length b
    → AppendsPart (take (start + len - start) (drop start bs)) b b₁ 0 n → a ≡ ends_of s f (Done n) b₁ → a ≡ done_of s f (take len (drop start bs)) b
part_copied s f bs b b₁ n a start len within few room laid e =
    let size : start + len - start ≡ len = omega arith in
    let part : take (start + len - start) (drop start bs) ≡ take len (drop start bs) = ap (λ m. take m (drop start bs)) size in
    let fits : 0 + length (take (start + len - start) (drop start bs)) ≤ length b = omega (arith, length-take (start + len - start) (drop start bs)) in
    let p = laid.puts [] b fits (puts_none b) in
    done_copied s f (take len (drop start bs)) b b₁ n a (p.count ∙ ap length part) (p.is ∙ ap (λ l. put l b) part) e

-- the found bytes are within their array, and the bytes of an answer fit a buffer
module _ (s : Core) (found b : List ℕ) (lent : Lent s b) (array : length found ≡ found_limit) where
  pub found_within : s.found ≤ length found
  found_within = omega (arith, lent.0)

  pub found_taken : s.found ≡ length (take s.found found)
  found_taken = sym (length-take-le s.found found found_within)

  pub answer-fits : (bs : List ℕ) (l : Layout) → length bs ≤ response_limit → Fitting (take s.found found) bs l
      → Fitting (take s.found found) bs l × (l.kept + (length (few l.head) + (l.len + length (few l.tail))) ≤ length b)
  answer-fits bs l short f =
      let most : length (take s.found found) ≤ found_limit = omega (arith, length-take s.found found) in
      (f, omega (arith, f.room most short, lent.2))

-- a session in range has its lengths in range
pub valid_command : (s : Core) → is_valid_of s ≡ true → s.command ≤ data_limit
unfolding is_valid_of
valid_command s h = leb-true s.command data_limit (both_left (nat_le s.command data_limit) _ h)

pub valid-found : (s : Core) → is_valid_of s ≡ true → s.found ≤ found_limit
unfolding is_valid_of
valid-found s h = leb-true s.found found_limit (both_left (nat_le s.found found_limit) _ (both_right (nat_le s.command data_limit) _ h))

-- what came out of the running call, with the books as they are booked
pub booked_after : (k : ℕ) (t : Bool) (p : Progress) (b : Books) (m n : List ℕ) → books_of m n ≡ booked k t p.output b
    → (f : Arrays) (buffer : List ℕ) → effected p m n f buffer ≡ booked_after_of k t b (progressed p f buffer)
booked_after k t p b m n h f buffer = ap (λ x. after (state p.core x) f p.output buffer) h

-- numbers in range have one of the eight callers
pub valid_caller : (s : State) → is_valid_state s ≡ true → caller_in s.books ≤ last_caller
unfolding valid
valid_caller s h = range_caller s.books (both_right (is_valid_of s.core) _ h)

-- the part of a packet behind what the mode takes off, n bytes, is what the mode sees of it
module _ (n mode : ℕ) (packet : List ℕ) (is : n ≡ extra_in mode packet) where
  part-seen : (e : Event) → event_of e (drop n packet) ≡ seen (is_padded_mode mode) (event_of e packet)
  unfolding extra_in unpadded pick
  part-seen e = rw is (go (is_padded_mode mode) e)
    where
      behind : (u : Bool) → drop (pick u 0 (extra_zeros_of packet)) packet ≡ cond u packet (unpadded packet)
      behind true = refl
      behind false = refl

      go : (t : Bool) (e : Event) → event_of e (drop (pick t (pick (nat_lt packet_limit (length packet)) 0 (extra_zeros_of packet)) 0) packet) ≡ seen t (event_of e packet)
      go false e = refl
      go true Ok = refl
      go true Bad = refl
      go true Packet = ap pkt (behind (nat_lt packet_limit (length packet)))
      go true Time = refl
      go true Fail = refl
      go true Late = refl
      go true Slept = refl

  pub extra_few : n ≤ length packet
  unfolding extra_in pick
  extra_few = rw is (go (is_padded_mode mode) (nat_lt packet_limit (length packet)))
    where
      go : (t u : Bool) → pick t (pick u 0 (extra_zeros_of packet)) 0 ≤ length packet
      go true true = omega arith
      go true false = extra_fits packet
      go false u = omega arith

  -- the part is `&packet[n..]`
  pub event_seen : (s : Core) (f : Arrays) (e : Event) (b : List ℕ)
      → event_core s f (event_of e (take (length packet - n) (drop n packet))) b ≡ event_core s f (seen (is_padded_mode mode) (event_of e packet)) b
  event_seen s f e b =
      let all : take (length packet - n) (drop n packet) ≡ drop n packet = take_all (length packet - n) (drop n packet) (rw (length-drop n packet) (omega arith)) in
      ap (λ p. event_core s f (event_of e p) b) all ∙ ap (λ d. event_core s f d b) (part-seen e)
