-- Laws of the chip's step.
use Rattle.std.proofs.Math.Path.{◌≡◌, refl, ap, ap₂}
use Rattle.std.proofs.Common.{sym, ◌∙◌, arith, length-take-le}
use Rattle.std.specs.Prelude.{Some, None, Result, Ok, Err, IsOk, true, false, ℕ, zero, suc, ◌+◌, ◌≤◌, ◌<◌, eqb, length, take}
use mathlib.Core.List.{List, [], ◌∷◌}
use borrow.Author.Tests.{ne_eqb, lt-ltb, le-ltb}
use Rattle.errors.specs.Choice.{pick}
use Rattle.errors.specs.Refusals.{returned, answered, refused, numbered}
use Rattle.errors.specs.declared.Refusal.{Refusal}
use Rattle.errors.specs.declared.Refusal.TheVariants.{OutOfTurn, ShortBuffer}
use Rattle.framing.specs.Commands.{command_in}
use Rattle.framing.specs.Build.{Left, left, build_of, put_frame, limit_of}
use Rattle.framing.specs.Enclose.{length-frame, start-most}
use Rattle.framing.specs.Frames.{frame_of}
use Rattle.framing.specs.Settings.{rcs956, response_payload}
use Rattle.exchange.specs.Packets.{error_identifier}
use Rattle.framing.specs.declared.FrameFormat.{FrameFormat}
use Rattle.chip_protocol.specs.Names.{longest_packet, longest_response}
use Rattle.protocol.specs.Calls.{reset_mode_code, rf_configuration_code, in_list_passive_target_code, in_jump_for_dep_code}
use Rattle.chip_protocol.specs.Packets.{received_command, received_in, response_packet}
use Rattle.simulated_chip.specs.Responses.{ResponseSize, response_in}
use Rattle.simulated_chip.specs.declared.response.SyntaxError.{SyntaxError}
use Rattle.chip_protocol.specs.Chip.{response_to, state_after}
use Rattle.simulated_chip.specs.Memory.{place_in, place_number, bit, state_in, chip_state, numbers_of}
use Rattle.simulated_chip.specs.Range.{chip_in_range}
use Rattle.simulated_chip.specs.declared.chip.State.{State}
use Rattle.simulated_chip.specs.declared.chip.Chip.{Chip}
use Rattle.simulated_chip.specs.Steps.{at_start, PutPacket, command_step, received_step, step_in, left_by, by_value, step_of}

-- a payload that fits a packet is built
module _ (p b : List ℕ) (short : length p ≤ longest_response + 2) (room : longest_packet ≤ length b) where
  abbrev frame : List ℕ
  frame = frame_of rcs956.length p

  fits : length frame ≤ length b
  fits = omega (arith, length-frame rcs956.length p, start-most rcs956.length (length p))

  is-built : build_of rcs956 p b ≡ left (answered (length frame)) (at_start frame b)
  unfolding build_of put_frame limit_of pick
  is-built = rw (le-ltb 65535 (length p) (omega arith), le-ltb (length b) (length frame) fits)

  pub built : (r : Result ℕ Refusal) (b₁ : List ℕ) → left (returned r) b₁ ≡ build_of rcs956 p b → (r ≡ Ok (length frame)) × (b₁ ≡ at_start frame b)
  unfolding returned
  built (Ok n) b₁ e =
      let q : answered n ≡ answered (length frame) = ap (λ (l : Left). l.result) (e ∙ is-built) in
      (cc, ap (λ (l : Left). l.buffer) (e ∙ is-built))
  built (Err x) b₁ e =
      let q : refused (numbered x) ≡ answered (length frame) = ap (λ (l : Left). l.result) (e ∙ is-built) in
      absurd (cc)

-- ---- the numbers of a state

bit_back : (n : ℕ) → n ≤ 1 → n ≡ bit (eqb n 1)
bit_back zero h = refl
bit_back (suc zero) h = refl
bit_back (suc (suc n)) h = absurd (omega arith)

place_back : (n : ℕ) → n ≡ place_number (place_in n)
place_back zero = refl
place_back (suc n) = refl

pub numbers_back : (s : State) (cards sent replies : List ℕ) → s.on ≤ 1 → s ≡ numbers_of s.count (state_in s cards sent replies)
numbers_back s cards sent replies h =
    ap₂ (λ (f o : ℕ). record { count = s.count; found = f; on = o }) (place_back s.found) (bit_back s.on h)

-- ---- the packet of a response

module _ (code : ℕ) (out b b₁ : List ℕ) (r : Result ℕ Refusal) (room : longest_packet ≤ length b) where
  module _ (n : ℕ) (known : left (returned r) b₁ ≡ build_of rcs956 (response_payload code (take n out)) b) (long : longest_response ≤ length out) (few : n ≤ longest_response) where
    packet_built : (r ≡ Ok (length (frame_of rcs956.length (response_payload code (take n out))))) × (b₁ ≡ at_start (frame_of rcs956.length (response_payload code (take n out))) b)
    packet_built = let l = length-take-le n out (omega arith) in built (response_payload code (take n out)) b (omega arith) room r b₁ known

    pub packet_ok : IsOk r
    packet_ok = rw packet_built.0 refl

    pub packet-put : (x : ResponseSize) (k : ℕ) → x ≡ Ok n → r ≡ Ok k → PutPacket (response_packet code (response_in x out)) b k b₁
    unfolding response_packet
    packet-put x k e q =
        let same = sym q ∙ packet_built.0 in
        rw e (record { count = cc; buffer = packet_built.1 })

  module _ (f : FrameFormat) (formed : f ≡ rcs956) (known : left (returned r) b₁ ≡ build_of f (error_identifier ∷ []) b) where
    error_built : (r ≡ Ok (length (frame_of rcs956.length (error_identifier ∷ [])))) × (b₁ ≡ at_start (frame_of rcs956.length (error_identifier ∷ [])) b)
    error_built = built (error_identifier ∷ []) b (omega arith) room r b₁ (rw formed at known)

    pub error_ok : IsOk r
    error_ok = rw error_built.0 refl

    pub error_put : (x : ResponseSize) (y : SyntaxError) (k : ℕ) → x ≡ Err y → r ≡ Ok k → PutPacket (response_packet code (response_in x out)) b k b₁
    unfolding response_packet
    error_put x y k e q =
        let same = sym q ∙ error_built.0 in
        rw e (record { count = cc; buffer = error_built.1 })

-- ---- the numbers after a command

pub after-other : (s : State) (cards sent replies bytes : List ℕ) (code : ℕ) → (code ≡ reset_mode_code → ⊥) → (code ≡ rf_configuration_code → ⊥) → (code ≡ in_list_passive_target_code → ⊥)
    → (code ≡ in_jump_for_dep_code → ⊥) → s.on ≤ 1 → s ≡ numbers_of s.count (state_after (state_in s cards sent replies) code bytes)
unfolding state_after pick
after-other s cards sent replies bytes code a b c d h =
    rw (ne_eqb code reset_mode_code a, ne_eqb code rf_configuration_code b, ne_eqb code in_list_passive_target_code c, ne_eqb code in_jump_for_dep_code d)
    (numbers_back s cards sent replies h)

-- ---- the step

module _ (c : Chip) (written b : List ℕ) where
  pub step_short : length b < longest_packet → left_by c (Err ShortBuffer) b ≡ step_of c written b
  unfolding step_of step_in pick
  step_short h = rw (lt-ltb (length b) longest_packet h)

  module _ (room : longest_packet ≤ length b) where
    pub step_refused : chip_in_range c ≡ false → left_by c (Err OutOfTurn) b ≡ step_of c written b
    unfolding step_of step_in pick
    step_refused h = rw (le-ltb (length b) longest_packet room, h)

    module _ (ranged : chip_in_range c ≡ true) where
      received-step : (l : List ℕ) → command_in written ≡ l → step_of c written b ≡ by_value c.cards c.sent c.replies (received_step c.state c.cards c.sent c.replies (received_command l) b)
      unfolding step_of step_in received_in pick
      received-step l e = rw (le-ltb (length b) longest_packet room, ranged, e)

      pub step-nothing : length (command_in written) ≡ 0 → left_by c (Ok None) b ≡ step_of c written b
      step-nothing n = go (command_in written) refl n
        where
          go : (l : List ℕ) → command_in written ≡ l → length l ≡ 0 → left_by c (Ok None) b ≡ step_of c written b
          go [] e n = sym (received-step [] e)
          go (x ∷ l) e n = absurd (omega arith)

      pub step_command : (code : ℕ) (bytes : List ℕ) (n : ℕ) (b₁ : List ℕ) (s : State) → command_in written ≡ code ∷ bytes → PutPacket (response_packet code (response_to (chip_state c) code bytes)) b n b₁
          → s ≡ numbers_of c.state.count (state_after (chip_state c) code bytes) → left_by (record c { state = s }) (Ok (Some n)) b₁ ≡ step_of c written b
      unfolding command_step
      step_command code bytes n b₁ s e p q =
          ap₂ (λ (k : ℕ) (l : List ℕ). left_by (record c { state = s }) (Ok (Some k)) l) p.count p.buffer
          ∙ ap (λ (t : State). left_by (record c { state = t }) (Ok (Some (length (response_packet code (response_to (chip_state c) code bytes))))) (at_start (response_packet code (response_to (chip_state c) code bytes)) b)) q
          ∙ sym (received-step (code ∷ bytes) e)
