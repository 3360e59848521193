-- The chip's packets at the host's end: each response is intact, fits a packet, and is not led by ACK.
use Rattle.std.specs.Prelude.{◌≡◌, true, false, List, [], ◌∷◌, ℕ, ◌+◌, ◌%◌, ◌≤◌, length}
use Rattle.std.proofs.Math.Path.{refl}
use Rattle.std.proofs.Common.{arith}
use borrow.Author.Tests.{eq-eqb}
use Rattle.framing.specs.Enclose.{length-frame, start-most}
use Rattle.framing.specs.Exact.{sof-frame}
use Rattle.framing.specs.Commands.{command_in}
use Rattle.framing.specs.Frames.{ack}
use Rattle.framing.specs.Intact.{Filled, rcs956_frame, bytes_cons, bytes_nil, frame_filled, built_intact, frame_not_ack}
use Rattle.framing.specs.Intact as framing
use Rattle.framing.specs.Lists.{Bytes, starts}
use Rattle.framing.specs.Padded.{unpadded}
use Rattle.framing.specs.Unpadded.{unpadded-start}
use Rattle.framing.specs.declared.LengthEncoding.TheVariants.{NormalOrExtendedBigEndian}
use Rattle.exchange.specs.Packets.{command_frame, payload_reply, reply_of, has_start, ack_led, is_empty, error_identifier}
use Rattle.exchange.specs.Rules.{not_empty}
use Rattle.protocol.specs.Session.{packet_limit}
use Rattle.chip_protocol.specs.Names.{longest_response}
use Rattle.chip_protocol.specs.Packets.{Response, responds, syntax_error, payload_for, response_packet, ResponseFits}
use Rattle.chip_protocol.specs.Script.{replied}

-- ---- from the chip to the host

payload_length : (code : ℕ) (r : Response) → ResponseFits r → length (payload_for code r) ≤ longest_response + 2
payload_length code (responds bytes) h = omega (arith, h.1)
payload_length code syntax_error h = omega arith

payload_some : (code : ℕ) (r : Response) → length (payload_for code r) ≡ 0 → ⊥
payload_some code (responds bytes) e = omega arith
payload_some code syntax_error e = omega arith

payload_filled : (code : ℕ) (r : Response) → ResponseFits r → Filled (rcs956_frame (payload_for code r)) (payload_for code r)
payload_filled code (responds bytes) h = built_intact code bytes h.0 (omega (arith, h.1))
payload_filled code syntax_error h = frame_filled (error_identifier ∷ []) (bytes_cons error_identifier [] (omega arith) bytes_nil) (omega arith)

payload_reply_lem : (code : ℕ) (r : Response) → payload_reply code (payload_for code r) ≡ replied r
payload_reply_lem code (responds bytes) = rw (eq-eqb ((code + 1) % 256) ((code + 1) % 256) refl)
payload_reply_lem code syntax_error = refl

module _ (code : ℕ) (r : Response) (fits : ResponseFits r) where
  abbrev packet : List ℕ
  packet = rcs956_frame (payload_for code r)

  -- for every command: its response, and the status of the error frame
  pub response_intact : reply_of code (response_packet code r) ≡ replied r
  unfolding reply_of response_packet
  response_intact =
      let f = payload_filled code r fits in
      rw (f.parsed, eq-eqb (length packet) (length packet) refl, f.carried) (payload_reply_lem code r)

  pub response_short : length (response_packet code r) ≤ packet_limit
  unfolding response_packet
  response_short =
      omega (arith, length-frame NormalOrExtendedBigEndian (payload_for code r), start-most NormalOrExtendedBigEndian (length (payload_for code r)), payload_length code r fits)

  pub response_not_ack : ack_led (response_packet code r) ≡ false
  unfolding ack_led response_packet
  response_not_ack = frame_not_ack (payload_for code r) (payload_some code r)

  pub response_not_empty : is_empty (response_packet code r) ≡ false
  unfolding response_packet
  response_not_empty = not_empty packet (λ e. omega (arith, length-frame NormalOrExtendedBigEndian (payload_for code r)))

  pub response_unpadded : unpadded (response_packet code r) ≡ response_packet code r
  unfolding response_packet
  response_unpadded = unpadded-start packet (sof-frame NormalOrExtendedBigEndian (payload_for code r))

-- ---- from the host to the chip

pub command_heard : (code : ℕ) (bytes : List ℕ) → Bytes (code ∷ bytes) → length bytes ≤ 512 → command_in (command_frame code bytes) ≡ code ∷ bytes
unfolding command_frame
command_heard code bytes b h = framing.command_heard code bytes b (omega arith)

-- ---- ACK

pub ack_led_lem : ack_led ack ≡ true
unfolding ack_led starts
ack_led_lem = refl

pub ack-start : has_start ack ≡ true
unfolding has_start starts
ack-start = refl

pub ack-unpadded : unpadded ack ≡ ack
unfolding starts
ack-unpadded = unpadded-start ack refl
