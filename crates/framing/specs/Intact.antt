-- What one end builds is taken at the other, in a normal and in an extended frame: a command by the chip, its response by the host.
use Rattle.std.specs.Prelude.{◌≡◌, ℕ, zero, suc, ◌+◌, ◌%◌, ◌<◌, ◌≤◌, Bool, true, false, List, [], ◌∷◌, ◌++◌, length, take, drop, ◌≢◌, nat_lt, refl, Some}
use Rattle.std.proofs.Common.{sym, ap, ◌∙◌, append_assoc, arith, eq-eqb, ne_eqb, drop_at}
use Rattle.std.proofs.Math.Seq.{take-append_seam}
use Rattle.errors.specs.Choice.{pick, same}
use Rattle.framing.specs.Commands.{behind_direction_of, command_in}
use Rattle.framing.specs.Enclose.{length-head}
use Rattle.framing.specs.Frames.{ack, ending, head_of, data_start_of, frame_of, normal_head, extended_head, length_bytes}
use Rattle.framing.specs.Lists.{Bytes, starts}
use Rattle.framing.specs.Names.{host_to_controller, controller_to_host, longest_extended, shortest_extended}
use Rattle.framing.specs.Parse.{parse_of, payload_of}
use Rattle.framing.specs.RoundTrip.{round_trip_error_frame}
use Rattle.framing.specs.Settings.{rcs956, command_payload, response_payload}
use Rattle.framing.specs.declared.FrameType.TheVariants.{Data}
use Rattle.framing.specs.declared.LengthEncoding.{LengthEncoding}
use Rattle.framing.specs.declared.LengthEncoding.TheVariants.{NormalOrExtendedBigEndian}

pub bytes_cons : (b : ℕ) (l : List ℕ) → b < 256 → Bytes l → Bytes (b ∷ l)
bytes_cons b l h k zero = h
bytes_cons b l h k (suc n) = k n

pub bytes_nil : Bytes []
bytes_nil zero = omega arith
bytes_nil (suc n) = omega arith

-- ---- any payload

-- the RC-S956's frame of a payload
abbrev pub rcs956_frame : List ℕ → List ℕ
rcs956_frame payload = frame_of NormalOrExtendedBigEndian payload

-- a packet is one data frame, which fills it, and carries this payload
pub record Filled (packet payload : List ℕ) : Type 0 where
  pub start : ℕ
  pub parsed : parse_of rcs956 packet ≡ Some (Data start (length payload) (length packet))
  pub carried : payload_of (Some (Data start (length payload) (length packet))) packet ≡ payload

frame-part : (e : LengthEncoding) (q : List ℕ) (m : ℕ) → payload_of (Some (Data (data_start_of e (length q)) (length q) m)) (frame_of e q) ≡ q
unfolding payload_of frame_of
frame-part e q m =
    ap (λ l. take (length q) (drop (data_start_of e (length q)) l)) (append_assoc (head_of e (length q)) q (ending q))
    ∙ ap (take (length q)) (drop_at (head_of e (length q)) (q ++ ending q) (data_start_of e (length q)) (length-head e (length q)))
    ∙ take-append_seam q (ending q)

pub frame_filled : (q : List ℕ) → Bytes q → length q ≤ longest_extended → Filled (rcs956_frame q) q
frame_filled q b h =
    record {
      start = data_start_of NormalOrExtendedBigEndian (length q);
      parsed = round_trip_error_frame rcs956 q b h refl;
      carried = frame-part NormalOrExtendedBigEndian q (length (rcs956_frame q));
    }

-- it is not led by ACK
pub frame_not_ack : (q : List ℕ) → (length q ≢ 0) → starts ack (rcs956_frame q) ≡ false
unfolding starts frame_of head_of pick
frame_not_ack q n = go (nat_lt (length q) shortest_extended)
  where
    go : (t : Bool) → starts ack (pick t (normal_head (length q)) (extended_head (length_bytes NormalOrExtendedBigEndian (length q))) ++ q ++ ending q) ≡ false
    go true = rw (ne_eqb 0 (length q) (λ e. n (sym e)))
    go false = refl

-- ---- a response is intact

pub built_intact : (code : ℕ) (bytes : List ℕ) → Bytes bytes → length bytes + 2 ≤ longest_extended
    → Filled (rcs956_frame (response_payload code bytes)) (response_payload code bytes)
built_intact code bytes b h =
    frame_filled (response_payload code bytes)
    (bytes_cons controller_to_host ((code + 1) % 256 ∷ bytes) (omega arith) (bytes_cons ((code + 1) % 256) bytes (omega arith) b)) (omega arith)

-- ---- a command is taken out of its frame; the bare ACK has none

command_filled : (p q : List ℕ) → Filled p q → command_in p ≡ behind_direction_of q
unfolding command_in pick
command_filled p q f = rw (f.parsed, eq-eqb (length p) (length p) refl, f.carried)

pub command_heard : (code : ℕ) (bytes : List ℕ) → Bytes (code ∷ bytes) → length bytes + 2 ≤ longest_extended
    → command_in (rcs956_frame (command_payload code bytes)) ≡ code ∷ bytes
unfolding behind_direction_of pick
command_heard code bytes b h =
    command_filled (rcs956_frame (command_payload code bytes)) (command_payload code bytes)
    (frame_filled (command_payload code bytes) (bytes_cons host_to_controller (code ∷ bytes) (omega arith) b) (omega arith))

pub ack_no_command : command_in ack ≡ []
unfolding command_in parse_of starts same pick
ack_no_command = refl
