-- A built frame parses to its payload and length, except under StatusByte, where it gives Error exactly when byte 5 is 0x7F. In an
-- extended frame byte 5 is a length byte.
use Rattle.std.specs.Prelude.{◌≡◌, ℕ, zero, suc, ◌<◌, ◌≤◌, Bool, true, false, List, [], ◌∷◌, ◌++◌, length, ◌==◌, nat_lt, slice_index, Some}
use Rattle.std.proofs.Math.Path.{refl, sym}
use Rattle.std.proofs.Common.{ap, ◌∙◌, append-nil, inl, inr, arith, ltb-true}
use Rattle.framing.specs.Enclose.{length-frame}
use Rattle.framing.specs.Exact.{Carries, data_exact, error_exact, sof-frame}
use Rattle.framing.specs.Frames.{ack, error_frame, checksum_of, ending, normal_head, normal_frame, extended_head, extended_frame, length_bytes, head_of, data_start_of, frame_of, longest}
use Rattle.errors.specs.Choice.{pick, same, same_not}
use Rattle.framing.specs.Lists.{Bytes}
use Rattle.framing.specs.Names.{normal_start, extended_start, longest_extended, shortest_extended, ack_size, status_error_offset, status_error_byte}
use Rattle.framing.specs.Parse.{is_error_of, extends, parse_of}
use Rattle.framing.specs.Sums.{checksum_byte}
use Rattle.framing.specs.declared.ErrorDetection.TheVariants.{ErrorFrame, StatusByte}
use Rattle.framing.specs.declared.FrameFormat.{FrameFormat}
use Rattle.framing.specs.declared.FrameType.TheVariants.{Error, Data}
use Rattle.framing.specs.declared.LengthEncoding.{LengthEncoding}
use Rattle.framing.specs.declared.LengthEncoding.TheVariants.{Normal, ExtendedLittleEndian, NormalOrExtendedBigEndian}

-- ---- the bytes of a frame are bytes

abbrev AllBytes : List ℕ → Type 0
AllBytes [] = Unit {0}
AllBytes (b ∷ l) = (b < 256) × AllBytes l

all_bytes_lem : (l : List ℕ) → AllBytes l → Bytes l
all_bytes_lem [] h zero = omega arith
all_bytes_lem [] h (suc k) = omega arith
all_bytes_lem (b ∷ l) h zero = h.0
all_bytes_lem (b ∷ l) h (suc k) = all_bytes_lem l h.1 k

bytes_all : (l : List ℕ) → Bytes l → AllBytes l
bytes_all [] h = tt
bytes_all (b ∷ l) h = (h zero, bytes_all l (λ k. h (suc k)))

all_append : (l r : List ℕ) → AllBytes l → AllBytes r → AllBytes (l ++ r)
all_append [] r h k = k
all_append (b ∷ l) r h k = (h.0, all_append l r h.1 k)

all_pair : (e : LengthEncoding) (n : ℕ) → n ≤ longest_extended → AllBytes (length_bytes e n)
unfolding length_bytes
all_pair Normal n h = (omega arith, (omega arith, tt))
all_pair ExtendedLittleEndian n h = (omega arith, (omega arith, tt))
all_pair NormalOrExtendedBigEndian n h = (omega arith, (omega arith, tt))

all_normal : (n : ℕ) → n < shortest_extended → AllBytes (normal_head n)
all_normal n h = (omega arith, (omega arith, (omega arith, (h, (checksum_byte (n ∷ []), tt)))))

all_extended : (l : List ℕ) → AllBytes l → AllBytes (extended_head l)
all_extended l h =
    (omega arith, (omega arith, (omega arith, (omega arith, (omega arith, all_append l (checksum_of l ∷ []) h (checksum_byte l, tt))))))

all_head : (e : LengthEncoding) (n : ℕ) → n ≤ longest e → AllBytes (head_of e n)
unfolding head_of pick
all_head Normal n h = all_normal n (omega arith)
all_head ExtendedLittleEndian n h = all_extended (length_bytes ExtendedLittleEndian n) (all_pair ExtendedLittleEndian n h)
all_head NormalOrExtendedBigEndian n h = go (nat_lt n shortest_extended) refl
  where
    go : (t : Bool) → nat_lt n shortest_extended ≡ t → AllBytes (pick t (normal_head n) (extended_head (length_bytes NormalOrExtendedBigEndian n)))
    go true x = all_normal n (ltb-true n shortest_extended x)
    go false x = all_extended (length_bytes NormalOrExtendedBigEndian n) (all_pair NormalOrExtendedBigEndian n h)

pub bytes_frame : (e : LengthEncoding) (q : List ℕ) → length q ≤ longest e → Bytes q → Bytes (frame_of e q)
unfolding frame_of
bytes_frame e q h b =
    all_bytes_lem (head_of e (length q) ++ q ++ ending q)
    (all_append (head_of e (length q) ++ q) (ending q) (all_append (head_of e (length q)) q (all_head e (length q) h) (bytes_all q b))
    (checksum_byte q, (omega arith, tt)))

-- ---- the frame of a payload carries it

carried : (e : LengthEncoding) (q : List ℕ) → length q ≤ longest e → Carries e q (frame_of e q) (data_start_of e (length q))
unfolding frame_of head_of data_start_of normal_frame extended_frame extends pick
carried Normal q h = inl (refl, refl, h)
carried ExtendedLittleEndian q h = inr (refl, refl, h, refl)
carried NormalOrExtendedBigEndian q h = go (nat_lt (length q) shortest_extended) refl
  where
    go : (t : Bool) → nat_lt (length q) shortest_extended ≡ t
        → Carries NormalOrExtendedBigEndian q
        (pick t (normal_head (length q)) (extended_head (length_bytes NormalOrExtendedBigEndian (length q))) ++ q ++ ending q) (pick t normal_start extended_start)
    go true x = inl (refl, refl, omega (arith, ltb-true (length q) shortest_extended x))
    go false x = inr (refl, refl, h, refl)

start_least : (e : LengthEncoding) (n : ℕ) → normal_start ≤ data_start_of e n
unfolding data_start_of pick
start_least Normal n = omega arith
start_least ExtendedLittleEndian n = omega arith
start_least NormalOrExtendedBigEndian n = go (nat_lt n shortest_extended)
  where
    go : (t : Bool) → normal_start ≤ pick t normal_start extended_start
    go true = omega arith
    go false = omega arith

-- no frame of a payload is one of the two frames of six bytes
not_six : (e : LengthEncoding) (q l : List ℕ) → length l ≡ ack_size → same l (frame_of e q) ≡ false
not_six e q l six = same_not l (frame_of e q) (λ h. omega (arith, ap length h, length-frame e q, start_least e (length q)))

module _ (f : FrameFormat) (q : List ℕ) (bytes : Bytes q) (fits : length q ≤ longest f.length) where
  abbrev frame : List ℕ
  frame = frame_of f.length q

  pub round_trip : parse_of f frame
      ≡ pick (is_error_of f.error frame) (Some (Error (length frame))) (Some (Data (data_start_of f.length (length q)) (length q) (length frame)))
  unfolding pick
  round_trip = go (is_error_of f.error frame) refl
    where
      go : (t : Bool) → is_error_of f.error frame ≡ t
          → parse_of f frame ≡ pick t (Some (Error (length frame))) (Some (Data (data_start_of f.length (length q)) (length q) (length frame)))
      go true x = (error_exact f frame (length frame)).1 (sof-frame f.length q, not_six f.length q ack refl, x, refl)
      go false x =
          (data_exact f frame (bytes_frame f.length q fits bytes) (data_start_of f.length (length q)) (length q) (length frame)).1 (
            record { no_ack = not_six f.length q ack refl; no_error = x },
            record {
              payload = q;
              frame = frame;
              behind = [];
              whole = sym (append-nil frame);
              carries = carried f.length q fits;
              len = refl;
              size = refl;
            },
          )

  -- with ErrorFrame: always its payload
  pub round_trip_error_frame : f.error ≡ ErrorFrame → parse_of f frame ≡ Some (Data (data_start_of f.length (length q)) (length q) (length frame))
  unfolding is_error_of pick
  round_trip_error_frame x = round_trip ∙ rw (x, not_six f.length q error_frame refl)

  -- with StatusByte: Error exactly when byte 5 is 0x7F
  pub round_trip_status_byte : f.error ≡ StatusByte → parse_of f frame
      ≡ pick (slice_index frame status_error_offset == status_error_byte) (Some (Error (length frame))) (Some (Data (data_start_of f.length (length q)) (length q) (length frame)))
  unfolding is_error_of
  round_trip_status_byte x = round_trip ∙ rw x
