-- Laws of the padded answer, for every format.
use Rattle.std.specs.Prelude.{◌≡◌, ℕ, ◌+◌, ◌-◌, ◌<◌, ◌≤◌, Bool, true, false, List, ◌++◌, length, take, drop, replicate, slice_index, slice_index_or, refl, Option, Some, None}
use Rattle.std.proofs.Common.{sym, ◌∙◌, arith, zero-add, drop-drop, take_all}
use Rattle.std.proofs.Math.Path.{ap, ap₂}
use borrow.Author.Tests.{eq-eqb}
use Rattle.std.proofs.Math.ListN.{length-drop}
use Rattle.std.proofs.Math.Seq.{get_or-drop}
use Rattle.errors.specs.Choice.{pick, same, same_not}
use Rattle.framing.specs.Frames.{sof, ack}
use Rattle.framing.specs.Lists.{starts}
use Rattle.framing.specs.Names.{len_offset, normal_start, extended_start, normal_overhead, extended_overhead, ack_size, status_error_offset, status_error_byte}
use Rattle.framing.specs.Padded.{most_zeros, extra_zeros_of, unpadded, zeros_in, shifted_by, padded, parse_padded_of}
use Rattle.framing.specs.Parse.{is_error_of, normal_at, normal_of, extended_at, extended_of, data_of, length_at, parse_of, payload_of}
use Rattle.framing.specs.Unpadded.{extra_most, extra_before, extra_fits, extra_false_start, unpadded-before, over_no_start}
use Rattle.framing.specs.declared.ErrorDetection.TheVariants.{StatusByte}
use Rattle.framing.specs.declared.FrameFormat.{FrameFormat}
use Rattle.framing.specs.declared.FrameType.{FrameType}
use Rattle.framing.specs.declared.FrameType.TheVariants.{Ack, Error, Data}

-- where a data frame's payload starts
abbrev pub payload_start : Option FrameType → ℕ
payload_start (Some (Ack n)) = 0
payload_start (Some (Error n)) = 0
payload_start (Some (Data start len n)) = start
payload_start None = 0

-- A claim of each answer that `parse` can give.
module _ (P : Option FrameType → Type 0) (f : FrameFormat) (p : List ℕ) where
  pub by_answer : P None → P (Some (Ack ack_size)) → P (Some (Error (length p))) → ((start len n : ℕ) → start ≤ extended_start → P (Some (Data start len n))) → P (parse_of f p)
  unfolding parse_of data_of normal_of extended_of pick
  by_answer none acked failed found = go (starts sof p) (same ack p) (is_error_of f.error p) (normal_at p) (extended_at f.length p)
    where
      n : ℕ
      n = slice_index p len_offset

      x : ℕ
      x = length_at f.length p

      go : (a b c d e : Bool) → P (pick a (pick b (Some (Ack ack_size)) (pick c (Some (Error (length p)))
          (pick d (pick d (Some (Data normal_start n (n + normal_overhead))) None) (pick e (Some (Data extended_start x (x + extended_overhead))) None)))) None)
      go false b c d e = none
      go true true c d e = acked
      go true false true d e = failed
      go true false false true e = found normal_start n (n + normal_overhead) (omega arith)
      go true false false false true = found extended_start x (x + extended_overhead) (omega arith)
      go true false false false false = none

-- a payload starts at byte 5 or byte 8
pub start_low : (f : FrameFormat) (p : List ℕ) → payload_start (parse_of f p) ≤ extended_start
start_low f p = by_answer (λ t. payload_start t ≤ extended_start) f p (omega arith) (omega arith) (omega arith) (λ start len n l. l)

pub zeros-most : (on : Bool) (p : List ℕ) → zeros_in on p ≤ most_zeros
zeros-most true p = extra_most p
zeros-most false p = omega arith

pub zeros-fit : (on : Bool) (p : List ℕ) → zeros_in on p ≤ length p
zeros-fit true p = extra_fits p
zeros-fit false p = omega arith

behind_none : (t : Option FrameType) → shifted_by 0 t ≡ t
behind_none (Some (Ack n)) = refl
behind_none (Some (Error n)) = refl
behind_none (Some (Data start len n)) = ap (λ k. Some (Data k len n)) (zero-add start)
behind_none None = refl

-- the payload is the same part of the packet as it came
pub payload_behind : (z : ℕ) (t : Option FrameType) (p : List ℕ) → payload_of (shifted_by z t) p ≡ payload_of t (drop z p)
unfolding payload_of
payload_behind z (Some (Ack n)) p = refl
payload_behind z (Some (Error n)) p = refl
payload_behind z (Some (Data start len n)) p = ap (take len) (sym (drop-drop start z p))
payload_behind z None p = refl

-- ACK has 00 at byte 5
no_ack : (p : List ℕ) → slice_index p status_error_offset ≡ status_error_byte → same ack p ≡ false
no_ack p e = same_not ack p (λ h. omega (arith, ap (λ q. slice_index q status_error_offset) h, e))

module _ (f : FrameFormat) where
  -- with the mode off the answer is that of `parse`
  pub off-plain : (p : List ℕ) → parse_padded_of f false p ≡ padded 0 (parse_of f p)
  unfolding parse_padded_of
  off-plain p = ap (padded 0) (behind_none (parse_of f p))

  -- with it on, up to 16 zeros before a packet that has the start bytes give the plain answer and their number
  pub on-before : (z : ℕ) (p : List ℕ) → starts sof p ≡ true → z ≤ most_zeros
      → parse_padded_of f true (replicate z 0 ++ p) ≡ padded z (shifted_by z (parse_of f p))
  unfolding parse_padded_of unpadded
  on-before z p h l = ap₂ (λ k q. padded k (shifted_by k (parse_of f q))) (extra_before z p h l) (unpadded-before z p h l)

  -- any other packet is no frame and has no extra zeros: one with 17 or more before the start bytes too
  pub on_no_start : (p : List ℕ) → starts sof (unpadded p) ≡ false → parse_padded_of f true p ≡ padded 0 None
  unfolding parse_padded_of unpadded parse_of pick
  on_no_start p h = rw h (ap (λ k. padded k None) (extra_false_start p h))

  pub on-over : (z : ℕ) (p : List ℕ) → starts sof p ≡ true → most_zeros < z → parse_padded_of f true (replicate z 0 ++ p) ≡ padded 0 None
  on-over z p h l = on_no_start (replicate z 0 ++ p) (over_no_start z p h l)

  -- the payload that is handed out is a part of the packet as it came, and is that of the packet without the zeros
  pub payload_same : (on : Bool) (p : List ℕ)
      → payload_of (parse_padded_of f on p).found p ≡ payload_of (parse_of f (drop (zeros_in on p) p)) (drop (zeros_in on p) p)
  unfolding parse_padded_of
  payload_same on p = payload_behind (zeros_in on p) (parse_of f (drop (zeros_in on p) p)) p

  -- under StatusByte, byte 5 counted behind the zeros says Error, of the packet's length less their number
  pub status_error : f.error ≡ StatusByte → (p : List ℕ) → starts sof (unpadded p) ≡ true → slice_index p (extra_zeros_of p + status_error_offset) ≡ status_error_byte
      → parse_padded_of f true p ≡ padded (extra_zeros_of p) (Some (Error (length p - extra_zeros_of p)))
  unfolding parse_padded_of unpadded parse_of is_error_of pick
  status_error s p h e =
      let q = drop (extra_zeros_of p) p in
      let five : slice_index_or q status_error_offset 0 ≡ status_error_byte = get_or-drop (extra_zeros_of p) p status_error_offset 0 ∙ e in
      rw (h, no_ack q five, s, eq-eqb (slice_index q status_error_offset) status_error_byte five, length-drop (extra_zeros_of p) p)

  -- an Error's length, under either error form
  pub error_length : (on : Bool) (p : List ℕ) (n : ℕ) → (parse_padded_of f on p).found ≡ Some (Error n) → n ≡ length p - zeros_in on p
  unfolding parse_padded_of
  error_length on p n h =
      let z = zeros_in on p in
      by_answer (λ t. shifted_by z t ≡ Some (Error n) → n ≡ length p - z) f (drop z p) (λ e. cc) (λ e. cc)
      (λ e. let same_length : n ≡ length (drop z p) = cc in same_length ∙ length-drop z p) (λ start len k l e. cc) h

  -- what `parse_padded` puts together
  pub padded-known : (on : Bool) (p : List ℕ) (z : ℕ) (t r : Option FrameType) → z ≡ zeros_in on p → t ≡ parse_of f (take (length p - z) (drop z p)) → r ≡ shifted_by z t
      → padded z r ≡ parse_padded_of f on p
  unfolding parse_padded_of
  padded-known on p z t r e a b =
      let whole : length (drop z p) ≤ length p - z = rw (length-drop z p) (omega arith) in
      ap (padded z) (b ∙ ap (shifted_by z) (a ∙ ap (parse_of f) (take_all (length p - z) (drop z p) whole)))
      ∙ ap (λ k. padded k (shifted_by k (parse_of f (drop k p)))) e
