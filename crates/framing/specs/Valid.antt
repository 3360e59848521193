-- Laws of what `parse` tests: the tests of `Checks` say whether the packet starts with a frame, as `Parse` has it.
use Rattle.std.specs.Prelude.{◌≡◌, ℕ, suc, ◌+◌, ◌-◌, ◌%◌, ◌<◌, ◌≤◌, Bool, true, false, List, [], ◌∷◌, ◌++◌, length, take, drop, ◌==◌, nat_eq, nat_le, slice_index, slice_index_or, Option, Some, None}
use Rattle.std.proofs.Math.Path.{refl, ap}
use Rattle.std.proofs.Common.{sym, ap₂, ◌∙◌, subst, add-one, arith, length-take, drop-cons}
use Rattle.std.proofs.lemmas.Bool.{false≢true}
use borrow.Author.Tests.{eq-eqb, ne_eqb, eqb-true, leb-true, leb-false}
use Rattle.std.proofs.Math.ListN.{get_or-eq_default, length-append, length-drop}
use Rattle.std.proofs.Math.Seq.{length-take-le}
use Rattle.framing.specs.Frames.{total, checksum_of, sof, ending, normal_head, normal_frame, extended_head, extended_frame, length_bytes}
use Rattle.errors.specs.Choice.{pick}
use Rattle.framing.specs.Lists.{both, both_true_r, both_false_r, starts, Bytes}
use Rattle.framing.specs.Names.{sof_size, len_offset, lcs_offset, marker_byte, first_len_offset, second_len_offset, extended_lcs_offset, normal_start, extended_start, ending_size, normal_overhead, extended_overhead}
use Rattle.framing.specs.Parse.{normal_at, extended_at, normal_of, extended_of, data_of, length_at, extends}
use Rattle.framing.specs.Checks.{has_marker_of, marked, checked, matches, between, pair_length_of, frame_at_of}
use Rattle.framing.specs.Starts.{starts-append, starts_cons, starts-take, starts_long, starts_split}
use Rattle.framing.specs.Sums.{checksum_sum, checksum_only}
use Rattle.framing.specs.declared.FrameType.{FrameType}
use Rattle.framing.specs.declared.FrameType.TheVariants.{Data}
use Rattle.framing.specs.declared.LengthEncoding.{LengthEncoding}
use Rattle.framing.specs.declared.LengthEncoding.TheVariants.{Normal, ExtendedLittleEndian, NormalOrExtendedBigEndian}

-- past the packet's end there is no byte of this value
pub byte_past : (p : List ℕ) (k b : ℕ) → length p ≤ k → (0 == b) ≡ false → false ≡ (slice_index p k == b)
byte_past p k b h e = sym (rw (get_or-eq_default p 0 h) e)

pub marker_short : (p : List ℕ) → length p < normal_start → false ≡ has_marker_of p
unfolding has_marker_of
marker_short p h = sym (both_false_r (slice_index p len_offset == marker_byte) (slice_index p lcs_offset == marker_byte) (sym (byte_past p lcs_offset marker_byte (omega arith) refl)))

-- a byte is the checksum exactly when it brings the sum to a multiple of 256
is_checksum : (l : List ℕ) (b : ℕ) → b < 256 → (checksum_of l == b) ≡ matches l b
unfolding matches
is_checksum l b h = go ((total l + b) % 256 == 0) refl
  where
    go : (t : Bool) → ((total l + b) % 256 == 0) ≡ t → (checksum_of l == b) ≡ t
    go true e = eq-eqb (checksum_of l) b (sym (checksum_only l b h (eqb-true ((total l + b) % 256) 0 e)))
    go false e = ne_eqb (checksum_of l) b (λ q. borrow.Author.Tests.eqb-false ((total l + b) % 256) 0 e (subst (λ x. (total l + x) % 256 ≡ 0) q (checksum_sum l)))

eqb_comm : (a b : ℕ) → (a == b) ≡ (b == a)
eqb_comm a b = go (b == a) refl
  where
    go : (t : Bool) → (b == a) ≡ t → (a == b) ≡ t
    go true e = eq-eqb a b (sym (eqb-true b a e))
    go false e = ne_eqb a b (λ q. borrow.Author.Tests.eqb-false b a e (sym q))

-- A head of s bytes, the n bytes from s on and their ending, at the start of a packet that has room for them.
module _ (p h : List ℕ) (n : ℕ) (bytes : Bytes p) where
  pub starts-frame : length h + n + ending_size ≤ length p
      → starts (h ++ take n (drop (length h) p) ++ ending (take n (drop (length h) p))) p
      ≡ both (starts h p) (both (matches (take n (drop (length h) p)) (slice_index p (length h + n))) (slice_index p (length h + n + 1) == 0))
  unfolding starts
  starts-frame room =
      let q : List ℕ = take n (drop (length h) p) in
      let lq : length q ≡ n = length-take-le n (drop (length h) p) (simp length-drop (omega arith)) in
      let lh : length (h ++ q) ≡ length h + n = length-append h q ∙ ap (λ k. length h + k) lq in
      starts-append (h ++ q) (ending q) p
      ∙ ap (λ k. both (starts (h ++ q) p) (starts (ending q) (drop k p))) lh
      ∙ ap (λ t. both t (starts (ending q) (drop (length h + n) p))) (starts-append h q p ∙ ap (λ t. both (starts h p) t) (starts-take n (drop (length h) p)) ∙ both_true_r (starts h p))
      ∙ ap (λ t. both (starts h p) t)
      (starts_cons (checksum_of q) (0 ∷ []) p (length h + n) (omega arith)
      ∙ ap (λ t. both t (starts (0 ∷ []) (drop (suc (length h + n)) p))) (is_checksum q (slice_index p (length h + n)) (bytes (length h + n)))
      ∙ ap (λ t. both (matches q (slice_index p (length h + n))) t)
      (starts_cons 0 [] p (suc (length h + n)) (omega arith) ∙ both_true_r (0 == slice_index p (suc (length h + n))) ∙ eqb_comm 0 (slice_index p (suc (length h + n))) ∙ ap (λ k. nat_eq (slice_index p k) 0) (sym (add-one (length h + n)))))

  -- with no room for it there is no such frame
  pub starts_no_room : length p < length h + n + ending_size → starts (h ++ take n (drop (length h) p) ++ ending (take n (drop (length h) p))) p ≡ false
  starts_no_room small =
      let q : List ℕ = take n (drop (length h) p) in
      starts_long (h ++ q ++ ending q) p (simp (length-append, length-take, length-drop) (omega arith))

-- the four bytes from byte 3 on, one after the other
starts-head : (p : List ℕ) (f : List ℕ) → starts sof p ≡ true → starts (sof ++ f) p ≡ starts f (drop sof_size p)
starts-head p f h = starts-append sof f p ∙ rw h

normal_head_lem : (p : List ℕ) (n : ℕ) → Bytes p → starts sof p ≡ true → normal_start ≤ length p → slice_index p len_offset ≡ n
    → starts (normal_head n) p ≡ matches (n ∷ []) (slice_index p lcs_offset)
unfolding starts
normal_head_lem p n bytes h room e =
    starts-head p (n ∷ checksum_of (n ∷ []) ∷ []) h
    ∙ starts_cons n (checksum_of (n ∷ []) ∷ []) p len_offset (omega arith)
    ∙ ap (λ t. both t (starts (checksum_of (n ∷ []) ∷ []) (drop lcs_offset p))) (eq-eqb n (slice_index p len_offset) (sym e))
    ∙ starts_cons (checksum_of (n ∷ [])) [] p lcs_offset (omega arith)
    ∙ both_true_r (checksum_of (n ∷ []) == slice_index p lcs_offset)
    ∙ is_checksum (n ∷ []) (slice_index p lcs_offset) (bytes lcs_offset)

between_cut : (s n : ℕ) (p : List ℕ) → between s (s + n) p ≡ take n (drop s p)
between_cut s n p = ap (λ k. take k (drop s p)) e
  where
    e : s + n - s ≡ n
    e = omega arith

take-one : (k : ℕ) (p : List ℕ) → k < length p → take 1 (drop k p) ≡ slice_index p k ∷ []
take-one k p h = rw (drop-cons p k 0)

-- a normal frame
pub normal_valid : (p : List ℕ) → Bytes p → starts sof p ≡ true → normal_start ≤ length p → checked len_offset normal_start (slice_index p len_offset) p ≡ normal_at p
unfolding checked normal_at normal_frame
normal_valid p bytes h five = go (nat_le (normal_start + n + ending_size) (length p)) refl
  where
    n : ℕ
    n = slice_index p len_offset

    q : List ℕ
    q = take n (drop normal_start p)

    go : (t : Bool) → nat_le (normal_start + n + ending_size) (length p) ≡ t
        → both t (both (matches (between len_offset (normal_start - 1) p) (slice_index p lcs_offset)) (both (matches (between normal_start (normal_start + n) p) (slice_index p (normal_start + n))) (slice_index p (normal_start + n + 1) == 0)))
        ≡ starts (normal_head (length q) ++ q ++ ending q) p
    go true e =
        let three : len_offset < length p = omega arith in
        let room : normal_start + n + ending_size ≤ length p = leb-true (normal_start + n + ending_size) (length p) e in
        let lq : length q ≡ n = length-take-le n (drop normal_start p) (simp length-drop (omega arith)) in
        rw (take-one len_offset p, between_cut normal_start n p, lq) (sym (rw (normal_head_lem p n bytes h five refl) at (starts-frame p (normal_head n) n bytes room)))
    go false e =
        let small : length p < normal_start + n + ending_size = leb-false (normal_start + n + ending_size) (length p) e in
        sym (starts_no_room p (normal_head (length q)) n bytes small)

pub both_left : (a b : Bool) → both a b ≡ true → a ≡ true
both_left true b h = refl
both_left false b h = absurd (false≢true h)

pub both_right : (a b : Bool) → both a b ≡ true → b ≡ true
both_right true b h = h
both_right false b h = absurd (false≢true h)

-- the two bytes of the marker
pub marker_3 : (p : List ℕ) → has_marker_of p ≡ true → slice_index p len_offset ≡ marker_byte
unfolding has_marker_of
marker_3 p m = eqb-true (slice_index p len_offset) marker_byte (both_left (slice_index p len_offset == marker_byte) (slice_index p lcs_offset == marker_byte) m)

pub marker_4 : (p : List ℕ) → has_marker_of p ≡ true → slice_index p lcs_offset ≡ marker_byte
unfolding has_marker_of
marker_4 p m = eqb-true (slice_index p lcs_offset) marker_byte (both_right (slice_index p len_offset == marker_byte) (slice_index p lcs_offset == marker_byte) m)

pub marker_room : (p : List ℕ) → has_marker_of p ≡ true → normal_start ≤ length p
marker_room p m = go (nat_le normal_start (length p)) refl
  where
    go : (t : Bool) → nat_le normal_start (length p) ≡ t → normal_start ≤ length p
    go true e = leb-true normal_start (length p) e
    go false e = absurd (false≢true (marker_short p (leb-false normal_start (length p) e) ∙ m))

-- a normal frame has no marker: FF is not the LCS of FF
pub marker_normal : (p : List ℕ) → Bytes p → starts sof p ≡ true → has_marker_of p ≡ true → normal_at p ≡ false
unfolding checked matches total
marker_normal p bytes h m =
    sym (normal_valid p bytes h (marker_room p m))
    ∙ both_false_r (nat_le (normal_start + slice_index p len_offset + ending_size) (length p)) _
    (rw (take-one len_offset p (omega (arith, marker_room p m)), marker_3 p m, marker_4 p m))

pair_at : (e : LengthEncoding) (p : List ℕ) → pair_length_of e (slice_index p first_len_offset) (slice_index p second_len_offset) ≡ length_at e p
unfolding pair_length_of length_at
pair_at Normal p = refl
pair_at ExtendedLittleEndian p = refl
pair_at NormalOrExtendedBigEndian p = refl

-- the length bytes of an extended frame give its length, and the length gives them
length_pair : (e : LengthEncoding) (p : List ℕ) → Bytes p → length_bytes e (length_at e p) ≡ slice_index p first_len_offset ∷ slice_index p second_len_offset ∷ []
unfolding length_bytes length_at
length_pair Normal p bytes = ap₂ (λ a b. a ∷ b ∷ []) (omega (arith, bytes first_len_offset, bytes second_len_offset)) (omega (arith, bytes first_len_offset, bytes second_len_offset))
length_pair ExtendedLittleEndian p bytes = ap₂ (λ a b. a ∷ b ∷ []) (omega (arith, bytes first_len_offset, bytes second_len_offset)) (omega (arith, bytes first_len_offset, bytes second_len_offset))
length_pair NormalOrExtendedBigEndian p bytes = ap₂ (λ a b. a ∷ b ∷ []) (omega (arith, bytes first_len_offset, bytes second_len_offset)) (omega (arith, bytes first_len_offset, bytes second_len_offset))

extended_head_lem : (p : List ℕ) → Bytes p → starts sof p ≡ true → has_marker_of p ≡ true → extended_start ≤ length p
    → starts (extended_head (slice_index p first_len_offset ∷ slice_index p second_len_offset ∷ [])) p ≡ matches (slice_index p first_len_offset ∷ slice_index p second_len_offset ∷ []) (slice_index p extended_lcs_offset)
unfolding starts
extended_head_lem p bytes h m room =
    let a = slice_index_or p first_len_offset 0 in
    let b = slice_index_or p second_len_offset 0 in
    let c = checksum_of (a ∷ b ∷ []) in
    starts-head p (0xFF ∷ 0xFF ∷ a ∷ b ∷ c ∷ []) h
    ∙ starts_cons 0xFF (0xFF ∷ a ∷ b ∷ c ∷ []) p len_offset (omega arith)
    ∙ ap (λ t. both t (starts (0xFF ∷ a ∷ b ∷ c ∷ []) (drop lcs_offset p))) (eq-eqb marker_byte (slice_index p len_offset) (sym (marker_3 p m)))
    ∙ starts_cons 0xFF (a ∷ b ∷ c ∷ []) p lcs_offset (omega arith)
    ∙ ap (λ t. both t (starts (a ∷ b ∷ c ∷ []) (drop first_len_offset p))) (eq-eqb marker_byte (slice_index p lcs_offset) (sym (marker_4 p m)))
    ∙ starts_cons a (b ∷ c ∷ []) p first_len_offset (omega arith)
    ∙ ap (λ t. both t (starts (b ∷ c ∷ []) (drop second_len_offset p))) (eq-eqb a a refl)
    ∙ starts_cons b (c ∷ []) p second_len_offset (omega arith)
    ∙ ap (λ t. both t (starts (c ∷ []) (drop extended_lcs_offset p))) (eq-eqb b b refl)
    ∙ starts_cons c [] p extended_lcs_offset (omega arith)
    ∙ both_true_r (c == slice_index p extended_lcs_offset)
    ∙ is_checksum (a ∷ b ∷ []) (slice_index p extended_lcs_offset) (bytes extended_lcs_offset)

take_two : (k : ℕ) (p : List ℕ) → k + 2 ≤ length p → take 2 (drop k p) ≡ slice_index p k ∷ slice_index p (suc k) ∷ []
take_two k p h =
    let one : k < length p = omega arith in
    let two : suc k < length p = omega arith in
    rw (drop-cons p k 0, drop-cons p (suc k) 0)

pub length_framed : (h q : List ℕ) → length (h ++ q ++ ending q) ≡ length h + length q + ending_size
length_framed h q = length-append (h ++ q) (ending q) ∙ ap (λ k. k + ending_size) (length-append h q)

pub length_extended : (e : LengthEncoding) (q : List ℕ) → length (extended_frame e q) ≡ extended_start + length q + ending_size
unfolding extended_frame length_bytes
length_extended e q = length_framed (extended_head (length_bytes e (length q))) q ∙ ap (λ k. k + length q + ending_size) (go e)
  where
    go : (f : LengthEncoding) → length (extended_head (length_bytes f (length q))) ≡ extended_start
    go Normal = refl
    go ExtendedLittleEndian = refl
    go NormalOrExtendedBigEndian = refl

-- an extended frame from byte 8 on does not fit the packet
no_extended : (e : LengthEncoding) (p : List ℕ) (n : ℕ) → length p < extended_start + n + ending_size → starts (extended_frame e (take n (drop extended_start p))) p ≡ false
no_extended e p n small =
    starts_long (extended_frame e (take n (drop extended_start p))) p
    (omega (arith, length_extended e (take n (drop extended_start p)), length-take n (drop extended_start p), length-drop extended_start p))

-- an extended frame
starts_extended : (e : LengthEncoding) (p : List ℕ) → Bytes p → starts sof p ≡ true → has_marker_of p ≡ true → extended_start ≤ length p
    → checked first_len_offset extended_start (length_at e p) p ≡ starts (extended_frame e (take (length_at e p) (drop extended_start p))) p
unfolding checked extended_frame
starts_extended e p bytes h m eight = go (nat_le (extended_start + n + ending_size) (length p)) refl
  where
    n : ℕ
    n = length_at e p

    q : List ℕ
    q = take n (drop extended_start p)

    lens : List ℕ
    lens = slice_index p first_len_offset ∷ slice_index p second_len_offset ∷ []

    go : (t : Bool) → nat_le (extended_start + n + ending_size) (length p) ≡ t
        → both t (both (matches (between first_len_offset (extended_start - 1) p) (slice_index p extended_lcs_offset)) (both (matches (between extended_start (extended_start + n) p) (slice_index p (extended_start + n))) (slice_index p (extended_start + n + 1) == 0)))
        ≡ starts (extended_head (length_bytes e (length q)) ++ q ++ ending q) p
    go true t =
        let room : extended_start + n + ending_size ≤ length p = leb-true (extended_start + n + ending_size) (length p) t in
        let lq : length q ≡ n = length-take-le n (drop extended_start p) (simp length-drop (omega arith)) in
        let seven : first_len_offset + 2 ≤ length p = omega arith in
        rw (take_two first_len_offset p, between_cut extended_start n p, lq, length_pair e p bytes)
        (sym (rw (extended_head_lem p bytes h m eight) at (starts-frame p (extended_head lens) n bytes room)))
    go false t =
        let small : length p < extended_start + n + ending_size = leb-false (extended_start + n + ending_size) (length p) t in
        sym (no_extended e p n small)

pub extended_valid : (e : LengthEncoding) (p : List ℕ) → Bytes p → starts sof p ≡ true → marked e p ≡ true → extended_start ≤ length p
    → checked first_len_offset extended_start (length_at e p) p ≡ extended_at e p
unfolding extended_at marked
extended_valid e p bytes h m eight =
    rw (both_left (extends e) (has_marker_of p) m) (starts_extended e p bytes h (both_right (extends e) (has_marker_of p) m) eight)

-- a packet too short for the head has none
pub normal_short : (p : List ℕ) → length p < normal_start → normal_at p ≡ false
unfolding normal_at normal_frame
normal_short p h = starts_long _ p (simp (length-append, length-take, length-drop) (omega arith))

pub extended_short : (e : LengthEncoding) (p : List ℕ) → length p < extended_start → extended_at e p ≡ false
unfolding extended_at extended_frame
extended_short e p h = both_false_r (extends e) _ (no_extended e p (length_at e p) (omega arith))

pub extended_unmarked : (e : LengthEncoding) (p : List ℕ) → marked e p ≡ false → extended_at e p ≡ false
unfolding extended_at extended_frame marked has_marker_of
extended_unmarked e p m = go (extended_at e p) refl
  where
    go : (t : Bool) → extended_at e p ≡ t → t ≡ false
    go true x =
        let s = starts_split (extended_frame e (take (length_at e p) (drop extended_start p))) p (both_right (extends e) _ x) in
        let k : has_marker_of p ≡ true = subst (λ l. has_marker_of l ≡ true) (sym s) refl in
        absurd (false≢true (sym m ∙ rw (both_left (extends e) _ x) k))
    go false x = refl

-- The answers of `parse_normal`, `parse_extended` and `parse_data`, by what they tested.
pub normal_too_short : (p : List ℕ) → length p < normal_start → None ≡ normal_of p
unfolding normal_of pick
normal_too_short p h = rw (normal_short p h)

pub extended_too_short : (e : LengthEncoding) (p : List ℕ) → length p < extended_start → None ≡ extended_of e p
unfolding extended_of pick
extended_too_short e p h = rw (extended_short e p h)

module _ (p : List ℕ) (bytes : Bytes p) (h : starts sof p ≡ true) (n : ℕ) (x : Option FrameType) where
  pub normal_found : n ≡ slice_index p len_offset → normal_start ≤ length p → x ≡ frame_at_of len_offset normal_start n p → x ≡ normal_of p
  unfolding frame_at_of normal_of
  normal_found e five v =
      let known : checked len_offset normal_start n p ≡ normal_at p = ap (λ k. checked len_offset normal_start k p) e ∙ normal_valid p bytes h five in
      let size : normal_start + n + ending_size ≡ n + normal_overhead = omega arith in
      v ∙ rw (known, size, e) refl

  module _ (e : LengthEncoding) (m : marked e p ≡ true) (len : n ≡ pair_length_of e (slice_index p first_len_offset) (slice_index p second_len_offset)) (eight : extended_start ≤ length p) where
    pub extended_found : x ≡ frame_at_of first_len_offset extended_start n p → x ≡ extended_of e p
    unfolding frame_at_of extended_of
    extended_found v =
        let l : n ≡ length_at e p = len ∙ pair_at e p in
        let known : checked first_len_offset extended_start n p ≡ extended_at e p = ap (λ k. checked first_len_offset extended_start k p) l ∙ extended_valid e p bytes h m eight in
        let size : extended_start + n + ending_size ≡ n + extended_overhead = omega arith in
        v ∙ rw (known, size, l) refl

module _ (e : LengthEncoding) (p : List ℕ) (x : Option FrameType) where
  pub data_extended : Bytes p → starts sof p ≡ true → marked e p ≡ true → x ≡ extended_of e p → x ≡ data_of e p
  unfolding data_of pick marked
  data_extended bytes h m f = rw (marker_normal p bytes h (both_right (extends e) (has_marker_of p) m)) f

  pub data_normal : marked e p ≡ false → x ≡ normal_of p → x ≡ data_of e p
  unfolding data_of normal_of extended_of pick
  data_normal m f = f ∙ go (normal_at p)
    where
      go : (t : Bool) → pick t (Some (Data normal_start (slice_index p len_offset) (slice_index p len_offset + normal_overhead))) None ≡ pick t (pick t (Some (Data normal_start (slice_index p len_offset) (slice_index p len_offset + normal_overhead))) None) (extended_of e p)
      go true = refl
      go false = rw (extended_unmarked e p m)
