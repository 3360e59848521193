-- `parse` answers Data exactly when the packet starts with a frame, Ack and Error exactly when document 01 says; and what `build`
-- writes parses to its payload. For every format, so for all six settings at once.
use Rattle.std.specs.Prelude.{◌≡◌, ℕ, ◌+◌, ◌≤◌, Bool, true, false, ◌⊎◌, ◌↔◌, List, ◌++◌, length, take, drop, ◌≢◌, nat_lt, slice_index, slice_index_or, Option, Some, None}
use Rattle.std.proofs.Math.Path.{refl, sym, ap, subst₃}
use Rattle.std.proofs.Common.{◌∙◌, subst, append_assoc, arith}
use Rattle.std.proofs.Math.Logic.{inl, inr}
use Rattle.std.proofs.Math.ListN.{length-take}
use Rattle.std.proofs.Math.Seq.{take-append_seam}
use Rattle.framing.specs.Checks.{has_marker_of}
use Rattle.framing.specs.Frames.{sof, ack, ending, normal_head, normal_frame, extended_head, extended_frame, length_bytes, head_of, frame_of}
use Rattle.errors.specs.Choice.{pick, same, same_self, same_is}
use Rattle.framing.specs.Lists.{starts, Bytes}
use Rattle.framing.specs.Names.{len_offset, first_len_offset, second_len_offset, normal_start, extended_start, ending_size, normal_overhead, extended_overhead, longest_normal, longest_extended, shortest_extended, ack_size}
use Rattle.framing.specs.Parse.{is_error_of, extends, length_at, normal_at, extended_at, normal_of, extended_of, data_of, parse_of}
use Rattle.framing.specs.Starts.{starts_whole, starts_split}
use Rattle.framing.specs.Valid.{both_left, both_right, length_framed, length_extended, marker_normal}
use Rattle.framing.specs.declared.FrameFormat.{FrameFormat}
use Rattle.framing.specs.declared.FrameType.{FrameType}
use Rattle.framing.specs.declared.FrameType.TheVariants.{Ack, Error, Data}
use Rattle.framing.specs.declared.LengthEncoding.{LengthEncoding}
use Rattle.framing.specs.declared.LengthEncoding.TheVariants.{Normal, ExtendedLittleEndian, NormalOrExtendedBigEndian}

-- The frames of a length form with the payload q, and where the payload starts in each: the normal frame, and where the form has
-- extended frames the extended one, of any length that it can carry.
abbrev pub Carries : LengthEncoding → List ℕ → List ℕ → ℕ → Type 0
Carries e q frame start =
    ((frame ≡ normal_frame q) × (start ≡ normal_start) × (length q ≤ longest_normal))
    ⊎ ((frame ≡ extended_frame e q) × (start ≡ extended_start) × (length q ≤ longest_extended) × (extends e ≡ true))

-- The packet p starts with a frame of m bytes whose payload is the n bytes from s on.
pub record StartsWithFrame (e : LengthEncoding) (p : List ℕ) (s n m : ℕ) : Type 0 where
  pub payload : List ℕ
  pub frame : List ℕ
  pub behind : List ℕ
  pub whole : p ≡ frame ++ behind
  pub carries : Carries e payload frame s
  pub len : n ≡ length payload
  pub size : m ≡ length frame

-- what is neither of the two fixed frames under a format
pub record Open (f : FrameFormat) (p : List ℕ) : Type 0 where
  pub no_ack : same ack p ≡ false
  pub no_error : is_error_of f.error p ≡ false

-- ---- a frame at the start gives its answer

cut : (q r : List ℕ) → take (length q) (q ++ ending q ++ r) ≡ q
cut q r = rw append_assoc (take-append_seam q (ending q ++ r))

normal_at_lem : (q r : List ℕ) → normal_at (normal_frame q ++ r) ≡ true
unfolding normal_at normal_frame
normal_at_lem q r = rw (cut q r) (starts_whole (normal_frame q) r)

length-at : (e : LengthEncoding) (q r : List ℕ) → length q ≤ longest_extended → length_at e (extended_frame e q ++ r) ≡ length q
unfolding length_at extended_frame length_bytes
length-at Normal q r h = omega arith
length-at ExtendedLittleEndian q r h = omega arith
length-at NormalOrExtendedBigEndian q r h = omega arith

behind-head : (e : LengthEncoding) (q r : List ℕ) → drop extended_start (extended_frame e q ++ r) ≡ q ++ ending q ++ r
unfolding extended_frame length_bytes
behind-head Normal q r = refl
behind-head ExtendedLittleEndian q r = refl
behind-head NormalOrExtendedBigEndian q r = refl

extended_at_lem : (e : LengthEncoding) (q r : List ℕ) → length q ≤ longest_extended → extends e ≡ true → extended_at e (extended_frame e q ++ r) ≡ true
unfolding extended_at
extended_at_lem e q r h x = rw (x, length-at e q r h, behind-head e q r, cut q r) (starts_whole (extended_frame e q) r)

has_marker : (e : LengthEncoding) (q r : List ℕ) → has_marker_of (extended_frame e q ++ r) ≡ true
unfolding has_marker_of extended_frame
has_marker e q r = refl

normal_sof : (q r : List ℕ) → starts sof (normal_frame q ++ r) ≡ true
unfolding starts normal_frame
normal_sof q r = refl

extended_sof : (e : LengthEncoding) (q r : List ℕ) → starts sof (extended_frame e q ++ r) ≡ true
unfolding starts extended_frame
extended_sof e q r = refl

normal_data : (e : LengthEncoding) (q r : List ℕ) → data_of e (normal_frame q ++ r) ≡ Some (Data normal_start (length q) (length q + normal_overhead))
unfolding data_of normal_of pick normal_frame
normal_data e q r = rw (normal_at_lem q r)

extended_data : (e : LengthEncoding) (q r : List ℕ) → Bytes (extended_frame e q ++ r) → length q ≤ longest_extended → extends e ≡ true
    → data_of e (extended_frame e q ++ r) ≡ Some (Data extended_start (length q) (length q + extended_overhead))
unfolding data_of extended_of pick
extended_data e q r bytes h x = rw (marker_normal (extended_frame e q ++ r) bytes (extended_sof e q r) (has_marker e q r), extended_at_lem e q r h x, length-at e q r h)

length_normal : (q : List ℕ) → length (normal_frame q) ≡ length q + normal_overhead
unfolding normal_frame
length_normal q = length_framed (normal_head (length q)) q ∙ sum (length q)
  where
    sum : (n : ℕ) → normal_start + n + ending_size ≡ n + normal_overhead
    sum n = omega arith

length_long : (e : LengthEncoding) (q : List ℕ) → length (extended_frame e q) ≡ length q + extended_overhead
length_long e q = length_extended e q ∙ sum (length q)
  where
    sum : (n : ℕ) → extended_start + n + ending_size ≡ n + extended_overhead
    sum n = omega arith

same_data : {s s' n n' m m' : ℕ} → s ≡ s' → n ≡ n' → m ≡ m' → Some (Data s n m) ≡ Some (Data s' n' m')
same_data p q r = cc

data_of_lem : (e : LengthEncoding) (p : List ℕ) (s n m : ℕ) → Bytes p → StartsWithFrame e p s n m → (starts sof p ≡ true) × (data_of e p ≡ Some (Data s n m))
data_of_lem e p s n m bytes w = go w.carries
  where
    q : List ℕ
    q = w.payload

    go : Carries e q w.frame s → (starts sof p ≡ true) × (data_of e p ≡ Some (Data s n m))
    go (inl c) =
        let x : p ≡ normal_frame q ++ w.behind = w.whole ∙ ap (λ f. f ++ w.behind) c.0 in
        let size : length q + normal_overhead ≡ m = sym (w.size ∙ ap length c.0 ∙ length_normal q) in
        subst (λ l. (starts sof l ≡ true) × (data_of e l ≡ Some (Data s n m))) (sym x)
        (normal_sof q w.behind, normal_data e q w.behind ∙ same_data (sym c.1) (sym w.len) size)
    go (inr c) =
        let x : p ≡ extended_frame e q ++ w.behind = w.whole ∙ ap (λ f. f ++ w.behind) c.0 in
        let size : length q + extended_overhead ≡ m = sym (w.size ∙ ap length c.0 ∙ length_long e q) in
        subst (λ l. (starts sof l ≡ true) × (data_of e l ≡ Some (Data s n m))) (sym x)
        (extended_sof e q w.behind, extended_data e q w.behind (subst Bytes x bytes) c.2 c.3 ∙ same_data (sym c.1) (sym w.len) size)

-- ---- an answer shows its frame

third : (q r : List ℕ) → slice_index (normal_frame q ++ r) len_offset ≡ length q
unfolding normal_frame
third q r = refl

module _ (e : LengthEncoding) (p : List ℕ) (bytes : Bytes p) where
  normal-shows : normal_at p ≡ true → StartsWithFrame e p normal_start (slice_index p len_offset) (slice_index p len_offset + normal_overhead)
  unfolding normal_at
  normal-shows h =
      let q : List ℕ = take (slice_index p len_offset) (drop normal_start p) in
      let x : p ≡ normal_frame q ++ drop (length (normal_frame q)) p = starts_split (normal_frame q) p h in
      let n : slice_index_or p len_offset 0 ≡ length q = ap (λ l. slice_index l len_offset) x ∙ third q (drop (length (normal_frame q)) p) in
      record {
        payload = q;
        frame = normal_frame q;
        behind = drop (length (normal_frame q)) p;
        whole = x;
        carries = inl (refl, refl, omega (arith, bytes len_offset));
        len = n;
        size = ap (λ k. k + normal_overhead) n ∙ sym (length_normal q);
      }

  length_most : (d : LengthEncoding) → length_at d p ≤ longest_extended
  unfolding length_at
  length_most Normal = omega (arith, bytes first_len_offset, bytes second_len_offset)
  length_most ExtendedLittleEndian = omega (arith, bytes first_len_offset, bytes second_len_offset)
  length_most NormalOrExtendedBigEndian = omega (arith, bytes first_len_offset, bytes second_len_offset)

  extended-shows : extended_at e p ≡ true → StartsWithFrame e p extended_start (length_at e p) (length_at e p + extended_overhead)
  unfolding extended_at
  extended-shows h =
      let q : List ℕ = take (length_at e p) (drop extended_start p) in
      let t = both_right (extends e) (starts (extended_frame e q) p) h in
      let x : p ≡ extended_frame e q ++ drop (length (extended_frame e q)) p = starts_split (extended_frame e q) p t in
      let most : length q ≤ longest_extended = omega (arith, length-take (length_at e p) (drop extended_start p), length_most e) in
      let n : length_at e p ≡ length q = ap (λ l. length_at e l) x ∙ length-at e q (drop (length (extended_frame e q)) p) most in
      record {
        payload = q;
        frame = extended_frame e q;
        behind = drop (length (extended_frame e q)) p;
        whole = x;
        carries = inr (refl, refl, most, both_left (extends e) (starts (extended_frame e q) p) h);
        len = n;
        size = ap (λ k. k + extended_overhead) n ∙ sym (length_long e q);
      }

  as-known : {s n m s' n' m' : ℕ} → StartsWithFrame e p s n m → Some (Data s n m) ≡ Some (Data s' n' m') → StartsWithFrame e p s' n' m'
  as-known {s} {n} {m} {s'} {n'} {m'} w x =
      let a : s ≡ s' = cc in
      let b : n ≡ n' = cc in
      let c : m ≡ m' = cc in
      subst₃ (λ i j k. StartsWithFrame e p i j k) a b c w

  no_data_lem : {s n m : ℕ} → None ≢ Some (Data s n m)
  no_data_lem x = let z : ◌≡◌ {A = ℕ} 0 1 = cc in omega arith

  data-shows : (s n m : ℕ) → data_of e p ≡ Some (Data s n m) → StartsWithFrame e p s n m
  unfolding data_of normal_of extended_of pick
  data-shows s n m = go (normal_at p) (extended_at e p) refl refl
    where
      go : (t u : Bool) → normal_at p ≡ t → extended_at e p ≡ u
          → pick t (pick t (Some (Data normal_start (slice_index p len_offset) (slice_index p len_offset + normal_overhead))) None) (pick u (Some (Data extended_start (length_at e p) (length_at e p + extended_overhead))) None) ≡ Some (Data s n m)
          → StartsWithFrame e p s n m
      go true u a b x = as-known (normal-shows a) x
      go false true a b x = as-known (extended-shows b) x
      go false false a b x = absurd (no_data_lem x)

-- ---- the whole packet

sof-ack : starts sof ack ≡ true
unfolding starts
sof-ack = refl

-- a number for each kind of answer, to tell them apart
abbrev kind : Option FrameType → ℕ
kind (Some (Ack n)) = 0
kind (Some (Error n)) = 1
kind (Some (Data s n m)) = 2
kind None = 3

data_kind : (e : LengthEncoding) (p : List ℕ) → 2 ≤ kind (data_of e p)
unfolding data_of normal_of extended_of pick
data_kind e p = go (normal_at p) (extended_at e p)
  where
    go : (t u : Bool) → 2 ≤ kind (pick t (pick t (Some (Data normal_start (slice_index p len_offset) (slice_index p len_offset + normal_overhead))) None) (pick u (Some (Data extended_start (length_at e p) (length_at e p + extended_overhead))) None))
    go true u = omega arith
    go false true = omega arith
    go false false = omega arith

-- The tests of `parse_of` in turn: the start bytes, Ack, the error form's own test.
module _ (f : FrameFormat) (p : List ℕ) where
  abbrev answer : Bool → Bool → Bool → Option FrameType
  answer t u v = pick t (pick u (Some (Ack ack_size)) (pick v (Some (Error (length p))) (data_of f.length p))) None

  is-answer : parse_of f p ≡ answer (starts sof p) (same ack p) (is_error_of f.error p)
  unfolding parse_of
  is-answer = refl

  answered : (t u v : Bool) → starts sof p ≡ t → same ack p ≡ u → is_error_of f.error p ≡ v → parse_of f p ≡ answer t u v
  answered t u v a b c = is-answer ∙ rw (a, b, c)

  ack-shows : (n : ℕ) (t u v : Bool) → same ack p ≡ u → answer t u v ≡ Some (Ack n) → (p ≡ ack) × (n ≡ ack_size)
  unfolding pick
  ack-shows n true true v s x = (sym (same_is ack p s), cc)
  ack-shows n true false true s x = absurd (omega (arith, ap kind x))
  ack-shows n true false false s x = absurd (omega (arith, ap kind x, data_kind f.length p))
  ack-shows n false u v s x = absurd (omega (arith, ap kind x))

  error-shows : (n : ℕ) (t u v : Bool) → starts sof p ≡ t → same ack p ≡ u → is_error_of f.error p ≡ v → answer t u v ≡ Some (Error n)
      → (starts sof p ≡ true) × (same ack p ≡ false) × (is_error_of f.error p ≡ true) × (n ≡ length p)
  unfolding pick
  error-shows n true true v a b c x = absurd (omega (arith, ap kind x))
  error-shows n true false true a b c x = (a, b, c, cc)
  error-shows n true false false a b c x = absurd (omega (arith, ap kind x, data_kind f.length p))
  error-shows n false u v a b c x = absurd (omega (arith, ap kind x))

  frame-shows : Bytes p → (s n m : ℕ) (t u v : Bool) → same ack p ≡ u → is_error_of f.error p ≡ v → answer t u v ≡ Some (Data s n m)
      → Open f p × StartsWithFrame f.length p s n m
  unfolding pick
  frame-shows bytes s n m true true v b c x = absurd (omega (arith, ap kind x))
  frame-shows bytes s n m true false true b c x = absurd (omega (arith, ap kind x))
  frame-shows bytes s n m true false false b c x = (record { no_ack = b; no_error = c }, data-shows f.length p bytes s n m x)
  frame-shows bytes s n m false u v b c x = absurd (omega (arith, ap kind x))

  -- Ack: exactly the packet 00 00 FF 00 FF 00.
  pub ack_exact : (n : ℕ) → (parse_of f p ≡ Some (Ack n)) ↔ ((p ≡ ack) × (n ≡ ack_size))
  unfolding pick
  ack_exact n = (
    λ x. ack-shows n (starts sof p) (same ack p) (is_error_of f.error p) refl (sym is-answer ∙ x),
    λ h. answered true true (is_error_of f.error p) (ap (starts sof) h.0 ∙ sof-ack) (ap (same ack) h.0 ∙ same_self ack) refl ∙ ap (λ k. Some (Ack k)) (sym h.1),
  )

  -- Error: the start bytes, no Ack, and the error form's own test; of the whole packet's length.
  pub error_exact : (n : ℕ)
      → (parse_of f p ≡ Some (Error n)) ↔ ((starts sof p ≡ true) × (same ack p ≡ false) × (is_error_of f.error p ≡ true) × (n ≡ length p))
  unfolding pick
  error_exact n = (
    λ x. error-shows n (starts sof p) (same ack p) (is_error_of f.error p) refl refl refl (sym is-answer ∙ x),
    λ h. answered true false true h.0 h.1 h.2 ∙ ap (λ k. Some (Error k)) (sym h.3),
  )

  -- Data: neither of these, and a frame at the packet's start.
  pub data_exact : Bytes p → (s n m : ℕ) → (parse_of f p ≡ Some (Data s n m)) ↔ (Open f p × StartsWithFrame f.length p s n m)
  unfolding pick
  data_exact bytes s n m = (
    λ x. frame-shows bytes s n m (starts sof p) (same ack p) (is_error_of f.error p) refl refl (sym is-answer ∙ x),
    λ h. let d = data_of_lem f.length p s n m bytes h.1 in answered true false false d.0 h.0.no_ack h.0.no_error ∙ d.1,
  )

pub sof-frame : (e : LengthEncoding) (q : List ℕ) → starts sof (frame_of e q) ≡ true
unfolding starts frame_of head_of pick
sof-frame Normal q = refl
sof-frame ExtendedLittleEndian q = refl
sof-frame NormalOrExtendedBigEndian q = go (nat_lt (length q) shortest_extended)
  where
    go : (t : Bool) → starts sof (pick t (normal_head (length q)) (extended_head (length_bytes NormalOrExtendedBigEndian (length q))) ++ q ++ ending q) ≡ true
    go true = refl
    go false = refl
