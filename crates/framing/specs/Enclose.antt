-- Laws of what `build` writes.
use Rattle.std.specs.Prelude.{◌≡◌, ℕ, ◌+◌, ◌-◌, ◌≤◌, min, Bool, true, false, List, [], ◌∷◌, ◌++◌, length, take, drop, nat_lt, slice_set, Result, Ok, Err}
use Rattle.std.proofs.Math.Path.{refl, sym, ap}
use Rattle.std.proofs.Common.{ap₂, ◌∙◌, add_assoc, add-one, arith, length-set, length-append, length-drop, drop-drop, length-take-le}
use Rattle.std.proofs.Math.Numerals.{add-two}
use Rattle.std.proofs.lemmas.List.Edits.{sets-eq}
use Rattle.std.proofs.Math.Seq.{take-append-add, drop-append-add, drop-append_seam}
use borrow.Author.Tests.{ltb-false}
use Rattle.errors.specs.Refusals.{answered, refused, numbered, plain}
use Rattle.errors.specs.declared.Refusal.{Refusal}
use Rattle.errors.specs.declared.Refusal.TheVariants.{OverLong, ShortBuffer}
use Rattle.framing.specs.Build.{Left, left, build_of, put_frame, limit_of, place_of, enclosed}
use borrow.Rule.Slice.PartMut.{put_mid}
use Rattle.framing.specs.Copied.{copied, copied_two, copied_here, copied_behind}
use Rattle.framing.specs.Frames.{checksum_of, ending, frame_of, extended_head, head_of, data_start_of, longest, length_bytes}
use Rattle.errors.specs.Choice.{pick}
use Rattle.framing.specs.Names.{normal_start, extended_start, ending_size, longest_extended, shortest_extended}
use Rattle.framing.specs.declared.FrameFormat.{FrameFormat}
use Rattle.framing.specs.declared.LengthEncoding.{LengthEncoding}
use Rattle.framing.specs.declared.LengthEncoding.TheVariants.{Normal, ExtendedLittleEndian, NormalOrExtendedBigEndian}

pub length-head : (e : LengthEncoding) (n : ℕ) → length (head_of e n) ≡ data_start_of e n
unfolding head_of data_start_of pick length_bytes
length-head Normal n = refl
length-head ExtendedLittleEndian n = refl
length-head NormalOrExtendedBigEndian n = go (nat_lt n shortest_extended)
  where
    go : (t : Bool) → length (pick t (head_of Normal n) (extended_head (length_bytes NormalOrExtendedBigEndian n))) ≡ pick t normal_start extended_start
    go true = refl
    go false = refl

pub start-most : (e : LengthEncoding) (n : ℕ) → data_start_of e n ≤ extended_start
unfolding data_start_of pick
start-most Normal n = omega arith
start-most ExtendedLittleEndian n = omega arith
start-most NormalOrExtendedBigEndian n = go (nat_lt n shortest_extended)
  where
    go : (t : Bool) → pick t normal_start extended_start ≤ extended_start
    go true = omega arith
    go false = omega arith

pub longest-most : (e : LengthEncoding) → longest e ≤ longest_extended
longest-most Normal = omega arith
longest-most ExtendedLittleEndian = omega arith
longest-most NormalOrExtendedBigEndian = omega arith

-- A head, n bytes and their ending, written into a buffer that has the n bytes already.
module _ (h b : List ℕ) (n : ℕ) (room : length h + n + ending_size ≤ length b) where
  abbrev q : List ℕ
  q = take n (drop (length h) b)

  abbrev headed : List ℕ
  headed = h ++ drop (length h) b

  length-headed : length headed ≡ length b
  length-headed = length-append h (drop (length h) b) ∙ rw (length-drop (length h) b) (omega arith)

  front : take (length h + n) headed ≡ h ++ q
  front = take-append-add h (drop (length h) b) n

  back : drop (length h + n + ending_size) headed ≡ drop (length h + n + ending_size) b
  back =
      ap (λ k. drop k (h ++ drop (length h) b)) (add_assoc (length h) n ending_size)
      ∙ drop-append-add h (drop (length h) b) (n + ending_size)
      ∙ drop-drop (n + ending_size) (length h) b
      ∙ ap (λ k. drop k b) (sym (add_assoc (length h) n ending_size))

  pub written : (c : ℕ) → slice_set (slice_set headed (length h + n) c) (length h + n + 1) 0 ≡ h ++ q ++ (c ∷ 0 ∷ []) ++ drop (length h + n + ending_size) b
  written c =
      ap (λ k. slice_set (slice_set headed (length h + n) c) k 0) (add-one (length h + n))
      ∙ sets-eq (c ∷ 0 ∷ []) headed (length h + n) (rw length-headed room)
      ∙ ap₂ (λ x y. x ++ (c ∷ 0 ∷ []) ++ y) front back

-- what `enclose` leaves
pub enclose_done : (e : LengthEncoding) (n start c : ℕ) (b b₁ : List ℕ) → start ≡ data_start_of e n → b₁ ≡ head_of e n ++ drop (data_start_of e n) b
    → data_start_of e n + n + ending_size ≤ length b → c ≡ checksum_of (take (start + n - start) (drop start b₁))
    → slice_set (slice_set b₁ (start + n) c) (start + n + 1) 0 ≡ enclosed e n b
unfolding enclosed frame_of
enclose_done e n start c b b₁ s h room d =
    let H = head_of e n in
    let lh : length H ≡ data_start_of e n = length-head e n in
    let sl : start ≡ length H = s ∙ sym lh in
    let hl : b₁ ≡ H ++ drop (length H) b = h ∙ ap (λ k. H ++ drop k b) (sym lh) in
    let room' : length H + n + ending_size ≤ length b = rw lh room in
    let cut : drop start b₁ ≡ drop (length H) b = ap₂ (λ k l. drop k l) sl hl ∙ drop-append_seam H (drop (length H) b) in
    let count : start + n - start ≡ n = omega arith in
    let dq : c ≡ checksum_of (take n (drop (length H) b)) = d ∙ ap₂ (λ k l. checksum_of (take k l)) count cut in
    let lq : length (take n (drop (length H) b)) ≡ n = length-take-le n (drop (length H) b) (rw (length-drop (length H) b) (omega arith)) in
    rw (hl, sl, dq, ← lh, lq) (written H b n room' (checksum_of (take n (drop (length H) b))))

pub length-frame : (e : LengthEncoding) (p : List ℕ) → length (frame_of e p) ≡ data_start_of e (length p) + length p + ending_size
unfolding frame_of
length-frame e p =
    length-append (head_of e (length p) ++ p) (ending p)
    ∙ ap (λ k. k + ending_size) (length-append (head_of e (length p)) p ∙ ap (λ k. k + length p) (length-head e (length p)))

-- What `build` makes of the answers of `room_for`.
module _ (f : FrameFormat) where
  pub record Fits (n room start : ℕ) : Type 0 where
    pub here : start ≡ data_start_of f.length n
    pub short : n ≤ longest f.length
    pub inside : data_start_of f.length n + n + ending_size ≤ room

  pub place-fits : (n room start : ℕ) → Ok start ≡ place_of f n room → Fits n room start
  unfolding place_of limit_of pick
  place-fits n room start = go (nat_lt (min f.limit (longest f.length)) n) (nat_lt room (data_start_of f.length n + n + ending_size)) refl refl
    where
      go : (t u : Bool) → nat_lt (min f.limit (longest f.length)) n ≡ t → nat_lt room (data_start_of f.length n + n + ending_size) ≡ u
          → Ok start ≡ pick t (Err OverLong) (pick u (Err ShortBuffer) (Ok (data_start_of f.length n))) → Fits n room start
      go true u l m x = let z : ◌≡◌ {A = ℕ} 0 1 = cc in absurd (omega arith)
      go false true l m x = let z : ◌≡◌ {A = ℕ} 0 1 = cc in absurd (omega arith)
      go false false l m x = record {
        here = cc;
        short = omega (arith, ltb-false (min f.limit (longest f.length)) n l);
        inside = omega (arith, ltb-false room (data_start_of f.length n + n + ending_size) m);
      }

  module _ (p b : List ℕ) where
    abbrev s : ℕ
    s = data_start_of f.length (length p)

    abbrev done : ℕ → Left
    done n = left (answered n) (frame_of f.length p ++ drop n b)

    -- the place and the result go by the same two tests
    abbrev placed : Bool → Bool → Result ℕ Refusal
    placed t u = pick t (Err OverLong) (pick u (Err ShortBuffer) (Ok s))

    abbrev built : Bool → Bool → Left
    built t u = pick t (left (refused (plain 3)) b) (pick u (left (refused (plain 2)) b) (done (s + length p + ending_size)))

    is-built : build_of f p b ≡ built (nat_lt (limit_of f) (length p)) (nat_lt (length b) (s + length p + ending_size))
    unfolding build_of put_frame
    is-built = rw (length-frame f.length p)

    refused-built : (e : Refusal) (t u : Bool) → Err e ≡ placed t u → left (refused (numbered e)) b ≡ built t u
    unfolding pick
    refused-built e true u x = let q : e ≡ OverLong = cc in ap (λ r. left (refused (numbered r)) b) q
    refused-built e false true x = let q : e ≡ ShortBuffer = cc in ap (λ r. left (refused (numbered r)) b) q
    refused-built e false false x = cc

    pub build_refused : (e : Refusal) → Err e ≡ place_of f (length p) (length b) → left (refused (numbered e)) b ≡ build_of f p b
    unfolding place_of
    build_refused e x = refused-built e _ _ x ∙ sym is-built

    done-built : (start : ℕ) (t u : Bool) → Ok start ≡ placed t u → done (start + length p + ending_size) ≡ built t u
    unfolding pick
    done-built start true u x = cc
    done-built start false true x = cc
    done-built start false false x = let q : start ≡ s = cc in ap (λ k. done (k + length p + ending_size)) q

    pub build_done : (start : ℕ) (b₁ : List ℕ) → Ok start ≡ place_of f (length p) (length b)
        → b₁ ≡ frame_of f.length p ++ drop (start + length p + ending_size) b → left (answered (start + length p + ending_size)) b₁ ≡ build_of f p b
    unfolding place_of
    build_done start b₁ x w = ap (λ l. left (answered (start + length p + ending_size)) l) w ∙ done-built start _ _ x ∙ sym is-built

    -- a payload that was put to its place and enclosed
    pub build_placed : (start : ℕ) (b₁ b₂ : List ℕ) → Ok start ≡ place_of f (length p) (length b)
        → b₁ ≡ take start b ++ (p ++ drop (start + length p) b) → b₂ ≡ enclosed f.length (length p) b₁
        → left (answered (start + length p + ending_size)) b₂ ≡ build_of f p b
    unfolding enclosed
    build_placed start b₁ b₂ x e w =
        let k = place-fits (length p) (length b) start x in
        let room : start + length p ≤ length b = omega (arith, k.here, k.inside) in
        build_done start b₂ x (w ∙ rw (← k.here, e, copied_here b p start room, copied_behind b p start room ending_size))

    pub build_copied : (start : ℕ) (part b₂ : List ℕ) → Ok start ≡ place_of f (length p) (length b)
        → part ≡ take (length p) p ++ drop (length p) (take (length b - start) (drop start b))
        → b₂ ≡ enclosed f.length (length p) (put_mid start (length b - start) b part)
        → left (answered (start + length p + ending_size)) b₂ ≡ build_of f p b
    build_copied start part b₂ x e w =
        let k = place-fits (length p) (length b) start x in
        let room : start + length p ≤ length b = omega (arith, k.here, k.inside) in
        build_placed start _ b₂ x (copied b p start room part e) w

-- a payload of two bytes and a list, put to its place and enclosed
pub command_placed : (f : FrameFormat) (x y start : ℕ) (l b part b₂ : List ℕ) → Ok start ≡ place_of f (length l + 2) (length b)
    → part ≡ take (length l) l ++ drop (length l) (take (length (slice_set (slice_set b start x) (start + 1) y) - (start + 2)) (drop (start + 2) (slice_set (slice_set b start x) (start + 1) y)))
    → b₂ ≡ enclosed f.length (length l + 2)
    (put_mid (start + 2) (length (slice_set (slice_set b start x) (start + 1) y) - (start + 2)) (slice_set (slice_set b start x) (start + 1) y) part)
    → left (answered (start + (length l + 2) + ending_size)) b₂ ≡ build_of f (x ∷ y ∷ l) b
command_placed f x y start l b part b₂ p e w =
    let b₁ : List ℕ = slice_set (slice_set b start x) (start + 1) y in
    let same : length b₁ ≡ length b = length-set (slice_set b start x) (start + 1) y ∙ length-set b start x in
    let k = place-fits f (length l + 2) (length b) start p in
    let room : start + (length l + 2) ≤ length b = omega (arith, k.here, k.inside) in
    let two : length l + 2 ≡ length (x ∷ y ∷ l) = add-two (length l) in
    rw two
    (build_placed f (x ∷ y ∷ l) b start (put_mid (start + 2) (length b₁ - (start + 2)) b₁ part) b₂ (rw two at p)
    (rw same (copied_two b l start x y room part (rw same at e))) (rw two at w))
