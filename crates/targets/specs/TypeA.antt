-- Type A's target data in a list, by the PN532 user manual (InListPassiveTarget), behind the target's number: SENS_RES, SEL_RES,
-- NFCID1Length, NFCID1t, which is the UID, and the ATS, where the target has one. Proved: `is_target_data` takes exactly these bytes.
use Rattle.std.specs.Prelude.{Bool, true, false, ◌||◌, List, [], ◌∷◌, ◌++◌, ◌≡◌, refl, ℕ, suc, ◌+◌, ◌/◌, ◌%◌, ◌≤◌, eqb, ltb, length, take, drop, get_or}
use Rattle.std.proofs.Common.{sym, ap, subst, ◌∙◌, arith, eqb-true, eq-eqb, le-ltb, ltb-false, length-append, take-append-drop, get_or-append-add, length-take-le}
use Rattle.std.proofs.Math.Seq.{drop-append_seam, drop-append-add}
use Rattle.errors.specs.Choice.{pick}

-- An ATS, or none: its first byte, TL, is its own length (ISO/IEC 14443-4).
pub data Ats : List ℕ → Type 0 where
  absent : Ats []
  present : (bytes : List ℕ) → Ats (suc (length bytes) ∷ bytes)

-- The lengths of a UID (ISO/IEC 14443-3).
pub data UidLength : ℕ → Type 0 where
  single : UidLength 4
  double : UidLength 7
  triple : UidLength 10

-- Target data with this UID and this ATS.
pub data TargetData : List ℕ → List ℕ → List ℕ → Type 0 where
  target_data : (first second selRes : ℕ) (uid ats : List ℕ) → UidLength (length uid) → Ats ats
      → TargetData (first ∷ second ∷ selRes ∷ length uid ∷ (uid ++ ats)) uid ats

-- SEL_RES of a Type 2 tag: its bits 5 and 6 are 0
abbrev pub is_type2 : ℕ → Bool
is_type2 selRes = eqb (selRes / 32 % 4) 0

-- where target data has NFCID1Length, and where the UID begins
abbrev pub nfcid1_length_offset : ℕ
nfcid1_length_offset = 3

abbrev pub nfcid1_offset : ℕ
nfcid1_offset = 4

-- ---- target data as a test

unfoldable pub is_uid_length : ℕ → Bool
is_uid_length n = eqb n 4 || (eqb n 7 || eqb n 10)

-- the first byte is the number of bytes; there may be none
unfoldable pub is_ats : List ℕ → Bool
is_ats bytes = eqb (length bytes) (get_or bytes 0 0)

unfoldable pub is_target_data : List ℕ → Bool
is_target_data bytes =
    pick (ltb (length bytes) nfcid1_offset) false
    (pick (is_uid_length (get_or bytes nfcid1_length_offset 0))
    (pick (ltb (length bytes) (nfcid1_offset + get_or bytes nfcid1_length_offset 0)) false (is_ats (drop (nfcid1_offset + get_or bytes nfcid1_length_offset 0) bytes)))
    false)

-- ---- both ways

false_true : false ≡ true → ⊥
false_true h = let z : ◌≡◌ {A = ℕ} 0 1 = cc in omega arith

length_taken : (n : ℕ) → UidLength n → is_uid_length n ≡ true
unfolding is_uid_length
length_taken n single = refl
length_taken n double = refl
length_taken n triple = refl

length-only : (n : ℕ) → is_uid_length n ≡ true → UidLength n
unfolding is_uid_length
length-only n h = go (eqb n 4) (eqb n 7) (eqb n 10) refl refl refl h
  where
    go : (a b c : Bool) → eqb n 4 ≡ a → eqb n 7 ≡ b → eqb n 10 ≡ c → (a || (b || c)) ≡ true → UidLength n
    go true b c p q r h = rw (eqb-true n 4 p) single
    go false true c p q r h = rw (eqb-true n 7 q) double
    go false false true p q r h = rw (eqb-true n 10 r) triple
    go false false false p q r h = absurd (false_true h)

ats_taken : {bytes : List ℕ} → Ats bytes → is_ats bytes ≡ true
unfolding is_ats
ats_taken absent = refl
ats_taken (present bytes) = eq-eqb (suc (length bytes)) (suc (length bytes)) refl

ats-only : (bytes : List ℕ) → is_ats bytes ≡ true → Ats bytes
unfolding is_ats
ats-only [] h = absent
ats-only (n ∷ bytes) h = rw (sym (eqb-true (suc (length bytes)) n h)) (present bytes)

-- a UID and an ATS that these bytes are target data with
pub record Split (bytes : List ℕ) : Type 0 where
  pub uid : List ℕ
  pub ats : List ℕ
  pub is : TargetData bytes uid ats

-- what stands behind the UID
behind-uid : (s t q n : ℕ) (uid ats : List ℕ) → drop (nfcid1_offset + length uid) (s ∷ t ∷ q ∷ n ∷ (uid ++ ats)) ≡ ats
behind-uid s t q n uid ats = drop-append-add (s ∷ t ∷ q ∷ n ∷ []) (uid ++ ats) (length uid) ∙ drop-append_seam uid ats

pub target_taken : {bytes uid ats : List ℕ} → TargetData bytes uid ats → is_target_data bytes ≡ true
unfolding is_target_data pick
target_taken (target_data s t q uid ats u a) =
    let bytes : List ℕ = s ∷ t ∷ q ∷ length uid ∷ (uid ++ ats) in
    let l : length (uid ++ ats) ≡ length uid + length ats = length-append uid ats in
    rw (le-ltb (length bytes) nfcid1_offset (omega arith), length_taken (length uid) u, le-ltb (length bytes) (nfcid1_offset + length uid) (omega arith), behind-uid s t q (length uid) uid ats)
    (ats_taken a)

pub target_only : (bytes : List ℕ) → is_target_data bytes ≡ true → Split bytes
unfolding is_target_data pick
target_only [] h = absurd (false_true h)
target_only (s ∷ []) h = absurd (false_true h)
target_only (s ∷ t ∷ []) h = absurd (false_true h)
target_only (s ∷ t ∷ q ∷ []) h = absurd (false_true h)
target_only (s ∷ t ∷ q ∷ n ∷ l) h = go (is_uid_length n) (ltb (length bytes) (nfcid1_offset + n)) refl refl (rw (le-ltb (length bytes) nfcid1_offset (omega arith)) at h)
  where
    bytes : List ℕ
    bytes = s ∷ t ∷ q ∷ n ∷ l

    fitting : is_uid_length n ≡ true → n ≤ length l → is_ats (drop (nfcid1_offset + n) bytes) ≡ true → Split bytes
    fitting u f a =
        let e : length (take n l) ≡ n = length-take-le n l f in
        let d : drop (nfcid1_offset + n) bytes ≡ drop n l = drop-append-add (s ∷ t ∷ q ∷ n ∷ []) l n in
        record {
          uid = take n l;
          ats = drop n l;
          is = subst (λ k. TargetData k (take n l) (drop n l)) (ap (λ k. s ∷ t ∷ q ∷ k) (ap (λ k. k ∷ (take n l ++ drop n l)) e ∙ ap (λ k. n ∷ k) (take-append-drop n l)))
              (target_data s t q (take n l) (drop n l) (rw e (length-only n u)) (ats-only (drop n l) (rw d at a)));
        }

    go : (u f : Bool) → is_uid_length n ≡ u → ltb (length bytes) (nfcid1_offset + n) ≡ f → pick u (pick f false (is_ats (drop (nfcid1_offset + n) bytes))) false ≡ true → Split bytes
    go true true e g k = absurd (false_true k)
    go true false e g k = fitting e (omega (arith, ltb-false (length bytes) (nfcid1_offset + n) g)) k
    go false f e g k = absurd (false_true k)

-- ---- the lengths of its parts, where they stand: the UID's is byte 3, and the ATS's its first byte, 0 where there is none

behind-first : (uid ats : List ℕ) → get_or (uid ++ ats) (length uid) 0 ≡ get_or ats 0 0
behind-first uid ats = ap (λ k. get_or (uid ++ ats) k 0) (omega arith) ∙ get_or-append-add uid ats 0 0

ats-length : {bytes : List ℕ} → Ats bytes → get_or bytes 0 0 ≡ length bytes
ats-length absent = refl
ats-length (present bytes) = refl

pub uid-length-at : {bytes uid ats : List ℕ} → TargetData bytes uid ats → get_or bytes nfcid1_length_offset 0 ≡ length uid
uid-length-at (target_data s t q uid ats u a) = refl

pub ats-length-at : {bytes uid ats : List ℕ} → TargetData bytes uid ats → get_or bytes (nfcid1_offset + length uid) 0 ≡ length ats
ats-length-at (target_data s t q uid ats u a) =
    get_or-append-add (s ∷ t ∷ q ∷ length uid ∷ []) (uid ++ ats) (length uid) 0 ∙ (behind-first uid ats ∙ ats-length a)

pub target_long : {bytes uid ats : List ℕ} → TargetData bytes uid ats → nfcid1_offset ≤ length bytes
target_long (target_data s t q uid ats u a) = omega arith

-- the UID and the ATS are the bytes from byte 4 on
pub parts_at : {bytes uid ats : List ℕ} → TargetData bytes uid ats → drop nfcid1_offset bytes ≡ uid ++ ats
parts_at (target_data s t q uid ats u a) = refl

-- some target data: a UID of 4 bytes and no ATS, one of 7 bytes and an ATS of 5; and bytes that are none
pub examples : (is_target_data (0x00 ∷ 0x04 ∷ 0x08 ∷ 4 ∷ 0xA1 ∷ 0xB2 ∷ 0xC3 ∷ 0xD4 ∷ []) ≡ true)
    × (is_target_data (0x03 ∷ 0x44 ∷ 0x20 ∷ 7 ∷ 0x04 ∷ 0x41 ∷ 0x2B ∷ 0x12 ∷ 0x33 ∷ 0x44 ∷ 0x80 ∷ 5 ∷ 0x75 ∷ 0x77 ∷ 0x81 ∷ 0x02 ∷ []) ≡ true)
    × (is_target_data (0x00 ∷ 0x04 ∷ 0x08 ∷ 5 ∷ 0xA1 ∷ 0xB2 ∷ 0xC3 ∷ 0xD4 ∷ 0xE5 ∷ []) ≡ false)
    × (is_target_data (0x00 ∷ 0x04 ∷ 0x08 ∷ 4 ∷ 0xA1 ∷ 0xB2 ∷ 0xC3 ∷ []) ≡ false)
    × (is_target_data (0x00 ∷ 0x04 ∷ 0x20 ∷ 4 ∷ 0xA1 ∷ 0xB2 ∷ 0xC3 ∷ 0xD4 ∷ 2 ∷ []) ≡ false)
unfolding is_target_data is_uid_length is_ats pick
examples = (refl, refl, refl, refl, refl)
