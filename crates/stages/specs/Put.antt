-- Lists of bytes that are put at the start of an array.
use Rattle.std.specs.Prelude.{◌≡◌, refl, List, [], ◌∷◌, ◌++◌, ℕ, zero, suc, ◌+◌, ◌-◌, ◌≤◌, ◌<◌, min, length, take, drop, get_or}
use Rattle.std.specs.List.{flat_map}
use Rattle.std.proofs.Common.{Bor, sym, ap, ap₂, ◌∙◌, subst, append_assoc, append-nil, add-one, take_all, arith, length-drop, length-append, length-take, take-append-drop, drop-drop, length-take-le, take-take}
use Rattle.std.proofs.lemmas.Grind.{flat_map-append}
use Rattle.std.proofs.lemmas.List.Folds.{length-flat_map-take}
use borrow.Rule.Slice.PartMut.{put_mid}
use Rattle.std.proofs.Math.Seq.{take-length, take-append_seam, drop-append-add}
use Rattle.framing.specs.Copied.{copied}
use Rattle.protocol.specs.Starts.{data_limit}

-- bytes at the start of a list
abbrev pub put : List ℕ → List ℕ → List ℕ
put bytes b = bytes ++ drop (length bytes) b

-- n bytes, the list l, stand at the start of b, which is c otherwise
pub record Puts (b : List ℕ) (n : ℕ) (l c : List ℕ) : Type 0 where
  pub count : n ≡ length l
  pub is : b ≡ put l c

-- a part was put behind the first len bytes of t₀, which is t₁ now, and r is their number then; or it did not fit
pub record AppendsPart (part t₀ t₁ : List ℕ) (len r : ℕ) : Type 0 where
  pub count : len + length part ≤ length t₀ → r ≡ len + length part
  pub puts : (l c : List ℕ) → len + length part ≤ length t₀ → Puts t₀ len l c → Puts t₁ r (l ++ part) c
  pub left : length t₀ < len + length part → (r ≡ len) × (t₁ ≡ t₀)

-- lists, one behind the other
abbrev pub joined : List (Bor (List ℕ)) → List ℕ
joined [] = []
joined (l ∷ []) = l.now
joined (l ∷ m ∷ r) = l.now ++ joined (m ∷ r)

-- the list l has been put at the start of c₀, which is c₁ now, and n is its length; one over the limit of 512 has not, and n is over it too
pub record Joins (n : ℕ) (c₀ c₁ l : List ℕ) : Type 0 where
  pub within : length l ≤ data_limit → Puts c₁ n l c₀
  pub over : data_limit < length l → (data_limit < n) × (c₁ ≡ c₀)

-- ---- laws

-- a part copied behind the bytes that stand at a list's start
pub appended : (b part l c : List ℕ) (n : ℕ) (piece : List ℕ) → n + length part ≤ length b → Puts b n l c
    → piece ≡ take (length part) part ++ drop (length part) (take (length b - n) (drop n b))
    → Puts (put_mid n (length b - n) b piece) (n + length part) (l ++ part) c
appended b part l c n piece room h e =
    let front : take n b ≡ l = ap₂ take h.count h.is ∙ take-append_seam l (drop (length l) c) in
    let back : drop (n + length part) b ≡ drop (length l + length part) c
    = ap₂ (λ k x. drop (k + length part) x) h.count h.is ∙ drop-append-add l (drop (length l) c) (length part) ∙ drop-drop (length part) (length l) c in
    record {
      count = ap (λ k. k + length part) h.count ∙ sym (length-append l part);
      is =
          copied b part n room piece e
          ∙ ap₂ (λ x y. x ++ (part ++ y)) front back
          ∙ sym (append_assoc l part (drop (length l + length part) c))
          ∙ ap (λ k. l ++ part ++ drop k c) (sym (length-append l part));
    }

-- four lists, one behind the other
pub laid : (b c k h p q t : List ℕ) (n : ℕ) → p ≡ q → Puts b n (((k ++ h) ++ p) ++ t) c → Puts b n (k ++ (h ++ (q ++ t))) c
laid b c k h p q t n e u =
    subst (λ l. Puts b n l c) (ap (λ x. ((k ++ h) ++ x) ++ t) e ∙ append_assoc (k ++ h) q t ∙ append_assoc k h (q ++ t)) u

-- nothing was put yet, or bytes that stand there already
pub puts_none : (b : List ℕ) → Puts b 0 [] b
puts_none b = record { count = refl; is = refl }

pub puts_kept : (b : List ℕ) (k : ℕ) → k ≤ length b → Puts b k (take k b) b
puts_kept b k h =
    let n : length (take k b) ≡ k = length-take-le k b h in
    record { count = sym n; is = sym (ap (λ j. take k b ++ drop j b) n ∙ take-append-drop k b) }

-- the same of bytes that are kept of a part in use
pub puts_found : (b : List ℕ) (n k : ℕ) → k ≤ length (take n b) → Puts b k (take k (take n b)) b
puts_found b n k h =
    let in_use : length (take n b) ≤ n = rw (length-take n b) (omega arith) in
    rw (take-take k n b (omega arith)) (puts_kept b k (omega (arith, length-take n b)))

-- bytes that were copied to the start of a list
pub copied_start : (bytes b b₁ : List ℕ) → b₁ ≡ take (length bytes) bytes ++ drop (length bytes) b → b₁ ≡ put bytes b
copied_start bytes b b₁ e = e ∙ ap (λ l. l ++ drop (length bytes) b) (take-length bytes)

-- bytes put at the start of a list are the first of it
pub take_put : (bytes l : List ℕ) → take (length bytes) (put bytes l) ≡ bytes
take_put bytes l = take-append_seam bytes (drop (length bytes) l)

module _ (n : ℕ) (c₀ c₁ l : List ℕ) where
  pub joins_within : length l ≤ data_limit → Puts c₁ n l c₀ → Joins n c₀ c₁ l
  joins_within h p = record { within = λ _. p; over = λ k. absurd (omega arith) }

  pub joins_over : data_limit < length l → data_limit < n → c₁ ≡ c₀ → Joins n c₀ c₁ l
  joins_over h k e = record { within = λ m. absurd (omega arith); over = λ _. (k, e) }

-- ---- lists, one behind the other

pub joined_flat : (ls : List (Bor (List ℕ))) → joined ls ≡ flat_map (λ l. l.now) ls
joined_flat [] = refl
joined_flat (l ∷ []) = sym (append-nil l.now)
joined_flat (l ∷ m ∷ r) = ap (λ x. l.now ++ x) (joined_flat (m ∷ r))

-- one list more
pub flat_next : (ls : List (Bor (List ℕ))) (i : ℕ) (d : Bor (List ℕ)) → i < length ls
    → flat_map (λ l. l.now) (take i ls) ++ (get_or ls i d).now ≡ flat_map (λ l. l.now) (take (i + 1) ls)
flat_next ls i d h = rw add-one (go ls i h)
  where
    go : (ls : List (Bor (List ℕ))) (i : ℕ) → i < length ls → flat_map (λ l. l.now) (take i ls) ++ (get_or ls i d).now ≡ flat_map (λ l. l.now) (take (suc i) ls)
    go [] i h = absurd (omega arith)
    go (l ∷ ls) zero h = sym (append-nil l.now)
    go (l ∷ ls) (suc i) h = append_assoc l.now (flat_map (λ l. l.now) (take i ls)) (get_or ls i d).now ∙ ap (λ x. l.now ++ x) (go ls i (omega arith))

-- all of them
pub flat_all : (ls : List (Bor (List ℕ))) (i : ℕ) → length ls ≤ i → flat_map (λ l. l.now) (take i ls) ≡ joined ls
flat_all ls i h = ap (flat_map (λ l. l.now)) (take_all i ls h) ∙ sym (joined_flat ls)

-- so many bytes have those that were taken, and the next
pub flat_within : (ls : List (Bor (List ℕ))) (i : ℕ) (d : Bor (List ℕ)) → i < length ls
    → length (flat_map (λ l. l.now) (take i ls)) + length (get_or ls i d).now ≤ length (joined ls)
flat_within ls i d h = rw (joined_flat ls) (length-flat_map-take (λ (l : Bor (List ℕ)). l.now) ls i d h)

-- the length stays
pub puts_length : (b : List ℕ) (n : ℕ) (l c : List ℕ) → length l ≤ length c → Puts b n l c → length b ≡ length c
puts_length b n l c h p = ap length p.is ∙ length-append l (drop (length l) c) ∙ rw (length-drop (length l) c) (omega arith)

-- one list more was put
module _ (ls : List (Bor (List ℕ))) (i : ℕ) (d : Bor (List ℕ)) (h : i < length ls) where
  pub put_next : (t₀ t₁ c : List ℕ) (n r : ℕ) → length (joined ls) ≤ length c → AppendsPart (get_or ls i d).now t₀ t₁ n r
      → Puts t₀ n (flat_map (λ l. l.now) (take i ls)) c → Puts t₁ r (flat_map (λ l. l.now) (take (i + 1) ls)) c
  put_next t₀ t₁ c n r few a p =
      let room = flat_within ls i d h in
      let same = puts_length t₀ n _ c (omega (arith, room, few)) p in
      subst (λ l. Puts t₁ r l c) (flat_next ls i d h) (a.puts _ c (omega (arith, room, few, same, p.count)) p)

-- the sum of lengths, where it is a number of the machine's
pub longer : (ls : List (Bor (List ℕ))) (l : Bor (List ℕ)) (m n : ℕ) → n ≡ min (length (flat_map (λ p. p.now) ls)) m
    → min (n + length l.now) m ≡ min (length (flat_map (λ p. p.now) (ls ++ l ∷ []))) m
longer ls l m n e =
    let s : length (flat_map (λ p. p.now) (ls ++ l ∷ [])) ≡ length (flat_map (λ p. p.now) ls) + length l.now =
    ap length (flat_map-append (λ p. p.now) ls (l ∷ []) ∙ ap (λ x. flat_map (λ p. p.now) ls ++ x) (append-nil l.now)) ∙ length-append (flat_map (λ p. p.now) ls) l.now in
    omega (arith, e, s)
