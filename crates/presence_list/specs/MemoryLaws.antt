-- Laws of records that lie one behind the other.
use Rattle.std.specs.Prelude.{◌≡◌, refl, List, [], ◌∷◌, ◌++◌, ℕ, zero, suc, ◌+◌, ◌*◌, ◌-◌, ◌≤◌, ◌<◌, length, take, drop, get_or}
use Rattle.std.proofs.Common.{sym, ap, ap₂, ◌∙◌, append_assoc, arith, length-append, length-drop, take-append-drop, length-take-le, take_at, drop_at, drop-drop, take-add}
use Rattle.std.proofs.Math.Seq.{drop-append-add}
use Rattle.std.specs.Simd.{first_chunks}
use Rattle.presence_list.specs.Names.{record_size}
use Rattle.presence_list.specs.Memory.{pieces, concatenated, laid, Whole}

pub length-pieces : (n : ℕ) (b : List ℕ) → length (pieces n b) ≡ n
unfolding pieces
length-pieces zero b = refl
length-pieces (suc n) b = ap suc (length-pieces n (drop record_size b))

further : (i : ℕ) → record_size + record_size * i ≡ record_size * suc i
further i = omega arith

pub piece_at : (n i : ℕ) (b : List ℕ) → i < n → get_or (pieces n b) i [] ≡ take record_size (drop (record_size * i) b)
unfolding pieces
piece_at zero i b h = absurd (omega arith)
piece_at (suc n) zero b h = refl
piece_at (suc n) (suc i) b h =
    piece_at n i (drop record_size b) (omega arith) ∙ ap (take record_size) (drop-drop (record_size * i) record_size b ∙ ap (λ k. drop k b) (further i))

pub pieces_whole : (n : ℕ) (b : List ℕ) → record_size * n ≤ length b → Whole (pieces n b)
unfolding pieces
pieces_whole zero b h = tt
pieces_whole (suc n) b h = (length-take-le record_size b (omega arith), pieces_whole n (drop record_size b) (rw (length-drop record_size b) (omega arith)))

pub whole_at : (es : List (List ℕ)) (i : ℕ) → Whole es → i < length es → length (get_or es i []) ≡ record_size
whole_at [] i w h = absurd (omega arith)
whole_at (e ∷ es) zero w h = w.0
whole_at (e ∷ es) (suc i) w h = whole_at es i w.1 (omega arith)

pub whole_append : (es fs : List (List ℕ)) → Whole es → Whole fs → Whole (es ++ fs)
whole_append [] fs w v = v
whole_append (e ∷ es) fs w v = (w.0, whole_append es fs w.1 v)

pub whole_each : (es : List (List ℕ)) → ((i : ℕ) → i < length es → length (get_or es i []) ≡ record_size) → Whole es
whole_each [] h = tt
whole_each (e ∷ es) h = (h 0 (omega arith), whole_each es (λ i l. h (suc i) (omega arith)))

pub length-joined : (es : List (List ℕ)) → Whole es → length (concatenated es) ≡ record_size * length es
unfolding concatenated
length-joined [] w = refl
length-joined (e ∷ es) w = let r = length-joined es w.1 in let z = w.0 in rw (length-append e (concatenated es)) (omega arith)

pub joined-append : (es fs : List (List ℕ)) → concatenated (es ++ fs) ≡ concatenated es ++ concatenated fs
unfolding concatenated
joined-append [] fs = refl
joined-append (e ∷ es) fs = ap (λ (l : List ℕ). e ++ l) (joined-append es fs) ∙ sym (append_assoc e (concatenated es) (concatenated fs))

-- what was put together is taken apart again
pub pieces-joined : (es : List (List ℕ)) (t : List ℕ) → Whole es → pieces (length es) (concatenated es ++ t) ≡ es
unfolding concatenated pieces
pieces-joined [] t w = refl
pieces-joined (e ∷ es) t w =
    ap (λ (l : List ℕ). pieces (suc (length es)) l) (append_assoc e (concatenated es) t)
    ∙ ap₂ (λ (x : List ℕ) (l : List (List ℕ)). x ∷ l) (take_at e (concatenated es ++ t) record_size w.0)
    (ap (pieces (length es)) (drop_at e (concatenated es ++ t) record_size w.0) ∙ pieces-joined es t w.1)

pub pieces-laid : (es : List (List ℕ)) (b : List ℕ) (n : ℕ) → Whole es → n ≡ length es → pieces n (laid es b) ≡ es
unfolding laid
pieces-laid es b n w e = ap (λ k. pieces k (concatenated es ++ drop (record_size * length es) b)) e ∙ pieces-joined es (drop (record_size * length es) b) w

pub joined-pieces : (n : ℕ) (b : List ℕ) → concatenated (pieces n b) ≡ take (record_size * n) b
unfolding concatenated pieces
joined-pieces zero b = refl
joined-pieces (suc n) b =
    ap (λ (l : List ℕ). take record_size b ++ l) (joined-pieces n (drop record_size b)) ∙ sym (take-add record_size (record_size * n) b) ∙ ap (λ k. take k b) (further n)

pub take-pieces : (p m : ℕ) (b : List ℕ) → take p (pieces (p + m) b) ≡ pieces p b
unfolding pieces
take-pieces zero m b = refl
take-pieces (suc p) m b = ap (λ (k : ℕ). take (suc p) (pieces k b)) (one p m) ∙ ap (λ (l : List (List ℕ)). take record_size b ∷ l) (take-pieces p m (drop record_size b))
  where
    one : (p m : ℕ) → suc p + m ≡ suc (p + m)
    one p m = omega arith

pub drop-pieces : (p m : ℕ) (b : List ℕ) → drop p (pieces (p + m) b) ≡ pieces m (drop (record_size * p) b)
unfolding pieces
drop-pieces zero m b = ap (λ (k : ℕ). pieces k b) (none m)
  where
    none : (m : ℕ) → 0 + m ≡ m
    none m = omega arith
drop-pieces (suc p) m b =
    ap (λ (k : ℕ). drop (suc p) (pieces k b)) (one p m) ∙ drop-pieces p m (drop record_size b) ∙ ap (pieces m) (drop-drop (record_size * p) record_size b ∙ ap (λ k. drop k b) (further p))
  where
    one : (p m : ℕ) → suc p + m ≡ suc (p + m)
    one p m = omega arith

pub length-laid : (es : List (List ℕ)) (b : List ℕ) → Whole es → record_size * length es ≤ length b → length (laid es b) ≡ length b
unfolding laid
length-laid es b w h = let j = length-joined es w in rw (length-append (concatenated es) (drop (record_size * length es) b), length-drop (record_size * length es) b) (omega arith)

-- behind them nothing changed
pub laid-behind : (es : List (List ℕ)) (b : List ℕ) (n : ℕ) → Whole es → length es ≤ n → drop (record_size * n) (laid es b) ≡ drop (record_size * n) b
unfolding laid
laid-behind es b n w h =
    let k : ℕ = record_size * (n - length es) in
    let split : length (concatenated es) + k ≡ record_size * n = let j = length-joined es w in omega arith in
    let behind : record_size * length es + k ≡ record_size * n = omega arith in
    ap (λ (i : ℕ). drop i (concatenated es ++ drop (record_size * length es) b)) (sym split)
    ∙ drop-append-add (concatenated es) (drop (record_size * length es) b) k
    ∙ drop-drop k (record_size * length es) b
    ∙ ap (λ (i : ℕ). drop i b) behind

pub laid_again : (es fs : List (List ℕ)) (b : List ℕ) → Whole es → length es ≤ length fs → laid fs (laid es b) ≡ laid fs b
unfolding laid
laid_again es fs b w h = ap (λ (l : List ℕ). concatenated fs ++ l) (laid-behind es b (length fs) w h)

pub laid-pieces : (n : ℕ) (b : List ℕ) → laid (pieces n b) b ≡ b
unfolding laid
laid-pieces n b = rw (length-pieces n b, joined-pieces n b) (take-append-drop (record_size * n) b)

-- std's chunks are the pieces
pub chunks-pieces : (n : ℕ) (b : List ℕ) → first_chunks record_size n b ≡ pieces n b
unfolding pieces
chunks-pieces zero b = refl
chunks-pieces (suc n) b = ap (λ (l : List (List ℕ)). take record_size b ∷ l) (chunks-pieces n (drop record_size b))

pub first_pieces : (n count : ℕ) (b : List ℕ) → count ≤ n → take count (pieces n b) ≡ pieces count b
first_pieces n count b h = let e : n ≡ count + (n - count) = omega arith in ap (λ (k : ℕ). take count (pieces k b)) e ∙ take-pieces count (n - count) b
