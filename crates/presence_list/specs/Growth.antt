-- A list in memory that grows record by record.
use Rattle.std.specs.Prelude.{◌≡◌, Bool, eqb, take, drop, get_or}
use Rattle.std.proofs.Math.Path.{refl, ap}
use Rattle.std.proofs.Common.{sym, ap₂, ◌∙◌, length-append, length-set, take-append-drop, take_at, take_all, length-take-le}
use Rattle.std.proofs.Math.Bool.{true, false}
use mathlib.Core.List.{List, [], ◌∷◌, ◌++◌, append_assoc, append-nil}
use Prim.Native.Nat.{ℕ, zero, suc, ◌+◌, ◌*◌, ◌≤◌, ◌<◌}
use native.Mathlib.Omega.{arith}
use Rattle.std.proofs.Math.ListN.{length, set}
use Rattle.std.proofs.lemmas.List.{set-append_left}
use borrow.Author.Tests.{eq-eqb, ne_eqb}
use Rattle.errors.specs.Choice.{pick}
use Rattle.presence_list.specs.Names.{record_size, missed_offset}
use Rattle.presence_list.specs.Keyed.{has, without}
use Rattle.presence_list.specs.Memory.{concatenated, laid, put_behind, Whole, missed_in, card_in, aged}
use Rattle.presence_list.specs.MemoryLaws.{length-joined, joined-append, laid-behind, length-laid}
use Rattle.presence_list.specs.Turns.{take_more}

pub added-laid : (es fs : List (List ℕ)) (b : List ℕ) (n : ℕ) → Whole es → n ≡ length es → put_behind n fs (laid es b) ≡ laid (es ++ fs) b
unfolding put_behind laid
added-laid es fs b n w e =
    let j : length (concatenated es) ≡ record_size * n = let i = length-joined es w in omega arith in
    let all : n + length fs ≡ length (es ++ fs) = let i = length-append es fs in omega arith in
    ap₂ (λ (x y : List ℕ). x ++ (concatenated fs ++ y)) (take_at (concatenated es) (drop (record_size * length es) b) (record_size * n) j)
    (laid-behind es b (n + length fs) w (omega arith) ∙ ap (λ (k : ℕ). drop (record_size * k) b) all)
    ∙ sym (append_assoc (concatenated es) (concatenated fs) (drop (record_size * length (es ++ fs)) b))
    ∙ ap (λ (l : List ℕ). l ++ drop (record_size * length (es ++ fs)) b) (sym (joined-append es fs))

pub added_none : (n : ℕ) (b : List ℕ) → b ≡ put_behind n [] b
unfolding put_behind concatenated
added_none n b = sym (ap (λ (k : ℕ). take (record_size * n) b ++ drop (record_size * k) b) (none n) ∙ take-append-drop (record_size * n) b)
  where
    none : (n : ℕ) → n + 0 ≡ n
    none n = omega arith

pub added-one : (n : ℕ) (e b : List ℕ) → length e ≡ record_size → take (record_size * n) b ++ (e ++ drop (record_size * n + length e) b) ≡ put_behind n (e ∷ []) b
unfolding put_behind concatenated
added-one n e b h =
    let next : record_size * n + length e ≡ record_size * (n + 1) = omega arith in
    ap₂ (λ (x : List ℕ) (k : ℕ). take (record_size * n) b ++ (x ++ drop k b)) (sym (append-nil e)) next

-- a byte of the one that was put
set-behind : (xs ys : List ℕ) (i a : ℕ) → set (xs ++ ys) (length xs + i) a ≡ xs ++ set ys i a
set-behind [] ys i a = ap (λ (k : ℕ). set ys k a) (none i)
  where
    none : (n : ℕ) → 0 + n ≡ n
    none n = omega arith
set-behind (x ∷ xs) ys i a = ap (λ (k : ℕ). set (x ∷ (xs ++ ys)) k a) (one (length xs) i) ∙ ap (λ (l : List ℕ). x ∷ l) (set-behind xs ys i a)
  where
    one : (m n : ℕ) → suc m + n ≡ suc (m + n)
    one m n = omega arith

pub added-set : (n k a : ℕ) (e b : List ℕ) → record_size * n ≤ length b → length e ≡ record_size → k < record_size
    → set (take (record_size * n) b ++ (e ++ drop (record_size * n + length e) b)) (record_size * n + k) a ≡ put_behind n (set e k a ∷ []) b
added-set n k a e b room h l =
    let t : length (take (record_size * n) b) ≡ record_size * n = length-take-le (record_size * n) b room in
    let d : List ℕ = drop (record_size * n + length e) b in
    ap (λ (i : ℕ). set (take (record_size * n) b ++ (e ++ d)) (i + k) a) (sym t)
    ∙ set-behind (take (record_size * n) b) (e ++ d) k a
    ∙ ap (λ (x : List ℕ). take (record_size * n) b ++ x) (set-append_left e d k a (omega arith))
    ∙ ap (λ (i : ℕ). take (record_size * n) b ++ (set e k a ++ drop (record_size * n + i) b)) (sym (length-set e k a))
    ∙ added-one n (set e k a) b (length-set e k a ∙ h)

-- a list of records that is made record by record
pub record Growing (f : List (List ℕ) → List (List ℕ)) : Type 0 where
  pub none : f [] ≡ []
  pub more : (xs ys : List (List ℕ)) → f (xs ++ ys) ≡ f xs ++ f ys
  pub whole : (xs : List (List ℕ)) → Whole xs → Whole (f xs)
  pub short : (xs : List (List ℕ)) → length (f xs) ≤ length xs

pub take_whole : (n : ℕ) (es : List (List ℕ)) → Whole es → Whole (take n es)
take_whole zero es w = tt
take_whole (suc n) [] w = tt
take_whole (suc n) (e ∷ es) w = (w.0, take_whole n es w.1)

-- what the memory holds of it after i records
abbrev pub Grown : (List (List ℕ) → List (List ℕ)) → List (List ℕ) → ℕ → ℕ → List ℕ → List ℕ → Type 0
Grown f es i n out₀ out = (i ≤ length es) × (n ≤ i) × (n ≡ length (f (take i es))) × (out ≡ laid (f (take i es)) out₀) × (length out ≡ length out₀)

module _ (f : List (List ℕ) → List (List ℕ)) (g : Growing f) (es : List (List ℕ)) (out₀ : List ℕ) (whole : Whole es) (out-room : record_size * length es ≤ length out₀) where
  pub grown_none : Grown f es 0 0 out₀ out₀
  unfolding laid concatenated
  grown_none = (omega arith, omega arith, ap length (sym g.none), ap (λ (l : List (List ℕ)). laid l out₀) (sym g.none), refl)

  pub grown_more : (i n r : ℕ) (out out₁ e : List ℕ) → Grown f es i n out₀ out → i < length es → e ≡ get_or es i []
      → r ≡ n + length (f (e ∷ [])) → out₁ ≡ put_behind n (f (e ∷ [])) out → Grown f es (i + 1) r out₀ out₁
  grown_more i n r out out₁ e inv h p q s =
      let now : List (List ℕ) = f (take i es) in
      let next : f (take (i + 1) es) ≡ now ++ f (e ∷ []) =
      ap f (take_more es i [] h ∙ ap (λ (x : List ℕ). take i es ++ x ∷ []) (sym p)) ∙ g.more (take i es) (e ∷ []) in
      let w : Whole now = g.whole (take i es) (take_whole i es whole) in
      let lays : out₁ ≡ laid (f (take (i + 1) es)) out₀ =
      s
      ∙ ap (put_behind n (f (e ∷ []))) inv.3
      ∙ added-laid now (f (e ∷ [])) out₀ n w inv.2
      ∙ ap (λ (l : List (List ℕ)). laid l out₀) (sym next) in
      let counts : r ≡ length (f (take (i + 1) es)) =
      let a = length-append now (f (e ∷ [])) in let m = ap length next in let k = inv.2 in omega arith in
      let few : length (f (take (i + 1) es)) ≤ i + 1 = let a = g.short (take (i + 1) es) in let t = length-take-le (i + 1) es (omega arith) in omega arith in (
        omega arith,
        omega arith,
        counts,
        lays,
        ap length lays ∙ length-laid (f (take (i + 1) es)) out₀ (g.whole (take (i + 1) es) (take_whole (i + 1) es whole)) (omega arith),
      )

  pub grown_all : (i n : ℕ) (out : List ℕ) → Grown f es i n out₀ out → length es ≤ i → (n ≡ length (f es)) × (out ≡ laid (f es) out₀)
  grown_all i n out inv h =
      let full : take i es ≡ es = take_all i es h in
      (inv.2 ∙ ap (λ (l : List (List ℕ)). length (f l)) full, inv.3 ∙ ap (λ (l : List (List ℕ)). laid (f l) out₀) full)

module _ where
  aged-more : (xs ys : List (List ℕ)) → aged (xs ++ ys) ≡ aged xs ++ aged ys
  unfolding aged pick
  aged-more [] ys = refl
  aged-more (e ∷ es) ys = go (eqb (missed_in e) 0) (aged-more es ys)
    where
      go : (t : Bool) → aged (es ++ ys) ≡ aged es ++ aged ys → pick t (set e missed_offset 1 ∷ aged (es ++ ys)) (aged (es ++ ys)) ≡ pick t (set e missed_offset 1 ∷ aged es) (aged es) ++ aged ys
      go true r = ap (λ (l : List (List ℕ)). set e missed_offset 1 ∷ l) r
      go false r = r

  pub aged_whole : (es : List (List ℕ)) → Whole es → Whole (aged es)
  unfolding aged pick
  aged_whole [] w = tt
  aged_whole (e ∷ es) w = go (eqb (missed_in e) 0) (aged_whole es w.1)
    where
      go : (t : Bool) → Whole (aged es) → Whole (pick t (set e missed_offset 1 ∷ aged es) (aged es))
      go true r = (length-set e missed_offset 1 ∙ w.0, r)
      go false r = r

  pub aged_short : (es : List (List ℕ)) → length (aged es) ≤ length es
  unfolding aged pick
  aged_short [] = omega arith
  aged_short (e ∷ es) = go (eqb (missed_in e) 0) (aged_short es)
    where
      go : (t : Bool) → length (aged es) ≤ length es → length (pick t (set e missed_offset 1 ∷ aged es) (aged es)) ≤ suc (length es)
      go true r = omega arith
      go false r = omega arith

  pub aged_grows : Growing aged
  unfolding aged
  aged_grows = record { none = refl; more = aged-more; whole = aged_whole; short = aged_short }

  pub aged_out : (e : List ℕ) → (missed_in e ≡ 0 → ⊥) → aged (e ∷ []) ≡ []
  unfolding aged pick
  aged_out e h = rw (ne_eqb (missed_in e) 0 h)

  pub aged_stays : (e : List ℕ) → missed_in e ≡ 0 → aged (e ∷ []) ≡ set e missed_offset 1 ∷ []
  unfolding aged pick
  aged_stays e h = rw (eq-eqb (missed_in e) 0 h)

module _ (other : List (List ℕ)) where
  without_more : (xs ys : List (List ℕ)) → without card_in other (xs ++ ys) ≡ without card_in other xs ++ without card_in other ys
  unfolding without pick
  without_more [] ys = refl
  without_more (e ∷ es) ys = go (has card_in (card_in e) other) (without_more es ys)
    where
      go : (t : Bool) → without card_in other (es ++ ys) ≡ without card_in other es ++ without card_in other ys
          → pick t (without card_in other (es ++ ys)) (e ∷ without card_in other (es ++ ys)) ≡ pick t (without card_in other es) (e ∷ without card_in other es) ++ without card_in other ys
      go true r = r
      go false r = ap (λ (l : List (List ℕ)). e ∷ l) r

  pub without_whole : (es : List (List ℕ)) → Whole es → Whole (without card_in other es)
  unfolding without pick
  without_whole [] w = tt
  without_whole (e ∷ es) w = go (has card_in (card_in e) other) (without_whole es w.1)
    where
      go : (t : Bool) → Whole (without card_in other es) → Whole (pick t (without card_in other es) (e ∷ without card_in other es))
      go true r = r
      go false r = (w.0, r)

  pub without_short : (es : List (List ℕ)) → length (without card_in other es) ≤ length es
  unfolding without pick
  without_short [] = omega arith
  without_short (e ∷ es) = go (has card_in (card_in e) other) (without_short es)
    where
      go : (t : Bool) → length (without card_in other es) ≤ length es → length (pick t (without card_in other es) (e ∷ without card_in other es)) ≤ suc (length es)
      go true r = omega arith
      go false r = omega arith

  pub without_grows : Growing (without card_in other)
  unfolding without
  without_grows = record { none = refl; more = without_more; whole = without_whole; short = without_short }

  pub without-known : (e : List ℕ) → has card_in (card_in e) other ≡ true → without card_in other (e ∷ []) ≡ []
  unfolding without pick
  without-known e t = rw t

  pub without_new : (e : List ℕ) → has card_in (card_in e) other ≡ false → without card_in other (e ∷ []) ≡ e ∷ []
  unfolding without pick
  without_new e t = rw t
