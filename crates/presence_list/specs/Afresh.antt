-- The list after a round, record by record, is the one worked out afresh.
use Rattle.std.specs.Prelude.{◌≡◌, refl, Bool, true, false, List, [], ◌∷◌, map, ℕ, ◌-◌, ◌≤◌, ltb, leb, eqb, length, take, drop, get_or, set}
use Rattle.std.proofs.Common.{sym, ap, ap₂, ◌∙◌, arith, length-take, length-drop, get_or-set_same, get_or-set_other, lt-ltb, le-ltb, ltb-true, ltb-false, le-leb, leb-true}
use Rattle.errors.specs.Choice.{pick}
use Rattle.presence_list.specs.Names.{record_size, identifier_limit, bitrate_offset, missed_offset, last_card_kind, last_bitrate}
use Rattle.presence_list.specs.Keyed.{All, supersede, supersede_all, Sorted, only}
use Rattle.presence_list.specs.KeyedLaws.{supersede_sorted, only-supersede, all_append}
use Rattle.presence_list.specs.CardsAt.{Fit}
use Rattle.presence_list.specs.Memory.{Whole, card_in, length_in, missed_in, found_in, long_in, is_known_in, in_range_in, kept_record, kept_records, aged}
use Rattle.presence_list.specs.EntryLaws.{entry_length, entry_bitrate, entry_seen, entry_card}
use Rattle.presence_list.specs.AgedLaws.{missed_found, missed_length}
use Rattle.presence_list.specs.Presence.{Found, Round, card, any, every, over_long, known, listed, present_of}

-- seen in the last round
abbrev pub seen_last : List ℕ → Bool
seen_last e = eqb (missed_in e) 0

pub entry_found : (f : List ℕ) → length f ≡ record_size → length_in f ≤ identifier_limit → found_in (kept_record f) ≡ found_in f
unfolding card_in
entry_found f n h =
    let c : card (found_in (kept_record f)) ≡ card (found_in f) = entry_card f n h in
    let k : (found_in (kept_record f)).kind ≡ (found_in f).kind = ap (λ (l : List ℕ). get_or l 0 0) c in
    let i : (found_in (kept_record f)).identifier ≡ (found_in f).identifier = ap (λ (l : List ℕ). drop 1 l) c in
    ap₂ (λ (x : ℕ) (l : List ℕ). record { kind = x; identifier = l; bitrate = get_or (kept_record f) bitrate_offset 0 }) k i
    ∙ ap (λ (r : ℕ). record { kind = (found_in f).kind; identifier = (found_in f).identifier; bitrate = r }) (entry_bitrate f n h)

pub entries-found : (fs : List (List ℕ)) → Whole fs → Fit fs → map found_in (kept_records fs) ≡ map found_in fs
unfolding kept_records
entries-found [] w h = refl
entries-found (f ∷ fs) w h = ap₂ (λ (x : Found) (l : List Found). x ∷ l) (entry_found f w.0 h.0) (entries-found fs w.1 h.1)

-- the list before a round's records is who was seen in the last round
pub aged-found : (es : List (List ℕ)) → Fit es → map found_in (aged es) ≡ map found_in (only seen_last es)
unfolding aged only pick
aged-found [] f = refl
aged-found (e ∷ es) f = go (seen_last e) (aged-found es f.1)
  where
    go : (t : Bool) → map found_in (aged es) ≡ map found_in (only seen_last es) → map found_in (pick t (set e missed_offset 1 ∷ aged es) (aged es)) ≡ map found_in (pick t (e ∷ only seen_last es) (only seen_last es))
    go true r = ap₂ (λ (x : Found) (l : List Found). x ∷ l) (missed_found e f.0) r
    go false r = r

-- and none of it is seen yet
pub aged_unseen : (es : List (List ℕ)) → Whole es → only seen_last (aged es) ≡ []
unfolding aged only pick
aged_unseen [] w = refl
aged_unseen (e ∷ es) w = go (seen_last e) (aged_unseen es w.1)
  where
    unseen : seen_last (set e missed_offset 1) ≡ false
    unseen = ap (λ (k : ℕ). eqb k 0) (get_or-set_same e missed_offset 1 0 (let l = w.0 in omega arith))

    go : (t : Bool) → only seen_last (aged es) ≡ [] → only seen_last (pick t (set e missed_offset 1 ∷ aged es) (aged es)) ≡ []
    go true r = rw unseen r
    go false r = r

pub entries-seen : (fs : List (List ℕ)) → Whole fs → Fit fs → All (λ e. seen_last e ≡ true) (kept_records fs)
unfolding kept_records
entries-seen [] w h = tt
entries-seen (f ∷ fs) w h = (ap (λ (k : ℕ). eqb k 0) (entry_seen f w.0 h.0), entries-seen fs w.1 h.1)

pub only-all : (q : List ℕ → Bool) (l xs : List (List ℕ)) → Sorted card_in l → All (λ e. q e ≡ true) xs → only q (supersede_all card_in l xs) ≡ supersede_all card_in (only q l) xs
unfolding supersede_all
only-all q l [] o a = refl
only-all q l (x ∷ xs) o a =
    only-all q (supersede card_in x l) xs (supersede_sorted card_in x l o) a.1
    ∙ ap (λ (m : List (List ℕ)). supersede_all card_in m xs) (only-supersede card_in q x l a.0 o)

-- the cards of the last accepted round
unfoldable pub last_found : List Round → List Found
last_found [] = []
last_found (p ∷ ps) = listed p.found

-- with another round, they and its cards are present
pub last_present : (past : List Round) (r : Round) → supersede_all card (last_found past) r.found ≡ present_of (r ∷ past)
unfolding last_found listed present_of
last_present [] r = refl
last_present (p ∷ ps) r = sym (all_append card [] p.found r.found)

-- the tests of the records
identifier_length : (e : List ℕ) → length e ≡ record_size → ltb identifier_limit (length (take (length_in e) (drop 1 e))) ≡ ltb identifier_limit (length_in e)
identifier_length e n = go (ltb identifier_limit (length_in e)) refl
  where
    behind : length (drop 1 e) ≡ record_size - 1
    behind = let l = length-drop 1 e in omega arith

    go : (t : Bool) → ltb identifier_limit (length_in e) ≡ t → ltb identifier_limit (length (take (length_in e) (drop 1 e))) ≡ t
    go true h =
        let m = ltb-true identifier_limit (length_in e) h in
        let l = length-take (length_in e) (drop 1 e) in
        lt-ltb identifier_limit (length (take (length_in e) (drop 1 e))) (let b = behind in omega arith)
    go false h =
        let m = ltb-false identifier_limit (length_in e) h in
        let l = length-take (length_in e) (drop 1 e) in
        le-ltb identifier_limit (length (take (length_in e) (drop 1 e))) (let b = behind in omega arith)

pub any_long : (fs : List (List ℕ)) → Whole fs → any over_long (map found_in fs) ≡ any long_in fs
unfolding any
any_long [] w = refl
any_long (f ∷ fs) w = rw (identifier_length f w.0, any_long fs w.1)

pub every-known : (fs : List (List ℕ)) → every known (map found_in fs) ≡ every is_known_in fs
unfolding every
every-known [] = refl
every-known (f ∷ fs) = rw (every-known fs)

-- a record of the list stays in its range
pub in_range_lem : (e : List ℕ) → length_in e ≤ identifier_limit → missed_in e ≤ 1 → is_known_in e ≡ true → in_range_in e ≡ true
unfolding pick
in_range_lem e h m k = rw (le-leb (length_in e) identifier_limit h, le-leb (missed_in e) 1 m) k

pub its_range : (e : List ℕ) → in_range_in e ≡ true → (length_in e ≤ identifier_limit) × (is_known_in e ≡ true)
unfolding pick
its_range e h = go (leb (length_in e) identifier_limit) (leb (missed_in e) 1) refl h
  where
    go : (t u : Bool) → leb (length_in e) identifier_limit ≡ t → pick t (pick u (is_known_in e) false) false ≡ true → (length_in e ≤ identifier_limit) × (is_known_in e ≡ true)
    go true true p h = (leb-true (length_in e) identifier_limit p, h)
    go true false p h = (leb-true (length_in e) identifier_limit p, cc)
    go false u p h = let z : ◌≡◌ {A = ℕ} 0 1 = cc in (omega arith, cc)

pub aged_range : (es : List (List ℕ)) → Whole es → All (λ e. in_range_in e ≡ true) es → All (λ e. in_range_in e ≡ true) (aged es)
unfolding aged pick
aged_range [] w a = tt
aged_range (e ∷ es) w a = go (seen_last e) (aged_range es w.1 a.1)
  where
    here : in_range_in (set e missed_offset 1) ≡ true
    here =
        let r = its_range e a.0 in
        let m = get_or-set_same e missed_offset 1 0 (let l = w.0 in omega arith) in
        in_range_lem (set e missed_offset 1) (rw (missed_length e) r.0) (omega arith)
        (ap₂ (λ (i j : ℕ). pick (leb i last_card_kind) (leb j last_bitrate) false) (get_or-set_other e missed_offset 0 1 0 (λ z. omega arith)) (get_or-set_other e missed_offset bitrate_offset 1 0 (λ z. omega arith)) ∙ r.1)

    go : (t : Bool) → All (λ e. in_range_in e ≡ true) (aged es) → All (λ e. in_range_in e ≡ true) (pick t (set e missed_offset 1 ∷ aged es) (aged es))
    go true r = (here, r)
    go false r = r

pub entries_range : (fs : List (List ℕ)) → Whole fs → Fit fs → every is_known_in fs ≡ true → All (λ e. in_range_in e ≡ true) (kept_records fs)
unfolding kept_records every pick
entries_range [] w f k = tt
entries_range (e ∷ es) w f k = go (is_known_in e) refl k (entries_range es w.1 f.1)
  where
    here : is_known_in e ≡ true → in_range_in (kept_record e) ≡ true
    here h =
        let s = entry_seen e w.0 f.0 in
        in_range_lem (kept_record e) (rw (entry_length e w.0 f.0) f.0) (omega arith)
        (ap (λ (x : Found). pick (leb x.kind last_card_kind) (leb x.bitrate last_bitrate) false) (entry_found e w.0 f.0) ∙ h)

    go : (t : Bool) → is_known_in e ≡ t → pick t (every is_known_in es) false ≡ true → (every is_known_in es ≡ true → All (λ e. in_range_in e ≡ true) (kept_records es))
        → All (λ e. in_range_in e ≡ true) (kept_record e ∷ kept_records es)
    go true p k r = (here p, r k)
    go false p k r = let z : ◌≡◌ {A = Bool} false true = k in absurd (never z)
      where
        never : ◌≡◌ {A = Bool} false true → ⊥
        never z = let u : ◌≡◌ {A = ℕ} 0 1 = cc in omega arith

pub every-all : (q : List ℕ → Bool) (es : List (List ℕ)) → every q es ≡ true → All (λ e. q e ≡ true) es
unfolding every pick
every-all q [] h = tt
every-all q (e ∷ es) h = go (q e) refl h (every-all q es)
  where
    go : (t : Bool) → q e ≡ t → pick t (every q es) false ≡ true → (every q es ≡ true → All (λ x. q x ≡ true) es) → All (λ x. q x ≡ true) (e ∷ es)
    go true p h r = (p, r h)
    go false p h r = let z : ◌≡◌ {A = Bool} false true = h in absurd (never z)
      where
        never : ◌≡◌ {A = Bool} false true → ⊥
        never z = let u : ◌≡◌ {A = ℕ} 0 1 = cc in omega arith

pub all-every : (q : List ℕ → Bool) (es : List (List ℕ)) → All (λ e. q e ≡ true) es → every q es ≡ true
unfolding every pick
all-every q [] a = refl
all-every q (e ∷ es) a = rw a.0 (all-every q es a.1)
