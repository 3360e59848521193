-- The script of a list of system codes is sound: a sound script for each code, one behind the other.
use Rattle.std.specs.Prelude.{◌≡◌, refl, Bool, true, false, cond, List, [], ◌∷◌, ◌++◌, map, ℕ, zero, suc, ◌+◌, ◌-◌, ◌*◌, ◌/◌, ◌≤◌, eqb, length, take, get_or}
use Rattle.std.proofs.Common.{ap, sym, subst, ◌∙◌, arith, eq-eqb, ne_eqb, eqb-true}
use Rattle.std.proofs.Math.Option.{some}
use Rattle.std.proofs.Math.ListN.{get_elem?}
use Rattle.errors.specs.declared.Fault.{Fault}
use Rattle.protocol.specs.Scripts.{Byte, own, card, commands_later, Answer, done, type1, uid_and_ats, nothing, refused, refused_after}
use Rattle.protocol.specs.Scripts.{Script, finish, command, reset, field_pause, and_then, part, rest}
use Rattle.protocol.specs.Arguments.{words_in}
use Rattle.protocol.specs.Discovery.{poll, detect_type_f_of, by_no_card, card_met, no_card_met, code_end, poll_codes, system_code_req}
use Rattle.protocol.specs.Own.{Form, met, not_met, polled_codes}
use Rattle.protocol.specs.Laws.{by_fault}
use Rattle.protocol.specs.Sound.{Within, response_to, response_in, PlacedBytes, no_bytes, own_byte, card_byte, IsResponseByte, Final, Ends, Correct}
use Rattle.protocol.proofs.Sound.{ends_either, ends_if, ends_short, placed-part, placed-append, sound_rules}
use Rattle.protocol.specs.Names.{idm_and_pmm, listed_idm_offset, pmm_end, card_mark}
use Rattle.protocol.specs.Calls.{code_frames}
use Rattle.protocol.specs.PollSound.{FoundSoFar, NotFound, CodeEnds, SoFar}

-- ---- at most three frames a code

-- a word is two bytes
pub words_count : (words : List ℕ) → length (words_in words) ≡ length words / 2
words_count [] = refl
words_count (high ∷ []) = refl
words_count (high ∷ low ∷ words) = let e : length (words_in words) ≡ length words / 2 = words_count words in omega arith

within_more : (s : Script) (j m : ℕ) → j ≤ m → Within s j → Within s m
within_more (finish a) j m h w = tt
within_more (command code clock bytes g) zero m h w = absurd w
within_more (command code clock bytes g) (suc j) zero h w = absurd (omega arith)
within_more (command code clock bytes g) (suc j) (suc m) h w = λ r. within_more (g r) j m (omega arith) (w r)
within_more (reset s) zero m h w = absurd w
within_more (reset s) (suc j) zero h w = absurd (omega arith)
within_more (reset s) (suc j) (suc m) h w = within_more s j m (omega arith) w
within_more (field_pause s) j m h w = within_more s j m h w

within_then : (s : Script) (m j k : ℕ) (f : ℕ → Answer Byte → Script) → Within s m → ((k : ℕ) (a : Answer Byte) → Within (f k a) j) → Within (and_then s k f) (m + j)
within_then (finish a) m j k f w h = within_more (f k a) j (m + j) (omega arith) (h k a)
within_then (command code clock bytes g) zero j k f w h = absurd w
within_then (command code clock bytes g) (suc m) j k f w h =
    let e : suc m + j ≡ suc (m + j) = omega arith in rw e (λ r. within_then (g r) m j (suc k) f (w r) h)
within_then (reset s) zero j k f w h = absurd w
within_then (reset s) (suc m) j k f w h =
    let e : suc m + j ≡ suc (m + j) = omega arith in rw e (within_then s m j (suc k) f w h)
within_then (field_pause s) m j k f w h = within_then s m j k f w h

-- by the end of a code
by_no_card_lem : (P : Script → Type 0) (x a : Script) (r : Fault) → (by_no_card true false r ≡ true → P x) → P a → P (by_no_card x a r)
by_no_card_lem P x a r =
    by_fault (λ r. (by_no_card true false r ≡ true → P x) → P a → P (by_no_card x a r)) (λ h k. h refl) (λ r other h k. rw (other Script x a) k) r

within_end : (f : List Byte → Script) (g : Fault → Script) (m : ℕ) → ((bs : List Byte) → Within (f bs) m) → ((r : Fault) → Within (g r) m)
    → (a : Answer Byte) → Within (code_end f g a) m
within_end f g m h k (done bs) = h (card_met bs)
within_end f g m h k (type1 bs) = h (card_met bs)
within_end f g m h k (uid_and_ats bs uid ats) = h (card_met bs)
within_end f g m h k nothing = h no_card_met
within_end f g m h k (refused r) = by_no_card_lem (λ s. Within s m) (f no_card_met) (g r) r (λ _. h no_card_met) (k r)
within_end f g m h k (refused_after r n) = k r

detect_within : (code : ℕ) (req : List ℕ) → Within (detect_type_f_of code req) code_frames
detect_within code req = search sound_rules depth 60

pub codes_within : (code first finished : ℕ) (found : List Byte) (codes : List ℕ) → Within (poll_codes code first finished found codes) (code_frames * length codes)
codes_within code first finished found [] = tt
codes_within code first finished found (c ∷ codes) =
    let e : code_frames * suc (length codes) ≡ code_frames + code_frames * length codes = omega arith in
    let on : ℕ → List Byte → Script = λ next bs. poll_codes code next (suc finished) (found ++ map (commands_later first) bs) codes in
    let off : Fault → Script = λ r. finish (refused_after r finished) in
    rw e
    (within_then (detect_type_f_of code (system_code_req c)) code_frames (code_frames * length codes) first (λ next a. code_end (on next) off a) (detect_within code (system_code_req c))
    (λ next a. within_end (on next) off (code_frames * length codes)
    (λ bs. codes_within code next (suc finished) (found ++ map (commands_later first) bs) codes) (λ r. tt) a))

-- ---- the answer

-- one script behind the other
ends_then : (P Q : List (List ℕ) → Answer Byte → Type 0) (f : ℕ → Answer Byte → Script) (s : Script) (rs : List (List ℕ)) → Ends P s rs
    → ((rs' : List (List ℕ)) (a : Answer Byte) → P rs' a → Ends Q (f (length rs') a) rs') → Ends Q (and_then s (length rs) f) rs
ends_then P Q f (finish a) rs p h = h rs a p
ends_then P Q f (command code clock bytes g) rs p h = λ r q. ends_then P Q f (g r) (response_in r ∷ rs) (p r q) h
ends_then P Q f (reset s) rs p h = λ bs. ends_then P Q f s (bs ∷ rs) (p bs) h
ends_then P Q f (field_pause s) rs p h = ends_then P Q f s rs p h

-- a byte of a response stands there too when more have come
beyond : (rs : List (List ℕ)) (k : ℕ) → length rs ≤ k → response_to rs k ≡ []
beyond [] k h = refl
beyond (bs ∷ rs) k h = rw (ne_eqb k (length rs) (λ e. omega arith)) (beyond rs k (omega arith))

response_byte_later : (rs : List (List ℕ)) (bs : List ℕ) (k p b : ℕ) → IsResponseByte rs k p b → IsResponseByte (bs ∷ rs) k p b
response_byte_later rs bs k p b h = go (eqb k (length rs)) refl
  where
    go : (t : Bool) → eqb k (length rs) ≡ t → get_elem? (cond t bs (response_to rs k)) p ≡ some b
    go true e =
        let z : response_to rs k ≡ [] = beyond rs k (omega (arith, eqb-true k (length rs) e)) in
        let none-there : get_elem? {A = ℕ} [] p ≡ some b = sym (ap (λ (x : List ℕ). get_elem? x p) z) ∙ h in
        absurd (let w : ◌≡◌ {A = ℕ} 0 1 = cc in omega arith)
    go false e = h

placed-later : (rs : List (List ℕ)) (bs : List ℕ) (xs : List Byte) → PlacedBytes rs xs → PlacedBytes (bs ∷ rs) xs
placed-later rs bs xs no_bytes = no_bytes
placed-later rs bs xs (own_byte h) = own_byte (placed-later rs bs _ h)
placed-later rs bs xs (card_byte {k} {p} {b} e h) = card_byte (response_byte_later rs bs k p b e) (placed-later rs bs _ h)

module _ (code : ℕ) (req : List ℕ) (rs : List (List ℕ)) where
  -- a fault before the poll is not 17
  fault_ends : (before : List (List ℕ)) (bs : List ℕ) (r : Fault) → by_no_card true false r ≡ false
      → ((xs : List Byte) → PlacedBytes rs xs → PlacedBytes before xs) → CodeEnds rs (bs ∷ before) (refused r)
  fault_ends before bs r h w = (λ xs p. placed-later before bs xs (w xs p), λ k. absurd (let z : ◌≡◌ {A = ℕ} 0 1 = cc in omega arith))

  -- the poll's
  none-ends : (before : List (List ℕ)) (bs : List ℕ) (more : ℕ) (r : Fault) → more ≤ 1 → length before ≡ length rs + (more + 1)
      → ((xs : List Byte) → PlacedBytes rs xs → PlacedBytes before xs) → CodeEnds rs (bs ∷ before) (refused r)
  none-ends before bs more r few e w = (λ xs p. placed-later before bs xs (w xs p), λ k. record { more = more; few = few; took = omega arith })

  -- IDm and PMm are in the list
  card-ends : (before : List (List ℕ)) (list : List ℕ) (more : ℕ) → more ≤ 1 → length before ≡ length rs + (more + 1)
      → ((xs : List Byte) → PlacedBytes rs xs → PlacedBytes before xs) → pmm_end ≤ length list → CodeEnds rs (list ∷ before) (done (rest (more + 1) list listed_idm_offset))
  card-ends before list more few e w h = (
    λ xs p. placed-later before list xs (w xs p),
    record {
      list = list;
      more = more;
      few = few;
      took = omega arith;
      form = refl;
      enough = h;
      source = rw (eq-eqb (length rs + (more + 1)) (length before) (sym e)) refl;
    },
  )

  poll-ends : (before : List (List ℕ)) (more : ℕ) → more ≤ 1 → length before ≡ length rs + (more + 1)
      → ((xs : List Byte) → PlacedBytes rs xs → PlacedBytes before xs) → Ends (CodeEnds rs) (poll (more + 1) code req) before
  poll-ends before more few e w =
      let fault : (bs : List ℕ) (r : Fault) → CodeEnds rs (bs ∷ before) (refused r) = λ bs r. none-ends before bs more r few e w in
      let found : (list : List ℕ) → pmm_end ≤ length list → CodeEnds rs (list ∷ before) (done (rest (more + 1) list listed_idm_offset)) =
      λ list h. card-ends before list more few e w h in
      search (fault, found, ends_either, ends_if, ends_short) depth 30

  -- the field is on, or is switched on
  polls : (bs : List ℕ) → Ends (CodeEnds rs) (poll 1 code req) (bs ∷ rs)
  polls bs = poll-ends (bs ∷ rs) 0 (omega arith) (omega arith) (λ xs p. placed-later rs bs xs p)

  polls-then : (bs on : List ℕ) → Ends (CodeEnds rs) (poll 2 code req) (on ∷ bs ∷ rs)
  polls-then bs on = poll-ends (on ∷ bs ∷ rs) 1 (omega arith) (omega arith) (λ xs p. placed-later (bs ∷ rs) on xs (placed-later rs bs xs p))

  detect-ends : Ends (CodeEnds rs) (detect_type_f_of code req) rs
  detect-ends =
      let fault : (bs : List ℕ) (r : Fault) → by_no_card true false r ≡ false → CodeEnds rs (bs ∷ rs) (refused r) = λ bs r h. fault_ends rs bs r h (λ xs p. p) in
      let off : (bs on : List ℕ) (r : Fault) → by_no_card true false r ≡ false → CodeEnds rs (on ∷ bs ∷ rs) (refused r) =
      λ bs on r h. fault_ends (bs ∷ rs) on r h (λ xs p. placed-later rs bs xs p) in
      search (fault, off, polls, polls-then, ends_either, ends_if, ends_short) depth 30

-- IDm and PMm, 16 bytes of the rest of a list's data
take_part : (k : ℕ) (bs : List ℕ) (p n j : ℕ) → take n (part k bs p (n + j)) ≡ part k bs p n
unfolding part
take_part k bs p zero j = refl
take_part k bs p (suc n) j =
    let e : suc n + j ≡ suc (n + j) = omega arith in rw e (ap (λ (xs : List Byte). card k p (get_or bs p 0) ∷ xs) (take_part k bs (suc p) n j))

behind-part : (m k : ℕ) (bs : List ℕ) (p n : ℕ) → map (commands_later m) (part k bs p n) ≡ part (m + k) bs p n
unfolding part
behind-part m k bs p zero = refl
behind-part m k bs p (suc n) = ap (λ (xs : List Byte). card (m + k) p (get_or bs p 0) ∷ xs) (behind-part m k bs (suc p) n)

first_16 : (m k : ℕ) (bs : List ℕ) → pmm_end ≤ length bs → map (commands_later m) (take idm_and_pmm (rest k bs listed_idm_offset)) ≡ part (m + k) bs listed_idm_offset idm_and_pmm
unfolding rest
first_16 m k bs h =
    let e : length bs - listed_idm_offset ≡ idm_and_pmm + (length bs - pmm_end) = omega arith in
    let t : take idm_and_pmm (part k bs listed_idm_offset (length bs - listed_idm_offset)) ≡ part k bs listed_idm_offset idm_and_pmm = rw e (take_part k bs listed_idm_offset idm_and_pmm (length bs - pmm_end)) in
    ap (map (commands_later m)) t ∙ behind-part m k bs listed_idm_offset idm_and_pmm

module _ (rs rs' : List (List ℕ)) (finished : ℕ) (found : List Byte) (so : SoFar rs finished found) (w : (xs : List Byte) → PlacedBytes rs xs → PlacedBytes rs' xs) where
  card-found : (bytes : List Byte) → FoundSoFar rs rs' bytes → SoFar rs' (suc finished) (found ++ map (commands_later (length rs)) (card_met bytes))
  card-found bytes f =
      let e : map (commands_later (length rs)) (card_met bytes) ≡ own card_mark ∷ part (length rs + (f.more + 1)) f.list listed_idm_offset idm_and_pmm =
      rw f.form (ap (λ (xs : List Byte). own card_mark ∷ xs) (first_16 (length rs) (f.more + 1) f.list f.enough)) in
      rw e record {
        placed = placed-append rs' found _ (w found so.placed) (own_byte (placed-part rs' _ f.list listed_idm_offset idm_and_pmm pmm_end f.source f.enough tt));
        polled = rw f.took (met finished (length rs) f.more found f.list so.polled f.few);
      }

  no-card-found : NotFound rs rs' → SoFar rs' (suc finished) (found ++ no_card_met)
  no-card-found f = record {
    placed = placed-append rs' found _ (w found so.placed) (own_byte no_bytes);
    polled = rw f.took (not_met finished (length rs) f.more found so.polled f.few);
  }

module _ (o : Form) (rs rs' : List (List ℕ)) (finished : ℕ) (found : List Byte) (so : SoFar rs finished found)
    (f : List Byte → Script) (g : Fault → Script)
    (h : (bytes : List Byte) → SoFar rs' (suc finished) (found ++ map (commands_later (length rs)) bytes) → Correct o (f bytes) rs')
    (k : (r : Fault) → Correct o (g r) rs') where
  code-ends : (a : Answer Byte) → CodeEnds rs rs' a → Correct o (code_end f g a) rs'
  code-ends (done bytes) (w, e) = h (card_met bytes) (card-found rs rs' finished found so w bytes e)
  code-ends (type1 bytes) (w, e) = absurd e
  code-ends (uid_and_ats bytes uid ats) (w, e) = absurd e
  code-ends nothing (w, e) = absurd e
  code-ends (refused r) (w, e) =
      by_no_card_lem (λ s. Correct o s rs') (f no_card_met) (g r) r (λ q. h no_card_met (no-card-found rs rs' finished found so w (e q))) (k r)
  code-ends (refused_after r n) (w, e) = absurd e

pub codes_correct : (code finished : ℕ) (found : List Byte) (codes : List ℕ) (rs : List (List ℕ)) → SoFar rs finished found
    → Correct (polled_codes (finished + length codes)) (poll_codes code (length rs) finished found codes) rs
codes_correct code finished found [] rs so =
    let e : finished + 0 ≡ finished = omega arith in (so.placed, record { commands = length rs; polled = rw e so.polled })
codes_correct code finished found (c ∷ codes) rs so =
    let o : Form = polled_codes (suc finished + length codes) in
    let e : finished + suc (length codes) ≡ suc finished + length codes = omega arith in
    let on : ℕ → List Byte → Script = λ next bs. poll_codes code next (suc finished) (found ++ map (commands_later (length rs)) bs) codes in
    let off : Fault → Script = λ r. finish (refused_after r finished) in
    subst (λ n. Correct (polled_codes n) (poll_codes code (length rs) finished found (c ∷ codes)) rs) (sym e)
    (ends_then (CodeEnds rs) (Final o) (λ next a. code_end (on next) off a) (detect_type_f_of code (system_code_req c)) rs (detect-ends code (system_code_req c) rs)
    (λ rs' a p. code-ends o rs rs' finished found so (on (length rs')) off
    (λ bytes new. codes_correct code (suc finished) (found ++ map (commands_later (length rs)) bytes) codes rs' new)
    (λ r. tt) a p))
