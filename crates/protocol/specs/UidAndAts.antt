-- The mode of N6, from the manual: it gives 22 exactly where the list data, at least 4 bytes, is no target data of Type A. Where it is, the call
-- goes on as without the mode, and its answer has the lengths of the data's UID and ATS beside it, which are its bytes behind the third.
use Rattle.std.specs.Prelude.{◌≡◌, refl, Bool, true, false, List, ◌∷◌, ◌++◌, map, ◌↔◌, ℕ, ◌+◌, ◌≤◌, ◌<◌, length, drop, get_or}
use Rattle.std.proofs.Common.{sym, ap, ap₂, ◌∙◌, arith, lt-ltb, le-ltb, length-drop, get_or-drop, drop-drop}
use Rattle.errors.specs.declared.Fault.TheVariants.{UidLayout}
use Rattle.targets.specs.TypeA.{TargetData, is_target_data, target_taken, target_only, target_long, uid-length-at, ats-length-at, parts_at, is_type2}
use Rattle.protocol.specs.Scripts.{value, done, uid_and_ats, nothing, finish, refuse, if_else}
use Rattle.protocol.specs.Discovery.{card_a, without_crc, by_type2, found_a, uid_length, ats_length, found_split}
use Rattle.protocol.specs.Values.{rest-values}
use Rattle.protocol.specs.Names.{sel_res_offset, sens_res_offset, target_offset, uid_offset}

-- the list data is no target data, whatever its UID and its ATS are thought to be
abbrev pub NoTarget : List ℕ → Type 0
NoTarget list = (uid ats : List ℕ) → TargetData (drop target_offset list) uid ats → ⊥

-- under 4 bytes of list data
pub few_none : (list : List ℕ) → length list < uid_offset → found_split list ≡ finish nothing
few_none list h = rw (lt-ltb (length list) uid_offset h)

module _ (list : List ℕ) where
  -- with target data; the mode off beside it
  module _ (uid ats : List ℕ) (target : TargetData (drop target_offset list) uid ats) where
    long : uid_offset ≤ length list
    long = omega (arith, target_long target, length-drop target_offset list)

    pub uid-length_is : uid_length list ≡ length uid
    uid-length_is = sym (get_or-drop target_offset list 3 0) ∙ uid-length-at target

    pub ats-length_is : ats_length list ≡ length ats
    ats-length_is =
        ap (λ k. get_or list k 0) (omega (arith, uid-length_is)) ∙ (sym (get_or-drop target_offset list (4 + length uid) 0) ∙ ats-length-at target)

    pub found-on : found_split list ≡ by_type2 list (uid_and_ats (card_a list) (length uid) (length ats))
    found-on =
        rw (le-ltb (length list) uid_offset long, target_taken target) (ap₂ (λ u a. by_type2 list (uid_and_ats (card_a list) u a)) uid-length_is ats-length_is)

    pub found-off : found_a list ≡ by_type2 list (done (card_a list))
    found-off = rw (le-ltb (length list) uid_offset long)

    -- the answer's bytes: SENS_RES in the other order, SEL_RES, the UID, the ATS
    pub answer_parts : map value (card_a list) ≡ get_or list (sens_res_offset + 1) 0 ∷ get_or list sens_res_offset 0 ∷ get_or list sel_res_offset 0 ∷ (uid ++ ats)
    answer_parts = ap (λ l. get_or list (sens_res_offset + 1) 0 ∷ get_or list sens_res_offset 0 ∷ get_or list sel_res_offset 0 ∷ l) (rest-values 0 list uid_offset ∙ (sym (drop-drop 4 target_offset list) ∙ parts_at target))

  -- 22, with no command behind the list
  refused-only : uid_offset ≤ length list → NoTarget list → found_split list ≡ refuse UidLayout
  refused-only h f = rw (le-ltb (length list) uid_offset h) (go (is_target_data (drop target_offset list)) refl)
    where
      go : (t : Bool) → is_target_data (drop target_offset list) ≡ t → if_else t (by_type2 list (uid_and_ats (card_a list) (uid_length list) (ats_length list))) (refuse UidLayout) ≡ refuse UidLayout
      go true e = let s = target_only (drop target_offset list) e in absurd (f s.uid s.ats s.is)
      go false e = refl

  refused-not : found_split list ≡ refuse UidLayout → NoTarget list
  refused-not e uid ats target = go (is_type2 (get_or list sel_res_offset 0)) (sym (found-on uid ats target) ∙ e)
    where
      go : (t : Bool) → if_else t (without_crc (uid_and_ats (card_a list) (length uid) (length ats))) (finish (uid_and_ats (card_a list) (length uid) (length ats))) ≡ refuse UidLayout → ⊥
      go true k = let z : ◌≡◌ {A = ℕ} 0 1 = cc in omega arith
      go false k = let z : ◌≡◌ {A = ℕ} 0 1 = cc in omega arith

  pub layout_exact : uid_offset ≤ length list → (found_split list ≡ refuse UidLayout) ↔ NoTarget list
  layout_exact h = (refused-not, refused-only h)
