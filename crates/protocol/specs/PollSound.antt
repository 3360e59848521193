-- The script of a list of system codes is sound: a sound script for each code, one behind the other.
use Rattle.std.specs.Prelude.{◌≡◌, true, false, List, ℕ, ◌+◌, ◌≤◌, length}
use Rattle.protocol.specs.Scripts.{Byte, Answer, done, type1, uid_and_ats, nothing, refused, refused_after}
use Rattle.protocol.specs.Scripts.{rest}
use Rattle.protocol.specs.Discovery.{by_no_card}
use Rattle.protocol.specs.Own.{Polled}
use Rattle.protocol.specs.Sound.{response_to, PlacedBytes}
use Rattle.protocol.specs.Names.{listed_idm_offset, pmm_end}

-- what detect_type_f adds to the responses rs, and how it ends: with the bytes behind position 4 of the response to its poll, or with a fault
pub record FoundSoFar (rs rs' : List (List ℕ)) (bytes : List Byte) : Type 0 where
  pub list : List ℕ
  pub more : ℕ
  pub few : more ≤ 1
  pub took : length rs' ≡ length rs + (more + 2)
  pub form : bytes ≡ rest (more + 1) list listed_idm_offset
  pub enough : pmm_end ≤ length list
  pub source : response_to rs' (length rs + (more + 1)) ≡ list

pub record NotFound (rs rs' : List (List ℕ)) : Type 0 where
  pub more : ℕ
  pub few : more ≤ 1
  pub took : length rs' ≡ length rs + (more + 2)

abbrev pub EndsWith : List (List ℕ) → List (List ℕ) → Answer Byte → Type 0
EndsWith rs rs' (done bytes) = FoundSoFar rs rs' bytes
EndsWith rs rs' (type1 bytes) = ⊥
EndsWith rs rs' (uid_and_ats bytes uid ats) = ⊥
EndsWith rs rs' nothing = ⊥
EndsWith rs rs' (refused r) = by_no_card true false r ≡ true → NotFound rs rs'
EndsWith rs rs' (refused_after r n) = ⊥

abbrev pub CodeEnds : List (List ℕ) → List (List ℕ) → Answer Byte → Type 0
CodeEnds rs rs' a = ((bs : List Byte) → PlacedBytes rs bs → PlacedBytes rs' bs) × EndsWith rs rs' a

-- the codes finished, and what they found, after the responses rs
pub record SoFar (rs : List (List ℕ)) (finished : ℕ) (found : List Byte) : Type 0 where
  pub placed : PlacedBytes rs found
  pub polled : Polled finished (length rs) found
