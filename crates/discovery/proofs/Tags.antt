-- What the arm for all other variants, or for several numbers, knows.
use mathlib.Core.Path.{◌≡◌, refl, ap}
use mathlib.Core.List.{List}
use mathlib.Core.Logic.{◌⊎◌, inl, inr}
use lib.ListN.{take, drop}
use Rattle.protocol.specs.Scripts.{done}
use Rattle.stages.specs.Stages.{ends}
use Prim.Native.Nat.{ℕ}
use Rattle.errors.specs.Refusals.{by_status}
use Rattle.errors.specs.declared.Fault.{Fault}
use Rattle.errors.specs.declared.Fault.TheVariants.{Transport, TimeOut, FalseStart, BrokenFrame, Length, FrameKind, Identifier, Code, Status, ShortResponse, NoCard, CrcA, Rate, CardStatus, OtherCard, UidLayout}
use Rattle.stages.specs.Stages as stages
use Rattle.stages.specs.Decided.{decision_in, layout_bytes, DecisionRefines}
use Rattle.stages.specs.declared.Decision.{Decision}
use Rattle.stages.specs.declared.Layout.{Layout}
use Rattle.stages.specs.declared.Decision.TheVariants.{Send, Keep, Next, Put, Pause, Done, Part, Type1, UidAndAts, Nothing, Refused, RefusedAfter}
use Rattle.protocol.specs.Discovery.{by_no_card}
use Rattle.discovery.specs.Decisions.{on_end}

-- no status
pub not_status : {A : Type 0} (f : ℕ → A) (a : A) (fault : Fault) → ((s : ℕ) → fault ≡ Status s → ⊥) → by_status f a fault ≡ a
not_status f a Transport h = refl
not_status f a TimeOut h = refl
not_status f a FalseStart h = refl
not_status f a BrokenFrame h = refl
not_status f a Length h = refl
not_status f a FrameKind h = refl
not_status f a Identifier h = refl
not_status f a Code h = refl
not_status f a (Status s) h = absurd (h s refl)
not_status f a ShortResponse h = refl
not_status f a NoCard h = refl
not_status f a CrcA h = refl
not_status f a Rate h = refl
not_status f a (CardStatus s t) h = refl
not_status f a OtherCard h = refl
not_status f a UidLayout h = refl

-- no 17
pub not_no_card : {A : Type 0} (x a : A) (fault : Fault) → (fault ≡ NoCard → ⊥) → by_no_card x a fault ≡ a
not_no_card x a Transport h = refl
not_no_card x a TimeOut h = refl
not_no_card x a FalseStart h = refl
not_no_card x a BrokenFrame h = refl
not_no_card x a Length h = refl
not_no_card x a FrameKind h = refl
not_no_card x a Identifier h = refl
not_no_card x a Code h = refl
not_no_card x a (Status s) h = refl
not_no_card x a ShortResponse h = refl
not_no_card x a NoCard h = absurd (h refl)
not_no_card x a CrcA h = refl
not_no_card x a Rate h = refl
not_no_card x a (CardStatus s t) h = refl
not_no_card x a OtherCard h = refl
not_no_card x a UidLayout h = refl

-- an end with bytes
pub given_bytes : (f b : List ℕ) (d : Decision) → ((x : Layout) × d ≡ Done x) ⊎ ((s n : ℕ) × d ≡ Part s n) → (bytes : List ℕ) × decision_in f b d ≡ ends (done bytes)
given_bytes f b d (inl h) = (layout_bytes f b h.0, ap (decision_in f b) h.1)
given_bytes f b d (inr h) = (take h.1 (drop h.0 b), ap (decision_in f b) h.2)

-- no end with bytes or with a fault
pub not_ended : (f b : List ℕ) (F : List ℕ → stages.Decision) (G : Fault → stages.Decision) (r : Decision) (d : stages.Decision)
    → ((x : Layout) → r ≡ Done x → ⊥) → ((x y : ℕ) → r ≡ Part x y → ⊥) → ((x : Fault) → r ≡ Refused x → ⊥)
    → DecisionRefines f b r d → DecisionRefines f b r (on_end F G d)
not_ended f b F G (Send n) d h₁ h₂ h₃ k = record { is = ap (on_end F G) k.is; fits = k.fits }
not_ended f b F G (Keep n l) d h₁ h₂ h₃ k = record { is = ap (on_end F G) k.is; fits = k.fits }
not_ended f b F G (Next n c l) d h₁ h₂ h₃ k = record { is = ap (on_end F G) k.is; fits = k.fits }
not_ended f b F G (Put n x) d h₁ h₂ h₃ k = record { is = ap (on_end F G) k.is; fits = k.fits }
not_ended f b F G (Pause us n) d h₁ h₂ h₃ k = record { is = ap (on_end F G) k.is; fits = k.fits }
not_ended f b F G (Done l) d h₁ h₂ h₃ k = absurd (h₁ l refl)
not_ended f b F G (Part s n) d h₁ h₂ h₃ k = absurd (h₂ s n refl)
not_ended f b F G (Type1 l) d h₁ h₂ h₃ k = record { is = ap (on_end F G) k.is; fits = k.fits }
not_ended f b F G (UidAndAts l uid ats) d h₁ h₂ h₃ k = record { is = ap (on_end F G) k.is; fits = k.fits }
not_ended f b F G Nothing d h₁ h₂ h₃ k = record { is = ap (on_end F G) k.is; fits = k.fits }
not_ended f b F G (Refused r) d h₁ h₂ h₃ k = absurd (h₃ r refl)
not_ended f b F G (RefusedAfter r n) d h₁ h₂ h₃ k = record { is = ap (on_end F G) k.is; fits = k.fits }
