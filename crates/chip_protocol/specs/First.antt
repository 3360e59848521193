-- "The first card of its kind in the field", stated apart from the chip's search.
use Rattle.std.specs.Prelude.{◌≡◌, List, [], ◌∷◌, ◌++◌}
use Rattle.std.proofs.Math.Option.{Option, none, some}
use Rattle.targets.specs.declared.Bitrate.{Bitrate}
use Rattle.chip_protocol.specs.Field.{Card}
use Rattle.chip_protocol.specs.declared.Kind.{Kind}

-- "a card is of its kind only at the bitrate searched"
abbrev pub IsOf : Kind → Bitrate → Card → Type 0
IsOf k r c = (c.kind ≡ k) × (c.bitrate ≡ r)

-- no card of the field
abbrev pub NoneOf : Kind → Bitrate → List Card → Type 0
NoneOf k r [] = Unit {0}
NoneOf k r (c ∷ cs) = (IsOf k r c → ⊥) × NoneOf k r cs

-- a card that stands in the field, is of the kind, and has none of it before it
pub record FirstOf (k : Kind) (r : Bitrate) (f : List Card) (c : Card) : Type 0 where
  pub before : List Card
  pub behind : List Card
  pub whole : f ≡ before ++ (c ∷ behind)
  pub is : IsOf k r c
  pub none_before : NoneOf k r before

-- the first, if any
abbrev pub First : Kind → Bitrate → List Card → Option Card → Type 0
First k r f none = NoneOf k r f
First k r f (some c) = FirstOf k r f c
