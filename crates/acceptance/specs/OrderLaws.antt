-- The order's laws: numbers and payloads belong to each other one by one, and a greater number is a later payload.
use Prim.Native.Nat.{◌<◌}
use Rattle.acceptance.specs.declared.Payload.{Payload}
use Rattle.acceptance.specs.declared.Payload.TheVariants.{Empty, One, Two}

-- a payload whose elements are bytes
abbrev pub OfBytes : Payload → Type 0
OfBytes Empty = Unit {0}
OfBytes (One a) = a < 256
OfBytes (Two a b) = (a < 256) × (b < 256)
