-- The session's frame counts are those of the record since the last opening began, each caller's own, up to the ceiling.
use Rattle.std.specs.Prelude.{◌≡◌, List, [], ◌∷◌, ℕ}

abbrev pub AllZero : List ℕ → Type 0
AllZero [] = Unit {0}
AllZero (n ∷ ns) = (n ≡ 0) × AllZero ns
