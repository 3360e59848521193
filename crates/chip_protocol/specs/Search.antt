-- The chip's search finds the first card of its kind.
use Rattle.std.specs.Prelude.{Bool, cond, List, [], ◌∷◌, ℕ, suc, ltb}
use Rattle.std.proofs.Math.Bool.{true, false}
use Rattle.std.proofs.Math.Option.{Option, none, some}
use Rattle.std.proofs.Math.Dec.{eqb}
use Rattle.targets.specs.declared.Bitrate.{Bitrate}
use Rattle.targets.specs.declared.Bitrate.TheVariants.{B106A, B212F, B424F, B106B, B212B, B424B, B848B, Other}
use Rattle.chip_protocol.specs.Field.{Card, is_at, CardFits}
use Rattle.chip_protocol.specs.declared.Kind.{Kind}
use Rattle.chip_protocol.specs.declared.Kind.TheVariants.{TypeA, TypeB, TypeF, Dep}

-- ---- the chip's test

abbrev pub kind_from : ℕ → Kind
kind_from n = cond (eqb n 0) TypeA (cond (eqb n 1) TypeB (cond (eqb n 2) TypeF Dep))

-- the bitrates that a search has
abbrev pub is_searched : Bitrate → Bool
is_searched B106A = true
is_searched B212F = true
is_searched B424F = true
is_searched B106B = true
is_searched B212B = false
is_searched B424B = false
is_searched B848B = false
is_searched Other = false

abbrev pub rate_from : ℕ → Bitrate
rate_from n = cond (eqb n 0) B106A (cond (eqb n 1) B212F (cond (eqb n 2) B424F (cond (eqb n 3) B106B Other)))

abbrev pub has_code_of : ℕ → Bool
has_code_of n = ltb n 4

-- ---- the search

abbrev pub first_card : Kind → ℕ → List Card → Option Card
first_card k code [] = none
first_card k code (c ∷ cs) = cond (is_at k code c) (some c) (first_card k code cs)

abbrev pub behind_one : Option ℕ → Option ℕ
behind_one none = none
behind_one (some n) = some (suc n)

-- ---- what is found fits

abbrev pub OptionFits : Option Card → Type 0
OptionFits none = Unit {0}
OptionFits (some c) = CardFits c
