-- What the functions on lists ask and promise.
use Rattle.std.specs.Prelude.{◌≡◌, true, false, List, ℕ, ◌*◌, ◌≤◌, ◌<◌, length, Result, Ok, Err}
use Rattle.errors.specs.declared.RoundRefusal.{RoundRefusal}
use Rattle.errors.specs.declared.RoundRefusal.TheVariants.{ListFull}
use Rattle.presence_list.specs.Names.{record_size, identifier_limit, card_limit}
use Rattle.presence_list.specs.Keyed.{All, Sorted, place, has}
use Rattle.presence_list.specs.Memory.{pieces, laid, card_in, length_in}

-- identifiers within the limit
abbrev pub Fit : List (List ℕ) → Type 0
Fit es = All (λ e. length_in e ≤ identifier_limit) es

-- a list of so many cards lies at the memory's start
pub record CardsAt (count : ℕ) (b : List ℕ) : Type 0 where
  pub room : record_size * count ≤ length b
  pub fit : Fit (pieces count b)
  pub sorted : Sorted card_in (pieces count b)

-- a card's place, and whether it is there
abbrev pub Searched : Result ℕ ℕ → List ℕ → List (List ℕ) → Type 0
Searched (Ok i) c es = (i ≡ place card_in c es) × (has card_in c es ≡ true)
Searched (Err i) c es = (i ≡ place card_in c es) × (has card_in c es ≡ false)

-- a memory with a list put at its start, of so many cards; or their number passes the limit
abbrev pub PutAll : Result ℕ RoundRefusal → List (List ℕ) → List ℕ → List ℕ → Type 0
PutAll (Ok n) es b b' = (n ≡ length es) × (n ≤ card_limit) × (b' ≡ laid es b)
PutAll (Err e) es b b' = (e ≡ ListFull) × (card_limit < length es)
