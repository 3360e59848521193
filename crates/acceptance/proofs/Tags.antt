-- What `step.unwrap_or(None)` says of a step.
use Rattle.std.specs.Prelude.{Option, Some, None, Ok, Err}
use Rattle.std.specs.Result.{result_unwrap_or}
use mathlib.Core.Path.{◌≡◌, refl}
use Rattle.acceptance.specs.Order.{At, Reached}
use Rattle.acceptance.specs.Steps.{on_entry}
use Rattle.acceptance.specs.declared.Entry.{Entry}

pub entry_at_step : (s : Reached) (o : Option Entry) (e : Entry) → o ≡ result_unwrap_or s None → o ≡ Some e → s ≡ At e
entry_at_step (Ok (Some d)) o e p q = cc
entry_at_step (Ok None) o e p q = cc
entry_at_step (Err r) o e p q = cc

pub no_entry_lem : (s : Reached) (o : Option Entry) → o ≡ result_unwrap_or s None → ((e : Entry) → o ≡ Some e → ⊥) → on_entry s ≡ 0
no_entry_lem (Ok (Some e)) o p h = absurd (h e p)
no_entry_lem (Ok None) o p h = refl
no_entry_lem (Err r) o p h = refl
