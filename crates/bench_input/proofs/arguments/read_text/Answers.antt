use mathlib.Core.Path.{sym, ap, ◌∙◌}
use Rattle.std.proofs.Common.{rules}
use native.Mathlib.Omega.{arith}
use Rattle.errors.specs.Rules.{swapped_by}
use Rattle.bench_input.proofs.ReadLaws.{text_empty, text_dash, text_room, text_read, text_between, empty_word, some_word, slice_none, none_stays}
use Rattle.bench_input.proofs.arguments.read_text.Goals as goal

pub returns-then-is_empty-clause-by_index : goal.returns-then-is_empty-clause-by_index
returns-then-is_empty-clause-by_index c = λ f. text_empty _ f (empty_word _ (search rules))

pub returns-then-eq-clause-by_index : goal.returns-then-eq-clause-by_index
returns-then-eq-clause-by_index c =
    λ f. ap f (slice_none c.args.at c.args.at c.args.bytes.now (omega arith)) ∙ text_dash _ f (some_word _ (search rules)) (swapped_by _ _ _ (rw c.as_slice.ensures at (sym c.if-eq.ensures)))

pub returns-then-eq-clause-behind : goal.returns-then-eq-clause-behind
returns-then-eq-clause-behind c = none_stays _ _ _

pub copy-requires : goal.copy-requires
copy-requires c =
    text_room _ c.args.bytes.now c.args.at c.requires

pub returns-clause-by_index : goal.returns-clause-by_index
returns-clause-by_index c =
    λ f. text_read _ c.args.bytes.now _ c.args.at c.requires c.copy.ensures.after f (some_word _ (search rules)) (swapped_by _ _ _ (rw c.as_slice.ensures at (sym c.if-eq.ensures)))

pub returns-clause-behind : goal.returns-clause-behind
returns-clause-behind c = text_between _ c.args.bytes.now _ c.args.at c.requires c.copy.ensures.after
