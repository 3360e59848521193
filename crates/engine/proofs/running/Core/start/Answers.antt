use Rattle.std.specs.Prelude.{◌≡◌, ℕ, List, take, Result, Ok}
use mathlib.Core.Path.{ap, ap₂, ◌∙◌, subst}
use Rattle.stages.specs.Put.{take_put}
use Rattle.stages.specs.Stages.{cmd}
use Rattle.stages.specs.Starts.{Starts, Commanded, commanded, as_staged, at_once_lem}
use Rattle.stages.specs.Starts.{Start as StartOf, Staged as StagedOf}
use Rattle.stages.specs.declared.start.First.{First}
use Rattle.stages.specs.declared.start.Start.{Start}
use Rattle.stages.specs.declared.start.Start.TheVariants.{Command, Staged}
use Rattle.errors.specs.declared.Refusal.{Refusal}
use Rattle.engine.specs.Core.{arrays, with_command_of, sends_of, stage_of, unchanged, start_on}
use Rattle.engine.proofs.running.Core.start.Goals as goal

module _ (k c : List ℕ) (s : StartOf) (r : Result Start Refusal) (v : Start) where
  commanded_in : (f : First) → r ≡ Ok v → v ≡ Command f → Starts r k c s → Commanded f k c s
  commanded_in f p q h = commanded (subst (λ x. Starts x k c s) (p ∙ ap Ok q) h)

  as_staged_in : (kind n : ℕ) → r ≡ Ok v → v ≡ Staged kind n → Starts r k c s → StagedOf kind n k c s
  as_staged_in kind n p q h = as_staged (subst (λ x. Starts x k c s) (p ∙ ap Ok q) h)

pub returns-in-Command : goal.returns-in-Command
unfolding start_on
returns-in-Command c = λ f k s h.
    let a = c.args in
    let first = c.in-Command.first in
    let r = commanded_in k a.command.now s a.start c.in-Ok.start _ c.in-Ok.is c.in-Command.is h in
    let part : take first.len a.command.now ≡ r.bytes = ap₂ take r.puts.count r.puts.is ∙ take_put r.bytes k in
    rw r.is
    (c.sent.ensures _
    ∙ (λ i. sends_of ((c.with_command.ensures ∙ ap (with_command_of a.self) r.puts.count) i) (arrays (r.puts.is i) f) (c.first.ensures i) (cmd first.code first.clock (part i)) a.buffer.now))

pub returns-in-Staged : goal.returns-in-Staged
unfolding start_on
returns-in-Staged c = λ f k s h.
    let a = c.args in
    let r = as_staged_in k a.command.now s a.start c.in-Ok.start _ _ c.in-Ok.is c.in-Staged.is h in
    rw r.is
    (c.send.ensures f
    ∙ (λ i. stage_of ((c.with_command-in-Staged.ensures ∙ ap (with_command_of a.self) r.puts.count) i) (arrays (r.puts.is i) f) (c.first-in-Staged.ensures i) a.buffer.now))

pub returns-in-Err : goal.returns-in-Err
unfolding start_on
returns-in-Err c = λ f k s h.
    let a = c.args in
    let r = at_once_lem (subst (λ x. Starts x k a.command.now s) c.in-Err.is h) in
    rw r.is (c.refused.ensures _ _ ∙ ap (λ x. unchanged a.self (arrays x f) c.in-Err.refusal a.buffer.now) r.same)
