-- Laws of `put_lines`: what holds of the buffer at each turn of its loop.
use Rattle.acceptance.specs.Order.{Reached}
use Rattle.std.specs.Prelude.{◌≡◌, ℕ, ◌+◌, ◌≤◌, ◌<◌}
use mathlib.Core.List.{List}
use Rattle.std.proofs.Math.ListN.{length}
use Rattle.bench.specs.Texts.{over}
use Rattle.acceptance.specs.Steps.{run_from, frames_from, text_lines, on_entry}

-- ---- the loop

pub record Filling (s : Reached) (b out : List ℕ) (len count : ℕ) (step : Reached) : Type 0 where
  pub at : step ≡ run_from count s
  pub place : len ≡ length (text_lines (frames_from count s))
  pub text : out ≡ over 0 (text_lines (frames_from count s)) b
  pub inside : len ≤ length b
  pub counted : (k : ℕ) → k < count → on_entry (run_from k s) ≡ 1
  pub spent : count + on_entry step ≤ len + 1
