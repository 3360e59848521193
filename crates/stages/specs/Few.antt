-- The bytes of a `Few`.
use Rattle.std.specs.Prelude.{List, ℕ, take}
use Rattle.stages.specs.declared.few.Few.{Few}

module _ {n : ℕ} where
  abbrev pub few : Few n → List ℕ
  few w = take w.len w.bytes
