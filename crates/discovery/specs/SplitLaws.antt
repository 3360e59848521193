-- Laws of the mode that separates UID and ATS.
use Rattle.std.specs.Prelude.{◌≡◌, List, ℕ}
use Rattle.protocol.specs.Scripts.{uid_and_ats}
use Rattle.stages.specs.Stages.{ends}
use Rattle.stages.specs.Decided.{Lays, DecisionRefines}
use Rattle.stages.specs.Laws.{decision_uid_and_ats}
use Rattle.stages.specs.declared.Decision.TheVariants.{UidAndAts}
use Rattle.stages.specs.declared.Layout.{Layout}

-- the ATS's length as a call answered it
pub decision_lengths : (f b : List ℕ) (l : Layout) (bytes : List ℕ) (uid ats x : ℕ) → Lays f b l bytes → ats ≡ x
    → DecisionRefines f b (UidAndAts l uid ats) (ends (uid_and_ats bytes uid x))
decision_lengths f b l bytes uid ats x h e = rw (← e) (decision_uid_and_ats f b l bytes uid ats h)
