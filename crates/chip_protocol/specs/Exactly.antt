-- None exactly when there is no such card.
use Rattle.std.specs.Prelude.{Bool, true, false, ℕ}
use Rattle.protocol.specs.Scripts.{Answer, done, type1, uid_and_ats, nothing, refused, refused_after}
use Rattle.protocol.specs.Session.{Output, orders, answers, rejects}

-- ---- answers told apart

abbrev pub is_done : Answer ℕ → Bool
is_done (done l) = true
is_done (type1 l) = false
is_done (uid_and_ats l u a) = false
is_done nothing = false
is_done (refused r) = false
is_done (refused_after r n) = false

abbrev pub answer_in : Output ℕ → Answer ℕ
answer_in (orders x) = nothing
answer_in (answers a) = a
answer_in (rejects r) = nothing
