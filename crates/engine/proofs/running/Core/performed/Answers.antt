use mathlib.Core.Path.{subst}
use Rattle.std.specs.Prelude.{take}
use Rattle.stages.specs.Decided.{layout_bytes, DecisionFits}
use Rattle.engine.specs.Core.{performs_of}
use Rattle.engine.specs.Laws.{part_copied, done_copied, type1_copied, lengths_copied}
use Rattle.engine.proofs.Ends.{goes_on}
use Rattle.engine.proofs.running.Core.performed.Goals as goal

pub returns-in-Part : goal.returns-in-Part
unfolding performs_of
returns-in-Part c =
    let a = c.args in
    let p = c.requires in
    let n = subst (DecisionFits (take a.self.found a.found.now) a.response.now) c.in-Part.is p.1 in
    rw c.in-Part.is (part_copied a.self _ a.response.now a.buffer.now _ _ _ c.in-Part.start c.in-Part.len n p.0 p.2.2 c.append-len.ensures (c.ended.ensures _ _))

pub returns-in-Done : goal.returns-in-Done
unfolding performs_of
returns-in-Done c =
    let a = c.args in
    rw c.in-Done.is
    (done_copied a.self _ (layout_bytes (take a.self.found a.found.now) a.response.now c.in-Done.layout) a.buffer.now _ _ _ c.put_answer-len.ensures.value c.put_answer-len.ensures.target_after (c.ended-in-Done.ensures _ _))

pub returns-in-Type1 : goal.returns-in-Type1
unfolding performs_of
returns-in-Type1 c =
    let a = c.args in
    rw c.in-Type1.is
    (type1_copied a.self _ (layout_bytes (take a.self.found a.found.now) a.response.now c.in-Type1.layout) a.buffer.now _ _ _ c.put_answer-len-in-Type1.ensures.value c.put_answer-len-in-Type1.ensures.target_after (c.ended-in-Type1.ensures _ _))

pub returns-in-UidAndAts : goal.returns-in-UidAndAts
unfolding performs_of
returns-in-UidAndAts c =
    let a = c.args in
    rw c.in-UidAndAts.is
    (lengths_copied a.self _ (layout_bytes (take a.self.found a.found.now) a.response.now c.in-UidAndAts.layout) a.buffer.now _ _ _ _ _ c.put_answer-len-in-UidAndAts.ensures.value c.put_answer-len-in-UidAndAts.ensures.target_after (c.ended-in-UidAndAts.ensures _ _))

pub returns-in-Nothing : goal.returns-in-Nothing
unfolding performs_of
returns-in-Nothing c = rw c.in-Nothing.is (c.ended-in-Nothing.ensures _ _)

pub returns-in-Refused : goal.returns-in-Refused
unfolding performs_of
returns-in-Refused c = rw c.in-Refused.is (c.ended-in-Refused.ensures _ _)

pub returns-in-RefusedAfter : goal.returns-in-RefusedAfter
unfolding performs_of
returns-in-RefusedAfter c = rw c.in-RefusedAfter.is (c.ended-in-RefusedAfter.ensures _ _)

pub returns-in_default : goal.returns-in_default
returns-in_default c = c.continued.ensures (goes_on c.args.decision c.in_default.not-Done c.in_default.not-Part c.in_default.not-Type1 c.in_default.not-UidAndAts c.in_default.not-Nothing c.in_default.not-Refused c.in_default.not-RefusedAfter)
