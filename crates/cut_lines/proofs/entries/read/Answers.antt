use Rattle.std.proofs.Common.{◌-◌, rules}
use native.Mathlib.Omega.{arith}
use Rattle.cut_lines.proofs.ReadLaws.{read_begins, found-line, line-part, line-fits, read_further, read_next, read_ends, read_too_many}
use Rattle.cut_lines.proofs.entries.read.Goals as goal

pub loop-at-init : goal.loop-at-init
loop-at-init c = read_begins _ _ _ c.requires.2

pub returns-then-n-eq-LINE_COUNT_LIMIT : goal.returns-then-n-eq-LINE_COUNT_LIMIT
returns-then-n-eq-LINE_COUNT_LIMIT c =
    let i = c.loop-at.invariant in
    (read_too_many _ _ _ _ _ _ i c.loop-at-test.true c.if-n-eq-LINE_COUNT_LIMIT.true, i.fits)

pub slice_bounds-read_line-end : goal.slice_bounds-read_line-end
slice_bounds-read_line-end c =
    let e = c.find-stop.ensures.bounds in
    search rules

pub read_line-input-requires : goal.read_line-input-requires
read_line-input-requires c =
    line-fits c.args.script.now c.loop-at.at (c.find-stop.result - c.loop-at.at) _ _ c.requires.0 c.loop-at.invariant.fits c.loop-at-test.true

pub loop-at-smaller : goal.loop-at-smaller
loop-at-smaller c =
    read_further c.args.script.now c.loop-at.at c.find-stop.result c.behind-to.result c.loop-at-test.true (found-line _ _ _ c.find-stop.ensures.place) c.behind-to.ensures

pub loop-at-preserved : goal.loop-at-preserved
loop-at-preserved c =
    let found = found-line _ _ _ c.find-stop.ensures.place in
    read_next _ _ _ _ _ _ _ _ _ _ _ c.loop-at.invariant c.loop-at-test.true (let few = c.loop-at.invariant.few in omega arith) found c.behind-to.ensures (line-part _ _ _ found) c.read_line-input.ensures.bytes_unchanged.0 c.read_line-input.ensures.bytes_unchanged.1 c.read_line-input.ensures.by_index

pub returns : goal.returns
returns c =
    let i = c.loop-at.invariant in
    (read_ends _ _ _ _ _ _ i c.loop-at-test.false, i.fits)
