use Rattle.std.proofs.Common.{rules, arith}
use Rattle.simulated_chip.specs.ResponseLaws.{not_stated, stated}
use Rattle.simulated_chip.specs.RangeLaws.{ranges}
use Rattle.simulated_chip.proofs.range.Ranged.put_exchanged.Goals as goal

pub reply-requires : goal.reply-requires
reply-requires c = let f = (ranges c.args.self.chip.now c.args.self.in_range).numbers.found in let e = c.in-Some.ensures in grind arith

pub returns-in_default-reply : goal.returns-in_default-reply
returns-in_default-reply c =
    let a = c.args in
    let f = (ranges a.self.chip.now a.self.in_range).numbers.found in
    let e = c.in-Some.ensures in
    not_stated a.self.chip.now _ _ a.self.chip.now.state.found c.in-Some.card a.bytes.now (grind arith) (grind arith) (search rules) c.put_response-in_default-reply.ensures

pub returns : goal.returns
returns c =
    let a = c.args in
    let f = (ranges a.self.chip.now a.self.in_range).numbers.found in
    let e = c.in-Some.ensures in
    stated a.self.chip.now _ _ a.self.chip.now.state.found c.in-Some.card a.bytes.now (grind arith) (grind arith) c.in-Some-reply.reply.now (search rules) c.put_response-2.ensures
