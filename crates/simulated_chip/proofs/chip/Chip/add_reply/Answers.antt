use Rattle.std.proofs.Common.{rules, ◌≡◌, sym, ◌∙◌}
use Rattle.simulated_chip.specs.RangeLaws.{ranges}
use Rattle.simulated_chip.specs.AdmissionLaws.{reply-admitted}
use Rattle.simulated_chip.specs.AdditionLaws.{reply-added, reply_refused, reply_out_of_range}
use Rattle.simulated_chip.proofs.chip.Chip.add_reply.Goals as goal

pub returns-in_default : goal.returns-in_default
returns-in_default c = let a = c.args in reply_out_of_range a.self.now a.bytes.now a.reply.now (search rules)

pub returns-in_err-admit_reply : goal.returns-in_err-admit_reply
returns-in_err-admit_reply c =
    let a = c.args in
    let e : c.in-Some.ranged.chip.now ≡ a.self.now = search rules in
    reply_refused a.self.now a.bytes.now a.reply.now (rw e at c.in-Some.ranged.in_range) _ (rw e at c.admit_reply.ensures) c.in_err-admit_reply.field-0.0 _ (search rules) (search rules)

pub put_reply-requires : goal.put_reply-requires
put_reply-requires c =
    let a = c.args in
    let chip = a.self.now in
    let e : c.in-Some.ranged.chip.now ≡ chip = search rules in
    let r = (ranges chip (rw e at c.in-Some.ranged.in_range)).numbers in
    reply-admitted chip.cards chip.sent chip.replies a.bytes.now a.reply.now chip.state.count r.cards_fit r.count (sym (rw e at c.admit_reply.ensures) ∙ search rules)

pub returns : goal.returns
returns c =
    let a = c.args in
    let e : c.in-Some.ranged.chip.now ≡ a.self.now = search rules in
    reply-added a.self.now a.bytes.now a.reply.now (rw e at c.in-Some.ranged.in_range) _ (rw e at c.admit_reply.ensures) c.put_reply.new.self tt (search rules) c.put_reply.ensures
