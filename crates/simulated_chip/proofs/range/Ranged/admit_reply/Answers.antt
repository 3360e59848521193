use Rattle.std.proofs.Common.{rules, arith}
use Rattle.simulated_chip.specs.AdmissionLaws.{admit_no_card, admit_stated, admit_crc, admit_reply_taken}
use Rattle.simulated_chip.specs.SearchLaws.{some_stated, none_stated}
use Rattle.simulated_chip.proofs.range.Ranged.admit_reply.Goals as goal

pub returns-in_default : goal.returns-in_default
returns-in_default c =
    let a = c.args in
    let chip = a.self.chip.now in
    let d = c.in_default in
    admit_no_card chip.cards chip.sent chip.replies a.bytes.now a.reply.now chip.state.count (grind arith)

pub returns-then-is_some : goal.returns-then-is_some
returns-then-is_some c =
    let a = c.args in
    let d = c.in-Some.ensures in
    admit_stated a.self.chip.now a.bytes.now a.reply.now a.self.in_range c.in-Some.card (grind arith) (some_stated _ _ _ c.reply_place.ensures.reply (search rules))

pub returns-then-not-crc_fits : goal.returns-then-not-crc_fits
returns-then-not-crc_fits c =
    let a = c.args in
    let d = c.in-Some.ensures in
    admit_crc a.self.chip.now a.bytes.now a.reply.now a.self.in_range c.in-Some.card (grind arith) (none_stated _ _ _ c.reply_place.ensures.reply (search rules)) _ c.crc_fits.ensures (search rules)

pub returns : goal.returns
returns c =
    let a = c.args in
    let d = c.in-Some.ensures in
    admit_reply_taken a.self.chip.now a.bytes.now a.reply.now a.self.in_range c.in-Some.card (grind arith) (none_stated _ _ _ c.reply_place.ensures.reply (search rules)) _ c.crc_fits.ensures (search rules) _ _ (search rules) (search rules) _ c.admit_lengths.ensures
