use Rattle.simulated_chip.specs.AdditionLaws.{reply-put}
use Rattle.simulated_chip.proofs.chip.Chip.put_reply.Goals as goal

pub returns : goal.returns
returns c =
    let a = c.args in
    let chip = a.self.now in
    let e = c.from-last.ensures in
    rw e (reply-put chip.state chip.cards chip.sent chip.replies a.bytes.now a.reply.now _ 0 _ _ (rw e at c.from.ensures) (rw e at c.put_text.ensures) (rw e at c.put_text-2.ensures))
