use Rattle.std.proofs.Common.{rules, ◌≡◌, sym, ◌∙◌}
use Rattle.simulated_chip.specs.StepLaws.{step_short, step_refused, step-nothing, step_command}
use Rattle.simulated_chip.proofs.chip.Chip.step.Goals as goal

pub returns-then-buffer-lt-PACKET_SIZE : goal.returns-then-buffer-lt-PACKET_SIZE
returns-then-buffer-lt-PACKET_SIZE c = let a = c.args in step_short a.self.now a.written.now a.buffer.now c.if-buffer-lt-PACKET_SIZE.true

pub returns-in_default : goal.returns-in_default
returns-in_default c = let a = c.args in step_refused a.self.now a.written.now a.buffer.now c.if-buffer-lt-PACKET_SIZE.false (search rules)

pub returns-in_default-split_first : goal.returns-in_default-split_first
returns-in_default-split_first c =
    let a = c.args in
    let e : c.in-Some.ranged.chip.now ≡ a.self.now = search rules in
    step-nothing a.self.now a.written.now a.buffer.now c.if-buffer-lt-PACKET_SIZE.false (rw e at c.in-Some.ranged.in_range) (rw c.command_in.ensures at c.in_default-split_first.ensures.cases)

pub returns : goal.returns
returns c =
    let a = c.args in
    let e : c.in-Some.ranged.chip.now ≡ a.self.now = search rules in
    step_command a.self.now a.written.now a.buffer.now c.if-buffer-lt-PACKET_SIZE.false (rw e at c.in-Some.ranged.in_range)
    c.in-Some-split_first.code.now c.in-Some-split_first.bytes.now _ _ _ (sym c.command_in.ensures ∙ c.in-Some-split_first.ensures.cases.0) (rw e at c.put_packet-n.ensures) (rw e at c.after-self.ensures)
