-- The handlers that take no packet keep the command whatever packet is there.
use Rattle.exchange.proofs.Exchange.advance.Goals as goal

pub returns-in-0-clause-same_command : goal.returns-in-0-clause-same_command
returns-in-0-clause-same_command c = (c.on_sent.ensures c.args.packet.now).kept

pub returns-in-3-clause-same_command : goal.returns-in-3-clause-same_command
returns-in-3-clause-same_command c = (c.on_cancelled.ensures c.args.self c.args.packet.now).kept

pub returns-in-4-clause-same_command : goal.returns-in-4-clause-same_command
returns-in-4-clause-same_command c = (c.on_cancelled-in-4.ensures c.args.self c.args.packet.now).kept

pub returns-in-5-clause-same_command : goal.returns-in-5-clause-same_command
returns-in-5-clause-same_command c = (c.on_rejected.ensures c.args.packet.now).kept
