-- A script with another behind it, in a session: it goes the way of the script alone until that ends.
use Rattle.std.specs.Prelude.{◌≡◌, false}
use Rattle.exchange.specs.Packets.{Reply}
use Rattle.exchange.specs.Exchange.{unfit, pending, ended}
use Rattle.exchange.specs.Exchange.{ExchangeResult}
use Rattle.protocol.specs.Scripts.{Script, finish, command, reset, field_pause}
use Rattle.protocol.specs.Record.{ordered, is_command}

-- no reset on any path
abbrev pub NoReset : Script → Type 0
NoReset (finish a) = Unit {0}
NoReset (command code clock bytes k) = (r : Reply) → NoReset (k r)
NoReset (reset s) = ⊥
NoReset (field_pause s) = NoReset s

-- ---- an exchange orders no command frame of its own

abbrev pub Bare : ExchangeResult → Type 0
Bare unfit = Unit {0}
Bare (pending x step) = is_command (ordered x) ≡ false
Bare (ended r) = Unit {0}
