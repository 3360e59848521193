-- How a command's end reads by its packet.
use Rattle.std.specs.Prelude.{◌≡◌, refl, ℕ, List, [], Result, Ok, Err}
use Rattle.std.proofs.Common.{Bor}
use Rattle.errors.specs.declared.Fault.{Fault}
use Rattle.exchange.specs.Packets.{Reply, response, failed, reply_of}
use Rattle.stages.specs.declared.Decision.{Decision}
use Rattle.stages.specs.declared.Decision.TheVariants.{Send, Keep, Next, Put, Pause, Done, Part, Type1, UidAndAts, Nothing, Refused, RefusedAfter}
use Rattle.engine.specs.Core.{Arrays, performs_of, reply_decision, replies_of, fails_of, transitioned_of}
use Rattle.engine.specs.Transitions.{end_transition, reply_transition}
use Rattle.engine.specs.declared.call.End.{End}
use Rattle.engine.specs.declared.call.End.TheVariants.{ResetDone, Arrived, Failed}
use Rattle.engine.specs.declared.running.Core.{Core}

-- the reply to a command with this code
abbrev pub reply_in : ℕ → List ℕ → End → Reply
reply_in code packet ResetDone = response []
reply_in code packet Arrived = reply_of code packet
reply_in code packet (Failed r) = failed r

-- the same as the code has it: the response's bytes, or a fault
abbrev pub told : Result (Bor (List ℕ)) Fault → Reply
told (Ok bytes) = response bytes.now
told (Err r) = failed r

-- a decision that does not end the call
abbrev pub GoesOn : Decision → Type 0
GoesOn (Send n) = Unit {0}
GoesOn (Keep n l) = Unit {0}
GoesOn (Next n c l) = Unit {0}
GoesOn (Put n h) = Unit {0}
GoesOn (Pause us n) = Unit {0}
GoesOn (Done l) = ⊥
GoesOn (Part s n) = ⊥
GoesOn (Type1 l) = ⊥
GoesOn (UidAndAts l uid ats) = ⊥
GoesOn Nothing = ⊥
GoesOn (Refused r) = ⊥
GoesOn (RefusedAfter r n) = ⊥

-- ---- laws

-- what is decided upon the reply is what the end does
pub end_performs : (s : Core) (f : Arrays) (code : ℕ) (packet : List ℕ) (e : End) (b : List ℕ)
    → performs_of s f (reply_decision s f (reply_in code packet e)) b ≡ transitioned_of s f (end_transition code packet e) b
unfolding transitioned_of replies_of fails_of
end_performs s f code packet ResetDone b = refl
end_performs s f code packet Arrived b = go (reply_of code packet)
  where
    go : (r : Reply) → performs_of s f (reply_decision s f r) b ≡ transitioned_of s f (reply_transition r) b
    go (response bytes) = refl
    go (failed fault) = refl
end_performs s f code packet (Failed r) b = refl
