-- What the code's commands and decisions say.
use Rattle.std.specs.Prelude.{◌≡◌, List, ◌++◌, ℕ, ◌+◌, ◌≤◌, length, take, drop}
use Rattle.protocol.specs.Scripts.{Answer, done, type1, uid_and_ats, nothing, refused, refused_after}
use Rattle.stages.specs.Stages.{cmd, send, keep, next, put, pause, ends}
use Rattle.stages.specs.Stages as stages
use Rattle.stages.specs.declared.Command.{Command}
use Rattle.stages.specs.Few.{few}
use Rattle.stages.specs.declared.Data.{Data}
use Rattle.stages.specs.declared.Data.TheVariants.{Pending, Own}
use Rattle.stages.specs.declared.Decision.{Decision}
use Rattle.stages.specs.declared.Decision.TheVariants.{Send, Keep, Next, Put, Pause, Done, Part, Type1, UidAndAts, Nothing, Refused, RefusedAfter}
use Rattle.stages.specs.declared.Layout.{Layout}

-- the bytes of a layout, where f are the found bytes and b is the response
abbrev pub layout_bytes : List ℕ → List ℕ → Layout → List ℕ
layout_bytes f b l =
    take l.kept f ++ (few l.head ++ (take l.len (drop l.start b) ++ few l.tail))

-- so many found bytes are kept at most, and so many bytes has the response in a packet at most
abbrev pub found_limit : ℕ
found_limit = 1024

abbrev pub response_limit : ℕ
response_limit = 1022

-- the head and the tail of a layout, and the data that a stage's command has by itself
abbrev pub head_limit : ℕ
head_limit = 3

abbrev pub tail_limit : ℕ
tail_limit = 12

abbrev pub fixed_limit : ℕ
fixed_limit = 12

-- each part lies in its bytes, and the found bytes and a buffer have room for them all
pub record Fitting (f b : List ℕ) (l : Layout) : Type 0 where
  pub kept : l.kept ≤ length f
  pub part : l.start + l.len ≤ length b
  pub room : length f ≤ found_limit → length b ≤ response_limit → l.kept + (length (few l.head) + (l.len + length (few l.tail))) ≤ found_limit

-- a layout of these bytes
pub record Lays (f b : List ℕ) (r : Layout) (bytes : List ℕ) : Type 0 where
  pub is : layout_bytes f b r ≡ bytes
  pub fits : Fitting f b r

abbrev pub decision_in : List ℕ → List ℕ → Decision → stages.Decision
decision_in f b (Send n) = send n
decision_in f b (Keep n l) = keep n (layout_bytes f b l)
decision_in f b (Next n c l) = next n c (layout_bytes f b l)
decision_in f b (Put n h) = put n h
decision_in f b (Pause us n) = pause us n
decision_in f b (Done l) = ends (done (layout_bytes f b l))
decision_in f b (Part start n) = ends (done (take n (drop start b)))
decision_in f b (Type1 l) = ends (type1 (layout_bytes f b l))
decision_in f b (UidAndAts l uid ats) = ends (uid_and_ats (layout_bytes f b l) uid ats)
decision_in f b Nothing = ends nothing
decision_in f b (Refused fault) = ends (refused fault)
decision_in f b (RefusedAfter fault n) = ends (refused_after fault n)

abbrev pub DecisionFits : List ℕ → List ℕ → Decision → Type 0
DecisionFits f b (Send n) = Unit
DecisionFits f b (Keep n l) = Fitting f b l
DecisionFits f b (Next n c l) = Fitting f b l
DecisionFits f b (Put n h) = Unit
DecisionFits f b (Pause us n) = Unit
DecisionFits f b (Done l) = Fitting f b l
DecisionFits f b (Part start n) = start + n ≤ length b
DecisionFits f b (Type1 l) = Fitting f b l
DecisionFits f b (UidAndAts l uid ats) = Fitting f b l
DecisionFits f b Nothing = Unit
DecisionFits f b (Refused fault) = Unit
DecisionFits f b (RefusedAfter fault n) = Unit

-- both
pub record DecisionRefines (f b : List ℕ) (r : Decision) (d : stages.Decision) : Type 0 where
  pub is : decision_in f b r ≡ d
  pub fits : DecisionFits f b r

-- whatever the found bytes are
pub record AnswerRefines (b : List ℕ) (r : Decision) (a : Answer ℕ) : Type 0 where
  pub decision : (f : List ℕ) → DecisionRefines f b r (ends a)

-- whatever the bytes are
abbrev pub Always : Decision → stages.Decision → Type 0
Always r d = (f b : List ℕ) → DecisionRefines f b r d

-- the data of a command, where `pending` is the pending one, and that it is within its bytes
abbrev pub data_in : Data → List ℕ → List ℕ
data_in Pending pending = pending
data_in (Own own) pending = few own

abbrev pub DataFits : Data → Type 0
DataFits Pending = Unit
DataFits (Own own) = length (few own) ≤ fixed_limit

-- a command
abbrev pub command_in : Command → List ℕ → stages.Command
command_in c pending = cmd c.code c.clock (data_in c.bytes pending)

-- the same, and the data is within the bytes
pub record Sends (c : Command) (pending : List ℕ) (m : stages.Command) : Type 0 where
  pub is : command_in c pending ≡ m
  pub fits : DataFits c.bytes

-- whatever the pending command is
pub record Commands (c : Command) (f : List ℕ → stages.Command) : Type 0 where
  pub is : (pending : List ℕ) → command_in c pending ≡ f pending
  pub fits : DataFits c.bytes
