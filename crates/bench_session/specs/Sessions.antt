-- The session of the definitions, line by line: what a line does to it, and what is given out and printed. `session` does the same
-- (`line_follows`, `session-prints`).
use Rattle.std.specs.Prelude.{◌≡◌, ℕ, List, [], ◌∷◌, ◌++◌, map, length}
use Rattle.std.proofs.Math.Path.{refl, subst}
use Rattle.std.proofs.Common.{ap, ap₂, ◌∙◌}
use Rattle.std.proofs.Math.Option.{Option, none, some}
use Rattle.errors.specs.Refusals.{numbered, fault_numbered}
use Rattle.errors.specs.declared.Refusal.TheVariants.{BadArgument}
use Rattle.targets.specs.Bitrates.{ascii}
use Rattle.exchange.specs.Exchange.{Order, write, read, drain, pause, Event}
use Rattle.protocol.specs.Scripts.{Byte, Answer, done, type1, uid_and_ats, nothing, refused, refused_after}
use Rattle.protocol.specs.Calls.{Call, opening, reader}
use Rattle.protocol.specs.Session.{Session, fresh, call, event, StepResult, step_result, step, buffer_need, orders, answers, rejects}
use Rattle.protocol.specs.Session.{Output as Given}
use Rattle.protocol.specs.Machine.{output_values}
use Rattle.calls.specs.Numbers.{call_of}
use Rattle.engine.specs.Inputs.{gives, output_of, entry_of, step_with}
use Rattle.engine.specs.Numbers.{call_input, event_by_of}
use Rattle.engine.specs.Relation.{SessionRepresents}
use Rattle.engine.specs.Refinement.{simulate, fresh_represents}
use Rattle.engine.specs.SessionSteps.{Stepped, fresh_session}
use Rattle.engine.specs.declared.running.Output.{Output}
use Rattle.engine.specs.declared.running.Output.TheVariants.{Ack, Command, Read, Drain, Pause, Done, Type1, UidAndAts, Nothing, Failed, FailedAfter, Refused}
use Rattle.engine.specs.declared.session.Session as Engine
use Rattle.bench.specs.Hex.{hex_of}
use Rattle.bench.specs.Texts.{decimal_of}
use Rattle.bench_input.specs.Table.{Said, calls, happens, unreadable, input_of}
use Rattle.bench_session.specs.Outputs.{done_text, type1_text, lengths_text, refused_text, list_refused_text, text_of}
use Rattle.bench_session.specs.Answers.{event_step, said_step}

-- an event, where its number has one
abbrev pub event_line : Session → Option Event → StepResult Session Byte
event_line m none = step_result m (rejects BadArgument)
event_line m (some e) = step m (event e buffer_need)

-- what a line says, done: one that cannot be read is refused with 4; the engine's buffer has always room
unfoldable pub line_step : Session → Said → StepResult Session Byte
line_step m (calls number n first second third fourth) = step m (call n.caller (call_of number n first second third fourth) buffer_need)
line_step m (happens number packet) = event_line m (event_by_of number packet)
line_step m unreadable = step_result m (rejects BadArgument)

-- the text of what is given out
abbrev pub order_text : Order → List ℕ
order_text (write p) = ascii "write " ++ hex_of p
order_text (read ms) = ascii "read " ++ decimal_of ms
order_text drain = ascii "drain"
order_text (pause us) = ascii "pause " ++ decimal_of us

abbrev pub answer_text : Answer ℕ → List ℕ
answer_text (done p) = done_text p
answer_text (type1 p) = type1_text p
answer_text (uid_and_ats p uid ats) = lengths_text p uid ats
answer_text nothing = ascii "none"
answer_text (refused r) = refused_text (fault_numbered r)
answer_text (refused_after r n) = list_refused_text (fault_numbered r) n

abbrev pub given_text : Given ℕ → List ℕ
given_text (orders x) = order_text x
given_text (answers a) = answer_text a
given_text (rejects r) = refused_text (numbered r)

-- what each line of a list prints
abbrev pub lines_print : Session → List (List ℕ) → List (List ℕ)
lines_print m [] = []
lines_print m (l ∷ ls) = given_text (output_values (line_step m (input_of l)).output) ∷ lines_print (line_step m (input_of l)).state ls

-- ---- the program's

pub text_given : (o : Output) (b : List ℕ) → text_of o b ≡ given_text (output_of o b)
unfolding text_of
text_given Ack b = refl
text_given (Command n) b = refl
text_given (Read ms) b = refl
text_given Drain b = refl
text_given (Pause us) b = refl
text_given (Done n) b = refl
text_given (Type1 n) b = refl
text_given (UidAndAts n uid ats) b = refl
text_given Nothing b = refl
text_given (Failed r) b = refl
text_given (FailedAfter r n) b = refl
text_given (Refused r) b = refl

-- the engine's step upon a line is that of the session which it represents
pub record Follows (r : StepResult Session Byte) (t : Stepped) : Type 0 where
  pub represents : SessionRepresents t.session r.state
  pub output : output_of t.output t.buffer ≡ output_values r.output

module _ (s : Engine.Session) (m : Session) (h : SessionRepresents s m) where
  call-entry : (k : ℕ) (c : Call) (b : List ℕ) → length b ≡ buffer_need → entry_of (call_input k c b) ≡ call k c buffer_need
  call-entry k (opening mode) b e = ap (call k (opening mode)) e
  call-entry k (reader c) b e = ap (call k (reader c)) e

  event-follows : (e : Option Event) (b : List ℕ) → length b ≡ buffer_need → Follows (event_line m e) (event_step s e b)
  event-follows none b l = record { represents = h; output = refl }
  event-follows (some e) b l =
      let r = simulate s m (gives e b) h in
      subst (λ n. Follows (step m (event e n)) (step_with s (gives e b))) l (record { represents = r.0; output = r.1 })

  pub line_follows : (l : Said) (b : List ℕ) → length b ≡ buffer_need → Follows (line_step m l) (said_step s l b)
  unfolding line_step said_step
  line_follows (calls number n first second third fourth) b e =
      let c : Call = call_of number n first second third fourth in
      let r = simulate s m (call_input n.caller c b) h in
      subst (λ k. Follows (step m k) (step_with s (call_input n.caller c b))) (call-entry n.caller c b e) (record { represents = r.0; output = r.1 })
  line_follows (happens number p) b e = event-follows (event_by_of number p) b e
  line_follows unreadable b e = record { represents = h; output = refl }

-- a line, and what the engine's buffer holds before it
pub record LentLine : Type 0 where
  pub line : List ℕ
  pub buffer : List ℕ
  pub size : length buffer ≡ buffer_need

-- the texts that `session` puts together, line after line (`answer_of`)
abbrev pub session_prints : Engine.Session → List LentLine → List (List ℕ)
session_prints s [] = []
session_prints s (l ∷ ls) =
    let t : Stepped = said_step s (input_of l.line) l.buffer in
    text_of t.output t.buffer ∷ session_prints t.session ls

prints-from : (s : Engine.Session) (m : Session) → SessionRepresents s m → (ls : List LentLine) → session_prints s ls ≡ lines_print m (map (λ l. l.line) ls)
prints-from s m h [] = refl
prints-from s m h (l ∷ ls) =
    let t : Stepped = said_step s (input_of l.line) l.buffer in
    let f : Follows (line_step m (input_of l.line)) t = line_follows s m h (input_of l.line) l.buffer l.size in
    ap₂ (λ (x : List ℕ) (xs : List (List ℕ)). x ∷ xs) (text_given t.output t.buffer ∙ ap given_text f.output) (prints-from t.session (line_step m (input_of l.line)).state f.represents ls)

-- from a fresh session `session` prints what the lines print, whatever its buffer of 1,024 bytes holds
pub session-prints : (ls : List LentLine) → session_prints fresh_session ls ≡ lines_print fresh (map (λ l. l.line) ls)
session-prints ls = prints-from fresh_session fresh fresh_represents ls
