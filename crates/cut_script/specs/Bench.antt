-- The session of the definitions as a session of lines, and a script: bytes, its lines, what each says.
use Rattle.std.specs.Prelude.{Bool, true, false, List, map, ℕ, eqb, take}
use Rattle.std.proofs.Math.Option.{Option, none, some}
use Rattle.errors.specs.Choice.{pick}
use Rattle.errors.specs.Refusals.{numbered, fault_numbered, status_number, card_status_number}
use Rattle.errors.specs.declared.Numbered.{Numbered}
use Rattle.framing.specs.Lists.{both}
use Rattle.protocol.specs.Scripts.{Answer, done, type1, uid_and_ats, nothing, refused, refused_after}
use Rattle.protocol.specs.Session.{Session, fresh, Output, orders, answers, rejects}
use Rattle.protocol.specs.Machine.{output_values}
use Rattle.bench.specs.Lines.{feed, before_feed}
use Rattle.bench_input.specs.Table.{Said, calls, happens, unreadable, input_of}
use Rattle.bench_session.specs.Sessions.{line_step}
use Rattle.cut_script.specs.LineSession.{LineSession}
use Rattle.cut_script.specs.ScriptLines.{lines_of}

abbrev pub is_opening : Said → Bool
is_opening (calls number n first second third fourth) = eqb number 0
is_opening (happens number packet) = false
is_opening unreadable = false

-- ---- the refusal that is printed: a list's without the number of codes finished

abbrev pub refused_in : Answer ℕ → Option Numbered
refused_in (done bytes) = none
refused_in (type1 bytes) = none
refused_in (uid_and_ats bytes uid ats) = none
refused_in nothing = none
refused_in (refused r) = some (fault_numbered r)
refused_in (refused_after r n) = some (fault_numbered r)

abbrev pub refusal_of : Output ℕ → Option Numbered
refusal_of (orders x) = none
refusal_of (answers a) = refused_in a
refusal_of (rejects r) = some (numbered r)

abbrev pub is_some : {A : Type 0} → Option A → Bool
is_some none = false
is_some (some x) = true

-- refused at once; a later end of a call is none
abbrev pub is_at_once : Output ℕ → Bool
is_at_once (orders x) = false
is_at_once (answers a) = false
is_at_once (rejects r) = true

-- the same number, of 15 the same status, of 20 the same two flags
unfoldable pub same_numbered : Numbered → Numbered → Bool
same_numbered a b =
    both (eqb a.number b.number)
    (pick (eqb a.number status_number) (eqb a.status b.status)
    (pick (eqb a.number card_status_number) (both (eqb a.status b.status) (eqb a.status2 b.status2)) true))

abbrev pub same_refusal : Option Numbered → Option Numbered → Bool
same_refusal none o = false
same_refusal (some a) none = false
same_refusal (some a) (some b) = same_numbered a b

-- ---- the session of lines

abbrev pub bench : LineSession
bench = record {
  State = Session;
  Line = Said;
  Out = Output ℕ;
  fresh = fresh;
  act = λ m l. ((line_step m l).state, output_values (line_step m l).output);
  is_opening = is_opening;
  is_refusal = λ o. is_some (refusal_of o);
  is_at_once = is_at_once;
  same_refusal = λ o p. same_refusal (refusal_of o) (refusal_of p);
}

-- ---- a script

abbrev pub is_feed : ℕ → Bool
is_feed b = eqb b feed

-- a line ends with a line feed, or at the script's end where a rest without one is not empty
abbrev pub script_lines : List ℕ → List (List ℕ)
script_lines s = lines_of is_feed s

-- what a line says is read without its line feed
abbrev pub line_says : List ℕ → Said
line_says l = input_of (take (before_feed l) l)

abbrev pub script : List ℕ → List Said
script s = map line_says (script_lines s)
