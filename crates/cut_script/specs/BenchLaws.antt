-- The laws of the session of the definitions: its refusals at once, its calls before an opening, its openings.
use Rattle.std.specs.Prelude.{◌≡◌, refl, Bool, true, false, ◌||◌, ℕ, zero, suc, eqb}
use Rattle.std.proofs.Common.{sym, eq-eqb, eqb-true, arith}
use Rattle.std.proofs.Math.Option.{Option, none, some}
use Rattle.errors.specs.Choice.{pick}
use Rattle.errors.specs.Refusals.{status_number, card_status_number}
use Rattle.errors.specs.declared.Numbered.{Numbered}
use Rattle.exchange.specs.Exchange.{Event}
use Rattle.protocol.specs.Calls.{opening}
use Rattle.protocol.specs.Session.{Running, idle, busy, Books, Session, fresh, Entry, call, event, Effect, unchanged, runs, ends, effect_of, call_effect, after_effect, given, step, buffer_need}
use Rattle.protocol.specs.Machine.{output_values}
use Rattle.calls.specs.Numbers.{call_of, reader_call}
use Rattle.engine.specs.Numbers.{event_by_of}
use Rattle.bench_input.specs.Table.{Said, calls, happens, unreadable}
use Rattle.bench_session.specs.Sessions.{event_line, line_step}
use Rattle.cut_script.specs.LineSession.{Lawful, next, says}
use Rattle.cut_script.specs.First.{never}
use Rattle.cut_script.specs.Bench.{is_opening, refusal_of, is_some, is_at_once, same_numbered, same_refusal, bench}

-- ---- an entry that is refused at once changes nothing

effect-kept : (m : Session) (e : Entry) (o : Effect) → is_at_once (output_values (given o)) ≡ true → after_effect m e o ≡ m
effect-kept m e (unchanged r) h = refl
effect-kept m e (runs c x phase) h = never h
effect-kept m e (ends c a) h = never h

step_kept : (m : Session) (e : Entry) → is_at_once (output_values (step m e).output) ≡ true → (step m e).state ≡ m
step_kept m e h = effect-kept m e (effect_of m.running m.books e) h

event_kept : (m : Session) (e : Option Event) → is_at_once (output_values (event_line m e).output) ≡ true → (event_line m e).state ≡ m
event_kept m none h = refl
event_kept m (some e) h = step_kept m (event e buffer_need) h

pub kept : (m : Session) (l : Said) → is_at_once (says bench m l) ≡ true → next bench m l ≡ m
unfolding line_step
kept m (calls number n first second third fourth) h = step_kept m _ h
kept m (happens number packet) h = event_kept m (event_by_of number packet) h
kept m unreadable h = refl

-- ---- a fresh session is left by openings alone

event_closed : (e : Option Event) → (event_line fresh e).state ≡ fresh
event_closed none = refl
event_closed (some e) = refl

pub closed : (l : Said) → is_opening l ≡ false → next bench fresh l ≡ fresh
unfolding line_step
closed (calls zero n first second third fourth) h = never (sym h)
closed (calls (suc k) n first second third fourth) h = rw (reader_call k n first second third fourth)
closed (happens number packet) h = event_closed (event_by_of number packet)
closed unreadable h = refl

-- ---- an opening that is taken leads to where it leads from fresh

-- what it does, if a call may begin, is the same in any reader
or-true : (t : Bool) → (t || true) ≡ true
or-true true = refl
or-true false = refl

opened : (k mode : ℕ) (o : Effect) (m : Session) → is_at_once (output_values (given o)) ≡ false
    → after_effect m (call k (opening mode) buffer_need) o ≡ after_effect fresh (call k (opening mode) buffer_need) o
opened k mode (unchanged r) m h = never (sym h)
opened k mode (runs c x phase) m h = refl
opened k mode (ends c a) m h = refl

opening_resets : (k mode : ℕ) (r : Running) (b : Books) → is_at_once (output_values (given (effect_of r b (call k (opening mode) buffer_need)))) ≡ false
    → after_effect (record { running = r; books = b }) (call k (opening mode) buffer_need) (effect_of r b (call k (opening mode) buffer_need)) ≡ (step fresh (call k (opening mode) buffer_need)).state
opening_resets k mode idle b h =
    rw (or-true b.opened) (opened k mode (call_effect true k (opening mode) buffer_need) (record { running = idle; books = b }) (rw (or-true b.opened) at h))
opening_resets k mode (busy c phase) b h = never (sym h)

pub resets : (m : Session) (l : Said) → is_opening l ≡ true → is_at_once (says bench m l) ≡ false → next bench m l ≡ next bench fresh l
unfolding line_step call_of
resets m (calls zero n first second third fourth) o h = opening_resets n.caller n.x m.running m.books h
resets m (calls (suc k) n first second third fourth) o h = let e = eqb-true (suc k) 0 o in absurd (omega arith)
resets m (happens number packet) o h = never o
resets m unreadable o h = never o

-- ---- a refusal is the same as itself

numbered-itself : (a : Numbered) → same_numbered a a ≡ true
unfolding same_numbered pick
numbered-itself a =
    rw (eq-eqb a.number a.number refl, eq-eqb a.status a.status refl, eq-eqb a.status2 a.status2 refl)
    (go (eqb a.number status_number) (eqb a.number card_status_number))
  where
    go : (s t : Bool) → pick s true (pick t true true) ≡ true
    go true t = refl
    go false true = refl
    go false false = refl

pub refusal_itself : (o : Option Numbered) → is_some o ≡ true → same_refusal o o ≡ true
refusal_itself none h = never h
refusal_itself (some a) h = numbered-itself a

pub lawful : Lawful bench
lawful = record {
  kept = kept;
  closed = closed;
  itself = λ o h. refusal_itself (refusal_of o) h;
  resets = resets;
}
