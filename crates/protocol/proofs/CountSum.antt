-- The counts of the eight callers add up to the record's command frames since the last opening began, where none has reached the ceiling.
use Rattle.std.specs.Prelude.{◌≡◌, refl, Bool, true, false, cond, List, [], ◌∷◌, ℕ, zero, suc, ◌+◌, ◌≤◌, ◌<◌, eqb, length}
use Rattle.std.proofs.Common.{◌∙◌, arith, leb-true}
use Rattle.exchange.specs.Exchange.{Event}
use Rattle.protocol.specs.Scripts.{Byte}
use Rattle.protocol.specs.Calls.{is_opening}
use Rattle.protocol.specs.Session.{Running, idle, busy, Books, last_caller, ceiling, admits, fresh, Entry, call, event, Output, orders, answers, rejects}
use Rattle.protocol.specs.Session.{effect_of, given, outputs}
use Rattle.protocol.specs.Record.{Record, Note, observed, add_call, add_event, add, record_of, lines_of, frames, frames_since_opening, frames_by}
use Rattle.protocol.proofs.RunLaws.{call_cases, kept-after}
use Rattle.protocol.proofs.Count.{counts_right}
use Rattle.protocol.specs.CountSum.{sum_over_callers, Known, counts_after, frames_in}

event_known : (e : Event) (l : Record) (ns : List Note) (out : Output Byte) → Known ns → Known (add_event e l ns out).notes
event_known e l [] out h = tt
event_known e l (x ∷ ns) (orders o) h = h
event_known e l (x ∷ ns) (answers a) h = h
event_known e l (x ∷ ns) (rejects r) h = h

entry_known : (p : Running) (b : Books) (l : Record) (ns : List Note) (e : Entry) → Known ns → Known (add (observed l ns) e (given (effect_of p b e))).notes
entry_known idle b l ns (call caller c room) h =
    call_cases (λ o. Known (add_call caller c l ns (given o)).notes) (λ _. caller ≤ last_caller) c
    (λ _. h) (λ x phase k. (k, h)) (λ a k. (k, h)) (admits b c) caller room (λ s a. leb-true caller last_caller a.known)
entry_known idle b l ns (event e room) h = event_known e l ns _ h
entry_known (busy d phase) b l ns (call caller c room) h = h
entry_known (busy d phase) b l ns (event e room) h = event_known e l ns _ h

known-after : (es : List Entry) → Known (record_of es (outputs fresh es)).notes
known-after es = kept-after (λ s w. Known w.notes) (λ s w e. entry_known s.running s.books w.lines w.notes e) fresh (observed [] []) es tt

-- ---- the sum

-- a call's frames are those of one caller
one_caller : (c f : ℕ) → c ≤ last_caller → sum_over_callers (λ k. cond (eqb k c) f 0) ≡ f
one_caller zero f h = omega arith
one_caller (suc zero) f h = omega arith
one_caller (suc (suc zero)) f h = omega arith
one_caller (suc (suc (suc zero))) f h = omega arith
one_caller (suc (suc (suc (suc zero)))) f h = omega arith
one_caller (suc (suc (suc (suc (suc zero))))) f h = omega arith
one_caller (suc (suc (suc (suc (suc (suc zero)))))) f h = omega arith
one_caller (suc (suc (suc (suc (suc (suc (suc zero))))))) f h = omega arith
one_caller (suc (suc (suc (suc (suc (suc (suc (suc c)))))))) f h = absurd (omega arith)

all_callers : (l : Record) (ns : List Note) → Known ns → sum_over_callers (λ k. frames_by k l ns) ≡ frames_since_opening l ns
all_callers l [] h = refl
all_callers l (x ∷ ns) h = go (is_opening x.call) (all_callers l ns h.1)
  where
    go : (t : Bool) → sum_over_callers (λ k. frames_by k l ns) ≡ frames_since_opening l ns → sum_over_callers (λ k. cond (eqb k x.caller) (frames (lines_of (length ns) l)) 0 + cond t 0 (frames_by k l ns))
        ≡ frames (lines_of (length ns) l) + cond t 0 (frames_since_opening l ns)
    go true e = omega (arith, one_caller x.caller (frames (lines_of (length ns) l)) h.0)
    go false e = omega (arith, one_caller x.caller (frames (lines_of (length ns) l)) h.0, e)

pub counts-add_up : (es : List Entry) → ((k : ℕ) → k ≤ last_caller → counts_after es k < ceiling)
    → sum_over_callers (counts_after es) ≡ frames_since_opening (record_of es (outputs fresh es)).lines (record_of es (outputs fresh es)).notes
counts-add_up es below = sums ∙ all_callers (record_of es (outputs fresh es)).lines (record_of es (outputs fresh es)).notes (known-after es)
  where
    exact : (k : ℕ) → k ≤ last_caller → counts_after es k ≡ frames_in es k
    exact k h = omega (arith, counts_right es k h, below k h)

    sums : sum_over_callers (counts_after es) ≡ sum_over_callers (frames_in es)
    sums = omega (arith, exact 0 (omega arith), exact 1 (omega arith), exact 2 (omega arith), exact 3 (omega arith), exact 4 (omega arith), exact 5 (omega arith), exact 6 (omega arith), exact 7 (omega arith))
