-- The engine simulates the session of the definitions, and so has demand 3.
use Rattle.std.specs.Prelude.{◌≡◌, ℕ, ◌≤◌, Bool, true, false, cond, ◌||◌, List, map, length, replicate, ◌==◌, nat_le, nat_lt}
use Rattle.std.specs.Prelude.{refl}
use Rattle.std.proofs.Common.{sym, ap, ◌∙◌, subst, arith, ltb-true, ltb-false, le-leb}
use Rattle.std.proofs.lemmas.Bool.{lt-leb}
use Rattle.errors.specs.Choice.{pick}
use Rattle.errors.specs.declared.Refusal.{Refusal}
use Rattle.errors.specs.declared.Refusal.TheVariants.{OutOfTurn, ShortBuffer, BadArgument}
use Rattle.exchange.specs.Exchange.{Order, Event}
use Rattle.exchange.specs.Steps.{exchange_at, sending_phase}
use Rattle.protocol.specs.Calls.{ReaderCall, opening, reader, is_padded_mode}
use Rattle.protocol.specs.Starts.{start_of, data_limit}
use Rattle.protocol.specs.Session.{Running, idle, last_caller, seen, started, Entry, call, event, Effect, unchanged as unchanged_of, runs as runs_of, ends, effect_of, after_effect, given, fresh, step, buffer_need}
use Rattle.protocol.specs.Session as Spec
use Rattle.protocol.specs.Machine.{output_values, Machine, Obeys, entries, given_out, state_after}
use Rattle.protocol.proofs.Machine.{obeys}
use Rattle.protocol.specs.Reference.{off_entry, Plain, Padded, reference_of, MachineSame}
use Rattle.protocol.proofs.Reference.{machine_reference, machine_plain}
use Rattle.stages.specs.Decided.{found_limit}
use Rattle.engine.specs.Booking.{book_numbers, Bounded, begun_bounded, books_in_range_lem, open_flag, mode_flag, no_books_lem, bounded as bounded_by}
use Rattle.engine.specs.Books.{no_books, booked as booked_by}
use Rattle.engine.specs.Core.{Arrays, After, unchanged, event_core}
use Rattle.engine.specs.Core.{is_valid_of as valid_core}
use Rattle.engine.specs.Transitions.{no_call_of, valid_call}
use Rattle.engine.specs.SessionSteps.{State, state, state_in, valid, is_valid_state, with_room, with_caller, booked_after_of, stepped_of, event_after, open_in, open_after, start_after, arrays_in, fresh_session}
use Rattle.engine.specs.Inputs.{Input, opens, asks, gives, entry_of, output_of, after_input, act}
use Rattle.engine.specs.Relation.{Position, Wait, call_at, Fields, core_with, arrays_at, PositionAgrees, core_at, running_at, Represents, free, runs, SessionRepresents}
use Rattle.engine.specs.Simulation.{Simulates}
use Rattle.engine.specs.Events.{call_fits, event_sims, open_sims, call_sims}
use Rattle.engine.specs.declared.call.Call.{Call as CallNumbers}
use Rattle.engine.specs.declared.running.Core.{Core}
use Rattle.engine.specs.declared.session.Session.{Session}
use Rattle.calls.specs.Kinds.{no_call_kind}

-- ---- what an entry leaves of a session, beside what the definitions say

pub record EntryRefines (m : Spec.Session) (e : Entry) (a : After State) (o : Effect) : Type 0 where
  pub represents : SessionRepresents (stepped_of a).session (after_effect m e o)
  pub output : output_of a.output a.buffer ≡ output_values (given o)

module _ (m : Running) (b : Spec.Books) (bounds : Bounded b) where
  abbrev pub specified : Spec.Session
  specified = record { running = m; books = b }

  -- an entry that is refused
  refused-refines : {s : Core} {f : Arrays} (e : Entry) (r : Refusal) (buffer : List ℕ) → Represents s f m
      → EntryRefines specified e (unchanged (state s (book_numbers b)) f r buffer) (unchanged_of r)
  refused-refines e r buffer h = record { represents = record { call = h; booked = refl; bounded = bounds }; output = refl }

  -- an event, of the caller whose call runs
  event-refines : (t : Bool) (room : ℕ) (e : Event) (a : After Core) (o : Effect) → Simulates t m a o
      → EntryRefines specified (event e room) (booked_after_of b.caller t (book_numbers b) a) o
  event-refines t room e a (unchanged_of r) h = record { represents = record { call = h.represents; booked = h.booked b.caller b bounds; bounded = bounds }; output = h.output }
  event-refines t room e a (runs_of c x phase) h =
      record { represents = record { call = h.represents; booked = h.booked b.caller b bounds; bounded = bounded_by b.caller (runs_of c x phase) b bounds.caller bounds }; output = h.output }
  event-refines t room e a (ends c d) h =
      record { represents = record { call = h.represents; booked = h.booked b.caller b bounds; bounded = bounded_by b.caller (ends c d) b bounds.caller bounds }; output = h.output }

  -- a call of caller k
  opening-refines : (k mode room : ℕ) (a : After Core) (x : Order) (phase : Spec.Phase) → k ≤ last_caller → mode ≤ 1 → Simulates true m a (runs_of (opening mode) x phase)
      → EntryRefines specified (call k (opening mode) room) (booked_after_of k true (no_books mode) a) (runs_of (opening mode) x phase)
  opening-refines k mode room a x phase caller fits h =
      let begun : Spec.Books = Spec.no_books (is_padded_mode mode) 0 in
      let begun-bounds : Bounded begun = begun_bounded (is_padded_mode mode) 0 (omega arith) in
      record {
        represents = record {
          call = h.represents;
          booked = ap (booked_by k true a.output) (no_books_lem mode fits) ∙ h.booked k begun begun-bounds;
          bounded = bounded_by k (runs_of (opening mode) x phase) begun caller begun-bounds;
        };
        output = h.output;
      }

  call-refines : (k : ℕ) (q : ReaderCall) (room : ℕ) (a : After Core) (o : Effect) → k ≤ last_caller → Simulates false m a o
      → EntryRefines specified (call k (reader q) room) (booked_after_of k false (book_numbers b) a) o
  call-refines k q room a (unchanged_of r) caller h = record { represents = record { call = h.represents; booked = h.booked k b bounds; bounded = bounds }; output = h.output }
  call-refines k q room a (runs_of c x phase) caller h =
      record { represents = record { call = h.represents; booked = h.booked k b bounds; bounded = bounded_by k (runs_of c x phase) b caller bounds }; output = h.output }
  call-refines k q room a (ends c d) caller h =
      record { represents = record { call = h.represents; booked = h.booked k b bounds; bounded = bounded_by k (ends c d) b caller bounds }; output = h.output }

refines_if : {m : Spec.Session} {e : Entry} (t : Bool) {x y : After State} {u w : Effect} → (t ≡ true → EntryRefines m e x u) → (t ≡ false → EntryRefines m e y w)
    → EntryRefines m e (pick t x y) (cond t u w)
unfolding pick
refines_if true h k = h refl
refines_if false h k = k refl

-- a caller above 7 is refused
refines_caller : {m : Spec.Session} {e : Entry} (k : ℕ) {x y : After State} {u w : Effect} → EntryRefines m e x w → (k ≤ last_caller → EntryRefines m e y u)
    → EntryRefines m e (pick (nat_lt last_caller k) x y) (cond (nat_le k last_caller) u w)
unfolding pick
refines_caller {m} {e} k {x} {y} {u} {w} h g = go (nat_lt last_caller k) refl
  where
    go : (t : Bool) → nat_lt last_caller k ≡ t → EntryRefines m e (pick t x y) (cond (nat_le k last_caller) u w)
    go true q = rw (lt-leb k last_caller (ltb-true last_caller k q)) h
    go false q = rw (le-leb k last_caller (ltb-false last_caller k q)) (g (ltb-false last_caller k q))

-- ---- the entries

-- numbers that stand for a running call, and books that stand for books, are in range
in_range_lem : (v : Fields) (c : CallNumbers) (b : Spec.Books) → Bounded b → valid_call c ≡ true → is_valid_state (state (core_with v c) (book_numbers b)) ≡ true
unfolding valid valid_core
in_range_lem v c b bounds h = rw (v.pending_fits, v.kept_fits, v.phase_fits, h) (books_in_range_lem b bounds)

running_refines : (p : Position) (w : Wait p) (v : Fields) → PositionAgrees p v → (b : Spec.Books) (bounds : Bounded b) (i : Input)
    → EntryRefines (specified (running_at p w v) b bounds) (entry_of i) (after_input (state (core_at p w v) (book_numbers b)) (arrays_at v) i) (effect_of (running_at p w v) b (entry_of i))
unfolding open_after start_after event_after pick
running_refines p w v agrees b bounds i = go i (in_range_lem v (call_at p w) b bounds (call_fits p w)) p.running
  where
    here : Represents (core_at p w v) (arrays_at v) (running_at p w v)
    here = runs p w v agrees refl refl refl

    go : (i : Input) → is_valid_state (state (core_at p w v) (book_numbers b)) ≡ true → (p.kind == no_call_kind) ≡ false
        → EntryRefines (specified (running_at p w v) b bounds) (entry_of i) (after_input (state (core_at p w v) (book_numbers b)) (arrays_at v) i) (effect_of (running_at p w v) b (entry_of i))
    go (opens c mode buffer) h k = rw (h, k) (refused-refines (running_at p w v) b bounds _ OutOfTurn buffer here)
    go (asks c q buffer) h k = rw (h, k) (refused-refines (running_at p w v) b bounds _ OutOfTurn buffer here)
    go (gives e buffer) h k =
        rw (h, p.opens, mode_flag b) (event-refines (running_at p w v) b bounds _ (length buffer) e _ _ (event_sims p w v agrees (seen b.padded e) buffer))

or-true : (t : Bool) → (t || true) ≡ true
or-true true = refl
or-true false = refl

or_false : (t : Bool) → (t || false) ≡ t
or_false true = refl
or_false false = refl

free_refines : (v : Fields) (b : Spec.Books) (bounds : Bounded b) (i : Input)
    → EntryRefines (specified idle b bounds) (entry_of i) (after_input (state (core_with v no_call_of) (book_numbers b)) (arrays_at v) i) (effect_of idle b (entry_of i))
unfolding open_after start_after event_after event_core valid_call pick
free_refines v b bounds i = go i (in_range_lem v no_call_of b bounds refl)
  where
    here : Represents (core_with v no_call_of) (arrays_at v) idle
    here = free v refl refl refl

    stays : (e : Entry) (r : Refusal) (buffer : List ℕ) → EntryRefines (specified idle b bounds) e (unchanged (state (core_with v no_call_of) (book_numbers b)) (arrays_at v) r buffer) (unchanged_of r)
    stays e r buffer = refused-refines idle b bounds e r buffer here

    -- 2, a caller's 4, and then what the call does
    called : {e : Entry} (k : ℕ) (buffer : List ℕ) {x : After State} {u : Effect} → (k ≤ last_caller → EntryRefines (specified idle b bounds) e x u)
        → EntryRefines (specified idle b bounds) e (with_room (state (core_with v no_call_of) (book_numbers b)) (arrays_at v) buffer (with_caller (state (core_with v no_call_of) (book_numbers b)) (arrays_at v) k buffer x))
        (Spec.with_room (length buffer) (Spec.with_caller k u))
    called k buffer h = refines_if (nat_lt (length buffer) buffer_need) (λ _. stays _ ShortBuffer buffer) (λ _. refines_caller k (stays _ BadArgument buffer) h)

    in-mode : (k mode : ℕ) (buffer : List ℕ) → k ≤ last_caller → (t : Bool) → nat_lt 1 mode ≡ t
        → EntryRefines (specified idle b bounds) (call k (opening mode) (length buffer)) (open_in (state (core_with v no_call_of) (book_numbers b)) (arrays_at v) k mode buffer) (started (opening mode) (start_of (opening mode)))
    in-mode k mode buffer caller true e = rw (e, lt-leb mode 1 (ltb-true 1 mode e)) (stays _ BadArgument buffer)
    in-mode k mode buffer caller false e =
        let fits : mode ≤ 1 = ltb-false 1 mode e in
        rw (e, le-leb mode 1 fits) (opening-refines idle b bounds k mode (length buffer) _ _ _ caller fits (open_sims v mode buffer))

    go : (i : Input) → is_valid_state (state (core_with v no_call_of) (book_numbers b)) ≡ true
        → EntryRefines (specified idle b bounds) (entry_of i) (after_input (state (core_with v no_call_of) (book_numbers b)) (arrays_at v) i) (effect_of idle b (entry_of i))
    go (opens k mode buffer) h = rw (h, or-true b.opened) (called k buffer (λ caller. in-mode k mode buffer caller (nat_lt 1 mode) refl))
    go (asks k q buffer) h =
        rw (h, open_flag b, or_false b.opened)
        (refines_if b.opened
        (λ _. called k buffer (λ caller. call-refines idle b bounds k q (length buffer) _ _ caller (call_sims v q buffer)))
        (λ _. stays _ OutOfTurn buffer))
    go (gives e buffer) h = rw h (stays _ OutOfTurn buffer)

-- ---- the theorem

abbrev pub Simulated : Input → Session → Spec.Session → Type 0
Simulated i s m = SessionRepresents (act s i).state (step m (entry_of i)).state × ((act s i).output ≡ output_values (step m (entry_of i)).output)

by_input : (i : Input) (s : Session) (m : Spec.Session) → EntryRefines m (entry_of i) (after_input (state_in s) (arrays_in s) i) (effect_of m.running m.books (entry_of i)) → Simulated i s m
by_input i s m h = (h.represents, h.output)

parts_refine : (s : Core) (f : Arrays) (r : Running) (b : Spec.Books) (bounds : Bounded b) (i : Input) → Represents s f r
    → EntryRefines (specified r b bounds) (entry_of i) (after_input (state s (book_numbers b)) f i) (effect_of r b (entry_of i))
parts_refine s f r b bounds i (free v p q e) = rw (p, q, e) (free_refines v b bounds i)
parts_refine s f r b bounds i (runs p w v a q e g) = rw (q, e, g) (running_refines p w v a b bounds i)

pub simulate : (s : Session) (m : Spec.Session) (i : Input) → SessionRepresents s m → Simulated i s m
simulate s m i h =
    by_input i s m
    (subst (λ b. EntryRefines m (entry_of i) (after_input (state s.core b) (arrays_in s) i) (effect_of m.running m.books (entry_of i))) (sym h.booked)
    (parts_refine s.core (arrays_in s) m.running m.books h.bounded i h.call))

pub same-counts : (s : Session) (m : Spec.Session) → SessionRepresents s m → s.frames ≡ m.books.counts
same-counts s m h = ap (λ b. b.frames) h.booked

pub fresh_represents : SessionRepresents fresh_session fresh
fresh_represents =
    let w : Fields = record {
      command = replicate data_limit 0;
      found = replicate found_limit 0;
      pending = 0;
      kept = 0;
      exchange = exchange_at sending_phase 0 0;
      pending_fits = refl;
      kept_fits = refl;
      phase_fits = refl;
    } in
    record { call = free w refl refl refl; booked = refl; bounded = begun_bounded false 0 (omega arith) }

abbrev pub engine : Machine
engine = record {
  State = Session;
  Input = Input;
  entry = entry_of;
  new = fresh_session;
  act = act;
  frames = λ s. s.frames;
  Represents = SessionRepresents;
  begins = fresh_represents;
  counts = same-counts;
  simulates = simulate;
}

-- demand 3 of the engine: for every list of entries, from a fresh session
pub engine_demand3 : (is : List Input) → Obeys engine is
engine_demand3 is = obeys engine is

-- the padded mode of the engine against its reference; with no padded packet both modes are the same
pub engine_reference : (is js : List Input) → Padded (entries engine is) → entries engine js ≡ reference_of (entries engine is) → MachineSame engine is js
engine_reference is js = machine_reference engine is js

pub engine-plain : (is js : List Input) → Plain (entries engine is) → entries engine js ≡ map off_entry (entries engine is)
    → (given_out engine fresh_session is ≡ given_out engine fresh_session js)
    × ((state_after engine fresh_session is).frames ≡ (state_after engine fresh_session js).frames)
engine-plain is js = machine_plain engine is js
