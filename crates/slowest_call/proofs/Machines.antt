-- The same of a machine that simulates the definitions: of the record that its own outputs make.
use Rattle.std.specs.Prelude.{◌≡◌, refl, Bool, true, List, [], ◌∷◌, map, ℕ, ◌+◌, ◌≤◌}
use Rattle.std.proofs.Common.{sym, ap, ◌∙◌, subst}
use Rattle.std.proofs.lemmas.Bool.{false≢true}
use Rattle.std.proofs.Math.Option.{none, some}
use Rattle.exchange.specs.Exchange.{Order}
use Rattle.protocol.specs.Scripts.{Byte}
use Rattle.protocol.specs.Calls.{Call}
use Rattle.protocol.specs.Session.{Session, Running, idle, busy, Books, fresh, call, Output, orders, answers, rejects, buffer_need, step, outputs, session_after}
use Rattle.protocol.specs.Record.{Item, ordered, Record, Note, observed, lines_of, seen_item, events, idle_reads, note, add_call, observe, line}
use Rattle.protocol.specs.Machine.{output_values, Machine, given_out, state_after, entries}
use Rattle.protocol.proofs.Machine.{same_out, still_represents}
use Rattle.protocol.specs.Runs.{EventAndRoom, event_entry, call_entries, lines_from}
use Rattle.slowest_call.specs.Question.{is_order, ends_at_last, roomy, events_of}
use Rattle.slowest_call.specs.Kinds.{Kind, kind_of, most, start, slowest}
use Rattle.slowest_call.specs.Weights.{none_of_kind}
use Rattle.slowest_call.proofs.Theorem.{slowest-run}
use Rattle.slowest_call.specs.Machines.{new_items, lines_given, mode_behind, machine_lines, MachineRun}

pub observed-items : (es : List EventAndRoom) (outs : List (Output Byte)) (l : Record) (y : Note)
    → lines_of 0 (observe (observed l (y ∷ [])) (map event_entry es) outs).lines ≡ new_items es outs (lines_of 0 l)
observed-items [] outs l y = refl
observed-items (e ∷ es) [] l y = refl
observed-items (e ∷ es) (orders x ∷ outs) l y = observed-items es outs _ y
observed-items (e ∷ es) (answers a ∷ outs) l y = observed-items es outs _ _
observed-items (e ∷ es) (rejects r ∷ outs) l y = observed-items es outs l y

-- ---- they are those of the definitions' record

items-plain : (es : List EventAndRoom) (outs : List (Output Byte)) (xs : List Item) → new_items es (map output_values outs) xs ≡ new_items es outs xs
items-plain [] outs xs = refl
items-plain (e ∷ es) [] xs = refl
items-plain (e ∷ es) (orders x ∷ outs) xs = items-plain es outs _
items-plain (e ∷ es) (answers a ∷ outs) xs = items-plain es outs _
items-plain (e ∷ es) (rejects r ∷ outs) xs = items-plain es outs xs

lines_plain : (mode : Bool) (es : List EventAndRoom) (outs : List (Output Byte)) → lines_given mode es (map output_values outs) ≡ lines_given mode es outs
lines_plain mode es [] = refl
lines_plain mode es (orders x ∷ outs) = ap (map (seen_item mode)) (items-plain es outs (ordered x ∷ []))
lines_plain mode es (answers a ∷ outs) = refl
lines_plain mode es (rejects r ∷ outs) = refl

ends_plain : (outs : List (Output Byte)) → ends_at_last (map output_values outs) ≡ ends_at_last outs
ends_plain [] = refl
ends_plain (orders x ∷ outs) = ends_plain outs
ends_plain (answers a ∷ []) = refl
ends_plain (answers a ∷ (out ∷ outs)) = refl
ends_plain (rejects r ∷ outs) = refl

first-line : (mode : Bool) (caller : ℕ) (c : Call) (es : List EventAndRoom) (o : Output Byte) (outs : List (Output Byte)) → is_order o ≡ true
    → lines_given mode es (o ∷ outs) ≡ map (seen_item mode) (lines_of 0 (observe (add_call caller c [] [] o) (map event_entry es) outs).lines)
first-line mode caller c es (orders x) outs h = ap (map (seen_item mode)) (sym (observed-items es outs (line 0 (ordered x) ∷ []) (note caller c none)))
first-line mode caller c es (answers a) outs h = absurd (false≢true h)
first-line mode caller c es (rejects r) outs h = absurd (false≢true h)

module _ (caller : ℕ) (c : Call) (room : ℕ) (es : List EventAndRoom) where
  lines-from : (m : Session) → is_order (step m (call caller c room)).output ≡ true
      → lines_given (mode_behind m caller c room) es (outputs m (call_entries caller c room es)) ≡ lines_from m caller c room es
  lines-from m h = go m.running m.books h
    where
      go : (r : Running) (b : Books) → is_order (step (record { running = r; books = b }) (call caller c room)).output ≡ true
          → lines_given (mode_behind (record { running = r; books = b }) caller c room) es (outputs (record { running = r; books = b }) (call_entries caller c room es))
          ≡ lines_from (record { running = r; books = b }) caller c room es
      go idle b h =
          let first = step (record { running = idle; books = b }) (call caller c room) in
          first-line first.state.books.padded caller c es first.output (outputs first.state (map event_entry es)) h
      go (busy d phase) b h = absurd (false≢true h)

is_order_lem : (o : Output Byte) (x : Order) → output_values o ≡ orders x → o ≡ orders x
is_order_lem (orders y) x e = ap (λ q. orders (order_in q)) e
  where
    order_in : Output ℕ → Order
    order_in (orders z) = z
    order_in (answers a) = y
    order_in (rejects r) = y
is_order_lem (answers a) x e = absurd (false≢true (ap is_order e))
is_order_lem (rejects r) x e = absurd (false≢true (ap is_order e))

module _ (M : Machine) where
  module _ (s : M.State) (m : Session) (h : M.Represents s m) (caller : ℕ) (c : Call) (room : ℕ) (es : List EventAndRoom) (is : List M.Input)
      (e : entries M is ≡ call_entries caller c room es) where
    same-given : given_out M s is ≡ map output_values (outputs m (call_entries caller c room es))
    same-given = same_out M s m h is ∙ ap (λ l. map output_values (outputs m l)) e

    same_lines : is_order (step m (call caller c room)).output ≡ true → machine_lines M s m caller c room es is ≡ lines_from m caller c room es
    same_lines o = ap (lines_given (mode_behind m caller c room) es) same-given ∙ lines_plain _ es (outputs m (call_entries caller c room es)) ∙ lines-from caller c room es m o

  -- none is longer, where an order is given out for the call
  pub machine_longest : (k : Kind) (s : M.State) (m : Session) → M.Represents s m → (caller : ℕ) (c : Call) (room : ℕ) (es : List EventAndRoom) (is : List M.Input)
      → entries M is ≡ call_entries caller c room es → kind_of c ≡ some k → (x : Order) (outs : List (Output ℕ)) → given_out M s is ≡ orders x ∷ outs
      → events (machine_lines M s m caller c room es is) ≤ most k + idle_reads (machine_lines M s m caller c room es is)
  machine_longest k s m h caller c room es is e q x outs g =
      let o : (step m (call caller c room)).output ≡ orders x = is_order_lem _ x (ap (first_or x) (sym (same-given s m h caller c room es is e) ∙ g)) in
      rw (same_lines s m h caller c room es is e (ap is_order o)) (none_of_kind k c q m caller room es (record { order = x; given = o }))
    where
      first_or : Order → List (Output ℕ) → Output ℕ
      first_or x [] = orders x
      first_or x (out ∷ outs) = out

  pub machine_run : (k : Kind) (extra : ℕ) (js is : List M.Input) → entries M js ≡ start k
      → entries M is ≡ call_entries 0 (slowest k).call buffer_need (roomy (events_of (slowest k) extra)) → MachineRun M k extra (state_after M M.new js) is
  machine_run k extra js is p q =
      let c : Call = (slowest k).call in
      let es : List EventAndRoom = roomy (events_of (slowest k) extra) in
      let s : M.State = state_after M M.new js in
      let m : Session = session_after fresh (start k) in
      let h : M.Represents s m = subst (λ l. M.Represents s (session_after fresh l)) p (still_represents M M.new fresh M.begins js) in
      let r = (slowest-run k extra).run in
      let lines = same_lines s m h 0 c buffer_need es is q (ap is_order r.accepted.given) in
      record {
        ended = ap ends_at_last (same-given s m h 0 c buffer_need es is q) ∙ ends_plain (outputs m (call_entries 0 c buffer_need es)) ∙ r.ended;
        idles = ap idle_reads lines ∙ r.idle_reads;
        all = ap events lines ∙ r.length;
      }
