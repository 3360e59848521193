-- The record as the modes see its packets: it grows by what the mode of the session sees of each event.
use Rattle.std.specs.Prelude.{◌≡◌, refl, Bool, false, List, [], ◌∷◌, ℕ, suc, ◌≤◌, eqb, length}
use Rattle.std.proofs.Common.{ap, ◌∙◌, arith, eq-eqb, ne_eqb}
use Rattle.std.proofs.Math.Option.{Option, none, some}
use Rattle.protocol.specs.Scripts.{Byte, Answer}
use Rattle.protocol.specs.Calls.{Call, opening, reader}
use Rattle.protocol.specs.Session.{Books, seen_entry, Entry, call, event, Output, orders, answers, rejects, Effect, unchanged, runs, ends, books_after, given}
use Rattle.protocol.specs.Record.{Item, ordered, accepted, Record, Note, note, observed, add, lines_of, mode_by, mode_at, mode_of, seen_item, seen_lines, as_seen, line}
use Rattle.protocol.specs.Laws.{split, lines_other}
use Rattle.protocol.specs.Seen.{Unused, BooksAt, OffCall, AllOff}

pub no_lines : (l : Record) (n m : ℕ) → Unused l n → n ≤ m → lines_of m l ≡ []
no_lines [] n m u h = refl
no_lines (x ∷ l) n m u h = lines_other m x.number l x.item (λ e. omega (arith, u.0)) ∙ no_lines l n m u.1 h

pub more_unused : (l : Record) (n : ℕ) → Unused l n → Unused l (suc n)
more_unused [] n u = tt
more_unused (x ∷ l) n u = (omega (arith, u.0), more_unused l n u.1)

pub unused_seen : (l : Record) (ns : List Note) (n : ℕ) → Unused (seen_lines l ns) n → Unused l n
unused_seen [] ns n u = tt
unused_seen (x ∷ l) ns n u = (u.0, unused_seen l ns n u.1)

-- a new call's note is about no line that is there; an answer changes no mode
seen-fresh : (l : Record) (y : Note) (ns : List Note) → Unused l (length ns) → seen_lines l (y ∷ ns) ≡ seen_lines l ns
seen-fresh [] y ns u = refl
seen-fresh (x ∷ l) y ns u = rw (ne_eqb x.number (length ns) (λ e. omega (arith, u.0)), seen-fresh l y ns u.1)

seen-answered : (l : Record) (x : Note) (a : Option (Answer Byte)) (ns : List Note) → seen_lines l (note x.caller x.call a ∷ ns) ≡ seen_lines l (x ∷ ns)
seen-answered [] x a ns = refl
seen-answered (z ∷ l) x a ns = rw (seen-answered l x a ns)

pub add-seen : (l : Record) (ns : List Note) (e : Entry) (out : Output Byte) → Unused l (length ns)
    → as_seen (add (observed l ns) e out) ≡ add (as_seen (observed l ns)) (seen_entry (mode_at ns) e) out
add-seen l ns (call k c room) (orders x) u = ap (λ m. observed (line (length ns) (ordered x) ∷ m) (note k c none ∷ ns)) (seen-fresh l (note k c none) ns u)
add-seen l ns (call k c room) (answers a) u = ap (λ m. observed m (note k c (some a) ∷ ns)) (seen-fresh l (note k c (some a)) ns u)
add-seen l ns (call k c room) (rejects r) u = refl
add-seen l [] (event e room) out u = refl
add-seen l (x ∷ ns) (event e room) (orders o) u = rw (eq-eqb (length ns) (length ns) refl)
add-seen l (x ∷ ns) (event e room) (answers a) u = rw (eq-eqb (length ns) (length ns) refl, seen-answered l x (some a) ns)
add-seen l (x ∷ ns) (event e room) (rejects r) u = refl

pub books-after : (b : Books) (l : Record) (ns : List Note) (e : Entry) (o : Effect) → BooksAt b ns
    → BooksAt (books_after b e o) (add (observed l ns) e (given o)).notes
books-after b l ns (call k c room) (unchanged r) h = h
books-after b l ns (call k (opening m) room) (runs d x phase) h = (refl, refl)
books-after b l ns (call k (opening m) room) (ends d a) h = (refl, refl)
books-after b l ns (call k (reader c) room) (runs d x phase) h = (h.0, refl)
books-after b l ns (call k (reader c) room) (ends d a) h = (h.0, refl)
books-after b l [] (event e room) (unchanged r) h = h
books-after b l [] (event e room) (runs d x phase) h = h
books-after b l [] (event e room) (ends d a) h = h
books-after b l (y ∷ ns) (event e room) (unchanged r) h = h
books-after b l (y ∷ ns) (event e room) (runs d x phase) h = h
books-after b l (y ∷ ns) (event e room) (ends d a) h = h

mode_by_lem : (c : Call) (t : Bool) → OffCall c → t ≡ false → mode_by c t ≡ false
mode_by_lem (opening mode) t h e = h
mode_by_lem (reader c) t h e = e

mode_off : (ns : List Note) → AllOff ns → mode_at ns ≡ false
mode_off [] h = refl
mode_off (x ∷ ns) h = mode_by_lem x.call (mode_at ns) h.0 (mode_off ns h.1)

modes_off : (n : ℕ) (ns : List Note) → AllOff ns → mode_of n ns ≡ false
modes_off n [] h = refl
modes_off n (x ∷ ns) h = split (λ t. t ≡ false) (eqb n (length ns)) _ _ (λ _. mode_off (x ∷ ns) h) (λ _. modes_off n ns h.1)

item_off : (x : Item) → seen_item false x ≡ x
item_off (ordered x) = refl
item_off (accepted e) = refl

pub seen-off : (l : Record) (ns : List Note) → AllOff ns → seen_lines l ns ≡ l
seen-off [] ns h = refl
seen-off (x ∷ l) ns h = rw (modes_off x.number ns h, item_off x.item, seen-off l ns h)
