-- The books in numbers stand for the books of the definitions: whatever is booked of an output is what the definitions book.
use Rattle.std.specs.Prelude.{◌≡◌, ℕ, zero, suc, ◌+◌, ◌≤◌, min, Bool, true, false, cond, List, [], ◌∷◌, length, ◌==◌, nat_le, nat_lt, slice_index, slice_set}
use Rattle.std.specs.Prelude.{refl}
use Rattle.std.proofs.Common.{sym, ap, ◌∙◌, arith, ltb-true, ltb-false, le-leb, leb-true}
use Rattle.errors.specs.Choice.{pick}
use Rattle.framing.specs.Frames.{ack}
use Rattle.framing.specs.Valid.{both_left, both_right}
use Rattle.exchange.specs.Packets.{command_frame, is_ack}
use Rattle.exchange.specs.Exchange.{Order, write, read, drain, pause}
use Rattle.protocol.specs.Scripts.{Byte, Answer}
use Rattle.protocol.specs.Calls.{Call, is_opening, is_padded_mode}
use Rattle.protocol.proofs.Count.{length-counted}
use Rattle.protocol.specs.Session.{last_caller, add_frame, counted, counted_for, ceiling, succeeds, book_order, book_answer, Effect, unchanged, runs, ends, book_effect, caller_count}
use Rattle.protocol.specs.Session as Spec
use Rattle.protocol.specs.Laws.{frame_not_ack, ack_is_ack}
use Rattle.engine.specs.Books.{Books, books, books_of, opened_in, mode_in, caller_in, no_books, is_in_range, one_more_of, by_caller, ended, booked}
use Rattle.engine.specs.declared.running.Output.TheVariants.{Command}

-- a flag as a number
abbrev flag : Bool → ℕ
flag t = cond t 1 0

flag-fits : (t : Bool) → nat_le (flag t) 1 ≡ true
flag-fits true = refl
flag-fits false = refl

flag_is : (t : Bool) → (flag t == 1) ≡ t
flag_is true = refl
flag_is false = refl

-- what holds of the books of a session: the caller is one of the eight, there are eight counts, and none is above the ceiling
abbrev AllFew : List ℕ → Type 0
AllFew [] = Unit {0}
AllFew (n ∷ ns) = (n ≤ ceiling) × AllFew ns

pub record Bounded (b : Spec.Books) : Type 0 where
  pub caller : b.caller ≤ last_caller
  pub eight : length b.counts ≡ caller_count
  pub few : AllFew b.counts

pub begun_bounded : (padded : Bool) (k : ℕ) → k ≤ last_caller → Bounded (Spec.no_books padded k)
begun_bounded padded k h =
    record { caller = h; eight = refl; few = (omega arith, (omega arith, (omega arith, (omega arith, (omega arith, (omega arith, (omega arith, (omega arith, tt)))))))) }

abbrev pub book_numbers : Spec.Books → Books
book_numbers b = books (flag b.opened) (flag b.padded) b.caller b.counts

pub books_in_range_lem : (b : Spec.Books) → Bounded b → is_in_range (book_numbers b) ≡ true
books_in_range_lem b h = rw (flag-fits b.opened, flag-fits b.padded) (le-leb b.caller last_caller h.caller)

pub open_flag : (b : Spec.Books) → (opened_in (book_numbers b) == 1) ≡ b.opened
open_flag b = flag_is b.opened

pub mode_flag : (b : Spec.Books) → is_padded_mode (mode_in (book_numbers b)) ≡ b.padded
mode_flag b = flag_is b.padded

-- where an opening begins, in a mode that there is
pub no_books_lem : (mode : ℕ) → mode ≤ 1 → no_books mode ≡ book_numbers (Spec.no_books (is_padded_mode mode) 0)
no_books_lem zero h = refl
no_books_lem (suc zero) h = refl
no_books_lem (suc (suc mode)) h = absurd (omega arith)

one_more : (n : ℕ) → n ≤ ceiling → one_more_of n ≡ min (suc n) ceiling
unfolding one_more_of pick
one_more n h = go (nat_lt n ceiling) refl
  where
    go : (t : Bool) → nat_lt n ceiling ≡ t → pick t (n + 1) n ≡ min (suc n) ceiling
    go true e = omega (arith, ltb-true n ceiling e)
    go false e = omega (arith, ltb-false n ceiling e)

-- ---- what is booked, of the call of caller k

-- the books with another caller
abbrev by_spec : ℕ → Spec.Books → Spec.Books
by_spec k b = record { opened = b.opened; padded = b.padded; caller = k; counts = b.counts }

-- what the definitions book of an effect; a refusal at once leaves the books, the caller too
abbrev pub book_by : ℕ → Effect → Spec.Books → Spec.Books
book_by k (unchanged r) b = b
book_by k (runs c x phase) b = book_effect (runs c x phase) (by_spec k b)
book_by k (ends c a) b = book_effect (ends c a) (by_spec k b)

-- an order that is no command
quiet : (x : Order) → ((n : ℕ) → counted x n ≡ n) → (k : ℕ) (ns : List ℕ) → counted_for k x ns ≡ ns
quiet x h k [] = refl
quiet x h zero (n ∷ ns) = ap (λ m. m ∷ ns) (h n)
quiet x h (suc k) (n ∷ ns) = ap (λ ms. n ∷ ms) (quiet x h k ns)

pub quiet_booked : (k : ℕ) (x : Order) (b : Spec.Books) → ((n : ℕ) → counted x n ≡ n) → by_caller k (book_numbers b) ≡ book_numbers (book_order x (by_spec k b))
quiet_booked k x b h = ap (books (flag b.opened) (flag b.padded) k) (sym (quiet x h k b.counts))

pub ack-counts : (n : ℕ) → counted (write ack) n ≡ n
ack-counts n = ap (λ t. add_frame t n) ack_is_ack

-- a command
count_set : (bytes : List ℕ) → is_ack bytes ≡ false → (k : ℕ) (ns : List ℕ) → AllFew ns → slice_set ns k (one_more_of (slice_index ns k)) ≡ counted_for k (write bytes) ns
count_set bytes e k [] h = refl
count_set bytes e zero (n ∷ ns) h = ap (λ m. m ∷ ns) (one_more n h.0 ∙ ap (λ t. add_frame t n) (sym e))
count_set bytes e (suc k) (n ∷ ns) h = ap (λ ms. n ∷ ms) (count_set bytes e k ns h.1)

pub frame-booked : (k : ℕ) (opens : Bool) (n code : ℕ) (bytes : List ℕ) (b : Spec.Books) → Bounded b
    → booked k opens (Command n) (book_numbers b) ≡ book_numbers (book_order (write (command_frame code bytes)) (by_spec k b))
frame-booked k opens n code bytes b h =
    ap (books (flag b.opened) (flag b.padded) k) (count_set (command_frame code bytes) (frame_not_ack code bytes) k b.counts h.few)

-- the end of a call, an opening or not, with success or not
pub end-booked : (c : Call) (a : Answer Byte) (k : ℕ) (b : Spec.Books)
    → ended (by_caller k (book_numbers b)) (is_opening c) (cond (succeeds a) 1 0) ≡ book_numbers (book_answer c a (by_spec k b))
unfolding ended pick
end-booked c a k b = go (is_opening c)
  where
    go : (t : Bool) → ended (by_caller k (book_numbers b)) t (cond (succeeds a) 1 0)
        ≡ books (flag (cond t (succeeds a) b.opened)) (flag b.padded) k b.counts
    go true = refl
    go false = refl

-- books in range have one of the eight callers
pub range_caller : (b : Books) → is_in_range b ≡ true → caller_in b ≤ last_caller
range_caller b h = leb-true (caller_in b) last_caller (both_right (nat_le (mode_in b) 1) _ (both_right (nat_le (opened_in b) 1) _ h))

-- a fault leaves the books in range
pub ended_range : (b : Books) (k : ℕ) (t : Bool) → is_in_range b ≡ true → k ≤ last_caller → is_in_range (ended (by_caller k b) t 0) ≡ true
unfolding ended pick
ended_range b k t h q = go b.numbers t h (le-leb k last_caller q)
  where
    go : (l : List ℕ) (t : Bool) → is_in_range (books_of l b.frames) ≡ true → nat_le k last_caller ≡ true
        → is_in_range (ended (by_caller k (books_of l b.frames)) t 0) ≡ true
    go [] true h c = refl
    go [] false h c = refl
    go (o ∷ []) true h c = refl
    go (o ∷ []) false h c = h
    go (o ∷ m ∷ []) true h c = both_right (nat_le o 1) _ h
    go (o ∷ m ∷ []) false h c = h
    go (o ∷ m ∷ j ∷ l) true h c = rw (both_left (nat_le m 1) _ (both_right (nat_le o 1) _ h), c) refl
    go (o ∷ m ∷ j ∷ l) false h c = rw (both_left (nat_le o 1) _ h, both_left (nat_le m 1) _ (both_right (nat_le o 1) _ h), c) refl

-- ---- the books stay bounded

few_counted : (x : Order) (n : ℕ) → n ≤ ceiling → counted x n ≤ ceiling
few_counted (write bytes) n h = go (is_ack bytes)
  where
    go : (t : Bool) → add_frame t n ≤ ceiling
    go true = h
    go false = omega arith
few_counted (read ms) n h = h
few_counted drain n h = h
few_counted (pause us) n h = h

all_few : (x : Order) (k : ℕ) (ns : List ℕ) → AllFew ns → AllFew (counted_for k x ns)
all_few x k [] h = tt
all_few x zero (n ∷ ns) h = (few_counted x n h.0, h.1)
all_few x (suc k) (n ∷ ns) h = (h.0, all_few x k ns h.1)

pub bounded : (k : ℕ) (o : Effect) (b : Spec.Books) → k ≤ last_caller → Bounded b → Bounded (book_by k o b)
bounded k (unchanged r) b h q = q
bounded k (runs c x phase) b h q =
    record { caller = h; eight = length-counted k x b.counts ∙ q.eight; few = all_few x k b.counts q.few }
bounded k (ends c a) b h q = record { caller = h; eight = q.eight; few = q.few }
