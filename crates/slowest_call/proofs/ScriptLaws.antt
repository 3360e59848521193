-- A script out of its parts: the fields of the table, and the texts that are put one behind the other.
use mathlib.Core.Path.{◌≡◌, refl, sym, ap, ◌∙◌}
use mathlib.Core.Bool.{Bool, true, false, cond, not, false≢true}
use mathlib.Core.List.{List, [], ◌∷◌, ◌++◌, append_assoc, append-nil, map}
use Rattle.std.specs.Prelude.{Option, None, Some}
use Prim.Native.Nat.{ℕ, zero, suc, ◌+◌, ◌*◌, ◌≤◌, ◌<◌}
use native.Mathlib.Numerals.{add-one}
use native.Mathlib.Omega.{arith}
use native.Mathlib.Nat.{zero-add}
use borrow.Author.Tests.{eqb-true, leb-true, lt-ltb, le-ltb}
use lib.Dec.{eqb, leb}
use lib.ListN.{length, get_or, drop, drop_of_length-le, length-append}
use lib.Seq.{drop-cons}
use Rattle.framing.specs.Frames.{ack}
use Rattle.exchange.specs.Exchange.{Event, pkt}
use Rattle.targets.specs.Bitrates.{ascii}
use Rattle.bench.specs.Hex.{digit_of, digits_of_lem, hex_of}
use Rattle.errors.specs.Choice.{pick, same, in_range}
use Rattle.framing.specs.Lists.{both}
use Rattle.protocol.specs.Calls.{is_opening}
use Rattle.bench.specs.Numbers.{digit_value_of, all_decimal, number_from, is_number, number_of}
use Rattle.bench_input.specs.Lines.{both_parts}
use Rattle.bench.specs.DecimalLaws.{decimal_short}
use Rattle.bench.specs.TextLaws.{none_put, appended, both_appended, then_put, at-start}
use Rattle.protocol.specs.Sample.{formats}
use Rattle.errors.specs.Refusals.{answered, refused, numbered}
use Rattle.errors.specs.declared.Refusal.TheVariants.{OverLong, BadArgument}
use Rattle.framing.specs.Build.{left}
use Rattle.bench.specs.Texts.{placed, put_at, decimal_under, decimal_of, Appends}
use Rattle.slowest_call.specs.Fields.{fields_of}
use Rattle.slowest_call.specs.Kinds.{Kind, opening_kind, kinds, most, slowest, leading_events}
use Rattle.slowest_call.specs.Tables.{wait_text, behind_text, leading_text, fields_for, run_fields, start_text, acks_text, run_text}
use Rattle.slowest_call.specs.Texts.{event_line, call_line, run_lines, separator, joined_behind, joined, script_text, name_of, kind_named_of, kind_count, kind_at, idle_limit, script_limit, script_room, script_of}
use Rattle.slowest_call.specs.Question.{with_acks, events_of}

-- ---- idle reads

pub acks_none : (o : List ℕ) (at : ℕ) → Appends at (acks_text 0) o at o
unfolding acks_text
acks_none o at = none_put o at

-- one more behind the others
acks-more : (n : ℕ) → acks_text n ++ (separator ++ event_line (pkt ack)) ≡ acks_text (n + 1)
unfolding acks_text
acks-more zero = sym (append-nil (separator ++ event_line (pkt ack)))
acks-more (suc n) =
    let z : suc n + 1 ≡ suc (n + 1) = omega arith in
    rw z (append_assoc (separator ++ event_line (pkt ack)) (acks_text n) (separator ++ event_line (pkt ack)) ∙ ap (λ x. separator ++ event_line (pkt ack) ++ x) (acks-more n))

ack-line : ascii " ; pkt 0000FF00FF00" ≡ separator ++ event_line (pkt ack)
unfolding hex_of digits_of_lem digit_of pick
ack-line = refl

pub acks_turn : (i : ℕ) (o o₁ o₂ : List ℕ) (at r₁ r₂ : ℕ) → Appends at (acks_text i) o r₁ o₁ → placed r₂ o₂ ≡ put_at r₁ (ascii " ; pkt 0000FF00FF00") o₁ → Appends at (acks_text (i + 1)) o r₂ o₂
acks_turn i o o₁ o₂ at r₁ r₂ p e = rw (← acks-more i, ← ack-line) (then_put (acks_text i) (ascii " ; pkt 0000FF00FF00") o o₁ o₂ at r₁ r₂ p e)

pub acks-all : (n i : ℕ) (o o₁ : List ℕ) (at r : ℕ) → i ≤ n → n ≤ i → Appends at (acks_text i) o r o₁ → Appends at (acks_text n) o r o₁
acks-all n i o o₁ at r h k p = let e : i ≡ n = omega arith in rw e at p

-- ---- fields of a kind

four : (n j : ℕ) → 4 * suc n + j ≡ suc (suc (suc (suc (4 * n + j))))
four n j = omega arith

-- the fields of the n-th kind, and the one behind all of them
module _ (l : List (List ℕ)) where
  abbrev field_at : ℕ → List ℕ
  field_at k = get_or l k []

record FieldsOfKind (l : List (List ℕ)) (at : ℕ) (k : Kind) : Type 0 where
  name : field_at l (at + 0) ≡ name_of k
  most : field_at l (at + 1) ≡ decimal_of (most k)
  wait : field_at l (at + 2) ≡ wait_text k
  behind : field_at l (at + 3) ≡ behind_text k

fields_at : (ks : List Kind) (n : ℕ) → n < length ks → FieldsOfKind (fields_for ks) (4 * n) (get_or ks n opening_kind)
unfolding fields_for
fields_at [] n h = absurd (omega arith)
fields_at (k ∷ ks) zero h = record { name = refl; most = refl; wait = refl; behind = refl }
fields_at (k ∷ ks) (suc n) h =
    let f = fields_at ks n (omega arith) in
    let at : (j : ℕ) → field_at (fields_for (k ∷ ks)) (4 * suc n + j) ≡ field_at (fields_for ks) (4 * n + j) = λ j. ap (field_at (fields_for (k ∷ ks))) (four n j) in
    record { name = at 0 ∙ f.name; most = at 1 ∙ f.most; wait = at 2 ∙ f.wait; behind = at 3 ∙ f.behind }

leading_at : (ks : List Kind) → field_at (fields_for ks) (4 * length ks + 0) ≡ leading_text
unfolding fields_for
leading_at [] = refl
leading_at (k ∷ ks) = ap (field_at (fields_for (k ∷ ks))) (four (length ks) 0) ∙ leading_at ks

pub leading-field : (w : List ℕ) (k : ℕ) → w ≡ get_or run_fields k [] → k ≡ 4 * kind_count + 0 → w ≡ leading_text
leading-field w k e h = e ∙ ap (field_at run_fields) h ∙ leading_at kinds

module _ (n : ℕ) (within : n < kind_count) (w : List ℕ) (k : ℕ) (is : w ≡ field_at run_fields k) where
  pub name-field : k ≡ 4 * n + 0 → w ≡ name_of (kind_at n)
  name-field h = is ∙ ap (field_at run_fields) h ∙ (fields_at kinds n within).name

  pub most-field : k ≡ 4 * n + 1 → w ≡ decimal_of (most (kind_at n))
  most-field h = is ∙ ap (field_at run_fields) h ∙ (fields_at kinds n within).most

  pub wait_field : k ≡ 4 * n + 2 → w ≡ wait_text (kind_at n)
  wait_field h = is ∙ ap (field_at run_fields) h ∙ (fields_at kinds n within).wait

  pub behind-field : k ≡ 4 * n + 3 → w ≡ behind_text (kind_at n)
  behind-field h = is ∙ ap (field_at run_fields) h ∙ (fields_at kinds n within).behind

-- ---- the kind of a name

pub named_none : (w : List ℕ) → kind_named_of kinds w ≡ kind_named_of (drop 0 kinds) w
named_none w = refl

module _ (w : List ℕ) (n : ℕ) (within : n < kind_count) where
  at-kind : kind_named_of (drop n kinds) w ≡ pick (same (name_of (kind_at n)) w) (Some (kind_at n)) (kind_named_of (drop (n + 1) kinds) w)
  unfolding kind_named_of
  at-kind = rw (drop-cons kinds n opening_kind within, add-one)

  module _ (searched : kind_named_of kinds w ≡ kind_named_of (drop n kinds) w) (t : Bool) (f : List ℕ) (tested : t ≡ same f w) (is : f ≡ name_of (kind_at n)) where
    decided : kind_named_of kinds w ≡ pick t (Some (kind_at n)) (kind_named_of (drop (n + 1) kinds) w)
    decided = searched ∙ at-kind ∙ ap (λ b. pick b (Some (kind_at n)) (kind_named_of (drop (n + 1) kinds) w)) (ap (λ x. same x w) (sym is) ∙ sym tested)

    pub named_here : t ≡ true → Some (kind_at n) ≡ kind_named_of kinds w
    unfolding pick
    named_here e = sym (decided ∙ rw e)

    pub named_later : t ≡ false → kind_named_of kinds w ≡ kind_named_of (drop (n + 1) kinds) w
    unfolding pick
    named_later e = decided ∙ rw e

pub named_nowhere : (w : List ℕ) (n : ℕ) → kind_named_of kinds w ≡ kind_named_of (drop n kinds) w → kind_count ≤ n → None ≡ kind_named_of kinds w
unfolding kind_named_of
named_nowhere w n e h = sym (e ∙ ap (λ l. kind_named_of l w) (drop_of_length-le kinds {i = n} h))

-- ---- what is computed of every kind

abbrev all_of : (Kind → Bool) → List Kind → Bool
all_of f [] = true
all_of f (k ∷ ks) = both (f k) (all_of f ks)

all-at : (f : Kind → Bool) (ks : List Kind) (n : ℕ) → all_of f ks ≡ true → n < length ks → f (get_or ks n opening_kind) ≡ true
all-at f [] n e h = absurd (omega arith)
all-at f (k ∷ ks) zero e h = (both_parts (f k) (all_of f ks) e).0
all-at f (k ∷ ks) (suc n) e h = all-at f ks n (both_parts (f k) (all_of f ks) e).1 (omega arith)

-- the first kind is the opening, and no other is one
is_other : Kind → Bool
is_other k = not (is_opening (slowest k).call)

others : all_of is_other (drop 1 kinds) ≡ true
unfolding is_other
others = refl

opening_first : (n : ℕ) → n < kind_count → (n ≡ 0 → ⊥) → is_other (kind_at n) ≡ true
opening_first zero h other = absurd (other refl)
opening_first (suc n) h other = all-at is_other (drop 1 kinds) n others (omega arith)

not-true : (t : Bool) → not t ≡ true → t ≡ false
not-true true h = absurd (false≢true h)
not-true false h = refl

module _ (n : ℕ) (o : List ℕ) (at : ℕ) where
  pub start_none : n ≡ 0 → Appends at (start_text (kind_at n)) o at o
  unfolding start_text
  start_none e = rw e (none_put o at)

  pub start-put : (t o₁ o₂ : List ℕ) (r₁ r₂ : ℕ) → (n ≡ 0 → ⊥) → n < kind_count → t ≡ leading_text → placed r₁ o₁ ≡ put_at at t o → placed r₂ o₂ ≡ put_at r₁ (ascii " ; ") o₁
      → Appends at (start_text (kind_at n)) o r₂ o₂
  unfolding start_text is_other
  start-put t o₁ o₂ r₁ r₂ other h is e f =
      rw (not-true (is_opening (slowest (kind_at n)).call) (opening_first n h other), ← is) (then_put t (ascii " ; ") o o₁ o₂ at r₁ r₂ (appended t o o₁ at r₁ e) f)

-- the most events are read out of their field
is_read_as : Kind → Bool
is_read_as k = both (is_number (decimal_of (most k))) (eqb (number_from 0 (decimal_of (most k))) (most k))

all_read : all_of is_read_as kinds ≡ true
unfolding is_read_as is_number number_from all_decimal digit_value_of decimal_of decimal_under pick in_range
all_read = refl

most_read : (n : ℕ) → n < kind_count → number_of (decimal_of (most (kind_at n))) ≡ Some (most (kind_at n))
unfolding is_read_as number_of pick
most_read n h =
    let k : Kind = kind_at n in
    let p = both_parts (is_number (decimal_of (most k))) (eqb (number_from 0 (decimal_of (most k))) (most k)) (all-at is_read_as kinds n all_read h) in
    rw p.0 (ap Some (eqb-true (number_from 0 (decimal_of (most k))) (most k) p.1))

or_zero : Option ℕ → ℕ
or_zero None = 0
or_zero (Some n) = n

module _ (n : ℕ) (within : n < kind_count) (w : List ℕ) (r : Option ℕ) (is : w ≡ decimal_of (most (kind_at n))) (read : r ≡ number_of w) where
  as-most : r ≡ Some (most (kind_at n))
  as-most = read ∙ ap number_of is ∙ most_read n within

  pub most-value : (v : ℕ) → r ≡ Some v → v ≡ most (kind_at n)
  unfolding or_zero
  most-value v e = ap or_zero (sym e ∙ as-most)

  pub most_there : r ≡ None → ⊥
  most_there e = false≢true (ap isThere (sym e ∙ as-most))
    where
      isThere : Option ℕ → Bool
      isThere None = false
      isThere (Some n) = true

-- ---- lines joined

lines_append : (es ds : List Event) → map event_line (es ++ ds) ≡ map event_line es ++ map event_line ds
lines_append [] ds = refl
lines_append (e ∷ es) ds = ap (λ x. event_line e ∷ x) (lines_append es ds)

behind-append : (ls ms : List (List ℕ)) → joined_behind (ls ++ ms) ≡ joined_behind ls ++ joined_behind ms
unfolding joined_behind
behind-append [] ms = refl
behind-append (l ∷ ls) ms = ap (λ x. separator ++ x) (ap (λ x. l ++ x) (behind-append ls ms) ∙ sym (append_assoc l (joined_behind ls) (joined_behind ms)))

acks-joined : (n : ℕ) (es : List Event) → joined_behind (map event_line (with_acks n es)) ≡ acks_text n ++ joined_behind (map event_line es)
unfolding joined_behind acks_text
acks-joined zero es = refl
acks-joined (suc n) es =
    ap (λ x. separator ++ (event_line (pkt ack) ++ x)) (acks-joined n es)
    ∙ sym (append_assoc (separator ++ event_line (pkt ack)) (acks_text n) (joined_behind (map event_line es)))

run-joined : (k : Kind) (idle : ℕ) → joined (run_lines k idle) ≡ run_text k idle
unfolding joined
run-joined k idle =
    let b : List Event = (slowest k).before in
    let e : List Event = (slowest k).behind in
    ap (λ x. call_line k ++ joined_behind x) (lines_append b (with_acks idle e))
    ∙ ap (λ x. call_line k ++ x) (behind-append (map event_line b) (map event_line (with_acks idle e)) ∙ ap (λ x. joined_behind (map event_line b) ++ x) (acks-joined idle e))
    ∙ sym (append_assoc (call_line k) (joined_behind (map event_line b)) (acks_text idle ++ behind_text k))
    ∙ sym (append_assoc (call_line k ++ joined_behind (map event_line b)) (acks_text idle) (behind_text k))

start-joined : (t : Bool) (l m : List ℕ) (ls ms : List (List ℕ)) → joined (cond t [] (l ∷ ls) ++ (m ∷ ms)) ≡ cond t [] (joined (l ∷ ls) ++ separator) ++ joined (m ∷ ms)
unfolding joined joined_behind
start-joined true l m ls ms = refl
start-joined false l m ls ms =
    ap (λ x. l ++ x) (behind-append ls (m ∷ ms)) ∙ sym (append_assoc l (joined_behind ls) (separator ++ (m ++ joined_behind ms)))
    ∙ sym (append_assoc (l ++ joined_behind ls) separator (m ++ joined_behind ms))

-- a script is its number, a space, its start and its run
script_parts : (k : Kind) (idle : ℕ) → script_text k idle ≡ decimal_of (most k + idle) ++ ascii " " ++ start_text k ++ run_text k idle
unfolding script_text start_text
script_parts k idle =
    let d : List ℕ = decimal_of (most k + idle) in
    ap (λ x. d ++ (ascii " " ++ x))
    (start-joined (is_opening (slowest k).call) (call_line opening_kind) (call_line k) (map event_line leading_events) (map event_line (events_of (slowest k) idle)) ∙ ap (λ x. start_text k ++ x) (run-joined k idle))
    ∙ sym (append_assoc d (ascii " ") (start_text k ++ run_text k idle)) ∙ sym (append_assoc (d ++ ascii " ") (start_text k) (run_text k idle))

-- ---- texts put one behind the other

pub run-put : (k : Kind) (idle : ℕ) (w v o o₁ o₂ o₃ : List ℕ) (at r₁ r₂ r₃ : ℕ) → w ≡ wait_text k → v ≡ behind_text k → placed r₁ o₁ ≡ put_at at w o → Appends r₁ (acks_text idle) o₁ r₂ o₂
    → placed r₃ o₃ ≡ put_at r₂ v o₂ → Appends at (run_text k idle) o r₃ o₃
run-put k idle w v o o₁ o₂ o₃ at r₁ r₂ r₃ d b e p f =
    rw (← d, ← b) (then_put (w ++ acks_text idle) v o o₂ o₃ at r₂ r₃ (both_appended w (acks_text idle) o o₁ o₂ at r₁ r₂ (appended w o o₁ at r₁ e) p) f)

pub script-put : (k : Kind) (idle m : ℕ) (o o₁ o₂ o₃ o₄ : List ℕ) (r₁ r₂ r₃ r₄ : ℕ) → m ≡ most k → placed r₁ o₁ ≡ put_at 0 (decimal_of (m + idle)) o → placed r₂ o₂ ≡ put_at r₁ (ascii " ") o₁
    → Appends r₂ (start_text k) o₂ r₃ o₃ → Appends r₃ (run_text k idle) o₃ r₄ o₄ → Appends 0 (script_text k idle) o r₄ o₄
script-put k idle m o o₁ o₂ o₃ o₄ r₁ r₂ r₃ r₄ c e f p q =
    let d : List ℕ = decimal_of (m + idle) in
    rw (script_parts k idle, ← c)
    (both_appended (d ++ ascii " " ++ start_text k) (run_text k idle) o o₃ o₄ 0 r₃ r₄
    (both_appended (d ++ ascii " ") (start_text k) o o₂ o₃ 0 r₂ r₃ (then_put d (ascii " ") o o₁ o₂ 0 r₁ r₂ (appended d o o₁ 0 r₁ e) f) p) q)

-- ---- there is room

fixed_limit : ℕ
fixed_limit = 1000

is_short : Kind → Bool
is_short k = leb (length (start_text k) + length (wait_text k) + length (behind_text k)) fixed_limit

all_short : all_of is_short kinds ≡ true
unfolding is_short fixed_limit start_text joined joined_behind hex_of digits_of_lem digit_of pick formats
all_short = refl

length-acks : (n : ℕ) → length (acks_text n) ≡ 19 * n
unfolding acks_text hex_of digits_of_lem digit_of pick
length-acks zero = refl
length-acks (suc n) = rw (length-acks n) (omega arith)

pub script_short : (n idle : ℕ) → n < kind_count → idle ≤ idle_limit → length (script_text (kind_at n) idle) ≤ script_limit
unfolding is_short fixed_limit
script_short n idle h i =
    let k : Kind = kind_at n in
    let f = leb-true (length (start_text k) + length (wait_text k) + length (behind_text k)) 1000 (all-at is_short kinds n all_short h) in
    rw (script_parts k idle)
    (simp (length-append, length-acks) (omega (arith, f, decimal_short (most k + idle))))

-- ---- the answers

module _ (n idle : ℕ) (b : List ℕ) where
  pub no_kind : kind_count ≤ n → left (refused (numbered BadArgument)) b ≡ script_of n idle b
  unfolding script_of pick
  no_kind h = rw (le-ltb n kind_count h)

  module _ (kind : n < kind_count) where
    pub too_many : idle_limit < idle → left (refused (numbered OverLong)) b ≡ script_of n idle b
    unfolding script_of pick
    too_many h = rw (lt-ltb n kind_count kind, lt-ltb idle_limit idle h)

    pub script-done : (r : ℕ) (o : List ℕ) → Appends 0 (script_text (kind_at n) idle) b r o → idle ≤ idle_limit → length b ≡ script_room → left (answered r) o ≡ script_of n idle b
    unfolding script_of pick
    script-done r o p h size =
        let e = at-start (script_text (kind_at n) idle) b o r p (omega (arith, script_short n idle kind h)) in
        let m : r ≡ length (script_text (kind_at n) idle) = ap (λ q. q.next) e ∙ zero-add (length (script_text (kind_at n) idle)) in
        rw (lt-ltb n kind_count kind, le-ltb idle_limit idle h, m, ap (λ q. q.buffer) e)
