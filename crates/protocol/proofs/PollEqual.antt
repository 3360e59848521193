-- One call for a list of system codes equals the single calls made in list order.
use Rattle.std.specs.Prelude.{◌≡◌, refl, Bool, true, false, cond, ◌||◌, List, [], ◌∷◌, ◌++◌, map, ℕ, suc, ◌+◌, ◌/◌, ◌%◌, ◌≤◌, eqb, ltb, leb, length}
use Rattle.std.proofs.Common.{ap, ap₂, sym, ◌∙◌, subst₂, arith, eq-eqb}
use Rattle.std.proofs.Math.Path.{subst⁻¹}
use Rattle.std.proofs.Math.Option.{Option, none, some}
use Rattle.errors.specs.declared.Refusal.{Refusal}
use Rattle.errors.specs.declared.Refusal.TheVariants.{OutOfTurn, Bitrate as BadBitrate}
use Rattle.errors.specs.declared.Fault.{Fault}
use Rattle.errors.specs.declared.Fault.TheVariants.{NoCard}
use Rattle.framing.specs.Lists.{both_false_r}
use Rattle.exchange.specs.Exchange.{Order, Event, unfit, pending, ended}
use Rattle.protocol.specs.Scripts.{Byte, commands_later, Answer, done, type1, uid_and_ats, nothing, refused, refused_after}
use Rattle.protocol.specs.Scripts.{Script, finish, command, reset, field_pause}
use Rattle.protocol.specs.Arguments.{word, system_codes_fit, words_in}
use Rattle.protocol.specs.Discovery.{code_end, system_code_req, poll_codes}
use Rattle.protocol.specs.Discovery as discovery
use Rattle.targets.specs.Bitrates.{Choice, chosen, no_code_of, choice_of, by_bitrate, by_code_of}
use Rattle.protocol.specs.Calls.{Call, reader, device, poll_type_f, read_register_code}
use Rattle.protocol.specs.Starts.{Start, refuses, starts, start_of, code_for, type_f_code}
use Rattle.protocol.specs.Session.{Phase, seen, last_caller}
use Rattle.protocol.specs.Session.{CallResult, start_script, progress, idle, Books, Session, call}
use Rattle.protocol.specs.Session.{Effect, unchanged, runs, ends, effect, started, buffer_need, admitted, event_effect, book_order, effect_of, given, after_effect}
use Rattle.protocol.specs.Record.{Item, ordered, accepted, Record, Note, note, observed, add_call, add_event, lines_of, one_if, is_command, frames, line}
use Rattle.protocol.specs.Laws.{by_fault, frame_not_ack, lines_own}
use Rattle.protocol.proofs.RunLaws.{both-admitted, both_called}
use Rattle.protocol.specs.Seen.{Unused}
use Rattle.protocol.proofs.Seen.{no_lines, more_unused}
use Rattle.protocol.proofs.PollSound.{words_count}
use Rattle.protocol.proofs.PollAlong.{detect_no_reset, Along, Goes, along}
use Rattle.protocol.specs.PollList.{one_call, single, ends_code, with_next, hand_on, single_calls, add_refusal, Run, run, frames_of, code_bytes, all_bytes, all_finished, by_newest, items, Equal}
use Rattle.protocol.specs.Runs.{EventAndRoom, event_entry, idle_with}
use Rattle.protocol.specs.PollRuns.{from}
use Rattle.protocol.proofs.PollRuns.{frames_older, bytes_older, idle_equal}
use Rattle.protocol.specs.Names.{ciu_tx_control}
use Rattle.protocol.specs.PollEqual.{ask_field, with_event, busy_with}

-- a script that starts fits every event
start-admitted : (c : Call) (e : Event) (room : ℕ) (s : Script) → event_effect c e room (start_script s) ≡ admitted e room (effect c (start_script s))
start-admitted c e room (finish a) = refl
start-admitted c e room (command code clock bytes g) = refl
start-admitted c e room (reset s) = refl
start-admitted c e room (field_pause s) = refl

ask-counts : frames (ordered ask_field ∷ []) ≡ 1
ask-counts = rw (frame_not_ack read_register_code (word ciu_tx_control)) refl

-- `code`: the bitrate's, to the chip
module _ (caller : ℕ) (known : leb caller last_caller ≡ true) (text words : List ℕ) (room code : ℕ) (takes : (f : ℕ → Start) → code_for type_f_code text f ≡ f code) (enough : ltb room buffer_need ≡ false) where
  -- the books as its calls have them
  abbrev hers : Books → Books
  hers b = record { opened = b.opened; padded = b.padded; caller = caller; counts = b.counts }

  abbrev list_call : Call
  list_call = reader (device (poll_type_f text words))

  abbrev n : ℕ
  n = length (words_in words)

  -- what follows a code's single script in the list's
  abbrev rest_of_list : ℕ → ℕ → List Byte → List ℕ → ℕ → Answer Byte → Script
  rest_of_list first finished found codes next a =
      code_end (λ bytes. poll_codes code next (suc finished) (found ++ map (commands_later first) bytes) codes) (λ r. finish (refused_after r finished)) a

  -- the single calls ns are over: in the record m they took `first` commands, and they add the bytes `found`
  record Behind (m : Record) (ns : List Note) (first : ℕ) (found : List Byte) : Type 0 where
    pub first_is : first ≡ frames_of m ns
    pub found_is : found ≡ all_bytes m ns

  behind-later : {m : Record} {ns : List Note} {first : ℕ} {found : List Byte} (j : ℕ) (x : Item) → length ns ≤ j → Behind m ns first found → Behind (line j x ∷ m) ns first found
  behind-later {m} {ns} j x h g = record { first_is = g.first_is ∙ sym (frames_older m j x ns h); found_is = g.found_is ∙ sym (bytes_older m j x ns h) }

  -- both run, behind the single calls ns, after k commands; these codes are to come
  record Polling (p q : Phase) (l m : Record) (ns : List Note) (codes : List ℕ) : Type 0 where
    pub first : ℕ
    pub found : List Byte
    pub k : ℕ
    pub phases : Along (rest_of_list first (length ns) found codes) k p q
    pub lines : items l ≡ items m
    pub before : Behind m ns first found
    pub commands : k ≡ first + frames (lines_of (length ns) m)
    pub unused : Unused m (suc (length ns))
    pub total : suc (length ns) + length codes ≡ n

  -- the runs of the one call and of the single calls, of which one is on
  abbrev one : Books → Record → Phase → List Refusal → List EventAndRoom → Run
  one b l p x es = from (observed l (note caller list_call none ∷ [])) x (busy_with list_call p (hers b)) (map event_entry es)

  abbrev many : Books → Record → List Note → ℕ → List ℕ → Phase → List Refusal → List EventAndRoom → Run
  many b m ns systemCode codes q x es =
      from (observed m (note caller (single text systemCode) none ∷ ns)) x (busy_with (single text systemCode) q (hers b))
      (hand_on caller room es (busy_with (single text systemCode) q (hers b)) (map (single text) codes))

  -- the first where the event e has this effect
  abbrev one_step : Books → Record → Phase → List Refusal → List EventAndRoom → EventAndRoom → Effect → Run
  one_step b l p x es e o =
      from (add_event e.event l (note caller list_call none ∷ []) (given o)) (add_refusal (given o) x) (after_effect (busy_with list_call p (hers b)) (event_entry e) o) (map event_entry es)

  abbrev BusyEqual : List EventAndRoom → Type 0
  BusyEqual es = (b : Books) (l m : Record) (ns : List Note) (systemCode : ℕ) (codes : List ℕ) (p q : Phase) (x : List Refusal)
      → b.opened ≡ true → Polling p q l m ns codes → Equal n (one b l p x es) (many b m ns systemCode codes q x es)

  -- the next single call is begun
  begun : (b : Books) → b.opened ≡ true → (systemCode : ℕ)
      → effect_of idle (hers b) (call caller (single text systemCode) room) ≡ effect (single text systemCode) (start_script (discovery.detect_type_f_of code (system_code_req systemCode)))
  begun b o systemCode = rw (o, enough, known, takes (λ code. starts (discovery.detect_type_f_of code (system_code_req systemCode)))) refl

  -- an event e ends a code, and the list goes on, after k commands; a: the single call's answer
  module _ (es : List EventAndRoom) (ih : BusyEqual es) (b : Books) (isOpen : b.opened ≡ true) (l m : Record) (ns : List Note) (systemCode : ℕ) (p : Phase) (x : List Refusal)
      (e : EventAndRoom) (a : Answer Byte) (k : ℕ) (found : List Byte) (lines : items l ≡ items m) (unused : Unused m (suc (length ns)))
      (before : Behind (with_event m ns e) (note caller (single text systemCode) (some a) ∷ ns) k found)
      (newest : (o : Option (Answer Byte)) → by_newest o (length ns) (some a) ≡ o) where
    abbrev ns₁ : List Note
    ns₁ = note caller (single text systemCode) (some a) ∷ ns

    none-later : Unused (with_event m ns e) (suc (suc (length ns)))
    none-later = more_unused (with_event m ns e) (suc (length ns)) (omega arith, unused)

    -- the next code's first line
    one-command : suc k ≡ k + frames (lines_of (suc (length ns)) (line (suc (length ns)) (ordered ask_field) ∷ with_event m ns e))
    one-command =
        let f : frames (ordered ask_field ∷ []) ≡ 1 = ask-counts in
        rw (lines_own (suc (length ns)) (with_event m ns e) (ordered ask_field) [] (no_lines (with_event m ns e) (suc (length ns)) (suc (length ns)) (omega arith, unused) (omega arith))) (omega arith)

    goes_on : (codes : List ℕ) → suc (length ns) + length codes ≡ n → Equal n
        (one_step b l p x es e (effect list_call (start_script (poll_codes code k (suc (length ns)) found codes))))
        (from (observed (with_event m ns e) ns₁) x (idle_with (hers b)) (with_next caller room (map (single text) codes) (idle_with (hers b)) (hand_on caller room es)))
    goes_on [] total =
        let all : eqb (length ns₁) n ≡ true = eq-eqb (length ns₁) n (omega arith) in
        idle_equal n caller room es (hers b) _ _ x [] record {
          lines = ap (λ (xs : List Item). accepted e.event ∷ xs) lines;
          answer = rw (newest (all_finished n (with_event m ns e) ns₁), all, before.found_is) refl;
        }
    goes_on (y ∷ codes) total =
        subst⁻¹
        (λ o. Equal n
        (one_step b l p x es e (effect list_call (start_script (poll_codes code k (suc (length ns)) found (y ∷ codes)))))
        (from
        (add_call caller (single text y) (with_event m ns e) ns₁ (given o))
        (add_refusal (given o) x)
        (after_effect (idle_with (hers b)) (call caller (single text y) room) o)
        (hand_on caller room es (after_effect (idle_with (hers b)) (call caller (single text y) room) o) (map (single text) codes))))
        (begun b isOpen y)
        (ih (book_order ask_field (hers b)) (line 0 (ordered ask_field) ∷ line 0 (accepted e.event) ∷ l) (line (suc (length ns)) (ordered ask_field) ∷ with_event m ns e) ns₁ y codes _ _ x isOpen record {
          first = k;
          found = found;
          k = suc k;
          phases = (refl, detect_no_reset code (system_code_req y));
          lines = ap (λ (xs : List Item). ordered ask_field ∷ accepted e.event ∷ xs) lines;
          before = behind-later (suc (length ns)) (ordered ask_field) (omega arith) before;
          commands = one-command;
          unused = (omega arith, none-later);
          total = omega arith;
        })

  -- an event e of a code
  module _ (es : List EventAndRoom) (ih : BusyEqual es) (b : Books) (l m : Record) (ns : List Note) (systemCode : ℕ) (codes : List ℕ) (p q : Phase) (x : List Refusal)
      (isOpen : b.opened ≡ true) (g : Polling p q l m ns codes) (e : EventAndRoom) where
    abbrev one_after : Effect → Run
    one_after o = one_step b l p x es e o

    abbrev many_after : Effect → Run
    many_after o =
        let s : Session = after_effect (busy_with (single text systemCode) q (hers b)) (event_entry e) o in
        let cs : List Call = map (single text) codes in
        from (add_event e.event m (note caller (single text systemCode) none ∷ ns) (given o)) (add_refusal (given o) x) s
        (cond (ends_code (given o)) (with_next caller room cs s (hand_on caller room es)) (hand_on caller room es s cs))

    abbrev Both : Effect → Effect → Type 0
    Both o u = Equal n (one_after o) (many_after u)

    -- refused at once
    both-unchanged : (r : Refusal) → Both (unchanged r) (unchanged r)
    both-unchanged r = ih b l m ns systemCode codes p q (r ∷ x) isOpen g

    -- the code goes on
    more-commands : (y : Order) → one_if (is_command (ordered y)) + g.k ≡ g.first + frames (lines_of (length ns) (line (length ns) (ordered y) ∷ with_event m ns e))
    more-commands y =
        let own-lines : lines_of (length ns) (line (length ns) (ordered y) ∷ with_event m ns e) ≡ ordered y ∷ accepted e.event ∷ lines_of (length ns) m =
        lines_own (length ns) (with_event m ns e) (ordered y) _ (lines_own (length ns) m (accepted e.event) (lines_of (length ns) m) refl) in
        rw own-lines (omega (arith, g.commands))

    both_run : (y : Order) (p' q' : Phase) → Along (rest_of_list g.first (length ns) g.found codes) (one_if (is_command (ordered y)) + g.k) p' q'
        → Both (runs list_call y p') (runs (single text systemCode) y q')
    both_run y p' q' i =
        ih (book_order y (hers b)) (line 0 (ordered y) ∷ line 0 (accepted e.event) ∷ l) (line (length ns) (ordered y) ∷ with_event m ns e) ns systemCode codes p' q' x isOpen record {
          first = g.first;
          found = g.found;
          k = one_if (is_command (ordered y)) + g.k;
          phases = i;
          lines = ap (λ (xs : List Item). ordered y ∷ accepted e.event ∷ xs) g.lines;
          before = behind-later (length ns) (ordered y) (omega arith) (behind-later (length ns) (accepted e.event) (omega arith) g.before);
          commands = more-commands y;
          unused = (omega arith, (omega arith, g.unused));
          total = g.total;
        }

    -- the code has ended: with a card, or without one
    behind_more : (a : Answer Byte)
        → Behind (with_event m ns e) (note caller (single text systemCode) (some a) ∷ ns) g.k (g.found ++ map (commands_later g.first) (code_bytes (some a)))
    behind_more a =
        let old : Behind (with_event m ns e) ns g.first g.found = behind-later (length ns) (accepted e.event) (omega arith) g.before in
        record {
          first_is = rw (lines_own (length ns) m (accepted e.event) (lines_of (length ns) m) refl) (omega (arith, g.commands, old.first_is));
          found_is = ap₂ (λ (xs ys : List Byte). xs ++ ys) old.found_is (ap (λ (j : ℕ). map (commands_later j) (code_bytes (some a))) old.first_is);
        }

    -- with another fault
    both-stop : (a : Answer Byte) (r : Fault) → ((o : Option (Answer Byte)) → by_newest o (length ns) (some a) ≡ some (refused_after r (length ns))) → Equal n
        (one_after (ends list_call (refused_after r (length ns))))
        (from (observed (with_event m ns e) (note caller (single text systemCode) (some a) ∷ ns)) x (idle_with (hers b))
        (hand_on caller room es (idle_with (hers b)) (map (single text) codes)))
    both-stop a r newest = idle_equal n caller room es (hers b) _ _ x _ record { lines = ap (λ (xs : List Item). accepted e.event ∷ xs) g.lines; answer = sym (newest _) }

    abbrev AfterCode : Answer Byte → Type 0
    AfterCode a = Both (effect list_call (start_script (rest_of_list g.first (length ns) g.found codes g.k a))) (ends (single text systemCode) a)

    both-go-on : (a : Answer Byte) → ((o : Option (Answer Byte)) → by_newest o (length ns) (some a) ≡ o) → Equal n
        (one_after (effect list_call (start_script (poll_codes code g.k (suc (length ns)) (g.found ++ map (commands_later g.first) (code_bytes (some a))) codes))))
        (from (observed (with_event m ns e) (note caller (single text systemCode) (some a) ∷ ns)) x (idle_with (hers b))
        (with_next caller room (map (single text) codes) (idle_with (hers b)) (hand_on caller room es)))
    both-go-on a newest = goes_on es ih b isOpen l m ns systemCode p x e a g.k _ g.lines g.unused (behind_more a) newest codes g.total

    both_end : (a : Answer Byte) → AfterCode a
    both_end (done bytes) = both-go-on (done bytes) (λ o. refl)
    both_end (type1 bytes) = both-go-on (type1 bytes) (λ o. refl)
    both_end (uid_and_ats bytes uid ats) = both-go-on (uid_and_ats bytes uid ats) (λ o. refl)
    both_end nothing = both-go-on nothing (λ o. refl)
    both_end (refused r) =
        by_fault (λ r. AfterCode (refused r)) (both-go-on (refused NoCard) (λ o. refl))
        (λ r other. rw (other Script _ _, other Bool true false) (both-stop (refused r) r (λ o. other (Option (Answer Byte)) o _)))
        r
    both_end (refused_after r j) = both-stop (refused_after r j) r (λ o. refl)

    -- d: the event as the mode sees it
    by_result : (d : Event) (r s : CallResult) → Goes (rest_of_list g.first (length ns) g.found codes) g.k r s
        → Both (event_effect list_call d e.room r) (event_effect (single text systemCode) d e.room s)
    by_result d r unfit i = rw i (both-unchanged OutOfTurn)
    by_result d r (pending y q') (p', i, h) = rw i (both-admitted Both both-unchanged d e.room _ _ (both_run y p' q' h))
    by_result d r (ended a) i =
        rw (i, start-admitted list_call d e.room (rest_of_list g.first (length ns) g.found codes g.k a))
        (both-admitted Both both-unchanged d e.room _ _ (both_end a))

  busy-equal : (es : List EventAndRoom) → BusyEqual es
  busy-equal [] b l m ns systemCode codes p q x isOpen g = record { lines = g.lines; refusals = refl; answer = refl; books = refl; free = refl }
  busy-equal (e ∷ es) b l m ns systemCode codes p q x isOpen g =
      let d = seen b.padded e.event in
      by_result es (busy-equal es) b l m ns systemCode codes p q x isOpen g e d (progress p d) (progress q d)
      (along (rest_of_list g.first (length ns) g.found codes) g.k p q g.phases d)

-- ---- the start

-- the bitrate has a code, or the call is refused with 5
module _ (P : Type 0) where
  by_code : (o : Option ℕ) → (((f : ℕ → Start) → by_code_of (refuses BadBitrate) o f ≡ refuses BadBitrate) → P) → ((code : ℕ) → ((f : ℕ → Start) → by_code_of (refuses BadBitrate) o f ≡ f code) → P) → P
  by_code none h k = h (λ f. refl)
  by_code (some code) h k = k code (λ f. refl)

  by-bitrate : (c : Choice) → (((f : ℕ → Start) → by_bitrate (refuses BadBitrate) c (λ b. by_code_of (refuses BadBitrate) (type_f_code b) f) ≡ refuses BadBitrate) → P)
      → ((code : ℕ) → ((f : ℕ → Start) → by_bitrate (refuses BadBitrate) c (λ b. by_code_of (refuses BadBitrate) (type_f_code b) f) ≡ f code) → P) → P
  by-bitrate (chosen b) h k = by_code (type_f_code b) h k
  by-bitrate (no_code_of e) h k = h (λ f. refl)

module _ (caller : ℕ) (text words : List ℕ) (room : ℕ) (es : List EventAndRoom) (b : Books) (isOpen : b.opened ≡ true) (fits : system_codes_fit words ≡ true) (y : ℕ) (ys : List ℕ)
    (codes : words_in words ≡ y ∷ ys) where
  abbrev the_list : Call
  the_list = reader (device (poll_type_f text words))

  abbrev size : ℕ
  size = length (words_in words)

  abbrev Started : Effect → Effect → Type 0
  Started o u = Equal size
      (from (add_call caller the_list [] [] (given o)) (add_refusal (given o) []) (after_effect (idle_with b) (call caller the_list room) o) (map event_entry es))
      (from (add_call caller (single text y) [] [] (given u)) (add_refusal (given u) []) (after_effect (idle_with b) (call caller (single text y) room) u)
      (hand_on caller room es (after_effect (idle_with b) (call caller (single text y) room) u) (map (single text) ys)))

  abbrev Starts : Type 0
  Starts = Started (effect_of idle b (call caller the_list room)) (effect_of idle b (call caller (single text y) room))

  start-refused : (r : Refusal) → Started (unchanged r) (unchanged r)
  start-refused r = idle_equal size caller room es b (observed [] []) (observed [] []) (r ∷ []) (map (single text) ys) record { lines = refl; answer = refl }

  start-runs : leb caller last_caller ≡ true → (code : ℕ) → ((f : ℕ → Start) → code_for type_f_code text f ≡ f code) → ltb room buffer_need ≡ false → Started
      (effect the_list (start_script (poll_codes code 0 0 [] (y ∷ ys))))
      (effect (single text y) (start_script (discovery.detect_type_f_of code (system_code_req y))))
  start-runs known code takes enough =
      busy-equal caller known text words room code takes enough es (book_order ask_field (hers caller known text words room code takes enough b)) (line 0 (ordered ask_field) ∷ []) (line 0 (ordered ask_field) ∷ []) [] y ys _ _ [] isOpen record {
        first = 0;
        found = [];
        k = 1;
        phases = (refl, detect_no_reset code (system_code_req y));
        lines = refl;
        before = record { first_is = refl; found_is = refl };
        commands = let f : frames (ordered ask_field ∷ []) ≡ 1 = ask-counts in omega arith;
        unused = (omega arith, tt);
        total = let e : size ≡ suc (length ys) = ap (λ (xs : List ℕ). length xs) codes in omega arith;
      }

  start-equal : Starts
  start-equal =
      both_called Started start-refused (b.opened || false) caller room the_list (single text y)
      (λ enough known. by-bitrate (Started (started the_list (start_of the_list)) (started (single text y) (start_of (single text y)))) (choice_of text)
      (λ none_taken. rw (fits, none_taken (λ code. starts (discovery.poll_type_f code (words_in words))), none_taken (λ code. starts (discovery.detect_type_f_of code (system_code_req y)))) (start-refused BadBitrate))
      (λ code takes. subst₂ Started
      (let e : effect the_list (start_script (poll_codes code 0 0 [] (y ∷ ys))) ≡ started the_list (start_of the_list) = rw (fits, takes (λ code. starts (discovery.poll_type_f code (words_in words))), codes) refl in e)
      (let e : effect (single text y) (start_script (discovery.detect_type_f_of code (system_code_req y))) ≡ started (single text y) (start_of (single text y)) =
      rw (takes (λ code. starts (discovery.detect_type_f_of code (system_code_req y)))) refl in e)
      (start-runs known code takes enough)))

-- no codes: 4
none_fit : (words : List ℕ) → words_in words ≡ [] → system_codes_fit words ≡ false
none_fit words e =
    let z : length words / 2 ≡ 0 = sym (words_count words) ∙ ap (λ (xs : List ℕ). length xs) e in
    rw z (both_false_r (eqb (length words % 2) 0) false refl)

-- the theorem: for every open, idle session, every caller and bitrate, 1 to 16 system codes, every buffer and every list of events
pub poll_equals_singles : (b : Books) → b.opened ≡ true → (caller : ℕ) (text words : List ℕ) → system_codes_fit words ≡ true → (room : ℕ) (es : List EventAndRoom)
    → Equal (length (words_in words)) (run (idle_with b) (one_call caller text words room es)) (run (idle_with b) (single_calls caller text words room es (idle_with b)))
poll_equals_singles b isOpen caller text words fits room es = go (words_in words) refl
  where
    go : (codes : List ℕ) → words_in words ≡ codes
        → Equal (length (words_in words)) (run (idle_with b) (one_call caller text words room es)) (run (idle_with b) (with_next caller room (map (single text) codes) (idle_with b) (hand_on caller room es)))
    go [] e = absurd (let unfit : system_codes_fit words ≡ false = none_fit words e in let z : ◌≡◌ {A = ℕ} 0 1 = cc in omega arith)
    go (y ∷ ys) e = start-equal caller text words room es b isOpen fits y ys e
