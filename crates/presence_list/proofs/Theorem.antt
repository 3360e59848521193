-- Document 02, N9, of any list of rounds from empty, the refused ones among them: the list that the code keeps is the one worked out afresh from
-- the accepted rounds, and each answer, with its arrivals and departures, is the one defined there.
use Rattle.std.specs.Prelude.{◌≡◌, Bool, ℕ, ◌/◌, ◌%◌, ◌≤◌, ltb, leb, eqb, replicate, Result, Ok, Err}
use Rattle.std.proofs.Math.Path.{refl, sym, ap, ap₂}
use Rattle.std.proofs.Common.{◌∙◌, arith}
use Rattle.std.proofs.Math.Bool.{true, false}
use mathlib.Core.List.{List as Seq, [], ◌∷◌, map}
use Rattle.std.proofs.Math.ListN.{length, length-replicate}
use Rattle.std.proofs.lemmas.List.{length-map}
use borrow.Author.Tests.{le-leb, ltb-false}
use Rattle.errors.specs.Choice.{pick}
use Rattle.errors.specs.Refusals.{round_numbered}
use Rattle.errors.specs.declared.Refusal.TheVariants.{OverLong, BadArgument}
use Rattle.errors.specs.declared.RoundRefusal.{RoundRefusal}
use Rattle.errors.specs.declared.RoundRefusal.TheVariants.{AtOnce, StaleRound, ListFull}
use Rattle.presence_list.specs.declared.list.State.{State}
use Rattle.presence_list.specs.declared.list.Presence.{Presence}
use Rattle.presence_list.specs.Names.{record_size, card_limit, cards_size}
use Rattle.presence_list.specs.Keyed.{supersede_all, without, only}
use Rattle.presence_list.specs.KeyedLaws.{map-all, map-without, all-all, all_sorted}
use Rattle.presence_list.specs.CardsAt.{CardsAt, Fit}
use Rattle.presence_list.specs.Memory.{pieces, laid, Whole, card_in, long_in, is_known_in, in_range_in, ascending, found_in, aged, kept_records}
use Rattle.presence_list.specs.MemoryLaws.{pieces_whole, pieces-laid, length-laid}
use Rattle.presence_list.specs.EntryLaws.{entries_whole}
use Rattle.presence_list.specs.Growth.{aged_whole, without_whole}
use Rattle.presence_list.specs.AgedLaws.{aged_sorted}
use Rattle.presence_list.specs.Fills.{not_long}
use Rattle.presence_list.specs.Lookups.{sorted_ascending}
use Rattle.presence_list.specs.Admissions.{range_cards_at}
use Rattle.presence_list.specs.Afresh.{seen_last, last_found, last_present, entries-found, aged-found, aged_unseen, entries-seen, only-all, any_long, every-known, aged_range, entries_range, every-all, all-every}
use Rattle.presence_list.specs.Presence.{Round, RoundAnswer, accepted, refused, card, any, every, readable, stale, full, listed, present_of, report_of, answer_to, accepted_with, accepted_of, round_answers}
use Rattle.presence_list.specs.Steps.{Rounded, list_in_range, stale_at, readable_in, records_of, admission_of, list_after, changed, refused_round, by_admission, accept_of, round_of, empty_list}
use Rattle.presence_list.specs.Runs.{RoundInput, round_in, present_in, round_answer_in, presence_after, round_answers_in}
use Rattle.presence_list.specs.Theorem.{Numbered, ListRepresents, RoundAgrees}

pub empty_represents : ListRepresents [] empty_list
unfolding present_of last_found pieces only every list_in_range pick
empty_represents = record { room = length-replicate {A = ℕ} cards_size 0; numbered = (refl, refl); range = refl; records = refl; present = refl; last = refl }

stale-same : (past : Seq Round) (s : State) (n : ℕ) → Numbered past s → stale_at s n ≡ stale past n
unfolding stale_at stale pick
stale-same [] s n h = rw h.0
stale-same (p ∷ ps) s n h = rw (h.0, h.1)

-- a round of which nothing but the room of the list is open
module _ (past : Seq Round) (l : Presence) (i : RoundInput) (rep : ListRepresents past l) (short : any long_in (records_of i.records) ≡ false) (all_known : every is_known_in (records_of i.records) ≡ true) where
  abbrev es : Seq (Seq ℕ)
  es = pieces l.state.count l.cards

  abbrev fs : Seq (Seq ℕ)
  fs = records_of i.records

  abbrev next : Seq (Seq ℕ)
  next = list_after es fs

  cards-at : CardsAt l.state.count l.cards
  cards-at = (range_cards_at l.state l.cards rep.room rep.range).0

  whole-es : Whole es
  whole-es = pieces_whole l.state.count l.cards cards-at.room

  whole-fs : Whole fs
  whole-fs = pieces_whole (length i.records / record_size) i.records (omega arith)

  fit-fs : Fit fs
  fit-fs = not_long fs short

  whole-next : Whole next
  whole-next = all-all card_in (λ e. length e ≡ record_size) (aged es) (kept_records fs) (aged_whole es whole-es) (entries_whole fs whole-fs fit-fs)

  cards-next : map found_in next ≡ present_of (round_in i ∷ past)
  unfolding card_in
  cards-next =
      map-all card_in card found_in (λ e. refl) (aged es) (kept_records fs)
      ∙ ap₂ (supersede_all card) (aged-found es cards-at.fit ∙ rep.last) (entries-found fs whole-fs fit-fs)
      ∙ last_present past (round_in i)

  pub size-next : length next ≡ length (present_of (round_in i ∷ past))
  size-next = sym (length-map next found_in) ∙ ap length cards-next

  seen_next : map found_in (only seen_last next) ≡ listed (round_in i).found
  unfolding card_in listed
  seen_next =
      ap (map found_in)
      (only-all seen_last (aged es) (kept_records fs) (aged_sorted es cards-at.fit cards-at.sorted) (entries-seen fs whole-fs fit-fs)
      ∙ ap (λ (m : Seq (Seq ℕ)). supersede_all card_in m (kept_records fs)) (aged_unseen es whole-es))
      ∙ map-all card_in card found_in (λ e. refl) [] (kept_records fs)
      ∙ ap (supersede_all card []) (entries-found fs whole-fs fit-fs)

  range-next : every in_range_in next ≡ true
  range-next =
      all-every in_range_in next
      (all-all card_in (λ e. in_range_in e ≡ true) (aged es) (kept_records fs) (aged_range es whole-es (every-all in_range_in es rep.records)) (entries_range fs whole-fs fit-fs all_known))

  abbrev result : Rounded
  result = changed l es next i.number

  lies : pieces (length next) (laid next (replicate cards_size 0)) ≡ next
  lies = pieces-laid next (replicate cards_size 0) (length next) whole-next refl

  said-present : present_in result.list ≡ present_of (round_in i ∷ past)
  said-present = ap (map found_in) lies ∙ cards-next

  -- its report
  pub says : round_answer_in result ≡ accepted (report_of past (round_in i))
  unfolding card_in report_of
  says =
      let came : Seq (Seq ℕ) = without card_in es next in
      let left : Seq (Seq ℕ) = without card_in next es in
      let a : map found_in (pieces (length came) (laid came l.arrived)) ≡ without card (present_of past) (present_of (round_in i ∷ past)) =
      ap (map found_in) (pieces-laid came l.arrived (length came) (without_whole es next whole-next) refl)
      ∙ map-without card_in card found_in (λ e. refl) es next
      ∙ ap₂ (without card) rep.present cards-next in
      let d : map found_in (pieces (length left) (laid left l.departed)) ≡ without card (present_of (round_in i ∷ past)) (present_of past) =
      ap (map found_in) (pieces-laid left l.departed (length left) (without_whole next es whole-es) refl)
      ∙ map-without card_in card found_in (λ e. refl) next es
      ∙ ap₂ (without card) cards-next rep.present in
      ap₂ (λ x y. accepted (record { arrived = x; departed = y; present = present_in result.list })) a d
      ∙ ap (λ z. accepted (record { arrived = without card (present_of past) (present_of (round_in i ∷ past)); departed = without card (present_of (round_in i ∷ past)) (present_of past); present = z }))
      said-present

  -- and the list that it leaves
  pub represents : length next ≤ card_limit → ListRepresents (round_in i ∷ past) result.list
  unfolding last_found list_in_range pick
  represents h =
      record {
        room = length-laid next (replicate cards_size 0) whole-next (let z = length-replicate {A = ℕ} cards_size 0 in omega arith) ∙ length-replicate {A = ℕ} cards_size 0;
        numbered = (refl, refl);
        range = ranges (pieces (length next) (laid next (replicate cards_size 0))) lies h;
        records = rw lies range-next;
        present = said-present;
        last = ap (λ (m : Seq (Seq ℕ)). map found_in (only seen_last m)) lies ∙ seen_next;
      }
    where
      ranges : (ps : Seq (Seq ℕ)) → ps ≡ next → length next ≤ card_limit
          → pick (eqb 1 0) (eqb (length next) 0) (pick (eqb 1 1) (pick (leb (length next) card_limit) (pick (every in_range_in ps) (ascending ps) false) false) false) ≡ true
      ranges ps e h =
          rw (e, le-leb (length next) card_limit h, range-next) (sorted_ascending next (all_sorted card_in (aged es) (kept_records fs) (aged_sorted es cards-at.fit cards-at.sorted)))

readable-same : (i : RoundInput) → readable (round_in i) ≡ readable_in i.records
unfolding readable_in
readable-same i = ap (λ (t : Bool). pick (eqb (length i.records % record_size) 0) t false) (every-known (records_of i.records))

readable-known : (b : Seq ℕ) → readable_in b ≡ true → every is_known_in (records_of b) ≡ true
unfolding readable_in pick
readable-known b h = go (eqb (length b % record_size) 0) h
  where
    go : (t : Bool) → pick t (every is_known_in (records_of b)) false ≡ true → every is_known_in (records_of b) ≡ true
    go true h = h
    go false h = cc

module _ (past : Seq Round) (l : Presence) (i : RoundInput) (rep : ListRepresents past l) where
  abbrev admission : Result (Unit {0}) RoundRefusal
  admission = admission_of l.state l.cards i.number i.records

  whole-records : Whole (records_of i.records)
  whole-records = pieces_whole (length i.records / record_size) i.records (omega arith)

  -- a round that is refused leaves the list alone
  refused-agrees : (e : RoundRefusal) (r : Rounded) → r ≡ refused_round l e
      → answer_to past (round_in i) ≡ refused (round_numbered e).number → RoundAgrees past i r
  refused-agrees e r p q =
      record {
        answered = ap round_answer_in p ∙ sym q;
        leaves = rw (q, p) rep;
      }

  not-admitted : (e : RoundRefusal) → ◌≡◌ {A = Result (Unit {0}) RoundRefusal} admission (Err e) → round_of l i.number i.records ≡ refused_round l e
  unfolding round_of
  not-admitted e h = ap (λ (a : Result (Unit {0}) RoundRefusal). by_admission a l i.number (records_of i.records)) h

  is-admitted : ◌≡◌ {A = Result (Unit {0}) RoundRefusal} admission (Ok tt) → round_of l i.number i.records ≡ accept_of l i.number (records_of i.records)
  unfolding round_of
  is-admitted h = ap (λ (a : Result (Unit {0}) RoundRefusal). by_admission a l i.number (records_of i.records)) h

  module _ (short : any long_in (records_of i.records) ≡ false) (open-to : readable_in i.records ≡ true) (fresh : stale_at l.state i.number ≡ false) where
    abbrev after : Seq (Seq ℕ)
    after = list_after (pieces l.state.count l.cards) (records_of i.records)

    all_known : every is_known_in (records_of i.records) ≡ true
    all_known = readable-known i.records open-to

    admits : ◌≡◌ {A = Result (Unit {0}) RoundRefusal} admission (Ok tt)
    unfolding admission_of pick
    admits = rw (short, rep.range, open-to, fresh)

    to_room : answer_to past (round_in i) ≡ pick (full past (round_in i)) (refused (round_numbered ListFull).number) (accepted (report_of past (round_in i)))
    unfolding answer_to pick
    to_room = rw (any_long (records_of i.records) whole-records, short, readable-same i, open-to, ← stale-same past l.state i.number rep.numbered, fresh)

    same-room : full past (round_in i) ≡ ltb card_limit (length after)
    same-room = ap (λ (k : ℕ). ltb card_limit k) (sym (size-next past l i rep short all_known))

    by-room : (t : Bool) → ltb card_limit (length after) ≡ t → RoundAgrees past i (round_of l i.number i.records)
    unfolding accept_of pick
    by-room true h =
        refused-agrees ListFull (round_of l i.number i.records) (is-admitted admits ∙ (rw h)) (to_room ∙ (rw (same-room, h)))
    by-room false h =
        let taken : answer_to past (round_in i) ≡ accepted (report_of past (round_in i)) = to_room ∙ (rw (same-room, h)) in
        let r : round_of l i.number i.records ≡ changed l (pieces l.state.count l.cards) after i.number =
        is-admitted admits ∙ (rw h) in
        record {
          answered = ap round_answer_in r ∙ says past l i rep short all_known ∙ sym taken;
          leaves = rw (taken, r) (represents past l i rep short all_known (ltb-false card_limit (length after) h));
        }

  pub agrees : RoundAgrees past i (round_of l i.number i.records)
  unfolding admission_of answer_to pick
  agrees = by_length (any long_in (records_of i.records)) refl
    where
      by_number : any long_in (records_of i.records) ≡ false → readable_in i.records ≡ true → (t : Bool) → stale_at l.state i.number ≡ t → RoundAgrees past i (round_of l i.number i.records)
      by_number s o true h =
          refused-agrees StaleRound (round_of l i.number i.records) (not-admitted StaleRound (rw (s, rep.range, o, h)))
          (rw (any_long (records_of i.records) whole-records, s, readable-same i, o, ← stale-same past l.state i.number rep.numbered, h))
      by_number s o false h = by-room s o h (ltb card_limit (length (list_after (pieces l.state.count l.cards) (records_of i.records)))) refl

      by-records : any long_in (records_of i.records) ≡ false → (t : Bool) → readable_in i.records ≡ t → RoundAgrees past i (round_of l i.number i.records)
      by-records s true h = by_number s h (stale_at l.state i.number) refl
      by-records s false h =
          refused-agrees (AtOnce BadArgument) (round_of l i.number i.records) (not-admitted (AtOnce BadArgument) (rw (s, rep.range, h)))
          (rw (any_long (records_of i.records) whole-records, s, readable-same i, h))

      by_length : (t : Bool) → any long_in (records_of i.records) ≡ t → RoundAgrees past i (round_of l i.number i.records)
      by_length true h =
          refused-agrees (AtOnce OverLong) (round_of l i.number i.records) (not-admitted (AtOnce OverLong) (rw h))
          (rw (any_long (records_of i.records) whole-records, h))
      by_length false h = by-records h (readable_in i.records) refl

-- any list of rounds, behind accepted ones
pub all_agree : (past : Seq Round) (l : Presence) (is : Seq RoundInput) → ListRepresents past l
    → (round_answers_in l is ≡ round_answers past (map round_in is)) × ListRepresents (accepted_of past (map round_in is)) (presence_after l is)
unfolding round_answers_in round_answers accepted_of presence_after
all_agree past l [] rep = (refl, rep)
all_agree past l (i ∷ is) rep =
    let a = agrees past l i rep in
    let r = all_agree (accepted_with (answer_to past (round_in i)) (round_in i) past) (round_of l i.number i.records).list is a.leaves in
    (ap₂ (λ (x : RoundAnswer) (xs : Seq RoundAnswer). x ∷ xs) a.answered r.0, r.1)

-- From empty: each answer is the one that the accepted rounds before it call for.
pub presence_answers : (is : Seq RoundInput) → round_answers_in empty_list is ≡ round_answers [] (map round_in is)
presence_answers is = (all_agree [] empty_list is empty_represents).0

-- And the list kept is the one worked out afresh from all accepted rounds.
pub presence_list_lem : (is : Seq RoundInput) → present_in (presence_after empty_list is) ≡ present_of (accepted_of [] (map round_in is))
presence_list_lem is = (all_agree [] empty_list is empty_represents).1.present
