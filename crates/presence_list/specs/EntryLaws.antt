-- A record as the list keeps it: its card, its fields, its length.
use Rattle.std.specs.Prelude.{◌≡◌}
use Rattle.std.proofs.Common.{sym, ◌∙◌, length-take, length-take-le}
use Rattle.std.proofs.Math.Path.{ap}
use mathlib.Core.List.{List, [], ◌∷◌, ◌++◌}
use Prim.Native.Nat.{ℕ, suc, ◌+◌, ◌-◌, ◌≤◌}
use native.Mathlib.Omega.{arith}
use Rattle.std.proofs.Math.ListN.{length, take, drop, get_or, set, replicate, length-set, length-append, length-drop, length-replicate, get_or-replicate}
use Rattle.std.proofs.Math.Seq.{get_or-drop, take-length, take-set-le, take_at, get_or-set_same, get_or-set_other, get_or-append-add}
use Rattle.presence_list.specs.Names.{record_size, identifier_limit, length_offset, bitrate_offset, missed_offset}
use Rattle.presence_list.specs.Memory.{card_in, length_in, missed_in, kept_record, kept_records, Whole}
use Rattle.presence_list.specs.Checks.{card-take}
use Rattle.presence_list.specs.CardsAt.{Fit}

pub length-card : (e : List ℕ) → length e ≡ record_size → length_in e ≤ identifier_limit → length (card_in e) ≡ suc (length_in e)
length-card e n h = ap length (card-take e (omega arith)) ∙ length-take-le (suc (length_in e)) e (omega arith)

pub card_short : (e : List ℕ) → length e ≡ record_size → length (card_in e) ≤ record_size
card_short e n = let l = length-take (suc (length_in e)) e in let c = ap length (card-take e (omega arith)) in omega arith

module _ (f : List ℕ) (n : length f ≡ record_size) (h : length_in f ≤ identifier_limit) where
  start : List ℕ
  start = card_in f ++ drop (length (card_in f)) (replicate record_size 0)

  length-start : length start ≡ record_size
  unfolding start
  length-start =
      let c = length-card f n h in
      let zeros : List ℕ = replicate record_size 0 in
      let z : length zeros ≡ record_size = length-replicate {A = ℕ} record_size 0 in
      let d = length-drop (length (card_in f)) zeros in
      length-append (card_in f) (drop (length (card_in f)) zeros) ∙ (omega arith)

  pub entry_whole : length (kept_record f) ≡ record_size
  unfolding kept_record start
  entry_whole = length-set (set start length_offset (length_in f)) bitrate_offset (get_or f bitrate_offset 0) ∙ length-set start length_offset (length_in f) ∙ length-start

  pub entry_length : length_in (kept_record f) ≡ length_in f
  unfolding kept_record start
  entry_length =
      get_or-set_other (set start length_offset (length_in f)) bitrate_offset length_offset (get_or f bitrate_offset 0) 0 (λ e. omega arith)
      ∙ get_or-set_same start length_offset (length_in f) 0 (let l = length-start in omega arith)

  pub entry_bitrate : get_or (kept_record f) bitrate_offset 0 ≡ get_or f bitrate_offset 0
  unfolding kept_record start
  entry_bitrate = get_or-set_same (set start length_offset (length_in f)) bitrate_offset (get_or f bitrate_offset 0) 0 (rw (length-set start length_offset (length_in f)) (let l = length-start in omega arith))

  pub entry_seen : missed_in (kept_record f) ≡ 0
  unfolding kept_record start
  entry_seen =
      let c = length-card f n h in
      let k : ℕ = missed_offset - length (card_in f) in
      let at : length (card_in f) + k ≡ missed_offset = omega arith in
      get_or-set_other (set start length_offset (length_in f)) bitrate_offset missed_offset (get_or f bitrate_offset 0) 0 (λ e. omega arith)
      ∙ get_or-set_other start length_offset missed_offset (length_in f) 0 (λ e. omega arith)
      ∙ ap (λ (j : ℕ). get_or start j 0) (sym at)
      ∙ get_or-append-add (card_in f) (drop (length (card_in f)) (replicate record_size 0)) k 0
      ∙ get_or-drop (length (card_in f)) (replicate record_size 0) k 0
      ∙ get_or-replicate record_size (length (card_in f) + k) 0 0 (omega arith)

  pub entry_card : card_in (kept_record f) ≡ card_in f
  unfolding kept_record start
  entry_card =
      card-take (kept_record f) (let w = entry_whole in omega arith)
      ∙ ap (λ (k : ℕ). take (suc k) (kept_record f)) entry_length
      ∙ take-set-le (suc (length_in f)) (set start length_offset (length_in f)) bitrate_offset (get_or f bitrate_offset 0) (omega arith)
      ∙ take-set-le (suc (length_in f)) start length_offset (length_in f) (omega arith)
      ∙ take_at (card_in f) (drop (length (card_in f)) (replicate record_size 0)) (suc (length_in f)) (length-card f n h)

pub entry_made : (f part e : List ℕ) → part ≡ card_in f → e ≡ take (length part) part ++ drop (length part) (replicate record_size 0)
    → set (set e length_offset (get_or f length_offset 0)) bitrate_offset (get_or f bitrate_offset 0) ≡ kept_record f
unfolding kept_record
entry_made f part e p q =
    ap (λ (x : List ℕ). set (set x length_offset (get_or f length_offset 0)) bitrate_offset (get_or f bitrate_offset 0))
    (q ∙ ap (λ (x : List ℕ). x ++ drop (length part) (replicate record_size 0)) (take-length part) ∙ ap (λ (x : List ℕ). x ++ drop (length x) (replicate record_size 0)) p)

pub entries_whole : (fs : List (List ℕ)) → Whole fs → Fit fs → Whole (kept_records fs)
unfolding kept_records
entries_whole [] w f = tt
entries_whole (e ∷ es) w f = (entry_whole e w.0 f.0, entries_whole es w.1 f.1)
