-- A card in its slot: what was put there is read back.
use Rattle.std.specs.Prelude.{◌≡◌, refl, true, List, ℕ, ◌+◌, ◌≤◌, length, get_or, set}
use Rattle.std.proofs.Common.{◌∙◌, arith}
use Rattle.std.proofs.lemmas.Bool.{false≢true}
use Rattle.std.proofs.Math.ListN.{length-set}
use Rattle.std.proofs.Math.Seq.{get_or-set_same, get_or-set_other}
use Rattle.errors.specs.Choice.{pick}
use Rattle.targets.specs.declared.Bitrate.{Bitrate}
use Rattle.targets.specs.declared.Bitrate.TheVariants.{B106A, B212F, B424F, B106B, B212B, B424B, B848B, Other}
use Rattle.chip_protocol.specs.Names.{longest_list_data}
use Rattle.chip_protocol.specs.Field.{kind_number, br_ty, is_bitrate_of}
use Rattle.simulated_chip.specs.Memory.{card_size, br_ty_place, reply_count_place, list_data_place, text_length, text_at_of, put_text, kind_at, bitrate_at}
use Rattle.simulated_chip.specs.Range.{last_kind, last_br_ty}
use Rattle.simulated_chip.specs.Additions.{put_card_of}
use Rattle.simulated_chip.specs.PutLaws.{Within, within_then, within_wider, within_set, put_within, put-length, put_read}
use Rattle.chip_protocol.specs.declared.Kind.{Kind}
use Rattle.chip_protocol.specs.declared.Kind.TheVariants.{TypeA, TypeB, TypeF, Dep}

-- ---- kinds and bitrates are read back

pub kind_read : (k : Kind) → kind_at (kind_number k) ≡ k
unfolding kind_at pick
kind_read TypeA = refl
kind_read TypeB = refl
kind_read TypeF = refl
kind_read Dep = refl

pub kind-most : (k : Kind) → kind_number k ≤ last_kind
kind-most TypeA = omega arith
kind-most TypeB = omega arith
kind-most TypeF = omega arith
kind-most Dep = omega arith

-- the bitrates of a kind have a code
pub record Coded (r : Bitrate) : Type 0 where
  pub read : bitrate_at (br_ty r) ≡ r
  pub most : br_ty r ≤ last_br_ty

pub rate_read : (k : Kind) (r : Bitrate) → is_bitrate_of k r ≡ true → Coded r
unfolding bitrate_at pick
rate_read k B106A h = record { read = refl; most = omega arith }
rate_read k B212F h = record { read = refl; most = omega arith }
rate_read k B424F h = record { read = refl; most = omega arith }
rate_read k B106B h = record { read = refl; most = omega arith }
rate_read TypeA B212B h = absurd (false≢true h)
rate_read TypeB B212B h = absurd (false≢true h)
rate_read TypeF B212B h = absurd (false≢true h)
rate_read Dep B212B h = absurd (false≢true h)
rate_read TypeA B424B h = absurd (false≢true h)
rate_read TypeB B424B h = absurd (false≢true h)
rate_read TypeF B424B h = absurd (false≢true h)
rate_read Dep B424B h = absurd (false≢true h)
rate_read TypeA B848B h = absurd (false≢true h)
rate_read TypeB B848B h = absurd (false≢true h)
rate_read TypeF B848B h = absurd (false≢true h)
rate_read Dep B848B h = absurd (false≢true h)
rate_read TypeA Other h = absurd (false≢true h)
rate_read TypeB Other h = absurd (false≢true h)
rate_read TypeF Other h = absurd (false≢true h)
rate_read Dep Other h = absurd (false≢true h)

-- ---- a card in its slot

module _ (cards l : List ℕ) (at kind code count : ℕ) (room : at + card_size ≤ length cards) (short : length l ≤ longest_list_data) where
  abbrev numbers : List ℕ
  numbers = set (set (set cards at kind) (at + br_ty_place) code) (at + reply_count_place) count

  sized : length numbers ≡ length cards
  sized = length-set (set (set cards at kind) (at + br_ty_place) code) (at + reply_count_place) count ∙ length-set (set cards at kind) (at + br_ty_place) code ∙ length-set cards at kind

  put : Within (at + list_data_place) (at + list_data_place + (length l + 2)) numbers (put_text (at + list_data_place) l numbers)
  put = put_within numbers l (at + list_data_place) (rw sized (omega arith))

  pub card_within : Within at (at + card_size) cards (put_card_of at kind code count l cards)
  unfolding put_card_of
  card_within =
      within_then at (at + card_size) cards numbers (put_text (at + list_data_place) l numbers)
      (within_then at (at + card_size) cards (set (set cards at kind) (at + br_ty_place) code) numbers
      (within_then at (at + card_size) cards (set cards at kind) (set (set cards at kind) (at + br_ty_place) code)
      (within_wider at (at + 1) at (at + card_size) cards (set cards at kind) (omega arith) (omega arith) (within_set at kind cards))
      (within_wider (at + br_ty_place) (at + br_ty_place + 1) at (at + card_size) (set cards at kind) (set (set cards at kind) (at + br_ty_place) code) (omega arith) (omega arith) (within_set (at + br_ty_place) code (set cards at kind))))
      (within_wider (at + reply_count_place) (at + reply_count_place + 1) at (at + card_size) (set (set cards at kind) (at + br_ty_place) code) numbers (omega arith) (omega arith)
      (within_set (at + reply_count_place) count (set (set cards at kind) (at + br_ty_place) code))))
      (within_wider (at + list_data_place) (at + list_data_place + (length l + 2)) at (at + card_size) numbers (put_text (at + list_data_place) l numbers) (omega arith) (omega arith) put)

  pub kind-put : get_or (put_card_of at kind code count l cards) at 0 ≡ kind
  unfolding put_card_of
  kind-put =
      put.below at (omega arith)
      ∙ get_or-set_other (set (set cards at kind) (at + br_ty_place) code) (at + reply_count_place) at count 0 (λ e. omega arith)
      ∙ get_or-set_other (set cards at kind) (at + br_ty_place) at code 0 (λ e. omega arith)
      ∙ get_or-set_same cards at kind 0 (omega arith)

  pub code_put : get_or (put_card_of at kind code count l cards) (at + br_ty_place) 0 ≡ code
  unfolding put_card_of
  code_put =
      put.below (at + br_ty_place) (omega arith)
      ∙ get_or-set_other (set (set cards at kind) (at + br_ty_place) code) (at + reply_count_place) (at + br_ty_place) count 0 (λ e. omega arith)
      ∙ get_or-set_same (set cards at kind) (at + br_ty_place) code 0 (rw (length-set cards at kind) (omega arith))

  pub count-put : get_or (put_card_of at kind code count l cards) (at + reply_count_place) 0 ≡ count
  unfolding put_card_of
  count-put =
      put.below (at + reply_count_place) (omega arith)
      ∙ get_or-set_same (set (set cards at kind) (at + br_ty_place) code) (at + reply_count_place) count 0 (rw (length-set (set cards at kind) (at + br_ty_place) code, length-set cards at kind) (omega arith))

  pub list_data_put : text_at_of (at + list_data_place) (put_card_of at kind code count l cards) ≡ l
  unfolding put_card_of
  list_data_put = put_read numbers l (at + list_data_place) (rw sized (omega arith))

  pub list_length-put : text_length (at + list_data_place) (put_card_of at kind code count l cards) ≡ length l
  unfolding put_card_of
  list_length-put = put-length numbers l (at + list_data_place) (rw sized (omega arith))
