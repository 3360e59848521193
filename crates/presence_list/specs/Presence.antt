-- Document 02, N9: who is present, worked out afresh from all accepted rounds, and what a round is answered.
use Rattle.std.specs.Prelude.{Bool, true, false, List, [], ◌∷◌, ◌++◌, ℕ, ltb, leb, length}
use Rattle.errors.specs.Choice.{pick}
use Rattle.presence_list.specs.Names.{identifier_limit, card_limit, last_card_kind, last_bitrate}
use Rattle.presence_list.specs.Keyed.{supersede_all, without}

-- A card that was found, with its bitrate. A kind is its place in the order A, Type 1, B, F, DEP; a bitrate its place in 106A, 212F, 424F,
-- 106B, 212B, 424B, 848B.
pub record Found : Type 0 where
  pub kind : ℕ
  pub identifier : List ℕ
  pub bitrate : ℕ

-- a card is its kind and identifier
abbrev pub card : Found → List ℕ
card f = f.kind ∷ f.identifier

-- a round: its number, the records in the order in which they were handed in, and whether each of them is whole
pub record Round : Type 0 where
  pub number : ℕ
  pub found : List Found
  pub whole : Bool

-- the records of a list in the order of cards: by kind, then by identifier, a prefix first; seen again a card supersedes its older record
unfoldable pub listed : List Found → List Found
listed found = supersede_all card [] found

-- who is present, of the accepted rounds, the latest first: the cards of the last round and of the one before it
unfoldable pub present_of : List Round → List Found
present_of [] = []
present_of (r ∷ []) = listed r.found
present_of (r ∷ p ∷ rs) = listed (p.found ++ r.found)

-- what a round reports: who is there after it and was not before, and the other way round
pub record Report : Type 0 where
  pub arrived : List Found
  pub departed : List Found
  pub present : List Found

unfoldable pub report_of : List Round → Round → Report
report_of past r =
    record
    { arrived = without card (present_of past) (present_of (r ∷ past)); departed = without card (present_of (r ∷ past)) (present_of past); present = present_of (r ∷ past) }

unfoldable pub any : {A : Type 0} → (A → Bool) → List A → Bool
any q [] = false
any q (x ∷ xs) = pick (q x) true (any q xs)

unfoldable pub every : {A : Type 0} → (A → Bool) → List A → Bool
every q [] = true
every q (x ∷ xs) = pick (q x) (every q xs) false

-- an identifier over the limit
abbrev pub over_long : Found → Bool
over_long f = ltb identifier_limit (length f.identifier)

-- a kind and a bitrate that there are
abbrev pub known : Found → Bool
known f = pick (leb f.kind last_card_kind) (leb f.bitrate last_bitrate) false

abbrev pub readable : Round → Bool
readable r = pick r.whole (every known r.found) false

-- a number that is not above that of the last accepted round
unfoldable pub stale : List Round → ℕ → Bool
stale [] n = false
stale (p ∷ ps) n = leb n p.number

-- the list after the round would pass the limit
abbrev pub full : List Round → Round → Bool
full past r = ltb card_limit (length (present_of (r ∷ past)))

-- what a round is answered, behind the accepted ones: a report, or a refusal by its number. 3 comes before all else, and 27 before 28.
pub data RoundAnswer : Type 0 where
  accepted : Report → RoundAnswer
  refused : ℕ → RoundAnswer

unfoldable pub answer_to : List Round → Round → RoundAnswer
answer_to past r =
    pick (any over_long r.found) (refused 3)
    (pick (readable r) (pick (stale past r.number) (refused 27) (pick (full past r) (refused 28) (accepted (report_of past r)))) (refused 4))

-- the accepted rounds with one more: a refused round is none of them
abbrev pub accepted_with : RoundAnswer → Round → List Round → List Round
accepted_with (accepted p) r past = r ∷ past
accepted_with (refused n) r past = past

-- the accepted rounds of a list of rounds, behind others, and all the answers
unfoldable pub accepted_of : List Round → List Round → List Round
accepted_of past [] = past
accepted_of past (r ∷ rs) = accepted_of (accepted_with (answer_to past r) r past) rs

unfoldable pub round_answers : List Round → List Round → List RoundAnswer
round_answers past [] = []
round_answers past (r ∷ rs) = answer_to past r ∷ round_answers (accepted_with (answer_to past r) r past) rs
