-- The lines of the program `presence`, and the text that is printed for each. A line that cannot be read gives `refused 4`.
use Rattle.std.specs.Prelude.{Bool, true, false, List, [], ◌∷◌, ◌++◌, ℕ, suc, ◌+◌, ◌-◌, ◌/◌, leb, ltb, length, take, drop, get_or, replicate, Option, Some, None, Result, Ok, Err}
use Rattle.octets.specs.Bytes.{index_of}
use Rattle.errors.specs.Choice.{pick, same}
use Rattle.errors.specs.Refusals.{round_numbered}
use Rattle.errors.specs.declared.Refusal.TheVariants.{BadArgument}
use Rattle.errors.specs.declared.RoundRefusal.{RoundRefusal}
use Rattle.errors.specs.declared.RoundRefusal.TheVariants.{AtOnce}
use Rattle.targets.specs.Bitrates.{ascii}
use Rattle.bench.specs.Hex.{is_hex_of, pairs_of, hex_of}
use Rattle.bench.specs.Numbers.{number_of}
use Rattle.bench.specs.Texts.{over, decimal_of}
use Rattle.bench.specs.Words.{words_of_lem}
use Rattle.bench.specs.declared.lines.Line.{Line}
use Rattle.bench.specs.declared.lines.Line.TheVariants.{Text, OverLong, End}
use Rattle.presence_list.specs.Names.{identifier_limit, bitrate_offset, last_card_kind, last_bitrate}
use Rattle.presence_list.specs.Memory.{pieces, length_in}
use Rattle.presence_list.specs.Steps.{Rounded, round_of}
use Rattle.presence_list.specs.declared.list.Counts.{Counts}
use Rattle.presence_list.specs.declared.list.Presence.{Presence}
use Rattle.bench.specs.Lines.{feed}

-- the longest line, without its line feed; room for its records, and for any answer and a line feed
abbrev pub line_limit : ℕ
line_limit = 65536

abbrev pub records_room : ℕ
records_room = 145660

abbrev pub answer_room : ℕ
answer_room = 8192

-- the names of the kinds and of the bitrates, by their numbers
unfoldable pub kinds : List (List ℕ)
kinds = words_of_lem (ascii "A T1 B F DEP")

unfoldable pub bitrates : List (List ℕ)
bitrates = words_of_lem (ascii "106A 212F 424F 106B 212B 424B 848B")

-- ---- what a line says

-- the place of a word among others; how many they are where it is none of them
unfoldable pub place_among : List ℕ → List (List ℕ) → ℕ
place_among w [] = 0
place_among w (x ∷ xs) = pick (same x w) 0 (suc (place_among w xs))

abbrev pub colon : ℕ
colon = 58

-- what stands before and behind the first colon
unfoldable pub before_colon : List ℕ → List ℕ
before_colon w = take (index_of colon w) w

unfoldable pub behind_colon : List ℕ → List ℕ
behind_colon w = drop (index_of colon w + 1) w

-- a card is `KIND:HEX:BITRATE`
abbrev pub kind_named_of : List ℕ → ℕ
kind_named_of w = place_among (before_colon w) kinds

abbrev pub bitrate_of : List ℕ → ℕ
bitrate_of w = place_among (behind_colon (behind_colon w)) bitrates

abbrev pub identifier_of : List ℕ → List ℕ
identifier_of w = before_colon (behind_colon w)

-- HEX of at most so many bytes
abbrev pub hex_limit : ℕ
hex_limit = 1024

abbrev pub is_identifier : List ℕ → Bool
is_identifier w = pick (is_hex_of w) (leb (length w / 2) hex_limit) false

unfoldable pub is_card : List ℕ → Bool
is_card w = pick (leb (kind_named_of w) last_card_kind) (pick (leb (bitrate_of w) last_bitrate) (is_identifier (identifier_of w)) false) false

-- a record: kind, identifier with zeros behind it, its length, bitrate, and a byte that is not looked at
unfoldable pub record_with : ℕ → List ℕ → ℕ → ℕ → List ℕ
record_with kind p n bitrate = (kind ∷ []) ++ p ++ take (identifier_limit - length p) (replicate identifier_limit 0) ++ (n ∷ bitrate ∷ 0 ∷ [])

-- of a longer identifier a record has the length alone, as one over the limit
abbrev pub over_length : ℕ
over_length = suc identifier_limit

unfoldable pub identified : ℕ → List ℕ → ℕ → List ℕ
identified kind w bitrate = pick (ltb identifier_limit (length w / 2)) (record_with kind [] over_length bitrate) (record_with kind (pairs_of w) (length w / 2) bitrate)

unfoldable pub record_of_word : List ℕ → List ℕ
record_of_word w = identified (kind_named_of w) (identifier_of w) (bitrate_of w)

unfoldable pub are_cards : List (List ℕ) → Bool
are_cards [] = true
are_cards (w ∷ ws) = pick (is_card w) (are_cards ws) false

unfoldable pub records_of_words : List (List ℕ) → List ℕ
records_of_words [] = []
records_of_words (w ∷ ws) = record_of_word w ++ records_of_words ws

-- a round's number and its records
pub record Said : Type 0 where
  pub number : ℕ
  pub records : List ℕ

abbrev pub said : ℕ → List ℕ → Said
said n p = record { number = n; records = p }

-- `round`, the number, and the cards
unfoldable pub said_round : Option ℕ → List (List ℕ) → Option Said
said_round None ws = None
said_round (Some n) ws = pick (are_cards ws) (Some (said n (records_of_words ws))) None

unfoldable pub said_of : List (List ℕ) → Option Said
said_of [] = None
said_of (name ∷ []) = None
said_of (name ∷ number ∷ cards) = pick (same (ascii "round") name) (said_round (number_of number) cards) None

-- ---- what is printed

-- a card of the list, `KIND:HEX` behind a space
unfoldable pub card_text : List ℕ → List ℕ
card_text e = ascii " " ++ get_or kinds (get_or e 0 0) [] ++ ascii ":" ++ hex_of (take (length_in e) (take identifier_limit (drop 1 e)))

-- its bitrate, where it is shown
unfoldable pub rate_text : Bool → List ℕ → List ℕ
rate_text shown e = pick shown (ascii ":" ++ get_or bitrates (get_or e bitrate_offset 0) []) []

unfoldable pub cards_text : Bool → List (List ℕ) → List ℕ
cards_text shown [] = []
cards_text shown (e ∷ es) = card_text e ++ rate_text shown e ++ cards_text shown es

-- the arrivals, the departures and the list
unfoldable pub lists_text : List (List ℕ) → List (List ℕ) → List (List ℕ) → List ℕ
lists_text came left present = ascii "arrived" ++ cards_text false came ++ ascii " departed" ++ cards_text false left ++ ascii " present" ++ cards_text true present

unfoldable pub refused_text : RoundRefusal → List ℕ
refused_text e = ascii "refused " ++ decimal_of (round_numbered e).number

abbrev pub unreadable : List ℕ
unreadable = refused_text (AtOnce BadArgument)

unfoldable pub text_of : Result Counts RoundRefusal → Presence → List ℕ
text_of (Ok c) l = lists_text (pieces c.arrived l.arrived) (pieces c.departed l.departed) (pieces l.state.count l.cards)
text_of (Err e) l = refused_text e

-- ---- a line and its answer

-- the list after a line, and the text for the line
pub record LineAnswer : Type 0 where
  pub list : Presence
  pub text : List ℕ

abbrev pub line_answer : Presence → List ℕ → LineAnswer
line_answer l t = record { list = l; text = t }

abbrev pub round_answer : Rounded → LineAnswer
round_answer r = line_answer r.list (text_of r.answer r.list)

unfoldable pub on_said : Presence → Option Said → LineAnswer
on_said l None = line_answer l unreadable
on_said l (Some s) = round_answer (round_of l s.number s.records)

unfoldable pub answer_of : Presence → List ℕ → LineAnswer
answer_of l line = pick (ltb line_limit (length line)) (line_answer l unreadable) (on_said l (said_of (words_of_lem line)))

-- the list and a text's length, with the text's buffer
pub record AfterLine : Type 0 where
  pub list : Presence
  pub len : ℕ
  pub out : List ℕ

abbrev pub after_line : Presence → ℕ → List ℕ → AfterLine
after_line l n o = record { list = l; len = n; out = o }

-- the text and a line feed (10) at the start of o
unfoldable pub printed : LineAnswer → List ℕ → AfterLine
printed a o = after_line a.list (length (a.text ++ (feed ∷ []))) (over 0 (a.text ++ (feed ∷ [])) o)

-- what is written for a line that stands at the start of b: nothing at the end of the input
unfoldable pub line_reply : Presence → Line → List ℕ → List ℕ → AfterLine
line_reply l (Text n) b o = printed (answer_of l (take n b)) o
line_reply l OverLong b o = printed (line_answer l unreadable) o
line_reply l End b o = after_line l 0 o
