-- What `chip` prints for a line, with the chip's memory after it.
use Rattle.std.specs.Prelude.{Some, None, Ok, Err, List, [], ◌∷◌, ◌++◌, ℕ, length, take}
use Rattle.errors.specs.Refusals.{numbered}
use Rattle.errors.specs.declared.Refusal.{Refusal}
use Rattle.errors.specs.declared.Refusal.TheVariants.{BadArgument}
use Rattle.framing.specs.Frames.{ack}
use Rattle.targets.specs.Bitrates.{ascii}
use Rattle.bench.specs.Hex.{dash, hex_of}
use Rattle.bench.specs.Lines.{feed}
use Rattle.bench.specs.Texts.{over, decimal_of}
use Rattle.bench.specs.declared.lines.Line.{Line}
use Rattle.bench.specs.declared.lines.Line.TheVariants.{Text, OverLong, End}
use Rattle.chip_protocol.specs.Names.{longest_packet}
use Rattle.simulated_chip.specs.Memory.{fresh_numbers}
use Rattle.simulated_chip.specs.Steps.{Answer, LeftBy, zeros, step_of}
use Rattle.simulated_chip.specs.Additions.{Addition, ChipAdded, add_card_of, add_reply_of}
use Rattle.simulated_chip.specs.declared.chip.Chip.{Chip}
use Rattle.chip_lines.specs.ChipLines.{ChipLine, fresh, card, reply, frame, unreadable, chip_line_of}

-- no text is longer; room for any text and a line feed
abbrev pub text_limit : ℕ
text_limit = 2100

abbrev pub answer_room : ℕ
answer_room = 2112

-- ---- texts

unfoldable pub refused_text : Refusal → List ℕ
refused_text e = ascii "refused " ++ decimal_of (numbered e).number

unfoldable pub addition_text : Addition → List ℕ
addition_text (Ok t) = ascii "ok"
addition_text (Err e) = refused_text e

-- packets, one space between; `-` for none
unfoldable pub packets_text : List (List ℕ) → List ℕ
packets_text [] = dash
packets_text (p ∷ []) = hex_of p
packets_text (p ∷ q ∷ ps) = hex_of p ++ ascii " " ++ packets_text (q ∷ ps)

-- what the chip sends; the packet behind ACK stands at the start of b
unfoldable pub sent_text : Answer → List ℕ → List ℕ
sent_text (Ok None) b = packets_text []
sent_text (Ok (Some n)) b = packets_text (ack ∷ take n b ∷ [])
sent_text (Err e) b = refused_text e

-- ---- the chip's memory after a line, and the text for the line

pub record LineAnswer : Type 0 where
  pub chip : Chip
  pub text : List ℕ

abbrev pub line_answer : Chip → List ℕ → LineAnswer
line_answer c t = record { chip = c; text = t }

abbrev pub addition_answer : ChipAdded → LineAnswer
addition_answer x = line_answer x.chip (addition_text x.addition)

abbrev pub step_answer : LeftBy → LineAnswer
step_answer x = line_answer x.step.chip (sent_text x.step.answer x.buffer)

abbrev pub answer_to : Chip → ChipLine → LineAnswer
answer_to c fresh = line_answer (record { cards = c.cards; sent = c.sent; replies = c.replies; state = fresh_numbers }) (ascii "ok")
answer_to c (card k r l w) = addition_answer (add_card_of c k r l w)
answer_to c (reply p r) = addition_answer (add_reply_of c p r)
answer_to c (frame p) = step_answer (step_of c p (zeros longest_packet))
answer_to c unreadable = line_answer c (refused_text BadArgument)

-- ---- what is written

-- the chip and a text's length, with the text's buffer
pub record AfterLine : Type 0 where
  pub chip : Chip
  pub len : ℕ
  pub out : List ℕ

abbrev pub after_line : Chip → ℕ → List ℕ → AfterLine
after_line c n o = record { chip = c; len = n; out = o }

-- the text and a line feed (10) at the start of o
unfoldable pub printed : LineAnswer → List ℕ → AfterLine
printed a o = after_line a.chip (length (a.text ++ (feed ∷ []))) (over 0 (a.text ++ (feed ∷ [])) o)

-- what is written for a line that stands at the start of b: nothing at the end of the input
unfoldable pub line_reply : Chip → Line → List ℕ → List ℕ → AfterLine
line_reply c (Text n) b o = printed (answer_to c (chip_line_of (take n b))) o
line_reply c OverLong b o = printed (answer_to c unreadable) o
line_reply c End b o = after_line c 0 o
