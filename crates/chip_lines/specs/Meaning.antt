-- What `chip` prints, by the definitions' chip (chip_protocol): for any lines, from an empty field, the program writes what that chip prints.
use Rattle.std.specs.Prelude.{◌≡◌, true, List, [], ◌∷◌, ◌++◌, ℕ, ◌+◌, ◌*◌, ◌≤◌, take, drop}
use Rattle.std.proofs.Math.Path.{refl, ap}
use Rattle.std.proofs.Common.{ap₂, ◌∙◌, arith, le-ltb}
use Rattle.std.proofs.Math.ListN.{length}
use Rattle.std.proofs.Math.Seq.{take-append_seam}
use Rattle.errors.specs.Choice.{pick}
use Rattle.errors.specs.declared.Refusal.TheVariants.{BadArgument}
use Rattle.targets.specs.Bitrates.{ascii}
use Rattle.bench.specs.Lines.{feed}
use Rattle.bench.specs.Texts.{over}
use Rattle.bench.specs.declared.lines.Line.{Line}
use Rattle.bench.specs.declared.lines.Line.TheVariants.{Text, OverLong, End}
use Rattle.chip_protocol.specs.Names.{longest_packet, most_cards}
use Rattle.chip_protocol.specs.Packets.{Received, received, no_command, received_in}
use Rattle.chip_protocol.specs.Chip.{ChipState, fresh_chip, with_field, chip_step}
use Rattle.chip_protocol.specs.Add.{Added as Outcome, added, refuses, add_card, add_reply}
use Rattle.simulated_chip.specs.Counted.{list_from}
use Rattle.simulated_chip.specs.Memory.{card_size, sent_size, reply_size, places, fresh_numbers, chip_state}
use Rattle.simulated_chip.specs.Range.{in_range}
use Rattle.simulated_chip.specs.RangeLaws.{in_range_lem}
use Rattle.simulated_chip.specs.Additions.{addition_in, AfterAddition, chip_added, add_card_of, add_reply_of}
use Rattle.simulated_chip.specs.AddMeaning.{field_after, AddMeans, card_means, reply_means}
use Rattle.simulated_chip.specs.FreshMeaning.{fresh_in_range, fresh_means, zeros-length}
use Rattle.simulated_chip.specs.Steps.{zeros, fresh_chip_memory, command_step, received_step, step_in, step_of}
use Rattle.simulated_chip.specs.StepMeaning.{packets_in, step_means}
use Rattle.simulated_chip.specs.declared.chip.Chip.{Chip}
use Rattle.chip_lines.specs.ChipLines.{ChipLine, fresh, card, reply, frame, unreadable, chip_line_of}
use Rattle.chip_lines.specs.Lines.{LineAnswer, refused_text, addition_text, packets_text, sent_text, answer_to, printed, line_reply}

-- ---- what the definitions' chip prints

-- the chip after a line, and the text for the line
pub record Printed : Type 0 where
  pub chip : ChipState
  pub text : List ℕ

abbrev outcome_text : Outcome → List ℕ
outcome_text (added f) = ascii "ok"
outcome_text (refuses e) = refused_text e

abbrev pub added_to : ChipState → Outcome → Printed
added_to s o = record { chip = with_field s (field_after s.field o); text = outcome_text o }

abbrev pub line_on : ChipState → ChipLine → Printed
line_on s fresh = record { chip = fresh_chip; text = ascii "ok" }
line_on s (card k r l w) = added_to s (add_card s.field k r l w)
line_on s (reply p r) = added_to s (add_reply s.field p r)
line_on s (frame p) = record { chip = (chip_step s p).state; text = packets_text (chip_step s p).packets }
line_on s unreadable = record { chip = s; text = refused_text BadArgument }

-- with the line feed, of a line that stands at the start of b; nothing at the end of the input
abbrev ended : Printed → Printed
ended x = record { chip = x.chip; text = x.text ++ (feed ∷ []) }

abbrev pub printed_for : ChipState → Line → List ℕ → Printed
printed_for s (Text n) b = ended (line_on s (chip_line_of (take n b)))
printed_for s OverLong b = ended (line_on s unreadable)
printed_for s End b = record { chip = s; text = [] }

-- a line as it was read, and the buffer that it stands in
pub record ReadLine : Type 0 where
  pub line : Line
  pub buffer : List ℕ

-- what is printed for each of them
abbrev pub chip_prints : ChipState → List ReadLine → List (List ℕ)
chip_prints s [] = []
chip_prints s (x ∷ xs) = (printed_for s x.line x.buffer).text ∷ chip_prints (printed_for s x.line x.buffer).chip xs

-- ---- what the program writes: by `reply`, whose text stands at the start of o, then of what it left there

abbrev pub chip_writes : Chip → List ℕ → List ReadLine → List (List ℕ)
chip_writes c o [] = []
chip_writes c o (x ∷ xs) =
    let y = line_reply c x.line x.buffer o in
    take y.len y.out ∷ chip_writes y.chip y.out xs

-- ---- the memory: in range, and each array of its length

record Holds (c : Chip) : Type 0 where
  pub range : in_range c.state c.cards c.sent c.replies ≡ true
  pub cards_size : length c.cards ≡ most_cards * card_size
  pub sent_size : length c.sent ≡ places * sent_size
  pub replies_size : length c.replies ≡ places * reply_size

-- an answer on the memory is what the definitions' chip prints
record MeansLine (a : LineAnswer) (x : Printed) : Type 0 where
  pub chip : chip_state a.chip ≡ x.chip
  pub text : a.text ≡ x.text
  pub holds : Holds a.chip

module _ (c : Chip) (h : Holds c) where
  addition-text : (o : Outcome) → addition_text (addition_in o) ≡ outcome_text o
  unfolding addition_text
  addition-text (added f) = refl
  addition-text (refuses e) = refl

  by-addition : (x : AfterAddition) (o : Outcome) → AddMeans c.state c.cards c.sent c.replies x o
      → MeansLine (record { chip = (chip_added x).chip; text = addition_text x.addition }) (added_to (chip_state c) o)
  by-addition x o m =
      record {
        chip = m.state;
        text = ap addition_text m.addition ∙ addition-text o;
        holds = record { range = m.inside; cards_size = m.cards_size ∙ h.cards_size; sent_size = m.sent_size ∙ h.sent_size; replies_size = m.replies_size ∙ h.replies_size };
      }

  fresh-range : in_range fresh_numbers c.cards c.sent c.replies ≡ true
  unfolding in_range pick
  fresh-range =
      let r = in_range_lem c.state c.cards c.sent c.replies h.range in
      rw (r.numbers.cards_fit, r.sent_fit) r.replies_fit

  -- it is not refused: the buffer is long enough, and the memory in range
  sent-text : (p b : List ℕ) → longest_packet ≤ length b
      → (let x = step_in c.state c.cards c.sent c.replies p b in sent_text x.answer x.buffer ≡ packets_text (packets_in x.answer x.buffer))
  unfolding step_in command_step sent_text pick
  sent-text p b room = rw (le-ltb (length b) longest_packet room, h.range) (go (received_in p))
    where
      go : (x : Received) → (let y = received_step c.state c.cards c.sent c.replies x b in sent_text y.answer y.buffer ≡ packets_text (packets_in y.answer y.buffer))
      go (received code bytes) = refl
      go no_command = refl

  line-means : (l : ChipLine) → MeansLine (answer_to c l) (line_on (chip_state c) l)
  unfolding add_card_of add_reply_of step_of list_from
  line-means fresh = record { chip = refl; text = refl; holds = record { range = fresh-range; cards_size = h.cards_size; sent_size = h.sent_size; replies_size = h.replies_size } }
  line-means (card k r l w) = by-addition _ _ (card_means c.state c.cards c.sent c.replies h.cards_size h.sent_size h.replies_size h.range k r l w)
  line-means (reply p r) = by-addition _ _ (reply_means c.state c.cards c.sent c.replies h.cards_size h.sent_size h.replies_size h.range p r)
  line-means (frame p) =
      let room : longest_packet ≤ length (zeros longest_packet) = omega (arith, zeros-length longest_packet) in
      let m = step_means c.state c.cards c.sent c.replies h.range p (zeros longest_packet) room in
      record {
        chip = m.state;
        text = sent-text p (zeros longest_packet) room ∙ ap packets_text m.packets;
        holds = record { range = m.inside; cards_size = h.cards_size; sent_size = h.sent_size; replies_size = h.replies_size };
      }
  line-means unreadable = record { chip = refl; text = refl; holds = h }

-- ---- the theorem

text_written : (t o : List ℕ) → take (length t) (over 0 t o) ≡ t
unfolding over
text_written t o = take-append_seam t (drop (0 + length t) o)

record MeansReply (c : Chip) (t : Line) (b o : List ℕ) : Type 0 where
  pub written : take (line_reply c t b o).len (line_reply c t b o).out ≡ (printed_for (chip_state c) t b).text
  pub chip : chip_state (line_reply c t b o).chip ≡ (printed_for (chip_state c) t b).chip
  pub holds : Holds (line_reply c t b o).chip

reply_means_line : (c : Chip) (t : Line) (b o : List ℕ) → Holds c → MeansReply c t b o
unfolding line_reply printed
reply_means_line c (Text n) b o h =
    let m = line-means c h (chip_line_of (take n b)) in
    record { written = text_written _ o ∙ ap (λ (l : List ℕ). l ++ (feed ∷ [])) m.text; chip = m.chip; holds = m.holds }
reply_means_line c OverLong b o h = record { written = text_written _ o; chip = refl; holds = h }
reply_means_line c End b o h = record { written = refl; chip = refl; holds = h }

writes-prints : (xs : List ReadLine) (c : Chip) (s : ChipState) (o : List ℕ) → Holds c → chip_state c ≡ s → chip_writes c o xs ≡ chip_prints s xs
writes-prints [] c s o h e = refl
writes-prints (x ∷ xs) c s o h e =
    let m = reply_means_line c x.line x.buffer o h in
    ap₂ (λ (t : List ℕ) (ts : List (List ℕ)). t ∷ ts) (m.written ∙ ap (λ (z : ChipState). (printed_for z x.line x.buffer).text) e)
    (writes-prints xs _ _ _ m.holds (m.chip ∙ ap (λ (z : ChipState). (printed_for z x.line x.buffer).chip) e))

-- For any lines, from an empty field, and whatever stands in the buffer of the texts: the program writes what the definitions' chip prints.
pub chip_prints_lem : (xs : List ReadLine) (o : List ℕ) → chip_writes fresh_chip_memory o xs ≡ chip_prints fresh_chip xs
chip_prints_lem xs o =
    writes-prints xs fresh_chip_memory fresh_chip o
    (record { range = fresh_in_range; cards_size = zeros-length (most_cards * card_size); sent_size = zeros-length (places * sent_size); replies_size = zeros-length (places * reply_size) }) fresh_means
