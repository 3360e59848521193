-- Lines of document 02, N9, by computation from the definitions.
use Rattle.std.specs.Prelude.{◌≡◌, refl}
use Rattle.errors.specs.Choice.{pick, same, in_range}
use Rattle.framing.specs.Lists.{starts}
use Rattle.targets.specs.Bitrates.{ascii}
use Rattle.octets.specs.Bytes.{index_after, index_of}
use Rattle.bench.specs.Hex.{value_of, all_hex_digits, is_hex_of, pairs_of, digit_of, digits_of_lem, hex_of}
use Rattle.bench.specs.Numbers.{digit_value_of, all_decimal, number_from, is_number, number_of}
use Rattle.bench.specs.Texts.{over, decimal_under, decimal_of}
use Rattle.bench.specs.Words.{ahead, words_of_lem}
use Rattle.presence_list.specs.Keyed.{supersede, supersede_all, has, without}
use Rattle.presence_list.specs.Memory.{pieces, concatenated, laid, card_in, kept_record, kept_records, aged}
use Rattle.presence_list.specs.Order.{before}
use Rattle.presence_list.specs.Presence.{any, every}
use Rattle.presence_list.specs.Steps.{list_in_range, stale_at, readable_in, admission_of, accept_of, round_of, empty_list}
use Rattle.presence_lines.specs.Lines.{kinds, bitrates, place_among, before_colon, behind_colon, is_card, record_with, identified, record_of_word, are_cards, records_of_words, said_round, said_of, card_text, rate_text, cards_text, lists_text, refused_text, text_of, on_said, answer_of}

pub one-card : (answer_of empty_list (ascii "round 1 A:04A1:106A")).text ≡ ascii "arrived A:04A1 departed present A:04A1:106A"
unfolding pick in_range starts same index_after index_of value_of all_hex_digits is_hex_of pairs_of digit_of digits_of_lem hex_of over ahead words_of_lem supersede supersede_all has without pieces concatenated laid card_in kept_record kept_records aged before any every list_in_range stale_at readable_in admission_of accept_of round_of digit_value_of all_decimal number_from is_number number_of kinds bitrates place_among before_colon behind_colon is_card record_with identified record_of_word are_cards records_of_words said_round said_of card_text rate_text cards_text lists_text text_of on_said answer_of
one-card = refl

pub seventeen_bytes : (answer_of empty_list (ascii "round 1 A:0102030405060708090A0B0C0D0E0F1011:106A")).text ≡ ascii "refused 3"
unfolding pick in_range starts same index_after index_of value_of all_hex_digits is_hex_of pairs_of over ahead words_of_lem pieces any admission_of round_of decimal_under decimal_of digit_value_of all_decimal number_from is_number number_of kinds bitrates place_among before_colon behind_colon is_card record_with identified record_of_word are_cards records_of_words said_round said_of refused_text text_of on_said answer_of
seventeen_bytes = refl

pub no_such_kind : (answer_of empty_list (ascii "round 1 C:01:106A")).text ≡ ascii "refused 4"
unfolding pick in_range starts same index_after index_of ahead words_of_lem decimal_under decimal_of digit_value_of all_decimal number_from is_number number_of kinds bitrates place_among before_colon behind_colon is_card are_cards said_round said_of refused_text on_said answer_of
no_such_kind = refl
