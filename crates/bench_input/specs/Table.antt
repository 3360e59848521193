-- The lines of `session`, a row for each: its name, a letter for each word behind the name (Letters.antt), and its number. A row is found
-- by its name and its number of words.
use Rattle.std.specs.Prelude.{Bool, List, [], ◌∷◌, ℕ, ◌+◌, ◌-◌, eqb, ltb, length, get_or, drop}
use Rattle.std.proofs.Math.Option.{Option, none, some}
use Rattle.errors.specs.Choice.{pick, same}
use Rattle.framing.specs.Lists.{both}
use Rattle.targets.specs.Bitrates.{ascii}
use Rattle.bench.specs.Words.{words_of_lem}
use Rattle.bench_input.specs.Arguments.{Arguments, Read, line_limit, word_at}
use Rattle.bench_input.specs.Letters.{arguments_of, no_arguments}
use Rattle.calls.specs.declared.start.Numbers.{Numbers}

pub record LineRow : Type 0 where
  pub name : List ℕ
  pub letters : List ℕ
  pub number : ℕ

abbrev pub row : List ℕ → List ℕ → ℕ → LineRow
row name letters number = record { name = name; letters = letters; number = number }

-- a call has its number, and an event its number behind 128
abbrev pub events_from : ℕ
events_from = 128

unfoldable pub table : List LineRow
table =
    row (ascii "open") (ascii "") 0
    ∷ row (ascii "open") (ascii "z") 0
    ∷ row (ascii "version") (ascii "") 1
    ∷ row (ascii "reset_mode") (ascii "") 2
    ∷ row (ascii "set_parameters") (ascii "x") 3
    ∷ row (ascii "rf_configuration") (ascii "xH") 4
    ∷ row (ascii "read_register") (ascii "2") 5
    ∷ row (ascii "write_register") (ascii "3") 6
    ∷ row (ascii "read_single_register") (ascii "w") 7
    ∷ row (ascii "write_single_register") (ascii "wx") 8
    ∷ row (ascii "in_list_passive_target") (ascii "xyH") 9
    ∷ row (ascii "in_data_exchange") (ascii "mH") 10
    ∷ row (ascii "in_communicate_thru") (ascii "mH") 11
    ∷ row (ascii "in_jump_for_dep") (ascii "fyHHH") 12
    ∷ row (ascii "tg_init_target") (ascii "mxHHHH") 13
    ∷ row (ascii "tg_set_general_bytes") (ascii "H") 14
    ∷ row (ascii "tg_get_initiator_command") (ascii "m") 15
    ∷ row (ascii "tg_response_to_initiator") (ascii "H") 16
    ∷ row (ascii "tg_get_target_status") (ascii "") 17
    ∷ row (ascii "rf_field_off") (ascii "") 18
    ∷ row (ascii "detect_type_a") (ascii "BH") 19
    ∷ row (ascii "detect_type_b") (ascii "BH") 20
    ∷ row (ascii "detect_type_f") (ascii "Bwxy") 21
    ∷ row (ascii "detect_dep") (ascii "BN") 22
    ∷ row (ascii "transceive") (ascii "BNptH") 23
    ∷ row (ascii "poll_type_f") (ascii "B2") 24
    ∷ row (ascii "detect_type_a") (ascii "BHs") 25
    ∷ row (ascii "read_without_encryption") (ascii "HwuH") 26
    ∷ row (ascii "write_without_encryption") (ascii "HwuHH") 27
    ∷ row (ascii "ok") (ascii "") 128
    ∷ row (ascii "bad") (ascii "") 129
    ∷ row (ascii "pkt") (ascii "") 130
    ∷ row (ascii "pkt") (ascii "H") 130
    ∷ row (ascii "time") (ascii "") 131
    ∷ row (ascii "fail") (ascii "") 132
    ∷ row (ascii "late") (ascii "") 133
    ∷ row (ascii "slept") (ascii "") 134
    ∷ []

abbrev pub no_row : LineRow
no_row = row [] [] 0

abbrev pub row_at : ℕ → LineRow
row_at k = get_or table k no_row

-- the row of a name and a number of words
unfoldable pub is_for_of : LineRow → List ℕ → ℕ → Bool
is_for_of r name n = both (same r.name name) (eqb (length r.letters + 1) n)

unfoldable pub row_for : List LineRow → List ℕ → ℕ → Option LineRow
row_for [] name n = none
row_for (r ∷ rows) name n = pick (is_for_of r name n) (some r) (row_for rows name n)

-- a call by its number, with four byte strings; an event by its number, with its packet's bytes; or a line that cannot be read
pub data Said : Type 0 where
  calls : ℕ → Numbers → (first second third fourth : List ℕ) → Said
  happens : ℕ → List ℕ → Said
  unreadable : Said

-- a byte string that no word gives is empty; an event has one at most
abbrev pub string : Arguments → ℕ → List ℕ
string a k = get_or a.strings k []

unfoldable pub said : ℕ → Arguments → Said
said number a =
    pick (ltb number events_from) (calls number a.numbers (string a 0) (string a 1) (string a 2) (string a 3))
    (pick (ltb 1 (length a.strings)) unreadable (happens (number - events_from) (string a 0)))

abbrev pub said_of : ℕ → Read → Said
said_of number none = unreadable
said_of number (some a) = said number a

-- the words of a line, by their row
abbrev pub by_row : Option LineRow → List (List ℕ) → Said
by_row none ws = unreadable
by_row (some r) ws = said_of r.number (arguments_of r.letters (drop 1 ws) no_arguments)

unfoldable pub input_of : List ℕ → Said
input_of l = pick (ltb line_limit (length l)) unreadable (by_row (row_for table (word_at l 0) (length (words_of_lem l))) (words_of_lem l))
