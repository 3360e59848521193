-- The text that is printed for an order or an answer.
use Rattle.std.specs.Prelude.{ℕ, List, [], ◌∷◌, ◌++◌, length, take, ◌==◌}
use Rattle.errors.specs.Choice.{pick}
use Rattle.errors.specs.Refusals.{numbered, fault_numbered, status_number, card_status_number}
use Rattle.errors.specs.declared.Numbered.{Numbered}
use Rattle.framing.specs.Names.{ack_size}
use Rattle.targets.specs.Bitrates.{ascii}
use Rattle.engine.specs.declared.running.Output.{Output}
use Rattle.engine.specs.declared.running.Output.TheVariants.{Ack, Command, Read, Drain, Pause, Done, Type1, UidAndAts, Nothing, Failed, FailedAfter, Refused}
use Rattle.bench.specs.Texts.{decimal_of}
use Rattle.bench.specs.Hex.{hex_of}

-- no text is longer: an answer of 1,024 bytes with two numbers of 20 digits each
abbrev pub text_limit : ℕ
text_limit = 2104

-- room for any text and a line feed
abbrev pub out_room : ℕ
out_room = 2112

-- an answer's bytes; `done` alone where it has none
unfoldable pub done_text : List ℕ → List ℕ
done_text p = pick (length p == 0) (ascii "done") (ascii "done " ++ hex_of p)

-- the bytes of a Type 1 answer, which has always some
unfoldable pub type1_text : List ℕ → List ℕ
type1_text p = ascii "done " ++ hex_of p ++ ascii " type1"

-- the same with the lengths of the UID and the ATS among the bytes
unfoldable pub lengths_text : List ℕ → ℕ → ℕ → List ℕ
lengths_text p uid ats = ascii "done " ++ hex_of p ++ ascii " uid " ++ decimal_of uid ++ ascii " ats " ++ decimal_of ats

-- a refusal's number, of 15 the status, of 20 both status flags
unfoldable pub refused_text : Numbered → List ℕ
refused_text n =
    pick (n.number == status_number) (ascii "refused " ++ decimal_of n.number ++ ascii " " ++ hex_of (n.status ∷ []))
    (pick (n.number == card_status_number) (ascii "refused " ++ decimal_of n.number ++ ascii " " ++ hex_of (n.status ∷ n.status2 ∷ [])) (ascii "refused " ++ decimal_of n.number))

-- the refusal that ends a list, and the number of its codes that were finished
unfoldable pub list_refused_text : Numbered → ℕ → List ℕ
list_refused_text n finished = refused_text n ++ ascii " finished " ++ decimal_of finished

-- an output whose bytes stand at the start of b
unfoldable pub text_of : Output → List ℕ → List ℕ
text_of Ack b = ascii "write " ++ hex_of (take ack_size b)
text_of (Command n) b = ascii "write " ++ hex_of (take n b)
text_of (Read ms) b = ascii "read " ++ decimal_of ms
text_of Drain b = ascii "drain"
text_of (Pause us) b = ascii "pause " ++ decimal_of us
text_of (Done n) b = done_text (take n b)
text_of (Type1 n) b = type1_text (take n b)
text_of (UidAndAts n uid ats) b = lengths_text (take n b) uid ats
text_of Nothing b = ascii "none"
text_of (Failed e) b = refused_text (fault_numbered e)
text_of (FailedAfter e n) b = list_refused_text (fault_numbered e) n
text_of (Refused e) b = refused_text (numbered e)
