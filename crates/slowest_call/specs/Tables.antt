-- What the code has of the runs: a table as a text, four fields for each kind and the lines that open the reader behind all of them.
use Rattle.std.specs.Prelude.{cond, List, [], ◌∷◌, ◌++◌, map, ℕ, zero, suc, ◌<◌}
use Rattle.std.specs.Prelude.{Option, None, Some}
use Rattle.framing.specs.Frames.{ack}
use Rattle.exchange.specs.Exchange.{pkt}
use Rattle.protocol.specs.Calls.{is_opening}
use Rattle.errors.specs.Choice.{pick}
use Rattle.protocol.specs.Sample.{formats}
use Rattle.bench.specs.Hex.{digit_of, digits_of_lem, hex_of}
use Rattle.bench.specs.Texts.{decimal_under, decimal_of}
use Rattle.bench.specs.Words.{ahead}
use Rattle.slowest_call.specs.Fields.{fields_of}
use Rattle.slowest_call.specs.Kinds.{Kind, opening_kind, kinds, most, slowest, leading_events}
use Rattle.slowest_call.specs.Texts.{event_line, call_line, separator, joined_behind, joined, name_of, kind_count, kind_at}

-- the lines up to the wait of the last command, and those behind it
abbrev pub wait_text : Kind → List ℕ
wait_text k = joined (call_line k ∷ map event_line (slowest k).before)

abbrev pub behind_text : Kind → List ℕ
behind_text k = joined_behind (map event_line (slowest k).behind)

abbrev pub leading_text : List ℕ
leading_text = joined (call_line opening_kind ∷ map event_line leading_events)

unfoldable pub fields_for : List Kind → List (List ℕ)
fields_for [] = leading_text ∷ []
fields_for (k ∷ ks) = name_of k ∷ decimal_of (most k) ∷ wait_text k ∷ behind_text k ∷ fields_for ks

abbrev pub run_fields : List (List ℕ)
run_fields = fields_for kinds

-- ---- a script out of its parts

unfoldable pub start_text : Kind → List ℕ
start_text k = cond (is_opening (slowest k).call) [] (leading_text ++ separator)

unfoldable pub acks_text : ℕ → List ℕ
acks_text zero = []
acks_text (suc n) = separator ++ event_line (pkt ack) ++ acks_text n

abbrev pub run_text : Kind → ℕ → List ℕ
run_text k idle = wait_text k ++ acks_text idle ++ behind_text k

-- ---- the kind that was found

abbrev pub kind_in : Option ℕ → Option Kind
kind_in (Some n) = Some (kind_at n)
kind_in None = None

abbrev pub KindWithin : Option ℕ → Type 0
KindWithin (Some n) = n < kind_count
KindWithin None = Unit {0}

-- to unfold this is to unfold the table's texts
unfoldable pub written : Unit {0}
unfolding fields_of ahead pick fields_for joined joined_behind decimal_of decimal_under hex_of digits_of_lem digit_of formats
written = tt
