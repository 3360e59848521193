-- Laws of what a line shows: the variants of an output that are no refusal, and the same refusal.
use Rattle.std.specs.Prelude.{◌≡◌, ℕ, Bool, true, false, not, List, [], ◌∷◌}
use mathlib.Core.Path.{refl, sym}
use mathlib.Core.Option.{none}
use denote.Enum.Declared.{tag_of}
use types.Run.{OneOf, miss}
use Rattle.engine.specs.Inputs.{output_of}
use Rattle.engine.specs.declared.running.Output.{Output}
use Rattle.engine.specs.declared.running.Output.TheVariants.{Ack, Command, Read, Drain, Pause, Done, Type1, UidAndAts, Nothing, Failed, FailedAfter, Refused}
use Rattle.engine.specs.contracts.running.Output.{the_type}
use Rattle.cut_script.specs.Bench.{refusal_of, is_at_once}
use Rattle.cut_lines.specs.Shown.{refused_by, at_once_by}

pub refused_given : (o : Output) (b : List ℕ) → refused_by o ≡ refusal_of (output_of o b)
refused_given Ack b = refl
refused_given (Command n) b = refl
refused_given (Read ms) b = refl
refused_given Drain b = refl
refused_given (Pause us) b = refl
refused_given (Done n) b = refl
refused_given (Type1 n) b = refl
refused_given (UidAndAts n uid ats) b = refl
refused_given Nothing b = refl
refused_given (Failed r) b = refl
refused_given (FailedAfter r n) b = refl
refused_given (Refused r) b = refl

pub at_once_given : (o : Output) (b : List ℕ) → at_once_by o ≡ is_at_once (output_of o b)
at_once_given Ack b = refl
at_once_given (Command n) b = refl
at_once_given (Read ms) b = refl
at_once_given Drain b = refl
at_once_given (Pause us) b = refl
at_once_given (Done n) b = refl
at_once_given (Type1 n) b = refl
at_once_given (UidAndAts n uid ats) b = refl
at_once_given Nothing b = refl
at_once_given (Failed r) b = refl
at_once_given (FailedAfter r n) b = refl
at_once_given (Refused r) b = refl

abbrev others : List ℕ
others = 0 ∷ 1 ∷ 2 ∷ 3 ∷ 4 ∷ 5 ∷ 6 ∷ 7 ∷ 8 ∷ []

pub no_refusal : (o : Output) → OneOf others (tag_of the_type o) → none ≡ refused_by o
no_refusal Ack h = refl
no_refusal (Command n) h = refl
no_refusal (Read ms) h = refl
no_refusal Drain h = refl
no_refusal (Pause us) h = refl
no_refusal (Done n) h = refl
no_refusal (Type1 n) h = refl
no_refusal (UidAndAts n uid ats) h = refl
no_refusal Nothing h = refl
no_refusal (Failed r) h = absurd (miss others 9 tt h)
no_refusal (FailedAfter r n) h = absurd (miss others 10 tt h)
no_refusal (Refused r) h = absurd (miss others 11 tt h)

abbrev later : List ℕ
later = 0 ∷ 1 ∷ 2 ∷ 3 ∷ 4 ∷ 5 ∷ 6 ∷ 7 ∷ 8 ∷ 9 ∷ 10 ∷ []

pub not_at_once : (o : Output) → OneOf later (tag_of the_type o) → false ≡ at_once_by o
not_at_once Ack h = refl
not_at_once (Command n) h = refl
not_at_once (Read ms) h = refl
not_at_once Drain h = refl
not_at_once (Pause us) h = refl
not_at_once (Done n) h = refl
not_at_once (Type1 n) h = refl
not_at_once (UidAndAts n uid ats) h = refl
not_at_once Nothing h = refl
not_at_once (Failed r) h = refl
not_at_once (FailedAfter r n) h = refl
not_at_once (Refused r) h = absurd (miss later 11 tt h)

pub not-true : (t : Bool) → not t ≡ true → t ≡ false
not-true true h = sym h
not-true false h = refl
