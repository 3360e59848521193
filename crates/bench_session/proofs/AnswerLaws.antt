-- Laws of an answer: what was read, the engine's step, and the text with its line feed.
use Rattle.std.specs.Prelude.{◌≡◌, Option, Some, None, ℕ, ◌+◌, List, length, take, set}
use mathlib.Core.Path.{refl, sym, ap, ap₂, ◌∙◌}
use native.Mathlib.Nat.{zero-add}
use Rattle.exchange.specs.Steps.{event_of}
use Rattle.exchange.specs.declared.Event.{Event}
use Rattle.engine.specs.Inputs.{gives, step_with}
use Rattle.engine.specs.Numbers.{event_by_of, known_in}
use Rattle.engine.specs.SessionSteps.{Stepped, stepped}
use Rattle.errors.specs.declared.Refusal.TheVariants.{BadArgument}
use Rattle.engine.specs.declared.running.Output.{Output}
use Rattle.engine.specs.declared.running.Output.TheVariants.{Refused}
use Rattle.engine.specs.declared.session.Session.{Session}
use Rattle.engine.specs.declared.session.Step.{Step}
use Rattle.bench.specs.Texts.{over, Placed, placed, placed_at}
use Rattle.bench.specs.declared.lines.Line.{Line}
use Rattle.bench.specs.declared.lines.Line.TheVariants.{Text, OverLong, End}
use Rattle.bench_input.specs.Table.{Said, happens, input_of}
use Rattle.bench_session.specs.Outputs.{text_of}
use Rattle.bench_session.specs.Answers.{unread_step, event_step, said_step, AfterLine, after_line, printed, answer_of, fed, line_reply}
use Rattle.bench.specs.Lines.{feed}

pub unchanged_is : (s : Session) (r : Step) (b : List ℕ) → r.session ≡ s → r.output ≡ Refused BadArgument → stepped r b ≡ unread_step s b
unchanged_is s r b p q = ap₂ (λ (x : Session) (y : Output). record { session = x; output = y; buffer = b }) p q

-- an event by its number, which has none or one
module _ (s : Session) (number : ℕ) (r : Option Event) (p b : List ℕ) (known : (packet : List ℕ) → known_in r packet ≡ event_by_of number packet) where
  pub event_none : r ≡ None → unread_step s b ≡ said_step s (happens number p) b
  unfolding said_step known_in
  event_none h = ap (λ e. event_step s e b) (ap (λ q. known_in q p) (sym h) ∙ known p)

  pub event_some : (e : Event) (t : Stepped) → r ≡ Some e → t ≡ step_with s (gives (event_of e p) b) → t ≡ said_step s (happens number p) b
  unfolding said_step known_in
  event_some e t h g = g ∙ ap (λ e. event_step s e b) (ap (λ q. known_in q p) (sym h) ∙ known p)

-- the text of a step
pub print_done : (t : Stepped) (s : Session) (f : Output) (b o o' : List ℕ) (n : ℕ) → record { session = s; output = f; buffer = b } ≡ t → placed n o' ≡ placed_at 0 (text_of f b) o
    → after_line s n b o' ≡ printed t o
unfolding printed
print_done t s f b o o' n e d = ap (λ (p : Placed). after_line s p.next b p.buffer) d ∙ ap (λ k. after_line s k b (over 0 (text_of f b) o)) (zero-add (length (text_of f b))) ∙ ap (λ z. printed z o) e

pub answer-done : (s s' : Session) (i : Said) (f : Output) (l b b' o o' : List ℕ) (n : ℕ) → i ≡ input_of l
    → record { session = s'; output = f; buffer = b' } ≡ said_step s i b → placed n o' ≡ placed_at 0 (text_of f b') o → after_line s' n b' o' ≡ answer_of s l b o
unfolding answer_of
answer-done s s' i f l b b' o o' n r e d =
    print_done (said_step s i b) s' f b' o o' n e d ∙ ap (λ z. printed (said_step s z b) o) r

-- a line feed behind the text
pub fed-done : (s s' : Session) (n n' : ℕ) (b o o' : List ℕ) (a : AfterLine) → after_line s n b o ≡ a → s' ≡ s → n' ≡ n + 1 → o' ≡ set o n feed → after_line s' n' b o' ≡ fed a
unfolding fed
fed-done s s' n n' b o o' a e p q r = ap (λ z. after_line z n' b o') p ∙ ap (λ z. after_line s z b o') q ∙ ap (λ z. after_line s (n + 1) b z) r ∙ ap fed e

module _ (s : Session) (t : Line) (l b o : List ℕ) (x : AfterLine) where
  pub reply_text : (n : ℕ) (p : List ℕ) → t ≡ Text n → p ≡ take n l → x ≡ fed (answer_of s p b o) → x ≡ line_reply s t l b o
  unfolding line_reply
  reply_text n p h q e = rw (h, ← q) e

  pub reply_long : t ≡ OverLong → x ≡ fed (printed (unread_step s b) o) → x ≡ line_reply s t l b o
  unfolding line_reply
  reply_long h e = rw h e

pub reply-end : (s : Session) (t : Line) (l b o : List ℕ) → t ≡ End → after_line s 0 b o ≡ line_reply s t l b o
unfolding line_reply
reply-end s t l b o h = rw h

pub long_done : (s : Session) (b o o' : List ℕ) (n : ℕ) → placed n o' ≡ placed_at 0 (text_of (Refused BadArgument) b) o → after_line s n b o' ≡ printed (unread_step s b) o
long_done s b o o' n d = print_done (unread_step s b) s (Refused BadArgument) b o o' n refl d
