-- Laws of an answer: what a line says, the round, and the text with its line feed.
use mathlib.Core.Path.{◌≡◌, refl, sym, ap, ◌∙◌}
use mathlib.Core.Bool.{Bool, true, false}
use mathlib.Core.List.{List, [], ◌∷◌, ◌++◌}
use Rattle.std.specs.Prelude.{Option, Some, None, Result, Ok, Err}
use Prim.Native.Nat.{ℕ, ◌+◌, ◌-◌, ◌≤◌, ◌<◌}
use native.Mathlib.Nat.{zero-add}
use native.Mathlib.Omega.{arith}
use borrow.Author.Tests.{lt-ltb, le-ltb}
use lib.Dec.{ltb}
use lib.ListN.{length, take, length-append, length-drop}
use Rattle.errors.specs.Choice.{pick}
use Rattle.errors.specs.declared.Refusal.TheVariants.{BadArgument}
use Rattle.errors.specs.declared.RoundRefusal.{RoundRefusal}
use Rattle.errors.specs.declared.RoundRefusal.TheVariants.{AtOnce}
use Rattle.bench.specs.TextLaws.{then_put, at-start}
use Rattle.bench.specs.Texts.{over, Placed, placed, put_at, Appends}
use Rattle.bench.specs.Words.{words_of_lem}
use Rattle.bench.specs.declared.lines.Line.{Line}
use Rattle.bench.specs.declared.lines.Line.TheVariants.{Text, OverLong, End}
use Rattle.presence_list.specs.MemoryLaws.{length-pieces}
use Rattle.presence_list.specs.Sizes.{FewAfter}
use Rattle.presence_list.proofs.Sizes.{few_after}
use Rattle.presence_list.specs.Steps.{Rounded, rounded, round_of}
use Rattle.presence_list.specs.declared.list.Counts.{Counts}
use Rattle.presence_list.specs.declared.list.Presence.{Presence}
use Rattle.presence_lines.proofs.PrintLaws.{lists_short, refused_short}
use Rattle.presence_lines.specs.Lines.{line_limit, answer_room, unreadable, text_of, Said, said, said_of, LineAnswer, on_said, answer_of, AfterLine, after_line, printed, line_reply}
use Rattle.presence_lines.specs.Readings.{read_in}
use Rattle.presence_lines.specs.declared.read.RoundLine.{RoundLine}
use Rattle.bench.specs.Lines.{feed}

pub few_known : (l m : Presence) (n : ℕ) (b : List ℕ) (a : Result Counts RoundRefusal) → rounded m a ≡ round_of l n b → FewAfter a m.state.count
few_known l m n b a e = rw (← e) at (few_after l n b)

-- a line and its answer
module _ (l x : Presence) (line o o' : List ℕ) (n : ℕ) where
  so : (a : LineAnswer) → answer_of l line ≡ a → x ≡ a.list → Appends 0 a.text o n o' → (x ≡ (answer_of l line).list) × Appends 0 (answer_of l line).text o n o'
  so a h p d = (p ∙ ap (λ (y : LineAnswer). y.list) (sym h), rw h d)

  pub answer_long : line_limit < length line → x ≡ l → Appends 0 unreadable o n o' → (x ≡ (answer_of l line).list) × Appends 0 (answer_of l line).text o n o'
  unfolding answer_of pick
  answer_long h p d = rw (lt-ltb line_limit (length line) h) (p, d)

  module _ (b : List ℕ) (short : length line ≤ line_limit) where
    said-are : (s : Option Said) → s ≡ said_of (words_of_lem line) → answer_of l line ≡ on_said l s
    unfolding answer_of pick
    said-are s e = rw (le-ltb line_limit (length line) short, ← e)

    pub answer_unread : (r : Option RoundLine) → ((y : RoundLine) → r ≡ Some y → ⊥) → read_in r b ≡ said_of (words_of_lem line) → x ≡ l → Appends 0 unreadable o n o'
        → (x ≡ (answer_of l line).list) × Appends 0 (answer_of l line).text o n o'
    unfolding on_said
    answer_unread (Some y) h e p d = absurd (h y refl)
    answer_unread None h e p d = so (on_said l None) (said-are None e) p d

    pub answer_round : (r : RoundLine) (a : Result Counts RoundRefusal) → read_in (Some r) b ≡ said_of (words_of_lem line) → rounded x a ≡ round_of l r.number (take r.len b) → Appends 0 (text_of a x) o n o'
        → (x ≡ (answer_of l line).list) × Appends 0 (answer_of l line).text o n o'
    unfolding on_said
    answer_round r a e q d =
        so (on_said l (Some (said r.number (take r.len b)))) (said-are (Some (said r.number (take r.len b))) e) (ap (λ (y : Rounded). y.list) q)
        (rw (ap (λ (y : Rounded). text_of y.answer y.list) q) at d)

-- an answer fits its room
text_short : (a : Result Counts RoundRefusal) (l : Presence) → FewAfter a l.state.count → length (text_of a l) ≤ 8000
unfolding text_of
text_short (Ok c) l h =
    lists_short _ _ _ (omega (arith, length-pieces c.arrived l.arrived, h.0)) (omega (arith, length-pieces c.departed l.departed, h.1)) (omega (arith, length-pieces l.state.count l.cards, h.2))
text_short (Err e) l h = omega (arith, refused_short e)

said_short : (l : Presence) (s : Option Said) → length (on_said l s).text ≤ 8000
unfolding on_said
said_short l None = omega (arith, refused_short (AtOnce BadArgument))
said_short l (Some s) = text_short (round_of l s.number s.records).answer (round_of l s.number s.records).list (few_after l s.number s.records)

answer_short : (l : Presence) (line : List ℕ) → length (answer_of l line).text ≤ 8000
unfolding answer_of pick
answer_short l line = go (ltb line_limit (length line))
  where
    go : (t : Bool) → length (pick t (record { list = l; text = unreadable }) (on_said l (said_of (words_of_lem line)))).text ≤ 8000
    go true = omega (arith, refused_short (AtOnce BadArgument))
    go false = said_short l (said_of (words_of_lem line))

printed-done : (a : LineAnswer) (x : Presence) (m r : ℕ) (o o₁ o₂ : List ℕ) → length a.text ≤ 8000 → length o ≡ answer_room → x ≡ a.list → Appends 0 a.text o m o₁ → placed r o₂ ≡ put_at m (feed ∷ []) o₁
    → after_line x r o₂ ≡ printed a o
unfolding printed
printed-done a x m r o o₁ o₂ short room p d e =
    let placed = at-start (a.text ++ (feed ∷ [])) o o₂ r (then_put _ _ _ _ _ _ _ _ d e) (omega (arith, length-append a.text (feed ∷ []))) in
    ap (λ (y : Presence). after_line y r o₂) p ∙ ap (λ (y : Placed). after_line a.list y.next y.buffer) placed
    ∙ ap (λ (k : ℕ). after_line a.list k (over 0 (a.text ++ (feed ∷ [])) o)) (zero-add (length (a.text ++ (feed ∷ []))))

module _ (l x : Presence) (t : Line) (line o o₁ o₂ : List ℕ) (m r : ℕ) (room : length o ≡ answer_room) where
  pub reply_text : (n : ℕ) (p : List ℕ) → t ≡ Text n → p ≡ take n line → (x ≡ (answer_of l p).list) × Appends 0 (answer_of l p).text o m o₁ → placed r o₂ ≡ put_at m (feed ∷ []) o₁
      → after_line x r o₂ ≡ line_reply l t line o
  unfolding line_reply
  reply_text n p h q d e = rw (h, ← q) (printed-done (answer_of l p) x m r o o₁ o₂ (answer_short l p) room d.0 d.1 e)

  pub reply_long : t ≡ OverLong → x ≡ l → Appends 0 unreadable o m o₁ → placed r o₂ ≡ put_at m (feed ∷ []) o₁ → after_line x r o₂ ≡ line_reply l t line o
  unfolding line_reply
  reply_long h p d e = rw h (printed-done _ x m r o o₁ o₂ (omega (arith, refused_short (AtOnce BadArgument))) room p d e)

-- the buffer keeps its length
long_over : (t b : List ℕ) → length (over 0 t b) ≡ length t + (length b - length t)
unfolding over
long_over t b = simp (length-append, length-drop) (omega arith)

printed_room : (a : LineAnswer) (o : List ℕ) → length a.text ≤ 8000 → length o ≡ answer_room → length (printed a o).out ≡ answer_room
unfolding printed
printed_room a o h e = omega (arith, long_over (a.text ++ (feed ∷ [])) o, length-append a.text (feed ∷ []))

pub reply_room : (l x : Presence) (t : Line) (line o o' : List ℕ) (r : ℕ) → after_line x r o' ≡ line_reply l t line o → length o ≡ answer_room → length o' ≡ answer_room
unfolding line_reply
reply_room l x t line o o' r e room = ap (λ (y : AfterLine). length y.out) e ∙ go t
  where
    go : (t : Line) → length (line_reply l t line o).out ≡ answer_room
    go (Text n) = printed_room (answer_of l (take n line)) o (answer_short l (take n line)) room
    go OverLong = printed_room _ o (omega (arith, refused_short (AtOnce BadArgument))) room
    go End = room
