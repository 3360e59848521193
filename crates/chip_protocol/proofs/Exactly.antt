-- None exactly when there is no such card.
use Rattle.std.specs.Prelude.{◌≡◌, refl, Bool, true, false, cond, List, ◌↔◌, ℕ, ◌+◌, ◌-◌, ◌≤◌, get_or}
use Rattle.std.proofs.Common.{sym, ap, ◌∙◌, arith}
use Rattle.std.proofs.lemmas.Bool.{false≢true}
use Rattle.std.proofs.Math.Option.{Option, none, some}
use Rattle.targets.specs.TypeA.{is_type2}
use Rattle.targets.specs.declared.Bitrate.{Bitrate}
use Rattle.protocol.specs.Scripts.{Answer}
use Rattle.protocol.specs.Session.{Output, answers}
use Rattle.chip_protocol.specs.Field.{Card, wupb, reply_to, is_stated, FieldFits}
use Rattle.chip_protocol.specs.declared.Kind.{Kind}
use Rattle.chip_protocol.specs.declared.Kind.TheVariants.{TypeB}
use Rattle.chip_protocol.specs.First.{NoneOf, FirstOf, First}
use Rattle.chip_protocol.specs.Answers.{answer_a, answer_wake_up, answer_b, answer_f, answer_dep, events_a, events_b, events_f, events_dep, most_events}
use Rattle.chip_protocol.proofs.Search.{not_both}
use Rattle.chip_protocol.proofs.Found.{first_fits, wakes_b}
use Rattle.chip_protocol.specs.Exactly.{is_done, answer_in}

module _ (k : Kind) (r : Bitrate) (f : List Card) (answer : Option Card → Answer ℕ) (miss : Answer ℕ) where
  pub exactly : answer none ≡ miss → is_done miss ≡ false → ((c : Card) → FirstOf k r f c → is_done (answer (some c)) ≡ true)
      → (o : Option Card) → First k r f o → (out : Output ℕ) → out ≡ answers (answer o) → (out ≡ answers miss) ↔ NoneOf k r f
  exactly missed undone finds none h out e = (λ p. h, λ n. e ∙ ap answers missed)
  exactly missed undone finds (some c) h out e = (
    λ p. absurd (false≢true (sym undone ∙ ap is_done (ap answer_in (sym p ∙ e)) ∙ finds c h)),
    λ n. absurd (not_both k r f c n h),
  )

-- ---- each kind's

pub done_a : (c : Card) → is_done (answer_a (some c)) ≡ true
done_a c = refl

pub done_f : (c : Card) → is_done (answer_f (some c)) ≡ true
done_f c = refl

pub done_dep : (c : Card) → is_done (answer_dep (some c)) ≡ true
done_dep c = refl

pub done_b : (r : Bitrate) (f : List Card) → FieldFits f → (c : Card) → FirstOf TypeB r f c → is_done (answer_b (some c)) ≡ true
done_b r f g c h =
    let fits = first_fits TypeB r f (some c) g h in
    go (reply_to c.replies wupb) (wakes_b c fits.1 fits.0.wakes)
  where
    go : (o : Option (List ℕ)) → is_stated o ≡ true → is_done (answer_wake_up o) ≡ true
    go none e = e
    go (some reply) e = refl

-- ---- no discovery has more events than the most

pub few_a : (o : Option Card) → events_a o ≤ most_events
few_a none = omega arith
few_a (some c) = go (is_type2 (get_or c.list_data 2 0))
  where
    go : (t : Bool) → cond t 9 3 ≤ most_events
    go true = omega arith
    go false = omega arith

pub few_b : (o : Option Card) → events_b o ≤ most_events
few_b none = omega arith
few_b (some c) = omega arith

pub few_f : (on : Bool) → events_f on ≤ most_events
few_f true = omega arith
few_f false = omega arith

pub few_dep : (o : Option Card) → events_dep o ≤ most_events
few_dep none = omega arith
few_dep (some c) = omega arith

pub to_most : (n m : ℕ) → n ≤ most_events → n + ((most_events - n) + m) ≡ most_events + m
to_most n m h = omega arith
