-- Laws of a run: a line's step, a line that is skipped, and what the run shows where it ends.
use Rattle.std.specs.Prelude.{◌≡◌, ℕ, ◌+◌, ◌-◌, ◌<◌, ◌≤◌, true, false, not, eqb, List, length, Option as Found, Some, None}
use mathlib.Core.Path.{refl, sym, ap, ◌∙◌, subst}
use native.Mathlib.Numerals.{add-one}
use native.Mathlib.Omega.{arith}
use lib.Seq.{slice}
use Rattle.errors.specs.declared.Refusal.TheVariants.{OutOfTurn}
use Rattle.protocol.specs.Calls.{Call as CallOf}
use Rattle.protocol.specs.Session.{busy, call, Phase, unchanged, effect_of, after_effect, buffer_need}
use Rattle.protocol.specs.Session as Spec
use Rattle.calls.specs.Kinds.{no_call_kind}
use Rattle.engine.specs.Relation.{Represents, free, runs, SessionRepresents}
use Rattle.engine.specs.Refinement.{fresh_represents}
use Rattle.engine.specs.SessionSteps.{stepped, arrays_in, fresh_session}
use Rattle.engine.specs.declared.running.Core.{Core}
use Rattle.engine.specs.declared.session.Session.{Session}
use Rattle.engine.specs.declared.session.Step.{Step}
use Rattle.bench_input.specs.Readings.{end_at, input_in}
use Rattle.bench_input.specs.Table.{Said, calls, unreadable}
use Rattle.bench_input.specs.declared.Input.{Input}
use Rattle.bench_input.specs.declared.Input.TheVariants.{Call, Event}
use Rattle.bench_session.specs.Answers.{said_step}
use Rattle.bench_session.specs.Sessions.{line_step, Follows, line_follows}
use Rattle.cut_script.specs.LineSession.{next}
use Rattle.cut_script.specs.First.{never}
use Rattle.cut_script.specs.Bench.{is_opening, refusal_of, is_at_once, bench}
use Rattle.cut_script.specs.Run.{reached}
use Rattle.cut_script.proofs.Run.{run-starts, run_goes_on, run_ends}
use Rattle.cut_lines.specs.Readings.{entry_at}
use Rattle.cut_lines.specs.Shown.{shown_in, refused_by}
use Rattle.cut_lines.specs.Runs.{is_call, StepAgrees, Acts, Skips, Overtakes, line_at, Holds, shown_by_of, RunShows, ran, overtaken}
use Rattle.cut_lines.specs.declared.entries.Entry.{Entry}
use Rattle.errors.specs.declared.Numbered.{Numbered}
use Rattle.cut_lines.proofs.ShownLaws.{refused_given, at_once_given}

pub step_agrees : (s : Session) (l k : Said) (b b' : List ℕ) (r : Step) → length b ≡ buffer_need → l ≡ k → stepped r b' ≡ said_step s l b → Acts s k r
step_agrees s l k b b' r size is e m h =
    let f : Follows (line_step m l) (stepped r b') = subst (λ t. Follows (line_step m l) t) (sym e) (line_follows s m h l b size) in
    subst (λ z. StepAgrees m z r) is
    (record {
      represents = f.represents;
      shown = refused_given r.output b' ∙ ap refusal_of f.output;
      at_once = at_once_given r.output b' ∙ ap is_at_once f.output;
    })

-- ---- a call while another runs

busy_kept : (m : Spec.Session) (c d : CallOf) (phase : Phase) (k : ℕ) → m.running ≡ busy c phase → after_effect m (call k d buffer_need) (effect_of m.running m.books (call k d buffer_need)) ≡ m
busy_kept m c d phase k e =
    let u : effect_of m.running m.books (call k d buffer_need) ≡ unchanged OutOfTurn = ap (λ r. effect_of r m.books (call k d buffer_need)) e in
    ap (after_effect m (call k d buffer_need)) u

pub busy_skips : (c : Core) (i : Found Input) → is_call i ≡ true → not (eqb c.call.kind no_call_kind) ≡ true → Skips c i
unfolding line_step
busy_skips c None is running s m b core h = never is
busy_skips c (Some (Event number n)) is running s m b core h = never is
busy_skips c (Some (Call number n e)) is running s m b core h = go h.call
  where
    go : Represents s.core (arrays_in s) m.running
        → next bench m (calls number n (slice 0 (end_at e 0) b) (slice (end_at e 0) (end_at e 1) b) (slice (end_at e 1) (end_at e 2) b) (slice (end_at e 2) (end_at e 3) b)) ≡ m
    go (free v p q f) = let z : not (eqb c.call.kind no_call_kind) ≡ false = ap (λ k. not (eqb k no_call_kind)) (ap (λ (z : Core). z.call.kind) (sym core ∙ p)) in never (sym z ∙ running)
    go (runs p w v a q f g) = busy_kept m _ _ _ _ g

-- ---- the run from line i on, at line m

module _ (es : List Entry) (b : List ℕ) (xs : List Said) (holds : Holds es b xs) (i m : ℕ) (from : i ≤ m) (s : Session) (here : SessionRepresents s (reached bench xs i m)) where
  module _ (before : m < length es - 1) (x : Entry) (is : x ≡ entry_at es m) where
    said : m < length xs → input_in (slice x.from x.to b) x.input ≡ line_at xs m
    said h = ap (λ (z : Entry). input_in (slice z.from z.to b) z.input) is ∙ holds.says m h

    further : reached bench xs i (m + 1) ≡ next bench (reached bench xs i m) (line_at xs m)
    further = rw add-one (run_goes_on bench unreadable xs i m from (omega (arith, holds.count)))

    pub run_skips : (c : Core) → s.core ≡ c → Skips c x.input → SessionRepresents s (reached bench xs i (m + 1))
    run_skips c is-core skips =
        subst (SessionRepresents s)
        (sym (further ∙ ap (next bench (reached bench xs i m)) (sym (said (omega (arith, holds.count)))) ∙ skips s (reached bench xs i m) (slice x.from x.to b) is-core here)) here

    module _ (r : Step) (acts : Acts s (input_in (slice x.from x.to b) x.input) r) where
      agrees : StepAgrees (reached bench xs i m) (line_at xs m) r
      agrees = subst (λ l. StepAgrees (reached bench xs i m) l r) (said (omega (arith, holds.count))) (acts (reached bench xs i m) here)

      pub run_acts : SessionRepresents r.session (reached bench xs i (m + 1))
      run_acts = subst (SessionRepresents r.session) (sym further) agrees.represents

      pub run_overtaken : (stop : ℕ) → Overtakes stop m x.input r.output → RunShows stop xs i None
      run_overtaken stop o =
          overtaken m refl o.behind from (omega (arith, holds.count))
          (ap is_opening (sym (said (omega (arith, holds.count)))) ∙ o.opening (slice x.from x.to b))
          (sym agrees.at_once ∙ o.taken)

  pub run-shows : m < length es → length es - 1 ≤ m → (x : Entry) → x ≡ entry_at es (length es - 1) → (r : Step) → Acts s (input_in (slice x.from x.to b) x.input) r
      → (stop : ℕ) (w : Found Numbered) → shown_in w ≡ refused_by r.output → RunShows stop xs i w
  run-shows few last x is r acts stop w shown =
      let at : length es - 1 ≡ m = omega arith in
      let said : input_in (slice x.from x.to b) x.input ≡ line_at xs m
      = ap (λ (z : Entry). input_in (slice z.from z.to b) z.input) (is ∙ ap (entry_at es) at) ∙ holds.says m (omega (arith, holds.count)) in
      let agrees : StepAgrees (reached bench xs i m) (line_at xs m) r = subst (λ l. StepAgrees (reached bench xs i m) l r) said (acts (reached bench xs i m) here) in
      ran (shown ∙ agrees.shown ∙ ap shown_by_of (sym (run_ends bench unreadable xs i m from (omega (arith, holds.count)))))

pub run-begins : (xs : List Said) (i : ℕ) (s : Session) → s ≡ fresh_session → SessionRepresents s (reached bench xs i i)
run-begins xs i s e = subst (SessionRepresents s) (sym (run-starts bench xs i)) (subst (λ z. SessionRepresents z Spec.fresh) (sym e) fresh_represents)
