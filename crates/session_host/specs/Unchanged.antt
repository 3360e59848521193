-- Refusals of the host's entries, of any session: one at once changes neither session nor buffer; that of a call that ran, a list's too, ends it,
-- leaves the buffer as it was and the session free.
use Rattle.std.specs.Prelude.{◌≡◌, ℕ, ◌≤◌, Bool, true, ◌||◌, List, ◌==◌}
use Rattle.engine.specs.SessionSteps.{state_in, is_free}
use Rattle.engine.specs.declared.session.Session.{Session}
use Rattle.session_host.specs.Outcomes.{Reported, refused_outcome, list_refused_outcome, refused_at_once_outcome}

-- what a report has to say of the session s and the buffer b that went in
pub record RefusedUnchanged (s : Session) (b : List ℕ) (r : Reported) : Type 0 where
  pub at_once : r.outcome.kind ≡ refused_at_once_outcome → (r.session ≡ s) × (r.buffer ≡ b)
  pub ended : r.outcome.kind ≡ refused_outcome → (is_free (state_in r.session) ≡ true) × (r.buffer ≡ b)
  pub listed : r.outcome.kind ≡ list_refused_outcome → (is_free (state_in r.session) ≡ true) × (r.buffer ≡ b)
  -- the numbers 1 to 6 are of refusals at once alone
  pub first_six : 1 ≤ r.outcome.refusal → r.outcome.refusal ≤ 6 → r.outcome.kind ≡ refused_at_once_outcome

abbrev pub refuses : ℕ → Bool
refuses kind = kind == refused_outcome || kind == list_refused_outcome || kind == refused_at_once_outcome
