-- Further ACK-led packets (document 02, N11) cannot matter to the host's entries, nor to lists that mix them with the session's own.
use Rattle.std.specs.Prelude.{◌≡◌, ℕ, List}
use Rattle.std.proofs.Common.{sym, ap, ◌∙◌, subst}
use Rattle.std.proofs.Math.Option.{Option}
use Rattle.protocol.specs.Calls.{Call}
use Rattle.protocol.specs.Session as Spec
use Rattle.protocol.specs.Machine.{entries, state_after}
use Rattle.protocol.specs.Runs.{EventAndRoom, call_entries, lines_from, answers_in, writes_in}
use Rattle.protocol.specs.Chatter.{waits, Alike}
use Rattle.engine.specs.Inputs.{Input}
use Rattle.engine.specs.Refinement.{engine}
use Rattle.engine.specs.Chatter.{engine_chatter}
use Rattle.engine.specs.declared.session.Session.{Session}
use Rattle.session_host.specs.Entries.{HostEntry, host_input, buffer_in}
use Rattle.session_host.specs.Demand3.{inputs, session_after, reports_for, same, MixedEntry, mixed_input, mixed_buffer}

module _ (E : Type 0) (input : E → Option Input) (buffer : E → List ℕ) where
  abbrev outputs : Session → List E → List (Spec.Output ℕ)
  outputs s hs = reports_for E input buffer s hs

  abbrev behind : Session → List E → Session
  behind s hs = session_after E input buffer s hs

  -- two lists of entries, from two sessions: what is given out, and the sessions behind them
  pub record SameOutputs (s t : Session) (hs ks : List E) : Type 0 where
    pub result : answers_in (outputs s hs) ≡ answers_in (outputs t ks)
    pub written : writes_in (outputs s hs) ≡ writes_in (outputs t ks)
    pub counted : (behind s hs).frames ≡ (behind t ks).frames
    pub after : (m : Spec.Session) × engine.Represents (behind s hs) m × engine.Represents (behind t ks) m
    pub later : (ls : List E) → outputs (behind s hs) ls ≡ outputs (behind t ks) ls

  -- the entries of one call, from sessions that stand for one session
  abbrev pub Chatters : Type 0
  Chatters =
      (s t : Session) (m : Spec.Session) → engine.Represents s m → engine.Represents t m
      → (caller : ℕ) (c : Call) (room : ℕ) (es ds : List EventAndRoom) (hs ks : List E)
      → entries engine (inputs E input buffer hs) ≡ call_entries caller c room es → entries engine (inputs E input buffer ks) ≡ call_entries caller c room ds
      → Alike waits (lines_from m caller c room es) (lines_from m caller c room ds) → SameOutputs s t hs ks

  chatters : Chatters
  chatters s t m h k caller c room es ds hs ks p q a =
      let f = engine_chatter s t m h k caller c room es ds (inputs E input buffer hs) (inputs E input buffer ks) p q a in
      let x = same E input buffer hs s in
      let y = same E input buffer ks t in
      record {
        result = ap answers_in x.1 ∙ f.result ∙ sym (ap answers_in y.1);
        written = ap writes_in x.1 ∙ f.written ∙ sym (ap writes_in y.1);
        counted = ap (λ r. r.frames) x.0 ∙ f.counted ∙ sym (ap (λ r. r.frames) y.0);
        after = (f.after.0, subst (λ r. engine.Represents r f.after.0) (sym x.0) f.after.1, subst (λ r. engine.Represents r f.after.0) (sym y.0) f.after.2);
        later = λ ls.
            ap (λ r. outputs r ls) x.0 ∙ (same E input buffer ls (state_after engine s (inputs E input buffer hs))).1
            ∙ f.later (inputs E input buffer ls)
            ∙ sym (ap (λ r. outputs r ls) y.0 ∙ (same E input buffer ls (state_after engine t (inputs E input buffer ks))).1);
      }

-- of the host's entries
pub host_chatter : Chatters HostEntry host_input buffer_in
host_chatter = chatters HostEntry host_input buffer_in

-- of both in one list
pub mixed_chatter : Chatters MixedEntry mixed_input mixed_buffer
mixed_chatter = chatters MixedEntry mixed_input mixed_buffer
