-- The readers of which N10's sentences are proved: the definitions' session, the engine's own steps, the entries of the C interface, and lists of both.
use Rattle.std.specs.Prelude.{◌≡◌, ℕ, length}
use Rattle.std.proofs.Math.Path.{refl, ap}
use Rattle.std.proofs.Common.{sym, ◌∙◌, subst}
use mathlib.Core.List.{List, [], ◌∷◌}
use Rattle.std.proofs.Math.Option.{Option, none, some}
use Rattle.exchange.specs.Exchange.{Event, ok, bad, pkt, time, fail, late, slept}
use Rattle.protocol.specs.Session as Spec
use Rattle.protocol.specs.Session.{Entry, event, fresh, step, step_result, StepResult}
use Rattle.protocol.specs.Machine.{Machine, output_values, state_after}
use Rattle.engine.specs.Inputs.{Input, gives, entry_of}
use Rattle.engine.specs.Numbers.{event_by_of}
use Rattle.engine.specs.Refinement.{engine}
use Rattle.engine.specs.SessionSteps.{fresh_session}
use Rattle.engine.specs.declared.session.Session.{Session}
use Rattle.session_host.specs.Demand3.{session_after, MixedEntry, mixed_input, mixed_buffer}
use Rattle.session_host.specs.Entries.{HostEntry, host_event, host_input, buffer_in, report_with}
use Rattle.session_host.specs.Outputs.{output_in, output_is}
use Rattle.engine.specs.Inputs.{step_with}
use Rattle.chip_protocol.specs.Channel.{Chip, simulated}
use Rattle.chip_protocol.specs.Alike.{Alike}
use Rattle.chip_protocol.specs.Claim.{Reached, N10}
use Rattle.chip_protocol.proofs.Theorem.{n10}

-- D: a chip that does as the definitions' chip, such as its own code (ChipCode.antt)
module _ (D : Chip) (alike : Alike D simulated) where
  -- ---- the engine's own steps, with any bytes of the room in the buffer that is lent with n events left
  pub engine_n10 : (room : ℕ) (buffer : ℕ → List ℕ) → ((n : ℕ) → length (buffer n) ≡ room) → N10 D alike.state engine room (λ n e. gives e (buffer n))
  engine_n10 room buffer sized = n10 D alike engine room (λ n e. gives e (buffer n)) (λ n e. ap (event e) (sized n))

-- ---- entries of any kind, each with its engine's entry and the bytes of its buffer: what is reported says the output

module _ (E : Type 0) (input : E → Option Input) (buffer : E → List ℕ) where
  -- an entry that is one of the engine's; any other is refused, and changes nothing
  pub record Taken : Type 0 where
    pub entry : E
    pub taken : Input
    pub is : input entry ≡ some taken

  abbrev reported : Session → Option Input → List ℕ → StepResult Session ℕ
  reported s o b = step_result (report_with s o b).session (output_in (report_with s o b).outcome (report_with s o b).buffer)

  abbrev Simulated : StepResult Session ℕ → Spec.Session → Entry → Type 0
  Simulated r m e = engine.Represents r.state (step m e).state × (r.output ≡ output_values (step m e).output)

  pub simulate : (s : Session) (m : Spec.Session) (g : Taken) → engine.Represents s m → Simulated (reported s (input g.entry) (buffer g.entry)) m (entry_of g.taken)
  simulate s m g h =
      let i : Input = g.taken in
      let f = engine.simulates s m i h in
      subst (λ (o : Option Input). Simulated (reported s o (buffer g.entry)) m (entry_of i)) (sym g.is) (f.0, output_is (step_with s i).output (step_with s i).buffer ∙ f.1)

  abbrev pub by_entries : Machine
  by_entries =
      record {
        State = Session;
        Input = Taken;
        entry = λ g. entry_of g.taken;
        new = fresh_session;
        act = λ s g. reported s (input g.entry) (buffer g.entry);
        frames = engine.frames;
        Represents = engine.Represents;
        begins = engine.begins;
        counts = engine.counts;
        simulates = simulate;
      }

  -- the session behind any list of entries is reached
  takes : (e : E) (o : Option Input) → input e ≡ o → List Taken → List Taken
  takes e none p rest = rest
  takes e (some i) p rest = record { entry = e; taken = i; is = p } ∷ rest

  takens : List E → List Taken
  takens [] = []
  takens (e ∷ es) = takes e (input e) refl (takens es)

  after-takes : (s : Session) (e : E) (es : List E) (o : Option Input) (p : input e ≡ o) → ((t : Session) → state_after by_entries t (takens es) ≡ session_after E input buffer t es)
      → state_after by_entries s (takes e o p (takens es)) ≡ session_after E input buffer (report_with s (input e) (buffer e)).session es
  unfolding takes
  after-takes s e es none p again = again s ∙ ap (λ (o : Option Input). session_after E input buffer (report_with s o (buffer e)).session es) (sym p)
  after-takes s e es (some i) p again = again (report_with s (input e) (buffer e)).session

  after-entries : (es : List E) (s : Session) → state_after by_entries s (takens es) ≡ session_after E input buffer s es
  unfolding takens
  after-entries [] s = refl
  after-entries (e ∷ es) s = after-takes s e es (input e) refl (after-entries es)

  pub entries-reached : (es : List E) → Reached by_entries (session_after E input buffer fresh_session es)
  entries-reached es = record { before = takens es; is = sym (after-entries es fresh_session) }

  -- lend: the entry of an event, with n events left
  module _ (room : ℕ) (lent : ℕ → List ℕ) (sized : (n : ℕ) → length (lent n) ≡ room) (lend : ℕ → Event → E) (lends : (n : ℕ) (e : Event) → input (lend n e) ≡ some (gives e (lent n))) where
    abbrev pub lend_taken : ℕ → Event → Taken
    lend_taken n e = record { entry = lend n e; taken = gives e (lent n); is = lends n e }

    pub entries_n10 : (D : Chip) (alike : Alike D simulated) → N10 D alike.state by_entries room lend_taken
    entries_n10 D alike = n10 D alike by_entries room lend_taken (λ n e. ap (event e) (sized n))

-- ---- the C interface: its calls, and its events by number

abbrev pub event_number : Event → ℕ
event_number ok = 0
event_number bad = 1
event_number (pkt packet) = 2
event_number time = 3
event_number fail = 4
event_number late = 5
event_number slept = 6

abbrev pub packet_of : Event → List ℕ
packet_of ok = []
packet_of bad = []
packet_of (pkt packet) = packet
packet_of time = []
packet_of fail = []
packet_of late = []
packet_of slept = []

pub host_gives : (e : Event) (b : List ℕ) → host_input (host_event (event_number e) (packet_of e) b) ≡ some (gives e b)
unfolding event_by_of
host_gives ok b = refl
host_gives bad b = refl
host_gives (pkt packet) b = refl
host_gives time b = refl
host_gives fail b = refl
host_gives late b = refl
host_gives slept b = refl

abbrev pub host : Machine
host = by_entries HostEntry host_input buffer_in

module _ (room : ℕ) (lent : ℕ → List ℕ) (sized : (n : ℕ) → length (lent n) ≡ room) where
  -- rcs956_event, with any bytes of the room in the buffer
  abbrev pub host_lend : ℕ → Event → Taken HostEntry host_input buffer_in
  host_lend n e = lend_taken HostEntry host_input buffer_in room lent sized (λ k x. host_event (event_number x) (packet_of x) (lent k)) (λ k x. host_gives x (lent k)) n e

  pub host_n10 : (D : Chip) (alike : Alike D simulated) → N10 D alike.state host room host_lend
  host_n10 D alike = entries_n10 HostEntry host_input buffer_in room lent sized (λ k x. host_event (event_number x) (packet_of x) (lent k)) (λ k x. host_gives x (lent k)) D alike

  -- ---- lists in which the host's entries and the session's own take turns
  abbrev pub mixed : Machine
  mixed = by_entries MixedEntry mixed_input mixed_buffer

  pub mixed_n10 : (lend : ℕ → Event → MixedEntry) (lends : (n : ℕ) (e : Event) → mixed_input (lend n e) ≡ some (gives e (lent n)))
      → (D : Chip) (alike : Alike D simulated) → N10 D alike.state mixed room (lend_taken MixedEntry mixed_input mixed_buffer room lent sized lend lends)
  mixed_n10 lend lends D alike = entries_n10 MixedEntry mixed_input mixed_buffer room lent sized lend lends D alike
