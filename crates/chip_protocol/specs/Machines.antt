-- The run of a machine that simulates the definitions is that of the definitions' session; and what "accepted" says.
use Rattle.std.specs.Prelude.{◌≡◌, refl, Bool, true, false, ◌||◌, List, [], ◌∷◌, ◌++◌, ℕ, zero, suc}
use Rattle.std.proofs.Common.{sym, ap, ◌∙◌, subst}
use Rattle.std.proofs.lemmas.Bool.{false≢true}
use Rattle.exchange.specs.Exchange.{Event}
use Rattle.protocol.specs.Scripts.{Byte, Script}
use Rattle.protocol.specs.Calls.{Call, ReaderCall, reader}
use Rattle.protocol.specs.Starts.{starts, start_of}
use Rattle.protocol.specs.Session as Spec
use Rattle.protocol.specs.Session.{Running, idle, busy, Books, admits, Session, fresh, Entry, call, event, Output, orders, answers, rejects, given, step}
use Rattle.protocol.specs.Machine.{Machine, output_values, state_after, entries}
use Rattle.protocol.proofs.Machine.{still_represents}
use Rattle.protocol.specs.Runs.{session_at, idle_with, Accepts}
use Rattle.protocol.proofs.RunLaws.{call_cases}
use Rattle.chip_protocol.specs.Claim.{is_accepted, Reached, Accepted}
use Rattle.chip_protocol.specs.Channel.{Channel, event_for, channel_after, End, run, call_run}
use Rattle.chip_protocol.specs.Script.{Responder, chip_of}
use Rattle.chip_protocol.specs.Run.{PlayEnd, play, play_from}

-- ---- sessions that are reached from a fresh one

module _ (M : Machine) where
  after-append : (s : M.State) (is : List M.Input) (i : M.Input) → state_after M s (is ++ (i ∷ [])) ≡ (M.act (state_after M s is) i).state
  after-append s [] i = refl
  after-append s (j ∷ is) i = after-append (M.act s j).state is i

  pub reached-next : (s : M.State) (i : M.Input) → Reached M s → Reached M (M.act s i).state
  reached-next s i h = record { before = h.before ++ (i ∷ []); is = ap (λ (t : M.State). (M.act t i).state) h.is ∙ sym (after-append M.new h.before i) }

  -- the definitions' session that it stands for
  pub reached-session : (s : M.State) → Reached M s → (z : Session) × M.Represents s z
  reached-session s h =
      let z : Session = Spec.session_after fresh (entries M h.before) in
      (z, subst (λ (t : M.State). M.Represents t z) (sym h.is) (still_represents M M.new fresh M.begins h.before))

-- ---- the same run

module _ (M : Machine) (C : Responder) (room : ℕ) (give : ℕ → Event → M.Input) (gives : (n : ℕ) (e : Event) → M.entry (give n e) ≡ event e room) where
  pub record SameEnd (e : End M (chip_of C) give) (f : PlayEnd C) : Type 0 where
    pub represents : M.Represents e.state f.session
    pub channel : e.channel ≡ f.channel
    pub output : e.output ≡ output_values f.output
    pub left : e.left ≡ f.left

  acts : (s : M.State) (m : Session) (i : M.Input) (e : Entry) → M.entry i ≡ e → M.Represents s m
      → M.Represents (M.act s i).state (step m e).state × ((M.act s i).output ≡ output_values (step m e).output)
  acts s m i e p h =
      subst (λ (d : Entry). M.Represents (M.act s i).state (step m d).state × ((M.act s i).output ≡ output_values (step m d).output))
      p (M.simulates s m i h)

  pub same-run : (n : ℕ) (s : M.State) (m : Session) (l : Channel (chip_of C)) (out : Output Byte) → M.Represents s m
      → SameEnd (run M (chip_of C) give n s l (output_values out)) (play C room n m l out)
  same-run zero s m l out h = record { represents = h; channel = refl; output = refl; left = refl }
  same-run (suc n) s m l (answers a) h = record { represents = h; channel = refl; output = refl; left = refl }
  same-run (suc n) s m l (rejects r) h = record { represents = h; channel = refl; output = refl; left = refl }
  same-run (suc n) s m l (orders x) h =
      let i : M.Input = give n (event_for (chip_of C) l x) in
      let e : Entry = event (event_for (chip_of C) l x) room in
      let f = acts s m i e (gives n (event_for (chip_of C) l x)) h in
      subst (λ (out : Output ℕ). SameEnd (run M (chip_of C) give n (M.act s i).state (channel_after (chip_of C) l x) out)
      (play C room n (step m e).state (channel_after (chip_of C) l x) (step m e).output))
      (sym f.1) (same-run n (M.act s i).state (step m e).state (channel_after (chip_of C) l x) (step m e).output f.0)

  -- a call, and then so many events
  pub same_call_run : (n : ℕ) (s : M.State) (m : Session) (l : Channel (chip_of C)) (i : M.Input) (e : Entry) → M.entry i ≡ e → M.Represents s m
      → SameEnd (call_run M (chip_of C) give n s l i) (play_from C room n (step m e) l)
  same_call_run n s m l i e p h =
      let f = acts s m i e p h in
      subst (λ (out : Output ℕ). SameEnd (run M (chip_of C) give n (M.act s i).state l out) (play_from C room n (step m e) l))
      (sym f.1) (same-run n (M.act s i).state (step m e).state l (step m e).output f.0)

  -- it ends in a session that is reached, too
  pub reached-run : (n : ℕ) (s : M.State) (l : Channel (chip_of C)) (out : Output ℕ) → Reached M s → Reached M (run M (chip_of C) give n s l out).state
  reached-run zero s l out h = h
  reached-run (suc n) s l (answers a) h = h
  reached-run (suc n) s l (rejects r) h = h
  reached-run (suc n) s l (orders x) h =
      let i : M.Input = give n (event_for (chip_of C) l x) in
      reached-run n (M.act s i).state (channel_after (chip_of C) l x) (M.act s i).output (reached-next M s i h)

-- ---- accepted

values_accepted : (out : Output Byte) → is_accepted (output_values out) ≡ is_accepted out
values_accepted (orders x) = refl
values_accepted (answers a) = refl
values_accepted (rejects r) = refl

-- an accepted call: no other runs, and it is not refused at once
pub record AcceptedIn (z : Session) (caller : ℕ) (c : Call) (room : ℕ) : Type 0 where
  pub free : z.running ≡ idle
  pub script : Script
  pub accepts : Accepts (admits z.books c) caller c room script

accepted_by : (p : Running) (b : Books) (caller : ℕ) (c : Call) (room : ℕ) → is_accepted (step (session_at p b) (call caller c room)).output ≡ true
    → AcceptedIn (session_at p b) caller c room
accepted_by (busy d phase) b caller c room h = absurd (false≢true h)
accepted_by idle b caller c room h =
    call_cases (λ o. is_accepted (given o) ≡ true → AcceptedIn (idle_with b) caller c room) (λ _. AcceptedIn (idle_with b) caller c room) c
    (λ _ e. absurd (false≢true e)) (λ x phase k _. k) (λ a k _. k) (admits b c) caller room (λ s k. record { free = refl; script = s; accepts = k }) h

pub accepted : (z : Session) (caller : ℕ) (c : Call) (room : ℕ) → is_accepted (step z (call caller c room)).output ≡ true → AcceptedIn z caller c room
accepted z caller c room h = accepted_by z.running z.books caller c room h

-- the machine accepts what the definitions accept
pub machine_accepted : (M : Machine) (s : M.State) (z : Session) (i : M.Input) (caller : ℕ) (c : Call) (room : ℕ) → M.Represents s z
    → M.entry i ≡ call caller c room → is_accepted (M.act s i).output ≡ true → AcceptedIn z caller c room
machine_accepted M s z i caller c room h p a =
    let e : (M.act s i).output ≡ output_values (step z (M.entry i)).output = (M.simulates s z i h).1 in
    let f : is_accepted (step z (M.entry i)).output ≡ true = sym (values_accepted (step z (M.entry i)).output) ∙ sym (ap is_accepted e) ∙ a in
    accepted z caller c room (subst (λ (d : Entry). is_accepted (step z d).output ≡ true) p f)

pub opened_of : (b : Books) (c : ReaderCall) → admits b (reader c) ≡ true → b.opened ≡ true
opened_of b c h = go b.opened h
  where
    go : (t : Bool) → (t || false) ≡ true → t ≡ true
    go true e = refl
    go false e = e

-- the script of an accepted call
pub accepted_script : (M : Machine) (room : ℕ) (s : M.State) (i : M.Input) (c : Call) → Reached M s → Accepted M room s i c → (x : Script) × (start_of c ≡ starts x)
accepted_script M room s i c h acc =
    let w = reached-session M s h in
    let k = machine_accepted M s w.0 i acc.caller c room w.1 acc.entry acc.accepted in
    (k.script, k.accepts.begins)
