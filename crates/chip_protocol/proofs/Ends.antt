-- From what a script comes to, to how the run of an accepted call ends.
use Rattle.std.specs.Prelude.{◌≡◌, refl, List, [], ◌∷◌, ℕ, zero, suc, ◌+◌, length}
use Rattle.std.proofs.Common.{sym, ap, ◌∙◌, subst, arith}
use Rattle.framing.specs.Commands.{command_in}
use Rattle.exchange.specs.Exchange.{Event}
use Rattle.protocol.specs.Scripts.{Answer, Script}
use Rattle.protocol.specs.Calls.{opening, reader, ReaderCall}
use Rattle.protocol.specs.Starts.{start_of, starts}
use Rattle.protocol.specs.Session.{idle, Session, Entry, call, event, answers, step}
use Rattle.protocol.specs.Machine.{Machine, output_values}
use Rattle.chip_protocol.specs.Packets.{received_in, received_command}
use Rattle.chip_protocol.specs.Field.{FieldFits}
use Rattle.chip_protocol.specs.Chip.{ChipState, card_at, chip_step, step_for}
use Rattle.chip_protocol.specs.Channel.{simulated, as_is, Channel, channel, End, call_run}
use Rattle.chip_protocol.specs.Script.{more, responder, packets_for, state_for, chip_of, Sends, peer_of}
use Rattle.chip_protocol.specs.Claim.{PacketsFit, Reached, Accepted, EndsWith}
use Rattle.chip_protocol.specs.Run.{PlayEnd, play_from, reads_and}
use Rattle.chip_protocol.proofs.Run.{run_call, run_opening}
use Rattle.protocol.specs.Runs.{session_at, run_events}
use Rattle.chip_protocol.specs.Machines.{reached-session, reached-next, same_call_run, reached-run, machine_accepted, AcceptedIn, opened_of}
use Rattle.chip_protocol.specs.Alike.{Alike, alike_call}
use Rattle.chip_protocol.specs.Fits.{HasFitting}
use Rattle.chip_protocol.proofs.Fits.{chip_fits}
use Rattle.chip_protocol.specs.Found.{Comes}

-- the chip's step is its responses
step_packets : (s : ChipState) (l : List ℕ) → (step_for s (received_command l)).packets ≡ packets_for responder s l
step_packets s [] = refl
step_packets s (code ∷ bytes) = refl

step-state : (s : ChipState) (l : List ℕ) → (step_for s (received_command l)).state ≡ state_for responder s l
step-state s [] = refl
step-state s (code ∷ bytes) = refl

same_packets : (s : ChipState) (written : List ℕ) → (chip_step s written).packets ≡ packets_for responder s (command_in written)
unfolding chip_step received_in
same_packets s written = step_packets s (command_in written)

same-state : (s : ChipState) (written : List ℕ) → (chip_step s written).state ≡ state_for responder s (command_in written)
unfolding chip_step received_in
same-state s written = step-state s (command_in written)

abbrev by_responses : Alike simulated (chip_of responder)
by_responses = record { state = λ s. s; packets = same_packets; next = same-state }

-- ---- numbers of events

more_plus : (n m : ℕ) → more n m ≡ n + m
more_plus zero m = omega arith
more_plus (suc n) m = omega (arith, more_plus n m)

reads_plus : (n : ℕ) (q : List (List ℕ)) → reads_and n q ≡ suc (length q + n)
reads_plus n [] = omega arith
reads_plus n (p ∷ q) = omega (arith, reads_plus n q)

module _ (M : Machine) (room : ℕ) (give : ℕ → Event → M.Input) (gives : (n : ℕ) (e : Event) → M.entry (give n e) ≡ event e room) where
  -- a run of the definitions' session that ends so
  record PlaysTo (e : PlayEnd responder) (a : Answer ℕ) (t : ChipState) (m : ℕ) : Type 0 where
    pub output : output_values e.output ≡ answers a
    pub channel : e.channel ≡ channel (chip_of responder) t []
    pub left : e.left ≡ m

  ends : (n : ℕ) (s : M.State) (z : Session) (t u : ChipState) (q : List (List ℕ)) (i : M.Input) (d : Entry) (a : Answer ℕ) (m : ℕ)
      → Reached M s → M.Represents s z → M.entry i ≡ d → PlaysTo (play_from responder room n (step z d) (channel (chip_of responder) t q)) a u m → u.field ≡ t.field
      → EndsWith simulated as_is M room give (call_run M simulated give n s (channel simulated t q) i) a t.field (card_at t.field u.found) m
  ends n s z t u q i d a m h rep p w f =
      let l : Channel simulated = channel simulated t q in
      let g = same_call_run M responder room give gives n s z (channel (chip_of responder) t q) i d p rep in
      let k = alike_call simulated (chip_of responder) by_responses M give n s l i in
      let at : (call_run M simulated give n s l i).channel ≡ channel simulated u [] =
      ap (λ (c : Channel (chip_of responder)). channel simulated c.chip c.unread) (ap (λ (e : End M (chip_of responder) give). e.channel) k ∙ g.channel ∙ w.channel) in
      record {
        output = ap (λ (e : End M (chip_of responder) give). e.output) k ∙ g.output ∙ w.output;
        left = ap (λ (e : End M (chip_of responder) give). e.left) k ∙ g.left ∙ w.left;
        unread = ap (λ (c : Channel simulated). c.unread) at;
        field = ap (λ (c : Channel simulated). c.chip.field) at ∙ f;
        found = ap (λ (c : Channel simulated). card_at t.field c.chip.found) at;
        reached = subst (Reached M) (sym (ap (λ (e : End M (chip_of responder) give). e.state) k))
            (reached-run M responder room give gives n (M.act s i).state (channel (chip_of responder) t q) (M.act s i).output (reached-next M s i h));
      }

  at-idle : (z : Session) → z.running ≡ idle → z ≡ session_at idle z.books
  at-idle z e = ap (λ r. session_at r z.books) e

  -- a call of an open reader
  pub ends_call : (s : M.State) (i : M.Input) (d : ReaderCall) (t : ChipState) (a : Answer ℕ) (u : ChipState) (n : ℕ) (x : Script) (m : ℕ)
      → Reached M s → Accepted M room s i (reader d) → FieldFits t.field → start_of (reader d) ≡ starts x → Sends x → Comes x t a u n → u.field ≡ t.field
      → EndsWith simulated as_is M room give (call_run M simulated give (n + m) s (channel simulated t []) i) a t.field (card_at t.field u.found) m
  ends_call s i d t a u n x m h acc g begins sends c f =
      let w = reached-session M s h in
      let z : Session = w.0 in
      let k : AcceptedIn z acc.caller (reader d) room = machine_accepted M s z i acc.caller (reader d) room w.1 acc.entry acc.accepted in
      let count : run_events (peer_of responder) m x t ≡ n + m = c.events m ∙ more_plus n m in
      let r = run_call responder HasFitting chip_fits room k.accepts.roomy (reader d) x m acc.caller z.books t g sends refl (opened_of z.books d k.accepts.admitted) k.accepts.known begins in
      let plays : PlaysTo (play_from responder room (run_events (peer_of responder) m x t) (step (session_at idle z.books) (call acc.caller (reader d) room)) (channel (chip_of responder) t [])) a u m =
      subst (λ (e : PlayEnd responder). PlaysTo e a u m) (sym r)
      record { output = ap answers c.answer; channel = ap (λ (v : ChipState). channel (chip_of responder) v []) c.state; left = refl } in
      subst (λ (j : ℕ). EndsWith simulated as_is M room give (call_run M simulated give j s (channel simulated t []) i) a t.field (card_at t.field u.found) m) count
      (ends (run_events (peer_of responder) m x t) s (session_at idle z.books) t u [] i (call acc.caller (reader d) room) a m h (subst (M.Represents s) (at-idle z k.free) w.1) acc.entry plays f)

  -- an opening, whatever packets are unread
  pub ends_opening : (s : M.State) (i : M.Input) (mode : ℕ) (t : ChipState) (q : List (List ℕ)) (a : Answer ℕ) (u : ChipState) (n : ℕ) (x : Script) (m : ℕ)
      → Reached M s → Accepted M room s i (opening mode) → FieldFits t.field → PacketsFit q → start_of (opening mode) ≡ starts x → Sends x → Comes x t a u n → u.field ≡ t.field
      → EndsWith simulated as_is M room give (call_run M simulated give (2 + n + length q + m) s (channel simulated t q) i) a t.field (card_at t.field u.found) m
  ends_opening s i mode t q a u n x m h acc g short begins sends c f =
      let w = reached-session M s h in
      let z : Session = w.0 in
      let k : AcceptedIn z acc.caller (opening mode) room = machine_accepted M s z i acc.caller (opening mode) room w.1 acc.entry acc.accepted in
      let j : ℕ = suc (reads_and (run_events (peer_of responder) m x t) q) in
      let count : j ≡ 2 + n + length q + m = omega (arith, reads_plus (run_events (peer_of responder) m x t) q, c.events m, more_plus n m) in
      let r = run_opening responder HasFitting chip_fits room k.accepts.roomy (opening mode) x m acc.caller z.books t q g sends short refl k.accepts.known begins in
      let plays : PlaysTo (play_from responder room j (step (session_at idle z.books) (call acc.caller (opening mode) room)) (channel (chip_of responder) t q)) a u m =
      subst (λ (e : PlayEnd responder). PlaysTo e a u m) (sym r)
      record { output = ap answers c.answer; channel = ap (λ (v : ChipState). channel (chip_of responder) v []) c.state; left = refl } in
      subst (λ (v : ℕ). EndsWith simulated as_is M room give (call_run M simulated give v s (channel simulated t q) i) a t.field (card_at t.field u.found) m) count
      (ends j s (session_at idle z.books) t u q i (call acc.caller (opening mode) room) a m h (subst (M.Represents s) (at-idle z k.free) w.1) acc.entry plays f)
