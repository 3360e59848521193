-- N10's sentences hold of every machine that simulates the definitions, with every chip that does as the definitions' chip.
use Rattle.std.specs.Prelude.{◌≡◌, List, ◌↔◌, ℕ, ◌+◌}
use Rattle.std.proofs.Common.{sym, ap, subst}
use Rattle.std.proofs.Math.Option.{Option, some}
use Rattle.exchange.specs.Exchange.{Event}
use Rattle.protocol.specs.Calls.{Call}
use Rattle.protocol.specs.Scripts.{Answer}
use Rattle.protocol.specs.Session.{event, Output, answers}
use Rattle.protocol.specs.Machine.{Machine}
use Rattle.chip_protocol.specs.Field.{Card}
use Rattle.chip_protocol.specs.Channel.{Chip, simulated, as_is, Channel, End, call_run}
use Rattle.chip_protocol.specs.Answers.{most_events, transceive_events}
use Rattle.chip_protocol.specs.Claim.{Ready, EndsWith, Called, field_of, run_of, Ends, N10}
use Rattle.chip_protocol.specs.Alike.{Alike, on_channel, on_end, alike_call}
use Rattle.chip_protocol.proofs.Simulated.{simulated_n10}

module _ (D : Chip) (alike : Alike D simulated) (M : Machine) (room : ℕ) (give : ℕ → Event → M.Input) where
  abbrev on_called : {c : Call} → Called D alike.state M room give c → Called simulated as_is M room give c
  on_called x = record { state = x.state; reached = x.reached; input = x.input; accepted = x.accepted; channel = on_channel D simulated alike x.channel }

  abbrev on : End M D give → End M simulated give
  on e = on_end D simulated alike M give e

  same_end : (n : ℕ) (s : M.State) (l : Channel D) (i : M.Input) → on (call_run M D give n s l i) ≡ call_run M simulated give n s (on_channel D simulated alike l) i
  same_end n s l i = alike_call D simulated alike M give n s l i

  ready : (l : Channel D) → Ready D alike.state M room give l → Ready simulated as_is M room give (on_channel D simulated alike l)
  ready l h = record { fits = h.fits; unread = h.unread }

  -- an end of the one is one of the other
  there : (e : End M D give) (a : Answer ℕ) (f : List Card) (o : Option Card) (m : ℕ) → EndsWith D alike.state M room give e a f o m → EndsWith simulated as_is M room give (on e) a f o m
  there e a f o m h = record { output = h.output; left = h.left; unread = h.unread; field = h.field; found = h.found; reached = h.reached }

  back : (e : End M D give) (a : Answer ℕ) (f : List Card) (o : Option Card) (m : ℕ) → EndsWith simulated as_is M room give (on e) a f o m → EndsWith D alike.state M room give e a f o m
  back e a f o m h = record { output = h.output; left = h.left; unread = h.unread; field = h.field; found = h.found; reached = h.reached }

  run-back : (n : ℕ) (s : M.State) (l : Channel D) (i : M.Input) (a : Answer ℕ) (f : List Card) (o : Option Card) (m : ℕ)
      → EndsWith simulated as_is M room give (call_run M simulated give n s (on_channel D simulated alike l) i) a f o m → EndsWith D alike.state M room give (call_run M D give n s l i) a f o m
  run-back n s l i a f o m h = back (call_run M D give n s l i) a f o m (subst (λ (e : End M simulated give). EndsWith simulated as_is M room give e a f o m) (sym (same_end n s l i)) h)

  ends-back : {c : Call} (x : Called D alike.state M room give c) (n : ℕ) (a : Answer ℕ) (o : Option Card)
      → Ends simulated as_is M room give (on_called x) n a o → Ends D alike.state M room give x n a o
  ends-back x n a o h m = run-back (n + m) x.state x.channel x.input a (field_of D alike.state M room give x) o m (h m)

  none-back : {c : Call} (x : Called D alike.state M room give c) (n : ℕ) (a : Answer ℕ) (P : Type 0)
      → ((run_of simulated as_is M room give (on_called x) n).output ≡ answers a) ↔ P → ((run_of D alike.state M room give x n).output ≡ answers a) ↔ P
  none-back x n a P h =
      subst (λ (out : Output ℕ). (out ≡ answers a) ↔ P) (sym (ap (λ (e : End M simulated give). e.output) (same_end n x.state x.channel x.input))) h

  pub carried : N10 simulated as_is M room give → N10 D alike.state M room give
  carried h =
      record {
        opening_succeeds = λ mode x fits short. ends-back x _ _ _ (h.opening_succeeds mode (on_called x) fits short);
        finds_a = λ text rate named x r o first. ends-back x _ _ _ (h.finds_a text rate named (on_called x) (ready x.channel r) o first);
        finds_b = λ text sensbReq rate named afi x r o first. ends-back x _ _ _ (h.finds_b text sensbReq rate named afi (on_called x) (ready x.channel r) o first);
        finds_f = λ text request slots rate named y z x r o first. ends-back x _ _ _ (h.finds_f text request slots rate named y z (on_called x) (ready x.channel r) o first);
        finds_dep = λ text atrReq rate named bytes x r o first. ends-back x _ _ _ (h.finds_dep text atrReq rate named bytes (on_called x) (ready x.channel r) o first);
        none_a = λ text rate named x r m. none-back x (most_events + m) _ _ (h.none_a text rate named (on_called x) (ready x.channel r) m);
        none_b = λ text sensbReq rate named afi x r m. none-back x (most_events + m) _ _ (h.none_b text sensbReq rate named afi (on_called x) (ready x.channel r) m);
        none_f = λ text request slots rate named y z x r m. none-back x (most_events + m) _ _ (h.none_f text request slots rate named y z (on_called x) (ready x.channel r) m);
        none_dep = λ text atrReq rate named bytes x r m. none-back x (most_events + m) _ _ (h.none_dep text atrReq rate named bytes (on_called x) (ready x.channel r) m);
        hands_out = λ c text bytes reply ms named all stated x r found.
            ends-back x _ _ _ (h.hands_out c text bytes reply ms named all stated (on_called x) (ready x.channel r) found);
        right_after = λ c text bytes reply ms named all stated e a f j fits w i acc m.
            run-back (transceive_events + m) e.state e.channel i _ f (some c) m
            (h.right_after c text bytes reply ms named all stated (on e) a f j fits (there e a f (some c) j w) i acc m);
        answered_read = λ c idm blocks reply service ms known bi bb stated x r found.
            ends-back x _ _ _ (h.answered_read c idm blocks reply service ms known bi bb stated (on_called x) (ready x.channel r) found);
        answered_write = λ c idm blocks bytes reply service ms known bi bb all stated x r found.
            ends-back x _ _ _ (h.answered_write c idm blocks bytes reply service ms known bi bb all stated (on_called x) (ready x.channel r) found);
      }

  -- gives: what is lent for an event is that event, with a buffer of the room
  pub n10 : ((n : ℕ) (e : Event) → M.entry (give n e) ≡ event e room) → N10 D alike.state M room give
  n10 gives = carried (simulated_n10 M room give gives)
