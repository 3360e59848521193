-- N10's sentences of every machine that simulates the definitions, with the definitions' chip.
use Rattle.std.specs.Prelude.{◌≡◌, refl, true, false, List, [], ◌↔◌, ℕ, ◌+◌, ◌-◌, ◌≤◌, ◌<◌, get_or}
use Rattle.std.proofs.Common.{sym, ap, ◌∙◌, subst}
use Rattle.std.proofs.Math.Option.{Option, none, some}
use Rattle.errors.specs.declared.Fault.TheVariants.{NoCard}
use Rattle.framing.specs.Lists.{Bytes}
use Rattle.targets.specs.Bitrates.{choice_of, chosen}
use Rattle.targets.specs.declared.Bitrate.{Bitrate}
use Rattle.exchange.specs.Exchange.{Event}
use Rattle.protocol.specs.Calls.{Call, reader, device, detect_type_a_of, detect_type_b_of, detect_type_f_of, detect_dep_of, transceive}
use Rattle.protocol.specs.Scripts.{Answer, done, nothing, refused}
use Rattle.protocol.specs.Session.{event, answers}
use Rattle.protocol.specs.Machine.{Machine}
use Rattle.chip_protocol.specs.Field.{Card, is_bitrate_of, reply_to, is_type2_card, FieldFits}
use Rattle.chip_protocol.specs.Chip.{card_at}
use Rattle.chip_protocol.specs.declared.Kind.{Kind}
use Rattle.chip_protocol.specs.declared.Kind.TheVariants.{TypeA, TypeB, TypeF, Dep}
use Rattle.chip_protocol.specs.Channel.{simulated, as_is, End, call_run}
use Rattle.chip_protocol.specs.First.{NoneOf, FirstOf, First}
use Rattle.chip_protocol.specs.Answers.{answer_a, answer_b, answer_f, answer_dep, events_a, events_b, events_f, events_dep, most_events, sel_res_of, handed_out, transceive_events}
use Rattle.chip_protocol.specs.Claim.{Accepted, Ready, EndsWith, Called, CalledFor, field_of, run_of, Ends, N10}
use Rattle.chip_protocol.proofs.Search.{has_first}
use Rattle.chip_protocol.specs.Exactly.{is_done}
use Rattle.chip_protocol.proofs.Exactly.{exactly, done_a, done_b, done_f, done_dep, few_a, few_b, few_f, few_dep, to_most}
use Rattle.chip_protocol.proofs.CallEnds as calls

module _ (M : Machine) (room : ℕ) (give : ℕ → Event → M.Input) (gives : (n : ℕ) (e : Event) → M.entry (give n e) ≡ event e room) where
  -- with as many events as any discovery has, and more
  at_most : {c : Call} (x : Called simulated as_is M room give c) (n : ℕ) (a : Answer ℕ) (o : Option Card) → n ≤ most_events → Ends simulated as_is M room give x n a o
      → (m : ℕ) → (run_of simulated as_is M room give x (most_events + m)).output ≡ answers a
  at_most x n a o few h m = subst (λ j. (run_of simulated as_is M room give x j).output ≡ answers a) (to_most n m few) (h ((most_events - n) + m)).output

  none-exactly : {c : Call} (x : Called simulated as_is M room give c) (k : Kind) (r : Bitrate) (answer : Option Card → Answer ℕ) (miss : Answer ℕ) (events : Option Card → ℕ)
      → is_bitrate_of k r ≡ true → answer none ≡ miss → is_done miss ≡ false → ((c : Card) → FirstOf k r (field_of simulated as_is M room give x) c → is_done (answer (some c)) ≡ true)
      → ((o : Option Card) → events o ≤ most_events) → ((o : Option Card) → First k r (field_of simulated as_is M room give x) o → Ends simulated as_is M room give x (events o) (answer o) o)
      → (m : ℕ) → ((run_of simulated as_is M room give x (most_events + m)).output ≡ answers miss) ↔ NoneOf k r (field_of simulated as_is M room give x)
  none-exactly x k r answer miss events taken missed undone finds few h m =
      let w = has_first k r taken (field_of simulated as_is M room give x) in
      exactly k r (field_of simulated as_is M room give x) answer miss missed undone finds w.0 w.1 (run_of simulated as_is M room give x (most_events + m)).output
      (at_most x (events w.0) (answer w.0) w.0 (few w.0) (h w.0 w.1) m)

  -- ---- each discovery

  finds_a : (text : List ℕ) (rate : Bitrate) → choice_of text ≡ chosen rate → (x : CalledFor simulated as_is M room give (detect_type_a_of text [])) → Ready simulated as_is M room give x.channel
      → (o : Option Card) → First TypeA rate (field_of simulated as_is M room give x) o → Ends simulated as_is M room give x (events_a o) (answer_a o) o
  finds_a text rate named x ready o first m =
      calls.finds_a M room give gives x.state x.reached x.input x.channel m ready text rate named o x.accepted first

  finds_b : (text sensbReq : List ℕ) (rate : Bitrate) → choice_of text ≡ chosen rate → get_or sensbReq 0 0 ≡ 0 → (x : CalledFor simulated as_is M room give (detect_type_b_of text sensbReq)) → Ready simulated as_is M room give x.channel
      → (o : Option Card) → First TypeB rate (field_of simulated as_is M room give x) o → Ends simulated as_is M room give x (events_b o) (answer_b o) o
  finds_b text sensbReq rate named afi x ready o first m =
      calls.finds_b M room give gives x.state x.reached x.input x.channel m ready text rate named o sensbReq afi x.accepted first

  finds_f : (text : List ℕ) (request slots : ℕ) (rate : Bitrate) → choice_of text ≡ chosen rate → request < 256 → slots < 256
      → (x : CalledFor simulated as_is M room give (detect_type_f_of text 0xFFFF request slots)) → Ready simulated as_is M room give x.channel
      → (o : Option Card) → First TypeF rate (field_of simulated as_is M room give x) o → Ends simulated as_is M room give x (events_f x.channel.chip.is_rf_field_on) (answer_f o) o
  finds_f text request slots rate named y z x ready o first m =
      calls.finds_f M room give gives x.state x.reached x.input x.channel m ready text rate named o request slots y z x.accepted first

  finds_dep : (text atrReq : List ℕ) (rate : Bitrate) → choice_of text ≡ chosen rate → Bytes atrReq → (x : CalledFor simulated as_is M room give (detect_dep_of text atrReq)) → Ready simulated as_is M room give x.channel
      → (o : Option Card) → First Dep rate (field_of simulated as_is M room give x) o → Ends simulated as_is M room give x (events_dep o) (answer_dep o) o
  finds_dep text atrReq rate named bytes x ready o first m =
      calls.finds_dep M room give gives x.state x.reached x.input x.channel m ready text rate named o atrReq bytes x.accepted first

  -- ---- right after

  right_after : (c : Card) (text bytes reply : List ℕ) (ms : Option ℕ) → choice_of text ≡ chosen c.bitrate → Bytes bytes → reply_to c.replies bytes ≡ some reply
      → (e : End M simulated give) (a : Answer ℕ) (f : List Card) (j : ℕ) → FieldFits f → EndsWith simulated as_is M room give e a f (some c) j
      → (i : M.Input) → Accepted M room e.state i (reader (device (transceive text (sel_res_of c.kind c.list_data) false bytes ms)))
      → (m : ℕ) → EndsWith simulated as_is M room give (call_run M simulated give (transceive_events + m) e.state e.channel i) (done (handed_out (is_type2_card c) reply)) f (some c) m
  right_after c text bytes reply ms named all stated e a f j fits h i acc m =
      let ready : Ready simulated as_is M room give e.channel = record { fits = subst FieldFits (sym h.field) fits; unread = h.unread } in
      let found : card_at e.channel.chip.field e.channel.chip.found ≡ some c = ap (λ (g : List Card). card_at g e.channel.chip.found) h.field ∙ h.found in
      subst (λ (g : List Card). EndsWith simulated as_is M room give (call_run M simulated give (transceive_events + m) e.state e.channel i) (done (handed_out (is_type2_card c) reply)) g (some c) m) h.field
      (calls.hands_out M room give gives e.state h.reached i e.channel m ready c found reply text bytes ms named all stated acc)

  -- ---- all of them

  pub simulated_n10 : N10 simulated as_is M room give
  simulated_n10 =
      record {
        opening_succeeds = λ mode x fits short m. calls.opening_succeeds M room give gives x.state x.reached x.input x.channel m mode fits short x.accepted;
        finds_a = finds_a;
        finds_b = finds_b;
        finds_f = finds_f;
        finds_dep = finds_dep;
        none_a = λ text rate named x ready.
            none-exactly x TypeA rate answer_a nothing events_a (calls.taken_a M room give gives x.state x.reached x.input text rate named x.accepted) refl refl
            (λ c h. done_a c) few_a (finds_a text rate named x ready);
        none_b = λ text sensbReq rate named afi x ready.
            none-exactly x TypeB rate answer_b nothing events_b (calls.taken_b M room give gives x.state x.reached x.input text rate named sensbReq x.accepted) refl refl
            (done_b rate (field_of simulated as_is M room give x) ready.fits) few_b (finds_b text sensbReq rate named afi x ready);
        none_f = λ text request slots rate named y z x ready.
            none-exactly x TypeF rate answer_f (refused NoCard) (λ o. events_f x.channel.chip.is_rf_field_on)
            (calls.taken_f M room give gives x.state x.reached x.input text rate named request slots x.accepted) refl refl
            (λ c h. done_f c) (λ o. few_f x.channel.chip.is_rf_field_on) (finds_f text request slots rate named y z x ready);
        none_dep = λ text atrReq rate named bytes x ready.
            none-exactly x Dep rate answer_dep nothing events_dep (calls.taken_dep M room give gives x.state x.reached x.input text rate named atrReq x.accepted) refl refl
            (λ c h. done_dep c) few_dep (finds_dep text atrReq rate named bytes x ready);
        hands_out = λ c text bytes reply ms named all stated x ready found m.
            calls.hands_out M room give gives x.state x.reached x.input x.channel m ready c found reply text bytes ms named all stated x.accepted;
        right_after = right_after;
        answered_read = λ c idm blocks reply service ms known bi bb stated x ready found m.
            calls.answered_read M room give gives x.state x.reached x.input x.channel m ready c found reply idm blocks service ms known bi bb stated x.accepted;
        answered_write = λ c idm blocks bytes reply service ms known bi bb all stated x ready found m.
            calls.answered_write M room give gives x.state x.reached x.input x.channel m ready c found reply idm blocks bytes service ms known bi bb all stated x.accepted;
      }
