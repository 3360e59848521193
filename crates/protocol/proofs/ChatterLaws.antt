-- Where a command stands whose wait has not ended, by the call's lines; an ACK-led packet that comes while it waits behind one changes nothing.
use Rattle.std.specs.Prelude.{◌≡◌, refl, Bool, true, false, not, cond, ◌&&◌, ◌||◌, List, [], ◌∷◌, ℕ, zero, suc, eqb}
use Rattle.std.proofs.Common.{sym, ap, ◌∙◌, subst, subst₂}
use Rattle.std.proofs.lemmas.Bool.{false≢true}
use Rattle.framing.specs.Frames.{ack, sof}
use Rattle.framing.specs.Lists.{starts}
use Rattle.framing.specs.Starts.{starts-append}
use Rattle.framing.specs.Valid.{both_left}
use Rattle.exchange.specs.Packets.{is_ack, has_start, ack_led, is_empty, Reply}
use Rattle.exchange.specs.Exchange.{Order, write, read, drain, pause, Event, ok, bad, pkt, time, fail, late, slept, unfit, pending, ended}
use Rattle.exchange.specs.Exchange.{waiting, ExchangeResult, after_ack, advance}
use Rattle.protocol.specs.Scripts.{Script, finish, command, reset, field_pause}
use Rattle.protocol.specs.Calls.{reset_mode_code}
use Rattle.protocol.specs.Session.{Rest, by_reply, of_reset, Phase, exchange, reset_ack, reset_pause, field_pausing, opening_ack, opening_reads}
use Rattle.protocol.specs.Session.{CallResult, start_script, after_reply, after_exchange, progress, begin, Books, counted_for, book_order}
use Rattle.protocol.specs.Record.{Item, ordered, accepted, is_command, acked}
use Rattle.protocol.specs.Claim.{allowed_between}
use Rattle.protocol.specs.Laws.{split, by_write, by_read, by_pause, ack_is_ack}
use Rattle.protocol.specs.PollAlong.{Bare}
use Rattle.protocol.proofs.PollAlong.{bare}
use Rattle.protocol.specs.Chatter.{unanswered, waits, is_further}
use Rattle.protocol.specs.Names.{command_clock}
use Rattle.protocol.specs.ChatterLaws.{Unacked, is_sent, is_read, Waits, At, Placed, PlacedBy, Proper, Any}

not_both : {A : Type 0} {t : Bool} → t ≡ false → t ≡ true → A
not_both p q = absurd (false≢true (sym p ∙ q))

pub and_left : (a b : Bool) → (a && b) ≡ true → a ≡ true
and_left true b h = refl
and_left false b h = not_both refl h

pub and_right : (a b : Bool) → (a && b) ≡ true → b ≡ true
and_right true b h = h
and_right false b h = not_both refl h

proper_ack : (phase : Phase) → Proper (pending (write ack) phase)
proper_ack phase h = not_both (rw ack_is_ack refl) h

proper_start : (s : Script) → Proper (start_script s)
proper_start (finish a) = tt
proper_start (command code clock bytes k) = λ _. is_sent code clock (by_reply k) refl
proper_start (reset s) = λ _. is_sent reset_mode_code command_clock (of_reset s) refl
proper_start (field_pause s) = not_both refl

proper_reply : (rest : Rest) (r : Reply) → Proper (after_reply rest r)
proper_reply (by_reply k) r = proper_start (k r)
proper_reply (of_reset s) r = proper_ack _

proper_exchange : (rest : Rest) (r : ExchangeResult) → Bare r → Proper (after_exchange rest r)
proper_exchange rest unfit i = tt
proper_exchange rest (pending x step) i = not_both i
proper_exchange rest (ended r) i = proper_reply rest r

proper_progress : (phase : Phase) (e : Event) → Proper (progress phase e)
proper_progress (exchange step rest) e = proper_exchange rest (advance step e) (bare step e)
proper_progress (reset_ack s) e = by_write Any unfit (λ _. tt) _ _ (not_both refl) tt e
proper_progress (reset_pause s) e = by_pause Any unfit (λ _. tt) _ (proper_start s) e
proper_progress (field_pausing s) e = by_pause Any unfit (λ _. tt) _ (proper_start s) e
proper_progress (opening_ack s) e = by_write Any unfit (λ _. tt) _ _ (not_both refl) tt e
proper_progress (opening_reads s) e = by_read Any unfit (λ _. tt) _ _ _ _ (λ _. (not_both refl)) (proper_start s) (proper_start s) tt e

pub proper_begin : (b : Bool) (s : Script) → Proper (begin b s)
proper_begin true s = proper_ack _
proper_begin false s = proper_start s

-- no wait is on in the lines xs: a new one begins with a command frame alone
order_placed : (x : Order) (xs : List Item) (phase : Phase) → unanswered xs ≡ false → (is_command (ordered x) ≡ true → Unacked phase) → Placed (ordered x ∷ xs) phase
order_placed (write bytes) xs phase e p = go (is_ack bytes) (λ z. p (ap not z))
  where
    go : (z : Bool) → (z ≡ false → Unacked phase) → At (not z || false) (cond (not z) false (false || acked xs)) (ordered (write bytes) ∷ xs) phase
    go true f = tt
    go false f = f refl
order_placed (read ms) xs phase e p = rw e tt
order_placed drain xs phase e p = tt
order_placed (pause us) xs phase e p = tt

pub result-placed : (xs : List Item) (r : CallResult) → unanswered xs ≡ false → Proper r → PlacedBy xs r
result-placed xs unfit e p = tt
result-placed xs (pending x phase) e p = order_placed x xs phase e p
result-placed xs (ended a) e p = e

-- ---- an ACK-led packet

-- it is not empty, and has the start bytes
pub led_start : (packet : List ℕ) → ack_led packet ≡ true → has_start packet ≡ true
unfolding ack_led has_start
led_start packet h = both_left _ _ (sym (starts-append sof (0x00 ∷ 0xFF ∷ 0x00 ∷ []) packet) ∙ h)

led_some : (packet : List ℕ) → ack_led packet ≡ true → is_empty packet ≡ false
unfolding ack_led starts
led_some [] h = not_both refl h
led_some (b ∷ bs) h = refl

-- a read order counts nothing
read_counts : (k ms : ℕ) (ns : List ℕ) → counted_for k (read ms) ns ≡ ns
read_counts k ms [] = refl
read_counts zero ms (n ∷ ns) = refl
read_counts (suc k) ms (n ∷ ns) = ap (λ l. n ∷ l) (read_counts k ms ns)

pub read_books : (ms : ℕ) (b : Books) → book_order (read ms) b ≡ b
read_books ms b = ap (λ ns. record { opened = b.opened; padded = b.padded; caller = b.caller; counts = ns }) (read_counts b.caller ms b.counts)

-- a further packet is one
pub further_led : (P : Event → Type 0) → ((packet : List ℕ) → ack_led packet ≡ true → P (pkt packet)) → (e : Event) → is_further e ≡ true → P e
further_led P h ok f = not_both refl f
further_led P h bad f = not_both refl f
further_led P h (pkt packet) f = h packet f
further_led P h time f = not_both refl f
further_led P h fail f = not_both refl f
further_led P h late f = not_both refl f
further_led P h slept f = not_both refl f

-- a call that waits under its clock does so still
pub led_again : (code clock : ℕ) (rest : Rest) (e : Event) → eqb clock 0 ≡ false → is_further e ≡ true
    → progress (exchange (waiting code clock) rest) e ≡ pending (read clock) (exchange (waiting code clock) rest)
led_again code clock rest e z =
    further_led (λ e. progress (exchange (waiting code clock) rest) e ≡ pending (read clock) (exchange (waiting code clock) rest)) (λ packet f. rw (led_some packet f, f, z) refl) e

-- ---- every event leaves the command where its line says

module _ (xs : List Item) (u : unanswered xs ≡ true) where
  led-placed : (packet : List ℕ) (code clock : ℕ) (rest : Rest) → ack_led packet ≡ true → PlacedBy (accepted (pkt packet) ∷ xs) (after_exchange rest (after_ack code clock))
  led-placed packet code clock rest led =
      split (λ r. PlacedBy (accepted (pkt packet) ∷ xs) (after_exchange rest r)) (eqb clock 0) _ _
      (λ _. rw ack_is_ack tt)
      (λ z. rw (led, u) (record { code = code; clock = clock; rest = rest; runs = z; is = refl; asks = refl }))

  -- an event that may stand in the wait
  in-wait : (a : Bool) (phase : Phase) (e : Event) → acked xs ≡ a → At true a xs phase → allowed_between (accepted e) ≡ true → PlacedBy (accepted e ∷ xs) (progress phase e)
  in-wait false phase ok q (is_sent code clock rest p) h = rw (p, u, q) (is_read code clock rest refl)
  in-wait false phase ok q (is_read code clock rest p) h = rw p tt
  in-wait true phase ok q w h = rw w.is tt
  in-wait false phase (pkt packet) q (is_sent code clock rest p) h = rw p tt
  in-wait false phase (pkt packet) q (is_read code clock rest p) h = rw (p, led_some packet h, led_start packet h, h) (led-placed packet code clock rest h)
  in-wait true phase (pkt packet) q w h = rw (w.is, led_some packet h, h) (led-placed packet w.code w.clock w.rest h)
  in-wait a phase bad q w h = not_both refl h
  in-wait a phase time q w h = not_both refl h
  in-wait a phase fail q w h = not_both refl h
  in-wait a phase late q w h = not_both refl h
  in-wait a phase slept q w h = not_both refl h

pub event_placed : (xs : List Item) (phase : Phase) (e : Event) → Placed xs phase → PlacedBy (accepted e ∷ xs) (progress phase e)
event_placed xs phase e h = go (allowed_between (accepted e) && unanswered xs) refl
  where
    go : (t : Bool) → (allowed_between (accepted e) && unanswered xs) ≡ t → PlacedBy (accepted e ∷ xs) (progress phase e)
    go true p =
        let u = and_right (allowed_between (accepted e)) (unanswered xs) p in
        in-wait xs u (acked xs) phase e refl (subst (λ t. At t (acked xs) xs phase) u h) (and_left (allowed_between (accepted e)) (unanswered xs) p)
    go false p = result-placed (accepted e ∷ xs) (progress phase e) p (proper_progress phase e)

-- where the lines wait, the call does, and a further packet leaves it there
pub placed-waits : (xs : List Item) (phase : Phase) → Placed xs phase → waits xs ≡ true → Waits xs phase
placed-waits xs phase h w = subst₂ (λ u a. At u a xs phase) (and_left (unanswered xs) (acked xs) w) (and_right (unanswered xs) (acked xs) w) h

pub waits_again : (xs : List Item) (phase : Phase) (e : Event) (w : Waits xs phase) → is_further e ≡ true → progress phase e ≡ pending (read w.clock) phase
waits_again xs phase e w f = rw w.is (led_again w.code w.clock w.rest e w.runs f)
