-- Runs with any number of idle reads, from one test that computes: further ACK-led packets in the wait of a command, by N11's pairs.
use Rattle.std.specs.Prelude.{◌≡◌, refl, true, List, [], ◌∷◌, ◌++◌, map, ℕ, zero, suc, ◌+◌, length, replicate}
use Rattle.std.proofs.Common.{sym, ap, ◌∙◌, arith}
use Rattle.std.proofs.lemmas.Bool.{false≢true}
use Rattle.framing.specs.Frames.{ack}
use Rattle.exchange.specs.Exchange.{Order, read, Event, pkt}
use Rattle.protocol.specs.Scripts.{Byte}
use Rattle.protocol.specs.Session.{Session, call, Output, orders, answers, rejects, buffer_need, step, outputs, session_after}
use Rattle.protocol.specs.Record.{events, idle_reads}
use Rattle.protocol.specs.Runs.{event_with, event_entry, call_entries, lines_from}
use Rattle.protocol.proofs.RunLaws.{outputs-append}
use Rattle.protocol.specs.ChatterPairs.{acks}
use Rattle.protocol.proofs.ChatterPairs.{bare_acks, any-length, further_orders}
use Rattle.slowest_call.specs.Question.{is_order, ends_at_last, Slow, roomy, with_acks, IsRun}
use Rattle.slowest_call.specs.Runs.{is_some, slow_facts, slow_by}

-- ---- the run with k idle reads more

with_acks_lem : (es : List Event) (k : ℕ) (ds : List Event) → roomy (es ++ with_acks k ds) ≡ roomy es ++ (acks k ++ roomy ds)
with_acks_lem [] zero ds = refl
with_acks_lem [] (suc k) ds = ap (λ es. event_with (pkt ack) buffer_need ∷ es) (with_acks_lem [] k ds)
with_acks_lem (e ∷ es) k ds = ap (λ es. event_with e buffer_need ∷ es) (with_acks_lem es k ds)

first_order : (out : Output Byte) → is_order out ≡ true → (x : Order) × (out ≡ orders x)
first_order (orders x) h = (x, refl)
first_order (answers a) h = absurd (false≢true h)
first_order (rejects r) h = absurd (false≢true h)

-- what stands before another output are orders
end-behind : (xs : List (Output Byte)) (out : Output Byte) (ys zs : List (Output Byte)) → ends_at_last (xs ++ (out ∷ ys)) ≡ true → ends_at_last (xs ++ zs) ≡ ends_at_last zs
end-behind [] out ys zs h = refl
end-behind (orders x ∷ xs) out ys zs h = end-behind xs out ys zs h
end-behind (answers a ∷ []) out ys zs h = absurd (false≢true h)
end-behind (answers a ∷ (x ∷ xs)) out ys zs h = absurd (false≢true h)
end-behind (rejects r ∷ xs) out ys zs h = absurd (false≢true h)

orders_first : (n : ℕ) (x : Order) (ys : List (Output Byte)) → ends_at_last (replicate n (orders x) ++ ys) ≡ ends_at_last ys
orders_first zero x ys = refl
orders_first (suc n) x ys = orders_first n x ys

end_later : (n : ℕ) (x : Order) (xs : List (Output Byte)) (s : Session) (ds : List Event) → is_some ds ≡ true
    → ends_at_last (xs ++ outputs s (map event_entry (roomy ds))) ≡ true → ends_at_last (xs ++ (replicate n (orders x) ++ outputs s (map event_entry (roomy ds)))) ≡ true
end_later n x xs s [] l h = absurd (false≢true l)
end_later n x xs s (d ∷ ds) l h =
    let ys = outputs s (map event_entry (roomy (d ∷ ds))) in
    end-behind xs _ _ (replicate n (orders x) ++ ys) h ∙ orders_first n x ys ∙ sym (end-behind xs _ _ ys h) ∙ h

-- the theorem: a run that passes the test has one as long with k idle reads more, and k events more
pub is_run : (s : Session) (w : Slow) (n k : ℕ) → slow_facts s w ≡ slow_by n → IsRun s w k (n + k)
is_run s w n k h =
    let c = w.call in
    let es = roomy w.before in
    let ds = roomy w.behind in
    let same = with_acks_lem w.before k w.behind in
    let here = ap (λ f. f.waits) h in
    let pair = any-length s 0 c buffer_need es here k ds in
    let more = further_orders s 0 c buffer_need es (acks k) ds here (bare_acks _ k) in
    let o = first_order (step s (call 0 c buffer_need)).output (ap (λ f. f.accepted) h) in
    let joined = ap (λ outs. (step s (call 0 c buffer_need)).output ∷ outs) (outputs-append es ds (step s (call 0 c buffer_need)).state) in
    record {
      accepted = record { order = o.0; given = o.1 };
      ended =
          ap (λ es. ends_at_last (outputs s (call_entries 0 c buffer_need es))) same ∙ ap ends_at_last more.1
          ∙ end_later (length (acks k)) (read more.0) (outputs s (call_entries 0 c buffer_need es)) (session_after s (call_entries 0 c buffer_need es)) w.behind (ap (λ f. f.left) h)
          (sym (ap ends_at_last joined) ∙ ap (λ f. f.ended) h);
      idle_reads = ap (λ es. idle_reads (lines_from s 0 c buffer_need es)) same ∙ pair.idles ∙ omega (arith, ap (λ f. f.idle) h);
      length = ap (λ es. events (lines_from s 0 c buffer_need es)) same ∙ pair.more ∙ omega (arith, ap (λ f. f.all) h);
    }
