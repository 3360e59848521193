-- No packet serves two commands. It follows from what `Serves` says, of any record.
use Rattle.std.specs.Prelude.{◌≡◌, List, ℕ, suc, ◌<◌, drop}
use Rattle.std.proofs.Common.{sym, ap, ◌∙◌, arith}
use Rattle.std.proofs.lemmas.Bool.{false≢true}
use Rattle.std.proofs.Math.Option.{Option, some}
use Rattle.std.proofs.Math.Decide.{dec_lt}
use Rattle.std.proofs.Math.ListN.{get_elem?}
use Rattle.exchange.specs.Exchange.{write, pkt}
use Rattle.exchange.specs.Packets.{command_frame}
use Rattle.protocol.specs.Record.{ordered, accepted, Record, lines_of, frames, line, RecordLine}
use Rattle.protocol.specs.Claim.{allowed_between, Between, Serves, Once}

-- a line is one line
same_line : (o : Option RecordLine) (x y : RecordLine) → o ≡ some x → o ≡ some y → x ≡ y
same_line o x y p q = cc

-- a write order may not stand between
no_write : (l : Record) (n m i : ℕ) (bytes : List ℕ) → get_elem? l i ≡ some (line n (ordered (write bytes))) → Between l m i → ⊥
no_write l n m i bytes w s =
    false≢true (ap (λ (z : RecordLine). allowed_between z.item) (same_line (get_elem? l i) _ _ w s.1) ∙ s.2)

-- of two commands that one packet serves neither was ordered before the other
module _ (l : Record) (n m j k : ℕ) (bs cs : List ℕ) (s : Serves l n j bs) (t : Serves l m k cs) (e : s.packet_line ≡ t.packet_line) where
  not_before : s.order_line < t.order_line → ⊥
  not_before h = no_write l n m s.order_line (command_frame s.code s.sent) s.written (t.between s.order_line (omega arith) h)

  not_after : t.order_line < s.order_line → ⊥
  not_after h = no_write l m n t.order_line (command_frame t.code t.sent) t.written (s.between t.order_line (omega arith) h)

pub once : (l : Record) → Once l
once l n m j k bs cs s t e =
    let a : get_elem? l s.packet_line ≡ some (line m (accepted (pkt t.received))) = ap (get_elem? l) e ∙ t.arrived in
    let p : n ≡ m = ap (λ (z : RecordLine). z.number) (same_line (get_elem? l s.packet_line) _ _ s.arrived a) in
    let o : s.order_line ≡ t.order_line = go (dec_lt s.order_line t.order_line) (dec_lt t.order_line s.order_line) in
    (p, sym s.ordinal ∙ ap (λ (i : ℕ). frames (lines_of i (drop (suc s.order_line) l))) p ∙ ap (λ (i : ℕ). frames (lines_of m (drop (suc i) l))) o ∙ t.ordinal)
  where
    go : Dec (s.order_line < t.order_line) → Dec (t.order_line < s.order_line) → s.order_line ≡ t.order_line
    go (yes h) d = absurd (not_before l n m j k bs cs s t e h)
    go (no g) (yes h) = absurd (not_after l n m j k bs cs s t e h)
    go (no g) (no h) = omega arith
