-- A line of the unread bytes, and a line that is read on.
use mathlib.Core.Path.{◌≡◌, refl, sym, ap, ◌∙◌}
use mathlib.Core.List.{List, [], ◌++◌, append_assoc, append-nil}
use Prim.Native.Nat.{ℕ, suc, ◌+◌, ◌-◌, ◌≤◌, ◌<◌}
use native.Mathlib.Omega.{arith}
use lib.ListN.{length, take, drop}
use lib.Seq.{slice, take_all, length-take-le, length-slice}
use Rattle.octets.specs.Bytes.{index_of}
use Rattle.std.specs.Prelude.{Option, Some}
use Rattle.bench.specs.Lines.{counted_line, before_feed, NoFeed, Begun, line_of, last_of, unread_of, unread_in, next_of, unread_line, NextLine}
use Rattle.bench.specs.LineLaws.{none_before, none_both, begun_none, line_begun, ended, input_ended, unread_inside, unread_nothing, unread_behind, part_slice}
use Rattle.bench.specs.declared.lines.Given.{Given}
use Rattle.bench.specs.declared.lines.Unread.{Unread}
use Rattle.bench.specs.declared.lines.Line.{Line}

-- Behind the text t all that came was put, and has no line feed.
pub record Sofar (t l : List ℕ) (n : Option ℕ) (m : List ℕ) : Type 0 where
  pub came : List ℕ
  pub none : NoFeed (t ++ came)
  pub begun : Begun (t ++ came) l n m

pub sofar_none : (t l m : List ℕ) (n : Option ℕ) → NoFeed t → Begun t l n m → Sofar t l n m
sofar_none t l m n none b = record { came = []; none = rw (append-nil t) none; begun = rw (append-nil t) b }

module _ (t l m : List ℕ) (n : Option ℕ) (s : Sofar t l n m) where
  -- nothing more came
  pub sofar_last : (g : Given) (b : List ℕ) → g ≡ last_of n → NextLine t l g.line m (unread_in g.unread b)
  sofar_last g b e =
      input_ended t s.came l m (unread_in g.unread b) n g.line s.none s.begun (ap (λ x. x.line) e) (ap (λ x. unread_in x.unread b) e ∙ unread_nothing b)

  -- `to` bytes came into the buffer b, and k of them were added
  module _ (b o : List ℕ) (to k : ℕ) (r : Option ℕ) (inside : to ≤ length b) (is : k ≡ before_feed (take to b))
      (added : (t l : List ℕ) → Begun t l n m → Begun (t ++ take k (take to b)) l r o) where
    long : length (take to b) ≡ to
    long = length-take-le to b inside

    pub sofar_more : to ≤ k → Sofar t l r o
    sofar_more h =
        let e : take k (take to b) ≡ take to b = take_all k (take to b) (omega (arith, long)) in
        let f : t ++ s.came ++ take k (take to b) ≡ t ++ (s.came ++ take to b) = rw e (append_assoc t s.came (take to b)) in
        record {
          came = s.came ++ take to b;
          none = rw (← f) (none_both (t ++ s.came) (take k (take to b)) s.none (rw is (none_before (take to b))));
          begun = rw (← f) (added (t ++ s.came) l s.begun);
        }

    pub sofar_fed : k < to → (u : Line) → u ≡ counted_line r → NextLine t l u o (unread_in (record { from = k + 1; to = to }) b)
    sofar_fed h u known =
        ended t (s.came ++ take to b) (t ++ s.came) (take to b) l o (unread_in (record { from = k + 1; to = to }) b) k r u
        (sym (append_assoc t s.came (take to b))) s.none is (omega (arith, long)) (added (t ++ s.came) l s.begun) known
        (unread_behind b (k + 1) 0 to k (omega arith) (omega arith) inside)

-- the unread bytes of the buffer b, of which the first k were put into l
module _ (h r : Unread) (b l m : List ℕ) (k : ℕ) (n : Option ℕ) (there : r ≡ unread_of h (length b)) where
  abbrev part : List ℕ
  part = take (r.to - r.from) (drop r.from b)

  part-unread : part ≡ unread_in h b
  unfolding unread_in
  part-unread = part_slice b r.from r.to ∙ ap (λ x. slice x.from x.to b) there

  module _ (is : k ≡ before_feed part) (added : (t l₁ : List ℕ) → Begun t l₁ (Some 0) l → Begun (t ++ take k part) l₁ n m) where
    put : Begun (take k part) l n m
    put = added [] l (begun_none l)

    -- they end with a line feed
    module _ (u : Line) (f : ℕ) (less : k < length part) (known : u ≡ counted_line n) (behind : f ≡ r.from + k + 1) where
      pub unread_fed : NextLine (unread_in h b) l u m (unread_in (record { from = f; to = r.to }) b)
      unfolding index_of
      unread_fed =
          let inside : r.to ≤ length b = unread_inside h r (length b) there in
          let long : length part ≡ r.to - r.from = ap length (part_slice b r.from r.to) ∙ length-slice r.from r.to b inside in
          ended (unread_in h b) [] [] part l m (unread_in (record { from = f; to = r.to }) b) k n u (append-nil (unread_in h b) ∙ sym part-unread) refl is less put known
          (unread_behind b f r.from r.to k (omega arith) (omega arith) inside ∙ ap (drop (suc k)) (sym (part_slice b r.from r.to)))

      pub unread_line_lem : next_of (record { line = u; unread = record { from = f; to = r.to } }) b m ≡ unread_line h b l
      unfolding unread_line
      unread_line_lem =
          let long : length (take k part) ≡ k = length-take-le k part (omega arith) in
          let t : u ≡ line_of k l = known ∙ line_begun (take k part) l m n put ∙ ap (λ x. line_of x l) long in
          rw (← part-unread, ← is, ← there, t, behind, put.put)

    -- they are all the unread bytes
    module _ (all : length part ≤ k) where
      pub unread_none : NoFeed (unread_in h b)
      unread_none =
          let none : NoFeed (take k part) = rw is (none_before part) in
          rw (← part-unread) (rw (take_all k part all) at none)

      pub unread_put : Begun (unread_in h b) l n m
      unread_put = rw (← part-unread) (rw (take_all k part all) at put)
