-- Laws of what is decided.
use Rattle.std.specs.Prelude.{◌≡◌, Bool, true, false, List, [], ◌∷◌, ◌++◌, ℕ, ◌-◌, ◌≤◌, ◌<◌, eqb, ltb, length, take, drop, get_or}
use Rattle.std.proofs.Common.{arith, lt-ltb, le-ltb, length-drop, take_all}
use Rattle.std.proofs.Math.Seq.{drop-length}
use Rattle.errors.specs.Choice.{pick}
use Rattle.errors.specs.declared.Fault.TheVariants.{ShortResponse}
use Rattle.protocol.specs.Names.{pmm_end}
use Rattle.protocol.specs.Scripts.{nothing}
use Rattle.stages.specs.Stages.{refuse, ends, with_length}
use Rattle.stages.specs.Stages as stages
use Rattle.stages.specs.Decided.{Lays, DecisionRefines}
use Rattle.stages.specs.Laws.{decision_refused}
use Rattle.stages.specs.declared.Decision.{Decision}
use Rattle.stages.specs.declared.Decision.TheVariants.{Refused}
use Rattle.stages.specs.declared.Layout.{Layout}
use Rattle.discovery.specs.Decisions.{by_target, sens_res, iso_dep_of, no_partner_of}

-- two bytes of a list, and nothing of it behind them
pub lays_sens_res : (f l : List ℕ) (r : Layout) → 4 ≤ length l → Lays f l r (get_or l 3 0 ∷ get_or l 2 0 ∷ drop (length l) l) → Lays f l r (sens_res l)
unfolding sens_res pick
lays_sens_res f l r h k = rw (le-ltb (length l) 4 h) (rw (drop-length l) at k)

pub lays_no_sens_res : (f l : List ℕ) (r : Layout) → length l < 4 → Lays f l r [] → Lays f l r (sens_res l)
unfolding sens_res pick
lays_no_sens_res f l r h k = rw (lt-ltb (length l) 4 h) k

-- a list of which two bytes are enough
pub two_enough : (f b : List ℕ) (r : Decision) (x y : stages.Decision) (l : List ℕ) → DecisionRefines f b r (by_target 2 x y l) → DecisionRefines f b r (pick (eqb (get_or l 0 0) 0) x (with_length l 2 y))
unfolding by_target with_length pick
two_enough f b r x y l = go (eqb (get_or l 0 0) 0) (ltb (length l) 2)
  where
    go : (t u : Bool) → DecisionRefines f b r (pick t x (pick u (refuse ShortResponse) (pick u (ends nothing) y))) → DecisionRefines f b r (pick t x (pick u (refuse ShortResponse) y))
    go true u h = h
    go false true h = h
    go false false h = h

-- two found bytes and the RID reply
pub lays_rid : (f b : List ℕ) (r : Layout) → Lays f b r (take 2 f ++ take (length b - 1) (drop 1 b)) → Lays f b r (take 2 f ++ drop 1 b)
lays_rid f b r k =
    let l : length (drop 1 b) ≤ length b - 1 = rw (length-drop 1 b) (omega arith) in
    rw (take_all (length b - 1) (drop 1 b) l) at k

-- a status that a call answered
pub decision_partner : (f b : List ℕ) (r : Decision) (s x : ℕ) → s ≡ x → DecisionRefines f b r (no_partner_of s) → DecisionRefines f b r (no_partner_of x)
decision_partner f b r s x e d = rw (← e) d

-- an AFI that a call answered
pub same_afi : (f b : List ℕ) (r : Decision) (p x y : ℕ) → x ≡ y → DecisionRefines f b r (iso_dep_of p x) → DecisionRefines f b r (iso_dep_of p y)
same_afi f b r p x y e d = rw (← e) d

-- under pmm_end bytes, and so perhaps under 2
pub short_either : (f b l : List ℕ) (d : stages.Decision) → length l < pmm_end
    → DecisionRefines f b (Refused ShortResponse) (with_length l 2 (with_length l pmm_end d))
unfolding with_length pick
short_either f b l d h = go (ltb (length l) 2)
  where
    go : (t : Bool) → DecisionRefines f b (Refused ShortResponse) (pick t (refuse ShortResponse) (pick (ltb (length l) pmm_end) (refuse ShortResponse) d))
    go true = decision_refused f b ShortResponse
    go false = rw (lt-ltb (length l) pmm_end h) (decision_refused f b ShortResponse)

pub not_short : (l : List ℕ) → pmm_end ≤ length l → ltb (length l) 2 ≡ false
not_short l h = le-ltb (length l) 2 (omega arith)
