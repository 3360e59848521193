-- Two chips that do alike, such as a definition and the code that follows it: a reader's run against the one is its run against the other.
use Rattle.std.specs.Prelude.{◌≡◌, refl, List, ◌++◌, ℕ, zero, suc}
use Rattle.std.proofs.Common.{ap₂, ◌∙◌}
use Rattle.exchange.specs.Exchange.{write, read, drain, pause, Event}
use Rattle.protocol.specs.Session.{Output, orders, answers, rejects}
use Rattle.protocol.specs.Machine.{Machine}
use Rattle.chip_protocol.specs.Channel.{Chip, Channel, channel, event_for, channel_after, End, end, run, call_run}

-- each state of D stands for one of C; for all bytes that the host writes, both send the same packets, and the states then stand for each other
pub record Alike (D C : Chip) : Type 0 where
  pub state : D.State → C.State
  pub packets : (s : D.State) (written : List ℕ) → D.packets s written ≡ C.packets (state s) written
  pub next : (s : D.State) (written : List ℕ) → state (D.next s written) ≡ C.next (state s) written

abbrev pub itself : (C : Chip) → Alike C C
itself C = record { state = λ s. s; packets = λ s written. refl; next = λ s written. refl }

module _ (D C : Chip) (a : Alike D C) where
  abbrev pub on_channel : Channel D → Channel C
  on_channel l = channel C (a.state l.chip) l.unread

  module _ (M : Machine) (give : ℕ → Event → M.Input) where
    abbrev pub on_end : End M D give → End M C give
    on_end e = end M C give e.state (on_channel e.channel) e.output e.left

    pub alike_run : (n : ℕ) (s : M.State) (l : Channel D) (out : Output ℕ) → on_end (run M D give n s l out) ≡ run M C give n s (on_channel l) out
    alike_run zero s l out = refl
    alike_run (suc n) s l (answers x) = refl
    alike_run (suc n) s l (rejects x) = refl
    alike_run (suc n) s l (orders (write bytes)) =
        let i : M.Input = give n (event_for D l (write bytes)) in
        alike_run n (M.act s i).state (channel_after D l (write bytes)) (M.act s i).output
        ∙ ap₂ (λ (t : C.State) (q : List (List ℕ)). run M C give n (M.act s i).state (channel C t (l.unread ++ q)) (M.act s i).output)
        (a.next l.chip bytes) (a.packets l.chip bytes)
    alike_run (suc n) s l (orders (read ms)) =
        let i : M.Input = give n (event_for D l (read ms)) in
        alike_run n (M.act s i).state (channel_after D l (read ms)) (M.act s i).output
    alike_run (suc n) s l (orders drain) =
        let i : M.Input = give n (event_for D l drain) in
        alike_run n (M.act s i).state (channel_after D l drain) (M.act s i).output
    alike_run (suc n) s l (orders (pause us)) =
        let i : M.Input = give n (event_for D l (pause us)) in
        alike_run n (M.act s i).state (channel_after D l (pause us)) (M.act s i).output

    -- a call, and then so many events
    pub alike_call : (n : ℕ) (s : M.State) (l : Channel D) (i : M.Input) → on_end (call_run M D give n s l i) ≡ call_run M C give n s (on_channel l) i
    alike_call n s l i = alike_run n (M.act s i).state l (M.act s i).output
