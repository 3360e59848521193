-- What the chip's end reads in the bytes that a host wrote: the code and the data of a command, where its frame fills them.
use Rattle.std.specs.Prelude.{◌≡◌, ℕ, ◌-◌, List, [], ◌∷◌, length, take, drop, ◌==◌, ◌≢◌, slice_index, refl, Option, Some, None}
use Rattle.std.proofs.Math.Path.{ap}
use Rattle.std.proofs.Common.{◌∙◌, arith, length-drop, take_all}
use borrow.Author.Tests.{eq-eqb, ne_eqb}
use Rattle.errors.specs.Choice.{pick}
use Rattle.framing.specs.Names.{host_to_controller}
use Rattle.framing.specs.Parse.{parse_of, payload_of}
use Rattle.framing.specs.Settings.{rcs956}
use Rattle.framing.specs.declared.FrameFormat.{FrameFormat}
use Rattle.framing.specs.declared.FrameType.{FrameType}
use Rattle.framing.specs.declared.FrameType.TheVariants.{Ack, Error, Data}

-- what follows D4
unfoldable pub behind_direction_of : List ℕ → List ℕ
behind_direction_of payload = pick (slice_index payload 0 == host_to_controller) (drop 1 payload) []

abbrev pub command_at : List ℕ → Option FrameType → List ℕ
command_at p (Some (Ack n)) = []
command_at p (Some (Error n)) = []
command_at p (Some (Data start len n)) = pick (n == length p) (behind_direction_of (payload_of (Some (Data start len n)) p)) []
command_at p None = []

-- code and data; nothing where the bytes are no frame, one that does not fill them, one of another direction, or one without a code
unfoldable pub command_in : List ℕ → List ℕ
command_in p = command_at p (parse_of rcs956 p)

-- the three ways of what follows D4
pub behind_none : (q : List ℕ) → length q ≡ 0 → [] ≡ behind_direction_of q
unfolding behind_direction_of pick
behind_none [] h = refl
behind_none (b ∷ q) h = absurd (omega arith)

pub behind-other : (q : List ℕ) → (slice_index q 0 ≢ host_to_controller) → [] ≡ behind_direction_of q
unfolding behind_direction_of pick
behind-other q h = rw (ne_eqb (slice_index q 0) host_to_controller h)

pub behind-host : (q : List ℕ) → slice_index q 0 ≡ host_to_controller → take (length q - 1) (drop 1 q) ≡ behind_direction_of q
unfolding behind_direction_of pick
behind-host q h = rw (eq-eqb (slice_index q 0) host_to_controller h) (take_all (length q - 1) (drop 1 q) (rw (length-drop 1 q) (omega arith)))

-- what was found in the bytes says what the command is
module _ (p l : List ℕ) (f : FrameFormat) (x : Option FrameType) (rcs : f ≡ rcs956) (parsed : x ≡ parse_of f p) where
  here : l ≡ command_at p x → l ≡ command_in p
  unfolding command_in
  here e = e ∙ ap (command_at p) (parsed ∙ ap (λ (g : FrameFormat). parse_of g p) rcs)

  pub command_filling : (start len n : ℕ) → x ≡ Some (Data start len n) → n ≡ length p → (q : List ℕ) → q ≡ payload_of (Some (Data start len n)) p → l ≡ behind_direction_of q → l ≡ command_in p
  unfolding pick
  command_filling start len n e h q part r =
      here (r ∙ ap behind_direction_of part ∙ rw (e, eq-eqb n (length p) h))

  pub command_not_filling : (start len n : ℕ) → x ≡ Some (Data start len n) → (n ≢ length p) → l ≡ [] → l ≡ command_in p
  unfolding pick
  command_not_filling start len n e h r = here (r ∙ rw (e, ne_eqb n (length p) h))

  pub command_ack : (n : ℕ) → x ≡ Some (Ack n) → l ≡ [] → l ≡ command_in p
  command_ack n e r = here (r ∙ rw e)

  pub command_error : (n : ℕ) → x ≡ Some (Error n) → l ≡ [] → l ≡ command_in p
  command_error n e r = here (r ∙ rw e)

  pub command_nothing : x ≡ None → l ≡ [] → l ≡ command_in p
  command_nothing e r = here (r ∙ rw e)
