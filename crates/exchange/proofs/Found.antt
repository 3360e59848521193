-- What a frame that was found in a packet says of the packet's reply.
use Rattle.std.specs.Prelude.{◌≡◌, refl, ◌≢◌, ℕ, List, length, take, drop, Option, Some, None, Result, MatchResult}
use Rattle.std.specs.Result.{IsErrAnd}
use Rattle.std.proofs.Common.{Bor, sym, ap, subst, ◌∙◌, eq-eqb, ne_eqb}
use Rattle.std.proofs.lemmas.Result.{err_from_is_err_and}
use Rattle.errors.specs.declared.Fault.{Fault}
use Rattle.errors.specs.declared.Fault.TheVariants.{BrokenFrame, Length, FrameKind}
use Rattle.framing.specs.Parse.{parse_of}
use Rattle.framing.specs.Settings.{rcs956}
use Rattle.framing.specs.declared.FrameFormat.{FrameFormat}
use Rattle.framing.specs.declared.FrameType.{FrameType}
use Rattle.framing.specs.declared.FrameType.TheVariants.{Ack, Error, Data}
use Rattle.exchange.specs.Packets.{failed, frame_reply, reply_of}
use Rattle.exchange.specs.Spans.{frame_length, payload_fault, fault_of}
use Rattle.exchange.specs.Responses.{Fills, Unfilled, Responds, Fails, not_response}

module _ (p : List ℕ) (f : FrameFormat) (x : Option FrameType) (format : f ≡ rcs956) (parsed : x ≡ parse_of f p) where
  pub no_frame : ((y : FrameType) → x ≡ Some y → ⊥) → Unfilled p BrokenFrame
  unfolding reply_of
  no_frame h code = rw (← format, ← parsed) (go x h)
    where
      go : (z : Option FrameType) → ((y : FrameType) → z ≡ Some y → ⊥) → frame_reply code p z ≡ failed BrokenFrame
      go None k = refl
      go (Some y) k = absurd (k y refl)

  module _ (y : FrameType) (is : x ≡ Some y) (l : ℕ) (known : l ≡ frame_length y) where
    at_once : (code : ℕ) (fault : Fault) → frame_reply code p (Some y) ≡ failed fault → reply_of code p ≡ failed fault
    unfolding reply_of
    at_once code fault e = rw (← format, ← parsed, is) e

    pub not_filled : (l ≢ length p) → Unfilled p Length
    not_filled h code = at_once code Length (go y (λ e. h (known ∙ e)))
      where
        go : (y : FrameType) → (frame_length y ≢ length p) → frame_reply code p (Some y) ≡ failed Length
        go (Ack m) k = rw (ne_eqb m (length p) k)
        go (Error m) k = rw (ne_eqb m (length p) k)
        go (Data s n m) k = rw (ne_eqb m (length p) k)

    module _ (full : l ≡ length p) where
      pub no_data : ((s n m : ℕ) → y ≡ Data s n m → ⊥) → Unfilled p FrameKind
      no_data h code = at_once code FrameKind (go y h (sym known ∙ full))
        where
          go : (y : FrameType) → ((s n m : ℕ) → y ≡ Data s n m → ⊥) → frame_length y ≡ length p → frame_reply code p (Some y) ≡ failed FrameKind
          go (Ack m) k e = rw (eq-eqb m (length p) e)
          go (Error m) k e = rw (eq-eqb m (length p) e)
          go (Data s n m) k e = absurd (k s n m refl)

      pub filled : (s n m : ℕ) → y ≡ Data s n m → Fills p (take n (drop s p))
      filled s n m e =
          let whole : m ≡ length p = sym (ap frame_length e) ∙ sym known ∙ full in
          record { start = s; len = n; frame = rw (← format, ← parsed, is, e, whole); is = refl }

-- a fault that is passed on
pub fails_too : (code : ℕ) (p : List ℕ) (fault : Fault) (r : Result (Bor (List ℕ)) Fault) → IsErrAnd r (λ e. e ≡ fault) → reply_of code p ≡ failed fault
    → MatchResult r (λ payload. Responds code p payload.now) (Fails code p)
fails_too code p fault r h e = let w = err_from_is_err_and r h in rw w.1 (subst (Fails code p) (sym w.2) (not_response code p fault e))

-- the fault of a packet by itself
pub unfilled-fault : (p : List ℕ) (fault : Fault) → Unfilled p fault → fault ≡ fault_of p
unfilled-fault p fault h = (not_response 0 p fault (h 0)).first

pub filled-fault : (p l : List ℕ) (fault : Fault) → Fills p l → fault ≡ payload_fault l → fault ≡ fault_of p
unfolding fault_of
filled-fault p l fault h e = e ∙ rw (h.frame, eq-eqb (length p) (length p) refl, ← h.is)
