-- A start that depends on a bitrate: malformed, or not supported by the call, gives 5.
use Rattle.std.specs.Prelude.{◌≡◌, refl, Bool, true, false, cond, List, ℕ, Result, Err}
use Rattle.std.proofs.Common.{ap, arith}
use Rattle.std.proofs.Math.Option.{Option}
use Rattle.errors.specs.declared.Refusal.{Refusal}
use Rattle.errors.specs.declared.Refusal.TheVariants.{OutOfTurn, ShortBuffer, OverLong, BadArgument, Bitrate as BadBitrate, NotSendable}
use Rattle.errors.specs.Refusals.{answered, refused, numbered}
use Rattle.targets.specs.Bitrates.{Choice, chosen, no_code_of, choice_of, choice_on, send_part_of, send_length, is_bitrate, coded, by_bitrate, code_or}
use Rattle.targets.specs.declared.Bitrate.{Bitrate}
use Rattle.stages.specs.Starts.{Start, refuses, Starts, starts_refused}

-- the code by which a call names the bitrate to the chip
unfoldable pub code_for : (Bitrate → Option ℕ) → List ℕ → (ℕ → Start) → Start
code_for takes text f = code_or (refuses BadBitrate) takes text f

-- ---- laws

-- of refusals, 5 is the one of a bitrate
bitrate_only : (e : Refusal) → (numbered e).number ≡ 5 → e ≡ BadBitrate
bitrate_only OutOfTurn h = absurd (omega (arith, h))
bitrate_only ShortBuffer h = absurd (omega (arith, h))
bitrate_only OverLong h = absurd (omega (arith, h))
bitrate_only BadArgument h = absurd (omega (arith, h))
bitrate_only BadBitrate h = refl
bitrate_only NotSendable h = absurd (omega (arith, h))

abbrev refusal_number : Choice → ℕ
refusal_number (chosen b) = 0
refusal_number (no_code_of e) = e.number

module _ (t : List ℕ) (c : Result Bitrate Refusal) (f : Bitrate → Start) (read : coded c ≡ choice_of t) where
  -- the refusal of a bitrate, passed on
  pub rate_passed : (e : Refusal) (k : List ℕ) → c ≡ Err e → Starts (Err e) k k (by_bitrate (refuses BadBitrate) (choice_of t) f)
  unfolding choice_of send_part_of
  rate_passed e k h =
      let r : no_code_of (numbered e) ≡ choice_of t = rw h at read in
      let five : (numbered e).number ≡ 5 = go (is_bitrate t) r in
      rw (← r, bitrate_only e five) (starts_refused BadBitrate k)
    where
      go : (b : Bool) → no_code_of (numbered e) ≡ choice_on t (cond b (answered (send_length t)) (refused (numbered BadBitrate))) → (numbered e).number ≡ 5
      go true q = absurd (let z : ◌≡◌ {A = ℕ} 0 1 = cc in omega arith)
      go false q = ap refusal_number q
