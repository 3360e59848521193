-- How a call starts.
use Rattle.std.specs.Prelude.{◌≡◌, Bool, List, ℕ, ◌≤◌, ◌<◌, length, Result, Ok, Err}
use Rattle.std.proofs.Math.Path.{refl}
use Rattle.std.proofs.Math.Bool.{true, false}
use Rattle.std.proofs.Common.{arith}
use borrow.Author.Tests.{le-ltb, ltb-true, ltb-false}
use Rattle.std.proofs.Math.Dec.{ltb}
use Rattle.errors.specs.Choice.{pick}
use Rattle.errors.specs.declared.Refusal.{Refusal}
use Rattle.errors.specs.declared.Refusal.TheVariants.{OverLong, BadArgument}
use Rattle.protocol.specs.Starts.{data_limit}
use Rattle.stages.specs.Put.{Puts, Joins}
use Rattle.stages.specs.Stages.{Command, cmd}
use Rattle.stages.specs.declared.start.First.{First}
use Rattle.stages.specs.declared.start.Start as code
use Rattle.stages.specs.declared.start.Start.TheVariants as variants

-- refused at once; the kind of the call and its first command, whose data become the pending command; or a kind, whose stage 0 has the first
-- command, and bytes that become the pending command
pub data Start : Type 0 where
  refuses : Refusal → Start
  sends : ℕ → Command → Start
  staged : ℕ → List ℕ → Start

-- command data of at most 512 bytes, else 3; what the Rust asserts, else 4
unfoldable pub limited : ℕ → Command → Start
limited kind c = pick (ltb data_limit (length c.bytes)) (refuses OverLong) (sends kind c)

unfoldable pub staged_limited : ℕ → List ℕ → Start
staged_limited kind bytes = pick (ltb data_limit (length bytes)) (refuses OverLong) (staged kind bytes)

unfoldable pub asserted : Bool → Start → Start
asserted t s = pick t s (refuses BadArgument)

-- ---- what the code's starts say

-- the start, with the array of the pending command before and after it
pub data Starts : Result code.Start Refusal → List ℕ → List ℕ → Start → Type 0 where
  starts_refused : (r : Refusal) (c : List ℕ) → Starts (Err r) c c (refuses r)
  starts_command : (f : First) (c₀ c₁ l : List ℕ) → length l ≤ data_limit → Puts c₁ f.len l c₀
      → Starts (Ok (variants.Command f)) c₀ c₁ (sends f.kind (cmd f.code f.clock l))
  starts_staged : (kind n : ℕ) (c₀ c₁ l : List ℕ) → length l ≤ data_limit → Puts c₁ n l c₀ → Starts (Ok (variants.Staged kind n)) c₀ c₁ (staged kind l)

-- what is put by is within the limit
abbrev pub StartFits : Result code.Start Refusal → Type 0
StartFits (Ok (variants.Command f)) = f.len ≤ data_limit
StartFits (Ok (variants.Staged kind n)) = n ≤ data_limit
StartFits (Err r) = Unit

-- ---- laws

pub starts_fit : {r : Result code.Start Refusal} {c₀ c₁ : List ℕ} {s : Start} → Starts r c₀ c₁ s → StartFits r
starts_fit (starts_refused r c) = tt
starts_fit (starts_command f c₀ c₁ l h p) = omega (arith, p.count)
starts_fit (starts_staged kind n c₀ c₁ l h p) = omega (arith, p.count)

module _ (r : Result code.Start Refusal) (c₀ c₁ : List ℕ) (a b : Start) (t : Bool) where
  pub starts_true : t ≡ true → Starts r c₀ c₁ a → Starts r c₀ c₁ (pick t a b)
  unfolding pick
  starts_true h e = rw h e

  pub starts_false : t ≡ false → Starts r c₀ c₁ b → Starts r c₀ c₁ (pick t a b)
  unfolding pick
  starts_false h e = rw h e

-- refused at once where a test fails
pub starts_not : (r : Refusal) (c : List ℕ) (t : Bool) (s : Start) → t ≡ false → Starts (Err r) c c (pick t s (refuses r))
unfolding pick
starts_not r c t s h = rw h (starts_refused r c)

-- within the limit or over it, as the bytes were put
module _ (n : ℕ) (c₀ c₁ l : List ℕ) (h : Joins n c₀ c₁ l) where
  pub over-limit : data_limit < n → (s : Start) → Starts (Err OverLong) c₀ c₁ (pick (ltb data_limit (length l)) (refuses OverLong) s)
  unfolding pick
  over-limit k s = go (ltb data_limit (length l)) refl
    where
      go : (t : Bool) → ltb data_limit (length l) ≡ t → Starts (Err OverLong) c₀ c₁ (pick t (refuses OverLong) s)
      go true e = rw (h.over (ltb-true data_limit (length l) e)).1 (starts_refused OverLong c₀)
      go false e = let m = ltb-false data_limit (length l) e in absurd (omega (arith, m, (h.within m).count))

  pub within_limit : n ≤ data_limit → (r : Result code.Start Refusal) (s : Start) → (length l ≤ data_limit → Puts c₁ n l c₀ → Starts r c₀ c₁ s)
      → Starts r c₀ c₁ (pick (ltb data_limit (length l)) (refuses OverLong) s)
  unfolding pick
  within_limit k r s f = go (ltb data_limit (length l)) refl
    where
      go : (t : Bool) → ltb data_limit (length l) ≡ t → Starts r c₀ c₁ (pick t (refuses OverLong) s)
      go true e = absurd (omega (arith, (h.over (ltb-true data_limit (length l) e)).0))
      go false e = let m = ltb-false data_limit (length l) e in f m (h.within m)

module _ (r : Result code.Start Refusal) (c₀ c₁ : List ℕ) where
  -- data within the limit is sent
  pub short_command : (kind : ℕ) (c : Command) → length c.bytes ≤ data_limit → Starts r c₀ c₁ (limited kind c) → Starts r c₀ c₁ (sends kind c)
  unfolding limited pick
  short_command kind c h e = rw (le-ltb data_limit (length c.bytes) h) at e

  pub short_staged : (kind : ℕ) (l : List ℕ) → length l ≤ data_limit → Starts r c₀ c₁ (staged_limited kind l) → Starts r c₀ c₁ (staged kind l)
  unfolding staged_limited pick
  short_staged kind l h e = rw (le-ltb data_limit (length l) h) at e

  -- the same data, put together otherwise
  pub same_command : (kind code clock : ℕ) (l m : List ℕ) → l ≡ m → Starts r c₀ c₁ (limited kind (cmd code clock l)) → Starts r c₀ c₁ (limited kind (cmd code clock m))
  same_command kind code clock l m e h = rw (← e) h

  pub same_staged : (kind : ℕ) (l m : List ℕ) → l ≡ m → Starts r c₀ c₁ (staged_limited kind l) → Starts r c₀ c₁ (staged_limited kind m)
  same_staged kind l m e h = rw (← e) h

-- a start of a command, and one of stages, as the code's variant gives
pub record Commanded (f : First) (c₀ c₁ : List ℕ) (s : Start) : Type 0 where
  pub bytes : List ℕ
  pub few : length bytes ≤ data_limit
  pub is : s ≡ sends f.kind (cmd f.code f.clock bytes)
  pub puts : Puts c₁ f.len bytes c₀

pub commanded : {f : First} {c₀ c₁ : List ℕ} {s : Start} → Starts (Ok (variants.Command f)) c₀ c₁ s → Commanded f c₀ c₁ s
commanded (starts_command f c₀ c₁ l h p) = record { bytes = l; few = h; is = refl; puts = p }

pub record Staged (kind n : ℕ) (c₀ c₁ : List ℕ) (s : Start) : Type 0 where
  pub bytes : List ℕ
  pub few : length bytes ≤ data_limit
  pub is : s ≡ staged kind bytes
  pub puts : Puts c₁ n bytes c₀

pub as_staged : {kind n : ℕ} {c₀ c₁ : List ℕ} {s : Start} → Starts (Ok (variants.Staged kind n)) c₀ c₁ s → Staged kind n c₀ c₁ s
as_staged (starts_staged kind n c₀ c₁ l h p) = record { bytes = l; few = h; is = refl; puts = p }

pub record AtOnce (r : Refusal) (c₀ c₁ : List ℕ) (s : Start) : Type 0 where
  pub is : s ≡ refuses r
  pub same : c₁ ≡ c₀

pub at_once_lem : {r : Refusal} {c₀ c₁ : List ℕ} {s : Start} → Starts (Err r) c₀ c₁ s → AtOnce r c₀ c₁ s
at_once_lem (starts_refused r c) = record { is = refl; same = refl }
