-- Laws of the text of an output: what each function printed, and that it fits.
use Rattle.std.specs.Prelude.{◌≡◌, ℕ, ◌≤◌, Bool, true, false, eqb, List, [], ◌∷◌, ◌++◌, length, take}
use mathlib.Core.Path.{ap}
use native.Mathlib.Omega.{arith}
use borrow.Author.Tests.{eq-eqb, ne_eqb}
use lib.ListN.{length-append, length-take}
use Rattle.errors.specs.Choice.{pick}
use Rattle.errors.specs.Refusals.{numbered, fault_numbered}
use Rattle.errors.specs.declared.Numbered.{Numbered}
use Rattle.errors.specs.declared.Fault.{Fault}
use Rattle.errors.specs.declared.Refusal.{Refusal}
use Rattle.targets.specs.Bitrates.{ascii}
use Rattle.engine.specs.declared.running.Output.{Output}
use Rattle.engine.specs.declared.running.Output.TheVariants.{Ack, Command, Read, Drain, Pause, Done, Type1, UidAndAts, Nothing, Failed, FailedAfter, Refused}
use Rattle.bench.specs.DecimalLaws.{decimal_short}
use Rattle.bench.specs.Hex.{hex_of}
use Rattle.bench.specs.HexLaws.{hex_short}
use Rattle.bench.specs.TextLaws.{appended, then_put, then_both, at-start}
use Rattle.bench.specs.Texts.{placed, placed_at, put_at, decimal_of, Appends}
use Rattle.bench_session.specs.Outputs.{out_room, text_limit, done_text, type1_text, lengths_text, refused_text, list_refused_text, text_of}

pub type1_done : (p b o o₁ : List ℕ) (r r₁ : ℕ) → Appends 0 (ascii "done " ++ hex_of p) b r o → placed r₁ o₁ ≡ put_at r (ascii " type1") o → Appends 0 (type1_text p) b r₁ o₁
unfolding type1_text
type1_done p b o o₁ r r₁ bytes name = then_put _ _ _ _ _ _ _ _ bytes name

-- two lengths behind an answer's bytes
pub lengths_done : (p b o o₁ o₂ : List ℕ) (r r₁ r₂ uid ats : ℕ) → Appends 0 (ascii "done " ++ hex_of p) b r o → Appends r (ascii " uid " ++ decimal_of uid) o r₁ o₁
    → Appends r₁ (ascii " ats " ++ decimal_of ats) o₁ r₂ o₂ → Appends 0 (lengths_text p uid ats) b r₂ o₂
unfolding lengths_text
lengths_done p b o o₁ o₂ r r₁ r₂ uid ats bytes first second = then_both _ _ _ _ _ _ _ _ _ (then_both _ _ _ _ _ _ _ _ _ bytes first) second

-- a refusal whole
module _ (n : Numbered) (b o : List ℕ) (r : ℕ) (number : Appends 0 (ascii "refused " ++ decimal_of n.number) b r o) where
  module _ (o₁ o₂ : List ℕ) (r₁ r₂ : ℕ) (space : placed r₁ o₁ ≡ put_at r (ascii " ") o) where
    pub refused_15 : n.number ≡ 15 → placed r₂ o₂ ≡ put_at r₁ (hex_of (n.status ∷ [])) o₁ → Appends 0 (refused_text n) b r₂ o₂
    unfolding refused_text pick
    refused_15 h e = rw (eq-eqb n.number 15 h) (then_put _ _ _ _ _ _ _ _ (then_put _ _ _ _ _ _ _ _ number space) e)

    pub refused_20 : (n.number ≡ 15 → ⊥) → n.number ≡ 20 → placed r₂ o₂ ≡ put_at r₁ (hex_of (n.status ∷ n.status2 ∷ [])) o₁ → Appends 0 (refused_text n) b r₂ o₂
    unfolding refused_text pick
    refused_20 h k e = rw (ne_eqb n.number 15 h, eq-eqb n.number 20 k) (then_put _ _ _ _ _ _ _ _ (then_put _ _ _ _ _ _ _ _ number space) e)

  pub refused_other : (n.number ≡ 15 → ⊥) → (n.number ≡ 20 → ⊥) → Appends 0 (refused_text n) b r o
  unfolding refused_text pick
  refused_other h k = rw (ne_eqb n.number 15 h, ne_eqb n.number 20 k) number

-- the number of codes finished behind a list's refusal
pub list_done : (n : Numbered) (k r r₁ : ℕ) (b o o₁ : List ℕ) → Appends 0 (refused_text n) b r o → Appends r (ascii " finished " ++ decimal_of k) o r₁ o₁ → Appends 0 (list_refused_text n k) b r₁ o₁
unfolding list_refused_text
list_done n k r r₁ b o o₁ refusal count = then_both _ _ _ _ _ _ _ _ _ refusal count

-- a text within the limit
abbrev Fits : List ℕ → Type 0
Fits t = length t ≤ text_limit

either_short : (k : ℕ) (t : Bool) (a c : List ℕ) → length a ≤ k → length c ≤ k → length (pick t a c) ≤ k
unfolding pick
either_short k true a c h l = h
either_short k false a c h l = l

with_bytes_short : (n : ℕ) (p : List ℕ) → length p ≤ 2 → length (ascii "refused " ++ decimal_of n ++ ascii " " ++ hex_of p) ≤ 34
with_bytes_short n p h =
    rw (length-append (ascii "refused " ++ decimal_of n ++ ascii " ") (hex_of p), length-append (ascii "refused " ++ decimal_of n) (ascii " "), length-append (ascii "refused ") (decimal_of n))
    (omega (arith, decimal_short n, hex_short p))

refused_short : (n : Numbered) → length (refused_text n) ≤ 34
unfolding refused_text
refused_short n =
    either_short 34 (eqb n.number 15) _ _ (with_bytes_short n.number (n.status ∷ []) (omega arith))
    (either_short 34 (eqb n.number 20) _ _ (with_bytes_short n.number (n.status ∷ n.status2 ∷ []) (omega arith))
    (rw (length-append (ascii "refused ") (decimal_of n.number)) (omega (arith, decimal_short n.number))))

bytes_fit : (t p : List ℕ) → length t ≤ 6 → length p ≤ 1024 → Fits (t ++ hex_of p)
bytes_fit t p h k = rw (length-append t (hex_of p)) (omega (arith, hex_short p))

number_fits : (t : List ℕ) (n : ℕ) → length t ≤ 8 → Fits (t ++ decimal_of n)
number_fits t n h = rw (length-append t (decimal_of n)) (omega (arith, decimal_short n))

refused_fits : (n : Numbered) → Fits (refused_text n)
refused_fits n = omega (arith, refused_short n)

list_refused_fits : (n : Numbered) (k : ℕ) → Fits (list_refused_text n k)
unfolding list_refused_text
list_refused_fits n k =
    rw (length-append (refused_text n ++ ascii " finished ") (decimal_of k), length-append (refused_text n) (ascii " finished ")) (omega (arith, refused_short n, decimal_short k))

lengths_fit : (p : List ℕ) (uid ats : ℕ) → length p ≤ 1024 → Fits (lengths_text p uid ats)
unfolding lengths_text
lengths_fit p uid ats h =
    rw (length-append (ascii "done " ++ hex_of p ++ ascii " uid " ++ decimal_of uid ++ ascii " ats ") (decimal_of ats), length-append (ascii "done " ++ hex_of p ++ ascii " uid " ++ decimal_of uid) (ascii " ats "), length-append (ascii "done " ++ hex_of p ++ ascii " uid ") (decimal_of uid), length-append (ascii "done " ++ hex_of p) (ascii " uid "), length-append (ascii "done ") (hex_of p))
    (omega (arith, hex_short p, decimal_short uid, decimal_short ats))

pub text_fits : (o : Output) (b : List ℕ) → length b ≤ 1024 → length (text_of o b) ≤ text_limit
unfolding text_of done_text type1_text
text_fits Ack b h = bytes_fit (ascii "write ") (take 6 b) (omega arith) (omega (arith, length-take 6 b))
text_fits (Command n) b h = bytes_fit (ascii "write ") (take n b) (omega arith) (omega (arith, length-take n b))
text_fits (Read ms) b h = number_fits (ascii "read ") ms (omega arith)
text_fits Drain b h = omega arith
text_fits (Pause us) b h = number_fits (ascii "pause ") us (omega arith)
text_fits (Done n) b h = either_short text_limit (eqb (length (take n b)) 0) _ _ (omega arith) (bytes_fit (ascii "done ") (take n b) (omega arith) (omega (arith, length-take n b)))
text_fits (Type1 n) b h =
    rw (length-append (ascii "done " ++ hex_of (take n b)) (ascii " type1"), length-append (ascii "done ") (hex_of (take n b))) (omega (arith, hex_short (take n b), length-take n b))
text_fits (UidAndAts n uid ats) b h = lengths_fit (take n b) uid ats (omega (arith, length-take n b))
text_fits Nothing b h = omega arith
text_fits (Failed e) b h = refused_fits (fault_numbered e)
text_fits (FailedAfter e n) b h = list_refused_fits (fault_numbered e) n
text_fits (Refused e) b h = refused_fits (numbered e)

-- the text that was printed, and its bound
pub text_bound : (f : Output) (b out o : List ℕ) (r : ℕ) → length b ≡ 1024 → length out ≡ out_room → Appends 0 (text_of f b) out r o → (placed r o ≡ placed_at 0 (text_of f b) out) × (r ≤ text_limit)
text_bound f b out o r h l e =
    let t : length (text_of f b) ≤ text_limit = text_fits f b (omega arith) in
    let p : placed r o ≡ placed_at 0 (text_of f b) out = at-start (text_of f b) out o r e (omega arith) in
    (p, omega (arith, ap (λ q. q.next) p))

-- the text of a known output
module _ (f : Output) (b out o : List ℕ) (r : ℕ) where
  pub text_ack : (p : List ℕ) → f ≡ Ack → p ≡ take 6 b → Appends 0 (ascii "write " ++ hex_of p) out r o → Appends 0 (text_of f b) out r o
  unfolding text_of
  text_ack p h q e = rw h (rw q at e)

  pub text_command : (n : ℕ) (p : List ℕ) → f ≡ Command n → p ≡ take n b → Appends 0 (ascii "write " ++ hex_of p) out r o → Appends 0 (text_of f b) out r o
  unfolding text_of
  text_command n p h q e = rw h (rw q at e)

  pub text_read : (ms : ℕ) → f ≡ Read ms → Appends 0 (ascii "read " ++ decimal_of ms) out r o → Appends 0 (text_of f b) out r o
  unfolding text_of
  text_read ms h e = rw h e

  pub text_drain : f ≡ Drain → placed r o ≡ put_at 0 (ascii "drain") out → Appends 0 (text_of f b) out r o
  unfolding text_of
  text_drain h e = rw h (appended (ascii "drain") out o 0 r e)

  pub text_pause : (us : ℕ) → f ≡ Pause us → Appends 0 (ascii "pause " ++ decimal_of us) out r o → Appends 0 (text_of f b) out r o
  unfolding text_of
  text_pause us h e = rw h e

  pub text_done : (n : ℕ) (p : List ℕ) → f ≡ Done n → p ≡ take n b → Appends 0 (done_text p) out r o → Appends 0 (text_of f b) out r o
  unfolding text_of
  text_done n p h q e = rw h (rw q at e)

  pub text_type1 : (n : ℕ) (p : List ℕ) → f ≡ Type1 n → p ≡ take n b → Appends 0 (type1_text p) out r o → Appends 0 (text_of f b) out r o
  unfolding text_of
  text_type1 n p h q e = rw h (rw q at e)

  pub text_lengths : (n uid ats : ℕ) (p : List ℕ) → f ≡ UidAndAts n uid ats → p ≡ take n b → Appends 0 (lengths_text p uid ats) out r o → Appends 0 (text_of f b) out r o
  unfolding text_of
  text_lengths n uid ats p h q e = rw h (rw q at e)

  pub text_none : f ≡ Nothing → placed r o ≡ put_at 0 (ascii "none") out → Appends 0 (text_of f b) out r o
  unfolding text_of
  text_none h e = rw h (appended (ascii "none") out o 0 r e)

  pub text_failed : (e : Fault) (n : Numbered) → f ≡ Failed e → n ≡ fault_numbered e → Appends 0 (refused_text n) out r o → Appends 0 (text_of f b) out r o
  unfolding text_of
  text_failed e n h q d = rw h (rw q at d)

  pub text_refused : (e : Refusal) (n : Numbered) → f ≡ Refused e → n ≡ numbered e → Appends 0 (refused_text n) out r o → Appends 0 (text_of f b) out r o
  unfolding text_of
  text_refused e n h q d = rw h (rw q at d)

  pub text_listed : (e : Fault) (k : ℕ) (n : Numbered) → f ≡ FailedAfter e k → n ≡ fault_numbered e → Appends 0 (list_refused_text n k) out r o → Appends 0 (text_of f b) out r o
  unfolding text_of
  text_listed e k n h q d = rw h (rw q at d)

pub ruleset texts = (text_ack, text_command, text_read, text_drain, text_pause, text_done, text_type1, text_lengths, text_none, text_failed, text_listed, text_refused)
