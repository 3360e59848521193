-- Laws of what is printed.
use mathlib.Core.Path.{◌≡◌, ap}
use mathlib.Core.List.{List, ◌++◌}
use Prim.Native.Nat.{ℕ}
use native.Mathlib.Omega.{arith}
use lib.ListN.{length, take, length-append, length-take}
use Rattle.errors.specs.Refusals.{numbered}
use Rattle.errors.specs.declared.Numbered.{Numbered}
use Rattle.errors.specs.declared.Refusal.{Refusal}
use Rattle.framing.specs.Frames.{ack}
use Rattle.targets.specs.Bitrates.{ascii}
use Rattle.bench.specs.DecimalLaws.{decimal_short}
use Rattle.bench.specs.Hex.{dash, hex_of}
use Rattle.bench.specs.HexLaws.{hex_short}
use Rattle.bench.specs.TextLaws.{appended, then_put, both-put}
use Rattle.bench.specs.Texts.{placed, put_at, decimal_of}
use Rattle.chip_protocol.specs.Names.{longest_packet}
use Rattle.simulated_chip.specs.Additions.{Addition}
use Rattle.std.specs.Prelude.{Option, Some, None, Ok, Err}
use Rattle.chip_lines.specs.Lines.{refused_text, addition_text, packets_text, sent_text}
use Rattle.chip_lines.specs.Readings.{Prints}

pub refused_prints : (e : Refusal) (n : Numbered) (o o₁ o₂ : List ℕ) (r₁ r₂ : ℕ) → n ≡ numbered e → placed r₁ o₁ ≡ put_at 0 (ascii "refused ") o
    → placed r₂ o₂ ≡ put_at r₁ (decimal_of n.number) o₁ → Prints (refused_text e) r₂ o o₂
unfolding refused_text
refused_prints e n o o₁ o₂ r₁ r₂ is a b =
    record {
      put = rw (← is) (both-put _ _ _ _ _ _ _ _ a b);
      short = omega (arith, length-append (ascii "refused ") (decimal_of (numbered e).number), decimal_short (numbered e).number);
    }

pub ok_prints : (o o' : List ℕ) (r : ℕ) → placed r o' ≡ put_at 0 (ascii "ok") o → Prints (ascii "ok") r o o'
ok_prints o o' r e = record { put = appended _ _ _ _ _ e; short = omega arith }

module _ (x : Addition) (o o' : List ℕ) (r : ℕ) where
  pub added-prints : (t : Unit {0}) → x ≡ Ok t → placed r o' ≡ put_at 0 (ascii "ok") o → Prints (addition_text x) r o o'
  unfolding addition_text
  added-prints t h e = rw h (ok_prints o o' r e)

  pub not_added-prints : (e : Refusal) → x ≡ Err e → Prints (refused_text e) r o o' → Prints (addition_text x) r o o'
  unfolding addition_text
  not_added-prints e h d = rw h d

module _ (a : Option ℕ) (b o : List ℕ) where
  pub none_prints : (o' : List ℕ) (r : ℕ) → a ≡ None → placed r o' ≡ put_at 0 dash o → Prints (sent_text (Ok a) b) r o o'
  unfolding sent_text packets_text
  none_prints o' r h e = rw h (record { put = appended _ _ _ _ _ e; short = omega arith })

  pub packets_print : (n : ℕ) (p o₁ o₂ o₃ : List ℕ) (r₁ r₂ r₃ : ℕ) → a ≡ Some n → placed r₁ o₁ ≡ put_at 0 (hex_of ack) o → placed r₂ o₂ ≡ put_at r₁ (ascii " ") o₁
      → placed r₃ o₃ ≡ put_at r₂ (hex_of p) o₂ → p ≡ take n b → length b ≡ longest_packet → Prints (sent_text (Ok a) b) r₃ o o₃
  unfolding sent_text packets_text
  packets_print n p o₁ o₂ o₃ r₁ r₂ r₃ h d e f is room =
      rw (h, ← is)
      (record {
        put = then_put _ _ _ _ _ _ _ _ (both-put _ _ _ _ _ _ _ _ d e) f;
        short = omega (
          arith,
          length-append (hex_of ack ++ ascii " ") (hex_of p),
          length-append (hex_of ack) (ascii " "),
          hex_short ack,
          hex_short p,
          ap length is,
          length-take n b,
        );
      })
