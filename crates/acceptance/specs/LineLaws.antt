-- Laws of an entry's frame, and of its line: the frame's digits and the line feed.
use Rattle.std.proofs.Math.Path.{◌≡◌, ap}
use Rattle.std.specs.Prelude.{refl, Bool, true, false, eqb, length, take, drop, get_or, set, Option, Some, None, Result, Ok, Err}
use Rattle.std.proofs.Common.{sym, ap₂, ◌∙◌, zero-add, add-zero, add-one, length-append, take-append-drop, take_at, le-ltb}
use mathlib.Core.List.{List, [], ◌∷◌, ◌++◌}
use Prim.Native.Nat.{ℕ, zero, suc, ◌+◌, ◌*◌, ◌≤◌, ◌<◌, min}
use native.Mathlib.Omega.{arith}
use Rattle.std.proofs.lemmas.List.{set_split}
use Rattle.std.proofs.lemmas.Bool.{eqb-false}
use Rattle.errors.specs.Refusals.{answered, refused, returned, plain}
use Rattle.errors.specs.declared.Refusal.{Refusal}
use Rattle.errors.specs.Choice.{pick}
use Rattle.framing.specs.Build.{left, limit_of, put_frame, build_of}
use Rattle.framing.specs.Enclose.{length-frame, start-most}
use Rattle.framing.specs.Frames.{longest, frame_of}
use Rattle.framing.specs.Settings.{format_of, setting_of}
use Rattle.framing.specs.declared.ErrorDetection.{ErrorDetection}
use Rattle.framing.specs.declared.ErrorDetection.TheVariants.{ErrorFrame, StatusByte}
use Rattle.framing.specs.declared.FrameFormat.{FrameFormat}
use Rattle.framing.specs.declared.LengthEncoding.{LengthEncoding}
use Rattle.framing.specs.declared.LengthEncoding.TheVariants.{Normal, ExtendedLittleEndian, NormalOrExtendedBigEndian}
use Rattle.bench.specs.Hex.{digit_of, digits_of_lem}
use Rattle.bench.specs.HexLaws.{length_digits}
use Rattle.bench.specs.Texts.{over, placed, placed_at}
use Rattle.bench.specs.TextLaws.{over-over, length_over}
use Rattle.acceptance.specs.Order.{payload_bytes}
use Rattle.acceptance.specs.Steps.{by_setting, entry_built, frame_at, text_lines, longest_line}
use Rattle.acceptance.specs.declared.Entry.{Entry}
use Rattle.acceptance.specs.declared.Payload.{Payload}
use Rattle.acceptance.specs.declared.Payload.TheVariants.{Empty, One, Two}
use Rattle.bench.specs.Lines.{feed}

by_test : (P : Option FrameFormat → Type 0) (t : Bool) (x y : Option FrameFormat) → P x → (t ≡ false → P y) → P (pick t x y)
unfolding pick
by_test P true x y h k = h
by_test P false x y h k = k refl

-- a fact of each setting, and of none where the number is not below 6
by_numbers : (P : Option FrameFormat → Type 0) → ((e : LengthEncoding) (d : ErrorDetection) → P (Some (format_of e d))) → (n : ℕ) → (6 ≤ n → P None) → P (setting_of n)
unfolding setting_of
by_numbers P some n none =
    by_test P (eqb n 0) _ _ (some Normal ErrorFrame) (λ a.
    by_test P (eqb n 1) _ _ (some Normal StatusByte) (λ b.
    by_test P (eqb n 2) _ _ (some ExtendedLittleEndian ErrorFrame) (λ c.
    by_test P (eqb n 3) _ _ (some ExtendedLittleEndian StatusByte) (λ d.
    by_test P (eqb n 4) _ _ (some NormalOrExtendedBigEndian ErrorFrame) (λ e.
    by_test P (eqb n 5) _ _ (some NormalOrExtendedBigEndian StatusByte) (λ f.
    none (beyond (eqb-false n 0 a) (eqb-false n 1 b) (eqb-false n 2 c) (eqb-false n 3 d) (eqb-false n 4 e) (eqb-false n 5 f))))))))
  where
    beyond : (n ≡ 0 → ⊥) → (n ≡ 1 → ⊥) → (n ≡ 2 → ⊥) → (n ≡ 3 → ⊥) → (n ≡ 4 → ⊥) → (n ≡ 5 → ⊥) → 6 ≤ n
    beyond a b c d e f = omega arith

-- a fact of each setting and of none is a fact of every number
pub by_number : (P : Option FrameFormat → Type 0) → ((e : LengthEncoding) (d : ErrorDetection) → P (Some (format_of e d))) → P None → (n : ℕ) → P (setting_of n)
by_number P some none n = by_numbers P some n (λ h. none)

-- a fact of each setting is one of every number below 6
pub of_six : (P : Option FrameFormat → Type 0) → ((e : LengthEncoding) (d : ErrorDetection) → P (Some (format_of e d))) → (n : ℕ) → n < 6 → P (setting_of n)
of_six P some n h = by_numbers P some n (λ k. absurd (omega arith))

pub short_payload : (p : Payload) → length (payload_bytes p) ≤ 2
unfolding payload_bytes
short_payload Empty = omega arith
short_payload (One a) = omega arith
short_payload (Two a b) = omega arith

-- what building gives of a payload of at most 2 bytes: its frame, of 7 to 12 bytes
module _ (e : LengthEncoding) (d : ErrorDetection) (p : List ℕ) (short : length p ≤ 2) where
  within_limit : 2 ≤ limit_of (format_of e d)
  unfolding limit_of
  within_limit = go e
    where
      go : (x : LengthEncoding) → 2 ≤ min (longest x) (longest x)
      go Normal = omega arith
      go ExtendedLittleEndian = omega arith
      go NormalOrExtendedBigEndian = omega arith

  pub short_frame : length (frame_of e p) ≤ 12
  short_frame = omega (arith, length-frame e p, start-most e (length p))

  pub some_frame : 0 < length (frame_of e p)
  some_frame = omega (arith, length-frame e p)

  pub short_built : (b : List ℕ) → build_of (format_of e d) p b ≡ put_frame (frame_of e p) b
  unfolding build_of pick
  short_built b = rw (le-ltb (limit_of (format_of e d)) (length p) (omega (arith, within_limit)))

  pub short_put : (b : List ℕ) → 12 ≤ length b
      → build_of (format_of e d) p b ≡ left (answered (length (frame_of e p))) (frame_of e p ++ drop (length (frame_of e p)) b)
  unfolding put_frame pick
  short_put b room = short_built b ∙ rw (le-ltb (length b) (length (frame_of e p)) (omega (arith, short_frame)))

-- what `frame` answered and left in a buffer of 12 bytes: the entry's frame at its start, or the entry has none
pub record Framed (fs : List (List ℕ)) (n : ℕ) (fr : List ℕ) : Type 0 where
  pub frame : fs ≡ take n fr ∷ []
  pub some : 0 < n
  pub fits : n ≤ 12
  pub whole : length (take n fr) ≡ n

module _ (p : List ℕ) (short : length p ≤ 2) (b fr : List ℕ) (twelve : length b ≡ 12) (r : Result ℕ Refusal) where
  abbrev Builds : Option FrameFormat → Type 0
  Builds s = left (returned r) fr ≡ by_setting (λ f. build_of f p b) (left (refused (plain 1)) b) s

  abbrev frames : Option FrameFormat → List (List ℕ)
  frames s = by_setting (λ f. frame_of f.length p ∷ []) [] s

  known-frame : (n : ℕ) → r ≡ Ok n → (k : ℕ) → Builds (setting_of k) → Framed (frames (setting_of k)) n fr
  unfolding returned
  known-frame n q = by_number (λ s. Builds s → Framed (frames s) n fr) some none
    where
      none : Builds None → Framed (frames None) n fr
      none t = let z : ◌≡◌ {A = ℕ} 0 1 = cc (ap (λ l. l.result) t, ap returned q) in absurd (omega arith)

      some : (e : LengthEncoding) (d : ErrorDetection) → Builds (Some (format_of e d)) → Framed (frames (Some (format_of e d))) n fr
      some e d t =
          let put = t ∙ short_put e d p short b (omega arith) in
          let len : n ≡ length (frame_of e p) = cc (ap (λ l. l.result) put, ap returned q) in
          let at : take n fr ≡ frame_of e p = ap₂ take len (ap (λ l. l.buffer) put) ∙ take_at (frame_of e p) (drop (length (frame_of e p)) b) (length (frame_of e p)) refl in
          record {
            frame = ap (λ x. x ∷ []) (sym at);
            some = omega (arith, some_frame e d p short);
            fits = omega (arith, short_frame e d p short);
            whole = ap length at ∙ sym len;
          }

  known-none : (x : Refusal) → r ≡ Err x → (k : ℕ) → Builds (setting_of k) → frames (setting_of k) ≡ []
  unfolding returned
  known-none x q = by_number (λ s. Builds s → frames s ≡ []) some (λ t. refl)
    where
      some : (e : LengthEncoding) (d : ErrorDetection) → Builds (Some (format_of e d)) → frames (Some (format_of e d)) ≡ []
      some e d t =
          let put = t ∙ short_put e d p short b (omega arith) in
          let z : ◌≡◌ {A = ℕ} 0 1 = cc (ap (λ l. l.result) put, ap returned q) in
          absurd (omega arith)

module _ (e : Entry) (b fr : List ℕ) (r : Result ℕ Refusal) (twelve : length b ≡ 12) (known : left (returned r) fr ≡ entry_built e b) where
  pub framed : (n : ℕ) → r ≡ Ok n → Framed (frame_at e) n fr
  unfolding frame_at entry_built
  framed n q = known-frame (payload_bytes e.payload) (short_payload e.payload) b fr twelve r n q e.setting known

  pub unframed : (x : Refusal) → r ≡ Err x → frame_at e ≡ []
  unfolding frame_at entry_built
  unframed x q = known-none (payload_bytes e.payload) (short_payload e.payload) b fr twelve r x q e.setting known

pub placed_none : (at : ℕ) (out : List ℕ) → placed at out ≡ placed_at at [] out
unfolding over
placed_none at out = ap₂ placed (sym (add-zero at)) (sym (ap (λ k. take at out ++ drop k out) (add-zero at) ∙ take-append-drop at out))

-- an entry of no setting has no line
pub no_line : (e : Entry) (at : ℕ) (out : List ℕ) → frame_at e ≡ [] → placed at out ≡ placed_at at (text_lines (frame_at e)) out
unfolding text_lines
no_line e at out f = placed_none at out ∙ ap (λ l. placed_at at (text_lines l) out) (sym f)

set-over : (b : List ℕ) (j x : ℕ) → j < length b → set b j x ≡ over j (x ∷ []) b
unfolding over
set-over b j x h = set_split b j x h ∙ rw add-one

-- the table of the digits
abbrev pub digit_table : List ℕ
digit_table = 48 ∷ 49 ∷ 50 ∷ 51 ∷ 52 ∷ 53 ∷ 54 ∷ 55 ∷ 56 ∷ 57 ∷ 65 ∷ 66 ∷ 67 ∷ 68 ∷ 69 ∷ 70 ∷ []

-- the values of n numbers from k on
abbrev values : (ℕ → ℕ) → ℕ → ℕ → List ℕ
values f k zero = []
values f k (suc n) = f k ∷ values f (suc k) n

value-at : (f : ℕ → ℕ) (k n v : ℕ) → v < n → get_or (values f k n) v 0 ≡ f (k + v)
value-at f k zero v h = absurd (omega arith)
value-at f k (suc n) zero h = ap f (sym (add-zero k))
value-at f k (suc n) (suc v) h = value-at f (suc k) n v (omega arith) ∙ ap f (omega arith)

digit_at : (v : ℕ) → v < 16 → get_or digit_table v 0 ≡ digit_of v
unfolding digit_of pick
digit_at v h = value-at digit_of 0 16 v h ∙ ap digit_of (zero-add v)

pub table_digit : (r v : ℕ) → r ≡ v → r < 16 → get_or digit_table r 0 ≡ digit_of v
table_digit r v e h = digit_at r h ∙ ap digit_of e

-- the line feed behind the digits of a frame
pub line-put : (out o q : List ℕ) (at n : ℕ) (fs : List (List ℕ)) → at + longest_line ≤ length out → n ≤ 12 → length q ≡ n → fs ≡ q ∷ []
    → o ≡ over at (digits_of_lem q) out → placed (at + 2 * n + 1) (set o (at + 2 * n) feed) ≡ placed_at at (text_lines fs) out
unfolding text_lines
line-put out o q at n fs room fits whole f e =
    let d : List ℕ = digits_of_lem q in
    let c : 2 * n ≡ length d = omega (arith, length_digits q) in
    let room' : at + length d + 1 ≤ length out = omega arith in
    let inside : at + length d < length (over at d out) = rw (length_over out d at (omega arith)) (omega arith) in
    let put : set o (at + 2 * n) feed ≡ over at (d ++ (feed ∷ [])) out
    = ap₂ (λ l j. set l (at + j) feed) e c ∙ set-over (over at d out) (at + length d) feed inside ∙ over-over out d (feed ∷ []) at room' in
    let next : at + 2 * n + 1 ≡ at + length (d ++ (feed ∷ [])) = rw (length-append d (feed ∷ [])) (omega arith) in
    ap₂ placed next put ∙ ap (λ l. placed_at at (text_lines l) out) (sym f)
