-- Laws of `put_lines`: what holds of the buffer at each turn of its loop.
use Rattle.std.specs.Prelude.{◌≡◌, Bool, true, false, ℕ, suc, ◌+◌, ◌*◌, ◌≤◌, ◌<◌, ltb, Some, None, Ok, Err}
use Rattle.std.proofs.Math.Path.{refl, ap}
use Rattle.std.proofs.Common.{sym, ap₂, ◌∙◌, zero-add, add-one, arith, length-append, ltb-true, ltb-false}
use mathlib.Core.List.{List, [], ◌∷◌, ◌++◌, append_assoc}
use Rattle.std.proofs.Math.ListN.{length}
use Rattle.framing.specs.Frames.{frame_of}
use Rattle.framing.specs.Settings.{setting_of}
use Rattle.framing.specs.declared.ErrorDetection.{ErrorDetection}
use Rattle.framing.specs.declared.LengthEncoding.{LengthEncoding}
use Rattle.bench.specs.Hex.{digits_of_lem}
use Rattle.bench.specs.HexLaws.{length_digits}
use Rattle.bench.specs.Texts.{over, placed, placed_at}
use Rattle.bench.specs.TextLaws.{over-over}
use Rattle.acceptance.specs.Order.{payload_bytes, step_from, At, Reached}
use Rattle.acceptance.proofs.OrderLaws.{step_refused}
use Rattle.acceptance.specs.Steps.{run_from, stepped_on, by_setting, frame_at, frame_in, frames_from, text_lines, on_entry, longest_line, Filled}
use Rattle.acceptance.specs.LineLaws.{by_number, of_six, short_payload, short_frame, placed_none}
use Rattle.acceptance.specs.declared.Entry.{Entry}
use Rattle.acceptance.specs.declared.lines.Block.{Block}
use Rattle.bench.specs.Lines.{feed}
use Rattle.acceptance.specs.PutLinesLaws.{Filling}

pub lines_append : (f g : List (List ℕ)) → text_lines (f ++ g) ≡ text_lines f ++ text_lines g
unfolding text_lines
lines_append [] g = refl
lines_append (x ∷ f) g = ap (λ l. digits_of_lem x ++ (feed ∷ l)) (lines_append f g) ∙ sym (append_assoc (digits_of_lem x) (feed ∷ text_lines f) (text_lines g))

-- ---- an entry's line

pub on_entry_most : (s : Reached) → on_entry s ≤ 1
on_entry_most (Ok (Some x)) = omega arith
on_entry_most (Ok None) = omega arith
on_entry_most (Err r) = omega arith

line-length : (f : List ℕ) → length (text_lines (f ∷ [])) ≡ 2 * length f + 1
unfolding text_lines
line-length f = length-append (digits_of_lem f) (feed ∷ []) ∙ ap (λ k. k + 1) (length_digits f)

module _ (e : Entry) where
  pub line_short : length (text_lines (frame_at e)) ≤ longest_line
  unfolding frame_at text_lines
  line_short =
      by_number (λ s. length (text_lines (by_setting (λ f. frame_of f.length (payload_bytes e.payload) ∷ []) [] s)) ≤ longest_line) some (omega arith)
      e.setting
    where
      some : (x : LengthEncoding) (d : ErrorDetection) → length (text_lines (frame_of x (payload_bytes e.payload) ∷ [])) ≤ longest_line
      some x d = omega (arith, line-length (frame_of x (payload_bytes e.payload)), short_frame x d (payload_bytes e.payload) (short_payload e.payload))

  -- where a step leads on to an entry, the entry before has a line
  pub line_or_end : on_entry (step_from e) ≤ length (text_lines (frame_at e))
  unfolding frame_at
  line_or_end = go (ltb e.setting 6) refl
    where
      some : (x : LengthEncoding) (d : ErrorDetection) → 1 ≤ length (text_lines (frame_of x (payload_bytes e.payload) ∷ []))
      some x d = omega (arith, line-length (frame_of x (payload_bytes e.payload)))

      go : (t : Bool) → ltb e.setting 6 ≡ t → on_entry (step_from e) ≤ length (text_lines (by_setting (λ f. frame_of f.length (payload_bytes e.payload) ∷ []) [] (setting_of e.setting)))
      go true h =
          let l = of_six (λ s. 1 ≤ length (text_lines (by_setting (λ f. frame_of f.length (payload_bytes e.payload) ∷ []) [] s))) some e.setting (ltb-true e.setting 6 h) in
          omega (arith, on_entry_most (step_from e))
      go false h = let z : on_entry (step_from e) ≡ 0 = ap on_entry (sym (step_refused e (ltb-false e.setting 6 h))) in omega arith

pub filling-start : (s : Reached) (b : List ℕ) → Filling s b b 0 0 s
unfolding run_from frames_from text_lines
filling-start s b = record {
  at = refl;
  place = refl;
  text = ap (λ p. p.buffer) (placed_none 0 b);
  inside = omega arith;
  counted = λ k h. absurd (omega arith);
  spent = omega (arith, on_entry_most s);
}

module _ (s : Reached) (b out : List ℕ) (len count : ℕ) (step : Reached) (now : Filling s b out len count step) (e : Entry) (on : step ≡ At e)
    (room : len + longest_line ≤ length b) (len' : ℕ) (out' : List ℕ) (put : placed len' out' ≡ placed_at len (text_lines (frame_at e)) out) (step' : Reached)
    (next : step' ≡ step_from e) where
  frames-more : frames_from (suc count) s ≡ frames_from count s ++ frame_at e
  unfolding frames_from frame_in
  frames-more = ap (λ x. frames_from count s ++ frame_in x) (sym now.at ∙ on)

  lines_more : text_lines (frames_from (suc count) s) ≡ text_lines (frames_from count s) ++ text_lines (frame_at e)
  lines_more = ap text_lines frames-more ∙ lines_append (frames_from count s) (frame_at e)

  pub len_more : len' ≡ len + length (text_lines (frame_at e))
  len_more = ap (λ p. p.next) put

  step-more : step' ≡ run_from (suc count) s
  unfolding run_from stepped_on
  step-more = next ∙ ap stepped_on (sym on ∙ now.at)

  pub entries_less : on_entry step ≡ 1
  entries_less = ap on_entry on

  pub entry_or_line : on_entry step' ≤ length (text_lines (frame_at e))
  entry_or_line = rw next (line_or_end e)

  text-more : out' ≡ over 0 (text_lines (frames_from (suc count) s)) b
  text-more =
      let t = text_lines (frames_from count s) in
      let l : len ≡ 0 + length t = now.place ∙ sym (zero-add (length t)) in
      let k : 0 + length t + length (text_lines (frame_at e)) ≤ length b = omega (arith, line_short e) in
      ap (λ p. p.buffer) put ∙ ap₂ (λ j x. over j (text_lines (frame_at e)) x) l now.text ∙ over-over b t (text_lines (frame_at e)) 0 k
      ∙ ap (λ x. over 0 x b) (sym lines_more)

  pub filling-more : Filling s b out' len' (count + 1) step'
  filling-more = rw (add-one count) record {
    at = step-more;
    place = len_more ∙ ap (λ k. k + length (text_lines (frame_at e))) now.place ∙ sym (ap length lines_more ∙ length-append (text_lines (frames_from count s)) (text_lines (frame_at e)));
    text = text-more;
    inside = omega (arith, len_more, line_short e);
    counted = λ k h. more k (ltb k count) refl h;
    spent = omega (arith, len_more, entries_less, entry_or_line, on_entry_most step', now.spent);
  }
    where
      more : (k : ℕ) (t : Bool) → ltb k count ≡ t → k < suc count → on_entry (run_from k s) ≡ 1
      more k true t h = now.counted k (ltb-true k count t)
      more k false t h = let f = ltb-false k count t in let q : k ≡ count = omega arith in rw (q, ← now.at, on)

pub filling-end : (s : Reached) (b out : List ℕ) (r : Block) → Filling s b out r.len r.count r.step
    → (on_entry r.step ≡ 1 → length b < r.len + longest_line) → Filled s b r out
filling-end s b out r f full = record {
  step = f.at;
  len = f.place;
  text = f.text;
  inside = f.inside;
  counted = f.counted;
  full = full;
}
