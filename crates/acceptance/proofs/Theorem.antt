-- The theorems about the list: all short frames of each setting, in order, none twice; the whole list; what is printed.
use Rattle.std.specs.Prelude.{◌≡◌, Bool, true, false, List, [], ◌∷◌, ◌++◌, ℕ, zero, suc, ◌+◌, ◌-◌, ◌*◌, ◌≤◌, ◌<◌, ltb, length, get_or, Some, None}
use Rattle.std.proofs.Math.Path.{refl, ap, ap₂}
use Rattle.std.proofs.Common.{sym, subst, ◌∙◌, append_assoc, append-nil, inl, inr, add-zero, arith, length-append, ne_eqb, ltb-true, ltb-false}
use Rattle.std.proofs.Math.ListN.{take}
use Rattle.std.proofs.Math.Seq.{take_at}
use Rattle.errors.specs.Choice.{pick}
use Rattle.framing.specs.Build.{build_of, put_frame}
use Rattle.framing.specs.Frames.{frame_of}
use Rattle.framing.specs.Lists.{Bytes}
use Rattle.framing.specs.Settings.{format_of, setting_of}
use Rattle.framing.specs.declared.ErrorDetection.{ErrorDetection}
use Rattle.framing.specs.declared.FrameFormat.{FrameFormat}
use Rattle.framing.specs.declared.LengthEncoding.{LengthEncoding}
use Rattle.bench.specs.Texts.{over}
use Rattle.acceptance.specs.Claim.{Short, InOrder, start, setting_frames, Listed, AllShortFrames, settings_frames, WholeList, Prints, nothing, block}
use Rattle.acceptance.proofs.PutLinesLaws.{lines_append}
use Rattle.acceptance.specs.LineLaws.{by_number, of_six, short_payload, short_built}
use Rattle.acceptance.specs.OneToOne.{one_to_one}
use Rattle.acceptance.specs.Order.{payload_bytes, BytesBefore, Before, payloads, entry_count, payload_number_in, payload_number, payload_at, first_entry, At, Reached}
use Rattle.acceptance.specs.OrderLaws.{OfBytes}
use Rattle.acceptance.proofs.OrderLaws.{payload_of_number, number_below, number_at, bytes_at}
use Rattle.acceptance.proofs.Runs.{reached, ended, run-add, frames-add, frames-count, frame-nth, first-reached, setting_run, beyond}
use Rattle.acceptance.specs.Steps.{run_from, by_setting, frame_at, frame_in, frames_from, text_lines, on_entry, longest_line, Filled}
use Rattle.acceptance.specs.declared.lines.Block.{Block}
use Rattle.acceptance.specs.declared.Payload.{Payload}
use Rattle.acceptance.specs.declared.Payload.TheVariants.{Empty, One, Two}
use Rattle.acceptance.specs.Theorem.{payload_in, OnWay}

number_in : (p : List ℕ) → payload_number (payload_in p) ≡ payload_number_in p
unfolding payload_number_in payload_number payload_bytes payload_in
number_in [] = refl
number_in (a ∷ []) = refl
number_in (a ∷ b ∷ l) = refl

number_bytes : (p : Payload) → payload_number_in (payload_bytes p) ≡ payload_number p
unfolding payload_number
number_bytes p = refl

bytes_in_lem : (p : List ℕ) → length p ≤ 2 → payload_bytes (payload_in p) ≡ p
unfolding payload_bytes payload_in
bytes_in_lem [] h = refl
bytes_in_lem (a ∷ []) h = refl
bytes_in_lem (a ∷ b ∷ []) h = refl
bytes_in_lem (a ∷ b ∷ c ∷ l) h = absurd (omega arith)

of_bytes_in : (p : List ℕ) → Bytes p → OfBytes (payload_in p)
unfolding payload_in
of_bytes_in [] h = tt
of_bytes_in (a ∷ []) h = h 0
of_bytes_in (a ∷ b ∷ l) h = (h 0, h 1)

are_bytes : (p : Payload) → OfBytes p → Bytes (payload_bytes p)
unfolding payload_bytes
are_bytes Empty h k = omega arith
are_bytes (One a) h zero = h
are_bytes (One a) h (suc k) = omega arith
are_bytes (Two a b) h zero = h.0
are_bytes (Two a b) h (suc zero) = h.1
are_bytes (Two a b) h (suc (suc k)) = omega arith

-- ---- the order

-- the numbers go by the order: shortest first, then by bytes, first byte foremost
in_order : (p q : List ℕ) → Short p → Short q → payload_number_in p < payload_number_in q → Before p q
unfolding payload_number_in
in_order [] [] h k l = absurd (omega arith)
in_order [] (a ∷ q) h k l = inl (omega arith)
in_order (a ∷ []) [] h k l = absurd (omega arith)
in_order (a ∷ []) (b ∷ []) h k l = inr (refl, inl (omega arith))
in_order (a ∷ []) (b ∷ c ∷ q) h k l = inl (omega arith)
in_order (a ∷ b ∷ []) [] h k l = absurd (omega arith)
in_order (a ∷ b ∷ []) (c ∷ []) h k l = absurd (omega (arith, k.1 0))
in_order (a ∷ b ∷ []) (c ∷ d ∷ []) h k l = inr (refl, go (ltb a c) refl)
  where
    go : (t : Bool) → ltb a c ≡ t → BytesBefore (a ∷ b ∷ []) (c ∷ d ∷ [])
    go true x = inl (ltb-true a c x)
    go false x = inr (omega (arith, ltb-false a c x, h.1 1, k.1 1), inl (omega (arith, ltb-false a c x, h.1 1, k.1 1)))
in_order (a ∷ b ∷ c ∷ p) q h k l = absurd (omega (arith, h.0))
in_order (a ∷ b ∷ []) (c ∷ d ∷ e ∷ q) h k l = absurd (omega (arith, k.0))

by_order : (p q : List ℕ) → Short p → Short q → Before p q → payload_number_in p < payload_number_in q
unfolding payload_number_in
by_order [] [] h k (inl l) = absurd (omega arith)
by_order [] [] h k (inr l) = absurd l.1
by_order [] (a ∷ []) h k l = omega arith
by_order [] (a ∷ b ∷ q) h k l = omega arith
by_order (a ∷ []) [] h k (inl l) = absurd (omega arith)
by_order (a ∷ []) [] h k (inr l) = absurd l.1
by_order (a ∷ []) (b ∷ []) h k (inl l) = absurd (omega arith)
by_order (a ∷ []) (b ∷ []) h k (inr (e, inl l)) = omega arith
by_order (a ∷ []) (b ∷ []) h k (inr (e, inr l)) = absurd l.1
by_order (a ∷ []) (b ∷ c ∷ q) h k l = omega (arith, h.1 0)
by_order (a ∷ b ∷ p) [] h k (inl l) = absurd (omega arith)
by_order (a ∷ b ∷ p) [] h k (inr l) = absurd l.1
by_order (a ∷ b ∷ p) (c ∷ []) h k (inl l) = absurd (omega arith)
by_order (a ∷ b ∷ p) (c ∷ []) h k (inr l) = absurd (omega (arith, l.0))
by_order (a ∷ b ∷ p) (c ∷ d ∷ q) h k (inl l) = absurd (omega (arith, h.0, k.0))
by_order (a ∷ b ∷ p) (c ∷ d ∷ q) h k (inr (e, inl l)) = omega (arith, h.1 1, k.1 1)
by_order (a ∷ b ∷ p) (c ∷ d ∷ q) h k (inr (e, inr (f, inl l))) = omega arith
by_order (a ∷ b ∷ p) (c ∷ d ∷ q) h k (inr (e, inr (f, inr (g, l)))) = absurd (longer p q h.0 l)
  where
    longer : (x y : List ℕ) → length (a ∷ b ∷ x) ≤ 2 → BytesBefore x y → ⊥
    longer [] y m n = n
    longer (z ∷ x) y m n = omega arith

pub in_order_of_numbers : InOrder
in_order_of_numbers p q h k = (in_order p q h k, by_order p q h k)

-- ---- a setting

no_setting : (s : ℕ) (f : FrameFormat) → 6 ≤ s → setting_of s ≡ Some f → ⊥
unfolding setting_of pick
no_setting s f h e =
    let z : ◌≡◌ {A = ℕ} 0 1 = cc (rw (ne_eqb s 0 (λ x. omega arith), ne_eqb s 1 (λ x. omega arith), ne_eqb s 2 (λ x. omega arith), ne_eqb s 3 (λ x. omega arith), ne_eqb s 4 (λ x. omega arith), ne_eqb s 5 (λ x. omega arith)) at e) in
    omega arith

below_six : (s : ℕ) (f : FrameFormat) → setting_of s ≡ Some f → s < 6
below_six s f h = go (ltb s 6) refl
  where
    go : (t : Bool) → ltb s 6 ≡ t → s < 6
    go true x = ltb-true s 6 x
    go false x = absurd (no_setting s f (ltb-false s 6 x) h)

built : (s : ℕ) (f : FrameFormat) → setting_of s ≡ Some f → (p : List ℕ) → length p ≤ 2 → (b : List ℕ) → build_of f p b ≡ put_frame (frame_of f.length p) b
built s f h p short b = by_number (λ x. x ≡ Some f → build_of f p b ≡ put_frame (frame_of f.length p) b) some none s h
  where
    some : (e : LengthEncoding) (d : ErrorDetection) → Some (format_of e d) ≡ Some f → build_of f p b ≡ put_frame (frame_of f.length p) b
    some e d x =
        let same : format_of e d ≡ f = cc in
        subst (λ g. build_of g p b ≡ put_frame (frame_of g.length p) b) same (short_built e d p short b)

    none : None ≡ Some f → build_of f p b ≡ put_frame (frame_of f.length p) b
    none x = let z : ◌≡◌ {A = ℕ} 0 1 = cc in absurd (omega arith)

module _ (s : ℕ) (f : FrameFormat) (h : setting_of s ≡ Some f) where
  -- the frame of the payload whose number is n
  abbrev frame_of_number : ℕ → List ℕ
  frame_of_number n = frame_of f.length (payload_bytes (payload_at n))

  each : (n : ℕ) → n < payloads → frame_in (run_from n (At (first_entry s))) ≡ frame_of_number n ∷ []
  unfolding frame_in frame_at
  each n k =
      ap frame_in (setting_run s n (below_six s f h) k)
      ∙ ap (by_setting (λ g. frame_of g.length (payload_bytes (payload_at n)) ∷ []) []) h

  nth : (n : ℕ) → n < payloads → get_or (setting_frames s) n [] ≡ frame_of_number n
  unfolding setting_frames
  nth n k = frame-nth (At (first_entry s)) frame_of_number payloads each payloads n (omega arith) k

  counted : length (setting_frames s) ≡ payloads
  unfolding setting_frames
  counted = frames-count (At (first_entry s)) frame_of_number payloads each payloads (omega arith)

  nth_of : (p : List ℕ) → Short p → (payload_number_in p < payloads) × (get_or (setting_frames s) (payload_number_in p) [] ≡ frame_of f.length p)
  nth_of p short =
      let few = of_bytes_in p short.1 in
      let n : payload_number (payload_in p) < payloads = number_below (payload_in p) few in
      let at : payload_at (payload_number_in p) ≡ payload_in p = ap payload_at (sym (number_in p)) ∙ payload_of_number (payload_in p) few in
      let below : payload_number_in p < payloads = rw (← number_in p) n in
      (below, nth (payload_number_in p) below ∙ ap (λ x. frame_of f.length (payload_bytes x)) at ∙ ap (frame_of f.length) (bytes_in_lem p short.0))

  listed : (n : ℕ) → n < payloads → Listed s f n
  listed n k = record {
    payload = payload_bytes (payload_at n);
    short = (short_payload (payload_at n), are_bytes (payload_at n) (bytes_at n k));
    number = number_bytes (payload_at n) ∙ number_at n k;
    frame = nth n k;
  }

  once : (m n : ℕ) → m < payloads → n < payloads → get_or (setting_frames s) m [] ≡ get_or (setting_frames s) n [] → m ≡ n
  once m n j k e =
      let same : payload_bytes (payload_at m) ≡ payload_bytes (payload_at n) = one_to_one f.length _ _ (sym (nth m j) ∙ e ∙ nth n k) in
      sym (number_bytes (payload_at m) ∙ number_at m j) ∙ ap payload_number_in same ∙ number_bytes (payload_at n) ∙ number_at n k

  -- all short frames of the setting, in order, and each once
  pub all_short_frames : AllShortFrames s f
  all_short_frames = record {
    steps = λ n k. setting_run s n (below_six s f h) k;
    count = counted;
    only = listed;
    all = λ p short. ((nth_of p short).0, λ b. built s f h p short.0 b ∙ ap (λ x. put_frame x b) (sym (nth_of p short).1));
    once = once;
  }

-- ---- the whole list

setting_count : (s : ℕ) → s < 6 → length (setting_frames s) ≡ payloads
setting_count s h =
    of_six (λ x. setting_of s ≡ x → length (setting_frames s) ≡ payloads) (λ e d x. (all_short_frames s (format_of e d) x).count) s h refl

settings_frames_lem : (k : ℕ) → k ≤ 6 → frames_from (payloads * k) start ≡ settings_frames k
unfolding settings_frames setting_frames frames_from
settings_frames_lem zero h = refl
settings_frames_lem (suc k) h =
    let e : payloads * suc k ≡ payloads * k + payloads = omega arith in
    ap (λ n. frames_from n start) e ∙ frames-add (payloads * k) payloads start ∙ ap₂ ◌++◌ (settings_frames_lem k (omega arith)) (ap (frames_from payloads) (first-reached k (omega arith)))

settings_count : (k : ℕ) → k ≤ 6 → length (settings_frames k) ≡ payloads * k
unfolding settings_frames
settings_count zero h = refl
settings_count (suc k) h =
    length-append (settings_frames k) (setting_frames k) ∙ ap₂ ◌+◌ (settings_count k (omega arith)) (setting_count k (omega arith)) ∙ omega arith

pub whole_list : WholeList
whole_list = record {
  reached = reached;
  end = ended;
  settings = settings_frames_lem 6 (omega arith);
  total = ap length (settings_frames_lem 6 (omega arith)) ∙ settings_count 6 (omega arith);
}

-- ---- what is printed

no_frames : (s : Reached) → length (text_lines (frames_from 0 s)) ≡ 0
unfolding frames_from text_lines
no_frames s = refl

-- a block that was filled from the n-th step on
module _ (n : ℕ) (h : n ≤ entry_count) (s : Reached) (on : s ≡ run_from n start) (b after : List ℕ) (r : Block) (filled : Filled s b r after) where
  block-step : r.step ≡ run_from (n + r.count) start
  block-step = filled.step ∙ ap (run_from r.count) on ∙ sym (run-add n r.count start)

  block_within : n + r.count ≤ entry_count
  block_within = go (ltb entry_count (n + r.count)) refl
    where
      go : (t : Bool) → ltb entry_count (n + r.count) ≡ t → n + r.count ≤ entry_count
      go false x = ltb-false entry_count (n + r.count) x
      go true x =
          let m = ltb-true entry_count (n + r.count) x in
          let k : entry_count - n < r.count = omega arith in
          let e : n + (entry_count - n) ≡ entry_count = omega arith in
          let one = filled.counted (entry_count - n) k in
          let none : on_entry (run_from (entry_count - n) s) ≡ 0 = ap (λ x. on_entry (run_from (entry_count - n) x)) on ∙ ap on_entry (sym (run-add n (entry_count - n) start)) ∙ ap (λ j. on_entry (run_from j start)) e ∙ beyond entry_count (omega arith) in
          absurd (omega arith)

  -- with room for a line it is not empty before the end
  block-some : n < entry_count → longest_line ≤ length b → 0 < r.count
  block-some k room = go (ltb 0 r.count) refl
    where
      go : (t : Bool) → ltb 0 r.count ≡ t → 0 < r.count
      go true x = ltb-true 0 r.count x
      go false x =
          let zero-count : r.count ≡ 0 = omega (arith, ltb-false 0 r.count x) in
          let one : on_entry r.step ≡ 1 = ap on_entry (block-step ∙ ap (λ j. run_from (n + j) start) zero-count ∙ ap (λ j. run_from j start) (add-zero n) ∙ reached n k) in
          let none : r.len ≡ 0 = filled.len ∙ ap (λ j. length (text_lines (frames_from j s))) zero-count ∙ no_frames s in
          absurd (omega (arith, filled.full one))

  block-text : take r.len after ≡ text_lines (frames_from r.count (run_from n start))
  unfolding over
  block-text =
      ap₂ take filled.len filled.text
      ∙ take_at (text_lines (frames_from r.count s)) _ (length (text_lines (frames_from r.count s))) refl
      ∙ ap (λ x. text_lines (frames_from r.count x)) on

  block-lines : text_lines (frames_from (n + r.count) start) ≡ text_lines (frames_from n start) ++ take r.len after
  block-lines = ap text_lines (frames-add n r.count start) ∙ lines_append (frames_from n start) (frames_from r.count (run_from n start)) ∙ ap (λ x. text_lines (frames_from n start) ++ x) (sym block-text)

printed-from : (s : Reached) (t : List ℕ) → Prints s t → (n : ℕ) → n ≤ entry_count → s ≡ run_from n start
    → text_lines (frames_from n start) ++ t ≡ text_lines (frames_from entry_count start)
printed-from s t (nothing none) n h on = append-nil (text_lines (frames_from n start)) ∙ ap (λ k. text_lines (frames_from k start)) (last (ltb n entry_count) refl)
  where
    last : (t : Bool) → ltb n entry_count ≡ t → n ≡ entry_count
    last true x =
        let one : on_entry s ≡ 1 = ap on_entry (on ∙ reached n (ltb-true n entry_count x)) in
        absurd (omega arith)
    last false x = omega (arith, ltb-false n entry_count x)
printed-from s t (block {t = u} {b = b} {after = after} {r = r} filled rest) n h on =
    sym (append_assoc (text_lines (frames_from n start)) (take r.len after) u)
    ∙ ap (λ x. x ++ u) (sym (block-lines n h s on b after r filled))
    ∙ printed-from r.step u rest (n + r.count) (block_within n h s on b after r filled) (block-step n h s on b after r filled)

-- what is printed from the start on is the whole list
pub printed : (t : List ℕ) → Prints start t → t ≡ text_lines (frames_from entry_count start)
unfolding frames_from text_lines run_from
printed t p = printed-from start t p 0 (omega arith) refl

pub on_way_start : OnWay entry_count start
unfolding run_from
on_way_start = record { few = omega arith; at = refl }

module _ (left : ℕ) (s : Reached) (on : OnWay left s) (b after : List ℕ) (r : Block) (filled : Filled s b r after) where
  pub few_counted : r.count ≤ left
  few_counted = omega (arith, on.few, block_within (entry_count - left) (omega arith) s on.at b after r filled)

  pub on_way_more : OnWay (left - r.count) r.step
  on_way_more =
      let e : entry_count - left + r.count ≡ entry_count - (left - r.count) = omega (arith, on.few, few_counted) in
      record {
        few = omega (arith, on.few);
        at = block-step (entry_count - left) (omega arith) s on.at b after r filled ∙ ap (λ k. run_from k start) e;
      }

  pub less_left : 0 < left → longest_line ≤ length b → left - r.count < left
  less_left some room =
      omega (arith, few_counted, block-some (entry_count - left) (omega arith) s on.at b after r filled (omega (arith, on.few)) room)
