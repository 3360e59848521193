-- Sound scripts: no path has too many commands, and the answer has the call's form, every card byte at its place.
-- Rules by which `search` proves a script sound.
use Rattle.std.specs.Prelude.{◌≡◌, refl, Bool, true, false, not, cond, List, [], ◌∷◌, ◌++◌, map, ℕ, zero, suc, ◌+◌, ◌-◌, ◌%◌, ◌/◌, ◌≤◌, ◌<◌, T, eqb, leb, ltb, length, drop, get_or}
use Rattle.std.proofs.Common.{sym, ap, ◌∙◌, le_of_suc-le-suc, not-suc-le-zero, arith, leb→le, ltb→lt, nltb→le, get_or-drop}
use Rattle.std.proofs.Math.Option.{Option, none, some}
use Rattle.std.proofs.Math.Decide.{dec_le}
use Rattle.std.proofs.Math.ListN.{get_elem?}
use Rattle.errors.specs.Refusals.{by_status}
use Rattle.errors.specs.declared.Fault.{Fault}
use Rattle.errors.specs.declared.Fault.TheVariants.{Transport, TimeOut, FalseStart, BrokenFrame, Length, FrameKind, Identifier, Code, Status, ShortResponse, NoCard, CrcA, Rate, CardStatus, OtherCard, UidLayout}
use Rattle.errors.specs.declared.Refusal.TheVariants.{Bitrate as BadBitrate}
use Rattle.targets.specs.Bitrates.{Choice, chosen, no_code_of, by_bitrate, by_code_of}
use Rattle.targets.specs.TypeA.{is_target_data, target_only, uid-length-at, ats-length-at}
use Rattle.targets.specs.declared.Bitrate.{Bitrate}
use Rattle.exchange.specs.Packets.{is_empty, Reply, response, failed}
use Rattle.protocol.specs.Scripts.{Byte, own, Answer, done, uid_and_ats}
use Rattle.protocol.specs.Scripts.{Script, either, if_else, byte_at, part, rest}
use Rattle.protocol.specs.Starts.{Start, refuses, starts}
use Rattle.protocol.specs.Rules.{rate_bytes, version_bytes, rate, send_index, receive_index}
use Rattle.protocol.specs.Device.{chipset_name, name_bytes}
use Rattle.protocol.specs.Discovery.{card_a, uid_length, ats_length}
use Rattle.protocol.specs.Own.{Cards, Owns, CardsAndFlag, CardAndRates, DepAndCards, Form, version_and_name}
use Rattle.protocol.specs.Names.{sel_res_offset, sens_res_offset, target_offset, uid_length_offset, uid_offset, more_bit, atr_res_cmd0, atr_res_cmd1, version_need}
use Rattle.protocol.specs.Sound.{Within, response_to, response_in, PlacedBytes, no_bytes, own_byte, card_byte, IsResponseByte, Final, OfExchange, Ends, Correct, Sound}

-- ---- rules

-- arguments that are refused at once or start the script
pub sound_if : (o : Form) (t : Bool) (x y : Start) (n : ℕ) → Sound o x n → Sound o y n → Sound o (cond t x y) n
sound_if o true x y n h k = h
sound_if o false x y n h k = k

-- a script that starts
pub sound_starts : (o : Form) (s : Script) (n : ℕ) → Within s n → Correct o s [] → Sound o (starts s) n
sound_starts o s n w c = (w, c)

-- a test that computes
pub holds : Unit {0}
holds = tt

pub sound_bitrate : (o : Form) (c : Choice) (f : Bitrate → Start) (n : ℕ) → ((b : Bitrate) → Sound o (f b) n) → Sound o (by_bitrate (refuses BadBitrate) c f) n
sound_bitrate o (chosen b) f n h = h b
sound_bitrate o (no_code_of e) f n h = tt

pub sound_code : (o : Form) (code : Option ℕ) (f : ℕ → Start) (n : ℕ) → ((k : ℕ) → Sound o (f k) n) → Sound o (by_code_of (refuses BadBitrate) code f) n
sound_code o none f n h = tt
sound_code o (some k) f n h = h k

pub within_either : (f : List ℕ → Script) (g : Fault → Script) (n : ℕ) → ((bs : List ℕ) → Within (f bs) n) → ((e : Fault) → Within (g e) n)
    → (r : Reply) → Within (either f g r) n
within_either f g n h k (response bs) = h bs
within_either f g n h k (failed e) = k e

pub within_if : (b : Bool) (x y : Script) (n : ℕ) → Within x n → Within y n → Within (if_else b x y) n
within_if true x y n h k = h
within_if false x y n h k = k

-- a fault, by its status byte
by_status_lem : (P : Script → Type 0) (f : ℕ → Script) (a : Script) (r : Fault) → ((s : ℕ) → P (f s)) → P a → P (by_status f a r)
by_status_lem P f a Transport h k = k
by_status_lem P f a TimeOut h k = k
by_status_lem P f a FalseStart h k = k
by_status_lem P f a BrokenFrame h k = k
by_status_lem P f a Length h k = k
by_status_lem P f a FrameKind h k = k
by_status_lem P f a Identifier h k = k
by_status_lem P f a Code h k = k
by_status_lem P f a (Status s) h k = h s
by_status_lem P f a ShortResponse h k = k
by_status_lem P f a NoCard h k = k
by_status_lem P f a CrcA h k = k
by_status_lem P f a Rate h k = k
by_status_lem P f a (CardStatus s t) h k = k
by_status_lem P f a OtherCard h k = k
by_status_lem P f a UidLayout h k = k

pub within_status : (f : ℕ → Script) (a : Script) (r : Fault) (n : ℕ) → ((s : ℕ) → Within (f s) n) → Within a n → Within (by_status f a r) n
within_status f a r n h k = by_status_lem (λ s. Within s n) f a r h k

-- the ends of a script
module _ (P : List (List ℕ) → Answer Byte → Type 0) where
  pub ends_status : (f : ℕ → Script) (a : Script) (r : Fault) (rs : List (List ℕ)) → ((s : ℕ) → Ends P (f s) rs) → Ends P a rs → Ends P (by_status f a r) rs
  ends_status f a r rs h k = by_status_lem (λ s. Ends P s rs) f a r h k

  pub ends_either : (f : List ℕ → Script) (g : Fault → Script) (rs : List (List ℕ)) → ((bs : List ℕ) → Ends P (f bs) (bs ∷ rs))
      → ((e : Fault) → OfExchange (failed e) → Ends P (g e) ([] ∷ rs)) → (r : Reply) → OfExchange r → Ends P (either f g r) (response_in r ∷ rs)
  ends_either f g rs h k (response bs) q = h bs
  ends_either f g rs h k (failed e) q = k e q

  pub ends_if : (b : Bool) (x y : Script) (rs : List (List ℕ)) → (T b → Ends P x rs) → (T (not b) → Ends P y rs) → Ends P (if_else b x y) rs
  ends_if true x y rs h k = h tt
  ends_if false x y rs h k = k tt

  -- a test of a length, with what it says
  pub ends_short : (bs : List ℕ) (m : ℕ) (x y : Script) (rs : List (List ℕ)) → (length bs < m → Ends P x rs) → (m ≤ length bs → Ends P y rs)
      → Ends P (if_else (ltb (length bs) m) x y) rs
  ends_short bs m x y rs h k = ends_if (ltb (length bs) m) x y rs (λ t. h (ltb→lt (length bs) m t)) (λ t. k (nltb→le (length bs) m t))

in_range_lem : (bs : List ℕ) (p : ℕ) → p < length bs → get_elem? bs p ≡ some (get_or bs p 0)
in_range_lem [] p h = absurd (not-suc-le-zero h)
in_range_lem (b ∷ bs) zero h = refl
in_range_lem (b ∷ bs) (suc p) h = in_range_lem bs p (le_of_suc-le-suc h)

-- the bound m comes from a hypothesis, and the test on numerals computes
pub reach : (bs : List ℕ) (p m : ℕ) → m ≤ length bs → T (ltb p m) → get_elem? bs p ≡ some (get_or bs p 0)
reach bs p m h t = in_range_lem bs p (omega (arith, ltb→lt p m t))

-- the same test, with what it says of each position
pub ends_long : (P : List (List ℕ) → Answer Byte → Type 0) (bs : List ℕ) (m : ℕ) (x y : Script) (rs : List (List ℕ)) → (length bs < m → Ends P x rs)
    → (m ≤ length bs → ((p : ℕ) → T (ltb p m) → get_elem? bs p ≡ some (get_or bs p 0)) → Ends P y rs) → Ends P (if_else (ltb (length bs) m) x y) rs
ends_long P bs m x y rs h k = ends_short P bs m x y rs h (λ l. k l (λ p t. reach bs p m l t))

pub part_placed : (rs : List (List ℕ)) (k : ℕ) (bs : List ℕ) (p n : ℕ) → response_to rs k ≡ bs → p + n ≤ length bs → PlacedBytes rs (part k bs p n)
unfolding part
part_placed rs k bs p zero e h = no_bytes
part_placed rs k bs p (suc n) e h = card_byte {k = k} {p = p} {b = get_or bs p 0} (rw e (in_range_lem bs p (omega arith))) (part_placed rs k bs (suc p) n e (omega arith))

pub placed-part : (rs : List (List ℕ)) (k : ℕ) (bs : List ℕ) (p n m : ℕ) → response_to rs k ≡ bs → m ≤ length bs → T (leb (p + n) m) → PlacedBytes rs (part k bs p n)
placed-part rs k bs p n m e h t = part_placed rs k bs p n e (omega (arith, leb→le (p + n) m t))

-- all but the last bytes, from a position on
pub placed_inner : (rs : List (List ℕ)) (k : ℕ) (bs : List ℕ) (p q : ℕ) → response_to rs k ≡ bs → T (leb p q) → PlacedBytes rs (part k bs p (length bs - q))
unfolding part
placed_inner rs k bs p q e t = go (dec_le q (length bs))
  where
    go : Dec (q ≤ length bs) → PlacedBytes rs (part k bs p (length bs - q))
    go (yes h) = part_placed rs k bs p (length bs - q) e (omega (arith, leb→le p q t))
    go (no h) = let z : length bs - q ≡ 0 = omega arith in rw z no_bytes

pub placed-rest : (rs : List (List ℕ)) (k : ℕ) (bs : List ℕ) (p : ℕ) → response_to rs k ≡ bs → PlacedBytes rs (rest k bs p)
unfolding rest part
placed-rest rs k bs p e = go (dec_le p (length bs))
  where
    go : Dec (p ≤ length bs) → PlacedBytes rs (part k bs p (length bs - p))
    go (yes h) = part_placed rs k bs p (length bs - p) e (omega arith)
    go (no h) = let z : length bs - p ≡ 0 = omega arith in rw z no_bytes

pub placed-append : (rs : List (List ℕ)) (xs ys : List Byte) → PlacedBytes rs xs → PlacedBytes rs ys → PlacedBytes rs (xs ++ ys)
placed-append rs xs ys no_bytes q = q
placed-append rs xs ys (own_byte p) q = own_byte (placed-append rs _ ys p q)
placed-append rs xs ys (card_byte e p) q = card_byte e (placed-append rs _ ys p q)

placed_own : (rs : List (List ℕ)) (l : List ℕ) → PlacedBytes rs (map own l)
placed_own rs [] = no_bytes
placed_own rs (b ∷ l) = own_byte (placed_own rs l)

-- ---- rules, for the form of an answer

pub formed : (rs : List (List ℕ)) (bs : List Byte) (F : Type 0) → PlacedBytes rs bs → F → PlacedBytes rs bs × F
formed rs bs F h k = (h, k)

pub cards_part : (k : ℕ) (bs : List ℕ) (p n : ℕ) → Cards (part k bs p n)
unfolding part
cards_part k bs p zero = tt
cards_part k bs p (suc n) = cards_part k bs (suc p) n

pub cards_rest : (k : ℕ) (bs : List ℕ) (p : ℕ) → Cards (rest k bs p)
unfolding rest
cards_rest k bs p = cards_part k bs p (length bs - p)

owns_own : (l : List ℕ) → Owns (map own l)
owns_own [] = tt
owns_own (b ∷ l) = owns_own l

-- the opening's answer, whose version is command 1
pub version_name : (rs : List (List ℕ)) (bs : List ℕ) → response_to rs 1 ≡ bs → version_need ≤ length bs
    → Final version_and_name rs (done (version_bytes 1 (get_or bs 0 0) (get_or bs 1 0) (get_or bs 2 0) ++ chipset_name (get_or bs 1 0) (get_or bs 2 0)))
unfolding part
version_name rs bs e h =
    let ver : ℕ = get_or bs 1 0 in
    let rev : ℕ = get_or bs 2 0 in (
      placed-append rs (part 1 bs 0 3) (chipset_name ver rev) (part_placed rs 1 bs 0 3 e (omega arith)) (placed_own rs (name_bytes ver rev)),
      record {
        ic = get_or bs 0 0;
        ver = ver;
        rev = rev;
        form = refl;
        own_name = owns_own (name_bytes ver rev);
      },
    )

pub first_byte : (bs : List ℕ) → T (not (is_empty bs)) → get_elem? bs 0 ≡ some (get_or bs 0 0)
first_byte [] h = absurd h
first_byte (b ∷ bs) h = refl

pub cards_flag : (rs : List (List ℕ)) (cards : List Byte) (status : ℕ) → Cards cards → IsResponseByte rs 0 0 status → CardsAndFlag (IsResponseByte rs) (cards ++ (own (status / more_bit % 2) ∷ []))
cards_flag rs cards status h k = record { cards = cards; status = status; form = refl; all_cards = h; source = k }

T→true : (t : Bool) → T t → t ≡ true
T→true true h = refl
T→true false h = absurd h

not-true : (t : Bool) → T (not t) → t ≡ false
not-true true h = absurd h
not-true false h = refl

pub rates_active : (bs : List ℕ) → T (eqb (get_or bs 0 0) 1) → 2 ≤ length bs
    → CardAndRates (IsResponseByte (bs ∷ [])) (byte_at 0 bs 0 ∷ (rate_bytes (rate (send_index bs)) ++ rate_bytes (rate (receive_index bs))))
rates_active bs h k =
    record { state = get_or bs 0 0; indices = get_or bs 1 0; form = rw (T→true (eqb (get_or bs 0 0) 1) h) refl; source = in_range_lem bs 1 k }

pub rates_none : (bs : List ℕ) → T (not (eqb (get_or bs 0 0) 1)) → 2 ≤ length bs
    → CardAndRates (IsResponseByte (bs ∷ [])) (byte_at 0 bs 0 ∷ (rate_bytes 0 ++ rate_bytes 0))
rates_none bs h k =
    record { state = get_or bs 0 0; indices = get_or bs 1 0; form = rw (not-true (eqb (get_or bs 0 0) 1) h) refl; source = in_range_lem bs 1 k }

pub dep_cards : (cards : List Byte) → Cards cards → DepAndCards (own atr_res_cmd0 ∷ own atr_res_cmd1 ∷ cards)
dep_cards cards h = record { cards = cards; form = refl; all_cards = h }

-- Type A's answer with two lengths, whose list is command 0
module _ (o : Form) (rs : List (List ℕ)) (list : List ℕ) (e : response_to rs 0 ≡ list) (long : uid_offset ≤ length list) where
  pub cards-placed : PlacedBytes rs (card_a list)
  cards-placed =
      let at : (p : ℕ) → p < uid_offset → get_elem? (response_to rs 0) p ≡ some (get_or list p 0) = λ p h. rw e (in_range_lem list p (omega arith)) in
      card_byte (at (sens_res_offset + 1) (omega arith)) (card_byte (at sens_res_offset (omega arith)) (card_byte (at sel_res_offset (omega arith)) (placed-rest rs 0 list uid_offset e)))

  pub target_answer_lem : T (is_target_data (drop target_offset list)) → Final o rs (uid_and_ats (card_a list) (uid_length list) (ats_length list))
  target_answer_lem t =
      let s = target_only (drop target_offset list) (T→true (is_target_data (drop target_offset list)) t) in
      let u : uid_length list ≡ length s.uid = sym (get_or-drop target_offset list 3 0) ∙ uid-length-at s.is in
      let a : ats_length list ≡ length s.ats =
      ap (λ k. get_or list k 0) (omega arith) ∙ (sym (get_or-drop target_offset list (4 + length s.uid) 0) ∙ ats-length-at s.is) in
      let length-byte : IsResponseByte rs 0 uid_length_offset (uid_length list) = rw e (in_range_lem list uid_length_offset (omega arith)) in (
        cards-placed,
        (cards_rest 0 list uid_offset, record { list = list; uid = s.uid; ats = s.ats; form = refl; target = s.is; uid_is = u; ats_is = a; source = length-byte }),
      )

-- for a script whose answer has card bytes alone; for any
pub ruleset correct_rules = (holds, ends_either, ends_status, ends_long, ends_if, formed, no_bytes, card_byte, reach, placed-rest, cards_rest)

pub ruleset sound_rules = (correct_rules, sound_if, sound_starts, sound_bitrate, sound_code, within_either, within_if, within_status, own_byte, placed-part, placed_inner, placed-append, cards_part, version_name, first_byte, cards_flag, rates_active, rates_none, dep_cards)
