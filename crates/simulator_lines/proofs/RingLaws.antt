-- Laws of the ring of packets.
use Rattle.std.specs.Prelude.{◌≡◌, ℕ, zero, suc, ◌+◌, ◌-◌, ◌%◌, ◌<◌, ◌≤◌, List, [], ◌∷◌, ◌++◌, length, get_or, take, drop, set}
use mathlib.Core.Path.{refl, sym, ap, ap₂, ◌∙◌}
use native.Mathlib.Numerals.{add-one}
use native.Mathlib.Omega.{arith}
use borrow.Author.Tests.{lt-ltb, le-ltb}
use lib.ListN.{length-take}
use lib.Seq.{get_or-set_same, get_or-set_other, take-append_seam}
use Rattle.errors.specs.Choice.{pick}
use Rattle.bench.specs.Texts.{over, Placed, placed, put_at}
use Rattle.bench.specs.TextLaws.{put_there}
use Rattle.chip_protocol.specs.Channel.{simulated, behind_next}
use Rattle.chip_protocol.specs.Names.{longest_packet}
use Rattle.simulated_chip.specs.Counted.{list_from, length_from, from_last, from-same}
use Rattle.simulator_lines.specs.Ring.{places_limit, kept_with, packet_in, no_packet, packet_at, unread_in}
use Rattle.simulator_lines.specs.declared.channel.Packet.{Packet}
use Rattle.simulator_lines.specs.declared.channel.Unread.{Unread}

unread_length : (u : Unread) → length (unread_in u) ≡ u.count
unread_length u = length_from (packet_at u.places) u.count u.first

-- ---- a packet more

module _ (places : List Packet) (first count at : ℕ) where
  pub full_with : (t : List ℕ) → places_limit ≤ count → unread_in (record { places = places; first = first; count = count }) ≡ kept_with (unread_in (record { places = places; first = first; count = count })) t
  unfolding kept_with pick
  full_with t h = rw (le-ltb (length (unread_in (record { places = places; first = first; count = count }))) places_limit (let e = unread_length (record { places = places; first = first; count = count }) in omega arith))

  pub room_with : (x : Packet) (t : List ℕ) → count < places_limit → at ≡ (first % places_limit + count) % places_limit → length places ≡ places_limit → packet_in x ≡ t
      → unread_in (record { places = set places at x; first = first; count = count + 1 }) ≡ kept_with (unread_in (record { places = places; first = first; count = count })) t
  unfolding kept_with pick
  room_with x t few place long part =
      let f : ℕ → List ℕ = packet_at places in
      let g : ℕ → List ℕ = packet_at (set places at x) in
      rw (lt-ltb (length (unread_in (record { places = places; first = first; count = count }))) places_limit (let e = unread_length (record { places = places; first = first; count = count }) in omega arith))
      (ap (λ (i : ℕ). list_from g i first) (add-one count)
      ∙ from_last g count first
      ∙ ap₂ (λ (y : List (List ℕ)) (z : List ℕ). y ++ (z ∷ []))
      (from-same g f count first (λ k a b. ap packet_in (get_or-set_other places at (k % places_limit) x no_packet (λ e. omega arith))))
      (ap (λ (i : ℕ). packet_in (get_or (set places at x) i no_packet)) here ∙ ap packet_in (get_or-set_same places at x no_packet (omega arith)) ∙ part))
    where
      here : (first + count) % places_limit ≡ at
      here = omega arith

-- ---- the next packet

-- the same places, whichever number they have
from_place : (places : List Packet) (n i j : ℕ) → i % places_limit ≡ j % places_limit → list_from (packet_at places) n i ≡ list_from (packet_at places) n j
unfolding list_from
from_place places zero i j h = refl
from_place places (suc n) i j h =
    ap₂ (λ (x : List ℕ) (l : List (List ℕ)). x ∷ l) (ap (λ (k : ℕ). packet_in (get_or places k no_packet)) h) (from_place places n (suc i) (suc j) (omega arith))

module _ (u : Unread) where
  pub none_behind : u.count ≤ 0 → unread_in u ≡ behind_next simulated (unread_in u)
  unfolding list_from
  none_behind h = ap (λ (n : ℕ). list_from (packet_at u.places) n u.first) none ∙ sym (ap (λ (n : ℕ). behind_next simulated (list_from (packet_at u.places) n u.first)) none)
    where
      none : u.count ≡ 0
      none = omega arith

  -- the next packet
  pub next-packet : 0 < u.count → unread_in u ≡ packet_at u.places u.first ∷ behind_next simulated (unread_in u)
  unfolding list_from
  next-packet some = ap (λ (n : ℕ). list_from (packet_at u.places) n u.first) one_more
      ∙ ap (λ (n : ℕ). packet_at u.places u.first ∷ behind_next simulated (list_from (packet_at u.places) n u.first)) (sym one_more)
    where
      one_more : u.count ≡ suc (u.count - 1)
      one_more = omega arith

  pub next-behind : 0 < u.count → unread_in (record { places = u.places; first = (u.first % places_limit + 1) % places_limit; count = u.count - 1 }) ≡ behind_next simulated (unread_in u)
  unfolding list_from
  next-behind some =
      from_place u.places (u.count - 1) ((u.first % places_limit + 1) % places_limit) (suc u.first) (omega arith)
      ∙ sym (ap (λ (n : ℕ). behind_next simulated (list_from (packet_at u.places) n u.first)) one_more)
    where
      one_more : u.count ≡ suc (u.count - 1)
      one_more = omega arith

-- ---- a packet in its place

pub kept-packet : (t p b o : List ℕ) (n : ℕ) → p ≡ take longest_packet t → length b ≡ longest_packet → placed n o ≡ put_at 0 p b → packet_in (record { bytes = o; len = length p }) ≡ take longest_packet t
unfolding over
kept-packet t p b o n part room put =
    let short : length p ≤ longest_packet = omega (arith, ap length part, length-take longest_packet t) in
    let there : o ≡ over 0 p b = ap (λ (x : Placed). x.buffer) (put ∙ sym (put_there p b 0 (omega arith))) in
    ap (take (length p)) there ∙ take-append_seam p (drop (0 + length p) b) ∙ part
