-- Cards and replies that are added or refused, by computation.
use Rattle.std.specs.Prelude.{◌≡◌, refl, [], ◌∷◌, replicate}
use Rattle.errors.specs.Choice.{pick, same}
use Rattle.errors.specs.declared.Refusal.TheVariants.{OverLong, BadArgument}
use Rattle.crc.specs.Crc.{checks, crc_bytes, crc_of, result, register_after, bits_in, bits, bit_in, polynomial}
use Rattle.targets.specs.declared.Bitrate.TheVariants.{B106A, B212F, B106B, B212B}
use Rattle.chip_protocol.specs.Field.{wupb, reply_to}
use Rattle.chip_protocol.specs.Add.{added, refuses, add_card, with_reply, add_reply_to, add_reply}
use Rattle.chip_protocol.specs.Samples.{tag, card_b, felica, partner}
use Rattle.chip_protocol.specs.declared.Kind.TheVariants.{TypeB, TypeF, Dep}

-- to unfold this is to unfold all that an addition computes with
unfoldable additions : Unit {0}
unfolding add_card add_reply_to reply_to pick same checks crc_bytes crc_of result register_after bits_in bits bit_in polynomial
additions = tt

-- ---- cards

type_b_lem : add_card (tag ∷ []) TypeB B106B card_b.list_data (0x50 ∷ 0x01 ∷ 0x02 ∷ 0x03 ∷ 0x04 ∷ []) ≡ added (tag ∷ card_b ∷ [])
unfolding additions
type_b_lem = refl

fifth : add_card (tag ∷ card_b ∷ felica ∷ partner ∷ []) Dep B106A [] [] ≡ refuses BadArgument
unfolding additions
fifth = refl

other_bitrate : add_card [] TypeB B212B card_b.list_data [] ≡ refuses BadArgument
unfolding additions
other_bitrate = refl

short_f : add_card [] TypeF B212F (replicate 17 0) [] ≡ refuses BadArgument
unfolding additions
short_f = refl

-- byte 10 with the bit 8
protocol_b : add_card [] TypeB B106B (replicate 12 0x09) [] ≡ refuses BadArgument
unfolding additions
protocol_b = refl

longest : add_card [] Dep B106A (replicate 1010 0) [] ≡ added (record { kind = Dep; bitrate = B106A; list_data = replicate 1010 0; replies = [] } ∷ [])
unfolding additions
longest = refl

over_long_lem : add_card [] Dep B106A (replicate 1011 0) [] ≡ refuses OverLong
unfolding additions
over_long_lem = refl

-- 4 before 3
both_bad : add_card [] Dep B106B (replicate 1011 0) [] ≡ refuses BadArgument
unfolding additions
both_bad = refl

-- ---- replies of the card added last

with_crc : add_reply (felica ∷ tag ∷ []) (0x30 ∷ 0x02 ∷ []) (0x00 ∷ 0x00 ∷ 0xA0 ∷ 0x1E ∷ []) ≡ added (felica ∷ with_reply tag (0x30 ∷ 0x02 ∷ []) (0x00 ∷ 0x00 ∷ 0xA0 ∷ 0x1E ∷ []) ∷ [])
unfolding additions
with_crc = refl

without_crc_lem : add_reply (felica ∷ tag ∷ []) (0x30 ∷ 0x02 ∷ []) (0x00 ∷ 0x00 ∷ 0x00 ∷ []) ≡ refuses BadArgument
unfolding additions
without_crc_lem = refl

second-reply : add_reply (tag ∷ []) (0x30 ∷ 0x01 ∷ []) [] ≡ refuses BadArgument
unfolding additions
second-reply = refl

-- the reply to WUPB is one of a Type B card's
second_wake_up : add_reply (card_b ∷ []) wupb [] ≡ refuses BadArgument
unfolding additions
second_wake_up = refl

no_card : add_reply [] [] [] ≡ refuses BadArgument
unfolding additions
no_card = refl

long_reply : add_reply (felica ∷ []) [] (replicate 1012 0) ≡ refuses OverLong
unfolding additions
long_reply = refl

long_sent : add_reply (felica ∷ []) (replicate 513 0) [] ≡ refuses OverLong
unfolding additions
long_sent = refl
