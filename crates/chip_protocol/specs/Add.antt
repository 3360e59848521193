-- A card more in the field, a reply more of the card added last: 4 before 3, and nothing changes then.
use Rattle.std.specs.Prelude.{List, [], ◌∷◌, ◌++◌, ℕ, ◌-◌, leb, ltb, length, take}
use Rattle.std.proofs.Math.Option.{Option, none, some}
use Rattle.errors.specs.Choice.{pick}
use Rattle.errors.specs.declared.Refusal.{Refusal}
use Rattle.errors.specs.declared.Refusal.TheVariants.{OverLong, BadArgument}
use Rattle.targets.specs.declared.Bitrate.{Bitrate}
use Rattle.protocol.specs.Starts.{data_limit}
use Rattle.chip_protocol.specs.Names.{longest_list_data, longest_reply, most_cards}
use Rattle.chip_protocol.specs.Field.{StatedReply, Card, is_bitrate_of, wupb, reply_to, least_list_data, protocol_fits, is_type2_card, crc_fits, is_stated, reply_limit}
use Rattle.chip_protocol.specs.Chip.{card_in}
use Rattle.chip_protocol.specs.declared.Kind.{Kind}
use Rattle.chip_protocol.specs.declared.Kind.TheVariants.{TypeA, TypeB, TypeF, Dep}

-- the field then, or the refusal
pub data Added : Type 0 where
  added : List Card → Added
  refuses : Refusal → Added

-- ---- a card: kind, bitrate, list data, and the reply to WUPB, which is not looked at but of Type B

abbrev pub wake_up_reply : Kind → List ℕ → List ℕ
wake_up_reply TypeA w = []
wake_up_reply TypeB w = w
wake_up_reply TypeF w = []
wake_up_reply Dep w = []

abbrev pub first_replies : Kind → List ℕ → List StatedReply
first_replies TypeA w = []
first_replies TypeB w = record { sent = wupb; reply = w } ∷ []
first_replies TypeF w = []
first_replies Dep w = []

abbrev pub new_card : Kind → Bitrate → List ℕ → List ℕ → Card
new_card k r l w = record { kind = k; bitrate = r; list_data = l; replies = first_replies k w }

-- 4: a fifth card, a bitrate that is not of the kind, data too short for the discovery, byte 10 of Type B. 3: a response that passes a packet.
unfoldable pub add_card : List Card → Kind → Bitrate → List ℕ → List ℕ → Added
add_card f k r l w =
    pick (ltb (length f) most_cards)
    (pick (is_bitrate_of k r)
    (pick (leb (least_list_data k) (length l))
    (pick (protocol_fits k l)
    (pick (leb (length l) longest_list_data)
    (pick (leb (length (wake_up_reply k w)) longest_reply) (added (f ++ (new_card k r l w ∷ [])))
    (refuses OverLong)) (refuses OverLong)) (refuses BadArgument)) (refuses BadArgument)) (refuses BadArgument)) (refuses BadArgument)

-- ---- a reply of the card added last

abbrev pub with_reply : Card → List ℕ → List ℕ → Card
with_reply c sent reply =
    record { kind = c.kind; bitrate = c.bitrate; list_data = c.list_data; replies = c.replies ++ (record { sent = sent; reply = reply } ∷ []) }

-- 4: no card, a second reply to the same bytes, a Type 2 card's without its CRC_A. 3: a response that passes a packet, bytes that cannot be sent, a ninth reply.
unfoldable pub add_reply_to : List Card → Option Card → List ℕ → List ℕ → Added
add_reply_to f none sent reply = refuses BadArgument
add_reply_to f (some c) sent reply =
    pick (is_stated (reply_to c.replies sent)) (refuses BadArgument)
    (pick (crc_fits (is_type2_card c) reply)
    (pick (leb (length reply) longest_reply)
    (pick (leb (length sent) data_limit)
    (pick (ltb (length c.replies) (reply_limit c.kind)) (added (take (length f - 1) f ++ (with_reply c sent reply ∷ [])))
    (refuses OverLong)) (refuses OverLong)) (refuses OverLong)) (refuses BadArgument))

abbrev pub add_reply : List Card → List ℕ → List ℕ → Added
add_reply f sent reply = add_reply_to f (card_in f (length f - 1)) sent reply
