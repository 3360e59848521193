-- N10's field of cards, and what is asked of it. `FieldFits` is what N10's sentences need; `FieldAllowed` asks for what the programs ask besides.
use Rattle.std.specs.Prelude.{◌≡◌, Bool, true, false, List, [], ◌∷◌, ℕ, ◌+◌, ◌/◌, ◌%◌, ◌≤◌, eqb, ltb, length, get_or}
use Rattle.std.proofs.Math.Option.{Option, none, some}
use Rattle.errors.specs.Choice.{pick, same}
use Rattle.framing.specs.Lists.{Bytes}
use Rattle.crc.specs.Crc.{type_a as crc_a, checks}
use Rattle.targets.specs.TypeA.{is_type2}
use Rattle.targets.specs.declared.Bitrate.{Bitrate}
use Rattle.targets.specs.declared.Bitrate.TheVariants.{B106A, B212F, B424F, B106B, B212B, B424B, B848B, Other}
use Rattle.protocol.specs.Names.{wupb_code, wupb_parameter, code106a, code212f, code424f, code106b}
use Rattle.protocol.specs.Starts.{data_limit, is106a}
use Rattle.chip_protocol.specs.Names.{longest_list_data, longest_reply, most_cards, most_replies, no_br_ty}
use Rattle.chip_protocol.specs.declared.Kind.{Kind}
use Rattle.chip_protocol.specs.declared.Kind.TheVariants.{TypeA, TypeB, TypeF, Dep}

-- ---- a card

-- to these bytes that reply
pub record StatedReply : Type 0 where
  pub sent : List ℕ
  pub reply : List ℕ

-- list data: what stands in InListPassiveTarget's response behind the number of targets and the target number; of DEP, in InJumpForDEP's behind status
-- and target number. The reply to WUPB is stated as any other.
pub record Card : Type 0 where
  pub kind : Kind
  pub bitrate : Bitrate
  pub list_data : List ℕ
  pub replies : List StatedReply

-- the bitrates that the discovery of a kind takes
abbrev pub is_bitrate_of : Kind → Bitrate → Bool
is_bitrate_of TypeA B106A = true
is_bitrate_of TypeA B212F = true
is_bitrate_of TypeA B424F = true
is_bitrate_of TypeA B106B = true
is_bitrate_of TypeA B212B = false
is_bitrate_of TypeA B424B = false
is_bitrate_of TypeA B848B = false
is_bitrate_of TypeA Other = false
is_bitrate_of TypeB B106A = false
is_bitrate_of TypeB B212F = false
is_bitrate_of TypeB B424F = false
is_bitrate_of TypeB B106B = true
is_bitrate_of TypeB B212B = false
is_bitrate_of TypeB B424B = false
is_bitrate_of TypeB B848B = false
is_bitrate_of TypeB Other = false
is_bitrate_of TypeF B106A = false
is_bitrate_of TypeF B212F = true
is_bitrate_of TypeF B424F = true
is_bitrate_of TypeF B106B = false
is_bitrate_of TypeF B212B = false
is_bitrate_of TypeF B424B = false
is_bitrate_of TypeF B848B = false
is_bitrate_of TypeF Other = false
is_bitrate_of Dep B106A = true
is_bitrate_of Dep B212F = true
is_bitrate_of Dep B424F = true
is_bitrate_of Dep B106B = false
is_bitrate_of Dep B212B = false
is_bitrate_of Dep B424B = false
is_bitrate_of Dep B848B = false
is_bitrate_of Dep Other = false

-- the manual's code of a bitrate: BrTy of InListPassiveTarget, BR of InJumpForDEP
abbrev pub br_ty : Bitrate → ℕ
br_ty B106A = code106a
br_ty B212F = code212f
br_ty B424F = code424f
br_ty B106B = code106b
br_ty B212B = no_br_ty
br_ty B424B = no_br_ty
br_ty B848B = no_br_ty
br_ty Other = no_br_ty

-- the kinds, told apart by number
abbrev pub kind_number : Kind → ℕ
kind_number TypeA = 0
kind_number TypeB = 1
kind_number TypeF = 2
kind_number Dep = 3

-- a card of the kind, at the bitrate that has this code
unfoldable pub is_at : Kind → ℕ → Card → Bool
is_at k code c = pick (eqb (kind_number c.kind) (kind_number k)) (eqb (br_ty c.bitrate) code) false

-- ---- replies

-- WUPB, to which a Type B card replies what its discovery hands out
abbrev pub wupb : List ℕ
wupb = wupb_code ∷ 0 ∷ wupb_parameter ∷ []

-- the stated reply to these bytes
unfoldable pub reply_to : List StatedReply → List ℕ → Option (List ℕ)
reply_to [] bytes = none
reply_to (x ∷ xs) bytes = pick (same x.sent bytes) (some x.reply) (reply_to xs bytes)

-- ---- what N10's sentences need

-- "long enough for the discovery"
abbrev pub least_list_data : Kind → ℕ
least_list_data TypeA = 4
least_list_data TypeB = 11
least_list_data TypeF = 18
least_list_data Dep = 0

-- "byte 10 of a Type B card's list data, masked with 0x09, is 0x01"
abbrev pub protocol_byte : ℕ
protocol_byte = 10

abbrev pub protocol_fits : Kind → List ℕ → Bool
protocol_fits TypeA l = true
protocol_fits TypeB l = pick (eqb (get_or l protocol_byte 0 % 2) 1) (eqb (get_or l protocol_byte 0 / 8 % 2) 0) false
protocol_fits TypeF l = true
protocol_fits Dep l = true

-- a Type 2 card: Type A at 106A whose SEL_RES, byte 2, says so
abbrev pub sel_res_byte : ℕ
sel_res_byte = 2

abbrev pub is_type2_at : Kind → Bitrate → List ℕ → Bool
is_type2_at TypeA r l = pick (is106a r) (is_type2 (get_or l sel_res_byte 0)) false
is_type2_at TypeB r l = false
is_type2_at TypeF r l = false
is_type2_at Dep r l = false

abbrev pub is_type2_card : Card → Bool
is_type2_card c = is_type2_at c.kind c.bitrate c.list_data

-- "a Type 2 card's over 2 bytes ends in its CRC_A"
abbrev pub crc_fits : Bool → List ℕ → Bool
crc_fits true r = pick (ltb 2 (length r)) (checks crc_a r) true
crc_fits false r = true

pub record ReplyFits (type2 : Bool) (r : List ℕ) : Type 0 where
  pub bytes : Bytes r
  pub short : length r ≤ longest_reply
  pub crc : crc_fits type2 r ≡ true

abbrev pub RepliesFit : Bool → List StatedReply → Type 0
RepliesFit type2 [] = Unit {0}
RepliesFit type2 (x ∷ xs) = ReplyFits type2 x.reply × RepliesFit type2 xs

-- a Type B card replies to WUPB
abbrev pub is_stated : Option (List ℕ) → Bool
is_stated none = false
is_stated (some r) = true

abbrev pub wakes_up : Kind → List StatedReply → Bool
wakes_up TypeA xs = true
wakes_up TypeB xs = is_stated (reply_to xs wupb)
wakes_up TypeF xs = true
wakes_up Dep xs = true

-- "Replies are long enough for the discovery and short enough for a packet"
pub record CardFits (c : Card) : Type 0 where
  pub bytes : Bytes c.list_data
  pub long : least_list_data c.kind ≤ length c.list_data
  pub short : length c.list_data ≤ longest_list_data
  pub protocol : protocol_fits c.kind c.list_data ≡ true
  pub wakes : wakes_up c.kind c.replies ≡ true
  pub replies : RepliesFit (is_type2_card c) c.replies

abbrev pub FieldFits : List Card → Type 0
FieldFits [] = Unit {0}
FieldFits (c ∷ cs) = CardFits c × FieldFits cs

-- ---- what the programs ask besides

-- eight replies, and Type B's to WUPB
abbrev pub reply_limit : Kind → ℕ
reply_limit TypeA = most_replies
reply_limit TypeB = most_replies + 1
reply_limit TypeF = most_replies
reply_limit Dep = most_replies

-- each can be sent, and no two are to the same bytes
abbrev pub RepliesAllowed : List StatedReply → Type 0
RepliesAllowed [] = Unit {0}
RepliesAllowed (x ∷ xs) = (length x.sent ≤ data_limit) × (is_stated (reply_to xs x.sent) ≡ false) × RepliesAllowed xs

pub record CardAllowed (c : Card) : Type 0 where
  pub fits : CardFits c
  pub bitrate : is_bitrate_of c.kind c.bitrate ≡ true
  pub few : length c.replies ≤ reply_limit c.kind
  pub replies : RepliesAllowed c.replies

abbrev pub CardsAllowed : List Card → Type 0
CardsAllowed [] = Unit {0}
CardsAllowed (c ∷ cs) = CardAllowed c × CardsAllowed cs

abbrev pub FieldAllowed : List Card → Type 0
FieldAllowed f = (length f ≤ most_cards) × CardsAllowed f
