-- A line that is put together from the parts in which it is read.
use Rattle.std.specs.Prelude.{◌≡◌, Option, Some, None, Bool, false, List, [], ◌∷◌, ◌++◌, ℕ, ◌+◌, ◌≤◌, ◌<◌, eqb, ltb, length, take, drop}
use Rattle.std.proofs.Math.Seq.{slice}
use Rattle.errors.specs.Choice.{pick}
use Rattle.octets.specs.Bytes.{index_of}
use Rattle.bench.specs.declared.lines.Given.{Given}
use Rattle.bench.specs.declared.lines.Unread.{Unread}
use Rattle.bench.specs.declared.lines.Line.{Line}
use Rattle.bench.specs.declared.lines.Line.TheVariants.{Text, OverLong, End}

abbrev pub feed : ℕ
feed = 10

-- how many bytes stand before the first line feed: all of them where there is none
abbrev pub before_feed : List ℕ → ℕ
before_feed b = index_of feed b

abbrev pub NoFeed : List ℕ → Type 0
NoFeed b = before_feed b ≡ length b

-- a line's buffer l with the text at its start, as much of it as the buffer takes
unfoldable pub with_text : List ℕ → List ℕ → List ℕ
with_text text l = take (length l) text ++ drop (length text) l

-- n counts k bytes for a buffer of r: it is k, or nothing where the buffer does not take them
abbrev pub Counted : Option ℕ → ℕ → ℕ → Type 0
Counted (Some n) k r = (n ≡ k) × (k ≤ r)
Counted None k r = r < k

-- the text was put into a line's buffer l, which became m, and n counts it
pub record Begun (text l : List ℕ) (n : Option ℕ) (m : List ℕ) : Type 0 where
  pub count : Counted n (length text) (length l)
  pub put : m ≡ with_text text l

-- a line of n bytes, of which the buffer l has the first ones
unfoldable pub line_of : ℕ → List ℕ → Line
line_of n l = pick (ltb (length l) n) OverLong (Text n)

-- the last n bytes of the input
unfoldable pub end_of : ℕ → List ℕ → Line
end_of n l = pick (eqb n 0) End (line_of n l)

abbrev pub nothing : Unread
nothing = record { from = 0; to = 0 }

-- the line that was counted
abbrev pub counted_line : Option ℕ → Line
counted_line (Some n) = Text n
counted_line None = OverLong

-- the last one of the input
unfoldable pub last_line : Option ℕ → Line
last_line (Some n) = pick (eqb n 0) End (Text n)
last_line None = OverLong

abbrev pub last_of : Option ℕ → Given
last_of n = record { line = last_line n; unread = nothing }

-- what is unread of a buffer of n bytes: nothing where the places are none of the buffer's
unfoldable pub unread_of : Unread → ℕ → Unread
unread_of h n = pick (ltb n h.to) nothing (pick (ltb h.to h.from) nothing h)

-- the unread bytes of the buffer b
unfoldable pub unread_in : Unread → List ℕ → List ℕ
unread_in h b = slice (unread_of h (length b)).from (unread_of h (length b)).to b

-- what is given, the buffer and the line's buffer after it
pub record Next : Type 0 where
  pub given : Given
  pub buffer : List ℕ
  pub line : List ℕ

abbrev pub next_of : Given → List ℕ → List ℕ → Next
next_of g b l = record { given = g; buffer = b; line = l }

-- the line of the unread bytes of b, up to their line feed
unfoldable pub unread_line : Unread → List ℕ → List ℕ → Next
unread_line h b l =
    let n : ℕ = before_feed (unread_in h b) in
    let behind : Unread = record { from = (unread_of h (length b)).from + n + 1; to = (unread_of h (length b)).to } in
    next_of (record { line = line_of n l; unread = behind }) b (with_text (take n (unread_in h b)) l)

-- Of the unread bytes and those that came from the input none is lost, and none made up: they are the text of the line, the line
-- feed where one ended it, and what is unread afterwards. t is the line that is given, and its buffer l became m.
pub record NextLine (unread l : List ℕ) (t : Line) (m after : List ℕ) : Type 0 where
  pub came : List ℕ
  pub text : List ℕ
  pub fed : Bool
  pub all : unread ++ came ≡ text ++ (pick fed (feed ∷ []) [] ++ after)
  -- the first line feed ends the line; without one, all bytes are the line's, and no byte is no line
  pub first : NoFeed text
  pub last : fed ≡ false → after ≡ []
  pub line : t ≡ pick fed (line_of (length text) l) (end_of (length text) l)
  pub put : m ≡ with_text text l
