-- Responses in a lent array: what stands at its start, and that it fits a packet.
use Rattle.std.specs.Prelude.{◌≡◌, Result, Ok, Err, List, [], ◌∷◌, ℕ, ◌≤◌, take}
use Rattle.std.proofs.Math.Option.{Option, none, some}
use Rattle.protocol.specs.Names.{target_number}
use Rattle.chip_protocol.specs.Names.{longest_response}
use Rattle.chip_protocol.specs.Packets.{Response, responds, syntax_error}
use Rattle.chip_protocol.specs.Field.{Card}
use Rattle.simulated_chip.specs.declared.response.SyntaxError.{SyntaxError}

-- how many bytes it has, or that it is the manual's error
abbrev pub ResponseSize : Type 0
ResponseSize = Result ℕ SyntaxError

abbrev pub response_in : ResponseSize → List ℕ → Response
response_in (Ok n) out = responds (take n out)
response_in (Err e) out = syntax_error

abbrev pub Short : ResponseSize → Type 0
Short (Ok n) = n ≤ longest_response
Short (Err e) = Unit {0}

-- the response is put
pub record Puts (r : ResponseSize) (out : List ℕ) (x : Response) : Type 0 where
  pub response : response_in r out ≡ x
  pub short : Short r

-- a card's list data behind two bytes, or one byte
abbrev pub listed_or : ℕ → ℕ → Option Card → List ℕ
listed_or absent present none = absent ∷ []
listed_or absent present (some c) = present ∷ target_number ∷ c.list_data
