use Rattle.std.proofs.Common.{Some, sym, ap, ◌∙◌, arith, rules}
use Rattle.framing.specs.Lists.{Bytes}
use Rattle.exchange.specs.Responses.{data_within}
use Rattle.exchange.proofs.Found.{no_frame, not_filled, no_data, filled}
use Rattle.exchange.proofs.filling_payload.Goals as goal

pub returns-in_default : goal.returns-in_default
returns-in_default c = no_frame _ _ _ c.format.ensures c.parse.ensures c.in_default.not-Some

pub returns-then-frame_length-packet : goal.returns-then-frame_length-packet
returns-then-frame_length-packet c = not_filled _ _ _ c.format.ensures c.parse.ensures _ c.in-Some.is _ c.frame_length.ensures c.if-frame_length-packet.true

pub returns-in_default-found : goal.returns-in_default-found
returns-in_default-found c = no_data _ _ _ c.format.ensures c.parse.ensures _ c.in-Some.is _ c.frame_length.ensures c.if-frame_length-packet.false c.in_default-found.not-Data

pub overflow_add-result : goal.overflow_add-result
overflow_add-result c =
    let p = c.args.packet.now in
    let bytes : Bytes p = λ k. (c.type_inv.packet k).fits in
    let inside = data_within _ p bytes _ _ _ (sym c.parse.ensures ∙ c.in-Some.is ∙ ap Some c.in-Data.is) in
    omega arith

pub slice_bounds-result-end : goal.slice_bounds-result-end
slice_bounds-result-end c =
    let p = c.args.packet.now in
    let bytes : Bytes p = λ k. (c.type_inv.packet k).fits in
    let inside = data_within _ p bytes _ _ _ (sym c.parse.ensures ∙ c.in-Some.is ∙ ap Some c.in-Data.is) in
    omega arith

pub returns : goal.returns
returns c = search (filled, rules)
