use Rattle.std.proofs.Common.{refl}
use Rattle.std.proofs.lemmas.Result.{err_from_is_err_and}
use Rattle.bench_codec.proofs.CodecLaws.{hex, not_hex, bytes, read_fits, read_part}
use Rattle.bench_codec.proofs.BlockLaws.{no_idm, not_four, no_pair, no_blocks, no_bytes, all_words, pair_read, pair_not_read, packet_made}
use Rattle.bench_codec.proofs.blocks.PacketLine.build.Goals as goal

pub returns-in_err-idm_len : goal.returns-in_err-idm_len
returns-in_err-idm_len c =
    let e = err_from_is_err_and c.from_residual.result c.from_residual.ensures.1 in
    let s = c.args.self in
    rw e.1 (no_idm s.kind s.idm.now s.pair.now s.blocks.now s.bytes.now (not_hex _ _ _ _ c.in_err-idm_len.ensures c.requires.0 c.room-idm.ensures _ refl))

pub returns-then-self-ne4 : goal.returns-then-self-ne4
returns-then-self-ne4 c =
    let s = c.args.self in
    not_four s.kind s.idm.now s.pair.now s.blocks.now s.bytes.now (hex _ _ _ _ c.in_ok-idm_len.ensures c.requires.0 c.room-idm.ensures _ refl) c.if-self-ne4.true

pub returns-in_err-read : goal.returns-in_err-read
returns-in_err-read c =
    let e = err_from_is_err_and c.from_residual-in_err-read.result c.from_residual-in_err-read.ensures.1 in
    let s = c.args.self in
    rw e.1
    (no_pair s.kind s.idm.now s.pair.now s.blocks.now s.bytes.now (hex _ _ _ _ c.in_ok-idm_len.ensures c.requires.0 c.room-idm.ensures _ refl) c.if-self-ne4.false
    (pair_not_read s.pair.now _ _ c.in_err-read.ensures c.if-self-ne4.false))

pub returns-in_err-blocks_len : goal.returns-in_err-blocks_len
returns-in_err-blocks_len c =
    let e = err_from_is_err_and c.from_residual-in_err-blocks_len.result c.from_residual-in_err-blocks_len.ensures.1 in
    let s = c.args.self in
    rw e.1
    (no_blocks s.kind s.idm.now s.pair.now s.blocks.now s.bytes.now (hex _ _ _ _ c.in_ok-idm_len.ensures c.requires.0 c.room-idm.ensures _ refl) c.if-self-ne4.false
    (pair_read s.pair.now _ _ c.in_ok-read.ensures c.if-self-ne4.false).0
    (not_hex _ _ _ _ c.in_err-blocks_len.ensures c.requires.1 c.room-blocks.ensures _ refl))

pub returns-in_err-bytes_len : goal.returns-in_err-bytes_len
returns-in_err-bytes_len c =
    let e = err_from_is_err_and c.from_residual-in_err-bytes_len.result c.from_residual-in_err-bytes_len.ensures.1 in
    let s = c.args.self in
    rw e.1
    (no_bytes s.kind s.idm.now s.pair.now s.blocks.now s.bytes.now (hex _ _ _ _ c.in_ok-idm_len.ensures c.requires.0 c.room-idm.ensures _ refl) c.if-self-ne4.false
    (pair_read s.pair.now _ _ c.in_ok-read.ensures c.if-self-ne4.false).0 (hex _ _ _ _ c.in_ok-blocks_len.ensures c.requires.1 c.room-blocks.ensures _ refl)
    (not_hex _ _ _ _ c.in_err-bytes_len.ensures c.requires.2 c.room-bytes.ensures _ refl))

pub slice_bounds-idm-end : goal.slice_bounds-idm-end
slice_bounds-idm-end c = read_fits _ _ _ _ c.in_ok-idm_len.ensures c.requires.0 c.room-idm.ensures _ refl

pub slice_bounds-fields-end : goal.slice_bounds-fields-end
slice_bounds-fields-end c = read_part _ _ _ _ c.in_ok-idm_len.ensures c.requires.0 c.room-idm.ensures _ refl

pub slice_bounds-blocks-end : goal.slice_bounds-blocks-end
slice_bounds-blocks-end c = read_fits _ _ _ _ c.in_ok-blocks_len.ensures c.requires.1 c.room-blocks.ensures _ refl

pub slice_bounds-fields-end-2 : goal.slice_bounds-fields-end-2
slice_bounds-fields-end-2 c = read_part _ _ _ _ c.in_ok-blocks_len.ensures c.requires.1 c.room-blocks.ensures _ refl

pub slice_bounds-bytes-end : goal.slice_bounds-bytes-end
slice_bounds-bytes-end c = read_fits _ _ _ _ c.in_ok-bytes_len.ensures c.requires.2 c.room-bytes.ensures _ refl

pub slice_bounds-fields-end-3 : goal.slice_bounds-fields-end-3
slice_bounds-fields-end-3 c = read_part _ _ _ _ c.in_ok-bytes_len.ensures c.requires.2 c.room-bytes.ensures _ refl

pub returns : goal.returns
returns c =
    let s = c.args.self in
    let i = hex _ _ _ _ c.in_ok-idm_len.ensures c.requires.0 c.room-idm.ensures _ refl in
    let p = pair_read s.pair.now _ _ c.in_ok-read.ensures c.if-self-ne4.false in
    let b = hex _ _ _ _ c.in_ok-blocks_len.ensures c.requires.1 c.room-blocks.ensures _ refl in
    let d = hex _ _ _ _ c.in_ok-bytes_len.ensures c.requires.2 c.room-bytes.ensures _ refl in
    rw (all_words s.kind s.idm.now s.pair.now s.blocks.now s.bytes.now i c.if-self-ne4.false p.0 b d)
    (packet_made s.kind _ _ _ _ _ _ _ c.build.result c.requires.3
    (rw (bytes _ _ _ _ c.in_ok-idm_len.ensures c.requires.0 c.room-idm.ensures _ refl, p.1, bytes _ _ _ _ c.in_ok-blocks_len.ensures c.requires.1 c.room-blocks.ensures _ refl, bytes _ _ _ _ c.in_ok-bytes_len.ensures c.requires.2 c.room-bytes.ensures _ refl)
    at c.build.ensures))
