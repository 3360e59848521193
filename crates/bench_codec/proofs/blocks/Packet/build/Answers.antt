use Rattle.std.proofs.Common.{◌≡◌, ◌+◌, ◌*◌, get_or, arith}
use Rattle.bench_codec.specs.Codec.{block_fits, block_packet}
use Rattle.bench_codec.proofs.blocks.Packet.build.Goals as goal

pub returns-in-ReadRequest : goal.returns-in-ReadRequest
unfolding block_fits block_packet
returns-in-ReadRequest c = let e : 256 * get_or c.args.self.pair 0 0 + get_or c.args.self.pair 1 0 ≡ c.from_be_bytes-service.result = omega arith in rw (c.in-ReadRequest.is, e) c.build_read_request.ensures

pub returns-in-WriteRequest : goal.returns-in-WriteRequest
unfolding block_fits block_packet
returns-in-WriteRequest c = let e : 256 * get_or c.args.self.pair 0 0 + get_or c.args.self.pair 1 0 ≡ c.from_be_bytes-service.result = omega arith in rw (c.in-WriteRequest.is, e) c.build_write_request.ensures

pub returns-in-ReadReply : goal.returns-in-ReadReply
unfolding block_fits block_packet
returns-in-ReadReply c = rw c.in-ReadReply.is c.build_read_reply.ensures

pub returns-in-WriteReply : goal.returns-in-WriteReply
unfolding block_fits block_packet
returns-in-WriteReply c = rw c.in-WriteReply.is c.build_write_reply.ensures
