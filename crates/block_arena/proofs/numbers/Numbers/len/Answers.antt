use Rattle.std.proofs.Common.{sym, arith}
use Rattle.block_arena.proofs.Fronts.{shown-length, shown-room}
use Rattle.block_arena.proofs.numbers.Numbers.len.Goals as goal

pub returns : goal.returns
returns c =
    let inside = c.self.inside in
    let len = shown-length inside.pieces inside.len c.args.self.now c.self.view_is c.self.invariant.exact in
    let room = shown-room inside.pieces inside.len c.args.self.now c.self.view_is in
    record {
      value = sym len;
      greatest = rw len (omega arith);
      room = rw (len, room) (omega arith);
    }
