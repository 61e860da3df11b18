use Rattle.std.proofs.Common.{arith}
use Rattle.block_arena.proofs.Fronts.{shown-length, shown-room, shown-joined}
use Rattle.block_arena.proofs.numbers.Numbers.join.Goals as goal

pub overflow_add-whole : goal.overflow_add-whole
overflow_add-whole c =
    let len = shown-length c.left.inside.pieces c.left.inside.len c.args.left c.left.view_is c.left.invariant.exact in
    let more = shown-length c.right.inside.pieces c.right.inside.len c.args.right c.right.view_is c.right.invariant.exact in
    let fits = rw (len, more) at c.requires.fits in
    omega arith

pub move_tail-requires-clause-room : goal.move_tail-requires-clause-room
move_tail-requires-clause-room c =
    let len = shown-length c.left.inside.pieces c.left.inside.len c.args.left c.left.view_is c.left.invariant.exact in
    let more = shown-length c.right.inside.pieces c.right.inside.len c.args.right c.right.view_is c.right.invariant.exact in
    let room = shown-room c.left.inside.pieces c.left.inside.len c.args.left c.left.view_is in
    let fits = rw (len, more, room) at c.requires.room in
    omega arith

pub invariant_of-whole : goal.invariant_of-whole
invariant_of-whole c =
    let len = shown-length c.left.inside.pieces c.left.inside.len c.args.left c.left.view_is c.left.invariant.exact in
    let more = shown-length c.right.inside.pieces c.right.inside.len c.args.right c.right.view_is c.right.invariant.exact in
    let whole = rw len at c.requires.whole in
    let fits = rw (len, more) at c.requires.fits in
    record {
      exact = omega arith;
      greatest = omega arith;
      room_fits = omega arith;
    }

pub returns-clause-block : goal.returns-clause-block
returns-clause-block c =
    let len = shown-length c.left.inside.pieces c.left.inside.len c.args.left c.left.view_is c.left.invariant.exact in
    let whole = rw len at c.requires.whole in
    shown-joined c.left.inside.pieces c.right.inside.pieces c.move_tail.new.to c.left.inside.len c.right.inside.len
    c.args.left c.args.right c.left.view_is c.right.view_is c.move_tail.ensures.moved c.move_tail.ensures.to_room
    c.left.invariant.exact whole
