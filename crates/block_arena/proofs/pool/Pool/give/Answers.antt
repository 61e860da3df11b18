use Rattle.std.proofs.Common.{◌∙◌, ap, arith}
use Rattle.block_arena.proofs.Fronts.{shown-length}
use Rattle.block_arena.proofs.pool.Pool.give.Goals as goal

pub move_tail-requires-clause-room : goal.move_tail-requires-clause-room
move_tail-requires-clause-room c =
    let inside = c.numbers.inside in
    let same = c.numbers.view_is ∙ c.block.view_is in
    let len = shown-length inside.pieces inside.len c.args.block same c.numbers.invariant.exact in
    let out = rw len at c.requires in
    let live = ap (λ pool. pool.live) c.self.view_is in
    omega arith

pub invariant_of-self : goal.invariant_of-self
invariant_of-self c =
    let inside = c.numbers.inside in
    let same = c.numbers.view_is ∙ c.block.view_is in
    let len = shown-length inside.pieces inside.len c.args.block same c.numbers.invariant.exact in
    let out = rw len at c.requires in
    let words = rw len at c.words.ensures in
    let live = ap (λ pool. pool.live) c.self.view_is in
    record {
      each_piece = omega arith;
      room_for_all = omega arith;
      sound = record {
        whole = omega arith;
        whole_live = omega arith;
        raised = omega arith;
        within = omega arith;
        greatest = omega arith;
      };
    }
