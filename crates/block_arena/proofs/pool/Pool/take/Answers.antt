use Rattle.std.proofs.Common.{◌≡◌, ◌∙◌, ◌*◌, arith}
use Rattle.block_arena.specs.Size.{words_taken}
use Rattle.block_arena.proofs.Fronts.{shown-zeros}
use Rattle.block_arena.proofs.Regions.{shown-taken}
use Rattle.block_arena.proofs.pool.Pool.take.Goals as goal

pub returns-clause-block : goal.returns-clause-block
returns-clause-block c =
    let free = rw c.from-2.ensures at c.if-self-asked.false in
    shown-zeros c.clear_all.new.pieces c.args.words _ c.args.shell c.clear_all.ensures.zeros (omega arith)
    (c.clear_all.ensures.room ∙ c.move_tail.ensures.to_room ∙ c.into_list-pieces.ensures.room)

pub returns-clause-taken : goal.returns-clause-taken
returns-clause-taken c =
    let asked : c.from.result * c.from-2.result ≡ words_taken c.args.words = rw c.from-2.ensures (omega arith) in
    shown-taken c.args.self.now c.self.inside.capacity c.self.inside.live c.self.inside.high _ _
    (words_taken c.args.words) c.self.view_is asked c.max-self-inside.ensures
