use Rattle.std.proofs.Common.{arith, ◌≡◌, ◌/◌, slice_get, Some, w64}
use Rattle.std.proofs.lemmas.Int.{to_z-of_z}
use Rattle.std.proofs.lemmas.Option.{slice_get_read}
use Rattle.block_arena.proofs.Fronts.{shown-length, shown-set}
use Rattle.block_arena.proofs.numbers.Numbers.set.Goals as goal

pub returns-clause-refused : goal.returns-clause-refused
returns-clause-refused c =
    let inside = c.self.inside in
    let len = shown-length inside.pieces inside.len c.args.self.now c.self.view_is c.self.invariant.exact in
    (λ h. (cc), λ h. absurd (omega arith))

pub returns-clause-ok : goal.returns-clause-ok
returns-clause-ok c =
    let inside = c.self.inside in
    let at : slice_get inside.pieces.items (c.args.i / 16) ≡ Some c.index_mut-piece.result.now =
    slice_get_read inside.pieces.items inside.pieces.len (c.args.i / 16) c.index_mut-piece.result.now
    inside.pieces.ok.0 (omega arith) c.index_mut-piece.ensures.value in
    let value = to_z-of_z w64 c.args.value c.ranges.value in
    let written = rw (c.deref_mut.ensures.value, value) at c.set.ensures in
    shown-set inside.pieces inside.len c.args.i c.args.self.now c.index_mut-piece.result.now _ c.args.value
    c.self.view_is at written c.if-self-i.false
