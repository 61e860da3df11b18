use Rattle.std.proofs.Common.{arith, ◌≡◌, ◌∙◌, ◌/◌, ◌%◌, ap, sym, slice_get, Some, w64}
use Rattle.std.proofs.lemmas.Int.{to_z-of_z}
use Rattle.std.proofs.lemmas.Option.{slice_get_read}
use Rattle.block_arena.specs.declared.piece.Piece.{Piece}
use Rattle.block_arena.proofs.Fronts.{shown-length, shown-get}
use Rattle.block_arena.proofs.numbers.Numbers.get.Goals as goal

pub returns-clause-value : goal.returns-clause-value
returns-clause-value c =
    let inside = c.self.inside in
    let at : slice_get inside.pieces.items (c.args.i / 16) ≡ Some c.index-piece.result.now =
    slice_get_read inside.pieces.items inside.pieces.len (c.args.i / 16) c.index-piece.result.now
    inside.pieces.ok.0 (omega arith) c.index-piece.ensures in
    let read = shown-get inside.pieces inside.len c.args.i c.args.self.now c.index-piece.result.now
    c.self.view_is at c.if-self-i.false in
    ap Some (to_z-of_z w64 c.get.result (record { sfits = c.get.type_inv }))
    ∙ sym c.get.ensures
    ∙ ap (λ (piece : Piece). slice_get piece.words (c.args.i % 16)) c.deref.ensures
    ∙ sym read

pub returns-clause-none : goal.returns-clause-none
returns-clause-none c =
    let inside = c.self.inside in
    let len = shown-length inside.pieces inside.len c.args.self.now c.self.view_is c.self.invariant.exact in
    (λ h. (cc), λ h. absurd (omega arith))
