use Rattle.std.proofs.Common.{◌≡◌, ◌∷◌, ◌++◌, refl, sym, ◌∙◌, ap, subst, map, arith}
use Rattle.std.proofs.Math.Logic.{∥∥₁_map₂}
use Rattle.std.proofs.Common.{Option}
use Rattle.thread_frames.specs.Views.{released_by, result_of, child_shown, told_as, all_brought, label_of}
use Rattle.thread_frames.specs.Children.{IsResultFor}
use Rattle.thread_frames.specs.Points.{At}
use Rattle.thread_frames.specs.declared.open_child.OpenChild.{OpenChild}
use Rattle.thread_frames.proofs.Places.{find, none_awaited, given, newest_written}
use Rattle.thread_frames.proofs.Delivering.{told_given, words_given, at_given}
use Rattle.thread_frames.proofs.thread.Thread.deliver.Goals as goal

pub unreachable-requires : goal.unreachable-requires
unreachable-requires c = none_awaited (label_of c.args.self.now) c.args.child c.args.self.now.children.items (sym c.in_default.ensures) c.requires.awaited

pub index_mut-requires : goal.index_mut-requires
index_mut-requires c =
    let f = find c.args.child.id c.args.self.now.children.items c.in-Some.place (sym c.in-Some.ensures) in
    let below = f.0.below in
    let long = c.args.self.now.children.ok.0 in
    omega (arith, below, long)

pub returns-clause-children : goal.returns-clause-children
returns-clause-children c =
    let e = c.args.child in
    let f = find e.id c.args.self.now.children.items c.in-Some.place (sym c.in-Some.ensures) in
    let now : c.index_mut.result.now ≡ f.0.child = c.index_mut.ensures.value ∙ f.0.got c.index_mut.result.now in
    ap (map child_shown) (f.0.written (given c.index_mut.result.now e))
    ∙ ap (λ (x : OpenChild). map child_shown (f.0.left ++ given x e ∷ f.0.right)) now
    ∙ f.1.changed e

pub returns-clause-next : goal.returns-clause-next
returns-clause-next c =
    let b = c.args.self.now in
    let e = c.args.child in
    let f = find e.id b.children.items c.in-Some.place (sym c.in-Some.ensures) in
    let now : c.index_mut.result.now ≡ f.0.child = c.index_mut.ensures.value ∙ f.0.got c.index_mut.result.now in
    ap (λ xs. told_as xs b.prepared) (f.0.written (given c.index_mut.result.now e) ∙ ap (λ (x : OpenChild). f.0.left ++ given x e ∷ f.0.right) now)
    ∙ told_given f.0.left f.0.child f.0.right e b.prepared
    ∙ ap (λ xs. told_as xs b.prepared) (sym f.0.is)

pub returns-clause-words : goal.returns-clause-words
returns-clause-words c =
    let b = c.args.self.now in
    let e = c.args.child in
    let f = find e.id b.children.items c.in-Some.place (sym c.in-Some.ensures) in
    let now : c.index_mut.result.now ≡ f.0.child = c.index_mut.ensures.value ∙ f.0.got c.index_mut.result.now in
    let fits : IsResultFor (label_of b) e (child_shown f.0.child) = f.1.awaited (label_of b) e refl c.requires.awaited in
    let new = ap all_brought (f.0.written (given c.index_mut.result.now e) ∙ ap (λ (x : OpenChild). f.0.left ++ given x e ∷ f.0.right) now) in
    let more = words_given f.0.left f.0.child f.0.right e fits.waits in
    let old = ap all_brought f.0.is in
    omega (arith, new, more, old)

pub returns-clause-point : goal.returns-clause-point
returns-clause-point c = λ t k at result.
    let b = c.args.self.now in
    let e = c.args.child in
    let f = find e.id b.children.items c.in-Some.place (sym c.in-Some.ensures) in
    let now : c.index_mut.result.now ≡ f.0.child = c.index_mut.ensures.value ∙ f.0.got c.index_mut.result.now in
    let fits : IsResultFor (label_of b) e (child_shown f.0.child) = f.1.awaited (label_of b) e refl c.requires.awaited in
    let new = f.0.written (given c.index_mut.result.now e) ∙ ap (λ (x : OpenChild). f.0.left ++ given x e ∷ f.0.right) now in
    record {
      of_program = at.of_program;
      at = λ setting of. ∥∥₁_map₂ (at.at setting of) (result.at setting of) (λ a h.
          subst (λ xs. At setting t b.func b.run xs b.record_block b.prepared) (sym new)
          (at_given setting t b.func b.run b.record_block b.prepared f.0.left f.0.child f.0.right e fits h
          (subst (λ xs. At setting t b.func b.run xs b.record_block b.prepared) f.0.is a)));
    }

pub returns-clause-joins : goal.returns-clause-joins
returns-clause-joins c = λ only.
    let b = c.args.self.now in
    ap (λ (o : Option OpenChild). released_by b (result_of o))
    (newest_written c.args.child.id b.children.items c.in-Some.place (given c.index_mut.result.now c.args.child) only (sym c.in-Some.ensures))
