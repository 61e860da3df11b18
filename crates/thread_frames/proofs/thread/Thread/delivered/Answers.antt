use Rattle.std.proofs.Common.{sym, ◌∙◌, ap, arith, is_some}
use Rattle.thread_frames.proofs.Places.{find, none_delivered}
use Rattle.thread_frames.specs.declared.open_child.OpenChild.{OpenChild}
use Rattle.thread_frames.proofs.thread.Thread.delivered.Goals as goal

pub index-requires : goal.index-requires
index-requires c =
    let f = find c.args.child c.args.self.now.children.items c.in-Some.place (sym c.in-Some.ensures) in
    let below = f.0.below in
    let long = c.args.self.now.children.ok.0 in
    omega (arith, below, long)

pub returns-in-Some : goal.returns-in-Some
returns-in-Some c =
    let f = find c.args.child c.args.self.now.children.items c.in-Some.place (sym c.in-Some.ensures) in
    c.is_some.ensures ∙ ap (λ (x : OpenChild). is_some x.ended) (c.index.ensures ∙ f.0.got c.index.result.now) ∙ sym f.1.told

pub returns-in-None : goal.returns-in-None
returns-in-None c = sym (none_delivered c.args.child c.args.self.now.children.items (sym c.in-None.ensures))
