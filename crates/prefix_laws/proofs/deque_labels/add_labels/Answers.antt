use Rattle.std.proofs.Common.{sym, ap, ◌∙◌}
use Rattle.std.proofs.Math.Logic.{∥∥₁_map}
use Rattle.thread_frames.specs.Views.{label_of}
use Rattle.thread_frames.specs.declared.thread.Thread.{Thread}
use Rattle.prefix_laws.specs.Listing.{births_behind}
use Rattle.prefix_laws.proofs.Sorting.{its_label, known_label, labelled_more}
use Rattle.prefix_laws.proofs.deque_labels.add_labels.Goals as goal

pub label_of-requires : goal.label_of-requires
label_of-requires c = ∥∥₁_map
    (known_label (births_behind c.args.births.now) c.args.lane.now.items c.threads.place c.in-Some.thread.now c.id.result c.requires (sym c.in-Some.ensures) (c.id.ensures ∙ ap (λ (x : Thread). x.id) c.get.ensures))
    (λ h. (label_of c.in-Some.thread.now, h))

pub threads-preserved : goal.threads-preserved
threads-preserved c =
    let births = births_behind c.args.births.now in let x = c.in-Some.thread.now in
    c.in_ok-push.ensures.items
    ∙ labelled_more c.args.labels.now.items c.threads.labels.items c.in_ok-label_of.field-0 c.args.lane.now.items c.threads.place x (sym c.in-Some.ensures) c.threads.invariant
    (its_label births c.id.result c.in_ok-label_of.field-0 (label_of x) c.in_ok-label_of.ensures
    (known_label births c.args.lane.now.items c.threads.place x c.id.result c.requires (sym c.in-Some.ensures) (c.id.ensures ∙ ap (λ (x : Thread). x.id) c.get.ensures)))
