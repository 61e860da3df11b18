use Rattle.std.proofs.Common.{sym, subst, ◌∙◌}
use Rattle.std.proofs.lemmas.Result.{IfOk-weaker}
use Rattle.deque_list.specs.Deques.{Deque}
use Rattle.deque_machine.specs.Moments.{Rises}
use Rattle.deque_machine.specs.Lists.{Each}
use Rattle.prefix_laws.specs.Listing.{births_behind}
use Rattle.prefix_laws.specs.DequeLabels.{AreLabelled}
use Rattle.prefix_laws.proofs.Sorting.{some_listed, all_labelled, threads_at, labels_rise}
use Rattle.prefix_laws.proofs.deque_labels.labels_of.Goals as goal

pub in_order-requires : goal.in_order-requires
in_order-requires c = some_listed c.args.s.now c.requires

pub labels_in-requires : goal.labels_in-requires
labels_in-requires c =
    let all = all_labelled c.args.s.now c.requires (births_behind c.in_ok-periods.periods.births.items) c.in_ok-periods.ensures.births in
    subst (λ bs. Each (λ deque. AreLabelled (births_behind bs) (Deque.items deque)) c.args.s.now.list.deques) (sym c.deref.ensures.value) all

pub returns-clause-moment : goal.returns-clause-moment
returns-clause-moment c = λ s terms run m has. IfOk-weaker c.labels_in.result _ _
    (λ labels is. is ∙ threads_at c.args.s.now s terms run m has) c.labels_in.ensures

pub returns-clause-rise : goal.returns-clause-rise
returns-clause-rise c = IfOk-weaker c.labels_in.result _ _ (λ labels is. subst Rises (sym is) (labels_rise c.args.s.now c.requires)) c.labels_in.ensures
