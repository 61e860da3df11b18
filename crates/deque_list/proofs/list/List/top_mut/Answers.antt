-- The top item of the deque's lane is lent.
use Rattle.std.proofs.Common.{◌∙◌, ap, sym, slice_get}
use Rattle.std.specs.Option.{ghost_name_of}
use borrow.Follows.Closed.{read_of}
use Rattle.deque_list.proofs.ViewLemmas.{lane_of_live, items_shown}
use Rattle.deque_list.specs.LaneLends.{with_top}
use Rattle.deque_list.proofs.LaneLemmas.{kept_after}
use Rattle.deque_list.proofs.TopLemmas.{top_shown, none_shown}
use Rattle.deque_list.proofs.list.List.top_mut.Goals as goal

pub lane_mut-requires : goal.lane_mut-requires
lane_mut-requires g c = lane_of_live c.self.inside.order c.self.inside.lanes c.self.inside.next c.args.self.now c.self.view_is c.args.id c.self.invariant c.requires

pub invariant_of-self-lent : goal.invariant_of-self-lent
invariant_of-self-lent g c = λ _. (
  λ w. kept_after c.self.inside.order c.self.inside.lanes c.self.inside.next c.args.self.now c.self.view_is c.args.id c.lane_mut.result.now (with_top c.lane_mut.result.now w) c.self.invariant c.requires c.lane_mut.ensures.value,
  kept_after c.self.inside.order c.self.inside.lanes c.self.inside.next c.args.self.now c.self.view_is c.args.id c.lane_mut.result.now c.lane_mut.result.now c.self.invariant c.requires c.lane_mut.ensures.value,
)

pub returns : goal.returns
returns g c = (
  λ i. read_of (ghost_name_of c.top_mut.result)
      (λ (w : g.row.T.Denot). top_shown c.self.inside.order c.self.inside.lanes c.self.inside.next c.args.self.now c.self.view_is c.args.id c.lane_mut.result.now c.lane_mut.ensures.value w i)
      (none_shown c.self.inside.order c.self.inside.lanes c.self.inside.next c.args.self.now c.self.view_is c.args.id c.lane_mut.result.now c.lane_mut.ensures.value i),
  record {
    writes_back = tt;
    item = λ rank deque at. c.top_mut.ensures.value ∙ ap (λ items. slice_get items 0)
        (sym (items_shown c.self.inside.order c.self.inside.lanes c.self.inside.next c.args.self.now c.self.view_is c.args.id rank deque c.lane_mut.result.now at c.lane_mut.ensures.value));
  },
)
