-- The lane has one item more.
use Rattle.std.proofs.Common.{◌∙◌, ap, sym, arith, ◌∷◌}
use Rattle.std.specs.Prelude.{slice_set}
use Rattle.deque_list.proofs.ViewLemmas.{lane_of_live, items_shown}
use Rattle.deque_list.proofs.LaneLemmas.{kept_after, deques_after, room_before, room_after, rest_after, ids_after}
use Rattle.deque_list.proofs.list.List.push_top.Goals as goal

pub lane_mut-requires : goal.lane_mut-requires
lane_mut-requires g c = lane_of_live c.self.inside.order c.self.inside.lanes c.self.inside.next c.args.self.now c.self.view_is c.args.id c.self.invariant c.requires.live

pub push_top-requires : goal.push_top-requires
push_top-requires g c =
    let before = room_before c.self.inside.order c.self.inside.lanes c.self.inside.next c.args.self.now c.self.view_is c.args.id c.lane_mut.result.now c.lane_mut.result.now c.self.invariant c.requires.live c.lane_mut.ensures.value in
    let room = c.requires.room in omega (arith, before, room)

pub invariant_of-self : goal.invariant_of-self
invariant_of-self g c = kept_after c.self.inside.order c.self.inside.lanes c.self.inside.next c.args.self.now c.self.view_is c.args.id c.lane_mut.result.now c.push_top.new.self c.self.invariant c.requires.live c.lane_mut.ensures.value

pub returns-clause-deque : goal.returns-clause-deque
returns-clause-deque g c = λ rank deque at.
    let items = c.push_top.ensures.items ∙ ap (λ i. c.args.item ∷ i) (sym (items_shown c.self.inside.order c.self.inside.lanes c.self.inside.next c.args.self.now c.self.view_is c.args.id rank deque c.lane_mut.result.now at c.lane_mut.ensures.value)) in
    deques_after c.self.inside.order c.self.inside.lanes c.self.inside.next c.args.self.now c.self.view_is c.args.id c.lane_mut.result.now c.push_top.new.self c.self.invariant c.requires.live c.lane_mut.ensures.value rank deque at ∙ ap (λ i. slice_set c.args.self.now.deques rank (record deque { items = i })) items

pub returns-clause-room : goal.returns-clause-room
returns-clause-room g c =
    let before = room_before c.self.inside.order c.self.inside.lanes c.self.inside.next c.args.self.now c.self.view_is c.args.id c.lane_mut.result.now c.push_top.new.self c.self.invariant c.requires.live c.lane_mut.ensures.value in
    let after = room_after c.self.inside.order c.self.inside.lanes c.self.inside.next c.args.self.now c.self.view_is c.args.id c.lane_mut.result.now c.push_top.new.self c.self.invariant c.requires.live c.lane_mut.ensures.value in
    let spent = c.push_top.ensures.spare in omega (arith, before, after, spent)

pub returns-clause-rest : goal.returns-clause-rest
returns-clause-rest g c = rest_after c.self.inside.order c.self.inside.lanes c.self.inside.next c.args.self.now c.self.view_is c.args.id c.lane_mut.result.now c.push_top.new.self c.self.invariant c.requires.live c.lane_mut.ensures.value

pub returns-clause-ids : goal.returns-clause-ids
returns-clause-ids g c = ids_after c.self.inside.order c.self.inside.lanes c.self.inside.next c.args.self.now c.self.view_is c.args.id c.lane_mut.result.now c.push_top.new.self c.self.invariant c.requires.live c.lane_mut.ensures.value
