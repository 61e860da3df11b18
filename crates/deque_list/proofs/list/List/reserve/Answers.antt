-- The lane has more room.
use Rattle.std.proofs.Common.{sym, ◌≤◌, subst, ℕ, arith}
use Rattle.std.specs.Prelude.{OnOk}
use Rattle.deque_list.proofs.ViewLemmas.{lane_of_live}
use Rattle.deque_list.proofs.LaneLemmas.{kept_after, deques_stay, room_before, room_after, rest_after}
use Rattle.deque_list.proofs.list.List.reserve.Goals as goal

pub lane_mut-requires : goal.lane_mut-requires
lane_mut-requires g c = lane_of_live c.self.inside.order c.self.inside.lanes c.self.inside.next c.args.self.now c.self.view_is c.args.id c.self.invariant c.requires

pub invariant_of-self : goal.invariant_of-self
invariant_of-self g c = kept_after c.self.inside.order c.self.inside.lanes c.self.inside.next c.args.self.now c.self.view_is c.args.id c.lane_mut.result.now c.reserve.new.self c.self.invariant c.requires c.lane_mut.ensures.value

pub returns-clause-deques : goal.returns-clause-deques
returns-clause-deques g c = deques_stay c.self.inside.order c.self.inside.lanes c.self.inside.next c.args.self.now c.self.view_is c.args.id c.lane_mut.result.now c.reserve.new.self c.self.invariant c.requires c.lane_mut.ensures.value c.reserve.ensures.items

pub returns-clause-room : goal.returns-clause-room
returns-clause-room g c =
    let P : ℕ → Type 0 = λ n. OnOk c.reserve.result (1 ≤ n) in subst P (sym (room_after c.self.inside.order c.self.inside.lanes c.self.inside.next c.args.self.now c.self.view_is c.args.id c.lane_mut.result.now c.reserve.new.self c.self.invariant c.requires c.lane_mut.ensures.value)) c.reserve.ensures.room

pub returns-clause-keeps_room : goal.returns-clause-keeps_room
returns-clause-keeps_room g c =
    let before = room_before c.self.inside.order c.self.inside.lanes c.self.inside.next c.args.self.now c.self.view_is c.args.id c.lane_mut.result.now c.reserve.new.self c.self.invariant c.requires c.lane_mut.ensures.value in
    let after = room_after c.self.inside.order c.self.inside.lanes c.self.inside.next c.args.self.now c.self.view_is c.args.id c.lane_mut.result.now c.reserve.new.self c.self.invariant c.requires c.lane_mut.ensures.value in
    let kept = c.reserve.ensures.keeps_room in omega (arith, before, after, kept)

pub returns-clause-rest : goal.returns-clause-rest
returns-clause-rest g c = rest_after c.self.inside.order c.self.inside.lanes c.self.inside.next c.args.self.now c.self.view_is c.args.id c.lane_mut.result.now c.reserve.new.self c.self.invariant c.requires c.lane_mut.ensures.value

pub returns-clause-enough : goal.returns-clause-enough
returns-clause-enough g c =
    let before = room_before c.self.inside.order c.self.inside.lanes c.self.inside.next c.args.self.now c.self.view_is c.args.id c.lane_mut.result.now c.reserve.new.self c.self.invariant c.requires c.lane_mut.ensures.value in
    λ has. c.reserve.ensures.enough (omega (arith, before, has))
