-- The top item leaves the lane.
use Rattle.std.proofs.Common.{◌∙◌, ap, sym, slice_get, ℕ, ◌≡◌, ◌+◌, subst, MatchOption}
use Rattle.std.specs.Prelude.{slice_set, drop}
use Rattle.deque_list.proofs.ViewLemmas.{lane_of_live, items_shown}
use Rattle.deque_list.proofs.LaneLemmas.{kept_after, deques_after, room_before, room_after, rest_after, ids_after}
use Rattle.deque_list.specs.DequeLists.{lane_room}
use Rattle.deque_list.proofs.list.List.pop_top.Goals as goal

pub lane_mut-requires : goal.lane_mut-requires
lane_mut-requires g c = lane_of_live c.self.inside.order c.self.inside.lanes c.self.inside.next c.args.self.now c.self.view_is c.args.id c.self.invariant c.requires

pub invariant_of-self : goal.invariant_of-self
invariant_of-self g c = kept_after c.self.inside.order c.self.inside.lanes c.self.inside.next c.args.self.now c.self.view_is c.args.id c.lane_mut.result.now c.pop_top.new.self c.self.invariant c.requires c.lane_mut.ensures.value

pub returns-clause-item : goal.returns-clause-item
returns-clause-item g c = λ rank deque at.
    c.pop_top.ensures.item ∙ ap (λ i. slice_get i 0) (sym (items_shown c.self.inside.order c.self.inside.lanes c.self.inside.next c.args.self.now c.self.view_is c.args.id rank deque c.lane_mut.result.now at c.lane_mut.ensures.value))

pub returns-clause-deque : goal.returns-clause-deque
returns-clause-deque g c = λ rank deque at.
    let items = c.pop_top.ensures.rest ∙ ap (λ i. drop 1 i) (sym (items_shown c.self.inside.order c.self.inside.lanes c.self.inside.next c.args.self.now c.self.view_is c.args.id rank deque c.lane_mut.result.now at c.lane_mut.ensures.value)) in
    deques_after c.self.inside.order c.self.inside.lanes c.self.inside.next c.args.self.now c.self.view_is c.args.id c.lane_mut.result.now c.pop_top.new.self c.self.invariant c.requires c.lane_mut.ensures.value rank deque at ∙ ap (λ i. slice_set c.args.self.now.deques rank (record deque { items = i })) items

pub returns-clause-ids : goal.returns-clause-ids
returns-clause-ids g c = ids_after c.self.inside.order c.self.inside.lanes c.self.inside.next c.args.self.now c.self.view_is c.args.id c.lane_mut.result.now c.pop_top.new.self c.self.invariant c.requires c.lane_mut.ensures.value

pub returns-clause-room : goal.returns-clause-room
returns-clause-room g c =
    let before = room_before c.self.inside.order c.self.inside.lanes c.self.inside.next c.args.self.now c.self.view_is c.args.id c.lane_mut.result.now c.pop_top.new.self c.self.invariant c.requires c.lane_mut.ensures.value in
    let after = room_after c.self.inside.order c.self.inside.lanes c.self.inside.next c.args.self.now c.self.view_is c.args.id c.lane_mut.result.now c.pop_top.new.self c.self.invariant c.requires c.lane_mut.ensures.value in
    let Before : ℕ → Type 0 = λ n. MatchOption c.pop_top.result (c.pop_top.new.self.spare ≡ n) (λ _. c.pop_top.new.self.spare ≡ n + 1) in
    let After : ℕ → Type 0 = λ n. MatchOption c.pop_top.result (n ≡ lane_room c.args.self.now c.args.id) (λ _. n ≡ lane_room c.args.self.now c.args.id + 1) in
    subst After (sym after) (subst Before (sym before) c.pop_top.ensures.room)

pub returns-clause-rest : goal.returns-clause-rest
returns-clause-rest g c = rest_after c.self.inside.order c.self.inside.lanes c.self.inside.next c.args.self.now c.self.view_is c.args.id c.lane_mut.result.now c.pop_top.new.self c.self.invariant c.requires c.lane_mut.ensures.value
