-- The new deque has a lane with its item, to the right of the other.
use Rattle.std.proofs.Common.{◌∙◌, sym, ap, subst, List, Err, Some, Option, ◌+◌, [], ◌∷◌, slice_get}
use Rattle.std.specs.Prelude.{insert, slice_index_or}
use Rattle.deque_list.specs.Lanes.{LaneView}
use Rattle.deque_list.specs.DequeLists.{IsKept, IsPrepared}
use Rattle.deque_list.specs.declared.deque_id.DequeId.{DequeId}
use Rattle.deque_list.specs.Ids.{IsLive, IsSmallestFree}
use Rattle.deque_list.specs.Deques.{deque_ids}
use Rattle.deque_list.proofs.ViewLemmas.{live_in_order, ids_shown}
use Rattle.deque_list.proofs.ChangeLemmas.{inserted_kept, inserted_shown, inserted_others, inserted_ids}
use Rattle.deque_list.proofs.list.List.insert_right.Goals as goal

pub returns-in-Err-clause-full : goal.returns-in-Err-clause-full
returns-in-Err-clause-full g c = λ deques. (
  λ is. (c.room_right.ensures.full deques).0 (c.in-Err.is ∙ ap (λ refused. Err refused) is),
  λ both. let full = (c.room_right.ensures.full deques).1 both in let was = c.in-Err.is in cc (full, was),
)

pub insert_where_few-id-requires-clause-live : goal.insert_where_few-id-requires-clause-live
insert_where_few-id-requires-clause-live g c =
    let P : List DequeId → Type 0 = λ ids. IsLive ids c.args.of in
    live_in_order c.self.inside.order c.self.inside.lanes c.self.inside.next c.room_right.new.self c.self.view_is c.args.of (subst P (ap (λ deques. deque_ids deques) (sym c.room_right.ensures.rest.0)) c.requires)

pub invariant_of-self : goal.invariant_of-self
invariant_of-self g c =
    let P : List DequeId → Type 0 = λ ids. IsLive ids c.args.of in
    let live = live_in_order c.self.inside.order c.self.inside.lanes c.self.inside.next c.room_right.new.self c.self.view_is c.args.of (subst P (ap (λ deques. deque_ids deques) (sym c.room_right.ensures.rest.0)) c.requires) in
    let Q : Option (LaneView g.row.T.Denot) → Type 0 = λ next. IsKept c.insert_where_few-id.new.self c.put.new.self next in
    subst Q (sym c.take.ensures.after) (inserted_kept c.self.inside.order c.self.inside.lanes c.self.inside.next c.room_right.new.self c.self.view_is c.self.invariant c.insert_where_few-id.new.self c.put.new.self c.insert_where_few-id.ensures.most
    c.args.of c.insert_where_few-id.result (Some c.args.owner) c.push_top.new.self c.insert_where_few-id.ensures.places c.insert_where_few-id.ensures.id c.insert_where_few-id.ensures.below c.put.ensures live)

pub returns-clause-ok : goal.returns-clause-ok
returns-clause-ok g c = λ rank deque at.
    let P : Option (LaneView g.row.T.Denot) → Type 0 = λ next. IsPrepared c.self.inside.order c.self.inside.lanes next in
    let prepared : IsPrepared c.self.inside.order c.self.inside.lanes (Some c.in-Some.lane) = subst P (sym c.take.ensures.value ∙ c.in-Some.is) c.self.invariant.prepared in
    let items = c.push_top.ensures.items ∙ ap (λ items. c.args.item ∷ items) prepared.0 in
    inserted_shown c.self.inside.order c.self.inside.lanes c.self.inside.next c.room_right.new.self c.self.view_is c.self.invariant c.insert_where_few-id.new.self c.put.new.self c.insert_where_few-id.ensures.most
    c.args.of c.insert_where_few-id.result (Some c.args.owner) c.push_top.new.self c.insert_where_few-id.ensures.places c.insert_where_few-id.ensures.id c.insert_where_few-id.ensures.below c.put.ensures rank deque
    (ap (λ deques. slice_get deques rank) c.room_right.ensures.rest.0 ∙ at.0, at.1)
    ∙ (ap (λ items. insert c.room_right.new.self.deques (rank + 1) (record { id = c.insert_where_few-id.result; owner = Some c.args.owner; items = items })) items
    ∙ ap (λ deques. insert deques (rank + 1) (record { id = c.insert_where_few-id.result; owner = Some c.args.owner; items = c.args.item ∷ [] })) c.room_right.ensures.rest.0)

pub returns-clause-id : goal.returns-clause-id
returns-clause-id g c =
    let P : List DequeId → Type 0 = λ ids. IsSmallestFree ids c.insert_where_few-id.result in
    subst P (sym (ids_shown c.self.inside.order c.self.inside.lanes c.self.inside.next c.room_right.new.self c.self.view_is) ∙ ap (λ deques. deque_ids deques) c.room_right.ensures.rest.0) c.insert_where_few-id.ensures.id

pub returns-clause-others : goal.returns-clause-others
returns-clause-others g c = λ other differs.
    inserted_others c.self.inside.order c.self.inside.lanes c.self.inside.next c.room_right.new.self c.self.view_is c.self.invariant c.insert_where_few-id.new.self c.put.new.self c.insert_where_few-id.ensures.most
    c.args.of c.insert_where_few-id.result (Some c.args.owner) c.push_top.new.self c.insert_where_few-id.ensures.places c.insert_where_few-id.ensures.id c.insert_where_few-id.ensures.below c.put.ensures other differs ∙ ap (λ rooms. slice_index_or rooms other.0 0) c.room_right.ensures.rest.2

pub returns-clause-ids : goal.returns-clause-ids
returns-clause-ids g c = λ rank here.
    let same = ap (λ deques. deque_ids deques) c.room_right.ensures.rest.0 in
    inserted_ids c.self.inside.order c.self.inside.lanes c.self.inside.next c.room_right.new.self c.self.view_is c.self.invariant c.insert_where_few-id.new.self c.put.new.self c.insert_where_few-id.ensures.most
    c.args.of c.insert_where_few-id.result (Some c.args.owner) c.push_top.new.self c.insert_where_few-id.ensures.places c.insert_where_few-id.ensures.id c.insert_where_few-id.ensures.below c.put.ensures
    c.insert_where_few-id.ensures.ids rank (ap (λ ids. slice_get ids rank) same ∙ here)
    ∙ ap (λ ids. insert ids (rank + 1) c.insert_where_few-id.result) same
