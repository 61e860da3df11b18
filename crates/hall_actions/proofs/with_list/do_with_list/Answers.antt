use Rattle.std.proofs.Common.{◌≡◌, ◌∷◌, refl, sym, ap, ◌∙◌, subst}
use Rattle.std.proofs.lemmas.List.Sorted.{IsPermutation-cons, IsPermutation-trans}
use Rattle.std.specs.Prelude.{Option, None, Some}
use Rattle.containers.specs.BoundedList.{spare}
use Rattle.dag_order.specs.Births.{root}
use Rattle.hall_parts.specs.HallNames.{DequeId, Each, table_of, quota_of, Event, LaneSlot, Running, ListSlot, ThreadId, IsAtPoint, Ended, kept_under}
use Rattle.hall_slots.specs.declared.event.Event.TheVariants.{Did, GaveUp, Suspended}
use Rattle.hall_parts.specs.Passed.RunEndVariants.{Finished}
use Rattle.hall_parts.specs.Puts.{MayPutListAndLane}
use Rattle.hall_parts.specs.Taken.{list_and_lane}
use Rattle.hall_parts.specs.Writes.{parts, told_note}
use Rattle.hall_parts.specs.declared.noting.Noting.TheVariants.{Does}
use Rattle.hall_parts.proofs.Ended.{kept_joins_do, root_ends_do}
use Rattle.hall_parts.proofs.Noted.{list_may}
use Rattle.hall_parts.proofs.Pauses.{dummies_do, give_ups_do, suspends_do}
use Rattle.hall_parts.proofs.Staying.{handed_stays_sound, root_stays_sound, suspended_stays_sound}
use Rattle.hall_parts.proofs.Taken.{on}
use Rattle.hall_parts.proofs.Untaken.{nothing_is_taken}
use Rattle.hall_actions.specs.WithList.{IsNotedFor, IsReadyForList, IsWithList}
use Rattle.hall_actions.specs.declared.with_list.ListEvent.{ListEvent}
use Rattle.hall_actions.proofs.Handed.{its_point, is_listed, is_newest, may_join}
use Rattle.hall_actions.proofs.ListEvents.{given_up_may, left_there, nobody_there, none_there}
use Rattle.hall_actions.proofs.Putting.{on_top_again}
use Rattle.hall_actions.proofs.Readied.{may_end}
use Rattle.hall_actions.proofs.Roomier.{crew_from, gone_from, has_from, leaves_from, shows_unowned_from, suspends_from}
use Rattle.hall_actions.proofs.with_list.do_with_list.Goals as goal

pub returns-in-GiveUp-clause-writes : goal.returns-in-GiveUp-clause-writes
returns-in-GiveUp-clause-writes c key seat given =
    let at = c.args.at in
    let deque = c.args.deque in
    let now = c.args.list.now in
    let r = subst (IsReadyForList key seat deque now at (spare c.args.memory.now.births)) c.in-GiveUp.is given in
    let gave = c.give_up in
    let items = c.push_top.ensures.items in
    let lane : LaneSlot = record { lane = c.push_top.new.self; running = None } in
    subst (λ (z : LaneSlot × Event × Option DequeId). MayPutListAndLane key seat deque gave.new.self z.0 (told_note seat.hand.note z.2 z.1))
    (sym c.left.ensures)
    (given_up_may key seat deque (Does (GaveUp deque) None) r.is.quota r.goes r.counting (on seat.hand.note None (GaveUp deque))
    r.was now gave.new.self r.is.lane lane r.more r.can.2 gave.ensures.places gave.ensures.rest refl
    (subst (Each (IsAtPoint (table_of key) (quota_of key))) (sym items) (r.is.point, r.is.under)) r.is.holds
    (λ pool. give_ups_do key seat.hand.note.worker deque (parts r.was pool r.is.lane) (parts gave.new.self pool lane)
    at.top at.lane.items at.running.worker at.running.period r.is.at refl refl items
    (shows_unowned_from r.was now gave.new.self deque at.running r.more gave.ensures.shown) r.can.0 r.can.1))

pub returns-in-Dummy-clause-writes : goal.returns-in-Dummy-clause-writes
returns-in-Dummy-clause-writes c key seat given =
    let at = c.args.at in
    let deque = c.args.deque in
    let now = c.args.list.now in
    let r = subst (IsReadyForList key seat deque now at (spare c.args.memory.now.births)) c.in-Dummy.is given in
    let gave = c.give_up-in-Dummy in
    let done = c.do_dummy-name in
    let did = done.ensures.acts in
    let running : Running = record { worker = at.running.worker; period = done.new.period } in
    let lane : LaneSlot = record { lane = done.new.lane; running = None } in
    subst (λ (z : LaneSlot × Event × Option DequeId). MayPutListAndLane key seat deque gave.new.self z.0 (told_note seat.hand.note z.2 z.1))
    (sym c.left-in-Dummy.ensures)
    (given_up_may key seat deque (Does (Did done.result) None) r.is.quota r.goes r.counting (on seat.hand.note None (Did done.result))
    r.was now gave.new.self r.is.lane lane r.more r.can.0 gave.ensures.places gave.ensures.rest refl
    (on_top_again key at.top did.now at.lane.items done.new.lane.items did.threads_are did.point r.is.point r.is.under) r.is.holds
    (λ pool. dummies_do key seat.hand.note.worker deque (parts r.was pool r.is.lane) (parts gave.new.self pool lane)
    at.top at.lane.items at.running.worker at.running.period r.is.at refl refl done.result done.new.period did
    (shows_unowned_from r.was now gave.new.self deque running r.more gave.ensures.shown) r.can.2))

pub returns-in-Wait-clause-writes : goal.returns-in-Wait-clause-writes
returns-in-Wait-clause-writes c key seat given =
    let at = c.args.at in
    let deque = c.args.deque in
    let now = c.args.list.now in
    let child = c.in-Wait.child in
    let r = subst (IsReadyForList key seat deque now at (spare c.args.memory.now.births)) c.in-Wait.is given in
    let gone = c.suspend in
    let alone = r.can.0 in
    let closes = r.can.1 in
    let waits = r.can.2 in
    let lane : LaneSlot = record { lane = at.lane; running = None } in
    subst (λ (z : LaneSlot × Event × Option DequeId). MayPutListAndLane key seat deque gone.new.list z.0 (told_note seat.hand.note z.2 z.1))
    (sym c.left-in-Wait.ensures)
    (subst (λ (t : ThreadId). MayPutListAndLane key seat deque gone.new.list lane (told_note seat.hand.note None (Suspended t))) (sym c.id_of-thread.ensures)
    (list_may key seat deque (Does (Suspended at.top.id) None) r.is.quota r.goes r.counting r.is.lane lane r.was gone.new.list r.is.holds
    (λ pool. suspends_do key seat.hand.note.worker deque (parts r.was pool r.is.lane) (parts gone.new.list pool lane)
    at.top at.lane.items at.running.worker at.running.period r.is.at refl refl alone alone child
    waits.newest waits.older (suspends_from r.was now gone.new.list deque at.running at.top r.more gone.ensures.shown)
    waits.children waits.open_one waits.joins_it (none_there r.was now r.more key at.top child waits) waits.next)
    (λ pool. suspended_stays_sound key seat deque r.was gone.new.list pool r.is.lane lane (told_note seat.hand.note None (Suspended at.top.id))
    closes.owner child at.top (on seat.hand.note None (Suspended at.top.id))
    (has_from r.was now deque closes.owner r.more.deques closes.has)
    (gone_from r.was now gone.new.list deque r.more.deques gone.ensures.places)
    (crew_from r.was now gone.new.list deque r.more.deques gone.ensures.rest)
    (IsPermutation-trans ((child, at.top) ∷ r.was.part.waiting.entries) ((child, at.top) ∷ now.part.waiting.entries) gone.new.list.part.waiting.entries
    (IsPermutation-cons (child, at.top) r.was.part.waiting.entries now.part.waiting.entries r.more.waiting.0) gone.ensures.waiting)
    (gone.ensures.results ∙ r.more.results) (waits.newest, waits.older, waits.children, waits.waits_for) r.is.point alone refl)))

pub returns-in-Join-clause-writes : goal.returns-in-Join-clause-writes
returns-in-Join-clause-writes c key seat given =
    let at = c.args.at in
    let deque = c.args.deque in
    let now = c.args.list.now in
    let child = c.in-Join.child in
    let r = subst (IsReadyForList key seat deque now at (spare c.args.memory.now.births)) c.in-Join.is given in
    let joins = r.can.0 in
    let done = c.do_join-name in
    let did = done.ensures.acts in
    let over = c.hand_over in
    let come = over.ensures.come in
    let point = its_point key now at.top child joins over.new.list.part.results over.new.top come r.is.point in
    let lane : LaneSlot = record { lane = done.new.lane; running = Some (record { worker = at.running.worker; period = done.new.period }) } in
    let points = on_top_again key over.new.top did.now at.lane.items done.new.lane.items did.threads_are did.point point r.is.under in
    list_may key seat deque (Does (Did done.result) (Some deque)) r.is.quota r.goes r.counting r.is.lane lane now over.new.list
    (subst (λ (l : ListSlot). seat.hand.holds ≡ list_and_lane deque l r.is.lane) (sym r.more) r.is.holds)
    (λ pool. kept_joins_do key seat.hand.note.worker deque (parts now pool r.is.lane) (parts over.new.list pool lane)
    at.top at.lane.items at.running.worker at.running.period r.is.at done.result done.new.period child over.new.top did refl
    over.ensures.shown (is_newest key now at.top child joins over.new.list over.new.top over.ensures.shown)
    (nothing_is_taken child over.new.top done.result pool done.ensures.words)
    (is_listed key now at.top child joins over.new.list.part.results over.new.top come r.is.point))
    (λ pool. handed_stays_sound key seat deque now over.new.list pool pool r.is.lane lane
    (told_note seat.hand.note (Some deque) (Did done.result)) child at.top over.new.top
    (on seat.hand.note (Some deque) (Did done.result)) over.ensures.shown come over.ensures.rest over.ensures.waiting (λ s. s) points)

pub returns-in-RootEnd-clause-writes : goal.returns-in-RootEnd-clause-writes
returns-in-RootEnd-clause-writes c key seat given =
    let at = c.args.at in
    let deque = c.args.deque in
    let now = c.args.list.now in
    let r = subst (IsReadyForList key seat deque now at (spare c.args.memory.now.births)) c.in-RootEnd.is given in
    let can = r.can in
    let was = r.was in
    let more = r.more in
    let ends = c.end_root-ended in
    let name = ends.result.0 in
    let ended = ends.result.1 in
    let did = ends.ensures.acts in
    let gone = c.leave_result.new.list in
    let finish = c.finish_of-finish.result in
    let list : ListSlot = record gone { end = Some (Finished finish) } in
    let running : Running = record { worker = at.running.worker; period = ends.new.period } in
    let lane : LaneSlot = record { lane = at.lane; running = None } in
    let root_id : Ended.id ended ≡ root = did.id ∙ can.root_id in
    let id_is = c.id_of-id.ensures ∙ can.root_id in
    let no_end = sym more.deques.end ∙ can.no_end in
    subst (λ (z : LaneSlot × Event × Option DequeId). MayPutListAndLane key seat deque list z.0 (told_note seat.hand.note z.2 z.1))
    (sym c.left-in-RootEnd.ensures)
    (list_may key seat deque (Does (Did name) None) r.is.quota r.goes r.counting r.is.lane lane was list r.is.holds
    (λ pool. root_ends_do key seat.hand.note.worker deque (parts was pool r.is.lane) (parts list pool lane)
    at.top at.lane.items at.running.worker at.running.period r.is.at name ends.new.period can.alone ended did
    (nobody_there was now more at.top.id can.leaves) can.alone refl gone
    (leaves_from was now gone deque running ended more c.leave_result.ensures.shown) finish refl refl can.root_label no_end can.listed)
    (λ pool. root_stays_sound key seat deque was gone pool r.is.lane lane (told_note seat.hand.note None (Did name))
    can.closes.owner ended finish (on seat.hand.note None (Did name))
    (has_from was now deque can.closes.owner more.deques can.closes.has)
    (gone_from was now gone deque more.deques c.leave_result.ensures.places)
    (crew_from was now gone deque more.deques c.leave_result.ensures.rest)
    (left_there was now more gone c.id_of-id.result root ended id_is c.leave_result.ensures.results)
    (subst (λ (i : ThreadId). kept_under gone.part.results i ≡ Some ended) id_is c.leave_result.ensures.kept)
    (c.leave_result.ensures.waiting ∙ more.waiting) root_id
    (did.result (table_of key) (quota_of key) r.is.point) can.alone refl no_end c.finish_of-finish.ensures))

pub do_dummy-name-requires-clause-next : goal.do_dummy-name-requires-clause-next
do_dummy-name-requires-clause-next c = (subst (IsWithList c.requires.can.0 c.args.deque c.args.list.now c.args.at) c.in-Dummy.is c.requires.can.2).1

pub suspend-requires-clause-room : goal.suspend-requires-clause-room
suspend-requires-clause-room c = (subst (IsWithList c.requires.can.0 c.args.deque c.args.list.now c.args.at) c.in-Wait.is c.requires.can.2).2.room

pub suspend-requires-clause-free : goal.suspend-requires-clause-free
suspend-requires-clause-free c = (subst (IsWithList c.requires.can.0 c.args.deque c.args.list.now c.args.at) c.in-Wait.is c.requires.can.2).2.free

pub end_root-ended-requires-clause-next : goal.end_root-ended-requires-clause-next
end_root-ended-requires-clause-next c = (subst (IsWithList c.requires.can.0 c.args.deque c.args.list.now c.args.at) c.in-RootEnd.is c.requires.can.2).next

pub end_root-ended-requires-clause-root : goal.end_root-ended-requires-clause-root
end_root-ended-requires-clause-root c = (subst (IsWithList c.requires.can.0 c.args.deque c.args.list.now c.args.at) c.in-RootEnd.is c.requires.can.2).root_label

pub leave_result-requires-clause-room : goal.leave_result-requires-clause-room
leave_result-requires-clause-room c = (subst (IsWithList c.requires.can.0 c.args.deque c.args.list.now c.args.at) c.in-RootEnd.is c.requires.can.2).leaves.room

pub leave_result-requires-clause-free : goal.leave_result-requires-clause-free
leave_result-requires-clause-free c = let can = subst (IsWithList c.requires.can.0 c.args.deque c.args.list.now c.args.at) c.in-RootEnd.is c.requires.can.2 in
    subst (λ (i : ThreadId). kept_under c.args.list.now.part.results i ≡ None) (sym c.id_of-id.ensures) can.leaves.free

pub returns-in-GiveUp-clause-notes : goal.returns-in-GiveUp-clause-notes
returns-in-GiveUp-clause-notes c = subst (λ (z : ListEvent × (LaneSlot × Event × Option DequeId)). IsNotedFor z.0 c.args.deque c.args.at.top z.1.1 z.1.2)
    (λ i. (sym c.in-GiveUp.is i, sym c.left.ensures i)) (refl, refl)

pub returns-in-Wait-clause-notes : goal.returns-in-Wait-clause-notes
returns-in-Wait-clause-notes c = subst (λ (z : ListEvent × (LaneSlot × Event × Option DequeId)). IsNotedFor z.0 c.args.deque c.args.at.top z.1.1 z.1.2)
    (λ i. (sym c.in-Wait.is i, sym c.left-in-Wait.ensures i)) (ap Suspended c.id_of-thread.ensures, refl)

pub returns-in-Dummy-clause-notes : goal.returns-in-Dummy-clause-notes
returns-in-Dummy-clause-notes c = subst (λ (z : ListEvent × (LaneSlot × Event × Option DequeId)). IsNotedFor z.0 c.args.deque c.args.at.top z.1.1 z.1.2)
    (λ i. (sym c.in-Dummy.is i, sym c.left-in-Dummy.ensures i)) (c.do_dummy-name.result, refl, refl)

pub returns-in-RootEnd-clause-notes : goal.returns-in-RootEnd-clause-notes
returns-in-RootEnd-clause-notes c = subst (λ (z : ListEvent × (LaneSlot × Event × Option DequeId)). IsNotedFor z.0 c.args.deque c.args.at.top z.1.1 z.1.2)
    (λ i. (sym c.in-RootEnd.is i, sym c.left-in-RootEnd.ensures i)) (c.end_root-ended.result.0, refl, refl)

pub returns-in-Join-clause-notes : goal.returns-in-Join-clause-notes
returns-in-Join-clause-notes c =
    subst (λ (e : ListEvent). IsNotedFor e c.args.deque c.args.at.top (Did c.do_join-name.result) (Some c.args.deque)) (sym c.in-Join.is)
    (c.do_join-name.result, refl, refl)

pub give_up-requires-clause-has : goal.give_up-requires-clause-has
give_up-requires-clause-has c = let closes = (subst (IsWithList c.requires.can.0 c.args.deque c.args.list.now c.args.at) c.in-GiveUp.is c.requires.can.2).2 in (closes.owner, closes.has)

pub give_up-requires-clause-room : goal.give_up-requires-clause-room
give_up-requires-clause-room c = (subst (IsWithList c.requires.can.0 c.args.deque c.args.list.now c.args.at) c.in-GiveUp.is c.requires.can.2).2.books

pub give_up-requires-in-Dummy-clause-has : goal.give_up-requires-in-Dummy-clause-has
give_up-requires-in-Dummy-clause-has c = let closes = (subst (IsWithList c.requires.can.0 c.args.deque c.args.list.now c.args.at) c.in-Dummy.is c.requires.can.2).0 in (closes.owner, closes.has)

pub give_up-requires-in-Dummy-clause-room : goal.give_up-requires-in-Dummy-clause-room
give_up-requires-in-Dummy-clause-room c = (subst (IsWithList c.requires.can.0 c.args.deque c.args.list.now c.args.at) c.in-Dummy.is c.requires.can.2).0.books

pub suspend-requires-clause-has : goal.suspend-requires-clause-has
suspend-requires-clause-has c = let closes = (subst (IsWithList c.requires.can.0 c.args.deque c.args.list.now c.args.at) c.in-Wait.is c.requires.can.2).1 in (closes.owner, closes.has)

pub suspend-requires-clause-books : goal.suspend-requires-clause-books
suspend-requires-clause-books c = (subst (IsWithList c.requires.can.0 c.args.deque c.args.list.now c.args.at) c.in-Wait.is c.requires.can.2).1.books

pub leave_result-requires-clause-has : goal.leave_result-requires-clause-has
leave_result-requires-clause-has c = let closes = (subst (IsWithList c.requires.can.0 c.args.deque c.args.list.now c.args.at) c.in-RootEnd.is c.requires.can.2).closes in (closes.owner, closes.has)

pub leave_result-requires-clause-books : goal.leave_result-requires-clause-books
leave_result-requires-clause-books c = (subst (IsWithList c.requires.can.0 c.args.deque c.args.list.now c.args.at) c.in-RootEnd.is c.requires.can.2).closes.books

pub hand_over-requires : goal.hand_over-requires
hand_over-requires c = (c.requires.can.0, (subst (IsWithList c.requires.can.0 c.args.deque c.args.list.now c.args.at) c.in-Join.is c.requires.can.2).0)

pub do_join-name-requires-clause-may : goal.do_join-name-requires-clause-may
do_join-name-requires-clause-may c = may_join c.requires.can.0 c.args.list.now c.args.at.top c.in-Join.child (subst (IsWithList c.requires.can.0 c.args.deque c.args.list.now c.args.at) c.in-Join.is c.requires.can.2).0
    c.hand_over.new.list.part.results c.hand_over.new.top c.hand_over.ensures.come c.requires.can.1 c.args.at.lane c.args.at.running.period
    c.args.memory.now.births c.requires.may

pub end_root-ended-requires-clause-may : goal.end_root-ended-requires-clause-may
end_root-ended-requires-clause-may c = may_end c.requires.may
