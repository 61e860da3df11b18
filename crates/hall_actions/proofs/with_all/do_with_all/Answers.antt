use Rattle.std.proofs.Common.{◌≡◌, ◌∷◌, [], refl, sym, ap, ◌∙◌, subst}
use Rattle.std.specs.Prelude.{None, Some}
use Rattle.containers.specs.BoundedList.{spare}
use Rattle.hall_parts.specs.HallNames.{Each, table_of, quota_of, pool_shown, LaneSlot, Running, ListSlot, ThreadId, IsAtPoint, join_words_of, label_of}
use Rattle.hall_parts.specs.HallNames.{Ended, kept_under}
use Rattle.hall_slots.specs.declared.event.Event.TheVariants.{Did}
use Rattle.hall_parts.specs.ListCalls.{TakesWaiting}
use Rattle.hall_parts.specs.Passed.Points.{words_at_end}
use Rattle.hall_parts.specs.Taken.{all_three}
use Rattle.hall_parts.specs.Writes.{parts, told_note}
use Rattle.hall_parts.specs.declared.noting.Noting.TheVariants.{Does}
use Rattle.hall_parts.proofs.Ended.{kept_joins_do, leaving_ends_do, waking_ends_do}
use Rattle.hall_parts.proofs.Noted.{all_may}
use Rattle.hall_parts.proofs.Staying.{handed_stays_sound, left_stays_sound, woken_stays_sound}
use Rattle.hall_parts.proofs.Taken.{on}
use Rattle.thread_frames.specs.declared.next.Next.TheVariants as nexts
use Rattle.hall_actions.specs.WithAll.{IsReadyForAll, IsWithAll, owned_with}
use Rattle.hall_actions.specs.declared.with_all.WholeEvent.{WholeEvent}
use Rattle.hall_actions.proofs.Handed.{its_point, is_listed, is_newest, may_join}
use Rattle.hall_actions.proofs.ListEvents.{left_there, nobody_there}
use Rattle.hall_actions.proofs.Putting.{on_top_again}
use Rattle.hall_actions.proofs.Readied.{given_sound, may_end}
use Rattle.hall_actions.proofs.Roomier.{crew_from, gone_from, has_from, leaves_from, takes_from}
use Rattle.hall_actions.proofs.with_all.do_with_all.Goals as goal

pub returns-in-Join-clause-writes : goal.returns-in-Join-clause-writes
returns-in-Join-clause-writes c key seat given =
    let at = c.args.at in
    let deque = c.args.deque in
    let now = c.args.list.now in
    let child = c.in-Join.child in
    let r = subst (IsReadyForAll key seat deque now c.args.pool.now at (spare c.args.memory.now.births)) c.in-Join.is given in
    let joins = r.can.0 in
    let done = c.do_join_giving-name in
    let did = done.ensures.acts in
    let over = c.hand_over in
    let come = over.ensures.come in
    let point = its_point key now at.top child joins over.new.list.part.results over.new.top come r.is.point in
    let pool = done.new.pool in
    let lane : LaneSlot = record { lane = done.new.lane; running = Some (record { worker = at.running.worker; period = done.new.period }) } in
    let points = on_top_again key over.new.top did.now at.lane.items done.new.lane.items did.threads_are did.point point r.is.under in
    all_may key seat deque (Does (Did done.result) (Some deque)) r.is.quota r.goes r.counting r.is.lane lane now over.new.list r.pool_was pool
    (subst (λ (l : ListSlot). seat.hand.holds ≡ all_three deque l r.pool_was r.is.lane) (sym r.more) r.is.holds)
    (kept_joins_do key seat.hand.note.worker deque (parts now r.pool_was r.is.lane) (parts over.new.list pool lane)
    at.top at.lane.items at.running.worker at.running.period r.is.at done.result done.new.period child over.new.top did refl
    over.ensures.shown (is_newest key now at.top child joins over.new.list over.new.top over.ensures.shown)
    (takes_from (nexts.Join child) over.new.top done.result r.pool_was c.args.pool.now (pool_shown pool) r.same
    (done.ensures.words child))
    (is_listed key now at.top child joins over.new.list.part.results over.new.top come r.is.point))
    (handed_stays_sound key seat deque now over.new.list r.pool_was pool r.is.lane lane
    (told_note seat.hand.note (Some deque) (Did done.result)) child at.top over.new.top
    (on seat.hand.note (Some deque) (Did done.result)) over.ensures.shown come over.ensures.rest over.ensures.waiting
    (λ before. given_sound key c.args.pool.now pool (join_words_of over.new.top) done.ensures.pool.sum r.pool_ready.sound done.ensures.pool.pool) points)

pub returns-in-Wake-clause-writes : goal.returns-in-Wake-clause-writes
returns-in-Wake-clause-writes c key seat given =
    let at = c.args.at in
    let deque = c.args.deque in
    let now = c.args.list.now in
    let r = subst (IsReadyForAll key seat deque now c.args.pool.now at (spare c.args.memory.now.births)) c.in-Wake.is given in
    let ends = r.can.0 in
    let wakes = r.can.1 in
    let woken = c.wake_in.ensures.woken wakes.parent (ap (kept_under now.part.waiting) c.id_of-id.ensures ∙ wakes.waits) in
    let done = c.end_above-name in
    let did = done.ensures.acts in
    let given = did.given wakes.parent [] (woken.0 ∙ ap (λ ts. wakes.parent ∷ ts) ends.alone) in
    let taken = subst (λ (i : ThreadId). TakesWaiting now c.wake_in.new.list i wakes.parent) c.id_of-id.ensures woken.1 in
    let list = c.wake_in.new.list in
    let pool = done.new.pool in
    let lane : LaneSlot = record { lane = done.new.lane; running = Some (record { worker = at.running.worker; period = done.new.period }) } in
    all_may key seat deque (Does (Did done.result) (Some deque)) r.is.quota r.goes r.counting r.is.lane lane now list r.pool_was pool
    (subst (λ (l : ListSlot). seat.hand.holds ≡ all_three deque l r.pool_was r.is.lane) (sym r.more) r.is.holds)
    (waking_ends_do key seat.hand.note.worker deque (parts now r.pool_was r.is.lane) (parts list pool lane)
    at.top at.lane.items at.running.worker at.running.period r.is.at done.result done.new.period ends.alone did.ended did.ends
    wakes.parent given.0 given.1 refl taken wakes.under given.3
    (takes_from nexts.End at.top done.result r.pool_was c.args.pool.now (pool_shown pool) r.same done.ensures.words)
    ends.listed)
    (woken_stays_sound key seat deque now list r.pool_was pool r.is.lane lane (told_note seat.hand.note (Some deque) (Did done.result))
    at.top.id wakes.parent (on seat.hand.note (Some deque) (Did done.result)) taken c.wake_in.ensures.rest c.wake_in.ensures.results
    (λ before. given_sound key c.args.pool.now pool (words_at_end (label_of at.top)) done.ensures.pool.sum r.pool_ready.sound done.ensures.pool.pool)
    (subst (Each (IsAtPoint (table_of key) (quota_of key))) (sym given.1) (
      given.2.point (table_of key) (quota_of key) wakes.point (did.ends.result (table_of key) (quota_of key) r.is.point),
      tt,
    )))

pub returns-in-Leave-clause-writes : goal.returns-in-Leave-clause-writes
returns-in-Leave-clause-writes c key seat given =
    let at = c.args.at in
    let deque = c.args.deque in
    let now = c.args.list.now in
    let r = subst (IsReadyForAll key seat deque now c.args.pool.now at (spare c.args.memory.now.births)) c.in-Leave.is given in
    let forked = r.can.0 in
    let closes = r.can.1 in
    let leaves = r.can.2 in
    let ends = c.end_forked-ended in
    let name = ends.result.0 in
    let ended = ends.result.1 in
    let did = ends.ensures.acts in
    let list = c.leave_result.new.list in
    let pool = ends.new.pool in
    let running : Running = record { worker = at.running.worker; period = ends.new.period } in
    let lane : LaneSlot = record { lane = at.lane; running = None } in
    let same : c.id_of-id-in-Leave.result ≡ Ended.id ended = c.id_of-id-in-Leave.ensures ∙ sym did.id in
    all_may key seat deque (Does (Did name) None) r.is.quota r.goes r.counting r.is.lane lane r.was list r.pool_was pool r.is.holds
    (leaving_ends_do key seat.hand.note.worker deque (parts r.was r.pool_was r.is.lane) (parts list pool lane)
    at.top at.lane.items at.running.worker at.running.period r.is.at name ends.new.period forked.alone ended did
    (nobody_there r.was now r.more at.top.id leaves) forked.alone refl list
    (leaves_from r.was now list deque running ended r.more c.leave_result.ensures.shown) refl
    (takes_from nexts.End at.top name r.pool_was c.args.pool.now (pool_shown pool) r.same ends.ensures.words) forked.listed)
    (left_stays_sound key seat deque r.was list r.pool_was pool r.is.lane lane (told_note seat.hand.note None (Did name))
    closes.owner (Ended.id ended) ended (on seat.hand.note None (Did name))
    (has_from r.was now deque closes.owner r.more.deques closes.has)
    (gone_from r.was now list deque r.more.deques c.leave_result.ensures.places)
    (crew_from r.was now list deque r.more.deques c.leave_result.ensures.rest)
    (left_there r.was now r.more list c.id_of-id-in-Leave.result (Ended.id ended) ended same c.leave_result.ensures.results)
    (c.leave_result.ensures.waiting ∙ r.more.waiting) refl
    (did.result (table_of key) (quota_of key) r.is.point)
    (λ before. given_sound key c.args.pool.now pool (words_at_end (label_of at.top)) ends.ensures.pool.sum r.pool_ready.sound ends.ensures.pool.pool)
    forked.alone refl)

pub wake_in-requires-clause-waits : goal.wake_in-requires-clause-waits
wake_in-requires-clause-waits c =
    let wakes = (subst (IsWithAll c.requires.can.0 c.args.deque c.args.list.now c.args.pool.now c.args.at) c.in-Wake.is c.requires.can.2).1 in
    (wakes.parent, ap (kept_under c.args.list.now.part.waiting) c.id_of-id.ensures ∙ wakes.waits)

pub end_above-name-requires-clause-live : goal.end_above-name-requires-clause-live
end_above-name-requires-clause-live c =
    (subst (IsWithAll c.requires.can.0 c.args.deque c.args.list.now c.args.pool.now c.args.at) c.in-Wake.is c.requires.can.2).0.live

pub end_above-name-requires-clause-forked : goal.end_above-name-requires-clause-forked
end_above-name-requires-clause-forked c =
    (subst (IsWithAll c.requires.can.0 c.args.deque c.args.list.now c.args.pool.now c.args.at) c.in-Wake.is c.requires.can.2).0.forked

pub end_above-name-requires-clause-next : goal.end_above-name-requires-clause-next
end_above-name-requires-clause-next c =
    (subst (IsWithAll c.requires.can.0 c.args.deque c.args.list.now c.args.pool.now c.args.at) c.in-Wake.is c.requires.can.2).0.next

pub end_forked-ended-requires-clause-live : goal.end_forked-ended-requires-clause-live
end_forked-ended-requires-clause-live c =
    (subst (IsWithAll c.requires.can.0 c.args.deque c.args.list.now c.args.pool.now c.args.at) c.in-Leave.is c.requires.can.2).0.live

pub end_forked-ended-requires-clause-forked : goal.end_forked-ended-requires-clause-forked
end_forked-ended-requires-clause-forked c =
    (subst (IsWithAll c.requires.can.0 c.args.deque c.args.list.now c.args.pool.now c.args.at) c.in-Leave.is c.requires.can.2).0.forked

pub end_forked-ended-requires-clause-next : goal.end_forked-ended-requires-clause-next
end_forked-ended-requires-clause-next c =
    (subst (IsWithAll c.requires.can.0 c.args.deque c.args.list.now c.args.pool.now c.args.at) c.in-Leave.is c.requires.can.2).0.next

pub end_above-name-requires-clause-above : goal.end_above-name-requires-clause-above
end_above-name-requires-clause-above c =
    let can = (subst (IsWithAll c.requires.can.0 c.args.deque c.args.list.now c.args.pool.now c.args.at) c.in-Wake.is c.requires.can.2) in
    let woken = c.wake_in.ensures.woken can.1.parent (ap (kept_under c.args.list.now.part.waiting) c.id_of-id.ensures ∙ can.1.waits) in
    (can.1.parent, [], woken.0 ∙ ap (λ ts. can.1.parent ∷ ts) can.0.alone, can.1.awaits)

pub leave_result-requires-clause-room : goal.leave_result-requires-clause-room
leave_result-requires-clause-room c =
    (subst (IsWithAll c.requires.can.0 c.args.deque c.args.list.now c.args.pool.now c.args.at) c.in-Leave.is c.requires.can.2).2.room

pub leave_result-requires-clause-free : goal.leave_result-requires-clause-free
leave_result-requires-clause-free c = subst (λ (i : ThreadId). kept_under c.args.list.now.part.results i ≡ None) (sym c.id_of-id-in-Leave.ensures)
    (subst (IsWithAll c.requires.can.0 c.args.deque c.args.list.now c.args.pool.now c.args.at) c.in-Leave.is c.requires.can.2).2.free

pub returns-in-Join-clause-owned : goal.returns-in-Join-clause-owned
returns-in-Join-clause-owned c = ap (λ (e : WholeEvent). owned_with e c.args.deque) (sym c.in-Join.is)

pub returns-in-Wake-clause-owned : goal.returns-in-Wake-clause-owned
returns-in-Wake-clause-owned c = ap (λ (e : WholeEvent). owned_with e c.args.deque) (sym c.in-Wake.is)

pub returns-in-Leave-clause-owned : goal.returns-in-Leave-clause-owned
returns-in-Leave-clause-owned c = ap (λ (e : WholeEvent). owned_with e c.args.deque) (sym c.in-Leave.is)

pub leave_result-requires-clause-has : goal.leave_result-requires-clause-has
leave_result-requires-clause-has c = let closes = (subst (IsWithAll c.requires.can.0 c.args.deque c.args.list.now c.args.pool.now c.args.at) c.in-Leave.is c.requires.can.2).1 in (closes.owner, closes.has)

pub leave_result-requires-clause-books : goal.leave_result-requires-clause-books
leave_result-requires-clause-books c = (subst (IsWithAll c.requires.can.0 c.args.deque c.args.list.now c.args.pool.now c.args.at) c.in-Leave.is c.requires.can.2).1.books

pub hand_over-requires : goal.hand_over-requires
hand_over-requires c = (c.requires.can.0, (subst (IsWithAll c.requires.can.0 c.args.deque c.args.list.now c.args.pool.now c.args.at) c.in-Join.is c.requires.can.2).0)

pub do_join_giving-name-requires-clause-may : goal.do_join_giving-name-requires-clause-may
do_join_giving-name-requires-clause-may c = may_join c.requires.can.0 c.args.list.now c.args.at.top c.in-Join.child (subst (IsWithAll c.requires.can.0 c.args.deque c.args.list.now c.args.pool.now c.args.at) c.in-Join.is c.requires.can.2).0
    c.hand_over.new.list.part.results c.hand_over.new.top c.hand_over.ensures.come c.requires.can.1 c.args.at.lane c.args.at.running.period
    c.args.memory.now.births c.requires.may

pub end_above-name-requires-clause-may : goal.end_above-name-requires-clause-may
end_above-name-requires-clause-may c = may_end c.requires.may

pub end_forked-ended-requires-clause-may : goal.end_forked-ended-requires-clause-may
end_forked-ended-requires-clause-may c = may_end c.requires.may
