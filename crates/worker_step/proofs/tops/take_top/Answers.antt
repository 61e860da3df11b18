use Rattle.std.proofs.Common.{◌≡◌, ◌∷◌, sym, ap, ◌∙◌, arith}
use Rattle.std.proofs.lemmas.Option.{none-some}
use Rattle.std.specs.Prelude.{Some}
use Rattle.list_changes.proofs.Putting.{live, here, at_rank}
use Rattle.list_changes.specs.Shown.{Stands}
use Rattle.open_periods.specs.Tables.{deque_of, shown_of, deque_at}
use Rattle.open_periods.specs.Periods.{open_shown}
use Rattle.scheduler_state.specs.declared.scheduler.Scheduler.{Scheduler}
use Rattle.scheduler_state.specs.Moments.{terms_of}
use Rattle.scheduler_state.proofs.SeatDeques.{seat_deque}
use Rattle.worker_step.proofs.Taking.{taken_out, takes_top}
use Rattle.worker_step.proofs.tops.take_top.Goals as goal

pub reserve-requires-clause-live : goal.reserve-requires-clause-live
reserve-requires-clause-live c =
    let s : Scheduler = c.args.scheduler.now in
    let r = c.requires.sound in
    let seat : deque_at s.table c.args.worker ≡ Some c.in-Some.seat.now.deque = ap deque_of (sym c.in-Some.ensures) in
    live (seat_deque r.0 r.1 (terms_of s r.2) s c.args.worker c.in-Some.seat.now.deque r.3 seat).2

pub reserve-requires-clause-period : goal.reserve-requires-clause-period
reserve-requires-clause-period c = (open_shown c.args.worker c.in-Some.seat.now.period, ap (shown_of c.args.worker) (sym c.in-Some.ensures))

pub pop_top-requires : goal.pop_top-requires
pop_top-requires c =
    let s : Scheduler = c.args.scheduler.now in
    let r = c.requires.sound in
    let seat : deque_at s.table c.args.worker ≡ Some c.in-Some.seat.now.deque = ap deque_of (sym c.in-Some.ensures) in
    let its = seat_deque r.0 r.1 (terms_of s r.2) s c.args.worker c.in-Some.seat.now.deque r.3 seat in
    let stands : Stands c.reserve.new.scheduler.list c.args.worker c.in-Some.seat.now.deque (its.0 ∷ its.1) =
    record { left = its.2.left; right = its.2.right; deques_are = c.reserve.ensures.same.deques ∙ its.2.deques_are } in
    live stands

pub unreachable-requires-in_default : goal.unreachable-requires-in_default
unreachable-requires-in_default c =
    let s : Scheduler = c.args.scheduler.now in
    let r = c.requires.sound in
    let seat : deque_at s.table c.args.worker ≡ Some c.in-Some.seat.now.deque = ap deque_of (sym c.in-Some.ensures) in
    let its = seat_deque r.0 r.1 (terms_of s r.2) s c.args.worker c.in-Some.seat.now.deque r.3 seat in
    let stands : Stands c.reserve.new.scheduler.list c.args.worker c.in-Some.seat.now.deque (its.0 ∷ its.1) =
    record { left = its.2.left; right = its.2.right; deques_are = c.reserve.ensures.same.deques ∙ its.2.deques_are } in
    absurd (none-some its.0 (c.in_default.ensures.item _ (here stands) (at_rank stands)))

pub returns-clause-takes : goal.returns-clause-takes
returns-clause-takes c =
    let s : Scheduler = c.args.scheduler.now in
    let r = c.requires.sound in
    let seat : deque_at s.table c.args.worker ≡ Some c.in-Some.seat.now.deque = ap deque_of (sym c.in-Some.ensures) in
    let first : Scheduler = c.reserve.new.scheduler in
    let out = taken_out r.0 r.1 r.2 s first c.args.worker c.in-Some.seat.now.deque c.in-Some-pop_top.top r.3 seat c.reserve.ensures.same c.in-Some-pop_top.ensures.item in
    let room = c.in-Some-pop_top.ensures.room in
    let had = c.in_ok-reserve.ensures.room in
    let lane = had.lane in
    takes_top s first c.pop_top.new.self out.1 c.reserve.ensures.same c.reserve.ensures.keeps c.pop_top.ensures.deque c.pop_top.ensures.rest.most c.pop_top.ensures.rest.spare seat
    (open_shown c.args.worker c.in-Some.seat.now.period) (c.reserve.ensures.periods c.args.worker ∙ ap (shown_of c.args.worker) (sym c.in-Some.ensures))
    (record { lane = omega (arith, room, lane); table = had.table; moves = had.moves; waiting = had.waiting; results = had.results; place = had.place })

pub returns-clause-keeps : goal.returns-clause-keeps
returns-clause-keeps c = (returns-clause-takes c).keeps
