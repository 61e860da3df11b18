use Rattle.std.proofs.Common.{List, ◌∷◌, ◌++◌, [], sym, subst, arith}
use Rattle.std.proofs.lemmas.Result.{IfOk-weaker}
use Rattle.std.specs.Prelude.{All}
use Rattle.std.specs.List.{AllZip}
use Rattle.play_rules.specs.declared.ends.RunEnd.{RunEnd}
use Rattle.work_loop.specs.declared.member.Member.{Member}
use Rattle.worker_entry.specs.declared.seat.Seat.{Seat}
use Rattle.hall_threads.specs.declared.worker.HallWorker.{HallWorker}
use Rattle.hall_threads.specs.Closed.{HasWorked}
use Rattle.hall_threads.specs.Crews.{IsCrew, IsFreshIn, seat_of}
use Rattle.hall_threads.proofs.Crews.{fresh_all, left, some_left}
use Rattle.hall_threads.proofs.running.close_run.Goals as goal

pub work_to_end-requires-clause-fresh : goal.work_to_end-requires-clause-fresh
work_to_end-requires-clause-fresh g c κs outlives =
    subst (All (λ member. IsFreshIn c.in_ok-hall.hall (seat_of member))) (sym c.in_ok-push.ensures.items)
    (fresh_all c.in_ok-hall.hall c.member_of.result c.enter_all.new.crew.items
    (subst (λ (s : Seat). IsCrew c.in_ok-hall.hall s c.enter_all.new.crew.items) (sym c.member_of.ensures) c.in_ok-enter_all.ensures))

pub unreachable-requires : goal.unreachable-requires
unreachable-requires g c =
    let some = some_left c.in_ok-hall.hall c.enter_all.new.crew.items c.work_to_end.new.crew.items c.member_of.result
    (subst (λ (xs : List (Member (HallWorker g.row.C.Denot) RunEnd)). AllZip (HasWorked c.in_ok-hall.hall) xs c.work_to_end.new.crew.items) c.in_ok-push.ensures.items c.work_to_end.ensures) in
    let long = c.work_to_end.new.crew.ok.0 in
    let wrong = c.in_default.ensures.variant.1 (omega (arith, some, long)) in
    let no : ⊥ = cc in no

pub leave_all-requires : goal.leave_all-requires
leave_all-requires g c =
    left c.in_ok-hall.hall c.member_of.result c.in-Some.last c.enter_all.new.crew.items c.pop.new.self.items
    (subst (λ (s : Seat). IsCrew c.in_ok-hall.hall s c.enter_all.new.crew.items) (sym c.member_of.ensures) c.in_ok-enter_all.ensures)
    (subst (AllZip (HasWorked c.in_ok-hall.hall) (c.enter_all.new.crew.items ++ c.member_of.result ∷ [])) c.in-Some.ensures.items
    (subst (λ (xs : List (Member (HallWorker g.row.C.Denot) RunEnd)). AllZip (HasWorked c.in_ok-hall.hall) xs c.work_to_end.new.crew.items) c.in_ok-push.ensures.items c.work_to_end.ensures))

pub returns : goal.returns
returns g c = IfOk-weaker c.close_by.result _ _
    (λ closing by. (c.in_ok-hall.hall, c.in_ok-hall.code, c.in_ok-hall.ensures.hall, by.0, by.1)) c.close_by.ensures
