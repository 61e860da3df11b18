use Rattle.std.proofs.Common.{ℕ, ◌<◌, List, length, sym, ap, ◌∙◌, subst}
use Rattle.std.specs.Prelude.{slice_index_or}
use Rattle.std.specs.List.{AllZip}
use Rattle.play_rules.specs.declared.ends.RunEnd.{RunEnd}
use Rattle.work_loop.specs.declared.member.Member.{Member}
use Rattle.hall_threads.specs.Working.{HasWorkedIn}
use Rattle.hall_threads.specs.declared.worker.HallWorker.{HallWorker}
use Rattle.hall_threads.specs.Closed.{HasWorked}
use Rattle.hall_threads.proofs.Crews.{all_worked, written}
use Rattle.hall_threads.proofs.running.work_to_end.Goals as goal

pub returns : goal.returns
returns g c =
    let is = c.deref_mut.ensures.value in
    let same = c.work_crew.auto.crew ∙ ap length is in
    let each = subst (λ (xs : List (Member (HallWorker g.row.C.Denot) RunEnd)). (i : ℕ) (d : Member (HallWorker g.row.C.Denot) RunEnd) → i < length xs
    → HasWorkedIn c.args.hall.now c.args.code.now (slice_index_or xs i d) (slice_index_or c.work_crew.new.crew i d)) is c.work_crew.ensures in
    subst (AllZip (HasWorked c.args.hall.now) c.args.crew.now.items)
    (sym (written c.args.crew.now.items c.work_crew.new.crew c.args.crew.now.len c.args.crew.now.ok.0 same))
    (all_worked c.args.hall.now c.args.code.now c.args.crew.now.items c.work_crew.new.crew same c.requires.fresh each)
