use Rattle.std.proofs.Common.{◌≡◌, List, [], ◌∷◌, refl, sym, ap, subst, ◌∙◌}
use Rattle.scheduler_state.specs.declared.scheduler.Scheduler.{Scheduler}
use Rattle.thread_frames.specs.declared.thread.Thread.{Thread}
use Rattle.std.specs.List.Sorted.{IsPermutation}
use Rattle.thread_map.specs.Kept.{kept_under}
use Rattle.list_changes.specs.Shown.{Stands}
use Rattle.worker_step.proofs.Acting.{keeps_room}
use Rattle.worker_step.proofs.Ending.{wakes_acted, leaves_acted}
use Rattle.worker_step.proofs.ends.leave.Goals as goal

pub end_and_wake-requires-clause-stands : goal.end_and_wake-requires-clause-stands
end_and_wake-requires-clause-stands c =
    let s = c.requires.can.stands in
    subst (Stands c.args.scheduler.now.list c.args.worker c.args.deque) (c.requires.alone s.0 s.1) s.1

pub end_and_leave-requires-clause-stands : goal.end_and_leave-requires-clause-stands
end_and_leave-requires-clause-stands c =
    let s = c.requires.can.stands in
    subst (Stands c.args.scheduler.now.list c.args.worker c.args.deque) (c.requires.alone s.0 s.1) s.1

pub returns-in-Some : goal.returns-in-Some
returns-in-Some c =
    let before : Scheduler = c.args.scheduler.now in
    let after : Scheduler = record before { list = c.end_and_wake.new.list; waiting = c.take.new.self; table = c.end_and_wake.new.table; pool = c.end_and_wake.new.pool } in
    let alone : (items : List Thread) → Stands before.list c.args.worker c.args.deque items → items ≡ [] = c.requires.alone in
    let its : Stands before.list c.args.worker c.args.deque [] = subst (Stands before.list c.args.worker c.args.deque) (alone c.requires.can.stands.0 c.requires.can.stands.1) c.requires.can.stands.1 in
    record {
      acted = wakes_acted c.args.worker c.args.deque c.args.top.now before after c.end_and_wake.result c.end_and_wake.ensures.id refl c.end_and_wake.ensures.result alone
          c.in-Some.parent (subst (λ x. IsPermutation before.waiting.entries ((x, c.in-Some.parent) ∷ after.waiting.entries)) (c.id.ensures ∙ ap (λ (x : Thread). x.id) c.get.ensures) c.in-Some.ensures.entries) c.end_and_wake.ensures.acts c.end_and_wake.ensures.deques c.end_and_wake.ensures.seats;
      same_results = refl;
      same_moves = refl;
      same_done = refl;
      pool = c.end_and_wake.ensures.pool;
      keeps = keeps_room before after c.end_and_wake.ensures.seats.workers (ap (λ r. r.capacity) c.end_and_wake.ensures.pool) (c.end_and_wake.ensures.deques its).most (c.end_and_wake.ensures.deques its).spare;
    }

pub returns-in-None : goal.returns-in-None
returns-in-None c =
    let before : Scheduler = c.args.scheduler.now in
    let after : Scheduler = record before { list = c.end_and_leave.new.list; waiting = c.take.new.self; table = c.end_and_leave.new.table; pool = c.end_and_leave.new.pool } in
    let alone : (items : List Thread) → Stands before.list c.args.worker c.args.deque items → items ≡ [] = c.requires.alone in
    let its : Stands before.list c.args.worker c.args.deque [] = subst (Stands before.list c.args.worker c.args.deque) (alone c.requires.can.stands.0 c.requires.can.stands.1) c.requires.can.stands.1 in
    record {
      acted = leaves_acted c.args.worker c.args.deque c.args.top.now before after c.end_and_leave.result c.end_and_leave.ensures.id refl c.end_and_leave.ensures.result alone
          c.in-None.ensures.none (ap (kept_under before.waiting) (ap (λ (x : Thread). x.id) (sym c.get.ensures) ∙ sym c.id.ensures) ∙ sym c.in-None.ensures.value) c.end_and_leave.ensures.acts c.end_and_leave.ensures.deques c.end_and_leave.ensures.seats;
      same_results = refl;
      same_moves = refl;
      same_done = refl;
      pool = c.end_and_leave.ensures.pool;
      keeps = keeps_room before after c.end_and_leave.ensures.seats.workers (ap (λ r. r.capacity) c.end_and_leave.ensures.pool) (c.end_and_leave.ensures.deques its).most (c.end_and_leave.ensures.deques its).spare;
    }
