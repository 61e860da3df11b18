use Rattle.std.proofs.Common.{refl, ap}
use Rattle.scheduler_state.specs.declared.scheduler.Scheduler.{Scheduler}
use Rattle.worker_step.proofs.Acting.{keeps_room}
use Rattle.worker_step.proofs.Ending.{above_acted, below_awaits}
use Rattle.worker_step.proofs.ends.end_above.Goals as goal

pub give_below-requires : goal.give_below-requires
give_below-requires c =
    let its = c.requires.can.stands in
    below_awaits c.args.scheduler.now.list c.args.worker c.args.deque c.args.top.now its.0 its.1 (c.requires.above its.0 its.1) (c.requires.may.2 its.0 its.1)
    c.end_above-ended.result c.end_above-ended.ensures.id c.end_above-ended.ensures.label c.end_above-ended.ensures.func

pub returns : goal.returns
returns c =
    let before : Scheduler = c.args.scheduler.now in
    let after : Scheduler = record before { table = c.end_above-ended.new.table; pool = c.end_above-ended.new.pool; list = c.give_below.new.list } in
    let its = c.requires.can.stands in
    record {
      acted = above_acted c.args.worker c.args.deque c.args.top.now before after c.end_above-ended.result c.end_above-ended.ensures.id refl c.end_above-ended.ensures.result refl
          (λ items stands. c.give_below.ensures items stands) c.end_above-ended.ensures.acts c.end_above-ended.ensures.seats;
      same_moves = refl;
      same_done = refl;
      pool = c.end_above-ended.ensures.pool;
      keeps = keeps_room before after c.end_above-ended.ensures.seats.workers (ap (λ r. r.capacity) c.end_above-ended.ensures.pool) (c.give_below.ensures its.0 its.1).becomes.most (c.give_below.ensures its.0 its.1).becomes.spare;
    }
