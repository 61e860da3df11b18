use Rattle.std.proofs.Common.{refl}
use Rattle.worker_step.proofs.Robbing.{took_over}
use Rattle.worker_step.proofs.thief.take_over.Goals as goal

pub returns : goal.returns
returns c =
    let v = c.requires.victim in
    let becomes = c.take_over.ensures.deques v.0 v.1 in
    took_over c.args.worker c.args.scheduler.now
    (record {
      list = c.take_over.new.list;
      waiting = c.args.scheduler.now.waiting;
      place = c.args.scheduler.now.place;
      used_place = c.args.scheduler.now.used_place;
      results = c.args.scheduler.now.results;
      table = c.take_over.new.table;
      pool = c.args.scheduler.now.pool;
      moves = c.args.scheduler.now.moves;
      done = c.args.scheduler.now.done;
    }) c.args.victim c.in_ok-number.number
    (record { most = becomes.most; waiting = refl; results = refl; pool = refl; moves = refl; done = refl })
    c.take_over.ensures.seats c.in_ok-number.ensures.next v.0 c.args.place c.in-Ok.period.ahead v.1 v.2 c.take_over.ensures.steals
    c.in-Ok.ensures.ahead becomes
