use Rattle.std.proofs.Common.{inr, refl, ap, ◌∙◌}
use Rattle.list_changes.proofs.Stealing.{held, rank_of}
use Rattle.scheduler_state.specs.Held.{held as scheduler_held}
use Rattle.worker_step.proofs.Robbing.{stole_beside, keeps_two, full_of}
use Rattle.worker_step.proofs.thief.steal_beside.Goals as goal

pub returns-in-Err-Full : goal.returns-in-Err-Full
returns-in-Err-Full c owner first others bottom holds =
    let full = full_of c.args.scheduler.now.list c.in-Err-Full.field-0 c.in-Err-Full.deques c.in-Err-Full.field-0-is c.in-Err-Full.ensures.full in (
      record { same = ap (λ ds. record (scheduler_held c.args.scheduler.now) { deques = ds }) c.in-Err-Full.ensures.rest.0; most = c.in-Err-Full.ensures.rest.1; pool = refl },
      (c.in-Err-Full.deques-is ∙ full.1, full.0, (held holds, (rank_of holds).0, inr (keeps_two first others bottom))),
    )

pub steal_beside-deque-requires-clause-victim : goal.steal_beside-deque-requires-clause-victim
steal_beside-deque-requires-clause-victim c =
    let v = c.requires.victim in
    (v.0, v.1, v.2, v.3, record { left = v.4.left; right = v.4.right; deques_are = c.in-Ok.ensures.rest.0 ∙ v.4.deques_are })

pub returns : goal.returns
returns c owner first others bottom holds =
    let becomes = c.steal_beside-deque.ensures.deques owner first others bottom
    (record { left = holds.left; right = holds.right; deques_are = c.in-Ok.ensures.rest.0 ∙ holds.deques_are }) in
    stole_beside c.args.worker c.args.scheduler.now
    (record {
      list = c.steal_beside-deque.new.list;
      waiting = c.args.scheduler.now.waiting;
      place = c.args.scheduler.now.place;
      used_place = c.args.scheduler.now.used_place;
      results = c.args.scheduler.now.results;
      table = c.steal_beside-deque.new.table;
      pool = c.args.scheduler.now.pool;
      moves = c.args.scheduler.now.moves;
      done = c.args.scheduler.now.done;
    }) c.steal_beside-deque.result c.in_ok-number.number
    (record { most = becomes.most ∙ c.in-Ok.ensures.rest.1; waiting = refl; results = refl; pool = refl; moves = refl; done = refl })
    c.steal_beside-deque.ensures.seats c.in_ok-number.ensures.next
    c.room_right.new.self c.in-Ok.ensures.rest.0 c.in-Ok.ensures.rest.1 c.args.victim owner first others bottom holds
    c.steal_beside-deque.ensures.steals (λ h. c.steal_beside-deque.ensures.deques owner first others bottom h) c.steal_beside-deque.ensures.id c.in-Ok.ensures.few
