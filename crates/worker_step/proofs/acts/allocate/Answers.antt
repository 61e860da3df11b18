use Rattle.std.proofs.Common.{refl, ap, subst, ◌∙◌}
use Rattle.std.specs.Prelude.{true, pos, ◌+ℤ◌}
use Rattle.thread_frames.specs.declared.next.Next.TheVariants.{Alloc}
use Rattle.thread_frames.specs.Views.{next_of, words_asked}
use Rattle.thread_actions.specs.Acts.{ActsBy, AllocIsCharged}
use Rattle.scheduler_state.specs.declared.scheduler.Scheduler.{Scheduler}
use Rattle.worker_step.proofs.Acting.{performs_of, back_acted, taken_change}
use Rattle.worker_step.proofs.acts.allocate.Goals as goal

pub returns : goal.returns
returns c =
    let before : Scheduler = c.args.scheduler.now in
    let after : Scheduler = record before { list = c.alloc.new.list; table = c.alloc.new.table; pool = c.alloc.new.pool } in
    let asked = ap words_asked c.requires.can.is_next in
    performs_of (Alloc c.args.words) (AllocIsCharged c.args.charge) c.args.worker c.args.deque c.args.top before after
    (back_acted (Alloc c.args.words) (AllocIsCharged c.args.charge) c.args.worker c.args.deque c.args.top before after
    (subst (λ n. ActsBy (Alloc n) c.args.worker c.args.deque c.args.top before.list before.table after.list after.table (AllocIsCharged c.args.charge)) asked c.in-Ok.ensures.acts)
    (record { waiting = refl; results = refl }) c.in-Ok.ensures.back c.in-Ok.ensures.seats)
    c.args.words (λ w told. told)
    (ap (λ r. pos r.live) c.in-Ok.ensures.pool ∙ taken_change before.pool.live (words_asked (next_of c.args.top)) ∙ ap (λ n. pos before.pool.live +ℤ pos n) asked)
    true refl refl refl
    c.in-Ok.ensures.seats.workers (ap (λ r. r.capacity) c.in-Ok.ensures.pool) (c.in-Ok.ensures.back.1 c.requires.can.stands.0 c.requires.can.stands.1).most (c.in-Ok.ensures.back.1 c.requires.can.stands.0 c.requires.can.stands.1).spare
