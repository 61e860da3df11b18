use Rattle.std.proofs.Common.{refl, ap, sym, subst, ◌∙◌, ◌≤◌}
use Rattle.std.specs.Prelude.{true, pos, ◌+ℤ◌, neg_ℤ}
use Rattle.thread_frames.specs.declared.next.Next.TheVariants.{Release}
use Rattle.thread_frames.specs.Views.{next_of, words_asked}
use Rattle.thread_actions.specs.Acts.{ActsBy, Always}
use Rattle.scheduler_state.specs.declared.scheduler.Scheduler.{Scheduler}
use Rattle.worker_step.proofs.Acting.{performs_of, back_acted, given_change}
use Rattle.worker_step.proofs.acts.release.Goals as goal

pub returns : goal.returns
returns c =
    let before : Scheduler = c.args.scheduler.now in
    let after : Scheduler = record before { list = c.release.new.list; table = c.release.new.table; pool = c.release.new.pool } in
    let asked = ap words_asked c.requires.can.is_next in
    let few = subst (λ n. n ≤ before.pool.live) (sym asked) c.requires.may in
    performs_of (Release c.args.words) Always c.args.worker c.args.deque c.args.top before after
    (back_acted (Release c.args.words) Always c.args.worker c.args.deque c.args.top before after
    (subst (λ n. ActsBy (Release n) c.args.worker c.args.deque c.args.top before.list before.table after.list after.table Always) asked c.release.ensures.acts)
    (record { waiting = refl; results = refl }) c.release.ensures.back c.release.ensures.seats)
    c.args.words (λ w told. told)
    (ap (λ r. pos r.live) c.release.ensures.pool ∙ given_change before.pool.live (words_asked (next_of c.args.top)) few ∙ ap (λ n. pos before.pool.live +ℤ neg_ℤ (pos n)) asked)
    true refl refl refl
    c.release.ensures.seats.workers (ap (λ r. r.capacity) c.release.ensures.pool) (c.release.ensures.back.1 c.requires.can.stands.0 c.requires.can.stands.1).most (c.release.ensures.back.1 c.requires.can.stands.0 c.requires.can.stands.1).spare
