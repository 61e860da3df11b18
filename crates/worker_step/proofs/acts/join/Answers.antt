use Rattle.std.proofs.Common.{refl, ap, ◌∙◌}
use Rattle.std.specs.Prelude.{nat_lt, pos}
use Rattle.thread_frames.specs.declared.next.Next.TheVariants.{Join}
use Rattle.thread_frames.specs.Views.{join_words_of}
use Rattle.thread_actions.specs.Acts.{Always}
use Rattle.scheduler_state.specs.declared.scheduler.Scheduler.{Scheduler}
use Rattle.worker_step.proofs.Acting.{performs_of, back_acted, given_change, join_told}
use Rattle.worker_step.proofs.acts.join.Goals as goal

pub returns : goal.returns
returns c =
    let before : Scheduler = c.args.scheduler.now in
    let after : Scheduler = record before { list = c.join-words.new.list; table = c.join-words.new.table; pool = c.join-words.new.pool } in
    performs_of (Join c.args.child) Always c.args.worker c.args.deque c.args.top before after
    (back_acted (Join c.args.child) Always c.args.worker c.args.deque c.args.top before after (c.join-words.ensures.acts c.args.child)
    (record { waiting = refl; results = refl }) c.join-words.ensures.back c.join-words.ensures.seats)
    (join_words_of c.args.top) (λ w told. join_told c.args.top w c.requires.may.0 told)
    (ap (λ r. pos r.live) c.join-words.ensures.pool ∙ given_change before.pool.live (join_words_of c.args.top) c.requires.may.1)
    (nat_lt 0 c.join-words.result) (ap (nat_lt 0) c.join-words.ensures.words) refl refl
    c.join-words.ensures.seats.workers (ap (λ r. r.capacity) c.join-words.ensures.pool) (c.join-words.ensures.back.1 c.requires.can.stands.0 c.requires.can.stands.1).most (c.join-words.ensures.back.1 c.requires.can.stands.0 c.requires.can.stands.1).spare
