use Rattle.std.proofs.Common.{[], ◌∷◌, refl, ap, ◌∙◌}
use Rattle.std.specs.Prelude.{pos}
use Rattle.hall_slots.specs.Passed.DepthFirstListActions.{record_words}
use Rattle.open_periods.specs.Periods.{open_shown}
use Rattle.open_periods.specs.Tables.{noted}
use Rattle.thread_frames.specs.declared.next.Next.TheVariants.{Fork}
use Rattle.hall_parts.proofs.Written.{forked_written}
use Rattle.hall_parts.proofs.Taking.{takes_words, taken_change}
use Rattle.hall_parts.proofs.forks.do_fork.Goals as goal

pub returns-clause-acts : goal.returns-clause-acts
returns-clause-acts c = (
  c.in-Ok.forked.ordinal,
  λ worker setting k is given h w own.
      forked_written w k _ c.args.top c.fork_done.new.top c.args.lane.now.items c.put_both_back.new.lane.items c.args.period.now c.put_both_back.new.period
      c.in-Ok.forked.name record_words is.place own c.in-Ok.forked.child c.in-Ok.forked.ordinal
      (c.in-Ok.ensures.did setting k is (open_shown worker c.args.period.now) c.next_id-id.ensures given)
      c.put_both_back.ensures.lane (c.put_both_back.ensures.period worker ∙ ap (λ i. noted (open_shown worker c.args.period.now) c.in-Ok.forked.name record_words
      (record { parent = i; ordinal = c.in-Ok.forked.ordinal } ∷ [])) c.in-Ok.ensures.by),
)

pub returns-clause-words : goal.returns-clause-words
returns-clause-words c =
    takes_words Fork c.args.top c.in-Ok.forked.name c.args.pool.now.pool.live c.fork_done.new.pool.live c.args.pool.now.moves c.note_move.new.moves record_words (λ w told. told)
    (ap (λ p. pos p.live) c.in-Ok.ensures.pool ∙ taken_change c.args.pool.now.pool.live record_words) refl c.live-before.result c.live.result c.live-before.ensures.value c.live.ensures.value c.note_move.ensures.moves

pub returns-clause-top : goal.returns-clause-top
returns-clause-top c = (c.fork_done.new.top, c.in-Ok.forked.child, c.put_both_back.ensures.lane, c.in-Ok.ensures.point, c.in-Ok.ensures.child)

pub returns-clause-pool : goal.returns-clause-pool
returns-clause-pool c = record { pool = c.in-Ok.ensures.pool; sum = c.note_move.ensures.sum ∙ ap pos c.live.ensures.value }
