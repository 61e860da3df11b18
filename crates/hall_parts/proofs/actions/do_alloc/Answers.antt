use Rattle.std.proofs.Common.{refl, ap, ◌∙◌}
use Rattle.std.specs.Prelude.{pos}
use Rattle.open_periods.specs.Periods.{open_shown}
use Rattle.thread_frames.specs.Views.{next_of, words_asked}
use Rattle.thread_frames.specs.declared.next.Next.TheVariants.{Alloc}
use Rattle.hall_parts.proofs.Written.{alone_written}
use Rattle.hall_parts.proofs.Taking.{takes_words, taken_change}
use Rattle.hall_parts.proofs.actions.do_alloc.Goals as goal

pub returns-clause-acts : goal.returns-clause-acts
returns-clause-acts c worker setting k is given h w own =
    alone_written w k _ c.args.top c.alloc_done.new.top c.args.lane.now.items c.put_back.new.lane.items c.args.period.now c.put_back.new.period
    c.in-Ok.name c.args.charge is.place own (c.in-Ok.ensures.did c.args.charge setting k is (open_shown worker c.args.period.now) given)
    c.put_back.ensures.lane (c.put_back.ensures.period worker)

pub returns-clause-words : goal.returns-clause-words
returns-clause-words c =
    let asked = words_asked (next_of c.args.top) in
    takes_words (Alloc asked) c.args.top c.in-Ok.name c.args.pool.now.pool.live c.alloc_done.new.pool.live c.args.pool.now.moves c.note_move.new.moves asked (λ w told. told)
    (ap (λ p. pos p.live) c.in-Ok.ensures.pool ∙ taken_change c.args.pool.now.pool.live asked) refl c.live-before.result c.live.result c.live-before.ensures.value c.live.ensures.value c.note_move.ensures.moves

pub returns-clause-top : goal.returns-clause-top
returns-clause-top c = (c.alloc_done.new.top, c.put_back.ensures.lane, c.in-Ok.ensures.point)

pub returns-clause-pool : goal.returns-clause-pool
returns-clause-pool c = record { pool = c.in-Ok.ensures.pool; sum = c.note_move.ensures.sum ∙ ap pos c.live.ensures.value }
