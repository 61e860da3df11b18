use Rattle.std.proofs.Common.{ap, ◌∙◌}
use Rattle.block_arena.specs.Region.{with_given}
use Rattle.std.specs.Prelude.{pos, ◌-◌}
use Rattle.thread_frames.specs.Views.{join_words_of}
use Rattle.thread_frames.specs.declared.next.Next.TheVariants.{Join}
use Rattle.hall_parts.proofs.Taking.{takes_words, given_change, join_tells, some_words}
use Rattle.hall_parts.proofs.actions.do_join_giving.Goals as goal

pub returns-clause-acts : goal.returns-clause-acts
returns-clause-acts c = record {
  now = c.join_done-joined.new.top;
  threads_are = c.put_back.ensures.lane;
  did = c.join_done-joined.ensures.did;
  period = c.put_back.ensures.period;
  point = c.join_done-joined.ensures.point;
}

pub returns-clause-words : goal.returns-clause-words
returns-clause-words c child =
    let words = join_words_of c.args.top in
    takes_words (Join child) c.args.top c.join_done-joined.result.name c.args.pool.now.pool.live c.give_all.new.pool.live c.args.pool.now.moves c.note_move.new.moves words
    (join_tells c.args.top c.requires.delivered)
    (ap (λ p. pos p.live) c.give_all.ensures ∙ ap (λ n. pos (c.args.pool.now.pool.live - n)) c.join_done-joined.ensures.rows ∙ given_change c.args.pool.now.pool.live words c.requires.live)
    (some_words words c.requires.words) c.live-before.result c.live.result c.live-before.ensures.value c.live.ensures.value c.note_move.ensures.moves

pub returns-clause-pool : goal.returns-clause-pool
returns-clause-pool c = record { pool = c.give_all.ensures ∙ ap (with_given c.args.pool.now.pool) c.join_done-joined.ensures.rows; sum = c.note_move.ensures.sum ∙ ap pos c.live.ensures.value }
