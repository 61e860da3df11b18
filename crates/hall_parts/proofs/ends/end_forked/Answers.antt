use Rattle.std.proofs.Common.{ap, ◌∙◌}
use Rattle.block_arena.specs.Region.{with_given}
use Rattle.std.specs.Prelude.{pos, ◌-◌, length}
use Rattle.thread_points.specs.Points.{words_at_end}
use Rattle.thread_frames.specs.Views.{label_of}
use Rattle.thread_frames.specs.declared.next.Next.TheVariants.{End}
use Rattle.hall_parts.proofs.Taking.{takes_words, given_change, some_words}
use Rattle.hall_parts.proofs.ends.end_forked.Goals as goal

pub returns-clause-acts : goal.returns-clause-acts
returns-clause-acts c = record {
  did = c.end_done-finished.ensures.did;
  period = c.note_in.ensures.notes;
  id = c.end_done-finished.ensures.id;
  label = c.end_done-finished.ensures.label;
  func = c.end_done-finished.ensures.func;
  result = c.end_done-finished.ensures.result;
}

pub returns-clause-words : goal.returns-clause-words
returns-clause-words c =
    let words = words_at_end (label_of c.args.top.now) in
    takes_words End c.args.top.now c.end_done-finished.result.name c.args.pool.now.pool.live c.give_record.new.pool.live c.args.pool.now.moves c.note_move.new.moves words
    (λ w told. told)
    (ap (λ p. pos p.live) c.give_record.ensures ∙ ap (λ n. pos (c.args.pool.now.pool.live - n)) c.end_done-finished.ensures.record
    ∙ given_change c.args.pool.now.pool.live words c.requires.live)
    (some_words (length (label_of c.args.top.now)) c.requires.forked) c.live-before.result c.live.result c.live-before.ensures.value c.live.ensures.value c.note_move.ensures.moves

pub returns-clause-pool : goal.returns-clause-pool
returns-clause-pool c = record { pool = c.give_record.ensures ∙ ap (with_given c.args.pool.now.pool) c.end_done-finished.ensures.record; sum = c.note_move.ensures.sum ∙ ap pos c.live.ensures.value }
