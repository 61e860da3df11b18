use Rattle.std.proofs.Common.{◌≡◌, refl, sym, ◌∙◌, subst}
use Rattle.dag_order.specs.Births.{root}
use Rattle.dfd_core.specs.Parts.{root_behind}
use Rattle.play_rules.specs.declared.ends.RunEnd.{RunEnd}
use Rattle.thread_map.specs.Kept.{kept_under}
use Rattle.turn_table.specs.Tables.{key_of}
use Rattle.hall_slots.specs.Closing.{IsClosed}
use Rattle.worker_entry.proofs.ends.close_over.Goals as goal

pub returns : goal.returns
returns c =
    let closed = c.closing_of.ensures in
    let same = closed.same_end ∙ c.close_at.ensures.end in (
      c.close_at.result.list,
      c.close_at.result.pool,
      subst (λ (e : RunEnd). IsClosed (key_of c.args.hall.row) c.args.last.place c.close_at.result.list c.close_at.result.pool e) (sym same)
          c.close_at.ensures.closed,
      record {
        same_end = refl;
        books = closed.books;
        moves = closed.moves;
        root = subst (λ (e : RunEnd). c.closing_of.result.root ≡ root_behind e (kept_under c.close_at.result.list.part.results root))
            (sym closed.same_end) closed.root;
      },
      same,
    )
