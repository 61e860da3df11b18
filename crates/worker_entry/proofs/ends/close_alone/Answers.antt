use Rattle.std.proofs.Common.{◌≡◌, refl, sym, subst}
use Rattle.dag_order.specs.Births.{root}
use Rattle.dfd_core.specs.Parts.{root_behind}
use Rattle.play_rules.specs.declared.ends.RunEnd.{RunEnd}
use Rattle.thread_map.specs.Kept.{kept_under}
use Rattle.turn_table.specs.Tables.{key_of}
use Rattle.hall_slots.specs.Closing.{IsClosed}
use Rattle.worker_entry.proofs.ends.close_alone.Goals as goal

pub returns-in-Ok-clause-closed : goal.returns-in-Ok-clause-closed
returns-in-Ok-clause-closed c = let end = c.closing_of.ensures.same_end in (
  c.in-Ok.closed.list,
  c.in-Ok.closed.pool,
  subst (λ (e : RunEnd). IsClosed (key_of c.args.hall.row) c.args.last.place c.in-Ok.closed.list c.in-Ok.closed.pool e) (sym end) c.in-Ok.ensures.closed,
  record {
    same_end = refl;
    books = c.closing_of.ensures.books;
    moves = c.closing_of.ensures.moves;
    root = subst (λ (e : RunEnd). c.closing_of.result.root ≡ root_behind e (kept_under c.in-Ok.closed.list.part.results root)) (sym end) c.closing_of.ensures.root;
  },
)
