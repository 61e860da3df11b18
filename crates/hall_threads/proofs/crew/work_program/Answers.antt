use Rattle.std.proofs.Crossing
use denote.Param.Send.{IsSync, sendable, view_sync}
use denote.Param.SendFields.{declared_sync}
use Rattle.node_table.proofs.code_expr.CodeExpr.TheLaws.TheKnot as knot
use Rattle.thread_code.specs.contracts.code.Code as code
use Rattle.thread_code.specs.contracts.code.Code.TheInside as inside
use Rattle.hall_threads.proofs.crew.work_program.Goals as goal

-- field by field: the node table, and the flat code
fields_share : IsSync inside.the_row
fields_share = declared_sync inside.the_type (
  search (Crossing.crosses, knot.crosses, sendable) depth 60 fits 20000,
  (search (Crossing.crosses, knot.crosses, sendable) depth 60 fits 20000, tt),
)

code_shares : IsSync code.the_row
code_shares = view_sync _ _ _ _ _ fields_share

pub work_all-requires-sync-K : goal.work_all-requires-sync-K
work_all-requires-sync-K g c κs within = search (code_shares, sendable)
