use Rattle.std.proofs.Crossing
use denote.Param.Send.{IsSend, IsSync, sendable, view_send, view_sync}
use denote.Param.SendFields.{declared_send, as_row_send, declared_sync, as_row_sync}
use Rattle.node_table.proofs.code_expr.CodeExpr.TheLaws.TheKnot as knot
use Rattle.thread_code.specs.contracts.code.Code as code
use Rattle.thread_code.specs.contracts.code.Code.TheInside as inside
use Rattle.scheduler_state.proofs.scheduler.Scheduler.TheSendSync as scheduler
use Rattle.scheduler_state.specs.contracts.scheduler.Scheduler as parts
use Rattle.dfd_core.specs.contracts.run.Core as core
use Rattle.play_tests.proofs.handed_over.may_cross_threads.Goals as goal

-- a code field by field: the node table, and the flat code
code_sends : IsSend code.the_row
code_sends = view_send _ _ _ _ _ (declared_send inside.the_type (
  search (Crossing.crosses, knot.crosses, sendable) depth 60 fits 20000,
  (search (Crossing.crosses, knot.crosses, sendable) depth 60 fits 20000, tt),
))

code_shares : IsSync code.the_row
code_shares = view_sync _ _ _ _ _ (declared_sync inside.the_type (
  search (Crossing.crosses, knot.crosses, sendable) depth 60 fits 20000,
  (search (Crossing.crosses, knot.crosses, sendable) depth 60 fits 20000, tt),
))

-- a core field by field: the scheduler, the code, the quota, the two limits, the allocator, and the end
core_sends : IsSend core.the_row
core_sends = declared_send core.the_type (
  as_row_send parts.the_field scheduler.the_field_send,
  (
    as_row_send code.the_field code_sends,
    (
      search (Crossing.crosses, knot.crosses, sendable) depth 60 fits 20000,
      (
        search (Crossing.crosses, knot.crosses, sendable) depth 60 fits 20000,
        (
          search (Crossing.crosses, knot.crosses, sendable) depth 60 fits 20000,
          (
            search (Crossing.crosses, knot.crosses, sendable) depth 60 fits 20000,
            (search (Crossing.crosses, knot.crosses, sendable) depth 60 fits 20000, tt),
          ),
        ),
      ),
    ),
  ),
)

pub sends-requires-send-T : goal.sends-requires-send-T
sends-requires-send-T c κs = search (core_sends, sendable)

core_shares : IsSync core.the_row
core_shares = declared_sync core.the_type (
  as_row_sync parts.the_field scheduler.the_field_sync,
  (
    as_row_sync code.the_field code_shares,
    (
      search (Crossing.crosses, knot.crosses, sendable) depth 60 fits 20000,
      (
        search (Crossing.crosses, knot.crosses, sendable) depth 60 fits 20000,
        (
          search (Crossing.crosses, knot.crosses, sendable) depth 60 fits 20000,
          (
            search (Crossing.crosses, knot.crosses, sendable) depth 60 fits 20000,
            (search (Crossing.crosses, knot.crosses, sendable) depth 60 fits 20000, tt),
          ),
        ),
      ),
    ),
  ),
)

pub shares-requires-sync-T : goal.shares-requires-sync-T
shares-requires-sync-T c κs = search (core_shares, sendable)
