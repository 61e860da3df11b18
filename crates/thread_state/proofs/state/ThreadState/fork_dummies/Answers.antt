use Rattle.std.proofs.Common.{[], List, refl, sym, subst}
use Rattle.depth_first_run.specs.Run.{no_name}
use Rattle.slot_store.specs.Rows.{Entry}
use Rattle.slot_store.specs.Agreement.{ShowsStore}
use Rattle.depth_first_run.specs.Branches.{child_store}
use Rattle.thread_state.proofs.Forking.{is_child, is_parent, shows_no_slot}
use Rattle.thread_state.proofs.state.ThreadState.fork_dummies.Goals as goal

pub returns-clause-child : goal.returns-clause-child
returns-clause-child c = λ contexts setting s turns is.
    is_child contexts [] c.args.self.now _ setting no_name s c.requires.room.label refl refl refl refl (sym turns) c.requires.room.callers is
    (subst (λ (row : List Entry). ShowsStore [] row (child_store no_name s.store)) (sym c.requires.room.row) (shows_no_slot s.store))

pub returns-clause-parent : goal.returns-clause-parent
returns-clause-parent c = λ contexts items s is.
    is_parent contexts c.args.self.now _ s items refl refl refl refl refl refl refl is
