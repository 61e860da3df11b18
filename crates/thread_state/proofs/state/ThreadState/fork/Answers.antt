use Rattle.std.proofs.Common.{refl, sym}
use Rattle.thread_state.proofs.Steps.{own_store}
use Rattle.thread_state.proofs.Forking.{is_child}
use Rattle.thread_state.proofs.state.ThreadState.fork.Goals as goal

pub returns-clause-child : goal.returns-clause-child
returns-clause-child c = λ contexts names setting passes s turns slots is.
    let shows = own_store contexts names c.args.self.now s c.requires.going is in
    is_child _ names c.args.self.now _ setting passes s c.requires.room.label refl refl refl refl (sym turns) c.requires.room.callers is
    (c.part_into.ensures.child names s.store passes shows slots)
