use Rattle.std.proofs.Common.{refl}
use Rattle.thread_state.proofs.Steps.{own_store}
use Rattle.thread_state.proofs.Joining.{joins_into_faulted, joins_of_faulted, joins_going}
use Rattle.thread_state.proofs.state.ThreadState.join.Goals as goal

pub returns-then-self-clause-state : goal.returns-then-self-clause-state
returns-then-self-clause-state c = λ contexts names assigns ordinal d of_child slots s is.
    joins_into_faulted _ c.args.self.now _ s d assigns ordinal c.if-self.true
    (record { label = refl; done = refl; forks = refl; faulted = refl; callers = refl; calls = refl; turns = refl }) refl is

pub returns-then-child-clause-state : goal.returns-then-child-clause-state
returns-then-child-clause-state c = λ contexts names assigns ordinal d of_child slots s is.
    joins_of_faulted _ names c.args.self.now _ c.args.child s d assigns ordinal c.if-self.false c.if-child.true of_child
    refl refl refl refl refl refl c.take_rows.ensures.slots c.take_rows.ensures.callers is

pub returns-else-child-clause-state : goal.returns-else-child-clause-state
returns-else-child-clause-state c = λ contexts names assigns ordinal d of_child slots s is.
    let shows = own_store contexts names c.args.self.now s c.if-self.false is in
    let brought = own_store _ names c.args.child d c.if-child.false of_child in
    joins_going contexts names c.args.self.now _ c.args.child s d assigns ordinal c.if-self.false c.if-child.false of_child
    (record { label = refl; done = refl; forks = refl; faulted = refl; callers = refl; calls = refl; turns = refl })
    is (c.take_in.ensures names s.store d.store assigns shows brought slots)
