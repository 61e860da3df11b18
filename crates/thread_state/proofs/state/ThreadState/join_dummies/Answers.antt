use Rattle.std.proofs.Common.{refl, []}
use Rattle.depth_first_run.specs.Run.{no_name}
use Rattle.thread_state.proofs.Joining.{joins_into_faulted, joins_of_faulted, joins_dummies}
use Rattle.thread_state.proofs.state.ThreadState.join_dummies.Goals as goal

pub returns-then-self-clause-state : goal.returns-then-self-clause-state
returns-then-self-clause-state c = λ contexts ordinal d of_child s is.
    joins_into_faulted contexts c.args.self.now _ s d no_name ordinal c.if-self.true
    (record { label = refl; done = refl; forks = refl; faulted = refl; callers = refl; calls = refl; turns = refl }) refl is

pub returns-then-child-clause-state : goal.returns-then-child-clause-state
returns-then-child-clause-state c = λ contexts ordinal d of_child s is.
    joins_of_faulted contexts [] c.args.self.now _ c.args.child s d no_name ordinal c.if-self.false c.if-child.true of_child
    refl refl refl refl refl refl c.take_rows.ensures.slots c.take_rows.ensures.callers is

pub returns-clause-state : goal.returns-clause-state
returns-clause-state c = λ contexts ordinal d of_child s is.
    joins_dummies contexts c.args.self.now _ c.args.child s d ordinal c.if-self.false c.if-child.false of_child
    (record { label = refl; done = refl; forks = refl; faulted = refl; callers = refl; calls = refl; turns = refl }) refl is
