use Rattle.std.proofs.Common.{refl}
use Rattle.depth_first_run.specs.Run.{unchanged}
use Rattle.thread_state.proofs.Steps.{no_turn, is_turned}
use Rattle.thread_state.proofs.state.ThreadState.turn.Goals as goal

pub returns-then-self-eq0-clause-state : goal.returns-then-self-eq0-clause-state
returns-then-self-eq0-clause-state c = λ contexts line s is. (is, no_turn line c.args.self.now.turns unchanged s is.turns c.if-self-eq0.true)

pub returns-clause-state : goal.returns-clause-state
returns-clause-state c = λ contexts line s is. is_turned contexts c.args.self.now _ s line c.if-self-eq0.false refl refl refl refl refl refl refl is
