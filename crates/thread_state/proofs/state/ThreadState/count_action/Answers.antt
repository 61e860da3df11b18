use Rattle.std.proofs.Common.{refl}
use Rattle.thread_state.proofs.Steps.{is_counted}
use Rattle.thread_state.proofs.state.ThreadState.count_action.Goals as goal

pub returns : goal.returns
returns c = λ contexts deed words s is. is_counted contexts c.args.self.now _ s deed words refl refl refl refl refl refl refl is
