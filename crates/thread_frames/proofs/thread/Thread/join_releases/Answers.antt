use Rattle.std.proofs.Common.{subst, IsTrue}
use Rattle.thread_frames.specs.Views.{newest, Child}
use Rattle.std.proofs.Common.{Option}
use Rattle.thread_frames.specs.Actions.{is_there}
use Rattle.thread_frames.proofs.Places.{newest_shown, there_given}
use Rattle.thread_frames.proofs.thread.Thread.join_releases.Goals as goal

pub unreachable-requires : goal.unreachable-requires
unreachable-requires c =
    there_given (newest c.args.self.now.children.items)
    (subst (λ (o : Option Child). IsTrue (is_there o)) (newest_shown c.args.self.now.children.items) c.requires.delivered) c.in-None.ensures
