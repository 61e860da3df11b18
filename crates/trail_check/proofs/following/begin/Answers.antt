use Rattle.std.proofs.lemmas.Result.{IfOk-weaker}
use Rattle.containers.specs.BoundedList.{entries}
use Rattle.depth_first_run.specs.Run.{list_of}
use Rattle.trail_meaning.specs.Shown.{shown_by_trail}
use Rattle.trail_check.proofs.Ways.{given, listed, none_followed}
use Rattle.trail_check.proofs.following.begin.Goals as goal

pub returns : goal.returns
returns c = λ p list. IfOk-weaker c.new.result _ _ (λ checker stands. none_followed _ _ checker stands)
    (c.new.ensures _ _ (given p (shown_by_trail c.args.trail.now) (entries c.args.actions) c.in_ok-partners.partners.items c.requires list
    (c.in_ok-partners.ensures (list_of p) (listed p c.args.trail.now.k (entries c.args.actions) list))))
