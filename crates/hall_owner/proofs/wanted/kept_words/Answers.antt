use Rattle.std.proofs.Common.{sym, ap, ◌∙◌}
use Rattle.hall_actions.specs.Passed.HallNames.{kept_under, Thread, ListSlot}
use Rattle.thread_frames.specs.Passed.Joins.{released}
use Rattle.hall_owner.proofs.wanted.kept_words.Goals as goal

pub returns-in-Some : goal.returns-in-Some
returns-in-Some c = (
  c.in-Some.ended.now,
  ap (λ (l : ListSlot). kept_under l.part.results c.args.child) (sym c.get.ensures) ∙ sym c.in-Some.ensures,
  c.would_release.ensures ∙ ap (λ (t : Thread). released t.run.state c.in-Some.ended.now.state) c.get-in-Some.ensures,
)
