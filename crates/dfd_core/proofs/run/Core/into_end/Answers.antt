use Rattle.std.proofs.Common.{◌≡◌, ◌↔◌, refl, sym, subst, ◌∙◌, ap}
use Rattle.std.specs.Prelude.{Option, None, IfSome}
use Rattle.depth_first_list.specs.QuotaWords.{quota_words}
use Rattle.node_table.specs.Codes.{code_shown}
use Rattle.thread_frames.specs.declared.ended.Ended.{Ended}
use Rattle.dfd_core.specs.Cores.{HasFinished}
use Rattle.scheduler_state.specs.Held.{held}
use Rattle.space_ledger.specs.declared.books.Books.{Books}
use Rattle.dfd_core.specs.Parts.{IsOfWholeRun, AreOfRun, root_behind}
use Rattle.dfd_core.proofs.Apart.{none_is_stop, of_whole_run, of_run}
use Rattle.dfd_core.proofs.run.Core.into_end.Goals as goal

pub returns-clause-none : goal.returns-clause-none
returns-clause-none c =
    let root = c.root_of.ensures ∙ ap (root_behind c.in-Some.end) c.take.ensures.value in
    subst (λ (o : Option Ended). (o ≡ None) ↔ ¬ HasFinished c.args.self) (sym root)
    (none_is_stop _ _ _ _ c.args.self.sound c.args.self.end c.args.self.somewhere c.in-Some.end c.in-Some.is)

pub returns-clause-whole : goal.returns-clause-whole
returns-clause-whole c =
    let root = c.root_of.ensures ∙ ap (root_behind c.in-Some.end) c.take.ensures.value in
    subst (λ (o : Option Ended). IfSome o (IsOfWholeRun (code_shown c.args.self.code) (quota_words c.args.self.k))) (sym root) (of_whole_run _ _ _ _ c.args.self.sound c.args.self.end c.args.self.somewhere c.in-Some.end)

pub returns-clause-run : goal.returns-clause-run
returns-clause-run c = λ setting run m at.
    subst (λ (books : Books). AreOfRun setting run m books c.args.self.scheduler.moves) (sym c.into_books.ensures)
    (of_run setting _ (held c.args.self.scheduler) run m c.args.self.scheduler.moves at.stands refl c.requires.idle)
