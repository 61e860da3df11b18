use Rattle.std.proofs.Common.{◌∙◌, ◌<◌, ap, subst}
use Rattle.std.specs.Prelude.{count_by}
use Rattle.space_ledger.specs.BooksList.{books_list}
use Rattle.space_ledger.specs.Counts.{is_ahead}
use Rattle.scheduler_state.proofs.Marked.{marked_at, marked_fits}
use Rattle.dfd_core.proofs.run.Core.ahead.Goals as goal

pub overflow_add-result : goal.overflow_add-result
overflow_add-result c =
    marked_fits _ _ _ _ c.args.self.now.sound (subst (λ n. n < 4294967296) c.begun-periods.ensures c.begun-periods.type_inv) c.ahead.result c.open_ahead.result
    (c.ahead.ensures ∙ ap (λ b. count_by is_ahead (books_list b)) c.books.ensures) c.open_ahead.ensures

pub returns : goal.returns
returns c = λ s run m at.
    marked_at _ _ _ run m at.stands c.ahead.result c.open_ahead.result
    (c.ahead.ensures ∙ ap (λ b. count_by is_ahead (books_list b)) c.books.ensures) c.open_ahead.ensures
