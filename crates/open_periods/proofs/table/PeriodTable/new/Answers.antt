use Rattle.std.proofs.Common.{◌≡◌, [], sym, ap, subst, ◌∙◌}
use Rattle.space_ledger.specs.BooksList.{books_list}
use Rattle.open_periods.specs.Numbers.{all_periods, NumbersDiffer, NumbersWithin}
use Rattle.open_periods.proofs.Seats.{none_open}
use Rattle.open_periods.proofs.table.PeriodTable.new.Goals as goal

pub invariant_of-result : goal.invariant_of-result
invariant_of-result c =
    let none : all_periods (books_list c.new.result) c.loop.seats.items ≡ [] =
    ap (λ b. all_periods b c.loop.seats.items) c.new.ensures ∙ none_open 0 c.loop.seats.items c.loop.invariant.0 in
    record {
      no_births = c.new-2.ensures;
      numbers_differ = subst NumbersDiffer (sym none) (λ i j p q p_there q_there same. absurd (Rattle.std.proofs.lemmas.Option.none-some p p_there));
      numbers_within = subst (λ ps. NumbersWithin ps 0) (sym none) (λ i p there. absurd (Rattle.std.proofs.lemmas.Option.none-some p there));
    }

pub returns-clause-none : goal.returns-clause-none
returns-clause-none c = ap (λ b. all_periods b c.loop.seats.items) c.new.ensures ∙ none_open 0 c.loop.seats.items c.loop.invariant.0
