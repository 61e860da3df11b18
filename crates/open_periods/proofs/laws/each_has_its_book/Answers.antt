use Rattle.open_periods.proofs.Changes as law
use Rattle.open_periods.proofs.laws.each_has_its_book.Goals as goal

pub returns : goal.returns
returns c = law.each_has_its_book
