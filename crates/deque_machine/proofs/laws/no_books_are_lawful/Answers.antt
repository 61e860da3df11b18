use Rattle.deque_machine.proofs.Keeping as law
use Rattle.deque_machine.proofs.laws.no_books_are_lawful.Goals as goal

pub returns : goal.returns
returns c = law.no_books_are_lawful
