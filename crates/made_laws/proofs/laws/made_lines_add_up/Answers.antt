use Rattle.made_laws.proofs.Sums.{lines_are_many, lines_add_up}
use Rattle.made_laws.proofs.laws.made_lines_add_up.Goals as goal

pub returns : goal.returns
returns c = λ n. (lines_are_many n, lines_add_up n)
