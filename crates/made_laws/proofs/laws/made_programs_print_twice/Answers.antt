use Rattle.made_laws.proofs.Runs.{made_programs_print_twice}
use Rattle.made_laws.proofs.laws.made_programs_print_twice.Goals as goal

pub returns : goal.returns
returns c = made_programs_print_twice
