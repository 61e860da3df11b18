use Rattle.flat_code.proofs.OfPrograms.{list_fits}
use Rattle.flat_code.proofs.laws.lists_of_programs_can_be_flat.Goals as goal

pub returns : goal.returns
returns c = list_fits
