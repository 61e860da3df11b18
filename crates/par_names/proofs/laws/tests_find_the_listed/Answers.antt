use Rattle.par_names.proofs.Found.{body_found, body_assigned_found}
use Rattle.par_names.proofs.laws.tests_find_the_listed.Goals as goal

pub returns : goal.returns
returns c x b = (body_found x b, body_assigned_found x b)
