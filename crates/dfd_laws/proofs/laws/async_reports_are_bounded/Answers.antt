use Rattle.dfd_laws.proofs.AsyncHeadline as law
use Rattle.dfd_laws.proofs.laws.async_reports_are_bounded.Goals as goal

pub returns : goal.returns
returns c = λ command p ranges owned. law.async_reports_are_bounded command p ranges
