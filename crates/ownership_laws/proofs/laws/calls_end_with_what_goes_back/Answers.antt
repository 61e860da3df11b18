use Rattle.ownership_laws.proofs.Reading.{call_ends}
use Rattle.ownership_laws.proofs.laws.calls_end_with_what_goes_back.Goals as goal

pub returns : goal.returns
returns c = λ setting owned ret params args t own s at running. call_ends setting owned ret params args t own s at running
