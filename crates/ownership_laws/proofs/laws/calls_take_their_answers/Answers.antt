use Rattle.ownership_laws.proofs.Taking.{calls_take}
use Rattle.ownership_laws.proofs.laws.calls_take_their_answers.Goals as goal

pub returns : goal.returns
returns c = λ setting owned ret params args t own s at. calls_take setting owned ret params args t own s at
