use Rattle.loop_laws.proofs.Weighing.{all_given_back}
use Rattle.loop_laws.proofs.run_laws.calls_of_integers_give_all_back.Goals as goal

pub returns : goal.returns
returns c = λ setting owned line f x args g h s is takes plain none running ends. all_given_back setting owned line f x args g h s is takes plain none running ends
