use Rattle.depth_first_list.proofs.LiveLaws as law
use Rattle.depth_first_list.proofs.laws.next_is_of_its_index.Goals as goal

pub returns : goal.returns
returns c = law.next_is_of_its_index
