use Rattle.moment_shown.proofs.Counting as law
use Rattle.moment_shown.proofs.laws.threads_count_within.Goals as goal

pub returns : goal.returns
returns c = law.threads_count_within
