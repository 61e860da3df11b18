use Rattle.trail_record.proofs.Good as law
use Rattle.trail_record.proofs.laws.recorded_plays_are_good.Goals as goal

pub returns : goal.returns
returns c = law.recorded_plays_are_good
