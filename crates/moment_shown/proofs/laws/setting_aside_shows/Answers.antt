use Rattle.moment_shown.proofs.Cutting as law
use Rattle.moment_shown.proofs.laws.setting_aside_shows.Goals as goal

pub returns : goal.returns
returns c = law.setting_aside_shows
