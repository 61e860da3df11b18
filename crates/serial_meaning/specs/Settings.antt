-- What a run is of, with the limits of a run.
use Rattle.std.specs.Prelude.{ℕ}
use Rattle.language_limits.specs.declared.TheConstants.{MOST_CALLS, MOST_FORKS, MOST_TURNS}
use Rattle.par_tree.specs.Tree.{Program}
use Rattle.depth_first_run.specs.States.{Setting}

-- a program and a quota: at most 10,000 open calls, 1,000,000 turns of a thread, and 256 forks above one another
abbrev pub setting_of : Program → ℕ → Setting
setting_of program k = record { program = program; quota = k; most_calls = MOST_CALLS; most_turns = MOST_TURNS; most_forks = MOST_FORKS }
