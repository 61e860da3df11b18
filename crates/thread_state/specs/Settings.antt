-- The setting that a code with a quota is run in.
use Rattle.std.specs.Prelude.{◌≡◌, ℕ}
use Rattle.language_limits.specs.declared.TheConstants.{MOST_CALLS, MOST_TURNS, MOST_FORKS}
use Rattle.depth_first_run.specs.Passed.Ownership.{Ownership}
use Rattle.depth_first_run.specs.States.{Setting}
use Rattle.node_table.specs.Table.{Table}
use Rattle.node_table.specs.Programs.{IsTableOf}

-- its program keeps the rules and has this table; the quota is k words; the limits are those of the language
pub record IsSettingOf (t : Table) (k : ℕ) (c : Setting) : Type 0 where
  pub owned : Ownership c.program
  pub table : IsTableOf c.program t
  pub quota : c.quota ≡ k
  pub calls : c.most_calls ≡ MOST_CALLS
  pub turns : c.most_turns ≡ MOST_TURNS
  pub forks : c.most_forks ≡ MOST_FORKS
