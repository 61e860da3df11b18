-- What a search for a `par` shows.
use Rattle.std.specs.Prelude.{◌≡◌, ℕ, ◌+◌, List, length, slice_get, Some, Result, Ok, Err}
use Rattle.par_ownership.specs.Environment.{Environment}
use Rattle.block_check.specs.declared.fork.Fork.{Fork}
use Rattle.block_check.specs.declared.sought.Sought.{Sought}
use Rattle.block_check.specs.declared.sought.Sought.TheVariants.{Found, Passed}
use Rattle.block_check.specs.declared.refusal.Fail.{Fail}
use Rattle.block_check.specs.Shown.{env_shown}
use Rattle.par_names.specs.Rows.{rows_tree}
use Rattle.block_check.specs.Forks

abbrev pub fork_shown : Fork → Forks.Fork
fork_shown k = record { names = env_shown k.names; left = rows_tree k.left.now; right = rows_tree k.right.now }

-- the n-th of some `par` statements is found, or there are fewer, and m more are left to be passed
abbrev pub Seeks : List Forks.Fork → ℕ → Environment → Result Sought Fail → Type 0
Seeks xs n env (Ok (Found k)) = slice_get xs n ≡ Some (fork_shown k)
Seeks xs n env (Ok (Passed m names)) = (n ≡ length xs + m) × (env_shown names ≡ env)
Seeks xs n env (Err e) = Unit {0}
