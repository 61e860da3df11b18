-- What the branch sets of a `par` are.
use Rattle.std.specs.Prelude.{◌≡◌, Option, Some, None, Result, Ok, Err}
use Rattle.block_check.specs.Forks.{Fork, names_of, takes_block, assigns_integer, names_shown}
use Rattle.block_check.specs.declared.branch_sets.BranchSets.{BranchSets}
use Rattle.block_check.specs.declared.sets_fail.SetsFail.{SetsFail}
use Rattle.block_check.specs.declared.sets_fail.SetsFail.TheVariants.{NoSuchPar, OutOfMemory}

-- of the names that are visible before the `par`, in the order of their declarations: the blocks that
-- each branch names, and the integers to which the first one assigns
pub record SetsOf (k : Fork) (s : BranchSets) : Type 0 where
  pub left_blocks : names_shown s.left_blocks ≡ names_of (takes_block k.left) k.names
  pub right_blocks : names_shown s.right_blocks ≡ names_of (takes_block k.right) k.names
  pub left_assigned : names_shown s.left_assigned ≡ names_of (assigns_integer k.left) k.names

-- the sets of a `par` if there is one, and else `NoSuchPar`
abbrev pub GivesSets : Option Fork → Result BranchSets SetsFail → Type 0
GivesSets o (Ok s) = (k : Fork) × (o ≡ Some k) × SetsOf k s
GivesSets o (Err NoSuchPar) = o ≡ None
GivesSets o (Err OutOfMemory) = Unit {0}
