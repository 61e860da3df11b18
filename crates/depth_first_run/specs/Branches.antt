-- What a Fork and a Join do to stores, by the names that a branch names and those to which it assigns.
use Rattle.std.specs.Prelude.{Bool, ◌++◌}
use Rattle.par_tree.specs.Tree.{Name}
use Rattle.depth_first_run.specs.Stores.{Store, those_named, those_not_named}
use Rattle.depth_first_run.specs.States.{taken_integers}

-- the store of a child that is forked with the blocks whose names pass, and what its parent keeps
abbrev pub child_store : (Name → Bool) → Store → Store
child_store named s = record { integers = s.integers; blocks = those_named named s.blocks }

abbrev pub parent_store : (Name → Bool) → Store → Store
parent_store named s = record { integers = s.integers; blocks = those_not_named named s.blocks }

-- the store after a Join: the child's integers whose names pass, and the blocks of both
abbrev pub joined_store : (Name → Bool) → (child own : Store) → Store
joined_store assigned child own = record {
  integers = taken_integers assigned child.integers own.integers;
  blocks = own.blocks ++ child.blocks;
}
