-- What goes in and out of the first branch of a `par`.
use Rattle.std.specs.Prelude.{List}
use Rattle.std.specs.List.{filter}
use Rattle.par_tree.specs.Tree.{Name, Body}
use Rattle.node_table.specs.Programs.{is_named_in, is_assigned_in}
use Rattle.node_table.specs.Reading.{AreSlots}
use Rattle.frame_code.specs.declared.branches.Branches.{Branches}

pub record SlotsOfBranches (names : List Name) (left : Body) (b : Branches) : Type 0 where
  pub blocks : AreSlots names b.blocks.items (filter (is_named_in left) names)
  pub assigned : AreSlots names b.assigned.items (filter (is_assigned_in left) names)
