-- The slots that the first branch of a `par` takes with it, and those to whose integers it assigns.
use Rattle.std.specs.Prelude.{ℕ, List, [], Option, Some}
use Rattle.node_table.specs.Table.{Kind, both_node, Table}
use Rattle.thread_stack.specs.declared.branch.Branch.{Branch}
use Rattle.thread_stack.specs.declared.branch.Branch.TheVariants.{Par, Dummies}
use Rattle.thread_stack.specs.Lists.{kind_at}

abbrev pub blocks_of : Option Kind → List ℕ
blocks_of (Some (both_node a b blocks assigned)) = blocks
blocks_of other = []

abbrev pub assigned_of : Option Kind → List ℕ
assigned_of (Some (both_node a b blocks assigned)) = assigned
assigned_of other = []

abbrev pub taken_slots : Table → Branch → List ℕ
taken_slots t (Par n) = blocks_of (kind_at t n)
taken_slots t Dummies = []

abbrev pub assigned_slots : Table → Branch → List ℕ
assigned_slots t (Par n) = assigned_of (kind_at t n)
assigned_slots t Dummies = []
