-- Which statements are calls: those begin in the layer above, where the frames of the caller are at hand.
use Rattle.std.specs.Prelude.{Option, Some}
use Rattle.node_table.specs.Table.{Kind, call_node}

-- what a node does is no call
abbrev pub IsNoCall : Option Kind → Type 0
IsNoCall (Some (call_node to func from)) = ⊥
IsNoCall other = Unit {0}
