use Rattle.std.proofs.Common.{◌≡◌, ℕ, ◌<◌, List, length, Some, slice_get}
use Rattle.std.specs.Prelude.{All}
use Rattle.node_table.specs.Codes.{code_shown}
use Rattle.flat_program.specs.declared.flat_list.FlatList.{FlatList}
use Rattle.flat_program.specs.Programs.{StartsIn}
use Rattle.flat_program.specs.Entries.{KeepsStarts, BeginsWith, HasStart}
use Rattle.flat_program.proofs.starting.note_all.Given as goal

-- the start of the list is noted as soon as its first place was looked at
abbrev pub invariant-loop-place : goal.invariant-loop-place
invariant-loop-place l =
    ((ls : List FlatList) → slice_get ls l.fn.list ≡ Some l.fn.flat → All (StartsIn (code_shown l.fn.table) ls) l.initial.starts.items
    → All (StartsIn (code_shown l.fn.table) ls) l.starts.items)
    × KeepsStarts l.initial.starts.items l.starts.items
    × (0 < l.place → (entry : ℕ) → BeginsWith (code_shown l.fn.table) l.fn.flat entry → entry < length l.initial.starts.items → HasStart l.starts.items entry)
