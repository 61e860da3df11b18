-- What contracts see of a `BoundedList`.
use Rattle.std.specs.Prelude.{ℕ, ◌-◌, List, min}
use Rattle.std.specs.Vec.{vec_len, vec_capacity}
use Rattle.language_limits.specs.declared.TheConstants.{GREATEST_COUNT}
use Rattle.containers.specs.declared.bounded_list.BoundedList.{BoundedList}

-- the entries, first to last
abbrev pub entries : {T : Type 0} → BoundedList T → List T
entries list = list.items.items

-- how many further entries the list takes without memory, never beyond `GREATEST_COUNT` entries in all
unfoldable pub spare : {T : Type 0} → BoundedList T → ℕ
spare list = min (vec_capacity list.items) GREATEST_COUNT - vec_len list.items
