-- What a list of deques ends as, where the top item of a deque is lent for writing.
use Rattle.std.specs.Prelude.{Option, map, slice_set, nat_eq, if◌then◌else◌}
use Rattle.std.specs.Borrow.{LendsIf, Fml, RattleType, MutBor}
use Rattle.deque_list.specs.declared.deque_id.DequeId.{DequeId}
use Rattle.deque_list.specs.Deques.{Deque}
use Rattle.deque_list.specs.DequeLists.{ListView}
use Rattle.deque_list.specs.contracts.list.List.{the_row}

-- the deque with this id has another top item
abbrev pub with_top_item : {T : Type 0} → DequeId → T → Deque T → Deque T
with_top_item id top deque = if nat_eq deque.id.0 id.0 then record deque { items = slice_set deque.items 0 top } else deque

-- the list after that
abbrev pub with_top_at : {T : Type 0} → ListView T → DequeId → T → ListView T
with_top_at list id top = record list { deques = map (with_top_item id top) list.deques }

-- the top item is the last one written through the result, and with no item the list stays as it is
abbrev pub lends_top_item : (T : RattleType) → MutBor (ListView T.Denot) → DequeId → Option (MutBor T.Denot) → Fml
lends_top_item T s id r = LendsIf (the_row T) T s r (with_top_at s.now id) s.now
