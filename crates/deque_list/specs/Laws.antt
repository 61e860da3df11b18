-- What callers may rely on beside the contracts: laws over what they show.
use Rattle.std.specs.Prelude.{◌≡◌, ℕ, ◌≤◌, List, length, insert, remove, slice_set}
use Rattle.deque_list.specs.declared.deque_id.DequeId.{DequeId}
use Rattle.deque_list.specs.Ids.{IdsDiffer, IsSmallestFree}
use Rattle.deque_list.specs.Deques.{Deque, DequeAt, deque_ids}
use Rattle.deque_list.specs.DequeLists.{ListView}
use Rattle.deque_list.specs.ListLends.{with_top_at}

-- what was inserted at a rank and is removed there leaves the list as it was
abbrev pub InsertedThenRemoved : Type 0 → Type 0
InsertedThenRemoved X = (xs : List X) (rank : ℕ) (x : X) → rank ≤ length xs → remove (insert xs rank x) rank ≡ xs

-- there is one smallest free id: so the id that `next_id` tells is the one that `insert_right` answers
abbrev pub OneSmallestFree : Type 0
OneSmallestFree = (ids : List DequeId) (a b : DequeId) → IsSmallestFree ids a → IsSmallestFree ids b → a ≡ b

-- the list of which the top item of a deque was written is the list with that one item set
abbrev pub TopWritten : Type 0 → Type 0
TopWritten T =
    (list : ListView T) (id : DequeId) (rank : ℕ) (deque : Deque T) (top : T) →
    IdsDiffer (deque_ids list.deques) → DequeAt list.deques id rank deque →
    with_top_at list id top
    ≡ record list { deques = slice_set list.deques rank (record deque { items = slice_set deque.items 0 top }) }

-- and its ids are as they were
abbrev pub TopWrittenIds : Type 0 → Type 0
TopWrittenIds T =
    (list : ListView T) (id : DequeId) (top : T) → deque_ids (with_top_at list id top).deques ≡ deque_ids list.deques
