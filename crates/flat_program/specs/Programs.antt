-- The flat code of a program: of which frames it knows where their code begins.
use Rattle.std.specs.Prelude.{◌≡◌, ℕ, ◌≤◌, max, List, [], ◌∷◌, length, Option, Some, None, slice_get, All}
use Rattle.node_table.specs.Table.{Table}
use Rattle.thread_stack.specs.declared.frame.Frame.{Frame}
use Rattle.flat_code.specs.Passed.Flat.{frames_at}
use Rattle.flat_code.specs.Passed.Forward.{IsForward}
use Rattle.flat_code.specs.declared.place.Place.{Place}
use Rattle.flat_code.specs.Shown.{flat_shown}
use Rattle.flat_code.specs.Starts.{Begins, OthersBegin}
use Rattle.flat_program.specs.declared.flat_list.FlatList.{FlatList}
use Rattle.flat_program.specs.declared.flat_start.FlatStart.{FlatStart}
use Rattle.flat_program.specs.declared.flat_program.FlatProgram.{FlatProgram}

-- how many frames the mark of a place has at most
abbrev pub deepest_mark : List Place → ℕ
deepest_mark [] = 0
deepest_mark (p ∷ ps) = max (length p.mark.items) (deepest_mark ps)

-- the frames of the mark of a place, the next one first
abbrev pub mark_at : FlatList → ℕ → List Frame
mark_at l place = frames_at (flat_shown l.places.items) place

-- no mark of a list has more frames than it says
abbrev pub HasDeepest : FlatList → Type 0
HasDeepest l = (place : ℕ) → length (mark_at l place) ≤ l.deepest

-- what is made of a list of the table: code that goes forward, for rows that have the slots of the function in front
pub record IsFlatList (t : Table) (l : FlatList) : Type 0 where
  pub others : OthersBegin t (flat_shown l.places.items) l.slots l.size
  pub forward : IsForward (flat_shown l.places.items)
  pub room : l.slots ≤ l.size
  pub deep : HasDeepest l

-- and at this place of it there is the code of the frames of its mark
pub record BeginsAt (t : Table) (l : FlatList) (place : ℕ) : Type 0 where
  pub code : Begins t (flat_shown l.places.items) l.slots l.size place
  pub forward : IsForward (flat_shown l.places.items)
  pub room : l.slots ≤ l.size
  pub deep : HasDeepest l

-- one of these lists is that of a start, and the code of the mark begins at its place
abbrev pub StartsIn : Table → List FlatList → Option FlatStart → Type 0
StartsIn t ls None = Unit {0}
StartsIn t ls (Some s) = (l : FlatList) × (slice_get ls s.list ≡ Some l) × BeginsAt t l s.place

-- all starts that a program has are so
abbrev pub IsFlatProgram : Table → FlatProgram → Type 0
IsFlatProgram t p = All (StartsIn t p.lists.items) p.starts.items
