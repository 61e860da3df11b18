-- What running flat code is, as values of the Rust types.
use Rattle.std.specs.Prelude.{◌≡◌, ℕ, List}
use Rattle.slot_store.specs.Rows.{Entry}
use Rattle.flat_code.specs.Passed.Flat.{FlatCode, Point, Came, goes_to, meets, stops, flat_step, Runs}
use Rattle.flat_run.specs.declared.next.Next.{Next}
use Rattle.flat_run.specs.declared.next.Next.TheVariants.{Goes, Ends}
use Rattle.flat_run.specs.declared.end.End.{End}
use Rattle.flat_run.specs.declared.end.End.TheVariants.{Leaves, Faults}
use Rattle.flat_run.specs.declared.stop.Stop.{Stop}

abbrev pub at_point : ℕ → List Entry → ℕ → Point
at_point place row turns = record { place = place; row = row; turns = turns }

-- why the machine does not go on
abbrev pub came_to_end : {A : Type 0} → End → Came A
came_to_end Leaves = stops
came_to_end (Faults kind) = meets kind

-- what a step gave, which left this row
abbrev pub came_by : Next → List Entry → Came Point
came_by (Goes place turns) row = goes_to (at_point place row turns)
came_by (Ends end) row = came_to_end end

-- where it does not go on, the row is as it was
abbrev pub StaysBy : Next → (before after : List Entry) → Type 0
StaysBy (Goes place turns) before after = Unit {0}
StaysBy (Ends end) before after = after ≡ before

-- The machine ran from p to where it does not go on, and left this row.
abbrev pub point_of : Stop → List Entry → Point
point_of stop row = at_point stop.place row stop.turns

pub record RanTo (f : FlatCode) (p : Point) (stop : Stop) (row : List Entry) : Type 0 where
  pub runs : Runs f p (point_of stop row)
  pub ends : flat_step f (point_of stop row) ≡ came_to_end stop.end
