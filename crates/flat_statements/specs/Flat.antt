-- Flat code: the statements of functions as acts one after another, with jumps in place of lists in lists; and one step of a machine that
-- runs it.
use Rattle.std.specs.Prelude.{◌≡◌, ℕ, zero, suc, Bool, true, false, List, [], Option, Some, None, get_or, slice_get, Result, Ok, Err}
use Rattle.flat_expressions.specs.Passed.FaultKind.{FaultKind}
use Rattle.flat_expressions.specs.Passed.FaultKindVariants as faults
use Rattle.flat_expressions.specs.Passed.Rows.{Entry}
use Rattle.thread_stack.specs.declared.frame.Frame.{Frame}
use Rattle.flat_expressions.specs.Acts.{Act, act_on, Test, passes}

-- What is at a place of the code, with the places at which it goes on if not at the next one. An act on slots. The test of an `if`,
-- with the place of its other arm. The test of a loop: where it passes a turn is taken, and the body comes; else what is after the loop. A
-- jump. The end of flat code: a statement that the thread does by itself, or the end of a list that the thread does not leave by itself.
pub data Flat : Type 0 where
  doing : Act → Flat
  unless : Test → (other : ℕ) → Flat
  rounds : Test → (body behind : ℕ) → Flat
  jumps : ℕ → Flat
  leaves : Flat

-- With each place goes its mark: the frames that a thread has inside its function where it is before the statement to which the place
-- belongs, the next one first.
pub record FlatCode : Type 0 where
  pub places : List Flat
  pub marks : List (List Frame)

abbrev pub frames_at : FlatCode → ℕ → List Frame
frames_at f place = get_or f.marks place []

-- where the machine is: the place, the row, which has temporary slots after those of the function, and the turns that are left
pub record Point : Type 0 where
  pub place : ℕ
  pub row : List Entry
  pub turns : ℕ

-- what a step gives: it goes on, a fault, or what is not for flat code
pub data Came (A : Type 0) : Type 0 where
  goes_to : A → Came A
  meets : FaultKind → Came A
  stops : Came A

-- it does not go on
abbrev pub IsEnd : {A : Type 0} → Came A → Type 0
IsEnd (goes_to x) = ⊥
IsEnd (meets kind) = Unit {0}
IsEnd stops = Unit {0}

abbrev pub acted : Point → Result (List Entry) FaultKind → Came Point
acted p (Ok row) = goes_to (record { place = suc p.place; row = row; turns = p.turns })
acted p (Err kind) = meets kind

abbrev pub at_place : Point → ℕ → Came Point
at_place p place = goes_to (record { place = place; row = p.row; turns = p.turns })

abbrev pub chosen : Point → (other : ℕ) → Bool → Came Point
chosen p other true = at_place p (suc p.place)
chosen p other false = at_place p other

abbrev pub turned : Point → (body : ℕ) → (turns : ℕ) → Came Point
turned p body zero = meets faults.Turns
turned p body (suc left) = goes_to (record { place = body; row = p.row; turns = left })

abbrev pub rounded : Point → (body behind : ℕ) → Bool → Came Point
rounded p body behind true = turned p body p.turns
rounded p body behind false = at_place p behind

abbrev pub step_at : Point → Option Flat → Came Point
step_at p None = stops
step_at p (Some (doing a)) = acted p (act_on a p.row)
step_at p (Some (unless test other)) = chosen p other (passes p.row test)
step_at p (Some (rounds test body behind)) = rounded p body behind (passes p.row test)
step_at p (Some (jumps place)) = at_place p place
step_at p (Some leaves) = stops

-- one step of the machine
abbrev pub flat_step : FlatCode → Point → Came Point
flat_step f p = step_at p (slice_get f.places p.place)

-- so many steps as lead from one point to another
pub data Runs (f : FlatCode) : Point → Point → Type 0 where
  arrived : {p : Point} → Runs f p p
  further : {p r : Point} → (q : Point) → flat_step f p ≡ goes_to q → Runs f q r → Runs f p r
