-- The lines and the first fault of two lists of items, by the first list.
use Rattle.std.proofs.Common.{◌≡◌, List, [], ◌∷◌, ◌++◌, ℤ, Option, Some, None, refl, sym, ap, ◌∙◌, append-nil}
use Rattle.dag_order.specs.declared.fault.FaultAt.{FaultAt}
use Rattle.thread_points.specs.Passed.States.{Item, began, acted, printed, failed}
use Rattle.thread_points.specs.Passed.Run.{lines_of, first_fault}
use Rattle.thread_output.specs.Joining.{lines_before}
use Rattle.thread_points.specs.Laws.{earlier_fault}

pub faults : (a b : List Item) → first_fault (a ++ b) ≡ earlier_fault (first_fault a) (first_fault b)
faults [] b = refl
faults (began line ∷ a) b = faults a b
faults (acted action ∷ a) b = faults a b
faults (printed v ∷ a) b = faults a b
faults (failed fault ∷ a) b = refl

one_more : (f : Option FaultAt) (v : ℤ) (earlier later : List ℤ) → v ∷ lines_before f earlier later ≡ lines_before f (v ∷ earlier) later
one_more (Some fault) v earlier later = refl
one_more None v earlier later = refl

pub lines : (a b : List Item) → lines_of (a ++ b) ≡ lines_before (first_fault a) (lines_of a) (lines_of b)
lines [] b = refl
lines (began line ∷ a) b = lines a b
lines (acted action ∷ a) b = lines a b
lines (printed v ∷ a) b = ap (λ (vs : List ℤ). v ∷ vs) (lines a b) ∙ one_more (first_fault a) v (lines_of a) (lines_of b)
lines (failed fault ∷ a) b = refl

-- a number that is printed behind items with no fault
pub printed_fault : (items : List Item) (v : ℤ) → first_fault (items ++ printed v ∷ []) ≡ first_fault items
printed_fault items v = faults items (printed v ∷ []) ∙ same (first_fault items)
  where
    same : (f : Option FaultAt) → earlier_fault f None ≡ f
    same (Some fault) = refl
    same None = refl

pub printed_lines : (items : List Item) (v : ℤ) → None ≡ first_fault items → lines_of (items ++ printed v ∷ []) ≡ lines_of items ++ v ∷ []
printed_lines items v none =
    lines items (printed v ∷ []) ∙ ap (λ (f : Option FaultAt). lines_before f (lines_of items) (v ∷ [])) (sym none)

-- a fault behind items
pub marked_first : (items : List Item) (fault : FaultAt) → None ≡ first_fault items → Some fault ≡ first_fault (items ++ failed fault ∷ [])
marked_first items fault none =
    sym (faults items (failed fault ∷ []) ∙ ap (λ (f : Option FaultAt). earlier_fault f (Some fault)) (sym none))

pub marked_later : (items : List Item) (fault first : FaultAt) → Some first ≡ first_fault items → Some first ≡ first_fault (items ++ failed fault ∷ [])
marked_later items fault first some =
    sym (faults items (failed fault ∷ []) ∙ ap (λ (f : Option FaultAt). earlier_fault f (Some fault)) (sym some))

pub marked_lines : (items : List Item) (fault : FaultAt) → lines_of (items ++ failed fault ∷ []) ≡ lines_of items
marked_lines items fault = lines items (failed fault ∷ []) ∙ same (first_fault items) (lines_of items)
  where
    same : (f : Option FaultAt) (vs : List ℤ) → lines_before f vs [] ≡ vs
    same (Some fault) vs = refl
    same None vs = append-nil vs
