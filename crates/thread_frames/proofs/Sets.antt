-- Facts that are known to hold are at hand.
use Rattle.std.proofs.Common.{◌≡◌, ℕ, zero, suc, Option, Some, None, Result, Ok, Err, IfOk, List, [], ◌∷◌, length, ℤ, refl, sym, ap, ◌∙◌}
use Rattle.std.proofs.Math.Logic.{∥∥₁_elim, ∥∥₁_map}
use Rattle.std.proofs.lemmas.List.{nil_from_length}
use denote.Struct.Props.{props}
use mathlib.Core.HLevel.{collapsible→set, Σ_set}
use mathlib.Core.List.{is_set}
use Rattle.std.specs.declared.alloc.AllocError.{AllocError}
use Rattle.containers.specs.BoundedList.{entries}
use Rattle.containers.specs.declared.bounded_list.BoundedList.{BoundedList}
use Rattle.dag_order.specs.declared.fault.FaultAt.{FaultAt}
use Rattle.dag_order.specs.declared.fault.FaultKind.{FaultKind}
use Rattle.dag_order.specs.declared.fault.FaultKind.TheVariants as kinds
use Rattle.node_table.specs.Reading.{FitsSlots}
use Rattle.thread_state.specs.Passed.Rows.{Entry}
use Rattle.thread_stack.specs.declared.branch.Branch.{Branch}
use Rattle.thread_stack.specs.declared.branch.Branch.TheVariants.{Par, Dummies}
use Rattle.thread_state.specs.declared.state.ThreadState.{ThreadState}
use Rattle.thread_state.specs.declared.fork_room.ForkRoom.{ForkRoom}
use Rattle.thread_frames.specs.Memory.{RoomFits}

retract_set : {A B : Type 0} (to : A → B) (from : B → A) → ((x : A) → from (to x) ≡ x) → IsSet B → IsSet A
retract_set to from back set = collapsible→set (λ x y p. sym (back x) ∙ ap from (ap to p) ∙ back y)
    (λ x y p q. ap (λ z. sym (back x) ∙ ap from z ∙ back y) (set (to x) (to y) (ap to p) (ap to q)))

abbrev Pair : Type 0
Pair = ℤ × List (List ℤ)

pair_of : Entry → Pair
pair_of e = (e.integer, e.blocks)

entry_with : Pair → Entry
entry_with p = record { integer = p.0; blocks = p.1 }

same_entry : (e : Entry) → entry_with (pair_of e) ≡ e
unfolding pair_of entry_with
same_entry e = refl

int_set : (x y : ℤ) → IsProp (x ≡ y)
int_set x y = search props

pair_set : (p q : Pair) → IsProp (p ≡ q)
pair_set = Σ_set int_set (λ x. is_set (is_set int_set))

pub row_set : (xs ys : List Entry) → IsProp (xs ≡ ys)
row_set xs ys = is_set (retract_set pair_of entry_with same_entry pair_set) xs ys

-- a fault is known by two numbers
number_of : FaultKind → ℕ
number_of kinds.Index = 0
number_of kinds.Divide = 1
number_of kinds.Size = 2
number_of kinds.Split = 3
number_of kinds.Depth = 4
number_of kinds.Turns = 5

kind_of : ℕ → FaultKind
kind_of zero = kinds.Index
kind_of (suc zero) = kinds.Divide
kind_of (suc (suc zero)) = kinds.Size
kind_of (suc (suc (suc zero))) = kinds.Split
kind_of (suc (suc (suc (suc zero)))) = kinds.Depth
kind_of (suc (suc (suc (suc (suc n))))) = kinds.Turns

same_kind : (k : FaultKind) → kind_of (number_of k) ≡ k
unfolding number_of kind_of
same_kind kinds.Index = refl
same_kind kinds.Divide = refl
same_kind kinds.Size = refl
same_kind kinds.Split = refl
same_kind kinds.Depth = refl
same_kind kinds.Turns = refl

numbers_of : Option FaultAt → List ℕ
numbers_of None = []
numbers_of (Some fault) = number_of fault.kind ∷ fault.line ∷ []

fault_of : List ℕ → Option FaultAt
fault_of [] = None
fault_of (k ∷ []) = None
fault_of (k ∷ line ∷ more) = Some (record { kind = kind_of k; line = line })

same_fault : (o : Option FaultAt) → fault_of (numbers_of o) ≡ o
unfolding numbers_of fault_of
same_fault None = refl
same_fault (Some fault) = ap (λ (k : FaultKind). Some (record { kind = k; line = fault.line })) (same_kind fault.kind)

numbers_set : (xs ys : List ℕ) → IsProp (xs ≡ ys)
numbers_set xs ys = search props

pub fault_set : (o q : Option FaultAt) → IsProp (o ≡ q)
fault_set = retract_set numbers_of fault_of same_fault numbers_set

-- a result that says which lines, where there is enough memory
pub lines_fact : (r : Result (BoundedList ℤ) AllocError) (xs : List ℤ) → IsProp (IfOk r (λ lines. entries lines ≡ xs))
lines_fact (Ok lines) xs = search props
lines_fact (Err error) xs = search props

pub room_had : (state : ThreadState) (branch : Branch) (room : ForkRoom) → ∥ RoomFits state branch room ∥₁ → RoomFits state branch room
room_had state (Par n) room h = record {
  label = ∥∥₁_elim h (search props) (λ r. r.label);
  row = ∥∥₁_elim h (row_set _ _) (λ r. r.row);
  callers = nil_from_length room.callers.items (∥∥₁_elim h (search props) (λ r. ap length r.callers));
}
room_had state Dummies room h = record {
  label = ∥∥₁_elim h (search props) (λ r. r.label);
  row = ∥∥₁_elim h (row_set _ _) (λ r. r.row);
  callers = nil_from_length room.callers.items (∥∥₁_elim h (search props) (λ r. ap length r.callers));
}

pub fits_had : (count : ℕ) (slots : List ℕ) → ∥ FitsSlots count slots ∥₁ → FitsSlots count slots
fits_had count [] h = tt
fits_had count (s ∷ slots) h = (∥∥₁_elim h (search props) (λ p. p.0), fits_had count slots (∥∥₁_map h (λ p. p.1)))
