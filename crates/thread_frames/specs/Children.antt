-- Which results a thread waits for, and what a delivery changes.
use Rattle.std.specs.Prelude.{◌≡◌, ℕ, suc, Bool, true, false, nat_eq, ◌&&◌, List, [], ◌∷◌, Option, Some, None}
use Rattle.std.specs.Option.{option_map}
use Rattle.dag_order.specs.LabelOrder.{fork_of}
use Rattle.dag_order.specs.declared.thread_id.ThreadId.{ThreadId}
use Rattle.thread_frames.specs.Views.{Child, ended_label}
use Rattle.thread_frames.specs.declared.ended.Ended.{Ended}
use Rattle.thread_frames.specs.declared.open_child.OpenChild.{OpenChild}

-- the ids are the same
abbrev pub same_id : ThreadId → ThreadId → Bool
same_id a b = nat_eq a.period b.period && nat_eq a.nth b.nth

-- a child has not been delivered, and the result has its label, and the function in which it runs
pub record IsResultFor (label : List ℕ) (ended : Ended) (child : Child) : Type 0 where
  pub waits : child.delivered ≡ false
  pub labelled : ended_label ended ≡ fork_of label child.ordinal
  pub func : ended.func ≡ child.func

abbrev pub either_of : Bool → Type 0 → Type 0 → Type 0
either_of true here there = here
either_of false here there = there

-- a thread with this label waits for the result: of the child that has its id
abbrev pub IsAwaited : List ℕ → Ended → List Child → Type 0
IsAwaited label ended [] = ⊥
IsAwaited label ended (x ∷ xs) = either_of (same_id x.id ended.id) (IsResultFor label ended x) (IsAwaited label ended xs)

-- the child of this id is delivered
abbrev pub delivered_if : Bool → Child → List Child → (rest : List Child) → List Child
delivered_if true x xs rest = record x { delivered = true } ∷ xs
delivered_if false x xs rest = x ∷ rest

abbrev pub with_delivered : ThreadId → List Child → List Child
with_delivered id [] = []
with_delivered id (x ∷ xs) = delivered_if (same_id x.id id) x xs (with_delivered id xs)

-- the newest child has this id, and no other has it
abbrev pub IsOnlyNewest : ThreadId → List Child → Type 0
IsOnlyNewest id [] = ⊥
IsOnlyNewest id (x ∷ []) = same_id x.id id ≡ true
IsOnlyNewest id (x ∷ y ∷ xs) = (same_id x.id id ≡ false) × IsOnlyNewest id (y ∷ xs)

-- whether the child of this id is delivered; false where none has it
abbrev pub told_if : Bool → Bool → (rest : Bool) → Bool
told_if true delivered rest = delivered
told_if false delivered rest = rest

abbrev pub is_delivered : ThreadId → List Child → Bool
is_delivered id [] = false
is_delivered id (x ∷ xs) = told_if (same_id x.id id) x.delivered (is_delivered id xs)

-- the place of the child of this id, the oldest first
abbrev pub place_if : Bool → Option ℕ → Option ℕ
place_if true rest = Some 0
place_if false rest = option_map suc rest

abbrev pub place_in : ThreadId → List OpenChild → Option ℕ
place_in id [] = None
place_in id (x ∷ xs) = place_if (same_id x.id id) (place_in id xs)
