-- The names of actions, and the places of a depth-first list at which they stand.
use Rattle.std.specs.Prelude.{◌≡◌, ℕ, Some, List, slice_get}
use Rattle.std.specs.List.{AllZip}
use Rattle.dag_order.specs.declared.action_id.ActionId.{ActionId}
use Rattle.dag_order.specs.declared.birth.Birth.{Birth}
use Rattle.dag_order.specs.Births.{HasLabel}
use Rattle.depth_first_list.specs.Actions.{Action}
use Rattle.prefix_laws.specs.declared.names.Name.{Name}

-- the name of an action of the list
abbrev pub name_shown : Action → Name
name_shown a = record { label = a.label; index = a.index }

-- by these births the name of an action stands at a place of the names
pub record IsPlaced (births : List (List Birth)) (names : List Name) (id : ActionId) (place : ℕ) : Type 0 where
  pub label : List ℕ
  pub by : HasLabel births id.by label
  pub there : slice_get names place ≡ Some (record { label = label; index = id.index })

-- and so one after another
abbrev pub ArePlaced : List (List Birth) → List Name → List ActionId → List ℕ → Type 0
ArePlaced births names ids places = AllZip (IsPlaced births names) ids places

-- it is known that it stands at some place
abbrev pub IsKnown : List (List Birth) → List Name → ActionId → Type 0
IsKnown births names id = ∥ ((place : ℕ) × IsPlaced births names id place) ∥₁
