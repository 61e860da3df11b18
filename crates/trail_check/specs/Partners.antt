-- Which two places of a depth-first list are partners.
use Rattle.std.specs.Prelude.{◌≡◌, ◌↔◌, ℕ, ◌<◌, List, length, get_or, Option, Some, None}
use Rattle.dag_order.specs.LabelOrder.{fork_of}
use Rattle.depth_first_list.specs.Actions.{forks, joins, ends, Action}
use Rattle.depth_first_list.specs.Facts.{label_at, deed_at}

-- at this place a thread ends
abbrev pub EndsAt : List Action → List ℕ → ℕ → Type 0
EndsAt l label n = (n < length l) × (label_at l n ≡ label) × (deed_at l n ≡ ends)

-- at this place a thread joins a child
abbrev pub JoinsAt : List Action → List ℕ → ℕ → ℕ → Type 0
JoinsAt l label child n = (n < length l) × (label_at l n ≡ label) × (deed_at l n ≡ joins child)

-- The partner of a place: of a Fork and of a Join it is the End of the child, and of the End of a child it is the Join of that child.
-- Other places have none.
pub data IsPartner (l : List Action) (i n : ℕ) : Type 0 where
  of_fork : (child : ℕ) → deed_at l i ≡ forks child → EndsAt l (fork_of (label_at l i) child) n → IsPartner l i n
  of_join : (child : ℕ) → deed_at l i ≡ joins child → EndsAt l (fork_of (label_at l i) child) n → IsPartner l i n
  of_end : (parent : List ℕ) (child : ℕ) → deed_at l i ≡ ends → label_at l i ≡ fork_of parent child → JoinsAt l parent child n
      → IsPartner l i n

-- these are the partners of all places, with None for a place that has none
pub record ArePartners (l : List Action) (partners : List (Option ℕ)) : Type 0 where
  pub size : length partners ≡ length l
  pub each : (i n : ℕ) → i < length l → (get_or partners i None ≡ Some n) ↔ IsPartner l i n
