-- The labels of threads by the births that stand in periods, and the places of actions by their names.
use Rattle.std.specs.Prelude.{◌≡◌, ℕ, ◌<◌, Some, List, [], ◌∷◌, ◌++◌, length, slice_get}
use Rattle.dag_order.specs.declared.thread_id.ThreadId.{ThreadId}
use Rattle.dag_order.specs.declared.action_id.ActionId.{ActionId}
use Rattle.dag_order.specs.declared.birth.Birth.{Birth}
use Rattle.dag_order.specs.Births.{root}
use Rattle.dag_order.specs.LabelOrder.{fork_of}
use Rattle.depth_first_list.specs.Actions.{Deed, forks, joins, allocates, releases, dummy, faults, ends, Action}
use Rattle.depth_first_list.specs.Facts.{label_at, index_at, deed_at}
use Rattle.deque_machine.specs.Lists.{Among}
use Rattle.open_periods.specs.Periods.{Period}

-- the id of the thread that a period forked as this one, from 0
abbrev pub id_of : Period → ℕ → ThreadId
id_of p nth = record { period = p.number; nth = nth }

-- a thread has this label: the root has none of ordinals, and a forked thread that of its parent with its own ordinal behind
pub data HasLabel (periods : List Period) : ThreadId → List ℕ → Type 0 where
  of_root : HasLabel periods root []
  of_fork : (p : Period) (nth : ℕ) (birth : Birth) (parent : List ℕ) → Among p periods → slice_get p.born nth ≡ Some birth
      → HasLabel periods birth.parent parent → HasLabel periods (id_of p nth) (fork_of parent birth.ordinal)

-- the action of this name is the one at a place of the list
pub record IsNamed (l : List Action) (periods : List Period) (id : ActionId) (place : ℕ) : Type 0 where
  pub inside : place < length l
  pub by : HasLabel periods id.by (label_at l place)
  pub index : index_at l place ≡ id.index

-- and so one after another
abbrev pub AreNamed : List Action → List Period → List ActionId → List ℕ → Type 0
AreNamed l periods [] [] = Unit {0}
AreNamed l periods [] (place ∷ places) = ⊥
AreNamed l periods (id ∷ ids) [] = ⊥
AreNamed l periods (id ∷ ids) (place ∷ places) = IsNamed l periods id place × AreNamed l periods ids places

-- the birth that a thread gives with a deed: one where it forks
abbrev pub births_by : ThreadId → Deed → List Birth
births_by by (forks child) = record { parent = by; ordinal = child } ∷ []
births_by by (joins child) = []
births_by by allocates = []
births_by by releases = []
births_by by dummy = []
births_by by faults = []
births_by by ends = []

-- the births with the actions of these names, at these places: those of the Forks among them, one for one and in their order
abbrev pub births_among : List Action → List ActionId → List ℕ → List Birth
births_among l [] places = []
births_among l (id ∷ ids) [] = []
births_among l (id ∷ ids) (place ∷ places) = births_by id.by (deed_at l place) ++ births_among l ids places
