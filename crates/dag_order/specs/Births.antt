-- The births of threads, and the way from a thread over its parents to the root.
use Rattle.std.specs.Prelude.{◌≡◌, ◌≢◌, ℕ, zero, suc, ◌+◌, ◌<◌, ◌⊎◌, List, [], ◌∷◌, ◌++◌, reverse, Option, None, Some, IsSome, slice_get, length}
use Rattle.std.specs.Option.{option_and_then}
use Rattle.dag_order.specs.declared.thread_id.ThreadId.{ThreadId}
use Rattle.dag_order.specs.declared.birth.Birth.{Birth}

-- the thread that nobody forked
abbrev pub root : ThreadId
root = record { period = 0; nth = 0 }

-- birth `nth`, from 0, of a period, from 1
abbrev pub birth_in : List (List Birth) → ℕ → ℕ → Option Birth
birth_in periods zero nth = None
birth_in periods (suc before) nth = option_and_then (λ births. slice_get births nth) (slice_get periods before)

-- the birth of a thread, if it has one
abbrev pub birth_of : List (List Birth) → ThreadId → Option Birth
birth_of periods id = birth_in periods id.period id.nth

-- one thread was born before another: in an earlier period, or earlier in the same one
abbrev pub IsBornBefore : ThreadId → ThreadId → Type 0
IsBornBefore a b = (a.period < b.period) ⊎ ((a.period ≡ b.period) × (a.nth < b.nth))

-- the parent of this birth of the thread `id` is the root, or was born before it
abbrev pub ParentComesFirst : List (List Birth) → ThreadId → Birth → Type 0
ParentComesFirst periods id birth =
    (birth.parent ≡ root) ⊎ (IsBornBefore birth.parent id × IsSome (birth_of periods birth.parent))

-- so it is for each birth
abbrev pub ParentsComeFirst : List (List Birth) → Type 0
ParentsComeFirst periods = (id : ThreadId) (birth : Birth) → birth_of periods id ≡ Some birth → ParentComesFirst periods id birth

-- these births may be those of the next period: of each the parent comes first
abbrev pub MayFollow : List (List Birth) → List Birth → Type 0
MayFollow periods births =
    (nth : ℕ) (birth : Birth) → slice_get births nth ≡ Some birth
    → ParentComesFirst (periods ++ births ∷ []) (record { period = length periods + 1; nth = nth }) birth

-- over the parents of `id`, by births with these ordinals, one comes to the thread `top`
abbrev pub Leads : List (List Birth) → ThreadId → List ℕ → ThreadId → Type 0
Leads periods id [] top = id ≡ top
Leads periods id (ordinal ∷ above) top =
    (birth : Birth) × (birth_of periods id ≡ Some birth) × (birth.ordinal ≡ ordinal) × Leads periods birth.parent above top

-- the label of a thread: the ordinals on the way to the root, that of the root's fork first
abbrev pub HasLabel : List (List Birth) → ThreadId → List ℕ → Type 0
HasLabel periods id label = Leads periods id (reverse label) root

-- the way from `id` over its parents comes to a thread that is not the root and has no birth
abbrev pub StopsAt : List (List Birth) → ThreadId → ThreadId → Type 0
StopsAt periods id unknown =
    (way : List ℕ) × Leads periods id way unknown × (birth_of periods unknown ≡ None) × (unknown ≢ root)
