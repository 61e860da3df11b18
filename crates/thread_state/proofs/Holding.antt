-- What a thread holds, where its own row changes.
use Rattle.std.proofs.Common.{◌≡◌, Bool, true, false, List, [], ◌∷◌}
use Rattle.depth_first_run.specs.Passed.Tree.{Name}
use Rattle.depth_first_run.specs.Stores.{Store, nothing}
use Rattle.slot_store.specs.Rows.{Entry}
use Rattle.slot_store.specs.Agreement.{ShowsStore}
use Rattle.thread_state.specs.Rows.{ShowStores, Holds}

-- a thread that goes on holds what its rows show
pub going : (b : Bool) (contexts : List (List Name)) (rows : List (List Entry)) (store : Store) (callers : List Store) → b ≡ false →
    Holds b contexts rows store callers → ShowStores contexts rows (store ∷ callers)
going true contexts rows store callers e h = let never : ⊥ = cc in absurd never
going false contexts rows store callers e h = h

pub goes_on : (b : Bool) (contexts : List (List Name)) (rows : List (List Entry)) (store : Store) (callers : List Store) → b ≡ false →
    ShowStores contexts rows (store ∷ callers) → Holds b contexts rows store callers
goes_on true contexts rows store callers e h = let never : ⊥ = cc in absurd never
goes_on false contexts rows store callers e h = h

-- a thread that a fault ended holds nothing
pub ended : (b : Bool) (contexts : List (List Name)) (rows : List (List Entry)) (store : Store) (callers : List Store) → b ≡ true →
    Holds b contexts rows store callers → (rows ≡ [] ∷ []) × (store ≡ nothing) × (callers ≡ [])
ended false contexts rows store callers e h = let never : ⊥ = cc in absurd never
ended true contexts rows store callers e h = h

-- and its contexts are of no account
pub ends : (b : Bool) (contexts : List (List Name)) (rows : List (List Entry)) (store : Store) (callers : List Store) → b ≡ true →
    rows ≡ [] ∷ [] → store ≡ nothing → callers ≡ [] → Holds b contexts rows store callers
ends false contexts rows store callers e r s k = let never : ⊥ = cc in absurd never
ends true contexts rows store callers e r s k = (r, s, k)

-- its own row
pub own_shows : (b : Bool) (names : List Name) (contexts : List (List Name)) (row : List Entry) (rows : List (List Entry)) (store : Store)
    (callers : List Store) → b ≡ false → Holds b (names ∷ contexts) (row ∷ rows) store callers → ShowsStore names row store
own_shows b names contexts row rows store callers e h = (going b (names ∷ contexts) (row ∷ rows) store callers e h).0

-- its own row changes, and nothing else
pub own_changed : (b : Bool) (names : List Name) (contexts : List (List Name)) (row changed : List Entry) (rows : List (List Entry))
    (store other : Store) (callers : List Store) → b ≡ false → Holds b (names ∷ contexts) (row ∷ rows) store callers →
    ShowsStore names changed other → Holds b (names ∷ contexts) (changed ∷ rows) other callers
own_changed b names contexts row changed rows store other callers e h shows =
    goes_on b (names ∷ contexts) (changed ∷ rows) other callers e (shows, (going b (names ∷ contexts) (row ∷ rows) store callers e h).1)
