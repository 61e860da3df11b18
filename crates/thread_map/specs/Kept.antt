-- What contracts see of a `ThreadMap`.
use Rattle.std.specs.Prelude.{◌≡◌, ◌≢◌, ℕ, List, Bool, ◌&&◌, nat_eq, Option, refl}
use Rattle.std.specs.Map.{lookup, keys_of}
use Rattle.std.specs.List.{IsDistinct}
use Rattle.std.specs.List.Sorted.{IsPermutation}
use Rattle.std.specs.Coded.{Coded, code_by, coded×, coded_ℕ, coded_list}
use Rattle.dag_order.specs.declared.thread_id.ThreadId.{ThreadId}

-- what is kept, each with the id that it is under, in an order that is of no account, and how many more values
-- the map takes without memory
pub record Kept (T : Type 0) : Type 0 where
  pub entries : List (ThreadId × T)
  pub spare : ℕ

abbrev pub id_code : Coded ThreadId
id_code = code_by (ℕ × ℕ) (coded× coded_ℕ coded_ℕ) (λ id. (id.period, id.nth)) (λ p. record { period = p.0; nth = p.1 }) (λ _. refl)

-- it is stored as the pair of its parts
abbrev pub kept_code : {T : Type 0} → Coded T → Coded (Kept T)
kept_code {T} code =
    code_by (List (ThreadId × T) × ℕ) (coded× (coded_list (coded× id_code code)) coded_ℕ) (λ kept. (kept.entries, kept.spare))
    (λ p. record { entries = p.0; spare = p.1 }) (λ _. refl)

-- whether two ids are those of one thread
abbrev pub same_thread : ThreadId → ThreadId → Bool
same_thread a b = nat_eq a.period b.period && nat_eq a.nth b.nth

-- what is kept under an id, if there is something
abbrev pub kept_under : {T : Type 0} → Kept T → ThreadId → Option T
kept_under kept id = lookup (same_thread id) kept.entries

-- no two values are kept under one id
abbrev pub IdsDiffer : {T : Type 0} → Kept T → Type 0
IdsDiffer kept = IsDistinct same_thread (keys_of kept.entries)

-- one map keeps under each id what the other does
abbrev pub KeepsTheSame : {T : Type 0} → Kept T → Kept T → Type 0
KeepsTheSame old new = IsPermutation old.entries new.entries × ((id : ThreadId) → kept_under new id ≡ kept_under old id)

-- under this id the new map keeps `value`, if it is something, and under each other what the old one does
abbrev pub KeepsUnder : {T : Type 0} → Kept T → Kept T → ThreadId → Option T → Type 0
KeepsUnder old new id value =
    (kept_under new id ≡ value) × ((other : ThreadId) → other ≢ id → kept_under new other ≡ kept_under old other)
