-- How many deques a worker owns.
use Rattle.std.proofs.Common.{◌≡◌, ◌≢◌, ℕ, ◌+◌, ◌<◌, List, [], ◌∷◌, map, inl, inr, refl, sym, ap, ◌∙◌, arith}
use Rattle.std.specs.Prelude.{Option, None, Some}
use Rattle.std.proofs.lemmas.Bool.{cases_lt}
use Rattle.deque_list.specs.Deques.{Deque}
use Rattle.open_periods.specs.Passed.Lists.{Among, Each, total}
use Rattle.open_periods.proofs.Passed.Lists.{one_same, one_cases}
use Rattle.open_periods.specs.Passed.Moments.{owned_by, one_if_worker}
use Rattle.moment_laws.specs.Passed.Parts as parts
use Rattle.thread_frames.specs.declared.thread.Thread.{Thread}
use Rattle.thread_frames.specs.Shown.{thread_shown}
use Rattle.moment_laws.specs.Passed.Shown.{deque_shown}

-- 1 for a deque of the worker
abbrev pub own_here : ℕ → Deque Thread → ℕ
own_here worker d = one_if_worker worker (Deque.owner d)

pub owned_shown : (worker : ℕ) (ds : List (Deque Thread)) → owned_by worker (map parts.deque_shown (map (deque_shown thread_shown) ds)) ≡ total (own_here worker) ds
owned_shown worker [] = refl
owned_shown worker (d ∷ ds) = ap (λ n. own_here worker d + n) (owned_shown worker ds)

pub own_one : (worker : ℕ) (owner : Option ℕ) → owner ≡ Some worker → one_if_worker worker owner ≡ 1
own_one worker owner is = ap (one_if_worker worker) is ∙ one_same worker worker refl

is_owner : (worker : ℕ) (owner : Option ℕ) → 0 < one_if_worker worker owner → owner ≡ Some worker
is_owner worker None some = absurd (omega (arith, some))
is_owner worker (Some w) some = elim (one_cases worker w) [
  | inl here ↦ ap Some (sym here.0)
  | inr other ↦ let none = other.1 in absurd (omega (arith, some, none))
]

-- where the worker owns none of them
pub none_owned : (worker : ℕ) (ds : List (Deque Thread)) → total (own_here worker) ds ≡ 0 → Each (λ d. Deque.owner d ≢ Some worker) ds
none_owned worker [] none = tt
none_owned worker (d ∷ ds) none = (
  λ is. let one : own_here worker d ≡ 1 = own_one worker (Deque.owner d) is in absurd (omega (arith, none, one)),
  none_owned worker ds (omega (arith, none)),
)

-- where it owns one of them
pub owner_there : (worker : ℕ) (ds : List (Deque Thread)) → 0 < total (own_here worker) ds → (d : Deque Thread) × Among d ds × (Deque.owner d ≡ Some worker)
owner_there worker [] some = absurd (omega (arith, some))
owner_there worker (d ∷ ds) some = elim (cases_lt 0 (own_here worker d)) [
  | inl here ↦ (d, inl refl, is_owner worker (Deque.owner d) here)
  | inr none ↦ let found = owner_there worker ds (omega (arith, some, none)) in (found.0, inr found.1, found.2)
]
