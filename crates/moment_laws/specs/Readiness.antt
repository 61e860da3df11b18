-- What a list of deques tells of the moment that it shows: where a thread can be stolen, which ids are free, and who owns a deque.
use Rattle.std.specs.Prelude.{◌≡◌, ◌≢◌, ◌↔◌, ℕ, ◌<◌, List, map, Some}
use Rattle.open_periods.specs.Passed.DequeId.{DequeId}
use Rattle.open_periods.specs.Passed.Ids.{IsSmallestFree}
use Rattle.open_periods.specs.Passed.Deques.{Deque, deque_ids}
use Rattle.open_periods.specs.Passed.Lists.{Each}
use Rattle.open_periods.specs.Passed.Moments.{Moment, owned_by, with_id}
use Rattle.open_periods.specs.Passed.Machine.{Setting}
use Rattle.open_periods.specs.Passed.Play.{IsFirst, IsReady, reach}
use Rattle.play_rules.specs.Choices.{IsReadyAt, reach_of, SomeReady}
use Rattle.moment_shown.specs.Parts as parts
use Rattle.list_changes.specs.Shown.{deque_shown}

-- the deques are those of the moment, by what their items show
abbrev pub AreDeques : {T : Type 0} → (T → parts.Thread) → List (Deque T) → Moment → Type 0
AreDeques shown deques m = m.deques ≡ map parts.deque_shown (map (deque_shown shown) deques)

-- a deque has a thread to steal where that of the moment has
abbrev pub ReadyIsShown : Type 0 → Type 0
ReadyIsShown T = (shown : T → parts.Thread) (deques : List (Deque T)) (m : Moment) (place : ℕ) → AreDeques shown deques m →
    IsReadyAt deques place ↔ IsReady m place

-- so the first that has one, in reach and as a word picks it, is the same
abbrev pub FirstIsShown : Type 0 → Type 0
FirstIsShown T = (s : Setting) (shown : T → parts.Thread) (deques : List (Deque T)) (m : Moment) (word place : ℕ)
    → AreDeques shown deques m → IsFirst (reach_of s.workers deques) word (IsReadyAt deques) place
    → IsFirst (reach s m) word (IsReady m) place

-- and whether some deque in reach has one
abbrev pub SomeReadyIsShown : Type 0 → Type 0
SomeReadyIsShown T = (s : Setting) (shown : T → parts.Thread) (deques : List (Deque T)) (m : Moment) → AreDeques shown deques m →
    SomeReady s.workers deques ↔ ((place : ℕ) × (place < reach s m) × IsReady m place)

-- the smallest free id is free at the moment, and each smaller one has a deque
abbrev pub IdsAreShown : Type 0 → Type 0
IdsAreShown T = (shown : T → parts.Thread) (deques : List (Deque T)) (m : Moment) (id : DequeId) → AreDeques shown deques m
    → IsSmallestFree (deque_ids deques) id → (with_id id.0 m.deques ≡ 0) × ((i : ℕ) → i < id.0 → 0 < with_id i m.deques)

-- a worker owns no deque of the moment where it owns none
abbrev pub OwnersAreShown : Type 0 → Type 0
OwnersAreShown T = (shown : T → parts.Thread) (deques : List (Deque T)) (m : Moment) (worker : ℕ) → AreDeques shown deques m →
    (owned_by worker m.deques ≡ 0) ↔ Each (λ deque. deque.owner ≢ Some worker) deques
