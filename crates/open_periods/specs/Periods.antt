-- The periods that the parts of a scheduler keep, in any order.
use Rattle.std.specs.Prelude.{◌≡◌, ◌≢◌, ℕ, suc, ◌⊎◌, Bool, Option, None, Some, List, slice_get}
use Rattle.containers.specs.BoundedList.{entries}
use Rattle.dag_order.specs.declared.action_id.ActionId.{ActionId}
use Rattle.dag_order.specs.declared.birth.Birth.{Birth}
use Rattle.space_ledger.specs.declared.book.Closed.{Closed}
use Rattle.open_periods.specs.declared.period.Period.{Period as OpenPeriod}
use Rattle.deque_machine.specs.Lists.{Among, Each}

-- A period: its number, from 1; whether it is marked ahead; the worker that it is open for, or none where it is closed; the words that it
-- has taken of its quota, while it is open; the actions that it ran, by their names; and the threads that it forked, in its order.
pub record Period : Type 0 where
  pub number : ℕ
  pub ahead : Bool
  pub owner : Option ℕ
  pub used : ℕ
  pub ran : List ActionId
  pub born : List Birth

-- a closed period, and the period that is open for a worker
abbrev pub closed_shown : Closed → Period
closed_shown p = record {
  number = p.number;
  ahead = p.ahead;
  owner = None;
  used = 0;
  ran = entries p.book;
  born = entries p.births;
}

abbrev pub open_shown : ℕ → OpenPeriod → Period
open_shown worker p = record {
  number = p.number;
  ahead = p.ahead;
  owner = Some worker;
  used = p.used;
  ran = entries p.book;
  born = entries p.births;
}

-- the periods in the order of their numbers, which are 1, 2, and so on
pub record InOrder (periods sorted : List Period) : Type 0 where
  pub placed : Each (λ p. (before : ℕ) × (p.number ≡ suc before) × (slice_get sorted before ≡ Some p)) periods
  pub all : (n : ℕ) (p : Period) → slice_get sorted n ≡ Some p → (p.number ≡ suc n) × Among p periods

-- a new period stands among the next ones, beside those that stood there
pub record Adds (periods : List Period) (new : Period) (next : List Period) : Type 0 where
  pub there : Among new next
  pub kept : Each (λ p. Among p next) periods
  pub no_more : Each (λ p. (p ≡ new) ⊎ Among p periods) next

-- a period has become another one of the same number, wherever it is kept now, and the others are as they were
pub record Replaces (periods : List Period) (old new : Period) (next : List Period) : Type 0 where
  pub was_there : Among old periods
  pub same_number : new.number ≡ old.number
  pub there : Among new next
  pub kept : Each (λ p. p.number ≢ old.number → Among p next) periods
  pub no_more : Each (λ p. (p ≡ new) ⊎ (Among p periods × (p.number ≢ old.number))) next
