-- Who has a seat.
use Rattle.std.proofs.Common.{◌≡◌, refl, sym, Bor}
use Rattle.std.specs.Prelude.{Option, None, Some, true, false, is_some}
use Rattle.std.specs.Option.{option_copied}
use Rattle.std.proofs.lemmas.Bool.{false≢true}
use Rattle.std.proofs.lemmas.Option.{none-some}
use Rattle.deque_list.specs.declared.deque_id.DequeId.{DequeId}
use Rattle.open_periods.specs.declared.seat.Seat.{Seat}
use Rattle.open_periods.specs.Tables.{deque_of}

-- a seat has a deque
pub deque_there : (seat : Option Seat) → (seat ≡ None → ⊥) → (id : DequeId) × (deque_of seat ≡ Some id)
deque_there None some = absurd (some refl)
deque_there (Some seat) some = (seat.deque, refl)

-- what is read of something is something
pub read_some : {X : Type 0} (o : Option (Bor X)) → is_some o ≡ true → option_copied o ≡ None → ⊥
read_some None some none = absurd (false≢true some)
read_some (Some x) some none = none-some x.now (sym none)

-- what is not something is nothing
pub none_is : {X : Type 0} (o : Option X) → false ≡ is_some o → o ≡ None
none_is None is = refl
none_is (Some x) is = absurd (false≢true is)
