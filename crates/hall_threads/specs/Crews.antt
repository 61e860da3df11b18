-- The members of a crew before and after they work, and the seats that they have together.
use Rattle.std.specs.Prelude.{◌≡◌, ◌⊎◌, ◌+◌, ◌<◌, false, Option, None, Some, List, length, All}
use Rattle.dag_order.specs.declared.finish.Finish.{Finish}
use Rattle.play_rules.specs.declared.ends.RunEnd.{RunEnd}
use Rattle.play_rules.specs.declared.ends.RunEnd.TheVariants.{Finished}
use Rattle.work_loop.specs.declared.member.Member.{Member}
use Rattle.worker_entry.specs.declared.hall.Hall.{Hall}
use Rattle.worker_entry.specs.declared.seat.Seat.{Seat}
use Rattle.worker_entry.specs.Leaving.{IsShort}
use Rattle.worker_entry.specs.Seated.{IsIn}
use Rattle.hall_threads.specs.declared.worker.HallWorker.{HallWorker}

-- no deque was given up by the seat but where the rules ask for it
abbrev pub HasKeptRules : Seat → Type 0
HasKeptRules seat = seat.place.hand.note.yielded ≡ false

-- the seat was answered this end
abbrev pub WasTold : Seat → RunEnd → Type 0
WasTold seat end = seat.place.hand.note.answered ≡ Some end

abbrev pub seat_of : {C : Type 0} → Member (HallWorker C) RunEnd → Seat
seat_of member = member.worker.seat

-- It is a seat of this hall, by which no deque was given up but where the rules ask for it.
pub record IsFreshIn (hall : Hall) (seat : Seat) : Type 0 where
  pub is_in : IsIn hall seat
  pub rules : HasKeptRules seat

-- The seat of a member of a crew: it has one place.
pub record IsOfCrew (hall : Hall) (seat : Seat) : Type 0 where
  pub fresh : IsFreshIn hall seat
  pub one : seat.places ≡ 1

-- These members and this seat, by which they entered, have the places of all workers together.
pub record IsCrew {C : Type 0} (hall : Hall) (first : Seat) (crew : List (Member (HallWorker C) RunEnd)) : Type 0 where
  pub members : All (λ member. IsOfCrew hall (seat_of member)) crew
  pub first_one : IsFreshIn hall first
  pub all : first.places + length crew ≡ hall.workers

-- The member was told its end. If that is a finish, its seat has kept the rules of give ups.
pub record HasItsEnd {C : Type 0} (hall : Hall) (member : Member (HallWorker C) RunEnd) : Type 0 where
  pub is_in : IsIn hall (seat_of member)
  pub end : RunEnd
  pub ended : member.end ≡ Some end
  pub told : WasTold (seat_of member) end
  pub rules : (finish : Finish) → end ≡ Finished finish → HasKeptRules (seat_of member)

-- The member was told its end and has one place, and no deque was given up by its seat but where the rules ask for it.
pub record IsToLeave {C : Type 0} (hall : Hall) (member : Member (HallWorker C) RunEnd) : Type 0 where
  pub has_end : HasItsEnd hall member
  pub rules : HasKeptRules (seat_of member)
  pub one : (seat_of member).places ≡ 1

-- The member that stays and those that are still to leave have the places of all workers together.
pub record AreLeft {C : Type 0} (hall : Hall) (stays : Member (HallWorker C) RunEnd) (crew : List (Member (HallWorker C) RunEnd)) : Type 0 where
  pub members : All (IsToLeave hall) crew
  pub stays_one : HasItsEnd hall stays
  pub all : (seat_of stays).places + length crew ≡ hall.workers

-- who enters by a seat: a worker with one place, which the seat gives; none only where the run has ended, and the seat was answered its end
abbrev pub EntersBy : Hall → Seat → Seat → Option Seat → Type 0
EntersBy hall before after None = (after.places ≡ before.places) × (end : RunEnd) × WasTold after end
EntersBy hall before after (Some made) = IsOfCrew hall made × (after.places + 1 ≡ before.places)

-- No worker is lost: one more is in the crew, or the first seat had no place to give, or it was answered the end of the run.
abbrev pub LosesNone : {C : Type 0} → (before after : Seat) (crew more : List (Member (HallWorker C) RunEnd)) → Type 0
LosesNone before after crew more = (length more ≡ length crew + 1) ⊎ ((before.places < 2) ⊎ ((end : RunEnd) × WasTold after end))

-- A seat left into this one: this has the places of both, was answered what it was before, and has kept the rules if both had and the run has
-- finished for the seat that left.
pub record HasTaken (hall : Hall) (gone before after : Seat) : Type 0 where
  pub is_in : IsIn hall after
  pub places : after.places ≡ before.places + gone.places
  pub answered : after.place.hand.note.answered ≡ before.place.hand.note.answered
  pub rules : (finish : Finish) → WasTold gone (Finished finish) → HasKeptRules gone → HasKeptRules before → HasKeptRules after

-- A seat of this hall lacked memory to give its deque up.
abbrev pub RanShort : Hall → Type 0
RanShort hall = (before : Seat) × (after : Seat) × IsIn hall before × IsShort before after
