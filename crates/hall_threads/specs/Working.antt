-- What stays of a worker of a hall while it tries, and how its work ends.
use Rattle.std.proofs.Common.{refl, ◌∙◌}
use Rattle.std.specs.Prelude.{◌≡◌, Some}
use Rattle.play_rules.specs.declared.ends.RunEnd.{RunEnd}
use Rattle.node_table.specs.declared.node_table.NodeTable.{NodeTable}
use Rattle.worker_entry.specs.declared.hall.Hall.{Hall}
use Rattle.worker_entry.specs.declared.seat.Seat.{Seat}
use Rattle.worker_entry.specs.Seated.{IsIn, IsProgramOf}
use Rattle.work_loop.specs.Working.{HasWorked}
use Rattle.work_loop.specs.declared.member.Member.{Member}
use Rattle.hall_threads.specs.declared.worker.HallWorker.{HallWorker}

-- The seat is that of the same worker, and has as many places; and it has given up no deque but where the rules ask for it.
pub record IsSameWorker (before after : Seat) : Type 0 where
  pub worker : after.worker ≡ before.worker
  pub places : after.places ≡ before.places
  pub yields : after.place.hand.note.yielded ≡ before.place.hand.note.yielded

-- the seat was answered this end of the run
abbrev pub HasSeen : Seat → RunEnd → Type 0
HasSeen seat end = seat.place.hand.note.answered ≡ Some end

-- so it is before the first try, and over one more
pub same_worker : (seat : Seat) → IsSameWorker seat seat
same_worker seat = record { worker = refl; places = refl; yields = refl }

pub same_on : (x y z : Seat) → IsSameWorker x y → IsSameWorker y z → IsSameWorker x z
same_on x y z first second = record {
  worker = second.worker ∙ first.worker;
  places = second.places ∙ first.places;
  yields = second.yields ∙ first.yields;
}

-- a worker of a hall and its program, which may try its next event there
abbrev pub MayWork : {C : Type 0} → Hall → NodeTable → HallWorker C → Type 0
MayWork hall code worker = IsProgramOf hall code × IsIn hall worker.seat

-- The worker of a member worked in this hall until it was answered an end, which the member has.
abbrev pub HasWorkedIn : {C : Type 0} → Hall → NodeTable → (before after : Member (HallWorker C) RunEnd) → Type 0
HasWorkedIn hall code before after =
    HasWorked (MayWork hall code) (λ x y. IsSameWorker x.seat y.seat) (λ x end. HasSeen x.seat end) before after
