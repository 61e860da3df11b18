-- Threads stay at their points.
use Rattle.std.proofs.Common.{◌≡◌, List, [], ◌∷◌, inl, inr, sym, ap, subst, ◌∙◌}
use Rattle.std.proofs.lemmas.Bool.{cases_eq}
use Rattle.std.proofs.lemmas.Option.{same_Some}
use Rattle.std.specs.Prelude.{None, Some, slice_get}
use Rattle.deque_machine.specs.Lists.{Each}
use Rattle.deque_machine.proofs.Lists.{each_map, each_among}
use Rattle.moment_laws.proofs.Passed.Lists.{set_same, set_other}
use Rattle.hall_machine.specs.Writing.{place_of}
use Rattle.hall_machine.specs.Views.{View}
use Rattle.hall_machine.specs.Points.{IsExcused, LaneAtPoints, StaysAtPoints, PointsGoOn, ExcusesStay}

module _ {T : Type 0} (At : T → Type 0) where
  all_at : (Excused : Type 0) (threads : List T) → Each At threads → LaneAtPoints At Excused threads
  all_at Excused [] all = tt
  all_at Excused (top ∷ under) all = (inl all.0, all.1)

  excuse_more : (Excused Now : Type 0) → (Excused → Now) → (threads : List T) → LaneAtPoints At Excused threads → LaneAtPoints At Now threads
  excuse_more Excused Now f [] at = tt
  excuse_more Excused Now f (top ∷ under) at = (elim at.0 [ inl here ↦ inl here | inr excused ↦ inr (f excused) ], at.1)

pub points_go_on : {T : Type 0} (At : T → Type 0) → PointsGoOn At
points_go_on At views views_now kept kept_now places places_now threads threads_now waiting waiting_now were stay wait = record {
  in_lanes = each_map (StaysAtPoints At views views_now kept kept_now places threads threads_now)
      (λ place. LaneAtPoints At (IsExcused views_now kept_now place.owner) (threads_now place.id)) places_now (λ place there stays. elim stays [
        | inl all ↦ all_at At (IsExcused views_now kept_now place.owner) (threads_now place.id) all
        | inr was ↦ subst (LaneAtPoints At (IsExcused views_now kept_now place.owner)) (sym was.2)
            (excuse_more At (IsExcused views kept was.0) (IsExcused views_now kept_now place.owner) was.3 (threads place.id)
            (each_among (λ p. LaneAtPoints At (IsExcused views kept p.owner) (threads p.id)) (place_of place.id was.0) places were.in_lanes was.1))
      ]) stay;
  that_wait = wait;
}

pub excuses_stay : ExcusesStay
excuses_stay views seat v w kept kept_now None is worker memory keeps excused = (excused.0, keeps excused.0 excused.1)
excuses_stay views seat v w kept kept_now (Some owner) is worker memory keeps excused = elim (cases_eq excused.0 seat) [
  | inr other ↦ (excused.0, excused.1, set_other views seat excused.0 w other ∙ excused.2, excused.3, excused.4, excused.5)
  | inl same ↦
      let its : excused.1 ≡ v = same_Some excused.1 v (sym excused.2 ∙ ap (slice_get views) same ∙ is) in
      let kept_memory = memory (ap (λ u. View.left u) (sym its) ∙ excused.4) (ap (λ u. View.found u) (sym its) ∙ excused.5) in
      (seat, w, set_same views seat w v is, worker ∙ ap (λ u. View.worker u) (sym its) ∙ excused.3, kept_memory.0, kept_memory.1)
]
