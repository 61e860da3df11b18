-- Who is excused, and the lanes of deques whose threads stay.
use Rattle.std.proofs.Common.{◌≡◌, ℕ, zero, suc, ◌<◌, false, List, [], ◌∷◌, inl, inr, refl, sym, ap, ◌∙◌, arith}
use Rattle.std.proofs.lemmas.Bool.{cases_eq}
use Rattle.std.proofs.lemmas.Option.{none-some, same_Some}
use Rattle.std.specs.Prelude.{Option, None, Some, slice_get, slice_set}
use Rattle.deque_machine.specs.Lists.{Each}
use Rattle.deque_machine.specs.Moments.{Moment}
use Rattle.deque_machine.specs.Machine.{Setting}
use Rattle.deque_machine.specs.Play.{Limits}
use Rattle.open_periods.proofs.Lists.{set_same, set_other}
use Rattle.hall_machine.specs.Values.{Hall, no_memory, End}
use Rattle.hall_machine.specs.Steps.{Step, Leads}
use Rattle.hall_machine.specs.Views.{View, joined}
use Rattle.hall_machine.proofs.Notes.{each_get}
use Rattle.hall_machine.specs.State.{RunningState, IsIn}
use Rattle.hall_machine.specs.Points.{IsExcused, LaneAtPoints}
use Rattle.hall_machine.proofs.Owned.{seats_have_their_workers}

-- ---- one lane

module _ {T : Type 0} (At : T → Type 0) where
  pub all_at : (Excused : Type 0) (threads : List T) → Each At threads → LaneAtPoints At Excused threads
  all_at Excused [] all = tt
  all_at Excused (top ∷ under) all = (inl all.0, all.1)

  pub excuse_more : (Excused Now : Type 0) → (Excused → Now) → (threads : List T) → LaneAtPoints At Excused threads → LaneAtPoints At Now threads
  excuse_more Excused Now f [] at = tt
  excuse_more Excused Now f (top ∷ under) at = (elim at.0 [ inl here ↦ inl here | inr excused ↦ inr (f excused) ], at.1)

  pub none_excused : (Excused : Type 0) → (Excused → ⊥) → (threads : List T) → LaneAtPoints At Excused threads → Each At threads
  none_excused Excused f [] at = tt
  none_excused Excused f (top ∷ under) at = (elim at.0 [ inl here ↦ here | inr excused ↦ absurd (f excused) ], at.1)

-- ---- who was excused still is

-- one seat notes something else
pub excused_with : (views : List View) (seat : ℕ) (v w : View) (kept kept_now : Option End) (owner : Option ℕ) → slice_get views seat ≡ Some v
    → (v.left ≡ false → v.found ≡ Some no_memory → owner ≡ Some v.worker → (w.worker ≡ v.worker) × (w.left ≡ false) × (w.found ≡ Some no_memory))
    → ((end : End) → kept ≡ Some end → kept_now ≡ Some end) → IsExcused views kept owner → IsExcused (slice_set views seat w) kept_now owner
excused_with views seat v w kept kept_now None is own keeps excused = (excused.0, keeps excused.0 excused.1)
excused_with views seat v w kept kept_now (Some owner) is own keeps excused = elim (cases_eq excused.0 seat) [
  | inr other ↦ (excused.0, excused.1, set_other views seat excused.0 w other ∙ excused.2, excused.3, excused.4, excused.5)
  | inl same ↦
      let its : excused.1 ≡ v = same_Some excused.1 v (sym excused.2 ∙ ap (slice_get views) same ∙ is) in
      let worker : v.worker ≡ owner = ap (λ u. View.worker u) (sym its) ∙ excused.3 in
      let now = own (ap (λ u. View.left u) (sym its) ∙ excused.4) (ap (λ u. View.found u) (sym its) ∙ excused.5) (ap Some (sym worker)) in
      (seat, w, set_same views seat w v is, now.0 ∙ worker, now.1, now.2)
]

-- who is excused for its own want of memory
module _ (s : Setting) (limits : Limits) (h : Hall) (steps : List Step) (m : Moment) (leads : Leads s steps m) (count : ℕ) (views : List View) (seat : ℕ) (v : View)
    (state : RunningState s limits h steps m leads count views) (here : IsIn views seat v) where
  has_places : (places n : ℕ) (u : View) → u.places ≡ places → slice_get views n ≡ Some u → u.found ≡ Some no_memory → 0 < u.places
  has_places zero n u none is found =
      absurd (none-some no_memory (sym (ap (λ x. View.found x) (each_get (λ x. x.places ≡ 0 → x ≡ joined) views n u state.crew.unplaced is none)) ∙ found))
  has_places (suc places) n u some is found = omega (arith, some)

  pub excused_itself : IsExcused views h.list.kept (Some v.worker) → v.found ≡ Some no_memory
  excused_itself excused = elim (cases_eq excused.0 seat) [
    | inl same ↦ ap (λ u. View.found u) (same_Some v excused.1 (sym here.noted ∙ ap (slice_get views) (sym same) ∙ excused.2)) ∙ excused.5
    | inr other ↦ absurd (seats_have_their_workers s limits h steps m leads count views excused.0 seat excused.1 v state other (record {
      noted = excused.2;
      placed = has_places (View.places excused.1) excused.0 excused.1 refl excused.2 excused.5;
      stays = excused.4;
    }) here excused.3)
  ]
