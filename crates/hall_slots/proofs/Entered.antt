-- That a worker may enter, and what the seats are then.
use Rattle.std.proofs.Common.{◌≡◌, ℕ, zero, suc, ◌+◌, ◌<◌, ◌≤◌, ◌⊎◌, List, [], ◌∷◌, ◌++◌, map, inl, inr, sym, ap, ◌∙◌, subst, arith}
use Rattle.std.proofs.Math.Logic.{∥∥₁_elim}
use Rattle.std.specs.Prelude.{Option, None, Some, Result, Ok, Err}
use Rattle.std.proofs.lemmas.Bool.{cases_lt, cases_eq}
use mathlib.Core.Option.{some}
use lib.ListN.{get_elem?}
use Rattle.depth_first_run.specs.States.{Setting}
use Rattle.deque_machine.specs.Terms.{Terms, machine_of}
use Rattle.deque_machine.specs.Lists.{times}
use Rattle.turn_table.specs.Hands.{Shows, fresh, noted}
use Rattle.turn_table.specs.Law.{Stands}
use Rattle.turn_table.specs.Notes.{notes}
use Rattle.turn_table.specs.Seats.{with_hand}
use Rattle.turn_table.proofs.NoteLaws.{notes_at}
use Rattle.hall_machine.specs.Values.{ListShown}
use Rattle.hall_machine.specs.State.{HallLaw}
use Rattle.hall_machine.specs.Numbers.{IsSmallestNumber}
use Rattle.hall_machine.proofs.Numbers.{workers_may_enter}
use Rattle.hall_slots.specs.declared.list_slot.ListSlot.{ListSlot}
use Rattle.hall_slots.specs.declared.slot.Slot.{Slot}
use Rattle.hall_slots.specs.declared.slot.Slot.TheVariants as slots
use Rattle.hall_slots.specs.Shown.{view_of, value_of}
use Rattle.hall_slots.specs.declared.key.HallKey.{HallKey}
use Rattle.hall_slots.specs.Keys.{terms_of}
use Rattle.hall_slots.specs.Law.{joined_note}
use Rattle.hall_slots.specs.Steps.{hall_shown}
use Rattle.hall_slots.specs.Takes.{HallSeat, IsTaken, MeetsLaw}
use Rattle.hall_slots.proofs.Keeping.{Whole}
use Rattle.hall_slots.proofs.Lone.{noted_at}
use Rattle.hall_slots.proofs.Written.{list_at}
use Rattle.hall_slots.specs.Lists.{Leaves}
use Rattle.hall_slots.proofs.Listed.{leaves_of}
use Rattle.hall_slots.specs.Entering.{MayEnter, entering_note, giving_note, worker_note, last_of, HoldsTheNamed, PutsNamed, GivesAPlace, PutsGiven, EntersWith, HasEntered, FindsListFree}
use Rattle.hall_slots.specs.declared.refused.EnterRefused.{EnterRefused}
use Rattle.hall_slots.specs.declared.refused.EnterRefused.TheVariants.{Busy, Over, OutOfMemory}
use Rattle.hall_slots.proofs.EnteredLists.{last_snoc}

-- the first number from x on that is not named, or all are
first_free : (crew : List ℕ) (turns x : ℕ) → ((i : ℕ) → i < x → 0 < times i crew)
    → ((y : ℕ) × (y < x + turns) × (times y crew ≡ 0) × ((i : ℕ) → i < y → 0 < times i crew)) ⊎ ((i : ℕ) → i < x + turns → 0 < times i crew)
first_free crew zero x named = inr (λ i low. named i (omega (arith, low)))
first_free crew (suc turns) x named = elim (cases_lt 0 (times x crew)) [
  | inr none ↦ inl (x, omega arith, omega (arith, none), named)
  | inl here ↦ elim (first_free crew turns (suc x) (λ i low. elim (cases_eq i x) [
    | inl same ↦ subst (λ n. 0 < times n crew) (sym same) here
    | inr other ↦ named i (omega (arith, low, other))
  ])) [
    | inl found ↦ let low = found.1 in inl (found.0, omega (arith, low), found.2, found.3)
    | inr all ↦ inr (λ i low. all i (omega (arith, low)))
  ]
]

-- where not all are named, there is a smallest one that is not
free_number : (workers : ℕ) (crew : List ℕ) → (((i : ℕ) → i < workers → 0 < times i crew) → ⊥) → (worker : ℕ) × IsSmallestNumber workers crew worker
free_number workers crew not_all = elim (first_free crew workers 0 (λ i low. absurd (omega (arith, low)))) [
  | inl found ↦ let low = found.1 in (found.0, (omega (arith, low), found.2, found.3))
  | inr all ↦ absurd (not_all (λ i low. all i (omega (arith, low))))
]

module _ (key : HallKey) (seat : HallSeat) (list : ListSlot) (workers : ℕ) (may : MayEnter key seat workers) (holds : seat.hand.holds ≡ (0, slots.List list) ∷ []) (meets : MeetsLaw key seat) where
  st : Stands Whole joined_note key seat meets.0 meets.1 meets.2
  st = meets.3

  at : get_elem? meets.0 0 ≡ some (slots.List list)
  at = (subst (λ (xs : List (ℕ × Slot)). Shows meets.0 xs) holds (st.fits.shows seat.number seat.hand st.mine)).0

  not_all_by : (c : Setting) → HallLaw (machine_of c (terms_of key)) (Terms.limits (terms_of key)) (map value_of meets.0) meets.1 (map view_of (notes meets.2)) → ((i : ℕ) → i < key.workers → 0 < times i list.crew.items) → ⊥
  not_all_by c law all = let free = workers_may_enter (machine_of c (terms_of key)) (Terms.limits (terms_of key)) (hall_shown meets.0) law.steps law.moment law.leads meets.1 (map view_of (notes meets.2)) seat.number (view_of seat.hand.note) law.state
      (noted_at (notes meets.2) seat.number seat.hand.note (notes_at meets.2 seat.number seat.hand st.mine)) may.many may.nobody in
      let none : times free.1.0 list.crew.items ≡ 0 = ap (λ (l : ListShown). times free.1.0 l.crew) (sym (list_at meets.0 list at)) ∙ free.1.1.1 in
      let named = all free.1.0 free.1.1.0 in absurd (omega (arith, none, named))

  pub number_is_free : (worker : ℕ) × IsSmallestNumber workers list.crew.items worker
  number_is_free = subst (λ n. (worker : ℕ) × IsSmallestNumber n list.crew.items worker) (sym may.all_workers)
      (free_number key.workers list.crew.items (λ all. ∥∥₁_elim st.kept.0.key_is.of_program (λ x y. absurd x) (λ p. ∥∥₁_elim (st.kept.0.state p.0 p.1) (λ x y. absurd x) (λ law. not_all_by p.0 law all))))

module _ (key : HallKey) (seat : HallSeat) (list after : ListSlot) (workers worker : ℕ) (may : MayEnter key seat workers) (holds : seat.hand.holds ≡ (0, slots.List list) ∷ []) (no_end : list.end ≡ None)
    (number : IsSmallestNumber workers list.crew.items worker) (crew : after.crew.items ≡ list.crew.items ++ worker ∷ []) where
  number_of_key : IsSmallestNumber key.workers list.crew.items worker
  number_of_key = subst (λ n. IsSmallestNumber n list.crew.items worker) may.all_workers number

  pub named_of : after.part ≡ list.part → after.end ≡ list.end → HoldsTheNamed key seat after
  named_of part end = record { before = list; worker = worker; holds = holds; part = part; crew = crew; end = end; no_end = no_end; low = number_of_key.0; new = number_of_key.1; many = may.many; nobody = may.nobody }

  module _ (named : HallSeat) (puts : PutsNamed seat after named) where
    last_is : last_of after.crew.items ≡ Some worker
    last_is = ap last_of crew ∙ last_snoc list.crew.items worker

    named_leaves : Leaves seat (entering_note seat.hand.note (last_of after.crew.items)) named
    named_leaves = leaves_of seat named list (λ hand. entering_note hand.note (last_of after.crew.items)) holds puts

    pub gives_of : GivesAPlace named
    gives_of = record { worker = worker; enters = ap (λ (s : HallSeat). s.hand.note.enters) named_leaves ∙ last_is; many = subst (λ n. 2 ≤ n) (sym (ap (λ (s : HallSeat). s.hand.note.places) named_leaves)) may.many }

    pub enters_of : (given made : HallSeat) → PutsGiven named given → made.hand ≡ fresh (worker_note named.hand.note.enters) → EntersWith key list seat given (Ok (made, worker))
    enters_of given made gives is = (
      number_of_key,
      no_end,
      gives ∙ ap (λ (s : HallSeat). with_hand s (noted s.hand (giving_note s.hand.note))) named_leaves,
      is ∙ ap (λ (s : HallSeat). fresh (worker_note s.hand.note.enters)) named_leaves ∙ ap (λ (o : Option ℕ). fresh (worker_note o)) last_is,
    )

-- what it does with the list that it took it has done
pub entered : (key : HallKey) (before middle after : HallSeat) (list : ListSlot) (result : Result (HallSeat × ℕ) EnterRefused) → IsTaken before 0 (slots.List list) middle → EntersWith key list middle after result → HasEntered key before after result
entered key before middle after list (Ok made) taken enters = (list, subst (λ (s : HallSeat). EntersWith key list s after (Ok made)) taken enters)
entered key before middle after list (Err (Busy held)) taken enters = absurd enters
entered key before middle after list (Err (Over end)) taken enters = (list, subst (λ (s : HallSeat). EntersWith key list s after (Err (Over end))) taken enters)
entered key before middle after list (Err OutOfMemory) taken enters = (list, subst (λ (s : HallSeat). EntersWith key list s after (Err OutOfMemory)) taken enters)

-- who has the list is refused no slot
pub free_of : (key : HallKey) (list : ListSlot) (before after : HallSeat) (result : Result (HallSeat × ℕ) EnterRefused) → EntersWith key list before after result → FindsListFree result
free_of key list before after (Ok made) enters = tt
free_of key list before after (Err (Busy held)) enters = enters
free_of key list before after (Err (Over end)) enters = tt
free_of key list before after (Err OutOfMemory) enters = tt
