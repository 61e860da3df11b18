-- A seat that holds its lane and the list, in the words of the events.
use Rattle.std.proofs.Common.{◌≡◌, ℕ, ◌≤◌, refl, sym, ap, ◌∙◌, subst}
use Rattle.std.proofs.lemmas.List.Sorted.{IsPermutation-refl}
use Rattle.std.specs.Prelude.{Option, None, Some, IsSome}
use Rattle.hall_actions.specs.Passed.HallNames.{DequeId, HallSeat, MeetsLaw, HallKey, ListSlot, ThreadId, Ended, Next, Thread, Kept, KeepsTheSame, kept_under, HasAs}
use Rattle.hall_actions.specs.Passed.Rooms.{KeepsDeques, HasMoreBooks, HasMoreRoom, HasMoreToLeave, HasMoreToWait}
use Rattle.hall_actions.specs.Passed.Taken.{list_and_lane}
use Rattle.hall_actions.specs.Lists.{ComesTo}
use Rattle.hall_actions.specs.Reads.{HoldsItsLane}
use Rattle.hall_slots.specs.declared.slot.Slot.TheVariants as slots
use Rattle.hall_actions.specs.Pauses.{CanClose}
use Rattle.hall_actions.specs.declared.at_next.AtNext.{AtNext}
use Rattle.hall_owner.proofs.FromList as from
use Rattle.hall_owner.proofs.Held.{comes, list_held, with_list}
use Rattle.hall_owner.specs.Holding.{IsBefore}
use Rattle.space_ledger.specs.BooksList.{books_spare}
use Rattle.hall_owner.specs.Asked.{IsKeptFor}
use Rattle.thread_frames.specs.Passed.Joins.{released}

-- room of one kind is room of any kind
same_kept : {T : Type 0} (was now : Kept T) → now ≡ was → KeepsTheSame was now
same_kept was now is = subst (KeepsTheSame was) (sym is) (IsPermutation-refl was.entries, λ id. refl)

pub more_books : (was now : ListSlot) → HasMoreBooks was now → HasMoreRoom was now
more_books was now more = record {
  deques = more.deques;
  waiting = same_kept was.part.waiting now.part.waiting more.waiting;
  results = same_kept was.part.results now.part.results more.results;
}

pub more_to_wait : (was now : ListSlot) → HasMoreToWait was now → HasMoreRoom was now
more_to_wait was now more = record { deques = more.deques; waiting = more.waiting; results = same_kept was.part.results now.part.results more.results }

pub more_to_leave : (was now : ListSlot) → HasMoreToLeave was now → HasMoreRoom was now
more_to_leave was now more = record { deques = more.deques; waiting = same_kept was.part.waiting now.part.waiting more.waiting; results = more.results }

-- what is there
pub some_of : {T : Type 0} (o : Option T) → IsSome o → (x : T) × (o ≡ Some x)
some_of None some = let no : ⊥ = cc in absurd no
some_of (Some x) some = (x, refl)

-- the one result that is kept for a child
pub only_kept : (list : ListSlot) (top : Thread) (child : ThreadId) (words : ℕ) → IsKeptFor list top child (Some words) → (ended : Ended)
    → kept_under list.part.results child ≡ Some ended → words ≡ released top.run.state ended.state
only_kept list top child words kept ended is = kept.2 ∙ ap (λ (o : Option Ended). released_with top o) (sym kept.1 ∙ is)
  where
    released_with : Thread → Option Ended → ℕ
    released_with top None = 0
    released_with top (Some ended) = released top.run.state ended.state

module _ (key : HallKey) (seat : HallSeat) (deque : DequeId) (at : AtNext) (next : Next) (ready : ℕ) (list : ListSlot)
    (b : IsBefore key seat deque (list_and_lane deque list) at next ready) (meets : MeetsLaw key seat) where
  pub lane_held : HoldsItsLane seat deque b.holding.lane
  lane_held = with_list key seat deque at next ready list b.holding

  pub has_list : HasAs 0 (slots.List list) seat.hand.holds
  has_list = list_held key seat deque at next ready list b.holding

  pub come : ComesTo key b.holding.lane at.top at.lane.items next
  come = comes key seat deque (list_and_lane deque list) at next ready b.holding

  pub closes : (now : ListSlot) → KeepsDeques list now → 1 ≤ books_spare now.part.books → CanClose deque now
  closes = from.closes key seat deque b.holding.lane list lane_held has_list meets
