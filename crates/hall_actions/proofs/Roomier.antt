-- What an event wrote into parts in which there was more room, it wrote into those that were taken.
use Rattle.std.proofs.Common.{◌≡◌, ℕ, ◌∷◌, map, sym, ap, ◌∙◌, subst}
use Rattle.std.specs.List.Sorted.{IsPermutation}
use Rattle.std.proofs.lemmas.List.Sorted.{IsPermutation-map, IsPermutation-trans, IsPermutation-cons}
use Rattle.std.specs.Prelude.{Option}
use Rattle.hall_parts.specs.HallNames.{DequeId, list_shown, pool_shown, Running, ListSlot, PoolSlot, ActionId, Hall, ListShown, PoolShown, result_shown}
use Rattle.hall_parts.specs.HallNames.{Ended, Next, Thread, Kept}
use Rattle.deque_list.specs.Orders.{OrderView}
use Rattle.hall_parts.specs.Here.{TakesWords}
use Rattle.hall_slots.specs.Passed.Parts.{Has}
use Rattle.hall_parts.specs.ListCalls.{SuspendsThere, LeavesThere, KeepsCrew}
use Rattle.hall_slots.specs.Passed.Writing.{IsAtWork}
use Rattle.hall_slots.specs.ListCalls.{ShowsUnowned, HasNoOwner, IsGone, KeepsRest}
use Rattle.thread_frames.specs.Kept.{waiting_shown, result_kept}
use Rattle.hall_parts.specs.Rooms.{KeepsDeques, HasMoreBooks, HasMoreToWait, HasMoreToLeave, IsSamePool}
use Rattle.hall_parts.proofs.Rooms.{pool_same, shown_with}

pub takes_from : (next : Next) (top : Thread) (name : ActionId) (was now : PoolSlot) (after : PoolShown) → IsSamePool was now
    → TakesWords next top name (pool_shown now) after → TakesWords next top name (pool_shown was) after
takes_from next top name was now after same takes = subst (λ p. TakesWords next top name p after) (pool_same was now same) takes

pub has_from : (was now : ListSlot) (deque : DequeId) (owner : Option ℕ) → KeepsDeques was now → Has now.part.order.places deque owner → Has was.part.order.places deque owner
has_from was now deque owner keeps = subst (λ (o : OrderView). Has o.places deque owner) keeps.order

module _ (was now after : ListSlot) (deque : DequeId) where
  pub rest_from : KeepsDeques was now → now.part.waiting ≡ was.part.waiting → now.part.results ≡ was.part.results → KeepsRest now after → KeepsRest was after
  rest_from keeps waits kept rest = record {
    crew = rest.crew ∙ keeps.crew;
    end = rest.end ∙ keeps.end;
    waiting = rest.waiting ∙ waits;
    results = rest.results ∙ kept;
    most = rest.most ∙ ap (λ (o : OrderView). o.most) keeps.order;
  }

  pub crew_from : KeepsDeques was now → KeepsCrew now after → KeepsCrew was after
  crew_from keeps rest = record {
    crew = rest.crew ∙ keeps.crew;
    end = rest.end ∙ keeps.end;
    most = rest.most ∙ ap (λ (o : OrderView). o.most) keeps.order;
  }

  pub unowned_from : KeepsDeques was now → HasNoOwner deque now.part.order.places after.part.order.places → HasNoOwner deque was.part.order.places after.part.order.places
  unowned_from keeps = subst (λ (o : OrderView). HasNoOwner deque o.places after.part.order.places) keeps.order

  pub gone_from : KeepsDeques was now → IsGone deque now.part.order.places after.part.order.places → IsGone deque was.part.order.places after.part.order.places
  gone_from keeps = subst (λ (o : OrderView). IsGone deque o.places after.part.order.places) keeps.order

  pub shown_books : HasMoreBooks was now → list_shown now ≡ list_shown was
  shown_books more = shown_with was now more.deques (map waiting_shown was.part.waiting.entries) (map result_kept was.part.results.entries)
      (ap (λ (k : Kept Thread). map waiting_shown k.entries) more.waiting) (ap (λ (k : Kept Ended). map result_kept k.entries) more.results)

  pub shows_unowned_from : (running : Running) → HasMoreBooks was now → ShowsUnowned now after deque running → ShowsUnowned was after deque running
  shows_unowned_from running more shows worker h w is id_is = shows worker h w (is ∙ sym (shown_books more)) id_is

  pub suspends_from : (running : Running) (top : Thread) → HasMoreToWait was now → SuspendsThere now after deque running top → SuspendsThere was after deque running top
  suspends_from running top more shows worker h w is id_is top_is =
      let waits : ListShown = record h.list { waiting = map waiting_shown now.part.waiting.entries } in
      let g : Hall = record h { list = waits } in
      let v : IsAtWork g worker = record { left = w.left; id = w.id; right = w.right; top = w.top; under = w.under; period = w.period; places_are = w.places_are; lane_is = w.lane_is } in
      let shown : waits ≡ list_shown now = ap (λ (l : ListShown). record l { waiting = map waiting_shown now.part.waiting.entries }) is
      ∙ sym (shown_with was now more.deques (map waiting_shown now.part.waiting.entries) (map result_kept was.part.results.entries) (λ i. map waiting_shown now.part.waiting.entries)
      (ap (λ (k : Kept Ended). map result_kept k.entries) more.results)) in
      let found = shows worker g v shown id_is top_is in
      let same : IsPermutation h.list.waiting (map waiting_shown now.part.waiting.entries) = subst (λ xs. IsPermutation xs (map waiting_shown now.part.waiting.entries)) (sym (ap (λ (l : ListShown). l.waiting) is))
      (IsPermutation-map waiting_shown was.part.waiting.entries now.part.waiting.entries more.waiting.0) in
      (found.0, IsPermutation-trans (w.top ∷ h.list.waiting) (w.top ∷ map waiting_shown now.part.waiting.entries) found.0 (IsPermutation-cons w.top h.list.waiting (map waiting_shown now.part.waiting.entries) same) found.1, found.2)

  pub leaves_from : (running : Running) (ended : Ended) → HasMoreToLeave was now → LeavesThere now after deque running ended → LeavesThere was after deque running ended
  leaves_from running ended more shows worker h w is id_is =
      let left : ListShown = record h.list { results = map result_kept now.part.results.entries } in
      let g : Hall = record h { list = left } in
      let v : IsAtWork g worker = record { left = w.left; id = w.id; right = w.right; top = w.top; under = w.under; period = w.period; places_are = w.places_are; lane_is = w.lane_is } in
      let shown : left ≡ list_shown now = ap (λ (l : ListShown). record l { results = map result_kept now.part.results.entries }) is
      ∙ sym (shown_with was now more.deques (map waiting_shown was.part.waiting.entries) (map result_kept now.part.results.entries)
      (ap (λ (k : Kept Thread). map waiting_shown k.entries) more.waiting) (λ i. map result_kept now.part.results.entries)) in
      let found = shows worker g v shown id_is in
      let same : IsPermutation h.list.results (map result_kept now.part.results.entries) = subst (λ xs. IsPermutation xs (map result_kept now.part.results.entries)) (sym (ap (λ (l : ListShown). l.results) is))
      (IsPermutation-map result_kept was.part.results.entries now.part.results.entries more.results.0) in (
        found.0,
        IsPermutation-trans (result_shown ended ∷ h.list.results) (result_shown ended ∷ map result_kept now.part.results.entries) found.0
            (IsPermutation-cons (result_shown ended) h.list.results (map result_kept now.part.results.entries) same) found.1,
        found.2,
      )
