-- A list whose deque lost its owner, or is gone, shows what the event of a hall writes into it.
use Rattle.std.proofs.Common.{◌≡◌, ℕ, Option, None, Some, List, [], ◌∷◌, ◌++◌, map, sym, ap, ◌∙◌}
use Rattle.std.specs.Option.{option_map}
use mathlib.Core.List.{map-append}
use Rattle.deque_list.specs.declared.deque_id.DequeId.{DequeId}
use Rattle.deque_list.specs.declared.place.Place.{Place}
use Rattle.space_ledger.specs.BooksList.{books_list}
use Rattle.open_periods.specs.Periods.{closed_shown}
use Rattle.open_periods.specs.Tables.{closed_of, shut}
use Rattle.list_changes.specs.Parts.{Has, Closes, place_with}
use Rattle.thread_frames.specs.Kept.{waiting_shown, result_kept}
use Rattle.hall_machine.specs.Values.{Hall, ListShown}
use Rattle.hall_machine.specs.Writing.{IsAtWork}
use Rattle.hall_slots.specs.declared.list_slot.ListSlot.{ListSlot}
use Rattle.hall_slots.specs.declared.lane_slot.Running.{Running}
use Rattle.hall_slots.specs.Shown.{list_shown, running_shown, end_shown}
use Rattle.hall_slots.specs.ListCalls.{ShowsUnowned, ShowsWithout}

module _ (before after : ListSlot) (running : Running) (crew : after.crew ≡ before.crew) (end : after.end ≡ before.end) where
  -- other places, and one closed period more
  shows_closed : (places : List Place) → Closes before.part after.part places running.period
      → list_shown after ≡ record (list_shown before) { places = places; closed = ListShown.closed (list_shown before) ++ shut (running_shown running) ∷ [] }
  shows_closed places closes = let closed : ListShown.closed (list_shown after) ≡ ListShown.closed (list_shown before) ++ shut (running_shown running) ∷ [] =
      ap (map closed_shown) closes.closed ∙ map-append closed_shown (books_list before.part.books) (closed_of running.period ∷ []) in
      λ i. record { places = closes.places_are i; crew = (crew i).items; waiting = map waiting_shown (closes.waiting i).entries; results = map result_kept (closes.results i).entries; closed = closed i; begun = closes.begun i; kept = option_map end_shown (end i) }

  -- the deque of a worker at work is in the middle of the places
  abbrev has_deque : (id : DequeId) (worker : ℕ) (h : Hall) (w : IsAtWork h worker) → h.list ≡ list_shown before → w.id ≡ id → Has before.part.order.places id (Some worker)
  has_deque id worker h w is same = record { left = w.left; right = w.right; places_are = ap (λ (l : ListShown). l.places) (sym is) ∙ w.places_are ∙ ap (λ (d : DequeId). w.left ++ place_with d (Some worker) ∷ w.right) same }

  pub shows_unowned : (id : DequeId) → ((owner : Option ℕ) (has : Has before.part.order.places id owner) → Closes before.part after.part (has.left ++ place_with id None ∷ has.right) running.period)
      → ShowsUnowned before after id running
  shows_unowned id closes worker h w is same = shows_closed (w.left ++ place_with id None ∷ w.right) (closes (Some worker) (has_deque id worker h w is same))
      ∙ sym (λ i. record { places = w.left ++ place_with (same i) None ∷ w.right; crew = ListShown.crew (is i); waiting = ListShown.waiting (is i); results = ListShown.results (is i); closed = ListShown.closed (is i) ++ shut (running_shown running) ∷ []; begun = ListShown.begun (is i); kept = ListShown.kept (is i) })

  pub shows_without : (id : DequeId) → ((owner : Option ℕ) (has : Has before.part.order.places id owner) → Closes before.part after.part (has.left ++ has.right) running.period)
      → ShowsWithout before after id running
  shows_without id closes worker h w is same = shows_closed (w.left ++ w.right) (closes (Some worker) (has_deque id worker h w is same))
      ∙ sym (λ i. record { places = w.left ++ w.right; crew = ListShown.crew (is i); waiting = ListShown.waiting (is i); results = ListShown.results (is i); closed = ListShown.closed (is i) ++ shut (running_shown running) ∷ []; begun = ListShown.begun (is i); kept = ListShown.kept (is i) })
