-- A worker leaves its deque, or its top thread begins to wait.
use Rattle.std.proofs.Common.{◌≡◌, ℕ, List, [], ◌∷◌, ◌++◌, map, get_or, set, true, refl, sym, ap, subst, ◌∙◌}
use Rattle.std.specs.Prelude.{None, Some}
use Rattle.dag_order.specs.LabelOrder.{fork_of}
use Rattle.depth_first_list.specs.Actions.{joins}
use Rattle.depth_first_list.specs.Facts.{label_at, deed_at}
use Rattle.deque_machine.specs.Lists.{Each}
use Rattle.deque_machine.proofs.Lists.{each_left, each_right, each_join}
use Rattle.deque_list.specs.Deques.{Deque}
use Rattle.deque_machine.specs.Moments.{Moment, moment_of, done_at, owned_by}
use Rattle.deque_machine.specs.Machine.{Setting, Event, suspends, gives_up, Owns, HasEnded, deques_with, books_closed, May, suspends_top, gives_deque_up}
use Rattle.deque_machine.specs.Play.{Limits}
use Rattle.deque_machine.specs.Runs.{Pair, place_of}
use Rattle.trail_meaning.specs.declared.trail_kind.TrailKind.TheVariants.{Suspend, GiveUp}
use Rattle.trail_check.specs.Following.{tells_wait, tells_give_up, pair_of}
use Rattle.trail_check.specs.declared.seat.Seat.{Seat}
use Rattle.trail_check.specs.declared.checker.Checker.{Checker}
use Rattle.trail_check.specs.Holds.{deque_with, with_these}
use Rattle.trail_check.specs.Places.{deque_shown, places_in, IsNextHere, SeatIs, PlacesAre}
use Rattle.trail_check.specs.Counts.{TallyIs}
use Rattle.trail_check.specs.Standing.{StandsFor}
use Rattle.trail_check.specs.Steps.{told_of, Came}
use Rattle.trail_check.proofs.CutLists.{some_inside}
use Rattle.trail_check.proofs.Mine.{Seated, seated, owned, left_unowned, left_out}
use Rattle.trail_check.proofs.Nexts.{places_middle, all_same_next}
use Rattle.trail_check.proofs.Counting.{SamePeriods, one_book_changed, same_done_at, nothing_counted}
use Rattle.trail_check.proofs.Placing.{WaitsAre, placed, waits_stay, one_waits}
use Rattle.trail_check.proofs.Going.{SameList, came}

module _ (s : Setting) (limits : Limits) (run : List Pair) (m : Moment) (c : Checker) (stands : StandsFor s limits run m c) (worker : ℕ) (seat : Seat)
    (is : get_or c.seats.items worker None ≡ Some seat) where
  -- what the worker has
  pub sits : Seated s m c.deques.deques worker seat
  sits = seated s m c.deques.deques worker seat stands.lawful (stands.places).deques_are (subst (λ t. SeatIs s m worker t) is ((stands.places).seats_are worker))

  abbrev pub own_of : Owns m worker
  own_of = owned s.list m c.deques.deques (stands.places).deques_are worker seat.deque (sits).place (sits).hand

  abbrev left : List (Deque ℕ)
  left = ((sits).hand).holds.left

  abbrev right : List (Deque ℕ)
  right = ((sits).hand).holds.right

  cut_places : Each (IsNextHere s.list (done_at m)) (places_in left ++ (sits).place ∷ (((sits).hand).under ++ places_in right))
  cut_places = subst (λ t. Each (IsNextHere s.list (done_at m)) t)
      (ap places_in ((sits).hand).holds.deques_are ∙ places_middle left right (deque_with seat.deque (Some worker) ((sits).place ∷ ((sits).hand).under)))
      (stands.places).next

  pub top_next : IsNextHere s.list (done_at m) (sits).place
  top_next = (each_right (IsNextHere s.list (done_at m)) (places_in left) ((sits).place ∷ (((sits).hand).under ++ places_in right)) cut_places).0

  -- the book is closed, and nothing is done
  module _ (event : Event) (after : Moment) (may : May s m worker event after) (none : place_of event ≡ []) (books : after.books ≡ books_closed own_of) (d : Checker) (same : SameList c d)
      (tally : d.tally ≡ c.tally) where
    unchanged : (i : ℕ) → done_at after i ≡ done_at m i
    unchanged i = same_done_at s (stands.knows).some (stands.knows).depth_first run m stands.reaches c.tally d.tally stands.tally worker after event may none i

    counted : TallyIs s (run ++ pair_of worker event ∷ []) after d.tally
    counted = nothing_counted s (stands.knows).some (stands.knows).depth_first run m stands.reaches c.tally d.tally stands.tally worker after event may none
        (subst (SamePeriods m.books) (sym books) (one_book_changed m.books (own_of).older (own_of).newer (own_of).book None (own_of).book.ran (own_of).books_are)) tally

    moved : (these : List (Deque ℕ)) → d.deques.deques ≡ with_these ((sits).hand).holds these
        → after.deques ≡ (own_of).left ++ (map (deque_shown s.list) these ++ (own_of).right)
        → Each (IsNextHere s.list (done_at after)) (places_in these) → d.seats.items ≡ set c.seats.items worker None
        → owned_by worker after.deques ≡ 0 → WaitsAre s.list after.waiting d.waits.items
        → PlacesAre s after d.deques.deques d.seats.items d.waits.items
    moved these deques deques_are these_next seats mine waits =
        placed s m after worker event may c.deques.deques c.seats.items c.waits.items stands.places left these right d.deques.deques deques deques_are
        (all_same_next s.list (done_at m) (done_at after) unchanged (places_in left)
        (each_left (IsNextHere s.list (done_at m)) (places_in left) ((sits).place ∷ (((sits).hand).under ++ places_in right)) cut_places))
        these_next
        (all_same_next s.list (done_at m) (done_at after) unchanged (places_in right)
        (each_right (IsNextHere s.list (done_at m)) ((sits).place ∷ ((sits).hand).under) (places_in right)
        (each_right (IsNextHere s.list (done_at m)) (places_in left) ((sits).place ∷ (((sits).hand).under ++ places_in right)) cut_places)))
        (some_inside c.seats.items worker seat is) None d.seats.items seats mine d.waits.items waits

    own_next : Each (IsNextHere s.list (done_at after)) ((sits).place ∷ ((sits).hand).under)
    own_next = all_same_next s.list (done_at m) (done_at after) unchanged ((sits).place ∷ ((sits).hand).under)
        (each_left (IsNextHere s.list (done_at m)) ((sits).place ∷ ((sits).hand).under) (places_in right)
        (each_right (IsNextHere s.list (done_at m)) (places_in left) ((sits).place ∷ (((sits).hand).under ++ places_in right)) cut_places))

  pub give_up_came : (d : Checker) → SameList c d → d.tally ≡ c.tally
      → d.deques.deques ≡ with_these ((sits).hand).holds (deque_with seat.deque None ((sits).place ∷ ((sits).hand).under) ∷ [])
      → d.seats.items ≡ set c.seats.items worker None → d.waits.items ≡ c.waits.items → Came s limits run m (told_of worker GiveUp) true d
  give_up_came d same tally deques seats waits =
      let after : Moment = moment_of (deques_with (own_of) None ((own_of).top ∷ (own_of).under)) m.waiting (books_closed own_of) in
      let may : May s m worker gives_up after = gives_deque_up own_of in
      came s limits run m c d stands worker GiveUp gives_up after tells_give_up may same
      (moved gives_up after may refl refl d same tally (deque_with seat.deque None ((sits).place ∷ ((sits).hand).under) ∷ []) deques refl
      (each_join (IsNextHere s.list (done_at after)) ((sits).place ∷ ((sits).hand).under) [] (own_next gives_up after may refl refl d same tally) tt)
      seats (left_unowned s m worker stands.lawful own_of ((own_of).top ∷ (own_of).under))
      (subst (WaitsAre s.list m.waiting) (sym waits) (waits_stay s m c.deques.deques c.seats.items c.waits.items stands.places)))
      (counted gives_up after may refl refl d same tally)

  -- the top thread waits at its Join
  pub suspend_came : (child : ℕ) → deed_at s.list (sits).place ≡ joins child → ¬ HasEnded s m (fork_of (label_at s.list (sits).place) child) → ((sits).hand).under ≡ []
      → (d : Checker) → SameList c d → d.tally ≡ c.tally → d.deques.deques ≡ with_these ((sits).hand).holds []
      → d.seats.items ≡ set c.seats.items worker None → d.waits.items ≡ set c.waits.items (sits).place true → Came s limits run m (told_of worker Suspend) true d
  suspend_came child deed none alone d same tally deques seats waits =
      let after : Moment = moment_of ((own_of).left ++ (own_of).right) (record { thread = (own_of).top; child = child } ∷ m.waiting) (books_closed own_of) in
      let may : May s m worker suspends after = suspends_top own_of (sits).place child (record { next = top_next; deed_is = deed }) none (ap (map (label_at s.list)) alone) in
      came s limits run m c d stands worker Suspend suspends after tells_wait may same
      (moved suspends after may refl refl d same tally [] deques refl tt
      seats (left_out s m worker stands.lawful own_of)
      (subst (WaitsAre s.list after.waiting) (sym waits)
      (one_waits s.list s.quota (stands.knows).depth_first m.waiting c.waits.items (waits_stay s m c.deques.deques c.seats.items c.waits.items stands.places) (sits).place
      (record { thread = (own_of).top; child = child }) (top_next).inside refl deed)))
      (counted suspends after may refl refl d same tally)
