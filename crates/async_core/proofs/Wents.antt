-- What an event of the machine of deques comes to in the ready list.
use Rattle.std.proofs.Common.{◌≡◌, ℕ, ◌+◌, ◌*◌, ◌≤◌, ◌<◌, ◌⊎◌, List, [], ◌∷◌, ◌++◌, length, map, sym, ap, subst, ◌∙◌, arith}
use Rattle.std.proofs.lemmas.Int.{ints}
use Rattle.std.proofs.lemmas.List.{map-append, length-map}
use Rattle.std.proofs.lemmas.Nat.{le-div}
use Rattle.std.specs.Prelude.{◌/◌, None, Some, filter}
use Rattle.language_limits.specs.declared.TheConstants.{RECORD_WORDS}
use Rattle.depth_first_list.specs.Actions.{Action, record_words}
use Rattle.depth_first_list.specs.Facts.{action_at}
use Rattle.depth_first_list.specs.Runs.{IsDepthFirst}
use Rattle.depth_first_run.specs.States.{Setting}
use Rattle.depth_first_run.specs.Run.{list_of}
use Rattle.depth_first_run.proofs.Built.{whole_is_depth_first}
use Rattle.deque_list.specs.declared.deque_id.DequeId.{DequeId}
use Rattle.deque_list.specs.Deques.{Deque, deque_ids}
use Rattle.deque_list.specs.Ids.{IsSmallestFree}
use Rattle.list_changes.specs.Shown.{deque_shown, deque_with}
use Rattle.deque_machine.specs.Lists.{Each}
use Rattle.deque_machine.proofs.Lists.{each_at, same_tail, cons_is_not_nil}
use Rattle.deque_machine.specs.Moments.{Moment}
use Rattle.deque_machine.specs.Machine as machine
use Rattle.deque_machine.specs.Runs.{Pair, place_of, is_move, moves}
use Rattle.deque_machine.specs.Terms.{Terms, machine_of}
use Rattle.thread_frames.specs.Passed.Parts as parts
use Rattle.thread_frames.specs.Passed.Cuts as cuts
use Rattle.scheduler_state.specs.Passed.Standing.{StandsAt}
use Rattle.scheduler_state.proofs.Passed.Going.{moves_go_on}
use Rattle.scheduler_state.proofs.Passed.Ready.{ids_are_shown}
use Rattle.thread_frames.specs.declared.thread.Thread.{Thread}
use Rattle.thread_frames.specs.Shown.{thread_shown}
use Rattle.scheduler_state.specs.declared.event.Event.{Event}
use Rattle.scheduler_state.specs.Held.{Held, parts_in}
use Rattle.scheduler_state.specs.Moments.{shown, HasRun}
use Rattle.scheduler_state.specs.Outcomes.{GoesOn}
use Rattle.ready_machine.specs.Entries.{IsEntry, IsLeastFree, IsReadyList}
use Rattle.ready_machine.specs.ReadyPlay.{WantsReady}
use Rattle.ready_machine.proofs.Agreeing.{wants_agree}
use Rattle.ready_machine.specs.Standing as law
use Rattle.ready_machine.specs.Standing.{HasRecord, HasOneThread, LeavesTwo, cut_moment}
use Rattle.ready_machine.proofs.Aside.{one_thread_each, two_are_cut, one_or_two}
use Rattle.ready_machine.proofs.Few.{entries_are_few}
use Rattle.async_core.specs.Steps.{Went}
use Rattle.async_core.proofs.Lists.{one_each}
use Rattle.async_core.proofs.Parting.{parted}

module _ (c : Setting) (terms : Terms) (quota : record_words ≤ c.quota) (before after : Held) (run : List Pair) (m : Moment)
    (at : HasRun c terms before run m) (ready : IsReadyList (machine_of c terms) m) (worker : ℕ) (below : worker < terms.workers) (told : Event)
    (g : GoesOn c terms after worker 0 run m told) where
  abbrev s : machine.Setting
  s = machine_of c terms

  some : 0 < c.quota
  some = omega (arith, quota)

  listed : IsDepthFirst c.quota (list_of c)
  listed = whole_is_depth_first c

  abbrev event : machine.Event
  event = g.event

  abbrev pair : Pair
  pair = record { worker = worker; event = event }

  pub wants : WantsReady s m worker event
  wants = (wants_agree s m worker event ready below).0 g.wants

  abbrev moved : List Action
  moved = moves (list_of c) run

  standing : StandsAt s (shown after) (moved ++ filter is_move (map (action_at s.list) (place_of event))) g.next
  standing = subst (λ ms. StandsAt s (shown after) ms g.next) (moves_go_on (list_of c) run pair) g.stands.standing

  stood : law.StandsReady s (shown before) moved m
  stood = record { entries = ready.entries; standing = at.standing }

  -- each deque has one thread, or it was a Fork
  pub one_or_fork : Each IsEntry (g.next).deques ⊎ LeavesTwo (list_of c) m g.next worker
  one_or_fork = one_or_two s some listed m g.next worker event ready below wants g.may

  -- with one thread each it came in the ready list
  pub went_whole : Each IsEntry (g.next).deques → Went c terms after worker run m told
  went_whole entries =
      let r = one_thread_each s some listed (shown before) (shown after) moved m g.next worker event stood below wants g.may standing
      (one_each (parts_in after).deques (subst (Each IsEntry) (g.stands).standing.shows.deques entries)) in
      record { event = event; next = g.next; wants = wants; free = g.free; may = r.0; stands = g.stands; tells = g.tells }

  -- once a deque of two is cut in two, it came too
  module _ (id : DequeId) (top bottom : Thread) (left right : List (Deque Thread))
      (are : after.deques ≡ left ++ deque_with id (Some worker) (top ∷ bottom ∷ []) ∷ right) where
    shows_two : (parts_in after).deques ≡ map (deque_shown thread_shown) left
        ++ cuts.deque_with id.0 (Some worker) (thread_shown top ∷ thread_shown bottom ∷ []) ∷ map (deque_shown thread_shown) right
    shows_two = ap (map (deque_shown thread_shown)) are
        ∙ map-append (deque_shown thread_shown) left (deque_with id (Some worker) (top ∷ bottom ∷ []) ∷ right)

    -- the two are no entry
    pub no_entries : Each IsEntry (g.next).deques → ⊥
    no_entries entries =
        let one = each_at HasOneThread (map (deque_shown thread_shown) left)
        (cuts.deque_with id.0 (Some worker) (thread_shown top ∷ thread_shown bottom ∷ [])) (map (deque_shown thread_shown) right)
        (subst (Each HasOneThread) shows_two (one_each (parts_in after).deques (subst (Each IsEntry) (g.stands).standing.shows.deques entries))) in
        cons_is_not_nil (thread_shown bottom) [] (same_tail (thread_shown top) one.0 (thread_shown bottom ∷ []) [] one.1)

  module _ (id new : DequeId) (top bottom : Thread) (left right : List (Deque Thread))
      (are : after.deques ≡ left ++ deque_with id (Some worker) (top ∷ bottom ∷ []) ∷ right) (free : IsSmallestFree (deque_ids after.deques) new) where
    least : IsLeastFree (g.next).deques new.0
    least = let ids = ids_are_shown thread_shown after.deques g.next new (g.stands).standing.shows.deques free in record { free = ids.0; none_less = ids.1 }

    abbrev cut : Moment
    cut = cut_moment g.next (map (deque_shown thread_shown) left) (map (deque_shown thread_shown) right) id.0 new.0 worker (thread_shown top) (thread_shown bottom)

    abbrev cut_held : Held
    cut_held = parted after worker id new top bottom left right

    came : law.StandsReadyAfter s (law.set_aside (shown after) (map (deque_shown thread_shown) left) (map (deque_shown thread_shown) right) id.0 new.0 (Some worker)
        (thread_shown top) (thread_shown bottom)) moved m worker event cut
    came = two_are_cut s some listed (shown before) (shown after) moved m g.next worker event (map (deque_shown thread_shown) left) (map (deque_shown thread_shown) right)
        id.0 new.0 (thread_shown top) (thread_shown bottom) stood below wants g.may standing (shows_two id top bottom left right are) least

    cut_shown : (shown cut_held).parts.deques ≡ map (deque_shown thread_shown) left ++ cuts.deque_with id.0 (Some worker) (thread_shown top ∷ [])
        ∷ cuts.deque_with new.0 None (thread_shown bottom ∷ []) ∷ map (deque_shown thread_shown) right
    cut_shown = map-append (deque_shown thread_shown) left (deque_with id (Some worker) (top ∷ []) ∷ deque_with new None (bottom ∷ []) ∷ right)

    cut_stands : StandsAt s (shown cut_held) (moves (list_of c) (run ++ pair ∷ [])) cut
    cut_stands = subst (λ ds. StandsAt s (record (shown after) { parts = record (parts_in after) { deques = ds } }) (moves (list_of c) (run ++ pair ∷ [])) cut) (sym cut_shown)
        (subst (λ ms. StandsAt s (law.set_aside (shown after) (map (deque_shown thread_shown) left) (map (deque_shown thread_shown) right) id.0 new.0 (Some worker)
        (thread_shown top) (thread_shown bottom)) ms cut) (sym (moves_go_on (list_of c) run pair)) came.1.standing)

    pub went_cut : Went c terms cut_held worker run m told
    went_cut = record {
      event = event;
      next = cut;
      wants = wants;
      free = g.free;
      may = came.0;
      stands = record { sum = (g.stands).sum; standing = cut_stands; done = (g.stands).done };
      tells = g.tells;
    }

  -- after a Fork there is a place for the parent's entry
  module _ (two : LeavesTwo (list_of c) m g.next worker)
      (has : Each (λ d. Each HasRecord (parts.Deque.threads d)) (parts_in before).deques)
      (most : terms.limits.deques ≡ 1 + terms.limits.capacity / RECORD_WORDS) (fits : after.live ≤ terms.limits.capacity) where
    few_before : record_words * length m.deques ≤ record_words + before.live
    few_before = entries_are_few s some listed (shown before) moved m stood has

    one_more : after.live ≡ before.live + record_words
    one_more = let now = (g.stands).standing.live in let was = at.standing.live in let more = two.live in omega (arith, ints, now, was, more)

    place_left : length m.deques < terms.limits.deques
    place_left =
        let few = few_before in let more = one_more in
        let within : length m.deques ≤ terms.limits.capacity / RECORD_WORDS = le-div (length m.deques) terms.limits.capacity RECORD_WORDS (omega arith) (omega (arith, few, more, fits)) in
        omega (arith, within, most)

    as_many : (h : Held) (x : Moment) → x.deques ≡ map parts.deque_shown (parts_in h).deques → length x.deques ≡ length h.deques
    as_many h x is = ap length is ∙ length-map (parts_in h).deques parts.deque_shown ∙ length-map h.deques (deque_shown thread_shown)

    pub room_before : length before.deques < terms.limits.deques
    room_before = let left = place_left in let many = as_many before m at.standing.shows.deques in omega (arith, left, many)

    pub room_after : length after.deques < terms.limits.deques
    room_after = let left = place_left in let many = as_many after g.next (g.stands).standing.shows.deques in let same = two.many in omega (arith, left, many, same)
