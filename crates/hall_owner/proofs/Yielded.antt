-- A seat that holds its lane and the list to give its deque up.
use Rattle.std.proofs.Common.{◌≡◌, ◌≢◌, ◌⊎◌, ℕ, ◌+◌, ◌<◌, List, [], ◌∷◌, inl, inr, refl, sym, ap, ◌∙◌, subst, append_assoc}
use Rattle.std.specs.Prelude.{Option, None, Some}
use Rattle.std.specs.Option.{option_map}
use Rattle.std.proofs.lemmas.Option.{none-some}
use Rattle.dag_order.specs.declared.finish.Finish.{Finish}
use Rattle.hall_actions.specs.Passed.HallNames.{DequeId, table_of, quota_of, running_shown, HallSeat, AreTaken, MeetsLaw, HallKey, LaneSlot, Running, ListSlot}
use Rattle.hall_actions.specs.Passed.HallNames.{SeatNote, Slot, IsStill, IsAtPoint, Thread, HasAs, notes, with_hand}
use Rattle.hall_slots.specs.Passed.Lists.{Each, times}
use Rattle.hall_slots.specs.Passed.Parts.{Has}
use Rattle.play_rules.specs.declared.ends.RunEnd.{RunEnd}
use Rattle.play_rules.specs.declared.ends.RunEnd.TheVariants.{Finished}
use Rattle.play_rules.specs.declared.stop.Stop.{Stop}
use Rattle.play_rules.specs.declared.stop.Stop.TheVariants.{OutOfMemory}
use Rattle.turn_table.proofs.NoteLaws.{notes_at}
use Rattle.turn_table.specs.declared.look.Look.TheVariants.{Took}
use Rattle.hall_actions.specs.Passed.Puts.{note_of, HasPut, MayPutListAndLane}
use Rattle.hall_actions.specs.Passed.Rooms.{HasMoreBooks}
use Rattle.hall_actions.specs.Passed.EventParts.{MayPause}
use Rattle.hall_actions.specs.Passed.Writes.{Parts}
use Rattle.hall_actions.specs.Passed.EventParts.{IsAtAction}
use Rattle.hall_actions.specs.Passed.Leaving.{IsLeft}
use Rattle.hall_actions.specs.Lists.{ReadsList}
use Rattle.hall_actions.specs.Passed.Noting.{Noting}
use Rattle.hall_actions.specs.Passed.NotingVariants.{Halts}
use Rattle.hall_actions.specs.Reads.{HoldsItsLane, ReadsLane}
use Rattle.hall_actions.proofs.Reading.{st, shown, holds as law_holds, owners_read}
use Rattle.hall_actions.proofs.Listing.{at, lists_are_read}
use Rattle.hall_slots.specs.ListCalls.{end_kept}
use Rattle.hall_slots.specs.declared.slot.Slot.TheVariants as slots
use Rattle.hall_slots.proofs.Named.{named_there}
use Rattle.hall_slots.proofs.Reading.{get_of_at}
use Rattle.hall_actions.specs.Pauses.{CanClose}
use Rattle.hall_actions.proofs.Leaving.{answered_may, halts_may, leaves_may}
use Rattle.hall_actions.proofs.ListEvents.{yields_may}
use Rattle.hall_actions.specs.Advancing.{took_lane, MayCome}
use Rattle.hall_actions.specs.Answers.{ReturnsEnded}
use Rattle.hall_actions.specs.Returning.{MayNote, ReturnsList}
use Rattle.hall_actions.proofs.Notable.{memory_may_be_noted, nothing_may_be_noted}
use Rattle.hall_owner.specs.Yielding.{closing_note, halting_note, leaving_note, noting_then, short_note, stop_then, yielded_note, HasBoth, HasTakenBoth, IsGivenUp, MayYield}
use Rattle.hall_owner.proofs.FromList as from
use Rattle.hall_owner.proofs.WithList.{more_books}

-- a thread that did nothing is the same
same_thread : (x : Thread) → IsStill x x
same_thread x = record { same = record { id = refl; parent = refl; func = refl; label = refl }; done = refl; forks = refl; children = refl; words = refl }

-- the stop that a seat had found, or want of memory
cause_of : (seat : HallSeat) (found : Option Stop) → seat.hand.note.found ≡ found → (stop : Stop) → stop ≡ stop_then found
    → (seat.hand.note.found ≡ Some stop) ⊎ ((seat.hand.note.found ≡ None) × (stop ≡ OutOfMemory))
cause_of seat None is stop same = inr (is, same)
cause_of seat (Some other) is stop same = inl (is ∙ ap (λ (s : Stop). Some s) (sym same))

module _ (key : HallKey) (seat : HallSeat) (deque : DequeId) (list : ListSlot) (lane : LaneSlot) (both : HasBoth key seat deque list lane) where
  held : HoldsItsLane seat deque lane
  held = record {
    placed = both.may.goes.placed;
    stays = both.may.goes.stays;
    owns = both.may.goes.owns;
    holds = subst (HasAs (deque.0 + 2) (slots.Lane lane)) (sym both.holds) (inr (inl (refl, refl)));
  }

  has_list : HasAs 0 (slots.List list) seat.hand.holds
  has_list = subst (HasAs 0 (slots.List list)) (sym both.holds) (inl (refl, refl))

  pub reads : ReadsLane key seat lane
  reads = owners_read key seat deque lane held both.meets

  pub runs : lane.running ≡ Some (record { worker = reads.holder; period = reads.period })
  runs = reads.running

  pub at_points : Each (IsAtPoint (table_of key) (quota_of key)) lane.lane.items
  at_points = reads.points both.calm

  pub runs_one : (running : Running) × (lane.running ≡ Some running)
  runs_one = (record { worker = reads.holder; period = reads.period }, reads.running)

  reads_list : ReadsList key seat deque list
  reads_list = lists_are_read key seat deque lane list held has_list both.meets

  pub has_place : (owner : Option ℕ) × Has list.part.order.places deque owner
  has_place = (Some seat.hand.note.worker, reads_list.has)

  -- the list names its worker
  pub named : 0 < times seat.hand.note.worker list.crew.items
  named = named_there key seat list both.may.goes.placed both.may.goes.stays has_list both.meets

  -- an end that the seat was answered is kept
  pub answered : (end : RunEnd) → seat.hand.note.answered ≡ Some end → list.end ≡ Some end
  answered end is =
      ((law_holds key seat deque lane held both.meets).parts.end list
      (get_of_at (shown key seat deque lane held both.meets) 0 (slots.List list) (at key seat deque lane held both.meets list has_list))).answered
      seat.number seat.hand.note end
      (get_of_at (notes both.meets.2) seat.number seat.hand.note (notes_at both.meets.2 seat.number seat.hand (st key seat deque lane held both.meets).mine)) is

  -- no end of the root is kept, so the seat was answered none
  pub unfinished : (finish : Finish) → seat.hand.note.answered ≢ Some (Finished finish)
  unfinished finish is = reads_list.unfinished finish (answered (Finished finish) is)

  -- the list in which an end is kept
  pub ended : (end : RunEnd) → list.end ≡ Some end → ReturnsEnded key seat deque list lane
  ended end kept = record {
    lane_was = lane;
    holds = both.holds;
    end = end;
    kept = kept;
    lane_same = record { goes = both.may.goes; same = refl; points = at_points };
  }

  -- the list with more room, perhaps
  module _ (now : ListSlot) (more : HasMoreBooks list now) where
    pub gives_back : (noting : Noting) → ((was : Parts) → MayNote key seat deque was noting) → ReturnsList key seat deque now lane noting
    gives_back noting may = record {
      list_was = list;
      lane_was = lane;
      holds = both.holds;
      list_same = more_books list now more;
      lane_same = record { goes = both.may.goes; same = refl; points = at_points };
      may = λ pool. may _;
    }

    -- in which the stop of the seat is kept, unless an end was
    pub halts : (found : Option Stop) → seat.hand.note.found ≡ found → (stop : Stop) → stop ≡ stop_then found → (end : RunEnd)
        → end ≡ end_kept now.end stop → (kept : ListSlot) → kept ≡ record now { end = Some end }
        → MayPutListAndLane key seat deque kept lane (note_of seat.hand.note (Halts stop end))
    halts found is stop stop_is end end_is kept kept_is =
        subst (λ (l : ListSlot). MayPutListAndLane key seat deque l lane (note_of seat.hand.note (Halts stop end))) (sym kept_is)
        (subst (λ (e : RunEnd). MayPutListAndLane key seat deque (record now { end = Some e }) lane (note_of seat.hand.note (Halts stop e)))
        (ap (λ (o : Option RunEnd). end_kept o stop) (sym more.deques.end) ∙ sym end_is)
        (halts_may key seat deque both.may stop (cause_of seat found is stop stop_is) list now lane (more_books list now more) both.holds at_points))

  -- the list and the lane in which the deque was given up
  module _ (given : ListSlot) (left : LaneSlot) (is : IsGivenUp deque list lane given left) where
    closes : CanClose deque is.roomy
    closes = from.closes key seat deque lane list held has_list both.meets is.roomy is.more.deques is.room

    abbrev idle_lane : LaneSlot
    idle_lane = record { lane = lane.lane; running = None }

    at_action : IsAtAction lane reads.top reads.under is.running.worker is.running.period
    at_action = record {
      top_was = reads.top;
      items = reads.items;
      still = same_thread reads.top;
      running = ap (option_map running_shown) is.its_period;
    }

    pub yields : MayPutListAndLane key seat deque given left (yielded_note seat.hand.note deque)
    yields = subst (λ (l : LaneSlot). MayPutListAndLane key seat deque given l (yielded_note seat.hand.note deque)) (sym is.lane_is)
        (yields_may key seat deque both.may reads.quota list is.roomy given lane idle_lane reads.top reads.under is.running.worker is.running.period
        at_action both.holds is.more closes is.places is.rest is.shown reads.items refl at_points)

    -- where an end is kept, which the seat is answered
    pub closes_with : (end : RunEnd) → list.end ≡ Some end → MayPutListAndLane key seat deque given left (closing_note seat.hand.note deque end)
    closes_with end kept = answered_may key seat deque given left (yielded_note seat.hand.note deque) end
        (is.rest.end ∙ is.more.deques.end ∙ kept) yields

    -- which names the worker of the seat no more
    pub leaves_with : seat.hand.note.enters ≡ None → (now : ListSlot) → IsLeft seat.hand.note.worker seat.hand.note.found given now
        → MayPutListAndLane key seat deque now left (leaving_note seat.hand.note deque)
    leaves_with nobody now gone = subst (λ (l : LaneSlot). MayPutListAndLane key seat deque now l (leaving_note seat.hand.note deque)) (sym is.lane_is)
        (leaves_may key seat deque both.may reads.quota nobody both.calm list is.roomy given now lane idle_lane reads.top reads.under
        is.running.worker is.running.period at_action both.holds is.more closes is.places is.rest is.shown reads.items refl at_points gone)

    pub named_still : 0 < times seat.hand.note.worker given.crew.items
    named_still = let crew = sym (is.rest.crew ∙ is.more.deques.crew) in
        subst (λ (xs : List ℕ). 0 < times seat.hand.note.worker xs) (λ i. (crew i).items) named

-- a seat that may come to its next event may yield
pub come_may_yield : (seat : HallSeat) (deque : DequeId) → MayCome seat deque → MayYield seat deque
come_may_yield seat deque come = record { may = come.may; calm = λ is. none-some OutOfMemory (sym come.none ∙ is); free = come.free }

-- a seat that has found this stop or none may note what it finds
pub may_note : (key : HallKey) (seat : HallSeat) (deque : DequeId) (found : Option Stop) → MayPause seat deque → seat.hand.note.found ≡ found → (was : Parts)
    → MayNote key seat deque was (noting_then found)
may_note key seat deque None may none was = memory_may_be_noted key seat deque was may none
may_note key seat deque (Some stop) may is was = nothing_may_be_noted key seat deque was

-- and this is its note then
pub noted_short : (note : SeatNote) (found : Option Stop) → note.found ≡ found → note_of note (noting_then found) ≡ short_note note
noted_short note None none = ap (λ (o : Option Stop). record note { found = Some (stop_then o) }) (sym none)
noted_short note (Some stop) is = ap (λ (o : Option Stop). record note { found = o }) is ∙ ap (λ (o : Option Stop). record note { found = Some (stop_then o) }) (sym is)

-- so it is where the list keeps this stop
pub noted_halt : (note : SeatNote) (list : ListSlot) (found : Option Stop) (stop : Stop) (end : RunEnd) → note.found ≡ found → stop ≡ stop_then found
    → end ≡ end_kept list.end stop → note_of note (Halts stop end) ≡ halting_note note list
noted_halt note list found stop end found_is stop_is end_is =
    let same : stop ≡ stop_then note.found = stop_is ∙ ap stop_then (sym found_is) in
    λ i. record note { found = Some (same i); answered = Some ((end_is ∙ ap (end_kept list.end) same) i) }

-- a list that was taken has no less room than it had
pub same_books : (list : ListSlot) → HasMoreBooks list list
same_books list = record {
  deques = record { order = refl; closed = refl; begun = refl; crew = refl; end = refl };
  waiting = refl;
  results = refl;
}

-- a seat that took its lane and the list
module _ (before middle : HallSeat) (deque : DequeId) (lane : LaneSlot) (list : ListSlot)
    (taken : AreTaken before (deque.0 + 2) (slots.Lane lane) 0 (slots.List list) middle) where
  pub noted : middle.hand.note ≡ before.hand.note
  noted = ap (λ (s : HallSeat). s.hand.note) taken

  pub has_both : (key : HallKey) → MayYield before deque → MeetsLaw key middle → HasBoth key middle deque list lane
  has_both key may meets = record {
    may = record {
      goes = record {
        placed = subst (λ (n : SeatNote). 0 < n.places) (sym noted) may.may.goes.placed;
        stays = ap (λ (n : SeatNote). n.left) noted ∙ may.may.goes.stays;
        owns = ap (λ (n : SeatNote). n.deque) noted ∙ may.may.goes.owns;
      };
      counting = ap (λ (n : SeatNote). n.counting) noted ∙ may.may.counting;
    };
    calm = λ is. may.calm (sym (ap (λ (n : SeatNote). n.found) noted) ∙ is);
    holds = ap (λ (s : HallSeat). s.hand.holds) taken
        ∙ ap (λ (xs : List (ℕ × Slot)). (0, slots.List list) ∷ (deque.0 + 2, slots.Lane lane) ∷ xs) may.free;
    meets = meets;
  }

  -- was answered what it was before
  pub unfinished_before : ((finish : Finish) → middle.hand.note.answered ≢ Some (Finished finish)) → (finish : Finish)
      → before.hand.note.answered ≢ Some (Finished finish)
  unfinished_before none finish is = none finish (ap (λ (n : SeatNote). n.answered) noted ∙ is)

  -- how it leaves
  module _ (after : HallSeat) (note : SeatNote → SeatNote) where
    pub leaves : HasPut middle (note middle.hand.note) [] after → HasTakenBoth before deque list (note before.hand.note) after
    leaves put = (
      lane,
      put
          ∙ ap (λ (s : HallSeat). with_hand s (record { seated = s.hand.seated; holds = []; note = note s.hand.note; looks = s.hand.looks })) taken
          ∙ ap (λ looks. with_hand before (record { seated = before.hand.seated; holds = []; note = note before.hand.note; looks = looks }))
          (append_assoc before.hand.looks (took_lane deque lane ∷ []) (Took 0 (slots.List list) ∷ [])),
    )
