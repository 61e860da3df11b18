-- What a seat writes that leaves, that is answered an end, or that keeps its stop, leads from a running state to a running state.
use Rattle.std.proofs.Common.{◌≡◌, ◌≢◌, ℕ, ◌≤◌, ◌<◌, List, ◌∷◌, ◌++◌, map, true, false, inl, inr, refl, sym, ap, ◌∙◌, subst}
use Rattle.std.proofs.Math.Logic.{∥∥₁_map}
use Rattle.std.specs.List.Sorted.{IsPermutation}
use Rattle.std.specs.Option.{option_map}
use Rattle.std.specs.Prelude.{Option, None, Some, slice_get, slice_set}
use Rattle.atomic_table.proofs.Lists.{set_again}
use Rattle.dag_order.specs.Births.{root}
use Rattle.hall_parts.specs.HallNames.{DequeId, Each, list_shown, pool_shown, lane_shown, stop_shown, end_shown, view_of, table_of, quota_of, terms_of}
use Rattle.hall_parts.specs.HallNames.{HallSeat, HallKey, ListSlot, SeatNote, Setting, Terms, machine_of, Hall, End, ListShown, no_memory, lane_at, Kept}
use Rattle.hall_parts.specs.HallNames.{kept_under, thread_that_waits}
use Rattle.hall_interleavings.specs.Events.{seen, IsEvent, leaves_as_owner, given_up}
use Rattle.hall_slots.specs.Passed.Quiet.{kept_with}
use Rattle.hall_slots.proofs.Passed.Halting.{answers_keep_crew, stops_are_kept}
use Rattle.hall_slots.proofs.Passed.Lanes.{written_twice}
use Rattle.hall_slots.proofs.Passed.OpenPeriodsLists.{set_same}
use Rattle.hall_slots.proofs.Passed.Quiet.{kept_stops_go_on}
use Rattle.hall_slots.proofs.Passed.Noting.{crews_stand}
use Rattle.hall_slots.specs.Passed.Changes.{after_event}
use Rattle.hall_slots.specs.Passed.Crew.{HasCauseAmong}
use Rattle.hall_slots.specs.Passed.DepthFirstListActions.{record_words}
use Rattle.hall_slots.specs.Passed.HallMachineViews.{View}
use Rattle.hall_slots.specs.Passed.Machine.{gives_up}
use Rattle.hall_slots.specs.Passed.Roots.{end_of_root}
use Rattle.hall_slots.specs.Passed.Seats.{with_crew, end_with, finding, leaving}
use Rattle.hall_slots.specs.Passed.State.{RunningState}
use Rattle.hall_slots.specs.Passed.Steps.{gave_up}
use Rattle.hall_slots.specs.Passed.ThreadFramesKept.{WaitsUnder, IsUnderItsId}
use Rattle.hall_slots.specs.Passed.ThreadFramesPoints.{IsAtPoint, IsResult}
use Rattle.hall_slots.specs.Passed.Writing.{IsAtWork, step_of}
use Rattle.deque_list.specs.declared.place.Place.{Place}
use Rattle.hall_slots.specs.Passed.Ended.{Ended}
use Rattle.hall_slots.specs.Passed.Thread.{Thread as FrameThread}
use Rattle.moment_laws.specs.Passed.Parts.{Thread, Result}
use Rattle.play_rules.specs.declared.ends.RunEnd.{RunEnd}
use Rattle.play_rules.specs.declared.ends.RunEnd.TheVariants.{Finished}
use Rattle.play_rules.specs.declared.stop.Stop.{Stop}
use Rattle.play_rules.specs.declared.stop.Stop.TheVariants.{OutOfMemory}
use Rattle.thread_state.specs.Settings.{IsSettingOf}
use Rattle.hall_slots.specs.ListCalls.{end_kept}
use Rattle.hall_slots.specs.Steps.{IsRunning}
use Rattle.hall_slots.specs.declared.event.Event.TheVariants.{GaveUp}
use Rattle.hall_slots.proofs.Halts.{shown_end}
use Rattle.hall_slots.proofs.Left.{shown_left, kept_left, finished_left}
use Rattle.hall_slots.proofs.Listed.{shows_crew}
use Rattle.hall_slots.proofs.Reading.{at_of_get}
use Rattle.hall_parts.specs.EventParts.{MayGoOn, MayPause}
use Rattle.hall_parts.specs.Leaving.{IsLeft, OwnersMayLeave, WritersMayBeAnswered, with_end, StopsMayBeKept}
use Rattle.hall_parts.specs.Puts.{note_of, MayWrite}
use Rattle.hall_parts.specs.Writes.{Parts, parts, hall_with, BecomesOf, IsShort, MayBecome, StaySound}
use Rattle.hall_parts.specs.Writing.{in_order, at_work_there, DoesEvent}
use Rattle.hall_parts.specs.declared.noting.Noting.TheVariants.{Yields, Leaves}
use Rattle.hall_parts.proofs.Deciding.{RunsWith, leads_on}
use Rattle.hall_parts.proofs.Quiet.{same_hall}
use Rattle.hall_parts.proofs.Sound.{lane_excused}
use Rattle.hall_parts.proofs.Working.{work, here, viewed}

-- ---- an owner that leaves

module _ (key : HallKey) (seat : HallSeat) (deque : DequeId) (quota : record_words ≤ quota_of key) (may : MayPause seat deque)
    (nobody : seat.hand.note.enters ≡ None) (was given : Parts) (list : ListSlot)
    (left : IsLeft seat.hand.note.worker seat.hand.note.found given.list list) where
  abbrev now : Parts
  now = parts list given.pool given.lane

  abbrev note : SeatNote
  note = note_of seat.hand.note (Leaves deque)

  abbrev v : View
  v = view_of seat.hand.note

  abbrev crew : List ℕ
  crew = left.crew.front ++ left.crew.back

  module _ (c : Setting) (of : IsSettingOf (table_of key) (quota_of key) c) (h : Hall) (count : ℕ) (views : List View)
      (run : IsRunning (machine_of c (terms_of key)) (Terms.limits (terms_of key)) h count views)
      (its : slice_get views seat.number ≡ Some (view_of seat.hand.note)) (waiting : List Thread) (results : List Result)
      (waits : IsPermutation h.list.waiting waiting) (kept : IsPermutation h.list.results results)
      (w : IsAtWork (in_order h waiting results) seat.hand.note.worker) (id_is : w.id ≡ deque) (is : hall_with h deque given ≡ given_up w) where
    kept_is : option_map end_shown list.end ≡ kept_with v.found h.list.kept
    kept_is = ap (option_map end_shown) left.end ∙ shown_left given.list.end seat.hand.note.found
        ∙ ap (λ (x : Hall). kept_with v.found x.list.kept) is

    hall_is : with_crew (given_up w) crew (kept_with v.found h.list.kept) ≡ hall_with h deque now
    hall_is = ap (λ (x : Hall). with_crew x crew (kept_with v.found h.list.kept)) (sym is)
        ∙ ap (λ (l : ListShown). record (hall_with h deque given) { list = l })
        (sym (shows_crew given.list list crew (kept_with v.found h.list.kept) left.part left.crew.after_is kept_is))

    view_is : leaving (after_event v None (gave_up w.id.0) true) ≡ view_of note
    view_is = ap (λ (d : DequeId). leaving (after_event v None (gave_up d.0) true)) id_is
        ∙ ap (λ (x : View). record x { yielded = true; left = true }) (viewed seat.hand.note None (GaveUp deque))

    leaves_on : RunsWith key seat deque quota may.goes c of h count views run its (hall_with h deque now) note
    leaves_on = leads_on key seat deque quota may.goes c of h count views run its waiting results waits kept (hall_with h deque now)
        (step_of w seat.number gives_up (gave_up w.id.0)) (leaving (after_event v None (gave_up w.id.0) true)) note view_is
        (subst (λ (a : Hall). IsEvent (machine_of c (terms_of key)) (seen (in_order h waiting results) count views)
        (step_of w seat.number gives_up (gave_up w.id.0))
        (seen a count (slice_set views seat.number (leaving (after_event v None (gave_up w.id.0) true))))) hall_is
        (leaves_as_owner seat.number v w left.crew.front left.crew.back (here key seat deque may.goes c h count views run its) may.counting nobody
        (sym (ap (λ (x : Hall). x.list.crew) is) ∙ left.crew.before_is)))

  leave_goes_on : DoesEvent key seat.hand.note.worker deque was given (Yields deque) → MayBecome key seat deque was now note
  leave_goes_on does c of h count views run list_is pool_is lane_is its =
      let at_work = work key seat deque may.goes c h count views run its in
      ∥∥₁_map (does (record {
        setting = c;
        of = of;
        hall = h;
        work = at_work.0;
        id_is = at_work.1;
        list_is = list_is;
        pool_is = pool_is;
        lane_is = lane_is;
      }))
      (λ wrote. leaves_on c of h count views run its wrote.0 wrote.1 wrote.2 wrote.3 (at_work_there at_work.0 wrote.0 wrote.1) wrote.4.0 wrote.4.1)

  part_was : given.list.part ≡ list.part
  part_was = sym left.part

  leave_stays_sound : seat.hand.note.found ≢ Some OutOfMemory → StaySound key seat deque was given (note_of seat.hand.note (Yields deque))
      → StaySound key seat deque was now note
  leave_stays_sound calm s = record {
    pool = s.pool;
    list = λ sound. let there = s.list sound in record {
      most = (λ i. (left.part i).order.most) ∙ there.most;
      waiting = subst (λ (m : Kept FrameThread). Each WaitsUnder m.entries) (λ i. (part_was i).waiting) there.waiting;
      under_ids = subst (λ (m : Kept Ended). Each IsUnderItsId m.entries) (λ i. (part_was i).results) there.under_ids;
      results = subst (λ (m : Kept Ended). Each (λ entry. IsResult (table_of key) (quota_of key) entry.1) m.entries) (λ i. (part_was i).results)
          there.results;
    };
    waiting = λ all. subst (λ (m : Kept FrameThread). Each (IsAtPoint (table_of key) (quota_of key)) (map thread_that_waits m.entries))
        (λ i. (part_was i).waiting) (s.waiting all);
    becomes = subst (λ (places : List Place). BecomesOf deque given.lane was.list.part.order.places places) (λ i. (part_was i).order.places) s.becomes;
    points = lane_excused (IsAtPoint (table_of key) (quota_of key))
        (IsShort (note_of seat.hand.note (Yields deque)) was.list.part.order.places given.list.part.order.places)
        (IsShort note was.list.part.order.places list.part.order.places) (λ short. absurd (calm short.1)) given.lane.lane.items s.points;
    ends = λ end is. left.end ∙ kept_left given.list.end seat.hand.note.found end (s.ends end is);
    finished = λ finish is. elim (s.finished finish (finished_left given.list.end seat.hand.note.found finish (sym left.end ∙ is))) [
      | inl before ↦ inl before
      | inr ends ↦ inr (subst (λ (m : Kept Ended). end_of_root (kept_under m root) ≡ Some (Finished finish)) (λ i. (part_was i).results) ends)
    ];
    worker = refl;
    left = inr calm;
    answered = λ end is. inl is;
    found = λ stop is. is;
  }

pub owners_may_leave : OwnersMayLeave
owners_may_leave key seat deque was given list quota may nobody calm left does sound = record {
  goes_on = leave_goes_on key seat deque quota may nobody was given list left does;
  sound = leave_stays_sound key seat deque quota may nobody was given list left calm sound;
}

-- ---- a seat that is answered an end

pub writers_may_be_answered : WritersMayBeAnswered
writers_may_be_answered key seat deque was now note end placed kept may = record {
  goes_on = λ c of h count views run list_is pool_is lane_is its. ∥∥₁_map (may.goes_on c of h count views run list_is pool_is lane_is its)
      (λ went. let s = machine_of c (terms_of key) in let limits = Terms.limits (terms_of key) in
      let noted : slice_get (slice_set views seat.number (view_of note)) seat.number ≡ Some (view_of note) =
      set_same views seat.number (view_of note) (view_of seat.hand.note) its in (
        went.0,
        went.1,
        went.2,
        subst (λ (vs : List View). RunningState s limits (hall_with h deque now) went.0 went.1 went.2 count vs)
            (written_twice views seat.number (view_of note) (view_of (record note { answered = Some end })))
            (record {
              stands = went.3.stands;
              crew = (answers_keep_crew s limits (hall_with h deque now) went.0 went.1 went.2 count (slice_set views seat.number (view_of note))
                  seat.number (view_of note) (end_shown end) went.3.crew noted placed (ap (option_map end_shown) kept)).0;
            }),
      ));
  sound = let s = may.sound in record {
    pool = s.pool;
    list = s.list;
    waiting = s.waiting;
    becomes = s.becomes;
    points = s.points;
    ends = s.ends;
    finished = s.finished;
    worker = s.worker;
    left = s.left;
    answered = λ e is. inr (kept ∙ is);
    found = s.found;
  };
}

-- ---- a seat that keeps its stop

module _ (key : HallKey) (seat : HallSeat) (deque : DequeId) (was : Parts) (stop : Stop) (may : MayPause seat deque) where
  abbrev kept_parts : Parts
  kept_parts = with_end was (end_kept was.list.end stop)

  module _ (c : Setting) (h : Hall) (count : ℕ) (views : List View)
      (run : IsRunning (machine_of c (terms_of key)) (Terms.limits (terms_of key)) h count views) (list_is : h.list ≡ list_shown was.list)
      (pool_is : h.pool ≡ pool_shown was.pool) (lane_is : lane_at h.lanes deque ≡ lane_shown was.lane)
      (its : slice_get views seat.number ≡ Some (view_of seat.hand.note)) where
    abbrev end_now : Option End
    end_now = Some (end_with h.list.kept (stop_shown stop))

    list_now : record h.list { crew = h.list.crew; kept = end_now } ≡ list_shown kept_parts.list
    list_now = ap (λ (l : ListShown). record l { kept = Some (end_with l.kept (stop_shown stop)) }) list_is
        ∙ ap (λ (e : End). record (list_shown was.list) { kept = Some e }) (sym (shown_end was.list.end stop))

    hall_is_now : with_crew h h.list.crew end_now ≡ hall_with h deque kept_parts
    hall_is_now = λ i. record { list = list_now i; pool = pool_is i; lanes = sym (same_hall h deque (lane_shown was.lane) lane_is) i }

    goes_with : (vs : List View)
        → RunningState (machine_of c (terms_of key)) (Terms.limits (terms_of key)) (with_crew h h.list.crew end_now) run.0 run.1 run.2 count vs
        → IsRunning (machine_of c (terms_of key)) (Terms.limits (terms_of key)) (hall_with h deque kept_parts) count vs
    goes_with vs state = (
      run.0,
      run.1,
      run.2,
      subst (λ (x : Hall). RunningState (machine_of c (terms_of key)) (Terms.limits (terms_of key)) x run.0 run.1 run.2 count vs) hall_is_now state,
    )

    keeps_found : seat.hand.note.found ≡ Some stop
        → IsRunning (machine_of c (terms_of key)) (Terms.limits (terms_of key)) (hall_with h deque kept_parts) count
        (slice_set views seat.number (view_of (record seat.hand.note { found = Some stop })))
    keeps_found found = subst (IsRunning (machine_of c (terms_of key)) (Terms.limits (terms_of key)) (hall_with h deque kept_parts) count)
        (sym (set_again views seat.number (view_of seat.hand.note) (at_of_get views seat.number (view_of seat.hand.note) its))
        ∙ ap (λ (o : Option Stop). slice_set views seat.number (view_of (record seat.hand.note { found = o }))) found)
        (goes_with views (record {
          stands = crews_stand (machine_of c (terms_of key)) h run.0 run.1 h.list.crew end_now run.3.stands;
          crew = stops_are_kept (machine_of c (terms_of key)) (Terms.limits (terms_of key)) h run.0 run.1 run.2 count views seat.number
              (view_of seat.hand.note) (stop_shown stop) run.3.crew its may.goes.placed (ap (option_map stop_shown) found);
        }))

    finds_memory : seat.hand.note.found ≡ None → stop ≡ OutOfMemory
        → IsRunning (machine_of c (terms_of key)) (Terms.limits (terms_of key)) (hall_with h deque kept_parts) count
        (slice_set views seat.number (view_of (record seat.hand.note { found = Some stop })))
    finds_memory none memory = goes_with (slice_set views seat.number (finding (view_of seat.hand.note) (stop_shown stop)))
        (kept_stops_go_on (machine_of c (terms_of key)) (Terms.limits (terms_of key)) h run.0 run.1 run.2 count views seat.number
        (view_of seat.hand.note) (stop_shown stop) run.3 (here key seat deque may.goes c h count views run its) may.counting
        (ap (option_map stop_shown) none) (subst (λ (s : Stop). HasCauseAmong (machine_of c (terms_of key)) (Terms.limits (terms_of key))
        run.0 run.1 run.2 (stop_shown s)) (sym memory) tt))

pub stops_may_be_kept : StopsMayBeKept
stops_may_be_kept key seat deque was stop may (inl found) c of h count views run list_is pool_is lane_is its =
    ∣ keeps_found key seat deque was stop may c h count views run list_is pool_is lane_is its found ∣₁
stops_may_be_kept key seat deque was stop may (inr finds) c of h count views run list_is pool_is lane_is its =
    ∣ finds_memory key seat deque was stop may c h count views run list_is pool_is lane_is its finds.0 finds.1 ∣₁
