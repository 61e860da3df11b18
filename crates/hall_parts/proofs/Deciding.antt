-- What an owner's event writes leads from a running state to a running state.
use Rattle.std.proofs.Common.{◌≡◌, ℕ, ◌+◌, ◌≤◌, List, ◌∷◌, true, false, refl, sym, ap, ◌∙◌, subst, arith}
use Rattle.std.proofs.Math.Logic.{∥∥₁_map}
use Rattle.std.specs.List.Sorted.{IsPermutation}
use Rattle.std.specs.Prelude.{Option, None, Some, slice_get, slice_set}
use Rattle.hall_parts.specs.HallNames.{DequeId, Event, SeatNote, list_shown, pool_shown, lane_shown, view_of, HallKey, table_of, quota_of, terms_of}
use Rattle.hall_parts.specs.HallNames.{HallSeat, Terms, machine_of, Setting, Hall, lane_at}
use Rattle.hall_interleavings.specs.Events.{seen, IsEvent, does_an_action, has_to_pause, gives_up_freely, given_up}
use Rattle.hall_interleavings.proofs.Going.{events_go_on}
use Rattle.hall_slots.proofs.Passed.Built.{whole_is_depth_first}
use Rattle.hall_slots.proofs.Passed.Quiet.{quiet_puts_go_on}
use Rattle.hall_slots.specs.Passed.DepthFirstListActions.{record_words}
use Rattle.hall_slots.specs.Passed.Machine as machine
use Rattle.moment_laws.specs.Passed.Parts.{Thread, Result}
use Rattle.thread_state.specs.Settings.{IsSettingOf}
use Rattle.hall_slots.specs.Passed.Changes.{after_event}
use Rattle.hall_slots.specs.Passed.HallMachineViews.{View}
use Rattle.hall_slots.specs.Passed.State.{RunningState}
use Rattle.hall_slots.specs.Passed.Steps.{Step, did, waited, gave_up}
use Rattle.hall_slots.specs.Passed.Writing.{IsAtWork, step_of}
use Rattle.hall_slots.specs.declared.event.Event.TheVariants.{Stole, Did, Suspended, GaveUp, Halted}
use Rattle.hall_slots.specs.Steps.{IsRunning}
use Rattle.hall_parts.specs.Writes.{Parts, hall_with, told_note}
use Rattle.hall_parts.specs.EventParts.{MayGoOn}
use Rattle.hall_parts.specs.Puts.{note_of}
use Rattle.hall_parts.specs.Writing.{in_order, at_work_there, WritesEvent, Writes, DoesEvent, is_counted, counts, EventsMayCome}
use Rattle.hall_parts.specs.declared.noting.Noting.{Noting}
use Rattle.hall_parts.specs.declared.noting.Noting.TheVariants.{Same, Found, Does, Yields, Leaves, Closes, Halts}
use Rattle.hall_parts.proofs.Working.{some, work, here, viewed}

plus_zero : (n : ℕ) → n + 0 ≡ n
plus_zero n = omega arith

module _ (key : HallKey) (seat : HallSeat) (deque : DequeId) (quota : record_words ≤ quota_of key) (goes : MayGoOn seat deque) (c : Setting)
    (of : IsSettingOf (table_of key) (quota_of key) c) (h : Hall) (count : ℕ) (views : List View)
    (run : IsRunning (machine_of c (terms_of key)) (Terms.limits (terms_of key)) h count views)
    (its : slice_get views seat.number ≡ Some (view_of seat.hand.note)) where
  abbrev v : View
  v = view_of seat.hand.note

  -- The seat is in a running state with this hall, once it notes this.
  abbrev pub RunsWith : Hall → SeatNote → Type 0
  RunsWith after note =
      IsRunning (machine_of c (terms_of key)) (Terms.limits (terms_of key)) after count (slice_set views seat.number (view_of note))

  module _ (waiting : List Thread) (results : List Result) (waits : IsPermutation h.list.waiting waiting)
      (kept : IsPermutation h.list.results results) where
    abbrev now : Hall
    now = in_order h waiting results

    -- in whichever order the list keeps what it keeps in none
    state : RunningState (machine_of c (terms_of key)) (Terms.limits (terms_of key)) now run.0 run.1 run.2 count views
    state = quiet_puts_go_on (machine_of c (terms_of key)) (Terms.limits (terms_of key)) h now run.0 run.1 run.2 count views run.3
        (record { deques = refl; waiting = waits; results = kept; periods = refl })
        (record { live = refl; begun = sym (plus_zero h.list.begun); moves = refl }) run.3.stands.shape.lanes
        (record { places = refl; crew = refl; kept = refl; periods = λ id worker owned. refl })

    pub leads_on : (after : Hall) (step : Step) (view : View) (note : SeatNote) → view ≡ view_of note
        → IsEvent (machine_of c (terms_of key)) (seen now count views) step (seen after count (slice_set views seat.number view))
        → RunsWith after note
    leads_on after step view note same event =
        let goes_on = events_go_on (machine_of c (terms_of key)) (some key seat deque goes c h count views run its quota of)
        (whole_is_depth_first c) (Terms.limits (terms_of key)) (seen now count views) (seen after count (slice_set views seat.number view)) step
        run.0 run.1 run.2 state event in (
          step ∷ run.0,
          goes_on.0,
          (run.1, run.2, goes_on.1, goes_on.2),
          subst (λ (x : View). RunningState (machine_of c (terms_of key)) (Terms.limits (terms_of key)) after (step ∷ run.0) goes_on.0
              (run.1, run.2, goes_on.1, goes_on.2) count (slice_set views seat.number x)) same goes_on.3,
        )

    module _ (w : IsAtWork now seat.hand.note.worker) (after : Hall) where
      event_leads_on : (event : Event) (owned : Option DequeId) → seat.hand.note.counting ≡ is_counted event
          → WritesEvent (machine_of c (terms_of key)) now w event owned after → RunsWith after (told_note seat.hand.note owned event)
      event_leads_on (Did name) owned counting wrote =
          leads_on after (step_of w seat.number (machine.does wrote.0) (did name)) (after_event v owned (did name) v.yielded)
          (told_note seat.hand.note owned (Did name)) (viewed seat.hand.note owned (Did name))
          (does_an_action seat.number v w wrote.0 name after owned (here key seat deque goes c h count views run its) counting wrote.1)
      event_leads_on (Suspended thread) owned counting wrote =
          leads_on after (step_of w seat.number machine.suspends (waited thread)) (after_event v None (waited thread) v.yielded)
          (told_note seat.hand.note owned (Suspended thread))
          (viewed seat.hand.note None (Suspended thread) ∙ ap (λ o. view_of (told_note seat.hand.note o (Suspended thread))) (sym wrote.0))
          (has_to_pause seat.number v w machine.suspends (waited thread) after (here key seat deque goes c h count views run its) counting wrote.1)
      event_leads_on (GaveUp id) owned counting wrote =
          leads_on after (step_of w seat.number machine.gives_up (gave_up id.0)) (after_event v None (gave_up id.0) v.yielded)
          (told_note seat.hand.note owned (GaveUp id))
          (viewed seat.hand.note None (GaveUp id) ∙ ap (λ o. view_of (told_note seat.hand.note o (GaveUp id))) (sym wrote.0))
          (has_to_pause seat.number v w machine.gives_up (gave_up id.0) after (here key seat deque goes c h count views run its) counting wrote.1)
      event_leads_on (Stole id period) owned counting wrote = absurd wrote
      event_leads_on (Halted end) owned counting wrote = absurd wrote

      noting_leads_on : (noting : Noting) → seat.hand.note.counting ≡ counts noting → Writes (machine_of c (terms_of key)) now w noting after
          → RunsWith after (note_of seat.hand.note noting)
      noting_leads_on Same counting wrote = absurd wrote
      noting_leads_on (Found stop) counting wrote = absurd wrote
      noting_leads_on (Does event owned) counting wrote = event_leads_on event owned counting wrote
      noting_leads_on (Yields id) counting wrote =
          leads_on after (step_of w seat.number machine.gives_up (gave_up w.id.0)) (after_event v None (gave_up w.id.0) true)
          (record (told_note seat.hand.note None (GaveUp id)) { yielded = true })
          (ap (λ (d : DequeId). after_event v None (gave_up d.0) true) wrote.0
          ∙ ap (λ (x : View). record x { yielded = true }) (viewed seat.hand.note None (GaveUp id)))
          (subst (λ (a : Hall). IsEvent (machine_of c (terms_of key)) (seen now count views) (step_of w seat.number machine.gives_up (gave_up w.id.0))
          (seen a count (slice_set views seat.number (after_event v None (gave_up w.id.0) true)))) (sym wrote.1)
          (gives_up_freely seat.number v w (here key seat deque goes c h count views run its) counting))
      noting_leads_on (Leaves id) counting wrote = absurd wrote
      noting_leads_on (Closes id end) counting wrote = absurd wrote
      noting_leads_on (Halts stop end) counting wrote = absurd wrote

  event_comes : (was now : Parts) (noting : Noting) → seat.hand.note.counting ≡ counts noting
      → DoesEvent key seat.hand.note.worker deque was now noting → h.list ≡ list_shown was.list → h.pool ≡ pool_shown was.pool
      → lane_at h.lanes deque ≡ lane_shown was.lane → ∥ RunsWith (hall_with h deque now) (note_of seat.hand.note noting) ∥₁
  event_comes was now noting counting does list_is pool_is lane_is =
      let at_work = work key seat deque goes c h count views run its in
      ∥∥₁_map (does (record {
        setting = c;
        of = of;
        hall = h;
        work = at_work.0;
        id_is = at_work.1;
        list_is = list_is;
        pool_is = pool_is;
        lane_is = lane_is;
      }))
      (λ wrote. noting_leads_on wrote.0 wrote.1 wrote.2 wrote.3 (at_work_there at_work.0 wrote.0 wrote.1) (hall_with h deque now) noting counting wrote.4)

pub events_may_come : EventsMayCome
events_may_come key seat deque was now noting quota goes counting does c of h count views run list_is pool_is lane_is its =
    event_comes key seat deque quota goes c of h count views run its was now noting counting does list_is pool_is lane_is
