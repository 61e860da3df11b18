-- What a seat may note if no event comes.
use Rattle.std.proofs.Common.{◌≡◌, ℕ, ◌+◌, ◌<◌, ◌≤◌, List, refl, sym, ap, ◌∙◌, subst}
use Rattle.std.proofs.Math.Logic.{∥∥₁_map}
use Rattle.std.proofs.lemmas.Option.{none-some}
use Rattle.std.specs.Option.{option_map}
use Rattle.std.specs.Prelude.{None, Some, pos, slice_get, slice_set}
use Rattle.hall_parts.specs.HallNames.{DequeId, table_of, quota_of, terms_of, list_shown, pool_shown, lane_shown, stop_shown, view_of, HallSeat, HallKey}
use Rattle.hall_parts.specs.HallNames.{LaneSlot, ListSlot, PoolSlot, SeatNote, Terms, machine_of, Setting, IsOfTheList, deed_of, Next, Thread}
use Rattle.hall_slots.specs.Passed.Play as play
use Rattle.hall_slots.specs.Passed.Play.{words_taken}
use Rattle.depth_first_list.specs.Actions.{record_words}
use Rattle.depth_first_list.specs.Facts.{action_at, words_at}
use Rattle.hall_slots.proofs.Passed.Built.{whole_is_depth_first}
use Rattle.hall_slots.specs.Passed.Run.{list_of}
use Rattle.hall_slots.specs.Passed.Books.{charge_at}
use Rattle.open_periods.specs.Periods.{Period}
use Rattle.open_periods.specs.declared.period.Period.{Period as OpenPeriod}
use Rattle.hall_parts.specs.Passed.Stop.{Stop}
use Rattle.hall_parts.specs.Passed.StopVariants.{ArenaFull, OutOfMemory}
use Rattle.hall_parts.specs.Passed.Settings.{IsSettingOf}
use Rattle.hall_parts.specs.Here.{ShowsOwn}
use Rattle.hall_machine.specs.Seats.{finding}
use Rattle.hall_machine.specs.State.{RunningState}
use Rattle.hall_machine.specs.Values.{Hall, PoolShown, by_rule, lane_at}
use Rattle.hall_machine.specs.Views.{View}
use Rattle.hall_machine.specs.Writing.{IsAtWork}
use Rattle.hall_machine.proofs.Stops.{full_arenas_go_on}
use Rattle.hall_parts.specs.Staying.{NotesOn}
use Rattle.hall_parts.specs.EventParts.{IsAtAction, MayPause}
use Rattle.hall_parts.proofs.Pauses.{next_of_it}
use Rattle.hall_parts.proofs.Quiet.{same_hall, statements_may_come, wants_of_memory_may_come}
use Rattle.hall_parts.proofs.Working.{some, work, here, own, period_was}
use Rattle.hall_slots.specs.Steps.{IsRunning}
use Rattle.hall_parts.specs.Writes.{parts as three, hall_with}
use Rattle.hall_actions.specs.Causes.{IsTooLarge, NothingMayBeNoted, MemoryMayBeNoted, FullArenasMayBeNoted}

pub nothing_may_be_noted : NothingMayBeNoted
nothing_may_be_noted key seat deque was = record {
  on = record { worker = refl; left = refl; answered = refl; found = λ stop is. is };
  goes_on = statements_may_come key seat deque was.list was.pool was.lane was.lane refl;
}

-- the note of a seat that found its first stop is of the same seat
finds_on : (note : SeatNote) (stop : Stop) → note.found ≡ None → NotesOn note (record note { found = Some stop })
finds_on note stop none = record { worker = refl; left = refl; answered = refl; found = λ other is. absurd (none-some other (sym none ∙ is)) }

pub memory_may_be_noted : MemoryMayBeNoted
memory_may_be_noted key seat deque was may none = record {
  on = finds_on seat.hand.note OutOfMemory none;
  goes_on = wants_of_memory_may_come key seat deque was.list was.pool was.lane was.lane may.goes may.counting none refl;
}

module _ (key : HallKey) (seat : HallSeat) (deque : DequeId) (list : ListSlot) (pool : PoolSlot) (lane : LaneSlot) (next : Next)
    (top : Thread) (under : List Thread) (holder : ℕ) (period : OpenPeriod) (asked : ℕ) (quota : record_words ≤ quota_of key) (may : MayPause seat deque)
    (none : seat.hand.note.found ≡ None) (at : IsAtAction lane top under holder period) (too_large : IsTooLarge key next top period pool.pool.live asked) where
  abbrev stop : Stop
  stop = ArenaFull pool.pool.live asked

  abbrev note : SeatNote
  note = record seat.hand.note { found = Some stop }

  module _ (c : Setting) (of : IsSettingOf (table_of key) (quota_of key) c) (h : Hall) (count : ℕ) (views : List View)
      (run : IsRunning (machine_of c (terms_of key)) (Terms.limits (terms_of key)) h count views) (list_is : h.list ≡ list_shown list) (pool_is : h.pool ≡ pool_shown pool)
      (lane_is : lane_at h.lanes deque ≡ lane_shown lane) (its : slice_get views seat.number ≡ Some (view_of seat.hand.note)) where
    module _ (w : IsAtWork h seat.hand.note.worker) (id_is : w.id ≡ deque) (is : IsOfTheList c top next) (takes : 0 < words_taken (action_at (list_of c) is.place))
        (words : words_at (list_of c) is.place ≡ asked) (within : period.used + charge_at c.quota (list_of c) is.place ≤ c.quota) (over : key.capacity < pool.pool.live + asked) where
      live : h.pool.live ≡ pool.pool.live
      live = ap (λ (p : PoolShown). p.live) pool_is

      within_now : w.period.used + charge_at c.quota (list_of c) is.place ≤ c.quota
      within_now = subst (λ n. n + charge_at c.quota (list_of c) is.place ≤ c.quota) (sym (ap (λ (p : Period). p.used) (period_was w deque lane top under holder period id_is lane_is at))) within

      over_now : key.capacity < h.pool.live + words_at (list_of c) is.place
      over_now = subst (λ n. key.capacity < n + words_at (list_of c) is.place) (sym live) (subst (λ n. key.capacity < pool.pool.live + n) (sym words) over)

      abbrev found_now : View
      found_now = finding (view_of seat.hand.note) (by_rule (play.arena_full (pos h.pool.live) (words_at (list_of c) is.place)))

      viewed : found_now ≡ view_of note
      viewed = λ i. finding (view_of seat.hand.note) (by_rule (play.arena_full (pos (live i)) (words i)))

      found : RunningState (machine_of c (terms_of key)) (Terms.limits (terms_of key)) h run.0 run.1 run.2 count (slice_set views seat.number found_now)
      found = record {
        stands = run.3.stands;
        crew = full_arenas_go_on (machine_of c (terms_of key)) (some key seat deque may.goes c h count views run its quota of) (whole_is_depth_first c) (Terms.limits (terms_of key)) h
            run.0 run.1 run.2 count views seat.number (view_of seat.hand.note) w is.place (deed_of top next) run.3 (here key seat deque may.goes c h count views run its) may.counting
            (ap (option_map stop_shown) none) (next_of_it c top next w.top (ShowsOwn.top_is (own w deque lane top under holder period id_is lane_is at)) is) takes within_now over_now;
      }

      noted : IsRunning (machine_of c (terms_of key)) (Terms.limits (terms_of key)) (hall_with h deque (three list pool lane)) count (slice_set views seat.number (view_of note))
      noted = (
        run.0,
        run.1,
        run.2,
        subst (λ (z : Hall × View). RunningState (machine_of c (terms_of key)) (Terms.limits (terms_of key)) z.0 run.0 run.1 run.2 count (slice_set views seat.number z.1))
            (λ i. (record { list = list_is i; pool = pool_is i; lanes = sym (same_hall h deque (lane_shown lane) lane_is) i }, viewed i)) found,
      )

    full_arena_goes_on : ∥ IsRunning (machine_of c (terms_of key)) (Terms.limits (terms_of key)) (hall_with h deque (three list pool lane)) count (slice_set views seat.number (view_of note)) ∥₁
    full_arena_goes_on = let at_work = work key seat deque may.goes c h count views run its in
        ∥∥₁_map (too_large c of) (λ done. noted at_work.0 at_work.1 done.0 done.1 done.2 done.3 done.4)

pub full_arenas_may_be_noted : FullArenasMayBeNoted
full_arenas_may_be_noted key seat deque list pool lane next top under holder period asked quota may none at too_large = record {
  on = finds_on seat.hand.note (ArenaFull pool.pool.live asked) none;
  goes_on = full_arena_goes_on key seat deque list pool lane next top under holder period asked quota may none at too_large;
}
