-- What a closed hall gives is told of one run.
use Rattle.std.proofs.Common.{◌≡◌, ◌≢◌, pos, false, List, [], ◌++◌, map, length, sym, ap, ◌∙◌, subst, append-nil}
use Rattle.std.proofs.Math.Logic.{∥∥₁_elim, ∥∥₁_map}
use Rattle.std.specs.Option.{option_map}
use Rattle.std.specs.Prelude.{Option, None, Some, Result, Ok, Err, OnErr, count_by}
use denote.Struct.Props.{props}
use Rattle.containers.specs.BoundedList.{entries}
use Rattle.scheduler_state.proofs.Lists.{among_mapped}
use Rattle.dag_order.specs.Births.{root}
use Rattle.dag_order.specs.declared.finish.Finish.{Finish}
use Rattle.dag_order.specs.declared.thread_id.ThreadId.{ThreadId}
use Rattle.depth_first_run.specs.States.{Setting, State}
use Rattle.depth_first_run.specs.Run.{whole, first_fault, list_of, lines_of, finish_of, finish_of_run}
use Rattle.deque_list.specs.declared.place.Place.{Place}
use Rattle.deque_machine.specs.Moments.{Moment}
use Rattle.deque_machine.specs.Play as play
use Rattle.deque_machine.specs.Play.{Ending, finished, stopped}
use Rattle.deque_machine.specs.Runs.{high_water_mark}
use Rattle.deque_machine.specs.Terms.{Terms, machine_of}
use Rattle.deque_machine.specs.Books.{periods_marked}
use Rattle.deque_machine.specs.Lists.{Among}
use Rattle.deque_machine.proofs.Lists.{each_among}
use Rattle.thread_frames.specs.Passed.Parts as parts
use Rattle.hall_slots.specs.Passed.Names.{HasLabel, of_root}
use Rattle.hall_slots.proofs.Passed.OpenPeriodsLabels.{one_label}
use Rattle.hall_slots.specs.Passed.Periods.{closed_shown}
use Rattle.hall_slots.specs.Passed.Telling.{Tell}
use Rattle.hall_slots.specs.Passed.OpenPeriodsNumbers.{NumbersDiffer}
use Rattle.play_rules.specs.declared.ends.RunEnd.{RunEnd}
use Rattle.play_rules.specs.declared.ends.RunEnd.TheVariants.{Finished, Stopped}
use Rattle.play_rules.specs.declared.stop.Stop.{Stop}
use Rattle.run_report.specs.declared.report.Report.{Report}
use Rattle.space_ledger.specs.BooksList.{books_list}
use Rattle.space_ledger.specs.Counts.{is_ahead}
use Rattle.space_ledger.specs.MovesList.{moves_list}
use Rattle.space_ledger.specs.Sums.{highest}
use Rattle.thread_frames.specs.Kept.{result_kept, IsUnderItsId}
use Rattle.thread_frames.specs.Points.{IsResult}
use Rattle.thread_frames.specs.Roots.{end_of_root}
use Rattle.thread_frames.specs.Views.{ended_label}
use Rattle.thread_frames.specs.declared.ended.Ended.{Ended}
use Rattle.thread_frames.proofs.Found.{found_among}
use Rattle.thread_frames.proofs.Sets.{fault_set}
use Rattle.thread_frames.proofs.Telling.{whole_told}
use Rattle.thread_map.specs.Kept.{kept_under}
use Rattle.thread_frames.specs.Passed.Telling.{fault_of}
use Rattle.scheduler_state.specs.Passed.Settings.{IsSettingOf}
use Rattle.hall_machine.specs.Crew.{MayBeKept}
use Rattle.hall_machine.specs.Steps.{run_of}
use Rattle.hall_machine.specs.Values.{Hall, ListShown, LaneShown, PoolShown, End, by_rule, running}
use Rattle.hall_slots.specs.Closing.{IsClosed, IsOfOneRun, seen_note}
use Rattle.hall_slots.specs.declared.key.HallKey.{HallKey}
use Rattle.hall_slots.specs.declared.list_slot.ListSlot.{ListSlot}
use Rattle.hall_slots.specs.declared.pool_slot.PoolSlot.{PoolSlot}
use Rattle.hall_slots.specs.Keys.{table_of, quota_of, terms_of}
use Rattle.hall_slots.specs.Shown.{end_shown, stop_shown}
use Rattle.hall_slots.specs.Takes.{HallSeat}
use Rattle.hall_threads.specs.Reports.{IsReportOf, SomeRun}
use Rattle.hall_machine.specs.Runs.{IsThreadRun}
use Rattle.hall_threads.proofs.Causes.{caused}
use Rattle.hall_threads.proofs.Counted.{all_counted, marked_counted}
use Rattle.hall_threads.proofs.High.{high_is}

-- a run has not both finished and been stopped
abbrev is_finished : Ending → Type 0
is_finished finished = Unit {0}
is_finished (stopped stop) = ⊥

pub not_stopped : (stop : play.Stop) → finished ≢ stopped stop
not_stopped stop is = subst is_finished is tt

pub not_finished : (stop : play.Stop) → stopped stop ≢ finished
not_finished stop is = subst is_finished (sym is) tt

abbrev stop_in : play.Stop → Ending → play.Stop
stop_in other finished = other
stop_in other (stopped stop) = stop

-- the running periods of no places
none_run : (lanes : List LaneShown) (places : List Place) → places ≡ [] → running lanes places ≡ []
none_run lanes places none = ap (running lanes) none

module _ (key : HallKey) (seat : HallSeat) (list : ListSlot) (pool : PoolSlot) (end : RunEnd) (closed : IsClosed key seat list pool end) (c : Setting)
    (of : IsSettingOf (table_of key) (quota_of key) c) where
  module _ (r : IsOfOneRun c key seat.number (seen_note seat.hand.note (Some end)) list pool end) where
    kept_there : ListShown.kept (Hall.list r.h) ≡ Some (end_shown end)
    kept_there = ap (λ (l : ListShown). l.kept) r.list_is ∙ ap (option_map end_shown) closed.kept

    closed_are : ListShown.closed (Hall.list r.h) ≡ map closed_shown (books_list list.part.books)
    closed_are = ap (λ (l : ListShown). l.closed) r.list_is

    tell : Tell c.quota (list_of c) (map closed_shown (books_list list.part.books)) (Moment.books r.moment)
    tell = subst (λ ps. Tell c.quota (list_of c) ps (Moment.books r.moment)) closed_are r.gives.books

    -- a run that was stopped
    pub stopped_run : (stop : Stop) (rule : play.Stop) → end ≡ Stopped stop → stop_shown stop ≡ by_rule rule
        → IsThreadRun (machine_of c (terms_of key)) (Terms.limits (terms_of key)) (run_of r.steps) r.moment (stopped rule)
    stopped_run stop rule is rule_is = record {
      reaches = r.gives.reaches;
      ended = λ same. absurd (not_finished rule same);
      none_free = λ same. absurd (not_finished rule same);
      stopped_by = λ other same. caused (machine_of c (terms_of key)) (Terms.limits (terms_of key)) r.steps r.moment r.leads other
          (r.gives.stopped_by (by_rule other) (ap end_shown is ∙ ap Rattle.hall_machine.specs.Values.stopped (rule_is ∙ ap by_rule (ap (stop_in rule) same))));
    }

    -- one that has finished
    module _ (finish : Finish) (is : end ≡ Finished finish) where
      may_be : MayBeKept (machine_of c (terms_of key)) (Terms.limits (terms_of key)) r.steps r.moment r.leads (ListShown.places (Hall.list r.h)) (end_shown (Finished finish))
      may_be = r.state.crew.kept (end_shown (Finished finish)) (kept_there ∙ ap (λ (e : RunEnd). Some (end_shown e)) is)

      pub finished_run : seat.hand.note.yielded ≡ false
          → IsThreadRun (machine_of c (terms_of key)) (Terms.limits (terms_of key)) (run_of r.steps) r.moment finished
      finished_run rules = let none = r.gives.none_free (r.unyielded rules) in record {
        reaches = none.0;
        ended = λ same. may_be.0;
        none_free = λ same. none.1;
        stopped_by = λ stop same. absurd (not_stopped stop same);
      }

      differ : NumbersDiffer (map closed_shown (books_list list.part.books))
      differ = subst NumbersDiffer (ap (λ rs. ListShown.closed (Hall.list r.h) ++ rs) (none_run (Hall.lanes r.h) (ListShown.places (Hall.list r.h)) may_be.1)
          ∙ append-nil (ListShown.closed (Hall.list r.h)) ∙ closed_are) r.state.stands.shape.numbers

      pub periods_are : length (books_list list.part.books) ≡ length (Moment.books r.moment)
      periods_are = all_counted c.quota (list_of c) (books_list list.part.books) (Moment.books r.moment) tell differ

      pub marked_are : count_by is_ahead (books_list list.part.books) ≡ periods_marked (Moment.books r.moment)
      marked_are = marked_counted c.quota (list_of c) (books_list list.part.books) (Moment.books r.moment) tell differ

    pub high_are : highest (moves_list pool.moves) ≡ high_water_mark (list_of c) (run_of r.steps)
    high_are = ap highest (sym (ap (λ (p : PoolShown). p.moves) r.pool_is))
        ∙ high_is (list_of c) (run_of r.steps) (ListShown.closed (Hall.list r.h)) (PoolShown.moves (Hall.pool r.h)) r.gives.moved

    -- the root's result has no label
    module _ (ended : Ended) (is : kept_under list.part.results root ≡ Some ended) where
      there : Among {X = ThreadId × Ended} (root, ended) list.part.results.entries
      there = found_among root list.part.results.entries ended is

      shown_there : Among (result_kept (root, ended)) (ListShown.results (Hall.list r.h))
      shown_there = subst (Among (result_kept (root, ended))) (sym (ap (λ (l : ListShown). l.results) r.list_is))
          (among_mapped result_kept (root, ended) list.part.results.entries there)

      pub unlabelled : ended_label ended ≡ []
      unlabelled = one_label c.quota (list_of c) (parts.Parts.periods (Rattle.hall_machine.specs.Values.parts_of r.h)) (Moment.books r.moment) root (ended_label ended) []
          r.state.stands.standing.shows.books
          (subst (λ who. HasLabel (parts.Parts.periods (Rattle.hall_machine.specs.Values.parts_of r.h)) who (ended_label ended))
          (each_among IsUnderItsId (root, ended) list.part.results.entries closed.list_sound.under_ids there)
          (r.state.stands.standing.shows.results (result_kept (root, ended)) shown_there).labelled) of_root

  module _ (ended : Ended) (is : kept_under list.part.results root ≡ Some ended) where
    pub no_label : ended_label ended ≡ []
    no_label = ∥∥₁_elim (closed.run c of) (search props) (λ r. unlabelled r ended is)

    pub its_result : IsResult (table_of key) (quota_of key) ended
    its_result = each_among (λ entry. IsResult (table_of key) (quota_of key) entry.1) (root, ended) list.part.results.entries closed.list_sound.results
        (found_among root list.part.results.entries ended is)

    its_fault : fault_of ended.told ≡ first_fault (State.items (whole c))
    its_fault = ∥∥₁_elim (its_result.at c of) (fault_set _ _) (λ e. (whole_told c (table_of key) ended e no_label).fault)

    pub finish_is : (finish : Finish) → end ≡ Finished finish → finish ≡ finish_of_run c
    finish_is finish finishes = same_finish finish (finish_of (fault_of ended.told))
        (sym (closed.finished finish finishes) ∙ ap end_of_root is) ∙ ap finish_of its_fault
      where
        finish_in : Option RunEnd → Finish → Finish
        finish_in None other = other
        finish_in (Some (Finished found)) other = found
        finish_in (Some (Stopped stop)) other = other

        same_finish : (a b : Finish) → Some (Finished a) ≡ Some (Finished b) → a ≡ b
        same_finish a b same = ap (λ e. finish_in e a) same

  -- the stop is told of some run
  pub tells_stop : (stop : Stop) (rule : play.Stop) → end ≡ Stopped stop → stop_shown stop ≡ by_rule rule
      → SomeRun c (terms_of key) (stopped rule) (λ run last. Unit {0})
  tells_stop stop rule is rule_is = ∥∥₁_map (closed.run c of) (λ r. (run_of r.steps, r.moment, stopped_run r stop rule is rule_is, tt))

  -- and so is the report
  module _ (finish : Finish) (is : end ≡ Finished finish) (rules : seat.hand.note.yielded ≡ false) (ended : Ended)
      (kept : kept_under list.part.results root ≡ Some ended) where
    pub tells_report : (report : Report) → entries report.lines ≡ lines_of (State.items (whole c)) → report.finish ≡ finish
        → report.periods ≡ length (books_list list.part.books) → report.ahead ≡ count_by is_ahead (books_list list.part.books)
        → pos report.high ≡ highest (moves_list pool.moves) → SomeRun c (terms_of key) finished (λ run last. IsReportOf c run last report)
    tells_report report lines finishes periods ahead high = ∥∥₁_map (closed.run c of) (λ r. (
      run_of r.steps,
      r.moment,
      finished_run r finish is rules,
      record {
        lines = lines;
        finish = finishes ∙ finish_is ended kept finish is;
        periods = periods ∙ periods_are r finish is;
        ahead = ahead ∙ marked_are r finish is;
        high = high ∙ high_are r;
      },
    ))

-- what holds in any case holds of a call that failed
pub on_err : {T E P : Type 0} (r : Result T E) → P → OnErr r P
on_err (Ok x) holds = tt
on_err (Err e) holds = holds
