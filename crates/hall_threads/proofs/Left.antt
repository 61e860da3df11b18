-- What is told of what is left of the run of a core.
use Rattle.std.proofs.Common.{◌≡◌, [], pos, length, sym, ap, ◌∙◌, subst, refl}
use Rattle.std.specs.Prelude.{Option, None, Some, count_by}
use Rattle.containers.specs.BoundedList.{entries}
use Rattle.dag_order.specs.Births.{root}
use Rattle.dag_order.specs.declared.finish.Finish.{Finish}
use Rattle.depth_first_run.specs.States.{Setting, State}
use Rattle.depth_first_run.specs.Run.{whole, lines_of}
use Rattle.deque_machine.specs.Play as play
use Rattle.worker_entry.specs.Passed.Cores.{terms_at}
use Rattle.worker_entry.specs.Passed.Parts.{root_behind}
use Rattle.worker_entry.specs.Passed.Core.{Core}
use Rattle.depth_first_list.specs.QuotaWords.{quota_words}
use Rattle.depth_first_list.specs.declared.quota.Quota.{Quota}
use Rattle.node_table.specs.Codes.{code_shown}
use Rattle.node_table.specs.declared.node_table.NodeTable.{NodeTable}
use Rattle.play_rules.specs.declared.ends.RunEnd.{RunEnd}
use Rattle.play_rules.specs.declared.ends.RunEnd.TheVariants.{Finished, Stopped}
use Rattle.play_rules.specs.declared.stop.Stop.{Stop}
use Rattle.play_rules.specs.declared.stop.Stop.TheVariants.{ArenaFull, DequesFull, StepsSpent, OutOfMemory}
use Rattle.run_report.specs.declared.report.Report.{Report}
use Rattle.space_ledger.specs.BooksList.{books_list}
use Rattle.space_ledger.specs.Counts.{is_ahead}
use Rattle.space_ledger.specs.MovesList.{moves_list}
use Rattle.space_ledger.specs.Sums.{highest}
use Rattle.space_ledger.specs.declared.books.Books.{Books}
use Rattle.space_ledger.specs.declared.moves.Moves.{Moves}
use Rattle.thread_frames.specs.Points.{IsResult}
use Rattle.thread_frames.specs.Roots.{end_of_root}
use Rattle.thread_frames.specs.Views.{ended_label}
use Rattle.thread_frames.specs.declared.ended.Ended.{Ended}
use Rattle.thread_map.specs.Kept.{kept_under}
use Rattle.scheduler_state.specs.Passed.Settings.{IsSettingOf}
use Rattle.turn_table.specs.Tables.{key_of}
use Rattle.hall_slots.specs.Closing.{IsClosed}
use Rattle.hall_slots.specs.declared.key.HallKey.{HallKey}
use Rattle.hall_slots.specs.declared.list_slot.ListSlot.{ListSlot}
use Rattle.hall_slots.specs.declared.pool_slot.PoolSlot.{PoolSlot}
use Rattle.hall_slots.specs.Keys.{table_of, quota_of}
use Rattle.worker_entry.specs.declared.closing.Closing.{Closing}
use Rattle.worker_entry.specs.declared.seat.Seat.{Seat}
use Rattle.worker_entry.specs.Closing.{GivesClosing}
use Rattle.hall_threads.specs.Closed.{IsLeftOf}
use Rattle.hall_threads.specs.Reports.{IsReportOf, IsStoppedBy, SomeRun}
use Rattle.hall_threads.proofs.Told.{its_result, no_label, tells_report, tells_stop}

abbrev is_none : Option RunEnd → Type 0
is_none None = Unit {0}
is_none (Some end) = ⊥

module _ (core : Core) (closing : Closing) (left : IsLeftOf core closing) where
  abbrev key : HallKey
  key = key_of left.0.row

  abbrev list : ListSlot
  list = left.4.closes.3

  abbrev pool : PoolSlot
  pool = left.4.closes.4

  -- the seat that closed the hall, once it owned no deque
  abbrev last : Seat
  last = left.4.closes.1

  closed : IsClosed key last.place list pool closing.end
  closed = left.4.closes.5

  gives : GivesClosing list pool closing.end closing
  gives = left.4.closes.6

  table_is : table_of key ≡ code_shown core.code
  table_is = ap (λ (code : NodeTable). code_shown code) left.2.key.code

  quota_is : quota_of key ≡ quota_words core.k
  quota_is = ap (λ (quota : Quota). quota_words quota) left.2.key.quota

  module _ (c : Setting) (of : IsSettingOf (code_shown core.code) (quota_words core.k) c) where
    its_setting : IsSettingOf (table_of key) (quota_of key) c
    its_setting = subst (λ k. IsSettingOf (table_of key) k c) (sym quota_is) (subst (λ t. IsSettingOf t (quota_words core.k) c) (sym table_is) of)

    -- a stop
    pub tells_its_stop : (stop : Stop) → closing.end ≡ Stopped stop → (stop ≡ OutOfMemory → ⊥) → IsStoppedBy c (terms_at core) stop
    tells_its_stop (ArenaFull live asked) is other = subst (λ t. IsStoppedBy c t (ArenaFull live asked)) left.2.key.terms
        (tells_stop key last.place list pool closing.end closed c its_setting (ArenaFull live asked) _ is refl)
    tells_its_stop (DequesFull deques) is other = subst (λ t. IsStoppedBy c t (DequesFull deques)) left.2.key.terms
        (tells_stop key last.place list pool closing.end closed c its_setting (DequesFull deques) _ is refl)
    tells_its_stop (StepsSpent limit) is other = subst (λ t. IsStoppedBy c t (StepsSpent limit)) left.2.key.terms
        (tells_stop key last.place list pool closing.end closed c its_setting (StepsSpent limit) _ is refl)
    tells_its_stop OutOfMemory is other = absurd (other refl)

  -- a finish
  module _ (finish : Finish) (is : closing.end ≡ Finished finish) where
    root_is : closing.root ≡ kept_under list.part.results root
    root_is = gives.root ∙ ap (λ (e : RunEnd). root_behind e (kept_under list.part.results root)) is

    pub some_root : closing.root ≡ None → ⊥
    some_root none = not_none (sym (ap end_of_root (sym root_is ∙ none)) ∙ closed.finished finish is)
      where
        not_none : None ≡ Some (Finished finish) → ⊥
        not_none same = subst is_none same tt

    module _ (ended : Ended) (there : closing.root ≡ Some ended) where
      kept : kept_under list.part.results root ≡ Some ended
      kept = sym root_is ∙ there

      module _ (c : Setting) (of : IsSettingOf (code_shown core.code) (quota_words core.k) c) where
        pub root_result : IsResult (code_shown core.code) (quota_words core.k) ended
        root_result = subst (λ k. IsResult (code_shown core.code) k ended) quota_is (subst (λ t. IsResult t (quota_of key) ended) table_is
            (its_result key last.place list pool closing.end closed c (its_setting c of) ended kept))

        pub root_label : ended_label ended ≡ []
        root_label = no_label key last.place list pool closing.end closed c (its_setting c of) ended kept

        pub tells_its_report : (report : Report) → entries report.lines ≡ lines_of (State.items (whole c)) → report.finish ≡ finish
            → report.periods ≡ length (books_list closing.books) → report.ahead ≡ count_by is_ahead (books_list closing.books)
            → pos report.high ≡ highest (moves_list closing.moves) → SomeRun c (terms_at core) play.finished (λ run last. IsReportOf c run last report)
        tells_its_report report lines finishes periods ahead high =
            subst (λ t. SomeRun c t play.finished (λ run last. IsReportOf c run last report)) left.2.key.terms
            (tells_report key last.place list pool closing.end closed c (its_setting c of) finish is (left.4.rules finish is) ended kept report lines finishes
            (periods ∙ ap (λ (b : Books). length (books_list b)) gives.books)
            (ahead ∙ ap (λ (b : Books). count_by is_ahead (books_list b)) gives.books)
            (high ∙ ap (λ (m : Moves). highest (moves_list m)) gives.moves))
