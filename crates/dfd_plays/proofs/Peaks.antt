-- What is told of a depth-first run is its answer.
use Rattle.std.proofs.Common.{◌≡◌, ℕ, ℤ, ◌≤◌, List, length, Option, Some, None, ap, sym, ◌∙◌, refl, subst}
use Rattle.std.proofs.lemmas.Slice.Zip.{AllZip-long}
use Rattle.command_line.specs.Arguments.{InRange}
use Rattle.command_line.specs.declared.command_kind.CommandKind.{CommandKind}
use Rattle.command_line.specs.declared.setting.Setting.TheVariants.{Quota as QuotaSetting}
use Rattle.dag_order.specs.declared.birth.Birth.{Birth}
use Rattle.dag_order.specs.declared.fault.FaultAt.{FaultAt}
use Rattle.dag_order.specs.declared.finish.Finish.{Finish}
use Rattle.depth_first_list.specs.Quotas.{IsQuota}
use Rattle.depth_first_run.specs.States.{Item}
use Rattle.depth_first_run.specs.Run.{actions_of, first_fault, lines_of, finish_of}
use Rattle.serial_journal.specs.Telling.{Told, ShowsAction}
use Rattle.serial_journal.specs.declared.action.Action.{Action as Shown}
use Rattle.run_report.specs.Texts.{peak_text}
use Rattle.par_ownership.specs.Ownership.{Ownership}
use Rattle.par_ownership.proofs.Law.{tells_program}
use Rattle.par_text.specs.Judging.{IsText}
use Rattle.par_tree.specs.Tree.{Program}
use Rattle.dfd_plays.specs.Sources.{SourceGives}
use Rattle.dfd_plays.specs.Peak.{RunText, ItemsMake, PeakMakes, finish_status}
use Rattle.dfd_plays.specs.declared.status.Status.{Status}
use Rattle.dfd_plays.specs.declared.status.Status.TheVariants.{Syntax, Check}

run_text :
    (items : List Item) (finish : Finish) (output : List ℤ) (actions : List Shown) (births : List Birth) (high : ℕ) →
    Told items finish output actions births high → RunText items (peak_text output finish (length actions) high)
run_text items finish output actions births high told =
    let long : length actions ≡ length (actions_of items) = AllZip-long (ShowsAction births) (actions_of items) actions told.actions_are in (
      high,
      (
        told.peak_is,
        ap (λ (l : List ℤ). peak_text l finish (length actions) high) told.output_is
            ∙ ap (λ (f : Finish). peak_text (lines_of items) f (length actions) high) told.finish_is
            ∙ ap (λ (n : ℕ). peak_text (lines_of items) (finish_of (first_fault items)) n high) long,
      ),
    )

run_makes :
    (items : List Item) (limit : ℕ) (finish : Finish) (output : List ℤ) (actions : List Shown) (births : List Birth) (high : ℕ) →
    Told items finish output actions births high → length (actions_of items) ≤ limit →
    ItemsMake items limit (finish_status finish) (peak_text output finish (length actions) high)
run_makes items limit finish output actions births high told within =
    subst (λ (f : Finish). ItemsMake items limit (finish_status f) (peak_text output finish (length actions) high))
    (sym told.finish_is) (by_fault (first_fault items) refl)
  where
    text : RunText items (peak_text output finish (length actions) high)
    text = run_text items finish output actions births high told

    by_fault : (o : Option FaultAt) → first_fault items ≡ o →
        ItemsMake items limit (finish_status (finish_of (first_fault items))) (peak_text output finish (length actions) high)
    by_fault None e =
        subst (λ (o : Option FaultAt). ItemsMake items limit (finish_status (finish_of o)) (peak_text output finish (length actions) high))
        (sym e) (within, (e, text))
    by_fault (Some fault) e =
        subst (λ (o : Option FaultAt). ItemsMake items limit (finish_status (finish_of o)) (peak_text output finish (length actions) high))
        (sym e) (within, ((fault, e), text))

-- the answer is made of what is told
pub run_answers :
    (items : List Item) (limit : ℕ) (finish : Finish) (output : List ℤ) (actions : List Shown) (births : List Birth) (high count : ℕ)
    (status : Status) (text : List ℕ) →
    Told items finish output actions births high → length (actions_of items) ≤ limit → status ≡ finish_status finish →
    count ≡ length actions → text ≡ peak_text output finish count high → ItemsMake items limit status text
run_answers items limit finish output actions births high count status text told within is_status is_count is_text =
    subst (λ (s : Status). ItemsMake items limit s text) (sym is_status)
    (subst (λ (t : List ℕ). ItemsMake items limit (finish_status finish) t)
    (sym (is_text ∙ ap (λ (n : ℕ). peak_text output finish n high) is_count))
    (run_makes items limit finish output actions births high told within))

-- what is made of the program of the bytes is made of the bytes
pub source_of_peak : (k limit : ℕ) (bytes : List ℕ) (p : Program) (status : Status) (text : List ℕ) → IsText bytes p → Ownership p →
    PeakMakes k limit p status text → SourceGives (PeakMakes k limit) bytes status text
source_of_peak k limit bytes p Syntax text is own makes = absurd makes
source_of_peak k limit bytes p Check text is own makes = absurd makes
source_of_peak k limit bytes p status text is own makes = (p, (is, ((tells_program p).complete own, makes)))

-- the number of the option `--k` is a quota
pub quota_of_range : (kind : CommandKind) (k : ℕ) → InRange kind QuotaSetting k → IsQuota k
quota_of_range kind k range = (range.2, range.0, range.1)
