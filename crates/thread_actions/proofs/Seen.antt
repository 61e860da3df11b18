-- What is said of a thread that is seen on the heap is said of the thread.
use Rattle.std.proofs.Common.{◌≡◌, ◌+◌, sym, ◌∙◌, ap, subst}
use Rattle.dag_order.specs.declared.action_id.ActionId.{ActionId}
use Rattle.thread_points.specs.Passed.States.{Setting}
use Rattle.list_changes.specs.Events.{DidEnd}
use Rattle.thread_frames.specs.Shown.{thread_shown, result_shown}
use Rattle.thread_points.specs.Points.{words_at_end}
use Rattle.thread_points.specs.Passed.Run.{list_of}
use Rattle.thread_frames.specs.Actions.{IsOfTheList}
use Rattle.thread_frames.specs.Points.{IsAtPoint, IsPlaced}
use Rattle.thread_frames.specs.Views.{done_of, label_of, thread_words, ended_label, ended_words}
use Rattle.thread_frames.specs.declared.ended.Ended.{Ended}
use Rattle.thread_frames.specs.declared.next.Next.TheVariants as nexts
use Rattle.thread_frames.specs.declared.thread.Thread.{Thread}
use Rattle.thread_actions.specs.Acts.{StaysAtPoint}
use Rattle.thread_actions.proofs.Acting.{end_did}

pub placed_seen : (seen top : Thread) → seen ≡ top → IsPlaced top → IsPlaced seen
placed_seen seen top same placed = subst (λ (x : Thread). IsPlaced x) (sym same) placed

pub stays_seen : (seen top after : Thread) → seen ≡ top → StaysAtPoint seen after → StaysAtPoint top after
stays_seen seen top after same stays t k at = stays t k (subst (λ (x : Thread). IsAtPoint t k x) (sym same) at)

pub end_seen : (c : Setting) (seen top : Thread) → seen ≡ top → (ended : Ended) (name : ActionId) → name.by ≡ top.id → name.index ≡ done_of top
    → ended.id ≡ seen.id → ended.func ≡ seen.func → ended_label ended ≡ label_of seen
    → ended_words ended + words_at_end (label_of seen) ≡ thread_words seen → (is : IsOfTheList c top nexts.End)
    → DidEnd (list_of c) (thread_shown top) name is.place (result_shown ended)
end_seen c seen top same ended name by index id func label words is =
    end_did c top ended name by index (id ∙ ap (λ (x : Thread). x.id) same) (func ∙ ap (λ (x : Thread). x.func) same) (label ∙ ap label_of same)
    (subst (λ (x : Thread). ended_words ended + words_at_end (label_of x) ≡ thread_words x) same words) is
