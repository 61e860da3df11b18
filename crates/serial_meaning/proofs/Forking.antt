-- A Fork: the child runs, and its parent waits.
use Rattle.std.proofs.Common.{◌≡◌, ℕ, suc, ◌+◌, false, List, [], ◌∷◌, ◌++◌, take, length, sym, ap, ◌∙◌, subst, arith}
use Rattle.dag_order.specs.Births.{HasLabel}
use Rattle.dag_order.specs.LabelOrder.{fork_of}
use Rattle.dag_order.specs.declared.birth.Birth.{Birth}
use Rattle.dag_order.specs.declared.thread_id.ThreadId.{ThreadId}
use Rattle.depth_first_list.specs.Actions.{Action, forks, record_words}
use Rattle.depth_first_list.specs.Facts.{label_at}
use Rattle.depth_first_list.proofs.ThreadLaws as laws
use Rattle.depth_first_run.specs.States.{Setting}
use Rattle.depth_first_run.specs.Run.{list_of}
use Rattle.node_table.specs.Table.{Table}
use Rattle.thread_points.specs.Points.{Each}
use Rattle.thread_frames.specs.declared.next.Next.TheVariants as nexts
use Rattle.thread_frames.specs.declared.thread.Thread.{Thread}
use Rattle.thread_frames.specs.Actions.{HasForked}
use Rattle.thread_frames.specs.Points.{IsAtPoint}
use Rattle.thread_frames.specs.Views.{Child, children_of, label_of, done_of, forks_of, thread_words}
use Rattle.serial_journal.specs.Journals.{KeepsUp, KeepsLabels, births_of, action_named}
use Rattle.serial_meaning.specs.Stacks.{IsDelivered, IsBornWithin, IsMember, WaitsFor, AreWaiting, Stand, all_words, below}
use Rattle.serial_meaning.specs.Writing.{AreForked, Write}
use Rattle.serial_meaning.specs.declared.run.Run.{Run}
use Rattle.serial_meaning.proofs.Acting.{forked_so, action_so}
use Rattle.serial_meaning.proofs.Lists.{each_more, each_one_more, newest_first}
use Rattle.serial_meaning.proofs.Next.{NextIs, is_depth_first, written}
use Rattle.serial_meaning.proofs.Standing.{waiting_later, waiting_so}

-- what a Fork leaves: the parent, which has forked the child, is the nearest of those that wait
pub record HasGoneDown (before after : Run) (parent : Thread) (id : ThreadId) : Type 0 where
  pub forked : HasForked id before.top parent after.top
  pub parents : after.parents.items ≡ before.parents.items ++ parent ∷ []
  pub labels : KeepsLabels (births_of before.journal) (births_of after.journal)
  pub born : length (births_of after.journal) ≡ suc (length (births_of before.journal))
  pub nth : id.nth ≡ length (births_of before.journal)
  pub named : HasLabel (births_of after.journal ∷ []) id (fork_of (label_of before.top) (forks_of before.top + 1))
  pub done : after.done ≡ before.done + 1
  pub live : after.pool.live + thread_words before.top ≡ before.pool.live + (thread_words parent + thread_words after.top)

below_is : (before after : Run) (parent : Thread) (id : ThreadId) → HasGoneDown before after parent id → below after ≡ parent ∷ below before
below_is before after parent id h = newest_first before.parents.items after.parents.items parent h.parents

pub stand_forked : (t : Table) (k : ℕ) (before after : Run) (parent : Thread) (id : ThreadId) → HasGoneDown before after parent id → IsAtPoint t k parent → IsAtPoint t k after.top
    → Stand t k before → Stand t k after
stand_forked t k before after parent id h at_parent at_child s = record {
  top = record {
    point = at_child;
    named = subst (λ i. HasLabel (more ∷ []) i (label_of after.top)) (sym f.child_id) (subst (λ l. HasLabel (more ∷ []) id l) (sym f.child_label) h.named);
    few = let few = f.child_done in omega (arith, few);
    born = subst (λ xs. Each (IsBornWithin (length more)) xs) (sym f.child_children) tt;
  };
  delivered = subst (λ xs. Each IsDelivered xs) (sym f.child_children) tt;
  stack = subst (λ xs. AreWaiting t k after.done more after.top xs) (sym (below_is before after parent id h)) (its_parent, waits, others);
  live = let words = f.words in let out = h.live in let live = s.live in let rest = ap all_words (below_is before after parent id h) in omega (arith, words, out, live, rest);
}
  where
    f : HasForked id before.top parent after.top
    f = h.forked

    births : List Birth
    births = births_of before.journal

    more : List Birth
    more = births_of after.journal

    child : Child
    child = record { id = id; ordinal = forks_of before.top + 1; func = after.top.func; delivered = false }

    its_parent : IsMember t k after.done more parent
    its_parent =
        let few = s.top.few in let one = f.done in let on = h.done in let count = h.born in let nth = h.nth in
        record {
          point = at_parent;
          named = h.labels parent.id (label_of parent)
              (subst (λ i. HasLabel (births ∷ []) i (label_of parent)) (sym f.same.id) (subst (λ l. HasLabel (births ∷ []) before.top.id l) (sym f.same.label) s.top.named));
          few = omega (arith, few, one, on);
          born = subst (λ xs. Each (IsBornWithin (length more)) xs) (sym f.children)
              (each_one_more (IsBornWithin (length more)) (children_of before.top) child
              (each_more (IsBornWithin (length births)) (IsBornWithin (length more)) (children_of before.top) (λ x at. omega (arith, at, count)) s.top.born) (omega (arith, nth, count)));
        }

    waits : WaitsFor after.top parent
    waits = record {
      older = children_of before.top;
      ordinal = forks_of before.top + 1;
      children = f.children ∙ (λ i. children_of before.top ++ record { id = (sym f.child_id) i; ordinal = forks_of before.top + 1; func = after.top.func; delivered = false } ∷ []);
      labelled = f.child_label ∙ ap (λ l. fork_of l (forks_of before.top + 1)) (sym f.same.label);
      delivered = s.delivered;
      earlier = each_more (IsBornWithin (length births)) (IsBornWithin after.top.id.nth) (children_of before.top)
          (λ x at. let its = ap (λ (y : ThreadId). y.nth) f.child_id in let nth = h.nth in omega (arith, at, its, nth)) s.top.born;
    }

    others : AreWaiting t k after.done more parent (below before)
    others =
        let on = h.done in let count = h.born in
        waiting_so t k after.done more before.top parent (below before) f.same.id f.same.func f.same.label
        (waiting_later t k before.done after.done births more before.top (below before) (omega (arith, on)) h.labels (omega (arith, count)) s.stack)

pub write_forked : (c : Setting) (limit : ℕ) (before after : Run) (parent : Thread) (id : ThreadId) → HasGoneDown before after parent id → Write c limit before
    → NextIs (list_of c) before.done before.top nexts.Fork
    → KeepsUp limit (take before.done (list_of c) ++ action_named (label_of before.top) (done_of before.top) (forks (forks_of before.top + 1)) record_words ∷ []) after.journal
    → Write c limit after
write_forked c limit before after parent id h w is keeps =
    let l : List Action = list_of c in
    let n : ℕ = before.done in
    let f = h.forked in
    let one : forks_of before.top + 1 ≡ suc (forks_of before.top) = omega arith in
    let behind = laws.child_begins_behind_fork c.quota l (is_depth_first c) n (suc (forks_of before.top)) is.inside is.deed in
    let first = f.child_done in let done = h.done in let more = f.done in let index = is.index in
    let child_is : label_of after.top ≡ fork_of (label_of before.top) (suc (forks_of before.top)) = f.child_label ∙ ap (λ m. fork_of (label_of before.top) m) one in
    record {
      keeps = subst (λ m. KeepsUp limit (take m l) after.journal) (sym done)
          (written l n limit _ after.journal is.inside
          (is.action ∙ (λ i. action_named (label_of before.top) (done_of before.top) (forks (sym one i)) (is.words i))) keeps);
      next = action_so l (suc n) after.done (fork_of (label_at l n) (suc (forks_of before.top))) (label_of after.top) 0 (done_of after.top)
          (omega (arith, done)) (child_is ∙ ap (λ m. fork_of m (suc (forks_of before.top))) (sym is.label)) first behind;
      forked = subst (λ xs. AreForked l after.done after.top xs) (sym (below_is before after parent id h)) (
        record {
          place = n;
          child = suc (forks_of before.top);
          before = omega (arith, done);
          by = is.label ∙ sym f.same.label;
          deed = is.deed;
          child_is = child_is ∙ ap (λ m. fork_of m (suc (forks_of before.top))) (sym f.same.label);
          since = omega (arith, more, index);
        },
        forked_so l n after.done before.top parent (below before) (omega (arith, done)) f.same.label w.forked,
      );
    }
