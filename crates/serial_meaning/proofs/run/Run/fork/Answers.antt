use Rattle.std.proofs.Common.{◌≡◌, suc, length, ◌+◌, ◌∷◌, [], ◌++◌, ◌∙◌, sym, ap, subst, take, arith}
use Rattle.dag_order.specs.Births.{HasLabel}
use Rattle.dag_order.specs.LabelOrder.{fork_of}
use Rattle.depth_first_list.specs.Actions.{forks, record_words}
use Rattle.depth_first_run.specs.Run.{list_of}
use Rattle.serial_journal.specs.Journals.{KeepsUp, KeepsLabels, births_of, action_named}
use Rattle.serial_journal.specs.declared.journal.Journal.{Journal}
use Rattle.thread_frames.specs.declared.thread.Thread.{Thread}
use Rattle.thread_frames.specs.Actions.{HasForked}
use Rattle.thread_frames.specs.Points.{IsAtPoint, IsPlaced}
use Rattle.thread_frames.specs.Views.{label_of, done_of, forks_of, thread_words}
use Rattle.thread_frames.proofs.Placed.{placed_of}
use Rattle.serial_meaning.proofs.Forking.{stand_forked, write_forked}
use Rattle.serial_meaning.proofs.Next.{next_is, never_stops, stopped_so}
use Rattle.serial_meaning.proofs.run.Run.fork.Goals as goal

pub fork_child-child-requires-clause-placed : goal.fork_child-child-requires-clause-placed
fork_child-child-requires-clause-placed c =
    let r = c.requires.stand in let was = c.get_mut.ensures.value ∙ c.room_for_child.ensures.top in
    subst IsPlaced (sym was) (placed_of r.0 r.1 c.args.self.now.top r.2.top.point)

pub fork_child-child-requires-clause-count : goal.fork_child-child-requires-clause-count
fork_child-child-requires-clause-count c =
    let few = c.requires.stand.2.top.few in let count = c.requires.count in let same = ap done_of (c.get_mut.ensures.value ∙ c.room_for_child.ensures.top) in omega (arith, few, count, same)

pub returns-clause-stand : goal.returns-clause-stand
returns-clause-stand c = λ t k s.
    let before = c.args.self.now in
    let was = c.get_mut.ensures.value ∙ c.room_for_child.ensures.top in
    let child : c.replace-parent.new.dest ≡ c.fork_child-child.result = c.replace-parent.ensures.after in
    let parent : c.replace-parent.result ≡ c.fork_child-child.new.thread = c.replace-parent.ensures.value in
    let births = ap births_of c.room_for_child.ensures.journal in
    let at = c.fork_child-child.ensures.point t k (subst (λ (x : Thread). IsAtPoint t k x) (sym was) s.top.point) in
    let ordinal : c.forks-ordinal.result ≡ forks_of before.top = c.forks-ordinal.ensures.value ∙ ap forks_of (c.get.ensures ∙ c.room_for_child.ensures.top) in
    let by = c.name_of-name.ensures.by ∙ ap (λ (x : Thread). x.id) c.room_for_child.ensures.top in
    let named : HasLabel (births_of c.room_for_child.new.self.journal ∷ []) c.name_of-name.result.by (label_of before.top) =
    subst (λ bs. HasLabel (bs ∷ []) c.name_of-name.result.by (label_of before.top)) (sym births) (subst (λ i. HasLabel (births_of before.journal ∷ []) i (label_of before.top)) (sym by) s.top.named) in
    let words = c.fork_child-child.ensures.words in let all = ap thread_words was in let live = c.room_for_child.ensures.live in
    let its = ap thread_words child in let kept_words = ap thread_words parent in
    let live_now : c.fork_child-child.new.pool.live + thread_words before.top ≡ before.pool.live + (thread_words c.replace-parent.result + thread_words c.replace-parent.new.dest) = omega (arith, words, all, live, its, kept_words) in
    stand_forked t k before _ c.replace-parent.result c.in_ok-id.id
    (record {
      forked = subst (λ (x : Thread). HasForked c.in_ok-id.id before.top x c.replace-parent.new.dest) (sym parent) (subst (λ (x : Thread). HasForked c.in_ok-id.id before.top c.fork_child-child.new.thread x) (sym child)
          (subst (λ (x : Thread). HasForked c.in_ok-id.id x c.fork_child-child.new.thread c.fork_child-child.result) was c.fork_child-child.ensures.forked));
      parents = c.push_reserved.ensures.items ∙ ap (λ xs. xs ++ c.replace-parent.result ∷ []) c.room_for_child.ensures.parents;
      labels = subst (λ bs. KeepsLabels bs (births_of c.fork.new.self)) births c.fork.ensures.labels;
      born = let more = c.in_ok-id.ensures.more in more ∙ ap (λ bs. suc (length bs)) births;
      nth = c.in_ok-id.ensures.nth ∙ ap (λ bs. length bs) births;
      named = subst (λ n. HasLabel (births_of c.fork.new.self ∷ []) c.in_ok-id.id (fork_of (label_of before.top) (n + 1))) ordinal (c.in_ok-id.ensures.child (label_of before.top) named);
      done = ap (λ n. n + 1) c.room_for_child.ensures.done;
      live = live_now;
    }) (subst (λ (x : Thread). IsAtPoint t k x) (sym parent) at.0) (subst (λ (x : Thread). IsAtPoint t k x) (sym child) at.1) s

pub returns-in_err-id-clause-never : goal.returns-in_err-id-clause-never
returns-in_err-id-clause-never c = λ limit t k setting s w less.
    let before = c.args.self.now in
    let l = list_of setting in
    let inside = w.next.0 in
    let births = ap births_of c.room_for_child.ensures.journal in
    let by = c.name_of-name.ensures.by ∙ ap (λ (x : Thread). x.id) c.room_for_child.ensures.top in
    let named : HasLabel (births_of c.room_for_child.new.self.journal ∷ []) c.name_of-name.result.by (label_of before.top) =
    subst (λ bs. HasLabel (bs ∷ []) c.name_of-name.result.by (label_of before.top)) (sym births) (subst (λ i. HasLabel (births_of before.journal ∷ []) i (label_of before.top)) (sym by) s.top.named) in
    let keeps = subst (λ (j : Journal). KeepsUp limit (take before.done l) j) (sym c.room_for_child.ensures.journal) w.keeps in
    stopped_so c.from_residual-in_err-id.result c.in_err-id.field-0.0 c.from_residual-in_err-id.ensures.1
    (never_stops l before.done limit c.in_err-id.field-0.0 (omega (arith, inside)) less (c.in_err-id.ensures.keeps_up limit (take before.done l) (label_of before.top) keeps named))

pub returns-clause-write : goal.returns-clause-write
returns-clause-write c = λ limit t k setting of s told w less.
    let before = c.args.self.now in
    let l = list_of setting in
    let was = c.get_mut.ensures.value ∙ c.room_for_child.ensures.top in
    let child : c.replace-parent.new.dest ≡ c.fork_child-child.result = c.replace-parent.ensures.after in
    let parent : c.replace-parent.result ≡ c.fork_child-child.new.thread = c.replace-parent.ensures.value in
    let births = ap births_of c.room_for_child.ensures.journal in
    let at = c.fork_child-child.ensures.point t k (subst (λ (x : Thread). IsAtPoint t k x) (sym was) s.top.point) in
    let ordinal : c.forks-ordinal.result ≡ forks_of before.top = c.forks-ordinal.ensures.value ∙ ap forks_of (c.get.ensures ∙ c.room_for_child.ensures.top) in
    let by = c.name_of-name.ensures.by ∙ ap (λ (x : Thread). x.id) c.room_for_child.ensures.top in
    let named : HasLabel (births_of c.room_for_child.new.self.journal ∷ []) c.name_of-name.result.by (label_of before.top) =
    subst (λ bs. HasLabel (bs ∷ []) c.name_of-name.result.by (label_of before.top)) (sym births) (subst (λ i. HasLabel (births_of before.journal ∷ []) i (label_of before.top)) (sym by) s.top.named) in
    let words = c.fork_child-child.ensures.words in let all = ap thread_words was in let live = c.room_for_child.ensures.live in
    let its = ap thread_words child in let kept_words = ap thread_words parent in
    let live_now : c.fork_child-child.new.pool.live + thread_words before.top ≡ before.pool.live + (thread_words c.replace-parent.result + thread_words c.replace-parent.new.dest) = omega (arith, words, all, live, its, kept_words) in
    let is = next_is setting before.done before.top _ w.next told in
    let keeps = subst (λ (j : Journal). KeepsUp limit (take before.done l) j) (sym c.room_for_child.ensures.journal) w.keeps in
    let kept = (c.in_ok-id.ensures.keeps_up limit (take before.done l) (label_of before.top) keeps named).0 in
    let index = c.name_of-name.ensures.index ∙ ap done_of c.room_for_child.ensures.top in
    write_forked setting limit before _ c.replace-parent.result c.in_ok-id.id
    (record {
      forked = subst (λ (x : Thread). HasForked c.in_ok-id.id before.top x c.replace-parent.new.dest) (sym parent) (subst (λ (x : Thread). HasForked c.in_ok-id.id before.top c.fork_child-child.new.thread x) (sym child)
          (subst (λ (x : Thread). HasForked c.in_ok-id.id x c.fork_child-child.new.thread c.fork_child-child.result) was c.fork_child-child.ensures.forked));
      parents = c.push_reserved.ensures.items ∙ ap (λ xs. xs ++ c.replace-parent.result ∷ []) c.room_for_child.ensures.parents;
      labels = subst (λ bs. KeepsLabels bs (births_of c.fork.new.self)) births c.fork.ensures.labels;
      born = let more = c.in_ok-id.ensures.more in more ∙ ap (λ bs. suc (length bs)) births;
      nth = c.in_ok-id.ensures.nth ∙ ap (λ bs. length bs) births;
      named = subst (λ n. HasLabel (births_of c.fork.new.self ∷ []) c.in_ok-id.id (fork_of (label_of before.top) (n + 1))) ordinal (c.in_ok-id.ensures.child (label_of before.top) named);
      done = ap (λ n. n + 1) c.room_for_child.ensures.done;
      live = live_now;
    }) w is
    (subst (λ i. KeepsUp limit (take before.done l ++ action_named (label_of before.top) i (forks (forks_of before.top + 1)) record_words ∷ []) c.fork.new.self) index
    (subst (λ n. KeepsUp limit (take before.done l ++ action_named (label_of before.top) c.name_of-name.result.index (forks (n + 1)) record_words ∷ []) c.fork.new.self) ordinal kept))
