use Rattle.std.proofs.Common.{◌≡◌, ◌∷◌, [], ◌++◌, ◌∙◌, refl, sym, ap, subst, take, arith}
use Rattle.block_arena.specs.Region.{Region}
use Rattle.dag_order.specs.Births.{HasLabel}
use Rattle.depth_first_list.specs.Actions.{ends}
use Rattle.depth_first_run.specs.Run.{list_of}
use Rattle.serial_journal.specs.Journals.{KeepsUp, births_of, action_named}
use Rattle.thread_frames.specs.declared.thread.Thread.{Thread}
use Rattle.thread_frames.specs.Points.{IsAtPoint, IsPlaced}
use Rattle.thread_frames.specs.Views.{label_of, done_of, thread_words}
use Rattle.thread_run.specs.Passed.Points.{words_at_end}
use Rattle.thread_frames.proofs.Bounds.{end_within}
use Rattle.thread_frames.proofs.Placed.{placed_of}
use Rattle.serial_meaning.proofs.Next.{never_stops, stopped_so}
use Rattle.serial_meaning.proofs.run.Run.end_top.Goals as goal

pub end-ended-requires-clause-placed : goal.end-ended-requires-clause-placed
end-ended-requires-clause-placed c =
    let r = c.requires.stand in subst IsPlaced (sym c.get_mut.ensures.value) (placed_of r.0 r.1 c.args.self.now.top r.2.top.point)

pub end-ended-requires-clause-count : goal.end-ended-requires-clause-count
end-ended-requires-clause-count c =
    let few = c.requires.stand.2.top.few in let count = c.requires.count in let same = ap done_of c.get_mut.ensures.value in omega (arith, few, count, same)

pub give_record-requires : goal.give_record-requires
give_record-requires c =
    let r = c.requires.stand in
    let record_is = c.end-ended.ensures.record in let label = ap (λ (x : Thread). words_at_end (label_of x)) c.get_mut.ensures.value in
    let within = end_within c.args.self.now.top (placed_of r.0 r.1 c.args.self.now.top r.2.top.point) in let live = r.2.live in
    omega (arith, record_is, label, within, live)

pub returns-clause-ended : goal.returns-clause-ended
returns-clause-ended c = λ t k s.
    let top = c.args.self.now.top in
    let was = c.get_mut.ensures.value in
    let words = c.end-ended.ensures.words in let record_is = c.end-ended.ensures.record in
    let label = ap (λ (x : Thread). words_at_end (label_of x)) was in let all = ap thread_words was in let live = s.live in
    let pool = ap (λ (r : Region). r.live) c.give_record.ensures in
    record {
      result = c.end-ended.ensures.result t k (subst (IsAtPoint t k) (sym was) s.top.point);
      id = c.end-ended.ensures.id ∙ ap (λ (x : Thread). x.id) was;
      func = c.end-ended.ensures.func ∙ ap (λ (x : Thread). x.func) was;
      labelled = c.end-ended.ensures.label ∙ ap label_of was;
      parents = refl;
      births = c.act.ensures.births;
      done = refl;
      room = omega (arith, c.in_ok-reserve.ensures);
      live = omega (arith, words, record_is, label, all, live, pool);
      written = λ limit items keeps.
          let named = subst (λ i. HasLabel (births_of c.args.self.now.journal ∷ []) i (label_of top)) (sym c.name_of-name.ensures.by) s.top.named in
          let kept = c.in_ok-act.ensures.keeps_up limit items (label_of top) ends keeps named refl tt in
          let told : c.words_of.result ≡ words_at_end (label_of top) = c.words_of.ensures ∙ record_is ∙ label in
          subst (λ i. KeepsUp limit (items ++ action_named (label_of top) i ends (words_at_end (label_of top)) ∷ []) c.act.new.self) c.name_of-name.ensures.index
          (subst (λ n. KeepsUp limit (items ++ action_named (label_of top) c.name_of-name.result.index ends n ∷ []) c.act.new.self) told kept);
    }

pub returns-in_err-act-clause-never : goal.returns-in_err-act-clause-never
returns-in_err-act-clause-never c = λ limit t k setting s w less.
    let before = c.args.self.now in
    let l = list_of setting in
    let inside = w.next.0 in
    let named = subst (λ i. HasLabel (births_of before.journal ∷ []) i (label_of before.top)) (sym c.name_of-name.ensures.by) s.top.named in
    stopped_so c.from_residual-in_err-act.result c.in_err-act.field-0.0 c.from_residual-in_err-act.ensures.1
    (never_stops l before.done limit c.in_err-act.field-0.0 (omega (arith, inside)) less (c.in_err-act.ensures.keeps_up limit (take before.done l) (label_of before.top) ends w.keeps named refl tt))
