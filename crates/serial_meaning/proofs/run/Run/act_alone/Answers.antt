use Rattle.std.proofs.Common.{◌≡◌, ◌∷◌, [], ◌∙◌, refl, sym, ap, subst, take, arith}
use Rattle.dag_order.specs.Births.{HasLabel}
use Rattle.depth_first_list.specs.Facts.{words_at}
use Rattle.depth_first_run.specs.Run.{list_of}
use Rattle.serial_journal.specs.Journals.{births_of}
use Rattle.thread_frames.specs.declared.thread.Thread.{Thread}
use Rattle.thread_frames.specs.Actions.{TellsWords, deed_of}
use Rattle.thread_frames.specs.Points.{IsPlaced}
use Rattle.thread_frames.specs.Views.{children_of, label_of, done_of, thread_words}
use Rattle.thread_frames.proofs.Placed.{placed_of}
use Rattle.serial_meaning.specs.Doing.{ActsAlone, JoinsDelivered}
use Rattle.serial_meaning.proofs.Acting.{newest_there, stand_acted, write_acted, kinds_same, no_fork, told_so}
use Rattle.serial_meaning.proofs.Next.{next_is, never_stops, stopped_so}
use Rattle.serial_meaning.proofs.run.Run.act_alone.Goals as goal

pub do_alone-requires-clause-placed : goal.do_alone-requires-clause-placed
do_alone-requires-clause-placed c =
    let r = c.requires.stand in subst IsPlaced (sym c.get_mut.ensures.value) (placed_of r.0 r.1 c.args.self.now.top r.2.top.point)

pub do_alone-requires-clause-delivered : goal.do_alone-requires-clause-delivered
do_alone-requires-clause-delivered c =
    subst (λ (x : Thread). JoinsDelivered c.args.next (children_of x)) (sym c.get_mut.ensures.value)
    (newest_there (children_of c.args.self.now.top) c.args.next c.requires.newest c.requires.stand.2.delivered)

pub do_alone-requires-clause-count : goal.do_alone-requires-clause-count
do_alone-requires-clause-count c =
    let few = c.requires.stand.2.top.few in let count = c.requires.count in let same = ap done_of c.get_mut.ensures.value in omega (arith, few, count, same)

pub do_alone-requires-clause-live : goal.do_alone-requires-clause-live
do_alone-requires-clause-live c =
    let live = c.requires.stand.2.live in let same = ap thread_words c.get_mut.ensures.value in omega (arith, live, same)

pub returns-clause-stand : goal.returns-clause-stand
returns-clause-stand c = λ t k s.
    stand_acted t k c.args.self.now _ s (subst (λ (x : Thread). ActsAlone x c.do_alone.new.thread c.args.self.now.pool.live c.do_alone.new.pool.live) c.get_mut.ensures.value c.in_ok-words.ensures.acts) refl c.act.ensures.births refl

pub returns-clause-write : goal.returns-clause-write
returns-clause-write c = λ limit t k setting of s told w less.
    let before = c.args.self.now in
    let l = list_of setting in
    let is = next_is setting before.done before.top c.args.next w.next told in
    let acts = subst (λ (x : Thread). ActsAlone x c.do_alone.new.thread before.pool.live c.do_alone.new.pool.live) c.get_mut.ensures.value c.in_ok-words.ensures.acts in
    let words : c.in_ok-words.words ≡ words_at l before.done =
    c.in_ok-words.ensures.words (words_at l before.done) (subst (λ (x : Thread). TellsWords x c.args.next (words_at l before.done)) (sym c.get_mut.ensures.value) is.words) in
    let named = subst (λ i. HasLabel (births_of before.journal ∷ []) i (label_of before.top)) (sym c.name_of-name.ensures.by) s.top.named in
    let kept = c.in_ok-act.ensures.keeps_up limit (take before.done l) (label_of before.top) (deed_of before.top c.args.next) w.keeps named
    (c.kind_of.ensures ∙ kinds_same before.top c.args.next) (no_fork before.top c.args.next c.requires.alone) in
    write_acted setting limit before _ c.args.next w is c.requires.alone acts refl refl
    (told_so limit c.name_of-name.result.index (words_at l before.done) c.in_ok-words.words l before.done before.top (deed_of before.top c.args.next) c.act.new.self c.name_of-name.ensures.index words kept)

pub returns-in_err-act-clause-never : goal.returns-in_err-act-clause-never
returns-in_err-act-clause-never c = λ limit t k setting s w less.
    let before = c.args.self.now in
    let l = list_of setting in
    let inside = w.next.0 in
    let named = subst (λ i. HasLabel (births_of before.journal ∷ []) i (label_of before.top)) (sym c.name_of-name.ensures.by) s.top.named in
    stopped_so c.from_residual-in_err-act.result c.in_err-act.field-0.0 c.from_residual-in_err-act.ensures.1
    (never_stops l before.done limit c.in_err-act.field-0.0 (omega (arith, inside)) less
    (c.in_err-act.ensures.keeps_up limit (take before.done l) (label_of before.top) (deed_of before.top c.args.next) w.keeps named
    (c.kind_of.ensures ∙ kinds_same before.top c.args.next) (no_fork before.top c.args.next c.requires.alone)))
