use Rattle.std.proofs.Common.{refl, sym, ap, subst, ◌∙◌}
use Rattle.node_table.specs.Codes.{code_shown}
use Rattle.thread_frames.specs.declared.thread.Thread.{Thread}
use Rattle.thread_frames.specs.Points.{IsAtPoint}
use Rattle.thread_frames.specs.Views.{children_of, label_of, done_of, thread_words}
use Rattle.serial_meaning.proofs.Acting.{stand_begun, write_begun}
use Rattle.serial_meaning.proofs.run.Run.begin.Goals as goal

pub returns-clause-stand : goal.returns-clause-stand
returns-clause-stand c = λ k.
    stand_begun _ k _ (subst (λ (x : Thread). IsAtPoint (code_shown c.args.code.now) k x) (sym c.in_ok-top.ensures) (c.in_ok-root.ensures.point k))
    (ap (λ (x : Thread). x.id) c.in_ok-top.ensures ∙ c.in_ok-root.ensures.id) (ap label_of c.in_ok-top.ensures ∙ c.in_ok-root.ensures.label) (ap done_of c.in_ok-top.ensures ∙ c.in_ok-root.ensures.done)
    (ap children_of c.in_ok-top.ensures ∙ c.in_ok-root.ensures.children) (ap thread_words c.in_ok-top.ensures ∙ c.in_ok-root.ensures.words)
    c.new-2.ensures.items c.new-3.ensures.births c.in_ok-pool.ensures refl

pub returns-clause-write : goal.returns-clause-write
returns-clause-write c = λ k setting of.
    write_begun setting c.args.limit _ (ap label_of c.in_ok-top.ensures ∙ c.in_ok-root.ensures.label) (ap done_of c.in_ok-top.ensures ∙ c.in_ok-root.ensures.done) c.new-2.ensures.items refl c.new-3.ensures.keeps_up
