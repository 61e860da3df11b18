use Rattle.std.proofs.Common.{[], ◌≡◌, ◌+◌, refl, sym, ap, subst, ◌∙◌, append-nil, arith}
use Rattle.std.proofs.lemmas.List.{nil_from_length}
use Rattle.thread_frames.specs.declared.thread.Thread.{Thread}
use Rattle.thread_frames.specs.Actions.{IsSame}
use Rattle.thread_frames.specs.Children.{IsAwaited, with_delivered}
use Rattle.thread_frames.specs.Points.{IsAtPoint}
use Rattle.thread_frames.specs.Views.{children_of, label_of, done_of, thread_words, ended_words}
use Rattle.serial_meaning.proofs.Ending.{stack_was, is_awaited, stand_handed, write_handed, end_written, root_label, all_written}
use Rattle.serial_meaning.proofs.Next.{next_is}
use Rattle.serial_meaning.proofs.run.Run.hand_over.Goals as goal

pub returns-in_default-clause-stand : goal.returns-in_default-clause-stand
returns-in_default-clause-stand c = λ t k before s e.
    let empty : c.pop.new.self.items ≡ [] = nil_from_length c.pop.new.self.items (omega (arith, c.pop.new.self.ok.0, c.in_default.ensures.cases.1)) in
    let none : c.args.self.now.parents.items ≡ [] = c.in_default.ensures.items ∙ append-nil c.pop.new.self.items ∙ empty in
    (e.result, e.labelled ∙ root_label t k before s (sym e.parents ∙ none))

pub returns-in_default-clause-write : goal.returns-in_default-clause-write
returns-in_default-clause-write c = λ limit t k setting before of s e told w less.
    let empty : c.pop.new.self.items ≡ [] = nil_from_length c.pop.new.self.items (omega (arith, c.pop.new.self.ok.0, c.in_default.ensures.cases.1)) in
    let none : c.args.self.now.parents.items ≡ [] = c.in_default.ensures.items ∙ append-nil c.pop.new.self.items ∙ empty in
    let is = next_is setting before.done before.top _ w.next told in
    all_written setting before.done limit before.top c.args.self.now.journal is (root_label t k before s (sym e.parents ∙ none)) (end_written t k setting limit before c.args.self.now c.args.ended e w is)

pub deliver-requires : goal.deliver-requires
deliver-requires c =
    let r = c.requires.ended in
    record {
      awaited = subst (λ (x : Thread). IsAwaited (label_of x) c.args.ended (children_of x)) (sym c.get_mut.ensures.value)
          (is_awaited r.0 r.1 r.2 c.args.self.now c.args.ended c.in-Some.parent c.pop.new.self.items r.3 r.4 c.in-Some.ensures.items);
    }

pub returns-clause-stand : goal.returns-clause-stand
returns-clause-stand c = λ t k before s e.
    let was = c.get_mut.ensures.value in
    let now : c.replace-used.new.dest ≡ c.deliver.new.self = c.replace-used.ensures.after in
    stand_handed t k before c.args.self.now c.args.ended c.in-Some.parent c.pop.new.self.items s e c.in-Some.ensures.items
    _ (subst (λ (x : Thread). IsSame c.in-Some.parent x) (sym now) (subst (λ (x : Thread). IsSame x c.deliver.new.self) was c.deliver.ensures.same)) (ap done_of now ∙ c.deliver.ensures.done ∙ ap done_of was)
    (ap children_of now ∙ c.deliver.ensures.children ∙ ap (λ (x : Thread). with_delivered c.args.ended.id (children_of x)) was)
    (ap thread_words now ∙ c.deliver.ensures.words ∙ ap (λ (x : Thread). thread_words x + ended_words c.args.ended) was) refl refl refl refl
    (subst (λ (x : Thread). IsAtPoint t k x) (sym now) (c.deliver.ensures.point t k (subst (λ (x : Thread). IsAtPoint t k x) (sym was) (stack_was t k before c.args.self.now c.args.ended c.in-Some.parent c.pop.new.self.items s e c.in-Some.ensures.items).0.point) e.result))

pub returns-clause-write : goal.returns-clause-write
returns-clause-write c = λ limit t k setting before of s e told w less.
    let was = c.get_mut.ensures.value in
    let now : c.replace-used.new.dest ≡ c.deliver.new.self = c.replace-used.ensures.after in
    let is = next_is setting before.done before.top _ w.next told in
    write_handed t k before c.args.self.now c.args.ended c.in-Some.parent c.pop.new.self.items s e c.in-Some.ensures.items
    _ (subst (λ (x : Thread). IsSame c.in-Some.parent x) (sym now) (subst (λ (x : Thread). IsSame x c.deliver.new.self) was c.deliver.ensures.same)) (ap done_of now ∙ c.deliver.ensures.done ∙ ap done_of was)
    (ap children_of now ∙ c.deliver.ensures.children ∙ ap (λ (x : Thread). with_delivered c.args.ended.id (children_of x)) was)
    (ap thread_words now ∙ c.deliver.ensures.words ∙ ap (λ (x : Thread). thread_words x + ended_words c.args.ended) was) refl refl refl refl
    setting limit w is (end_written t k setting limit before c.args.self.now c.args.ended e w is)

pub push_reserved-requires : goal.push_reserved-requires
push_reserved-requires c = let r = c.requires.ended in let room = r.4.room in omega (arith, room)
