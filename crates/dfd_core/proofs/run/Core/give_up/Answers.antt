use Rattle.std.proofs.Common.{refl, sym, ap, ◌∙◌, arith}
use Rattle.std.proofs.lemmas.Option.{none-some}
use Rattle.std.specs.Prelude.{Ok, Err}
use Rattle.node_table.specs.Codes.{code_shown}
use Rattle.depth_first_list.specs.QuotaWords.{quota_words}
use Rattle.scheduler_state.specs.Held.{held}
use Rattle.scheduler_state.specs.Moments.{terms_of}
use Rattle.open_periods.specs.Passed.Terms.{Terms}
use Rattle.dfd_core.proofs.GivingUp.{gives_behind, somewhere_behind_give_up}
use Rattle.dfd_core.proofs.run.Core.give_up.Goals as goal

pub invariant_of-self : goal.invariant_of-self
invariant_of-self c =
    let now = c.args.self.now in
    let workers = ap (λ (x : Terms). x.workers) (c.give_up_deque.ensures.terms 0) in
    let some = now.some_workers in let few = now.few_workers in
    record {
      sound = c.give_up_deque.ensures.sound _ _ _ now.sound;
      points = λ none. c.give_up_deque.ensures.points _ _ (now.points none);
      somewhere = somewhere_behind_give_up {E = Unit {0}} (code_shown now.code) (quota_words now.k) (terms_of now.scheduler now.limit) (terms_of c.give_up_deque.new.scheduler now.limit)
          (held now.scheduler) (held c.give_up_deque.new.scheduler) now.end now.end (c.give_up_deque.ensures.terms now.limit) c.args.worker (Ok c.in-Ok.deque)
          (λ setting of run m at. c.in-Ok.ensures.gives _ _ _ now.sound setting of run m at) refl now.somewhere;
      few = now.few;
      most_is = now.most_is ∙ sym (ap (λ (x : Terms). x.limits.deques) (c.give_up_deque.ensures.terms 0));
      some_workers = omega (arith, workers, some);
      few_workers = omega (arith, workers, few);
    }

pub invariant_of-self-in-Err : goal.invariant_of-self-in-Err
invariant_of-self-in-Err c =
    let now = c.args.self.now in
    let workers = ap (λ (x : Terms). x.workers) (c.give_up_deque.ensures.terms 0) in
    let some = now.some_workers in let few = now.few_workers in
    record {
      sound = c.give_up_deque.ensures.sound _ _ _ now.sound;
      points = λ none. absurd (none-some _ (sym none));
      somewhere = somewhere_behind_give_up {E = Unit {0}} (code_shown now.code) (quota_words now.k) (terms_of now.scheduler now.limit) (terms_of c.give_up_deque.new.scheduler now.limit)
          (held now.scheduler) (held c.give_up_deque.new.scheduler) now.end _ (c.give_up_deque.ensures.terms now.limit) c.args.worker (Err tt)
          (λ setting of run m at. c.in-Err.ensures.gives _ _ _ now.sound setting of run m at) c.end_without_memory.ensures now.somewhere;
      few = now.few;
      most_is = now.most_is ∙ sym (ap (λ (x : Terms). x.limits.deques) (c.give_up_deque.ensures.terms 0));
      some_workers = omega (arith, workers, some);
      few_workers = omega (arith, workers, few);
    }

pub returns-in-Ok-clause-gives : goal.returns-in-Ok-clause-gives
returns-in-Ok-clause-gives c setting run m at =
    let now = c.args.self.now in
    gives_behind {E = Unit {0}} (code_shown now.code) (quota_words now.k) (terms_of now.scheduler now.limit) (terms_of c.give_up_deque.new.scheduler now.limit)
    (held now.scheduler) (held c.give_up_deque.new.scheduler) now.end now.end (c.give_up_deque.ensures.terms now.limit) c.args.worker (Ok c.in-Ok.deque)
    (λ s of r n here. c.in-Ok.ensures.gives _ _ _ now.sound s of r n here) refl setting run m at

pub returns-in-Ok-clause-setting : goal.returns-in-Ok-clause-setting
returns-in-Ok-clause-setting c = (refl, refl, c.give_up_deque.ensures.terms c.args.self.now.limit)

pub returns-in-Err-clause-gives : goal.returns-in-Err-clause-gives
returns-in-Err-clause-gives c setting run m at =
    let now = c.args.self.now in
    gives_behind {E = Unit {0}} (code_shown now.code) (quota_words now.k) (terms_of now.scheduler now.limit) (terms_of c.give_up_deque.new.scheduler now.limit)
    (held now.scheduler) (held c.give_up_deque.new.scheduler) now.end _ (c.give_up_deque.ensures.terms now.limit) c.args.worker (Err tt)
    (λ s of r n here. c.in-Err.ensures.gives _ _ _ now.sound s of r n here) c.end_without_memory.ensures setting run m at

pub returns-in-Err-clause-setting : goal.returns-in-Err-clause-setting
returns-in-Err-clause-setting c = (refl, refl, c.give_up_deque.ensures.terms c.args.self.now.limit)
