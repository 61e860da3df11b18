use Rattle.std.proofs.Common.{Some, Ok, refl, sym, ap, subst, ◌∙◌, arith}
use Rattle.std.proofs.lemmas.Option.{none-some}
use Rattle.scheduler_state.specs.Held.{held}
use Rattle.deque_machine.specs.Terms.{Terms}
use Rattle.scheduler_state.specs.Told.{IsTold, end_behind}
use Rattle.scheduler_state.proofs.Differing.{ok_or_err, some_or_none}
use Rattle.scheduler_state.proofs.Roots.{root_result}
use Rattle.async_core.proofs.Going.{somewhere_behind, comes_behind, somewhere_ready, done_within}
use Rattle.async_core.proofs.Movings.{nothing_behind}
use Rattle.async_core.proofs.Rooms.{most_stays}
use Rattle.async_core.proofs.Same.{same_core}
use Rattle.async_core.proofs.run.AsyncCore.step.Goals as goal

pub event_of-requires-clause-done : goal.event_of-requires-clause-done
event_of-requires-clause-done c = done_within _ _ _ (held c.args.self.now.scheduler) c.args.self.now.sound c.args.self.now.end c.args.self.now.somewhere

pub event_of-requires-clause-ready : goal.event_of-requires-clause-ready
event_of-requires-clause-ready c =
    somewhere_ready _ _ _ (held c.args.self.now.scheduler) c.args.self.now.end c.args.self.now.sound.quota c.args.self.now.somewhere

pub invariant_of-self : goal.invariant_of-self
invariant_of-self c =
    let is = c.in-Ok-None.is ∙ ap Ok c.in-Ok-None.field-0-is in
    let workers = ap (λ (x : Terms). x.workers) (c.event_of.ensures.terms 0) in
    let some = c.args.self.now.some_workers in let few = c.args.self.now.few_workers in
    record {
      sound = c.event_of.ensures.sound;
      points = λ none. c.event_of.ensures.points (λ bad. ok_or_err _ _ (sym is ∙ bad));
      somewhere = somewhere_behind _ _ _ _ _ _ _ _ c.event_of.ensures.sound (c.event_of.ensures.terms c.args.self.now.limit) c.in_default.is c.args.worker c.event_of.result
          c.event_of.ensures.steps (c.in_default.is ∙ sym (ap (λ r. end_behind r (root_result (held c.event_of.new.scheduler))) is)) c.args.self.now.somewhere;
      few = c.args.self.now.few;
      most_is = most_stays c.args.self.now.scheduler c.event_of.new.scheduler c.event_of.ensures.terms c.args.self.now.most_is;
      some_workers = omega (arith, workers, some);
      few_workers = omega (arith, workers, few);
    }

pub invariant_of-self-in-Ok-Some : goal.invariant_of-self-in-Ok-Some
invariant_of-self-in-Ok-Some c =
    let is = c.in-Ok-Some.is ∙ ap Ok c.in-Ok-Some.field-0-is in
    let workers = ap (λ (x : Terms). x.workers) (c.event_of.ensures.terms 0) in
    let some = c.args.self.now.some_workers in let few = c.args.self.now.few_workers in
    record {
      sound = c.event_of.ensures.sound;
      points = λ none. c.event_of.ensures.points (λ bad. ok_or_err _ _ (sym is ∙ bad));
      somewhere = somewhere_behind _ _ _ _ _ _ _ _ c.event_of.ensures.sound (c.event_of.ensures.terms c.args.self.now.limit) c.in_default.is c.args.worker c.event_of.result
          c.event_of.ensures.steps (c.end_behind-self.ensures ∙ sym (ap (λ r. end_behind r (root_result (held c.event_of.new.scheduler))) is)) c.args.self.now.somewhere;
      few = c.args.self.now.few;
      most_is = most_stays c.args.self.now.scheduler c.event_of.new.scheduler c.event_of.ensures.terms c.args.self.now.most_is;
      some_workers = omega (arith, workers, some);
      few_workers = omega (arith, workers, few);
    }

pub invariant_of-self-in-Err : goal.invariant_of-self-in-Err
invariant_of-self-in-Err c =
    let workers = ap (λ (x : Terms). x.workers) (c.event_of.ensures.terms 0) in
    let some = c.args.self.now.some_workers in let few = c.args.self.now.few_workers in
    record {
      sound = c.event_of.ensures.sound;
      points = λ none. absurd (none-some _ (sym none));
      somewhere = somewhere_behind _ _ _ _ _ _ _ _ c.event_of.ensures.sound (c.event_of.ensures.terms c.args.self.now.limit) c.in_default.is c.args.worker c.event_of.result
          c.event_of.ensures.steps (sym (ap (λ r. end_behind r (root_result (held c.event_of.new.scheduler))) c.in-Err.is)) c.args.self.now.somewhere;
      few = c.args.self.now.few;
      most_is = most_stays c.args.self.now.scheduler c.event_of.new.scheduler c.event_of.ensures.terms c.args.self.now.most_is;
      some_workers = omega (arith, workers, some);
      few_workers = omega (arith, workers, few);
    }

pub returns-in-Ok-None-clause-steps : goal.returns-in-Ok-None-clause-steps
returns-in-Ok-None-clause-steps c = λ none s run m at.
    let is = c.in-Ok-None.is ∙ ap Ok c.in-Ok-None.field-0-is in (
      c.event_of.result,
      is,
      comes_behind _ _ _ _ _ _ _ _ c.event_of.ensures.sound (c.event_of.ensures.terms c.args.self.now.limit) none c.args.worker c.event_of.result
          c.event_of.ensures.steps (none ∙ sym (ap (λ r. end_behind r (root_result (held c.event_of.new.scheduler))) is)) s run m at,
    )

pub returns-in-Ok-None-clause-nothing : goal.returns-in-Ok-None-clause-nothing
returns-in-Ok-None-clause-nothing c = λ none s run m at.
    let is = c.in-Ok-None.is ∙ ap Ok c.in-Ok-None.field-0-is in
    nothing_behind _ _ _ _ c.args.self.now.sound c.args.self.now.end s run m at c.args.worker c.requires _ c.event_of.result is c.event_of.ensures.nothing

pub returns-in-Ok-None-clause-setting : goal.returns-in-Ok-None-clause-setting
returns-in-Ok-None-clause-setting c = (refl, refl, c.event_of.ensures.terms c.args.self.now.limit)

pub returns-in-Ok-Some-clause-steps : goal.returns-in-Ok-Some-clause-steps
returns-in-Ok-Some-clause-steps c = λ none s run m at.
    let is = c.in-Ok-Some.is ∙ ap Ok c.in-Ok-Some.field-0-is in (
      c.event_of.result,
      subst (IsTold c.told.result) (sym is) c.told.ensures,
      comes_behind _ _ _ _ _ _ _ _ c.event_of.ensures.sound (c.event_of.ensures.terms c.args.self.now.limit) none c.args.worker c.event_of.result
          c.event_of.ensures.steps (c.end_behind-self.ensures ∙ sym (ap (λ r. end_behind r (root_result (held c.event_of.new.scheduler))) is)) s run m at,
    )

pub returns-in-Ok-Some-clause-nothing : goal.returns-in-Ok-Some-clause-nothing
returns-in-Ok-Some-clause-nothing c = λ none s run m at.
    let is = c.in-Ok-Some.is ∙ ap Ok c.in-Ok-Some.field-0-is in
    nothing_behind _ _ _ _ c.args.self.now.sound c.args.self.now.end s run m at c.args.worker c.requires c.told.result c.event_of.result (subst (IsTold c.told.result) (sym is) c.told.ensures) c.event_of.ensures.nothing

pub returns-in-Ok-Some-clause-setting : goal.returns-in-Ok-Some-clause-setting
returns-in-Ok-Some-clause-setting c = (refl, refl, c.event_of.ensures.terms c.args.self.now.limit)

pub returns-in-Err-clause-steps : goal.returns-in-Err-clause-steps
returns-in-Err-clause-steps c = λ none s run m at. (
  c.event_of.result,
  c.in-Err.is,
  comes_behind _ _ _ _ _ _ _ _ c.event_of.ensures.sound (c.event_of.ensures.terms c.args.self.now.limit) none c.args.worker c.event_of.result
      c.event_of.ensures.steps (sym (ap (λ r. end_behind r (root_result (held c.event_of.new.scheduler))) c.in-Err.is)) s run m at,
)

pub returns-in-Err-clause-nothing : goal.returns-in-Err-clause-nothing
returns-in-Err-clause-nothing c = λ none s run m at.
    nothing_behind _ _ _ _ c.args.self.now.sound c.args.self.now.end s run m at c.args.worker c.requires _ c.event_of.result c.in-Err.is c.event_of.ensures.nothing

pub returns-in-Err-clause-setting : goal.returns-in-Err-clause-setting
returns-in-Err-clause-setting c = (refl, refl, c.event_of.ensures.terms c.args.self.now.limit)

pub returns-in-Ok-None-clause-still : goal.returns-in-Ok-None-clause-still
returns-in-Ok-None-clause-still c = λ nothing. same_core _ _ (c.event_of.ensures.still (c.in-Ok-None.is ∙ ap Ok c.in-Ok-None.field-0-is)) refl refl refl refl refl

pub returns-in-Ok-Some-clause-still : goal.returns-in-Ok-Some-clause-still
returns-in-Ok-Some-clause-still c = λ nothing. absurd (some_or_none _ (subst (λ s. IsTold s (Ok (Some c.in-Ok-Some.event))) nothing c.told.ensures))
