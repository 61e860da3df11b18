-- By the kind of the action.
use Rattle.std.proofs.Common.{sym, subst}
use Rattle.std.specs.Prelude.{IfOk}
use Rattle.trail_meaning.specs.declared.trail_kind.TrailKind.TheVariants.{Act}
use Rattle.trail_check.specs.Steps.{told_of, Came, IsAlone}
use Rattle.trail_check.proofs.Moves.{is_live}
use Rattle.trail_check.proofs.Few.{few}
use Rattle.trail_check.proofs.Refusing.{no_action_leads}
use Rattle.trail_check.proofs.checker.Checker.act.Goals as goal

pub next_step-requires : goal.next_step-requires
next_step-requires c = c.requires

pub returns-in_default : goal.returns-in_default
returns-in_default c = λ s limits run m stands. no_action_leads s limits run m c.args.self.now stands c.args.worker (c.in_default.ensures.step s limits run m stands)

pub fork-requires-clause-live : goal.fork-requires-clause-live
fork-requires-clause-live c = is_live (c.in-Some.ensures.step c.requires.0 c.requires.1 c.requires.2 c.requires.3 c.requires.4).hand.holds

pub fork-requires-clause-inside : goal.fork-requires-clause-inside
fork-requires-clause-inside c = c.in-Some.ensures.inside

pub fork-requires-clause-few : goal.fork-requires-clause-few
fork-requires-clause-few c = few c.args.self.now c.requires

pub returns-in-Fork : goal.returns-in-Fork
returns-in-Fork c = λ s limits run m stands.
    subst (λ w. IfOk c.fork.result (λ came. Came s limits run m (told_of w Act) came c.fork.new.self)) c.in-Some.ensures.worker
    (c.fork.ensures s limits run m stands (c.in-Some.ensures.step s limits run m stands) c.in-Fork.is)

pub end-requires-clause-live : goal.end-requires-clause-live
end-requires-clause-live c = is_live (c.in-Some.ensures.step c.requires.0 c.requires.1 c.requires.2 c.requires.3 c.requires.4).hand.holds

pub end-requires-clause-few : goal.end-requires-clause-few
end-requires-clause-few c = few c.args.self.now c.requires

pub returns-in-End : goal.returns-in-End
returns-in-End c = λ s limits run m stands.
    subst (λ w. IfOk c.end.result (λ came. Came s limits run m (told_of w Act) came c.end.new.self)) c.in-Some.ensures.worker
    (c.end.ensures s limits run m stands (c.in-Some.ensures.step s limits run m stands) c.in-End.is)

pub run_dummy-requires-clause-live : goal.run_dummy-requires-clause-live
run_dummy-requires-clause-live c = is_live (c.in-Some.ensures.step c.requires.0 c.requires.1 c.requires.2 c.requires.3 c.requires.4).hand.holds

pub run_dummy-requires-clause-inside : goal.run_dummy-requires-clause-inside
run_dummy-requires-clause-inside c = c.in-Some.ensures.inside

pub run_dummy-requires-clause-few : goal.run_dummy-requires-clause-few
run_dummy-requires-clause-few c = few c.args.self.now c.requires

pub returns-in-Dummy : goal.returns-in-Dummy
returns-in-Dummy c = λ s limits run m stands.
    subst (λ w. IfOk c.run_dummy.result (λ came. Came s limits run m (told_of w Act) came c.run_dummy.new.self)) c.in-Some.ensures.worker
    (c.run_dummy.ensures s limits run m stands (c.in-Some.ensures.step s limits run m stands) c.in-Dummy.is)

pub do_alone-requires-clause-live : goal.do_alone-requires-clause-live
do_alone-requires-clause-live c = is_live (c.in-Some.ensures.step c.requires.0 c.requires.1 c.requires.2 c.requires.3 c.requires.4).hand.holds

pub do_alone-requires-clause-inside : goal.do_alone-requires-clause-inside
do_alone-requires-clause-inside c = c.in-Some.ensures.inside

pub do_alone-requires-clause-few : goal.do_alone-requires-clause-few
do_alone-requires-clause-few c = few c.args.self.now c.requires

pub returns-in-Join : goal.returns-in-Join
returns-in-Join c = λ s limits run m stands.
    subst (λ w. IfOk c.do_alone.result (λ came. Came s limits run m (told_of w Act) came c.do_alone.new.self)) c.in-Some.ensures.worker
    (c.do_alone.ensures s limits run m stands (c.in-Some.ensures.step s limits run m stands) (subst IsAlone (sym c.in-Join.is) tt))

pub do_alone-requires-in-Alloc-clause-live : goal.do_alone-requires-in-Alloc-clause-live
do_alone-requires-in-Alloc-clause-live c = is_live (c.in-Some.ensures.step c.requires.0 c.requires.1 c.requires.2 c.requires.3 c.requires.4).hand.holds

pub do_alone-requires-in-Alloc-clause-inside : goal.do_alone-requires-in-Alloc-clause-inside
do_alone-requires-in-Alloc-clause-inside c = c.in-Some.ensures.inside

pub do_alone-requires-in-Alloc-clause-few : goal.do_alone-requires-in-Alloc-clause-few
do_alone-requires-in-Alloc-clause-few c = few c.args.self.now c.requires

pub returns-in-Alloc : goal.returns-in-Alloc
returns-in-Alloc c = λ s limits run m stands.
    subst (λ w. IfOk c.do_alone-in-Alloc.result (λ came. Came s limits run m (told_of w Act) came c.do_alone-in-Alloc.new.self)) c.in-Some.ensures.worker
    (c.do_alone-in-Alloc.ensures s limits run m stands (c.in-Some.ensures.step s limits run m stands) (subst IsAlone (sym c.in-Alloc.is) tt))

pub do_alone-requires-in-Release-clause-live : goal.do_alone-requires-in-Release-clause-live
do_alone-requires-in-Release-clause-live c = is_live (c.in-Some.ensures.step c.requires.0 c.requires.1 c.requires.2 c.requires.3 c.requires.4).hand.holds

pub do_alone-requires-in-Release-clause-inside : goal.do_alone-requires-in-Release-clause-inside
do_alone-requires-in-Release-clause-inside c = c.in-Some.ensures.inside

pub do_alone-requires-in-Release-clause-few : goal.do_alone-requires-in-Release-clause-few
do_alone-requires-in-Release-clause-few c = few c.args.self.now c.requires

pub returns-in-Release : goal.returns-in-Release
returns-in-Release c = λ s limits run m stands.
    subst (λ w. IfOk c.do_alone-in-Release.result (λ came. Came s limits run m (told_of w Act) came c.do_alone-in-Release.new.self)) c.in-Some.ensures.worker
    (c.do_alone-in-Release.ensures s limits run m stands (c.in-Some.ensures.step s limits run m stands) (subst IsAlone (sym c.in-Release.is) tt))

pub do_alone-requires-in-Fault-clause-live : goal.do_alone-requires-in-Fault-clause-live
do_alone-requires-in-Fault-clause-live c = is_live (c.in-Some.ensures.step c.requires.0 c.requires.1 c.requires.2 c.requires.3 c.requires.4).hand.holds

pub do_alone-requires-in-Fault-clause-inside : goal.do_alone-requires-in-Fault-clause-inside
do_alone-requires-in-Fault-clause-inside c = c.in-Some.ensures.inside

pub do_alone-requires-in-Fault-clause-few : goal.do_alone-requires-in-Fault-clause-few
do_alone-requires-in-Fault-clause-few c = few c.args.self.now c.requires

pub returns-in-Fault : goal.returns-in-Fault
returns-in-Fault c = λ s limits run m stands.
    subst (λ w. IfOk c.do_alone-in-Fault.result (λ came. Came s limits run m (told_of w Act) came c.do_alone-in-Fault.new.self)) c.in-Some.ensures.worker
    (c.do_alone-in-Fault.ensures s limits run m stands (c.in-Some.ensures.step s limits run m stands) (subst IsAlone (sym c.in-Fault.is) tt))
