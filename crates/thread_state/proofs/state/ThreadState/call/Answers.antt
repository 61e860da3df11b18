use Rattle.std.proofs.Common.{◌∷◌, ap, ◌∙◌}
use Rattle.depth_first_run.specs.Calls.{all_passed}
use Rattle.slot_store.specs.Shown.{slots_shown}
use Rattle.thread_state.specs.Rows.{waiting_rows}
use Rattle.thread_state.proofs.Steps.{own_store}
use Rattle.thread_state.proofs.Entering.{refused_is, meets_so, is_entered}
use Rattle.thread_state.proofs.state.ThreadState.call.Goals as goal

pub returns-in-Some-clause-state : goal.returns-in-Some-clause-state
returns-in-Some-clause-state c = λ contexts names callee_names setting line qs values most distinct count are args s is.
    let shows = own_store contexts names c.args.self.now s c.requires.going is in (
      is,
      refused_is setting line (all_passed s.store qs values) c.in-Some.limit c.refusal.result s most
          (meets_so c.args.self.now.calls c.args.self.now.turns s.calls s.turns c.in-Some.limit is.calls is.turns c.in-Some.ensures)
          (c.refusal.ensures names callee_names s.store qs values shows are args),
    )

pub returns-in-Ok-pass-clause-state : goal.returns-in-Ok-pass-clause-state
returns-in-Ok-pass-clause-state c = λ contexts names callee_names setting line qs values most distinct count are args s is.
    let shows = own_store contexts names c.args.self.now s c.requires.going is in
    let theirs = c.in-Ok.ensures.store callee_names distinct count in
    let passes = c.in-Ok-pass.ensures.store names callee_names s.store qs values shows theirs are args in
    let row = slots_shown c.pass.new.callee in
    let caller = slots_shown c.pass.new.caller in
    let rows = c.enter.ensures.rows ∙ ap (λ cs. row ∷ caller ∷ waiting_rows cs) c.reserve.ensures.items in
    is_entered contexts names callee_names c.args.self.now c.enter.new.self setting line (all_passed s.store qs values) passes.0 s row caller
    most c.requires.going c.in_default.ensures.0 c.enter.ensures.label c.enter.ensures.done c.enter.ensures.forks c.enter.ensures.faulted
    c.enter.ensures.calls c.enter.ensures.turns rows passes.3 passes.2 passes.1 is
