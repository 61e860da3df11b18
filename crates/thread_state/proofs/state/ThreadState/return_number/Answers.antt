use Rattle.std.proofs.Common.{◌≡◌, subst, to_z, of_z, w64}
use Rattle.std.proofs.lemmas.Int.{to_z-of_z}
use Rattle.depth_first_run.specs.Calls.{answered, number}
use Rattle.slot_store.specs.Agreement.{ShowsStore}
use Rattle.slot_store.specs.Shown.{slots_shown}
use Rattle.thread_state.proofs.Returned.{is_returned, number_swaps}
use Rattle.thread_state.specs.States.{own_row}
use Rattle.thread_state.proofs.state.ThreadState.return_number.Goals as goal

pub returns-clause-state : goal.returns-clause-state
returns-clause-state c = λ contexts names callee_names qs values t are args is_target s is.
    let v = c.args.value in
    let same : to_z w64 (of_z w64 v) ≡ v = to_z-of_z w64 v c.ranges.value in
    is_returned contexts names callee_names c.args.self.now c.resume.new.self s s.store qs values t (number v) c.in-Some.caller c.pop.new.self.items
    c.requires.going c.in-Some.ensures.items c.resume.ensures.label c.resume.ensures.done c.resume.ensures.forks c.resume.ensures.faulted
    c.resume.ensures.calls c.resume.ensures.turns c.resume.ensures.callers is
    (λ own shows theirs.
    number_swaps names (own_row c.resume.new.self) qs values s.store.blocks own t v
    (c.resume.ensures.row names callee_names (answered t (number v) own) s.store qs values
    (subst (λ n. ShowsStore names (slots_shown c.take_number.new.caller) (answered t (number n) own)) same
    (c.take_number.ensures.store names own t shows is_target)) theirs are args))
