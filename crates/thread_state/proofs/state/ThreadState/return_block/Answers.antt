use Rattle.std.proofs.Common.{◌∷◌, List, [], sym, subst}
use Rattle.depth_first_run.specs.Passed.Tree
use Rattle.depth_first_run.specs.Passed.Tree.{Target}
use Rattle.node_table.specs.Names.{name_at}
use Rattle.node_table.specs.Reading.{IsTarget}
use Rattle.node_table.specs.Shown.{args_shown, target_shown}
use Rattle.node_table.specs.declared.code_target.CodeTarget.{CodeTarget}
use Rattle.depth_first_run.specs.Stores.{block_of, drop_block, hold_block}
use Rattle.depth_first_run.specs.Calls as calls
use Rattle.depth_first_run.specs.Calls.{returned, lent_back}
use Rattle.slot_store.specs.Rows.{Entry}
use Rattle.slot_store.specs.Calls.{lent_slots}
use Rattle.slot_store.specs.Agreement.{ShowsStore}
use Rattle.slot_store.specs.Shown.{slots_shown}
use Rattle.slot_store.proofs.Moving.{params_count}
use Rattle.thread_state.specs.States.{IsState, own_row}
use Rattle.thread_state.specs.Calls.{TakesBlock, handing}
use Rattle.thread_state.proofs.Returning.{block_swaps}
use Rattle.thread_state.proofs.Returned.{is_returned, resumes, goes_back}
use Rattle.thread_state.proofs.state.ThreadState.return_block.Goals as goal

pub resume-requires-clause-back : goal.resume-requires-clause-back
resume-requires-clause-back c =
    let params = c.args.params.now in
    let args = args_shown c.args.args.now in
    let lent = lent_slots params args in
    let can = resumes (own_row c.args.self.now) c.args.self.now.callers.items c.in-Some.caller c.pop.new.self.items params args
    (λ (r : List Entry). TakesBlock r lent (target_shown c.args.target)) c.in-Some.ensures.items c.requires.can in
    let takes = subst (λ (t : CodeTarget). TakesBlock (slots_shown c.in-Some.caller) lent (target_shown t)) c.in-Own.is can.1 in
    goes_back (own_row c.args.self.now) (slots_shown c.in-Some.caller) (slots_shown c.take-block.new.self) (slots_shown c.hold.new.self) params args
    c.args.slot c.in-Own.place [] (c.take-block.result.items ∷ []) can.0 c.requires.hands.2 takes.2 c.take-block.ensures.row c.hold.ensures.row

pub returns-clause-state : goal.returns-clause-state
returns-clause-state c = λ contexts names callee_names qs values t are args is_target s is.
    let params = c.args.params.now in
    let codes = args_shown c.args.args.now in
    let lent = lent_slots params codes in
    let can = resumes (own_row c.args.self.now) c.args.self.now.callers.items c.in-Some.caller c.pop.new.self.items params codes
    (λ (r : List Entry). TakesBlock r lent (target_shown c.args.target)) c.in-Some.ensures.items c.requires.can in
    let takes = subst (λ (x : CodeTarget). TakesBlock (slots_shown c.in-Some.caller) lent (target_shown x)) c.in-Own.is can.1 in
    let place = name_at names c.in-Own.place in
    let goes = subst (λ (x : CodeTarget). IsTarget names (target_shown x) t) c.in-Own.is is_target in
    let b = name_at callee_names c.args.slot in
    let xs = block_of s.store.blocks b in
    let row = own_row c.resume.new.self in
    subst (λ (x : Target). IsState (names ∷ contexts) c.resume.new.self (handing b (returned qs values x) s)) goes.0
    (is_returned contexts names callee_names c.args.self.now c.resume.new.self s (drop_block b s.store) qs values (Tree.block place) (calls.items xs)
    c.in-Some.caller c.pop.new.self.items c.requires.going c.in-Some.ensures.items c.resume.ensures.label c.resume.ensures.done c.resume.ensures.forks
    c.resume.ensures.faulted c.resume.ensures.calls c.resume.ensures.turns c.resume.ensures.callers is
    (λ own shows theirs.
    let taken = c.take-block.ensures.store callee_names s.store theirs in
    let held = c.hold.ensures.store names own shows in
    let behind = c.resume.ensures.row names callee_names (hold_block place c.take-block.result.items own) (drop_block b s.store) qs values held taken.1 are args in
    let swapped = block_swaps names row params codes qs values (drop_block b s.store).blocks own c.in-Own.place c.take-block.result.items shows.distinct
    goes.1 args.1 args.0 (params_count callee_names params qs are.0) takes.2 behind in
    subst (λ ys. ShowsStore names row (hold_block place ys (lent_back qs values (drop_block b s.store).blocks own))) (sym taken.0) swapped))
