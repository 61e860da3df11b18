use Rattle.std.proofs.Common.{inl, inr, ◌+◌, ◌<◌, ◌++◌, List, take, refl, ap, ◌∙◌, arith, rules}
use Rattle.std.specs.Prelude.{reverse}
use Rattle.node_table.specs.Codes.{code_shown}
use Rattle.thread_stack.specs.declared.frame.Frame.{Frame}
use Rattle.thread_state.specs.Passed.Shown.{slots_shown}
use Rattle.thread_state.specs.States.{own_row}
use Rattle.thread_state.specs.declared.state.ThreadState.{ThreadState}
use Rattle.flat_threads.specs.Along.{DiffersInRow}
use Rattle.thread_code.specs.Passed.Programs.{mark_at}
use Rattle.thread_run.specs.Ways.{BeginsFlat, GoesAlong}
use Rattle.thread_run.specs.declared.run.ThreadRun.{ThreadRun}
use Rattle.thread_run.proofs.Ways.{along, few_turns, counts_kept, functions_kept}
use Rattle.thread_run.proofs.run.ThreadRun.ahead.Goals as goal

pub returns-in_default-clause-way : goal.returns-in_default-clause-way
returns-in_default-clause-way c = inl refl

pub overflow_add-self : goal.overflow_add-self
overflow_add-self c =
    let old : ThreadRun = c.args.self.now in
    let stop = c.in_ok-stopped.stopped in
    let kept = c.saturating_sub-kept.result in
    let few = few_turns (code_shown c.args.code.now) c.in-Some.list.now kept old.state.turns c.in-Some.place stop (own_row old.state)
    (slots_shown c.run.new.slots) (search rules) (c.in_ok-stopped.ensures.thread (code_shown c.args.code.now) c.in-Some.ensures.begins) in
    let small : old.state.turns < 4294967296 = search rules in
    omega (arith, few, small)

pub returns-clause-way : goal.returns-clause-way
returns-clause-way c =
    let t = code_shown c.args.code.now in
    let l = c.in-Some.list.now in
    let old : ThreadRun = c.args.self.now in
    let left = c.in-Some.left in
    let stop = c.in_ok-stopped.stopped in
    let items = c.truncate.ensures.items ∙ ap (λ (xs : List Frame). take left xs) c.reserve.ensures.items in
    inr
    (along t old _ l c.in-Some.place left c.saturating_sub-kept.result stop c.in-Some.ensures
    (record { label = refl; done_so_far = refl; forks = refl; faulted = refl; callers = refl; calls = refl }) (search rules) refl
    (c.in_ok-stopped.ensures.thread t c.in-Some.ensures.begins)
    (c.push_mark.ensures ∙ ap (λ (xs : List Frame). mark_at l stop.place ++ reverse xs) items) refl refl)

pub returns-clause-counts : goal.returns-clause-counts
returns-clause-counts c =
    let t = code_shown c.args.code.now in
    let l = c.in-Some.list.now in
    let old : ThreadRun = c.args.self.now in
    let place = c.in-Some.place in
    let left = c.in-Some.left in
    let kept = c.saturating_sub-kept.result in
    let stop = c.in_ok-stopped.stopped in
    let state : ThreadState = record old.state { slots = c.run.new.slots; turns = stop.turns + kept } in
    let after : ThreadRun = record { func = old.func; state = state; frames = c.push_mark.new.stack; told = old.told } in
    let b : BeginsFlat t old l place left = c.in-Some.ensures in
    let items = c.truncate.ensures.items ∙ ap (λ (xs : List Frame). take left xs) c.reserve.ensures.items in
    let same : DiffersInRow old.state state = record { label = refl; done_so_far = refl; forks = refl; faulted = refl; callers = refl; calls = refl } in
    let h : GoesAlong t old after = along t old after l place left kept stop b same (search rules) refl (c.in_ok-stopped.ensures.thread t b.begins)
    (c.push_mark.ensures ∙ ap (λ (xs : List Frame). mark_at l stop.place ++ reverse xs) items) refl refl in
    counts_kept t old after h

pub returns-clause-functions : goal.returns-clause-functions
returns-clause-functions c =
    let t = code_shown c.args.code.now in
    let l = c.in-Some.list.now in
    let old : ThreadRun = c.args.self.now in
    let place = c.in-Some.place in
    let left = c.in-Some.left in
    let kept = c.saturating_sub-kept.result in
    let stop = c.in_ok-stopped.stopped in
    let state : ThreadState = record old.state { slots = c.run.new.slots; turns = stop.turns + kept } in
    let after : ThreadRun = record { func = old.func; state = state; frames = c.push_mark.new.stack; told = old.told } in
    let b : BeginsFlat t old l place left = c.in-Some.ensures in
    let items = c.truncate.ensures.items ∙ ap (λ (xs : List Frame). take left xs) c.reserve.ensures.items in
    let same : DiffersInRow old.state state = record { label = refl; done_so_far = refl; forks = refl; faulted = refl; callers = refl; calls = refl } in
    let h : GoesAlong t old after = along t old after l place left kept stop b same (search rules) refl (c.in_ok-stopped.ensures.thread t b.begins)
    (c.push_mark.ensures ∙ ap (λ (xs : List Frame). mark_at l stop.place ++ reverse xs) items) refl refl in
    functions_kept t old after h
