-- A thread with more turns goes the same way.
use Rattle.std.proofs.Common.{ℕ, subst}
use Rattle.thread_state.specs.Passed.Table.{Table}
use Rattle.flat_statements.specs.Flat.{Came}
use Rattle.flat_statements.specs.Threads.{Standing, thread_step, with_turns, IsStepWithMore}
use Rattle.flat_statements.specs.Follows.{Steps, stays, onward}
use Rattle.flat_statements.proofs.Turns.{turns_stay}

way_more : (t : Table) (more : ℕ) {s u : Standing} → Steps t s u → Steps t (with_turns more s) (with_turns more u)
way_more t more stays = stays
way_more t more {s} {u} (onward v first rest) =
    onward (with_turns more v) (subst (λ (come : Came Standing). IsStepWithMore more come (thread_step t (with_turns more s))) first (turns_stay t more s))
    (way_more t more rest)

pub more_turns : (t : Table) (more : ℕ) (s u : Standing) → Steps t s u → Steps t (with_turns more s) (with_turns more u)
more_turns t more s u way = way_more t more way
