-- Two small lists of statements in two threads, worked out by hand: the root, and a thread deep in forks and calls.
use Rattle.std.specs.Prelude.{◌≡◌, ℕ, false, true, [], ◌∷◌, pos, refl, replicate, codes}
use Rattle.dag_order.specs.declared.fault.FaultKind.TheVariants as faults
use Rattle.par_tree.specs.Tree
use Rattle.par_tree.specs.Tree.{Name, Expr, Body, done, step}
use Rattle.depth_first_list.specs.Actions.{peak}
use Rattle.depth_first_run.specs.Stores
use Rattle.depth_first_run.specs.Stores.{Store, nothing}
use Rattle.depth_first_run.specs.Values
use Rattle.depth_first_run.specs.States
use Rattle.depth_first_run.specs.States.{Setting, State}
use Rattle.depth_first_run.specs.Run
use Rattle.depth_first_run.specs.Run.{run, root_start, actions_of}
use Rattle.loop_laws.specs.Outcomes.{number, fault, marks_of, added, KeepsLimits}

abbrev setting : Setting
setting = record { program = []; quota = 16; most_calls = 3; most_turns = 2; most_forks = 4 }

-- it has one loop round left, and its caller holds a block of 32 words
abbrev deep : State
deep = record {
  label = 1 ∷ 2 ∷ [];
  done = 7;
  forks = 1;
  faulted = false;
  store = nothing;
  callers = record { integers = Stores.no_integers; blocks = record { name = codes "c"; items = replicate 20 (pos 0) } ∷ [] } ∷ [];
  calls = 2;
  turns = 1;
  items = States.began 9 ∷ States.printed (pos 4) ∷ [];
}

abbrev name_b : Name
name_b = codes "b"

abbrev num : ℕ → Expr
num n = Tree.num (pos n)

-- alloc b = 16; print 5; print 1 / 0;
abbrev ends_by_a_fault : Body
ends_by_a_fault =
    step 3 (Tree.alloc_stmt name_b (num 16)) (step 4 (Tree.print_stmt (num 5))
    (step 5 (Tree.print_stmt (Tree.chain (num 1) (Tree.link Tree.over (num 0) Tree.last))) done))

told_by_the_root : marks_of (added (root_start setting) (run setting ends_by_a_fault (root_start setting)))
    ≡ number (pos 5) ∷ fault (record { kind = faults.Divide; line = 5 }) ∷ []
unfolding Stores.block_words Values.value Values.operated States.with_action States.with_fault States.unless_faulted States.with_number Run.run_tree_before Run.exec Run.within Run.run
told_by_the_root = refl

told_deep : marks_of (added deep (run setting ends_by_a_fault deep)) ≡ number (pos 5) ∷ fault (record { kind = faults.Divide; line = 5 }) ∷ []
unfolding Stores.block_words Values.value Values.operated States.with_action States.with_fault States.unless_faulted States.with_number Run.run_tree_before Run.exec Run.within Run.run
told_deep = refl

limits_kept_deep : KeepsLimits (added deep (run setting ends_by_a_fault deep))
unfolding Stores.block_words Values.value Values.operated States.with_action States.with_fault States.unless_faulted States.with_number Run.run_tree_before Run.exec Run.within Run.run
limits_kept_deep = (refl, tt)

-- both take 16 words at most, though the deep thread gives its caller's block back too
peak_of_the_root : peak (actions_of (added (root_start setting) (run setting ends_by_a_fault (root_start setting)))) ≡ pos 16
unfolding Stores.block_words Values.value Values.operated States.with_action States.with_fault States.unless_faulted States.with_number Run.run_tree_before Run.exec Run.within Run.run
peak_of_the_root = refl

peak_deep : peak (actions_of (added deep (run setting ends_by_a_fault deep))) ≡ pos 16
unfolding Stores.block_words Values.value Values.operated States.with_action States.with_fault States.unless_faulted States.with_number Run.run_tree_before Run.exec Run.within Run.run
peak_deep = refl

-- let x = 0; while x < 2 { x = x + 1; } print x;
abbrev name_x : Name
name_x = codes "x"

abbrev two_rounds : Body
two_rounds =
    step 1 (Tree.let_stmt name_x (num 0))
    (step 2 (Tree.while_stmt (Tree.cmp Tree.below (Tree.var name_x) (num 2))
    (step 3 (Tree.assign_stmt name_x (Tree.chain (Tree.var name_x) (Tree.link Tree.plus (num 1) Tree.last))) done))
    (step 4 (Tree.print_stmt (Tree.var name_x)) done))

-- the root has two turns, and prints
rounds_of_the_root : marks_of (added (root_start setting) (run setting two_rounds (root_start setting))) ≡ number (pos 2) ∷ []
unfolding Values.value Values.operated Values.compared States.with_action States.with_fault States.unless_faulted States.with_number States.with_turn Run.exec Run.within Run.run
rounds_of_the_root = refl

-- the other has one, and meets a limit, which is no fault of the statements
rounds_deep : marks_of (added deep (run setting two_rounds deep)) ≡ fault (record { kind = faults.Turns; line = 2 }) ∷ []
unfolding Values.value Values.operated Values.compared States.with_action States.with_fault States.unless_faulted States.with_number States.with_turn Run.exec Run.within Run.run
rounds_deep = refl

no_limits_kept_deep : KeepsLimits (added deep (run setting two_rounds deep)) → true ≡ false
unfolding Values.value Values.operated Values.compared States.with_action States.with_fault States.unless_faulted States.with_number States.with_turn Run.exec Run.within Run.run
no_limits_kept_deep k = k.0
