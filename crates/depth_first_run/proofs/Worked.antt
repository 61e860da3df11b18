-- The definition on small programs, whose runs were worked out by hand from the rules.
use Rattle.std.specs.Prelude.{◌≡◌, ℕ, List, [], ◌∷◌, pos, refl, codes, Option, Some, None}
use Rattle.depth_first_list.specs.Passed.FaultKind.{FaultKind}
use Rattle.depth_first_list.specs.Passed.FaultKindVariants as faults
use Rattle.depth_first_list.specs.Passed.FaultAt.{FaultAt}
use Rattle.depth_first_list.specs.Actions as deeds
use Rattle.depth_first_list.specs.Actions.{Action, Deed, forks, joins, allocates, releases, dummy, ends}
use Rattle.par_tree.specs.Tree
use Rattle.par_tree.specs.Tree.{Name, Expr, Stmt, Body, Func, Param, Program, done, step}
use Rattle.par_ownership.specs.Ownership.{main_name}
use Rattle.depth_first_run.specs.Stores
use Rattle.depth_first_run.specs.Values
use Rattle.depth_first_run.specs.States
use Rattle.depth_first_run.specs.States.{Setting, State}
use Rattle.depth_first_run.specs.Calls
use Rattle.depth_first_run.specs.Run
use Rattle.depth_first_run.specs.Run.{whole, actions_of, first_fault, lines_of}
use Rattle.depth_first_list.specs.Shapes

-- ---- programs

abbrev main_of : Body → Func
main_of b = record { name = main_name; params = []; body = b; ret = None; line = 1 }

abbrev one : Body → Program
one b = main_of b ∷ []

-- a setting with the limits of the language, and one with small limits: calls, turns, forks
abbrev full : ℕ → Program → Setting
full k p = record { program = p; quota = k; most_calls = 10000; most_turns = 1000000; most_forks = 256 }

abbrev small : ℕ → ℕ → ℕ → Program → Setting
small calls turns forked p = record { program = p; quota = 16; most_calls = calls; most_turns = turns; most_forks = forked }

abbrev ran : Setting → List States.Item
ran c = State.items (whole c)

abbrev act : List ℕ → ℕ → Deed → ℕ → Action
act label index deed words = record { label = label; index = index; deed = deed; words = words }

abbrev faulted_at : FaultKind → ℕ → Option FaultAt
faulted_at kind line = Some record { kind = kind; line = line }

abbrev name_b : Name
name_b = codes "b"

abbrev name_x : Name
name_x = codes "x"

abbrev name_f : Name
name_f = codes "f"

abbrev num : ℕ → Expr
num n = Tree.num (pos n)

abbrev says : ℕ → Expr → Body → Body
says line e rest = step line (Tree.print_stmt e) rest

abbrev of_two : Tree.ChainOp → ℕ → ℕ → Expr
of_two op a b = Tree.chain (num a) (Tree.link op (num b) Tree.last)

-- ---- allocations

-- fn main() { alloc b = 40; free b; }
abbrev large : Body
large = step 1 (Tree.alloc_stmt name_b (num 40)) (step 1 (Tree.free_stmt name_b) done)

-- with a quota of 16, three dummies stand before the 48 words
large_run : actions_of (ran (full 16 (one large))) ≡
    act [] 0 (forks 1) 16 ∷ act (1 ∷ []) 0 (forks 1) 16 ∷ act (1 ∷ 1 ∷ []) 0 dummy 0 ∷ act (1 ∷ 1 ∷ []) 1 ends 16
    ∷ act (1 ∷ []) 1 dummy 0 ∷ act (1 ∷ []) 2 (joins 1) 0 ∷ act (1 ∷ []) 3 ends 16
    ∷ act [] 1 dummy 0 ∷ act [] 2 (joins 1) 0 ∷ act [] 3 allocates 48 ∷ act [] 4 releases 48 ∷ act [] 5 ends 0 ∷ []
unfolding Stores.block_words Values.value States.with_action States.unless_faulted States.with_number States.ended States.joined States.own_part_then_join States.fork_join Calls.with_answer Run.run_tree Run.run_tree_before Run.exec Run.within Run.run Run.whole Shapes.halved Shapes.shape_of
large_run = refl

-- with a quota of 48 there are none
quota_just_covers : actions_of (ran (full 48 (one large))) ≡ act [] 0 allocates 48 ∷ act [] 1 releases 48 ∷ act [] 2 ends 0 ∷ []
unfolding Stores.block_words Values.value States.with_action States.unless_faulted States.with_number States.ended Calls.with_answer Run.run_tree_before Run.exec Run.within Run.run Run.whole
quota_just_covers = refl

-- ---- branches

-- par { print 1 / 0; } and, on the next line, { print 2 % 0; }
abbrev both_fault : Body
both_fault = step 2 (Tree.par_stmt (says 2 (of_two Tree.over 1 0) done) (says 3 (of_two Tree.modulo 2 0) done)) done

-- both branches run; the first fault is that of the first branch, and nothing is printed
both_fault_run : actions_of (ran (full 16 (one both_fault))) ≡
    act [] 0 (forks 1) 16 ∷ act (1 ∷ []) 0 deeds.faults 0 ∷ act (1 ∷ []) 1 ends 16
    ∷ act [] 1 deeds.faults 0 ∷ act [] 2 (joins 1) 0 ∷ act [] 3 ends 0 ∷ []
unfolding Values.value Values.operated States.with_action States.with_fault States.unless_faulted States.with_number States.with_depth States.ended States.joined States.own_part_then_join States.fork_join Calls.with_answer Run.exec Run.within Run.run Run.whole
both_fault_run = refl

both_fault_first : first_fault (ran (full 16 (one both_fault))) ≡ faulted_at faults.Divide 2
unfolding Values.value Values.operated States.with_action States.with_fault States.unless_faulted States.with_number States.with_depth States.ended States.joined States.own_part_then_join States.fork_join Calls.with_answer Run.exec Run.within Run.run Run.whole
both_fault_first = refl

-- let x = 1; par { x = 5; } and { print 2; } print x; and the same with the branches' parts exchanged
abbrev sets : Body → Body → Body
sets a b = step 1 (Tree.let_stmt name_x (num 1)) (step 1 (Tree.par_stmt a b) (says 1 (Tree.var name_x) done))

-- what the first branch assigned comes back at the Join
assigned_comes_back : lines_of (ran (full 16 (one (sets (step 1 (Tree.assign_stmt name_x (num 5)) done) (says 1 (num 2) done))))) ≡ pos 2 ∷ pos 5 ∷ []
unfolding Values.value States.with_action States.unless_faulted States.with_number States.with_depth States.ended States.joined States.own_part_then_join States.fork_join Calls.with_answer Run.exec Run.within Run.run Run.whole
assigned_comes_back = refl

-- what it did not assign stays as its parent has it
own_stays : lines_of (ran (full 16 (one (sets (says 1 (num 2) done) (step 1 (Tree.assign_stmt name_x (num 7)) done))))) ≡ pos 2 ∷ pos 7 ∷ []
unfolding Values.value States.with_action States.unless_faulted States.with_number States.with_depth States.ended States.joined States.own_part_then_join States.fork_join Calls.with_answer Run.exec Run.within Run.run Run.whole
own_stays = refl

-- alloc b = 17; par { print 1 / 0; } and { print 2; } : the Join of a faulted child gives back what the thread holds
child_faults : actions_of (ran (full 32 (one (step 1 (Tree.alloc_stmt name_b (num 17))
    (step 1 (Tree.par_stmt (says 1 (of_two Tree.over 1 0) done) (says 1 (num 2) done)) done))))) ≡
    act [] 0 allocates 32 ∷ act [] 1 (forks 1) 16 ∷ act (1 ∷ []) 0 deeds.faults 0 ∷ act (1 ∷ []) 1 ends 16
    ∷ act [] 2 (joins 1) 32 ∷ act [] 3 ends 0 ∷ []
unfolding Stores.block_words Values.value Values.operated States.with_action States.with_fault States.unless_faulted States.with_number States.with_depth States.ended States.joined States.own_part_then_join States.fork_join Calls.with_answer Run.run_tree_before Run.exec Run.within Run.run Run.whole
child_faults = refl

-- what is printed behind the first fault does not count
nothing_behind_a_fault : lines_of (ran (full 32 (one (step 1 (Tree.par_stmt (says 1 (of_two Tree.over 1 0) done) (says 1 (num 2) done)) done)))) ≡ []
unfolding Values.value Values.operated States.with_action States.with_fault States.unless_faulted States.with_number States.with_depth States.ended States.joined States.own_part_then_join States.fork_join Calls.with_answer Run.exec Run.within Run.run Run.whole
nothing_behind_a_fault = refl

-- ---- cuts

-- alloc b = 40; split b at n into l, r { print len(l); print len(r); } free b;
abbrev cut_at : ℕ → Body
cut_at n = step 1 (Tree.alloc_stmt name_b (num 40)) (step 1 (Tree.split_stmt name_b (num n) (codes "l") (codes "r")
    (says 1 (Tree.len_of (codes "l")) (says 1 (Tree.len_of (codes "r")) done))) (step 1 (Tree.free_stmt name_b) done))

cut_run : lines_of (ran (full 64 (one (cut_at 32)))) ≡ pos 32 ∷ pos 8 ∷ []
unfolding Stores.block_words Values.value States.with_action States.unless_faulted States.with_number States.ended Calls.with_answer Run.run_tree_before Run.exec Run.within Run.run Run.whole
cut_run = refl

-- a place between two pieces alone; the Fault gives back the 48 words
cut_fault : actions_of (ran (full 64 (one (cut_at 24)))) ≡ act [] 0 allocates 48 ∷ act [] 1 deeds.faults 48 ∷ act [] 2 ends 0 ∷ []
unfolding Stores.block_words Values.value States.with_action States.with_fault States.unless_faulted States.with_number States.ended Calls.with_answer Run.run_tree_before Run.exec Run.within Run.run Run.whole
cut_fault = refl

-- ---- calls

-- fn f(use b) { b[0] = 9; } fn main() { alloc b = 1; call f(use b); print b[0]; free b; }
abbrev lends : Program
lends = record { name = name_f; params = record { name = name_x; kind = Tree.lent } ∷ []; body = step 1 (Tree.put_stmt name_x (num 0) (num 9)) done; ret = None; line = 1 }
    ∷ main_of (step 2 (Tree.alloc_stmt name_b (num 1)) (step 2 (Tree.call_stmt Tree.unused name_f (Tree.lend name_b ∷ []))
    (says 2 (Tree.get name_b (num 0)) (step 2 (Tree.free_stmt name_b) done)))) ∷ []

lent_comes_back : lines_of (ran (full 16 lends)) ≡ pos 9 ∷ []
unfolding Stores.block_words Values.value States.with_action States.unless_faulted States.with_number States.with_turn States.with_depth States.ended Calls.passed Calls.lent_back Calls.returned Calls.with_answer Run.run_tree_before Run.exec Run.within Run.run Run.whole
lent_comes_back = refl

-- fn f(x) { alloc b = x; b[0] = 5; return own b; } fn main() { call own x = f(20); print x[0]; free x; }
abbrev hands_back : Program
hands_back = record {
  name = name_f;
  params = record { name = name_x; kind = Tree.by_value } ∷ [];
  body = step 1 (Tree.alloc_stmt name_b (Tree.var name_x)) (step 1 (Tree.put_stmt name_b (num 0) (num 5)) done);
  ret = Some record { line = 1; value = Tree.hands name_b };
  line = 1;
}
    ∷ main_of (step 2 (Tree.call_stmt (Tree.block name_x) name_f (Tree.value (num 20) ∷ []))
    (says 2 (Tree.get name_x (num 0)) (step 2 (Tree.free_stmt name_x) done))) ∷ []

handed_back : lines_of (ran (full 64 hands_back)) ≡ pos 5 ∷ []
unfolding Stores.block_words Values.value States.with_action States.unless_faulted States.with_number States.with_turn States.with_depth States.ended Calls.passed Calls.lent_back Calls.returned Calls.with_answer Run.run_tree_before Run.exec Run.within Run.run Run.whole
handed_back = refl

handed_back_words : actions_of (ran (full 64 hands_back)) ≡ act [] 0 allocates 32 ∷ act [] 1 releases 32 ∷ act [] 2 ends 0 ∷ []
unfolding Stores.block_words Values.value States.with_action States.unless_faulted States.with_number States.with_turn States.with_depth States.ended Calls.passed Calls.lent_back Calls.returned Calls.with_answer Run.run_tree_before Run.exec Run.within Run.run Run.whole
handed_back_words = refl

-- ---- limits

-- fn f() { print 1; call f(); } fn main() { call f(); } with three open calls, `main` among them
abbrev deeper : Program
deeper = record { name = name_f; params = []; body = says 1 (num 1) (step 1 (Tree.call_stmt Tree.unused name_f []) done); ret = None; line = 1 }
    ∷ main_of (step 2 (Tree.call_stmt Tree.unused name_f []) done) ∷ []

three_calls : lines_of (ran (small 3 100 1 deeper)) ≡ pos 1 ∷ pos 1 ∷ []
unfolding Values.value States.with_action States.with_fault States.unless_faulted States.with_number States.with_turn States.with_depth States.ended Calls.passed Calls.with_answer Run.exec Run.within Run.run Run.whole
three_calls = refl

three_calls_fault : first_fault (ran (small 3 100 1 deeper)) ≡ faulted_at faults.Depth 1
unfolding Values.value States.with_action States.with_fault States.unless_faulted States.with_number States.with_turn States.with_depth States.ended Calls.passed Calls.with_answer Run.exec Run.within Run.run Run.whole
three_calls_fault = refl

-- while 1 { print 1; } with two turns
abbrev for_ever : Body
for_ever = step 3 (Tree.while_stmt (num 1) (says 3 (num 1) done)) done

two_turns : lines_of (ran (small 3 2 1 (one for_ever))) ≡ pos 1 ∷ pos 1 ∷ []
unfolding Values.value States.with_action States.with_fault States.unless_faulted States.with_number States.with_turn States.ended Calls.with_answer Run.exec Run.within Run.run Run.whole
two_turns = refl

two_turns_fault : first_fault (ran (small 3 2 1 (one for_ever))) ≡ faulted_at faults.Turns 3
unfolding Values.value States.with_action States.with_fault States.unless_faulted States.with_number States.with_turn States.ended Calls.with_answer Run.exec Run.within Run.run Run.whole
two_turns_fault = refl

-- call f(); par { call f(); } and { } with `fn f() { print 4; }` and one turn: the child's turns are its own
abbrev turns_anew : Program
turns_anew = record { name = name_f; params = []; body = says 1 (num 4) done; ret = None; line = 1 }
    ∷ main_of (step 2 (Tree.call_stmt Tree.unused name_f []) (step 2 (Tree.par_stmt (step 2 (Tree.call_stmt Tree.unused name_f []) done) done) done)) ∷ []

childs_own_turns : lines_of (ran (small 3 1 1 turns_anew)) ≡ pos 4 ∷ pos 4 ∷ []
unfolding Values.value States.with_action States.with_fault States.unless_faulted States.with_number States.with_turn States.with_depth States.ended States.joined States.own_part_then_join States.fork_join Calls.passed Calls.lent_back Calls.returned Calls.with_answer Run.exec Run.within Run.run Run.whole
childs_own_turns = refl

-- par { par { } and { } } and { } with one fork above another
one_fork : first_fault (ran (small 3 1 1 (one (step 1 (Tree.par_stmt (step 2 (Tree.par_stmt done done) done) done) done)))) ≡ faulted_at faults.Depth 2
unfolding Values.value States.with_action States.with_fault States.unless_faulted States.with_number States.with_depth States.ended States.joined States.own_part_then_join States.fork_join Calls.with_answer Run.exec Run.within Run.run Run.whole
one_fork = refl
