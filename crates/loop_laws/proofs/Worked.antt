-- The definitions on small loops, whose runs were worked out by hand from the rules.
use Rattle.std.specs.Prelude.{◌≡◌, ℕ, true, [], ◌∷◌, pos, negsuc, refl, codes, Option, Some}
use Rattle.std.specs.Fmt
use Rattle.dag_order.specs.declared.fault.FaultKind.{FaultKind}
use Rattle.dag_order.specs.declared.fault.FaultKind.TheVariants as faults
use Rattle.dag_order.specs.declared.fault.FaultAt.{FaultAt}
use Rattle.depth_first_list.specs.Actions.{peak}
use Rattle.par_tree.specs.Tree
use Rattle.par_tree.specs.Tree.{Name, Expr, num, var, Body, Func, Program, done, step}
use Rattle.depth_first_run.specs.Stores
use Rattle.depth_first_run.specs.Values
use Rattle.depth_first_run.specs.States
use Rattle.depth_first_run.specs.States.{Setting, State}
use Rattle.depth_first_run.specs.Calls
use Rattle.depth_first_run.specs.Run
use Rattle.depth_first_run.specs.Run.{root_start, actions_of, lines_of, first_fault}
use Rattle.loop_laws.specs.HelperTrees.{integer_param, numbers_helper}
use Rattle.loop_laws.specs.PlainLoop
use Rattle.loop_laws.specs.PlainLoop.{plain_loop, written_out}

abbrev name_f : Name
name_f = codes "f"

abbrev name_i : Name
name_i = codes "i"

abbrev name_b : Name
name_b = codes "b"

abbrev name_a : Name
name_a = codes "a"

abbrev name_x : Name
name_x = codes "x"

abbrev name_sum : Name
name_sum = codes "__sum0"

-- fn f(i, a) { print 6 / (i - 3); return i * a; }
abbrev called : Func
called = record {
  name = name_f;
  params = integer_param name_i ∷ integer_param name_a ∷ [];
  body = step 1 (Tree.print_stmt (Tree.chain (num (pos 6)) (Tree.link Tree.over (Tree.chain (var name_i) (Tree.link Tree.minus (num (pos 3)) Tree.last)) Tree.last))) done;
  ret = Some record { line = 1; value = Tree.gives (Tree.chain (var name_i) (Tree.link Tree.times (var name_a) Tree.last)) };
  line = 1;
}

-- the function, and the helper of a loop that has one further expression
abbrev program : Program
program = called ∷ numbers_helper name_sum name_f 1 9 ∷ []

abbrev setting : Setting
setting = record { program = program; quota = 16; most_calls = 10000; most_turns = 1000000; most_forks = 256 }

-- par call x = f(lo into hi, 10);
abbrev written : ℕ → ℕ → State
written lo hi = written_out setting 5 name_sum name_x (num (pos lo)) (num (pos hi)) (num (pos 10) ∷ []) (root_start setting)

abbrev plain : ℕ → ℕ → State
plain lo hi = plain_loop setting 5 name_f name_x (num (pos lo)) (num (pos hi)) (num (pos 10) ∷ []) (root_start setting)

abbrev faulted_at : FaultKind → ℕ → Option FaultAt
faulted_at kind line = Some record { kind = kind; line = line }

-- no call
none_written : lines_of (written 4 4).items ≡ []
unfolding Fmt.digits Values.value Values.chained Values.operated Values.compared States.with_action States.with_fault States.unless_faulted States.with_number States.with_turn States.with_depth States.ended States.joined States.own_part_then_join States.fork_join Calls.passed Calls.lent_back Calls.returned Calls.with_answer Run.exec Run.exec_all Run.within Run.run PlainLoop.numbers_of
none_written = refl

none_plain : lines_of (plain 4 4).items ≡ []
unfolding Fmt.digits Values.value Values.chained Values.operated Values.compared States.with_action States.with_fault States.unless_faulted States.with_number States.with_turn States.with_depth States.ended States.joined States.own_part_then_join States.fork_join Calls.passed Calls.lent_back Calls.returned Calls.with_answer Run.exec Run.exec_all Run.within Run.run PlainLoop.numbers_of
none_plain = refl

none_sum_written : (written 4 4).store.integers name_x ≡ pos 0
unfolding Fmt.digits Values.value Values.chained Values.operated Values.compared States.with_action States.with_fault States.unless_faulted States.with_number States.with_turn States.with_depth States.ended States.joined States.own_part_then_join States.fork_join Calls.passed Calls.lent_back Calls.returned Calls.with_answer Run.exec Run.exec_all Run.within Run.run PlainLoop.numbers_of
none_sum_written = refl

none_sum_plain : (plain 4 4).store.integers name_x ≡ pos 0
unfolding Fmt.digits Values.value Values.chained Values.operated Values.compared States.with_action States.with_fault States.unless_faulted States.with_number States.with_turn States.with_depth States.ended States.joined States.own_part_then_join States.fork_join Calls.passed Calls.lent_back Calls.returned Calls.with_answer Run.exec Run.exec_all Run.within Run.run PlainLoop.numbers_of
none_sum_plain = refl

-- no call either, where the second bound is below the first
none_below_written : lines_of (written 4 2).items ≡ []
unfolding Fmt.digits Values.value Values.chained Values.operated Values.compared States.with_action States.with_fault States.unless_faulted States.with_number States.with_turn States.with_depth States.ended States.joined States.own_part_then_join States.fork_join Calls.passed Calls.lent_back Calls.returned Calls.with_answer Run.exec Run.exec_all Run.within Run.run PlainLoop.numbers_of
none_below_written = refl

none_below_plain : lines_of (plain 4 2).items ≡ []
unfolding Fmt.digits Values.value Values.chained Values.operated Values.compared States.with_action States.with_fault States.unless_faulted States.with_number States.with_turn States.with_depth States.ended States.joined States.own_part_then_join States.fork_join Calls.passed Calls.lent_back Calls.returned Calls.with_answer Run.exec Run.exec_all Run.within Run.run PlainLoop.numbers_of
none_below_plain = refl

none_below_sum_written : (written 4 2).store.integers name_x ≡ pos 0
unfolding Fmt.digits Values.value Values.chained Values.operated Values.compared States.with_action States.with_fault States.unless_faulted States.with_number States.with_turn States.with_depth States.ended States.joined States.own_part_then_join States.fork_join Calls.passed Calls.lent_back Calls.returned Calls.with_answer Run.exec Run.exec_all Run.within Run.run PlainLoop.numbers_of
none_below_sum_written = refl

none_below_sum_plain : (plain 4 2).store.integers name_x ≡ pos 0
unfolding Fmt.digits Values.value Values.chained Values.operated Values.compared States.with_action States.with_fault States.unless_faulted States.with_number States.with_turn States.with_depth States.ended States.joined States.own_part_then_join States.fork_join Calls.passed Calls.lent_back Calls.returned Calls.with_answer Run.exec Run.exec_all Run.within Run.run PlainLoop.numbers_of
none_below_sum_plain = refl

-- one call, which prints 6 / 1, and whose answer is 40
one_written : lines_of (written 4 5).items ≡ pos 6 ∷ []
unfolding Fmt.digits Values.value Values.chained Values.operated Values.compared States.with_action States.with_fault States.unless_faulted States.with_number States.with_turn States.with_depth States.ended States.joined States.own_part_then_join States.fork_join Calls.passed Calls.lent_back Calls.returned Calls.with_answer Run.exec Run.exec_all Run.within Run.run PlainLoop.numbers_of
one_written = refl

one_plain : lines_of (plain 4 5).items ≡ pos 6 ∷ []
unfolding Fmt.digits Values.value Values.chained Values.operated Values.compared States.with_action States.with_fault States.unless_faulted States.with_number States.with_turn States.with_depth States.ended States.joined States.own_part_then_join States.fork_join Calls.passed Calls.lent_back Calls.returned Calls.with_answer Run.exec Run.exec_all Run.within Run.run PlainLoop.numbers_of
one_plain = refl

one_sum_written : (written 4 5).store.integers name_x ≡ pos 40
unfolding Fmt.digits Values.value Values.chained Values.operated Values.compared States.with_action States.with_fault States.unless_faulted States.with_number States.with_turn States.with_depth States.ended States.joined States.own_part_then_join States.fork_join Calls.passed Calls.lent_back Calls.returned Calls.with_answer Run.exec Run.exec_all Run.within Run.run PlainLoop.numbers_of
one_sum_written = refl

one_sum_plain : (plain 4 5).store.integers name_x ≡ pos 40
unfolding Fmt.digits Values.value Values.chained Values.operated Values.compared States.with_action States.with_fault States.unless_faulted States.with_number States.with_turn States.with_depth States.ended States.joined States.own_part_then_join States.fork_join Calls.passed Calls.lent_back Calls.returned Calls.with_answer Run.exec Run.exec_all Run.within Run.run PlainLoop.numbers_of
one_sum_plain = refl

-- two calls
two_written : lines_of (written 4 6).items ≡ pos 6 ∷ pos 3 ∷ []
unfolding Fmt.digits Values.value Values.chained Values.operated Values.compared States.with_action States.with_fault States.unless_faulted States.with_number States.with_turn States.with_depth States.ended States.joined States.own_part_then_join States.fork_join Calls.passed Calls.lent_back Calls.returned Calls.with_answer Run.exec Run.exec_all Run.within Run.run PlainLoop.numbers_of
two_written = refl

two_plain : lines_of (plain 4 6).items ≡ pos 6 ∷ pos 3 ∷ []
unfolding Fmt.digits Values.value Values.chained Values.operated Values.compared States.with_action States.with_fault States.unless_faulted States.with_number States.with_turn States.with_depth States.ended States.joined States.own_part_then_join States.fork_join Calls.passed Calls.lent_back Calls.returned Calls.with_answer Run.exec Run.exec_all Run.within Run.run PlainLoop.numbers_of
two_plain = refl

two_sum_written : (written 4 6).store.integers name_x ≡ pos 90
unfolding Fmt.digits Values.value Values.chained Values.operated Values.compared States.with_action States.with_fault States.unless_faulted States.with_number States.with_turn States.with_depth States.ended States.joined States.own_part_then_join States.fork_join Calls.passed Calls.lent_back Calls.returned Calls.with_answer Run.exec Run.exec_all Run.within Run.run PlainLoop.numbers_of
two_sum_written = refl

two_sum_plain : (plain 4 6).store.integers name_x ≡ pos 90
unfolding Fmt.digits Values.value Values.chained Values.operated Values.compared States.with_action States.with_fault States.unless_faulted States.with_number States.with_turn States.with_depth States.ended States.joined States.own_part_then_join States.fork_join Calls.passed Calls.lent_back Calls.returned Calls.with_answer Run.exec Run.exec_all Run.within Run.run PlainLoop.numbers_of
two_sum_plain = refl

-- three calls, which print 6 / 1, 6 / 2 and 6 / 3, and whose answers are 40, 50 and 60
three_written : lines_of (written 4 7).items ≡ pos 6 ∷ pos 3 ∷ pos 2 ∷ []
unfolding Fmt.digits Values.value Values.chained Values.operated Values.compared States.with_action States.with_fault States.unless_faulted States.with_number States.with_turn States.with_depth States.ended States.joined States.own_part_then_join States.fork_join Calls.passed Calls.lent_back Calls.returned Calls.with_answer Run.exec Run.exec_all Run.within Run.run PlainLoop.numbers_of
three_written = refl

three_plain : lines_of (plain 4 7).items ≡ pos 6 ∷ pos 3 ∷ pos 2 ∷ []
unfolding Fmt.digits Values.value Values.chained Values.operated Values.compared States.with_action States.with_fault States.unless_faulted States.with_number States.with_turn States.with_depth States.ended States.joined States.own_part_then_join States.fork_join Calls.passed Calls.lent_back Calls.returned Calls.with_answer Run.exec Run.exec_all Run.within Run.run PlainLoop.numbers_of
three_plain = refl

three_sum_written : (written 4 7).store.integers name_x ≡ pos 150
unfolding Fmt.digits Values.value Values.chained Values.operated Values.compared States.with_action States.with_fault States.unless_faulted States.with_number States.with_turn States.with_depth States.ended States.joined States.own_part_then_join States.fork_join Calls.passed Calls.lent_back Calls.returned Calls.with_answer Run.exec Run.exec_all Run.within Run.run PlainLoop.numbers_of
three_sum_written = refl

three_sum_plain : (plain 4 7).store.integers name_x ≡ pos 150
unfolding Fmt.digits Values.value Values.chained Values.operated Values.compared States.with_action States.with_fault States.unless_faulted States.with_number States.with_turn States.with_depth States.ended States.joined States.own_part_then_join States.fork_join Calls.passed Calls.lent_back Calls.returned Calls.with_answer Run.exec Run.exec_all Run.within Run.run PlainLoop.numbers_of
three_sum_plain = refl

-- a fault in the second of three calls: what the third one prints does not count
fault_written : lines_of (written 2 5).items ≡ negsuc 5 ∷ []
unfolding Fmt.digits Values.value Values.chained Values.operated Values.compared States.with_action States.with_fault States.unless_faulted States.with_number States.with_turn States.with_depth States.ended States.joined States.own_part_then_join States.fork_join Calls.passed Calls.lent_back Calls.returned Calls.with_answer Run.exec Run.exec_all Run.within Run.run PlainLoop.numbers_of
fault_written = refl

fault_plain : lines_of (plain 2 5).items ≡ negsuc 5 ∷ []
unfolding Fmt.digits Values.value Values.chained Values.operated Values.compared States.with_action States.with_fault States.unless_faulted States.with_number States.with_turn States.with_depth States.ended States.joined States.own_part_then_join States.fork_join Calls.passed Calls.lent_back Calls.returned Calls.with_answer Run.exec Run.exec_all Run.within Run.run PlainLoop.numbers_of
fault_plain = refl

first_fault_written : first_fault (written 2 5).items ≡ faulted_at faults.Divide 1
unfolding Fmt.digits Values.value Values.chained Values.operated Values.compared States.with_action States.with_fault States.unless_faulted States.with_number States.with_turn States.with_depth States.ended States.joined States.own_part_then_join States.fork_join Calls.passed Calls.lent_back Calls.returned Calls.with_answer Run.exec Run.exec_all Run.within Run.run PlainLoop.numbers_of
first_fault_written = refl

first_fault_plain : first_fault (plain 2 5).items ≡ faulted_at faults.Divide 1
unfolding Fmt.digits Values.value Values.chained Values.operated Values.compared States.with_action States.with_fault States.unless_faulted States.with_number States.with_turn States.with_depth States.ended States.joined States.own_part_then_join States.fork_join Calls.passed Calls.lent_back Calls.returned Calls.with_answer Run.exec Run.exec_all Run.within Run.run PlainLoop.numbers_of
first_fault_plain = refl

ended_written : (written 2 5).faulted ≡ true
unfolding Fmt.digits Values.value Values.chained Values.operated Values.compared States.with_action States.with_fault States.unless_faulted States.with_number States.with_turn States.with_depth States.ended States.joined States.own_part_then_join States.fork_join Calls.passed Calls.lent_back Calls.returned Calls.with_answer Run.exec Run.exec_all Run.within Run.run PlainLoop.numbers_of
ended_written = refl

ended_plain : (plain 2 5).faulted ≡ true
unfolding Fmt.digits Values.value Values.chained Values.operated Values.compared States.with_action States.with_fault States.unless_faulted States.with_number States.with_turn States.with_depth States.ended States.joined States.own_part_then_join States.fork_join Calls.passed Calls.lent_back Calls.returned Calls.with_answer Run.exec Run.exec_all Run.within Run.run PlainLoop.numbers_of
ended_plain = refl

-- the words of a record for each time that the count is halved
words_of_one : peak (actions_of (written 4 5).items) ≡ pos 0
unfolding Fmt.digits Values.value Values.chained Values.operated Values.compared States.with_action States.with_fault States.unless_faulted States.with_number States.with_turn States.with_depth States.ended States.joined States.own_part_then_join States.fork_join Calls.passed Calls.lent_back Calls.returned Calls.with_answer Run.exec Run.exec_all Run.within Run.run PlainLoop.numbers_of
words_of_one = refl

words_of_two : peak (actions_of (written 4 6).items) ≡ pos 16
unfolding Fmt.digits Values.value Values.chained Values.operated Values.compared States.with_action States.with_fault States.unless_faulted States.with_number States.with_turn States.with_depth States.ended States.joined States.own_part_then_join States.fork_join Calls.passed Calls.lent_back Calls.returned Calls.with_answer Run.exec Run.exec_all Run.within Run.run PlainLoop.numbers_of
words_of_two = refl

words_of_three : peak (actions_of (written 4 7).items) ≡ pos 16
unfolding Fmt.digits Values.value Values.chained Values.operated Values.compared States.with_action States.with_fault States.unless_faulted States.with_number States.with_turn States.with_depth States.ended States.joined States.own_part_then_join States.fork_join Calls.passed Calls.lent_back Calls.returned Calls.with_answer Run.exec Run.exec_all Run.within Run.run PlainLoop.numbers_of
words_of_three = refl

words_of_four : peak (actions_of (written 4 8).items) ≡ pos 32
unfolding Fmt.digits Values.value Values.chained Values.operated Values.compared States.with_action States.with_fault States.unless_faulted States.with_number States.with_turn States.with_depth States.ended States.joined States.own_part_then_join States.fork_join Calls.passed Calls.lent_back Calls.returned Calls.with_answer Run.exec Run.exec_all Run.within Run.run PlainLoop.numbers_of
words_of_four = refl

-- fn f(i, a) { alloc b = i; free b; return 0; }
abbrev takes_a_block : Func
takes_a_block = record {
  name = name_f;
  params = integer_param name_i ∷ integer_param name_a ∷ [];
  body = step 1 (Tree.alloc_stmt name_b (var name_i)) (step 1 (Tree.free_stmt name_b) done);
  ret = Some record { line = 1; value = Tree.gives (num (pos 0)) };
  line = 1;
}

abbrev taking : Setting
taking = record { program = takes_a_block ∷ numbers_helper name_sum name_f 1 9 ∷ []; quota = 100; most_calls = 10000; most_turns = 1000000; most_forks = 256 }

-- and those of one round: 32 words for 17 numbers in the child, beside its record
words_of_blocks : peak (actions_of (written_out taking 5 name_sum name_x (num (pos 17)) (num (pos 19)) (num (pos 10) ∷ []) (root_start taking)).items) ≡ pos 48
unfolding Stores.block_words Fmt.digits Values.value Values.chained Values.operated Values.compared States.with_action States.with_fault States.unless_faulted States.with_number States.with_turn States.with_depth States.ended States.joined States.own_part_then_join States.fork_join Calls.passed Calls.lent_back Calls.returned Calls.with_answer Run.exec Run.exec_all Run.within Run.run PlainLoop.numbers_of Run.run_tree_before
words_of_blocks = refl
