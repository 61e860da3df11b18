-- The definitions on small loops, whose runs were worked out by hand from the rules.
use Rattle.std.specs.Prelude.{◌≡◌, ℕ, true, List, [], ◌∷◌, ◌++◌, length, replicate, ℤ, pos, refl, codes, Option, Some}
use Rattle.std.specs.Fmt
use Rattle.std.proofs.Common.{◌∙◌, ap, arith}
use Rattle.dag_order.specs.declared.fault.FaultKind.{FaultKind}
use Rattle.dag_order.specs.declared.fault.FaultKind.TheVariants as faults
use Rattle.dag_order.specs.declared.fault.FaultAt.{FaultAt}
use Rattle.par_tree.specs.Tree
use Rattle.par_tree.specs.Tree.{Name, Expr, num, var, Body, Func, Program, done, step}
use Rattle.depth_first_run.specs.Stores.{Store, Held}
use Rattle.depth_first_run.specs.Values
use Rattle.depth_first_run.specs.States
use Rattle.depth_first_run.specs.States.{Setting, State}
use Rattle.depth_first_run.specs.Calls
use Rattle.depth_first_run.specs.Run
use Rattle.depth_first_run.specs.Run.{root_start, lines_of, first_fault}
use Rattle.loop_laws.specs.HelperTrees.{integer_param, parts_helper}
use Rattle.loop_laws.specs.PlainLoop
use Rattle.loop_laws.specs.Parts
use Rattle.loop_laws.specs.Parts.{left_half, right_half, parts_of}
use Rattle.loop_laws.specs.PartsLoop
use Rattle.loop_laws.proofs.Cutting.{one_part, halved}
use Rattle.loop_laws.specs.PartsLoop.{sum_calls_on, plain_parts_loop, written_out_on}

abbrev name_f : Name
name_f = codes "f"

abbrev name_d : Name
name_d = codes "d"

abbrev name_a : Name
name_a = codes "a"

abbrev name_x : Name
name_x = codes "x"

abbrev name_y : Name
name_y = codes "y"

abbrev name_sum : Name
name_sum = codes "__sum0"

abbrev size : Expr
size = Tree.len_of name_d

-- fn f(use d, a) { print 100 / d[0]; d[0] = len d; return len d * a; }
abbrev called : Func
called = record {
  name = name_f;
  params = record { name = name_d; kind = Tree.lent } ∷ integer_param name_a ∷ [];
  body =
      step 1 (Tree.print_stmt (Tree.chain (num (pos 100)) (Tree.link Tree.over (Tree.get name_d (num (pos 0))) Tree.last)))
      (step 1 (Tree.put_stmt name_d (num (pos 0)) size) done);
  ret = Some record { line = 1; value = Tree.gives (Tree.chain size (Tree.link Tree.times (var name_a) Tree.last)) };
  line = 1;
}

-- the function, and the helper of a loop over parts of 16 words, which has one further expression
abbrev program : Program
program = called ∷ parts_helper name_sum name_f 16 1 9 ∷ []

abbrev setting : Setting
setting = record { program = program; quota = 16; most_calls = 10000; most_turns = 1000000; most_forks = 256 }

-- a number, and zeros behind it, so many together
abbrev piece : ℤ → ℕ → List ℤ
piece v more = v ∷ replicate more (pos 0)

-- the root holds a block x of these numbers, and another one
abbrev block_y : Held
block_y = record { name = name_y; items = pos 7 ∷ [] }

abbrev block_x : List ℤ → Held
block_x items = record { name = name_x; items = items }

abbrev holding : List ℤ → State
holding items = record (root_start setting) { store = record { integers = (root_start setting).store.integers; blocks = block_x items ∷ block_y ∷ [] } }

-- par call a = f(use x at 16, 10);
abbrev written : List ℤ → State
written items = written_out_on setting 5 name_sum name_a name_x (num (pos 10) ∷ []) (holding items)

abbrev plain : List ℤ → State
plain items = plain_parts_loop setting 5 name_f 16 name_a name_x (num (pos 10) ∷ []) (holding items)

-- the calls of the plain loop, where the parts are known
abbrev calls_on : List (List ℤ) → List ℤ → State
calls_on parts items = sum_calls_on setting 5 name_f name_a name_x (pos 10 ∷ []) parts (holding items)

plain_by_parts : (items : List ℤ) (parts : List (List ℤ)) → parts_of 16 items ≡ parts → plain items ≡ calls_on parts items
unfolding Values.value PlainLoop.numbers_of
plain_by_parts items parts e = ap (λ ps. calls_on ps items) e

-- a block of 35 words, by its cuts
cut_in_three : (items one two three : List ℤ) → length items ≡ 35 → left_half items ≡ one ++ two → right_half items ≡ three
    → length (one ++ two) ≡ 32 → (left_half (one ++ two) ≡ one) × (right_half (one ++ two) ≡ two) → (length one ≡ 16) × (length two ≡ 16) → length three ≡ 3
    → parts_of 16 items ≡ one ∷ two ∷ three ∷ []
cut_in_three items one two three l left right l' cut ls l3 =
    let a : parts_of 16 items ≡ parts_of 16 (left_half items) ++ parts_of 16 (right_half items) = halved 16 items (omega arith) (omega (arith, l)) in
    let b : parts_of 16 (one ++ two) ≡ parts_of 16 (left_half (one ++ two)) ++ parts_of 16 (right_half (one ++ two)) = halved 16 (one ++ two) (omega arith) (omega (arith, l')) in
    let p : parts_of 16 one ≡ one ∷ [] = one_part (length one) 16 one (let e = ls.0 in omega (arith, e)) in
    let q : parts_of 16 two ≡ two ∷ [] = one_part (length two) 16 two (let e = ls.1 in omega (arith, e)) in
    let r : parts_of 16 three ≡ three ∷ [] = one_part (length three) 16 three (omega (arith, l3)) in
    a ∙ (λ i. parts_of 16 (left i) ++ parts_of 16 (right i)) ∙ ap (λ (ps : List (List ℤ)). ps ++ parts_of 16 three) (b ∙ (λ i. parts_of 16 (cut.0 i) ++ parts_of 16 (cut.1 i)) ∙ (λ i. p i ++ q i))
    ∙ ap (λ (ps : List (List ℤ)). (one ∷ two ∷ []) ++ ps) r

abbrev faulted_at : FaultKind → ℕ → Option FaultAt
faulted_at kind line = Some record { kind = kind; line = line }

-- one part
abbrev short : List ℤ
short = piece (pos 5) 3

short_lines_written : lines_of (written short).items ≡ pos 20 ∷ []
unfolding Fmt.digits Values.value Values.chained Values.operated Values.compared States.with_action States.with_fault States.unless_faulted States.with_number States.with_turn States.with_depth States.ended States.joined States.own_part_then_join States.fork_join Calls.passed Calls.lent_back Calls.returned Calls.with_answer Run.exec Run.exec_all Run.within Run.run PlainLoop.numbers_of Parts.parts_within PartsLoop.add_calls_on
short_lines_written = refl

short_sum_written : (written short).store.integers name_a ≡ pos 40
unfolding Fmt.digits Values.value Values.chained Values.operated Values.compared States.with_action States.with_fault States.unless_faulted States.with_number States.with_turn States.with_depth States.ended States.joined States.own_part_then_join States.fork_join Calls.passed Calls.lent_back Calls.returned Calls.with_answer Run.exec Run.exec_all Run.within Run.run PlainLoop.numbers_of Parts.parts_within PartsLoop.add_calls_on
short_sum_written = refl

short_blocks_written : (written short).store.blocks ≡ block_y ∷ block_x (piece (pos 4) 3) ∷ []
unfolding Fmt.digits Values.value Values.chained Values.operated Values.compared States.with_action States.with_fault States.unless_faulted States.with_number States.with_turn States.with_depth States.ended States.joined States.own_part_then_join States.fork_join Calls.passed Calls.lent_back Calls.returned Calls.with_answer Run.exec Run.exec_all Run.within Run.run PlainLoop.numbers_of Parts.parts_within PartsLoop.add_calls_on
short_blocks_written = refl

short_lines_plain : lines_of (plain short).items ≡ pos 20 ∷ []
unfolding Fmt.digits Values.value Values.chained Values.operated Values.compared States.with_action States.with_fault States.unless_faulted States.with_number States.with_turn States.with_depth States.ended States.joined States.own_part_then_join States.fork_join Calls.passed Calls.lent_back Calls.returned Calls.with_answer Run.exec Run.exec_all Run.within Run.run PlainLoop.numbers_of Parts.parts_within PartsLoop.add_calls_on
short_lines_plain = refl

short_sum_plain : (plain short).store.integers name_a ≡ pos 40
unfolding Fmt.digits Values.value Values.chained Values.operated Values.compared States.with_action States.with_fault States.unless_faulted States.with_number States.with_turn States.with_depth States.ended States.joined States.own_part_then_join States.fork_join Calls.passed Calls.lent_back Calls.returned Calls.with_answer Run.exec Run.exec_all Run.within Run.run PlainLoop.numbers_of Parts.parts_within PartsLoop.add_calls_on
short_sum_plain = refl

short_blocks_plain : (plain short).store.blocks ≡ block_y ∷ block_x (piece (pos 4) 3) ∷ []
unfolding Fmt.digits Values.value Values.chained Values.operated Values.compared States.with_action States.with_fault States.unless_faulted States.with_number States.with_turn States.with_depth States.ended States.joined States.own_part_then_join States.fork_join Calls.passed Calls.lent_back Calls.returned Calls.with_answer Run.exec Run.exec_all Run.within Run.run PlainLoop.numbers_of Parts.parts_within PartsLoop.add_calls_on
short_blocks_plain = refl

-- two parts, of 16 words and of 2
abbrev two : List ℤ
two = piece (pos 5) 15 ++ piece (pos 2) 1

two_lines_written : lines_of (written two).items ≡ pos 20 ∷ pos 50 ∷ []
unfolding Fmt.digits Values.value Values.chained Values.operated Values.compared States.with_action States.with_fault States.unless_faulted States.with_number States.with_turn States.with_depth States.ended States.joined States.own_part_then_join States.fork_join Calls.passed Calls.lent_back Calls.returned Calls.with_answer Run.exec Run.exec_all Run.within Run.run PlainLoop.numbers_of Parts.parts_within PartsLoop.add_calls_on
two_lines_written = refl

two_sum_written : (written two).store.integers name_a ≡ pos 180
unfolding Fmt.digits Values.value Values.chained Values.operated Values.compared States.with_action States.with_fault States.unless_faulted States.with_number States.with_turn States.with_depth States.ended States.joined States.own_part_then_join States.fork_join Calls.passed Calls.lent_back Calls.returned Calls.with_answer Run.exec Run.exec_all Run.within Run.run PlainLoop.numbers_of Parts.parts_within PartsLoop.add_calls_on
two_sum_written = refl

two_blocks_written : (written two).store.blocks ≡ block_y ∷ block_x (piece (pos 16) 15 ++ piece (pos 2) 1) ∷ []
unfolding Fmt.digits Values.value Values.chained Values.operated Values.compared States.with_action States.with_fault States.unless_faulted States.with_number States.with_turn States.with_depth States.ended States.joined States.own_part_then_join States.fork_join Calls.passed Calls.lent_back Calls.returned Calls.with_answer Run.exec Run.exec_all Run.within Run.run PlainLoop.numbers_of Parts.parts_within PartsLoop.add_calls_on
two_blocks_written = refl

two_lines_plain : lines_of (plain two).items ≡ pos 20 ∷ pos 50 ∷ []
unfolding Fmt.digits Values.value Values.chained Values.operated Values.compared States.with_action States.with_fault States.unless_faulted States.with_number States.with_turn States.with_depth States.ended States.joined States.own_part_then_join States.fork_join Calls.passed Calls.lent_back Calls.returned Calls.with_answer Run.exec Run.exec_all Run.within Run.run PlainLoop.numbers_of Parts.parts_within PartsLoop.add_calls_on
two_lines_plain = refl

two_sum_plain : (plain two).store.integers name_a ≡ pos 180
unfolding Fmt.digits Values.value Values.chained Values.operated Values.compared States.with_action States.with_fault States.unless_faulted States.with_number States.with_turn States.with_depth States.ended States.joined States.own_part_then_join States.fork_join Calls.passed Calls.lent_back Calls.returned Calls.with_answer Run.exec Run.exec_all Run.within Run.run PlainLoop.numbers_of Parts.parts_within PartsLoop.add_calls_on
two_sum_plain = refl

two_blocks_plain : (plain two).store.blocks ≡ block_y ∷ block_x (piece (pos 16) 15 ++ piece (pos 2) 1) ∷ []
unfolding Fmt.digits Values.value Values.chained Values.operated Values.compared States.with_action States.with_fault States.unless_faulted States.with_number States.with_turn States.with_depth States.ended States.joined States.own_part_then_join States.fork_join Calls.passed Calls.lent_back Calls.returned Calls.with_answer Run.exec Run.exec_all Run.within Run.run PlainLoop.numbers_of Parts.parts_within PartsLoop.add_calls_on
two_blocks_plain = refl

-- three parts: the left half, of 32 words, is cut again
abbrev three : List ℤ
three = piece (pos 5) 15 ++ piece (pos 2) 15 ++ piece (pos 4) 2

abbrev three_parts : List (List ℤ)
three_parts = piece (pos 5) 15 ∷ piece (pos 2) 15 ∷ piece (pos 4) 2 ∷ []

three_cut : parts_of 16 three ≡ three_parts
three_cut = cut_in_three three (piece (pos 5) 15) (piece (pos 2) 15) (piece (pos 4) 2) refl refl refl refl (refl, refl) (refl, refl) refl

three_plain : plain three ≡ calls_on three_parts three
three_plain = plain_by_parts three three_parts three_cut

three_lines_written : lines_of (State.items (written three)) ≡ pos 20 ∷ pos 50 ∷ pos 25 ∷ []
unfolding Fmt.digits Values.value Values.chained Values.operated Values.compared States.with_action States.with_fault States.unless_faulted States.with_number States.with_turn States.with_depth States.ended States.joined States.own_part_then_join States.fork_join Calls.passed Calls.lent_back Calls.returned Calls.with_answer Run.exec Run.exec_all Run.within Run.run PlainLoop.numbers_of Parts.parts_within PartsLoop.add_calls_on
three_lines_written = refl

three_lines_by_parts : lines_of (State.items (calls_on three_parts three)) ≡ pos 20 ∷ pos 50 ∷ pos 25 ∷ []
unfolding Fmt.digits Values.value Values.chained Values.operated Values.compared States.with_action States.with_fault States.unless_faulted States.with_number States.with_turn States.with_depth States.ended States.joined States.own_part_then_join States.fork_join Calls.passed Calls.lent_back Calls.returned Calls.with_answer Run.exec Run.exec_all Run.within Run.run PlainLoop.numbers_of Parts.parts_within PartsLoop.add_calls_on
three_lines_by_parts = refl

three_lines_plain : lines_of (State.items (plain three)) ≡ pos 20 ∷ pos 50 ∷ pos 25 ∷ []
three_lines_plain = ap (λ (u : State). lines_of (State.items u)) three_plain ∙ three_lines_by_parts

three_sum_written : Store.integers (State.store (written three)) name_a ≡ pos 350
unfolding Fmt.digits Values.value Values.chained Values.operated Values.compared States.with_action States.with_fault States.unless_faulted States.with_number States.with_turn States.with_depth States.ended States.joined States.own_part_then_join States.fork_join Calls.passed Calls.lent_back Calls.returned Calls.with_answer Run.exec Run.exec_all Run.within Run.run PlainLoop.numbers_of Parts.parts_within PartsLoop.add_calls_on
three_sum_written = refl

three_sum_by_parts : Store.integers (State.store (calls_on three_parts three)) name_a ≡ pos 350
unfolding Fmt.digits Values.value Values.chained Values.operated Values.compared States.with_action States.with_fault States.unless_faulted States.with_number States.with_turn States.with_depth States.ended States.joined States.own_part_then_join States.fork_join Calls.passed Calls.lent_back Calls.returned Calls.with_answer Run.exec Run.exec_all Run.within Run.run PlainLoop.numbers_of Parts.parts_within PartsLoop.add_calls_on
three_sum_by_parts = refl

three_sum_plain : Store.integers (State.store (plain three)) name_a ≡ pos 350
three_sum_plain = ap (λ (u : State). Store.integers (State.store u) name_a) three_plain ∙ three_sum_by_parts

three_blocks_written : Store.blocks (State.store (written three)) ≡ block_y ∷ block_x (piece (pos 16) 15 ++ piece (pos 16) 15 ++ piece (pos 3) 2) ∷ []
unfolding Fmt.digits Values.value Values.chained Values.operated Values.compared States.with_action States.with_fault States.unless_faulted States.with_number States.with_turn States.with_depth States.ended States.joined States.own_part_then_join States.fork_join Calls.passed Calls.lent_back Calls.returned Calls.with_answer Run.exec Run.exec_all Run.within Run.run PlainLoop.numbers_of Parts.parts_within PartsLoop.add_calls_on
three_blocks_written = refl

three_blocks_by_parts : Store.blocks (State.store (calls_on three_parts three)) ≡ block_y ∷ block_x (piece (pos 16) 15 ++ piece (pos 16) 15 ++ piece (pos 3) 2) ∷ []
unfolding Fmt.digits Values.value Values.chained Values.operated Values.compared States.with_action States.with_fault States.unless_faulted States.with_number States.with_turn States.with_depth States.ended States.joined States.own_part_then_join States.fork_join Calls.passed Calls.lent_back Calls.returned Calls.with_answer Run.exec Run.exec_all Run.within Run.run PlainLoop.numbers_of Parts.parts_within PartsLoop.add_calls_on
three_blocks_by_parts = refl

three_blocks_plain : Store.blocks (State.store (plain three)) ≡ block_y ∷ block_x (piece (pos 16) 15 ++ piece (pos 16) 15 ++ piece (pos 3) 2) ∷ []
three_blocks_plain = ap (λ (u : State). Store.blocks (State.store u)) three_plain ∙ three_blocks_by_parts

-- a fault in the second of three parts: what the third one prints does not count
abbrev failing : List ℤ
failing = piece (pos 5) 15 ++ piece (pos 0) 15 ++ piece (pos 4) 2

abbrev failing_parts : List (List ℤ)
failing_parts = piece (pos 5) 15 ∷ piece (pos 0) 15 ∷ piece (pos 4) 2 ∷ []

failing_cut : parts_of 16 failing ≡ failing_parts
failing_cut = cut_in_three failing (piece (pos 5) 15) (piece (pos 0) 15) (piece (pos 4) 2) refl refl refl refl (refl, refl) (refl, refl) refl

failing_plain : plain failing ≡ calls_on failing_parts failing
failing_plain = plain_by_parts failing failing_parts failing_cut

failing_lines_written : lines_of (State.items (written failing)) ≡ pos 20 ∷ []
unfolding Fmt.digits Values.value Values.chained Values.operated Values.compared States.with_action States.with_fault States.unless_faulted States.with_number States.with_turn States.with_depth States.ended States.joined States.own_part_then_join States.fork_join Calls.passed Calls.lent_back Calls.returned Calls.with_answer Run.exec Run.exec_all Run.within Run.run PlainLoop.numbers_of Parts.parts_within PartsLoop.add_calls_on
failing_lines_written = refl

failing_lines_by_parts : lines_of (State.items (calls_on failing_parts failing)) ≡ pos 20 ∷ []
unfolding Fmt.digits Values.value Values.chained Values.operated Values.compared States.with_action States.with_fault States.unless_faulted States.with_number States.with_turn States.with_depth States.ended States.joined States.own_part_then_join States.fork_join Calls.passed Calls.lent_back Calls.returned Calls.with_answer Run.exec Run.exec_all Run.within Run.run PlainLoop.numbers_of Parts.parts_within PartsLoop.add_calls_on
failing_lines_by_parts = refl

failing_lines_plain : lines_of (State.items (plain failing)) ≡ pos 20 ∷ []
failing_lines_plain = ap (λ (u : State). lines_of (State.items u)) failing_plain ∙ failing_lines_by_parts

failing_fault_written : first_fault (State.items (written failing)) ≡ faulted_at faults.Divide 1
unfolding Fmt.digits Values.value Values.chained Values.operated Values.compared States.with_action States.with_fault States.unless_faulted States.with_number States.with_turn States.with_depth States.ended States.joined States.own_part_then_join States.fork_join Calls.passed Calls.lent_back Calls.returned Calls.with_answer Run.exec Run.exec_all Run.within Run.run PlainLoop.numbers_of Parts.parts_within PartsLoop.add_calls_on
failing_fault_written = refl

failing_fault_by_parts : first_fault (State.items (calls_on failing_parts failing)) ≡ faulted_at faults.Divide 1
unfolding Fmt.digits Values.value Values.chained Values.operated Values.compared States.with_action States.with_fault States.unless_faulted States.with_number States.with_turn States.with_depth States.ended States.joined States.own_part_then_join States.fork_join Calls.passed Calls.lent_back Calls.returned Calls.with_answer Run.exec Run.exec_all Run.within Run.run PlainLoop.numbers_of Parts.parts_within PartsLoop.add_calls_on
failing_fault_by_parts = refl

failing_fault_plain : first_fault (State.items (plain failing)) ≡ faulted_at faults.Divide 1
failing_fault_plain = ap (λ (u : State). first_fault (State.items u)) failing_plain ∙ failing_fault_by_parts

failing_ended_written : State.faulted (written failing) ≡ true
unfolding Fmt.digits Values.value Values.chained Values.operated Values.compared States.with_action States.with_fault States.unless_faulted States.with_number States.with_turn States.with_depth States.ended States.joined States.own_part_then_join States.fork_join Calls.passed Calls.lent_back Calls.returned Calls.with_answer Run.exec Run.exec_all Run.within Run.run PlainLoop.numbers_of Parts.parts_within PartsLoop.add_calls_on
failing_ended_written = refl

failing_ended_by_parts : State.faulted (calls_on failing_parts failing) ≡ true
unfolding Fmt.digits Values.value Values.chained Values.operated Values.compared States.with_action States.with_fault States.unless_faulted States.with_number States.with_turn States.with_depth States.ended States.joined States.own_part_then_join States.fork_join Calls.passed Calls.lent_back Calls.returned Calls.with_answer Run.exec Run.exec_all Run.within Run.run PlainLoop.numbers_of Parts.parts_within PartsLoop.add_calls_on
failing_ended_by_parts = refl

failing_ended_plain : State.faulted (plain failing) ≡ true
failing_ended_plain = ap (λ (u : State). State.faulted u) failing_plain ∙ failing_ended_by_parts

-- a fault of a further expression, before the first call
early_fault_written : first_fault (written_out_on setting 5 name_sum name_a name_x (Tree.get name_y (num (pos 1)) ∷ []) (holding short)).items ≡ faulted_at faults.Index 5
unfolding Fmt.digits Values.value Values.chained Values.operated Values.compared States.with_action States.with_fault States.unless_faulted States.with_number States.with_turn States.with_depth States.ended States.joined States.own_part_then_join States.fork_join Calls.passed Calls.lent_back Calls.returned Calls.with_answer Run.exec Run.exec_all Run.within Run.run PlainLoop.numbers_of Parts.parts_within PartsLoop.add_calls_on
early_fault_written = refl

early_fault_plain : first_fault (plain_parts_loop setting 5 name_f 16 name_a name_x (Tree.get name_y (num (pos 1)) ∷ []) (holding short)).items ≡ faulted_at faults.Index 5
unfolding Fmt.digits Values.value Values.chained Values.operated Values.compared States.with_action States.with_fault States.unless_faulted States.with_number States.with_turn States.with_depth States.ended States.joined States.own_part_then_join States.fork_join Calls.passed Calls.lent_back Calls.returned Calls.with_answer Run.exec Run.exec_all Run.within Run.run PlainLoop.numbers_of Parts.parts_within PartsLoop.add_calls_on
early_fault_plain = refl
