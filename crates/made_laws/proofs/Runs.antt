-- The depth-first run of a made program.
use Rattle.std.proofs.Common.{◌≡◌, ℕ, zero, suc, ◌+◌, ◌-◌, ◌*◌, ◌<◌, ◌≤◌, Bool, List, [], ◌∷◌, ◌++◌, length, Some, None, refl, sym, ap, ◌∙◌, subst, append_assoc, arith}
use Rattle.std.specs.Prelude.{ℤ}
use Rattle.std.specs.List.{flat_map, range_with_len}
use Rattle.std.proofs.lemmas.Bool.{lt-ltb}
use Rattle.std.proofs.lemmas.Grind.{flat_map-append, div_ceil_times}
use Rattle.std.proofs.lemmas.List.{append-nil}
use Rattle.depth_first_list.specs.Actions as actions
use Rattle.depth_first_list.specs.Passed.FinishVariants.{Done}
use Rattle.par_tree.specs.Tree.{unused, Func, Program}
use Rattle.par_ownership.specs.Ownership.{function_of, main_name}
use Rattle.depth_first_run.specs.Stores.{nothing}
use Rattle.depth_first_run.specs.States.{Setting, State, Item, began, next_action, with_action, unless_faulted, with_turns, with_turn, under_limit, with_depth, ended, fork_join}
use Rattle.depth_first_run.specs.Calls.{Passing, passed, entered, lent_back, returned, with_answer}
use Rattle.depth_first_run.specs.Run.{names_in, assigns_in, run_callee, call_function, exec, exec_all, run, root_start, ignore_answer, main_run, whole, first_fault, lines_of, finish_of, finish_of_run}
use Rattle.depth_first_run.proofs.Fixed.{run_fixed}
use Rattle.made_source.specs.MadeSource.{left_length, right_length}
use Rattle.made_laws.specs.MadeProgram.{left_block, right_block, branch_body, group, call, one_a_line, groups_of, made_function, made_main, function_count, made_program}
use Rattle.made_laws.specs.MadeRun.{twice, made_lines, AllowsGroups}
use Rattle.made_laws.proofs.Going.{Tells, tells_began, tells_last, idle, later, Goes, end_of, stays, goes_on, forks_go, branch_goes, left_branch, right_branch}
use Rattle.made_laws.proofs.Rules.{Finds, made_finds, made_finds_main}

-- a statement begins
begins_go : {vs : List ℤ} {spent : ℕ} (line : ℕ) (s t : State) → Goes vs spent (record s { items = s.items ++ began line ∷ [] }) t → Goes vs spent s t
begins_go line s t g = record {
  acts = g.acts;
  forks = g.forks;
  integers = g.integers;
  turns = g.turns;
  new = began line ∷ g.new;
  is = g.is ∙ ap (λ items. later s g.acts g.forks g.integers g.turns items) (append_assoc s.items (began line ∷ []) g.new);
  spends = g.spends;
  tells = tells_began line g.tells;
}

-- a group
group_goes : (c : Setting) (more : _) (i line : ℕ) (s : State) → length s.label < c.most_forks → Goes (twice i) 0 s (exec c more line (group i line) (idle s))
unfolding exec with_depth
group_goes c more i line s below =
    let a = branch_body left_block (left_length i) i line in
    let b = branch_body right_block (right_length i) i line in
    let left : left_length i ≡ suc (left_length i - 1) = omega arith in
    let right : right_length i ≡ suc (right_length i - 1) = omega arith in
    subst (Goes (twice i) 0 s)
    (sym (ap (λ (b' : Bool). under_limit b' line (fork_join c (names_in a) (assigns_in a) (exec_all c more a) (exec_all c more b)) (idle s))
    (lt-ltb (length s.label) c.most_forks below)))
    (forks_go c (names_in a) (assigns_in a) (exec_all c more a) (exec_all c more b) s
    (λ u e. branch_goes left_block left_branch c more (left_length i - 1) (left_length i) i line u left (omega arith))
    (λ u e. branch_goes right_block right_branch c more (right_length i - 1) (right_length i) i line u right (omega arith)))

groups_go : (c : Setting) (more : _) (i count line : ℕ) (s : State) → length s.label < c.most_forks
    → Goes (flat_map twice (range_with_len i count)) 0 s (exec_all c more (one_a_line group i count line) (idle s))
unfolding exec unless_faulted
groups_go c more i zero line s below = stays s
groups_go c more i (suc count) line s below =
    let begun : State = record s { items = s.items ++ began line ∷ [] } in
    let g = begins_go line s (exec c more line (group i line) (idle begun)) (group_goes c more i line begun below) in
    goes_on (exec_all c more (one_a_line group (i + 1) count (line + 1))) g (groups_go c more (i + 1) count (line + 1) (end_of g) below)

-- a call of a function
function_lines : ℕ → ℕ → List ℤ
function_lines n j = flat_map twice (range_with_len (64 * j) (groups_of n j))

call_goes : (c : Setting) (n j line left : ℕ) (s : State) → Finds n j c.program → s.calls < c.most_calls → length s.label < c.most_forks → s.turns ≡ suc left
    → Goes (function_lines n j) 1 s (exec c (run c) line (call j line) (idle s))
unfolding function_lines exec passed with_depth with_turn unless_faulted with_answer returned lent_back
call_goes c n j line left s here few below turns =
    let f : Func = made_function n j here.line in
    let h : Passing = record { callee = nothing; caller = record { integers = s.store.integers; blocks = [] } } in
    let v : State = entered h (record (idle s) { turns = left }) in
    let g = groups_go c (run c) (64 * j) (groups_of n j) (here.line + 1) v below in
    let rest = g.spends in
    record {
      acts = g.acts;
      forks = g.forks;
      integers = s.store.integers;
      turns = g.turns;
      new = g.new;
      is =
          ap (λ o. call_function c (run c) line unused [] o (idle s)) here.found
          ∙ ap (λ (b : Bool). under_limit b line (with_turn line (run_callee (run c) unused [] f h)) (idle s)) (lt-ltb s.calls c.most_calls few)
          ∙ ap (λ (t : ℕ). with_turns t line (run_callee (run c) unused [] f h) (idle s)) turns
          ∙ ap (λ t. unless_faulted (with_answer None (returned [] [] unused)) t) (run_fixed c f.body v ∙ g.is);
      spends = omega (arith, rest, turns);
      tells = g.tells;
    }

calls_go : (c : Setting) (n j count line : ℕ) (s : State) → ((k : ℕ) → j ≤ k → k < j + count → Finds n k c.program)
    → s.calls < c.most_calls → length s.label < c.most_forks → count ≤ s.turns
    → Goes (flat_map (function_lines n) (range_with_len j count)) count s (exec_all c (run c) (one_a_line call j count line) (idle s))
unfolding exec unless_faulted
calls_go c n j zero line s all few below room = stays s
calls_go c n j (suc count) line s all few below room =
    let begun : State = record s { items = s.items ++ began line ∷ [] } in
    let left : s.turns ≡ suc (s.turns - 1) = omega (arith, room) in
    let g = begins_go line s (exec c (run c) line (call j line) (idle begun))
    (call_goes c n j line (s.turns - 1) begun (all j (omega arith) (omega arith)) few below left) in
    let spends = g.spends in
    let rest =
    calls_go c n (j + 1) count (line + 1) (end_of g) (λ k above low. all k (omega (arith, above)) (omega (arith, low))) few below
    (omega (arith, spends, room)) in
    let one_more : 1 + count ≡ suc count = omega arith in
    subst (λ (k : ℕ). Goes (flat_map (function_lines n) (range_with_len j (suc count))) k s
    (exec_all c (run c) (one_a_line call j (suc count) line) (idle s))) one_more
    (goes_on (exec_all c (run c) (one_a_line call (j + 1) count (line + 1))) g rest)

-- the groups of all functions are all groups

range_append : (a x y b : ℕ) → a + x ≡ b → range_with_len a x ++ range_with_len b y ≡ range_with_len a (x + y)
range_append a zero y b e = ap (λ (k : ℕ). range_with_len k y) (omega (arith, e)) ∙ ap (range_with_len a) (omega arith)
range_append a (suc x) y b e = ap (λ l. a ∷ l) (range_append (a + 1) x y b (omega (arith, e)))
    ∙ ap (range_with_len a) (let p : suc (x + y) ≡ suc x + y = omega arith in p)

ranges : (n j y : ℕ) → n - 64 * (j + 1) ≡ y → range_with_len (64 * j) (groups_of n j) ++ range_with_len (64 * (j + 1)) y ≡ range_with_len (64 * j) (n - 64 * j)
ranges n j zero e = append-nil (range_with_len (64 * j) (groups_of n j)) ∙ ap (range_with_len (64 * j)) (omega (arith, e))
ranges n j (suc y) e = range_append (64 * j) (groups_of n j) (suc y) (64 * (j + 1)) (omega (arith, e)) ∙ ap (range_with_len (64 * j)) (omega (arith, e))

all_lines : (n j count : ℕ) → n ≤ 64 * (j + count)
    → flat_map (function_lines n) (range_with_len j count) ≡ flat_map twice (range_with_len (64 * j) (n - 64 * j))
unfolding function_lines
all_lines n j zero le = ap (λ (k : ℕ). flat_map twice (range_with_len (64 * j) k)) (let p : 0 ≡ n - 64 * j = omega (arith, le) in p)
all_lines n j (suc count) le =
    ap (λ l. function_lines n j ++ l) (all_lines n (j + 1) count (omega (arith, le)))
    ∙ sym (flat_map-append twice (range_with_len (64 * j) (groups_of n j)) (range_with_len (64 * (j + 1)) (n - 64 * (j + 1))))
    ∙ ap (flat_map twice) (ranges n j (n - 64 * (j + 1)) refl)

-- the whole run

record EndsWell (vs : List ℤ) (c : Setting) : Type 0 where
  items : List Item
  is : State.items (whole c) ≡ items
  tells : Tells vs items

-- the whole run, where `main` is this function and its body leads to t
whole_items : (c : Setting) (p : Program) (f : Func) (t : State) (items : List Item) → c.program ≡ p → function_of p main_name ≡ Some f
    → f.ret ≡ None → exec_all c (run c) f.body (root_start c) ≡ t
    → State.items (ended 0 (unless_faulted (with_answer None ignore_answer) t)) ≡ items → State.items (whole c) ≡ items
unfolding whole
whole_items c p f t items is found none runs last =
    ap (λ q. State.items (ended 0 (main_run c (function_of q main_name) (root_start c)))) is
    ∙ ap (λ o. State.items (ended 0 (main_run c o (root_start c)))) found
    ∙ ap (λ r. State.items (ended 0 (unless_faulted (with_answer r ignore_answer) (run c f.body (root_start c))))) none
    ∙ ap (λ u. State.items (ended 0 (unless_faulted (with_answer None ignore_answer) u))) (run_fixed c f.body (root_start c) ∙ runs)
    ∙ last

main_goes : (c : Setting) (n : ℕ) → n ≤ 8000 → c.program ≡ made_program n → AllowsGroups n c
    → EndsWell (flat_map (function_lines n) (range_with_len 0 (function_count n))) c
unfolding ended with_action unless_faulted with_answer
main_goes c n most is room =
    let m : ℕ = function_count n in
    let main = made_finds_main n in
    let f : Func = made_main m main.line in
    let root : State = root_start c in
    let calls = room.calls in
    let forks = room.forks in
    let turns = room.turns in
    let g = calls_go c n 0 m (main.line + 1) root (λ k above low. subst (Finds n k) (sym is) (made_finds n k most (omega (arith, low))))
    (omega (arith, calls)) (omega (arith, forks)) turns in
    let items : List Item = g.new ++ next_action actions.ends 0 (end_of g) ∷ [] in
    record {
      items = items;
      is = whole_items c (made_program n) f (end_of g) items is main.found refl g.is refl;
      tells = tells_last _ g.tells;
    }

pub made_programs_print_twice : (c : Setting) (n : ℕ) → n ≤ 8000 → c.program ≡ made_program n → AllowsGroups n c
    → (lines_of (State.items (whole c)) ≡ made_lines n) × (finish_of_run c ≡ Done)
made_programs_print_twice c n most is room =
    let e = main_goes c n most is room in
    let bounds = div_ceil_times n 64 (omega arith) in
    let whole_items : State.items (whole c) ≡ e.items ++ [] = e.is ∙ sym (append-nil e.items) in (
      ap lines_of whole_items ∙ e.tells.lines [] ∙ append-nil (flat_map (function_lines n) (range_with_len 0 (function_count n)))
          ∙ all_lines n 0 (function_count n) (omega (arith, bounds.0))
          ∙ ap (λ (k : ℕ). flat_map twice (range_with_len 0 k)) (let p : n - 0 ≡ n = omega arith in p),
      ap (λ items. finish_of (first_fault items)) whole_items ∙ ap finish_of (e.tells.fault []),
    )
