-- At each point of a run of an accepted program there is of each name one block at most, and what is left ends as it must.
use Rattle.std.specs.Prelude.{◌≡◌, ℕ, zero, suc, ◌+◌, ◌/◌, ◌≤◌, nat_lt, nat_le, Bool, true, false, not, List, [], ◌∷◌, ◌++◌, ◌⊎◌, length, Result, Ok, Err, Option, Some, None, ℤ, refl}
use Rattle.std.specs.Str.{bytes_eq}
use Rattle.std.proofs.Common.{sym, ◌∙◌, arith, subst}
use Rattle.thread_points.specs.Passed.FaultKind.{FaultKind}
use Rattle.depth_first_run.specs.Passed.Shapes.{Shape, leaf, forked}
use Rattle.depth_first_run.specs.Passed.Actions.{record_words}
use Rattle.depth_first_run.specs.Passed.Runs.{tree_for}
use Rattle.depth_first_run.specs.Passed.Tree.{Name, Expr, Target, Arg, Stmt, let_stmt, assign_stmt, put_stmt, alloc_stmt, free_stmt, if_stmt, while_stmt, call_stmt, print_stmt, par_stmt, split_stmt, Body, done, step, Func}
use Rattle.depth_first_run.specs.Passed.Names.{names_in_target, names_in_args, names_in_stmt, names_in_body}
use Rattle.depth_first_run.specs.Passed.Environment.{Environment, opened}
use Rattle.depth_first_run.specs.Passed.Ownership.{IsTarget, Owns, OwnsAll, OwnsFunction, OwnsFunctions, Ownership, Passes, function_of, main_name, begins, takes_nothing, hands_back}
use Rattle.depth_first_run.specs.Stores
use Rattle.depth_first_run.specs.Stores.{Store, block_of, block_words}
use Rattle.depth_first_run.specs.Values as values
use Rattle.depth_first_run.specs.Values.{Outcome, is_true}
use Rattle.depth_first_run.specs.States
use Rattle.depth_first_run.specs.States.{Setting, State, Item, with_item, with_action, child_of, parent_of, ended, own_part_then_join, fork_join}
use Rattle.depth_first_run.specs.Calls.{Passing, all_passed, entered}
use Rattle.depth_first_run.specs.Run.{cut_of, cut_block, on_store, size_of, names_in, no_name, run, run_tree, main_run, root_start}
use Rattle.depth_first_run.specs.Middle
use Rattle.depth_first_run.specs.Middle.{Part, statements, tree, Frame, does, answers, rejoins, answers_main, allocates, awaits, joins, part_done, frame_done, finish, Middle, middle, finished, step_with_number, step_alloc_within, step_alloc_words, step_alloc, before_all, step_branch, step_if, step_turn, step_round, step_while, step_body, step_open_call, step_call_with, step_call, step_par, step_cut, step_statement, step_first, step_frame, advance, run_start}
use Rattle.depth_first_run.proofs.Stepping.{run_nothing, before_comes}
use Rattle.thread_points.specs.Points.{after_steps, IsAt, step_of}
use Rattle.thread_points.proofs.Putting.{frame_finishes, statement_finishes, statement_put, advance_put}
use Rattle.ownership_laws.specs.Counts.{hit, count, held_in, held_entry}
use Rattle.ownership_laws.proofs.Counting.{hit_other, none_counted, count_parted, empty_found}
use Rattle.ownership_laws.proofs.Moves.{tree_went}
use Rattle.ownership_laws.proofs.Passing.{or_left, or_right, Ready, NewNames, Apart, PassedWell, passed_well, params_held, function_owned}
use Rattle.ownership_laws.proofs.Statements.{Agrees, cut_count}
use Rattle.ownership_laws.proofs.Owned.{and_two, or_none, child_agrees, split_ends, split_counts, split_agrees, no_parameters, whole_closed, ran_run}
use Rattle.ownership_laws.proofs.Fitting.{FitsBody, body_over, body_fits, FitsPart, FitsFrame, Fitting, loop_fits, rest_fits, fits_after, not_both}
use Rattle.ownership_laws.specs.Holdings.{EndsCall, EndsSplit}
use Rattle.ownership_laws.proofs.Single.{Single, single_empty, put_one, single_run, single_tree}
use Rattle.ownership_laws.proofs.Short.{short_block, short_parted, short_cut, PassesShort, passed_short}
use Rattle.ownership_laws.proofs.Ending.{Function, function_ends, cut_is, parts_end, main_ends}

-- ---- what is carried along the frames

-- a tree of dummies, and the allocation behind it, are done by a thread that no fault ended
unfoldable pub PartEnds : Part → State → Type 0
PartEnds (statements b) s = Unit {0}
PartEnds (tree shape) s = s.faulted ≡ false

-- a fault ended the thread, or it ends so
abbrev pub Unless : State → Type 0 → Type 0
Unless s P = (s.faulted ≡ true) ⊎ P

unfoldable pub FrameEnds : Frame → State → Type 0
FrameEnds (does part) s = PartEnds part s
FrameEnds (answers ret params args t) s = Unless s (EndsCall ret params args t s)
FrameEnds (rejoins b l r) s = Unless s (EndsSplit b l r s)
FrameEnds (answers_main ret) s = Unless s ((x : Name) → count s.store.blocks x ≡ 0)
FrameEnds (allocates b n) s = s.faulted ≡ false
FrameEnds (awaits named assigned own parent) s = Single parent × PartEnds own parent
FrameEnds (joins assigned child d) s = Unit {0}

-- each frame at the state that those before it come to, and the last state
unfoldable pub Carries : Setting → List Frame → State → Type 0
Carries c [] s = Single s
Carries c (f ∷ fs) s = Single s × FrameEnds f s × Carries c fs (frame_done c f s)

abbrev pub CarriesPoint : Setting → Middle → Type 0
CarriesPoint c m = Carries c m.frames m.state

pub carried : (c : Setting) (fs : List Frame) (s : State) → Carries c fs s → Single s
unfolding Carries
carried c [] s p = p
carried c (f ∷ fs) s p = p.0

carries_append : (c : Setting) (fs gs : List Frame) (s : State) → Carries c fs s → Carries c gs (finish c fs s) → Carries c (fs ++ gs) s
unfolding Carries finish
carries_append c [] gs s p q = q
carries_append c (f ∷ fs) gs s p q = (p.0, p.1, carries_append c fs gs (frame_done c f s) p.2 q)

-- a list of statements comes first, where there are any
before_carries : (c : Setting) (b : Body) (fs : List Frame) (s : State) → Single s → Carries c fs (run c b s) → Carries c (before_all b fs) s
unfolding Carries FrameEnds PartEnds
before_carries c done fs s p q = subst (λ t. Carries c fs t) (run_nothing c s) q
before_carries c (step line stmt rest) fs s p q = (p, tt, q)

-- what comes behind the list, where the end is known
behind_all : (c : Setting) (b : Body) (fs : List Frame) (s : State) → Single (finish c (before_all b fs) s) → Single (finish c fs (run c b s))
behind_all c b fs s e = subst Single (before_comes c b fs s) e

-- ---- what a statement puts

settled_carries : (c : Setting) (line : ℕ) (o : Outcome) (f : ℤ → List Frame → State → Middle) (s : State) → ((v : ℤ) → Single (finished c (f v [] s)) → CarriesPoint c (f v [] s))
    → Single (finished c (step_with_number line o f [] s)) → CarriesPoint c (step_with_number line o f [] s)
unfolding Carries finish
settled_carries c line (Ok v) f s k e = k v e
settled_carries c line (Err kind) f s k e = e

allocated_carries : (b : Bool) (c : Setting) (x : Name) (n : ℕ) (s : State) → s.faulted ≡ false → Single s → Single (finished c (step_alloc_within b c x n [] s)) → CarriesPoint c (step_alloc_within b c x n [] s)
unfolding Carries FrameEnds PartEnds finish
allocated_carries true c x n s f p e = e
allocated_carries false c x n s f p e =
    let shape : Shape = tree_for c.quota (block_words n) in (p, f, (single_tree c shape s f p, (tree_went c shape [] s f).1.running, e))

allocating_carries : (c : Setting) (line : ℕ) (x : Name) (o : Option ℕ) (s : State) → s.faulted ≡ false → Single s → Single (finished c (step_alloc_words c line x o [] s)) → CarriesPoint c (step_alloc_words c line x o [] s)
unfolding Carries finish
allocating_carries c line x None s f p e = e
allocating_carries c line x (Some n) s f p e = allocated_carries (nat_le (block_words n) c.quota) c x n s f p e

branch_carries : (t : Bool) (c : Setting) (a b : Body) (s : State) → Single s → Single (finished c (step_branch t a b [] s)) → CarriesPoint c (step_branch t a b [] s)
unfolding Carries finish
branch_carries true c a b s p e = before_carries c a [] s p (behind_all c a [] s e)
branch_carries false c a b s p e = before_carries c b [] s p (behind_all c b [] s e)

turning_carries : (c : Setting) (n line : ℕ) (ahead : List Frame) (s : State) → ((left : ℕ) → Single (finish c ahead (record s { turns = left })) → Carries c ahead (record s { turns = left }))
    → Single (finished c (step_turn n line ahead [] s)) → CarriesPoint c (step_turn n line ahead [] s)
unfolding Carries finish
turning_carries c zero line ahead s k e = e
turning_carries c (suc left) line ahead s k e = k left e

round_carries : (b : Bool) (c : Setting) (line : ℕ) (e : Expr) (a : Body) (s : State)
    → ((left : ℕ) → Carries c (before_all a (before_all (step line (while_stmt e a) done) [])) (record s { turns = left }))
    → Single (finished c (step_round b line e a [] s)) → CarriesPoint c (step_round b line e a [] s)
unfolding Carries finish
round_carries true c line e a s k end = turning_carries c s.turns line (before_all a (before_all (step line (while_stmt e a) done) [])) s (λ left end. k left) end
round_carries false c line e a s k end = end

-- a loop: its body, and the loop again behind it
loop_carries : (c : Setting) → OwnsFunctions c.program c.program → (line : ℕ) (e : Expr) (a : Body) (s : State) → Single s → FitsBody c a s → FitsBody c (step line (while_stmt e a) done) (run c a s)
    → Carries c (before_all a (before_all (step line (while_stmt e a) done) [])) s
unfolding Carries
loop_carries c all line e a s p fits again =
    let q : Single (run c a s) = single_run c all a s fits p in
    before_carries c a (before_all (step line (while_stmt e a) done) []) s p
    (before_carries c (step line (while_stmt e a) done) [] (run c a s) q (single_run c all (step line (while_stmt e a) done) (run c a s) again q))

-- a call: the body of its function, and its end behind it
body_carries : (c : Setting) → OwnsFunctions c.program c.program → (n line : ℕ) (t : Target) (args : List Arg) (g : Func) (h : Passing) (s : State)
    → ((left : ℕ) → Function c g args t (entered h (record s { turns = left }))) → Single (finished c (step_body n line t args g h [] s)) → CarriesPoint c (step_body n line t args g h [] s)
unfolding Carries FrameEnds finish
body_carries c all zero line t args g h s k e = e
body_carries c all (suc left) line t args g h s k e =
    let v : State = entered h (record s { turns = left }) in
    let f = k left in
    before_carries c g.body (answers g.ret g.params args t ∷ []) v f.single
    (single_run c all g.body v f.body f.single, f.ends, behind_all c g.body (answers g.ret g.params args t ∷ []) v e)

opening_carries : (b : Bool) (c : Setting) → OwnsFunctions c.program c.program → (line : ℕ) (t : Target) (args : List Arg) (g : Func) (h : Passing) (s : State)
    → ((left : ℕ) → Function c g args t (entered h (record s { turns = left }))) → Single (finished c (step_open_call b line t args g h [] s)) → CarriesPoint c (step_open_call b line t args g h [] s)
unfolding Carries finish
opening_carries true c all line t args g h s k e = body_carries c all s.turns line t args g h s k e
opening_carries false c all line t args g h s k e = e

calling_with_carries : (c : Setting) → OwnsFunctions c.program c.program → (env : Environment) (line : ℕ) (t : Target) (args : List Arg) (g : Func) (r : Result Passing FaultKind) (s : State)
    → OwnsFunction c.program g → Passes env [] g.params args → IsTarget env t → ((x : Name) → names_in_target x t ≡ true → count s.store.blocks x ≡ held_in env x) → s.faulted ≡ false → Single s
    → PassedWell g.params args (record { callee = Stores.nothing; caller = s.store }) r → PassesShort r
    → Single (finished c (step_call_with c line t args g r [] s)) → CarriesPoint c (step_call_with c line t args g r [] s)
unfolding Carries finish PassedWell PassesShort
calling_with_carries c all env line t args g (Err kind) s owns passes target agrees f p well few e = e
calling_with_carries c all env line t args g (Ok h) s owns passes target agrees f p well few e =
    opening_carries (nat_lt s.calls c.most_calls) c all line t args g h s
    (λ left. function_ends c all env g args t h s (record s { turns = left }) owns passes well target agrees few p f refl) e

calling_carries : (c : Setting) → OwnsFunctions c.program c.program → (line : ℕ) (t : Target) (f : Name) (args : List Arg) (env after : Environment) (s : State)
    → Owns c.program line (call_stmt t f args) env after → s.faulted ≡ false → Agrees (λ x. names_in_stmt x (call_stmt t f args)) env s.store → Single s
    → Single (finished c (step_call c line t args (function_of c.program f) [] s)) → CarriesPoint c (step_call c line t args (function_of c.program f) [] s)
unfolding Agrees Ready NewNames
calling_carries c all line t f args env after s h running agrees p e =
    let g : Func = h.1.0 in
    let owns : OwnsFunction c.program g = function_owned c.program c.program f g h.1.1 all in
    let k : Passing = record { callee = Stores.nothing; caller = s.store } in
    let apart : Apart g.params args = (params_held g.line env [] g.params args [] owns.0 [] owns.1 h.1.3).3 in
    let well : PassedWell g.params args k (all_passed s.store g.params args) =
    passed_well s.store env [] g.params args k h.1.3 apart (λ x b held n. agrees x (or_right (names_in_target x t) (names_in_args x args) n) ∙ held) (λ y le. none_counted y) in
    let P : Option Func → Type 0 = λ o. Single (finished c (step_call c line t args o [] s)) → CarriesPoint c (step_call c line t args o [] s) in
    let some : P (Some g) =
    calling_with_carries c all env line t args g (all_passed s.store g.params args) s owns h.1.3 h.0 (λ x n. agrees x (or_left (names_in_target x t) (names_in_args x args) n)) running p well
    (passed_short s.store g.params args k p.0.1 tt) in
    subst P (sym h.1.1) some e

-- a Fork: what each side has
child_single : (c : Setting) (named : Name → Bool) (s : State) → Single s → Single (child_of c named s)
child_single c named s p = ((λ x. let n = count_parted named s.store.blocks x in let o = p.0.0 x in omega (arith, n, o), (short_parted named s.store.blocks p.0.1).0), tt)

parent_single : (named : Name → Bool) (items : List Item) (s : State) → Single s → Single (parent_of named items s)
parent_single named items s p = ((λ x. let n = count_parted named s.store.blocks x in let o = p.0.0 x in omega (arith, n, o), (short_parted named s.store.blocks p.0.1).1), p.1)

both_carries : (v : Bool) (c : Setting) → OwnsFunctions c.program c.program → (line : ℕ) (a b : Body) (env after : Environment) (s : State) → Owns c.program line (par_stmt a b) env after
    → Agrees (λ x. names_in_stmt x (par_stmt a b)) env s.store → Single s → Single (finished c (step_par v c line a b [] s)) → CarriesPoint c (step_par v c line a b [] s)
unfolding Carries FrameEnds PartEnds finish
both_carries false c all line a b env after s h agrees p e = e
both_carries true c all line a b env after s h agrees p e =
    let child : State = child_of c (names_in a) s in
    let q : Single child = child_single c (names_in a) s p in
    let fits : FitsBody c a child = body_fits env h.1.1.0 h.1.1.1 (child_agrees a (λ x. names_in_stmt x (par_stmt a b)) env s c agrees (λ x n. or_left (names_in_body x a) (names_in_body x b) n)) in
    (q, tt, (single_run c all a child fits q, (p, tt), e))

-- a cut: its two parts, the body, and the end of the `split` behind it
cut_single : (b l r : Name) (at : ℕ) (s : State) → count s.store.blocks b ≡ 1 → count s.store.blocks l ≡ 0 → count s.store.blocks r ≡ 0 → bytes_eq l r ≡ false → Single s
    → Single (on_store (cut_block b l r at) s)
cut_single b l r at s cb cl cr lr p = ((λ x. let n = cut_count b l r at s.store x cb in let t = two x in omega (arith, n, t), short_cut b l r at s.store p.0.1), p.1)
  where
    left : (x : Name) → count s.store.blocks x + hit l x ≤ 1
    left = put_one (count s.store.blocks) l cl p.0.0

    two : (x : Name) → (count s.store.blocks x + hit l x) + hit r x ≤ 1
    two = put_one (λ x. count s.store.blocks x + hit l x) r (let z = hit_other l r lr in omega (arith, z, cr)) left

cut_carries : (c : Setting) → OwnsFunctions c.program c.program → (line : ℕ) (b : Name) (e : Expr) (l r : Name) (a : Body) (v : ℤ) (o : Option ℕ) (env after : Environment) (s : State)
    → Owns c.program line (split_stmt b e l r a) env after → s.faulted ≡ false → Agrees (λ x. names_in_stmt x (split_stmt b e l r a)) env s.store → cut_of (block_of s.store.blocks b) v ≡ o
    → Single s → Single (finished c (step_cut line b l r a o [] s)) → CarriesPoint c (step_cut line b l r a o [] s)
unfolding Carries FrameEnds finish
cut_carries c all line b e l r a v None env after s h f agrees is p end = end
cut_carries c all line b e l r a v (Some at) env after s h f agrees is p end =
    let u : State = on_store (cut_block b l r at) s in
    let inner : Environment = opened env b l r line in
    let ends = split_ends c.program line b e l r a env after h in
    let n = split_counts c.program line b e l r a env after s h agrees in
    let inside : Agrees (λ x. names_in_body x a) inner u.store = split_agrees c.program line b e l r a env after s u h agrees (λ x. cut_count b l r at s.store x n.0) in
    let q : Single u = cut_single b l r at s n.0 n.1 n.2 ends.two p in
    let k = cut_is (block_of s.store.blocks b) v at is in
    let way = (ran_run c all a inner h.4.1.0 u h.4.1.1 f inside).way in
    before_carries c a (rejoins b l r ∷ []) u q (
      single_run c all a u (body_fits inner h.4.1.0 h.4.1.1 inside) q,
      parts_end env h.4.1.0 b l r line at (at / 16) s (run c a u) ends k.0 k.1 n.0 n.1 n.2 (short_block s.store.blocks b p.0.1) way,
      behind_all c a (rejoins b l r ∷ []) u end,
    )

statement_carries : (c : Setting) → OwnsFunctions c.program c.program → (line : ℕ) (stmt : Stmt) (env after : Environment) (s : State) → Owns c.program line stmt env after
    → s.faulted ≡ false → Agrees (λ x. names_in_stmt x stmt) env s.store → Single s → Single (finished c (step_statement c line stmt [] s)) → CarriesPoint c (step_statement c line stmt [] s)
unfolding Carries finish Agrees
statement_carries c all line (let_stmt x e) env after s h f agrees p end = end
statement_carries c all line (assign_stmt x e) env after s h f agrees p end = end
statement_carries c all line (put_stmt b i e) env after s h f agrees p end = end
statement_carries c all line (alloc_stmt b e) env after s h f agrees p end =
    settled_carries c line (values.value s.store e) (step_alloc c line b) s (λ v. allocating_carries c line b (size_of v) s f p) end
statement_carries c all line (free_stmt b) env after s h f agrees p end = end
statement_carries c all line (if_stmt e a b) env after s h f agrees p end =
    settled_carries c line (values.value s.store e) (step_if a b) s (λ v. branch_carries (is_true v) c a b s p) end
statement_carries c all line (while_stmt e a) env after s h f agrees p end =
    settled_carries c line (values.value s.store e) (step_while line e a) s
    (λ v. round_carries (is_true v) c line e a s
    (λ left. let two = loop_fits c all line e a env after (record s { turns = left }) h f agrees in loop_carries c all line e a (record s { turns = left }) p two.0 two.1)) end
statement_carries c all line (call_stmt t g args) env after s h f agrees p end = calling_carries c all line t g args env after s h f agrees p end
statement_carries c all line (print_stmt e) env after s h f agrees p end = end
statement_carries c all line (par_stmt a b) env after s h f agrees p end = both_carries (nat_lt (length s.label) c.most_forks) c all line a b env after s h agrees p end
statement_carries c all line (split_stmt b e l r a) env after s h f agrees p end =
    settled_carries c line (values.value s.store e) (Middle.step_split line b l r a) s
    (λ v. cut_carries c all line b e l r a v (cut_of (block_of s.store.blocks b) v) env after s h f agrees refl p) end

-- ---- a step

first_carries : (v : Bool) (c : Setting) → OwnsFunctions c.program c.program → (line : ℕ) (stmt : Stmt) (rest : Body) (s : State) → s.faulted ≡ v
    → FitsBody c (step line stmt rest) s → Single s → CarriesPoint c (step_first v c line stmt rest [] s)
unfolding Carries Agrees
first_carries true c all line stmt rest s e fits p = p
first_carries false c all line stmt rest s e (body_over k) p = not_both s.faulted k e
first_carries false c all line stmt rest s e (body_fits env after owns agrees) p =
    let u : State = with_item (States.began line) s in
    let m : Middle = step_statement c line stmt [] u in
    let one : Body = step line stmt done in
    let mine : Agrees (λ x. names_in_stmt x stmt) env s.store = λ x n. agrees x (or_left (names_in_stmt x stmt) (names_in_body x rest) n) in
    let done_one : Single (run c one s) =
    single_run c all one s (body_fits env owns.0 (owns.0, owns.1, refl) (λ x n. mine x (or_none (names_in_stmt x stmt) n))) p in
    let same : finished c m ≡ run c one s = statement_finishes c line stmt s e in
    let stmt_carries : CarriesPoint c m = statement_carries c all line stmt env owns.0 u owns.1 e mine p (subst Single (sym same) done_one) in
    let rest_carries : Carries c (before_all rest []) (run c one s) =
    before_carries c rest [] (run c one s) done_one (single_run c all rest (run c one s) (rest_fits c all line stmt rest env after s owns e agrees) done_one) in
    subst (λ k. CarriesPoint c k) (sym (statement_put c line stmt (before_all rest []) u))
    (carries_append c m.frames (before_all rest []) m.state stmt_carries (subst (λ t. Carries c (before_all rest []) t) (sym same) rest_carries))

-- what a parent does itself
own_single : (c : Setting) → OwnsFunctions c.program c.program → (p : Part) (s : State) → FitsPart c p s → PartEnds p s → Single s → Single (part_done c p s)
unfolding FitsPart PartEnds
own_single c all (statements b) s fits ends p = single_run c all b s fits p
own_single c all (tree shape) s fits ends p = single_tree c shape s ends p

-- a part that begins again at a state with the same fault
part_ends : (p : Part) (s t : State) → t.faulted ≡ s.faulted → PartEnds p s → PartEnds p t
unfolding PartEnds
part_ends (statements b) s t same ends = tt
part_ends (tree shape) s t same ends = same ∙ ends

-- a tree of dummies
tree_carries : (c : Setting) (shape : Shape) (s : State) → Single s → s.faulted ≡ false → Single (run_tree c shape s) → CarriesPoint c (step_of c (does (tree shape)) s)
unfolding Carries FrameEnds PartEnds run_tree fork_join own_part_then_join with_action
tree_carries c leaf s p f e = e
tree_carries c (forked child own) s p f e =
    let kid : State = child_of c no_name s in
    let q : Single kid = child_single c no_name s p in
    (q, refl, (single_tree c child kid refl q, (p, f), e))

frame_carries : (c : Setting) → OwnsFunctions c.program c.program → (f : Frame) (s : State) → FitsFrame c f s → Single s → FrameEnds f s → Single (frame_done c f s) → CarriesPoint c (step_of c f s)
unfolding Carries FrameEnds PartEnds FitsFrame FitsPart own_part_then_join
frame_carries c all (does (statements done)) s fits p ends e = p
frame_carries c all (does (statements (step line stmt rest))) s fits p ends e = first_carries s.faulted c all line stmt rest s refl fits p
frame_carries c all (does (tree shape)) s fits p ends e = tree_carries c shape s p ends e
frame_carries c all (answers ret params args t) s fits p ends e = e
frame_carries c all (rejoins b l r) s fits p ends e = e
frame_carries c all (answers_main ret) s fits p ends e = e
frame_carries c all (allocates b n) s fits p ends e = e
frame_carries c all (awaits named assigned own parent) s fits p ends e =
    let pr : State = parent_of named (State.items (ended record_words s)) parent in
    let q : Single pr = parent_single named (State.items (ended record_words s)) parent ends.0 in
    let own_ends : PartEnds own pr = part_ends own parent pr refl ends.1 in
    (q, own_ends, (own_single c all own pr fits own_ends q, tt, e))
frame_carries c all (joins assigned child d) s fits p ends e = e

advance_carries : (c : Setting) → OwnsFunctions c.program c.program → (fs : List Frame) (s : State) → Fitting c fs s → Carries c fs s → CarriesPoint c (advance c (middle fs s))
unfolding advance Carries Fitting
advance_carries c all [] s fits p = p
advance_carries c all (f ∷ fs) s fits p =
    let m : Middle = step_of c f s in
    subst (λ k. CarriesPoint c k) (sym (advance_put c f fs s))
    (carries_append c m.frames fs m.state (frame_carries c all f s fits.0 p.0 p.1 (carried c fs (frame_done c f s) p.2))
    (subst (λ t. Carries c fs t) (sym (frame_finishes c f s)) p.2))

-- ---- the whole run

root_single : (c : Setting) → Single (root_start c)
root_single c = single_empty (root_start c) refl refl

main_carries : (c : Setting) (g : Func) → OwnsFunctions c.program c.program → OwnsFunction c.program g → begins g ≡ true → Single (frame_done c (answers_main g.ret) (run c g.body (root_start c)))
    → CarriesPoint c (run_start c (Some g))
unfolding Carries FrameEnds Agrees
main_carries c g all owns first e =
    let two = and_two (takes_nothing g.params) (not (hands_back g.ret)) first in
    let start : owns.0 ≡ [] = no_parameters g.line g.params owns.0 two.0 owns.1 in
    let end : Environment = owns.2.0 in
    let body : OwnsAll c.program g.body [] end = subst (λ (v : Environment). OwnsAll c.program g.body v end) start owns.2.1 in
    let holds : (y : Name) → count (root_start c).store.blocks y ≡ held_in [] y = λ y. none_counted y ∙ sym (empty_found held_entry y) in
    let r = ran_run c all g.body [] end (root_start c) body refl (λ y n. holds y) in
    before_carries c g.body (answers_main g.ret ∷ []) (root_start c) (root_single c) (
      single_run c all g.body (root_start c) (body_fits [] end body (λ y n. holds y)) (root_single c),
      main_ends c.program g end owns.2.2.0 (root_start c) (run c g.body (root_start c)) body holds two.1 owns.2.2.1 owns.2.2.2 r.way,
      e,
    )

pub carries_after : (c : Setting) → Ownership c.program → (n : ℕ) → CarriesPoint c (after_steps c n)
unfolding after_steps
carries_after c o zero =
    let g : Func = o.main.0 in
    let k = whole_closed c o in
    let ends : Single (main_run c (function_of c.program main_name) (root_start c)) = single_empty (main_run c (function_of c.program main_name) (root_start c)) k.empty k.alone in
    let main : Single (frame_done c (answers_main g.ret) (run c g.body (root_start c))) = subst (λ f. Single (main_run c f (root_start c))) o.main.1 ends in
    subst (λ f. CarriesPoint c (run_start c f)) (sym o.main.1)
    (main_carries c g o.functions (function_owned c.program c.program main_name g o.main.1 o.functions) o.main.2 main)
carries_after c o (suc n) = let m : Middle = after_steps c n in advance_carries c o.functions m.frames m.state (fits_after c o n) (carries_after c o n)

pub carries_at : (c : Setting) → Ownership c.program → (own : List Frame) (s : State) → (at : IsAt c own s) → Carries c (own ++ at.parents) s
carries_at c o own s at = subst (λ m. CarriesPoint c m) at.there (carries_after c o at.steps)

-- the next frame of a thread
pub next_carries : (c : Setting) → Ownership c.program → (f : Frame) (own : List Frame) (s : State) → IsAt c (f ∷ own) s → Single s × FrameEnds f s × Single (frame_done c f s)
unfolding Carries
next_carries c o f own s at = let p = carries_at c o (f ∷ own) s at in (p.0, p.1, carried c (own ++ at.parents) (frame_done c f s) p.2)
