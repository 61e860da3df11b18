-- At each point of a run of an accepted program, what is left to do fits what the thread holds.
use Rattle.std.specs.Prelude.{◌≡◌, ℕ, zero, suc, ◌≤◌, ◌||◌, nat_lt, nat_le, Bool, true, false, not, List, [], ◌∷◌, ◌++◌, length, take, Result, Ok, Err, Option, Some, None, ℤ, refl}
use Rattle.std.specs.Str.{bytes_eq}
use Rattle.std.proofs.Common.{sym, ◌∙◌, arith, subst}
use Rattle.thread_points.specs.Passed.FaultKind.{FaultKind}
use Rattle.depth_first_run.specs.Passed.Shapes.{leaf, forked}
use Rattle.depth_first_run.specs.Passed.Actions.{record_words}
use Rattle.depth_first_run.specs.Passed.Tree.{Name, Expr, Target, Arg, value, lend, give, Param, Ret, RetValue, gives, hands, Stmt, let_stmt, assign_stmt, put_stmt, alloc_stmt, free_stmt, if_stmt, while_stmt, call_stmt, print_stmt, par_stmt, split_stmt, Body, done, step, Func}
use Rattle.depth_first_run.specs.Passed.Environment.{Environment, opened}
use Rattle.depth_first_run.specs.Passed.Names.{names_in_expr, names_in_target, names_in_args, names_in_stmt, names_in_body}
use Rattle.depth_first_run.specs.Passed.Ownership.{HoldTheSame, Owns, OwnsAll, OwnsReturn, OwnsValue, OwnsFunction, OwnsFunctions, Ownership, Passes, function_of, main_name, begins, takes_nothing, hands_back}
use Rattle.depth_first_run.specs.Stores
use Rattle.depth_first_run.specs.Stores.{block_of, block_words}
use Rattle.depth_first_run.specs.Values as values
use Rattle.depth_first_run.specs.Values.{Outcome, is_true}
use Rattle.depth_first_run.specs.States
use Rattle.depth_first_run.specs.States.{Setting, State, with_item, child_of, parent_of, ended}
use Rattle.depth_first_run.specs.Calls.{Passing, all_passed, entered}
use Rattle.depth_first_run.specs.Run.{cut_of, cut_block, on_store, size_of, names_in, run, root_start}
use Rattle.depth_first_run.specs.Middle
use Rattle.depth_first_run.specs.Middle.{Part, statements, tree, Frame, does, answers, rejoins, answers_main, allocates, awaits, joins, frame_done, finish, Middle, middle, finished, step_with_number, step_alloc_within, step_alloc_words, step_alloc, before_all, step_branch, step_if, step_turn, step_round, step_while, step_body, step_open_call, step_call_with, step_call, step_par, step_cut, step_statement, step_first, step_frame, advance, run_start}
use Rattle.ownership_laws.specs.Counts.{count, held_in, lent_in, held_entry, lent_entry_of}
use Rattle.ownership_laws.specs.Needs.{needs_block, needed_by_value, needed_by_return, lent_to, end_needs}
use Rattle.thread_points.specs.Points.{after_steps}
use Rattle.ownership_laws.proofs.Counting.{hit_true, none_counted, empty_found, owned_block, same_name}
use Rattle.ownership_laws.proofs.Environments.{Follows, follows_take, held_at_most_one, held_the_same, lent_most}
use Rattle.ownership_laws.proofs.Tame.{tame_all, follows_all}
use Rattle.ownership_laws.proofs.Moves.{Way, stopped, went, Ran, ran_to}
use Rattle.ownership_laws.proofs.Passing.{taken_as, lent_as, lent_taken, or_left, or_right, Ready, NewNames, Apart, PassedWell, passed_well, params_held, function_owned}
use Rattle.ownership_laws.proofs.Statements.{Agrees, cut_count, parts_left}
use Rattle.ownership_laws.proofs.Owned.{and_two, or_none, ran_within, child_agrees, parent_agrees, split_ends, split_counts, split_agrees, no_parameters, ran_run}
use Rattle.ownership_laws.proofs.Needed.{or_cases, held_name, reads_held, needed_is_there}
use Rattle.depth_first_run.proofs.Stepping.{run_nothing}
use Rattle.thread_points.proofs.Putting.{frame_finishes, statement_finishes, statement_put, advance_put}

-- ---- what fits

-- a list of statements: it keeps the rules from an environment that says what the thread holds of its names
pub data FitsBody (c : Setting) (b : Body) (s : State) : Type 0 where
  body_over : s.faulted ≡ true → FitsBody c b s
  body_fits : (env after : Environment) → OwnsAll c.program b env after → Agrees (λ x. names_in_body x b) env s.store → FitsBody c b s

-- the end of a function: its `return` keeps the rules from an environment that says what the thread holds, and what was
-- lent is held
pub data FitsEnd (ret : Option Ret) (params : List Param) (args : List Arg) (s : State) : Type 0 where
  end_over : s.faulted ≡ true → FitsEnd ret params args s
  end_fits : (end after : Environment) → OwnsReturn ret end after → ((y : Name) → count s.store.blocks y ≡ held_in end y) → ((y : Name) → lent_to y params args ≡ true → held_in end y ≡ 1) → FitsEnd ret params args s

-- the end of a `split`: both parts are held
pub data FitsParts (l r : Name) (s : State) : Type 0 where
  parts_over : s.faulted ≡ true → FitsParts l r s
  parts_fit : count s.store.blocks l ≡ 1 → count s.store.blocks r ≡ 1 → FitsParts l r s

unfoldable pub FitsPart : Setting → Part → State → Type 0
FitsPart c (statements b) s = FitsBody c b s
FitsPart c (tree shape) s = Unit {0}

unfoldable pub FitsFrame : Setting → Frame → State → Type 0
FitsFrame c (does part) s = FitsPart c part s
FitsFrame c (answers ret params args t) s = FitsEnd ret params args s
FitsFrame c (rejoins b l r) s = FitsParts l r s
FitsFrame c (answers_main ret) s = FitsEnd ret [] [] s
FitsFrame c (allocates b n) s = Unit {0}
FitsFrame c (awaits named assigned own parent) s = FitsPart c own (parent_of named (ended record_words s).items parent)
FitsFrame c (joins assigned child d) s = Unit {0}

-- each frame fits the state that those before it come to
unfoldable pub Fitting : Setting → List Frame → State → Type 0
Fitting c [] s = Unit {0}
Fitting c (f ∷ fs) s = FitsFrame c f s × Fitting c fs (frame_done c f s)

abbrev pub FitsPoint : Setting → Middle → Type 0
FitsPoint c m = Fitting c m.frames m.state

-- frames that fit come before frames that fit what the former come to
fitting_append : (c : Setting) (fs gs : List Frame) (s : State) → Fitting c fs s → Fitting c gs (finish c fs s) → Fitting c (fs ++ gs) s
unfolding Fitting finish
fitting_append c [] gs s p q = q
fitting_append c (f ∷ fs) gs s p q = (p.0, fitting_append c fs gs (frame_done c f s) p.1 q)

-- ---- what is left behind a part of a run

body_behind : (c : Setting) (b : Body) (env mid after : Environment) (s t : State) → Way env mid s t → OwnsAll c.program b mid after → Agrees (λ x. names_in_body x b) env s.store → FitsBody c b t
unfolding Agrees
body_behind c b env mid after s t (stopped k) owns agrees = body_over k.faulted
body_behind c b env mid after s t (went m) owns agrees = body_fits mid after owns (λ x n. let a = m.counts x in let e = agrees x n in omega (arith, a, e))

end_behind : (ret : Option Ret) (params : List Param) (args : List Arg) (env end after : Environment) (s t : State) → Way env end s t → OwnsReturn ret end after
    → ((y : Name) → count s.store.blocks y ≡ held_in env y) → ((y : Name) → lent_to y params args ≡ true → held_in end y ≡ 1) → FitsEnd ret params args t
end_behind ret params args env end after s t (stopped k) owns holds lents = end_over k.faulted
end_behind ret params args env end after s t (went m) owns holds lents = end_fits end after owns (λ y. let a = m.counts y in let e = holds y in omega (arith, a, e)) lents

-- ---- what a statement puts

settled_fits : (c : Setting) (line : ℕ) (o : Outcome) (f : ℤ → List Frame → State → Middle) (s : State) → ((v : ℤ) → FitsPoint c (f v [] s)) → FitsPoint c (step_with_number line o f [] s)
unfolding Fitting
settled_fits c line (Ok v) f s k = k v
settled_fits c line (Err kind) f s k = tt

allocated_fits : (b : Bool) (c : Setting) (x : Name) (n : ℕ) (s : State) → FitsPoint c (step_alloc_within b c x n [] s)
unfolding Fitting FitsFrame FitsPart
allocated_fits true c x n s = tt
allocated_fits false c x n s = (tt, (tt, tt))

allocating_words_fits : (c : Setting) (line : ℕ) (x : Name) (o : Option ℕ) (s : State) → FitsPoint c (step_alloc_words c line x o [] s)
unfolding Fitting
allocating_words_fits c line x None s = tt
allocating_words_fits c line x (Some n) s = allocated_fits (nat_le (block_words n) c.quota) c x n s

-- a list of statements comes first, where there are any
before_fits : (c : Setting) (b : Body) (fs : List Frame) (s : State) → FitsBody c b s → Fitting c fs (run c b s) → Fitting c (before_all b fs) s
unfolding Fitting FitsFrame FitsPart
before_fits c done fs s p q = subst (λ t. Fitting c fs t) (run_nothing c s) q
before_fits c (step line stmt rest) fs s p q = (p, q)

branch_fits : (t : Bool) (c : Setting) (a b : Body) (s : State) → FitsBody c a s → FitsBody c b s → FitsPoint c (step_branch t a b [] s)
unfolding Fitting FitsFrame FitsPart
branch_fits true c a b s p q = before_fits c a [] s p tt
branch_fits false c a b s p q = before_fits c b [] s q tt

turning_fits : (c : Setting) (n line : ℕ) (ahead : List Frame) (s : State) → ((left : ℕ) → Fitting c ahead (record s { turns = left })) → FitsPoint c (step_turn n line ahead [] s)
unfolding Fitting
turning_fits c zero line ahead s k = tt
turning_fits c (suc left) line ahead s k = k left

-- a loop: its body, and the loop again behind it
pub loop_fits : (c : Setting) → OwnsFunctions c.program c.program → (line : ℕ) (e : Expr) (a : Body) (env after : Environment) (s : State) → Owns c.program line (while_stmt e a) env after
    → s.faulted ≡ false → Agrees (λ x. names_in_stmt x (while_stmt e a)) env s.store → FitsBody c a s × FitsBody c (step line (while_stmt e a) done) (run c a s)
unfolding Agrees
loop_fits c all line e a env after s h f agrees =
    let end : Environment = h.1.1.0 in
    let fol : Follows env end = follows_all c.program a env end h.1.1.1 in
    let taken : Environment = take (length env) end in
    let same : HoldTheSame env taken = subst (λ (v : Environment). HoldTheSame env v) h.1.1.3 h.1.2 in
    let inside : Agrees (λ x. names_in_body x a) env s.store = λ x n. agrees x (or_right (names_in_expr x e) (names_in_body x a) n) in
    let r : Ran env env s (run c a s) =
    ran_to env taken env s (run c a s) (λ x. sym (held_the_same env taken x (follows_take env end fol) same))
    (ran_within env end s (run c a s) fol h.1.1.2 (ran_run c all a env end s h.1.1.1 f inside)) in (
      body_fits env end h.1.1.1 inside,
      body_behind c (step line (while_stmt e a) done) env env env s (run c a s) r.way (env, (h.0, h.1, refl), refl) (λ x n. agrees x (or_none (names_in_expr x e || names_in_body x a) n)),
    )

round_fits : (b : Bool) (c : Setting) (line : ℕ) (e : Expr) (a : Body) (s : State)
    → ((left : ℕ) → FitsBody c a (record s { turns = left }) × FitsBody c (step line (while_stmt e a) done) (run c a (record s { turns = left }))) → FitsPoint c (step_round b line e a [] s)
unfolding Fitting FitsFrame FitsPart
round_fits true c line e a s k =
    let again : Body = step line (while_stmt e a) done in
    turning_fits c s.turns line (before_all a (before_all again [])) s
    (λ left. let p = k left in let u : State = record s { turns = left } in before_fits c a (before_all again []) u p.0 (before_fits c again [] (run c a u) p.1 tt))
round_fits false c line e a s k = tt

-- a call: the body of its function, and its end behind it
lent_to_as : (y : Name) (params : List Param) (args : List Arg) → lent_to y params args ≡ true → 1 ≤ lent_as params args y
unfolding lent_as
lent_to_as y [] args h = let never : ⊥ = cc in absurd never
lent_to_as y (q ∷ qs) [] h = let never : ⊥ = cc in absurd never
lent_to_as y (q ∷ qs) (value e ∷ args) h = lent_to_as y qs args h
lent_to_as y (q ∷ qs) (lend b ∷ args) h =
    or_cases (bytes_eq q.name y) (lent_to y qs args) h (λ e. let t = hit_true q.name y e in omega (arith, t)) (λ e. let r = lent_to_as y qs args e in omega (arith, r))
lent_to_as y (q ∷ qs) (give b ∷ args) h = lent_to_as y qs args h

pub function_fits : (c : Setting) → OwnsFunctions c.program c.program → (env : Environment) (g : Func) (args : List Arg) (s : State) → OwnsFunction c.program g → Passes env [] g.params args
    → s.faulted ≡ false → ((y : Name) → count s.store.blocks y ≡ taken_as g.params args y) → FitsBody c g.body s × FitsEnd g.ret g.params args (run c g.body s)
unfolding Agrees
function_fits c all env g args s owns passes f taken =
    let start : Environment = owns.0 in let end : Environment = owns.2.0 in
    let held : (y : Name) → held_in start y ≡ taken_as g.params args y =
    λ y. let p = (params_held g.line env [] g.params args [] start y owns.1 passes).0 in let z = empty_found held_entry y in omega (arith, p, z) in
    let lent : (y : Name) → lent_in start y ≡ lent_as g.params args y =
    λ y. let p = (params_held g.line env [] g.params args [] start y owns.1 passes).1 in let z = empty_found lent_entry_of y in omega (arith, p, z) in
    let holds : (y : Name) → count s.store.blocks y ≡ held_in start y = λ y. taken y ∙ sym (held y) in
    let r : Ran start end s (run c g.body s) = ran_run c all g.body start end s owns.2.1 f (λ y n. holds y) in (
      body_fits start end owns.2.1 (λ y n. holds y),
      end_behind g.ret g.params args start end owns.2.2.0 s (run c g.body s) r.way owns.2.2.1 holds
          (λ y n.
          let le = lent_to_as y g.params args n in
          let l = lent y in let m = lent_most start y in let t = lent_taken g.params args y in
          let h = held y in let o = held_at_most_one start y in
          (tame_all c.program g.body start end y owns.2.1).lents (omega (arith, le, l, m)) ∙ omega (arith, le, t, h, o)),
    )

body_at_fits : (c : Setting) (n line : ℕ) (t : Target) (args : List Arg) (g : Func) (h : Passing) (s : State)
    → ((left : ℕ) → FitsBody c g.body (entered h (record s { turns = left })) × FitsEnd g.ret g.params args (run c g.body (entered h (record s { turns = left })))) → FitsPoint c (step_body n line t args g h [] s)
unfolding Fitting FitsFrame FitsPart
body_at_fits c zero line t args g h s k = tt
body_at_fits c (suc left) line t args g h s k = let p = k left in before_fits c g.body (answers g.ret g.params args t ∷ []) (entered h (record s { turns = left })) p.0 (p.1, tt)

opening_fits : (b : Bool) (c : Setting) (line : ℕ) (t : Target) (args : List Arg) (g : Func) (h : Passing) (s : State)
    → ((left : ℕ) → FitsBody c g.body (entered h (record s { turns = left })) × FitsEnd g.ret g.params args (run c g.body (entered h (record s { turns = left })))) → FitsPoint c (step_open_call b line t args g h [] s)
unfolding Fitting
opening_fits true c line t args g h s k = body_at_fits c s.turns line t args g h s k
opening_fits false c line t args g h s k = tt

calling_with_fits : (c : Setting) → OwnsFunctions c.program c.program → (env : Environment) (line : ℕ) (t : Target) (args : List Arg) (g : Func) (r : Result Passing FaultKind) (s : State)
    → OwnsFunction c.program g → Passes env [] g.params args → s.faulted ≡ false → PassedWell g.params args (record { callee = Stores.nothing; caller = s.store }) r
    → FitsPoint c (step_call_with c line t args g r [] s)
unfolding Fitting PassedWell
calling_with_fits c all env line t args g (Err kind) s owns passes f well = tt
calling_with_fits c all env line t args g (Ok h) s owns passes f well =
    opening_fits (nat_lt s.calls c.most_calls) c line t args g h s
    (λ left. function_fits c all env g args (entered h (record s { turns = left })) owns passes f (λ y. let a = well.callee y in let z = none_counted y in omega (arith, a, z)))

calling_fits : (c : Setting) → OwnsFunctions c.program c.program → (line : ℕ) (t : Target) (f : Name) (args : List Arg) (env after : Environment) (s : State)
    → Owns c.program line (call_stmt t f args) env after → s.faulted ≡ false → Agrees (λ x. names_in_stmt x (call_stmt t f args)) env s.store → FitsPoint c (step_call c line t args (function_of c.program f) [] s)
unfolding Agrees Ready NewNames
calling_fits c all line t f args env after s h running agrees =
    let g : Func = h.1.0 in
    let owns : OwnsFunction c.program g = function_owned c.program c.program f g h.1.1 all in
    let k : Passing = record { callee = Stores.nothing; caller = s.store } in
    let apart : Apart g.params args = (params_held g.line env [] g.params args [] owns.0 [] owns.1 h.1.3).3 in
    let well : PassedWell g.params args k (all_passed s.store g.params args) =
    passed_well s.store env [] g.params args k h.1.3 apart (λ x b held n. agrees x (or_right (names_in_target x t) (names_in_args x args) n) ∙ held) (λ y le. none_counted y) in
    subst (λ o. FitsPoint c (step_call c line t args o [] s)) (sym h.1.1) (calling_with_fits c all env line t args g (all_passed s.store g.params args) s owns h.1.3 running well)

-- a Fork: the child's part, and the parent's own part behind it
both_fits : (v : Bool) (c : Setting) (line : ℕ) (a b : Body) (env after : Environment) (s : State) → Owns c.program line (par_stmt a b) env after
    → Agrees (λ x. names_in_stmt x (par_stmt a b)) env s.store → FitsPoint c (step_par v c line a b [] s)
unfolding Fitting FitsFrame FitsPart
both_fits false c line a b env after s h agrees = tt
both_fits true c line a b env after s h agrees =
    let d : State = ended record_words (run c a (child_of c (names_in a) s)) in (
      body_fits env h.1.1.0 h.1.1.1 (child_agrees a (λ x. names_in_stmt x (par_stmt a b)) env s c agrees (λ x n. or_left (names_in_body x a) (names_in_body x b) n)),
      (
        body_fits env h.1.2.1.0 h.1.2.1.1 (parent_agrees a b (λ x. names_in_stmt x (par_stmt a b)) env s d.items h.0 agrees (λ x n. or_right (names_in_body x a) (names_in_body x b) n)),
        tt,
      ),
    )

-- a cut: the body, and the end of the `split` behind it
parts_behind : (c : Setting) (line : ℕ) (b : Name) (e : Expr) (l r : Name) (a : Body) (env after : Environment) (at : ℕ) (s t : State) (h : Owns c.program line (split_stmt b e l r a) env after)
    → Agrees (λ x. names_in_stmt x (split_stmt b e l r a)) env s.store → Way (opened env b l r line) h.4.1.0 (on_store (cut_block b l r at) s) t → FitsParts l r t
parts_behind c line b e l r a env after at s t h agrees (stopped k) = parts_over k.faulted
parts_behind c line b e l r a env after at s t h agrees (went m) =
    let ends = split_ends c.program line b e l r a env after h in
    let n = split_counts c.program line b e l r a env after s h agrees in
    let two = parts_left env h.4.1.0 b l r line at s t ends n.0 n.1 n.2 m in
    parts_fit two.0 two.1

cut_fits : (c : Setting) → OwnsFunctions c.program c.program → (line : ℕ) (b : Name) (e : Expr) (l r : Name) (a : Body) (o : Option ℕ) (env after : Environment) (s : State)
    → Owns c.program line (split_stmt b e l r a) env after → s.faulted ≡ false → Agrees (λ x. names_in_stmt x (split_stmt b e l r a)) env s.store → FitsPoint c (step_cut line b l r a o [] s)
unfolding Fitting FitsFrame FitsPart
cut_fits c all line b e l r a None env after s h f agrees = tt
cut_fits c all line b e l r a (Some at) env after s h f agrees =
    let u : State = on_store (cut_block b l r at) s in
    let inner : Environment = opened env b l r line in
    let n = split_counts c.program line b e l r a env after s h agrees in
    let inside : Agrees (λ x. names_in_body x a) inner u.store =
    split_agrees c.program line b e l r a env after s u h agrees (λ x. cut_count b l r at s.store x n.0) in
    let way = (ran_run c all a inner h.4.1.0 u h.4.1.1 f inside).way in
    before_fits c a (rejoins b l r ∷ []) u (body_fits inner h.4.1.0 h.4.1.1 inside) (parts_behind c line b e l r a env after at s (run c a u) h agrees way, tt)

statement_fits : (c : Setting) → OwnsFunctions c.program c.program → (line : ℕ) (stmt : Stmt) (env after : Environment) (s : State) → Owns c.program line stmt env after
    → s.faulted ≡ false → Agrees (λ x. names_in_stmt x stmt) env s.store → FitsPoint c (step_statement c line stmt [] s)
unfolding Fitting Agrees
statement_fits c all line (let_stmt x e) env after s h f agrees = tt
statement_fits c all line (assign_stmt x e) env after s h f agrees = tt
statement_fits c all line (put_stmt b i e) env after s h f agrees = tt
statement_fits c all line (alloc_stmt b e) env after s h f agrees =
    settled_fits c line (values.value s.store e) (step_alloc c line b) s (λ v. allocating_words_fits c line b (size_of v) s)
statement_fits c all line (free_stmt b) env after s h f agrees = tt
statement_fits c all line (if_stmt e a b) env after s h f agrees =
    settled_fits c line (values.value s.store e) (step_if a b) s
    (λ v. branch_fits (is_true v) c a b s
    (body_fits env h.1.0 h.1.1 (λ x n. agrees x (or_right (names_in_expr x e) (names_in_body x a || names_in_body x b) (or_left (names_in_body x a) (names_in_body x b) n))))
    (body_fits env h.2.1.0 h.2.1.1 (λ x n. agrees x (or_right (names_in_expr x e) (names_in_body x a || names_in_body x b) (or_right (names_in_body x a) (names_in_body x b) n)))))
statement_fits c all line (while_stmt e a) env after s h f agrees =
    settled_fits c line (values.value s.store e) (step_while line e a) s
    (λ v. round_fits (is_true v) c line e a s (λ left. loop_fits c all line e a env after (record s { turns = left }) h f agrees))
statement_fits c all line (call_stmt t g args) env after s h f agrees = calling_fits c all line t g args env after s h f agrees
statement_fits c all line (print_stmt e) env after s h f agrees = tt
statement_fits c all line (par_stmt a b) env after s h f agrees = both_fits (nat_lt (length s.label) c.most_forks) c line a b env after s h agrees
statement_fits c all line (split_stmt b e l r a) env after s h f agrees =
    settled_fits c line (values.value s.store e) (Middle.step_split line b l r a) s
    (λ v. cut_fits c all line b e l r a (cut_of (block_of s.store.blocks b) v) env after s h f agrees)

-- ---- a step

pub rest_fits : (c : Setting) → OwnsFunctions c.program c.program → (line : ℕ) (stmt : Stmt) (rest : Body) (env after : Environment) (s : State) → OwnsAll c.program (step line stmt rest) env after
    → s.faulted ≡ false → Agrees (λ x. names_in_body x (step line stmt rest)) env s.store → FitsBody c rest (run c (step line stmt done) s)
unfolding Agrees
rest_fits c all line stmt rest env after s h f agrees =
    let r : Ran env h.0 s (run c (step line stmt done) s) =
    ran_run c all (step line stmt done) env h.0 s (h.0, h.1, refl) f (λ x n. agrees x (or_left (names_in_stmt x stmt) (names_in_body x rest) (or_none (names_in_stmt x stmt) n))) in
    body_behind c rest env h.0 after s (run c (step line stmt done) s) r.way h.2 (λ x n. agrees x (or_right (names_in_stmt x stmt) (names_in_body x rest) n))

pub not_both : {P : Type 0} (b : Bool) → b ≡ true → b ≡ false → P
not_both true t f = let never : ⊥ = cc in absurd never
not_both false t f = let never : ⊥ = cc in absurd never

first_fits : (v : Bool) (c : Setting) → OwnsFunctions c.program c.program → (line : ℕ) (stmt : Stmt) (rest : Body) (s : State) → s.faulted ≡ v
    → FitsBody c (step line stmt rest) s → FitsPoint c (step_first v c line stmt rest [] s)
unfolding Fitting FitsFrame FitsPart Agrees
first_fits true c all line stmt rest s e p = tt
first_fits false c all line stmt rest s e (body_over k) = not_both s.faulted k e
first_fits false c all line stmt rest s e (body_fits env after owns agrees) =
    let u : State = with_item (States.began line) s in
    let m : Middle = step_statement c line stmt [] u in
    subst (λ k. FitsPoint c k) (sym (statement_put c line stmt (before_all rest []) u))
    (fitting_append c m.frames (before_all rest []) m.state
    (statement_fits c all line stmt env owns.0 u owns.1 e (λ x n. agrees x (or_left (names_in_stmt x stmt) (names_in_body x rest) n)))
    (subst (λ t. Fitting c (before_all rest []) t) (sym (statement_finishes c line stmt s e))
    (before_fits c rest [] (run c (step line stmt done) s) (rest_fits c all line stmt rest env after s owns e agrees) tt)))

frame_fits : (c : Setting) → OwnsFunctions c.program c.program → (f : Frame) (s : State) → FitsFrame c f s → FitsPoint c (step_frame c f [] s)
unfolding Fitting FitsFrame FitsPart
frame_fits c all (does (statements done)) s p = tt
frame_fits c all (does (statements (step line stmt rest))) s p = first_fits s.faulted c all line stmt rest s refl p
frame_fits c all (does (tree leaf)) s p = tt
frame_fits c all (does (tree (forked child own))) s p = (tt, (tt, tt))
frame_fits c all (answers ret params args t) s p = tt
frame_fits c all (rejoins b l r) s p = tt
frame_fits c all (answers_main ret) s p = tt
frame_fits c all (allocates b n) s p = tt
frame_fits c all (awaits named assigned own parent) s p = (p, (tt, tt))
frame_fits c all (joins assigned child d) s p = tt

advance_fits : (c : Setting) → OwnsFunctions c.program c.program → (fs : List Frame) (s : State) → Fitting c fs s → FitsPoint c (advance c (middle fs s))
unfolding advance Fitting
advance_fits c all [] s p = tt
advance_fits c all (f ∷ fs) s p =
    let m : Middle = step_frame c f [] s in
    subst (λ k. FitsPoint c k) (sym (advance_put c f fs s))
    (fitting_append c m.frames fs m.state (frame_fits c all f s p.0) (subst (λ t. Fitting c fs t) (sym (frame_finishes c f s)) p.1))

-- ---- the whole run

main_fits : (c : Setting) (g : Func) → OwnsFunctions c.program c.program → OwnsFunction c.program g → begins g ≡ true → FitsPoint c (run_start c (Some g))
unfolding Fitting FitsFrame FitsPart Agrees
main_fits c g all owns first =
    let start : owns.0 ≡ [] = no_parameters g.line g.params owns.0 (and_two (takes_nothing g.params) (not (hands_back g.ret)) first).0 owns.1 in
    let end : Environment = owns.2.0 in
    let body : OwnsAll c.program g.body [] end = subst (λ (v : Environment). OwnsAll c.program g.body v end) start owns.2.1 in
    let holds : (y : Name) → count (root_start c).store.blocks y ≡ held_in [] y = λ y. none_counted y ∙ sym (empty_found held_entry y) in
    let r : Ran [] end (root_start c) (run c g.body (root_start c)) = ran_run c all g.body [] end (root_start c) body refl (λ y n. holds y) in
    before_fits c g.body (answers_main g.ret ∷ []) (root_start c) (body_fits [] end body (λ y n. holds y))
    (end_behind g.ret [] [] [] end owns.2.2.0 (root_start c) (run c g.body (root_start c)) r.way owns.2.2.1 holds (λ y n. let never : ⊥ = cc in absurd never), tt)

pub fits_after : (c : Setting) → Ownership c.program → (n : ℕ) → FitsPoint c (after_steps c n)
unfolding after_steps
fits_after c o zero =
    let g : Func = o.main.0 in
    subst (λ f. FitsPoint c (run_start c f)) (sym o.main.1) (main_fits c g o.functions (function_owned c.program c.program main_name g o.main.1 o.functions) o.main.2)
fits_after c o (suc n) = let m : Middle = after_steps c n in advance_fits c o.functions m.frames m.state (fits_after c o n)

next_fits : (c : Setting) → Ownership c.program → (n : ℕ) (f : Frame) (fs : List Frame) (s : State) → after_steps c n ≡ middle (f ∷ fs) s → FitsFrame c f s
unfolding Fitting
next_fits c o n f fs s e = (subst (λ m. FitsPoint c m) e (fits_after c o n)).0

-- ---- what a reader has

pub keeps_at : (c : Setting) → Ownership c.program → (n line : ℕ) (stmt : Stmt) (rest : Body) (fs : List Frame) (s : State)
    → after_steps c n ≡ middle (does (statements (step line stmt rest)) ∷ fs) s → s.faulted ≡ false
    → (env : Environment) × (after : Environment) × Owns c.program line stmt env after × ((x : Name) → names_in_stmt x stmt ≡ true → count s.store.blocks x ≡ held_in env x)
unfolding FitsFrame FitsPart Agrees
keeps_at c o n line stmt rest fs s e f = by (next_fits c o n (does (statements (step line stmt rest))) fs s e)
  where
    by : FitsBody c (step line stmt rest) s → (env : Environment) × (after : Environment) × Owns c.program line stmt env after × ((x : Name) → names_in_stmt x stmt ≡ true → count s.store.blocks x ≡ held_in env x)
    by (body_over k) = not_both s.faulted k f
    by (body_fits env after owns agrees) = (env, owns.0, owns.1, λ x n. agrees x (or_left (names_in_stmt x stmt) (names_in_body x rest) n))

pub finds_at : (c : Setting) → Ownership c.program → (n line : ℕ) (stmt : Stmt) (rest : Body) (fs : List Frame) (s : State)
    → after_steps c n ≡ middle (does (statements (step line stmt rest)) ∷ fs) s → s.faulted ≡ false → (x : Name) → needs_block x stmt ≡ true → count s.store.blocks x ≡ 1
finds_at c o n line stmt rest fs s e f x needs =
    let k = keeps_at c o n line stmt rest fs s e f in needed_is_there c.program line stmt k.0 k.1 s k.2 k.3 x needs

return_held : (ret : Option Ret) (end after : Environment) (x : Name) → OwnsReturn ret end after → needed_by_return x ret ≡ true → held_in end x ≡ 1
return_held None end after x owns h = let never : ⊥ = cc in absurd never
return_held (Some r) end after x owns h = by r.value owns h
  where
    by : (v : RetValue) → OwnsValue v end after → needed_by_value x v ≡ true → held_in end x ≡ 1
    by (gives e) own n = reads_held end x e own.0 n
    by (hands b) own n = held_name end b x (owned_block end b own.0).0 n

end_found : (ret : Option Ret) (params : List Param) (args : List Arg) (s : State) (x : Name) → FitsEnd ret params args s → s.faulted ≡ false → (needed_by_return x ret || lent_to x params args) ≡ true
    → count s.store.blocks x ≡ 1
end_found ret params args s x (end_over k) f h = not_both s.faulted k f
end_found ret params args s x (end_fits end after owns holds lents) f h =
    or_cases (needed_by_return x ret) (lent_to x params args) h (λ n. holds x ∙ return_held ret end after x owns n) (λ n. holds x ∙ lents x n)

parts_found : (l r : Name) (s : State) (x : Name) → FitsParts l r s → s.faulted ≡ false → (bytes_eq l x || bytes_eq r x) ≡ true → count s.store.blocks x ≡ 1
parts_found l r s x (parts_over k) f h = not_both s.faulted k f
parts_found l r s x (parts_fit p q) f h =
    or_cases (bytes_eq l x) (bytes_eq r x) h (λ e. subst (λ (n : Name). count s.store.blocks n ≡ 1) (same_name l x e) p) (λ e. subst (λ (n : Name). count s.store.blocks n ≡ 1) (same_name r x e) q)

frame_found : (c : Setting) (f : Frame) (s : State) (x : Name) → FitsFrame c f s → s.faulted ≡ false → end_needs x f ≡ true → count s.store.blocks x ≡ 1
unfolding FitsFrame
frame_found c (does part) s x p f h = let never : ⊥ = cc in absurd never
frame_found c (answers ret params args t) s x p f h = end_found ret params args s x p f h
frame_found c (rejoins b l r) s x p f h = parts_found l r s x p f h
frame_found c (answers_main ret) s x p f h = end_found ret [] [] s x p f (or_left (needed_by_return x ret) false h)
frame_found c (allocates b n) s x p f h = let never : ⊥ = cc in absurd never
frame_found c (awaits named assigned own parent) s x p f h = let never : ⊥ = cc in absurd never
frame_found c (joins assigned child d) s x p f h = let never : ⊥ = cc in absurd never

pub end_finds_at : (c : Setting) → Ownership c.program → (n : ℕ) (f : Frame) (fs : List Frame) (s : State) → after_steps c n ≡ middle (f ∷ fs) s → s.faulted ≡ false
    → (x : Name) → end_needs x f ≡ true → count s.store.blocks x ≡ 1
end_finds_at c o n f fs s e running x needs = frame_found c f s x (next_fits c o n f fs s e) running needs
