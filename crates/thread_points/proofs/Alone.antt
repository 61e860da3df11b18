-- Each step of an own frame changes its thread alone, or forks a child.
use Rattle.std.specs.Prelude.{◌≡◌, ℕ, zero, suc, ◌<◌, nat_lt, nat_le, ◌⊎◌, Bool, true, false, List, [], ◌∷◌, ◌++◌, length, ℤ, Result, Ok, Err, Option, Some, None, refl}
use Rattle.std.proofs.Common.{sym, ◌∙◌, ap, arith, subst, inl, inr, append_assoc, append-nil}
use Rattle.std.proofs.lemmas.Bool.{lt-ltb}
use Rattle.dag_order.specs.declared.fault.FaultKind.{FaultKind}
use Rattle.depth_first_run.specs.Passed.Shapes.{Shape, leaf, forked}
use Rattle.depth_first_run.specs.Passed.Actions as actions
use Rattle.depth_first_run.specs.Passed.Tree.{Name, Expr, Target, Arg, Param, Stmt, let_stmt, assign_stmt, put_stmt, alloc_stmt, free_stmt, if_stmt, while_stmt, call_stmt, print_stmt, par_stmt, split_stmt, Body, done, step, Func, Ret, RetValue, gives, hands}
use Rattle.depth_first_run.specs.Passed.Ownership.{function_of}
use Rattle.depth_first_run.specs.Stores as stores
use Rattle.depth_first_run.specs.Stores.{block_of, block_words, drop_block}
use Rattle.depth_first_run.specs.Values.{Outcome, value, is_true, place_in}
use Rattle.depth_first_run.specs.States.{Setting, State, Item, began, printed, failed, next_action, with_item, with_action, with_fault, unless_faulted, skip_if, with_number, joined, with_result, given_back, holdings}
use Rattle.depth_first_run.specs.Calls.{Passing, all_passed, entered, Answer, number, items, with_answer, with_return, as_number, returned, end_call}
use Rattle.depth_first_run.specs.Run.{on_store, set_integer, put_number, put_in_place, put_value, print_number, size_of, free_block, cut_of, cut_block, rejoin_block, names_in, assigns_in, no_name, ignore_answer}
use Rattle.depth_first_run.specs.Middle
use Rattle.depth_first_run.specs.Middle.{statements, tree, Part, Frame, does, answers, rejoins, answers_main, allocates, awaits, joins, allocated, Middle, middle, step_with_number, step_alloc_within, step_alloc_words, step_alloc, before_all, step_branch, step_if, step_turn, step_round, step_while, step_body, step_open_call, step_call_with, step_call, step_fork, step_par, step_cut, step_statement, step_first, step_part, step_frame}
use Rattle.thread_points.specs.Points.{Each, IsOwn, IsPlain, IsAlone, Forks, marked, StepsAlone, StepForks}
use Rattle.thread_points.proofs.Walking.{before_plain}

-- ---- what changes a thread alone

-- no item and no action
lone_quiet : (s : State) (fs : List Frame) (t : State) → Each IsPlain fs → t.items ≡ s.items → t.label ≡ s.label → t.done ≡ s.done → t.forks ≡ s.forks → IsAlone s (middle fs t)
lone_quiet s fs t p i l d f = record { plain = p; new = []; grown = i ∙ sym (append-nil s.items); next = tt; same_label = l; counted = omega (arith, d); same_forks = f }

-- an action, and what is changed behind it but its item
lone_acting : (deed : actions.Deed) (words : ℕ) (s : State) (fs : List Frame) (t : State) → Each IsPlain fs → t.items ≡ s.items ++ next_action deed words s ∷ []
    → t.label ≡ s.label → t.done ≡ suc s.done → t.forks ≡ s.forks → IsAlone s (middle fs t)
lone_acting deed words s fs t p i l d f =
    record { plain = p; new = next_action deed words s ∷ []; grown = i; next = (refl, refl); same_label = l; counted = omega (arith, d); same_forks = f }

lone_faulting : (kind : FaultKind) (line : ℕ) (fs : List Frame) (s : State) → Each IsPlain fs → IsAlone s (middle fs (with_fault kind line s))
unfolding with_fault with_action
lone_faulting kind line fs s p =
    let a : Item = next_action actions.faults (holdings s) s in
    let f : Item = failed (record { kind = kind; line = line }) in
    record { plain = p; new = a ∷ f ∷ []; grown = append_assoc s.items (a ∷ []) (f ∷ []); next = (refl, refl); same_label = refl; counted = omega arith; same_forks = refl }

lone_printing : (v : ℤ) (fs : List Frame) (s : State) → Each IsPlain fs → IsAlone s (middle fs (print_number v s))
lone_printing v fs s p = record { plain = p; new = printed v ∷ []; grown = refl; next = tt; same_label = refl; counted = omega arith; same_forks = refl }

lone_settled : (line : ℕ) (o : Outcome) (f : ℤ → State → State) (fs : List Frame) (s : State) → Each IsPlain fs → ((v : ℤ) → IsAlone s (middle fs (f v s))) → IsAlone s (middle fs (with_number line o f s))
unfolding with_number
lone_settled line (Ok v) f fs s p all = all v
lone_settled line (Err kind) f fs s p all = lone_faulting kind line fs s p

lone_choosing : (b : Bool) (f : State → State) (fs : List Frame) (s : State) → Each IsPlain fs → IsAlone s (middle fs (f s)) → IsAlone s (middle fs (skip_if b f s))
lone_choosing true f fs s p one = lone_quiet s fs s p refl refl refl refl
lone_choosing false f fs s p one = one

lone_unless : (f : State → State) (fs : List Frame) (s : State) → Each IsPlain fs → IsAlone s (middle fs (f s)) → IsAlone s (middle fs (unless_faulted f s))
unfolding unless_faulted
lone_unless f fs s p one = lone_choosing s.faulted f fs s p one

lone_putting_at : (line : ℕ) (b : Name) (v : ℤ) (place : Option ℕ) (fs : List Frame) (s : State) → Each IsPlain fs → IsAlone s (middle fs (put_in_place line b v place s))
lone_putting_at line b v None fs s p = lone_faulting _ line fs s p
lone_putting_at line b v (Some i) fs s p = lone_quiet s fs (put_in_place line b v (Some i) s) p refl refl refl refl

lone_putting_value : (line : ℕ) (b : Name) (e : Expr) (i : ℤ) (fs : List Frame) (s : State) → Each IsPlain fs → IsAlone s (middle fs (put_value line b e i s))
lone_putting_value line b e i fs s p =
    lone_settled line (value s.store e) (put_number line b i) fs s p (λ v. lone_putting_at line b v (place_in (block_of s.store.blocks b) i) fs s p)

-- ---- the end of a call

-- what is only counted of a state
record Same (s t : State) : Type 0 where
  items : t.items ≡ s.items
  label : t.label ≡ s.label
  done_so_far : t.done ≡ s.done
  forks : t.forks ≡ s.forks

lone_same : (s : State) (fs : List Frame) (t : State) → Each IsPlain fs → Same s t → IsAlone s (middle fs t)
lone_same s fs t p k = lone_quiet s fs t p k.items k.label k.done_so_far k.forks

same_closing : (callers : List stores.Store) (params : List Param) (args : List Arg) (t : Target) (answer : Answer) (s : State) → Same s (end_call callers params args t answer s)
same_closing [] params args t answer s = record { items = refl; label = refl; done_so_far = refl; forks = refl }
same_closing (caller ∷ callers) params args t answer s = record { items = refl; label = refl; done_so_far = refl; forks = refl }

same_returned : (params : List Param) (args : List Arg) (t : Target) (answer : Answer) (s : State) → Same s (returned params args t answer s)
unfolding returned
same_returned params args t answer s = same_closing s.callers params args t answer s

lone_answering_value : (line : ℕ) (r : RetValue) (next : Answer → State → State) (fs : List Frame) (s : State) → Each IsPlain fs → ((a : Answer) (t : State) → Same t (next a t))
    → IsAlone s (middle fs (with_return line r next s))
lone_answering_value line (gives e) next fs s p same =
    lone_settled line (value s.store e) (as_number next) fs s p (λ v. lone_same s fs (next (number v) s) p (same (number v) s))
lone_answering_value line (hands b) next fs s p same =
    let t : State = record s { store = drop_block b s.store } in
    let a : Answer = items (block_of s.store.blocks b) in
    let k : Same t (next a t) = same a t in
    lone_quiet s fs (next a t) p k.items k.label k.done_so_far k.forks

lone_answering : (ret : Option Ret) (next : Answer → State → State) (fs : List Frame) (s : State) → Each IsPlain fs → ((a : Answer) (t : State) → Same t (next a t))
    → IsAlone s (middle fs (with_answer ret next s))
unfolding with_answer
lone_answering None next fs s p same = lone_same s fs (next (number _) s) p (same (number _) s)
lone_answering (Some r) next fs s p same = lone_answering_value r.line r.value next fs s p same

-- ---- a Join

same_taking : (a b : Bool) (assigned : Name → Bool) (d s : State) → Same s (with_result a b assigned d s)
same_taking true b assigned d s = record { items = refl; label = refl; done_so_far = refl; forks = refl }
same_taking false true assigned d s = record { items = refl; label = refl; done_so_far = refl; forks = refl }
same_taking false false assigned d s = record { items = refl; label = refl; done_so_far = refl; forks = refl }

pub lone_joined : (assigned : Name → Bool) (child : ℕ) (d : State) (fs : List Frame) (s : State) → Each IsPlain fs → IsAlone s (middle fs (joined assigned child d s))
unfolding joined with_action
lone_joined assigned child d fs s p =
    let words = given_back s.faulted d.faulted d s in
    let t : State = with_action (actions.joins child) words s in
    let k : Same t (joined assigned child d s) = same_taking s.faulted d.faulted assigned d t in
    lone_acting (actions.joins child) words s fs (joined assigned child d s) p k.items k.label k.done_so_far k.forks

-- it leaves its action
pub joined_grown : (assigned : Name → Bool) (child : ℕ) (d s : State) → State.items (joined assigned child d s) ≡ s.items ++ next_action (actions.joins child) (given_back s.faulted d.faulted d s) s ∷ []
unfolding joined with_action
joined_grown assigned child d s = (same_taking s.faulted d.faulted assigned d (with_action (actions.joins child) (given_back s.faulted d.faulted d s) s)).items

pub joined_label : (assigned : Name → Bool) (child : ℕ) (d s : State) → State.label (joined assigned child d s) ≡ s.label
unfolding joined with_action
joined_label assigned child d s = (same_taking s.faulted d.faulted assigned d (with_action (actions.joins child) (given_back s.faulted d.faulted d s) s)).label

-- ---- statements

lone_settled_at : (line : ℕ) (o : Outcome) (f : ℤ → List Frame → State → Middle) (fs : List Frame) (s : State) → Each IsPlain fs → ((v : ℤ) → IsAlone s (f v fs s)) → IsAlone s (step_with_number line o f fs s)
lone_settled_at line (Ok v) f fs s p all = all v
lone_settled_at line (Err kind) f fs s p all = lone_faulting kind line fs s p

lone_allocated : (b : Name) (n : ℕ) (fs : List Frame) (s : State) → Each IsPlain fs → IsAlone s (middle fs (allocated b n s))
unfolding with_action
lone_allocated b n fs s p = lone_acting actions.allocates (block_words n) s fs (allocated b n s) p refl refl refl refl

lone_allocated_at : (b : Bool) (c : Setting) (x : Name) (n : ℕ) (fs : List Frame) (s : State) → Each IsPlain fs → IsAlone s (step_alloc_within b c x n fs s)
lone_allocated_at true c x n fs s p = lone_allocated x n fs s p
lone_allocated_at false c x n fs s p = lone_quiet s _ s (tt, (tt, p)) refl refl refl refl

lone_allocating_words_at : (c : Setting) (line : ℕ) (x : Name) (o : Option ℕ) (fs : List Frame) (s : State) → Each IsPlain fs → IsAlone s (step_alloc_words c line x o fs s)
lone_allocating_words_at c line x None fs s p = lone_faulting _ line fs s p
lone_allocating_words_at c line x (Some n) fs s p = lone_allocated_at (nat_le (block_words n) c.quota) c x n fs s p

lone_branch_at : (b : Bool) (x y : Body) (fs : List Frame) (s : State) → Each IsPlain fs → IsAlone s (step_branch b x y fs s)
lone_branch_at true x y fs s p = lone_quiet s (before_all x fs) s (before_plain x fs p) refl refl refl refl
lone_branch_at false x y fs s p = lone_quiet s (before_all y fs) s (before_plain y fs p) refl refl refl refl

lone_turning_at : (n line : ℕ) (ahead fs : List Frame) (s : State) → Each IsPlain ahead → Each IsPlain fs → IsAlone s (step_turn n line ahead fs s)
lone_turning_at zero line ahead fs s q p = lone_faulting _ line fs s p
lone_turning_at (suc left) line ahead fs s q p = lone_quiet s ahead (record s { turns = left }) q refl refl refl refl

lone_round_at : (b : Bool) (line : ℕ) (e : Expr) (a : Body) (fs : List Frame) (s : State) → Each IsPlain fs → IsAlone s (step_round b line e a fs s)
lone_round_at true line e a fs s p =
    let again : Body = step line (while_stmt e a) done in
    lone_turning_at s.turns line (before_all a (before_all again fs)) fs s (before_plain a (before_all again fs) (before_plain again fs p)) p
lone_round_at false line e a fs s p = lone_quiet s fs s p refl refl refl refl

lone_body_at : (n line : ℕ) (t : Target) (args : List Arg) (g : Func) (h : Passing) (fs : List Frame) (s : State) → Each IsPlain fs → IsAlone s (step_body n line t args g h fs s)
lone_body_at zero line t args g h fs s p = lone_faulting _ line fs s p
lone_body_at (suc left) line t args g h fs s p =
    let ahead : List Frame = answers g.ret g.params args t ∷ fs in
    lone_quiet s (before_all g.body ahead) (entered h (record s { turns = left })) (before_plain g.body ahead (tt, p)) refl refl refl refl

lone_opening_at : (b : Bool) (line : ℕ) (t : Target) (args : List Arg) (g : Func) (h : Passing) (fs : List Frame) (s : State) → Each IsPlain fs → IsAlone s (step_open_call b line t args g h fs s)
lone_opening_at true line t args g h fs s p = lone_body_at s.turns line t args g h fs s p
lone_opening_at false line t args g h fs s p = lone_faulting _ line fs s p

lone_calling_with_at : (c : Setting) (line : ℕ) (t : Target) (args : List Arg) (g : Func) (r : Result Passing FaultKind) (fs : List Frame) (s : State) → Each IsPlain fs
    → IsAlone s (step_call_with c line t args g r fs s)
lone_calling_with_at c line t args g (Ok h) fs s p = lone_opening_at (nat_lt s.calls c.most_calls) line t args g h fs s p
lone_calling_with_at c line t args g (Err kind) fs s p = lone_faulting kind line fs s p

lone_calling_at : (c : Setting) (line : ℕ) (t : Target) (args : List Arg) (o : Option Func) (fs : List Frame) (s : State) → Each IsPlain fs → IsAlone s (step_call c line t args o fs s)
lone_calling_at c line t args None fs s p = lone_quiet s fs s p refl refl refl refl
lone_calling_at c line t args (Some g) fs s p = lone_calling_with_at c line t args g (all_passed s.store g.params args) fs s p

lone_cut_at : (line : ℕ) (b l r : Name) (a : Body) (o : Option ℕ) (fs : List Frame) (s : State) → Each IsPlain fs → IsAlone s (step_cut line b l r a o fs s)
lone_cut_at line b l r a None fs s p = lone_faulting _ line fs s p
lone_cut_at line b l r a (Some at) fs s p =
    lone_quiet s (before_all a (rejoins b l r ∷ fs)) (on_store (cut_block b l r at) s) (before_plain a (rejoins b l r ∷ fs) (tt, p)) refl refl refl refl

-- the thread alone, or a Fork
abbrev OneOf : Setting → State → Middle → Type 0
OneOf c s m = IsAlone s m ⊎ Forks c s m

both_at : (b : Bool) (c : Setting) (line : ℕ) (x y : Body) (fs : List Frame) (s : State) → Each IsPlain fs → OneOf c s (step_par b c line x y fs s)
both_at true c line x y fs s p =
    inr (record { named = names_in x; assigned = assigns_in x; work = statements x; mine = statements y; later = fs; forked = refl; plain = p })
both_at false c line x y fs s p = inl (lone_faulting _ line fs s p)

statement_at : (c : Setting) (line : ℕ) (stmt : Stmt) (fs : List Frame) (s : State) → Each IsPlain fs → OneOf c s (step_statement c line stmt fs s)
unfolding with_action
statement_at c line (let_stmt x e) fs s p = inl (lone_settled line (value s.store e) (set_integer x) fs s p (λ v. lone_quiet s fs (set_integer x v s) p refl refl refl refl))
statement_at c line (assign_stmt x e) fs s p = inl (lone_settled line (value s.store e) (set_integer x) fs s p (λ v. lone_quiet s fs (set_integer x v s) p refl refl refl refl))
statement_at c line (put_stmt b i e) fs s p = inl (lone_settled line (value s.store i) (put_value line b e) fs s p (λ v. lone_putting_value line b e v fs s p))
statement_at c line (alloc_stmt b e) fs s p =
    inl (lone_settled_at line (value s.store e) (step_alloc c line b) fs s p (λ v. lone_allocating_words_at c line b (size_of v) fs s p))
statement_at c line (free_stmt b) fs s p =
    inl (lone_acting actions.releases (block_words (length (block_of s.store.blocks b))) s fs (free_block b s) p refl refl refl refl)
statement_at c line (if_stmt e a b) fs s p = inl (lone_settled_at line (value s.store e) (step_if a b) fs s p (λ v. lone_branch_at (is_true v) a b fs s p))
statement_at c line (while_stmt e a) fs s p = inl (lone_settled_at line (value s.store e) (step_while line e a) fs s p (λ v. lone_round_at (is_true v) line e a fs s p))
statement_at c line (call_stmt t f args) fs s p = inl (lone_calling_at c line t args (function_of c.program f) fs s p)
statement_at c line (print_stmt e) fs s p = inl (lone_settled line (value s.store e) print_number fs s p (λ v. lone_printing v fs s p))
statement_at c line (par_stmt a b) fs s p = both_at (nat_lt (length s.label) c.most_forks) c line a b fs s p
statement_at c line (split_stmt b e l r a) fs s p =
    inl (lone_settled_at line (value s.store e) (Middle.step_split line b l r a) fs s p (λ v. lone_cut_at line b l r a (cut_of (block_of s.store.blocks b) v) fs s p))

-- ---- frames

-- behind the mark of a statement
lone_behind : (line : ℕ) (s : State) (m : Middle) → IsAlone (with_item (began line) s) m → IsAlone s m
lone_behind line s m k = record {
  plain = k.plain;
  new = began line ∷ k.new;
  grown = k.grown ∙ append_assoc s.items (began line ∷ []) k.new;
  next = k.next;
  same_label = k.same_label;
  counted = k.counted;
  same_forks = k.same_forks;
}

first_at : (b : Bool) (c : Setting) (line : ℕ) (stmt : Stmt) (rest : Body) (s : State)
    → IsAlone s (step_first b c line stmt rest [] s) ⊎ Forks c (with_item (began line) s) (step_first b c line stmt rest [] s)
first_at true c line stmt rest s = inl (lone_quiet s [] s tt refl refl refl refl)
first_at false c line stmt rest s =
    let u : State = with_item (began line) s in
    elim (statement_at c line stmt (before_all rest []) u (before_plain rest [] tt)) [ inl k ↦ inl (lone_behind line s _ k) | inr k ↦ inr k ]

pub tree_forks : (c : Setting) (child own : Shape) (s : State)
    → step_frame c (does (tree (forked child own))) [] s ≡ step_fork c no_name no_name (tree child) (tree own) [] (marked (does (tree (forked child own))) s)
tree_forks c child own s = ap (λ is. step_fork c no_name no_name (tree child) (tree own) [] (record s { items = is })) (sym (append-nil s.items))

pub alone_or_forks : (c : Setting) (f : Frame) (s : State) → IsOwn f → StepsAlone c f s ⊎ StepForks c f s
unfolding with_action
alone_or_forks c (does (statements done)) s o = inl (lone_quiet s [] s tt refl refl refl refl)
alone_or_forks c (does (statements (step line stmt rest))) s o = first_at s.faulted c line stmt rest s
alone_or_forks c (does (tree leaf)) s o = inl (lone_acting actions.dummy 0 s [] (with_action actions.dummy 0 s) tt refl refl refl refl)
alone_or_forks c (does (tree (forked child own))) s o = inr (record {
  named = no_name;
  assigned = no_name;
  work = tree child;
  mine = tree own;
  later = [];
  forked = tree_forks c child own s;
  plain = tt;
})
alone_or_forks c (answers ret params args t) s o =
    inl (lone_unless (with_answer ret (returned params args t)) [] s tt (lone_answering ret (returned params args t) [] s tt (λ a u. same_returned params args t a u)))
alone_or_forks c (rejoins b l r) s o = inl (lone_unless (on_store (rejoin_block b l r)) [] s tt (lone_quiet s [] (on_store (rejoin_block b l r) s) tt refl refl refl refl))
alone_or_forks c (answers_main ret) s o =
    inl (lone_unless (with_answer ret ignore_answer) [] s tt (lone_answering ret ignore_answer [] s tt (λ a u. record { items = refl; label = refl; done_so_far = refl; forks = refl })))
alone_or_forks c (allocates b n) s o = inl (lone_allocated b n [] s tt)
alone_or_forks c (awaits named assigned own parent) s o = absurd o
alone_or_forks c (joins assigned child d) s o = inl (lone_joined assigned child d [] s tt)

-- ---- which of the two

pub plain_alone : (c : Setting) (f : Frame) (s : State) → IsOwn f → Each IsPlain (step_frame c f [] s).frames → StepsAlone c f s
plain_alone c f s o p = by (alone_or_forks c f s o)
  where
    by : StepsAlone c f s ⊎ StepForks c f s → StepsAlone c f s
    by (inl k) = k
    by (inr k) = let q : Each IsPlain (step_fork c k.named k.assigned k.work k.mine k.later (marked f s)).frames = subst (λ m. Each IsPlain m.frames) k.forked p in absurd q.1.0

pub par_forks : (c : Setting) (line : ℕ) (a b rest : Body) (s : State) → s.faulted ≡ false → length s.label < c.most_forks
    → step_frame c (does (statements (step line (par_stmt a b) rest))) [] s
    ≡ step_fork c (names_in a) (assigns_in a) (statements a) (statements b) (before_all rest []) (marked (does (statements (step line (par_stmt a b) rest))) s)
par_forks c line a b rest s f below =
    let u : State = with_item (began line) s in
    ap (λ v. step_first v c line (par_stmt a b) rest [] s) f
    ∙ ap (λ v. step_par v c line a b (before_all rest []) u) (lt-ltb (length s.label) c.most_forks below)
