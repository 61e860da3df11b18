-- A run moves what its thread holds as its environments say.
use Rattle.std.specs.Prelude.{◌≡◌, ℕ, zero, suc, ◌+◌, ◌-◌, ◌*◌, ◌≤◌, ◌&&◌, ◌||◌, if◌then◌else◌, Bool, true, false, not, List, [], ◌∷◌, length, take, drop, ℤ, pos, ◌+ℤ◌, Ok, Err, Option, Some, None, refl}
use Rattle.std.specs.Str.{bytes_eq}
use Rattle.std.specs.List.{list_all}
use Rattle.std.proofs.Common.{◌⊎◌, inl, inr, sym, ◌∙◌, ap, arith, subst}
use Rattle.std.proofs.lemmas.Int.{ints}
use Rattle.std.proofs.lemmas.Bool.{ltb-true}
use Rattle.thread_points.specs.Passed.FaultKind.{FaultKind}
use Rattle.depth_first_run.specs.Passed.Actions as actions
use Rattle.depth_first_run.specs.Passed.Actions.{live_words}
use Rattle.depth_first_run.specs.Passed.Tree.{Name, Expr, Program, Param, Ret, RetValue, gives, hands, Stmt, let_stmt, assign_stmt, put_stmt, alloc_stmt, free_stmt, if_stmt, while_stmt, call_stmt, print_stmt, par_stmt, split_stmt, Body, done, step, Func}
use Rattle.depth_first_run.specs.Passed.Environment as environments
use Rattle.depth_first_run.specs.Passed.Environment.{Kind, Entry, Environment, integer_entry, block_entry, lent_entry, with_entry, regained, opened, after_gives, after_answer, held_in_both, is_released}
use Rattle.depth_first_run.specs.Passed.Names.{names_in_expr, names_in_stmt, names_in_body}
use Rattle.depth_first_run.specs.Passed.Ownership.{HoldTheSame, are_apart, Owns, OwnsAll, OwnsParams, OwnsReturn, OwnsValue, OwnsFunction, OwnsFunctions, Ownership, function_of, main_name, begins, takes_nothing, hands_back}
use Rattle.depth_first_run.specs.Stores.{Store, held_words, stored_words, with_integer, those_not_named}
use Rattle.depth_first_run.specs.Values.{Outcome, value, is_true}
use Rattle.depth_first_run.specs.States
use Rattle.depth_first_run.specs.States.{Setting, State, Item, with_item, with_action, with_number, unless_faulted, with_turn, child_of, parent_of, ended, fork_join, holdings, next_action}
use Rattle.depth_first_run.specs.Calls.{with_answer, with_return, as_number}
use Rattle.depth_first_run.specs.Run.{set_integer, put_value, alloc_block, size_of, print_number, names_in, assigns_in, branch_on, unchanged, one_round, split_block, begin_statement, exec, exec_all, room, run, main_run, ignore_answer, root_start, whole, actions_of}
use Rattle.depth_first_run.proofs.Keeping.{exec_keeps, exec_all_keeps, run_keeps}
use Rattle.depth_first_run.proofs.Fixed.{room_kept, room_fewer, room_child, run_fixed}
use Rattle.ownership_laws.specs.Laws.{HoldsFor, HasStopped, GoesOn}
use Rattle.ownership_laws.specs.Counts.{hit, count, found, held_entry, lent_entry_of, held_in, seen_in}
use Rattle.ownership_laws.proofs.Counting.{name_same, same_name, count_parted, count_named, count_not_named, fresh_unseen, held_block, owned_block, unseen_none, none_held, none_counted, empty_found, seen_or_not}
use Rattle.ownership_laws.proofs.Environments.{Follows, Like, follows_same, follows_take, seen_like, like_back, held_at_most_one, held_take, held_both, held_the_same, released_held, lent_back_in}
use Rattle.ownership_laws.proofs.Tame.{Tame, tame_stmt, tame_all, follows_all, held_with_integer, fresh_pair}
use Rattle.ownership_laws.proofs.Moves.{Exact, exact_same, exact_trans, exact_light, Stopped, Moved, Way, stopped, went, Ran, ran_fault, moved_same, way_trans, ran_from, ran_to, ran_settled, ran_unless, ran_with_turn, ran_with_depth, ran_branching, ran_forking, unless_stopped, unless_running, falls_same, live, stops}
use Rattle.ownership_laws.proofs.Short.{size_within}
use Rattle.ownership_laws.proofs.Passing.{or_left, or_right, function_owned}
use Rattle.ownership_laws.proofs.Statements.{Agrees, went_ran, ran_integers, ran_putting_value, ran_allocating, ran_freeing, SplitEnds, inner_held, ran_splitting}
use Rattle.ownership_laws.proofs.Calling.{Good, ran_calling}

-- ---- small conversions

ran_end : (env mid after : Environment) (s t : State) → after ≡ mid → Ran env mid s t → Ran env after s t
ran_end env mid after s t e r = subst (λ (v : Environment). Ran env v s t) (sym e) r

good_less : (c : Setting) (n m : ℕ) → m ≤ n → Good c n → Good c m
unfolding Good
good_less c n m le g = λ b env after s lt. g b env after s (omega (arith, le, lt))

agrees_less : (named other : Name → Bool) (env : Environment) (s : Store) → ((x : Name) → other x ≡ true → named x ≡ true) → Agrees named env s → Agrees other env s
unfolding Agrees
agrees_less named other env s w a = λ x h. a x (w x h)

-- seen from outside of its list
pub ran_within : (env end : Environment) (s t : State) → Follows env end → list_all is_released (drop (length env) end) ≡ true → Ran env end s t → Ran env (take (length env) end) s t
ran_within env end s t f rel r = ran_to env end (take (length env) end) s t (λ x. sym (held_take env end x f rel)) r

-- ---- a Fork

apart_entry : (a b : Body) (name : Name) (held : Bool) (line : ℕ) (k : Kind) → are_apart a b (record { name = name; kind = k; held = held; line = line }) ≡ true
    → names_in_body name a ≡ true → names_in_body name b ≡ true → held_entry (record { name = name; kind = k; held = held; line = line }) ≡ 0
apart_entry a b name held line environments.integer h p q = refl
apart_entry a b name held line environments.own h p q = let e : not (names_in_body name a && names_in_body name b) ≡ false = ap (λ t. not (t && names_in_body name b)) p ∙ ap not q in let no : true ≡ false = sym h ∙ e in let never : ⊥ = cc in absurd never
apart_entry a b name held line environments.lent h p q = let e : not (names_in_body name a && names_in_body name b) ≡ false = ap (λ t. not (t && names_in_body name b)) p ∙ ap not q in let no : true ≡ false = sym h ∙ e in let never : ⊥ = cc in absurd never

pub and_two : (a b : Bool) → (a && b) ≡ true → (a ≡ true) × (b ≡ true)
and_two true true e = (refl, refl)
and_two true false e = let never : ⊥ = cc in absurd never
and_two false b e = let never : ⊥ = cc in absurd never

-- a name that both branches write is no block
apart_held : (a b : Body) (env : Environment) (x : Name) → list_all (are_apart a b) env ≡ true → names_in_body x a ≡ true → names_in_body x b ≡ true → held_in env x ≡ 0
unfolding found
apart_held a b [] x h p q = refl
apart_held a b (e ∷ es) x h p q =
    let two = and_two (are_apart a b e) (list_all (are_apart a b) es) h in
    by (apart_held a b es x two.1 p q) two.0 (bytes_eq e.name x) refl
  where
    by : held_in es x ≡ 0 → are_apart a b e ≡ true → (t : Bool) → bytes_eq e.name x ≡ t → (if t then held_entry e else held_in es x) ≡ 0
    by r k true u =
        let same : x ≡ e.name = sym (same_name e.name x u) in
        apart_entry a b e.name e.held e.line e.kind k (subst (λ (n : Name). names_in_body n a ≡ true) same p) (subst (λ (n : Name). names_in_body n b ≡ true) same q)
    by r k false u = r

pub child_agrees : (a : Body) (named : Name → Bool) (env : Environment) (s : State) (c : Setting) → Agrees named env s.store → ((x : Name) → names_in_body x a ≡ true → named x ≡ true)
    → Agrees (λ x. names_in_body x a) env (child_of c (names_in a) s).store
unfolding Agrees
child_agrees a named env s c agrees w = λ x h.
    let p = count_parted (names_in a) s.store.blocks x in
    let z = count_not_named (names_in a) s.store.blocks x h in
    let e = agrees x (w x h) in omega (arith, p, z, e)

pub parent_agrees : (a b : Body) (named : Name → Bool) (env : Environment) (s : State) (items : List Item) → list_all (are_apart a b) env ≡ true → Agrees named env s.store
    → ((x : Name) → names_in_body x b ≡ true → named x ≡ true)
    → Agrees (λ x. names_in_body x b) env (parent_of (names_in a) items s).store
unfolding Agrees
parent_agrees a b named env s items apart agrees w = λ x h. by x h (names_in_body x a) refl
  where
    by : (x : Name) → names_in_body x b ≡ true → (t : Bool) → names_in_body x a ≡ t → count (those_not_named (names_in a) s.store.blocks) x ≡ held_in env x
    by x h true e = count_not_named (names_in a) s.store.blocks x e ∙ sym (apart_held a b env x apart e h)
    by x h false e =
        let p = count_parted (names_in a) s.store.blocks x in
        let z = count_named (names_in a) s.store.blocks x e in
        let g = agrees x (w x h) in omega (arith, p, z, g)

-- what both branches leave
both_make_up : (a b : Body) (env l r : Environment) (x : Name) → list_all (are_apart a b) env ≡ true → Tame (names_in_body x a) env l x → Tame (names_in_body x b) env r x
    → list_all is_released (drop (length env) l) ≡ true → list_all is_released (drop (length env) r) ≡ true
    → held_in (take (length env) l) x + held_in (take (length env) r) x ≡ held_in env x + held_in (held_in_both (take (length env) l) (take (length env) r)) x
both_make_up a b env l r x apart tl tr rl rr =
    let left : Environment = take (length env) l in let right : Environment = take (length env) r in
    let ll : Like env left = follows_take env l tl.follows in let lr : Like env right = follows_take env r tr.follows in
    let hl = held_take env l x tl.follows rl in let hr = held_take env r x tr.follows rr in
    let w = held_both env left right x ll lr in let w0 = w.0 in let w1 = w.1 in let w2 = w.2 in
    let one = held_at_most_one env x in
    seen_or_not env x (held_in left x + held_in right x ≡ held_in env x + held_in (held_in_both left right) x)
    (λ s. let fl = tl.falls s in let fr = tr.falls s in by (names_in_body x a) refl (names_in_body x b) refl
    (λ e. let k = tl.kept e in omega (arith, k, hl, hr, w0, w1, w2, one, fr))
    (λ e. let k = tr.kept e in omega (arith, k, hl, hr, w0, w1, w2, one, fl))
    (λ e. omega (arith, e, hl, hr, w0, w1, w2, fl, fr)))
    (λ s. let zl = unseen_none held_entry 0 left x (seen_like env left x ll ∙ s) in
    let zr = unseen_none held_entry 0 right x (seen_like env right x lr ∙ s) in
    let ze = unseen_none held_entry 0 env x s in omega (arith, zl, zr, ze, w0))
  where
    by : {P : Type 0} → (t : Bool) → names_in_body x a ≡ t → (u : Bool) → names_in_body x b ≡ u → (names_in_body x a ≡ false → P) → (names_in_body x b ≡ false → P) → (held_in env x ≡ 0 → P) → P
    by false t u' u f g h = f t
    by true t false u f g h = g u
    by true t true u f g h = h (apart_held a b env x apart t u)

both_held : (env l r : Environment) (x : Name) → Like env l → Like env r → held_in (held_in_both l r) x ≡ 1 → (held_in l x ≡ 1) × (held_in r x ≡ 1)
both_held env l r x p q h =
    let w = held_both env l r x p q in let w0 = w.0 in let w1 = w.1 in
    let a = held_at_most_one l x in let b = held_at_most_one r x in (omega (arith, w0, a, h), omega (arith, w1, b, h))

-- ---- lists of statements

pub all_stopped : (c : Setting) (b : Body) (s : State) → s.faulted ≡ true → exec_all c (run c) b s ≡ s
unfolding exec_all
all_stopped c done s f = refl
all_stopped c (step line stmt rest) s f =
    let g : State → State = begin_statement line (exec c (run c) line stmt) in
    ap (λ t. exec_all c (run c) rest t) (unless_stopped g s f) ∙ all_stopped c rest s f

-- a statement, and then the rest
ran_step : (c : Setting) (env mid after : Environment) (s t : State) (rest : Body) → Follows env mid → ((x : Name) → seen_in mid x ≡ 1 → held_in after x ≤ held_in mid x)
    → Ran env mid s t → (Moved env mid s t → Ran mid after t (exec_all c (run c) rest t)) → Ran env after s (exec_all c (run c) rest t)
ran_step c env mid after s t rest f l r next = by r.way
  where
    by : Way env mid s t → Ran env after s (exec_all c (run c) rest t)
    by (stopped k) = subst (λ u. Ran env after s u) (sym (all_stopped c rest t k.faulted)) (record { exact = r.exact; way = stopped k })
    by (went m) =
        let q = next m in
        record { exact = exact_trans s t (exec_all c (run c) rest t) r.exact q.exact; way = way_trans env mid after s t (exec_all c (run c) rest t) f l (held_at_most_one mid) m q.way }

-- a round of a loop
ran_round : (c : Setting) (env : Environment) (line : ℕ) (body again : State → State) (v : ℤ) (s : State) → s.faulted ≡ false
    → ((left : ℕ) → s.turns ≡ suc left → Ran env env (record s { turns = left }) (body (record s { turns = left })))
    → ((left : ℕ) → s.turns ≡ suc left → Moved env env (record s { turns = left }) (body (record s { turns = left })) → Ran env env (body (record s { turns = left })) (again (body (record s { turns = left }))))
    → Ran env env s (branch_on (with_turn line (one_round body again)) unchanged v s)
ran_round c env line body again v s f b a =
    ran_branching env env (is_true v) (with_turn line (one_round body again)) unchanged s
    (ran_with_turn env env line (one_round body again) s (λ left is.
    let u : State = record s { turns = left } in
    let t : State = body u in
    let r : Ran env env u t = b left is in
    ran_unless env env env u t again r (λ m.
    let q = a left is m in
    (exact_trans u t (again t) r.exact q.exact, way_trans env env env u t (again t) (follows_same env) (falls_same env) (held_at_most_one env) m q.way))))
    (went_ran env env s s (exact_same s) (moved_same env s f))

pub room_same : (c : Setting) (s t : State) → t.label ≡ s.label → t.turns ≡ s.turns → room c t ≡ room c s
room_same c s t l n =
    ap (λ label. (c.most_forks - length label) * suc c.most_turns + t.turns) l
    ∙ ap (λ turns. (c.most_forks - length s.label) * suc c.most_turns + turns) n

pub or_none : (a : Bool) → (a || false) ≡ true → a ≡ true
or_none true e = refl
or_none false e = e

pub held_seen : (env : Environment) (x : Name) → held_in env x ≡ 1 → seen_in env x ≡ 1
held_seen env x h = seen_or_not env x (seen_in env x ≡ 1) (λ s. s) (λ s. let z = unseen_none held_entry 0 env x s in absurd (omega (arith, z, h)))

-- ---- a `split`

-- what a `split` that keeps the rules stands on
pub split_ends : (p : Program) (line : ℕ) (b : Name) (e : Expr) (l r : Name) (a : Body) (env after : Environment) (h : Owns p line (split_stmt b e l r a) env after) → SplitEnds env h.4.1.0 b l r line
split_ends p line b e l r a env after h =
    let inner : Environment = opened env b l r line in
    let end : Environment = h.4.1.0 in
    let fresh = fresh_pair env l r line h.2 h.3 in
    record {
      held = h.0;
      seen = held_seen env b (held_block env b h.0).0;
      left_new = fresh.0;
      right_new = fresh.1;
      right_newer = fresh_unseen (with_entry env (lent_entry l line)) r h.3;
      two = fresh.2;
      follows = follows_all p a inner end h.4.1.1;
      released = h.4.1.2;
      lents = λ x k. (tame_all p a inner end x h.4.1.1).lents k;
      falls = λ x k. (tame_all p a inner end x h.4.1.1).falls k;
    }

-- its block is there, and its two parts are not yet
pub split_counts : (p : Program) (line : ℕ) (b : Name) (e : Expr) (l r : Name) (a : Body) (env after : Environment) (s : State) → Owns p line (split_stmt b e l r a) env after
    → Agrees (λ x. names_in_stmt x (split_stmt b e l r a)) env s.store → (count s.store.blocks b ≡ 1) × (count s.store.blocks l ≡ 0) × (count s.store.blocks r ≡ 0)
unfolding Agrees
split_counts p line b e l r a env after s h agrees =
    let fresh = fresh_pair env l r line h.2 h.3 in
    let nb : names_in_stmt b (split_stmt b e l r a) ≡ true =
    or_left (bytes_eq b b || names_in_expr b e || bytes_eq l b || bytes_eq r b) (names_in_body b a) (or_left (bytes_eq b b || names_in_expr b e || bytes_eq l b) (bytes_eq r b)
    (or_left (bytes_eq b b || names_in_expr b e) (bytes_eq l b) (or_left (bytes_eq b b) (names_in_expr b e) (name_same b)))) in
    let nl : names_in_stmt l (split_stmt b e l r a) ≡ true =
    or_left (bytes_eq b l || names_in_expr l e || bytes_eq l l || bytes_eq r l) (names_in_body l a) (or_left (bytes_eq b l || names_in_expr l e || bytes_eq l l) (bytes_eq r l)
    (or_right (bytes_eq b l || names_in_expr l e) (bytes_eq l l) (name_same l))) in
    let nr : names_in_stmt r (split_stmt b e l r a) ≡ true =
    or_left (bytes_eq b r || names_in_expr r e || bytes_eq l r || bytes_eq r r) (names_in_body r a) (or_right (bytes_eq b r || names_in_expr r e || bytes_eq l r) (bytes_eq r r) (name_same r)) in
    (agrees b nb ∙ (held_block env b h.0).0, agrees l nl ∙ unseen_none held_entry 0 env l fresh.0, agrees r nr ∙ unseen_none held_entry 0 env r fresh.1)

-- behind the cut the thread has what the body's first environment says
pub split_agrees : (p : Program) (line : ℕ) (b : Name) (e : Expr) (l r : Name) (a : Body) (env after : Environment) (s t : State) → Owns p line (split_stmt b e l r a) env after
    → Agrees (λ x. names_in_stmt x (split_stmt b e l r a)) env s.store → ((x : Name) → count t.store.blocks x + hit b x ≡ count s.store.blocks x + (hit l x + hit r x))
    → Agrees (λ x. names_in_body x a) (opened env b l r line) t.store
unfolding Agrees
split_agrees p line b e l r a env after s t h agrees cut = λ x n.
    let k = split_ends p line b e l r a env after h in
    let g = agrees x (or_right (bytes_eq b x || names_in_expr x e || bytes_eq l x || bytes_eq r x) (names_in_body x a) n) in
    let d = cut x in let i = inner_held env b l r line x k.held k.left_new k.right_newer k.seen in omega (arith, g, d, i)

exact_noting : (line : ℕ) (s : State) → Exact s (with_item (States.began line) s)
exact_noting line s = exact_light s (with_item (States.began line) s) (States.began line) refl refl refl

mutual
  unfolding exec exec_all Good Agrees

  ran_exec : (c : Setting) → OwnsFunctions c.program c.program → (line : ℕ) (stmt : Stmt) (env after : Environment) (s : State) → Good c (room c s) → Owns c.program line stmt env after
      → s.faulted ≡ false → Agrees (λ x. names_in_stmt x stmt) env s.store → Ran env after s (exec c (run c) line stmt s)
  ran_exec c all line (let_stmt x e) env after s good h f agrees =
      let mid : Environment = with_entry env (integer_entry x line) in
      ran_end env mid after s (exec c (run c) line (let_stmt x e) s) h.2
      (ran_settled env mid line (value s.store e) (set_integer x) s
      (λ v. ran_integers env mid (with_integer x v s.store) s f refl (λ y. held_with_integer env x line y (fresh_unseen env x h.0))))
  ran_exec c all line (assign_stmt x e) env after s good h f agrees =
      ran_end env env after s (exec c (run c) line (assign_stmt x e) s) h.2
      (ran_settled env env line (value s.store e) (set_integer x) s (λ v. ran_integers env env (with_integer x v s.store) s f refl (λ y. refl)))
  ran_exec c all line (put_stmt b i e) env after s good h f agrees =
      ran_end env env after s (exec c (run c) line (put_stmt b i e) s) h.3
      (ran_settled env env line (value s.store i) (put_value line b e) s (λ v. ran_putting_value env line b e v s f))
  ran_exec c all line (alloc_stmt b e) env after s good h f agrees =
      let mid : Environment = with_entry env (block_entry b line) in
      ran_end env mid after s (exec c (run c) line (alloc_stmt b e) s) h.2
      (ran_settled env mid line (value s.store e) (alloc_block c line b) s (λ v. ran_allocating c env line b (size_of v) s f (fresh_unseen env b h.0) (λ n is. size_within v n is)))
  ran_exec c all line (free_stmt b) env after s good h f agrees =
      let o = (owned_block env b h.0).0 in
      ran_end env (environments.without env b) after s (exec c (run c) line (free_stmt b) s) h.1
      (ran_freeing env b s f o (agrees b (name_same b) ∙ o))
  ran_exec c all line (if_stmt e a b) env after s good h f agrees =
      let la : Environment = h.1.0 in let lb : Environment = h.2.1.0 in
      let fa = follows_all c.program a env la h.1.1 in let fb = follows_all c.program b env lb h.2.1.1 in
      let left : Environment = take (length env) la in let right : Environment = take (length env) lb in
      let ra = ran_all c all a env la s good h.1.1 f (λ x n. agrees x (or_right (names_in_expr x e) (names_in_body x a || names_in_body x b) (or_left (names_in_body x a) (names_in_body x b) n))) in
      let rb = ran_all c all b env lb s good h.2.1.1 f (λ x n. agrees x (or_right (names_in_expr x e) (names_in_body x a || names_in_body x b) (or_right (names_in_body x a) (names_in_body x b) n))) in
      let like : Like left right = like_back env left right (follows_take env la fa) (follows_take env lb fb) in
      let same : HoldTheSame left right = subst (λ (v : Environment). HoldTheSame left v) h.2.1.3 (subst (λ (v : Environment). HoldTheSame v h.2.0) h.1.3 h.2.2) in
      ran_end env left after s (exec c (run c) line (if_stmt e a b) s) h.1.3
      (ran_settled env left line (value s.store e) (branch_on (exec_all c (run c) a) (exec_all c (run c) b)) s
      (λ v. ran_branching env left (is_true v) (exec_all c (run c) a) (exec_all c (run c) b) s
      (ran_within env la s (exec_all c (run c) a s) fa h.1.2 ra)
      (ran_to env right left s (exec_all c (run c) b s) (λ x. sym (held_the_same left right x like same))
      (ran_within env lb s (exec_all c (run c) b s) fb h.2.1.2 rb))))
  ran_exec c all line (while_stmt e a) env after s good h f agrees =
      let end : Environment = h.1.1.0 in
      let fol = follows_all c.program a env end h.1.1.1 in
      let taken : Environment = take (length env) end in
      let same : HoldTheSame env taken = subst (λ (v : Environment). HoldTheSame env v) h.1.1.3 h.1.2 in
      let again : Body = step line (while_stmt e a) done in
      ran_end env env after s (exec c (run c) line (while_stmt e a) s) h.2
      (ran_settled env env line (value s.store e) (branch_on (with_turn line (one_round (exec_all c (run c) a) (run c again))) unchanged) s
      (λ v. ran_round c env line (exec_all c (run c) a) (run c again) v s f
      (λ left is.
      let u : State = record s { turns = left } in
      let less = room_fewer c s left is in
      ran_to env taken env u (exec_all c (run c) a u) (λ x. sym (held_the_same env taken x (follows_take env end fol) same))
      (ran_within env end u (exec_all c (run c) a u) fol h.1.1.2
      (ran_all c all a env end u (good_less c (room c s) (room c u) (omega (arith, less)) good) h.1.1.1 f
      (λ x n. agrees x (or_right (names_in_expr x e) (names_in_body x a) n)))))
      (λ left is m.
      let u : State = record s { turns = left } in
      let t : State = exec_all c (run c) a u in
      let less = room_fewer c s left is in
      let kept = room_kept c u t (exec_all_keeps c (run c) (run_keeps c) a u) in
      good again env env t (omega (arith, less, kept)) (env, (h.0, h.1, refl), refl) m.running
      (λ x n. let g = agrees x (or_none (names_in_expr x e || names_in_body x a) n) in let k = m.counts x in omega (arith, g, k)))))
  ran_exec c all line (call_stmt t g args) env after s good h f agrees =
      ran_end env (after_answer (after_gives env args) t line) after s (exec c (run c) line (call_stmt t g args) s) h.2
      (ran_calling c env line t g args h.1.0 s good all f h.0 h.1.1 h.1.2 h.1.3 agrees)
  ran_exec c all line (print_stmt e) env after s good h f agrees =
      ran_end env env after s (exec c (run c) line (print_stmt e) s) h.1
      (ran_settled env env line (value s.store e) print_number s
      (λ v. went_ran env env s (print_number v s) (exact_light s (print_number v s) (States.printed v) refl refl refl)
      (record { running = f; callers = refl; counts = λ x. refl; sizes = λ x p q. refl; short = λ p. p })))
  ran_exec c all line (par_stmt a b) env after s good h f agrees =
      let l : Environment = h.1.1.0 in let r : Environment = h.1.2.1.0 in
      let left : Environment = take (length env) l in let right : Environment = take (length env) r in
      let mid : Environment = held_in_both left right in
      let fl = follows_all c.program a env l h.1.1.1 in let fr = follows_all c.program b env r h.1.2.1.1 in
      let e : after ≡ mid = h.1.2.2 ∙ ap (λ (v : Environment). held_in_both v h.1.2.0) h.1.1.3 ∙ ap (λ (v : Environment). held_in_both left v) h.1.2.1.3 in
      let child : State = child_of c (names_in a) s in
      ran_end env mid after s (exec c (run c) line (par_stmt a b) s) e
      (ran_with_depth env mid (length s.label) c.most_forks line (fork_join c (names_in a) (assigns_in a) (exec_all c (run c) a) (exec_all c (run c) b)) s
      (λ below.
      let less = room_child c (names_in a) s (ltb-true (length s.label) c.most_forks below) in
      ran_forking c (names_in a) (assigns_in a) env left right mid (exec_all c (run c) a) (exec_all c (run c) b) s
      (ran_within env l child (exec_all c (run c) a child) fl h.1.1.2
      (ran_all c all a env l child (good_less c (room c s) (room c child) (omega (arith, less)) good) h.1.1.1 refl
      (child_agrees a (λ x. names_in_stmt x (par_stmt a b)) env s c agrees (λ x n. or_left (names_in_body x a) (names_in_body x b) n))))
      (λ items.
      let parent : State = parent_of (names_in a) items s in
      ran_within env r parent (exec_all c (run c) b parent) fr h.1.2.1.2
      (ran_all c all b env r parent good h.1.2.1.1 f
      (parent_agrees a b (λ x. names_in_stmt x (par_stmt a b)) env s items h.0 agrees (λ x n. or_right (names_in_body x a) (names_in_body x b) n))))
      (λ x. both_make_up a b env l r x h.0 (tame_all c.program a env l x h.1.1.1) (tame_all c.program b env r x h.1.2.1.1) h.1.1.2 h.1.2.1.2)
      (λ x p q. both_held env left right x (follows_take env l fl) (follows_take env r fr) q)))
  ran_exec c all line (split_stmt b e l r a) env after s good h f agrees =
      let end : Environment = h.4.1.0 in
      let inner : Environment = opened env b l r line in
      let ends : SplitEnds env end b l r line = split_ends c.program line b e l r a env after h in
      let counts = split_counts c.program line b e l r a env after s h agrees in
      ran_end env (regained (take (length env) end) b) after s (exec c (run c) line (split_stmt b e l r a) s) (h.4.2 ∙ ap (λ (v : Environment). regained v b) h.4.1.3)
      (ran_settled env (regained (take (length env) end) b) line (value s.store e) (split_block line b l r (exec_all c (run c) a)) s
      (λ v. ran_splitting env end b l r line (exec_all c (run c) a) v s ends f counts.0 counts.1 counts.2
      (λ t running label turns cut.
      let same = room_same c s t label turns in
      ran_all c all a inner end t (good_less c (room c s) (room c t) (omega (arith, same)) good) h.4.1.1 running
      (split_agrees c.program line b e l r a env after s t h agrees cut))))

  ran_all : (c : Setting) → OwnsFunctions c.program c.program → (b : Body) (env after : Environment) (s : State) → Good c (room c s) → OwnsAll c.program b env after
      → s.faulted ≡ false → Agrees (λ x. names_in_body x b) env s.store → Ran env after s (exec_all c (run c) b s)
  ran_all c all done env after s good h f agrees = ran_end env env after s s h (went_ran env env s s (exact_same s) (moved_same env s f))
  ran_all c all (step line stmt rest) env after s good h f agrees =
      let mid : Environment = h.0 in
      let g : State → State = begin_statement line (exec c (run c) line stmt) in
      let u : State = with_item (States.began line) s in
      let t : State = exec c (run c) line stmt u in
      let r : Ran env mid s t = ran_from env mid s u t (exact_noting line s) refl refl
      (ran_exec c all line stmt env mid u good h.1 f (λ x n. agrees x (or_left (names_in_stmt x stmt) (names_in_body x rest) n))) in
      subst (λ w. Ran env after s (exec_all c (run c) rest w)) (sym (unless_running g s f))
      (ran_step c env mid after s t rest (tame_stmt c.program line stmt env mid [] h.1).follows (λ x v. (tame_all c.program rest mid after x h.2).falls v) r
      (λ m.
      let kept = room_kept c u t (exec_keeps c (run c) (run_keeps c) line stmt u) in
      ran_all c all rest mid after t (good_less c (room c s) (room c t) (omega (arith, kept)) good) h.2 m.running
      (λ x n. let k = agrees x (or_right (names_in_stmt x stmt) (names_in_body x rest) n) in let w = m.counts x in omega (arith, k, w))))

-- ---- runs

all_good : (c : Setting) → OwnsFunctions c.program c.program → (n : ℕ) → Good c n
unfolding Good
all_good c all zero = λ b env after s lt. absurd (omega (arith, lt))
all_good c all (suc n) = λ b env after s lt owns f agrees.
    subst (λ t. Ran env after s t) (sym (run_fixed c b s)) (ran_all c all b env after s (good_less c n (room c s) (omega (arith, lt)) (all_good c all n)) owns f agrees)

pub ran_run : (c : Setting) → OwnsFunctions c.program c.program → (b : Body) (env after : Environment) (s : State) → OwnsAll c.program b env after
    → s.faulted ≡ false → Agrees (λ x. names_in_body x b) env s.store → Ran env after s (run c b s)
unfolding Good
ran_run c all b env after s owns f agrees = all_good c all (suc (room c s)) b env after s (omega arith) owns f agrees

-- ---- the whole run

-- nothing is held, and no call is open
pub record Closed (c : Setting) (t : State) : Type 0 where
  pub exact : Exact (root_start c) t
  pub empty : t.store.blocks ≡ []
  pub alone : t.callers ≡ []

closed_fault : (c : Setting) (kind : FaultKind) (line : ℕ) (t : State) → Closed c t → Closed c (States.with_fault kind line t)
closed_fault c kind line t k =
    let r : Ran [] [] t (States.with_fault kind line t) = ran_fault [] [] kind line t in
    let s : Stopped (States.with_fault kind line t) = stops kind line t in
    record { exact = exact_trans (root_start c) t (States.with_fault kind line t) k.exact r.exact; empty = s.empty; alone = s.alone }

closed_settled : (c : Setting) (line : ℕ) (o : Outcome) (t : State) → Closed c t → Closed c (with_number line o (as_number ignore_answer) t)
unfolding with_number
closed_settled c line (Ok v) t k = k
closed_settled c line (Err kind) t k = closed_fault c kind line t k

released_end : (c : Setting) (end : Environment) (t : State) → Moved [] end (root_start c) t → Follows [] end → list_all is_released end ≡ true → t.store.blocks ≡ []
released_end c end t m f rel = none_held t.store.blocks (λ x.
    let a = m.counts x in let z = none_counted x in let y = empty_found held_entry x in
    let r = released_held end x rel in let l = lent_back_in [] end x f in let w = empty_found lent_entry_of x in omega (arith, a, z, y, r, l, w))

main_answered : (c : Setting) (ret : Option Ret) (end after : Environment) (t : State) → hands_back ret ≡ false → OwnsReturn ret end after → list_all is_released after ≡ true
    → Exact (root_start c) t → Moved [] end (root_start c) t → Follows [] end → Closed c (with_answer ret ignore_answer t)
unfolding with_answer
main_answered c None end after t hb owns rel e m f =
    record { exact = e; empty = released_end c end t m f (subst (λ (v : Environment). list_all is_released v ≡ true) owns rel); alone = m.callers }
main_answered c (Some r) end after t hb owns rel e m f = by r.line r.value hb owns
  where
    by : (line : ℕ) (v : RetValue) → hands_back (Some (record { line = line; value = v })) ≡ false → OwnsValue v end after → Closed c (with_return line v ignore_answer t)
    by line (gives x) hb own =
        closed_settled c line (value t.store x) t
        (record { exact = e; empty = released_end c end t m f (subst (λ (v : Environment). list_all is_released v ≡ true) own.1 rel); alone = m.callers })
    by line (hands b) hb own = let never : ⊥ = cc in absurd never

pub no_parameters : (line : ℕ) (qs : List Param) (start : Environment) → takes_nothing qs ≡ true → OwnsParams line qs [] start → start ≡ []
no_parameters line [] start t o = o
no_parameters line (q ∷ qs) start t o = let never : ⊥ = cc in absurd never

not_true : (b : Bool) → not b ≡ true → b ≡ false
not_true true e = let never : ⊥ = cc in absurd never
not_true false e = refl

main_closed : (c : Setting) (g : Func) → OwnsFunctions c.program c.program → OwnsFunction c.program g → begins g ≡ true → Closed c (main_run c (Some g) (root_start c))
unfolding Agrees
main_closed c g all owns first =
    let two = and_two (takes_nothing g.params) (not (hands_back g.ret)) first in
    let end : Environment = owns.2.0 in
    let start : owns.0 ≡ [] = no_parameters g.line g.params owns.0 two.0 owns.1 in
    let body : OwnsAll c.program g.body [] end = subst (λ (v : Environment). OwnsAll c.program g.body v end) start owns.2.1 in
    let t : State = run c g.body (root_start c) in
    let r : Ran [] end (root_start c) t = ran_run c all g.body [] end (root_start c) body refl (λ x n. none_counted x ∙ sym (empty_found held_entry x)) in
    by t r.way r.exact (follows_all c.program g.body [] end body) (not_true (hands_back g.ret) two.1)
  where
    by : (t : State) → Way [] owns.2.0 (root_start c) t → Exact (root_start c) t → Follows [] owns.2.0 → hands_back g.ret ≡ false → Closed c (unless_faulted (with_answer g.ret ignore_answer) t)
    by t (stopped k) e f hb = subst (λ w. Closed c w) (sym (unless_stopped (with_answer g.ret ignore_answer) t k.faulted)) (record { exact = e; empty = k.empty; alone = k.alone })
    by t (went m) e f hb = subst (λ w. Closed c w) (sym (unless_running (with_answer g.ret ignore_answer) t m.running))
        (main_answered c g.ret owns.2.0 owns.2.2.0 t hb owns.2.2.1 owns.2.2.2 e m f)

-- the root ends with nothing
pub whole_closed : (c : Setting) → Ownership c.program → Closed c (main_run c (function_of c.program main_name) (root_start c))
whole_closed c o =
    let g : Func = o.main.0 in
    subst (λ f. Closed c (main_run c f (root_start c))) (sym o.main.1) (main_closed c g o.functions (function_owned c.program c.program main_name g o.main.1 o.functions) o.main.2)

pub nothing_held : (c : Setting) → Ownership c.program → ((State.store (whole c)).blocks ≡ []) × (State.callers (whole c) ≡ [])
unfolding whole ended with_action
nothing_held c o = let k = whole_closed c o in (k.empty, k.alone)

pub live_at_end : (c : Setting) → Ownership c.program → live_words (actions_of (State.items (whole c))) ≡ pos 0
unfolding whole ended with_action
live_at_end c o =
    let t : State = main_run c (function_of c.program main_name) (root_start c) in
    let k : Closed c t = whole_closed c o in
    let last : Exact t (ended 0 t) = exact_light t (ended 0 t) (next_action actions.ends 0 t) refl refl refl in
    let none : holdings t ≡ 0 = ap (λ hs. held_words hs + stored_words t.callers) k.empty ∙ ap (λ cs. 0 + stored_words cs) k.alone in
    by (holdings t) (0 + 0) (live t.items) (live (ended 0 t).items) none (omega arith) k.exact.same last.same
  where
    by : (n m : ℕ) (x y : ℤ) → n ≡ 0 → m ≡ 0 → (pos n +ℤ pos 0) ≡ (pos m +ℤ x) → (pos n +ℤ x) ≡ (pos n +ℤ y) → y ≡ pos 0
    by n m x y e z f g = omega (arith, ints, e, z)

-- the law for a list of statements, as a reader has it
pub holds_rules : (c : Setting) → Ownership c.program → (b : Body) (env after : Environment) (s : State) → OwnsAll c.program b env after → s.faulted ≡ false → HoldsFor b env s
    → HasStopped (run c b s) ⊎ GoesOn b after s (run c b s)
unfolding Agrees
holds_rules c o b env after s owns f holds = by (ran_run c o.functions b env after s owns f holds).way
  where
    by : Way env after s (run c b s) → HasStopped (run c b s) ⊎ GoesOn b after s (run c b s)
    by (stopped k) = inl (k.faulted, k.empty, k.alone)
    by (went m) = inr (
      m.running,
      m.callers,
      λ x n. let a = m.counts x in let e = holds x n in omega (arith, a, e),
      λ x n. let a = m.counts x in let e = (tame_all c.program b env after x owns).kept n in omega (arith, a, e),
    )
