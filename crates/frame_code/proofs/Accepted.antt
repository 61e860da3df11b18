-- A program that keeps the rules and is the tree of a text can be lowered.
use Rattle.std.proofs.Common.{◌≡◌, ◌+◌, ◌≤◌, Bool, true, false, cond, ◌||◌, List, [], ◌∷◌, ◌++◌, map, length, Option, Some, None, refl, sym, ◌∙◌, subst, arith, length-append}
use Rattle.std.specs.Prelude.{if◌then◌else◌}
use Rattle.std.specs.Str.{bytes_eq}
use Rattle.std.proofs.lemmas.Slice.Eq.{bytes_eq-Decides}
use Rattle.std.proofs.lemmas.List.Folds.{list_any-append}
use Rattle.par_tree.specs.Tree
use Rattle.par_tree.specs.Tree.{Name, Expr, num, var, get, len_of, neg, chain, cmp, Links, last, link, Target, unused, block, Arg, value, lend, give, Stmt, let_stmt, assign_stmt, put_stmt, alloc_stmt, free_stmt, if_stmt, while_stmt, call_stmt, print_stmt, par_stmt, split_stmt, Body, done, step, RetValue, gives, hands, Ret, Func, Program}
use Rattle.par_tree.specs.View.{program_tree}
use Rattle.par_tree.specs.declared.func.Func.{Func as RustFunc}
use Rattle.par_tree.specs.declared.program.Program.{Program as RustProgram}
use Rattle.block_check.specs.Shown.{funcs_tree}
use Rattle.par_text.specs.Trees.{IsTreeOfText}
use Rattle.par_tree.specs.Names.{names_in_expr, names_in_links, names_in_target, names_in_arg, names_in_args, names_in_stmt, names_in_body}
use Rattle.par_ownership.specs.Ownership.{Ownership, function_of, main_name}
use Rattle.accepted_source.specs.Calls.{EachCallOfStmt, EachCall, IsCall}
use Rattle.par_tree.specs.Names.{is_among, param_names, declared_in, names_in_value, names_in_return}
use Rattle.accepted_source.specs.Laws.{EachFunction, IsDeclared}
use Rattle.accepted_source.proofs.Passing.{calls}
use Rattle.accepted_source.proofs.Naming.{declared}
use Rattle.accepted_source.proofs.Functions.{main_of}
use Rattle.accepted_source.specs.Sizes.{HasFewNames}
use Rattle.accepted_source.proofs.Small.{small}
use Rattle.node_table.specs.Names.{with_name, with_names, slot_names}
use Rattle.node_table.specs.Programs.{name_of, function_names}
use Rattle.frame_code.specs.Slotted.{Has, HasAll, HasExpr, HasLinks, HasTarget, HasArg, HasArgs, HasValue, HasReturn, HasStmt, HasBody, HasFunc, CanBeLowered}
use Rattle.frame_code.specs.Numbers.{func_names}
use Rattle.frame_code.proofs.Gathering.{names_are}

or_l : (a b : Bool) → a ≡ true → (a || b) ≡ true
or_l true b h = refl
or_l false b h = let never : ⊥ = cc in absurd never

or_r : (a b : Bool) → b ≡ true → (a || b) ≡ true
or_r true b h = refl
or_r false b h = h

itself : (x : Name) → bytes_eq x x ≡ true
itself x = (bytes_eq-Decides x x).1 refl

-- the names that pass a test have slots
abbrev Knows : List Name → (Name → Bool) → Type 0
Knows names f = (x : Name) → f x ≡ true → Has names x

-- a function that is found is among the functions
found_has : (p : List Func) (x : Name) (f : Func) → function_of p x ≡ Some f → Has (map name_of p) x
found_has [] x f h = let never : ⊥ = cc in absurd never
found_has (g ∷ gs) x f h = go (bytes_eq g.name x) h (found_has gs x f)
  where
    go : (b : Bool) → cond b (Some g) (function_of gs x) ≡ Some f → (function_of gs x ≡ Some f → Has (map name_of gs) x) → (b || is_among x (map name_of gs)) ≡ true
    go true e more = refl
    go false e more = more e

module _ (names : List Name) where
  left : (f g : Name → Bool) → Knows names (λ x. f x || g x) → Knows names f
  left f g k x h = k x (or_l (f x) (g x) h)

  right : (f g : Name → Bool) → Knows names (λ x. f x || g x) → Knows names g
  right f g k x h = k x (or_r (f x) (g x) h)

  mutual
    expr_has : (e : Expr) → Knows names (λ x. names_in_expr x e) → HasExpr names e
    expr_has (num n) k = tt
    expr_has (var x) k = k x (itself x)
    expr_has (get b i) k = (left (λ x. bytes_eq b x) (λ x. names_in_expr x i) k b (itself b), expr_has i (right (λ x. bytes_eq b x) (λ x. names_in_expr x i) k))
    expr_has (len_of b) k = k b (itself b)
    expr_has (neg e) k = expr_has e k
    expr_has (chain e rest) k = (expr_has e (left (λ x. names_in_expr x e) (λ x. names_in_links x rest) k), links_have rest (right (λ x. names_in_expr x e) (λ x. names_in_links x rest) k))
    expr_has (cmp op l r) k = (expr_has l (left (λ x. names_in_expr x l) (λ x. names_in_expr x r) k), expr_has r (right (λ x. names_in_expr x l) (λ x. names_in_expr x r) k))

    links_have : (ls : Links) → Knows names (λ x. names_in_links x ls) → HasLinks names ls
    links_have last k = tt
    links_have (link op e rest) k = (expr_has e (left (λ x. names_in_expr x e) (λ x. names_in_links x rest) k), links_have rest (right (λ x. names_in_expr x e) (λ x. names_in_links x rest) k))

  target_has : (t : Target) → Knows names (λ x. names_in_target x t) → HasTarget names t
  target_has unused k = tt
  target_has (Tree.integer x) k = k x (itself x)
  target_has (block b) k = k b (itself b)

  arg_has : (a : Arg) → Knows names (λ x. names_in_arg x a) → HasArg names a
  arg_has (value e) k = expr_has e k
  arg_has (lend b) k = k b (itself b)
  arg_has (give b) k = k b (itself b)

  args_have : (args : List Arg) → Knows names (λ x. names_in_args x args) → HasArgs names args
  args_have [] k = tt
  args_have (a ∷ rest) k = (arg_has a (left (λ x. names_in_arg x a) (λ x. names_in_args x rest) k), args_have rest (right (λ x. names_in_arg x a) (λ x. names_in_args x rest) k))

  value_has : (v : RetValue) → Knows names (λ x. names_in_value x v) → HasValue names v
  value_has (gives e) k = expr_has e k
  value_has (hands b) k = k b (itself b)

  return_has : (r : Option Ret) → Knows names (λ x. names_in_return x r) → HasReturn names r
  return_has None k = tt
  return_has (Some r) k = value_has r.value k

  all_have : (xs : List Name) → Knows names (λ x. is_among x xs) → HasAll names xs
  all_have [] k = tt
  all_have (y ∷ ys) k = (left (λ x. bytes_eq y x) (λ x. is_among x ys) k y (itself y), all_have ys (right (λ x. bytes_eq y x) (λ x. is_among x ys) k))

  -- a name, and an expression behind it
  named_has : (y : Name) (e : Expr) → Knows names (λ x. bytes_eq y x || names_in_expr x e) → Has names y × HasExpr names e
  named_has y e k = (left (λ x. bytes_eq y x) (λ x. names_in_expr x e) k y (itself y), expr_has e (right (λ x. bytes_eq y x) (λ x. names_in_expr x e) k))

  -- statements whose names have slots, and whose calls can be done
  mutual
    stmt_has : (p : Program) (s : Stmt) → Knows names (λ x. names_in_stmt x s) → EachCallOfStmt (IsCall p) s → HasStmt (function_names p) names s
    stmt_has p (let_stmt y e) k c = named_has y e k
    stmt_has p (assign_stmt y e) k c = named_has y e k
    stmt_has p (put_stmt b i e) k c =
        let front = named_has b i (left (λ x. bytes_eq b x || names_in_expr x i) (λ x. names_in_expr x e) k) in
        (front.0, front.1, expr_has e (right (λ x. bytes_eq b x || names_in_expr x i) (λ x. names_in_expr x e) k))
    stmt_has p (alloc_stmt b e) k c = named_has b e k
    stmt_has p (free_stmt b) k c = k b (itself b)
    stmt_has p (if_stmt e a b) k c =
        let arms = right (λ x. names_in_expr x e) (λ x. names_in_body x a || names_in_body x b) k in (
          expr_has e (left (λ x. names_in_expr x e) (λ x. names_in_body x a || names_in_body x b) k),
          body_has p a (left (λ x. names_in_body x a) (λ x. names_in_body x b) arms) c.0,
          body_has p b (right (λ x. names_in_body x a) (λ x. names_in_body x b) arms) c.1,
        )
    stmt_has p (while_stmt e a) k c = (expr_has e (left (λ x. names_in_expr x e) (λ x. names_in_body x a) k), body_has p a (right (λ x. names_in_expr x e) (λ x. names_in_body x a) k) c)
    stmt_has p (call_stmt t f args) k c = (
      target_has t (left (λ x. names_in_target x t) (λ x. names_in_args x args) k),
      found_has p f c.callee c.found,
      args_have args (right (λ x. names_in_target x t) (λ x. names_in_args x args) k),
    )
    stmt_has p (print_stmt e) k c = expr_has e k
    stmt_has p (par_stmt a b) k c =
        (body_has p a (left (λ x. names_in_body x a) (λ x. names_in_body x b) k) c.0, body_has p b (right (λ x. names_in_body x a) (λ x. names_in_body x b) k) c.1)
    stmt_has p (split_stmt b e l r a) k c =
        let head = left (λ x. bytes_eq b x || names_in_expr x e || bytes_eq l x || bytes_eq r x) (λ x. names_in_body x a) k in
        let parts = left (λ x. bytes_eq b x || names_in_expr x e || bytes_eq l x) (λ x. bytes_eq r x) head in
        let front = named_has b e (left (λ x. bytes_eq b x || names_in_expr x e) (λ x. bytes_eq l x) parts) in (
          front.0,
          front.1,
          right (λ x. bytes_eq b x || names_in_expr x e) (λ x. bytes_eq l x) parts l (itself l),
          right (λ x. bytes_eq b x || names_in_expr x e || bytes_eq l x) (λ x. bytes_eq r x) head r (itself r),
          body_has p a (right (λ x. bytes_eq b x || names_in_expr x e || bytes_eq l x || bytes_eq r x) (λ x. names_in_body x a) k) c,
        )

    body_has : (p : Program) (b : Body) → Knows names (λ x. names_in_body x b) → EachCall (IsCall p) b → HasBody (function_names p) names b
    body_has p done k c = tt
    body_has p (step line s rest) k c = (
      stmt_has p s (left (λ x. names_in_stmt x s) (λ x. names_in_body x rest) k) c.0,
      body_has p rest (right (λ x. names_in_stmt x s) (λ x. names_in_body x rest) k) c.1,
    )

-- a name that is declared has a slot

among_front : (x : Name) (xs ys : List Name) → Has xs x → Has (xs ++ ys) x
among_front x xs ys h = list_any-append (λ y. bytes_eq y x) xs ys ∙ or_l (is_among x xs) (is_among x ys) h

kept_at : (names : List Name) (x y : Name) (b : Bool) → Has names x → Has (if b then names else names ++ y ∷ []) x
kept_at names x y true h = h
kept_at names x y false h = among_front x names (y ∷ []) h

kept : (x : Name) (names ds : List Name) → Has names x → Has (with_names names ds) x
kept x names [] h = h
kept x names (d ∷ ds) h = kept x (with_name names d) ds (kept_at names x d (is_among d names) h)

added_at : (names : List Name) (x y : Name) (b : Bool) → is_among y names ≡ b → bytes_eq y x ≡ true → Has (if b then names else names ++ y ∷ []) x
added_at names x y true e same = subst (λ z. Has names z) ((bytes_eq-Decides y x).0 same) e
added_at names x y false e same = list_any-append (λ z. bytes_eq z x) names (y ∷ []) ∙ or_r (is_among x names) (bytes_eq y x || false) (or_l (bytes_eq y x) false same)

added : (x : Name) (names ds : List Name) → is_among x ds ≡ true → Has (with_names names ds) x
added x names [] h = let never : ⊥ = cc in absurd never
added x names (d ∷ ds) h = go (bytes_eq d x) refl h (added x (with_name names d) ds)
  where
    go : (b : Bool) → bytes_eq d x ≡ b → (b || is_among x ds) ≡ true → (is_among x ds ≡ true → Has (with_names (with_name names d) ds) x) → Has (with_names (with_name names d) ds) x
    go true e h more = kept x (with_name names d) ds (added_at names x d (is_among d names) refl e)
    go false e h more = more h

-- slots are at most as many as declarations

one_more : (names : List Name) (y : Name) (b : Bool) → length (if b then names else names ++ y ∷ []) ≤ length names + 1
one_more names y true = omega arith
one_more names y false = let both = length-append names (y ∷ []) in omega (arith, both)

few_slots : (names ds : List Name) → length (with_names names ds) ≤ length names + length ds
few_slots names [] = omega arith
few_slots names (d ∷ ds) = let rest = few_slots (with_name names d) ds in let first = one_more names d (is_among d names) in omega (arith, rest, first)

-- functions

func_has : (p : Program) (f : Func) → IsDeclared f → EachCall (IsCall p) f.body → HasFewNames f → HasFunc (function_names p) f
func_has p f known called few =
    let knows : Knows (slot_names f) (λ x. is_among x (param_names f.params) || (names_in_body x f.body || names_in_return x f.ret)) = λ x h. added x [] (declared_in f) (known x h) in
    let slots_of = slot_names f in
    let inner = right slots_of (λ x. is_among x (param_names f.params)) (λ x. names_in_body x f.body || names_in_return x f.ret) knows in
    let slots = few_slots [] (declared_in f) in
    record {
      few = omega (arith, few, slots);
      params = all_have slots_of (param_names f.params) (left slots_of (λ x. is_among x (param_names f.params)) (λ x. names_in_body x f.body || names_in_return x f.ret) knows);
      body = body_has slots_of p f.body (left slots_of (λ x. names_in_body x f.body) (λ x. names_in_return x f.ret) inner) called;
      ret = return_has slots_of f.ret (right slots_of (λ x. names_in_body x f.body) (λ x. names_in_return x f.ret) inner);
    }

funcs_have : (p : Program) (fs : List Func) → EachFunction IsDeclared fs → EachFunction (λ f. EachCall (IsCall p) f.body) fs → EachFunction HasFewNames fs → EachFunction (HasFunc (function_names p)) fs
funcs_have p [] known called few = tt
funcs_have p (f ∷ fs) known called few = (func_has p f known.0 called.0 few.0, funcs_have p fs known.1 called.1 few.1)

can_be_lowered : (p : Program) → IsTreeOfText p → Ownership p → CanBeLowered (function_names p) p
can_be_lowered p text owns =
    let sizes = small p text in
    let main = main_of p owns in
    let many = sizes.functions in
    let long = sizes.statements in
    record {
      few = omega (arith, many);
      small = omega (arith, long);
      each = funcs_have p p (declared p owns) (calls p owns) sizes.names;
      main = found_has p main_name main.0 main.1;
    }

pub functions_can : (p : RustProgram) (fs : List RustFunc) → fs ≡ p.funcs.items → IsTreeOfText (program_tree p) → Ownership (program_tree p) → CanBeLowered (func_names fs) (funcs_tree fs)
functions_can p fs same text owns =
    subst (λ (gs : List RustFunc). CanBeLowered (func_names gs) (funcs_tree gs)) (sym same)
    (subst (λ names. CanBeLowered names (funcs_tree p.funcs.items)) (sym (names_are p.funcs.items)) (can_be_lowered (program_tree p) text owns))
