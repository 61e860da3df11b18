-- What is written in a function is declared there.
use Rattle.std.proofs.Common.{◌≡◌, ℕ, zero, suc, Bool, true, false, cond, ◌||◌, List, [], ◌∷◌, ◌++◌, map, take, length, Option, Some, None, ◌⊎◌, inl, inr, refl, sym, ap, ◌∙◌, subst}
use Rattle.std.specs.Prelude.{if◌then◌else◌}
use Rattle.std.specs.List.{find, list_any}
use Rattle.std.specs.Str.{bytes_eq}
use Rattle.std.proofs.lemmas.Slice.Eq.{bytes_eq-Decides}
use Rattle.std.proofs.lemmas.List.Folds.{list_any-append}
use Rattle.std.proofs.lemmas.Bool.{or_left, or_right}
use Rattle.par_tree.specs.Tree
use Rattle.par_tree.specs.Tree.{Name, Program, Expr, num, var, get, len_of, neg, chain, cmp, Links, last, link, Target, unused, block, Arg, value, lend, give, Stmt, let_stmt, assign_stmt, put_stmt, alloc_stmt, free_stmt, if_stmt, while_stmt, call_stmt, print_stmt, par_stmt, split_stmt, Body, done, step, ParamKind, by_value, owned, Param, Func, Ret, RetValue, gives, hands}
use Rattle.par_ownership.specs.Environment.{Entry, Environment, has_name, entry_of, with_entry, marked, integer_entry, block_entry, lent_entry, opened, without, after_gives, after_answer, held_in_both, param_entry}
use Rattle.par_tree.specs.Names.{names_in_expr, names_in_links, names_in_target, names_in_arg, names_in_args, names_in_stmt, names_in_body}
use Rattle.par_ownership.specs.Ownership.{IsHeld, Reads, ReadsLinks, IsTarget, PassesOne, Passes, Within, Owns, OwnsAll, OwnsParams, OwnsReturn, OwnsValue, OwnsFunction, OwnsFunctions, Ownership}
use Rattle.par_tree.specs.Names.{declared_by_target, declared_in_stmt, declared_in_body, param_names, declared_in, is_among, names_in_value, names_in_return}
use Rattle.accepted_source.specs.Laws.{EachFunction, IsDeclared}

-- x is the name of an entry, and x is that or among some names
abbrev Sees : Name → Environment → Type 0
Sees x env = list_any (has_name x) env ≡ true

abbrev Among : Name → List Name → Type 0
Among x ds = is_among x ds ≡ true

abbrev Known : Name → Environment → List Name → Type 0
Known x env ds = Sees x env ⊎ Among x ds

or_cases : (a b : Bool) → (a || b) ≡ true → (a ≡ true) ⊎ (b ≡ true)
or_cases true b h = inl refl
or_cases false b h = inr h

never_true : {A : Type 0} → false ≡ true → A
never_true h = let never : ⊥ = cc in absurd never

-- what is found passes the test
found_step : {X : Type 0} (b : Bool) (y : X) (o : Option X) (r : Bool) (e : X) → cond b (Some y) o ≡ Some e → (o ≡ Some e → r ≡ true) → (b || r) ≡ true
found_step true y o r e h k = refl
found_step false y o r e h k = k h

found_any : {X : Type 0} (test : X → Bool) (xs : List X) (e : X) → find test xs ≡ Some e → list_any test xs ≡ true
found_any test [] e h = let never : ⊥ = cc in absurd never
found_any test (y ∷ ys) e h = found_step (test y) y (find test ys) (list_any test ys) e h (found_any test ys e)

-- a name that is visible, read as x
seen_as : (x y : Name) (env : Environment) (e : Entry) → entry_of env y ≡ Some e → bytes_eq y x ≡ true → Sees x env
seen_as x y env e h n = subst (λ (z : Name). Sees z env) ((bytes_eq-Decides y x).0 n) (found_any (has_name y) env e h)

-- how the visible names change
sees_with : (x : Name) (env : Environment) (e : Entry) → Sees x (with_entry env e) → Sees x env ⊎ (bytes_eq e.name x ≡ true)
sees_with x env e h =
    elim (or_cases (list_any (has_name x) env) (bytes_eq e.name x || false) (sym (list_any-append (has_name x) env (e ∷ [])) ∙ h)) [
      | inl l ↦ inl l
      | inr r ↦ elim (or_cases (bytes_eq e.name x) false r) [ inl m ↦ inr m | inr f ↦ never_true f ]
    ]

marked_named : (x b : Name) (held : Bool) (e : Entry) (t : Bool) → has_name x (if t then record e { held = held } else e) ≡ has_name x e
marked_named x b held e true = refl
marked_named x b held e false = refl

sees_marked : (x b : Name) (held : Bool) (env : Environment) → list_any (has_name x) (map (marked b held) env) ≡ list_any (has_name x) env
sees_marked x b held [] = refl
sees_marked x b held (e ∷ es) =
    ap (λ t. t || list_any (has_name x) (map (marked b held) es)) (marked_named x b held e (has_name b e))
    ∙ ap (λ t. has_name x e || t) (sees_marked x b held es)

sees_without : (x b : Name) (env : Environment) → Sees x (without env b) → Sees x env
sees_without x b env h = sym (sees_marked x b false env) ∙ h

sees_take : (x : Name) (n : ℕ) (env : Environment) → Sees x (take n env) → Sees x env
sees_take x zero env h = never_true h
sees_take x (suc n) [] h = h
sees_take x (suc n) (e ∷ es) h =
    elim (or_cases (has_name x e) (list_any (has_name x) (take n es)) h) [
      | inl l ↦ or_left (has_name x e) (list_any (has_name x) es) l
      | inr r ↦ or_right (has_name x e) (list_any (has_name x) es) (sees_take x n es r)
    ]

sees_both : (x : Name) (left right : Environment) → Sees x (held_in_both left right) → Sees x left
sees_both x [] right h = h
sees_both x (e ∷ es) [] h = never_true h
sees_both x (e ∷ es) (f ∷ fs) h =
    elim (or_cases (has_name x e) (list_any (has_name x) (held_in_both es fs)) h) [
      | inl l ↦ or_left (has_name x e) (list_any (has_name x) es) l
      | inr r ↦ or_right (has_name x e) (list_any (has_name x) es) (sees_both x es fs r)
    ]

sees_gives : (x : Name) (env : Environment) (args : List Arg) → Sees x (after_gives env args) → Sees x env
sees_gives x env [] h = h
sees_gives x env (value e ∷ rest) h = sees_gives x env rest h
sees_gives x env (lend b ∷ rest) h = sees_gives x env rest h
sees_gives x env (give b ∷ rest) h = sees_without x b env (sees_gives x (without env b) rest h)

-- what is known stays known among more names
among_left : (x : Name) (ds es : List Name) → Among x ds → Among x (ds ++ es)
among_left x ds es h = list_any-append (λ y. bytes_eq y x) ds es ∙ or_left (is_among x ds) (is_among x es) h

among_right : (x : Name) (ds es : List Name) → Among x es → Among x (ds ++ es)
among_right x ds es h = list_any-append (λ y. bytes_eq y x) ds es ∙ or_right (is_among x ds) (is_among x es) h

known_left : (x : Name) (env : Environment) (ds es : List Name) → Known x env ds → Known x env (ds ++ es)
known_left x env ds es (inl h) = inl h
known_left x env ds es (inr h) = inr (among_left x ds es h)

known_right : (x : Name) (env : Environment) (ds es : List Name) → Known x env es → Known x env (ds ++ es)
known_right x env ds es (inl h) = inl h
known_right x env ds es (inr h) = inr (among_right x ds es h)

-- a declared name
known_entry : (x : Name) (env : Environment) (e : Entry) → Sees x (with_entry env e) → Known x env (e.name ∷ [])
known_entry x env e h = elim (sees_with x env e h) [ inl l ↦ inl l | inr r ↦ inr (or_left (bytes_eq e.name x) false r) ]

-- behind a declaration, what was known with it
known_behind : (x : Name) (env : Environment) (e : Entry) (ds : List Name) → Known x (with_entry env e) ds → Known x env (e.name ∷ ds)
known_behind x env e ds (inl h) = elim (sees_with x env e h) [ inl l ↦ inl l | inr r ↦ inr (or_left (bytes_eq e.name x) (is_among x ds) r) ]
known_behind x env e ds (inr h) = inr (or_right (bytes_eq e.name x) (is_among x ds) h)

known_answer : (x : Name) (env : Environment) (t : Target) (line : ℕ) → Sees x (after_answer env t line) → Known x env (declared_by_target t)
known_answer x env unused line h = inl h
known_answer x env (Tree.integer y) line h = inl h
known_answer x env (block b) line h = known_entry x env (block_entry b line) h

known_opened : (x : Name) (env : Environment) (b l r : Name) (line : ℕ) (ds : List Name) → Known x (opened env b l r line) ds → Known x env (l ∷ r ∷ ds)
known_opened x env b l r line ds h =
    known_behind x env (lent_entry l line) (r ∷ ds)
    (known_behind x (with_entry env (lent_entry l line)) (lent_entry r line) ds
    (elim h [ inl s ↦ inl (sees_without x b (with_entry (with_entry env (lent_entry l line)) (lent_entry r line)) s) | inr d ↦ inr d ]))

-- expressions, arguments and targets name what is visible
mutual
  seen_expr : (x : Name) (env : Environment) (e : Expr) → Reads env e → names_in_expr x e ≡ true → Sees x env
  seen_expr x env (num n) r h = never_true h
  seen_expr x env (var y) r h = seen_as x y env r.0 r.1 h
  seen_expr x env (get b i) r h =
      elim (or_cases (bytes_eq b x) (names_in_expr x i) h) [ inl l ↦ seen_as x b env r.0.0 r.0.1 l | inr m ↦ seen_expr x env i r.1 m ]
  seen_expr x env (len_of b) r h = seen_as x b env r.0 r.1 h
  seen_expr x env (neg e) r h = seen_expr x env e r h
  seen_expr x env (chain e ls) r h =
      elim (or_cases (names_in_expr x e) (names_in_links x ls) h) [ inl l ↦ seen_expr x env e r.0 l | inr m ↦ seen_links x env ls r.1 m ]
  seen_expr x env (cmp op a b) r h =
      elim (or_cases (names_in_expr x a) (names_in_expr x b) h) [ inl l ↦ seen_expr x env a r.0 l | inr m ↦ seen_expr x env b r.1 m ]

  seen_links : (x : Name) (env : Environment) (ls : Links) → ReadsLinks env ls → names_in_links x ls ≡ true → Sees x env
  seen_links x env last r h = never_true h
  seen_links x env (link op e ls) r h =
      elim (or_cases (names_in_expr x e) (names_in_links x ls) h) [ inl l ↦ seen_expr x env e r.0 l | inr m ↦ seen_links x env ls r.1 m ]

seen_arg : (x : Name) (env : Environment) (before : List Arg) (k : ParamKind) (a : Arg) → PassesOne env before k a → names_in_arg x a ≡ true → Sees x env
seen_arg x env before by_value (value e) r h = seen_expr x env e r h
seen_arg x env before by_value (lend b) r h = absurd r
seen_arg x env before by_value (give b) r h = absurd r
seen_arg x env before Tree.lent (value e) r h = absurd r
seen_arg x env before Tree.lent (lend b) r h = seen_as x b env r.0.0 r.0.1 h
seen_arg x env before Tree.lent (give b) r h = absurd r
seen_arg x env before owned (value e) r h = absurd r
seen_arg x env before owned (lend b) r h = absurd r
seen_arg x env before owned (give b) r h = seen_as x b env r.0.0 r.0.1 h

seen_args : (x : Name) (env : Environment) (before : List Arg) (qs : List Param) (args : List Arg) → Passes env before qs args → names_in_args x args ≡ true → Sees x env
seen_args x env before [] [] r h = never_true h
seen_args x env before [] (a ∷ rest) r h = absurd r
seen_args x env before (q ∷ qs) [] r h = absurd r
seen_args x env before (q ∷ qs) (a ∷ rest) r h =
    elim (or_cases (names_in_arg x a) (names_in_args x rest) h) [
      | inl l ↦ seen_arg x env before q.kind a r.0 l
      | inr m ↦ seen_args x env (before ++ a ∷ []) qs rest r.1 m
    ]

known_target : (x : Name) (env : Environment) (t : Target) → IsTarget env t → names_in_target x t ≡ true → Known x env (declared_by_target t)
known_target x env unused r h = never_true h
known_target x env (Tree.integer y) r h = inl (seen_as x y env r.0 r.1 h)
known_target x env (block b) r h = inr (or_left (bytes_eq b x) false h)

-- behind a list, what was visible at its end
ended : (x : Name) (n : ℕ) (R : Environment → Environment → Type 0) (env after : Environment) (ds : List Name) → ((end : Environment) → R env end → Sees x end → Known x env ds) → Within n R env after → Sees x after → Known x env ds
ended x n R env after ds k w v = k w.0 w.1 (sees_take x n w.0 (subst (λ (e : Environment). Sees x e) w.3 v))

-- what is visible behind a statement was visible before it, or is declared by it
mutual
  grows_stmt : (x : Name) (p : Program) (line : ℕ) (s : Stmt) (env after : Environment) → Owns p line s env after → Sees x after → Known x env (declared_in_stmt s)
  grows_stmt x p line (let_stmt y e) env after h v = known_entry x env (integer_entry y line) (subst (λ (w : Environment). Sees x w) h.2 v)
  grows_stmt x p line (assign_stmt y e) env after h v = inl (subst (λ (w : Environment). Sees x w) h.2 v)
  grows_stmt x p line (put_stmt b i e) env after h v = inl (subst (λ (w : Environment). Sees x w) h.3 v)
  grows_stmt x p line (alloc_stmt b e) env after h v = known_entry x env (block_entry b line) (subst (λ (w : Environment). Sees x w) h.2 v)
  grows_stmt x p line (free_stmt b) env after h v = inl (sees_without x b env (subst (λ (w : Environment). Sees x w) h.1 v))
  grows_stmt x p line (if_stmt c a b) env after h v = known_left x env (declared_in_body a) (declared_in_body b) (ended x (length env) (OwnsAll p a) env after (declared_in_body a) (λ end run w. grows_body x p a env end run w) h.1 v)
  grows_stmt x p line (while_stmt c a) env after h v = inl (subst (λ (w : Environment). Sees x w) h.2 v)
  grows_stmt x p line (call_stmt t f args) env after h v =
      elim (known_answer x (after_gives env args) t line (subst (λ (w : Environment). Sees x w) h.2 v)) [ inl l ↦ inl (sees_gives x env args l) | inr r ↦ inr r ]
  grows_stmt x p line (print_stmt e) env after h v = inl (subst (λ (w : Environment). Sees x w) h.1 v)
  grows_stmt x p line (par_stmt a b) env after h v =
      known_left x env (declared_in_body a) (declared_in_body b)
      (ended x (length env) (OwnsAll p a) env h.1.0 (declared_in_body a) (λ end run w. grows_body x p a env end run w) h.1.1 (sees_both x h.1.0 h.1.2.0 (subst (λ (w : Environment). Sees x w) h.1.2.2 v)))
  grows_stmt x p line (split_stmt b e l r a) env after h v =
      known_opened x env b l r line (declared_in_body a)
      (ended x (length env) (OwnsAll p a) (opened env b l r line) h.4.0 (declared_in_body a) (λ end run w. grows_body x p a (opened env b l r line) end run w) h.4.1 (sym (sees_marked x b true h.4.0) ∙ subst (λ (w : Environment). Sees x w) h.4.2 v))

  grows_body : (x : Name) (p : Program) (b : Body) (env after : Environment) → OwnsAll p b env after → Sees x after → Known x env (declared_in_body b)
  grows_body x p done env after h v = inl (subst (λ (w : Environment). Sees x w) h v)
  grows_body x p (step line s rest) env after h v =
      elim (grows_body x p rest h.0 after h.2 v) [
        | inl l ↦ known_left x env (declared_in_stmt s) (declared_in_body rest) (grows_stmt x p line s env h.0 h.1 l)
        | inr r ↦ inr (among_right x (declared_in_stmt s) (declared_in_body rest) r)
      ]

-- the head of a `split`
covers_parts : (x : Name) (env : Environment) (b : Name) (e : Expr) (l r : Name) (ds : List Name) → IsHeld env b → Reads env e → (bytes_eq b x || names_in_expr x e || bytes_eq l x || bytes_eq r x) ≡ true → Known x env (l ∷ r ∷ ds)
covers_parts x env b e l r ds held reads n =
    elim (or_cases (bytes_eq b x || names_in_expr x e || bytes_eq l x) (bytes_eq r x) n) [
      | inl m ↦ elim (or_cases (bytes_eq b x || names_in_expr x e) (bytes_eq l x) m) [
        | inl k ↦ elim (or_cases (bytes_eq b x) (names_in_expr x e) k) [ inl j ↦ inl (seen_as x b env held.0 held.1 j) | inr j ↦ inl (seen_expr x env e reads j) ]
        | inr k ↦ inr (or_left (bytes_eq l x) (is_among x (r ∷ ds)) k)
      ]
      | inr m ↦ inr (or_right (bytes_eq l x) (is_among x (r ∷ ds)) (or_left (bytes_eq r x) (is_among x ds) m))
    ]

-- what statements name was visible before them, or is declared by them
mutual
  covers_stmt : (x : Name) (p : Program) (line : ℕ) (s : Stmt) (env after : Environment) → Owns p line s env after → names_in_stmt x s ≡ true → Known x env (declared_in_stmt s)
  covers_stmt x p line (let_stmt y e) env after h n =
      elim (or_cases (bytes_eq y x) (names_in_expr x e) n) [ inl l ↦ inr (or_left (bytes_eq y x) false l) | inr r ↦ inl (seen_expr x env e h.1 r) ]
  covers_stmt x p line (assign_stmt y e) env after h n =
      elim (or_cases (bytes_eq y x) (names_in_expr x e) n) [ inl l ↦ inl (seen_as x y env h.0.0 h.0.1 l) | inr r ↦ inl (seen_expr x env e h.1 r) ]
  covers_stmt x p line (put_stmt b i e) env after h n =
      elim (or_cases (bytes_eq b x || names_in_expr x i) (names_in_expr x e) n) [
        | inl l ↦ elim (or_cases (bytes_eq b x) (names_in_expr x i) l) [ inl m ↦ inl (seen_as x b env h.0.0 h.0.1 m) | inr m ↦ inl (seen_expr x env i h.1 m) ]
        | inr r ↦ inl (seen_expr x env e h.2 r)
      ]
  covers_stmt x p line (alloc_stmt b e) env after h n =
      elim (or_cases (bytes_eq b x) (names_in_expr x e) n) [ inl l ↦ inr (or_left (bytes_eq b x) false l) | inr r ↦ inl (seen_expr x env e h.1 r) ]
  covers_stmt x p line (free_stmt b) env after h n = inl (seen_as x b env h.0.0 h.0.1 n)
  covers_stmt x p line (if_stmt c a b) env after h n =
      elim (or_cases (names_in_expr x c) (names_in_body x a || names_in_body x b) n) [
        | inl l ↦ inl (seen_expr x env c h.0 l)
        | inr r ↦ elim (or_cases (names_in_body x a) (names_in_body x b) r) [
          | inl m ↦ known_left x env (declared_in_body a) (declared_in_body b) (covers_body x p a env h.1.0 h.1.1 m)
          | inr m ↦ known_right x env (declared_in_body a) (declared_in_body b) (covers_body x p b env h.2.1.0 h.2.1.1 m)
        ]
      ]
  covers_stmt x p line (while_stmt c a) env after h n =
      elim (or_cases (names_in_expr x c) (names_in_body x a) n) [ inl l ↦ inl (seen_expr x env c h.0 l) | inr r ↦ covers_body x p a env h.1.1.0 h.1.1.1 r ]
  covers_stmt x p line (call_stmt t f args) env after h n =
      elim (or_cases (names_in_target x t) (names_in_args x args) n) [
        | inl l ↦ known_target x env t h.0 l
        | inr r ↦ inl (seen_args x env [] h.1.0.params args h.1.3 r)
      ]
  covers_stmt x p line (print_stmt e) env after h n = inl (seen_expr x env e h.0 n)
  covers_stmt x p line (par_stmt a b) env after h n =
      elim (or_cases (names_in_body x a) (names_in_body x b) n) [
        | inl m ↦ known_left x env (declared_in_body a) (declared_in_body b) (covers_body x p a env h.1.1.0 h.1.1.1 m)
        | inr m ↦ known_right x env (declared_in_body a) (declared_in_body b) (covers_body x p b env h.1.2.1.0 h.1.2.1.1 m)
      ]
  covers_stmt x p line (split_stmt b e l r a) env after h n =
      elim (or_cases (bytes_eq b x || names_in_expr x e || bytes_eq l x || bytes_eq r x) (names_in_body x a) n) [
        | inl m ↦ covers_parts x env b e l r (declared_in_body a) h.0 h.1 m
        | inr m ↦ known_opened x env b l r line (declared_in_body a) (covers_body x p a (opened env b l r line) h.4.1.0 h.4.1.1 m)
      ]

  pub covers_body : (x : Name) (p : Program) (b : Body) (env after : Environment) → OwnsAll p b env after → names_in_body x b ≡ true → Known x env (declared_in_body b)
  covers_body x p done env after h n = never_true n
  covers_body x p (step line s rest) env after h n =
      elim (or_cases (names_in_stmt x s) (names_in_body x rest) n) [
        | inl l ↦ known_left x env (declared_in_stmt s) (declared_in_body rest) (covers_stmt x p line s env h.0 h.1 l)
        | inr r ↦ elim (covers_body x p rest h.0 after h.2 r) [
          | inl v ↦ known_left x env (declared_in_stmt s) (declared_in_body rest) (grows_stmt x p line s env h.0 h.1 v)
          | inr d ↦ inr (among_right x (declared_in_stmt s) (declared_in_body rest) d)
        ]
      ]

-- parameters
param_named : (x : Name) (k : ParamKind) (line : ℕ) → (param_entry (record { name = x; kind = k }) line).name ≡ x
param_named x by_value line = refl
param_named x Tree.lent line = refl
param_named x owned line = refl

grows_params : (x : Name) (line : ℕ) (qs : List Param) (env start : Environment) → OwnsParams line qs env start → Sees x start → Known x env (param_names qs)
grows_params x line [] env start h v = inl (subst (λ (w : Environment). Sees x w) h v)
grows_params x line (q ∷ qs) env start h v =
    subst (λ (y : Name). Known x env (y ∷ param_names qs)) (param_named q.name q.kind line)
    (known_behind x env (param_entry q line) (param_names qs) (grows_params x line qs (with_entry env (param_entry q line)) start h.1 v))

known_at_start : (x : Name) (ds : List Name) → Known x [] ds → Among x ds
known_at_start x ds (inl h) = never_true h
known_at_start x ds (inr h) = h

seen_value : (x : Name) (v : RetValue) (end after : Environment) → OwnsValue v end after → names_in_value x v ≡ true → Sees x end
seen_value x (gives e) end after h n = seen_expr x end e h.0 n
seen_value x (hands b) end after h n = seen_as x b end h.0.0 h.0.1 n

seen_return : (x : Name) (r : Option Ret) (end after : Environment) → OwnsReturn r end after → names_in_return x r ≡ true → Sees x end
seen_return x None end after h n = never_true n
seen_return x (Some r) end after h n = seen_value x r.value end after h n

-- from the start of a function
from_start : (x : Name) (f : Func) (start : Environment) → OwnsParams f.line f.params [] start → Known x start (declared_in_body f.body) → Among x (declared_in f)
from_start x f start o (inl s) = among_left x (param_names f.params) (declared_in_body f.body) (known_at_start x (param_names f.params) (grows_params x f.line f.params [] start o s))
from_start x f start o (inr d) = among_right x (param_names f.params) (declared_in_body f.body) d

declared_function : (p : Program) (f : Func) → OwnsFunction p f → IsDeclared f
declared_function p f h x n =
    elim (or_cases (is_among x (param_names f.params)) (names_in_body x f.body || names_in_return x f.ret) n) [
      | inl l ↦ among_left x (param_names f.params) (declared_in_body f.body) l
      | inr r ↦ from_start x f h.0 h.1 (elim (or_cases (names_in_body x f.body) (names_in_return x f.ret) r) [
        | inl m ↦ covers_body x p f.body h.0 h.2.0 h.2.1 m
        | inr m ↦ grows_body x p f.body h.0 h.2.0 h.2.1 (seen_return x f.ret h.2.0 h.2.2.0 h.2.2.1 m)
      ])
    ]

declared_functions : (p : Program) (fs : List Func) → OwnsFunctions p fs → EachFunction IsDeclared fs
declared_functions p [] h = tt
declared_functions p (f ∷ rest) h = (declared_function p f h.0, declared_functions p rest h.1)

pub declared : (p : Program) → Ownership p → EachFunction IsDeclared p
declared p o = declared_functions p p o.functions
