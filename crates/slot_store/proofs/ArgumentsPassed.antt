-- One argument is passed, and the rest is left to pass.
use Rattle.std.proofs.Common.{◌≡◌, ℕ, zero, suc, ◌+◌, ◌<◌, List, [], ◌∷◌, length, drop, get_or, ℤ, ◌⊎◌, Result, Ok, Err, refl, sym, ap, ◌∙◌, subst, arith}
use Rattle.dag_order.specs.declared.fault.FaultKind.{FaultKind}
use Rattle.depth_first_run.specs.Passed.Tree
use Rattle.depth_first_run.specs.Passed.Tree.{Name, Param, Arg}
use Rattle.depth_first_run.specs.Passed.Names.{param_names}
use Rattle.node_table.specs.Names.{name_at}
use Rattle.node_table.specs.Reading.{slots_read, IsArg, AreArgs, FitsArgs, arg_read, args_read}
use Rattle.node_table.specs.Shown.{arg_shown, args_shown}
use mathlib.Core.Logic.{inl, inr}
use Rattle.node_table.specs.declared.code_arg.CodeArg.{CodeArg}
use Rattle.node_table.specs.declared.code_arg.CodeArg.TheVariants.{Lend, Give}
use Rattle.depth_first_run.specs.Stores.{Store, Held, with_integer}
use Rattle.depth_first_run.specs.Values as values
use Rattle.depth_first_run.specs.Values.{Outcome}
use Rattle.depth_first_run.specs.Calls.{Passing, passed, pass_value, pass_integer, pass_block}
use Rattle.slot_store.specs.Rows.{Entry}
use Rattle.slot_store.specs.Agreement.{ShowsStore}
use Rattle.slot_store.specs.Calls.{store_with, PassesInteger}

pub value_passes : (s : Store) (q : Param) (e : Tree.Expr) (v : ℤ) (g : Passing) → values.value s e ≡ Ok v → (qs : List Param) (args : List Arg) →
    passed s (q ∷ qs) (Tree.value e ∷ args) g ≡ passed s qs args (pass_integer q.name v g)
unfolding passed
value_passes s q e v g is qs args = rw is refl

pub lend_passes : (s : Store) (q : Param) (b : Name) (g : Passing) (qs : List Param) (args : List Arg) →
    passed s (q ∷ qs) (Tree.lend b ∷ args) g ≡ passed s qs args (pass_block q.name b g)
unfolding passed
lend_passes s q b g qs args = refl

pub give_passes : (s : Store) (q : Param) (b : Name) (g : Passing) (qs : List Param) (args : List Arg) →
    passed s (q ∷ qs) (Tree.give b ∷ args) g ≡ passed s qs args (pass_block q.name b g)
unfolding passed
give_passes s q b g qs args = refl

-- nothing is left to pass
pub no_params : (s : Store) (args : List Arg) (g : Passing) → passed s [] args g ≡ Ok g
unfolding passed
no_params s args g = refl

pub no_args : (s : Store) (qs : List Param) (g : Passing) → passed s qs [] g ≡ Ok g
unfolding passed
no_args s [] g = refl
no_args s (q ∷ qs) g = refl

-- the caller's integers stay
keeps_value : (s : Store) (q : Param) (qs : List Param) (args : List Arg) (g h : Passing) (o : Outcome) →
    ((g : Passing) → passed s qs args g ≡ Ok h → h.caller.integers ≡ g.caller.integers) → pass_value q.name o g (passed s qs args) ≡ Ok h →
    h.caller.integers ≡ g.caller.integers
keeps_value s q qs args g h (Ok v) told is = told (pass_integer q.name v g) is
keeps_value s q qs args g h (Err kind) told is = let never : ⊥ = cc in absurd never

ok_passing : Passing → Result Passing FaultKind
ok_passing g = Ok g

ok_same : (g h : Passing) → ok_passing g ≡ Ok h → h.caller.integers ≡ g.caller.integers
unfolding ok_passing
ok_same g h is = ap (caller_integers g) (sym is)
  where
    caller_integers : Passing → Result Passing FaultKind → Name → ℤ
    caller_integers other (Ok p) = p.caller.integers
    caller_integers other (Err kind) = other.caller.integers

pub keeps_integers : (s : Store) (qs : List Param) (args : List Arg) (g h : Passing) → passed s qs args g ≡ Ok h →
    h.caller.integers ≡ g.caller.integers
unfolding passed ok_passing
keeps_integers s [] args g h is = ok_same g h is
keeps_integers s (q ∷ qs) [] g h is = ok_same g h is
keeps_integers s (q ∷ qs) (Tree.value e ∷ args) g h is =
    keeps_value s q qs args g h (values.value s e) (λ g is. keeps_integers s qs args g h is) is
keeps_integers s (q ∷ qs) (Tree.lend b ∷ args) g h is = keeps_integers s qs args (pass_block q.name b g) h is
keeps_integers s (q ∷ qs) (Tree.give b ∷ args) g h is = keeps_integers s qs args (pass_block q.name b g) h is

-- the next parameter, and the next argument
pub record NextParam (names : List Name) (slot : ℕ) (qs rest : List Param) : Type 0 where
  pub param : Param
  pub is : qs ≡ param ∷ rest
  pub named : name_at names slot ≡ param.name

pub next_param : (names : List Name) (slots : List ℕ) (qs : List Param) (i : ℕ) → slots_read names slots ≡ param_names qs → i < length slots →
    NextParam names (get_or slots i 0) (drop i qs) (drop (i + 1) qs)
next_param names [] qs i e within = absurd (omega arith)
next_param names (s ∷ ss) [] i e within = let never : ⊥ = cc in absurd never
next_param names (s ∷ ss) (q ∷ qs) zero e within = record { param = q; is = refl; named = ap (first []) e }
  where
    first : Name → List Name → Name
    first d [] = d
    first d (x ∷ xs) = x
next_param names (s ∷ ss) (q ∷ qs) (suc i) e within = step (next_param names ss qs i (ap rest e) (omega arith))
  where
    rest : List Name → List Name
    rest [] = []
    rest (x ∷ xs) = xs

    step : NextParam names (get_or ss i 0) (drop i qs) (drop (i + 1) qs) → NextParam names (get_or ss i 0) (drop i qs) (drop (suc i + 1) (q ∷ qs))
    step next =
        let more : suc i + 1 ≡ suc (i + 1) = omega arith in
        subst (λ n. NextParam names (get_or ss i 0) (drop i qs) (drop n (q ∷ qs))) (sym more) next

pub record NextArg (names : List Name) (arg : CodeArg) (values rest : List Arg) : Type 0 where
  pub value : Arg
  pub is : values ≡ value ∷ rest
  pub arg_is : IsArg names (arg_shown arg) value

pub next_arg : (names : List Name) (args : List CodeArg) (values : List Arg) (i : ℕ) (x : CodeArg) → AreArgs names (args_shown args) values →
    i < length args → x ≡ get_or args i x → NextArg names x (drop i values) (drop (i + 1) values)
next_arg names args values i x are within at =
    subst (λ (vs : List Arg). NextArg names x (drop i vs) (drop (i + 1) vs)) are.0 (found args i are.1 within at)
  where
    found : (args : List CodeArg) (i : ℕ) → FitsArgs (length names) (args_shown args) → i < length args → x ≡ get_or args i x →
        NextArg names x (drop i (args_read names (args_shown args))) (drop (i + 1) (args_read names (args_shown args)))
    found [] i fits within at = absurd (omega arith)
    found (y ∷ ys) zero fits within at = record {
      value = arg_read names (arg_shown y);
      is = refl;
      arg_is = subst (λ (z : CodeArg). IsArg names (arg_shown z) (arg_read names (arg_shown y))) (sym at) (refl, fits.0);
    }
    found (y ∷ ys) (suc i) fits within at = step (found ys i fits.1 (omega arith) at)
      where
        step : NextArg names x (drop i (args_read names (args_shown ys))) (drop (i + 1) (args_read names (args_shown ys))) →
            NextArg names x (drop (suc i) (args_read names (args_shown (y ∷ ys)))) (drop (suc i + 1) (args_read names (args_shown (y ∷ ys))))
        step next =
            let more : suc i + 1 ≡ suc (i + 1) = omega arith in
            subst (λ n. NextArg names x (drop i (args_read names (args_shown ys))) (drop n (args_read names (args_shown (y ∷ ys))))) (sym more) next

-- what an argument is, to the walk over integers
pub no_integer : (names callee_names : List Name) (s : Store) (q : Param) (arg : CodeArg) (a : Arg) (blocks : List Held) (g : Passing) (callee : List Entry) →
    ((x : ℕ) × (arg ≡ Lend x)) ⊎ ((x : ℕ) × (arg ≡ Give x)) → IsArg names (arg_shown arg) a →
    ShowsStore callee_names callee (store_with g.callee.integers blocks) → PassesInteger callee_names s q a blocks g (Ok tt) callee
no_integer names callee_names s q arg a blocks g callee (inl (x, lends)) is shows =
    let same : Tree.lend (name_at names x) ≡ a = sym (ap (λ (c : CodeArg). arg_read names (arg_shown c)) lends) ∙ is.0 in
    subst (λ (a : Arg). PassesInteger callee_names s q a blocks g (Ok tt) callee) same
    (pass_block q.name (name_at names x) g, λ qs args. lend_passes s q (name_at names x) g qs args, shows)
no_integer names callee_names s q arg a blocks g callee (inr (x, gives)) is shows =
    let same : Tree.give (name_at names x) ≡ a = sym (ap (λ (c : CodeArg). arg_read names (arg_shown c)) gives) ∙ is.0 in
    subst (λ (a : Arg). PassesInteger callee_names s q a blocks g (Ok tt) callee) same
    (pass_block q.name (name_at names x) g, λ qs args. give_passes s q (name_at names x) g qs args, shows)

pub an_integer : (callee_names : List Name) (s : Store) (q : Param) (e : Tree.Expr) (a : Arg) (v : ℤ) (blocks : List Held) (g : Passing)
    (slot : ℕ) (callee : List Entry) → Tree.value e ≡ a → values.value s e ≡ Ok v → name_at callee_names slot ≡ q.name →
    ShowsStore callee_names callee (with_integer (name_at callee_names slot) v (store_with g.callee.integers blocks)) →
    PassesInteger callee_names s q a blocks g (Ok tt) callee
an_integer callee_names s q e a v blocks g slot callee same is named shows =
    subst (λ (a : Arg). PassesInteger callee_names s q a blocks g (Ok tt) callee) same (
      pass_integer q.name v g,
      λ qs args. value_passes s q e v g is qs args,
      subst (λ (x : Name). ShowsStore callee_names callee (with_integer x v (store_with g.callee.integers blocks))) named shows,
    )

-- the walk over integers goes on, and ends
pub integers_fault : (callee_names : List Name) (s : Store) (qs : List Param) (args : List Arg) (q : Param) (a : Arg) (rest : List Param)
    (others : List Arg) (g h : Passing) (blocks : List Held) (kind : FaultKind) (callee : List Entry) → qs ≡ q ∷ rest → args ≡ a ∷ others →
    PassesInteger callee_names s q a blocks h (Err kind) callee → passed s qs args h ≡ Err kind
integers_fault callee_names s qs args q a rest others g h blocks kind callee first second step =
    ap (λ (ps : List Param). passed s ps args h) first ∙ ap (λ (as_ : List Arg). passed s (q ∷ rest) as_ h) second ∙ step rest others
