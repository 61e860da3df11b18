-- Numbers that are passed to the integer parameters of a function, and what is read of them there.
use Rattle.std.specs.Prelude.{◌≡◌, ℕ, zero, suc, Bool, true, false, if◌then◌else◌, List, [], ◌∷◌, ◌++◌, map, length, ℤ, Result, Ok, Err, Some, None, refl}
use Rattle.std.specs.Str.{bytes_eq}
use Rattle.std.specs.List.{find}
use Rattle.std.proofs.Common.{sym, ◌∙◌, ap, arith, subst}
use Rattle.std.proofs.lemmas.List.{map-append}
use Rattle.std.specs.Fmt.{decimal}
use Rattle.dag_order.specs.declared.fault.FaultKind.{FaultKind}
use Rattle.par_tree.specs.Tree
use Rattle.par_tree.specs.Tree.{Name, Expr, num, var, Arg, lend, give, Param, Func, Program}
use Rattle.par_tree.specs.Names.{param_names}
use Rattle.par_ownership.specs.Environment.{Entry, Environment, has_name, with_entry, param_entry}
use Rattle.par_ownership.specs.Ownership.{Ownership, OwnsParams, function_of}
use Rattle.depth_first_run.specs.Stores.{Store, Held, nothing, no_integers, updated}
use Rattle.depth_first_run.specs.Values.{Outcome, value}
use Rattle.depth_first_run.specs.Calls.{Passing, pass_integer, pass_value, passed, all_passed, lent_back}
use Rattle.ownership_laws.proofs.Counting.{name_same, bytes_swap}
use Rattle.ownership_laws.proofs.Passing.{function_owned}
use Rattle.loop_laws.specs.HelperTrees.{integer_param, pass_on, further_name, further_names}
use Rattle.loop_laws.specs.PlainLoop.{constant, in_front, numbers_of}

-- ---- passing

-- the arguments have these numbers in the store
unfoldable pub HaveNumbers : Store → List Arg → List ℤ → Type 0
HaveNumbers s [] [] = Unit {0}
HaveNumbers s [] (v ∷ vs) = ⊥
HaveNumbers s (Tree.value e ∷ args) [] = ⊥
HaveNumbers s (Tree.value e ∷ args) (v ∷ vs) = (value s e ≡ Ok v) × HaveNumbers s args vs
HaveNumbers s (lend b ∷ args) vs = ⊥
HaveNumbers s (give b ∷ args) vs = ⊥

-- the integers of these names have these numbers from now on, in order
unfoldable pub put : List Name → List ℤ → (Name → ℤ) → Name → ℤ
put [] vs integers = integers
put (q ∷ qs) [] integers = integers
put (q ∷ qs) (v ∷ vs) integers = put qs vs (updated q v integers)

-- what a call passes, whose arguments are these numbers
abbrev pub numbers_passed : List Name → List ℤ → Store → Passing
numbers_passed names vs s = record { callee = record { integers = put names vs no_integers; blocks = [] }; caller = s }

abbrev pub with_integers : (Name → ℤ) → Passing → Passing
with_integers integers h = record { callee = record { integers = integers; blocks = h.callee.blocks }; caller = h.caller }

pub passed_is : (s : Store) (qs : List Param) (args : List Arg) (vs : List ℤ) (h : Passing) → HaveNumbers s args vs
    → passed s qs args h ≡ Ok (with_integers (put (param_names qs) vs h.callee.integers) h)
unfolding passed put HaveNumbers
passed_is s [] args vs h k = refl
passed_is s (q ∷ qs) [] [] h k = refl
passed_is s (q ∷ qs) [] (v ∷ vs) h k = absurd k
passed_is s (q ∷ qs) (Tree.value e ∷ args) [] h k = absurd k
passed_is s (q ∷ qs) (Tree.value e ∷ args) (v ∷ vs) h k =
    ap (λ o. pass_value q.name o h (passed s qs args)) k.0 ∙ passed_is s qs args vs (pass_integer q.name v h) k.1
passed_is s (q ∷ qs) (lend b ∷ args) vs h k = absurd k
passed_is s (q ∷ qs) (give b ∷ args) vs h k = absurd k

pub all_passed_is : (s : Store) (qs : List Param) (args : List Arg) (vs : List ℤ) → HaveNumbers s args vs
    → all_passed s qs args ≡ Ok (numbers_passed (param_names qs) vs s)
all_passed_is s qs args vs k = passed_is s qs args vs record { callee = nothing; caller = s } k

-- nothing is lent where all arguments are numbers
pub nothing_lent : (s : Store) (qs : List Param) (args : List Arg) (vs : List ℤ) (hs : List Held) (caller : Store) → HaveNumbers s args vs
    → lent_back qs args hs caller ≡ caller
unfolding lent_back HaveNumbers
nothing_lent s [] args vs hs caller k = refl
nothing_lent s (q ∷ qs) [] vs hs caller k = refl
nothing_lent s (q ∷ qs) (Tree.value e ∷ args) [] hs caller k = absurd k
nothing_lent s (q ∷ qs) (Tree.value e ∷ args) (v ∷ vs) hs caller k = nothing_lent s qs args vs hs caller k.1
nothing_lent s (q ∷ qs) (lend b ∷ args) vs hs caller k = absurd k
nothing_lent s (q ∷ qs) (give b ∷ args) vs hs caller k = absurd k

-- constants have their numbers, and names those of their integers
pub constants_have : (s : Store) (vs : List ℤ) → HaveNumbers s (map constant vs) vs
unfolding HaveNumbers value
constants_have s [] = tt
constants_have s (v ∷ vs) = (refl, constants_have s vs)

pub passed_on_have : (s : Store) (names : List Name) → HaveNumbers s (map pass_on names) (map s.integers names)
unfolding HaveNumbers value
passed_on_have s [] = tt
passed_on_have s (x ∷ names) = (refl, passed_on_have s names)

-- expressions have the numbers that they come to
numbers : Result (List ℤ) FaultKind → List ℤ
numbers (Ok vs) = vs
numbers (Err kind) = []

same_numbers : (us vs : List ℤ) → ◌≡◌ {A = Result (List ℤ) FaultKind} (Ok us) (Ok vs) → us ≡ vs
unfolding numbers
same_numbers us vs e = ap numbers e

pub expressions_have : (s : Store) (es : List Expr) (vs : List ℤ) → numbers_of s es ≡ Ok vs → HaveNumbers s (map Tree.value es) vs
unfolding HaveNumbers numbers_of
expressions_have s [] vs e = subst (λ ws. HaveNumbers s [] ws) (same_numbers [] vs e) tt
expressions_have s (x ∷ es) vs e = by (value s x) refl (numbers_of s es) refl (expressions_have s es) e
  where
    by : (o : Result ℤ FaultKind) → value s x ≡ o → (r : Result (List ℤ) FaultKind) → numbers_of s es ≡ r
        → ((ws : List ℤ) → numbers_of s es ≡ Ok ws → HaveNumbers s (map Tree.value es) ws) → in_front o r ≡ Ok vs
        → HaveNumbers s (Tree.value x ∷ map Tree.value es) vs
    by (Ok v) a (Ok ws) b k h = subst (λ us. HaveNumbers s (Tree.value x ∷ map Tree.value es) us) (same_numbers (v ∷ ws) vs h) (a, k ws b)
    by (Ok v) a (Err kind) b k h = let never : ⊥ = cc in absurd never
    by (Err kind) a r b k h = let never : ⊥ = cc in absurd never

-- ---- a fault of an expression

-- a fault in one kind of result is a fault in another
as_passing : Result (List ℤ) FaultKind → Result Passing FaultKind
as_passing (Ok vs) = Ok record { callee = nothing; caller = nothing }
as_passing (Err kind) = Err kind

same_kind : (one other : FaultKind) → ◌≡◌ {A = Result (List ℤ) FaultKind} (Err one) (Err other) → ◌≡◌ {A = Result Passing FaultKind} (Err one) (Err other)
unfolding as_passing
same_kind one other e = ap as_passing e

-- the first fault of the arguments is that of the call
pub fault_passed : (s : Store) (qs : List Param) (es : List Expr) (h : Passing) (kind : FaultKind) → length qs ≡ length es → numbers_of s es ≡ Err kind
    → passed s qs (map Tree.value es) h ≡ Err kind
unfolding passed numbers_of
fault_passed s qs [] h kind l e = let never : ⊥ = cc in absurd never
fault_passed s [] (x ∷ es) h kind l e = let never : ⊥ = cc in absurd never
fault_passed s (q ∷ qs) (x ∷ es) h kind l e = by (value s x) refl (numbers_of s es) refl (λ g. fault_passed s qs es g kind (shorter (length qs) (length es) l)) e
  where
    shorter : (m n : ℕ) → suc m ≡ suc n → m ≡ n
    shorter m n k = omega (arith, k)

    by : (o : Outcome) → value s x ≡ o → (r : Result (List ℤ) FaultKind) → numbers_of s es ≡ r
        → ((g : Passing) → numbers_of s es ≡ Err kind → passed s qs (map Tree.value es) g ≡ Err kind) → in_front o r ≡ Err kind
        → pass_value q.name (value s x) h (passed s qs (map Tree.value es)) ≡ Err kind
    by (Err other) a r b k i = ap (λ o. pass_value q.name o h (passed s qs (map Tree.value es))) a ∙ same_kind other kind i
    by (Ok v) a (Ok ws) b k i = let never : ⊥ = cc in absurd never
    by (Ok v) a (Err other) b k i = ap (λ o. pass_value q.name o h (passed s qs (map Tree.value es))) a ∙ k (pass_integer q.name v h) (b ∙ i)

-- ---- names that differ

-- x differs from each of the names
unfoldable pub Differs : Name → List Name → Type 0
Differs x [] = Unit {0}
Differs x (y ∷ ys) = (bytes_eq x y ≡ false) × Differs x ys

unfoldable pub AllDiffer : List Name → Type 0
AllDiffer [] = Unit {0}
AllDiffer (x ∷ xs) = Differs x xs × AllDiffer xs

put_other : (x : Name) (names : List Name) (vs : List ℤ) (integers : Name → ℤ) → Differs x names → put names vs integers x ≡ integers x
unfolding put Differs
put_other x [] vs integers d = refl
put_other x (y ∷ ys) [] integers d = refl
put_other x (y ∷ ys) (v ∷ vs) integers d =
    put_other x ys vs (updated y v integers) d.1 ∙ ap (λ t. if t then v else integers x) (bytes_swap x y d.0)

-- what was put under names that differ is read of them
pub put_read : (names : List Name) (vs : List ℤ) (integers : Name → ℤ) → AllDiffer names → length vs ≡ length names
    → map (put names vs integers) names ≡ vs
unfolding put AllDiffer
put_read [] [] integers d e = refl
put_read [] (v ∷ vs) integers d e = let never : ⊥ = cc in absurd never
put_read (x ∷ xs) [] integers d e = let never : ⊥ = cc in absurd never
put_read (x ∷ xs) (v ∷ vs) integers d e =
    let first : put xs vs (updated x v integers) x ≡ v =
    put_other x xs vs (updated x v integers) d.0 ∙ ap (λ t. if t then v else integers x) (name_same x) in
    let rest : map (put xs vs (updated x v integers)) xs ≡ vs = put_read xs vs (updated x v integers) d.1 (ap pred_length e) in
    λ i. first i ∷ rest i
  where
    pred_length : ℕ → ℕ
    pred_length zero = zero
    pred_length (suc n) = n

-- the names of an environment differ from each of the names
EachDiffers : Environment → List Name → Type 0
EachDiffers [] names = Unit {0}
EachDiffers (e ∷ env) names = Differs e.name names × EachDiffers env names

each_last : (env : Environment) (e : Entry) (names : List Name) → EachDiffers (env ++ e ∷ []) names → EachDiffers env names × Differs e.name names
unfolding EachDiffers
each_last [] e names d = (tt, d.0)
each_last (f ∷ env) e names d = let r = each_last env e names d.1 in ((d.0, r.0), r.1)

none_differ : (env : Environment) → EachDiffers env []
unfolding EachDiffers Differs
none_differ [] = tt
none_differ (e ∷ env) = (tt, none_differ env)

one_more_differs : (env : Environment) (x : Name) (names : List Name) → find (has_name x) env ≡ None → EachDiffers env names → EachDiffers env (x ∷ names)
unfolding EachDiffers Differs
one_more_differs [] x names fresh d = tt
one_more_differs (e ∷ env) x names fresh d = by (one_more_differs env x names) (bytes_eq e.name x) refl fresh
  where
    by : (find (has_name x) env ≡ None → EachDiffers env names → EachDiffers env (x ∷ names)) → (t : Bool) → bytes_eq e.name x ≡ t
        → (if t then Some e else find (has_name x) env) ≡ None → EachDiffers (e ∷ env) (x ∷ names)
    by r true is f = let never : ⊥ = cc in absurd never
    by r false is f = ((is, d.0), r f d.1)

-- parameters have names of their own
params_differ : (line : ℕ) (names : List Name) (env after : Environment) → OwnsParams line (map integer_param names) env after
    → EachDiffers env names × AllDiffer names
unfolding AllDiffer
params_differ line [] env after o = (none_differ env, tt)
params_differ line (x ∷ names) env after o =
    let e : Entry = param_entry (integer_param x) line in
    let r = params_differ line names (with_entry env e) after o.1 in
    let l = each_last env e names r.0 in
    (one_more_differs env x names o.0 l.0, (l.1, r.1))

pub integers_differ : (line : ℕ) (names : List Name) (env after : Environment) → OwnsParams line (map integer_param names) env after → AllDiffer names
integers_differ line names env after o = (params_differ line names env after o).1

pub parameters_differ : (p : Program) (f : Name) (g : Func) (names : List Name) → function_of p f ≡ Some g → Ownership p
    → g.params ≡ map integer_param names → AllDiffer names
parameters_differ p f g names is o e =
    let owns = function_owned p p f g is o.functions in
    integers_differ g.line names [] owns.0 (subst (λ qs. OwnsParams g.line qs [] owns.0) e owns.1)

pub integer_params : (names : List Name) → param_names (map integer_param names) ≡ names
integer_params [] = refl
integer_params (x ∷ names) = ap (λ (xs : List Name). x ∷ xs) (integer_params names)

-- an integer whose name does not begin as those of the further numbers is none of them
pub beside_further : (x : Name) → ((digits : List ℕ) → bytes_eq x (99 ∷ digits) ≡ false) → (k : ℕ) (v : ℤ) (integers : Name → ℤ)
    → map (updated x v integers) (further_names k) ≡ map integers (further_names k)
beside_further x d zero v integers = refl
beside_further x d (suc k) v integers =
    map-append (updated x v integers) (further_names k) (further_name (suc k) ∷ [])
    ∙ (λ i. beside_further x d k v integers i ++ (if d (decimal (suc k)) i then v else integers (further_name (suc k))) ∷ [])
    ∙ sym (map-append integers (further_names k) (further_name (suc k) ∷ []))
