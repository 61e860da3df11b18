-- The functions of a program that keeps the rules have different names.
use Rattle.std.proofs.Common.{◌≡◌, ℕ, zero, suc, Bool, true, false, ◌||◌, cond, List, [], ◌∷◌, ◌++◌, Option, Some, None, refl, sym, ap, ◌∙◌, subst}
use Rattle.std.specs.Prelude.{slice_get}
use Rattle.std.specs.List.{find, list_any}
use Rattle.std.specs.Str.{bytes_eq}
use Rattle.std.proofs.lemmas.Slice.Eq.{bytes_eq-Decides}
use Rattle.std.proofs.lemmas.List.Folds.{list_any-append}
use Rattle.par_tree.specs.Tree.{Name, Program, Func}
use Rattle.par_ownership.specs.Ownership.{Ownership, function_of, HaveNewNames}

-- a function's name is that of none before it
none_step : {X : Type 0} (b : Bool) (y : X) (o : Option X) (r : Bool) → cond b (Some y) o ≡ None → (o ≡ None → r ≡ false) → (b || r) ≡ false
none_step true y o r h k = let never : ⊥ = cc in absurd never
none_step false y o r h k = k h

none_any : {X : Type 0} (test : X → Bool) (xs : List X) → find test xs ≡ None → list_any test xs ≡ false
none_any test [] h = refl
none_any test (y ∷ ys) h = none_step (test y) y (find test ys) (list_any test ys) h (none_any test ys)

or_none : (a b : Bool) → (a || b) ≡ false → (a ≡ false) × (b ≡ false)
or_none true b h = let never : ⊥ = cc in absurd never
or_none false b h = (refl, h)

abbrev named : Name → Func → Bool
named x g = bytes_eq g.name x

same_some : (f g : Func) → Some f ≡ Some g → f ≡ g
same_some f g e = cc

fresh : (before rest : List Func) → HaveNewNames before rest → (j : ℕ) (g : Func) → slice_get rest j ≡ Some g → list_any (named g.name) before ≡ false
fresh before [] h j g e = let never : ⊥ = cc in absurd never
fresh before (f ∷ fs) h zero g e = subst (λ (k : Func). list_any (named k.name) before ≡ false) (same_some f g e) (none_any (named f.name) before h.0)
fresh before (f ∷ fs) h (suc j) g e = (or_none (list_any (named g.name) before) (named g.name f || false) (sym (list_any-append (named g.name) before (f ∷ [])) ∙ fresh (before ++ f ∷ []) fs h.1 j g e)).0

-- the first of a list does not have the name of one behind it
other_name : (before : List Func) (f : Func) (fs : List Func) → HaveNewNames (before ++ f ∷ []) fs → (j : ℕ) (g : Func) → slice_get fs j ≡ Some g → bytes_eq f.name g.name ≡ false
other_name before f fs h j g e =
    let behind = or_none (list_any (named g.name) before) (named g.name f || false) (sym (list_any-append (named g.name) before (f ∷ [])) ∙ fresh (before ++ f ∷ []) fs h j g e) in
    (or_none (named g.name f) false behind.1).0

apart : (before : List Func) (f : Func) (fs : List Func) → HaveNewNames (before ++ f ∷ []) fs → (j : ℕ) (g : Func) → slice_get fs j ≡ Some g → f.name ≡ g.name → ⊥
apart before f fs h j g e same =
    let no = other_name before f fs h j g e in
    let yes : bytes_eq f.name g.name ≡ true = (bytes_eq-Decides f.name g.name).1 same in
    cc

differ : (before rest : List Func) → HaveNewNames before rest → (i j : ℕ) (f g : Func) → slice_get rest i ≡ Some f → slice_get rest j ≡ Some g → f.name ≡ g.name → i ≡ j
differ before [] h i j f g e d same = let never : ⊥ = cc in absurd never
differ before (k ∷ ks) h zero zero f g e d same = refl
differ before (k ∷ ks) h zero (suc j) f g e d same = absurd (apart before k ks h.1 j g d (ap (λ (v : Func). v.name) (same_some k f e) ∙ same))
differ before (k ∷ ks) h (suc i) zero f g e d same = absurd (apart before k ks h.1 i f e (ap (λ (v : Func). v.name) (same_some k g d) ∙ sym same))
differ before (k ∷ ks) h (suc i) (suc j) f g e d same = ap (λ n. suc n) (differ (before ++ k ∷ []) ks h.1 i j f g e d same)

pub names_differ : (p : Program) → Ownership p → (i j : ℕ) (f g : Func) → slice_get p i ≡ Some f → slice_get p j ≡ Some g → f.name ≡ g.name → i ≡ j
names_differ p o = differ [] p o.new_names

-- a function is the one that is found by its name
finds : (before rest : List Func) → HaveNewNames before rest → (n : ℕ) (f : Func) → slice_get rest n ≡ Some f → function_of rest f.name ≡ Some f
finds before [] h n f e = let never : ⊥ = cc in absurd never
finds before (k ∷ ks) h zero f e =
    let same : k ≡ f = same_some k f e in
    let yes : bytes_eq k.name f.name ≡ true = (bytes_eq-Decides k.name f.name).1 (ap (λ (v : Func). v.name) same) in
    ap (λ b. cond b (Some k) (function_of ks f.name)) yes ∙ e
finds before (k ∷ ks) h (suc n) f e =
    ap (λ b. cond b (Some k) (function_of ks f.name)) (other_name before k ks h.1 n f e) ∙ finds (before ++ k ∷ []) ks h.1 n f e

pub first_of_its_name : (p : Program) → Ownership p → (n : ℕ) (f : Func) → slice_get p n ≡ Some f → function_of p f.name ≡ Some f
first_of_its_name p o n f e = finds [] p o.new_names n f e
