-- The names of slots are different.
use Rattle.std.proofs.Common.{◌≡◌, ℕ, zero, suc, ◌<◌, Bool, true, false, ◌||◌, List, [], ◌∷◌, ◌++◌, length, refl, sym, ap, ◌∙◌, subst, arith}
use Rattle.std.specs.Prelude.{if◌then◌else◌}
use Rattle.std.specs.Str.{bytes_eq}
use Rattle.std.proofs.lemmas.Slice.Eq.{bytes_eq-Decides}
use Rattle.std.proofs.lemmas.List.Folds.{list_any-append}
use Rattle.par_tree.specs.Tree.{Name, Func}
use Rattle.par_tree.specs.Names.{is_among, declared_in}
use Rattle.node_table.specs.Names.{with_name, with_names, slot_names, name_at}

abbrev Distinct : List Name → Type 0
Distinct [] = Unit {0}
Distinct (x ∷ xs) = (is_among x xs ≡ false) × Distinct xs

or_none : (a b : Bool) → (a || b) ≡ false → (a ≡ false) × (b ≡ false)
or_none true b h = let never : ⊥ = cc in absurd never
or_none false b h = (refl, h)

both_none : (a b : Bool) → a ≡ false → b ≡ false → (a || b) ≡ false
both_none true b h k = h
both_none false b h k = k

false_or_true : (b : Bool) → (b ≡ true → ⊥) → b ≡ false
false_or_true true h = absurd (h refl)
false_or_true false h = refl

other_way : (x y : Name) → bytes_eq y x ≡ false → bytes_eq x y ≡ false
other_way x y h =
    false_or_true (bytes_eq x y) (λ e.
    let same : y ≡ x = sym ((bytes_eq-Decides x y).0 e) in
    let yes : bytes_eq y x ≡ true = (bytes_eq-Decides y x).1 same in
    cc)

distinct_behind : (names : List Name) (x : Name) → Distinct names → is_among x names ≡ false → Distinct (names ++ x ∷ [])
distinct_behind [] x d h = (refl, tt)
distinct_behind (y ∷ ys) x d h =
    let parts = or_none (bytes_eq y x) (is_among x ys) h in (
      list_any-append (λ z. bytes_eq z y) ys (x ∷ []) ∙ both_none (is_among y ys) (bytes_eq x y || false) d.0 (both_none (bytes_eq x y) false (other_way x y parts.0) refl),
      distinct_behind ys x d.1 parts.1,
    )

distinct_with_at : (names : List Name) (x : Name) (b : Bool) → is_among x names ≡ b → Distinct names → Distinct (if b then names else names ++ x ∷ [])
distinct_with_at names x true e d = d
distinct_with_at names x false e d = distinct_behind names x d e

distinct_with : (names xs : List Name) → Distinct names → Distinct (with_names names xs)
distinct_with names [] d = d
distinct_with names (x ∷ xs) d = distinct_with (with_name names x) xs (distinct_with_at names x (is_among x names) refl d)

among_at : (names : List Name) (i : ℕ) → i < length names → is_among (name_at names i) names ≡ true
among_at [] i lt = let never : ⊥ = omega arith in absurd never
among_at (x ∷ xs) zero lt = ap (λ b. b || is_among x xs) ((bytes_eq-Decides x x).1 refl)
among_at (x ∷ xs) (suc i) lt =
    let less : i < length xs = omega arith in
    or_right (bytes_eq x (name_at xs i)) (is_among (name_at xs i) xs) (among_at xs i less)
  where
    or_right : (a b : Bool) → b ≡ true → (a || b) ≡ true
    or_right true b h = refl
    or_right false b h = h

not_behind : (x : Name) (xs : List Name) (i : ℕ) → is_among x xs ≡ false → i < length xs → x ≡ name_at xs i → ⊥
not_behind x xs i none lt e =
    let yes : is_among (name_at xs i) xs ≡ true = among_at xs i lt in
    let no : is_among (name_at xs i) xs ≡ false = subst (λ (v : Name). is_among v xs ≡ false) e none in
    cc

differ : (names : List Name) → Distinct names → (i j : ℕ) → i < length names → j < length names → name_at names i ≡ name_at names j → i ≡ j
differ [] d i j a b e = let never : ⊥ = omega arith in absurd never
differ (x ∷ xs) d zero zero a b e = refl
differ (x ∷ xs) d zero (suc j) a b e = let less : j < length xs = omega arith in absurd (not_behind x xs j d.0 less e)
differ (x ∷ xs) d (suc i) zero a b e = let less : i < length xs = omega arith in absurd (not_behind x xs i d.0 less (sym e))
differ (x ∷ xs) d (suc i) (suc j) a b e =
    let one : i < length xs = omega arith in
    let two : j < length xs = omega arith in
    ap (λ n. suc n) (differ xs d.1 i j one two e)

pub names_differ : (f : Func) (i j : ℕ) → i < length (slot_names f) → j < length (slot_names f) → name_at (slot_names f) i ≡ name_at (slot_names f) j → i ≡ j
names_differ f i j a b e = differ (slot_names f) (distinct_with [] (declared_in f) tt) i j a b e
