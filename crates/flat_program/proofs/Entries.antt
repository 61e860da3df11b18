-- Starts that are noted.
use Rattle.std.proofs.Common.{inl, inr, ◌≡◌, ℕ, zero, suc, ◌<◌, List, [], ◌∷◌, length, set}
use Rattle.std.proofs.Common.{Option, Some, slice_get, refl, sym, ap, ◌∙◌, subst, arith, length-set, ◌+◌, ◌*◌, ◌++◌}
use Rattle.std.proofs.lemmas.List.{length-map}
use Rattle.node_table.specs.Codes.{nodes_of, code_shown}
use Rattle.node_table.specs.Shown.{node_shown}
use Rattle.node_table.specs.declared.node_table.NodeTable.{NodeTable}
use Rattle.std.specs.Prelude.{◌⊎◌}
use Rattle.std.proofs.lemmas.Bool.{cases_eq}
use Rattle.node_table.specs.Table.{Table}
use Rattle.flat_program.specs.declared.flat_list.FlatList.{FlatList}
use Rattle.flat_program.specs.declared.flat_start.FlatStart.{FlatStart}
use Rattle.flat_program.specs.Entries.{HasStart, KeepsStarts, BeginsWith}

pub get_set : {A : Type 0} (xs : List A) (i : ℕ) (x : A) → i < length xs → slice_get (set xs i x) i ≡ Some x
get_set [] i x within = absurd (omega (arith, within))
get_set (y ∷ xs) zero x within = refl
get_set (y ∷ xs) (suc i) x within = get_set xs i x (omega (arith, within))

get_other : {A : Type 0} (xs : List A) (i j : ℕ) (x : A) → (j ≡ i → ⊥) → slice_get (set xs i x) j ≡ slice_get xs j
get_other [] i j x differ = refl
get_other (y ∷ xs) zero zero x differ = absurd (differ refl)
get_other (y ∷ xs) zero (suc j) x differ = refl
get_other (y ∷ xs) (suc i) zero x differ = refl
get_other (y ∷ xs) (suc i) (suc j) x differ = get_other xs i j x (λ e. differ (ap suc e))

pub keeps_same : (xs : List (Option FlatStart)) → KeepsStarts xs xs
keeps_same xs = record { long = refl; kept = λ entry h. h }

pub keeps_both : (xs ys zs : List (Option FlatStart)) → KeepsStarts xs ys → KeepsStarts ys zs → KeepsStarts xs zs
keeps_both xs ys zs p q = record { long = q.long ∙ p.long; kept = λ entry h. q.kept entry (p.kept entry h) }

pub keeps_set : (xs : List (Option FlatStart)) (i : ℕ) (s : FlatStart) → i < length xs → KeepsStarts xs (set xs i (Some s))
keeps_set xs i s within = record { long = length-set xs i (Some s); kept = λ entry h. by entry h (cases_eq entry i) }
  where
    by : (entry : ℕ) → HasStart xs entry → (entry ≡ i) ⊎ (entry ≡ i → ⊥) → HasStart (set xs i (Some s)) entry
    by entry h (inl e) = (s, subst (λ (j : ℕ). slice_get (set xs i (Some s)) j ≡ Some (Some s)) (sym e) (get_set xs i (Some s) within))
    by entry h (inr differ) = (h.0, get_other xs i entry (Some s) differ ∙ h.1)

some_same : {A : Type 0} (x y : A) → Some x ≡ Some y → x ≡ y
some_same x y e = cc

pub set_has : (xs : List (Option FlatStart)) (i : ℕ) (s : FlatStart) (o : Option ℕ) (entry : ℕ) → Some i ≡ o → o ≡ Some entry → entry < length xs
    → HasStart (set xs i (Some s)) entry
set_has xs i s o entry is here within =
    let e : i ≡ entry = some_same i entry (is ∙ here) in
    (s, subst (λ (j : ℕ). slice_get (set xs j (Some s)) entry ≡ Some (Some s)) (sym e) (get_set xs entry (Some s) within))

-- a place was looked at, the first one or a later one
pub noted_next : (t : Table) (l : FlatList) (xs ys zs : List (Option FlatStart)) (place entry : ℕ) → KeepsStarts xs ys → KeepsStarts ys zs
    → (0 < place → (e : ℕ) → BeginsWith t l e → e < length xs → HasStart ys e) → (place ≡ 0 → (e : ℕ) → BeginsWith t l e → e < length ys → HasStart zs e)
    → BeginsWith t l entry → entry < length xs → HasStart zs entry
noted_next t l xs ys zs zero entry before now earlier at_start begins within =
    let long = before.long in at_start refl entry begins (omega (arith, within, long))
noted_next t l xs ys zs (suc place) entry before now earlier at_start begins within = now.kept entry (earlier (omega arith) entry begins within)

-- two entries more, and the entries of all nodes
pub two_longer : (xs : List (Option FlatStart)) (x y : Option FlatStart) → length ((xs ++ x ∷ []) ++ y ∷ []) ≡ length xs + 2
two_longer [] x y = refl
two_longer (z ∷ xs) x y = let rest = two_longer xs x y in omega (arith, rest)

pub all_sized : (table : NodeTable) (n m : ℕ) → m ≡ n * 2 → n ≡ length (nodes_of table) → m ≡ length (code_shown table).nodes * 2
all_sized table n m twice all =
    let e : length (code_shown table).nodes ≡ length (nodes_of table) = length-map (nodes_of table) node_shown in
    omega (arith, twice, all, e)
