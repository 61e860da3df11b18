-- The number of a function is found by its name.
use Rattle.std.proofs.Common.{◌≡◌, ℕ, ◌+◌, ◌<◌, Bool, true, false, cond, ◌||◌, List, [], ◌∷◌, take, length, get_or, Some, refl, sym, ap, ◌∙◌, subst, Bor}
use Rattle.std.specs.Str.{bytes_eq}
use Rattle.std.specs.Ordering.{nat_cmp}
use Rattle.std.specs.Cmp.Lexicographic.{slice_cmp}
use Rattle.std.specs.BTreeMap.{BTreeMap, UpdatesBy}
use Rattle.std.proofs.lemmas.List.{take_more, map-append, length-map}
use Rattle.std.proofs.lemmas.List.Folds.{list_any-append}
use Rattle.std.proofs.lemmas.Map.Text.{btree_map_updates_str}
use Rattle.std.proofs.lemmas.Slice.Eq.{bytes_eq-Decides}
use Rattle.par_tree.specs.Tree.{Name}
use Rattle.par_tree.specs.declared.func.Func.{Func}
use Rattle.par_tree.specs.Names.{is_among}
use Rattle.frame_code.specs.Numbers.{func_name, func_names, number_in, IsNumber}
use Rattle.frame_code.specs.Slotted.{Has}
use Rattle.frame_code.proofs.Places.{func_at-item}

-- the map has the numbers of the names in front
abbrev pub Numbers : List Func → BTreeMap (Bor (List ℕ)) ℕ → List Func → Type 0
Numbers fs m front = (x : Name) → Has (func_names front) x → IsNumber (func_names fs) x (number_in m x)

pub numbers_none : (fs : List Func) (m : BTreeMap (Bor (List ℕ)) ℕ) → Numbers fs m []
numbers_none fs m x h = let never : ⊥ = cc in absurd never

or_front : (a b : Bool) → b ≡ false → (a || b) ≡ true → a ≡ true
or_front true b e h = refl
or_front false b e h = let never : ⊥ = cc in absurd never

-- a name that is among one function more
among_more : (fs : List Func) (i : ℕ) (d : Func) (x : Name) → i < length fs → Has (func_names (take (i + 1) fs)) x → (is_among x (func_names (take i fs)) || (bytes_eq (func_name (get_or fs i d)) x || false)) ≡ true
among_more fs i d x lt h =
    let front = func_names (take i fs) in
    let split = ap func_names (take_more fs i d lt) ∙ map-append func_name (take i fs) (get_or fs i d ∷ []) in
    sym (list_any-append (λ (y : Name). bytes_eq y x) front (func_name (get_or fs i d) ∷ [])) ∙ ap (is_among x) (sym split) ∙ h

pub numbers_more : (fs : List Func) (i : ℕ) (d : Func) (w : Name) (m n : BTreeMap (Bor (List ℕ)) ℕ) → i < length fs → w ≡ func_name (get_or fs i d)
    → UpdatesBy (λ (x y : Bor (List ℕ)). slice_cmp nat_cmp x.now y.now) (λ (k : Bor (List ℕ)). slice_cmp nat_cmp w k.now) m n (Some i)
    → Numbers fs m (take i fs) → Numbers fs n (take (i + 1) fs)
numbers_more fs i d w m n lt named updates before x h =
    subst (λ o. IsNumber (func_names fs) x o) (sym (btree_map_updates_str w m n (Some i) updates x)) (go (bytes_eq w x) refl)
  where
    go : (b : Bool) → bytes_eq w x ≡ b → IsNumber (func_names fs) x (cond b (Some i) (number_in m x))
    go true e = record {
      there = refl;
      is = record {
        reads = func_at-item fs i d lt ∙ sym named ∙ (bytes_eq-Decides w x).0 e;
        below = subst (λ k. i < k) (sym (length-map fs func_name)) lt;
      };
    }
    go false e =
        let other : (bytes_eq (func_name (get_or fs i d)) x || false) ≡ false = ap (λ (y : Name). bytes_eq y x || false) (sym named) ∙ ap (λ b. b || false) e in
        before x (or_front (is_among x (func_names (take i fs))) (bytes_eq (func_name (get_or fs i d)) x || false) other (among_more fs i d x lt h))
