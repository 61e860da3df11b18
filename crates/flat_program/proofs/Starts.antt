-- Starts in more lists, and marks at places.
use Rattle.std.proofs.Common.{◌≡◌, ℕ, zero, suc, ◌<◌, ◌-◌, List, [], ◌∷◌, ◌++◌, length, slice_index_or, Option, Some, None, slice_get, refl, sym, ap, ◌∙◌, arith}
use Rattle.std.specs.Prelude.{All, reverse}
use Rattle.std.proofs.lemmas.List.Elements.{All-append}
use Rattle.std.proofs.lemmas.List.{length-map, reverse-reverse}
use Rattle.node_table.specs.Table.{Table}
use Rattle.thread_stack.specs.declared.frame.Frame.{Frame}
use Rattle.flat_code.specs.Passed.Flat.{frames_at}
use Rattle.flat_code.specs.declared.place.Place.{Place}
use Rattle.flat_code.specs.Shown.{place_shown, places_shown, what_of, flat_shown}
use Rattle.flat_code.specs.Starts.{IsWithinStatement}
use Rattle.flat_program.specs.declared.flat_list.FlatList.{FlatList}
use Rattle.flat_program.specs.declared.flat_start.FlatStart.{FlatStart}
use Rattle.flat_program.specs.Programs.{StartsIn}

get_before : {A : Type 0} (xs : List A) (i : ℕ) (x y : A) → slice_get xs i ≡ Some x → slice_get (xs ++ y ∷ []) i ≡ Some x
get_before [] i x y e = let never : ⊥ = cc in absurd never
get_before (z ∷ xs) zero x y e = e
get_before (z ∷ xs) (suc i) x y e = get_before xs i x y e

pub get_last : {A : Type 0} (xs : List A) (x : A) → slice_get (xs ++ x ∷ []) (length xs) ≡ Some x
get_last [] x = refl
get_last (z ∷ xs) x = get_last xs x

-- a start is one in a longer list of lists too
pub starts_more : (t : Table) (ls : List FlatList) (l : FlatList) (o : Option FlatStart) → StartsIn t ls o → StartsIn t (ls ++ l ∷ []) o
starts_more t ls l None h = tt
starts_more t ls l (Some s) h = (h.0, get_before ls s.list h.0 l h.1, h.2)

-- the frames at a place are those of its mark, the next one first
pub mark_at : (ps : List Place) (i : ℕ) (p : Place) → slice_get ps i ≡ Some p → frames_at (flat_shown ps) i ≡ reverse p.mark.items
mark_at [] i p e = let never : ⊥ = cc in absurd never
mark_at (q ∷ ps) zero p e = let same : q ≡ p = cc in ap (λ (x : Place). reverse x.mark.items) same
mark_at (q ∷ ps) (suc i) p e = mark_at ps i p e

pub same_reversed : (xs ys : List Frame) → reverse xs ≡ reverse ys → xs ≡ ys
same_reversed xs ys e = sym (reverse-reverse xs) ∙ ap reverse e ∙ reverse-reverse ys

-- the place before one that is within a statement has the same mark
pub same_mark : (ps : List Place) (at : ℕ) (before here : Place) → slice_get ps (at - 1) ≡ Some before → slice_get ps at ≡ Some here
    → IsWithinStatement (flat_shown ps) at → before.mark.items ≡ here.mark.items
same_mark ps at before here one two same =
    let is : at - 1 ≡ same.0 = let next = same.1 in omega (arith, next) in
    same_reversed before.mark.items here.mark.items
    (sym (mark_at ps (at - 1) before one) ∙ ap (λ i. frames_at (flat_shown ps) i) is ∙ same.2 ∙ mark_at ps at here two)

pub places_long : (ps : List Place) → length (flat_shown ps).places ≡ length ps
places_long ps = length-map (places_shown ps) what_of ∙ length-map ps place_shown

pub each_more : (t : Table) (ls : List FlatList) (l : FlatList) (os : List (Option FlatStart)) → All (StartsIn t ls) os → All (StartsIn t (ls ++ l ∷ [])) os
each_more t ls l os all k d within = starts_more t ls l _ (all k d within)

pub one_none : (t : Table) (ls : List FlatList) (os : List (Option FlatStart)) → All (StartsIn t ls) os → All (StartsIn t ls) (os ++ None ∷ [])
one_none t ls os all = All-append (StartsIn t ls) os (None ∷ []) all (λ k d within. only k d within)
  where
    only : (k : ℕ) (d : Option FlatStart) → k < 1 → StartsIn t ls (slice_index_or (None ∷ []) k d)
    only zero d within = tt
    only (suc k) d within = absurd (omega (arith, within))
