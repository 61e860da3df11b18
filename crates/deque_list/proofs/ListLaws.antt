-- Lists that have the same elements at each rank.
use Rattle.std.specs.Prelude.{◌≡◌, ℕ, zero, suc, List, [], ◌∷◌, map, Some, slice_get, insert, remove, refl}
use Rattle.std.proofs.Common.{◌∙◌, ap}

-- two lists with the same element at each rank are the same
pub same_by_rank : {X : Type 0} (xs ys : List X) → ((rank : ℕ) → slice_get xs rank ≡ slice_get ys rank) → xs ≡ ys
same_by_rank [] [] each = refl
same_by_rank [] (y ∷ ys) each = let clash = each 0 in cc
same_by_rank (x ∷ xs) [] each = let clash = each 0 in cc
same_by_rank (x ∷ xs) (y ∷ ys) each =
    let first : x ≡ y = (let head : Some x ≡ Some y = each 0 in cc) in
    ap (λ z. z ∷ xs) first ∙ ap (λ zs. y ∷ zs) (same_by_rank xs ys (λ rank. each (suc rank)))

-- functions that agree on each element give the same list
pub same_map : {X Y : Type 0} (f g : X → Y) (xs : List X) → ((rank : ℕ) (x : X) → slice_get xs rank ≡ Some x → f x ≡ g x) → map f xs ≡ map g xs
same_map f g [] each = refl
same_map f g (x ∷ xs) each = ap (λ y. y ∷ map f xs) (each 0 x refl) ∙ ap (λ ys. g x ∷ ys) (same_map f g xs (λ rank. each (suc rank)))

-- a function over a list with one more element, and over one with an element less
pub map_inserted : {X Y : Type 0} (f : X → Y) (xs : List X) (at : ℕ) (x : X) → map f (insert xs at x) ≡ insert (map f xs) at (f x)
map_inserted f xs zero x = refl
map_inserted f [] (suc at) x = refl
map_inserted f (y ∷ xs) (suc at) x = ap (λ ys. f y ∷ ys) (map_inserted f xs at x)

pub map_removed : {X Y : Type 0} (f : X → Y) (xs : List X) (at : ℕ) → map f (remove xs at) ≡ remove (map f xs) at
map_removed f [] zero = refl
map_removed f [] (suc at) = refl
map_removed f (y ∷ xs) zero = refl
map_removed f (y ∷ xs) (suc at) = ap (λ ys. f y ∷ ys) (map_removed f xs at)
