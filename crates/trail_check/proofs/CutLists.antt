-- Lists that are cut in the middle.
use Rattle.std.proofs.Common.{◌≡◌, ℕ, zero, suc, ◌+◌, ◌-◌, ◌<◌, List, [], ◌∷◌, ◌++◌, length, map, take, get_or, inl, inr, refl, sym, ap, ◌∙◌, arith, length-append, true≢false}
use Rattle.std.specs.Prelude.{Option, None, Some, slice_get, slice_set, insert, remove, is_some}
use Rattle.deque_machine.specs.Lists.{Among}
use Rattle.deque_machine.proofs.Lists.{same_head, same_tail, middle_is_not_nil}

module _ {X : Type 0} where
  pub get_middle : (left : List X) (x : X) (right : List X) → slice_get (left ++ x ∷ right) (length left) ≡ Some x
  get_middle [] x right = refl
  get_middle (y ∷ left) x right = get_middle left x right

  pub set_middle : (left : List X) (x y : X) (right : List X) → slice_set (left ++ x ∷ right) (length left) y ≡ left ++ y ∷ right
  set_middle [] x y right = refl
  set_middle (z ∷ left) x y right = ap (λ t. z ∷ t) (set_middle left x y right)

  pub remove_middle : (left : List X) (x : X) (right : List X) → remove (left ++ x ∷ right) (length left) ≡ left ++ right
  remove_middle [] x right = refl
  remove_middle (z ∷ left) x right = ap (λ t. z ∷ t) (remove_middle left x right)

  insert_next : (left : List X) (x y : X) (right : List X) → insert (left ++ x ∷ right) (suc (length left)) y ≡ left ++ x ∷ y ∷ right
  insert_next [] x y right = refl
  insert_next (z ∷ left) x y right = ap (λ t. z ∷ t) (insert_next left x y right)

  pub insert_behind : (left : List X) (x y : X) (right : List X) → insert (left ++ x ∷ right) (length left + 1) y ≡ left ++ x ∷ y ∷ right
  insert_behind left x y right = ap (λ n. insert (left ++ x ∷ right) n y) (one_more (length left)) ∙ insert_next left x y right
    where
      one_more : (n : ℕ) → n + 1 ≡ suc n
      one_more n = omega arith

  pub take_left : (xs ys : List X) → take (length xs) (xs ++ ys) ≡ xs
  take_left [] ys = refl
  take_left (x ∷ xs) ys = ap (λ t. x ∷ t) (take_left xs ys)

  pub last_place : (xs : List X) (x : X) → length (xs ++ x ∷ []) - 1 ≡ length xs
  last_place xs x = let n = length-append xs (x ∷ []) in omega (arith, n)

-- who has a place in a list of options
pub some_inside : {X : Type 0} (xs : List (Option X)) (i : ℕ) (x : X) → get_or xs i None ≡ Some x → i < length xs
some_inside [] i x is = absurd (true≢false (sym (ap is_some is)))
some_inside (y ∷ xs) zero x is = omega arith
some_inside (y ∷ xs) (suc i) x is = let rest = some_inside xs i x is in omega (arith, rest)

-- a list that is cut in the middle after a map was cut there before
pub record MapCut {X Y : Type 0} (f : X → Y) (xs : List X) (left : List Y) (y : Y) (right : List Y) : Type 0 where
  pub before : List X
  pub here : X
  pub after : List X
  pub is : xs ≡ before ++ here ∷ after
  pub left_is : map f before ≡ left
  pub here_is : f here ≡ y
  pub right_is : map f after ≡ right

pub map_cut : {X Y : Type 0} (f : X → Y) (xs : List X) (left : List Y) (y : Y) (right : List Y) → map f xs ≡ left ++ y ∷ right → MapCut f xs left y right
map_cut f [] left y right is = absurd (middle_is_not_nil left y right (sym is))
map_cut f (x ∷ xs) [] y right is = record {
  before = [];
  here = x;
  after = xs;
  is = refl;
  left_is = refl;
  here_is = same_head (f x) y (map f xs) right is;
  right_is = same_tail (f x) y (map f xs) right is;
}
map_cut f (x ∷ xs) (z ∷ left) y right is =
    let rest = map_cut f xs left y right (same_tail (f x) z (map f xs) (left ++ y ∷ right) is) in
    let head : f x ≡ z = same_head (f x) z (map f xs) (left ++ y ∷ right) is in record {
      before = x ∷ rest.before;
      here = rest.here;
      after = rest.after;
      is = ap (λ t. x ∷ t) rest.is;
      left_is = ap (λ t. t ∷ map f rest.before) head ∙ ap (λ t. z ∷ t) rest.left_is;
      here_is = rest.here_is;
      right_is = rest.right_is;
    }

-- what is among a list is among its map
pub among_map : {X Y : Type 0} (f : X → Y) (x : X) (xs : List X) → Among x xs → Among (f x) (map f xs)
among_map f x [] there = absurd there
among_map f x (y ∷ xs) there = elim there [ inl same ↦ inl (ap f same) | inr later ↦ inr (among_map f x xs later) ]

-- an element of a list, with those on both sides of it
pub among_cut : {X : Type 0} → (x : X) (xs : List X) → Among x xs → (left right : List X) × (xs ≡ left ++ x ∷ right)
among_cut x [] there = absurd there
among_cut x (y ∷ xs) there = elim there [
  | inl same ↦ ([], xs, ap (λ t. t ∷ xs) (sym same))
  | inr later ↦ let cut = among_cut x xs later in (y ∷ cut.0, cut.1, ap (λ t. y ∷ t) cut.2)
]
