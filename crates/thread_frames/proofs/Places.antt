-- The open child of an id: where it is, and what its delivery changes.
use Rattle.std.proofs.Common.{◌≡◌, ℕ, suc, ◌<◌, Bool, true, false, List, [], ◌∷◌, ◌++◌, length, map, Option, Some, None, is_some, refl, sym, ◌∙◌, ap, subst, arith}
use Rattle.std.specs.Prelude.{IsTrue, slice_set, slice_index_or}
use Rattle.std.specs.Option.{option_map}
use Rattle.dag_order.specs.declared.thread_id.ThreadId.{ThreadId}
use Rattle.thread_frames.specs.Views.{child_shown, newest, result_of}
use Rattle.thread_frames.specs.Actions.{is_there}
use Rattle.thread_frames.specs.Children.{IsOnlyNewest, same_id, IsResultFor, either_of, IsAwaited, delivered_if, with_delivered, told_if, is_delivered, place_if, place_in}
use Rattle.thread_frames.specs.declared.ended.Ended.{Ended}
use Rattle.thread_frames.specs.declared.open_child.OpenChild.{OpenChild}

-- the child at a place, between others
pub record Standing (xs : List OpenChild) (n : ℕ) : Type 0 where
  pub left : List OpenChild
  pub child : OpenChild
  pub right : List OpenChild
  pub is : xs ≡ left ++ child ∷ right
  pub below : n < length xs
  pub got : (d : OpenChild) → slice_index_or xs n d ≡ child
  pub written : (y : OpenChild) → slice_set xs n y ≡ left ++ y ∷ right

-- with its result
abbrev pub given : OpenChild → Ended → OpenChild
given x e = record x { ended = Some e }

-- it has the id, and it is the one that a delivery changes
pub record Found (id : ThreadId) (xs : List OpenChild) (n : ℕ) (s : Standing xs n) : Type 0 where
  pub same : same_id s.child.id id ≡ true
  pub told : is_delivered id (map child_shown xs) ≡ is_some s.child.ended
  pub changed : (e : Ended) → map child_shown (s.left ++ given s.child e ∷ s.right) ≡ with_delivered id (map child_shown xs)
  pub awaited : (label : List ℕ) (e : Ended) → e.id ≡ id → IsAwaited label e (map child_shown xs) → IsResultFor label e (child_shown s.child)

some_same : {A : Type 0} (x y : A) → Some x ≡ Some y → x ≡ y
some_same x y e = cc

none_some : {A : Type 0} (P : Type 0) (x : A) → None ≡ Some x → P
none_some P x e = let never : ⊥ = cc in absurd never

abbrev Finds : ThreadId → List OpenChild → ℕ → Type 0
Finds id xs n = (s : Standing xs n) × Found id xs n s

-- the first child has it
here : (id : ThreadId) (x : OpenChild) (xs : List OpenChild) → same_id x.id id ≡ true → Finds id (x ∷ xs) 0
here id x xs t = (
  record {
    left = [];
    child = x;
    right = xs;
    is = refl;
    below = omega arith;
    got = λ d. refl;
    written = λ y. refl;
  },
  record {
    same = t;
    told = ap (λ (b : Bool). told_if b (is_some x.ended) (is_delivered id (map child_shown xs))) t;
    changed = λ r. sym (ap (λ (b : Bool). delivered_if b (child_shown x) (map child_shown xs) (with_delivered id (map child_shown xs))) t);
    awaited = λ label r same h.
        subst (λ (b : Bool). either_of b (IsResultFor label r (child_shown x)) (IsAwaited label r (map child_shown xs)))
        (ap (λ i. same_id x.id i) same ∙ t) h;
  },
)

-- a later one has it
later : (id : ThreadId) (x : OpenChild) (xs : List OpenChild) (m : ℕ) → same_id x.id id ≡ false → Finds id xs m → Finds id (x ∷ xs) (suc m)
later id x xs m f r =
    let s = r.0 in
    let h = r.1 in (
      record {
        left = x ∷ s.left;
        child = s.child;
        right = s.right;
        is = ap (λ ys. x ∷ ys) s.is;
        below = let b = s.below in omega (arith, b);
        got = λ d. s.got d;
        written = λ y. ap (λ ys. x ∷ ys) (s.written y);
      },
      record {
        same = h.same;
        told = ap (λ (b : Bool). told_if b (is_some x.ended) (is_delivered id (map child_shown xs))) f ∙ h.told;
        changed = λ e. ap (λ ys. child_shown x ∷ ys) (h.changed e)
            ∙ sym (ap (λ (b : Bool). delivered_if b (child_shown x) (map child_shown xs) (with_delivered id (map child_shown xs))) f);
        awaited = λ label e same w.
            h.awaited label e same
            (subst (λ (b : Bool). either_of b (IsResultFor label e (child_shown x)) (IsAwaited label e (map child_shown xs)))
            (ap (λ i. same_id x.id i) same ∙ f) w);
      },
    )

from_rest : (id : ThreadId) (x : OpenChild) (xs : List OpenChild) (n : ℕ) → same_id x.id id ≡ false → (o : Option ℕ) → option_map suc o ≡ Some n
    → ((m : ℕ) → o ≡ Some m → Finds id xs m) → Finds id (x ∷ xs) n
from_rest id x xs n f None e again = none_some _ n e
from_rest id x xs n f (Some m) e again = subst (λ (k : ℕ). Finds id (x ∷ xs) k) (some_same (suc m) n e) (later id x xs m f (again m refl))

step : (id : ThreadId) (x : OpenChild) (xs : List OpenChild) (n : ℕ) → ((m : ℕ) → place_in id xs ≡ Some m → Finds id xs m)
    → (b : Bool) → same_id x.id id ≡ b → place_in id (x ∷ xs) ≡ Some n → Finds id (x ∷ xs) n
step id x xs n again true t e =
    let at : 0 ≡ n = some_same 0 n (sym (ap (λ (b : Bool). place_if b (place_in id xs)) t) ∙ e) in
    subst (λ (m : ℕ). Finds id (x ∷ xs) m) at (here id x xs t)
step id x xs n again false f e =
    from_rest id x xs n f (place_in id xs) (sym (ap (λ (b : Bool). place_if b (place_in id xs)) f) ∙ e) again

pub find : (id : ThreadId) (xs : List OpenChild) (n : ℕ) → place_in id xs ≡ Some n → Finds id xs n
find id [] n e = none_some _ n e
find id (x ∷ xs) n e = step id x xs n (find id xs) (same_id x.id id) refl e

-- no child has it
none_rest : (o : Option ℕ) → option_map suc o ≡ None → o ≡ None
none_rest None e = refl
none_rest (Some m) e = none_some _ (suc m) (sym e)

pub none_delivered : (id : ThreadId) (xs : List OpenChild) → place_in id xs ≡ None → is_delivered id (map child_shown xs) ≡ false
none_delivered id [] e = refl
none_delivered id (x ∷ xs) e = go (same_id x.id id) refl (none_delivered id xs)
  where
    go : (b : Bool) → same_id x.id id ≡ b → (place_in id xs ≡ None → is_delivered id (map child_shown xs) ≡ false)
        → is_delivered id (map child_shown (x ∷ xs)) ≡ false
    go true t again = none_some _ 0 (sym e ∙ ap (λ (b : Bool). place_if b (place_in id xs)) t)
    go false f again =
        ap (λ (b : Bool). told_if b (is_some x.ended) (is_delivered id (map child_shown xs))) f
        ∙ again (none_rest (place_in id xs) (sym (ap (λ (b : Bool). place_if b (place_in id xs)) f) ∙ e))

pub none_awaited : (label : List ℕ) (r : Ended) (xs : List OpenChild) → place_in r.id xs ≡ None → IsAwaited label r (map child_shown xs) → ⊥
none_awaited label r [] e h = h
none_awaited label r (x ∷ xs) e h = go (same_id x.id r.id) refl (none_awaited label r xs)
  where
    go : (b : Bool) → same_id x.id r.id ≡ b → (place_in r.id xs ≡ None → IsAwaited label r (map child_shown xs) → ⊥) → ⊥
    go true t again = none_some _ 0 (sym e ∙ ap (λ (b : Bool). place_if b (place_in r.id xs)) t)
    go false f again =
        again (none_rest (place_in r.id xs) (sym (ap (λ (b : Bool). place_if b (place_in r.id xs)) f) ∙ e))
        (subst (λ (b : Bool). either_of b (IsResultFor label r (child_shown x)) (IsAwaited label r (map child_shown xs))) f h)

-- the result of the newest child is there, where it is delivered
pub newest_shown : (xs : List OpenChild) → newest (map child_shown xs) ≡ option_map child_shown (newest xs)
newest_shown [] = refl
newest_shown (x ∷ []) = refl
newest_shown (x ∷ y ∷ xs) = newest_shown (y ∷ xs)

pub there_given : (o : Option OpenChild) → IsTrue (is_there (option_map child_shown o)) → None ≡ result_of o → ⊥
there_given None h e = let never : ⊥ = cc in never
there_given (Some x) h e = let none = ap is_some e in let never : ⊥ = cc in never

-- where the newest child alone has the id, it is the one that is found
joined_nothing : (id : ThreadId) (x : OpenChild) (n : ℕ) → same_id x.id id ≡ true → place_in id (x ∷ []) ≡ Some n → n ≡ 0
joined_nothing id x n t e = sym (some_same 0 n (sym (ap (λ (b : Bool). place_if b None) t) ∙ e))

place_later : (id : ThreadId) (x : OpenChild) (xs : List OpenChild) (n : ℕ) → same_id x.id id ≡ false → place_in id (x ∷ xs) ≡ Some n
    → (m : ℕ) × (place_in id xs ≡ Some m) × (n ≡ suc m)
place_later id x xs n f e = go (place_in id xs) refl (sym (ap (λ (b : Bool). place_if b (place_in id xs)) f) ∙ e)
  where
    go : (o : Option ℕ) → place_in id xs ≡ o → option_map suc o ≡ Some n → (m : ℕ) × (place_in id xs ≡ Some m) × (n ≡ suc m)
    go None is h = none_some _ n h
    go (Some m) is h = (m, is, sym (some_same (suc m) n h))

pub newest_written : (id : ThreadId) (xs : List OpenChild) (n : ℕ) (y : OpenChild) → IsOnlyNewest id (map child_shown xs) → place_in id xs ≡ Some n
    → newest (slice_set xs n y) ≡ Some y
newest_written id [] n y only e = absurd only
newest_written id (x ∷ []) n y only e = ap (λ (k : ℕ). newest (slice_set (x ∷ []) k y)) (joined_nothing id x n only e)
newest_written id (x ∷ z ∷ xs) n y only e =
    let later = place_later id x (z ∷ xs) n only.0 e in
    ap (λ (k : ℕ). newest (slice_set (x ∷ z ∷ xs) k y)) later.2
    ∙ behind_first x (slice_set (z ∷ xs) later.0 y) y (newest_written id (z ∷ xs) later.0 y only.1 later.1)
  where
    behind_first : (x : OpenChild) (ys : List OpenChild) (y : OpenChild) → newest ys ≡ Some y → newest (x ∷ ys) ≡ Some y
    behind_first x [] y h = none_some _ y h
    behind_first x (z ∷ ys) y h = h
