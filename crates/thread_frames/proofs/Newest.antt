-- The newest open child, and the place of one.
use Rattle.std.proofs.Common.{◌≡◌, ℕ, suc, ◌+◌, ◌-◌, Bool, true, false, List, [], ◌∷◌, length, Option, Some, None, refl, ◌∙◌, ap, arith}
use Rattle.std.specs.Prelude.{slice_get}
use Rattle.std.specs.Option.{option_map}
use Rattle.dag_order.specs.declared.thread_id.ThreadId.{ThreadId}
use Rattle.thread_frames.specs.Views.{newest}
use Rattle.thread_frames.specs.Children.{same_id, place_if, place_in}
use Rattle.thread_frames.specs.declared.open_child.OpenChild.{OpenChild}

pub newest_last : {A : Type 0} (xs : List A) → slice_get xs (length xs - 1) ≡ newest xs
newest_last [] = refl
newest_last (x ∷ []) = refl
newest_last (x ∷ y ∷ xs) =
    let less : length (x ∷ y ∷ xs) - 1 ≡ suc (length (y ∷ xs) - 1) = omega arith in
    ap (λ n. slice_get (x ∷ y ∷ xs) n) less ∙ newest_last (y ∷ xs)

-- the place behind some children
abbrev pub behind : ℕ → Option ℕ → Option ℕ
behind n o = option_map (λ m. n + m) o

pub behind_none : (o : Option ℕ) → behind 0 o ≡ o
behind_none None = refl
behind_none (Some m) = ap Some (omega arith)

behind_one : (n : ℕ) (o : Option ℕ) → behind n (option_map suc o) ≡ behind (n + 1) o
behind_one n None = refl
behind_one n (Some m) = ap Some (omega arith)

-- a child with another id is passed
pub passed : (id : ThreadId) (x : OpenChild) (xs : List OpenChild) (n : ℕ) → same_id x.id id ≡ false
    → behind n (place_in id (x ∷ xs)) ≡ behind (n + 1) (place_in id xs)
passed id x xs n e = ap (λ (b : Bool). behind n (place_if b (place_in id xs))) e ∙ behind_one n (place_in id xs)

pub found : (id : ThreadId) (x : OpenChild) (xs : List OpenChild) (n : ℕ) → same_id x.id id ≡ true → behind n (place_in id (x ∷ xs)) ≡ Some n
found id x xs n e = ap (λ (b : Bool). behind n (place_if b (place_in id xs))) e ∙ ap Some (omega arith)
