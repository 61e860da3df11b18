-- Facts of lists, of deeds, and of the front of a list of actions.
use Rattle.std.proofs.Common.{◌≡◌, ℕ, zero, suc, ◌+◌, ◌<◌, List, [], ◌∷◌, ◌++◌, length, take, reverse, refl, sym, ap, ◌∙◌}
use Rattle.std.specs.Prelude.{Result, Ok, Err, OnOk, IfOk}
use Rattle.std.proofs.Math.Logic.{∥∥₁_elim}
use Rattle.std.proofs.lemmas.List.{reverse-append, take_more}
use denote.Struct.Props.{props}
use Rattle.depth_first_list.specs.Actions.{Action, Deed, forks, joins, allocates, releases, dummy, faults, ends}
use Rattle.depth_first_list.specs.Facts.{action_at}
use Rattle.thread_points.specs.Points.{Each}

pub each_more : {A : Type 0} (P Q : A → Type 0) (xs : List A) → ((x : A) → P x → Q x) → Each P xs → Each Q xs
each_more P Q [] f h = tt
each_more P Q (x ∷ xs) f h = (f x h.0, each_more P Q xs f h.1)

pub each_front : {A : Type 0} (P : A → Type 0) (xs ys : List A) → Each P (xs ++ ys) → Each P xs
each_front P [] ys h = tt
each_front P (x ∷ xs) ys h = (h.0, each_front P xs ys h.1)

pub each_one_more : {A : Type 0} (P : A → Type 0) (xs : List A) (x : A) → Each P xs → P x → Each P (xs ++ x ∷ [])
each_one_more P [] x h here = (here, tt)
each_one_more P (y ∷ ys) x h here = (h.0, each_one_more P ys x h.1 here)

-- the newest of a stack that lies in a list with the newest last
pub newest_first : {A : Type 0} (xs ys : List A) (x : A) → ys ≡ xs ++ x ∷ [] → reverse ys ≡ x ∷ reverse xs
newest_first xs ys x e = ap (λ zs. reverse zs) e ∙ reverse-append xs (x ∷ [])

-- ---- what is done

abbrev number_of : Deed → ℕ
number_of (forks child) = 0
number_of (joins child) = 1
number_of allocates = 2
number_of releases = 3
number_of dummy = 4
number_of faults = 5
number_of ends = 6

abbrev child_in : Deed → ℕ
child_in (forks child) = child
child_in (joins child) = child
child_in allocates = 0
child_in releases = 0
child_in dummy = 0
child_in faults = 0
child_in ends = 0

abbrev deed_with : ℕ → ℕ → Deed
deed_with zero child = forks child
deed_with (suc zero) child = joins child
deed_with (suc (suc zero)) child = allocates
deed_with (suc (suc (suc zero))) child = releases
deed_with (suc (suc (suc (suc zero)))) child = dummy
deed_with (suc (suc (suc (suc (suc zero))))) child = faults
deed_with (suc (suc (suc (suc (suc (suc n)))))) child = ends

comes_back : (deed : Deed) → deed_with (number_of deed) (child_in deed) ≡ deed
comes_back (forks child) = refl
comes_back (joins child) = refl
comes_back allocates = refl
comes_back releases = refl
comes_back dummy = refl
comes_back faults = refl
comes_back ends = refl

-- that two deeds are the same is known of its numbers
pub same_deed : {A : Type 0} (x : ∥ A ∥₁) (a b : Deed) → (A → a ≡ b) → a ≡ b
same_deed x a b f =
    let number : number_of a ≡ number_of b = ∥∥₁_elim x (search props) (λ y. ap number_of (f y)) in
    let child : child_in a ≡ child_in b = ∥∥₁_elim x (search props) (λ y. ap child_in (f y)) in
    sym (comes_back a) ∙ (λ i. deed_with (number i) (child i)) ∙ comes_back b

-- ---- the first actions of a list

pub one_more : (l : List Action) (n : ℕ) (a : Action) → n < length l → action_at l n ≡ a → take n l ++ a ∷ [] ≡ take (n + 1) l
one_more l n a inside is = sym (take_more l n _ inside ∙ ap (λ x. take n l ++ x ∷ []) is)

-- ---- what holds of an answer

pub on_ok : {A E P Q : Type 0} (r : Result A E) → (P → Q) → OnOk r P → OnOk r Q
on_ok (Ok x) f h = f h
on_ok (Err e) f h = tt

pub if_ok : {A E : Type 0} (P Q : A → Type 0) (r : Result A E) → ((x : A) → P x → Q x) → IfOk r P → IfOk r Q
if_ok P Q (Ok x) f h = f x h
if_ok P Q (Err e) f h = tt
