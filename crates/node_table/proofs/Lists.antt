-- Lists that a loop reads from the front and makes at the back.
use Rattle.std.proofs.Common.{◌≡◌, ℕ, ◌+◌, ◌<◌, ◌≤◌, List, [], ◌∷◌, ◌++◌, drop, length, get_or, sym, ap, ◌∙◌, subst, append_assoc, append-nil}
use Rattle.std.proofs.lemmas.List.{drop_more, drop_all}

pub drop_item : {A : Type 0} (xs : List A) (i : ℕ) (x : A) → i < length xs → x ≡ get_or xs i x → drop i xs ≡ x ∷ drop (i + 1) xs
drop_item xs i x lt e = drop_more xs i x lt ∙ ap (λ v. v ∷ drop (i + 1) xs) (sym e)

-- what holds of the elements that are left holds of the next and of those behind it
pub at_item : {A : Type 0} (P : List A → Type 0) (xs : List A) (i : ℕ) (x : A) → i < length xs → x ≡ get_or xs i x → P (drop i xs) → P (x ∷ drop (i + 1) xs)
at_item P xs i x lt e h = subst P (drop_item xs i x lt e) h

-- what is made so far, and what is made of the elements that are left, is what is made of all
abbrev pub Continues : {A C : Type 0} → (List C → List A → Type 0) → List A → List C → ℕ → Type 0
Continues {A} {C} P xs found i = (more : List C) → P more (drop i xs) → P (found ++ more) xs

pub continues_first : {A C : Type 0} (P : List C → List A → Type 0) (xs : List A) → Continues P xs [] 0
continues_first P xs more h = h

pub continues_next : {A C : Type 0} (P : List C → List A → Type 0) (xs : List A) (found new : List C) (y : C) (i : ℕ) (x : A) → i < length xs → x ≡ get_or xs i x → new ≡ found ++ y ∷ [] → Continues P xs found i → ((more : List C) → P more (drop (i + 1) xs) → P (y ∷ more) (x ∷ drop (i + 1) xs)) → Continues P xs new (i + 1)
continues_next P xs found new y i x lt e n h k more p =
    subst (λ v. P v xs) (sym (ap (λ v. v ++ more) n ∙ append_assoc found (y ∷ []) more))
    (h (y ∷ more) (subst (λ v. P (y ∷ more) v) (sym (drop_item xs i x lt e)) (k more p)))

pub continues_end : {A C : Type 0} (P : List C → List A → Type 0) (xs : List A) (found : List C) (i : ℕ) → length xs ≤ i → Continues P xs found i → P [] [] → P found xs
continues_end P xs found i ge h p = subst (λ v. P v xs) (append-nil found) (h [] (subst (λ v. P [] v) (sym (drop_all i xs ge)) p))

-- an element of which nothing is made
pub continues_past : {A C : Type 0} (P : List C → List A → Type 0) (xs : List A) (found : List C) (i : ℕ) (x : A) → i < length xs → x ≡ get_or xs i x → Continues P xs found i → ((more : List C) → P more (drop (i + 1) xs) → P more (x ∷ drop (i + 1) xs)) → Continues P xs found (i + 1)
continues_past P xs found i x lt e h k more p = h more (subst (λ v. P more v) (sym (drop_item xs i x lt e)) (k more p))
