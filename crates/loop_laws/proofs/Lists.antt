-- Lists of items that tell the same, live to the same words and end with the same words more.
use Rattle.std.specs.Prelude.{◌≡◌, List, [], ◌∷◌, ◌++◌, length, drop, ℤ, pos, ◌+ℤ◌, ◌≤ℤ◌, refl}
use Rattle.std.specs.Int.{int_max}
use Rattle.std.proofs.Common.{sym, ◌∙◌, ap, arith, subst}
use Rattle.std.proofs.lemmas.Int.{ints, clamps}
use Rattle.std.proofs.lemmas.List.{drop_at}
use Rattle.depth_first_list.specs.Actions.{Action, weight, live_words, peak}
use Rattle.depth_first_run.specs.States.{State, Item, began, acted, printed, failed}
use Rattle.depth_first_run.specs.Run.{actions_of}
use Rattle.depth_first_run.proofs.Keeping.{Keeps}
use Rattle.depth_first_run.proofs.Covered.{actions_append}
use Rattle.ownership_laws.proofs.Moves.{live, live_more}
use Rattle.loop_laws.specs.Outcomes.{marks_of, number, fault, added, KeepsLimits}

-- ---- lists one behind the other

pub marks_append : (xs ys : List Item) → marks_of (xs ++ ys) ≡ marks_of xs ++ marks_of ys
marks_append [] ys = refl
marks_append (began line ∷ xs) ys = marks_append xs ys
marks_append (acted a ∷ xs) ys = marks_append xs ys
marks_append (printed v ∷ xs) ys = ap (λ l. number v ∷ l) (marks_append xs ys)
marks_append (failed f ∷ xs) ys = ap (λ l. fault f ∷ l) (marks_append xs ys)

pub limits_front : (xs ys : List Item) → KeepsLimits (xs ++ ys) → KeepsLimits xs
limits_front [] ys k = tt
limits_front (began line ∷ xs) ys k = limits_front xs ys k
limits_front (acted a ∷ xs) ys k = limits_front xs ys k
limits_front (printed v ∷ xs) ys k = limits_front xs ys k
limits_front (failed f ∷ xs) ys k = (k.0, limits_front xs ys k.1)

pub limits_back : (xs ys : List Item) → KeepsLimits (xs ++ ys) → KeepsLimits ys
limits_back [] ys k = k
limits_back (began line ∷ xs) ys k = limits_back xs ys k
limits_back (acted a ∷ xs) ys k = limits_back xs ys k
limits_back (printed v ∷ xs) ys k = limits_back xs ys k
limits_back (failed f ∷ xs) ys k = limits_back xs ys k.1

pub peaks_append : (xs ys : List Action) → peak (xs ++ ys) ≡ int_max (peak xs) (live_words xs +ℤ peak ys)
peaks_append [] ys = none (peak ys) (peak_least ys)
  where
    peak_least : (ys : List Action) → pos 0 ≤ℤ peak ys
    peak_least [] = omega (arith, ints)
    peak_least (a ∷ ys) = most (weight a +ℤ peak ys)
      where
        most : (z : ℤ) → pos 0 ≤ℤ int_max (pos 0) z
        most z = omega (arith, ints, clamps)

    none : (z : ℤ) → pos 0 ≤ℤ z → z ≡ int_max (pos 0) (pos 0 +ℤ z)
    none z le = omega (arith, ints, clamps)
peaks_append (a ∷ xs) ys = more (weight a) (live_words xs) (peak xs) (peak ys) (peak (xs ++ ys)) (peaks_append xs ys)
  where
    more : (w l p q r : ℤ) → r ≡ int_max p (l +ℤ q) → int_max (pos 0) (w +ℤ r) ≡ int_max (int_max (pos 0) (w +ℤ p)) ((w +ℤ l) +ℤ q)
    more w l p q r e = omega (arith, ints, clamps)

pub live_under_peak : (xs : List Action) → live_words xs ≤ℤ peak xs
live_under_peak [] = omega (arith, ints)
live_under_peak (a ∷ xs) = more (weight a) (live_words xs) (peak xs) (live_under_peak xs)
  where
    more : (w l p : ℤ) → l ≤ℤ p → (w +ℤ l) ≤ℤ int_max (pos 0) (w +ℤ p)
    more w l p le = omega (arith, ints, clamps)

-- the most that the words in use rise by
abbrev pub top : List Item → ℤ
top items = peak (actions_of items)

pub top_append : (xs ys : List Item) → top (xs ++ ys) ≡ int_max (top xs) (live xs +ℤ top ys)
top_append xs ys = ap peak (actions_append xs ys) ∙ peaks_append (actions_of xs) (actions_of ys)

-- ---- lists that are alike

-- the same is told, and the same words are taken at most
pub record Alike (xs ys : List Item) : Type 0 where
  pub told : marks_of xs ≡ marks_of ys
  pub highest : top xs ≡ top ys

-- one list and more, where the words rise by the same in the first
pub alike_append : (xs xs' ys ys' : List Item) → Alike xs ys → live xs ≡ live ys → Alike xs' ys' → Alike (xs ++ xs') (ys ++ ys')
alike_append xs xs' ys ys' a e b = record {
  told = marks_append xs xs' ∙ ap (λ l. l ++ marks_of xs') a.told ∙ ap (λ l. marks_of ys ++ l) b.told ∙ sym (marks_append ys ys');
  highest = top_append xs xs'
      ∙ ap (λ z. int_max z (live xs +ℤ top xs')) a.highest
      ∙ ap (λ z. int_max (top ys) (z +ℤ top xs')) e
      ∙ ap (λ z. int_max (top ys) (live ys +ℤ z)) b.highest
      ∙ sym (top_append ys ys');
}

pub live_both : (xs xs' ys ys' : List Item) → live xs ≡ live ys → live xs' ≡ live ys' → live (xs ++ xs') ≡ live (ys ++ ys')
live_both xs xs' ys ys' e e' = live_more xs xs' ∙ ap (λ z. z +ℤ live xs') e ∙ ap (λ z. live ys +ℤ z) e' ∙ sym (live_more ys ys')

-- an action behind a list that takes no words
pub alike_giving : (xs ys : List Item) (a b : Action) → weight a ≤ℤ pos 0 → weight b ≤ℤ pos 0 → Alike xs ys → Alike (xs ++ acted a ∷ []) (ys ++ acted b ∷ [])
alike_giving xs ys a b la lb k = record {
  told = marks_append xs (acted a ∷ []) ∙ ap (λ l. l ++ []) k.told ∙ sym (marks_append ys (acted b ∷ []));
  highest = same_top xs a la ∙ k.highest ∙ sym (same_top ys b lb);
}
  where
    under : (w l p r : ℤ) → w ≤ℤ pos 0 → l ≤ℤ p → r ≡ int_max p (l +ℤ int_max (pos 0) (w +ℤ pos 0)) → r ≡ p
    under w l p r le under_p e = omega (arith, ints, clamps)

    same_top : (xs : List Item) (a : Action) → weight a ≤ℤ pos 0 → top (xs ++ acted a ∷ []) ≡ top xs
    same_top xs a le = under (weight a) (live xs) (top xs) (top (xs ++ acted a ∷ [])) le (live_under_peak (actions_of xs)) (top_append xs (acted a ∷ []))

-- ---- what is added

pub added_is : (s t : State) (new : List Item) → t.items ≡ s.items ++ new → added s t ≡ new
added_is s t new e = ap (λ items. drop (length s.items) items) e ∙ drop_at s.items new (length s.items) refl

pub added_all : (s t : State) → Keeps s t → t.items ≡ s.items ++ added s t
added_all s t k = k.grows.1 ∙ ap (λ new. s.items ++ new) (sym (added_is s t k.grows.0 k.grows.1))

pub added_more : (s t u : State) → Keeps s t → Keeps t u → added s u ≡ added s t ++ added t u
added_more s t u p q =
    added_is s u (added s t ++ added t u)
    (added_all t u q ∙ ap (λ items. items ++ added t u) (added_all s t p) ∙ Rattle.std.proofs.Common.append_assoc s.items (added s t) (added t u))
