-- Which children a thread shows, and when it waits for the result of one.
use Rattle.std.proofs.Common.{◌≡◌, ℕ, List, [], ◌∷◌, map, reverse, refl, sym, ap, subst, ◌∙◌, true≢false}
use Rattle.std.specs.Prelude.{Bool, true, false}
use Rattle.std.proofs.lemmas.List.{reverse-append, map-append}
use Rattle.hall_slots.specs.Passed.Lists.{Among, Each}
use Rattle.hall_slots.proofs.Passed.DequeMachineLists.{each_among, each_from, each_join}
use Rattle.moment_shown.specs.Parts as parts
use Rattle.hall_parts.specs.HallNames.{IsStill, same_id, IsResultFor, either_of, IsAwaited, Child, child_shown, thread_shown, Ended, Thread}
use Rattle.thread_frames.proofs.Found.{same_with_itself}
use Rattle.thread_map.proofs.KeptLemmas.{same_is_same}

-- a thread that has done no action shows the same
pub still_shows : (was now : Thread) → IsStill was now → thread_shown was ≡ thread_shown now
still_shows was now still = λ i. record {
  id = sym still.same.id i;
  parent = sym still.same.parent i;
  label = sym still.same.label i;
  done = sym still.done i;
  func = sym still.same.func i;
  children = map child_shown (reverse (sym still.children i));
  words = sym still.words i;
}

-- what holds of all children as they are shown, holds of all that are shown
each_shown : (P : parts.Child → Type 0) (xs : List Child) → Each (λ x. P (child_shown x)) xs → Each P (map child_shown (reverse xs))
each_shown P [] each = tt
each_shown P (x ∷ xs) each = subst (Each P) (sym (ap (map child_shown) (reverse-append (x ∷ []) xs) ∙ map-append child_shown (reverse xs) (x ∷ [])))
    (each_join P (map child_shown (reverse xs)) (child_shown x ∷ []) (each_shown P xs each.1) (each.0, tt))

-- a thread waits for a result if each child that has its id is the one, and some child has it
awaits : (label : List ℕ) (ended : Ended) (xs : List Child) → Each (λ x. same_id x.id ended.id ≡ true → IsResultFor label ended x) xs
    → (Each (λ x. same_id (Child.id x) ended.id ≡ false) xs → ⊥) → IsAwaited label ended xs
awaits label ended [] each never = absurd (never tt)
awaits label ended (x ∷ xs) each never = by_test (λ later. awaits label ended xs each.1 later) (same_id x.id ended.id) refl
  where
    by_test : ((Each (λ x. same_id (Child.id x) ended.id ≡ false) xs → ⊥) → IsAwaited label ended xs) → (b : Bool) → same_id x.id ended.id ≡ b
        → either_of (same_id x.id ended.id) (IsResultFor label ended x) (IsAwaited label ended xs)
    by_test further true same = subst (λ b. either_of b (IsResultFor label ended x) (IsAwaited label ended xs)) (sym same) (each.0 same)
    by_test further false other = subst (λ b. either_of b (IsResultFor label ended x) (IsAwaited label ended xs)) (sym other) (further (λ none. never (other, none)))

pub awaited : (label : List ℕ) (ended : Ended) (xs : List Child) (child : parts.Child) → Among child (map child_shown (reverse xs)) → child.id ≡ ended.id
    → ((x : Child) → Among x xs → x.id ≡ ended.id → IsResultFor label ended x) → IsAwaited label ended xs
awaited label ended xs child there is each =
    awaits label ended xs (each_from (λ x. same_id x.id ended.id ≡ true → IsResultFor label ended x) xs (λ x among same. each x among (sym (same_is_same x.id ended.id same))))
    (λ none. true≢false (sym (ap (λ i. same_id i ended.id) is ∙ same_with_itself ended.id)
    ∙ each_among (λ (x : parts.Child). same_id x.id ended.id ≡ false) child (map child_shown (reverse xs)) (each_shown (λ x. same_id x.id ended.id ≡ false) xs none) there))
