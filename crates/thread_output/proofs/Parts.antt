-- What is told of one part behind another.
use Rattle.std.proofs.Common.{◌≡◌, true, false, List, [], ◌∷◌, ◌++◌, length, ℤ, Option, Some, None, is_some, refl, sym, ap, ◌∙◌, arith, length-append}
use Rattle.dag_order.specs.declared.fault.FaultAt.{FaultAt}
use Rattle.thread_points.specs.Passed.States.{Item, failed}
use Rattle.thread_points.specs.Passed.Run.{lines_of, first_fault}
use Rattle.thread_output.specs.Joining.{IsJoined, lines_before}
use Rattle.thread_output.specs.Telling.{AreLines}
use Rattle.thread_points.specs.Laws.{earlier_fault}
use Rattle.thread_output.proofs.Both.{faults, lines, marked_later}

pub none_from : (f : Option FaultAt) → is_some f ≡ false → None ≡ f
none_from None e = refl
none_from (Some fault) e = let never : ⊥ = cc in absurd never

pub still_marked : (f : Option FaultAt) (items : List Item) (fault : FaultAt) → f ≡ first_fault items → is_some f ≡ true →
    f ≡ first_fault (items ++ failed fault ∷ [])
still_marked None items fault is some = let never : ⊥ = cc in absurd never
still_marked (Some first) items fault is some = marked_later items fault first is

pub stays_fault : (f : Option FaultAt) (items others : List Item) → f ≡ first_fault items → is_some f ≡ true → f ≡ first_fault (items ++ others)
stays_fault None items others is some = let never : ⊥ = cc in absurd never
stays_fault (Some fault) items others is some =
    sym (faults items others ∙ ap (λ (f : Option FaultAt). earlier_fault f (first_fault others)) (sym is))

pub stays_lines : (f : Option FaultAt) (items others : List Item) → f ≡ first_fault items → is_some f ≡ true → lines_of (items ++ others) ≡ lines_of items
stays_lines None items others is some = let never : ⊥ = cc in absurd never
stays_lines (Some fault) items others is some =
    lines items others ∙ ap (λ (f : Option FaultAt). lines_before f (lines_of items) (lines_of others)) (sym is)

pub goes_on_fault : (f : Option FaultAt) (items others : List Item) → f ≡ first_fault items → is_some f ≡ false →
    first_fault (items ++ others) ≡ first_fault others
goes_on_fault (Some fault) items others is none = let never : ⊥ = cc in absurd never
goes_on_fault None items others is none =
    faults items others ∙ ap (λ (f : Option FaultAt). earlier_fault f (first_fault others)) (sym is)

pub goes_on_lines : (f : Option FaultAt) (items others : List Item) → f ≡ first_fault items → is_some f ≡ false →
    lines_of (items ++ others) ≡ lines_of items ++ lines_of others
goes_on_lines (Some fault) items others is none = let never : ⊥ = cc in absurd never
goes_on_lines None items others is none =
    lines items others ∙ ap (λ (f : Option FaultAt). lines_before f (lines_of items) (lines_of others)) (sym is)

pub joined_lines : (a b all : Option (List ℤ)) (xs ys : List ℤ) → IsJoined a b all → AreLines a xs → AreLines b ys → AreLines all (xs ++ ys)
joined_lines (Some a) (Some b) (Some all) xs ys joined first second = joined ∙ ap (λ (vs : List ℤ). vs ++ b) first ∙ ap (λ (vs : List ℤ). xs ++ vs) second
joined_lines (Some a) (Some b) None xs ys joined first second =
    let all = length-append xs ys in
    let here = ap (λ (vs : List ℤ). length vs) first in
    let there = ap (λ (vs : List ℤ). length vs) second in
    omega (arith, all, here, there, joined)
joined_lines (Some a) None (Some all) xs ys joined first second = absurd joined
joined_lines (Some a) None None xs ys joined first second = let all = length-append xs ys in omega (arith, all, second)
joined_lines None b (Some all) xs ys joined first second = absurd joined
joined_lines None b None xs ys joined first second = let all = length-append xs ys in omega (arith, all, first)
