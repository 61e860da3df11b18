-- The frames of a stack above those that are left.
use Rattle.std.proofs.Common.{◌≡◌, ◌↔◌, ℕ, zero, suc, ◌-◌, ◌≤◌, List, [], ◌∷◌, ◌++◌, length}
use Rattle.std.proofs.Common.{take, drop, Option, Some, None, refl, sym, ap, ◌∙◌, arith, append_assoc, length-append}
use Rattle.std.specs.Prelude.{reverse, IfSome}
use Rattle.std.proofs.Math.Seq.{drop-append_seam}
use Rattle.std.proofs.lemmas.List.{same_from_push, take-append-drop, length-drop, reverse-append, length-reverse}
use Rattle.thread_stack.specs.declared.frame.Frame.{Frame}
use Rattle.flat_code.specs.Passed.Flat.{frames_at}
use Rattle.flat_code.specs.declared.place.Place.{Place}
use Rattle.flat_code.specs.Shown.{flat_shown}
use Rattle.flat_program.specs.declared.flat_list.FlatList.{FlatList}
use Rattle.flat_program.specs.Programs.{deepest_mark, HasDeepest}
use Rattle.flat_program.specs.Marking.{IsMarkOn}
use Rattle.flat_program.proofs.Starts.{same_reversed}

module _ {A : Type 0} where
  -- where the last ones are the same
  pub above_same : (stack others mark : List A) (next last : A) (n : ℕ) → mark ≡ others ++ last ∷ [] → next ≡ last → drop n stack ≡ others
      → stack ++ next ∷ [] ≡ take n stack ++ mark
  above_same stack others mark next last n is same above =
      ap (λ (xs : List A). xs ++ next ∷ []) (sym (take-append-drop n stack) ∙ ap (λ (xs : List A). take n stack ++ xs) above)
      ∙ ap (λ (x : A). (take n stack ++ others) ++ x ∷ []) same
      ∙ append_assoc (take n stack) others (last ∷ [])
      ∙ ap (λ (xs : List A). take n stack ++ xs) (sym is)

  pub all_dropped : (xs : List A) → drop (length xs) xs ≡ []
  all_dropped [] = refl
  all_dropped (x ∷ xs) = all_dropped xs

  -- a mark has a frame at least
  pub none_above : (stack mark left : List A) (next : A) → length mark ≡ 0 → length left ≤ length stack → stack ++ next ∷ [] ≡ left ++ mark → ⊥
  none_above stack mark left next none less is =
      let long = ap (λ (xs : List A). length xs) is in
      let one = length-append stack (next ∷ []) in
      let two = length-append left mark in
      omega (arith, none, less, long, one, two)

  -- and where a stack has those of a mark above what is left, they are its last ones
  pub parts_above : (stack others mark left : List A) (next last : A) → mark ≡ others ++ last ∷ [] → stack ++ next ∷ [] ≡ left ++ mark
      → (stack ≡ left ++ others) × (next ≡ last)
  parts_above stack others mark left next last is h =
      same_from_push stack (left ++ others) next last
      (h ∙ ap (λ (xs : List A). left ++ xs) is ∙ sym (append_assoc left others (last ∷ [])))

  pub not_longer : (stack others left : List A) → stack ≡ left ++ others → length others ≤ length stack
  not_longer stack others left is =
      let long = ap (λ (xs : List A). length xs) is in
      let both = length-append left others in
      omega (arith, long, both)

  pub others_above : (stack others left : List A) → stack ≡ left ++ others → drop (length stack - length others) stack ≡ others
  others_above stack others left is =
      let long = ap (λ (xs : List A). length xs) is in
      let both = length-append left others in
      let n : length stack - length others ≡ length left = omega (arith, long, both) in
      ap (λ (k : ℕ). drop k stack) n ∙ ap (λ (xs : List A). drop (length left) xs) is ∙ drop-append_seam left others

  all_taken : (n : ℕ) (xs : List A) → length xs ≤ n → take n xs ≡ xs
  all_taken zero [] less = refl
  all_taken zero (x ∷ xs) less = absurd (omega (arith, less))
  all_taken (suc n) [] less = refl
  all_taken (suc n) (x ∷ xs) less = ap (λ (ys : List A). x ∷ ys) (all_taken n xs (omega (arith, less)))

  -- all of a list after a place
  pub rest_taken : (n : ℕ) (xs : List A) → take (length xs - n) (drop n xs) ≡ drop n xs
  rest_taken n xs = let long = length-drop n xs in all_taken (length xs - n) (drop n xs) (omega (arith, long))

  -- two lists with the same first one are the same exactly if the rest is
  pub same_rest : (xs ys us vs : List A) (x y : A) (P : Type 0) → xs ≡ x ∷ us → ys ≡ y ∷ vs → x ≡ y → (xs ≡ ys) ↔ P → (us ≡ vs) ↔ P
  same_rest xs ys us vs x y P first second same h = (
    λ e. h.0 (first ∙ ap (λ (zs : List A). x ∷ zs) e ∙ ap (λ (z : A). z ∷ vs) same ∙ sym second),
    λ p. ap (λ (zs : List A). drop 1 zs) (sym first ∙ h.1 p ∙ second),
  )

  pub other_first : (xs ys us vs : List A) (x y : A) → xs ≡ x ∷ us → ys ≡ y ∷ vs → (x ≡ y → ⊥) → xs ≡ ys → ⊥
  other_first xs ys us vs x y first second other e =
      other (ap (λ (zs : List A). slice_index zs x) (sym first ∙ e ∙ second))
    where
      slice_index : List A → A → A
      slice_index [] z = z
      slice_index (w ∷ ws) z = w

-- the frames of a mark, the next one first
mark_on : (l : FlatList) (place : ℕ) (next : Frame) (stack mark left : List Frame) → reverse mark ≡ frames_at (flat_shown l.places.items) place
    → (stack ++ next ∷ [] ≡ left ++ mark) ↔ IsMarkOn l place next stack left
mark_on l place next stack mark left is =
    let one : reverse (stack ++ next ∷ []) ≡ next ∷ reverse stack = reverse-append stack (next ∷ []) in
    let two : reverse (left ++ mark) ≡ frames_at (flat_shown l.places.items) place ++ reverse left =
    reverse-append left mark ∙ ap (λ (xs : List Frame). xs ++ reverse left) is in
    (λ h. sym one ∙ ap reverse h ∙ two, λ h. same_reversed (stack ++ next ∷ []) (left ++ mark) (one ∙ h ∙ sym two))

-- what is left below the frames of a mark, and what is not
pub left_shown : (l : FlatList) (place : ℕ) (next : Frame) (stack mark : List Frame) (o : Option ℕ)
    → reverse mark ≡ frames_at (flat_shown l.places.items) place → IfSome o (λ n. (n ≤ length stack) × (stack ++ next ∷ [] ≡ take n stack ++ mark))
    → IfSome o (λ n. (n ≤ length stack) × IsMarkOn l place next stack (take n stack))
left_shown l place next stack mark None is h = tt
left_shown l place next stack mark (Some n) is h = (h.0, (mark_on l place next stack mark (take n stack) is).0 h.1)

pub none_shown : (l : FlatList) (place : ℕ) (next : Frame) (stack mark left : List Frame) → reverse mark ≡ frames_at (flat_shown l.places.items) place
    → (stack ++ next ∷ [] ≡ left ++ mark → ⊥) → IsMarkOn l place next stack left → ⊥
none_shown l place next stack mark left is h on = h ((mark_on l place next stack mark left is).1 on)

-- no mark has more frames than the deepest
pub within_deepest : (ps : List Place) (place : ℕ) → length (frames_at (flat_shown ps) place) ≤ deepest_mark ps
within_deepest [] place = omega arith
within_deepest (p ∷ ps) zero =
    let long : length (frames_at (flat_shown (p ∷ ps)) zero) ≡ length p.mark.items = length-reverse p.mark.items in
    omega (arith, long)
within_deepest (p ∷ ps) (suc place) = let rest = within_deepest ps place in omega (arith, rest)

pub has_deepest : (l : FlatList) (ps : List Place) → ps ≡ l.places.items → l.deepest ≡ deepest_mark ps → HasDeepest l
has_deepest l ps is deep place =
    let most = within_deepest l.places.items place in
    let same = ap deepest_mark is in
    omega (arith, most, same, deep)
