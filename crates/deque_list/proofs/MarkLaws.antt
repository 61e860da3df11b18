-- The marks after an id came into use or went out of it.
use Rattle.std.specs.Prelude.{◌≡◌, ℕ, zero, suc, ◌<◌, ◌≤◌, List, [], ◌∷◌, length, Some, slice_get, insert, remove, slice_set, Bool, true, false, cond, count_by, refl, replicate}
use Rattle.std.proofs.Common.{sym, ◌∙◌, ap, subst, inl, inr, arith, length-set}
use Rattle.std.proofs.lemmas.Option.{slice_get_within, get_or_from_slice_get}
use Rattle.std.proofs.lemmas.List.Sums.{sum_by-set, sum_by-cons}
use Rattle.std.proofs.lemmas.Bool.{cases_order}
use Rattle.std.proofs.lemmas.List.{length-replicate}
use Rattle.deque_list.specs.declared.deque_id.DequeId.{DequeId}
use Rattle.deque_list.specs.Ids.{IsLive, IsSmallestFree, deque_id}
use Rattle.deque_list.specs.Marks.{IsSound}
use Rattle.deque_list.proofs.IdLaws.{live_stays, new_is_live, live_before, differ_inserted, differ_removed, removed_is_gone, live_remains, lived_before}
use Rattle.deque_list.proofs.RankLaws.{written_stands, others_unwritten, same_or_other}

-- an unmarked id is free
pub unmarked_is_free : (ids : List DequeId) (marks : List Bool) (n : ℕ) → IsSound ids marks → slice_get marks n ≡ Some false → ¬ IsLive ids (deque_id n)
unmarked_is_free ids marks n sound unmarked live = let clash : Some true ≡ Some false = sym (sound.marked (deque_id n) live) ∙ unmarked in cc

-- one more id is longer by one
length_inserted : (ids : List DequeId) (at : ℕ) (id : DequeId) → at ≤ length ids → length (insert ids at id) ≡ suc (length ids)
length_inserted ids zero id within = refl
length_inserted [] (suc at) id within = absurd (omega arith)
length_inserted (x ∷ ids) (suc at) id within = ap (λ n. suc n) (length_inserted ids at id (omega arith))

length_removed : (ids : List DequeId) (at : ℕ) → at < length ids → suc (length (remove ids at)) ≡ length ids
length_removed [] at within = absurd (omega arith)
length_removed (x ∷ ids) zero within = refl
length_removed (x ∷ ids) (suc at) within = ap (λ n. suc n) (length_removed ids at (omega arith))

-- a free id comes into use
pub sound_inserted : (ids : List DequeId) (marks : List Bool) (at n : ℕ) → IsSound ids marks → at ≤ length ids → slice_get marks n ≡ Some false
    → IsSound (insert ids at (deque_id n)) (slice_set marks n true)
sound_inserted ids marks at n sound within unmarked =
    let new : DequeId = deque_id n in
    let free : ¬ IsLive ids new = unmarked_is_free ids marks n sound unmarked in
    let in_marks : n < length marks = slice_get_within marks n false unmarked in
    record {
      differ = differ_inserted ids at new within sound.differ free;
      marked = λ id live. elim (same_or_other id.0 n) [
        | inl same ↦ let P : ℕ → Type 0 = λ k. slice_get (slice_set marks n true) k ≡ Some true in subst P (sym same) (written_stands marks n true in_marks)
        | inr other ↦ others_unwritten marks n true id.0 other ∙ elim (live_before ids at new id within live) [
          | inl is_new ↦ absurd (other (ap (λ d. d.0) is_new))
          | inr was ↦ sound.marked id was
        ]
      ];
      live = λ k mark. elim (same_or_other k n) [
        | inl same ↦ let P : ℕ → Type 0 = λ m. IsLive (insert ids at new) (deque_id m) in subst P (sym same) (new_is_live ids at new within)
        | inr other ↦ live_stays ids at new (deque_id k) within (sound.live k (sym (others_unwritten marks n true k other) ∙ mark))
      ];
      counted =
          let was = get_or_from_slice_get marks n false false unmarked in
          let step = sum_by-set (λ mark. cond mark 1 0) marks n true false in_marks in
          let fits = rw was at step in let long = length_inserted ids at new within in let counted = sound.counted in omega arith;
      few = let long = length-set marks n true in let few = sound.few in omega arith;
    }

-- an id goes out of use
pub sound_removed : (ids : List DequeId) (marks : List Bool) (at : ℕ) (id : DequeId) → IsSound ids marks → slice_get ids at ≡ Some id
    → IsSound (remove ids at) (slice_set marks id.0 false)
sound_removed ids marks at id sound here =
    let marked : slice_get marks id.0 ≡ Some true = sound.marked id (at, here) in
    let in_marks : id.0 < length marks = slice_get_within marks id.0 true marked in
    let within : at < length ids = slice_get_within ids at id here in
    record {
      differ = differ_removed ids at sound.differ;
      marked = λ other live. elim (same_or_other other.0 id.0) [
        | inl same ↦ let P : ℕ → Type 0 = λ m. IsLive (remove ids at) (deque_id m) in absurd (removed_is_gone ids at id sound.differ here (subst P same live))
        | inr differs ↦ others_unwritten marks id.0 false other.0 differs ∙ sound.marked other (lived_before ids at other live)
      ];
      live = λ k mark. elim (same_or_other k id.0) [
        | inl same ↦ let clash : Some false ≡ Some true = sym (written_stands marks id.0 false in_marks) ∙ (ap (λ m. slice_get (slice_set marks id.0 false) m) (sym same) ∙ mark) in cc
        | inr differs ↦ live_remains ids at id (deque_id k) here (sound.live k (sym (others_unwritten marks id.0 false k differs) ∙ mark)) (λ same. differs (ap (λ d. d.0) same))
      ];
      counted =
          let was = get_or_from_slice_get marks id.0 true false marked in
          let step = sum_by-set (λ mark. cond mark 1 0) marks id.0 false false in_marks in
          let fits = rw was at step in let long = length_removed ids at within in let counted = sound.counted in omega arith;
      few = let long = length-set marks id.0 false in let few = sound.few in omega arith;
    }

-- where all are marked, there are as many marks as places for them
all_marked : (marks : List Bool) → ((n : ℕ) → n < length marks → slice_get marks n ≡ Some true) → count_by (λ mark. mark) marks ≡ length marks
all_marked [] each = refl
all_marked (false ∷ marks) each = let clash : Some false ≡ Some true = each 0 (omega arith) in cc
all_marked (true ∷ marks) each =
    let rest = all_marked marks (λ n below. each (suc n) (omega arith)) in
    let first = sum_by-cons (λ mark. cond mark 1 0) true marks in omega (arith, rest, first)

-- where there are fewer ids than may be, the first unmarked one may be
pub first_free_is_within : (ids : List DequeId) (marks : List Bool) (n : ℕ) → IsSound ids marks → length ids < length marks → n ≤ length marks
    → ((k : ℕ) → k < n → slice_get marks k ≡ Some true) → n < length marks
first_free_is_within ids marks n sound fewer within marked =
    elim (same_or_other n (length marks)) [
      | inl all ↦ let full = all_marked marks (λ k below. marked k (omega arith)) in let counted = sound.counted in absurd (omega arith)
      | inr other ↦ elim (cases_order n (length marks)) [ inl same ↦ absurd (other same) | inr r ↦ elim r [ inl lt ↦ lt | inr gt ↦ absurd (omega arith) ] ]
    ]

-- and it is the smallest that no deque has
pub first_free_is_smallest : (ids : List DequeId) (marks : List Bool) (n : ℕ) → IsSound ids marks → slice_get marks n ≡ Some false
    → ((k : ℕ) → k < n → slice_get marks k ≡ Some true) → IsSmallestFree ids (deque_id n)
first_free_is_smallest ids marks n sound unmarked marked = (unmarked_is_free ids marks n sound unmarked, λ k below. sound.live k (marked k below))

none_marked : (n k : ℕ) → slice_get (replicate n false) k ≡ Some true → ⊥
none_marked zero k is = cc
none_marked (suc n) zero is = cc
none_marked (suc n) (suc k) is = none_marked n k is

none_counted : (n : ℕ) → count_by (λ mark. mark) (replicate n false) ≡ 0
none_counted zero = refl
none_counted (suc n) = let rest = none_counted n in let first = sum_by-cons (λ mark. cond mark 1 0) false (replicate n false) in omega (arith, rest, first)

-- no id is in use
none_sound : (most : ℕ) → most ≤ 4194305 → IsSound [] (replicate most false)
none_sound most few = record {
  differ = λ r s id at_r at_s. cc;
  marked = λ id live. let clash = live.1 in cc;
  live = λ n mark. absurd (none_marked most n mark);
  counted = none_counted most;
  few = let long = length-replicate most false in omega arith;
}

-- the id 0 alone is in use
pub first_sound : (most : ℕ) → 1 ≤ most → most ≤ 4194305 → IsSound (deque_id 0 ∷ []) (slice_set (replicate most false) 0 true)
first_sound zero some few = absurd (omega arith)
first_sound (suc more) some few = sound_inserted [] (replicate (suc more) false) 0 0 (none_sound (suc more) few) (omega arith) refl
