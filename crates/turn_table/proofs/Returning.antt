-- A seat that puts back what it took, after a slot was refused, is back.
use Rattle.std.proofs.Common.{◌≡◌, ℕ, List, [], ◌∷◌, ◌++◌, refl, ap, ◌∙◌}
use Rattle.std.proofs.lemmas.List.{append_assoc}
use Rattle.turn_table.specs.declared.look.Look.{Look}
use Rattle.turn_table.specs.declared.look.Look.TheVariants.{Took, Refused}
use Rattle.turn_table.specs.declared.hand.Hand.{Hand}
use Rattle.turn_table.specs.declared.held.Held.{Held}
use Rattle.turn_table.specs.Hands.{without_slot, renewed, took, refused, gave}
use Rattle.turn_table.specs.Seats.{SeatView, with_hand}
use Rattle.turn_table.proofs.Hands.{without_here}
use Rattle.turn_table.specs.Backs.{kept, still, unchanged, told_more, IsBack}

module _ {V : Type 0} where
  renewed_same : (xs : List (ℕ × V)) → renewed unchanged xs ≡ xs
  renewed_same [] = refl
  renewed_same (x ∷ xs) = λ k. (x.0, x.1) ∷ renewed_same xs k

  -- what was taken last is put back: the hand holds what it held before
  left_of_front : (i : ℕ) (v : V) (xs : List (ℕ × V)) → renewed unchanged (without_slot i ((i, v) ∷ xs)) ≡ xs
  left_of_front i v xs = ap (renewed unchanged) (without_here i (i, v) xs (λ k. i)) ∙ renewed_same xs

module _ {K V N : Type 0} where
  -- a refusal alone
  pub back_of_none : (s after : SeatView K V N) (held : Held) → after ≡ with_hand s (refused kept s.hand held.slot held.seen) → IsBack s after held
  back_of_none s after held is = ([], is)

  -- one slot was taken before
  pub back_of_one : (s one two after : SeatView K V N) (i : ℕ) (v : V) (held : Held) → one ≡ with_hand s (took kept s.hand i v)
      → IsBack one two held → after ≡ with_hand two (gave still unchanged two.hand i) → IsBack s after held
  back_of_one s one two after i v held is_one is_two is_after = let r : Look V = Refused held.slot held.seen in let m : List (Look V) = is_two.0 ++ r ∷ [] in
      let looks : one.hand.looks ++ m ≡ s.hand.looks ++ ((Took i v ∷ is_two.0) ++ r ∷ []) = ap (λ (x : SeatView K V N). x.hand.looks ++ m) is_one ∙ append_assoc s.hand.looks (Took i v ∷ []) m in
      let holds : renewed unchanged (without_slot i one.hand.holds) ≡ s.hand.holds = ap (λ (x : SeatView K V N). renewed unchanged (without_slot i x.hand.holds)) is_one ∙ left_of_front i v s.hand.holds in
      let from : after ≡ with_hand one (gave still unchanged (told_more one.hand m) i) = is_after ∙ ap (λ (x : SeatView K V N). with_hand x (gave still unchanged x.hand i)) is_two.1 in
      let to : with_hand one (gave still unchanged (told_more one.hand m) i) ≡ with_hand s (told_more s.hand ((Took i v ∷ is_two.0) ++ r ∷ [])) =
      λ k. record { table = SeatView.table (is_one k); number = SeatView.number (is_one k); key = SeatView.key (is_one k); hand = record { seated = Hand.seated (SeatView.hand (is_one k)); holds = holds k; note = Hand.note (SeatView.hand (is_one k)); looks = looks k } } in
      (Took i v ∷ is_two.0, from ∙ to)
