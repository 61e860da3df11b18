-- Seats whose notes sum to the count word, but for whole turns of the word.
use Rattle.std.proofs.Common.{◌≡◌, ℕ, ◌+◌, ◌%◌, ◌^◌, sum, List, [], ◌∷◌, ◌++◌, set, refl, sym, ap, ◌∙◌, arith}
use mathlib.Core.Option.{some}
use lib.ListN.{get_elem?}
use Rattle.atomic_table.proofs.Lists.{set_else}
use Rattle.std.proofs.lemmas.List.Sums.{sum_by-set, sum_by_push}
use Rattle.turn_table.specs.Seats.{SeatView}
use Rattle.turn_table.specs.Law.{TakeKeeps, HeldKeeps, CountKeeps, SplitKeeps, JoinKeeps}
use Rattle.turn_table.specs.Notes.{OverNotes}
use Rattle.turn_table.proofs.Hands.{at_within, read_at}
use Rattle.turn_table.proofs.NoteLaws.{take_quiet, held_quiet, count_noted, split_noted, join_noted}

abbrev pub Seat : Type 0
Seat = SeatView (Unit {0}) ℕ ℕ

abbrev pub Counts : Unit {0} → List ℕ → ℕ → List ℕ → Type 0
Counts key shown count notes = count ≡ sum notes % 2 ^ 64

sum_set : (xs : List ℕ) (i v w : ℕ) → get_elem? xs i ≡ some v → sum (set xs i w) + v ≡ sum xs + w
sum_set xs i v w e = let r = sum_by-set (λ x. x) xs i w v (at_within xs i v e) in let d = read_at xs i v v e in omega arith

module _ (key : Unit {0}) (seat : Seat) where
  pub take_keeps : (i : ℕ) → TakeKeeps (OverNotes Counts) 0 key seat i (λ h _. h.note)
  take_keeps i = take_quiet Counts 0 key seat i (λ h _. h.note) (λ l. refl)

  pub held_keeps : (i : ℕ) → HeldKeeps (OverNotes Counts) 0 key seat i (λ h _. h.note)
  held_keeps i = held_quiet Counts 0 key seat i (λ h _. h.note) (λ l. refl)

  one_more : (c s t : ℕ) → c ≡ s % 2 ^ 64 → t ≡ s + 1 → (c + 1) % 2 ^ 64 ≡ t % 2 ^ 64
  one_more c s t e f = omega arith

  pub count_keeps : CountKeeps (OverNotes Counts) 0 key seat (λ h _. h.note + 1)
  count_keeps = count_noted Counts 0 key seat (λ h _. h.note + 1) (λ shown count ns kept long shows at small.
      let n : ℕ = seat.hand.note in let e = sum_set ns seat.number n (n + 1) at in
      one_more count (sum ns) (sum (set ns seat.number (n + 1))) kept (omega arith))

  pub split_keeps : SplitKeeps (OverNotes Counts) 0 key seat seat.hand.note 0
  split_keeps = split_noted Counts 0 key seat seat.hand.note 0 (λ shown count ns kept long shows at.
      let n : ℕ = seat.hand.note in let e = sum_set ns seat.number n n at in
      let same : sum (set ns seat.number n ++ 0 ∷ []) ≡ sum ns = sum_by_push (λ n. n) (set ns seat.number n) 0 ∙ (omega arith) in
      kept ∙ ap (λ (s : ℕ). s % 2 ^ 64) (sym same))

  pub join_keeps : (from : Seat) → JoinKeeps (OverNotes Counts) 0 key seat from (seat.hand.note + from.hand.note)
  join_keeps from = join_noted Counts 0 key seat from (seat.hand.note + from.hand.note) (λ shown count ns kept long shows at other there.
      let a : ℕ = seat.hand.note in let b : ℕ = from.hand.note in let ms : List ℕ = set ns seat.number (a + b) in
      let e = sum_set ns seat.number a (a + b) at in
      let d = sum_set ms from.number b 0 (set_else ns seat.number from.number (a + b) other ∙ there) in
      let same : sum (set ms from.number 0) ≡ sum ns = omega arith in
      kept ∙ ap (λ (s : ℕ). s % 2 ^ 64) (sym same))
