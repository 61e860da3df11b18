-- A seat as its fields and as its value.
use Rattle.std.proofs.Common.{◌≡◌, ℕ, true, Option, List, [], ◌∷◌, sym, ap, ◌∙◌, subst}
use Rattle.atomic_table.specs.Table.{Me}
use Rattle.atomic_table.specs.Seated.{TableId}
use Rattle.atomic_table.specs.declared.shared.Seat.{Seat}
use Rattle.turn_table.specs.declared.hand.Hand.{Hand}
use Rattle.turn_table.specs.declared.place.Place.{Place}
use Rattle.turn_table.specs.Seats.{SeatView, seat_view, with_hand, vacant, Within, IsInPlace}
use Rattle.turn_table.specs.Steps.{with, placed}

module _ {K V N : Type 0} where
  -- the value that the seat has before a step
  pub placed_is : (table : TableId) (seat : Seat (Option V) (Place K V N)) (x : SeatView K V N) → seat_view seat ≡ x → x.table ≡ table → placed table seat.id seat.me.0 ≡ x
  placed_is table seat x v t = ap (λ (z : TableId). placed z seat.id seat.me.0) (sym t ∙ ap (λ (y : SeatView K V N). y.table) (sym v)) ∙ v

  -- and after it
  pub placed_after : (table : TableId) (seat later : Seat (Option V) (Place K V N)) (x : SeatView K V N) → seat_view seat ≡ x → x.table ≡ table → later.table_id ≡ seat.table_id → later.id ≡ seat.id → placed table seat.id later.me.0 ≡ seat_view later
  placed_after table seat later x v t a b = let e : table ≡ later.table_id = sym t ∙ ap (λ (y : SeatView K V N). y.table) (sym v) ∙ sym a in λ k. placed (e k) (sym b k) later.me.0

  -- where only the hand changed
  pub view_after : (F : Hand V N → Hand V N) (seat later : Seat (Option V) (Place K V N)) (x : SeatView K V N) → seat_view seat ≡ x → later.table_id ≡ seat.table_id → later.id ≡ seat.id → later.me.0 ≡ with seat.me.0 (F seat.me.0.hand) → seat_view later ≡ with_hand x (F x.hand)
  view_after F seat later x v a b e =
      let first : seat_view later ≡ with_hand (seat_view seat) (F seat.me.0.hand) = λ k. record { table = a k; number = b k; key = (e k).key; hand = (e k).hand } in first ∙ ap (λ (y : SeatView K V N). with_hand y (F y.hand)) v

  pub in_place : (seat later : Seat (Option V) (Place K V N)) (p : Place K V N) (c : List (ℕ × Option V)) → later.me ≡ (p, c) → c ≡ vacant p.hand.holds → p.hand.seated ≡ true → later.table_id ≡ seat.table_id → Within seat.table_id.slots p.hand.holds → IsInPlace later
  in_place seat later p c e is seated t within =
      let n : later.table_id.slots ≡ seat.table_id.slots = ap (λ (z : TableId). z.slots) t in
      subst (λ (m : Me (Option V) (Place K V N)). (m.1 ≡ vacant m.0.hand.holds) × (m.0.hand.seated ≡ true) × Within later.table_id.slots m.0.hand.holds) (sym e)
      (is, seated, subst (λ (z : ℕ). Within z p.hand.holds) (sym n) within)

abbrev first_or : {A : Type 0} → A → List (ℕ × A) → A
first_or d [] = d
first_or d (x ∷ xs) = x.1

-- what is first out is one value
pub same_front : {A : Type 0} (i : ℕ) (x y : A) (r s : List (ℕ × A)) → (i, x) ∷ r ≡ (i, y) ∷ s → x ≡ y
same_front i x y r s e = ap (first_or x) e
