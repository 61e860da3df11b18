-- What becomes of the periods of a table where one seat changes.
use Rattle.std.proofs.Common.{◌≡◌, ◌≢◌, ℕ, zero, suc, ◌+◌, ◌<◌, List, [], ◌∷◌, ◌++◌, length, map, inl, inr, refl, sym, ap, subst, ◌∙◌, arith, append_assoc}
use Rattle.std.specs.Prelude.{Option, None, Some, slice_get, slice_set, slice_index_or, Result, Ok, Err, OnOk}
use Rattle.std.proofs.lemmas.List.{map-append}
use Rattle.std.proofs.lemmas.Option.{same_Some, none-some}
use Rattle.std.proofs.lemmas.Bool.{cases_eq}
use Rattle.space_ledger.specs.declared.book.Closed.{Closed}
use Rattle.open_periods.specs.Periods.{Period, Adds, Replaces, closed_shown, open_shown}
use Rattle.open_periods.specs.declared.seat.Seat.{Seat}
use Rattle.open_periods.specs.Numbers.{period_of_seat, open_periods, all_periods, NumbersDiffer, NumbersWithin}
use Rattle.open_periods.specs.Tables.{seat_in, shown_of, deque_of, HasRoomFor}
use Rattle.open_periods.proofs.Lists.{cut_table, cut_seat, changed, changed_differ, changed_within, added_differ, added_within, adds, moved, moved_differ, moved_within, set_same, set_other}

-- a seat that is there
pub there_is : (seats : List (Option Seat)) (w : ℕ) → w < length seats → slice_get seats w ≡ Some (seat_in (slice_get seats w))
there_is [] w below = absurd (omega (arith, below))
there_is (s ∷ seats) zero below = refl
there_is (s ∷ seats) (suc w) below = there_is seats w (omega (arith, below))

pub some_seat : (seats : List (Option Seat)) (w : ℕ) (seat : Seat) → seat_in (slice_get seats w) ≡ Some seat → slice_get seats w ≡ Some (Some seat)
some_seat [] w seat is = absurd (none-some seat is)
some_seat (s ∷ seats) zero seat is = ap Some is
some_seat (s ∷ seats) (suc w) seat is = some_seat seats w seat is

pub some_shown : (w : ℕ) (s : Option Seat) (p : Period) → shown_of w s ≡ Some p → (seat : Seat) × (s ≡ Some seat) × (p ≡ open_shown w seat.period)
some_shown w None p is = absurd (none-some p is)
some_shown w (Some seat) p is = (seat, refl, sym (same_Some (open_shown w seat.period) p is))

pub seat_within : (seats : List (Option Seat)) (w : ℕ) (seat : Seat) → slice_get seats w ≡ Some (Some seat) → w < length seats
seat_within [] w seat is = absurd (none-some (Some seat) is)
seat_within (s ∷ seats) zero seat is = omega arith
seat_within (s ∷ seats) (suc w) seat is = omega (arith, seat_within seats w seat is)

index_is : {X : Type 0} (xs : List X) (i : ℕ) (x other : X) → slice_get xs i ≡ Some x → slice_index_or xs i other ≡ x
index_is [] i x other is = absurd (none-some x is)
index_is (y ∷ xs) zero x other is = same_Some y x is
index_is (y ∷ xs) (suc i) x other is = index_is xs i x other is

-- the seat that is read at a place is the one that stands there
pub read_seat : (seats : List (Option Seat)) (w : ℕ) (seat found : Seat) (read : Option Seat) → slice_get seats w ≡ Some (Some seat)
    → read ≡ slice_index_or seats w read → read ≡ Some found → found ≡ seat
read_seat seats w seat found read is value found_is = same_Some found seat (sym found_is ∙ value ∙ index_is seats w (Some seat) read is)

pub seat_set : (seats : List (Option Seat)) (w : ℕ) (s x : Option Seat) → slice_get seats w ≡ Some s → seat_in (slice_get (slice_set seats w x) w) ≡ x
seat_set seats w s x is = ap seat_in (set_same seats w x s is)

pub seat_elsewhere : (seats : List (Option Seat)) (w v : ℕ) (x : Option Seat) → v ≢ w → seat_in (slice_get (slice_set seats w x) v) ≡ seat_in (slice_get seats v)
seat_elsewhere seats w v x other = ap seat_in (set_other seats w v x other)

module _ (closed : List Closed) (seats : List (Option Seat)) (w : ℕ) where
  -- a period begins
  module _ (seat : Seat) (idle : slice_get seats w ≡ Some None) where
    pub begun_differ : (n : ℕ) → seat.period.number ≡ n + 1 → NumbersDiffer (all_periods closed seats) → NumbersWithin (all_periods closed seats) n
        → NumbersDiffer (all_periods closed (slice_set seats w (Some seat)))
    begun_differ n number differ within =
        let cut = cut_table closed seats w None idle in
        subst NumbersDiffer (sym (cut.with_seat (Some seat))) (added_differ (map closed_shown closed ++ cut.left) (open_shown w seat.period) cut.right n number
        (subst NumbersDiffer cut.are differ) (subst (λ ps. NumbersWithin ps n) cut.are within))

    pub begun_within : (n : ℕ) → seat.period.number ≡ n + 1 → NumbersWithin (all_periods closed seats) n
        → NumbersWithin (all_periods closed (slice_set seats w (Some seat))) (n + 1)
    begun_within n number within =
        let cut = cut_table closed seats w None idle in
        subst (λ ps. NumbersWithin ps (n + 1)) (sym (cut.with_seat (Some seat))) (added_within (map closed_shown closed ++ cut.left) (open_shown w seat.period) cut.right n number
        (subst (λ ps. NumbersWithin ps n) cut.are within))

    pub begun_adds : Adds (all_periods closed seats) (open_shown w seat.period) (all_periods closed (slice_set seats w (Some seat)))
    begun_adds =
        let cut = cut_table closed seats w None idle in
        subst (λ ps. Adds ps (open_shown w seat.period) (all_periods closed (slice_set seats w (Some seat)))) (sym cut.are)
        (subst (Adds ((map closed_shown closed ++ cut.left) ++ cut.right) (open_shown w seat.period)) (sym (cut.with_seat (Some seat)))
        (adds (map closed_shown closed ++ cut.left) (open_shown w seat.period) cut.right))

  -- a period changes, and its number does not
  module _ (old new : Seat) (is : slice_get seats w ≡ Some (Some old)) (same : new.period.number ≡ old.period.number) where
    pub changed_seat_differ : NumbersDiffer (all_periods closed seats) → NumbersDiffer (all_periods closed (slice_set seats w (Some new)))
    changed_seat_differ differ =
        let cut = cut_table closed seats w (Some old) is in
        subst NumbersDiffer (sym (cut.with_seat (Some new))) (changed_differ (map closed_shown closed ++ cut.left) (open_shown w old.period) (open_shown w new.period) cut.right same
        (subst NumbersDiffer cut.are differ))

    pub changed_seat_within : (n : ℕ) → NumbersWithin (all_periods closed seats) n → NumbersWithin (all_periods closed (slice_set seats w (Some new))) n
    changed_seat_within n within =
        let cut = cut_table closed seats w (Some old) is in
        subst (λ ps. NumbersWithin ps n) (sym (cut.with_seat (Some new))) (changed_within (map closed_shown closed ++ cut.left) (open_shown w old.period) (open_shown w new.period) cut.right n same
        (subst (λ ps. NumbersWithin ps n) cut.are within))

    pub changed_seat : NumbersDiffer (all_periods closed seats) → Replaces (all_periods closed seats) (open_shown w old.period) (open_shown w new.period) (all_periods closed (slice_set seats w (Some new)))
    changed_seat differ =
        let cut = cut_table closed seats w (Some old) is in
        subst (λ ps. Replaces ps (open_shown w old.period) (open_shown w new.period) (all_periods closed (slice_set seats w (Some new)))) (sym cut.are)
        (subst (Replaces ((map closed_shown closed ++ cut.left) ++ open_shown w old.period ∷ cut.right) (open_shown w old.period) (open_shown w new.period)) (sym (cut.with_seat (Some new)))
        (changed (map closed_shown closed ++ cut.left) (open_shown w old.period) (open_shown w new.period) cut.right same (subst NumbersDiffer cut.are differ)))

    -- where the period shows the same, so do all
    pub same_seat : open_shown w new.period ≡ open_shown w old.period → all_periods closed (slice_set seats w (Some new)) ≡ all_periods closed seats
    same_seat shown =
        let cut = cut_table closed seats w (Some old) is in
        cut.with_seat (Some new) ∙ ap (λ p. (map closed_shown closed ++ cut.left) ++ (p ∷ cut.right)) shown ∙ sym cut.are

  -- a period goes to the closed ones
  module _ (old : Seat) (is : slice_get seats w ≡ Some (Some old)) (last : Closed) (same : last.number ≡ old.period.number) where
    left : List Period
    left = (cut_seat 0 seats w (Some old) is).left

    right : List Period
    right = (cut_seat 0 seats w (Some old) is).right

    were : all_periods closed seats ≡ (map closed_shown closed ++ left) ++ open_shown w old.period ∷ right
    unfolding left right
    were =
        let cut = cut_seat 0 seats w (Some old) is in let e : 0 + w ≡ w = omega arith in
        ap (λ t. map closed_shown closed ++ t) (cut.are ∙ ap (λ n. cut.left ++ (period_of_seat n (Some old) ++ cut.right)) e)
        ∙ sym (append_assoc (map closed_shown closed) cut.left (open_shown w old.period ∷ cut.right))

    now : all_periods (closed ++ last ∷ []) (slice_set seats w None) ≡ map closed_shown closed ++ closed_shown last ∷ (left ++ right)
    unfolding left right
    now =
        let cut = cut_seat 0 seats w (Some old) is in
        ap (λ t. map closed_shown (closed ++ last ∷ []) ++ t) (cut.with_seat None)
        ∙ ap (λ t. t ++ (cut.left ++ cut.right)) (map-append closed_shown closed (last ∷ []))
        ∙ append_assoc (map closed_shown closed) (closed_shown last ∷ []) (cut.left ++ cut.right)

    pub closed_differ : NumbersDiffer (all_periods closed seats) → NumbersDiffer (all_periods (closed ++ last ∷ []) (slice_set seats w None))
    closed_differ differ = subst NumbersDiffer (sym now)
        (moved_differ (map closed_shown closed) left (open_shown w old.period) (closed_shown last) right same (subst NumbersDiffer were differ))

    pub closed_within : (n : ℕ) → NumbersWithin (all_periods closed seats) n → NumbersWithin (all_periods (closed ++ last ∷ []) (slice_set seats w None)) n
    closed_within n within = subst (λ ps. NumbersWithin ps n) (sym now)
        (moved_within (map closed_shown closed) left (open_shown w old.period) (closed_shown last) right n same (subst (λ ps. NumbersWithin ps n) were within))

    pub closed_replaces : NumbersDiffer (all_periods closed seats)
        → Replaces (all_periods closed seats) (open_shown w old.period) (closed_shown last) (all_periods (closed ++ last ∷ []) (slice_set seats w None))
    closed_replaces differ =
        subst (λ ps. Replaces ps (open_shown w old.period) (closed_shown last) (all_periods (closed ++ last ∷ []) (slice_set seats w None))) (sym were)
        (subst (Replaces ((map closed_shown closed ++ left) ++ open_shown w old.period ∷ right) (open_shown w old.period) (closed_shown last)) (sym now)
        (moved (map closed_shown closed) left (open_shown w old.period) (closed_shown last) right same (subst NumbersDiffer were differ)))

-- what is set twice is set once
pub set_twice : {X : Type 0} (xs : List X) (i : ℕ) (x y : X) → slice_set (slice_set xs i x) i y ≡ slice_set xs i y
set_twice [] i x y = refl
set_twice (z ∷ xs) zero x y = refl
set_twice (z ∷ xs) (suc i) x y = ap (λ t. z ∷ t) (set_twice xs i x y)

pub as_long : {X : Type 0} (xs : List X) (i : ℕ) (x : X) → length (slice_set xs i x) ≡ length xs
as_long [] i x = refl
as_long (z ∷ xs) zero x = refl
as_long (z ∷ xs) (suc i) x = ap suc (as_long xs i x)

-- a worker with room has a seat
pub room_seat : (ready : ℕ) (s : Option Seat) → HasRoomFor ready s → (seat : Seat) × (s ≡ Some seat)
room_seat ready None room = absurd room
room_seat ready (Some seat) room = (seat, refl)

-- the seat that is found at a place is the one that it says
pub one_seat : (seats : List (Option Seat)) (w : ℕ) (a b : Seat) → slice_get seats w ≡ Some (Some a) → slice_get seats w ≡ Some (Some b) → a ≡ b
one_seat seats w a b is also = same_Some a b (same_Some (Some a) (Some b) (sym is ∙ also))

-- a deque that stays with its worker
pub deque_stays : (seats : List (Option Seat)) (w v : ℕ) (old new : Seat) → slice_get seats w ≡ Some (Some old) → new.deque ≡ old.deque
    → deque_of (seat_in (slice_get (slice_set seats w (Some new)) v)) ≡ deque_of (seat_in (slice_get seats v))
deque_stays seats w v old new is same = elim (cases_eq v w) [
  | inl here ↦ ap (λ n. deque_of (seat_in (slice_get (slice_set seats w (Some new)) n))) here
      ∙ ap deque_of (seat_set seats w (Some old) (Some new) is) ∙ ap Some same
      ∙ ap (λ o. deque_of (seat_in o)) (sym is) ∙ ap (λ n. deque_of (seat_in (slice_get seats n))) (sym here)
  | inr other ↦ ap deque_of (seat_elsewhere seats w v (Some new) other)
]

-- a period that shows the same
pub shown_stays : (seats : List (Option Seat)) (w v : ℕ) (old new : Seat) → slice_get seats w ≡ Some (Some old) → ((n : ℕ) → open_shown n new.period ≡ open_shown n old.period)
    → shown_of v (seat_in (slice_get (slice_set seats w (Some new)) v)) ≡ shown_of v (seat_in (slice_get seats v))
shown_stays seats w v old new is same = elim (cases_eq v w) [
  | inl here ↦ ap (λ n. shown_of v (seat_in (slice_get (slice_set seats w (Some new)) n))) here
      ∙ ap (shown_of v) (seat_set seats w (Some old) (Some new) is) ∙ ap Some (same v)
      ∙ ap (λ o. shown_of v (seat_in o)) (sym is) ∙ ap (λ n. shown_of v (seat_in (slice_get seats n))) (sym here)
  | inr other ↦ ap (shown_of v) (seat_elsewhere seats w v (Some new) other)
]

-- seats of idle workers
abbrev pub AllNone : List (Option Seat) → Type 0
AllNone seats = (w : ℕ) → seat_in (slice_get seats w) ≡ None

pub one_idle_more : (seats : List (Option Seat)) → AllNone seats → AllNone (seats ++ None ∷ [])
one_idle_more [] all zero = refl
one_idle_more [] all (suc w) = refl
one_idle_more (s ∷ seats) all zero = all zero
one_idle_more (s ∷ seats) all (suc w) = one_idle_more seats (λ v. all (suc v)) w

pub none_open : (k : ℕ) (seats : List (Option Seat)) → AllNone seats → open_periods k seats ≡ []
none_open k [] all = refl
none_open k (s ∷ seats) all = ap (λ t. period_of_seat k t ++ open_periods (suc k) seats) (all zero) ∙ none_open (suc k) seats (λ w. all (suc w))

pub on_ok : {X E : Type 0} (r : Result X E) {A B : Type 0} → (A → B) → OnOk r A → OnOk r B
on_ok (Ok x) f here = f here
on_ok (Err e) f here = tt

pub both_ok : {X E : Type 0} (r : Result X E) {A B C : Type 0} → (A → B → C) → OnOk r A → OnOk r B → OnOk r C
both_ok (Ok x) f a b = f a b
both_ok (Err e) f a b = tt
