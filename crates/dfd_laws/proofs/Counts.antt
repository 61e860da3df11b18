-- What a play that has finished did, and how many words were in use.
use Rattle.std.proofs.Common.{◌≡◌, ℕ, zero, suc, ◌≤◌, ◌<◌, List, [], ◌∷◌, ◌++◌, length, inl, inr, sym, ap, subst, arith, length-append, append_assoc, append-nil, ℤ, pos, ◌≤ℤ◌}
use Rattle.std.specs.Int.{int_max}
use Rattle.std.proofs.lemmas.Int.{ints, clamps}
use Rattle.depth_first_list.specs.Runs.{IsDepthFirst}
use Rattle.deque_machine.specs.Books.{booked}
use Rattle.deque_machine.specs.Lists.{Among}
use Rattle.deque_machine.proofs.Lists.{among_middle, among_times}
use Rattle.deque_machine.specs.Machine.{Setting, HasEnded}
use Rattle.deque_machine.specs.Moments.{Moment, opening, done_at, live_at}
use Rattle.deque_machine.specs.Play.{Limits}
use Rattle.deque_machine.specs.Runs.{Pair, Reaches, high_water_mark}
use Rattle.deque_machine.proofs.Reached.{ended_did_all}
use Rattle.trail_check.specs.Following.{IsWithin, Follows, pair_of, stays, goes_on}
use Rattle.trail_meaning.specs.declared.trail_event.TrailEvent.{TrailEvent}
use Rattle.trail_check.proofs.Counting.{high_more, reaches_more}

-- a list cut where a number stands
cut : (x : ℕ) (xs : List ℕ) → Among x xs → (left : List ℕ) × (right : List ℕ) × (xs ≡ left ++ x ∷ right)
cut x [] there = absurd there
cut x (y ∷ ys) (inl same) = ([], ys, ap (λ z. z ∷ ys) (sym same))
cut x (y ∷ ys) (inr later) = let c = cut x ys later in (y ∷ c.0, c.1, ap (λ t. y ∷ t) c.2)

-- a list in which each of the first n numbers stands has at least n elements
pub all_stand : (n : ℕ) (xs : List ℕ) → ((i : ℕ) → i < n → Among i xs) → n ≤ length xs
all_stand zero xs all = omega arith
all_stand (suc n) xs all =
    let c = cut n xs (all n (omega arith)) in
    let fewer = all_stand n (c.0 ++ c.1) (λ i below. elim (among_middle i c.0 n c.1 (subst (Among i) c.2 (all i (omega (arith, below))))) [
      | inl same ↦ absurd (omega (arith, same, below))
      | inr there ↦ there
    ]) in
    let size = ap length c.2 in let whole = length-append c.0 (n ∷ c.1) in let rest = length-append c.0 c.1 in
    omega (arith, fewer, size, whole, rest)

-- a run in which the root has ended has done as many actions as the list has
pub all_done : (s : Setting) → 0 < s.quota → IsDepthFirst s.quota s.list → (run : List Pair) (m : Moment) → Reaches s opening run m → HasEnded s m []
    → length s.list ≤ length (booked m.books)
all_done s some list run m reaches ended = all_stand (length s.list) (booked m.books) (λ i inside.
    let once : done_at m i ≡ 1 = ended_did_all s some list run m reaches ended i inside in among_times i (booked m.books) (omega (arith, once)))

-- the last moment of events that lead on is within the limits
pub last_within : (s : Setting) (limits : Limits) (m : Moment) (events : List TrailEvent) (run : List Pair) (last : Moment) → IsWithin s limits m
    → Follows s limits m events run last → IsWithin s limits last
last_within s limits m events run last within (stays m') = within
last_within s limits m events run last within (goes_on m' next last' told event later run' leads rest) =
    last_within s limits next later run' last leads.within rest

-- and the high-water mark of their run fits the arena
pub high_fits : (s : Setting) → 0 < s.quota → IsDepthFirst s.quota s.list → (limits : Limits) (front : List Pair) (m : Moment) (events : List TrailEvent) (run : List Pair)
    (last : Moment) → Reaches s opening front m → high_water_mark s.list front ≤ℤ pos limits.capacity → Follows s limits m events run last
    → high_water_mark s.list (front ++ run) ≤ℤ pos limits.capacity
high_fits s some list limits front m events run last reaches few (stays m') = subst (λ r. high_water_mark s.list r ≤ℤ pos limits.capacity) (sym (append-nil front)) few
high_fits s some list limits front m events run last reaches few (goes_on m' next last' told event later run' leads rest) =
    subst (λ r. high_water_mark s.list r ≤ℤ pos limits.capacity) (append_assoc front (pair_of told.worker event ∷ []) run')
    (high_fits s some list limits (front ++ pair_of told.worker event ∷ []) next later run' last
    (reaches_more s front (pair_of told.worker event) opening m next reaches leads.may)
    (subst (λ z. z ≤ℤ pos limits.capacity) (sym (high_more s some list front m reaches told.worker event next leads.may))
    (both (high_water_mark s.list front) (live_at s.list next) (pos limits.capacity) few leads.within.words)) rest)
  where
    both : (x y c : ℤ) → x ≤ℤ c → y ≤ℤ c → int_max x y ≤ℤ c
    both x y c a b = omega (arith, ints, clamps)
