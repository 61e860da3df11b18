-- An idle worker steals.
use Rattle.std.proofs.Common.{◌≡◌, ℕ, zero, suc, ◌<◌, Bool, nat_lt, List, [], ◌∷◌, ◌++◌, length, map, set, true, inl, inr, refl, sym, ap, subst, ◌∙◌, arith, append_assoc, true≢false}
use Rattle.std.specs.Prelude.{None, Some, slice_get, is_some}
use Rattle.std.proofs.lemmas.List.{map-append, length-map, length-append}
use Rattle.std.proofs.lemmas.Option.{same_Some}
use Rattle.depth_first_list.specs.Actions.{Action}
use Rattle.depth_first_list.specs.Facts.{label_at}
use Rattle.deque_machine.specs.Lists.{Each}
use Rattle.deque_machine.proofs.Lists.{each_left, each_right, one_same, one_other}
use Rattle.deque_list.specs.declared.deque_id.DequeId.{DequeId}
use Rattle.deque_list.specs.Ids.{IsLive, IsSmallestFree, deque_id}
use Rattle.deque_list.specs.Deques.{Deque, deque_ids}
use Rattle.deque_machine.specs.Moments as machine
use Rattle.deque_machine.specs.Moments.{Moment, deque_of, done_at, with_id, owned_by}
use Rattle.deque_machine.specs.Machine.{Setting, steals, IsIdle, new_book, stolen, May, steals_beside, takes_over}
use Rattle.deque_machine.specs.Play.{Limits, Stays, IsThiefsId}
use Rattle.deque_machine.specs.Runs.{Pair}
use Rattle.deque_machine.proofs.Kept.{kept}
use Rattle.trail_meaning.specs.declared.trail_kind.TrailKind.TheVariants.{Steal}
use Rattle.trail_check.specs.Following.{tells_steal}
use Rattle.trail_check.specs.declared.seat.Seat.{Seat}
use Rattle.trail_check.specs.declared.checker.Checker.{Checker}
use Rattle.trail_check.specs.Tallies.{HasBegun}
use Rattle.trail_check.specs.Holds.{deque_with, with_these}
use Rattle.trail_check.specs.Places.{deque_shown, places_in, IsNextHere, Sits}
use Rattle.trail_check.specs.Standing.{StandsFor}
use Rattle.trail_check.specs.Steps.{told_of, Came, CanSteal}
use Rattle.trail_check.proofs.CutLists.{get_middle}
use Rattle.trail_check.proofs.Mine.{sits_of}
use Rattle.trail_check.proofs.Nexts.{places_middle, all_same_next}
use Rattle.trail_check.proofs.Counting.{same_done_at, period_counted}
use Rattle.trail_check.proofs.Placing.{WaitsAre, placed, waits_stay}
use Rattle.trail_check.proofs.Going.{SameList, came}

-- no deque of the machine has an id that is free
pub id_is_free : (l : List Action) (ds : List (Deque ℕ)) (id : DequeId) → ¬ IsLive (deque_ids ds) id → with_id id.0 (map (deque_shown l) ds) ≡ 0
id_is_free l [] id free = refl
id_is_free l (d ∷ ds) id free =
    let here = one_other id.0 d.id.0 (λ same. free (0, λ i. Some (record { 0 = sym same i }))) in
    let rest = id_is_free l ds id (λ live. free (suc live.0, live.1)) in omega (arith, here, rest)

-- and one has an id that is not
pub id_is_had : (l : List Action) (ds : List (Deque ℕ)) (n rank : ℕ) → slice_get (deque_ids ds) rank ≡ Some (deque_id n) → 0 < with_id n (map (deque_shown l) ds)
id_is_had l [] n rank is = absurd (true≢false (sym (ap is_some is)))
id_is_had l (d ∷ ds) n zero is =
    let same : d.id.0 ≡ n = ap (λ t. t.0) (same_Some d.id (deque_id n) is) in
    let one = one_same n d.id.0 (sym same) in omega (arith, one)
id_is_had l (d ∷ ds) n (suc rank) is = let rest = id_is_had l ds n rank is in omega (arith, rest)

module _ (s : Setting) (limits : Limits) (run : List Pair) (m : Moment) (c : Checker) (stands : StandsFor s limits run m c) (worker place : ℕ) (victim : DequeId)
    (can : CanSteal s m c worker place victim) where
  abbrev left : List machine.Deque
  left = map (deque_shown s.list) (can.holds).left

  abbrev right : List machine.Deque
  right = map (deque_shown s.list) (can.holds).right

  pub deques_are : m.deques ≡ left ++ deque_of victim.0 can.owner (map (label_at s.list) can.items) ∷ right
  deques_are = (stands.places).deques_are ∙ ap (map (deque_shown s.list)) (can.holds).deques_are
      ∙ map-append (deque_shown s.list) (can.holds).left (deque_with victim can.owner can.items ∷ (can.holds).right)

  left_size : length left ≡ place
  left_size = length-map (can.holds).left (deque_shown s.list) ∙ can.at

  idle : IsIdle s m worker
  idle = record { is_worker = can.is_worker; owns_none = can.idle }

  near : length left < s.workers
  near = subst (λ n. n < s.workers) (sym left_size) can.near

  there : slice_get m.deques place ≡ Some (deque_of victim.0 can.owner (map (label_at s.list) can.items))
  there = subst (λ n. slice_get m.deques n ≡ Some (deque_of victim.0 can.owner (map (label_at s.list) can.items))) left_size
      (ap (λ t. slice_get t (length left)) deques_are ∙ get_middle left (deque_of victim.0 can.owner (map (label_at s.list) can.items)) right)

  cut_places : Each (IsNextHere s.list (done_at m)) (places_in (can.holds).left ++ (can.items ++ places_in (can.holds).right))
  cut_places = subst (λ t. Each (IsNextHere s.list (done_at m)) t)
      (ap places_in (can.holds).deques_are ∙ places_middle (can.holds).left (can.holds).right (deque_with victim can.owner can.items)) (stands.places).next

  seated : worker < length c.seats.items
  seated = let size = (stands.places).seats_size in let is = can.is_worker in omega (arith, size, is)

  -- the steal came, in which these took the place of the victim's deque, and a new period began
  module _ (id : ℕ) (ahead : Bool) (these : List (Deque ℕ)) (same_items : (P : ℕ → Type 0) → Each P can.items → Each P (places_in these))
      (may : May s m worker (steals place id) (stolen m worker ahead (left ++ (map (deque_shown s.list) these ++ right)))) (named : IsThiefsId m place id) where
    abbrev after : Moment
    after = stolen m worker ahead (left ++ (map (deque_shown s.list) these ++ right))

    unchanged : (i : ℕ) → done_at after i ≡ done_at m i
    unchanged i = same_done_at s (stands.knows).some (stands.knows).depth_first run m stands.reaches c.tally c.tally stands.tally worker after (steals place id) may refl i

    pub stole : (d : Checker) → SameList c d → HasBegun ahead c.tally d.tally → d.deques.deques ≡ with_these can.holds these
        → (seat : Seat) → d.seats.items ≡ set c.seats.items worker (Some seat) → Sits s after worker seat → d.waits.items ≡ c.waits.items
        → Came s limits run m (told_of worker (Steal place)) true d
    stole d same begun deques seat seats mine waits =
        came s limits run m c d stands worker (Steal place) (steals place id) after (tells_steal place id named) may same
        (placed s m after worker (steals place id) may c.deques.deques c.seats.items c.waits.items stands.places (can.holds).left these (can.holds).right d.deques.deques deques refl
        (all_same_next s.list (done_at m) (done_at after) unchanged (places_in (can.holds).left)
        (each_left (IsNextHere s.list (done_at m)) (places_in (can.holds).left) (can.items ++ places_in (can.holds).right) cut_places))
        (same_items (IsNextHere s.list (done_at after)) (all_same_next s.list (done_at m) (done_at after) unchanged can.items
        (each_left (IsNextHere s.list (done_at m)) can.items (places_in (can.holds).right)
        (each_right (IsNextHere s.list (done_at m)) (places_in (can.holds).left) (can.items ++ places_in (can.holds).right) cut_places))))
        (all_same_next s.list (done_at m) (done_at after) unchanged (places_in (can.holds).right)
        (each_right (IsNextHere s.list (done_at m)) can.items (places_in (can.holds).right)
        (each_right (IsNextHere s.list (done_at m)) (places_in (can.holds).left) (can.items ++ places_in (can.holds).right) cut_places)))
        seated (Some seat) d.seats.items seats mine d.waits.items
        (subst (WaitsAre s.list m.waiting) (sym waits) (waits_stay s m c.deques.deques c.seats.items c.waits.items stands.places)))
        (period_counted s (stands.knows).some (stands.knows).depth_first run m stands.reaches c.tally d.tally stands.tally worker after (steals place id) may refl ahead refl begun)

  -- from a deque that keeps another thread
  module _ (first : ℕ) (others : List ℕ) (bottom : ℕ) (items_are : can.items ≡ first ∷ (others ++ bottom ∷ [])) (id : DequeId) (free : IsSmallestFree (deque_ids c.deques.deques) id) where
    abbrev beside : List (Deque ℕ)
    beside = deque_with victim can.owner (first ∷ others) ∷ deque_with id (Some worker) (bottom ∷ []) ∷ []

    threads_are : map (label_at s.list) can.items ≡ label_at s.list first ∷ (map (label_at s.list) others ++ label_at s.list bottom ∷ [])
    threads_are = ap (map (label_at s.list)) items_are ∙ ap (λ t. label_at s.list first ∷ t) (map-append (label_at s.list) others (bottom ∷ []))

    new_id : with_id id.0 m.deques ≡ 0
    new_id = ap (with_id id.0) (stands.places).deques_are ∙ id_is_free s.list c.deques.deques id free.0

    named_beside : IsThiefsId m place id.0
    named_beside = (
      deque_of victim.0 can.owner (map (label_at s.list) can.items),
      there,
      inr (
        inr (let size : length (map (label_at s.list) can.items) ≡ length can.items = length-map can.items (label_at s.list) in
            let long : length can.items ≡ suc (length (others ++ bottom ∷ [])) = ap length items_are in let more = length-append others (bottom ∷ []) in omega (arith, size, long, more)),
        new_id,
        λ i below. let live = free.1 i below in
            subst (λ t. 0 < with_id i t) (sym (stands.places).deques_are) (id_is_had s.list c.deques.deques i live.0 live.1),
      ),
    )

    may_beside : May s m worker (steals place id.0) (stolen m worker true (left ++ (map (deque_shown s.list) beside ++ right)))
    may_beside = subst (λ n. May s m worker (steals n id.0) (stolen m worker true (left ++ (map (deque_shown s.list) beside ++ right)))) left_size
        (steals_beside left right (deque_of victim.0 can.owner (map (label_at s.list) can.items)) (label_at s.list first) (map (label_at s.list) others) (label_at s.list bottom) id.0
        idle near deques_are threads_are new_id)

    pub beside_came : (d : Checker) → SameList c d → HasBegun true c.tally d.tally → d.deques.deques ≡ with_these can.holds beside
        → d.seats.items ≡ set c.seats.items worker (Some (record { deque = id; used = 0 })) → d.waits.items ≡ c.waits.items
        → Came s limits run m (told_of worker (Steal place)) true d
    beside_came d same begun deques seats waits =
        let after : Moment = stolen m worker true (left ++ (map (deque_shown s.list) beside ++ right)) in
        let seat : Seat = record { deque = id; used = 0 } in
        stole id.0 true beside (λ P each. subst (λ t. Each P t) items_are each) may_beside named_beside d same begun deques seat seats
        (sits_of s after worker (kept s (stands.knows).depth_first m stands.lawful worker (steals place id.0) after may_beside) (record {
          left = left ++ deque_of victim.0 can.owner (map (label_at s.list) (first ∷ others)) ∷ [];
          id = id.0;
          top = label_at s.list bottom;
          under = [];
          right = right;
          older = m.books;
          book = new_book worker true;
          newer = [];
          deques_are = sym (append_assoc left (deque_of victim.0 can.owner (map (label_at s.list) (first ∷ others)) ∷ []) (deque_of id.0 (Some worker) (label_at s.list bottom ∷ []) ∷ right));
          books_are = refl;
          open_for_it = refl;
        }) seat refl refl) waits

  -- a deque of one thread without an owner
  module _ (thread : ℕ) (items_are : can.items ≡ thread ∷ []) (unowned : can.owner ≡ None) where
    abbrev over : List (Deque ℕ)
    over = deque_with victim (Some worker) (thread ∷ []) ∷ []

    is_free : deque_of victim.0 can.owner (map (label_at s.list) can.items) ≡ deque_of victim.0 None (label_at s.list thread ∷ [])
    is_free = λ i. deque_of victim.0 (unowned i) (map (label_at s.list) (items_are i))

    not_stays : ¬ Stays (deque_of victim.0 can.owner (map (label_at s.list) can.items))
    not_stays stays = elim (subst Stays is_free stays) [ inl owned ↦ owned refl | inr two ↦ absurd (omega (arith, two)) ]

    named_over : IsThiefsId m place victim.0
    named_over = (deque_of victim.0 can.owner (map (label_at s.list) can.items), there, inl (not_stays, refl))

    may_over : May s m worker (steals place victim.0) (stolen m worker (nat_lt 0 place) (left ++ (map (deque_shown s.list) over ++ right)))
    may_over = subst (λ n. May s m worker (steals n victim.0) (stolen m worker (nat_lt 0 n) (left ++ (map (deque_shown s.list) over ++ right)))) left_size
        (takes_over left right (label_at s.list thread) victim.0 idle near (deques_are ∙ ap (λ t. left ++ t ∷ right) is_free))

    pub over_came : (d : Checker) → SameList c d → HasBegun (nat_lt 0 place) c.tally d.tally → d.deques.deques ≡ with_these can.holds over
        → d.seats.items ≡ set c.seats.items worker (Some (record { deque = victim; used = 0 })) → d.waits.items ≡ c.waits.items
        → Came s limits run m (told_of worker (Steal place)) true d
    over_came d same begun deques seats waits =
        let after : Moment = stolen m worker (nat_lt 0 place) (left ++ (map (deque_shown s.list) over ++ right)) in
        let seat : Seat = record { deque = victim; used = 0 } in
        stole victim.0 (nat_lt 0 place) over (λ P each. subst (λ t. Each P t) items_are each) may_over named_over d same begun deques seat seats
        (sits_of s after worker (kept s (stands.knows).depth_first m stands.lawful worker (steals place victim.0) after may_over) (record {
          left = left;
          id = victim.0;
          top = label_at s.list thread;
          under = [];
          right = right;
          older = m.books;
          book = new_book worker (nat_lt 0 place);
          newer = [];
          deques_are = refl;
          books_are = refl;
          open_for_it = refl;
        }) seat refl refl) waits
