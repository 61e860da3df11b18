-- What the answers of a seat show of its choice.
use Rattle.std.proofs.Common.{◌≡◌, ℕ, zero, suc, ◌+◌, ◌%◌, ◌<◌, min, List, [], ◌∷◌, ◌++◌, map, length, inl, inr, refl, sym, ap, ◌∙◌, subst, arith}
use Rattle.std.proofs.lemmas.Bool.{cases_lt}
use Rattle.std.proofs.lemmas.List.{append_assoc, length-map}
use Rattle.std.proofs.lemmas.Option.{same_Some}
use Rattle.std.specs.Prelude.{Some, slice_get}
use mathlib.Core.List.{map-append}
use Rattle.deque_list.specs.declared.place.Place.{Place}
use Rattle.hall_slots.specs.Passed.Lists.{Among}
use Rattle.hall_slots.specs.Passed.Shown.{thread_shown}
use Rattle.turn_table.specs.declared.held.Held.{Held}
use Rattle.turn_table.specs.declared.look.Look.{Look}
use Rattle.turn_table.specs.declared.look.Look.TheVariants.{Refused}
use Rattle.turn_table.specs.Hands.{took}
use Rattle.hall_thief.specs.HallNames.{with_hand, LaneShown, of_lane, LaneSlot, ListSlot, Slot, lane_shown, HallSeat, IsRefused}
use Rattle.turn_table.specs.Backs.{kept, told_more}
use Rattle.play_rules.proofs.Turns.{has_turn}
use Rattle.hall_slots.specs.Passed.Writing.{lane_slot}
use Rattle.hall_slots.specs.Passed.Receipts as shown
use Rattle.hall_slots.specs.Passed.Receipts.{SawLane, ShowsUnready, ShowsVictim}
use Rattle.hall_slots.specs.declared.slot.Slot.TheVariants as slots
use Rattle.hall_thief.specs.Robbing.{ShowsNothing, TriesShowNothing}
use Rattle.hall_thief.specs.Choosing.{look_shown, IsToldMore, IsReadyBy, took_lane, HasTried, HasTriedAll, HasVictim, IsRefusedALane, PicksNext, Tried, reach_in, refused_look}

-- what was seen stays seen
among_more : {X : Type 0} (x : X) (xs ys : List X) → Among x xs → Among x (xs ++ ys)
among_more x [] ys there = absurd there
among_more x (z ∷ xs) ys there = elim there [ inl here ↦ inl here | inr later ↦ inr (among_more x xs ys later) ]

among_last : {X : Type 0} (x : X) (xs : List X) → Among x (xs ++ x ∷ [])
among_last x [] = inl refl
among_last x (z ∷ xs) = inr (among_last x xs)

-- a look at a lane shows it
saw_last : (looks : List (Look Slot)) (place : Place) (lane : LaneSlot) → SawLane (map look_shown (looks ++ took_lane place lane ∷ [])) place.id (lane_shown lane)
saw_last looks place lane =
    subst (λ (ls : List shown.Look). Among (shown.took (lane_slot place.id) (of_lane (lane_shown lane))) ls) (sym (map-append look_shown looks (took_lane place lane ∷ [])))
    (subst (λ n. Among (shown.took n (of_lane (lane_shown lane))) (map look_shown looks ++ shown.took (place.id.0 + 2) (of_lane (lane_shown lane)) ∷ [])) (two_more place.id.0)
    (among_last (shown.took (place.id.0 + 2) (of_lane (lane_shown lane))) (map look_shown looks)))
  where
    two_more : (n : ℕ) → n + 2 ≡ suc (suc n)
    two_more n = omega arith

unready_more : (looks more : List (Look Slot)) (p : Place) → ShowsUnready (map look_shown looks) p → ShowsUnready (map look_shown (looks ++ more)) p
unready_more looks more p shows = (
  shows.0,
  (
    shows.1.0,
    subst (λ (ls : List shown.Look). SawLane ls p.id shows.1.0) (sym (map-append look_shown looks more))
        (among_more (shown.took (lane_slot p.id) (of_lane shows.1.0)) (map look_shown looks) (map look_shown more) shows.1.1),
    shows.1.2,
  ),
)

as_many : (lane : LaneSlot) → length (LaneShown.threads (lane_shown lane)) ≡ length lane.lane.items
as_many lane = length-map lane.lane.items thread_shown

-- by these answers none of the places of the first turns has a thread to steal
abbrev pub NoneReady : (word reach turns : ℕ) → List (Look Slot) → List Place → Type 0
NoneReady word reach turns looks places =
    (e : ℕ) (p : Place) → e < turns → slice_get places ((word + e) % reach) ≡ Some p → ShowsUnready (map look_shown looks) p

next_is : (n : ℕ) → n + 1 ≡ suc n
next_is n = omega arith

module _ (word reach : ℕ) (places : List Place) where
  -- one turn more, at a place that has no thread to steal
  pub one_more : (turn at : ℕ) (place : Place) (lane : LaneSlot) (looks : List (Look Slot)) → at ≡ (word + turn) % reach → slice_get places at ≡ Some place → ¬ IsReadyBy place lane
      → NoneReady word reach turn looks places → NoneReady word reach (turn + 1) (looks ++ took_lane place lane ∷ []) places
  one_more turn at place lane looks is there unready none e p few its = elim (cases_lt e turn) [
    | inl before ↦ unready_more looks (took_lane place lane ∷ []) p (none e p before its)
    | inr last ↦
        let same : e ≡ turn = omega (arith, few, last) in
        let this : place ≡ p = same_Some place p (sym there ∙ ap (slice_get places) (is ∙ ap (λ t. (word + t) % reach) (sym same)) ∙ its) in
        let short : length (LaneShown.threads (lane_shown lane)) < 2 = (let many = as_many lane in elim (cases_lt (length lane.lane.items) 2) [ inl few ↦ omega (arith, many, few) | inr two ↦ absurd (unready (inr two)) ]) in
        subst (λ (q : Place). ShowsUnready (map look_shown (looks ++ took_lane place lane ∷ [])) q) this ((λ none. unready (inl none)), (lane_shown lane, saw_last looks place lane, short))
  ]

  -- what was tried has no thread to steal
  pub none_ready : (turns : ℕ) (looks : List (Look Slot)) → Tried word reach turns places looks → NoneReady word reach turns looks places
  none_ready zero looks tried = λ e p few its. absurd (omega (arith, few))
  none_ready (suc turn) looks tried = subst (λ (ls : List (Look Slot)). NoneReady word reach (suc turn) ls places) (sym tried.6)
      (subst (λ n. NoneReady word reach n (tried.0 ++ took_lane tried.2 tried.3 ∷ []) places) (next_is turn)
      (one_more turn ((word + turn) % reach) tried.2 tried.3 tried.0 refl tried.4 tried.5 (none_ready turn tried.0 tried.1)))

  -- one more is tried
  pub try_more : (turn at : ℕ) (place : Place) (lane : LaneSlot) (looks : List (Look Slot)) → at ≡ (word + turn) % reach → slice_get places at ≡ Some place → ¬ IsReadyBy place lane
      → Tried word reach turn places looks → Tried word reach (turn + 1) places (looks ++ took_lane place lane ∷ [])
  try_more turn at place lane looks is there unready tried = subst (λ n. Tried word reach n places (looks ++ took_lane place lane ∷ [])) (sym (next_is turn))
      (looks, tried, place, lane, ap (slice_get places) (sym is) ∙ there, unready, refl)

  -- after all turns nothing is to be stolen
  pub nothing : (workers : ℕ) (looks : List (Look Slot)) → reach ≡ min workers (length places) → NoneReady word reach reach looks places → ShowsNothing workers (map look_shown looks) places
  nothing workers looks is none place p below its = let turn = has_turn word reach place (omega (arith, is, below)) in
      none turn.0 p turn.1 (ap (slice_get places) turn.2 ∙ its)

  -- the first that has one is the victim
  pub victim_shown : (workers turn at : ℕ) (place : Place) (lane : LaneSlot) (looks : List (Look Slot)) → reach ≡ min workers (length places) → turn < reach → at ≡ (word + turn) % reach
      → slice_get places at ≡ Some place → IsReadyBy place lane → NoneReady word reach turn looks places → ShowsVictim workers word (map look_shown (looks ++ took_lane place lane ∷ [])) places at
  victim_shown workers turn at place lane looks is few here there ready none = record {
    turns = turn;
    few = subst (λ n. turn < n) is few;
    is = here ∙ ap (λ n. (word + turn) % n) is;
    ready = (
      place,
      there,
      elim ready [
        | inl unowned ↦ inl unowned
        | inr two ↦ let many = as_many lane in inr (lane_shown lane, saw_last looks place lane, omega (arith, two, many))
      ],
    );
    earlier = λ e p before its. unready_more looks (took_lane place lane ∷ []) p (none e p before (ap (λ n. slice_get places ((word + e) % n)) is ∙ its));
  }

-- ---- the seat

-- told twice is told once
pub told_twice : (before middle after : HallSeat) (first second : List (Look Slot)) → IsToldMore before first middle → IsToldMore middle second after → IsToldMore before (first ++ second) after
told_twice before middle after first second one two = two ∙ ap (λ (s : HallSeat). with_hand s (told_more s.hand second)) one
    ∙ ap (λ (ls : List (Look Slot)). with_hand before (record { seated = before.hand.seated; holds = before.hand.holds; note = before.hand.note; looks = ls })) (append_assoc before.hand.looks first second)

module _ (workers word : ℕ) (list : ListSlot) (more : List (Look Slot)) (reach turn at : ℕ) (place : Place) (is : reach ≡ reach_in workers list) (few : turn < reach)
    (here : at ≡ (word + turn) % reach) (there : slice_get list.part.order.places at ≡ Some place) (tried : Tried word reach turn list.part.order.places more) where
  -- the turn picks this place
  pub picks_next : PicksNext workers word list more at place
  picks_next = record {
    turn = turn;
    in_reach = subst (λ n. turn < n) is few;
    tried = subst (λ n. Tried word n turn list.part.order.places more) is tried;
    is = here ∙ ap (λ n. (word + turn) % n) is;
    there = there;
  }

  module _ (before middle after : HallSeat) (told : IsToldMore before more middle) where
    -- it took the lane of its victim
    pub victim_of : (lane : LaneSlot) → HasTried place middle (Some lane) after → HasVictim workers word list before at lane after
    victim_of lane tries = record {
      more = more;
      victim = place;
      picks = picks_next;
      is_ready = tries.1;
      after_is = tries.0 ∙ ap (λ (s : HallSeat). with_hand s (took kept s.hand (place.id.0 + 2) (slots.Lane lane))) told;
      shows = victim_shown word reach list.part.order.places workers turn at place lane more is few here there tries.1 (none_ready word reach list.part.order.places turn more tried);
    }

    -- it was refused that lane
    pub held_off : (held : Held) → IsRefused middle (place.id.0 + 2) held after → IsRefusedALane workers word list before held after
    held_off held refuses = (
      more,
      record { at = at; place = place; picks = picks_next; its_lane = refuses.0 },
      told_twice before middle after more (refused_look held ∷ []) told (refuses.1
          ∙ (λ k. with_hand middle (record { seated = middle.hand.seated; holds = middle.hand.holds; note = middle.hand.note; looks = middle.hand.looks ++ Refused (sym refuses.0 k) held.seen ∷ [] }))),
    )

-- all turns were tried
pub tried_all : (workers word : ℕ) (list : ListSlot) (looks : List (Look Slot)) (reach turn : ℕ) → reach ≡ reach_in workers list → turn ≡ reach → Tried word reach turn list.part.order.places looks
    → HasTriedAll workers word list looks
tried_all workers word list looks reach turn is all tried = subst (λ n. Tried word n n list.part.order.places looks) is (subst (λ n. Tried word reach n list.part.order.places looks) all tried)

-- then nothing is to be stolen
pub tries_show_nothing : TriesShowNothing
tries_show_nothing workers word list looks tried =
    nothing word (reach_in workers list) list.part.order.places workers looks refl (none_ready word (reach_in workers list) list.part.order.places (reach_in workers list) looks tried)
