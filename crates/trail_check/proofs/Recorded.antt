-- The events of a play that finishes are good.
use Rattle.std.proofs.Common.{◌≡◌, ℕ, suc, ◌+◌, ◌≤◌, ◌<◌, List, [], ◌∷◌, ◌++◌, length, map, inl, inr, refl, sym, ap, subst, ◌∙◌, arith, length-append, ℤ, pos, ◌+ℤ◌, ◌≤ℤ◌}
use Rattle.std.specs.Prelude.{Some, slice_get}
use Rattle.std.proofs.lemmas.Bool.{cases_lt}
use Rattle.std.proofs.lemmas.Int.{ints, by_lt_z}
use Rattle.depth_first_list.specs.Actions.{Deed, forks, joins, allocates, releases, dummy, faults, ends, live_words, weight_of}
use Rattle.depth_first_list.specs.Runs.{IsDepthFirst}
use Rattle.depth_first_list.specs.Facts.{action_at, deed_at, words_at, weight_at}
use Rattle.deque_machine.specs.Books.{booked}
use Rattle.deque_machine.proofs.Whole.{total_ones}
use Rattle.deque_machine.specs.Moments.{Deque, Moment, opening, live_at}
use Rattle.deque_machine.specs.Machine.{Setting, Event, steals, does, suspends, gives_up, Owns, HasEnded, May, steals_beside, takes_over, forks_child, joins_child, allocates_within, allocates_above, releases_words, meets_fault, runs_dummy, ends_above_parent, ends_and_wakes, ends_and_leaves, suspends_top, gives_deque_up}
use Rattle.deque_machine.specs.Runs.{Pair, place_of}
use Rattle.deque_machine.specs.Play.{words_taken, taken_by, Limits, Stop, arena_full, steps_spent, deques_full, Ending, finished, Stays, Wants, a_theft, a_give_up, a_wait, an_action, Fills, Meets, no_deque, no_words, no_steps, words_drawn, Plays, is_over, is_stopped, goes_on}
use Rattle.deque_machine.proofs.Reached.{event_writes}
use Rattle.trail_check.specs.Following as trail
use Rattle.trail_check.specs.Following.{Tells, tells_steal, tells_action, tells_wait, tells_give_up, IsWithin, Leads, Follows}
use Rattle.trail_check.specs.Told.{kind_told, event_in_trail, events_in_trail}
use Rattle.trail_check.specs.GoodLaws.{PlaysAreFollowed}
use Rattle.trail_check.proofs.Adding.{adds_to_books}

-- what the rules want of a worker is what its kind says
wanted_is_told : (s : Setting) (m : Moment) (worker word : ℕ) (event : Event) → Wants s m worker word event → Tells m (kind_told event) event
wanted_is_told s m worker word event (a_theft place id idle first named) = tells_steal place id named
wanted_is_told s m worker word event (a_give_up forced) = tells_give_up
wanted_is_told s m worker word event (a_wait o place child at none) = tells_wait
wanted_is_told s m worker word event (an_action o place next has fits) = tells_action place

no_words_lift : (n : ℕ) → n ≡ 0 → pos n ≤ℤ pos 0
no_words_lift n none = omega (arith, ints)

no_more : (x c : ℤ) → x ≤ℤ c → (x +ℤ pos 0) ≤ℤ c
no_more x c few = omega (arith, ints)

-- an action that takes no words does not raise the words in use
lifts : (deed : Deed) (words : ℕ) → taken_by deed words ≡ 0 → weight_of deed words ≤ℤ pos 0
lifts (forks child) words none = no_words_lift words none
lifts (joins child) words none = omega (arith, ints)
lifts allocates words none = no_words_lift words none
lifts releases words none = omega (arith, ints)
lifts dummy words none = omega (arith, ints)
lifts faults words none = omega (arith, ints)
lifts ends words none = omega (arith, ints)

-- and one that takes words raises them by so many
weighs : (deed : Deed) (words : ℕ) → 0 < taken_by deed words → weight_of deed words ≡ pos words
weighs (forks child) words some = refl
weighs (joins child) words some = absurd (omega arith)
weighs allocates words some = refl
weighs releases words some = absurd (omega arith)
weighs dummy words some = absurd (omega arith)
weighs faults words some = absurd (omega arith)
weighs ends words some = absurd (omega arith)

-- an action is one more in the books, and any other event adds none
adds_actions : (s : Setting) (m : Moment) (worker : ℕ) (event : Event) (after : Moment) → May s m worker event after
    → length (booked after.books) ≡ length (booked m.books) + length (place_of event)
adds_actions s m worker event after may =
    let sum = adds_to_books s (λ i. 1) m worker event after may in
    let a = total_ones (booked after.books) in let b = total_ones (booked m.books) in let c = total_ones (place_of event) in omega (arith, sum, a, b, c)

-- what an event may do to the number of the deques: a steal from a deque that stays makes one more, and any other event none
MayAdd : Limits → Moment → Event → Type 0
MayAdd limits m (steals place id) = (d : Deque) → slice_get m.deques place ≡ Some d → Stays d → length m.deques < limits.deques
MayAdd limits m (does place) = Unit {0}
MayAdd limits m suspends = Unit {0}
MayAdd limits m gives_up = Unit {0}

-- the deque in the middle of a list
get_middle : (left : List Deque) (d : Deque) (right : List Deque) → slice_get (left ++ d ∷ right) (length left) ≡ Some d
get_middle [] d right = refl
get_middle (e ∷ left) d right = get_middle left d right

module _ (s : Setting) (limits : Limits) (m : Moment) (worker : ℕ) where
  -- the deques on both sides of the worker's
  cut : (o : Owns m worker) → length m.deques ≡ length o.left + suc (length o.right)
  cut o = ap length o.deques_are ∙ length-append o.left _

  -- so there are not too many deques after it
  deques_fit : (event : Event) (after : Moment) → May s m worker event after → MayAdd limits m event → length m.deques ≤ limits.deques → length after.deques ≤ limits.deques
  unfolding MayAdd
  deques_fit event after (steals_beside left right victim first others bottom id idle reach deques_are threads_are new_id) room few =
      let many : 2 ≤ length victim.threads =
      let a : length victim.threads ≡ suc (length (others ++ bottom ∷ [])) = ap length threads_are in let b = length-append others (bottom ∷ []) in omega (arith, a, b) in
      let there : slice_get m.deques (length left) ≡ Some victim = ap (λ t. slice_get t (length left)) deques_are ∙ get_middle left victim right in
      let below = room victim there (inr many) in
      let was : length m.deques ≡ length left + suc (length right) = ap length deques_are ∙ length-append left (victim ∷ right) in
      let now : length after.deques ≡ length left + suc (suc (length right)) = length-append left (_ ∷ _ ∷ right) in omega (arith, below, was, now)
  deques_fit event after (takes_over left right thread id idle reach deques_are) room few =
      let was : length m.deques ≡ length left + suc (length right) = ap length deques_are ∙ length-append left (_ ∷ right) in
      let now : length after.deques ≡ length left + suc (length right) = length-append left (_ ∷ right) in omega (arith, was, now, few)
  deques_fit event after (forks_child o place child at fits) room few =
      let was = cut o in let now : length after.deques ≡ length o.left + suc (length o.right) = length-append o.left (_ ∷ o.right) in omega (arith, was, now, few)
  deques_fit event after (joins_child o place child at has) room few = few
  deques_fit event after (allocates_within o place at small fits) room few = few
  deques_fit event after (allocates_above o place at large) room few = few
  deques_fit event after (releases_words o place at) room few = few
  deques_fit event after (meets_fault o place at) room few = few
  deques_fit event after (runs_dummy o place at) room few =
      let was = cut o in let now : length after.deques ≡ length o.left + suc (length o.right) = length-append o.left (_ ∷ o.right) in omega (arith, was, now, few)
  deques_fit event after (ends_above_parent o place child parent below at under_is top_is) room few =
      let was = cut o in let now : length after.deques ≡ length o.left + suc (length o.right) = length-append o.left (_ ∷ o.right) in omega (arith, was, now, few)
  deques_fit event after (ends_and_wakes o place before later parent at under_is waiting_is top_is) room few =
      let was = cut o in let now : length after.deques ≡ length o.left + suc (length o.right) = length-append o.left (_ ∷ o.right) in omega (arith, was, now, few)
  deques_fit event after (ends_and_leaves o place at under_is unwaited) room few =
      let was = cut o in let now : length after.deques ≡ length o.left + length o.right = length-append o.left o.right in omega (arith, was, now, few)
  deques_fit event after (suspends_top o place child at not_ended under_is) room few =
      let was = cut o in let now : length after.deques ≡ length o.left + length o.right = length-append o.left o.right in omega (arith, was, now, few)
  deques_fit event after (gives_deque_up o) room few =
      let was = cut o in let now : length after.deques ≡ length o.left + suc (length o.right) = length-append o.left (_ ∷ o.right) in omega (arith, was, now, few)

module _ (s : Setting) (limits : Limits) (m : Moment) where
  -- an event that meets no stop keeps to each limit
  adds_no_stop : (event : Event) → ((stop : Stop) → ¬ Meets s limits m event stop) → MayAdd limits m event
  unfolding MayAdd
  adds_no_stop (steals place id) none = λ d there stays. elim (cases_lt (length m.deques) limits.deques) [
    | inl room ↦ room
    | inr many ↦ absurd (none (deques_full limits.deques) (no_deque place id d there stays many))
  ]
  adds_no_stop (does place) none = tt
  adds_no_stop suspends none = tt
  adds_no_stop gives_up none = tt

  not_full : (place : ℕ) → ((stop : Stop) → ¬ Meets s limits m (does place) stop) → ¬ Fills s limits m place
  not_full place none fills = none (arena_full (live_at s.list m) (words_at s.list place)) (no_words place fills)

  words_fit : (event : Event) → ((stop : Stop) → ¬ Meets s limits m event stop) → live_at s.list m ≤ℤ pos limits.capacity
      → (live_at s.list m +ℤ live_words (map (action_at s.list) (place_of event))) ≤ℤ pos limits.capacity
  words_fit (steals place id) none few = no_more (live_at s.list m) (pos limits.capacity) few
  words_fit suspends none few = no_more (live_at s.list m) (pos limits.capacity) few
  words_fit gives_up none few = no_more (live_at s.list m) (pos limits.capacity) few
  words_fit (does place) none few = elim (cases_lt 0 (words_taken (action_at s.list place))) [
    | inr low ↦ falls (live_at s.list m) (weight_at s.list place) (pos limits.capacity) few
        (lifts (deed_at s.list place) (words_at s.list place) (let is : words_taken (action_at s.list place) ≡ 0 = omega (arith, low) in is))
    | inl some ↦ by_lt_z (pos limits.capacity) (live_at s.list m +ℤ pos (words_at s.list place))
        (λ full. absurd (not_full place none (some, full)))
        (λ room. rises (live_at s.list m) (weight_at s.list place) (pos limits.capacity) (words_at s.list place) (weighs (deed_at s.list place) (words_at s.list place) some) room)
  ]
    where
      falls : (x w c : ℤ) → x ≤ℤ c → w ≤ℤ pos 0 → (x +ℤ (w +ℤ pos 0)) ≤ℤ c
      falls x w c few down = omega (arith, ints)

      rises : (x w c : ℤ) (n : ℕ) → w ≡ pos n → (x +ℤ pos n) ≤ℤ c → (x +ℤ (w +ℤ pos 0)) ≤ℤ c
      rises x w c n is room = omega (arith, ints)

  actions_fit : (event : Event) → ((stop : Stop) → ¬ Meets s limits m event stop) → length (booked m.books) ≤ limits.actions
      → length (booked m.books) + length (place_of event) ≤ limits.actions
  actions_fit (steals place id) none few = omega (arith, few)
  actions_fit suspends none few = omega (arith, few)
  actions_fit gives_up none few = omega (arith, few)
  actions_fit (does place) none few = elim (cases_lt (length (booked m.books)) limits.actions) [
    | inl room ↦ omega (arith, room)
    | inr many ↦ absurd (none (steps_spent limits.actions) (no_steps place (not_full place none) many))
  ]

  -- an event that meets no stop leads to a moment within the limits
  stays_within : (worker : ℕ) (event : Event) (after : Moment) → May s m worker event after → ((stop : Stop) → ¬ Meets s limits m event stop)
      → IsWithin s limits m → IsWithin s limits after
  stays_within worker event after may none within = record {
    words = subst (λ x. x ≤ℤ pos limits.capacity) (sym (event_writes s m worker event after may).live) (words_fit event none within.words);
    actions = let more = adds_actions s m worker event after may in let fit = actions_fit event none within.actions in omega (arith, more, fit);
    deques = deques_fit s limits m worker event after may (adds_no_stop event none) within.deques;
  }

module _ (s : Setting) (limits : Limits) (words : ℕ → ℕ) where
  followed : (n : ℕ) (m : Moment) (run : List Pair) (last : Moment) (ending : Ending) → IsWithin s limits m → Plays s limits words n m run last ending
      → Follows s limits m (events_in_trail run) run last
  followed n m run last ending within (is_over n' m' has) = trail.stays m
  followed n m run last ending within (is_stopped n' m' pair stop turn meets) = trail.stays m
  followed n m run last ending within (goes_on n' m' next last' pair later ending' turn none may rest) =
      let there = stays_within s limits m pair.worker pair.event next may none within in
      trail.goes_on m next last (event_in_trail pair) pair.event (events_in_trail later) later
      (record { tells = wanted_is_told s m pair.worker (words (suc n)) pair.event turn.wants; may = may; within = there })
      (followed (n + words_drawn m pair.worker) next later last ending there rest)

-- a play that is finished has the End of the root
root_ended : (s : Setting) (limits : Limits) (words : ℕ → ℕ) (n : ℕ) (m : Moment) (run : List Pair) (last : Moment) → Plays s limits words n m run last finished
    → HasEnded s last []
root_ended s limits words n m run last (is_over n' m' has) = has
root_ended s limits words n m run last (goes_on n' m' next last' pair later ending' turn none may rest) =
    root_ended s limits words (n + words_drawn m pair.worker) next later last rest

opening_within : (s : Setting) (limits : Limits) → 0 < limits.deques → IsWithin s limits opening
opening_within s limits room = record { words = none limits.capacity; actions = omega arith; deques = room }
  where
    none : (c : ℕ) → pos 0 ≤ℤ pos c
    none c = omega (arith, ints)

pub plays_are_followed : (s : Setting) → 0 < s.quota → IsDepthFirst s.quota s.list → PlaysAreFollowed s
plays_are_followed s some list limits words run last room plays = record {
  follows = followed s limits words 0 opening run last finished (opening_within s limits room) plays;
  ended = root_ended s limits words 0 opening run last plays;
}
