-- What the rules of play want of a worker that owns no deque, and what a list of deques tells of it.
use Rattle.std.proofs.Common.{◌≡◌, ◌≢◌, ℕ, ◌+◌, ◌≤◌, ◌<◌, ◌⊎◌, List, [], ◌∷◌, ◌++◌, length, map, inl, inr, refl, sym, ap, subst, ◌∙◌, arith}
use Rattle.std.specs.Prelude.{None, Some, slice_get}
use Rattle.std.specs.Option.{option_map}
use Rattle.std.proofs.lemmas.List.{length-map}
use Rattle.std.proofs.lemmas.Option.{slice_get-map, same_Some}
use Rattle.deque_list.specs.declared.deque_id.DequeId.{DequeId}
use Rattle.deque_list.specs.Deques as lists
use Rattle.open_periods.proofs.Passed.Lists.{total_middle, one_same}
use Rattle.open_periods.specs.Passed.Moments.{Moment, Deque, owned_by, one_if_owned}
use Rattle.open_periods.specs.Passed.Machine as machine
use Rattle.open_periods.specs.Passed.Machine.{Setting, Owns}
use Rattle.open_periods.specs.Passed.Play.{IsFirst, IsReady, IsThiefsId, Stays, Wants, reach, a_theft, a_give_up, a_wait, an_action, Limits, Stop, deques_full, Meets, no_deque, no_words, no_steps}
use Rattle.moment_shown.specs.Parts as parts
use Rattle.open_periods.proofs.Sorting.{get_middle}
use Rattle.thread_frames.specs.declared.thread.Thread.{Thread}
use Rattle.thread_frames.specs.Shown.{thread_shown}
use Rattle.list_changes.specs.Shown.{deque_shown, deque_with}
use Rattle.scheduler_state.proofs.Sitting.{IsTheft}
use Rattle.scheduler_state.specs.Passed.Readiness.{AreDeques}
use Rattle.scheduler_state.proofs.Passed.Ready.{ids_are_shown}
use Rattle.play_rules.specs.Choices.{IsReadyAt}
use Rattle.worker_step.specs.Thefts.{Theft, takes_bottom, takes_deque, StaysAt}
use Rattle.worker_step.proofs.Robbing.{keeps_two}

module _ (s : Setting) (m : Moment) (worker : ℕ) where
  -- who works on a deque owns one
  pub owner_owns : Owns m worker → 0 < owned_by worker m.deques
  owner_owns o =
      let cut : owned_by worker m.deques ≡ owned_by worker (o.left ++ record { id = o.id; owner = Some worker; threads = o.top ∷ o.under } ∷ o.right) = ap (owned_by worker) o.deques_are in
      let sum = total_middle (one_if_owned worker) o.left (record { id = o.id; owner = Some worker; threads = o.top ∷ o.under }) o.right in
      let one = one_same worker worker refl in
      omega (arith, cut, sum, one)

  -- so of who owns none a theft is wanted
  pub theft_of : (word : ℕ) (event : machine.Event) → owned_by worker m.deques ≡ 0 → Wants s m worker word event
      → (place id : ℕ) × (event ≡ machine.steals place id) × IsFirst (reach s m) word (IsReady m) place
  theft_of word event none (a_theft place id idle first named) = (place, id, refl, first)
  theft_of word event none (a_give_up forced) = absurd (let some = owner_owns forced.owner in omega (arith, none, some))
  theft_of word event none (a_wait o place child at not_ended) = absurd (let some = owner_owns o in omega (arith, none, some))
  theft_of word event none (an_action o place next has fits) = absurd (let some = owner_owns o in omega (arith, none, some))

place_robbed : machine.Event → ℕ
place_robbed (machine.steals place id) = place
place_robbed other = 0

-- the stop of a theft says that the deque would stay, and that no more are allowed
FullAt : (limits : Limits) (m : Moment) (place : ℕ) → Stop → Type 0
FullAt limits m place (deques_full deques) = (deque : Deque) × (slice_get m.deques place ≡ Some deque) × Stays deque × (limits.deques ≤ length m.deques)
FullAt limits m place other = Unit {0}

full_of_stop : (s : Setting) (limits : Limits) (m : Moment) (event : machine.Event) (stop : Stop) → Meets s limits m event stop → (place id : ℕ)
    → event ≡ machine.steals place id → FullAt limits m place stop
unfolding IsTheft place_robbed FullAt
full_of_stop s limits m event stop (no_deque p i deque there stays many) place id is =
    (deque, ap (slice_get m.deques) (sym (ap place_robbed is)) ∙ there, stays, many)
full_of_stop s limits m event stop (no_words p fills) place id is = absurd (subst IsTheft (sym is) tt)
full_of_stop s limits m event stop (no_steps p room many) place id is = absurd (subst IsTheft (sym is) tt)

pub full_at : (s : Setting) (limits : Limits) (m : Moment) (event : machine.Event) (deques : ℕ) → Meets s limits m event (deques_full deques) → (place id : ℕ)
    → event ≡ machine.steals place id → (deque : Deque) × (slice_get m.deques place ≡ Some deque) × Stays deque × (limits.deques ≤ length m.deques)
unfolding FullAt
full_at s limits m event deques meets place id is = full_of_stop s limits m event (deques_full deques) meets place id is

-- a deque of the moment, by that of the list
abbrev pub shown_as : lists.Deque Thread → Deque
shown_as d = parts.deque_shown (deque_shown thread_shown d)

as_many : (d : lists.Deque Thread) → length (shown_as d).threads ≡ length d.items
as_many d = length-map (map thread_shown d.items) parts.label_of ∙ length-map d.items thread_shown

module _ (deques : List (lists.Deque Thread)) (m : Moment) (are : AreDeques thread_shown deques m) where
  pub same_length : length m.deques ≡ length deques
  same_length = ap length are ∙ length-map (map (deque_shown thread_shown) deques) parts.deque_shown ∙ length-map deques (deque_shown thread_shown)

  pub shown_at : (place : ℕ) (d : lists.Deque Thread) → slice_get deques place ≡ Some d → slice_get m.deques place ≡ Some (shown_as d)
  shown_at place d is =
      ap (λ ds. slice_get ds place) are
      ∙ slice_get-map parts.deque_shown (map (deque_shown thread_shown) deques) place
      ∙ ap (option_map parts.deque_shown) (slice_get-map (deque_shown thread_shown) deques place ∙ ap (option_map (deque_shown thread_shown)) is)

  -- a deque with an owner or two threads stays
  pub shown_stays : (d : lists.Deque Thread) → (d.owner ≢ None) ⊎ (2 ≤ length d.items) → Stays (shown_as d)
  shown_stays d stays = elim stays [ inl owned ↦ inl owned | inr two ↦ inr (let same = as_many d in omega (arith, two, same)) ]

  -- and a ready deque that stays in the moment stays in the list
  pub stays_in_list : (place : ℕ) → IsReadyAt deques place → (d : Deque) → slice_get m.deques place ≡ Some d → Stays d → StaysAt deques place
  stays_in_list place ready d there stays =
      let same : d ≡ shown_as ready.0 = same_Some d (shown_as ready.0) (sym there ∙ shown_at place ready.0 ready.1) in
      (ready.0, ready.1, elim (subst Stays same stays) [ inl owned ↦ inl owned | inr two ↦ inr (let n = as_many ready.0 in omega (arith, two, n)) ])

  middle_is : (left right : List (lists.Deque Thread)) (d : lists.Deque Thread) → deques ≡ left ++ d ∷ right → slice_get m.deques (length left) ≡ Some (shown_as d)
  middle_is left right d is = shown_at (length left) d (ap (λ ds. slice_get ds (length left)) is ∙ get_middle left d right)

  goes_whole : (id : DequeId) (thread : Thread) → Stays (shown_as (deque_with id None (thread ∷ []))) → ⊥
  goes_whole id thread stays = elim stays [ inl owned ↦ owned refl | inr two ↦ absurd (omega (arith, two)) ]

  module _ (worker most : ℕ) (after : List (lists.Deque Thread)) where
    -- the thief gets the id that it would get in the machine
    pub id_of_thief : (place : ℕ) (id : DequeId) → Theft worker most deques after place id → IsThiefsId m place id.0
    id_of_thief place id (takes_bottom left right victim owner first others bottom new is becomes free few) =
        let d : lists.Deque Thread = deque_with victim owner (first ∷ (others ++ bottom ∷ [])) in
        let smallest = ids_are_shown thread_shown deques m new are free in
        (shown_as d, middle_is left right d is, inr (shown_stays d (inr (keeps_two first others bottom)), smallest.0, smallest.1))
    id_of_thief place id (takes_deque left right victim thread is becomes) =
        (shown_as (deque_with victim None (thread ∷ [])), middle_is left right (deque_with victim None (thread ∷ [])) is, inl (goes_whole victim thread, refl))

    -- and there is room for one more deque, where one more comes
    pub has_room : (place : ℕ) (id : DequeId) → Theft worker most deques after place id
        → (d : Deque) → slice_get m.deques place ≡ Some d → Stays d → most ≤ length m.deques → ⊥
    has_room place id (takes_bottom left right victim owner first others bottom new is becomes free few) d there stays full =
        let same = same_length in omega (arith, few, full, same)
    has_room place id (takes_deque left right victim thread is becomes) d there stays full =
        goes_whole victim thread (subst Stays (same_Some d (shown_as (deque_with victim None (thread ∷ [])))
        (sym there ∙ middle_is left right (deque_with victim None (thread ∷ [])) is)) stays)
