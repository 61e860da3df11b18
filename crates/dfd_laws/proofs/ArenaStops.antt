-- What is known of an event that meets the stop of an arena, in whichever machine it may come.
use Rattle.std.proofs.Common.{◌≡◌, ℕ, ◌<◌, ℤ, pos, arith, refl, sym, ap, subst, ◌∙◌}
use Rattle.std.specs.Prelude.{◌<ℤ◌, ◌+ℤ◌}
use Rattle.depth_first_list.specs.Actions.{Deed, forks, joins, allocates, releases, dummy, faults, ends, weight_of}
use Rattle.depth_first_list.specs.Facts.{deed_at, words_at, weight_at}
use Rattle.deque_machine.specs.Machine.{Setting, Event, steals, does, suspends, gives_up}
use Rattle.deque_machine.specs.Moments.{Moment, live_at}
use Rattle.deque_machine.specs.Play.{Limits, Stop, arena_full, steps_spent, deques_full, Meets, no_deque, no_words, no_steps, Fills, taken_by}

-- an action that takes words has them as its weight
taken_is_weight : (deed : Deed) (words : ℕ) → 0 < taken_by deed words → weight_of deed words ≡ pos words
taken_is_weight (forks child) words some = refl
taken_is_weight (joins child) words some = absurd (omega (arith, some))
taken_is_weight allocates words some = refl
taken_is_weight releases words some = absurd (omega (arith, some))
taken_is_weight dummy words some = absurd (omega (arith, some))
taken_is_weight faults words some = absurd (omega (arith, some))
taken_is_weight ends words some = absurd (omega (arith, some))

-- what the arena has no room for has so many words as its weight
pub filling_weighs : (s : Setting) (limits : Limits) (m : Moment) (place : ℕ) → Fills s limits m place →
    pos limits.capacity <ℤ (live_at s.list m +ℤ weight_at s.list place)
filling_weighs s limits m place fills = subst (λ w. pos limits.capacity <ℤ (live_at s.list m +ℤ w))
    (sym (taken_is_weight (deed_at s.list place) (words_at s.list place) fills.0)) fills.1

place_done : Event → ℕ
place_done (steals place id) = 0
place_done (does place) = place
place_done suspends = 0
place_done gives_up = 0

module _ (s : Setting) (limits : Limits) (m : Moment) where
  -- the event that an arena stops is an action that it has no room for
  pub filled : (event : Event) (live : ℤ) (asked : ℕ) → Meets s limits m event (arena_full live asked) →
      (place : ℕ) × (event ≡ does place) × Fills s limits m place
  filled event live asked (no_words place fills) = (place, refl, fills)

  -- the numbers of the stop of an arena
  IsAsked : (place : ℕ) → Stop → Type 0
  IsAsked place (arena_full live asked) = (live ≡ live_at s.list m) × (asked ≡ words_at s.list place)
  IsAsked place (steps_spent limit) = Unit {0}
  IsAsked place (deques_full deques) = Unit {0}

  asked_of : (event : Event) (stop : Stop) → Meets s limits m event stop → IsAsked (place_done event) stop
  unfolding IsAsked place_done
  asked_of event stop (no_deque place id deque there stays many) = tt
  asked_of event stop (no_words place fills) = (refl, refl)
  asked_of event stop (no_steps place room many) = tt

  pub asked_at : (event : Event) (live : ℤ) (asked place : ℕ) → event ≡ does place → Meets s limits m event (arena_full live asked) →
      (live ≡ live_at s.list m) × (asked ≡ words_at s.list place)
  unfolding IsAsked place_done
  asked_at event live asked place is meets =
      let asks : IsAsked (place_done event) (arena_full live asked) = asked_of event (arena_full live asked) meets in
      (asks.0, asks.1 ∙ ap (λ e. words_at s.list (place_done e)) is)
