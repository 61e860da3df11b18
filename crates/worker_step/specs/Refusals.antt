-- What stops an action.
use Rattle.std.specs.Prelude.{◌≡◌, ◌<◌, ◌≤◌, ◌+◌, ℕ}
use Rattle.scheduler_state.specs.declared.scheduler.Scheduler.{Scheduler}
use Rattle.play_rules.specs.declared.stop.Stop.{Stop}
use Rattle.play_rules.specs.declared.stop.Stop.TheVariants.{ArenaFull, DequesFull, StepsSpent, OutOfMemory}

-- an action that takes so many words does not fit the arena; or it does, and no further action is allowed
abbrev pub Refuses : Scheduler → (limit asked : ℕ) → Stop → Type 0
Refuses s limit asked (ArenaFull live words) =
    (live ≡ s.pool.live) × (words ≡ asked) × (s.pool.capacity < s.pool.live + asked) × (0 < asked)
Refuses s limit asked (DequesFull deques) = ⊥
Refuses s limit asked (StepsSpent most) = (most ≡ limit) × (s.pool.live + asked ≤ s.pool.capacity) × (limit ≤ s.done)
Refuses s limit asked OutOfMemory = ⊥
