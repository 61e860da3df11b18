-- What is told of a stop of the core.
use Rattle.std.specs.Prelude.{◌≡◌, ℕ, List, pos}
use Rattle.play_rules.specs.declared.stop.Stop.{Stop}
use Rattle.play_rules.specs.declared.stop.Stop.TheVariants as stops
use Rattle.dfd_plays.specs.Messages.{spent_text, arena_text, deques_text}
use Rattle.dfd_plays.specs.declared.status.Status.{Status}
use Rattle.dfd_plays.specs.declared.status.Status.TheVariants.{StepsSpent, ArenaFull, DequesFull}

-- a status and a line; want of memory is no answer
abbrev pub TellsStop : Stop → Status → List ℕ → Type 0
TellsStop (stops.ArenaFull live asked) status text = (status ≡ ArenaFull) × (text ≡ arena_text (pos live) asked)
TellsStop (stops.DequesFull deques) status text = (status ≡ DequesFull) × (text ≡ deques_text deques)
TellsStop (stops.StepsSpent limit) status text = (status ≡ StepsSpent) × (text ≡ spent_text limit)
TellsStop stops.OutOfMemory status text = ⊥
