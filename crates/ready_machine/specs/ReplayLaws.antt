-- What holds of the computed machine of a ready list: its runs are runs, and there is one moment and one play.
use Rattle.std.specs.Prelude.{◌≡◌, ℕ, Some, List}
use Rattle.deque_machine.specs.Moments.{Moment, opening}
use Rattle.deque_machine.specs.Machine.{Setting, Event}
use Rattle.deque_machine.specs.Runs.{Pair}
use Rattle.deque_machine.specs.Play.{Limits, Ending}
use Rattle.ready_machine.specs.Entries.{IsReadyList}
use Rattle.ready_machine.specs.ReadyMachine.{MayReady, ReadyReaches}
use Rattle.ready_machine.specs.ReadyPlay.{ReadyPlays}
use Rattle.deque_machine.specs.Played.{Played}
use Rattle.ready_machine.specs.Step.{ready_step, ready_replay}
use Rattle.ready_machine.specs.Played.{ready_play}

-- what is computed of an event at a lawful ready list is a case of the machine
abbrev pub StepsAreEvents : Setting → Type 0
StepsAreEvents s = (m after : Moment) (worker : ℕ) (event : Event) → IsReadyList s m → ready_step s m worker event ≡ Some after
    → MayReady s m worker event after

-- so what is replayed is a run
abbrev pub ReplaysAreRuns : Setting → Type 0
ReplaysAreRuns s = (pairs : List Pair) (last : Moment) → ready_replay s pairs ≡ Some last → ReadyReaches s opening pairs last

-- at a lawful ready list an event of a worker leads to one moment
abbrev pub ReadyOneWay : Setting → Type 0
ReadyOneWay s = (m one other : Moment) (worker : ℕ) (event : Event) → IsReadyList s m → MayReady s m worker event one
    → MayReady s m worker event other
    → one ≡ other

-- a list of words picks one play
abbrev pub ReadyOnePlay : Setting → Type 0
ReadyOnePlay s = (limits : Limits) (words : ℕ → ℕ) (run run' : List Pair) (last last' : Moment) (ending ending' : Ending)
    → ReadyPlays s limits words 0 opening run last ending → ReadyPlays s limits words 0 opening run' last' ending'
    → (run ≡ run') × (last ≡ last') × (ending ≡ ending')

-- what the computed play answers is the play
abbrev pub ReadyPlayedIsPlay : Setting → Type 0
ReadyPlayedIsPlay s = (limits : Limits) (words : ℕ → ℕ) (turns : ℕ) (played : Played) → ready_play s limits words turns 0 opening ≡ Some played
    → ReadyPlays s limits words 0 opening played.run played.last played.ending
