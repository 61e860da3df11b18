-- Plays of a ready list that are under way.
use Rattle.std.proofs.Common.{ℕ, suc, List, [], ◌∷◌, ◌++◌, refl}
use Rattle.deque_machine.specs.Moments.{Moment}
use Rattle.deque_machine.specs.Machine.{Setting}
use Rattle.deque_machine.specs.Play.{Limits, Stop, Ending, Meets}
use Rattle.deque_machine.specs.Runs.{Pair}
use Rattle.ready_machine.specs.ReadyMachine.{MayReady, ReadyReaches, NoneGivenFree}
use Rattle.ready_machine.specs.ReadyPlay.{ReadyTurn, ReadyPlays, goes_on}
use Rattle.ready_machine.specs.ReadyFronts.{ReadyPlaysOn, stays_here, takes_turn, ReadyFrontsGoOn, FrontsTakeTurns, FrontsAreRuns}
use Rattle.ready_machine.proofs.Playing.{forced}

module _ (s : Setting) (limits : Limits) (words : ℕ → ℕ) where
  pub front_goes_on : (n drawn : ℕ) (m here last : Moment) (front rest : List Pair) (ending : Ending)
      → ReadyPlaysOn s limits words n m front drawn here → ReadyPlays s limits words drawn here rest last ending
      → ReadyPlays s limits words n m (front ++ rest) last ending
  front_goes_on n drawn m here last front rest ending (stays_here n' m') plays = plays
  front_goes_on n drawn m here last front rest ending (takes_turn n' m' next last' pair later drawn' turn none may further) plays =
      goes_on n m next last pair (later ++ rest) ending turn none may (front_goes_on
      (suc n) drawn next here last later rest ending further plays)

  pub front_with_turn : (n drawn : ℕ) (m here next : Moment) (front : List Pair) (pair : Pair)
      → ReadyPlaysOn s limits words n m front drawn here → ReadyTurn s words drawn here pair
      → ((stop : Stop) → ¬ Meets s limits here pair.event stop) → MayReady s here pair.worker pair.event next
      → ReadyPlaysOn s limits words n m (front ++ pair ∷ []) (suc drawn) next
  front_with_turn n drawn m here next front pair (stays_here n' m') turn none may =
      takes_turn n m next next pair [] (suc n) turn none may (stays_here (suc n) next)
  front_with_turn n drawn m here next front pair (takes_turn n' m' next' last' pair' later drawn' turn' none' may' further) turn none may =
      takes_turn n m next' next pair' (later ++ pair ∷ []) (suc drawn) turn' none' may'
      (front_with_turn (suc n) drawn next' here next later pair further turn none may)

  pub front_is_run : (n drawn : ℕ) (m here : Moment) (front : List Pair) → ReadyPlaysOn s limits words n m front drawn here
      → (reaches : ReadyReaches s m front here) × NoneGivenFree s m front here reaches
  front_is_run n drawn m here front (stays_here n' m') = (refl, tt)
  front_is_run n drawn m here front (takes_turn n' m' next last pair later drawn' turn none may further) =
      let r = front_is_run (suc n) drawn next here later further in
      ((next, may, r.0), (forced s m pair.worker pair.event turn.wants, r.1))

pub fronts_go_on : (s : Setting) → ReadyFrontsGoOn s
fronts_go_on s limits words n drawn m here last front rest ending on plays = front_goes_on s limits words n drawn m here last front rest
    ending on plays

pub fronts_take_turns : (s : Setting) → FrontsTakeTurns s
fronts_take_turns s limits words n drawn m here next front pair on turn none may =
    front_with_turn s limits words n drawn m here next front pair on turn none may

pub fronts_are_runs : (s : Setting) → FrontsAreRuns s
fronts_are_runs s limits words n drawn m here front on = front_is_run s limits words n drawn m here front on
