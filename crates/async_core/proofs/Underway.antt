-- A play that is under way.
use Rattle.std.proofs.Common.{◌≡◌, ℕ, suc, ◌+◌, ◌*◌, ◌≤◌, List, [], ◌∷◌, ◌++◌, length, refl, sym, ap, subst, ◌∙◌, arith, append-nil, length-append, append_assoc}
use Rattle.std.proofs.Math.Logic.{∥∥₁_elim, ∥∥₁_map, ∥∥₁_prop}
use Rattle.std.specs.Prelude.{None, Some, pos}
use Rattle.dag_order.specs.declared.finish.Finish.{Finish}
use Rattle.depth_first_list.specs.Actions.{record_words}
use Rattle.depth_first_run.specs.States.{Setting}
use Rattle.depth_first_run.proofs.Built.{whole_is_depth_first}
use Rattle.deque_machine.specs.Moments.{Moment}
use Rattle.deque_machine.specs.Machine as machine
use Rattle.deque_machine.specs.Machine.{HasEnded}
use Rattle.deque_machine.specs.Play as play
use Rattle.deque_machine.specs.Play.{IsFirst}
use Rattle.deque_machine.specs.Runs.{Pair}
use Rattle.deque_machine.specs.Terms.{Terms, machine_of}
use Rattle.depth_first_list.specs.QuotaWords.{quota_words}
use Rattle.node_table.specs.Codes.{code_shown}
use Rattle.play_rules.specs.declared.ends.RunEnd.{RunEnd}
use Rattle.play_rules.specs.declared.ends.RunEnd.TheVariants.{Finished, Stopped}
use Rattle.play_rules.specs.declared.stop.Stop.TheVariants.{ArenaFull, DequesFull, StepsSpent, OutOfMemory}
use Rattle.scheduler_state.specs.Held.{held}
use Rattle.ready_machine.specs.ReadyPlay.{CanGo, ReadyTurn, ReadyPlays, is_over, is_stopped}
use Rattle.ready_machine.specs.ReadyFronts.{ReadyPlaysOn, stays_here}
use Rattle.ready_machine.proofs.Ends.{runs_are_short}
use Rattle.ready_machine.proofs.Going.{front_goes_on, front_with_turn, front_is_run}
use Rattle.async_core.specs.declared.run.AsyncCore.{AsyncCore}
use Rattle.async_core.specs.Cores.{IsAt, SameSetting, end_of, terms_at, workers_of}
use Rattle.async_core.specs.Plays.{TurnGoesOn, TurnStops, TurnLacks, TurnsTo, TakesTurn, IsDrawn, PlaysToEnd, PlaysToStop, PlaysUntil, PlaysTo}
use Rattle.async_core.proofs.Going.{ready_at}

-- the front of the play up to now: so many events at least, and the core is at its last moment
pub record Along (c : Setting) (terms : Terms) (words : ℕ → ℕ) (drawn events : ℕ) (now : AsyncCore) (run : List Pair) (m : Moment) : Type 0 where
  pub later : List Pair
  pub last : Moment
  pub front : ReadyPlaysOn (machine_of c terms) terms.limits words 0 m later drawn last
  pub many : events ≤ length later
  pub is_at : IsAt c now (run ++ later) last

-- No end is kept. Of the words so many were drawn, and the coming ones are those after them. Since the start there were at least so many
-- events.
pub record IsUnderWay (words coming : ℕ → ℕ) (start now : AsyncCore) (events : ℕ) : Type 0 where
  pub going : end_of now ≡ None
  pub drawn : ℕ
  pub coming_is : IsDrawn words drawn coming
  pub setting : SameSetting start now
  pub along : (c : Setting) (run : List Pair) (m : Moment) → IsAt c start run m → ∥ Along c (terms_at start) words drawn events now run m ∥₁

pub begins : (words : ℕ → ℕ) (start : AsyncCore) → end_of start ≡ None → IsUnderWay words words start start 0
begins words start none = record {
  going = none;
  drawn = 0;
  coming_is = λ i. ap words (omega arith);
  setting = (refl, refl, refl);
  along = λ c run m at. ∣ record {
    later = [];
    last = m;
    front = stays_here 0 m;
    many = omega arith;
    is_at = subst (λ r. IsAt c start r m) (sym (append-nil run)) at;
  } ∣₁;
}

-- a turn by the coming words is one after the words that were drawn
turn_behind : (s : machine.Setting) (words coming : ℕ → ℕ) (drawn : ℕ) → IsDrawn words drawn coming → (m : Moment) (pair : Pair)
    → ReadyTurn s coming 0 m pair → ReadyTurn s words drawn m pair
turn_behind s words coming drawn is m pair turn = record {
  not_over = turn.not_over;
  first = subst (λ w. IsFirst s.workers w (CanGo m) pair.worker) (is 0 ∙ ap words (omega arith)) turn.first;
  wants = turn.wants;
}

module _ (c : Setting) (terms : Terms) (words coming : ℕ → ℕ) (drawn events : ℕ) (coming_is : IsDrawn words drawn coming) (now after : AsyncCore)
    (run : List Pair) (m : Moment) (a : Along c terms words drawn events now run m) where
  -- one turn further
  further : TurnGoesOn c terms coming after (run ++ a.later) a.last → Along c terms words (suc drawn) (events + 1) after run m
  further g = record {
    later = a.later ++ g.pair ∷ [];
    last = g.next;
    front = front_with_turn (machine_of c terms) terms.limits words 0 drawn m a.last g.next a.later g.pair a.front
        (turn_behind (machine_of c terms) words coming drawn coming_is a.last g.pair g.turn) g.free g.may;
    many = let size = length-append a.later (g.pair ∷ []) in let had = a.many in omega (arith, size, had);
    is_at = subst (λ r. IsAt c after r g.next) (append_assoc run a.later (g.pair ∷ [])) g.is_at;
  }

  -- the words that come after the turn
  coming_behind : (later : ℕ → ℕ) → IsDrawn coming 1 later → IsDrawn words (suc drawn) later
  coming_behind later is i = is i ∙ coming_is (1 + i) ∙ ap words (omega arith)

  -- the whole play with what goes on from here
  whole_play : (rest : List Pair) (end : Moment) (ending : play.Ending) → ReadyPlays (machine_of c terms) terms.limits words drawn a.last rest end ending
      → ReadyPlays (machine_of c terms) terms.limits words 0 m (a.later ++ rest) end ending
  whole_play rest end ending plays = front_goes_on (machine_of c terms) terms.limits words 0 drawn m a.last end a.later rest ending a.front plays

  module _ (later : ℕ → ℕ) (later_is : IsDrawn coming 1 later) where
    -- to a stop
    stopped_at : (stop : play.Stop) → TurnStops c terms coming after (run ++ a.later) a.last stop → PlaysToStop c terms words later after run m stop
    stopped_at stop s = record {
      later = a.later;
      last = a.last;
      plays = subst (λ r. ReadyPlays (machine_of c terms) terms.limits words 0 m r a.last (play.stopped stop)) (append-nil a.later)
          (whole_play [] a.last (play.stopped stop) (is_stopped drawn a.last s.pair stop (turn_behind (machine_of c terms) words coming drawn coming_is a.last s.pair s.turn) s.meets));
      is_at = s.is_at;
      drawn = drawn;
      front = a.front;
      rest = coming_behind later later_is;
    }

    -- or to the end
    ended_at : (same : terms_at after ≡ terms) (finish : Finish) → end_of after ≡ Some (Finished finish) → TurnGoesOn c terms coming after (run ++ a.later) a.last
        → PlaysToEnd c terms words later after run m
    ended_at same finish is g =
        let b = further g in
        let has = subst (λ x. HasEnded (machine_of c x) b.last []) same (b.is_at.finished finish is).0 in record {
          later = b.later;
          last = b.last;
          plays = subst (λ r. ReadyPlays (machine_of c terms) terms.limits words 0 m r b.last play.finished) (append-nil b.later)
              (front_goes_on (machine_of c terms) terms.limits words 0 (suc drawn) m b.last b.last b.later [] play.finished b.front (is_over (suc drawn) b.last has));
          is_at = b.is_at;
          drawn = suc drawn;
          front = b.front;
          rest = coming_behind later later_is;
        }

    -- or to a turn that lacks memory
    lacks_at : TurnLacks c terms coming after (run ++ a.later) a.last → PlaysUntil c terms words later after run m
    lacks_at l = record {
      later = a.later;
      last = a.last;
      drawn = drawn;
      front = a.front;
      is_at = l.is_at;
      worker = l.worker;
      first = subst (λ w. IsFirst terms.workers w (CanGo a.last) l.worker) (coming_is 0 ∙ ap words (omega arith)) l.first;
      rest = coming_behind later later_is;
    }

    plays_to : (same : terms_at after ≡ terms) (end : RunEnd) → end_of after ≡ Some end → TurnsTo c terms coming after (run ++ a.later) a.last (Some end)
        → PlaysTo c terms words later after run m end
    plays_to same (Finished finish) is turns = ∥∥₁_map turns (ended_at same finish is)
    plays_to same (Stopped (ArenaFull live asked)) is turns = ∥∥₁_map turns (stopped_at (play.arena_full (pos live) asked))
    plays_to same (Stopped (DequesFull deques)) is turns = absurd turns
    plays_to same (Stopped (StepsSpent limit)) is turns = ∥∥₁_map turns (stopped_at (play.steps_spent limit))
    plays_to same (Stopped OutOfMemory) is turns = ∥∥₁_map turns lacks_at

plays_to_prop : (c : Setting) (terms : Terms) (words coming : ℕ → ℕ) (after : AsyncCore) (run : List Pair) (m : Moment) (end : RunEnd)
    → IsProp (PlaysTo c terms words coming after run m end)
plays_to_prop c terms words coming after run m (Finished finish) = ∥∥₁_prop
plays_to_prop c terms words coming after run m (Stopped (ArenaFull live asked)) = ∥∥₁_prop
plays_to_prop c terms words coming after run m (Stopped (DequesFull deques)) = λ x y. absurd x
plays_to_prop c terms words coming after run m (Stopped (StepsSpent limit)) = ∥∥₁_prop
plays_to_prop c terms words coming after run m (Stopped OutOfMemory) = ∥∥₁_prop

same_setting : (a b c : AsyncCore) → SameSetting a b → SameSetting b c → SameSetting a c
same_setting a b c first second = (second.0 ∙ first.0, second.1 ∙ first.1, second.2 ∙ first.2)

module _ (words coming later : ℕ → ℕ) (start now after : AsyncCore) (events : ℕ) (u : IsUnderWay words coming start now events)
    (turn : TakesTurn coming later now after) (setting : SameSetting now after) where
  -- the turn by the terms of the start
  turns_from : (c : Setting) (run : List Pair) (m : Moment) → IsAt c now run m → TurnsTo c (terms_at start) coming after run m (end_of after)
  turns_from c run m at = subst (λ x. TurnsTo c x coming after run m (end_of after)) u.setting.2 (turn.turns c run m at)

  pub goes_on_by : end_of after ≡ None → IsUnderWay words later start after (events + 1)
  goes_on_by none = record {
    going = none;
    drawn = suc u.drawn;
    coming_is = λ i. turn.later_is i ∙ u.coming_is (1 + i) ∙ ap words (omega arith);
    setting = same_setting start now after u.setting setting;
    along = λ c run m at. ∥∥₁_elim (u.along c run m at) ∥∥₁_prop (λ a.
        ∥∥₁_map (subst (TurnsTo c (terms_at start) coming after (run ++ a.later) a.last) none (turns_from c (run ++ a.later) a.last a.is_at))
        (further c (terms_at start) words coming u.drawn events u.coming_is now after run m a));
  }

  pub ends_by : (end : RunEnd) → end_of after ≡ Some end → (c : Setting) (run : List Pair) (m : Moment) → IsAt c start run m
      → PlaysTo c (terms_at start) words later after run m end
  ends_by end is c run m at = ∥∥₁_elim (u.along c run m at) (plays_to_prop c (terms_at start) words later after run m end) (λ a.
      plays_to c (terms_at start) words coming u.drawn events u.coming_is now after run m a later turn.later_is (setting.2 ∙ u.setting.2) end is
      (subst (TurnsTo c (terms_at start) coming after (run ++ a.later) a.last) is (turns_from c (run ++ a.later) a.last a.is_at)))

  pub setting_by : SameSetting start after
  setting_by = same_setting start now after u.setting setting

-- no play has so many events
pub too_many : (words coming : ℕ → ℕ) (start now : AsyncCore) (events : ℕ) → IsUnderWay words coming start now events
    → 5 * (terms_at start).limits.actions + 2 * workers_of start + 1 ≤ events → ⊥
too_many words coming start now events u many = ∥∥₁_elim start.sound.of_program (λ x y. absurd x) (λ p.
    ∥∥₁_elim (start.somewhere p.0 p.1) (λ x y. absurd x) (λ w. ∥∥₁_elim (u.along p.0 w.0 w.1 w.2) (λ x y. absurd x) (λ a.
    let covers = start.sound.quota in let same = p.1.quota in
    let fork : record_words ≤ p.0.quota = omega (arith, covers, same) in
    let ran = front_is_run (machine_of p.0 (terms_at start)) (terms_at start).limits words 0 u.drawn w.1 a.last a.later a.front in
    let short = runs_are_short (machine_of p.0 (terms_at start)) (omega (arith, fork)) (whole_is_depth_first p.0) fork w.1 a.last a.later ran.0
    (ready_at (code_shown start.code) (quota_words start.k) (terms_at start) (held start.scheduler) start.end p.0 w.0 w.1 start.sound.quota w.2) ran.1 in
    let within = a.is_at.within in let size = a.many in
    let actions = ap (λ (x : Terms). x.limits.actions) u.setting.2 in
    absurd (omega (arith, short, within, size, actions, many)))))
