-- A play that is under way.
use Rattle.std.proofs.Common.{◌≡◌, ℕ, ◌+◌, ◌*◌, ◌≤◌, List, [], ◌∷◌, ◌++◌, length, refl, sym, ap, subst, ◌∙◌, arith, append-nil, length-append, append_assoc}
use Rattle.std.proofs.Math.Logic.{∥∥₁_elim, ∥∥₁_map, ∥∥₁_prop}
use Rattle.std.specs.Prelude.{None, Some, pos}
use Rattle.dag_order.specs.declared.finish.Finish.{Finish}
use Rattle.depth_first_list.specs.Actions.{record_words}
use Rattle.depth_first_run.specs.States.{Setting}
use Rattle.depth_first_run.proofs.Built.{whole_is_depth_first}
use Rattle.open_periods.specs.Passed.Moments.{Moment}
use Rattle.open_periods.specs.Passed.Machine as machine
use Rattle.open_periods.specs.Passed.Machine.{HasEnded}
use Rattle.open_periods.specs.Passed.Play as play
use Rattle.open_periods.specs.Passed.Play.{IsFirst, CanMove, NoneFree, Wants, Turn, Plays, is_over, is_stopped}
use Rattle.open_periods.specs.Passed.DequeMachineRuns.{Pair, Reaches}
use Rattle.open_periods.proofs.Passed.Ends.{runs_are_short}
use Rattle.open_periods.specs.Passed.Fronts.{PlaysOn, stays_here}
use Rattle.open_periods.proofs.Passed.Playing.{front_is_run, front_goes_on, front_with_turn}
use Rattle.play_rules.specs.declared.stop.Stop.TheVariants.{ArenaFull, DequesFull, StepsSpent, OutOfMemory}
use Rattle.open_periods.specs.Passed.Terms.{Terms, machine_of}
use Rattle.scheduler_state.specs.Outcomes.{HasDequesLeft}
use Rattle.dfd_core.specs.declared.run.Core.{Core}
use Rattle.play_rules.specs.declared.ends.RunEnd.{RunEnd}
use Rattle.play_rules.specs.declared.ends.RunEnd.TheVariants.{Finished, Stopped}
use Rattle.dfd_core.specs.Cores.{IsAt, SameSetting, end_of, terms_at, workers_of}
use Rattle.dfd_core.specs.Plays.{TurnGoesOn, TurnStops, TurnLacks, TurnsTo, IsDrawn, TakesTurn, PlaysToEnd, PlaysToStop, PlaysUntil, PlaysTo}

-- The core has come from the moment m of a run along the front of its play, with so many words and at least so many events.
pub record Along (c : Setting) (terms : Terms) (words : ℕ → ℕ) (drawn events : ℕ) (now : Core) (run : List Pair) (m : Moment) : Type 0 where
  pub later : List Pair
  pub last : Moment
  pub front : PlaysOn (machine_of c terms) terms.limits words 0 m later drawn last
  pub many : events ≤ length later
  pub is_at : IsAt c now (run ++ later) last

-- No end is kept. Of the words so many were drawn, and the coming ones are those behind. Since the start there were at least so many
-- events.
pub record IsUnderWay (words coming : ℕ → ℕ) (start now : Core) (events : ℕ) : Type 0 where
  pub going : end_of now ≡ None
  pub drawn : ℕ
  pub coming_is : (i : ℕ) → coming i ≡ words (drawn + i)
  pub setting : SameSetting start now
  pub along : (c : Setting) (run : List Pair) (m : Moment) → IsAt c start run m → ∥ Along c (terms_at start) words drawn events now run m ∥₁

pub begins : (words : ℕ → ℕ) (start : Core) → end_of start ≡ None → IsUnderWay words words start start 0
begins words start none = record {
  going = none;
  drawn = 0;
  coming_is = λ i. ap words (omega arith);
  setting = (refl, refl, refl);
  along = λ c run m at. ∣ record {
    later = [];
    last = m;
    front = stays_here 0 m;
    many = omega arith;
    is_at = subst (λ r. IsAt c start r m) (sym (append-nil run)) at;
  } ∣₁;
}

-- a turn by the coming words is one behind the words that were drawn
pub turn_behind : (s : machine.Setting) (words coming : ℕ → ℕ) (drawn : ℕ) → ((i : ℕ) → coming i ≡ words (drawn + i)) → (m : Moment) (pair : Pair)
    → Turn s coming 0 m pair → Turn s words drawn m pair
turn_behind s words coming drawn is m pair turn = record {
  not_over = turn.not_over;
  first = subst (λ w. IsFirst s.workers w (CanMove s m) pair.worker) (is 0 ∙ ap words (omega arith)) turn.first;
  wants = subst (λ w. Wants s m pair.worker w pair.event) (is 1 ∙ ap words (omega arith)) turn.wants;
}

module _ (c : Setting) (terms : Terms) (words coming : ℕ → ℕ) (drawn more events : ℕ) (coming_is : (i : ℕ) → coming i ≡ words (drawn + i)) (now after : Core)
    (run : List Pair) (m : Moment) (a : Along c terms words drawn events now run m) where
  -- one turn further
  unfoldable pub further : TurnGoesOn c terms coming more after (run ++ a.later) a.last → Along c terms words (drawn + more) (events + 1) after run m
  further g = record {
    later = a.later ++ g.pair ∷ [];
    last = g.next;
    front = subst (λ n. PlaysOn (machine_of c terms) terms.limits words 0 m (a.later ++ g.pair ∷ []) (drawn + n) g.next) (sym g.draws)
        (front_with_turn (machine_of c terms) terms.limits words 0 drawn m a.last g.next a.later g.pair a.front
        (turn_behind (machine_of c terms) words coming drawn coming_is a.last g.pair g.turn) g.free g.may);
    many = let size = length-append a.later (g.pair ∷ []) in let had = a.many in omega (arith, size, had);
    is_at = subst (λ r. IsAt c after r g.next) (append_assoc run a.later (g.pair ∷ [])) g.is_at;
  }

  -- the words that come behind the turn
  pub coming_behind : (later : ℕ → ℕ) → IsDrawn coming more later → IsDrawn words (drawn + more) later
  coming_behind later is i = is i ∙ coming_is (more + i) ∙ ap words (omega arith)

  -- the whole play behind what goes on from here
  pub whole_play : (rest : List Pair) (end : Moment) (ending : play.Ending) → Plays (machine_of c terms) terms.limits words drawn a.last rest end ending
      → Plays (machine_of c terms) terms.limits words 0 m (a.later ++ rest) end ending
  whole_play rest end ending plays = front_goes_on (machine_of c terms) terms.limits words 0 drawn m a.last end a.later rest ending a.front plays

  module _ (later : ℕ → ℕ) (later_is : IsDrawn coming more later) where
    -- or to a stop
    unfoldable pub stopped_at : (stop : play.Stop) → TurnStops c terms coming more after (run ++ a.later) a.last stop
        → PlaysToStop c terms words later after run m stop
    stopped_at stop s = record {
      later = a.later;
      last = a.last;
      plays = subst (λ r. Plays (machine_of c terms) terms.limits words 0 m r a.last (play.stopped stop)) (append-nil a.later)
          (whole_play [] a.last (play.stopped stop) (is_stopped drawn a.last s.pair stop (turn_behind (machine_of c terms) words coming drawn coming_is a.last s.pair s.turn) s.meets));
      is_at = s.is_at;
      drawn = drawn;
      front = a.front;
      worker = s.pair.worker;
      first = (turn_behind (machine_of c terms) words coming drawn coming_is a.last s.pair s.turn).first;
      rest = subst (λ n. IsDrawn words (drawn + n) later) s.draws (coming_behind later later_is);
    }

    -- or to the end
    unfoldable pub ended_at : (same : terms_at after ≡ terms) (finish : Finish) → end_of after ≡ Some (Finished finish) → TurnGoesOn c terms coming more after (run ++ a.later) a.last
        → PlaysToEnd c terms words later after run m
    ended_at same finish is g =
        let b = further g in
        let has = subst (λ x. HasEnded (machine_of c x) b.last []) same (b.is_at.finished finish is).0 in record {
          later = b.later;
          last = b.last;
          plays = subst (λ r. Plays (machine_of c terms) terms.limits words 0 m r b.last play.finished) (append-nil b.later)
              (front_goes_on (machine_of c terms) terms.limits words 0 (drawn + more) m b.last b.last b.later [] play.finished b.front (is_over (drawn + more) b.last has));
          is_at = b.is_at;
          drawn = drawn + more;
          front = b.front;
          rest = coming_behind later later_is;
        }

    -- or to a turn that lacks memory
    unfoldable pub lacks_at : TurnLacks c terms coming more after (run ++ a.later) a.last → PlaysUntil c terms words later after run m
    lacks_at l = record {
      later = a.later;
      last = a.last;
      drawn = drawn;
      front = a.front;
      is_at = l.is_at;
      worker = l.worker;
      first = subst (λ w. IsFirst terms.workers w (CanMove (machine_of c terms) a.last) l.worker) (coming_is 0 ∙ ap words (omega arith)) l.first;
      deques_left = subst (λ w. HasDequesLeft c terms l.worker w a.last) (coming_is 1) l.deques_left;
      rest = subst (λ n. IsDrawn words (drawn + n) later) l.draws (coming_behind later later_is);
    }

    pub plays_to : (same : terms_at after ≡ terms) (end : RunEnd) → end_of after ≡ Some end → TurnsTo c terms coming more after (run ++ a.later) a.last (Some end)
        → PlaysTo c terms words later after run m end
    plays_to same (Finished finish) is turns = ∥∥₁_map turns (ended_at same finish is)
    plays_to same (Stopped (ArenaFull live asked)) is turns = ∥∥₁_map turns (stopped_at (play.arena_full (pos live) asked))
    plays_to same (Stopped (DequesFull deques)) is turns = ∥∥₁_map turns (stopped_at (play.deques_full deques))
    plays_to same (Stopped (StepsSpent limit)) is turns = ∥∥₁_map turns (stopped_at (play.steps_spent limit))
    plays_to same (Stopped OutOfMemory) is turns = ∥∥₁_map turns lacks_at

plays_to_prop : (c : Setting) (terms : Terms) (words coming : ℕ → ℕ) (after : Core) (run : List Pair) (m : Moment) (end : RunEnd)
    → IsProp (PlaysTo c terms words coming after run m end)
plays_to_prop c terms words coming after run m (Finished finish) = ∥∥₁_prop
plays_to_prop c terms words coming after run m (Stopped (ArenaFull live asked)) = ∥∥₁_prop
plays_to_prop c terms words coming after run m (Stopped (DequesFull deques)) = ∥∥₁_prop
plays_to_prop c terms words coming after run m (Stopped (StepsSpent limit)) = ∥∥₁_prop
plays_to_prop c terms words coming after run m (Stopped OutOfMemory) = ∥∥₁_prop

pub same_setting : (a b c : Core) → SameSetting a b → SameSetting b c → SameSetting a c
same_setting a b c first second = (second.0 ∙ first.0, second.1 ∙ first.1, second.2 ∙ first.2)

module _ (words coming later : ℕ → ℕ) (start now after : Core) (events : ℕ) (u : IsUnderWay words coming start now events)
    (turn : TakesTurn coming later now after) (setting : SameSetting now after) where
  -- the turn by the terms of the start
  turns_from : (c : Setting) (run : List Pair) (m : Moment) → IsAt c now run m → TurnsTo c (terms_at start) coming turn.drawn after run m (end_of after)
  turns_from c run m at = subst (λ x. TurnsTo c x coming turn.drawn after run m (end_of after)) u.setting.2 (turn.turns c run m at)

  pub goes_on_by : end_of after ≡ None → IsUnderWay words later start after (events + 1)
  goes_on_by none = record {
    going = none;
    drawn = u.drawn + turn.drawn;
    coming_is = λ i. turn.later_is i ∙ u.coming_is (turn.drawn + i) ∙ ap words (omega arith);
    setting = same_setting start now after u.setting setting;
    along = λ c run m at. ∥∥₁_elim (u.along c run m at) ∥∥₁_prop (λ a.
        ∥∥₁_map (subst (TurnsTo c (terms_at start) coming turn.drawn after (run ++ a.later) a.last) none (turns_from c (run ++ a.later) a.last a.is_at))
        (further c (terms_at start) words coming u.drawn turn.drawn events u.coming_is now after run m a));
  }

  pub ends_by : (end : RunEnd) → end_of after ≡ Some end → (c : Setting) (run : List Pair) (m : Moment) → IsAt c start run m
      → PlaysTo c (terms_at start) words later after run m end
  ends_by end is c run m at = ∥∥₁_elim (u.along c run m at) (plays_to_prop c (terms_at start) words later after run m end) (λ a.
      plays_to c (terms_at start) words coming u.drawn turn.drawn events u.coming_is now after run m a later turn.later_is (setting.2 ∙ u.setting.2) end is
      (subst (TurnsTo c (terms_at start) coming turn.drawn after (run ++ a.later) a.last) is (turns_from c (run ++ a.later) a.last a.is_at)))

  pub setting_by : SameSetting start after
  setting_by = same_setting start now after u.setting setting

-- no play has so many events
pub too_many : (words coming : ℕ → ℕ) (start now : Core) (events : ℕ) → IsUnderWay words coming start now events
    → 5 * (terms_at start).limits.actions + 2 * workers_of start + 1 ≤ events → ⊥
too_many words coming start now events u many = ∥∥₁_elim start.sound.of_program (λ x y. absurd x) (λ p.
    ∥∥₁_elim (start.somewhere p.0 p.1) (λ x y. absurd x) (λ w. ∥∥₁_elim (u.along p.0 w.0 w.1 w.2) (λ x y. absurd x) (λ a.
    let covers = start.sound.quota in let same = p.1.quota in
    let fork : record_words ≤ p.0.quota = omega (arith, covers, same) in
    let short = runs_are_short (machine_of p.0 (terms_at start)) (omega (arith, fork)) (whole_is_depth_first p.0) fork w.1 a.last a.later (on_run p.0 w.1 a).0
    w.2.stands.standing.lawful (on_run p.0 w.1 a).1 in
    let within = a.is_at.within in let size = a.many in
    let actions = ap (λ (x : Terms). x.limits.actions) u.setting.2 in
    absurd (omega (arith, short, within, size, actions, many)))))
  where
    on_run : (c : Setting) {run : List Pair} (m : Moment) (a : Along c (terms_at start) words u.drawn events now run m)
        → (reaches : Reaches (machine_of c (terms_at start)) m a.later a.last) × NoneFree (machine_of c (terms_at start)) m a.later a.last reaches
    on_run c m a = front_is_run (machine_of c (terms_at start)) (terms_at start).limits words 0 m a.later u.drawn a.last a.front
