-- A play whose events are being recorded.
use Rattle.std.proofs.Common.{◌≡◌, ℕ, ◌+◌, ◌*◌, ◌≤◌, List, [], ◌∷◌, ◌++◌, refl, sym, ap, subst, ◌∙◌, arith, append-nil}
use Rattle.std.proofs.Math.Logic.{∥∥₁_elim, ∥∥₁_map, ∥∥₁_prop}
use Rattle.std.specs.Prelude.{Option, None, Some, pos, Result, Ok, Err, IsErrAnd, MatchResult}
use Rattle.std.proofs.lemmas.List.{map-append}
use Rattle.depth_first_run.specs.States.{Setting}
use Rattle.deque_machine.specs.Moments.{Moment}
use Rattle.deque_machine.specs.Play as play
use Rattle.deque_machine.specs.Fronts.{stays_here}
use Rattle.deque_machine.specs.Runs.{Pair}
use Rattle.play_rules.specs.declared.stop.Stop.TheVariants.{ArenaFull, DequesFull, StepsSpent, OutOfMemory}
use Rattle.deque_machine.specs.Terms.{Terms}
use Rattle.dfd_core.specs.declared.run.Core.{Core}
use Rattle.play_rules.specs.declared.ends.RunEnd.{RunEnd}
use Rattle.play_rules.specs.declared.ends.RunEnd.TheVariants.{Finished, Stopped}
use Rattle.dfd_core.specs.Cores.{IsAt, SameSetting, end_of, terms_at, workers_of}
use Rattle.dfd_core.specs.Plays.{IsDrawn}
use Rattle.dfd_core.proofs.Underway.{Along, further, stopped_at, ended_at, lacks_at, same_setting, too_many as no_more_turns}
use Rattle.trail_check.specs.Told.{event_in_trail, events_in_trail}
use Rattle.trail_meaning.specs.declared.trail_event.TrailEvent.{TrailEvent}
use Rattle.trail_record.specs.Turns.{with_event, TurnRecorded, RecordsTo, RecordsTurn}
use Rattle.trail_record.specs.Recorded.{PlaysRecorded, PlaysInPart}

-- the core has come along the front of its play, of which this is recorded
abbrev pub AlongRecorded : Setting → Terms → (words : ℕ → ℕ) → (drawn events : ℕ) → Core → List Pair → Moment → List TrailEvent → Type 0
AlongRecorded c terms words drawn events now run m told = (a : Along c terms words drawn events now run m) × (told ≡ events_in_trail a.later)

-- No end is kept. Of the words so many were drawn, and the coming ones are those behind. Since the start there were at least so many
-- events, and they are recorded.
pub record IsRecording (words coming : ℕ → ℕ) (start now : Core) (events : ℕ) (told : List TrailEvent) : Type 0 where
  pub going : end_of now ≡ None
  pub drawn : ℕ
  pub coming_is : IsDrawn words drawn coming
  pub setting : SameSetting start now
  pub along : (c : Setting) (run : List Pair) (m : Moment) → IsAt c start run m
      → ∥ AlongRecorded c (terms_at start) words drawn events now run m told ∥₁

pub begins_recording : (words : ℕ → ℕ) (start : Core) → end_of start ≡ None → IsRecording words words start start 0 []
begins_recording words start none = record {
  going = none;
  drawn = 0;
  coming_is = λ i. ap words (omega arith);
  setting = (refl, refl, refl);
  along = λ c run m at. ∣ (
    record {
      later = [];
      last = m;
      front = stays_here 0 m;
      many = omega arith;
      is_at = subst (λ r. IsAt c start r m) (sym (append-nil run)) at;
    },
    refl,
  ) ∣₁;
}

-- an answer that is an error
pub at_error : {T E : Type 0} (Q : T → Type 0) (P : Type 0) (r : Result T E) (e : E) → IsErrAnd r (λ y. y ≡ e) → P → MatchResult r Q (λ _. P)
at_error Q P (Ok x) e is part = absurd is
at_error Q P (Err y) e is part = part

-- the record of one event more
told_further : (later : List Pair) (pair : Pair) (told : List TrailEvent) (event : Option TrailEvent) → told ≡ events_in_trail later → event ≡ Some (event_in_trail pair)
    → with_event told event ≡ events_in_trail (later ++ pair ∷ [])
told_further later pair told event is one = ap (with_event told) one ∙ ap (λ t. t ++ event_in_trail pair ∷ []) is ∙ sym (map-append event_in_trail later (pair ∷ []))

recorded_prop : (c : Setting) (terms : Terms) (words coming : ℕ → ℕ) (after : Core) (run : List Pair) (m : Moment) (end : RunEnd) (told : List TrailEvent)
    → IsProp (PlaysRecorded c terms words coming after run m end told)
recorded_prop c terms words coming after run m (Finished finish) told = ∥∥₁_prop
recorded_prop c terms words coming after run m (Stopped (ArenaFull live asked)) told = ∥∥₁_prop
recorded_prop c terms words coming after run m (Stopped (DequesFull deques)) told = ∥∥₁_prop
recorded_prop c terms words coming after run m (Stopped (StepsSpent limit)) told = ∥∥₁_prop
recorded_prop c terms words coming after run m (Stopped OutOfMemory) told = ∥∥₁_prop

module _ (words coming later : ℕ → ℕ) (start now after : Core) (events : ℕ) (told : List TrailEvent) (u : IsRecording words coming start now events told)
    (event : Option TrailEvent) (turn : RecordsTurn coming later now after event) (setting : SameSetting now after) where
  turns_from : (c : Setting) (run : List Pair) (m : Moment) → IsAt c now run m
      → RecordsTo c (terms_at start) coming turn.drawn after run m event (end_of after)
  turns_from c run m at = subst (λ x. RecordsTo c x coming turn.drawn after run m event (end_of after)) u.setting.2 (turn.turns c run m at)

  module _ (c : Setting) (run : List Pair) (m : Moment) (a : AlongRecorded c (terms_at start) words u.drawn events now run m told) where
    one_further : TurnRecorded c (terms_at start) coming turn.drawn after (run ++ a.0.later) a.0.last event
        → AlongRecorded c (terms_at start) words (u.drawn + turn.drawn) (events + 1) after run m (with_event told event)
    unfolding further
    one_further g = (
      further c (terms_at start) words coming u.drawn turn.drawn events u.coming_is now after run m a.0 g.goes,
      told_further a.0.later g.goes.pair told event a.1 g.event_is,
    )

    unchanged : event ≡ None → with_event told event ≡ events_in_trail a.0.later
    unchanged none = ap (with_event told) none ∙ a.1

    recorded_to : (end : RunEnd) → end_of after ≡ Some end → RecordsTo c (terms_at start) coming turn.drawn after (run ++ a.0.later) a.0.last event (Some end)
        → PlaysRecorded c (terms_at start) words later after run m end (with_event told event)
    unfolding further ended_at stopped_at lacks_at
    recorded_to (Finished finish) is turns = ∥∥₁_map turns (λ g. (
      ended_at c (terms_at start) words coming u.drawn turn.drawn events u.coming_is now after run m a.0 later turn.later_is (setting.2 ∙ u.setting.2) finish is g.goes,
      told_further a.0.later g.goes.pair told event a.1 g.event_is,
    ))
    recorded_to (Stopped (ArenaFull live asked)) is turns = ∥∥₁_map turns.1 (λ s.
        (stopped_at c (terms_at start) words coming u.drawn turn.drawn events u.coming_is now after run m a.0 later turn.later_is (play.arena_full (pos live) asked) s, unchanged turns.0))
    recorded_to (Stopped (DequesFull deques)) is turns = ∥∥₁_map turns.1 (λ s.
        (stopped_at c (terms_at start) words coming u.drawn turn.drawn events u.coming_is now after run m a.0 later turn.later_is (play.deques_full deques) s, unchanged turns.0))
    recorded_to (Stopped (StepsSpent limit)) is turns = ∥∥₁_map turns.1 (λ s.
        (stopped_at c (terms_at start) words coming u.drawn turn.drawn events u.coming_is now after run m a.0 later turn.later_is (play.steps_spent limit) s, unchanged turns.0))
    recorded_to (Stopped OutOfMemory) is turns = ∥∥₁_map turns.1 (λ l.
        (lacks_at c (terms_at start) words coming u.drawn turn.drawn events u.coming_is now after run m a.0 later turn.later_is l, unchanged turns.0))

  pub goes_on_by : end_of after ≡ None → IsRecording words later start after (events + 1) (with_event told event)
  goes_on_by none = record {
    going = none;
    drawn = u.drawn + turn.drawn;
    coming_is = λ i. turn.later_is i ∙ u.coming_is (turn.drawn + i) ∙ ap words (omega arith);
    setting = same_setting start now after u.setting setting;
    along = λ c run m at. ∥∥₁_elim (u.along c run m at) ∥∥₁_prop (λ a.
        ∥∥₁_map (subst (RecordsTo c (terms_at start) coming turn.drawn after (run ++ a.0.later) a.0.last event) none (turns_from c (run ++ a.0.later) a.0.last a.0.is_at))
        (one_further c run m a));
  }

  pub ends_by : (end : RunEnd) → end_of after ≡ Some end → (c : Setting) (run : List Pair) (m : Moment) → IsAt c start run m
      → PlaysRecorded c (terms_at start) words later after run m end (with_event told event)
  ends_by end is c run m at = ∥∥₁_elim (u.along c run m at) (recorded_prop c (terms_at start) words later after run m end (with_event told event)) (λ a.
      recorded_to c run m a end is
      (subst (RecordsTo c (terms_at start) coming turn.drawn after (run ++ a.0.later) a.0.last event) is (turns_from c (run ++ a.0.later) a.0.last a.0.is_at)))

  pub setting_by : SameSetting start after
  setting_by = same_setting start now after u.setting setting

-- where no memory is left for the record, the core is at a moment of the front
pub stops_in_part : (words coming : ℕ → ℕ) (start now : Core) (events : ℕ) (told : List TrailEvent) → IsRecording words coming start now events told
    → (c : Setting) (run : List Pair) (m : Moment) → IsAt c start run m → PlaysInPart c (terms_at start) words coming now run m
stops_in_part words coming start now events told u c run m at = ∥∥₁_map (u.along c run m at) (λ a. record {
  later = a.0.later;
  last = a.0.last;
  drawn = u.drawn;
  front = a.0.front;
  is_at = a.0.is_at;
  rest = u.coming_is;
})

-- no play has so many events
pub too_many : (words coming : ℕ → ℕ) (start now : Core) (events : ℕ) (told : List TrailEvent) → IsRecording words coming start now events told
    → 5 * (terms_at start).limits.actions + 2 * workers_of start + 1 ≤ events → ⊥
too_many words coming start now events told u many = no_more_turns words coming start now events (record {
  going = u.going;
  drawn = u.drawn;
  coming_is = u.coming_is;
  setting = u.setting;
  along = λ c run m at. ∥∥₁_map (u.along c run m at) (λ a. a.0);
}) many
