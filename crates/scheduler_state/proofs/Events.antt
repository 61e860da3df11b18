-- What holds after each event, whatever machine it is of.
use Rattle.std.proofs.Common.{◌≡◌, ℕ, ◌≤◌, List, [], length, inl, inr, refl, arith}
use Rattle.std.specs.Prelude.{Bool, true, false, cond, None}
use Rattle.std.proofs.lemmas.Bool.{cases_lt}
use Rattle.thread_points.specs.Passed.States.{Setting}
use Rattle.open_periods.specs.Passed.Books.{booked}
use Rattle.open_periods.specs.Passed.Moments.{Moment}
use Rattle.open_periods.specs.Passed.Machine as machine
use Rattle.open_periods.specs.Passed.Machine.{Event, steals, does, suspends, gives_up, May, HasEnded}
use Rattle.open_periods.specs.Passed.Play as play
use Rattle.open_periods.specs.Passed.Play.{Limits, Meets, no_words, no_steps}
use Rattle.open_periods.specs.Passed.DequeMachineRuns.{Pair}
use Rattle.open_periods.specs.Passed.Terms.{Terms, machine_of}
use Rattle.node_table.specs.Table.{Table}
use Rattle.open_periods.specs.Tables.{periods_of}
use Rattle.moment_laws.proofs.Told.{actions_are_added, others_add_none}
use Rattle.thread_frames.specs.Roots.{end_of_root}
use Rattle.thread_state.specs.Settings.{IsSettingOf}
use Rattle.scheduler_state.specs.declared.event.Event.{Event as Told}
use Rattle.scheduler_state.specs.Held.{Held}
use Rattle.scheduler_state.specs.Moments.{IsSound}
use Rattle.scheduler_state.specs.Outcomes.{GoesOn}
use Rattle.scheduler_state.specs.Ends.{is_of_root, end_behind_event, KeepsEnd}
use Rattle.scheduler_state.proofs.Roots.{root_result, end_is_kept}
use Rattle.scheduler_state.proofs.RootActs.{not_ended_by}

-- no event makes more actions than may be done
pub few_done : (s : machine.Setting) (limits : Limits) (m next : Moment) (worker : ℕ) (event : Event) → May s m worker event next
    → ((stop : play.Stop) → ¬ Meets s limits m event stop) → length (booked m.books) ≤ limits.actions → length (booked next.books) ≤ limits.actions
few_done s limits m next worker (does place) may free few =
    let added = (actions_are_added s m next worker place may).booked in
    elim (cases_lt (length (booked m.books)) limits.actions) [
      | inl less ↦ omega (arith, added, less)
      | inr spent ↦ absurd (free _ (no_steps place (λ fills. free _ (no_words place fills)) (omega (arith, spent))))
    ]
few_done s limits m next worker suspends may free few = let added = ((others_add_none s m next worker).0 may).booked in omega (arith, added, few)
few_done s limits m next worker gives_up may free few = let added = ((others_add_none s m next worker).1 may).booked in omega (arith, added, few)
few_done s limits m next worker (steals place id) may free few = let added = ((others_add_none s m next worker).2 place id may).booked in omega (arith, added, few)

-- after an event the end is kept that the root gives, if it has ended with it
pub event_keeps_end : (t : Table) (k : ℕ) (terms : Terms) (after : Held) → IsSound t k terms after → (c : Setting) → IsSettingOf t k c
    → (run : List Pair) (m : Moment) (worker word : ℕ) → ¬ HasEnded (machine_of c terms) m []
    → (told : Told) (g : GoesOn c terms after worker word run m told) → KeepsEnd c terms (end_behind_event told (root_result after)) g.next
event_keeps_end t k terms after sound c of run m worker word going told g = by_root (is_of_root told) refl
  where
    by_root : (b : Bool) → is_of_root told ≡ b → KeepsEnd c terms (cond b (end_of_root (root_result after)) None) g.next
    by_root true is = end_is_kept t k terms after sound c of _ g.next g.stands
    by_root false is = inl (not_ended_by (machine_of c terms) m g.next worker (periods_of after.table) g.event told g.may g.tells is going, refl)
