-- What an answer says of the event.
use Rattle.std.proofs.Common.{◌≡◌, inl, inr, refl, sym, ap, subst, ◌∙◌}
use Rattle.std.proofs.lemmas.Option.{none-some, same_Some}
use Rattle.std.specs.Prelude.{Option, None, Some, Result, Ok, Err}
use Rattle.thread_points.specs.Passed.States.{Setting}
use Rattle.open_periods.specs.Passed.Moments.{Moment}
use Rattle.open_periods.specs.Passed.Terms.{Terms}
use Rattle.play_rules.specs.declared.ends.RunEnd.{RunEnd}
use Rattle.play_rules.specs.declared.ends.RunEnd.TheVariants.{Finished, Stopped}
use Rattle.play_rules.specs.declared.stop.Stop.{Stop}
use Rattle.scheduler_state.specs.declared.event.Event.{Event}
use Rattle.scheduler_state.specs.declared.stepped.Stepped.{Stepped}
use Rattle.scheduler_state.specs.declared.stepped.Stepped.TheVariants.{Stole, Acted, Suspended, GaveUp, Nothing, Over}
use Rattle.scheduler_state.specs.Ends.{KeepsEnd}
use Rattle.scheduler_state.specs.Told.{IsTold}
use Rattle.scheduler_state.proofs.Differing.{ok_or_err, same_err, some_or_none}

-- a step answers that nothing can be done where the event tells it
pub nothing_told : (stepped : Stepped) (result : Result (Option Event) Stop) → IsTold stepped result → result ≡ Ok None → stepped ≡ Nothing
nothing_told (Stole deque period) result told is = absurd (some_or_none _ (sym told ∙ is))
nothing_told (Acted id) result told is = absurd (some_or_none _ (sym told ∙ is))
nothing_told (Suspended id) result told is = absurd (some_or_none _ (sym told ∙ is))
nothing_told (GaveUp deque) result told is = absurd (some_or_none _ (sym told ∙ is))
nothing_told Nothing result told is = refl
nothing_told (Over (Finished finish)) result told is = absurd told
nothing_told (Over (Stopped stop)) result told is = absurd (ok_or_err _ _ (sym is ∙ told))

-- a step that met a stop answers that it is over
pub stop_told : (stepped : Stepped) (stop : Stop) → IsTold stepped (Err stop) → stepped ≡ Over (Stopped stop)
stop_told (Stole deque period) stop told = absurd (ok_or_err _ _ (sym told))
stop_told (Acted id) stop told = absurd (ok_or_err _ _ (sym told))
stop_told (Suspended id) stop told = absurd (ok_or_err _ _ (sym told))
stop_told (GaveUp deque) stop told = absurd (ok_or_err _ _ (sym told))
stop_told Nothing stop told = absurd (ok_or_err _ _ (sym told))
stop_told (Over (Finished finish)) stop told = absurd told
stop_told (Over (Stopped other)) stop told = ap (λ s. Over (Stopped s)) (sym (same_err stop other told))

is_stop : RunEnd → Type 0
is_stop (Finished finish) = ⊥
is_stop (Stopped stop) = Unit {0}

-- an event leaves no stop
pub no_stop_kept : (c : Setting) (terms : Terms) (m : Moment) (stop : Stop) → KeepsEnd c terms (Some (Stopped stop)) m → ⊥
unfolding is_stop
no_stop_kept c terms m stop keeps = elim keeps [
  | inl going ↦ none-some _ (sym going.1)
  | inr over ↦ subst is_stop (same_Some _ _ over.1) tt
]
