-- What the result of the root tells of the whole run.
use Rattle.std.proofs.Common.{◌≡◌, List, [], ◌∷◌, refl, sym, ◌∙◌, subst}
use Rattle.depth_first_list.specs.Actions as actions
use Rattle.thread_state.specs.Passed.States.{Setting, State, Item, next_action}
use Rattle.thread_state.specs.Passed.Run.{whole}
use Rattle.node_table.specs.Table.{Table}
use Rattle.thread_output.specs.Telling.{Tells}
use Rattle.thread_run.proofs.Passed.Telling.{tells_whole}
use Rattle.thread_frames.specs.Views.{ended_label}
use Rattle.thread_frames.specs.Points.{IsEndOf}
use Rattle.thread_frames.specs.declared.ended.Ended.{Ended}
use Rattle.thread_frames.proofs.Acting.{quiet_behind}

-- it tells the items of the whole run
pub whole_told : (c : Setting) (t : Table) (result : Ended) → IsEndOf c t (ended_label result) result.func result → ended_label result ≡ []
    → Tells result.told (State.items (whole c))
whole_told c t result h root =
    let all = (tells_whole c h.last h.items h.thread (h.labelled ∙ root)).1 in
    subst (λ (xs : List Item). Tells result.told xs) (sym all) (quiet_behind result.told h.items (next_action actions.ends 0 h.last ∷ []) h.tells refl refl)
