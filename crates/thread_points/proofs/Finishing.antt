-- Running out the frames of a thread keeps its label.
use Rattle.std.specs.Prelude.{◌≡◌, List, [], ◌∷◌, refl}
use Rattle.std.proofs.Common.{◌∙◌}
use Rattle.depth_first_run.specs.Passed.Actions as actions
use Rattle.depth_first_run.specs.Stores.{block_words}
use Rattle.depth_first_run.specs.States.{Setting, State, with_action}
use Rattle.depth_first_run.specs.Calls.{with_answer, returned}
use Rattle.depth_first_run.specs.Run.{on_store, rejoin_block, ignore_answer}
use Rattle.depth_first_run.specs.Middle.{Part, statements, tree, Frame, does, answers, rejoins, answers_main, allocates, awaits, joins, allocated, part_done, frame_done, finish}
use Rattle.depth_first_run.proofs.Keeping.{Keeps, KeepsAll, keeps_same, keeps_trans, acting_keeps, storing_keeps, unless_faulted_keeps, answering_keeps, returned_keeps, joined_keeps, running_tree_keeps, run_keeps}
use Rattle.thread_points.specs.Points.{Each, IsOwn, IsAt}
use Rattle.thread_points.proofs.Walking.{end_point}

part_keeps : (c : Setting) (p : Part) (s : State) → Keeps s (part_done c p s)
unfolding KeepsAll
part_keeps c (statements b) s = run_keeps c b s
part_keeps c (tree shape) s = running_tree_keeps c shape s

own_keeps : (c : Setting) (f : Frame) (s : State) → IsOwn f → Keeps s (frame_done c f s)
own_keeps c (does part) s o = part_keeps c part s
own_keeps c (answers ret params args t) s o =
    unless_faulted_keeps (with_answer ret (returned params args t)) s
    (answering_keeps ret (returned params args t) s (λ a st. returned_keeps params args t a (record s { store = st })))
own_keeps c (rejoins b l r) s o = unless_faulted_keeps (on_store (rejoin_block b l r)) s (storing_keeps _ s)
own_keeps c (answers_main ret) s o =
    unless_faulted_keeps (with_answer ret ignore_answer) s (answering_keeps ret ignore_answer s (λ a st. keeps_same (record s { store = st })))
own_keeps c (allocates b n) s o =
    let t : State = with_action actions.allocates (block_words n) s in
    keeps_trans s t (allocated b n s) (acting_keeps actions.allocates (block_words n) s) (storing_keeps _ t)
own_keeps c (awaits named assigned own parent) s o = absurd o
own_keeps c (joins assigned child d) s o = joined_keeps assigned child d s

pub finish_label : (c : Setting) (own : List Frame) (s : State) → Each IsOwn own → State.label (finish c own s) ≡ s.label
unfolding finish
finish_label c [] s o = refl
finish_label c (f ∷ own) s o = finish_label c own (frame_done c f s) o.1 ∙ (own_keeps c f s o.0).label

pub finishes : (c : Setting) (own : List Frame) (s : State) → IsAt c own s → IsAt c [] (finish c own s) × (State.label (finish c own s) ≡ s.label)
finishes c own s at = (end_point c own s at, finish_label c own s at.all_own)
