-- A step without an action, told by the points of threads.
use Rattle.std.proofs.Common.{inl, inr, ◌≡◌, suc, List, [], ◌∷◌, ◌++◌, length, refl, sym, ◌∙◌, ap, subst, arith, append_assoc}
use Rattle.std.specs.Prelude.{◌⊎◌}
use Rattle.std.proofs.lemmas.List.{append_cancel_left}
use Rattle.depth_first_list.specs.Actions as actions
use Rattle.depth_first_list.specs.Actions.{Action, record_words}
use Rattle.par_ownership.specs.Ownership.{Ownership}
use Rattle.thread_state.specs.Passed.States.{Setting, State, Item, next_action, given_back, holdings}
use Rattle.thread_state.specs.Passed.Run.{actions_of}
use Rattle.thread_state.specs.Passed.Middle.{Frame, does, answers, rejoins, answers_main, allocates, awaits, joins, Middle, step_frame}
use Rattle.thread_state.proofs.Passed.Covered.{actions_append}
use Rattle.thread_points.specs.Points.{Each, IsOwn, IsPlain, step_of, marked, mark_of, StepsAlone, StepForks}
use Rattle.thread_points.specs.Threads.{IsThread, open_children}
use Rattle.thread_points.proofs.Putting.{frame_put}
use Rattle.thread_points.proofs.Alone.{joined_grown, alone_or_forks}
use Rattle.thread_points.proofs.Telling.{thread_steps}
use Rattle.ownership_laws.proofs.Keeping.{quiet_keeps}

-- ---- open children

pub plain_children : (put fs : List Frame) → Each IsPlain put → open_children (put ++ fs) ≡ open_children fs
plain_children [] fs p = refl
plain_children (does part ∷ put) fs p = plain_children put fs p.1
plain_children (answers ret params args t ∷ put) fs p = plain_children put fs p.1
plain_children (rejoins b l r ∷ put) fs p = plain_children put fs p.1
plain_children (answers_main ret ∷ put) fs p = plain_children put fs p.1
plain_children (allocates b n ∷ put) fs p = plain_children put fs p.1
plain_children (awaits named assigned own parent ∷ put) fs p = absurd p.0
plain_children (joins assigned child d ∷ put) fs p = absurd p.0

pub plain_child : (f : Frame) (fs : List Frame) → IsPlain f → open_children (f ∷ fs) ≡ open_children fs
plain_child f fs p = plain_children (f ∷ []) fs (p, tt)

-- a step leaves the open children behind its frame as they are
pub children_same : (c : Setting) (f : Frame) (fs : List Frame) (s : State) → IsOwn f → open_children (step_frame c f fs s).frames ≡ open_children fs
children_same c f fs s own = ap (λ (m : Middle). open_children m.frames) (frame_put c f fs s) ∙ by (alone_or_forks c f s own)
  where
    by : StepsAlone c f s ⊎ StepForks c f s → open_children ((step_of c f s).frames ++ fs) ≡ open_children fs
    by (inl k) = plain_children (step_of c f s).frames fs k.plain
    by (inr k) = ap (λ (m : Middle). open_children (m.frames ++ fs)) k.forked ∙ plain_children k.later fs k.plain

-- ---- a step without an action

one_action : (new : List Item) (before : List Item) (a : Action) → actions_of new ≡ [] → actions_of before ++ a ∷ [] ≡ actions_of new → ⊥
one_action new before a none some = never (actions_of before) (some ∙ none)
  where
    never : (as_ : List Action) → as_ ++ a ∷ [] ≡ [] → ⊥
    never [] e = let x : ⊥ = cc in x
    never (b ∷ bs) e = let x : ⊥ = cc in x

-- it changes its thread alone
pub quiet_alone : (c : Setting) (f : Frame) (s : State) (new : List Item) → IsOwn f → (step_of c f s).state.items ≡ s.items ++ new → actions_of new ≡ []
    → (k : StepsAlone c f s) × (k.new ≡ new)
quiet_alone c f s new own grown quiet = by (alone_or_forks c f s own)
  where
    by : StepsAlone c f s ⊎ StepForks c f s → (k : StepsAlone c f s) × (k.new ≡ new)
    by (inl k) = (k, append_cancel_left s.items k.new new (sym k.grown ∙ grown))
    by (inr k) =
        let fork : Item = next_action (actions.forks (suc s.forks)) record_words (marked f s) in
        let items : (s.items ++ mark_of f) ++ fork ∷ [] ≡ s.items ++ new = sym (ap (λ (m : Middle). m.state.items) k.forked) ∙ grown in
        let all : mark_of f ++ fork ∷ [] ≡ new = append_cancel_left s.items (mark_of f ++ fork ∷ []) new (sym (append_assoc s.items (mark_of f) (fork ∷ [])) ∙ items) in
        absurd (one_action new (mark_of f) _ quiet (sym (actions_append (mark_of f) (fork ∷ [])) ∙ ap actions_of all))

-- its frame joins no child
pub quiet_plain : (c : Setting) (f : Frame) (s : State) (new : List Item) → IsOwn f → (step_of c f s).state.items ≡ s.items ++ new → actions_of new ≡ [] → IsPlain f
quiet_plain c (does part) s new own grown quiet = tt
quiet_plain c (answers ret params args t) s new own grown quiet = tt
quiet_plain c (rejoins b l r) s new own grown quiet = tt
quiet_plain c (answers_main ret) s new own grown quiet = tt
quiet_plain c (allocates b n) s new own grown quiet = tt
quiet_plain c (awaits named assigned mine parent) s new own grown quiet = absurd own
quiet_plain c (joins assigned child d) s new own grown quiet =
    let join : Item = next_action (actions.joins child) (given_back s.faulted d.faulted d s) s in
    let all : join ∷ [] ≡ new = append_cancel_left s.items (join ∷ []) new (sym (joined_grown assigned child d s) ∙ grown) in
    absurd (one_action new [] _ quiet (ap actions_of all))

-- what a thread comes to by it
pub record QuietStep (c : Setting) (f : Frame) (fs : List Frame) (s : State) (part : List Item) (older : List (List Item)) (new : List Item) : Type 0 where
  pub thread : IsThread c (step_frame c f fs s).frames (step_frame c f fs s).state ((part ++ new) ∷ older)
  pub children : open_children (step_frame c f fs s).frames ≡ open_children (f ∷ fs)
  pub label : (step_frame c f fs s).state.label ≡ s.label
  pub done_so_far : (step_frame c f fs s).state.done ≡ s.done
  pub forks : (step_frame c f fs s).state.forks ≡ s.forks
  pub faulted : (step_frame c f fs s).state.faulted ≡ s.faulted
  pub words : holdings (step_frame c f fs s).state ≡ holdings s

pub quiet_step : (c : Setting) → Ownership c.program → (f : Frame) (fs : List Frame) (s : State) (part : List Item) (older : List (List Item)) (new : List Item)
    → IsThread c (f ∷ fs) s (part ∷ older) → (step_frame c f fs s).state.items ≡ s.items ++ new → actions_of new ≡ [] → QuietStep c f fs s part older new
quiet_step c owned f fs s part older new thread grown quiet =
    let own : IsOwn f = thread.at_point.all_own.0 in
    let put = frame_put c f fs s in
    let same : (step_frame c f fs s).state ≡ (step_of c f s).state = ap (λ (m : Middle). m.state) put in
    let items : (step_of c f s).state.items ≡ s.items ++ new = sym (ap (λ (x : State). x.items) same) ∙ grown in
    let alone = quiet_alone c f s new own items quiet in
    let plain = quiet_plain c f s new own items quiet in
    let k : StepsAlone c f s = alone.0 in
    let none : length (actions_of k.new) ≡ 0 = ap (λ xs. length (actions_of xs)) alone.1 ∙ ap length quiet in
    let counted = k.counted in
    let same_done : (step_of c f s).state.done ≡ s.done = omega (arith, counted, none) in
    let keeps = quiet_keeps c owned f fs s thread.at_point plain k.plain same_done in
    let all = thread_steps c f fs s part older new thread plain k.plain items in
    record {
      thread = subst (λ (m : Middle). IsThread c m.frames m.state ((part ++ new) ∷ older)) (sym put) all;
      children = children_same c f fs s own ∙ sym (plain_child f fs plain);
      label = ap (λ (x : State). x.label) same ∙ k.same_label;
      done_so_far = ap (λ (x : State). x.done) same ∙ same_done;
      forks = ap (λ (x : State). x.forks) same ∙ k.same_forks;
      faulted = ap (λ (x : State). x.faulted) same ∙ keeps.0;
      words = ap holdings same ∙ keeps.1;
    }
