-- Where a thread comes to by one step, and what it keeps.
use Rattle.std.proofs.Common.{inl, inr, ◌≡◌, ℕ, List, [], ◌∷◌, ◌++◌, Result, Ok, Err, Option, Some, None, refl, sym, ◌∙◌, subst}
use Rattle.std.specs.Prelude.{map, ◌⊎◌, IfOk, MatchResult}
use Rattle.std.specs.declared.alloc.AllocError.{AllocError}
use Rattle.std.proofs.Math.Logic.{∥∥₁_elim, ∥∥₁_map}
use denote.Struct.Props.{props}
use Rattle.par_tree.specs.Tree.{Func}
use Rattle.thread_state.specs.Passed.States.{Setting, State, Item, holdings}
use Rattle.thread_state.specs.Passed.Run.{actions_of}
use Rattle.thread_state.specs.Passed.Middle as middles
use Rattle.thread_state.specs.Passed.Middle.{step_frame}
use Rattle.node_table.specs.Names.{slot_names}
use Rattle.node_table.specs.Table.{Table}
use Rattle.thread_points.specs.Threads.{IsThread}
use Rattle.thread_stack.specs.declared.frame.Frame.{Frame}
use Rattle.thread_stack.specs.Frames.{AreFrames, RunsIn}
use Rattle.thread_output.specs.Telling.{Tells}
use Rattle.thread_state.specs.declared.state.ThreadState.{ThreadState}
use Rattle.thread_state.proofs.Held.{holdings_are}
use Rattle.thread_state.specs.Settings.{IsSettingOf}
use Rattle.thread_run.specs.Stands.{InState}
use Rattle.thread_run.specs.declared.ready.Ready.{Ready}
use Rattle.thread_run.specs.declared.run.ThreadRun.{ThreadRun}
use Rattle.thread_run.specs.Functions.{frames_of}
use Rattle.thread_run.specs.Going.{Knowing, Comes}
use Rattle.thread_run.specs.Stepping.{KnowingAt, IsKnownAt, Goes, RunsBy, Wants, StepsRun, KeepsCounts, GoesOn, ComesBy, KnownAgain}
use Rattle.thread_run.proofs.Threads.{quiet_step}

-- ---- where it comes to

goes_on : (t : Table) (k : ℕ) (c : Setting) (before after : ThreadRun) (f : middles.Frame) (fs : List middles.Frame) (s : State) (part : List Item) (older : List (List Item)) → IsSettingOf t k c → IsThread c (f ∷ fs) s (part ∷ older)
    → Tells before.told part → Goes c t before after s (step_frame c f fs s) → GoesOn c t (f ∷ fs) older after
goes_on t k c before after f fs s part older of_table thread tells h =
    let q = quiet_step c of_table.owned f fs s part older h.new thread h.grown h.quiet in
    record {
      functions = h.functions;
      frames = (step_frame c f fs s).frames;
      at = (step_frame c f fs s).state;
      part = part ++ h.new;
      thread = q.thread;
      children = q.children;
      going = record { runs = h.runs; frames = h.frames; state = h.state; tells = h.tells part tells };
    }

pub comes_by : (t : Table) (k : ℕ) (before after : ThreadRun) (x : Frame) (result : Result (Option Ready) AllocError) → StepsRun t k before x result after → ComesBy t k before x result after
comes_by t k before after x (Err e) steps = λ c gs own s part older of_table thread runs frames state tells. tt
comes_by t k before after x (Ok None) steps = λ c gs own s part older of_table thread runs frames state tells. by c gs own s part older of_table thread runs frames state tells
  where
    by : (c : Setting) (gs : List Func) (own : List middles.Frame) (s : State) (part : List Item) (older : List (List Item)) → IsSettingOf t k c → IsThread c own s (part ∷ older) → RunsIn c.program t before.func gs
        → AreFrames c.program t gs (x ∷ frames_of before) own → InState gs before.state s → Tells before.told part → GoesOn c t own older after
    by c gs [] s part older of_table thread runs frames state tells = absurd frames
    by c gs (f ∷ fs) s part older of_table thread runs frames state tells = goes_on t k c before after f fs s part older of_table thread tells (steps c gs f fs s of_table runs frames.0 frames.1 state)
comes_by t k before after x (Ok (Some ready)) steps = λ c gs own s part older of_table thread runs frames state tells. by c gs own s part older of_table thread runs frames state tells
  where
    by : (c : Setting) (gs : List Func) (own : List middles.Frame) (s : State) (part : List Item) (older : List (List Item)) → IsSettingOf t k c → IsThread c own s (part ∷ older) → RunsIn c.program t before.func gs
        → AreFrames c.program t gs (x ∷ frames_of before) own → InState gs before.state s → Tells before.told part → Comes c t own older after ready
    by c gs [] s part older of_table thread runs frames state tells = absurd frames
    by c gs (f ∷ fs) s part older of_table thread runs frames state tells =
        let h = steps c gs f fs s of_table runs frames.0 frames.1 state in
        record {
          functions = gs;
          frames = f ∷ fs;
          at = s;
          part = part;
          thread = thread;
          children = refl;
          before = record { next = h.0; state = h.1; tells = h.2 part tells };
        }

-- it is known again where it is
known_again : (t : Table) (k : ℕ) (before after : ThreadRun) (x : Frame) (o : Option Ready) → IsKnownAt t k before x → ComesBy t k before x (Ok o) after → KnownAgain t k after o
known_again t k before after x (Some ready) known comes = tt
known_again t k before after x None known comes = ∥∥₁_map known (λ m. again m (comes m.setting m.functions m.own m.at m.part m.older m.of_table m.thread m.runs m.frames m.state m.tells))
  where
    again : (m : KnowingAt t k before x) → GoesOn m.setting t m.own m.older after → Knowing t k after
    again m g = record {
      setting = m.setting;
      of_table = m.of_table;
      functions = g.functions;
      own = g.frames;
      at = g.at;
      part = g.part;
      older = m.older;
      thread = g.thread;
      going = g.going;
    }

pub knows_again : (t : Table) (k : ℕ) (before after : ThreadRun) (x : Frame) (result : Result (Option Ready) AllocError) → IsKnownAt t k before x → StepsRun t k before x result after → IfOk result (λ o. KnownAgain t k after o)
knows_again t k before after x (Ok o) known steps = known_again t k before after x o known (comes_by t k before after x (Ok o) steps)
knows_again t k before after x (Err e) known steps = tt

-- ---- what it keeps

by_states : (gs hs : List Func) (u v : ThreadState) (s r : State) → InState gs u s → InState hs v r → r.label ≡ s.label → r.done ≡ s.done → r.forks ≡ s.forks → r.faulted ≡ s.faulted → holdings r ≡ holdings s → KeepsCounts u v
by_states gs hs u v s r is at label same_done forks faulted words = (
  at.label ∙ label ∙ sym is.label,
  at.done ∙ same_done ∙ sym is.done,
  at.forks ∙ forks ∙ sym is.forks,
  at.faulted ∙ faulted ∙ sym is.faulted,
  holdings_are (map slot_names hs) v r at ∙ words ∙ sym (holdings_are (map slot_names gs) u s is),
)

same_state : (gs hs : List Func) (u v : ThreadState) (s : State) → InState gs u s → InState hs v s → KeepsCounts u v
same_state gs hs u v s is at = by_states gs hs u v s s is at refl refl refl refl refl

kept : (t : Table) (k : ℕ) (before after : ThreadRun) (x : Frame) (result : Result (Option Ready) AllocError) → StepsRun t k before x result after → KnowingAt t k before x → KeepsCounts before.state after.state
kept t k before after x result steps m = by m.own m.thread m.frames
  where
    quiet : (f : middles.Frame) (fs : List middles.Frame) (hs : List Func) (new : List Item) → IsThread m.setting (f ∷ fs) m.at (m.part ∷ m.older) → InState hs after.state (step_frame m.setting f fs m.at).state
        → (step_frame m.setting f fs m.at).state.items ≡ m.at.items ++ new → actions_of new ≡ [] → KeepsCounts before.state after.state
    quiet f fs hs new thread at grown none =
        let q = quiet_step m.setting m.of_table.owned f fs m.at m.part m.older new thread grown none in
        by_states m.functions hs before.state after.state m.at (step_frame m.setting f fs m.at).state m.state at q.label q.done_so_far q.forks q.faulted q.words

    wanting : (f : middles.Frame) (fs : List middles.Frame) → IsThread m.setting (f ∷ fs) m.at (m.part ∷ m.older) → (w : Wants after m.at (step_frame m.setting f fs m.at)) → KeepsCounts before.state after.state
    wanting f fs thread w = at w.where_it_is
      where
        at : (w.at ≡ m.at) ⊎ ((w.at ≡ (step_frame m.setting f fs m.at).state) × ((step_frame m.setting f fs m.at).state.items ≡ m.at.items ++ w.new) × (actions_of w.new ≡ [])) → KeepsCounts before.state after.state
        at (inl e) = same_state m.functions w.functions before.state after.state m.at m.state (subst (λ (q : State). InState w.functions after.state q) e w.state)
        at (inr e) = quiet f fs w.functions w.new thread (subst (λ (q : State). InState w.functions after.state q) e.0 w.state) e.1 e.2

    one : (f : middles.Frame) (fs : List middles.Frame) → IsThread m.setting (f ∷ fs) m.at (m.part ∷ m.older) → (r : Result (Option Ready) AllocError)
        → MatchResult r (λ o. RunsBy m.setting t m.functions before after f fs m.at o) (λ _. Wants after m.at (step_frame m.setting f fs m.at)) → KeepsCounts before.state after.state
    one f fs thread (Ok None) h = quiet f fs h.functions h.new thread h.state h.grown h.quiet
    one f fs thread (Ok (Some ready)) h = same_state m.functions m.functions before.state after.state m.at m.state h.1
    one f fs thread (Err e) h = wanting f fs thread h

    by : (own : List middles.Frame) → IsThread m.setting own m.at (m.part ∷ m.older) → AreFrames m.setting.program t m.functions (x ∷ frames_of before) own → KeepsCounts before.state after.state
    by [] thread frames = absurd frames
    by (f ∷ fs) thread frames = one f fs thread result (steps m.setting m.functions f fs m.at m.of_table m.runs frames.0 frames.1 m.state)

pub keeps_counts : (t : Table) (k : ℕ) (before after : ThreadRun) (x : Frame) (result : Result (Option Ready) AllocError) → IsKnownAt t k before x → StepsRun t k before x result after → KeepsCounts before.state after.state
keeps_counts t k before after x result known steps = (
  ∥∥₁_elim known (search props) (λ m. (kept t k before after x result steps m).0),
  ∥∥₁_elim known (search props) (λ m. (kept t k before after x result steps m).1),
  ∥∥₁_elim known (search props) (λ m. (kept t k before after x result steps m).2),
  ∥∥₁_elim known (search props) (λ m. (kept t k before after x result steps m).3),
  ∥∥₁_elim known (search props) (λ m. (kept t k before after x result steps m).4),
)
