-- The way of a thread to its next action, step by step.
use Rattle.std.proofs.Common.{◌≡◌, ℕ, ◌≤◌, ◌<◌, List, [], ◌∷◌, ◌++◌, Ok, Option, Some, None, refl, sym, ap, ◌∙◌, subst, arith}
use Rattle.std.specs.Prelude.{reverse}
use Rattle.std.proofs.Math.Logic.{∥∥₁_map}
use Rattle.std.proofs.lemmas.List.{reverse-append}
use Rattle.par_tree.specs.Tree.{Func, Program}
use Rattle.thread_state.specs.Passed.States.{Setting, State, Item}
use Rattle.thread_state.specs.Passed.Middle as middles
use Rattle.node_table.specs.Table.{Table}
use Rattle.thread_points.specs.Threads.{IsThread}
use Rattle.thread_stack.specs.declared.frame.Frame.{Frame}
use Rattle.thread_stack.specs.Frames.{AreFrames, RunsIn}
use Rattle.thread_stack.specs.Measure.{left_to_do}
use Rattle.thread_state.specs.States.{words_held}
use Rattle.thread_state.specs.declared.state.ThreadState.{ThreadState}
use Rattle.thread_state.specs.Settings.{IsSettingOf}
use Rattle.thread_run.specs.declared.ready.Ready.{Ready}
use Rattle.thread_run.specs.declared.ready.Ready.TheVariants.{End}
use Rattle.thread_run.specs.declared.run.ThreadRun.{ThreadRun}
use Rattle.thread_run.specs.Functions.{functions_of, frames_of, frames_before}
use Rattle.thread_run.specs.Going.{IsGoing, Knowing, IsKnown, Comes, Advances}
use Rattle.thread_run.specs.Stepping.{KnowingAt, IsKnownAt, KeepsCounts, KeepsFunctions, GoesOn, ComesTo, ComesBy, KnownAgain, FallsBy, UnderWay}
use Rattle.thread_run.specs.Stands.{InState}
use Rattle.thread_output.specs.Telling.{Tells}

-- what is kept twice
pub counts_trans : (u v w : ThreadState) → KeepsCounts u v → KeepsCounts v w → KeepsCounts u w
counts_trans u v w p q = (q.0 ∙ p.0, q.1 ∙ p.1, q.2 ∙ p.2, q.3 ∙ p.3, q.4 ∙ p.4)

pub begins : (t : Table) (k : ℕ) (start : ThreadRun) → IsKnown t k start → UnderWay t k start start
begins t k start known = record {
  known = known;
  goes = λ c gs own s part older of_table thread going. record { functions = gs; frames = own; at = s; part = part; thread = thread; children = refl; going = going };
  counts = (refl, refl, refl, refl, refl);
  functions = refl;
}

-- a frame is taken off
pub taken_off : (now popped : ThreadRun) (x : Frame) → now.frames.items ≡ popped.frames.items ++ x ∷ [] → frames_of now ≡ x ∷ frames_of popped
taken_off now popped x e = ap (λ (xs : List Frame). reverse xs) e ∙ reverse-append popped.frames.items (x ∷ [])

module _ (t : Table) (k : ℕ) (start now popped : ThreadRun) (x : Frame) (same_func : popped.func ≡ now.func) (same_state : popped.state ≡ now.state) (same_told : popped.told ≡ now.told) (taken : frames_of now ≡ x ∷ frames_of popped) where
  known_at_going : (c : Setting) (gs : List Func) (own : List middles.Frame) (s : State) (part : List Item) → IsGoing c t gs now own s part
      → RunsIn c.program t popped.func gs × AreFrames c.program t gs (x ∷ frames_of popped) own × InState gs popped.state s × Tells popped.told part
  known_at_going c gs own s part g = (
    subst (λ (n : Option ℕ). RunsIn c.program t n gs) (sym same_func) g.runs,
    subst (λ (xs : List Frame). AreFrames c.program t gs xs own) taken g.frames,
    subst (λ (u : ThreadState). InState gs u s) (sym same_state) g.state,
    subst (λ told. Tells told part) (sym same_told) g.tells,
  )

  pub known_at : IsKnown t k now → IsKnownAt t k popped x
  known_at known = ∥∥₁_map known (λ (m : Knowing t k now). at m (known_at_going m.setting m.functions m.own m.at m.part m.going))
    where
      at : (m : Knowing t k now) → RunsIn m.setting.program t popped.func m.functions × AreFrames m.setting.program t m.functions (x ∷ frames_of popped) m.own
          × InState m.functions popped.state m.at × Tells popped.told m.part → KnowingAt t k popped x
      at m h = record { setting = m.setting; of_table = m.of_table; functions = m.functions; own = m.own; at = m.at; part = m.part; older = m.older; thread = m.thread; runs = h.0; frames = h.1; state = h.2; tells = h.3 }

  kept_counts : (after : ThreadRun) → KeepsCounts start.state now.state → KeepsCounts popped.state after.state → KeepsCounts start.state after.state
  kept_counts after p q = counts_trans start.state now.state after.state p (subst (λ (u : ThreadState). KeepsCounts u after.state) same_state q)

  pub counts_after : (after : ThreadRun) → UnderWay t k start now → KeepsCounts popped.state after.state → KeepsCounts start.state after.state
  counts_after after way q = kept_counts after way.counts q

  pub fits_at : UnderWay t k start now → {most : ℕ} → words_held start.state ≤ most → words_held popped.state ≤ most
  fits_at way fits = let e = way.counts.4 in let f = ap (λ (u : ThreadState). words_held u) same_state in omega (arith, e, f, fits)

  -- where a step leads a thread that is on its way
  comes_further : (after : ThreadRun) (o : Option Ready) → UnderWay t k start now → ComesBy t k popped x (Ok o) after → (c : Setting) (gs : List Func) (own : List middles.Frame) (s : State) (part : List Item) (older : List (List Item))
      → IsSettingOf t k c → IsThread c own s (part ∷ older) → IsGoing c t gs start own s part → (g : GoesOn c t own older now) × ComesTo c t g.frames older after o
  comes_further after o way comes c gs own s part older of_table thread going =
      let g = way.goes c gs own s part older of_table thread going in
      let h = known_at_going c g.functions g.frames g.at g.part g.going in
      (g, comes c g.functions g.frames g.at g.part older of_table g.thread h.0 h.1 h.2 h.3)

  pub further : (after : ThreadRun) → UnderWay t k start now → ComesBy t k popped x (Ok None) after → KnownAgain t k after None → KeepsCounts popped.state after.state → KeepsFunctions popped x (Ok None) after → UnderWay t k start after
  further after way comes known counts functions = record {
    known = known;
    goes = λ c gs own s part older of_table thread going. on c own older (comes_further after None way comes c gs own s part older of_table thread going);
    counts = kept_counts after way.counts counts;
    functions = functions ∙ ap (λ (n : Option ℕ). functions_of n (x ∷ frames_of popped)) same_func ∙ ap (λ (xs : List Frame). functions_of now.func xs) (sym taken) ∙ way.functions;
  }
    where
      on : (c : Setting) (own : List middles.Frame) (older : List (List Item)) → (g : GoesOn c t own older now) × GoesOn c t g.frames older after → GoesOn c t own older after
      on c own older h = record { functions = h.1.functions; frames = h.1.frames; at = h.1.at; part = h.1.part; thread = h.1.thread; children = h.1.children ∙ h.0.children; going = h.1.going }

  pub arrives : (after : ThreadRun) (ready : Ready) → UnderWay t k start now → ComesBy t k popped x (Ok (Some ready)) after → Advances t k start (Ok ready) after
  arrives after ready way comes = λ c gs own s part older of_table thread going. on c own older (comes_further after (Some ready) way comes c gs own s part older of_table thread going)
    where
      on : (c : Setting) (own : List middles.Frame) (older : List (List Item)) → (g : GoesOn c t own older now) × Comes c t g.frames older after ready → Comes c t own older after ready
      on c own older h = record { functions = h.1.functions; frames = h.1.frames; at = h.1.at; part = h.1.part; thread = h.1.thread; children = h.1.children ∙ h.0.children; before = h.1.before }

  pub functions_there : (after : ThreadRun) (ready : Ready) → UnderWay t k start now → KeepsFunctions popped x (Ok (Some ready)) after → functions_of after.func (frames_before ready (frames_of after)) ≡ functions_of start.func (frames_of start)
  functions_there after ready way functions =
      functions ∙ ap (λ (n : Option ℕ). functions_of n (x ∷ frames_of popped)) same_func ∙ ap (λ (xs : List Frame). functions_of now.func xs) (sym taken) ∙ way.functions

  pub falls : (after : ThreadRun) → FallsBy t popped x after None → left_to_do t after.state.turns (frames_of after) < left_to_do t now.state.turns (frames_of now)
  falls after less =
      let e : left_to_do t now.state.turns (frames_of now) ≡ left_to_do t popped.state.turns (x ∷ frames_of popped) =
      ap (λ (xs : List Frame). left_to_do t now.state.turns xs) taken ∙ ap (λ (u : ThreadState). left_to_do t u.turns (x ∷ frames_of popped)) (sym same_state) in
      omega (arith, e, less)

-- ---- the end

none_left : (p : Program) (t : Table) (gs : List Func) (own : List middles.Frame) → AreFrames p t gs [] own → own ≡ []
none_left p t gs [] h = refl
none_left p t gs (f ∷ fs) h = absurd h

pub ends : (t : Table) (k : ℕ) (start now after : ThreadRun) → after.func ≡ now.func → after.state ≡ now.state → after.told ≡ now.told → frames_of now ≡ [] → frames_of after ≡ [] → UnderWay t k start now
    → Advances t k start (Ok End) after
ends t k start now after same_func same_state same_told none empty way = λ c gs own s part older of_table thread going. on c own older (way.goes c gs own s part older of_table thread going)
  where
    on : (c : Setting) (own : List middles.Frame) (older : List (List Item)) → GoesOn c t own older now → Comes c t own older after End
    on c own older g =
        let frames = subst (λ (xs : List Frame). AreFrames c.program t g.functions xs g.frames) none g.going.frames in
        record {
          functions = g.functions;
          frames = g.frames;
          at = g.at;
          part = g.part;
          thread = g.thread;
          children = g.children;
          before = record {
            next = record {
              runs = subst (λ (n : Option ℕ). RunsIn c.program t n g.functions) (sym same_func) g.going.runs;
              frames = subst (λ (xs : List Frame). AreFrames c.program t g.functions xs g.frames) (sym empty) frames;
              none_left = none_left c.program t g.functions g.frames frames;
            };
            state = subst (λ (u : ThreadState). InState g.functions u g.at) (sym same_state) g.going.state;
            tells = subst (λ told. Tells told g.part) (sym same_told) g.going.tells;
          };
        }
