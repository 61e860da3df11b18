-- A thread that goes a way of flat code at once is on its way.
use Rattle.std.proofs.Common.{inl, inr, ◌≡◌, ℕ, zero, suc, ◌+◌, ◌-◌, ◌≤◌, List, [], ◌∷◌, ◌++◌, length, take, map, Option, refl, sym, ap, ◌∙◌}
use Rattle.std.proofs.Common.{subst, arith, length-append}
use Rattle.std.specs.Prelude.{reverse, vec_len}
use Rattle.std.specs.declared.vec.Vec.{Vec}
use Rattle.std.specs.declared.alloc.Global.{Global}
use Rattle.std.proofs.Math.Logic.{∥∥₁_map, ∥∥₁_elim}
use denote.Struct.Props.{props}
use Rattle.std.proofs.lemmas.List.{reverse-append}
use Rattle.par_tree.specs.Tree.{Func}
use Rattle.thread_state.specs.Passed.States.{Setting, State, Item}
use Rattle.thread_state.specs.Passed.Middle as middles
use Rattle.thread_state.specs.Passed.Middle.{middle}
use Rattle.node_table.specs.Names.{slot_names}
use Rattle.node_table.specs.Table.{Table}
use Rattle.thread_points.specs.Threads.{IsThread}
use Rattle.thread_stack.specs.declared.frame.Frame.{Frame}
use Rattle.thread_stack.specs.declared.frame.Frame.TheVariants.{Statements, Again, Tree as DummyTree, Answers, Rejoins, AnswersMain, Allocates, Joins}
use Rattle.thread_stack.specs.Frames.{AreFrames, RunsIn}
use Rattle.thread_stack.specs.Measure.{left_to_do}
use Rattle.thread_output.specs.Telling.{Tells}
use Rattle.thread_state.specs.States.{own_row}
use Rattle.thread_state.specs.declared.state.ThreadState.{ThreadState}
use Rattle.thread_code.specs.Passed.Programs.{mark_at}
use Rattle.thread_run.specs.Stands.{InState}
use Rattle.thread_run.specs.declared.run.ThreadRun.{ThreadRun}
use Rattle.thread_run.specs.Functions.{functions_of, forked_in, frames_of}
use Rattle.thread_run.specs.Going.{IsGoing, Knowing, IsKnown}
use Rattle.thread_run.specs.Stepping.{GoesOn, KeepsCounts, UnderWay}
use Rattle.thread_run.specs.Ways.{BeginsFlat, GoesAlong, GoesOrStays}
use Rattle.thread_run.proofs.OnTheWay.{counts_trans}
use Rattle.thread_code.specs.Passed.FlatList.{FlatList}
use Rattle.thread_code.specs.Passed.Running.{Stopped, stands_at, RunsThread}
use Rattle.thread_state.specs.Passed.Rows.{Entry}
use Rattle.flat_threads.specs.Passed.Threads.{standing}
use Rattle.flat_threads.specs.Passed.Follows.{Steps}
use Rattle.flat_threads.specs.Along.{other_frames, DiffersInRow}
use Rattle.flat_threads.proofs.Bridge.{threads_go, words_stay, in_state}
use Rattle.flat_threads.proofs.Costs.{ways_leave_less}
use Rattle.flat_threads.proofs.Others.{other_frames_stay}
use Rattle.flat_threads.proofs.Fewer.{ways_take_turns}
use Rattle.flat_threads.proofs.Turns.{more_turns}

-- which calls are open is said by the frames that are no statements
functions_of_others : (func : Option ℕ) (xs : List Frame) → functions_of func xs ≡ functions_of func (other_frames xs)
functions_of_others func [] = refl
functions_of_others func (Statements list next ∷ xs) = functions_of_others func xs
functions_of_others func (Again n ∷ xs) = functions_of_others func xs
functions_of_others func (DummyTree shape ∷ xs) = functions_of_others func xs
functions_of_others func (Answers n caller ∷ xs) = functions_of_others caller xs
functions_of_others func (Rejoins n ∷ xs) = functions_of_others func xs
functions_of_others func (AnswersMain ∷ xs) = functions_of_others func xs
functions_of_others func (Allocates slot len ∷ xs) = functions_of_others func xs
functions_of_others func (Joins branch ∷ xs) = ap (λ (fs : List (Option ℕ)). forked_in branch func ∷ fs) (functions_of_others func xs)

module _ (t : Table) (before after : ThreadRun) (h : GoesAlong t before after) where
  goes_on : (c : Setting) (gs : List Func) (own : List middles.Frame) (s : State) (part : List Item) (older : List (List Item))
      → IsThread c own s (part ∷ older) → IsGoing c t gs before own s part → GoesOn c t own older after
  goes_on c [] own s part older thread going = absurd going.runs
  goes_on c (g ∷ gs) own s part older thread going =
      let here = subst (λ (fs : List Frame). AreFrames c.program t (g ∷ gs) fs own) h.before_is going.frames in
      let to = threads_go c t g gs h.from h.to h.below before.state after.state before.told own s part older h.way h.going h.same thread here going.state
      going.tells in
      record {
        functions = g ∷ gs;
        frames = to.frames;
        at = to.to;
        part = to.part;
        thread = to.thread;
        children = to.children;
        going = record {
          runs = subst (λ (n : Option ℕ). RunsIn c.program t n (g ∷ gs)) (sym h.func) going.runs;
          frames = subst (λ (fs : List Frame). AreFrames c.program t (g ∷ gs) fs to.frames) (sym h.after_is) to.are;
          state = to.state;
          tells = subst (λ told. Tells told to.part) (sym h.told) to.tells;
        };
      }

  pub counts_kept : KeepsCounts before.state after.state
  counts_kept = (h.same.label, h.same.done_so_far, h.same.forks, h.same.faulted, words_stay t h.from h.to before.state after.state h.same h.way)

  pub functions_kept : functions_of after.func (frames_of after) ≡ functions_of before.func (frames_of before)
  functions_kept =
      ap (λ (n : Option ℕ). functions_of n (frames_of after)) h.func
      ∙ ap (λ (fs : List Frame). functions_of before.func fs) h.after_is
      ∙ functions_of_others before.func (h.to ++ h.below)
      ∙ ap (λ (fs : List Frame). functions_of before.func fs) (other_frames_stay t h.below _ _ h.way)
      ∙ sym (functions_of_others before.func (h.from ++ h.below))
      ∙ ap (λ (fs : List Frame). functions_of before.func fs) (sym h.before_is)

module _ (t : Table) (k : ℕ) (before after : ThreadRun) (h : GoesAlong t before after) where
  known_after : IsKnown t k before → IsKnown t k after
  known_after known = ∥∥₁_map known (λ (m : Knowing t k before).
      of_it m (goes_on t before after h m.setting m.functions m.own m.at m.part m.older m.thread m.going))
    where
      of_it : (m : Knowing t k before) → GoesOn m.setting t m.own m.older after → Knowing t k after
      of_it m g = record {
        setting = m.setting;
        of_table = m.of_table;
        functions = g.functions;
        own = g.frames;
        at = g.at;
        part = g.part;
        older = m.older;
        thread = g.thread;
        going = g.going;
      }

  way_along : (start : ThreadRun) → UnderWay t k start before → UnderWay t k start after
  way_along start way = record {
    known = known_after way.known;
    goes = λ c gs own s part older of_table thread going. on c own older (way.goes c gs own s part older of_table thread going);
    counts = counts_trans start.state before.state after.state way.counts (counts_kept t before after h);
    functions = functions_kept t before after h ∙ way.functions;
  }
    where
      on : (c : Setting) (own : List middles.Frame) (older : List (List Item)) → GoesOn c t own older before → GoesOn c t own older after
      on c own older g =
          let to = goes_on t before after h c g.functions g.frames g.at g.part older g.thread g.going in
          record {
            functions = to.functions;
            frames = to.frames;
            at = to.at;
            part = to.part;
            thread = to.thread;
            children = to.children ∙ g.children;
            going = to.going;
          }

  less_at : (m : Knowing t k before) (gs : List Func) → RunsIn m.setting.program t before.func gs
      → AreFrames m.setting.program t gs (frames_of before) m.own → InState gs before.state m.at
      → left_to_do t after.state.turns (h.to ++ h.below) ≤ left_to_do t before.state.turns (h.from ++ h.below)
  less_at m [] runs frames is = absurd runs
  less_at m (g ∷ gs) runs frames is =
      let here = subst (λ (fs : List Frame). AreFrames m.setting.program t (g ∷ gs) fs m.own) h.before_is frames in
      let less = ways_leave_less m.setting t g gs h.below (standing h.from (own_row before.state) before.state.turns)
      (standing h.to (own_row after.state) after.state.turns)
      h.way (middle m.own m.at) here (in_state (map slot_names gs) (slot_names g) before.state m.at h.going is) in
      omega (arith, less)

  less_along : IsKnown t k before → left_to_do t after.state.turns (frames_of after) ≤ left_to_do t before.state.turns (frames_of before)
  less_along known =
      let less = ∥∥₁_elim known (search props) (λ (m : Knowing t k before). less_at m m.functions m.going.runs m.going.frames m.going.state) in
      let a : left_to_do t after.state.turns (frames_of after) ≡ left_to_do t after.state.turns (h.to ++ h.below) = ap (λ
      (fs : List Frame). left_to_do t after.state.turns fs) h.after_is in
      let b : left_to_do t before.state.turns (frames_of before) ≡ left_to_do t before.state.turns (h.from ++ h.below) = ap (λ
      (fs : List Frame). left_to_do t before.state.turns fs) h.before_is in
      omega (arith, less, a, b)

-- a thread that has gone a way, or stays, is on its way
pub way_on : (t : Table) (k : ℕ) (start before after : ThreadRun) → GoesOrStays t before after → UnderWay t k start before → UnderWay t k start after
way_on t k start before after (inl same) way = subst (λ (run : ThreadRun). UnderWay t k start run) (sym same) way
way_on t k start before after (inr h) way = way_along t k before after h start way

-- and no more is left to it
pub way_less : (t : Table) (k : ℕ) (before after : ThreadRun) → GoesOrStays t before after → IsKnown t k before
    → left_to_do t after.state.turns (frames_of after) ≤ left_to_do t before.state.turns (frames_of before)
way_less t k before after (inl same) known =
    let e : left_to_do t after.state.turns (frames_of after) ≡ left_to_do t before.state.turns (frames_of before) = ap (λ
    (run : ThreadRun). left_to_do t run.state.turns (frames_of run)) same in
    omega (arith, e)
way_less t k before after (inr h) known = less_along t k before after h known

-- ---- where a way begins

-- the first ones of a stack are below its last one
front_taken : {A : Type 0} (n : ℕ) (xs ys : List A) → n ≤ length xs → take n (xs ++ ys) ≡ take n xs
front_taken zero xs ys less = refl
front_taken (suc n) [] ys less = absurd (omega (arith, less))
front_taken (suc n) (x ∷ xs) ys less = ap (λ zs. x ∷ zs) (front_taken n xs ys (omega (arith, less)))

pub below_taken : (n : ℕ) (stack below mark : List Frame) (next : Frame) → stack ≡ below ++ next ∷ [] → n ≤ length below
    → next ∷ reverse below ≡ mark ++ reverse (take n below) → reverse stack ≡ mark ++ reverse (take n stack)
below_taken n stack below mark next is less above =
    ap (λ (xs : List Frame). reverse xs) is ∙ reverse-append below (next ∷ []) ∙ above
    ∙ ap (λ (xs : List Frame). mark ++ reverse xs) (sym (front_taken n below (next ∷ []) less) ∙ ap (λ (xs : List Frame). take n xs) (sym is))

pub left_within : (n : ℕ) (v : Vec Frame Global) (below : List Frame) (next : Frame) → v.items ≡ below ++ next ∷ [] → n ≤ length below → n ≤ vec_len v
left_within n v below next is less =
    let long = ap (λ (xs : List Frame). length xs) is in
    let both = length-append below (next ∷ []) in
    let counted = v.ok.0 in
    omega (arith, less, long, both, counted)

-- the turns that were kept are left besides
all_turns : (t : Table) (l : FlatList) (kept place : ℕ) (stop : Stopped) (before after : ThreadState) → kept ≤ before.turns → after.turns ≡ stop.turns + kept
    → RunsThread t l place (own_row before) (before.turns - kept) stop (own_row after)
    → Steps t (stands_at l place (own_row before) before.turns) (stands_at l stop.place (own_row after) after.turns)
all_turns t l kept place stop before after some still runs =
    let all : (before.turns - kept) + kept ≡ before.turns = omega (arith, some) in
    subst (λ (n : ℕ). Steps t (stands_at l place (own_row before) n) (stands_at l stop.place (own_row after) after.turns)) all
    (subst (λ (n : ℕ). Steps t (stands_at l place (own_row before) ((before.turns - kept) + kept)) (stands_at l stop.place (own_row after) n)) (sym still)
    (more_turns t kept (stands_at l place (own_row before) (before.turns - kept)) (stands_at l stop.place (own_row after) stop.turns) runs.way))

-- no more are left than there were
pub few_turns : (t : Table) (l : FlatList) (kept turns place : ℕ) (stop : Stopped) (before after : List Entry) → kept ≤ turns
    → RunsThread t l place before (turns - kept) stop after → stop.turns + kept ≤ turns
few_turns t l kept turns place stop before after some runs =
    let less = ways_take_turns t (stands_at l place before (turns - kept)) (stands_at l stop.place after stop.turns) runs.way in
    omega (arith, less, some)

-- a run of flat code leads a thread along it
pub along : (t : Table) (before after : ThreadRun) (l : FlatList) (place left kept : ℕ) (stop : Stopped) → BeginsFlat t before l place left
    → DiffersInRow before.state after.state → kept ≤ before.state.turns → after.state.turns ≡ stop.turns + kept
    → RunsThread t l place (own_row before.state) (before.state.turns - kept) stop (own_row after.state)
    → frames_of after ≡ mark_at l stop.place ++ reverse (take left before.frames.items)
    → after.func ≡ before.func → after.told ≡ before.told → GoesAlong t before after
along t before after l place left kept stop begins same some still runs after_is func told = record {
  from = mark_at l place;
  to = mark_at l stop.place;
  below = reverse (take left before.frames.items);
  before_is = begins.mark;
  after_is = after_is;
  func = func;
  told = told;
  going = begins.going;
  same = same;
  way = all_turns t l kept place stop before.state after.state some still runs;
}
