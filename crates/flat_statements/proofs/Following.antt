-- The machine follows the thread step by step.
use Rattle.std.proofs.Common.{◌≡◌, ℕ, zero, suc, ◌+◌, ◌<◌, Bool, true, false, List, [], ◌∷◌, ℤ, Option, Some, None, Result, Ok, Err, refl, sym, ap, ◌∙◌, subst}
use Rattle.flat_expressions.specs.Passed.FaultKind.{FaultKind}
use Rattle.thread_stack.specs.Passed.Values.{Outcome, is_true}
use Rattle.thread_stack.specs.Passed.Table.{Expr, Kind, let_node, assign_node, put_node, alloc_node, free_node, if_node, while_node, call_node, print_node, both_node, split_node, Table}
use Rattle.flat_expressions.specs.Passed.Rows.{Entry}
use Rattle.thread_stack.specs.declared.frame.Frame.{Frame}
use Rattle.thread_stack.specs.declared.frame.Frame.TheVariants.{Statements, Again, Tree, Answers, Rejoins, AnswersMain, Allocates, Joins}
use Rattle.thread_stack.specs.declared.list_of.ListOf.{ListOf}
use Rattle.thread_stack.specs.declared.list_of.ListOf.TheVariants.{Then, Other, Round}
use Rattle.thread_stack.specs.Lists.{kind_at, numbers_from}
use Rattle.flat_expressions.specs.Acts.{Ran, ends, fails, straight, Test, passes}
use Rattle.flat_expressions.specs.Values.{value_in, set_by, put_by}
use Rattle.flat_expressions.specs.Meanings.{HasInFront, CameTo, TestCameTo}
use Rattle.flat_statements.specs.Flat.{unless, rounds, leaves, FlatCode, Point, Came, goes_to, meets, stops, chosen, turned, rounded, flat_step, Runs, arrived}
use Rattle.flat_statements.specs.Threads.{Standing, standing, rest_of, row_step, arm_step, if_step, turn_step, round_step, while_step, kind_step, list_step, frames_step, thread_step}
use Rattle.flat_statements.specs.Codes.{IsTestCode, IsRoundCode, IsIfCode, IsAgainCode, IsLeft, IsKindCode, IsNodeCode}
use Rattle.flat_statements.specs.Follows.{IsRestCode, IsLoopCode, IsCodeOf, StandsFor, Follows}
use Rattle.flat_statements.proofs.Running.{point, runs_on, on_after, runs_further, acts_behind, stepped, jumps_run, RunsTo, acts_run}
use Rattle.flat_statements.proofs.Reaching.{next_numbers, then_numbers, other_numbers, ReachesCode, list_reaches, arm_reaches, body_reaches}

module _ (t : Table) (f : FlatCode) (k size : ℕ) where
  -- what it gives after some steps
  follows_behind : (p q : Point) (s : Standing) (c : Came Standing) → Runs f p q → Follows t f k size q s c → Follows t f k size p s c
  follows_behind p q s (goes_to after) runs h = (h.0, on_after runs h.1, h.2)
  follows_behind p q s (meets kind) runs h = (h.0, runs_on runs h.1, h.2, h.3)
  follows_behind p q s stops runs h = (h.0, runs_on runs h.1, h.2, h.3)

  -- one step to the code of frames
  one_step : (p : Point) (s : Standing) (place : ℕ) (row own : List Entry) (turns : ℕ) (xs : List Frame) → flat_step f p ≡ goes_to (point place row turns)
      → ReachesCode t f k size xs place → HasInFront k size row own
      → Follows t f k size p s (goes_to (standing xs own turns))
  one_step p s place row own turns xs step reach front =
      (point place row turns, record { next = point place row turns; first = step; rest = arrived }, record { code = reach; front = front; turns = refl })

  module _ (own : List Entry) (turns : ℕ) (here : List Frame) where
    -- ---- straight code

    acts_follow : (xs : List Frame) (place behind : ℕ) (row : List Entry) → ReachesCode t f k size xs behind → place < behind
        → (r : Ran) (o : Result (List Entry) FaultKind)
        → RunsTo f here behind turns place row r → CameTo k size own r o
        → Follows t f k size (point place row turns) (standing here own turns) (row_step xs turns o)
    acts_follow xs place behind row reach ahead (ends after) (Ok new) runs came =
        (point behind after turns, runs_further runs ahead, record { code = reach; front = came; turns = refl })
    acts_follow xs place behind row reach ahead (ends after) (Err kind) runs came = absurd came
    acts_follow xs place behind row reach ahead (fails kind after) (Ok new) runs came = absurd came
    acts_follow xs place behind row reach ahead (fails other after) (Err kind) runs came =
        (point runs.0 after turns, runs.1, runs.2 ∙ ap (λ (x : FaultKind). meets x) came.0, record { mark = runs.3; front = came.1; turns = refl })

    -- ---- conditions

    test_follow : (test : Test) (place at : ℕ) (row : List Entry) (come : Outcome → Came Standing) → ((kind : FaultKind) → meets kind ≡ come (Err kind))
        → ((v : ℤ) (after : List Entry) → HasInFront k size after own → passes after test ≡ is_true v
        → Follows t f k size (point at after turns) (standing here own turns) (come (Ok v)))
        → (r : Ran) (o : Outcome) → RunsTo f here at turns place row r → TestCameTo k size own test r o
        → Follows t f k size (point place row turns) (standing here own turns) (come o)
    test_follow test place at row come faults rest (ends after) (Ok v) runs came =
        follows_behind (point place row turns) (point at after turns) (standing here own turns) (come (Ok v)) runs (rest v after came.0 came.1)
    test_follow test place at row come faults rest (ends after) (Err kind) runs came = absurd came
    test_follow test place at row come faults rest (fails kind after) (Ok v) runs came = absurd came
    test_follow test place at row come faults rest (fails other after) (Err kind) runs came =
        subst (λ (c : Came Standing). Follows t f k size (point place row turns) (standing here own turns) c) (faults kind)
        (point runs.0 after turns, runs.1, runs.2 ∙ ap (λ (x : FaultKind). meets x) came.0, record { mark = runs.3; front = came.1; turns = refl })

    condition_follows : (e : Expr) (test : Test) (place at : ℕ) (row : List Entry) → IsTestCode f k size e test here place at → HasInFront k size row own
        → (come : Outcome → Came Standing) → ((kind : FaultKind) → meets kind ≡ come (Err kind))
        → ((v : ℤ) (after : List Entry) → HasInFront k size after own → passes after test ≡ is_true v
        → Follows t f k size (point at after turns) (standing here own turns) (come (Ok v)))
        → Follows t f k size (point place row turns) (standing here own turns) (come (value_in own e))
    condition_follows e test place at row h front come faults rest =
        test_follow test place at row come faults rest (straight h.code row) (value_in own e) (acts_run f here at turns h.code place row h.there)
        (h.tests row own front)

    -- ---- `if`

    module _ (n depth : ℕ) (xs : List Frame) (place behind : ℕ) (reach : ReachesCode t f k size xs behind) where
      if_follows : (e : Expr) (a b : List ℕ) (row : List Entry) → kind_at t n ≡ Some (if_node e a b)
          → IsIfCode f k size (IsNodeCode t f k size depth) n e a b here xs place behind → HasInFront k size row own
          → Follows t f k size (point place row turns) (standing here own turns) (if_step n a b xs own turns (value_in own e))
      if_follows e a b row is h front =
          condition_follows e h.test place h.at row h.before front (if_step n a b xs own turns) (λ kind. refl)
          (λ v after now passed. arm after now (is_true v) passed)
        where
          arm : (after : List Entry) → HasInFront k size after own → (holds : Bool) → passes after h.test ≡ holds
              → Follows t f k size (point h.at after turns) (standing here own turns) (arm_step n a b xs own turns holds)
          arm after now true passed =
              one_step (point h.at after turns) (standing here own turns) (suc h.at) after own turns (rest_of a (Then n) 0 xs)
              (stepped f here h.at after turns (unless h.test h.other) h.jumps_by ∙ ap (chosen (point h.at after turns) h.other) passed)
              (list_reaches t f k size depth a (Then n) 0 xs (suc h.at) h.arm_end h.first (then_numbers t n e a b is)
              (arm_reaches t f k size b xs h.arm_end behind h.over reach)) now
          arm after now false passed =
              one_step (point h.at after turns) (standing here own turns) h.other after own turns (rest_of b (Other n) 0 xs)
              (stepped f here h.at after turns (unless h.test h.other) h.jumps_by ∙ ap (chosen (point h.at after turns) h.other) passed)
              (list_reaches t f k size depth b (Other n) 0 xs h.other behind h.second (other_numbers t n e a b is) reach) now

      -- ---- loops: from a test the body comes, if there is a turn left, or what is after the loop

      round_follows : (e : Expr) (a : List ℕ) (again_at body : ℕ) (row : List Entry) → kind_at t n ≡ Some (while_node e a)
          → IsRoundCode f k size e here place body behind → IsAgainCode f k size (IsNodeCode t f k size depth) n e a xs again_at body behind
          → HasInFront k size row own
          → Follows t f k size (point place row turns) (standing here own turns) (while_step n a xs own turns (value_in own e))
      round_follows e a again_at body row is h again front =
          condition_follows e h.test place h.at row h.before front (while_step n a xs own turns) (λ kind. refl)
          (λ v after now passed. round after now (is_true v) passed)
        where
          step_by : (after : List Entry) (holds : Bool) → passes after h.test ≡ holds
              → flat_step f (point h.at after turns) ≡ rounded (point h.at after turns) body behind holds
          step_by after holds passed =
              stepped f here h.at after turns (rounds h.test body behind) h.jumps_by ∙ ap (rounded (point h.at after turns) body behind) passed

          turn : (after : List Entry) → HasInFront k size after own → (left : ℕ)
              → flat_step f (point h.at after turns) ≡ turned (point h.at after turns) body left
              → Follows t f k size (point h.at after turns) (standing here own turns) (turn_step n a xs own left)
          turn after now zero step =
              (point h.at after turns, arrived, step, record { mark = h.jumps_by.mark; front = now; turns = refl })
          turn after now (suc left) step =
              one_step (point h.at after turns) (standing here own turns) body after own left (rest_of a (Round n) 0 (Again n ∷ xs)) step
              (body_reaches t f k size depth n e a xs again_at body behind is again reach) now

          round : (after : List Entry) → HasInFront k size after own → (holds : Bool) → passes after h.test ≡ holds
              → Follows t f k size (point h.at after turns) (standing here own turns) (round_step n a xs own turns holds)
          round after now true passed = turn after now turns (step_by after true passed)
          round after now false passed =
              one_step (point h.at after turns) (standing here own turns) behind after own turns xs (step_by after false passed) reach now

      -- ---- statements that the thread does by itself

      left_follows : (row : List Entry) → IsLeft f here place behind → HasInFront k size row own
          → Follows t f k size (point place row turns) (standing here own turns) stops
      left_follows row h front =
          (point place row turns, arrived, stepped f here place row turns leaves h.there, record { mark = h.there.mark; front = front; turns = refl })

      -- ---- any statement

      kind_follows : (kind : Option Kind) (row : List Entry) → kind_at t n ≡ kind
          → IsKindCode f k size (IsNodeCode t f k size depth) n here xs place behind kind → HasInFront k size row own
          → Follows t f k size (point place row turns) (standing here own turns) (kind_step n xs own turns kind)
      kind_follows None row is h front = absurd h
      kind_follows (Some (let_node s e)) row is h front =
          acts_follow xs place behind row reach (acts_behind f here h.code place behind h.some h.there) (straight h.code row) (set_by s e own)
          (acts_run f here behind turns h.code place row h.there)
          (h.does row own front)
      kind_follows (Some (assign_node s e)) row is h front =
          acts_follow xs place behind row reach (acts_behind f here h.code place behind h.some h.there) (straight h.code row) (set_by s e own)
          (acts_run f here behind turns h.code place row h.there)
          (h.does row own front)
      kind_follows (Some (put_node b i e)) row is h front =
          acts_follow xs place behind row reach (acts_behind f here h.code place behind h.some h.there) (straight h.code row) (put_by b i e own)
          (acts_run f here behind turns h.code place row h.there)
          (h.does row own front)
      kind_follows (Some (if_node e a b)) row is h front = if_follows e a b row is h front
      kind_follows (Some (while_node e a)) row is h front = round_follows e a h.again_at h.body row is h.test h.again front
      kind_follows (Some (alloc_node s e)) row is h front = left_follows row h front
      kind_follows (Some (free_node s)) row is h front = left_follows row h front
      kind_follows (Some (call_node to func from)) row is h front = left_follows row h front
      kind_follows (Some (print_node e)) row is h front = left_follows row h front
      kind_follows (Some (both_node a b blocks assigned)) row is h front = left_follows row h front
      kind_follows (Some (split_node s e l r a)) row is h front = left_follows row h front

  -- ---- frames

  node_follows : (depth n : ℕ) (here xs : List Frame) (place behind : ℕ) (row own : List Entry) (turns : ℕ) → IsNodeCode t f k size depth place n here xs behind
      → ReachesCode t f k size xs behind → HasInFront k size row own
      → Follows t f k size (point place row turns) (standing here own turns) (kind_step n xs own turns (kind_at t n))
  node_follows zero n here xs place behind row own turns h reach front = absurd h
  node_follows (suc depth) n here xs place behind row own turns h reach front =
      kind_follows own turns here n depth xs place behind reach (kind_at t n) row refl h front

  rest_follows : (depth : ℕ) (ns : List ℕ) (list : ListOf) (next : ℕ) (xs : List Frame) (place : ℕ) (row own : List Entry) (turns : ℕ)
      → numbers_from t list next ≡ ns → IsRestCode f (IsNodeCode t f k size depth) (IsCodeOf t f k size xs) ns list next xs place
      → HasInFront k size row own
      → Follows t f k size (point place row turns) (standing (Statements list next ∷ xs) own turns) (list_step t ns list next xs own turns)
  rest_follows depth [] list next xs place row own turns e h front = absurd h
  rest_follows depth (n ∷ ns) list next xs place row own turns e h front =
      let statement = h.1.1 in
      node_follows depth n (Statements list next ∷ xs) (rest_of ns list (next + 1) xs) place statement.0 row own turns statement.1
      (list_reaches t f k size depth ns list (next + 1) xs statement.0 h.0 statement.2 (next_numbers t list next n ns e) h.2) front

  loop_follows : (depth n : ℕ) (xs : List Frame) (place : ℕ) (row own : List Entry) (turns : ℕ) (kind : Option Kind) → kind_at t n ≡ kind
      → IsLoopCode f k size (IsNodeCode t f k size depth) (IsCodeOf t f k size xs) n xs place kind → HasInFront k size row own
      → Follows t f k size (point place row turns) (standing (Again n ∷ xs) own turns) (kind_step n xs own turns kind)
  loop_follows depth n xs place row own turns (Some (while_node e a)) is h front =
      round_follows own turns (Again n ∷ xs) n depth xs place h.1 h.3 e a place h.0 row is h.2.test h.2 front
  loop_follows depth n xs place row own turns None is h front = absurd h
  loop_follows depth n xs place row own turns (Some (let_node s e)) is h front = absurd h
  loop_follows depth n xs place row own turns (Some (assign_node s e)) is h front = absurd h
  loop_follows depth n xs place row own turns (Some (put_node b i e)) is h front = absurd h
  loop_follows depth n xs place row own turns (Some (alloc_node s e)) is h front = absurd h
  loop_follows depth n xs place row own turns (Some (free_node s)) is h front = absurd h
  loop_follows depth n xs place row own turns (Some (if_node e a b)) is h front = absurd h
  loop_follows depth n xs place row own turns (Some (call_node to func from)) is h front = absurd h
  loop_follows depth n xs place row own turns (Some (print_node e)) is h front = absurd h
  loop_follows depth n xs place row own turns (Some (both_node a b blocks assigned)) is h front = absurd h
  loop_follows depth n xs place row own turns (Some (split_node s e l r a)) is h front = absurd h

  frames_follow : (xs : List Frame) (place : ℕ) (row own : List Entry) (turns : ℕ) → IsCodeOf t f k size xs place → HasInFront k size row own
      → Follows t f k size (point place row turns) (standing xs own turns) (frames_step t xs own turns)
  frames_follow [] place row own turns h front =
      (point place row turns, arrived, stepped f [] place row turns leaves h, record { mark = h.mark; front = front; turns = refl })
  frames_follow (Statements list next ∷ xs) place row own turns h front =
      rest_follows h.0 (numbers_from t list next) list next xs place row own turns refl h.1 front
  frames_follow (Again n ∷ xs) place row own turns h front = loop_follows h.0 n xs place row own turns (kind_at t n) refl h.1 front
  frames_follow (Tree shape ∷ xs) place row own turns h front = absurd h
  frames_follow (Answers n caller ∷ xs) place row own turns h front = absurd h
  frames_follow (Rejoins n ∷ xs) place row own turns h front = absurd h
  frames_follow (AnswersMain ∷ xs) place row own turns h front = absurd h
  frames_follow (Allocates slot len ∷ xs) place row own turns h front = absurd h
  frames_follow (Joins branch ∷ xs) place row own turns h front = absurd h

  pub machine_follows : (p : Point) (s : Standing) → StandsFor t f k size p s → Follows t f k size p s (thread_step t s)
  machine_follows p s h =
      subst (λ (n : ℕ). Follows t f k size (point p.place p.row n) s (thread_step t s)) (sym h.turns)
      (follows_behind (point p.place p.row s.turns) (point h.code.1 p.row s.turns) s (thread_step t s)
      (jumps_run f s.frames h.code.0 p.place h.code.1 p.row s.turns h.code.2)
      (frames_follow s.frames h.code.1 p.row s.row s.turns h.code.3 h.front))
