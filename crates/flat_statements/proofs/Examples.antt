-- A worked example: a `while` inside an `if` inside a `while`.
--
--     while x { if y { while z { z = 0; y = 0; } } else { x = 0; } }
use Rattle.std.proofs.Common.{◌≡◌, ℕ, zero, suc, ◌<◌, Bool, true, false, List, [], ◌∷◌, ℤ, pos, None, refl, sym, ap, ◌∙◌, arith}
use Rattle.thread_stack.specs.Passed.Table.{num, var, Kind, assign_node, if_node, while_node, Node, Table}
use Rattle.flat_expressions.specs.Passed.Rows.{Entry, blank}
use Rattle.thread_stack.specs.declared.frame.Frame.{Frame}
use Rattle.thread_stack.specs.declared.frame.Frame.TheVariants.{Statements, Again}
use Rattle.thread_stack.specs.declared.list_of.ListOf.{ListOf}
use Rattle.thread_stack.specs.declared.list_of.ListOf.TheVariants.{Body, Then, Other, Round}
use Rattle.flat_expressions.specs.Acts.{at_slot, literal, move_to, Test, is_set}
use Rattle.flat_expressions.specs.Values.{set_by}
use Rattle.flat_expressions.specs.Meanings.{Do, AreTest}
use Rattle.flat_expressions.proofs.Statements.{assignment_coded, condition_coded}
use Rattle.flat_statements.specs.Flat.{Flat, doing, unless, rounds, jumps, leaves, FlatCode, frames_at, Point, Came, goes_to, meets, stops, flat_step}
use Rattle.flat_statements.specs.Threads.{Standing, standing, thread_step}
use Rattle.flat_statements.specs.Codes.{Has, IsSetCode, IsRoundCode, IsNodeCode, IsWholeCode}
use Rattle.flat_statements.proofs.Running.{point}

-- x is the slot 0, y the slot 1, z the slot 2
abbrev node : Kind → Node
node kind = record { line = 1; kind = kind }

abbrev table : Table
table = record {
  nodes = node (while_node (var 0) (1 ∷ [])) ∷ node (if_node (var 1) (2 ∷ []) (4 ∷ [])) ∷ node (while_node (var 2) (3 ∷ 5 ∷ []))
      ∷ node (assign_node 2 (num (pos 0))) ∷ node (assign_node 0 (num (pos 0))) ∷ node (assign_node 1 (num (pos 0))) ∷ [];
  funcs = record { slots = 3; params = []; body = 0 ∷ []; ret = None } ∷ [];
  main = 0;
}

abbrev holds : ℕ → Test
holds s = is_set (at_slot s)

abbrev zeroes : ℕ → Flat
zeroes s = doing (move_to s (literal (pos 0)))

-- the frames of the three loops and arms
abbrev in_outer : Frame → List Frame
in_outer x = x ∷ Again 0 ∷ []

abbrev in_inner : Frame → List Frame
in_inner x = x ∷ Again 2 ∷ Again 0 ∷ []

abbrev flat : FlatCode
flat = record {
  places = rounds (holds 0) 1 9 ∷ unless (holds 1) 7 ∷ rounds (holds 2) 3 6 ∷ zeroes 2 ∷ zeroes 1 ∷ rounds (holds 2) 3 6 ∷ jumps 8 ∷ zeroes 0
      ∷ rounds (holds 0) 1 9 ∷ leaves ∷ [];
  marks = (Statements (Body 0) 0 ∷ []) ∷ in_outer (Statements (Round 0) 0) ∷ in_outer (Statements (Then 1) 0) ∷ in_inner (Statements (Round 2) 0)
      ∷ in_inner (Statements (Round 2) 1) ∷ in_outer (Again 2) ∷ (Again 0 ∷ []) ∷ in_outer (Statements (Other 1) 0) ∷ (Again 0 ∷ []) ∷ [] ∷ [];
}

-- ---- what the machine and the thread do, step by step

abbrev marks_along : ℕ → Came Point → List (List Frame)
marks_along zero c = []
marks_along (suc many) (goes_to p) = frames_at flat p.place ∷ marks_along many (flat_step flat p)
marks_along (suc many) (meets kind) = []
marks_along (suc many) stops = []

abbrev frames_along : ℕ → Came Standing → List (List Frame)
frames_along zero c = []
frames_along (suc many) (goes_to s) = s.frames ∷ frames_along many (thread_step table s)
frames_along (suc many) (meets kind) = []
frames_along (suc many) stops = []

abbrev entry : ℤ → Entry
entry v = record { integer = v; blocks = [] }

abbrev ones : List Entry
ones = entry (pos 1) ∷ entry (pos 1) ∷ entry (pos 1) ∷ []

abbrev began : Came Standing
began = goes_to (standing (Statements (Body 0) 0 ∷ []) ones 10)

thread_goes : frames_along 20 began
    ≡ (Statements (Body 0) 0 ∷ []) ∷ in_outer (Statements (Round 0) 0) ∷ in_outer (Statements (Then 1) 0) ∷ in_inner (Statements (Round 2) 0)
    ∷ in_inner (Statements (Round 2) 1) ∷ in_outer (Again 2) ∷ (Again 0 ∷ []) ∷ in_outer (Statements (Round 0) 0) ∷ in_outer (Statements (Other 1) 0)
    ∷ (Again 0 ∷ []) ∷ [] ∷ []
thread_goes = refl

-- the machine has one step more, over the other arm
machine_goes : marks_along 20 (goes_to (point 0 (entry (pos 1) ∷ entry (pos 1) ∷ entry (pos 1) ∷ blank ∷ blank ∷ []) 10))
    ≡ (Statements (Body 0) 0 ∷ []) ∷ in_outer (Statements (Round 0) 0) ∷ in_outer (Statements (Then 1) 0) ∷ in_inner (Statements (Round 2) 0)
    ∷ in_inner (Statements (Round 2) 1) ∷ in_outer (Again 2) ∷ (Again 0 ∷ []) ∷ (Again 0 ∷ []) ∷ in_outer (Statements (Round 0) 0)
    ∷ in_outer (Statements (Other 1) 0) ∷ (Again 0 ∷ []) ∷ [] ∷ []
machine_goes = refl

-- without a turn for the inner loop both meet the fault before it, and the mark there is the thread's frames
thread_stops : frames_along 20 (goes_to (standing (Statements (Body 0) 0 ∷ []) ones 1))
    ≡ (Statements (Body 0) 0 ∷ []) ∷ in_outer (Statements (Round 0) 0) ∷ in_outer (Statements (Then 1) 0) ∷ []
thread_stops = refl

machine_stops : marks_along 20 (goes_to (point 0 (entry (pos 1) ∷ entry (pos 1) ∷ entry (pos 1) ∷ blank ∷ blank ∷ []) 1))
    ≡ (Statements (Body 0) 0 ∷ []) ∷ in_outer (Statements (Round 0) 0) ∷ in_outer (Statements (Then 1) 0) ∷ []
machine_stops = refl

-- ---- it is the code of the function

var_test : (s : ℕ) → s < 3 → AreTest 3 5 (var s) [] (holds s)
var_test s low = condition_coded 3 5 (var s) low tt (omega arith)

zeroed : (s : ℕ) → s < 3 → Do 3 5 (set_by s (num (pos 0))) (move_to s (literal (pos 0)) ∷ [])
zeroed s low = assignment_coded 3 5 s (num (pos 0)) tt tt low (omega arith)

inner_first : IsRoundCode flat 3 5 (var 2) (in_outer (Statements (Then 1) 0)) 2 3 6
inner_first = record {
  test = holds 2;
  at = 2;
  before = record { code = []; there = refl; tests = var_test 2 (omega arith) };
  jumps_by = record { is = refl; mark = refl };
}

inner_again : IsRoundCode flat 3 5 (var 2) (in_outer (Again 2)) 5 3 6
inner_again = record {
  test = holds 2;
  at = 5;
  before = record { code = []; there = refl; tests = var_test 2 (omega arith) };
  jumps_by = record { is = refl; mark = refl };
}

outer_first : IsRoundCode flat 3 5 (var 0) (Statements (Body 0) 0 ∷ []) 0 1 9
outer_first = record {
  test = holds 0;
  at = 0;
  before = record { code = []; there = refl; tests = var_test 0 (omega arith) };
  jumps_by = record { is = refl; mark = refl };
}

outer_again : IsRoundCode flat 3 5 (var 0) (Again 0 ∷ []) 8 1 9
outer_again = record {
  test = holds 0;
  at = 8;
  before = record { code = []; there = refl; tests = var_test 0 (omega arith) };
  jumps_by = record { is = refl; mark = refl };
}

zero_code : (s place : ℕ) (here : List Frame) → s < 3 → Has flat place (zeroes s) here → IsSetCode flat 3 5 s (num (pos 0)) here place (suc place)
zero_code s place here low h = record { code = move_to s (literal (pos 0)) ∷ []; some = tt; there = (h, refl); does = zeroed s low }

inner : IsNodeCode table flat 3 5 2 2 2 (in_outer (Statements (Then 1) 0)) (Again 0 ∷ []) 6
inner = record {
  body = 3;
  again_at = 5;
  test = inner_first;
  again = record {
    mark = refl;
    test = inner_again;
    round = (
      refl,
      (
        4,
        zero_code 2 3 (in_inner (Statements (Round 2) 0)) (omega arith) (record { is = refl; mark = refl }),
        (refl, (5, zero_code 1 4 (in_inner (Statements (Round 2) 1)) (omega arith) (record { is = refl; mark = refl }), refl)),
      ),
    );
  };
}

both_arms : IsNodeCode table flat 3 5 3 1 1 (in_outer (Statements (Round 0) 0)) (Again 0 ∷ []) 8
both_arms = record {
  test = holds 1;
  at = 1;
  other = 7;
  arm_end = 6;
  before = record { code = []; there = refl; tests = var_test 1 (omega arith) };
  jumps_by = record { is = refl; mark = refl };
  first = (refl, (6, inner, refl));
  over = record { is = refl; mark = refl };
  second = (refl, (8, zero_code 0 7 (in_outer (Statements (Other 1) 0)) (omega arith) (record { is = refl; mark = refl }), refl));
}

outer : IsNodeCode table flat 3 5 4 0 0 (Statements (Body 0) 0 ∷ []) [] 9
outer = record {
  body = 1;
  again_at = 8;
  test = outer_first;
  again = record { mark = refl; test = outer_again; round = (refl, (8, both_arms, refl)) };
}

whole : IsWholeCode table flat 3 5 (Body 0) 0
whole = record { depth = 4; behind = 9; code = (refl, (9, outer, refl)); end = record { is = refl; mark = refl } }

-- ---- why a loop has its test twice: no place has both the mark of a loop that is met in a list and that of a loop that comes again

abbrev comes_again : List Frame → Bool
comes_again [] = false
comes_again (Statements list next ∷ xs) = false
comes_again (x ∷ xs) = true

one_mark : (f : FlatCode) (place : ℕ) (list : ListOf) (next n : ℕ) (xs ys : List Frame) → frames_at f place ≡ Statements list next ∷ xs
    → frames_at f place ≡ Again n ∷ ys → ⊥
one_mark f place list next n xs ys first second =
    let same : false ≡ true = sym (ap comes_again first) ∙ ap comes_again second in
    let never : ⊥ = cc in never
