-- At each place of what is made the code of its mark begins, or the place before it has the same mark.
use Rattle.std.proofs.Common.{inl, inr, ◌≡◌, ℕ, zero, suc, ◌+◌, ◌<◌, ◌≤◌, List, [], ◌∷◌, ◌++◌, length, Option, Some, None, refl, sym, ap, ◌∙◌, subst, arith, length-append}
use Rattle.std.specs.Prelude.{◌⊎◌}
use Rattle.std.proofs.lemmas.List.{length-map}
use Rattle.node_table.specs.Table.{Expr, Kind, let_node, assign_node, put_node, alloc_node, free_node, if_node, while_node, call_node, print_node, both_node, split_node, Table}
use Rattle.thread_stack.specs.declared.frame.Frame.{Frame}
use Rattle.thread_stack.specs.declared.frame.Frame.TheVariants.{Statements, Again}
use Rattle.thread_stack.specs.declared.list_of.ListOf.{ListOf}
use Rattle.thread_stack.specs.declared.list_of.ListOf.TheVariants.{Then, Other, Round}
use Rattle.thread_stack.specs.Lists.{kind_at, numbers_from}
use Rattle.flat_expressions.specs.Acts.{Act}
use Rattle.flat_expressions.specs.Codes.{code_of, put_code, before_test, test_of}
use Rattle.flat_statements.specs.Flat.{Flat, unless, rounds, FlatCode, frames_at}
use Rattle.flat_statements.specs.Threads.{rest_of}
use Rattle.flat_statements.specs.Codes.{IsNodeCode, IsAgainCode}
use Rattle.flat_statements.proofs.Reaching.{next_numbers, then_numbers, other_numbers, round_numbers, ReachesCode, list_reaches, arm_reaches, again_reaches}
use Rattle.flat_code.specs.Fits.{FitsTest, AllFit, FitsKind, FitsNode, FitsList, CanBeFlat}
use Rattle.flat_code.specs.Made.{Placed, placed, acts_placed, tested, test_length, Making, list_made, arm_end, other_at, if_made}
use Rattle.flat_code.specs.Made.{while_made, left_alone, kind_made, node_made, whole_made}
use Rattle.flat_code.specs.Shown.{what_of, flat_of}
use Rattle.flat_code.specs.Starts.{Begins, IsWithinStatement, OthersBegin}
use Rattle.flat_code.proofs.MadeCode.{Holds, next_place, holds_front, holds_rest, holds_all, tested_length, first_tested, round_is_code, over_is, arm_end_long, list_is_code}
use Rattle.flat_code.proofs.MadeCode.{node_is_code}

module _ (t : Table) (f : FlatCode) (k size : ℕ) (fits_in : k ≤ size) where
  abbrev Starts : ℕ → Type 0
  Starts place = Begins t f k size place ⊎ IsWithinStatement f place

  -- of each of these places, of which the first is this one
  abbrev pub AllStart : ℕ → List Placed → Type 0
  AllStart place [] = Unit {0}
  AllStart place (p ∷ ps) = Starts place × AllStart (suc place) ps

  both_start : (place : ℕ) (xs ys : List Placed) → AllStart place xs → AllStart (place + length xs) ys → AllStart place (xs ++ ys)
  both_start place [] ys one two = subst (λ n. AllStart n ys) (let e : place + 0 ≡ place = omega arith in e) two
  both_start place (x ∷ xs) ys one two =
      (one.0, both_start (suc place) xs ys one.1 (subst (λ n. AllStart n ys) (sym (next_place place (length xs))) two))

  begins_by : (xs : List Frame) (place : ℕ) → frames_at f place ≡ xs → ReachesCode t f k size xs place → Begins t f k size place
  begins_by xs place mark reach = subst (λ ys. ReachesCode t f k size ys place) (sym mark) reach

  -- ---- the places of one statement

  same_acts : (here : List Frame) (q : ℕ) → frames_at f q ≡ here → (acts : List Act) → Holds f (suc q) (acts_placed here acts)
      → AllStart (suc q) (acts_placed here acts)
  same_acts here q e [] h = tt
  same_acts here q e (a ∷ acts) h = (inr (q, refl, e ∙ sym h.0.mark), same_acts here (suc q) h.0.mark acts h.1)

  acts_start : (here : List Frame) (place : ℕ) (acts : List Act) → ReachesCode t f k size here place → Holds f place (acts_placed here acts)
      → AllStart place (acts_placed here acts)
  acts_start here place [] reach h = tt
  acts_start here place (a ∷ acts) reach h = (inl (begins_by here place h.0.mark reach), same_acts here place h.0.mark acts h.1)

  same_tested : (here : List Frame) (q : ℕ) → frames_at f q ≡ here → (acts : List Act) (test : Flat)
      → Holds f (suc q) (acts_placed here acts ++ placed test here ∷ []) → AllStart (suc q) (acts_placed here acts ++ placed test here ∷ [])
  same_tested here q e [] test h = (inr (q, refl, e ∙ sym h.0.mark), tt)
  same_tested here q e (a ∷ acts) test h = (inr (q, refl, e ∙ sym h.0.mark), same_tested here (suc q) h.0.mark acts test h.1)

  tested_start : (here : List Frame) (place : ℕ) (acts : List Act) (test : Flat) → ReachesCode t f k size here place
      → Holds f place (acts_placed here acts ++ placed test here ∷ []) → AllStart place (acts_placed here acts ++ placed test here ∷ [])
  tested_start here place [] test reach h = (inl (begins_by here place h.0.mark reach), tt)
  tested_start here place (a ∷ acts) test reach h = (inl (begins_by here place h.0.mark reach), same_tested here place h.0.mark acts test h.1)

  alone_start : (here : List Frame) (place : ℕ) → ReachesCode t f k size here place → Holds f place (left_alone here) → AllStart place (left_alone here)
  alone_start here place reach h = (inl (begins_by here place h.0.mark reach), tt)

  over_start : (xs : List Frame) (b : List ℕ) (at behind : ℕ) → ReachesCode t f k size xs at → Holds f at (arm_end b xs behind)
      → AllStart at (arm_end b xs behind)
  over_start xs [] at behind reach h = tt
  over_start xs (n ∷ ns) at behind reach h = (inl (begins_by xs at h.0.mark reach), tt)

  -- ---- lists, and statements with lists inside

  module _ (depth : ℕ) (starts : (place n : ℕ) (here xs : List Frame) → FitsNode t k size depth n → Holds f place (node_made t k depth place n here xs)
      → ReachesCode t f k size here place → ReachesCode t f k size xs (place + length (node_made t k depth place n here xs))
      → AllStart place (node_made t k depth place n here xs)) where
    abbrev M : Making
    M = node_made t k depth

    list_start : (ns : List ℕ) (list : ListOf) (next : ℕ) (xs : List Frame) (place : ℕ) → AllFit (FitsNode t k size depth) ns
        → Holds f place (list_made M ns list next xs place) → numbers_from t list next ≡ ns
        → ReachesCode t f k size xs (place + length (list_made M ns list next xs place)) → AllStart place (list_made M ns list next xs place)
    list_start [] list next xs place fits h e reach = tt
    list_start (n ∷ ns) list next xs place fits h e reach =
        let here = Statements list next ∷ xs in
        let rest = rest_of ns list (next + 1) xs in
        let one = M place n here rest in
        let then_at = place + length one in
        let others = list_made M ns list (next + 1) xs then_at in
        let is_list = list_is_code f k size fits_in M (IsNodeCode t f k size depth) (FitsNode t k size depth) (node_is_code f k size fits_in t depth) in
        let front = holds_front f place one others h in
        let later = holds_rest f place one others h in
        let both = length-append one others in
        let end : place + length (one ++ others) ≡ then_at + length others = omega (arith, both) in
        let after = subst (λ m. ReachesCode t f k size xs m) end reach in
        let numbers = next_numbers t list next n ns e in
        let reach_rest =
        list_reaches t f k size depth ns list (next + 1) xs then_at (then_at + length others)
        (is_list ns list (next + 1) xs then_at fits.1 later) numbers after in
        let reach_here =
        list_reaches t f k size depth (n ∷ ns) list next xs place (place + length (one ++ others)) (is_list (n ∷ ns) list next xs place fits h) e reach in
        both_start place one others (starts place n here rest fits.0 front reach_here reach_rest)
        (list_start ns list (next + 1) xs then_at fits.1 later numbers after)

    if_start : (n : ℕ) (e : Expr) (a b : List ℕ) (here xs : List Frame) (place : ℕ) → kind_at t n ≡ Some (if_node e a b)
        → FitsTest k size e × AllFit (FitsNode t k size depth) a × AllFit (FitsNode t k size depth) b → Holds f place (if_made M place n e k a b here xs)
        → ReachesCode t f k size here place → ReachesCode t f k size xs (place + length (if_made M place n e k a b here xs))
        → AllStart place (if_made M place n e k a b here xs)
    if_start n e a b here xs place is fits h reach after =
        let start = place + test_length e k in
        let first = list_made M a (Then n) 0 xs start in
        let arm_at = start + length first in
        let other = other_at start first b in
        let second = list_made M b (Other n) 0 xs other in
        let behind = other + length second in
        let test = unless (test_of e k) other in
        let over = arm_end b xs behind in
        let T = tested e k here test in
        let t_long = tested_length e k here test in
        let after_t : place + length T ≡ start = omega (arith, t_long) in
        let arms = subst (λ m. Holds f m (first ++ (over ++ second))) after_t (holds_rest f place T (first ++ (over ++ second)) h) in
        let rest = holds_rest f start first (over ++ second) arms in
        let over_long =
        arm_end_long f k size fits_in M (IsNodeCode t f k size depth) (FitsNode t k size depth) (node_is_code f k size fits_in t depth) b xs behind in
        let after_over : arm_at + length over ≡ other = omega (arith, over_long) in
        let two = subst (λ m. Holds f m second) after_over (holds_rest f arm_at over second rest) in
        let l1 = length-append T (first ++ (over ++ second)) in
        let l2 = length-append first (over ++ second) in
        let l3 = length-append over second in
        let end : place + length (T ++ (first ++ (over ++ second))) ≡ behind = omega (arith, l1, l2, l3, t_long, over_long) in
        let reach_behind = subst (λ m. ReachesCode t f k size xs m) end after in
        let over_holds = holds_front f arm_at over second rest in
        let jumps =
        over_is f k size fits_in M (IsNodeCode t f k size depth) (FitsNode t k size depth) (node_is_code f k size fits_in t depth) n xs b arm_at over_holds in
        let reach_arm = arm_reaches t f k size b xs arm_at behind jumps reach_behind in
        both_start place T (first ++ (over ++ second))
        (tested_start here place (before_test e k) test reach (holds_front f place T (first ++ (over ++ second)) h))
        (subst (λ m. AllStart m (first ++ (over ++ second))) (sym after_t)
        (both_start start first (over ++ second)
        (list_start a (Then n) 0 xs start fits.1 (holds_front f start first (over ++ second) arms) (then_numbers t n e a b is) reach_arm)
        (both_start arm_at over second (over_start xs b arm_at behind reach_arm over_holds)
        (subst (λ m. AllStart m second) (sym after_over) (list_start b (Other n) 0 xs other fits.2 two (other_numbers t n e a b is) reach_behind)))))

    while_start : (n : ℕ) (e : Expr) (a : List ℕ) (here xs : List Frame) (place : ℕ) → kind_at t n ≡ Some (while_node e a)
        → FitsTest k size e × AllFit (FitsNode t k size depth) a → Holds f place (while_made M place n e k a here xs)
        → ReachesCode t f k size here place → ReachesCode t f k size xs (place + length (while_made M place n e k a here xs))
        → AllStart place (while_made M place n e k a here xs)
    while_start n e a here xs place is fits h reach after =
        let body = place + test_length e k in
        let again = Again n ∷ xs in
        let inside = list_made M a (Round n) 0 again body in
        let again_at = body + length inside in
        let behind = again_at + test_length e k in
        let test = rounds (test_of e k) body behind in
        let one = tested e k here test in
        let two = tested e k again test in
        let one_long = tested_length e k here test in
        let two_long = tested_length e k again test in
        let after_one : place + length one ≡ body = omega (arith, one_long) in
        let rest = subst (λ m. Holds f m (inside ++ two)) after_one (holds_rest f place one (inside ++ two) h) in
        let second = holds_rest f body inside two rest in
        let l1 = length-append one (inside ++ two) in
        let l2 = length-append inside two in
        let end : place + length (one ++ (inside ++ two)) ≡ behind = omega (arith, l1, l2, one_long, two_long) in
        let code : IsAgainCode f k size (IsNodeCode t f k size depth) n e a xs again_at body behind = record {
          mark = first_tested f again again_at (before_test e k) test second;
          test = round_is_code f k size fits_in e again body behind again_at fits.0 second;
          round =
              list_is_code f k size fits_in M (IsNodeCode t f k size depth) (FitsNode t k size depth) (node_is_code f k size fits_in t depth) a (Round n) 0
              again body fits.1
              (holds_front f body inside two rest);
        } in
        let reach_again = again_reaches t f k size depth n e a xs again_at body behind is code (subst (λ m. ReachesCode t f k size xs m) end after) in
        both_start place one (inside ++ two) (tested_start here place (before_test e k) test reach (holds_front f place one (inside ++ two) h))
        (subst (λ m. AllStart m (inside ++ two)) (sym after_one)
        (both_start body inside two
        (list_start a (Round n) 0 again body fits.1 (holds_front f body inside two rest) (round_numbers t n e a is) reach_again)
        (tested_start again again_at (before_test e k) test reach_again second)))

    kind_start : (n : ℕ) (here xs : List Frame) (place : ℕ) (kind : Option Kind) → kind_at t n ≡ kind → FitsKind k size (FitsNode t k size depth) kind
        → Holds f place (kind_made k M n here xs place kind) → ReachesCode t f k size here place
        → ReachesCode t f k size xs (place + length (kind_made k M n here xs place kind)) → AllStart place (kind_made k M n here xs place kind)
    kind_start n here xs place None is fits h reach after = tt
    kind_start n here xs place (Some (let_node s e)) is fits h reach after = acts_start here place (code_of e s k) reach h
    kind_start n here xs place (Some (assign_node s e)) is fits h reach after = acts_start here place (code_of e s k) reach h
    kind_start n here xs place (Some (put_node b i e)) is fits h reach after = acts_start here place (put_code b i e k) reach h
    kind_start n here xs place (Some (alloc_node s e)) is fits h reach after = alone_start here place reach h
    kind_start n here xs place (Some (free_node s)) is fits h reach after = alone_start here place reach h
    kind_start n here xs place (Some (if_node e a b)) is fits h reach after = if_start n e a b here xs place is fits h reach after
    kind_start n here xs place (Some (while_node e a)) is fits h reach after = while_start n e a here xs place is fits h reach after
    kind_start n here xs place (Some (call_node to func from)) is fits h reach after = alone_start here place reach h
    kind_start n here xs place (Some (print_node e)) is fits h reach after = alone_start here place reach h
    kind_start n here xs place (Some (both_node a b blocks assigned)) is fits h reach after = alone_start here place reach h
    kind_start n here xs place (Some (split_node s e l r a)) is fits h reach after = alone_start here place reach h

  -- ---- nodes, and whole lists

  node_start : (depth place n : ℕ) (here xs : List Frame) → FitsNode t k size depth n → Holds f place (node_made t k depth place n here xs)
      → ReachesCode t f k size here place → ReachesCode t f k size xs (place + length (node_made t k depth place n here xs))
      → AllStart place (node_made t k depth place n here xs)
  node_start zero place n here xs fits h reach after = absurd fits
  node_start (suc depth) place n here xs fits h reach after =
      kind_start depth (node_start depth) n here xs place (kind_at t n) refl fits h reach after

  pub whole_start : (depth : ℕ) (list : ListOf) (place : ℕ) → FitsList t k size depth list → Holds f place (whole_made t k depth list place)
      → AllStart place (whole_made t k depth list place)
  whole_start depth list place fits h =
      let inside = list_made (node_made t k depth) (numbers_from t list 0) list 0 [] place in
      let last = holds_rest f place inside (left_alone []) h in
      let reach : ReachesCode t f k size [] (place + length inside) = (zero, place + length inside, refl, last.0) in
      both_start place inside (left_alone [])
      (list_start depth (node_start depth) (numbers_from t list 0) list 0 [] place fits.1 (holds_front f place inside (left_alone []) h) refl reach)
      (alone_start [] (place + length inside) reach last)

  start_at : (place : ℕ) (ps : List Placed) → AllStart place ps → (i : ℕ) → i < length ps → Starts (place + i)
  start_at place [] all i within = absurd (omega (arith, within))
  start_at place (p ∷ ps) all zero within = subst Starts (let e : place ≡ place + 0 = omega arith in e) all.0
  start_at place (p ∷ ps) all (suc i) within = subst Starts (next_place place i) (start_at (suc place) ps all.1 i (omega (arith, within)))

  pub others_begin : (ps : List Placed) → f ≡ flat_of ps → AllStart 0 ps → OthersBegin t f k size
  others_begin ps is all place within other = by (start_at 0 ps all place less)
    where
      less : place < length ps
      less =
          let long : length f.places ≡ length ps = ap (λ (g : FlatCode). length g.places) is ∙ length-map ps what_of in
          omega (arith, within, long)

      by : Starts (0 + place) → Begins t f k size place
      by (inl begins) = subst (λ n. Begins t f k size n) (let e : 0 + place ≡ place = omega arith in e) begins
      by (inr same) = absurd (other (subst (λ n. IsWithinStatement f n) (let e : 0 + place ≡ place = omega arith in e) same))

pub made_begins : (t : Table) (k size : ℕ) (list : ListOf) (ps : List Placed) → CanBeFlat t k size list → ps ≡ whole_made t k (length t.nodes) list 0
    → OthersBegin t (flat_of ps) k size
made_begins t k size list ps fits is =
    others_begin t (flat_of ps) k size fits.0 ps refl
    (subst (λ q. AllStart t (flat_of ps) k size fits.0 0 q) (sym is)
    (whole_start t (flat_of ps) k size fits.0 (length t.nodes) list 0 fits (subst (λ q. Holds (flat_of ps) 0 q) is (holds_all ps))))
