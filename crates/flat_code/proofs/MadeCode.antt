-- What is made of a node table is its code.
use Rattle.std.proofs.Common.{◌≡◌, ℕ, zero, suc, ◌+◌, ◌<◌, ◌≤◌, List, [], ◌∷◌, ◌++◌, length, Option, Some, None, refl, sym, ap, subst, arith, length-append}
use Rattle.node_table.specs.Table.{Expr, num, var, get, len_of, neg, chain, cmp, Links, last, link, Kind, let_node, assign_node, put_node, alloc_node}
use Rattle.node_table.specs.Table.{free_node, if_node, while_node, call_node, print_node, both_node, split_node, Table}
use Rattle.thread_stack.specs.declared.frame.Frame.{Frame}
use Rattle.thread_stack.specs.declared.frame.Frame.TheVariants.{Statements, Again}
use Rattle.thread_stack.specs.declared.list_of.ListOf.{ListOf}
use Rattle.thread_stack.specs.declared.list_of.ListOf.TheVariants.{Then, Other, Round}
use Rattle.thread_stack.specs.Lists.{kind_at, numbers_from}
use Rattle.flat_expressions.specs.Acts.{Operand, at_slot, Act, element_to, negate_to, operate_to, compare_to, write_at}
use Rattle.flat_expressions.specs.Codes.{operand_of, slot_behind, more_links, code_of, links_code, operand_code, put_code, before_test, test_of}
use Rattle.flat_expressions.proofs.Statements.{assignment_coded, write_coded, condition_coded}
use Rattle.flat_statements.specs.Flat.{Flat, unless, rounds, FlatCode, frames_at}
use Rattle.flat_statements.specs.Threads.{rest_of}
use Rattle.flat_statements.specs.Codes.{Has, HasActs, HasAct, IsSetCode, IsPutCode, IsTestCode, IsRoundCode, StatementCode, IsListCode, IsArmEnd, IsIfCode}
use Rattle.flat_statements.specs.Codes.{IsWhileCode, IsLeft, IsKindCode, IsNodeCode, IsWholeCode}
use Rattle.flat_code.specs.Fits.{FitsSet, FitsPut, FitsTest, AllFit, FitsKind, FitsNode, FitsList, CanBeFlat}
use Rattle.flat_code.specs.Made.{Placed, placed, acts_placed, tested, test_length, Making, list_made, arm_end, arm_end_length, other_at, if_made}
use Rattle.flat_code.specs.Made.{while_made, left_alone, kind_made, node_made, whole_made}
use Rattle.flat_code.specs.Shown.{flat_of}
use Rattle.flat_code.proofs.Acting.{length-acts_placed}

-- flat code has these places from a place on
abbrev pub Holds : FlatCode → ℕ → List Placed → Type 0
Holds f place [] = Unit {0}
Holds f place (p ∷ ps) = Has f place p.what p.mark × Holds f (suc place) ps

pub next_place : (place n : ℕ) → suc place + n ≡ place + suc n
next_place place n = omega arith

pub holds_front : (f : FlatCode) (place : ℕ) (xs ys : List Placed) → Holds f place (xs ++ ys) → Holds f place xs
holds_front f place [] ys h = tt
holds_front f place (x ∷ xs) ys h = (h.0, holds_front f (suc place) xs ys h.1)

pub holds_rest : (f : FlatCode) (place : ℕ) (xs ys : List Placed) → Holds f place (xs ++ ys) → Holds f (place + length xs) ys
holds_rest f place [] ys h = subst (λ n. Holds f n ys) (let e : place ≡ place + 0 = omega arith in e) h
holds_rest f place (x ∷ xs) ys h = subst (λ n. Holds f n ys) (next_place place (length xs)) (holds_rest f (suc place) xs ys h.1)

-- where the places of acts are, the acts are
pub holds_acts : (f : FlatCode) (here : List Frame) (place : ℕ) (acts : List Act) → Holds f place (acts_placed here acts)
    → HasActs f here place acts (place + length (acts_placed here acts))
holds_acts f here place [] h = let e : place ≡ place + 0 = omega arith in e
holds_acts f here place (a ∷ acts) h =
    (h.0, subst (λ n. HasActs f here (suc place) acts n) (next_place place (length (acts_placed here acts))) (holds_acts f here (suc place) acts h.1))

-- ---- the code of an expression is not empty, so the mark of its first place is that of the statement

some_behind : (xs ys : List Act) → HasAct ys → HasAct (xs ++ ys)
some_behind [] ys h = h
some_behind (x ∷ xs) ys h = tt

some_last : (xs : List Act) (a : Act) → HasAct (xs ++ a ∷ [])
some_last xs a = some_behind xs (a ∷ []) (tt {0})

some_links : (ls : Links) (d k : ℕ) (a : Operand) → HasAct (links_code ls d k a)
some_links last d k a = tt
some_links (link op e ls) d k a =
    some_behind (operand_code e (suc k)) (operate_to op (slot_behind ls d k) a (operand_of e (suc k)) ∷ more_links ls (links_code ls d k (at_slot k))) (tt {0})

some_code : (e : Expr) (d k : ℕ) → HasAct (code_of e d k)
some_code (num n) d k = tt
some_code (var s) d k = tt
some_code (get s i) d k = some_last (operand_code i k) (element_to d s (operand_of i k))
some_code (len_of s) d k = tt
some_code (neg e) d k = some_last (operand_code e k) (negate_to d (operand_of e k))
some_code (chain e ls) d k = some_behind (operand_code e k) (links_code ls d k (operand_of e k)) (some_links ls d k (operand_of e k))
some_code (cmp op l r) d k =
    some_behind (operand_code l k) (operand_code r (suc k) ++ compare_to op d (operand_of l k) (operand_of r (suc k)) ∷ [])
    (some_last (operand_code r (suc k)) (compare_to op d (operand_of l k) (operand_of r (suc k))))

first_acts : (f : FlatCode) (here : List Frame) (place : ℕ) (acts : List Act) → HasAct acts → Holds f place (acts_placed here acts)
    → frames_at f place ≡ here
first_acts f here place [] some h = absurd some
first_acts f here place (a ∷ acts) some h = h.0.mark

pub first_tested : (f : FlatCode) (here : List Frame) (place : ℕ) (acts : List Act) (test : Flat)
    → Holds f place (acts_placed here acts ++ placed test here ∷ []) → frames_at f place ≡ here
first_tested f here place [] test h = h.0.mark
first_tested f here place (a ∷ acts) test h = h.0.mark

-- ---- one statement

pub tested_length : (e : Expr) (k : ℕ) (here : List Frame) (test : Flat) → length (tested e k here test) ≡ test_length e k
tested_length e k here test =
    let acts = length-acts_placed here (before_test e k) in
    let whole = length-append (acts_placed here (before_test e k)) (placed test here ∷ []) in
    omega (arith, acts, whole)

module _ (f : FlatCode) (k size : ℕ) (fits_in : k ≤ size) where
  set_is_code : (s : ℕ) (e : Expr) (here : List Frame) (place : ℕ) → FitsSet k size s e → Holds f place (acts_placed here (code_of e s k))
      → IsSetCode f k size s e here place (place + length (acts_placed here (code_of e s k)))
  set_is_code s e here place fits h = record {
    code = code_of e s k;
    some = some_code e s k;
    there = holds_acts f here place (code_of e s k) h;
    does = assignment_coded k size s e fits.1 fits.2 fits.0 fits_in;
  }

  put_some : (b : ℕ) (i e : Expr) → HasAct (put_code b i e k)
  put_some b i e =
      some_behind (operand_code i k) (operand_code e (suc k) ++ write_at b (operand_of i k) (operand_of e (suc k)) ∷ [])
      (some_last (operand_code e (suc k)) (write_at b (operand_of i k) (operand_of e (suc k))))

  put_is_code : (b : ℕ) (i e : Expr) (here : List Frame) (place : ℕ) → FitsPut k size b i e → Holds f place (acts_placed here (put_code b i e k))
      → IsPutCode f k size b i e here place (place + length (acts_placed here (put_code b i e k)))
  put_is_code b i e here place fits h =
      let room : suc k < size = fits.0 in
      let front : k < size = omega (arith, room) in
      record {
        code = put_code b i e k;
        some = put_some b i e;
        there = holds_acts f here place (put_code b i e k) h;
        does = write_coded k size b i e fits.2 fits.4 front fits.3 room fits.5 fits.1;
      }

  test_is_code : (e : Expr) (here : List Frame) (test : Flat) (place : ℕ) → FitsTest k size e → Holds f place (tested e k here test)
      → IsTestCode f k size e (test_of e k) here place (place + length (before_test e k)) × Has f (place + length (before_test e k)) test here
  test_is_code e here test place fits h =
      let acts = acts_placed here (before_test e k) in
      let same : place + length acts ≡ place + length (before_test e k) = ap (λ n. place + n) (length-acts_placed here (before_test e k)) in (
        record {
          code = before_test e k;
          there = subst (λ n. HasActs f here place (before_test e k) n) same
              (holds_acts f here place (before_test e k) (holds_front f place acts (placed test here ∷ []) h));
          tests = condition_coded k size e fits.1 fits.2 fits.0;
        },
        subst (λ n. Has f n test here) same (holds_rest f place acts (placed test here ∷ []) h).0,
      )

  pub round_is_code : (e : Expr) (here : List Frame) (body behind place : ℕ) → FitsTest k size e
      → Holds f place (tested e k here (rounds (test_of e k) body behind)) → IsRoundCode f k size e here place body behind
  round_is_code e here body behind place fits h =
      let parts = test_is_code e here (rounds (test_of e k) body behind) place fits h in
      record { test = test_of e k; at = place + length (before_test e k); before = parts.0; jumps_by = parts.1 }

  -- ---- lists, and statements with lists inside, where what is made of the statements inside is their code

  module _ (M : Making) (P : StatementCode) (F : ℕ → Type 0)
      (made : (place n : ℕ) (here xs : List Frame) → F n → Holds f place (M place n here xs)
      → P place n here xs (place + length (M place n here xs)) × (frames_at f place ≡ here)) where
    pub list_is_code : (ns : List ℕ) (list : ListOf) (next : ℕ) (xs : List Frame) (place : ℕ) → AllFit F ns → Holds f place (list_made M ns list next xs place)
        → IsListCode f P ns list next xs place (place + length (list_made M ns list next xs place))
    list_is_code [] list next xs place fits h = let e : place ≡ place + 0 = omega arith in e
    list_is_code (n ∷ ns) list next xs place fits h =
        let one = M place n (Statements list next ∷ xs) (rest_of ns list (next + 1) xs) in
        let others = list_made M ns list (next + 1) xs (place + length one) in
        let first = made place n (Statements list next ∷ xs) (rest_of ns list (next + 1) xs) fits.0 (holds_front f place one others h) in
        let later = list_is_code ns list (next + 1) xs (place + length one) fits.1 (holds_rest f place one others h) in
        let both = length-append one others in
        let end : place + length one + length others ≡ place + length (one ++ others) = omega (arith, both) in
        (first.1, (place + length one, first.0, subst (λ m. IsListCode f P ns list (next + 1) xs (place + length one) m) end later))

    pub over_is : (n : ℕ) (xs : List Frame) (b : List ℕ) (x : ℕ)
        → Holds f x (arm_end b xs (x + arm_end_length b + length (list_made M b (Other n) 0 xs (x + arm_end_length b))))
        → IsArmEnd f xs b x (x + arm_end_length b + length (list_made M b (Other n) 0 xs (x + arm_end_length b)))
    over_is n xs [] x h = let e : x ≡ x + 0 + 0 = omega arith in e
    over_is n xs (m ∷ ms) x h = h.0

    pub arm_end_long : (b : List ℕ) (xs : List Frame) (behind : ℕ) → length (arm_end b xs behind) ≡ arm_end_length b
    arm_end_long [] xs behind = refl
    arm_end_long (n ∷ ns) xs behind = refl

    if_is_code : (n : ℕ) (e : Expr) (a b : List ℕ) (here xs : List Frame) (place : ℕ) → FitsTest k size e × AllFit F a × AllFit F b
        → Holds f place (if_made M place n e k a b here xs)
        → IsIfCode f k size P n e a b here xs place (place + length (if_made M place n e k a b here xs)) × (frames_at f place ≡ here)
    if_is_code n e a b here xs place fits h =
        let at = place + length (before_test e k) in
        let start = place + test_length e k in
        let first = list_made M a (Then n) 0 xs start in
        let arm_at = start + length first in
        let other = other_at start first b in
        let second = list_made M b (Other n) 0 xs other in
        let behind = other + length second in
        let test = unless (test_of e k) other in
        let over = arm_end b xs behind in
        let T = tested e k here test in
        let tests = holds_front f place T (first ++ (over ++ second)) h in
        let parts = test_is_code e here test place fits.0 tests in
        let t_long = tested_length e k here test in
        let after_t : place + length T ≡ start = omega (arith, t_long) in
        let begins : suc at ≡ start = omega arith in
        let arms = subst (λ m. Holds f m (first ++ (over ++ second))) after_t (holds_rest f place T (first ++ (over ++ second)) h) in
        let one = list_is_code a (Then n) 0 xs start fits.1 (holds_front f start first (over ++ second) arms) in
        let rest = holds_rest f start first (over ++ second) arms in
        let over_long = arm_end_long b xs behind in
        let after_over : arm_at + length over ≡ other = omega (arith, over_long) in
        let two = list_is_code b (Other n) 0 xs other fits.2
        (subst (λ m. Holds f m second) after_over (holds_rest f arm_at over second rest)) in
        let l1 = length-append T (first ++ (over ++ second)) in
        let l2 = length-append first (over ++ second) in
        let l3 = length-append over second in
        let end : behind ≡ place + length (T ++ (first ++ (over ++ second))) = omega (arith, l1, l2, l3, t_long, over_long) in
        let whole : IsIfCode f k size P n e a b here xs place behind = record {
          test = test_of e k;
          at = at;
          other = other;
          arm_end = arm_at;
          before = parts.0;
          jumps_by = parts.1;
          first = subst (λ m. IsListCode f P a (Then n) 0 xs m arm_at) (sym begins) one;
          over = over_is n xs b arm_at (holds_front f arm_at over second rest);
          second = two;
        } in
        (subst (λ m. IsIfCode f k size P n e a b here xs place m) end whole, first_tested f here place (before_test e k) test tests)

    while_is_code : (n : ℕ) (e : Expr) (a : List ℕ) (here xs : List Frame) (place : ℕ) → FitsTest k size e × AllFit F a
        → Holds f place (while_made M place n e k a here xs)
        → IsWhileCode f k size P n e a here xs place (place + length (while_made M place n e k a here xs)) × (frames_at f place ≡ here)
    while_is_code n e a here xs place fits h =
        let body = place + test_length e k in
        let again = Again n ∷ xs in
        let inside = list_made M a (Round n) 0 again body in
        let again_at = body + length inside in
        let behind = again_at + test_length e k in
        let test = rounds (test_of e k) body behind in
        let one = tested e k here test in
        let two = tested e k again test in
        let first = holds_front f place one (inside ++ two) h in
        let one_long = tested_length e k here test in
        let two_long = tested_length e k again test in
        let after_one : place + length one ≡ body = omega (arith, one_long) in
        let rest = subst (λ m. Holds f m (inside ++ two)) after_one (holds_rest f place one (inside ++ two) h) in
        let second = holds_rest f body inside two rest in
        let l1 = length-append one (inside ++ two) in
        let l2 = length-append inside two in
        let end : behind ≡ place + length (one ++ (inside ++ two)) = omega (arith, l1, l2, one_long, two_long) in
        let whole : IsWhileCode f k size P n e a here xs place behind = record {
          body = body;
          again_at = again_at;
          test = round_is_code e here body behind place fits.0 first;
          again = record {
            mark = first_tested f again again_at (before_test e k) test second;
            test = round_is_code e again body behind again_at fits.0 second;
            round = list_is_code a (Round n) 0 again body fits.1 (holds_front f body inside two rest);
          };
        } in
        (subst (λ m. IsWhileCode f k size P n e a here xs place m) end whole, first_tested f here place (before_test e k) test first)

    alone_is_code : (here : List Frame) (place : ℕ) → Holds f place (left_alone here)
        → IsLeft f here place (place + length (left_alone here)) × (frames_at f place ≡ here)
    alone_is_code here place h = (record { there = h.0; next = let e : place + 1 ≡ suc place = omega arith in e }, h.0.mark)

    kind_is_code : (n : ℕ) (here xs : List Frame) (place : ℕ) (kind : Option Kind) → FitsKind k size F kind
        → Holds f place (kind_made k M n here xs place kind)
        → IsKindCode f k size P n here xs place (place + length (kind_made k M n here xs place kind)) kind × (frames_at f place ≡ here)
    kind_is_code n here xs place None fits h = absurd fits
    kind_is_code n here xs place (Some (let_node s e)) fits h = (set_is_code s e here place fits h, first_acts f here place (code_of e s k) (some_code e s k) h)
    kind_is_code n here xs place (Some (assign_node s e)) fits h =
        (set_is_code s e here place fits h, first_acts f here place (code_of e s k) (some_code e s k) h)
    kind_is_code n here xs place (Some (put_node b i e)) fits h =
        (put_is_code b i e here place fits h, first_acts f here place (put_code b i e k) (put_some b i e) h)
    kind_is_code n here xs place (Some (alloc_node s e)) fits h = alone_is_code here place h
    kind_is_code n here xs place (Some (free_node s)) fits h = alone_is_code here place h
    kind_is_code n here xs place (Some (if_node e a b)) fits h = if_is_code n e a b here xs place fits h
    kind_is_code n here xs place (Some (while_node e a)) fits h = while_is_code n e a here xs place fits h
    kind_is_code n here xs place (Some (call_node to func from)) fits h = alone_is_code here place h
    kind_is_code n here xs place (Some (print_node e)) fits h = alone_is_code here place h
    kind_is_code n here xs place (Some (both_node a b blocks assigned)) fits h = alone_is_code here place h
    kind_is_code n here xs place (Some (split_node s e l r a)) fits h = alone_is_code here place h

  -- ---- nodes, and whole lists

  module _ (t : Table) where
    pub node_is_code : (depth place n : ℕ) (here xs : List Frame) → FitsNode t k size depth n → Holds f place (node_made t k depth place n here xs)
        → IsNodeCode t f k size depth place n here xs (place + length (node_made t k depth place n here xs)) × (frames_at f place ≡ here)
    node_is_code zero place n here xs fits h = absurd fits
    node_is_code (suc depth) place n here xs fits h =
        kind_is_code (node_made t k depth) (IsNodeCode t f k size depth) (FitsNode t k size depth) (node_is_code depth) n here xs place (kind_at t n) fits h

    pub whole_is_code : (depth : ℕ) (list : ListOf) (place : ℕ) → FitsList t k size depth list → Holds f place (whole_made t k depth list place)
        → IsWholeCode t f k size list place
    whole_is_code depth list place fits h =
        let inside = list_made (node_made t k depth) (numbers_from t list 0) list 0 [] place in
        record {
          depth = depth;
          behind = place + length inside;
          code =
              list_is_code (node_made t k depth) (IsNodeCode t f k size depth) (FitsNode t k size depth) (node_is_code depth) (numbers_from t list 0) list
              0 [] place fits.1
              (holds_front f place inside (left_alone []) h);
          end = (holds_rest f place inside (left_alone []) h).0;
        }

-- ---- places as flat code hold themselves

after_one : (p : Placed) (all : List Placed) (place : ℕ) (ps : List Placed) → Holds (flat_of all) place ps → Holds (flat_of (p ∷ all)) (suc place) ps
after_one p all place [] h = tt
after_one p all place (q ∷ ps) h = (record { is = h.0.is; mark = h.0.mark }, after_one p all (suc place) ps h.1)

pub holds_all : (ps : List Placed) → Holds (flat_of ps) 0 ps
holds_all [] = tt
holds_all (p ∷ ps) = (record { is = refl; mark = refl }, after_one p ps 0 ps (holds_all ps))

pub made_is_code : (t : Table) (k size : ℕ) (list : ListOf) (ps : List Placed) → CanBeFlat t k size list → ps ≡ whole_made t k (length t.nodes) list 0
    → IsWholeCode t (flat_of ps) k size list 0
made_is_code t k size list ps fits is =
    whole_is_code (flat_of ps) k size fits.0 t (length t.nodes) list 0 fits (subst (λ q. Holds (flat_of ps) 0 q) is (holds_all ps))
