-- What is made of a node table goes forward.
use Rattle.std.proofs.Common.{◌≡◌, ℕ, zero, suc, ◌+◌, ◌<◌, List, [], ◌∷◌, ◌++◌, length, map, Option, Some, None, slice_get, refl, sym, subst, arith}
use Rattle.node_table.specs.Table.{Expr, Kind, let_node, assign_node, put_node, alloc_node, free_node, if_node, while_node, call_node, print_node, both_node, split_node, Table}
use Rattle.thread_stack.specs.declared.frame.Frame.{Frame}
use Rattle.thread_stack.specs.declared.frame.Frame.TheVariants.{Statements, Again}
use Rattle.thread_stack.specs.declared.list_of.ListOf.{ListOf}
use Rattle.thread_stack.specs.declared.list_of.ListOf.TheVariants.{Then, Other, Round}
use Rattle.thread_stack.specs.Lists.{kind_at, numbers_from}
use Rattle.flat_expressions.specs.Acts.{Act}
use Rattle.flat_expressions.specs.Codes.{code_of, put_code, before_test, test_of}
use Rattle.flat_statements.specs.Flat.{Flat, unless, rounds}
use Rattle.flat_statements.specs.Forward.{GoesForward, IsForward}
use Rattle.flat_statements.specs.Threads.{rest_of}
use Rattle.flat_code.specs.Made.{Placed, placed, acts_placed, tested, test_length, Making, list_made, arm_end, arm_end_length, other_at, if_made}
use Rattle.flat_code.specs.Made.{while_made, left_alone, kind_made, node_made, whole_made}
use Rattle.flat_code.specs.Shown.{what_of, flat_of}
use Rattle.flat_code.proofs.Acting.{length-acts_placed}
use Rattle.flat_code.proofs.MadeCode.{next_place, tested_length}

-- places that go forward, of which the first is this one
abbrev pub AllForward : ℕ → List Placed → Type 0
AllForward place [] = Unit {0}
AllForward place (p ∷ ps) = GoesForward place p.what × AllForward (suc place) ps

pub both_forward : (place : ℕ) (xs ys : List Placed) → AllForward place xs → AllForward (place + length xs) ys → AllForward place (xs ++ ys)
both_forward place [] ys one two = subst (λ n. AllForward n ys) (let e : place + 0 ≡ place = omega arith in e) two
both_forward place (x ∷ xs) ys one two =
    (one.0, both_forward (suc place) xs ys one.1 (subst (λ n. AllForward n ys) (sym (next_place place (length xs))) two))

acts_forward : (here : List Frame) (place : ℕ) (acts : List Act) → AllForward place (acts_placed here acts)
acts_forward here place [] = tt
acts_forward here place (a ∷ acts) = (tt, acts_forward here (suc place) acts)

tested_forward : (e : Expr) (k : ℕ) (here : List Frame) (test : Flat) (place : ℕ) → GoesForward (place + length (before_test e k)) test
    → AllForward place (tested e k here test)
tested_forward e k here test place goes =
    both_forward place (acts_placed here (before_test e k)) (placed test here ∷ []) (acts_forward here place (before_test e k))
    (subst (λ n. GoesForward (place + n) test) (sym (length-acts_placed here (before_test e k))) goes, tt)

module _ (M : Making) (made : (place n : ℕ) (here xs : List Frame) → AllForward place (M place n here xs)) (k : ℕ) where
  list_forward : (ns : List ℕ) (list : ListOf) (next : ℕ) (xs : List Frame) (place : ℕ) → AllForward place (list_made M ns list next xs place)
  list_forward [] list next xs place = tt
  list_forward (n ∷ ns) list next xs place =
      let one = M place n (Statements list next ∷ xs) (rest_of ns list (next + 1) xs) in
      both_forward place one (list_made M ns list (next + 1) xs (place + length one)) (made place n (Statements list next ∷ xs) (rest_of ns list (next + 1) xs))
      (list_forward ns list (next + 1) xs (place + length one))

  over_forward : (xs : List Frame) (b : List ℕ) (at behind : ℕ) → at + arm_end_length b + 0 < suc behind → AllForward at (arm_end b xs behind)
  over_forward xs [] at behind less = tt
  over_forward xs (n ∷ ns) at behind less = (let later : at < behind = omega (arith, less) in later, tt)

  over_long : (b : List ℕ) (xs : List Frame) (behind : ℕ) → length (arm_end b xs behind) ≡ arm_end_length b
  over_long [] xs behind = refl
  over_long (n ∷ ns) xs behind = refl

  if_forward : (n : ℕ) (e : Expr) (a b : List ℕ) (here xs : List Frame) (place : ℕ) → AllForward place (if_made M place n e k a b here xs)
  if_forward n e a b here xs place =
      let start = place + test_length e k in
      let first = list_made M a (Then n) 0 xs start in
      let other = other_at start first b in
      let second = list_made M b (Other n) 0 xs other in
      let behind = other + length second in
      let test = unless (test_of e k) other in
      let over = arm_end b xs behind in
      let long = over_long b xs behind in
      let t_long = tested_length e k here test in
      let after_test : start ≡ place + length (tested e k here test) = omega (arith, t_long) in
      let after_over : other ≡ start + length first + length over = omega (arith, long) in
      both_forward place (tested e k here test) (first ++ (over ++ second)) (tested_forward e k here test place (omega arith))
      (subst (λ m. AllForward m (first ++ (over ++ second))) after_test
      (both_forward start first (over ++ second) (list_forward a (Then n) 0 xs start)
      (both_forward (start + length first) over second (over_forward xs b (start + length first) behind (omega arith))
      (subst (λ m. AllForward m second) after_over (list_forward b (Other n) 0 xs other)))))

  while_forward : (n : ℕ) (e : Expr) (a : List ℕ) (here xs : List Frame) (place : ℕ) → AllForward place (while_made M place n e k a here xs)
  while_forward n e a here xs place =
      let body = place + test_length e k in
      let again = Again n ∷ xs in
      let inside = list_made M a (Round n) 0 again body in
      let again_at = body + length inside in
      let behind = again_at + test_length e k in
      let test = rounds (test_of e k) body behind in
      let t_long = tested_length e k here test in
      let after_test : body ≡ place + length (tested e k here test) = omega (arith, t_long) in
      both_forward place (tested e k here test) (inside ++ tested e k again test) (tested_forward e k here test place (omega arith))
      (subst (λ m. AllForward m (inside ++ tested e k again test)) after_test
      (both_forward body inside (tested e k again test) (list_forward a (Round n) 0 again body) (tested_forward e k again test again_at (omega arith))))

  kind_forward : (n : ℕ) (here xs : List Frame) (place : ℕ) (kind : Option Kind) → AllForward place (kind_made k M n here xs place kind)
  kind_forward n here xs place None = tt
  kind_forward n here xs place (Some (let_node s e)) = acts_forward here place (code_of e s k)
  kind_forward n here xs place (Some (assign_node s e)) = acts_forward here place (code_of e s k)
  kind_forward n here xs place (Some (put_node b i e)) = acts_forward here place (put_code b i e k)
  kind_forward n here xs place (Some (alloc_node s e)) = (tt, tt)
  kind_forward n here xs place (Some (free_node s)) = (tt, tt)
  kind_forward n here xs place (Some (if_node e a b)) = if_forward n e a b here xs place
  kind_forward n here xs place (Some (while_node e a)) = while_forward n e a here xs place
  kind_forward n here xs place (Some (call_node to func from)) = (tt, tt)
  kind_forward n here xs place (Some (print_node e)) = (tt, tt)
  kind_forward n here xs place (Some (both_node a b blocks assigned)) = (tt, tt)
  kind_forward n here xs place (Some (split_node s e l r a)) = (tt, tt)

node_forward : (t : Table) (k depth place n : ℕ) (here xs : List Frame) → AllForward place (node_made t k depth place n here xs)
node_forward t k zero place n here xs = tt
node_forward t k (suc depth) place n here xs =
    kind_forward (node_made t k depth) (node_forward t k depth) k n here xs place (kind_at t n)

pub whole_forward : (t : Table) (k depth : ℕ) (list : ListOf) (place : ℕ) → AllForward place (whole_made t k depth list place)
whole_forward t k depth list place =
    let inside = list_made (node_made t k depth) (numbers_from t list 0) list 0 [] place in
    both_forward place inside (left_alone []) (list_forward (node_made t k depth) (node_forward t k depth) k (numbers_from t list 0) list 0 [] place) (tt, tt)

-- ---- and as flat code

forward_from : (place : ℕ) (ps : List Placed) → AllForward place ps → (i : ℕ) (what : Flat) → slice_get (map what_of ps) i ≡ Some what
    → GoesForward (place + i) what
forward_from place [] all i what e = let never : ⊥ = cc in absurd never
forward_from place (p ∷ ps) all zero what e =
    let same : p.what ≡ what = cc in
    let here : place ≡ place + 0 = omega arith in
    subst (λ n. GoesForward n what) here (subst (λ w. GoesForward place w) same all.0)
forward_from place (p ∷ ps) all (suc i) what e =
    subst (λ n. GoesForward n what) (next_place place i) (forward_from (suc place) ps all.1 i what e)

pub forward_is : (ps : List Placed) → AllForward 0 ps → IsForward (flat_of ps)
forward_is ps all place what e =
    subst (λ n. GoesForward n what) (let same : 0 + place ≡ place = omega arith in same) (forward_from 0 ps all place what e)

pub made_forward : (t : Table) (k depth : ℕ) (list : ListOf) (ps : List Placed) → ps ≡ whole_made t k depth list 0 → IsForward (flat_of ps)
made_forward t k depth list ps is = forward_is ps (subst (λ q. AllForward 0 q) (sym is) (whole_forward t k depth list 0))
