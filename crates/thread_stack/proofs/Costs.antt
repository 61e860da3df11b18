-- What is left grows less with each silent step: the facts that its proof needs of a node table.
use Rattle.std.proofs.Common.{◌≡◌, ℕ, zero, suc, ◌+◌, ◌-◌, ◌≤◌, ◌<◌, List, [], ◌∷◌, length, Option, Some, None, refl, sym, ap, subst, arith}
use Rattle.std.specs.Prelude.{slice_get, nat_lt, Bool, true, false}
use Rattle.std.proofs.lemmas.Bool.{ltb-true, ltb-false}
use Rattle.std.proofs.lemmas.Option.{slice_get_within}
use Rattle.depth_first_run.specs.Passed.Tree
use Rattle.depth_first_run.specs.Passed.Tree.{Name, Program, Stmt, let_stmt, assign_stmt, put_stmt, alloc_stmt, free_stmt, if_stmt, while_stmt, call_stmt, print_stmt, par_stmt, split_stmt, done, step}
use Rattle.node_table.specs.Table.{Kind, let_node, assign_node, put_node, alloc_node, free_node, if_node, while_node, call_node, print_node, both_node, split_node, Node, Function, Table}
use Rattle.node_table.specs.Programs.{IsStmt, IsBody, function_names}
use Rattle.thread_stack.specs.declared.list_of.ListOf.{ListOf}
use Rattle.thread_stack.specs.Lists.{kind_at, kind_of_node, numbers_of, numbers_from}
use Rattle.thread_stack.specs.Frames.{IsNode}
use Rattle.thread_stack.proofs.Lists.{drop_one}
use Rattle.thread_stack.specs.Measure.{list_cost, kind_cost, cost_within, node_cost, nodes_cost, bodies_cost, turn_cost}

some_same : {A : Type 0} (m n : A) → Some m ≡ Some n → m ≡ n
some_same m n e = cc

-- each number of a list is at least low
abbrev AllFrom : ℕ → List ℕ → Type 0
AllFrom low [] = Unit {0}
AllFrom low (n ∷ ns) = (low ≤ n) × AllFrom low ns

numbers_from_low : (t : List Node) (functions names : List Name) (b : Tree.Body) (low : ℕ) (ns : List ℕ) → IsBody t functions names b low ns → AllFrom low ns
numbers_from_low t functions names done low [] h = tt
numbers_from_low t functions names done low (n ∷ ns) h = absurd h
numbers_from_low t functions names (step line s rest) low [] h = absurd h
numbers_from_low t functions names (step line s rest) low (n ∷ ns) h = (h.0, numbers_from_low t functions names rest low ns h.2)

-- more depth counts no less
list_more : (less more : ℕ → ℕ) (ns : List ℕ) → ((n : ℕ) → less n ≤ more n) → list_cost less ns ≤ list_cost more ns
list_more less more [] h = omega arith
list_more less more (n ∷ ns) h = let first = h n in let rest = list_more less more ns h in omega (arith, first, rest)

kind_more : (less more : ℕ → ℕ) (k : Option Kind) → ((n : ℕ) → less n ≤ more n) → kind_cost less k ≤ kind_cost more k
kind_more less more None h = omega arith
kind_more less more (Some (let_node s c)) h = omega arith
kind_more less more (Some (assign_node s c)) h = omega arith
kind_more less more (Some (put_node s c d)) h = omega arith
kind_more less more (Some (alloc_node s c)) h = omega arith
kind_more less more (Some (free_node s)) h = omega arith
kind_more less more (Some (if_node c a b)) h = let x = list_more less more a h in let y = list_more less more b h in omega (arith, x, y)
kind_more less more (Some (while_node c a)) h = list_more less more a h
kind_more less more (Some (call_node to f from)) h = omega arith
kind_more less more (Some (print_node c)) h = omega arith
kind_more less more (Some (both_node a b blocks assigned)) h = omega arith
kind_more less more (Some (split_node s c m n a)) h = let x = list_more less more a h in omega (arith, x)

one_more : (t : Table) (depth n : ℕ) → cost_within t depth n ≤ cost_within t (suc depth) n
unfolding cost_within
one_more t zero n = omega arith
one_more t (suc depth) n = let inside = kind_more (cost_within t depth) (cost_within t (suc depth)) (kind_at t n) (one_more t depth) in omega (arith, inside)

deeper : (t : Table) (less more n : ℕ) → cost_within t less n ≤ cost_within t (less + more) n
deeper t less zero n = subst (λ (d : ℕ). cost_within t less n ≤ cost_within t d n) (let e : less ≡ less + 0 = omega arith in e) (omega arith)
deeper t less (suc more) n =
    let rest = deeper t less more n in
    let one = one_more t (less + more) n in
    subst (λ (d : ℕ). cost_within t less n ≤ cost_within t d n) (let e : suc (less + more) ≡ less + suc more = omega arith in e) (omega (arith, rest, one))

-- a node behind a place counts no more by itself than within the depth that is left there
behind : (t : Table) (low n depth : ℕ) → length t.nodes - low ≤ depth → low ≤ n → node_cost t n ≤ cost_within t depth n
behind t low n depth room le =
    let more = deeper t (length t.nodes - n) (depth - (length t.nodes - n)) n in
    subst (λ (d : ℕ). node_cost t n ≤ cost_within t d n) (let e : (length t.nodes - n) + (depth - (length t.nodes - n)) ≡ depth = omega arith in e) more

list_behind : (t : Table) (low depth : ℕ) (ns : List ℕ) → length t.nodes - low ≤ depth → AllFrom low ns → list_cost (node_cost t) ns ≤ list_cost (cost_within t depth) ns
list_behind t low depth [] room h = omega arith
list_behind t low depth (n ∷ ns) room h =
    let first = behind t low n depth room h.0 in
    let rest = list_behind t low depth ns room h.1 in
    omega (arith, first, rest)

-- what stands inside a statement counts no more than within the depth below it
inside_behind : (t : Table) (functions names : List Name) (stmt : Stmt) (low depth : ℕ) (k : Kind) → length t.nodes - low ≤ depth → IsStmt t.nodes functions names stmt low k
    → kind_cost (node_cost t) (Some k) ≤ kind_cost (cost_within t depth) (Some k)
inside_behind t functions names (let_stmt x e) low depth (let_node s c) room h = omega arith
inside_behind t functions names (let_stmt x e) low depth k room h = absurd h
inside_behind t functions names (assign_stmt x e) low depth (assign_node s c) room h = omega arith
inside_behind t functions names (assign_stmt x e) low depth k room h = absurd h
inside_behind t functions names (put_stmt b i e) low depth (put_node s c d) room h = omega arith
inside_behind t functions names (put_stmt b i e) low depth k room h = absurd h
inside_behind t functions names (alloc_stmt b e) low depth (alloc_node s c) room h = omega arith
inside_behind t functions names (alloc_stmt b e) low depth k room h = absurd h
inside_behind t functions names (free_stmt b) low depth (free_node s) room h = omega arith
inside_behind t functions names (free_stmt b) low depth k room h = absurd h
inside_behind t functions names (call_stmt u f args) low depth (call_node to func from) room h = omega arith
inside_behind t functions names (call_stmt u f args) low depth k room h = absurd h
inside_behind t functions names (print_stmt e) low depth (print_node c) room h = omega arith
inside_behind t functions names (print_stmt e) low depth k room h = absurd h
inside_behind t functions names (par_stmt a b) low depth (both_node x y blocks assigned) room h = omega arith
inside_behind t functions names (par_stmt a b) low depth k room h = absurd h
inside_behind t functions names (if_stmt e a b) low depth (if_node c x y) room h =
    let first = list_behind t low depth x room (numbers_from_low t.nodes functions names a low x h.1) in
    let second = list_behind t low depth y room (numbers_from_low t.nodes functions names b low y h.2) in
    omega (arith, first, second)
inside_behind t functions names (if_stmt e a b) low depth k room h = absurd h
inside_behind t functions names (while_stmt e a) low depth (while_node c x) room h = list_behind t low depth x room (numbers_from_low t.nodes functions names a low x h.1)
inside_behind t functions names (while_stmt e a) low depth k room h = absurd h
inside_behind t functions names (split_stmt b e l r a) low depth (split_node s c m n x) room h =
    let first = list_behind t low depth x room (numbers_from_low t.nodes functions names a low x h.4) in omega (arith, first)
inside_behind t functions names (split_stmt b e l r a) low depth k room h = absurd h

-- a statement counts two more than what stands inside it, by itself
pub node_covers : (p : Program) (t : Table) (names : List Name) (n line : ℕ) (stmt : Stmt) → (h : IsNode p t names n line stmt) → 2 + kind_cost (node_cost t) (Some h.node.kind) ≤ node_cost t n
unfolding cost_within
node_covers p t names n line stmt h = go (length t.nodes - n) refl
  where
    below : n < length t.nodes
    below = slice_get_within t.nodes n h.node h.there

    go : (depth : ℕ) → length t.nodes - n ≡ depth → 2 + kind_cost (node_cost t) (Some h.node.kind) ≤ cost_within t depth n
    go zero e = absurd (omega (arith, e, below))
    go (suc depth) e =
        let inside = inside_behind t (function_names p) names stmt (n + 1) depth h.node.kind (omega (arith, e)) h.is in
        subst (λ (k : Option Kind). 2 + kind_cost (node_cost t) (Some h.node.kind) ≤ 2 + kind_cost (cost_within t depth) k) (ap kind_of_node (sym h.there)) (omega (arith, inside))

-- a turn counts more than any statement, and more than the body of any function
nodes_cover : (t : Table) (n most : ℕ) → n < most → node_cost t n ≤ nodes_cost t most
nodes_cover t n zero le = absurd (omega (arith, le))
nodes_cover t n (suc most) le = go (nat_lt n most) refl (nodes_cover t n most)
  where
    go : (b : Bool) → nat_lt n most ≡ b → (n < most → node_cost t n ≤ nodes_cost t most) → node_cost t n ≤ node_cost t most + nodes_cost t most
    go true e rest = let below = rest (ltb-true n most e) in omega (arith, below)
    go false e rest =
        let above = ltb-false n most e in
        let same : n ≡ most = omega (arith, le, above) in
        subst (λ (m : ℕ). node_cost t m ≤ node_cost t most + nodes_cost t most) (sym same) (omega arith)

pub turn_covers_node : (t : Table) (n : ℕ) (node : Node) → slice_get t.nodes n ≡ Some node → 4 + node_cost t n ≤ turn_cost t
turn_covers_node t n node there = let all = nodes_cover t n (length t.nodes) (slice_get_within t.nodes n node there) in omega (arith, all)

bodies_cover : (t : Table) (fs : List Function) (n : ℕ) (f : Function) → slice_get fs n ≡ Some f → list_cost (node_cost t) f.body ≤ bodies_cost t fs
bodies_cover t [] n f there = cc
bodies_cover t (g ∷ fs) zero f there = subst (λ (x : Function). list_cost (node_cost t) x.body ≤ list_cost (node_cost t) g.body + bodies_cost t fs) (some_same g f there) (omega arith)
bodies_cover t (g ∷ fs) (suc n) f there = let rest = bodies_cover t fs n f there in omega (arith, rest)

pub turn_covers_body : (t : Table) (n : ℕ) (f : Function) → slice_get t.funcs n ≡ Some f → 4 + list_cost (node_cost t) f.body ≤ turn_cost t
turn_covers_body t n f there = let all = bodies_cover t t.funcs n f there in omega (arith, all)

-- what is left of a list falls by its first statement
pub rest_costs : (t : Table) (list : ListOf) (next n : ℕ) → slice_get (numbers_of t list) next ≡ Some n → list_cost (node_cost t) (numbers_from t list next) ≡ node_cost t n + list_cost (node_cost t) (numbers_from t list (next + 1))
rest_costs t list next n there = ap (λ (ns : List ℕ). list_cost (node_cost t) ns) (drop_one next n (numbers_of t list) there)
