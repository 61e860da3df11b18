-- From which places there is the code of which frames.
use Rattle.std.proofs.Common.{◌≡◌, ℕ, zero, suc, ◌+◌, List, [], ◌∷◌, drop, Option, Some, None, refl, sym, ap, ◌∙◌, subst, arith}
use Rattle.thread_stack.specs.Passed.Table.{Expr, Kind, let_node, assign_node, put_node, alloc_node, free_node, if_node, while_node, call_node, print_node, both_node, split_node, Table}
use Rattle.thread_stack.specs.declared.frame.Frame.{Frame}
use Rattle.thread_stack.specs.declared.frame.Frame.TheVariants.{Statements, Again, Tree, Answers, Rejoins, AnswersMain, Allocates, Joins}
use Rattle.thread_stack.specs.declared.list_of.ListOf.{ListOf}
use Rattle.thread_stack.specs.declared.list_of.ListOf.TheVariants.{Then, Other, Round}
use Rattle.thread_stack.specs.Lists.{kind_at, then_of, other_of, round_of, numbers_of, numbers_from}
use Rattle.flat_statements.specs.Flat.{FlatCode, frames_at}
use Rattle.flat_statements.specs.Threads.{rest_of}
use Rattle.flat_statements.specs.Codes.{StatementCode, IsByItself, IsKindCode, IsListCode, IsArmEnd, IsAgainCode, IsNodeCode, IsWholeCode}
use Rattle.flat_statements.specs.Follows.{Jumps, Reaches, IsRestCode, IsLoopCode, IsCodeOf}

-- ---- numbers of lists

tail_of : {A : Type 0} (x y : A) (xs ys : List A) → x ∷ xs ≡ y ∷ ys → xs ≡ ys
tail_of x y xs ys e = ap (drop 1) e

drop_tail : (next n : ℕ) (ns xs : List ℕ) → drop next xs ≡ n ∷ ns → drop (suc next) xs ≡ ns
drop_tail zero n ns [] e = let never : ⊥ = cc in absurd never
drop_tail zero n ns (x ∷ xs) e = tail_of x n xs ns e
drop_tail (suc next) n ns [] e = let never : ⊥ = cc in absurd never
drop_tail (suc next) n ns (x ∷ xs) e = drop_tail next n ns xs e

pub next_numbers : (t : Table) (list : ListOf) (next n : ℕ) (ns : List ℕ) → numbers_from t list next ≡ n ∷ ns → numbers_from t list (next + 1) ≡ ns
next_numbers t list next n ns e =
    ap (λ (m : ℕ). drop m (numbers_of t list)) (let s : next + 1 ≡ suc next = omega arith in s) ∙ drop_tail next n ns (numbers_of t list) e

pub then_numbers : (t : Table) (n : ℕ) (e : Expr) (a b : List ℕ) → kind_at t n ≡ Some (if_node e a b) → numbers_from t (Then n) 0 ≡ a
then_numbers t n e a b is = ap (λ (kind : Option Kind). drop 0 (then_of kind)) is

pub other_numbers : (t : Table) (n : ℕ) (e : Expr) (a b : List ℕ) → kind_at t n ≡ Some (if_node e a b) → numbers_from t (Other n) 0 ≡ b
other_numbers t n e a b is = ap (λ (kind : Option Kind). drop 0 (other_of kind)) is

pub round_numbers : (t : Table) (n : ℕ) (e : Expr) (a : List ℕ) → kind_at t n ≡ Some (while_node e a) → numbers_from t (Round n) 0 ≡ a
round_numbers t n e a is = ap (λ (kind : Option Kind). drop 0 (round_of kind)) is

module _ (t : Table) (f : FlatCode) (k size : ℕ) where
  -- ---- marks

  rest_mark : (Q : StatementCode) (P : ℕ → Type 0) (ns : List ℕ) (list : ListOf) (next : ℕ) (xs : List Frame) (place : ℕ)
      → IsRestCode f Q P ns list next xs place
      → frames_at f place ≡ Statements list next ∷ xs
  rest_mark Q P [] list next xs place h = absurd h
  rest_mark Q P (n ∷ ns) list next xs place h = h.1.0

  loop_mark : (Q : StatementCode) (P : ℕ → Type 0) (n : ℕ) (xs : List Frame) (place : ℕ) (kind : Option Kind)
      → IsLoopCode f k size Q P n xs place kind
      → frames_at f place ≡ Again n ∷ xs
  loop_mark Q P n xs place (Some (while_node e a)) h = h.2.mark
  loop_mark Q P n xs place None h = absurd h
  loop_mark Q P n xs place (Some (let_node s e)) h = absurd h
  loop_mark Q P n xs place (Some (assign_node s e)) h = absurd h
  loop_mark Q P n xs place (Some (put_node b i e)) h = absurd h
  loop_mark Q P n xs place (Some (alloc_node s e)) h = absurd h
  loop_mark Q P n xs place (Some (free_node s)) h = absurd h
  loop_mark Q P n xs place (Some (if_node e a b)) h = absurd h
  loop_mark Q P n xs place (Some (call_node to func from)) h = absurd h
  loop_mark Q P n xs place (Some (print_node e)) h = absurd h
  loop_mark Q P n xs place (Some (both_node a b blocks assigned)) h = absurd h
  loop_mark Q P n xs place (Some (split_node s e l r a)) h = absurd h

  pub code_mark : (xs : List Frame) (place : ℕ) → IsCodeOf t f k size xs place → frames_at f place ≡ xs
  code_mark [] place h = h.mark
  code_mark (Statements list next ∷ xs) place h =
      rest_mark (IsNodeCode t f k size h.0) (IsCodeOf t f k size xs) (numbers_from t list next) list next xs place h.1
  code_mark (Again n ∷ xs) place h = loop_mark (IsNodeCode t f k size h.0) (IsCodeOf t f k size xs) n xs place (kind_at t n) h.1
  code_mark (Tree shape ∷ xs) place h = absurd h
  code_mark (Answers n caller ∷ xs) place h = absurd h
  code_mark (Rejoins n ∷ xs) place h = absurd h
  code_mark (AnswersMain ∷ xs) place h = absurd h
  code_mark (Allocates slot len ∷ xs) place h = absurd h
  code_mark (Joins branch ∷ xs) place h = absurd h

  pub jump_mark : (xs : List Frame) (many place end : ℕ) → Jumps f xs many place end → IsCodeOf t f k size xs end → frames_at f place ≡ xs
  jump_mark xs zero place end e h = ap (frames_at f) e ∙ code_mark xs end h
  jump_mark xs (suc many) place end jumps h = jumps.1.mark

  -- ---- lists

  abbrev pub ReachesCode : List Frame → ℕ → Type 0
  ReachesCode xs place = Reaches f xs (IsCodeOf t f k size xs) place

  -- from the place of a list there is the code of the frame of the list, if there is any, and of what is after it
  pub list_reaches : (depth : ℕ) (ns : List ℕ) (list : ListOf) (next : ℕ) (xs : List Frame) (place behind : ℕ)
      → IsListCode f (IsNodeCode t f k size depth) ns list next xs place behind → numbers_from t list next ≡ ns → ReachesCode xs behind
      → ReachesCode (rest_of ns list next xs) place
  list_reaches depth [] list next xs place behind h e reach = subst (λ (b : ℕ). ReachesCode xs b) (sym h) reach
  list_reaches depth (n ∷ ns) list next xs place behind h e reach = (
    zero,
    place,
    refl,
    (
      depth,
      subst (λ (ms : List ℕ). IsRestCode f (IsNodeCode t f k size depth) (IsCodeOf t f k size xs) ms list next xs place) (sym e)
          (behind, h, reach),
    ),
  )

  -- from the end of the first arm of an `if` there is the code of what is after the `if`
  pub arm_reaches : (b : List ℕ) (xs : List Frame) (place behind : ℕ) → IsArmEnd f xs b place behind → ReachesCode xs behind → ReachesCode xs place
  arm_reaches [] xs place behind h reach = subst (λ (b : ℕ). ReachesCode xs b) (sym h) reach
  arm_reaches (n ∷ ns) xs place behind h reach = (suc reach.0, reach.1, (behind, h, reach.2), reach.3)

  -- from the second test of a loop there is the code of the loop that comes again
  pub again_reaches : (depth n : ℕ) (e : Expr) (a : List ℕ) (xs : List Frame) (place body behind : ℕ) → kind_at t n ≡ Some (while_node e a)
      → IsAgainCode f k size (IsNodeCode t f k size depth) n e a xs place body behind → ReachesCode xs behind
      → ReachesCode (Again n ∷ xs) place
  again_reaches depth n e a xs place body behind is h reach = (
    zero,
    place,
    refl,
    (
      depth,
      subst (λ (kind : Option Kind). IsLoopCode f k size (IsNodeCode t f k size depth) (IsCodeOf t f k size xs) n xs place kind)
          (sym is) (body, behind, h, reach),
    ),
  )

  -- from its body there is the code of the body, and then of the loop that comes again
  pub body_reaches : (depth n : ℕ) (e : Expr) (a : List ℕ) (xs : List Frame) (place body behind : ℕ) → kind_at t n ≡ Some (while_node e a)
      → IsAgainCode f k size (IsNodeCode t f k size depth) n e a xs place body behind → ReachesCode xs behind
      → ReachesCode (rest_of a (Round n) 0 (Again n ∷ xs)) body
  body_reaches depth n e a xs place body behind is h reach =
      list_reaches depth a (Round n) 0 (Again n ∷ xs) body place h.round (round_numbers t n e a is)
      (again_reaches depth n e a xs place body behind is h reach)

  pub whole_reaches : (list : ListOf) (place : ℕ) → IsWholeCode t f k size list place → ReachesCode (rest_of (numbers_from t list 0) list 0 []) place
  whole_reaches list place h = list_reaches h.depth (numbers_from t list 0) list 0 [] place h.behind h.code refl (zero, h.behind, refl, h.end)

  -- ---- after a statement that the thread does by itself

  left_behind : (P : StatementCode) (n : ℕ) (here xs : List Frame) (place behind : ℕ) (kind : Option Kind) → IsByItself kind
      → IsKindCode f k size P n here xs place behind kind → behind ≡ suc place
  left_behind P n here xs place behind None itself h = absurd h
  left_behind P n here xs place behind (Some (let_node s e)) itself h = absurd itself
  left_behind P n here xs place behind (Some (assign_node s e)) itself h = absurd itself
  left_behind P n here xs place behind (Some (put_node b i e)) itself h = absurd itself
  left_behind P n here xs place behind (Some (if_node e a b)) itself h = absurd itself
  left_behind P n here xs place behind (Some (while_node e a)) itself h = absurd itself
  left_behind P n here xs place behind (Some (alloc_node s e)) itself h = h.next
  left_behind P n here xs place behind (Some (free_node s)) itself h = h.next
  left_behind P n here xs place behind (Some (call_node to func from)) itself h = h.next
  left_behind P n here xs place behind (Some (print_node e)) itself h = h.next
  left_behind P n here xs place behind (Some (both_node a b blocks assigned)) itself h = h.next
  left_behind P n here xs place behind (Some (split_node s e l r a)) itself h = h.next

  node_behind : (depth n : ℕ) (here xs : List Frame) (place behind : ℕ) → IsByItself (kind_at t n) → IsNodeCode t f k size depth place n here xs behind
      → behind ≡ suc place
  node_behind zero n here xs place behind itself h = absurd h
  node_behind (suc depth) n here xs place behind itself h =
      left_behind (IsNodeCode t f k size depth) n here xs place behind (kind_at t n) itself h

  pub goes_on : (place : ℕ) (list : ListOf) (next n : ℕ) (ns : List ℕ) (xs : List Frame) → IsCodeOf t f k size (Statements list next ∷ xs) place
      → numbers_from t list next ≡ n ∷ ns → IsByItself (kind_at t n) → ReachesCode (rest_of ns list (next + 1) xs) (suc place)
  goes_on place list next n ns xs h e itself =
      let depth = h.0 in
      let code : IsRestCode f (IsNodeCode t f k size depth) (IsCodeOf t f k size xs) (n ∷ ns) list next xs place =
      subst (λ (ms : List ℕ). IsRestCode f (IsNodeCode t f k size depth) (IsCodeOf t f k size xs) ms list next xs place) e h.1 in
      let statement = code.1.1 in
      subst (λ (b : ℕ). ReachesCode (rest_of ns list (next + 1) xs) b)
      (node_behind depth n (Statements list next ∷ xs) (rest_of ns list (next + 1) xs) place statement.0 itself statement.1)
      (list_reaches depth ns list (next + 1) xs statement.0 code.0 statement.2 (next_numbers t list next n ns e) code.2)
