-- The tree of a text is small.
use Rattle.std.proofs.Common.{◌≡◌, ℕ, ◌+◌, ◌≤◌, Bool, true, false, List, [], ◌∷◌, ◌++◌, length, refl, sym, ap, subst, arith}
use Rattle.std.specs.Prelude.{◌↔◌, nat_lt, None}
use Rattle.std.proofs.Math.Logic.{∥∥₁_elim, ∥∥₁_map}
use Rattle.std.proofs.lemmas.Bool.{ltb-true, ltb-false}
use Rattle.std.proofs.lemmas.List.{length-append, length-map}
use Rattle.par_tree.specs.Tree
use Rattle.par_tree.specs.Tree.{Target, unused, block, Stmt, let_stmt, assign_stmt, put_stmt, alloc_stmt, free_stmt, if_stmt, while_stmt, call_stmt, print_stmt, par_stmt, split_stmt, Body, done, step, Func, Program}
use Rattle.par_text.specs.Rule.{Token}
use Rattle.par_text.specs.Form.{token_of, tokens_of}
use Rattle.par_text.specs.Text.{ProgramForm, program_spelling, program_meaning}
use Rattle.par_text.specs.Counts.{crowded, at_start, most_functions, most_names}
use Rattle.par_text.specs.Judging.{IsText}
use Rattle.par_text.specs.Lexing.{longest_text}
use Rattle.par_text.specs.Trees.{IsTreeOfText}
use Rattle.canonical_text.proofs.Counting.{Uncrowded, uncrowded_from, none_crowded}
use Rattle.canonical_text.proofs.Scans.{target_names, stmt_names, body_names}
use Rattle.canonical_text.proofs.Limits.{func_names, ProgramCount, program_to, program_from}
use Rattle.accepted_source.specs.Laws.{EachFunction}
use Rattle.par_tree.specs.Names.{declared_by_target, declared_in_stmt, declared_in_body, param_name, param_names, declared_in}
use Rattle.accepted_source.specs.Sizes.{functions_size, HasFewNames, IsSmall, IsWithinCounts, CountsAreOfTheTree}
use Rattle.accepted_source.proofs.Costs.{program_cost}
use Rattle.accepted_source.proofs.Pieces.{few_text_tokens}

-- the names that are declared are as many as the tokens count

count_target : (t : Target) → length (declared_by_target t) ≡ target_names t
count_target unused = refl
count_target (Tree.integer x) = refl
count_target (block b) = refl

count_two : (a b : Body) → length (declared_in_body a) ≡ body_names a → length (declared_in_body b) ≡ body_names b → length (declared_in_body a ++ declared_in_body b) ≡ body_names a + body_names b
count_two a b first second = let both = length-append (declared_in_body a) (declared_in_body b) in omega (arith, first, second, both)

mutual
  count_stmt : (s : Stmt) → length (declared_in_stmt s) ≡ stmt_names s
  count_stmt (let_stmt x e) = refl
  count_stmt (assign_stmt x e) = refl
  count_stmt (put_stmt b i e) = refl
  count_stmt (alloc_stmt b e) = refl
  count_stmt (free_stmt b) = refl
  count_stmt (if_stmt c a b) = count_two a b (count_body a) (count_body b)
  count_stmt (while_stmt c a) = count_body a
  count_stmt (call_stmt t f args) = count_target t
  count_stmt (print_stmt e) = refl
  count_stmt (par_stmt a b) = count_two a b (count_body a) (count_body b)
  count_stmt (split_stmt b e l r a) = let inside = count_body a in omega (arith, inside)

  count_body : (b : Body) → length (declared_in_body b) ≡ body_names b
  count_body done = refl
  count_body (step line s rest) =
      let first = count_stmt s in
      let more = count_body rest in
      let both = length-append (declared_in_stmt s) (declared_in_body rest) in
      omega (arith, first, more, both)

count_function : (f : Func) → length (declared_in f) ≡ func_names f
count_function f =
    let params = length-map f.params param_name in
    let inside = count_body f.body in
    let both = length-append (param_names f.params) (declared_in_body f.body) in
    omega (arith, params, inside, both)

-- functions and names within the limits

few_functions : (n : ℕ) (p : Program) → n ≤ most_functions → ProgramCount n p → n + length p ≤ most_functions
few_functions n [] le h = omega (arith, le)
few_functions n (f ∷ fs) le h = let rest = few_functions (n + 1) fs h.0.0 h.1 in omega (arith, rest)

few_names : (n : ℕ) (p : Program) → ProgramCount n p → EachFunction HasFewNames p
few_names n [] h = tt
few_names n (f ∷ fs) h = ((let le = h.0.1 in let same = count_function f in omega (arith, le, same)), few_names (n + 1) fs h.1)

-- a tree within the counts, and the counts of the tokens

count_from : (n : ℕ) (p : Program) → n + length p ≤ most_functions → EachFunction HasFewNames p → ProgramCount n p
count_from n [] le h = tt
count_from n (f ∷ fs) le h = (((omega (arith, le)), (let few = h.0 in let same = count_function f in omega (arith, few, same))), count_from (n + 1) fs (omega (arith, le)) h.1)

form_counts : (size : ℕ) (form : ProgramForm size) → (crowded (tokens_of (program_spelling size form)) ≡ None) ↔ IsWithinCounts (program_meaning size form)
form_counts size form = (
  λ none.
      let count = program_to size 0 form at_start (uncrowded_from 0 at_start (tokens_of (program_spelling size form)) none) in
      let few = few_functions 0 (program_meaning size form) (omega arith) count in
      record { functions = omega (arith, few); names = few_names 0 (program_meaning size form) count },
  λ within.
      let le = within.functions in
      none_crowded 0 at_start (tokens_of (program_spelling size form))
      (program_from size 0 form at_start (count_from 0 (program_meaning size form) (omega (arith, le)) within.names)),
)

pub counts : CountsAreOfTheTree
counts most ts p is =
    let go = form_counts is.size is.form in (
      λ none. subst (λ (x : Program). IsWithinCounts x) is.means (go.0 (subst (λ (us : List Token). crowded us ≡ None) (sym is.spelled) none)),
      λ within. subst (λ (us : List Token). crowded us ≡ None) is.spelled (go.1 (subst (λ (x : Program). IsWithinCounts x) (sym is.means) within)),
    )

small_text : (text : List ℕ) (p : Program) → IsText text p → IsSmall p
small_text text p t =
    subst (λ (x : Program). IsSmall x) t.parsed.means
    (let form = t.parsed.form in
    let size = t.parsed.size in
    let count = program_to size 0 form at_start (subst (λ (ts : List Token). Uncrowded at_start ts) (sym t.parsed.spelled) (uncrowded_from 0 at_start t.tokens t.counted)) in
    let few = few_functions 0 (program_meaning size form) (omega arith) count in
    let cost = program_cost size form in
    let tokens = length-map (program_spelling size form) token_of in
    let same = ap (λ (ts : List Token). length ts) t.parsed.spelled in
    let short = few_text_tokens text t.tokens t.lexed in
    record { functions = omega (arith, few); names = few_names 0 (program_meaning size form) count; statements = omega (arith, cost, tokens, same, short) })

-- what holds of the tree of some text holds

is_below : (m n : ℕ) → ∥ m ≤ n ∥₁ → m ≤ n
is_below m n h = go (nat_lt n m) refl
  where
    go : (b : Bool) → nat_lt n m ≡ b → m ≤ n
    go true e = let above = ltb-true n m e in absurd (∥∥₁_elim h (λ x y. absurd x) (λ le. omega (arith, above, le)))
    go false e = ltb-false n m e

each_below : (fs : List Func) → ∥ EachFunction HasFewNames fs ∥₁ → EachFunction HasFewNames fs
each_below [] h = tt
each_below (f ∷ fs) h = (is_below (length (declared_in f)) most_names (∥∥₁_map h (λ both. both.0)), each_below fs (∥∥₁_map h (λ both. both.1)))

pub small : (p : Program) → IsTreeOfText p → IsSmall p
small p h =
    let some : ∥ IsSmall p ∥₁ = ∥∥₁_map h (λ x. small_text x.0 p x.1) in
    record {
      functions = is_below (length p) most_functions (∥∥₁_map some (λ s. s.functions));
      names = each_below p (∥∥₁_map some (λ s. s.names));
      statements = is_below (functions_size p) longest_text (∥∥₁_map some (λ s. s.statements));
    }
