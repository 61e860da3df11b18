-- The canonical text of a program is that of the program without its lines.
use Rattle.std.proofs.Common.{◌≡◌, ℕ, List, [], ◌∷◌, map, Option, Some, None, refl, sym, ap, ◌∙◌}
use Rattle.std.specs.Prelude.{codes}
use Rattle.par_tree.specs.Tree.{Stmt, let_stmt, assign_stmt, put_stmt, alloc_stmt, free_stmt, if_stmt, while_stmt, call_stmt, print_stmt, par_stmt, split_stmt, Body, done, step, Ret, Func, Program}
use Rattle.canonical_text.specs.Canonical.{◌⊕◌, expr_text, braces, deeper, else_text, line_end, with_commas, param_text, stmt_text, body_text, ret_text, func_text, canonical}
use Rattle.canonical_text.specs.Lines.{stmt_without_lines, body_without_lines, ret_without_lines, func_without_lines, without_lines, SameButForLines}

else_by_text : (margin : List ℕ) (b : Body) (t u : List ℕ) → t ≡ u → else_text margin (body_without_lines b) t ≡ else_text margin b u
else_by_text margin done t u e = refl
else_by_text margin (step line s rest) t u e = ap (λ (x : List ℕ). codes " else " ⊕ braces margin x) e

mutual
  stmt_text-lines : (margin : List ℕ) (s : Stmt) → stmt_text margin (stmt_without_lines s) ≡ stmt_text margin s
  stmt_text-lines margin (let_stmt x e) = refl
  stmt_text-lines margin (assign_stmt x e) = refl
  stmt_text-lines margin (put_stmt b i e) = refl
  stmt_text-lines margin (alloc_stmt b e) = refl
  stmt_text-lines margin (free_stmt b) = refl
  stmt_text-lines margin (if_stmt e a b) =
      ap (λ (x : List ℕ). codes "if " ⊕ expr_text e ⊕ codes " " ⊕ braces margin x ⊕ else_text margin (body_without_lines b) (body_text (deeper margin) (body_without_lines b))) (body_text-lines (deeper margin) a)
      ∙ ap (λ (x : List ℕ). codes "if " ⊕ expr_text e ⊕ codes " " ⊕ braces margin (body_text (deeper margin) a) ⊕ x) (else_by_text margin b (body_text (deeper margin) (body_without_lines b)) (body_text (deeper margin) b) (body_text-lines (deeper margin) b))
  stmt_text-lines margin (while_stmt e a) = ap (λ (x : List ℕ). codes "while " ⊕ expr_text e ⊕ codes " " ⊕ braces margin x) (body_text-lines (deeper margin) a)
  stmt_text-lines margin (call_stmt t f xs) = refl
  stmt_text-lines margin (print_stmt e) = refl
  stmt_text-lines margin (par_stmt a b) =
      ap (λ (x : List ℕ). codes "par " ⊕ braces margin x ⊕ codes " and " ⊕ braces margin (body_text (deeper margin) (body_without_lines b))) (body_text-lines (deeper margin) a)
      ∙ ap (λ (x : List ℕ). codes "par " ⊕ braces margin (body_text (deeper margin) a) ⊕ codes " and " ⊕ braces margin x) (body_text-lines (deeper margin) b)
  stmt_text-lines margin (split_stmt b e l r a) =
      ap (λ (x : List ℕ). codes "split " ⊕ b ⊕ codes " at " ⊕ expr_text e ⊕ codes " into " ⊕ l ⊕ codes ", " ⊕ r ⊕ codes " " ⊕ braces margin x) (body_text-lines (deeper margin) a)

  body_text-lines : (margin : List ℕ) (b : Body) → body_text margin (body_without_lines b) ≡ body_text margin b
  body_text-lines margin done = refl
  body_text-lines margin (step line s rest) =
      ap (λ (x : List ℕ). margin ⊕ x ⊕ line_end ⊕ body_text margin (body_without_lines rest)) (stmt_text-lines margin s)
      ∙ ap (λ (x : List ℕ). margin ⊕ stmt_text margin s ⊕ line_end ⊕ x) (body_text-lines margin rest)

ret_text-lines : (margin : List ℕ) (r : Option Ret) → ret_text margin (ret_without_lines r) ≡ ret_text margin r
ret_text-lines margin None = refl
ret_text-lines margin (Some r) = refl

func_text-lines : (f : Func) → func_text (func_without_lines f) ≡ func_text f
func_text-lines f =
    ap (λ (x : List ℕ). of (x ⊕ ret_text (deeper []) (ret_without_lines f.ret))) (body_text-lines (deeper []) f.body)
    ∙ ap (λ (x : List ℕ). of (body_text (deeper []) f.body ⊕ x)) (ret_text-lines (deeper []) f.ret)
  where
    of : List ℕ → List ℕ
    of x = codes "fn " ⊕ f.name ⊕ codes "(" ⊕ with_commas (map param_text f.params) ⊕ codes ") " ⊕ braces [] x ⊕ line_end

canonical-lines : (p : Program) → canonical (without_lines p) ≡ canonical p
canonical-lines [] = refl
canonical-lines (f ∷ p) =
    ap (λ (x : List ℕ). x ⊕ canonical (without_lines p)) (func_text-lines f)
    ∙ ap (λ (x : List ℕ). func_text f ⊕ x) (canonical-lines p)

pub same_text : (p q : Program) → SameButForLines p q → canonical p ≡ canonical q
same_text p q e = sym (canonical-lines p) ∙ ap canonical e ∙ canonical-lines q
