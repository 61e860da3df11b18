-- Programs that are the same but for lines.
use Rattle.std.specs.Prelude.{◌≡◌, map, Option, Some, None}
use Rattle.par_tree.specs.Tree.{Stmt, let_stmt, assign_stmt, put_stmt, alloc_stmt, free_stmt, if_stmt, while_stmt, call_stmt, print_stmt, par_stmt, split_stmt, Body, done, step, Ret, Func, Program}

-- A tree whose lines are all 0.
abbrev mutual
  pub stmt_without_lines : Stmt → Stmt
  stmt_without_lines (let_stmt x e) = let_stmt x e
  stmt_without_lines (assign_stmt x e) = assign_stmt x e
  stmt_without_lines (put_stmt b i e) = put_stmt b i e
  stmt_without_lines (alloc_stmt b e) = alloc_stmt b e
  stmt_without_lines (free_stmt b) = free_stmt b
  stmt_without_lines (if_stmt e a b) = if_stmt e (body_without_lines a) (body_without_lines b)
  stmt_without_lines (while_stmt e a) = while_stmt e (body_without_lines a)
  stmt_without_lines (call_stmt t f xs) = call_stmt t f xs
  stmt_without_lines (print_stmt e) = print_stmt e
  stmt_without_lines (par_stmt a b) = par_stmt (body_without_lines a) (body_without_lines b)
  stmt_without_lines (split_stmt b e l r a) = split_stmt b e l r (body_without_lines a)

  pub body_without_lines : Body → Body
  body_without_lines done = done
  body_without_lines (step line s rest) = step 0 (stmt_without_lines s) (body_without_lines rest)

abbrev pub ret_without_lines : Option Ret → Option Ret
ret_without_lines None = None
ret_without_lines (Some r) = Some record { line = 0; value = r.value }

abbrev pub func_without_lines : Func → Func
func_without_lines f =
    record { name = f.name; params = f.params; body = body_without_lines f.body; ret = ret_without_lines f.ret; line = 0 }

abbrev pub without_lines : Program → Program
without_lines p = map func_without_lines p

-- The same program, but for the lines of its functions, statements and `return`s.
abbrev pub SameButForLines : Program → Program → Type 0
SameButForLines p q = without_lines p ≡ without_lines q
