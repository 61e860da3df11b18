-- Which blocks must be there where a statement begins, and at the end of a call or of a `split`.
use Rattle.std.specs.Prelude.{Bool, false, ◌||◌, List, [], ◌∷◌, Option, Some, None}
use Rattle.std.specs.Str.{bytes_eq}
use Rattle.depth_first_run.specs.Passed.Tree.{Name, Expr, num, var, get, len_of, neg, chain, cmp, Links, last, link, Arg, value, lend, give, Stmt, let_stmt, assign_stmt, put_stmt, alloc_stmt, free_stmt, if_stmt, while_stmt, call_stmt, print_stmt, par_stmt, split_stmt, Param, Ret, RetValue, gives, hands}
use Rattle.depth_first_run.specs.Middle.{Frame, does, answers, rejoins, answers_main, allocates, awaits, joins}

-- the expression reads the block x, or its length
abbrev mutual
  pub reads_block : Name → Expr → Bool
  reads_block x (num n) = false
  reads_block x (var y) = false
  reads_block x (get b i) = bytes_eq b x || reads_block x i
  reads_block x (len_of b) = bytes_eq b x
  reads_block x (neg e) = reads_block x e
  reads_block x (chain e ls) = reads_block x e || reads_links x ls
  reads_block x (cmp op l r) = reads_block x l || reads_block x r

  pub reads_links : Name → Links → Bool
  reads_links x last = false
  reads_links x (link op e ls) = reads_block x e || reads_links x ls

-- the call reads the block x for its arguments, or passes it
abbrev pub needed_by_args : Name → List Arg → Bool
needed_by_args x [] = false
needed_by_args x (value e ∷ args) = reads_block x e || needed_by_args x args
needed_by_args x (lend b ∷ args) = bytes_eq b x || needed_by_args x args
needed_by_args x (give b ∷ args) = bytes_eq b x || needed_by_args x args

-- the statement itself reads, writes, frees, passes or cuts the block x; what stands in its bodies begins later
abbrev pub needs_block : Name → Stmt → Bool
needs_block x (let_stmt y e) = reads_block x e
needs_block x (assign_stmt y e) = reads_block x e
needs_block x (put_stmt b i e) = bytes_eq b x || (reads_block x i || reads_block x e)
needs_block x (alloc_stmt b e) = reads_block x e
needs_block x (free_stmt b) = bytes_eq b x
needs_block x (if_stmt c a b) = reads_block x c
needs_block x (while_stmt c a) = reads_block x c
needs_block x (call_stmt t f args) = needed_by_args x args
needs_block x (print_stmt e) = reads_block x e
needs_block x (par_stmt a b) = false
needs_block x (split_stmt b e l r a) = bytes_eq b x || reads_block x e

-- the `return` reads the block x, or hands it back
abbrev pub needed_by_value : Name → RetValue → Bool
needed_by_value x (gives e) = reads_block x e
needed_by_value x (hands b) = bytes_eq b x

abbrev pub needed_by_return : Name → Option Ret → Bool
needed_by_return x None = false
needed_by_return x (Some r) = needed_by_value x r.value

-- a block was lent to the parameter x, so that the end of the call gives it back
abbrev pub lent_to : Name → List Param → List Arg → Bool
lent_to x [] args = false
lent_to x (q ∷ qs) [] = false
lent_to x (q ∷ qs) (value e ∷ args) = lent_to x qs args
lent_to x (q ∷ qs) (lend b ∷ args) = bytes_eq q.name x || lent_to x qs args
lent_to x (q ∷ qs) (give b ∷ args) = lent_to x qs args

-- the end of a call, of `main` or of a `split` needs the block x: for its `return`, to give it back, to join it
abbrev pub end_needs : Name → Frame → Bool
end_needs x (does part) = false
end_needs x (answers ret params args t) = needed_by_return x ret || lent_to x params args
end_needs x (rejoins b l r) = bytes_eq l x || bytes_eq r x
end_needs x (answers_main ret) = needed_by_return x ret
end_needs x (allocates b n) = false
end_needs x (awaits named assigned own parent) = false
end_needs x (joins assigned child d) = false
