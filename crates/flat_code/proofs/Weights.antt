-- How large expressions are: what the recursions over them go down by.
use Rattle.std.proofs.Common.{ℕ, ◌+◌}
use Rattle.node_table.specs.Table.{Expr, num, var, get, len_of, neg, chain, cmp, Links, last, link}

abbrev mutual
  pub expr_weight : Expr → ℕ
  expr_weight (num n) = 1
  expr_weight (var x) = 1
  expr_weight (get b i) = 2 + expr_weight i
  expr_weight (len_of b) = 1
  expr_weight (neg e) = 2 + expr_weight e
  expr_weight (chain e rest) = 2 + (expr_weight e + links_weight rest)
  expr_weight (cmp op l r) = 2 + (expr_weight l + expr_weight r)

  pub links_weight : Links → ℕ
  links_weight last = 0
  links_weight (link op e rest) = 2 + (expr_weight e + links_weight rest)
