use Rattle.par_tree.proofs.Lists.{expr_tree-chain, stmt_tree-if, stmt_tree-while, stmt_tree-par, stmt_tree-split}
use Rattle.par_tree.proofs.laws.lists_are_lists.Goals as goal

pub returns : goal.returns
returns c = record {
  of_chain = expr_tree-chain;
  of_if = stmt_tree-if;
  of_while = stmt_tree-while;
  of_par = stmt_tree-par;
  of_split = stmt_tree-split;
}
