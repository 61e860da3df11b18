-- Lists of names, written part by part.
use Rattle.std.proofs.Common.{◌≡◌, List, [], ◌++◌, Bor, ℕ, Result, Ok, Err, IfOk, sym, ap, ◌∙◌, append_assoc}
use Rattle.std.specs.declared.vec.Vec.{Vec}
use Rattle.std.specs.declared.boxed.Box.{Box}
use Rattle.std.specs.declared.alloc.Global.{Global}
use Rattle.par_tree.specs.Tree.{Name}
use Rattle.par_tree.specs.View.{expr_tree, links_tree}
use Rattle.par_tree.specs.declared.expr.Expr.{Expr, Chain}
use Rattle.par_tree.specs.declared.link.Link.{Link}
use Rattle.par_tree.proofs.Lists.{expr_tree-chain}
use Rattle.par_tree.specs.Names.{expr_names, links_names}
use Rattle.par_names.specs.Sets.{names_behind}

-- what holds where a call succeeds, from what is ensured there
pub if_ok : {X E : Type 0} {P Q : Type 0} (r : Result X E) → (P → Q) → IfOk r (λ _. P) → IfOk r (λ _. Q)
if_ok (Ok x) f p = f p
if_ok (Err e) f p = tt

-- the names of a chain are those of its first operand and of the others
pub chain_listed : (e e' : Expr) (first : Box Expr Global) (rest : Vec Link Global) (ls : List Link) (o o' o'' : List Name) → e ≡ Chain first rest → e' ≡ first.value → ls ≡ rest.items
    → o' ≡ o ++ expr_names (expr_tree e') → o'' ≡ o' ++ links_names (links_tree ls) → o'' ≡ o ++ expr_names (expr_tree e)
chain_listed e e' first rest ls o o' o'' is at_e at_ls w w' =
    w'
    ∙ ap (λ (t : List Name). t ++ links_names (links_tree ls)) w
    ∙ append_assoc o (expr_names (expr_tree e')) (links_names (links_tree ls))
    ∙ ap (λ (y : Expr). o ++ (expr_names (expr_tree y) ++ links_names (links_tree ls))) at_e
    ∙ ap (λ (t : List Link). o ++ (expr_names (expr_tree first.value) ++ links_names (links_tree t))) at_ls
    ∙ ap (λ (t : List Name). o ++ t) (sym (ap expr_names (expr_tree-chain first rest)))
    ∙ ap (λ (y : Expr). o ++ expr_names (expr_tree y)) (sym is)

-- three parts that were added in turn are added as a whole
pub three_listed : (o x y z a b d whole : List Name) → whole ≡ a ++ (b ++ d) → x ≡ o ++ a → y ≡ x ++ b → z ≡ y ++ d → z ≡ o ++ whole
three_listed o x y z a b d whole is e f g =
    g
    ∙ ap (λ (t : List Name). t ++ d) f
    ∙ append_assoc x b d
    ∙ ap (λ (t : List Name). t ++ (b ++ d)) e
    ∙ append_assoc o a (b ++ d)
    ∙ ap (λ (t : List Name). o ++ t) (sym is)

-- names that were added to an empty list are those of the list
pub listed : (names : List Name) (start end list : List (Bor (List ℕ))) → start ≡ [] → names_behind end ≡ names_behind start ++ names → list ≡ end → names_behind list ≡ names
listed names start end list e w same = ap names_behind same ∙ w ∙ ap (λ (l : List (Bor (List ℕ))). names_behind l ++ names) e
