-- The links of a chain, one by one.
use Rattle.std.proofs.Common.{◌≡◌, ℕ, suc, ◌+◌, ◌<◌, ◌≤◌, List, [], ◌∷◌, ◌++◌, length, refl, sym, ap, ◌∙◌, subst, arith, append_assoc, append-nil}
use Rattle.std.specs.declared.vec.Vec.{Vec}
use Rattle.std.specs.declared.boxed.Box.{Box}
use Rattle.std.specs.declared.alloc.Global.{Global}
use Rattle.par_tree.specs.Tree.{ChainOp, Comparison}
use Rattle.node_table.specs.Table.{Expr, cmp, Links, link}
use Rattle.node_table.specs.Shown.{expr_shown, links_shown}
use Rattle.node_table.specs.declared.code_expr.CodeExpr.{CodeExpr, Chain}
use Rattle.node_table.specs.declared.code_link.CodeLink.{CodeLink}
use Rattle.node_table.proofs.Showing.{expr_shown-chain}
use Rattle.flat_expressions.specs.Acts.{Operand, at_slot, Act, operate_to}
use Rattle.flat_expressions.specs.Codes.{operand_of, slot_behind, more_links, code_of, links_code, operand_code, before_test, HasRoom, HaveRoom}
use Rattle.flat_code.proofs.Weights.{expr_weight, links_weight}

-- the code of the links that are left after some, which is none after the last one
abbrev pub links_left : Links → (d k : ℕ) → Operand → List Act
links_left ls d k a = more_links ls (links_code ls d k a)

suc_is : (k : ℕ) → k + 1 ≡ suc k
suc_is k = omega arith

-- one link more: the acts of its operand, and its own
pub link_next : (ls behind : Links) (op : ChainOp) (e : Expr) (d k t : ℕ) (a r : Operand) (acts with_right new all : List Act) → ls ≡ link op e behind
    → (r ≡ operand_of e (k + 1)) × (with_right ≡ acts ++ operand_code e (k + 1)) → t ≡ slot_behind behind d k → new ≡ with_right ++ operate_to op t a r ∷ []
    → acts ++ links_left ls d k a ≡ all → new ++ links_left behind d k (at_slot k) ≡ all
link_next ls behind op e d k t a r acts with_right new all is right target made so_far =
    let more = links_left behind d k (at_slot k) in
    let o = operate_to op t a r in
    let same : o ≡ operate_to op (slot_behind behind d k) a (operand_of e (suc k)) =
    ap (λ s. operate_to op s a r) target
    ∙ ap (λ x. operate_to op (slot_behind behind d k) a x) (right.0 ∙ ap (λ n. operand_of e n) (suc_is k)) in
    ap (λ v. v ++ more) made
    ∙ append_assoc with_right (o ∷ []) more
    ∙ ap (λ v. v ++ o ∷ more) (right.1 ∙ ap (λ n. acts ++ operand_code e n) (suc_is k))
    ∙ append_assoc acts (operand_code e (suc k)) (o ∷ more)
    ∙ ap (λ x. acts ++ (operand_code e (suc k) ++ x ∷ more)) same
    ∙ ap (λ l. acts ++ links_left l d k a) (sym is)
    ∙ so_far

-- where a chain has links, nothing else is its code
pub links_end : (none some : List CodeLink) (d k : ℕ) (a b : Operand) (acts before : List Act) → none ≡ [] → (some ≡ [] → ⊥)
    → acts ++ links_left (links_shown none) d k a ≡ before ++ links_left (links_shown some) d k b → acts ≡ before ++ links_code (links_shown some) d k b
links_end none [] d k a b acts before end there so_far = absurd (there refl)
links_end none (l ∷ ls) d k a b acts before end there so_far =
    sym (append-nil acts) ∙ ap (λ xs. acts ++ links_left (links_shown xs) d k a) (sym end) ∙ so_far

pub some_links : (xs : List CodeLink) → (length xs ≡ 0 → ⊥) → xs ≡ [] → ⊥
some_links xs long none = long (ap length none)

-- the parts of a chain, and of the links that are left
pub chain_parts : (size k : ℕ) (first : Box CodeExpr Global) (rest : Vec CodeLink Global) (e : CodeExpr) (ls : List CodeLink) → e ≡ Chain first rest → ls
    ≡ rest.items
    → HasRoom size (expr_shown e) k
    → HaveRoom size (links_shown ls) k × (expr_weight (expr_shown first.value) + 1 < expr_weight (expr_shown e))
    × (links_weight (links_shown ls) < expr_weight (expr_shown e))
chain_parts size k first rest e ls is items room =
    let whole = ap expr_shown is ∙ expr_shown-chain first rest in
    let weight = ap (λ x. expr_weight x) whole in
    let links = ap (λ xs. links_weight (links_shown xs)) items in (
      subst (λ xs. HaveRoom size (links_shown xs) k) (sym items) (subst (λ x. HasRoom size x k) whole room).2,
      omega (arith, weight),
      omega (arith, weight, links),
    )

pub link_parts : (size k : ℕ) (rest behind : List CodeLink) (l : CodeLink) → rest ≡ l ∷ behind → HaveRoom size (links_shown rest) k
    → (k + 1 < size) × HasRoom size (expr_shown l.operand) (k + 1) × HaveRoom size (links_shown behind) k
    × (expr_weight (expr_shown l.operand) + 1 < links_weight (links_shown rest))
    × (links_weight (links_shown behind) ≤ links_weight (links_shown rest))
link_parts size k rest behind l is room =
    let parts = subst (λ xs. HaveRoom size (links_shown xs) k) is room in
    let weight = ap (λ xs. links_weight (links_shown xs)) is in
    let low = parts.0 in (
      omega (arith, low),
      subst (λ n. HasRoom size (expr_shown l.operand) n) (sym (suc_is k)) parts.1,
      parts.2,
      omega (arith, weight),
      omega (arith, weight),
    )

-- the acts of a chain: those of its front, and those of its links
pub chain_made : (first : Box CodeExpr Global) (rest : Vec CodeLink Global) (e f : CodeExpr) (ls : List CodeLink) (d k : ℕ) (a : Operand)
    (old front new : List Act)
    → e ≡ Chain first rest → f ≡ first.value → ls ≡ rest.items
    → (a ≡ operand_of (expr_shown f) k) × (front ≡ old ++ operand_code (expr_shown f) k) → new ≡ front ++ links_code (links_shown ls) d k a
    → new ≡ old ++ code_of (expr_shown e) d k
chain_made first rest e f ls d k a old front new is value items begun made =
    let f_code = operand_code (expr_shown f) k in
    made
    ∙ ap (λ v. v ++ links_code (links_shown ls) d k a) begun.1
    ∙ append_assoc old f_code (links_code (links_shown ls) d k a)
    ∙ ap (λ x. old ++ (f_code ++ links_code (links_shown ls) d k x)) begun.0
    ∙ ap (λ x. old ++ (operand_code (expr_shown x) k ++ links_code (links_shown ls) d k (operand_of (expr_shown x) k))) value
    ∙ ap (λ xs. old ++ (operand_code (expr_shown first.value) k ++ links_code (links_shown xs) d k (operand_of (expr_shown first.value) k))) items
    ∙ ap (λ x. old ++ code_of x d k) (sym (ap expr_shown is ∙ expr_shown-chain first rest))

-- the acts before the test of a comparison
pub both_operands : (e l r : Expr) (op : Comparison) (k : ℕ) (old left new : List Act) → e ≡ cmp op l r → left ≡ old ++ operand_code l k
    → new ≡ left ++ operand_code r (k + 1) → new ≡ old ++ before_test e k
both_operands e l r op k old left new is first second =
    second
    ∙ ap (λ n. left ++ operand_code r n) (suc_is k)
    ∙ ap (λ v. v ++ operand_code r (suc k)) first
    ∙ append_assoc old (operand_code l k) (operand_code r (suc k))
    ∙ ap (λ x. old ++ before_test x k) (sym is)
