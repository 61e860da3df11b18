-- The text of what holds a list, written part by part.
use Rattle.std.proofs.Common.{◌≡◌, ℕ, Bool, true, false, List, [], ◌∷◌, ◌++◌, length, Result, Ok, Err, IfOk, refl, sym, ap, ◌∙◌, append_assoc}
use Rattle.std.specs.Prelude.{codes, ◌==◌}
use Rattle.std.specs.declared.vec.Vec.{Vec}
use Rattle.std.specs.declared.boxed.Box.{Box}
use Rattle.std.specs.declared.alloc.Global.{Global}
use Rattle.par_tree.specs.View.{name_tree, expr_tree, links_tree, stmt_tree, body_tree}
use Rattle.par_tree.specs.declared.name.Name.{Name}
use Rattle.par_tree.specs.declared.expr.Expr.{Expr, Chain}
use Rattle.par_tree.specs.declared.link.Link.{Link}
use Rattle.par_tree.specs.declared.stmt.Stmt.{Stmt}
use Rattle.par_tree.specs.declared.stmt_kind.StmtKind.{StmtKind, If, While, Par, Split}
use Rattle.par_tree.proofs.Lists.{expr_tree-chain, stmt_tree-if, stmt_tree-while, stmt_tree-par, stmt_tree-split}
use Rattle.canonical_text.specs.declared.place.Place.{Place}
use Rattle.canonical_text.specs.Canonical.{expr_text, links_text, text_in, first_place, stmt_text, body_text, braces, deeper, else_text}

-- what holds where a call succeeds, from what is ensured there
pub if_ok : {X E : Type 0} {P Q : Type 0} (r : Result X E) → (P → Q) → IfOk r (λ _. P) → IfOk r (λ _. Q)
if_ok (Ok x) f p = f p
if_ok (Err e) f p = tt

-- two texts written one behind the other
pub two_written : (a u v b c : List ℕ) → b ≡ a ++ u → c ≡ b ++ v → c ≡ a ++ (u ++ v)
two_written a u v b c e h = h ∙ ap (λ (t : List ℕ). t ++ v) e ∙ append_assoc a u v

pub three_written : (a u v w b c d : List ℕ) → b ≡ a ++ u → c ≡ b ++ v → d ≡ c ++ w → d ≡ a ++ (u ++ (v ++ w))
three_written a u v w b c d e h g = two_written a u (v ++ w) b d e (two_written b v w c d h g)

pub chain_text : (e : Expr) (first : Box Expr Global) (rest : Vec Link Global) → e ≡ Chain first rest
    → text_in (first_place (links_tree rest.items)) (expr_tree first.value) ++ links_text (links_tree rest.items) ≡ expr_text (expr_tree e)
chain_text e first rest is = sym (ap expr_text (expr_tree-chain first rest)) ∙ ap (λ (x : Expr). expr_text (expr_tree x)) (sym is)

-- statements between braces
abbrev pub block_text : List ℕ → List Stmt → List ℕ
block_text m l = braces m (body_text (deeper m) (body_tree l))

-- a word, a condition and a space, before what follows
tested_then : (word e t : List ℕ) → (word ++ (e ++ codes " ")) ++ t ≡ word ++ (e ++ (codes " " ++ t))
tested_then word e t = append_assoc word (e ++ codes " ") t ∙ ap (λ (x : List ℕ). word ++ x) (append_assoc e (codes " ") t)

pub if_text : (kind : StmtKind) (e : Expr) (a b : Vec Stmt Global) (m : List ℕ) (l r : List Stmt) (o o' o'' o''' : List ℕ) → kind ≡ If e a b → l ≡ a.items → r ≡ b.items
    → o' ≡ o ++ (codes "if " ++ (expr_text (expr_tree e) ++ codes " ")) → o'' ≡ o' ++ block_text m l → o''' ≡ o'' ++ else_text m (body_tree r) (body_text (deeper m) (body_tree r))
    → o''' ≡ o ++ stmt_text m (stmt_tree kind)
if_text kind e a b m l r o o' o'' o''' is at_l at_r w w' w'' =
    three_written o (codes "if " ++ (expr_text (expr_tree e) ++ codes " ")) (block_text m l) (else_text m (body_tree r) (body_text (deeper m) (body_tree r))) o' o'' o''' w w' w''
    ∙ ap (λ (t : List ℕ). o ++ t)
    (tested_then (codes "if ") (expr_text (expr_tree e)) (block_text m l ++ else_text m (body_tree r) (body_text (deeper m) (body_tree r)))
    ∙ ap (λ (x : List Stmt). codes "if " ++ (expr_text (expr_tree e) ++ (codes " " ++ (block_text m x ++ else_text m (body_tree r) (body_text (deeper m) (body_tree r)))))) at_l
    ∙ ap (λ (x : List Stmt). codes "if " ++ (expr_text (expr_tree e) ++ (codes " " ++ (block_text m a.items ++ else_text m (body_tree x) (body_text (deeper m) (body_tree x)))))) at_r
    ∙ sym (ap (stmt_text m) (stmt_tree-if e a b))
    ∙ ap (λ (x : StmtKind). stmt_text m (stmt_tree x)) (sym is))

pub while_text : (kind : StmtKind) (e : Expr) (a : Vec Stmt Global) (m : List ℕ) (l : List Stmt) (o o' o'' : List ℕ) → kind ≡ While e a → l ≡ a.items
    → o' ≡ o ++ (codes "while " ++ (expr_text (expr_tree e) ++ codes " ")) → o'' ≡ o' ++ block_text m l → o'' ≡ o ++ stmt_text m (stmt_tree kind)
while_text kind e a m l o o' o'' is at_l w w' =
    two_written o (codes "while " ++ (expr_text (expr_tree e) ++ codes " ")) (block_text m l) o' o'' w w'
    ∙ ap (λ (t : List ℕ). o ++ t)
    (tested_then (codes "while ") (expr_text (expr_tree e)) (block_text m l)
    ∙ ap (λ (x : List Stmt). codes "while " ++ (expr_text (expr_tree e) ++ (codes " " ++ block_text m x))) at_l
    ∙ sym (ap (stmt_text m) (stmt_tree-while e a))
    ∙ ap (λ (x : StmtKind). stmt_text m (stmt_tree x)) (sym is))

pub par_text : (kind : StmtKind) (a b : Vec Stmt Global) (m : List ℕ) (l r : List Stmt) (o o' o'' o''' o'''' : List ℕ) → kind ≡ Par a b → l ≡ a.items → r ≡ b.items
    → o' ≡ o ++ codes "par " → o'' ≡ o' ++ block_text m l → o''' ≡ o'' ++ codes " and " → o'''' ≡ o''' ++ block_text m r → o'''' ≡ o ++ stmt_text m (stmt_tree kind)
par_text kind a b m l r o o' o'' o''' o'''' is at_l at_r w w' w'' w''' =
    three_written o (codes "par ") (block_text m l) (codes " and " ++ block_text m r) o' o'' o'''' w w' (two_written o'' (codes " and ") (block_text m r) o''' o'''' w'' w''')
    ∙ ap (λ (t : List ℕ). o ++ t)
    (ap (λ (x : List Stmt). codes "par " ++ (block_text m x ++ (codes " and " ++ block_text m r))) at_l
    ∙ ap (λ (x : List Stmt). codes "par " ++ (block_text m a.items ++ (codes " and " ++ block_text m x))) at_r
    ∙ sym (ap (stmt_text m) (stmt_tree-par a b))
    ∙ ap (λ (x : StmtKind). stmt_text m (stmt_tree x)) (sym is))

-- the head of a `split`, before its block
abbrev pub split_head : List ℕ → List ℕ → List ℕ → List ℕ → List ℕ → List ℕ
split_head b e l r t = codes "split " ++ (b ++ (codes " at " ++ (e ++ (codes " into " ++ (l ++ (codes ", " ++ (r ++ (codes " " ++ t))))))))

split_then : (b e l r t : List ℕ) → split_head b e l r (codes "") ++ t ≡ split_head b e l r t
split_then b e l r t =
    ap (λ (x : List ℕ). codes "split " ++ x)
    (append_assoc b (codes " at " ++ (e ++ (codes " into " ++ (l ++ (codes ", " ++ (r ++ codes " ")))))) t
    ∙ ap (λ (x : List ℕ). b ++ (codes " at " ++ x))
    (append_assoc e (codes " into " ++ (l ++ (codes ", " ++ (r ++ codes " ")))) t
    ∙ ap (λ (x : List ℕ). e ++ (codes " into " ++ x))
    (append_assoc l (codes ", " ++ (r ++ codes " ")) t ∙ ap (λ (x : List ℕ). l ++ (codes ", " ++ x)) (append_assoc r (codes " ") t))))

pub split_text : (kind : StmtKind) (b : Name) (e : Expr) (x y : Name) (a : Vec Stmt Global) (m : List ℕ) (l : List Stmt) (o o' o'' : List ℕ) → kind ≡ Split b e x y a → l ≡ a.items
    → o' ≡ o ++ split_head (name_tree b) (expr_text (expr_tree e)) (name_tree x) (name_tree y) (codes "") → o'' ≡ o' ++ block_text m l → o'' ≡ o ++ stmt_text m (stmt_tree kind)
split_text kind b e x y a m l o o' o'' is at_l w w' =
    two_written o (split_head (name_tree b) (expr_text (expr_tree e)) (name_tree x) (name_tree y) (codes "")) (block_text m l) o' o'' w w'
    ∙ ap (λ (t : List ℕ). o ++ t)
    (split_then (name_tree b) (expr_text (expr_tree e)) (name_tree x) (name_tree y) (block_text m l)
    ∙ ap (λ (z : List Stmt). split_head (name_tree b) (expr_text (expr_tree e)) (name_tree x) (name_tree y) (block_text m z)) at_l
    ∙ sym (ap (stmt_text m) (stmt_tree-split b e x y a))
    ∙ ap (λ (z : StmtKind). stmt_text m (stmt_tree z)) (sym is))

pub else_text-else : (m : List ℕ) (l : List Stmt) (o o' o'' : List ℕ) → (length l == 0) ≡ false → o' ≡ o ++ codes " else " → o'' ≡ o' ++ block_text m l
    → o'' ≡ o ++ else_text m (body_tree l) (body_text (deeper m) (body_tree l))
else_text-else m [] o o' o'' some w w' = absurd (never some)
  where
    never : true ≡ false → ⊥
    never e = cc
else_text-else m (s ∷ l) o o' o'' some w w' = two_written o (codes " else ") (block_text m (s ∷ l)) o' o'' w w'
