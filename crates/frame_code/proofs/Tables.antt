-- Tables that grow, and what stays true in a longer one.
use Rattle.std.proofs.Common.{◌≡◌, ◌≢◌, ℕ, zero, suc, ◌+◌, ◌<◌, ◌≤◌, List, [], ◌∷◌, ◌++◌, length, set, Some, refl, sym, ap, ◌∙◌, subst, arith, append_assoc, append-nil, length-append, length-set}
use Rattle.std.specs.Prelude.{slice_get}
use Rattle.par_tree.specs.Tree.{Name, Expr, Stmt, let_stmt, assign_stmt, put_stmt, alloc_stmt, free_stmt, if_stmt, while_stmt, call_stmt, print_stmt, par_stmt, split_stmt, Body, done, step}
use Rattle.node_table.specs.Table
use Rattle.node_table.specs.Table.{Kind, if_node, while_node, both_node, split_node, Node}
use Rattle.node_table.specs.Programs.{AsIf, AsWhile, AsBoth, AsSplit, AsStep, IsStmt, IsBody}
use Rattle.node_table.specs.Reading.{IsExpr}
use Rattle.frame_code.specs.Growing.{Grown}
use Rattle.frame_code.specs.Branches.{SlotsOfBranches}
use Rattle.frame_code.specs.declared.branches.Branches.{Branches}

-- lists by number
get_below : {A : Type 0} (xs : List A) (m : ℕ) (v : A) → slice_get xs m ≡ Some v → m < length xs
get_below [] m v e = let never : ⊥ = cc in absurd never
get_below (x ∷ xs) zero v e = omega arith
get_below (x ∷ xs) (suc m) v e = let h : m < length xs = get_below xs m v e in omega arith

get_front : {A : Type 0} (xs ys : List A) (m : ℕ) (v : A) → slice_get xs m ≡ Some v → slice_get (xs ++ ys) m ≡ Some v
get_front [] ys m v e = let never : ⊥ = cc in absurd never
get_front (x ∷ xs) ys zero v e = e
get_front (x ∷ xs) ys (suc m) v e = get_front xs ys m v e

get_written : {A : Type 0} (xs : List A) (n : ℕ) (v : A) → n < length xs → slice_get (set xs n v) n ≡ Some v
get_written [] n v h = let never : ⊥ = omega arith in absurd never
get_written (x ∷ xs) zero v h = refl
get_written (x ∷ xs) (suc n) v h = let less : n < length xs = omega arith in get_written xs n v less

get_other : {A : Type 0} (xs : List A) (n m : ℕ) (v : A) → m ≢ n → slice_get (set xs n v) m ≡ slice_get xs m
get_other [] n m v h = refl
get_other (x ∷ xs) zero zero v h = absurd (h refl)
get_other (x ∷ xs) zero (suc m) v h = refl
get_other (x ∷ xs) (suc n) zero v h = refl
get_other (x ∷ xs) (suc n) (suc m) v h = get_other xs n m v (λ e. h (ap (λ i. suc i) e))

-- from a number on, nothing is lost
pub record KeepsFrom (low : ℕ) (t u : List Node) : Type 0 where
  pub keeps : (m : ℕ) (v : Node) → low ≤ m → slice_get t m ≡ Some v → slice_get u m ≡ Some v

pub grown_same : (t : List Node) → Grown t t
grown_same t = record { keeps = λ m v e. e; longer = omega arith }

pub grown_trans : (t u w : List Node) → Grown t u → Grown u w → Grown t w
grown_trans t u w a b = record { keeps = λ m v e. b.keeps m v (a.keeps m v e); longer = let x = a.longer in let y = b.longer in omega arith }

pub keeps_grown : (low : ℕ) (t u : List Node) → Grown t u → KeepsFrom low t u
keeps_grown low t u g = record { keeps = λ m v h e. g.keeps m v e }

pub keeps_same : (low : ℕ) (t : List Node) → KeepsFrom low t t
keeps_same low t = record { keeps = λ m v h e. e }

keeps_above : (low high : ℕ) (t u : List Node) → low ≤ high → KeepsFrom low t u → KeepsFrom high t u
keeps_above low high t u h a = record { keeps = λ m v le e. a.keeps m v (omega arith) e }

keeps_trans : (low : ℕ) (t u w : List Node) → KeepsFrom low t u → KeepsFrom low u w → KeepsFrom low t w
keeps_trans low t u w a b = record { keeps = λ m v h e. b.keeps m v h (a.keeps m v h e) }

-- facts of the numbers inside a node
AsIf-map : (names : List Name) (e : Expr) (P Q R S : List ℕ → Type 0) (kind : Kind) → ((ns : List ℕ) → P ns → R ns) → ((ns : List ℕ) → Q ns → S ns) → AsIf names e P Q kind → AsIf names e R S kind
AsIf-map names e P Q R S (if_node c a b) f g h = (h.0, f a h.1, g b h.2)
AsIf-map names e P Q R S _ f g h = absurd h

AsWhile-map : (names : List Name) (e : Expr) (P R : List ℕ → Type 0) (kind : Kind) → ((ns : List ℕ) → P ns → R ns) → AsWhile names e P kind → AsWhile names e R kind
AsWhile-map names e P R (while_node c a) f h = (h.0, f a h.1)
AsWhile-map names e P R _ f h = absurd h

AsBoth-map : (names : List Name) (left : Body) (P Q R S : List ℕ → Type 0) (kind : Kind) → ((ns : List ℕ) → P ns → R ns) → ((ns : List ℕ) → Q ns → S ns) → AsBoth names left P Q kind → AsBoth names left R S kind
AsBoth-map names left P Q R S (both_node a b xs ys) f g h = (f a h.0, g b h.1, h.2, h.3)
AsBoth-map names left P Q R S _ f g h = absurd h

AsSplit-map : (names : List Name) (b : Name) (e : Expr) (l r : Name) (P R : List ℕ → Type 0) (kind : Kind) → ((ns : List ℕ) → P ns → R ns) → AsSplit names b e l r P kind → AsSplit names b e l r R kind
AsSplit-map names b e l r P R (split_node s c m n a) f h = (h.0, h.1, h.2, h.3, f a h.4)
AsSplit-map names b e l r P R _ f h = absurd h

AsStep-map : (t u : List Node) (low less line : ℕ) (P P' : ℕ → Kind → Type 0) (Q Q' : List ℕ → Type 0) (ns : List ℕ) → less ≤ low → KeepsFrom low t u → ((n : ℕ) (kind : Kind) → low ≤ n → P n kind → P' n kind) → ((ms : List ℕ) → Q ms → Q' ms) → AsStep t low line P Q ns → AsStep u less line P' Q' ns
AsStep-map t u low less line P P' Q Q' [] le keeps f g h = absurd h
AsStep-map t u low less line P P' Q Q' (n ∷ ns) le keeps f g h =
    let below : low ≤ n = h.0 in
    (omega arith, (h.1.0, keeps.keeps n h.1.0 below h.1.1, h.1.2, f (n + 1) h.1.0.kind (omega arith) h.1.3), g ns h.2)

-- a table that keeps what stands from a number on has the same statements there
module _ (functions names : List Name) where
  mutual
    pub stmt_kept : (t u : List Node) (s : Stmt) (low less : ℕ) (kind : Kind) → less ≤ low → KeepsFrom low t u → IsStmt t functions names s low kind → IsStmt u functions names s less kind
    stmt_kept t u (let_stmt x e) low less kind le keeps h = h
    stmt_kept t u (assign_stmt x e) low less kind le keeps h = h
    stmt_kept t u (put_stmt b i e) low less kind le keeps h = h
    stmt_kept t u (alloc_stmt b e) low less kind le keeps h = h
    stmt_kept t u (free_stmt b) low less kind le keeps h = h
    stmt_kept t u (if_stmt c a b) low less kind le keeps h =
        AsIf-map names c (IsBody t functions names a low) (IsBody t functions names b low) (IsBody u functions names a less) (IsBody u functions names b less) kind
        (λ ns p. body_kept t u a low less ns le keeps p) (λ ns p. body_kept t u b low less ns le keeps p) h
    stmt_kept t u (while_stmt c a) low less kind le keeps h =
        AsWhile-map names c (IsBody t functions names a low) (IsBody u functions names a less) kind (λ ns p. body_kept t u a low less ns le keeps p) h
    stmt_kept t u (call_stmt v f args) low less kind le keeps h = h
    stmt_kept t u (print_stmt e) low less kind le keeps h = h
    stmt_kept t u (par_stmt a b) low less kind le keeps h =
        AsBoth-map names a (IsBody t functions names a low) (IsBody t functions names b low) (IsBody u functions names a less) (IsBody u functions names b less) kind
        (λ ns p. body_kept t u a low less ns le keeps p) (λ ns p. body_kept t u b low less ns le keeps p) h
    stmt_kept t u (split_stmt b e l r a) low less kind le keeps h =
        AsSplit-map names b e l r (IsBody t functions names a low) (IsBody u functions names a less) kind (λ ns p. body_kept t u a low less ns le keeps p) h

    pub body_kept : (t u : List Node) (b : Body) (low less : ℕ) (ns : List ℕ) → less ≤ low → KeepsFrom low t u → IsBody t functions names b low ns → IsBody u functions names b less ns
    body_kept t u done low less [] le keeps h = tt
    body_kept t u done low less (n ∷ ns) le keeps h = absurd h
    body_kept t u (step line s rest) low less ns le keeps h =
        AsStep-map t u low less line (IsStmt t functions names s) (IsStmt u functions names s) (IsBody t functions names rest low) (IsBody u functions names rest less) ns le keeps
        (λ n kind above p. stmt_kept t u s n n kind (omega arith) (keeps_above low n t u above keeps) p)
        (λ ms p. body_kept t u rest low less ms le keeps p) h

  -- what a loop over a list of statements keeps: the table has grown, and in each table that keeps it from
  -- its start on, the numbers so far with those of what is left are the numbers of the whole list
  pub record Walked (start now : List Node) (whole rest : Body) (numbers : List ℕ) : Type 0 where
    pub grown : Grown start now
    pub continues : (u : List Node) → KeepsFrom (length start) now u → (more : List ℕ) → IsBody u functions names rest (length start) more → IsBody u functions names whole (length start) (numbers ++ more)

  pub walked_first : (start : List Node) (whole : Body) → Walked start start whole whole []
  walked_first start whole = record { grown = grown_same start; continues = λ u keeps more p. p }

  pub walked_next : (start now begun made new : List Node) (whole rest : Body) (numbers found : List ℕ) (line n : ℕ) (s : Stmt) (kind : Kind) (p : Node)
      → Walked start now whole (step line s rest) numbers
      → n ≡ length now → begun ≡ now ++ p ∷ [] → Grown begun made
      → IsStmt made functions names s (length begun) kind
      → new ≡ set made n (record { line = line; kind = kind }) → found ≡ numbers ++ n ∷ []
      → Walked start new whole rest found
  walked_next start now begun made new whole rest numbers found line n s kind p w num b g is_stmt e f =
      let node : Node = record { line = line; kind = kind } in
      let count : length begun ≡ n + 1 = ap length b ∙ length-append now (p ∷ []) ∙ ap (λ m. m + 1) (sym num) in
      let begun_longer = g.longer in
      let fits : n < length made = omega arith in
      let now_made : (m : ℕ) (v : Node) → slice_get now m ≡ Some v → slice_get made m ≡ Some v
      = λ m v h. g.keeps m v (subst (λ (t : List Node). slice_get t m ≡ Some v) (sym b) (get_front now (p ∷ []) m v h)) in
      let other : (m : ℕ) (v : Node) → m ≢ n → slice_get made m ≡ Some v → slice_get new m ≡ Some v
      = λ m v ne h. ap (λ (t : List Node). slice_get t m) e ∙ get_other made n m node ne ∙ h in
      let here : slice_get new n ≡ Some node = ap (λ (t : List Node). slice_get t n) e ∙ get_written made n node fits in
      let same_length : length new ≡ length made = ap length e ∙ length-set made n node in
      let now_new : Grown now new
      = record {
        keeps = λ m v h. let lt : m < length now = get_below now m v h in other m v (omega arith) (now_made m v h);
        longer = omega arith;
      } in
      let inside : KeepsFrom (n + 1) made new = record { keeps = λ m v le h. other m v (omega arith) h } in
      let was_longer = w.grown.longer in
      record {
        grown = grown_trans start now new w.grown now_new;
        continues = λ u keeps more q.
            let stands : IsStmt u functions names s (n + 1) kind
            = stmt_kept new u s (n + 1) (n + 1) kind (omega arith) (keeps_above (length start) (n + 1) new u (omega arith) keeps)
            (stmt_kept made new s (n + 1) (n + 1) kind (omega arith) inside (subst (λ (m : ℕ). IsStmt made functions names s m kind) count is_stmt)) in
            subst (λ v. IsBody u functions names whole (length start) v) (sym (ap (λ v. v ++ more) f ∙ append_assoc numbers (n ∷ []) more))
            (w.continues u (keeps_trans (length start) now new u (keeps_grown (length start) now new now_new) keeps) (n ∷ more)
            (omega arith, (node, keeps.keeps n node (omega arith) here, refl, stands), q));
      }

  pub walked_end : (start now : List Node) (whole : Body) (numbers : List ℕ) → Walked start now whole done numbers → Grown start now × IsBody now functions names whole (length start) numbers
  walked_end start now whole numbers w =
      (w.grown, subst (λ v. IsBody now functions names whole (length start) v) (append-nil numbers) (w.continues now (keeps_same (length start) now) [] tt))

  -- an `if`, from its condition and its arms
  pub if_made : (start one two : List Node) (s : Stmt) (e : Expr) (a b : Body) (c : Table.Expr) (x y : List ℕ) → s ≡ if_stmt e a b → IsExpr names c e
      → Grown start one × IsBody one functions names a (length start) x → Grown one two × IsBody two functions names b (length one) y
      → Grown start two × IsStmt two functions names s (length start) (if_node c x y)
  if_made start one two s e a b c x y same cond left right =
      let long = left.0.longer in (
        grown_trans start one two left.0 right.0,
        subst (λ (v : Stmt). IsStmt two functions names v (length start) (if_node c x y)) (sym same) (
          cond,
          body_kept one two a (length start) (length start) x (omega arith) (keeps_grown (length start) one two right.0) left.1,
          body_kept two two b (length one) (length start) y long (keeps_same (length one) two) right.1,
        ),
      )

  -- a `par`, from its branches
  pub both_made : (start one two : List Node) (s : Stmt) (a b : Body) (sets : Branches) (x y : List ℕ) → s ≡ par_stmt a b → SlotsOfBranches names a sets
      → Grown start one × IsBody one functions names a (length start) x → Grown one two × IsBody two functions names b (length one) y
      → Grown start two × IsStmt two functions names s (length start) (both_node x y sets.blocks.items sets.assigned.items)
  both_made start one two s a b sets x y same goes left right =
      let long = left.0.longer in (
        grown_trans start one two left.0 right.0,
        subst (λ (v : Stmt). IsStmt two functions names v (length start) (both_node x y sets.blocks.items sets.assigned.items)) (sym same) (
          body_kept one two a (length start) (length start) x (omega arith) (keeps_grown (length start) one two right.0) left.1,
          body_kept two two b (length one) (length start) y long (keeps_same (length one) two) right.1,
          goes.blocks,
          goes.assigned,
        ),
      )
