-- The end of a `split`, as the next frame.
use Rattle.std.proofs.Common.{◌≡◌, ℕ, Bool, true, false, List, [], ◌∷◌, Option, Some, refl, sym, ◌∙◌, ap, subst, Vec, Global}
use Rattle.std.specs.Prelude.{map}
use Rattle.par_tree.specs.Tree.{Name, Func, Program}
use Rattle.node_table.specs.Shown.{kind_shown}
use Rattle.node_table.specs.declared.code_expr.CodeExpr.{CodeExpr}
use Rattle.node_table.specs.declared.node_kind.NodeKind.{NodeKind}
use Rattle.node_table.specs.declared.node_kind.NodeKind.TheVariants as k
use Rattle.thread_state.specs.Passed.Stores.{Store}
use Rattle.thread_state.specs.Passed.States.{Setting, State, skip_if, unless_faulted}
use Rattle.thread_state.specs.Passed.Run.{on_store, rejoin_block}
use Rattle.thread_state.specs.Passed.Middle as middles
use Rattle.thread_state.specs.Passed.Middle.{rejoins, step_frame}
use Rattle.node_table.specs.Names.{slot_names, name_at}
use Rattle.node_table.specs.Table as tables
use Rattle.node_table.specs.Table.{Table, Kind, split_node}
use Rattle.thread_stack.specs.declared.frame.Frame.{Frame}
use Rattle.thread_stack.specs.declared.frame.Frame.TheVariants.{Rejoins}
use Rattle.thread_stack.specs.Frames.{AreFrames, IsFrame, IsSplitNode}
use Rattle.thread_run.proofs.Behind.{none_runs}
use Rattle.thread_stack.specs.Lists.{kind_at}
use Rattle.thread_state.specs.States.{IsState}
use Rattle.thread_state.specs.declared.state.ThreadState.{ThreadState}
use Rattle.thread_run.specs.Stands.{InState}
use Rattle.thread_run.specs.Steps.{Leaves}

-- the node is a `split`
abbrev pub IsSplitKind : Option Kind → Type 0
IsSplitKind (Some (split_node s c l r x)) = Unit {0}
IsSplitKind other = ⊥

abbrev block_in : Option Kind → ℕ
block_in (Some (split_node s c l r x)) = s
block_in other = 0

abbrev left_in : Option Kind → ℕ
left_in (Some (split_node s c l r x)) = l
left_in other = 0

abbrev right_in : Option Kind → ℕ
right_in (Some (split_node s c l r x)) = r
right_in other = 0

quiet_items : (b : Bool) (f : Store → Store) (s : State) → State.items (skip_if b (on_store f) s) ≡ s.items
quiet_items true f s = refl
quiet_items false f s = refl

pub same_items : (f : Store → Store) (s : State) → State.items (unless_faulted (on_store f) s) ≡ s.items
unfolding unless_faulted
same_items f s = quiet_items s.faulted f s

-- the slots of a `split` have the names of its block and its parts
renamed : (contexts : List (List Name)) (u : ThreadState) (b l r x y z : Name) (s : State) → x ≡ b → y ≡ l → z ≡ r
    → IsState contexts u (unless_faulted (on_store (rejoin_block x y z)) s) → IsState contexts u (unless_faulted (on_store (rejoin_block b l r)) s)
renamed contexts u b l r x y z s p q w is =
    subst (λ (n : Name). IsState contexts u (unless_faulted (on_store (rejoin_block n l r)) s)) p
    (subst (λ (n : Name). IsState contexts u (unless_faulted (on_store (rejoin_block x n r)) s)) q
    (subst (λ (n : Name). IsState contexts u (unless_faulted (on_store (rejoin_block x y n)) s)) w is))

rejoin_comes : (c : Setting) (t : Table) (g : Func) (gs : List Func) (u : ThreadState) (xs : List Frame) (fs : List middles.Frame) (s : State) (f : middles.Frame) (b l r : Name) (n slot : ℕ) (at : tables.Expr) (left right : ℕ) (body : List ℕ)
    → f ≡ rejoins b l r → IsSplitNode t (slot_names g) n b l r → kind_at t n ≡ Some (split_node slot at left right body)
    → AreFrames c.program t (g ∷ gs) xs fs
    → IsState (map slot_names (g ∷ gs)) u (unless_faulted (on_store (rejoin_block (name_at (slot_names g) slot) (name_at (slot_names g) left) (name_at (slot_names g) right))) s)
    → Leaves c t (g ∷ gs) u xs s (step_frame c f fs s)
rejoin_comes c t g gs u xs fs s f b l r n slot at left right body is node there frames state =
    let names = slot_names g in
    let same : Some (split_node slot at left right body) ≡ Some (split_node node.block node.at node.left node.right node.body) = sym there ∙ node.there in
    let whole : name_at names slot ≡ b = ap (λ (o : Option Kind). name_at names (block_in o)) same ∙ node.whole.reads in
    let first : name_at names left ≡ l = ap (λ (o : Option Kind). name_at names (left_in o)) same ∙ node.first.reads in
    let second : name_at names right ≡ r = ap (λ (o : Option Kind). name_at names (right_in o)) same ∙ node.rest.reads in
    subst (λ (y : middles.Frame). Leaves c t (g ∷ gs) u xs s (step_frame c y fs s)) (sym is) (
      frames,
      renamed (map slot_names (g ∷ gs)) u b l r (name_at names slot) (name_at names left) (name_at names right) s whole first second state,
      same_items (rejoin_block b l r) s,
    )

pub rejoin_at : (c : Setting) (t : Table) (gs : List Func) (u v : ThreadState) (xs : List Frame) (fs : List middles.Frame) (s : State) (f : middles.Frame) (n slot : ℕ) (at : tables.Expr) (left right : ℕ) (body : List ℕ)
    → IsFrame c.program t gs (Rejoins n) f → kind_at t n ≡ Some (split_node slot at left right body)
    → AreFrames c.program t gs xs fs → InState gs u s
    → ((contexts : List (List Name)) (names : List Name) (q : State) → IsState (names ∷ contexts) u q
    → IsState (names ∷ contexts) v (unless_faulted (on_store (rejoin_block (name_at names slot) (name_at names left) (name_at names right))) q))
    → Leaves c t gs v xs s (step_frame c f fs s)
rejoin_at c t [] u v xs fs s f n slot at left right body frame there frames is goes = absurd (none_runs c.program t xs fs frames)
rejoin_at c t (g ∷ gs) u v xs fs s f n slot at left right body frame there frames is goes =
    rejoin_comes c t g gs v xs fs s f frame.0 frame.1 frame.2 n slot at left right body frame.3 frame.4 there frames (goes (map slot_names gs) (slot_names g) s is)

-- a node that is no `split` has no end of one
no_end : (o : Option Kind) (slot : ℕ) (at : tables.Expr) (left right : ℕ) (body : List ℕ) → o ≡ Some (split_node slot at left right body) → IsSplitKind o
no_end o slot at left right body e = subst IsSplitKind (sym e) tt

pub never_split : (i : NodeKind) → ((s : ℕ) (e : CodeExpr) (l r : ℕ) (v : Vec ℕ Global) → i ≡ k.Split s e l r v → ⊥) → IsSplitKind (Some (kind_shown i)) → ⊥
never_split (k.Split s e l r v) other h = other s e l r v refl
never_split (k.Let s e) other h = h
never_split (k.Assign s e) other h = h
never_split (k.Put s e d) other h = h
never_split (k.Alloc s e) other h = h
never_split (k.Free s) other h = h
never_split (k.If e a b) other h = h
never_split (k.While e a) other h = h
never_split (k.Call u f args) other h = h
never_split (k.Print e) other h = h
never_split (k.Both a b d e) other h = h

pub split_there : (p : Program) (t : Table) (gs : List Func) (n : ℕ) (f : middles.Frame) → IsFrame p t gs (Rejoins n) f → IsSplitKind (kind_at t n)
split_there p t gs n f frame = no_end (kind_at t n) frame.4.block frame.4.at frame.4.left frame.4.right frame.4.body frame.4.there
