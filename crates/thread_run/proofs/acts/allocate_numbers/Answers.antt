use Rattle.std.proofs.Common.{◌≡◌, ◌<◌, ◌≤◌, ◌*◌, ◌∷◌, ◌∙◌, ℕ, Some, refl, sym, ap, subst, arith}
use Rattle.depth_first_list.specs.QuotaWords.{quota_words}
use Rattle.depth_first_list.specs.Leaves.{IsTreeSize}
use Rattle.depth_first_list.specs.Shapes.{Shape, shape_of}
use Rattle.depth_first_list.specs.TreeLeaves.{tree_leaves}
use Rattle.depth_first_list.specs.Runs.{tree_for}
use Rattle.thread_state.specs.Passed.Stores.{block_words}
use Rattle.thread_state.specs.Passed.Middle.{middle, does, tree, allocates, allocated, step_alloc_words}
use Rattle.thread_stack.specs.declared.frame.Frame.TheVariants.{Tree, Allocates}
use Rattle.thread_run.specs.declared.ready.Ready.TheVariants.{Alloc}
use Rattle.thread_run.specs.declared.done.Done.TheVariants.{Silent, Acts}
use Rattle.thread_run.proofs.Coming.{at_point, allocated_now, allocated_later, whole_words, short_words}
use Rattle.thread_state.proofs.Passed.FewWords.{few_words, many_words}
use Rattle.thread_run.proofs.acts.allocate_numbers.Goals as goal

pub returns-in_ok-shell-in-None-clause-meaning : goal.returns-in_ok-shell-in-None-clause-meaning
returns-in_ok-shell-in-None-clause-meaning c = λ t setting g b slot gs xs fs s at.
    let k : ℕ = quota_words c.args.k in
    let words : ℕ = block_words c.args.len in
    let same : c.pieces_for-pieces.result * 16 ≡ words = whole_words c.args.len c.pieces_for-pieces.result c.pieces_for-pieces.ensures in
    let small : c.pieces_for-pieces.result * 16 ≤ 1048576 = short_words c.args.len c.pieces_for-pieces.result c.pieces_for-pieces.ensures c.requires.small in
    let none : IsTreeSize c.dummies.result → ⊥ = λ (is : IsTreeSize c.dummies.result). let never = c.in-None.ensures.some.1 is in cc in
    let few : words ≤ k = subst (λ (w : ℕ). w ≤ k) same (few_words (c.pieces_for-pieces.result * 16) k c.dummies.result small c.dummies.ensures.several c.dummies.ensures.bound none) in
    let quota = at.setting.quota in
    at_point setting t (g ∷ gs) c.args.state.now xs fs s (middle fs (allocated b c.args.len s)) (step_alloc_words setting c.args.line b (Some c.args.len) fs s) (Acts (Alloc c.args.slot c.args.len c.in_ok-shell-in-None.shell))
    (allocated_now setting c.args.line b c.args.len fs s (omega (arith, few, quota)))
    (at.state, (at.frames, record { block = b; named = slot; does = refl; none = λ _. c.requires.none }, c.in_ok-shell-in-None.ensures ∙ c.pieces_for-pieces.ensures))

pub returns-in-Some-clause-meaning : goal.returns-in-Some-clause-meaning
returns-in-Some-clause-meaning c = λ t setting g b slot gs xs fs s at.
    let k : ℕ = quota_words c.args.k in
    let words : ℕ = block_words c.args.len in
    let same : c.pieces_for-pieces.result * 16 ≡ words = whole_words c.args.len c.pieces_for-pieces.result c.pieces_for-pieces.ensures in
    let sized : IsTreeSize c.dummies.result = c.in-Some.ensures.some.0 refl in
    let many : k < words = subst (λ (w : ℕ). k < w) same (many_words (c.pieces_for-pieces.result * 16) k c.dummies.result c.dummies.ensures.dummies sized.0) in
    let quota = at.setting.quota in
    let shape : Shape = shape_of (tree_leaves c.in-Some.tree) in
    let leaves : tree_leaves c.in-Some.tree ≡ c.dummies.result = c.in-Some.ensures.leaves in
    let for_words : shape ≡ tree_for setting.quota words =
    ap shape_of (leaves ∙ c.dummies.ensures.dummies) ∙ ap (λ (w : ℕ). tree_for k w) same ∙ ap (λ (q : ℕ). tree_for q words) (sym quota) in
    at_point setting t (g ∷ gs) c.args.state.now xs fs s (middle (does (tree shape) ∷ allocates b c.args.len ∷ fs) s) (step_alloc_words setting c.args.line b (Some c.args.len) fs s) (Silent (Some (Tree c.in-Some.tree)) (Some (Allocates c.args.slot c.args.len)))
    (allocated_later setting c.args.line b c.args.len shape fs s (omega (arith, many, quota)) for_words)
    ((refl, ((b, refl, slot), at.frames)), at.state, refl)
