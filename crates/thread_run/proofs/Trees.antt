-- A tree of dummies, and a Join, as the next frame.
use Rattle.std.proofs.Common.{◌≡◌, ℕ, false, List, [], ◌++◌, refl, sym, ap, subst, append-nil}
use Rattle.depth_first_list.specs.Shapes.{leaf, forked, shape_of}
use Rattle.depth_first_list.specs.TreeLeaves.{tree_leaves}
use Rattle.depth_first_list.specs.declared.tree.Tree.{Tree}
use Rattle.depth_first_list.specs.Actions as actions
use Rattle.par_tree.specs.Tree.{Name, Func}
use Rattle.thread_state.specs.Passed.States.{Setting, State, with_action}
use Rattle.thread_state.specs.Passed.Run.{no_name}
use Rattle.thread_state.specs.Passed.Middle as middles
use Rattle.thread_state.specs.Passed.Middle.{does, tree, allocates, allocated, step_fork}
use Rattle.node_table.specs.Names.{IsSlot}
use Rattle.node_table.specs.Table.{Table}
use Rattle.thread_stack.specs.declared.branch.Branch.TheVariants.{Dummies}
use Rattle.thread_stack.specs.declared.frame.Frame.{Frame}
use Rattle.thread_stack.specs.declared.frame.Frame.TheVariants.{Tree as DummyTree}
use Rattle.thread_stack.specs.Frames.{AreFrames, names_now}
use Rattle.block_arena.specs.Size.{pieces_for}
use Rattle.thread_state.specs.Passed.Rows.{HasNone}
use Rattle.thread_state.specs.States.{own_row}
use Rattle.thread_state.specs.declared.state.ThreadState.{ThreadState}
use Rattle.thread_run.specs.Steps.{IsActionOf}
use Rattle.thread_run.specs.declared.ready.Forking.{Forking}
use Rattle.thread_run.specs.declared.ready.Ready.TheVariants.{Fork, Alloc, Dummy}

-- a frame that is no statement has no mark
unmarked : (s : State) → s ≡ record s { items = s.items ++ [] }
unmarked s = ap (λ items. record s { items = items }) (sym (append-nil s.items))

pub dummy_comes : (c : Setting) (t : Table) (gs : List Func) (u : ThreadState) (xs : List Frame) (fs : List middles.Frame) (s : State) (f : middles.Frame)
    → f ≡ does (tree leaf) → AreFrames c.program t gs xs fs → IsActionOf c t gs u xs fs s f Dummy
dummy_comes c t gs u xs fs s f is frames =
    subst (λ (y : middles.Frame). IsActionOf c t gs u xs fs s y Dummy) (sym is) (fs, (frames, ap (with_action actions.dummy 0) (unmarked s)))

pub fork_comes : (c : Setting) (t : Table) (gs : List Func) (u : ThreadState) (xs : List Frame) (fs : List middles.Frame) (s : State) (f : middles.Frame) (child own : Tree)
    → f ≡ does (tree (forked (shape_of (tree_leaves child)) (shape_of (tree_leaves own)))) → AreFrames c.program t gs xs fs
    → IsActionOf c t gs u xs fs s f (Fork (record { branch = Dummies; work = DummyTree child; own = DummyTree own }))
fork_comes c t gs u xs fs s f child own is frames =
    let forking : Forking = record { branch = Dummies; work = DummyTree child; own = DummyTree own } in
    subst (λ (y : middles.Frame). IsActionOf c t gs u xs fs s y (Fork forking)) (sym is) (
      fs,
      record {
        named = no_name;
        assigned = no_name;
        work = tree (shape_of (tree_leaves child));
        mine = tree (shape_of (tree_leaves own));
        forks = ap (λ (x : State). step_fork c no_name no_name (tree (shape_of (tree_leaves child))) (tree (shape_of (tree_leaves own))) fs x) (unmarked s);
        behind = frames;
        taken = refl;
        joined = refl;
        work_of = tt;
        of_child = refl;
        of_parent = refl;
      },
    )

pub alloc_comes : (c : Setting) (t : Table) (gs : List Func) (u : ThreadState) (xs : List Frame) (fs : List middles.Frame) (s : State) (f : middles.Frame) (b : Name) (slot len : ℕ) (shell : ℕ)
    → f ≡ allocates b len → IsSlot (names_now gs) slot b → (u.faulted ≡ false → HasNone (own_row u) slot) → shell ≡ pieces_for len
    → AreFrames c.program t gs xs fs → IsActionOf c t gs u xs fs s f (Alloc slot len shell)
alloc_comes c t gs u xs fs s f b slot len shell is named none room frames =
    subst (λ (y : middles.Frame). IsActionOf c t gs u xs fs s y (Alloc slot len shell)) (sym is)
    (fs, (frames, record { block = b; named = named; does = ap (allocated b len) (unmarked s); none = none }, room))
