-- Behind the frames of a thread there is a function that runs.
use Rattle.std.proofs.Common.{◌≡◌, List, [], ◌∷◌, refl, subst}
use Rattle.par_tree.specs.Tree.{Program, Func}
use Rattle.thread_state.specs.Passed.Middle as middles
use Rattle.node_table.specs.Table.{Table}
use Rattle.thread_stack.specs.declared.frame.Frame.{Frame}
use Rattle.thread_stack.specs.declared.frame.Frame.TheVariants.{Statements, Again}
use Rattle.thread_stack.specs.Frames.{AreFrames, functions_behind}

pub none_runs : (p : Program) (t : Table) (xs : List Frame) (fs : List middles.Frame) → AreFrames p t [] xs fs → ⊥
none_runs p t [] [] h = h
none_runs p t [] (f ∷ fs) h = h
none_runs p t (x ∷ xs) [] h = h
none_runs p t (x ∷ xs) (f ∷ fs) h = none_runs p t xs fs (subst (λ (gs : List Func). AreFrames p t gs xs fs) (nothing x) h.1)
  where
    nothing : (x : Frame) → functions_behind x [] ≡ []
    nothing (Statements list next) = refl
    nothing (Again n) = refl
    nothing x = refl
