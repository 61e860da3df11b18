-- The names that are taken of an environment.
use Rattle.std.proofs.Common.{◌≡◌, Bool, List, ap, ◌∙◌}
use Rattle.std.specs.declared.vec.Vec.{Vec}
use Rattle.std.specs.declared.alloc.Global.{Global}
use Rattle.par_tree.specs.Tree
use Rattle.par_ownership.specs.Environment.{Entry}
use Rattle.block_check.specs.Shown.{entries_shown, env_shown}
use Rattle.block_check.specs.Forks.{names_of}
use Rattle.block_check.specs.declared.entry.Entry.{Entry as RustEntry}

-- names that are taken of equal environments by equal statements are the same
pub names_same : (p : Tree.Body → Entry → Bool) (ns : List RustEntry) (names : Vec RustEntry Global) (t u : Tree.Body) → ns ≡ names.items → t ≡ u → names_of (p t) (entries_shown ns) ≡ names_of (p u) (env_shown names)
names_same p ns names t u e f =
    ap (λ (es : List RustEntry). names_of (p t) (entries_shown es)) e
    ∙ ap (λ (v : Tree.Body). names_of (p v) (env_shown names)) f
