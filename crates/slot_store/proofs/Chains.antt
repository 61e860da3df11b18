-- A chain is evaluated from its front on.
use Rattle.std.proofs.Common.{◌≡◌, ℤ, Ok, refl}
use Rattle.depth_first_run.specs.Passed.Tree
use Rattle.depth_first_run.specs.Stores.{Store}
use Rattle.depth_first_run.specs.Values.{value, chained}

pub chain_value : (s : Store) (e : Tree.Expr) (ls : Tree.Links) (v : ℤ) → value s e ≡ Ok v →
    value s (Tree.chain e ls) ≡ chained s ls v
unfolding value
chain_value s e ls v is = rw is refl
