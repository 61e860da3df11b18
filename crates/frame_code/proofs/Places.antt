-- What stands at a place of the names that are shown.
use Rattle.std.proofs.Common.{◌≡◌, ℕ, zero, suc, ◌<◌, List, [], ◌∷◌, length, get_or, refl, arith}
use Rattle.par_tree.specs.View.{name_tree}
use Rattle.par_tree.specs.declared.name.Name.{Name}
use Rattle.par_tree.specs.declared.func.Func.{Func}
use Rattle.node_table.specs.Names.{name_at}
use Rattle.frame_code.specs.Numbers.{func_name, func_names}
use Rattle.frame_code.specs.Scopes.{names_tree}

-- the name at a place
pub name_at-item : (ns : List Name) (i : ℕ) (d : Name) → i < length ns → name_at (names_tree ns) i ≡ name_tree (get_or ns i d)
name_at-item [] i d lt = let never : ⊥ = omega arith in absurd never
name_at-item (n ∷ ns) zero d lt = refl
name_at-item (n ∷ ns) (suc i) d lt = let less : i < length ns = omega arith in name_at-item ns i d less

pub func_at-item : (fs : List Func) (i : ℕ) (d : Func) → i < length fs → name_at (func_names fs) i ≡ func_name (get_or fs i d)
func_at-item [] i d lt = let never : ⊥ = omega arith in absurd never
func_at-item (f ∷ fs) zero d lt = refl
func_at-item (f ∷ fs) (suc i) d lt = let less : i < length fs = omega arith in func_at-item fs i d less
