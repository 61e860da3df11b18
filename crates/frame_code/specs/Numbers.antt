-- The numbers of functions, found by their names.
use Rattle.std.specs.Prelude.{◌≡◌, ℕ, true, List, map, Option}
use Rattle.std.specs.Option.{is_some, unwrap_or}
use Rattle.std.specs.Ordering.{nat_cmp}
use Rattle.std.specs.Cmp.Lexicographic.{slice_cmp}
use Rattle.std.specs.BTreeMap.{BTreeMap, get_by}
use denote.Ref.{Bor}
use Rattle.par_tree.specs.Tree
use Rattle.par_tree.specs.View.{name_tree}
use Rattle.par_tree.specs.declared.func.Func.{Func}
use Rattle.node_table.specs.Names.{IsSlot}

abbrev pub func_name : Func → Tree.Name
func_name f = name_tree f.name

abbrev pub func_names : List Func → List Tree.Name
func_names fs = map func_name fs

-- what a map has under a name
abbrev pub number_in : BTreeMap (Bor (List ℕ)) ℕ → Tree.Name → Option ℕ
number_in m x = get_by (λ (k : Bor (List ℕ)). slice_cmp nat_cmp x k.now) m

-- what is found is a number of the name
pub record IsNumber (names : List Tree.Name) (x : Tree.Name) (found : Option ℕ) : Type 0 where
  pub there : is_some found ≡ true
  pub is : IsSlot names (unwrap_or found 0) x
