-- What the code of statements is lowered with.
use Rattle.std.specs.Prelude.{List, map}
use Rattle.par_tree.specs.Tree
use Rattle.par_tree.specs.View.{name_tree}
use Rattle.par_tree.specs.declared.name.Name.{Name}
use Rattle.frame_code.specs.Numbers.{func_names}
use Rattle.frame_code.specs.declared.function_numbers.FunctionNumbers.{FunctionNumbers}
use Rattle.frame_code.specs.declared.scope.Scope.{Scope}

-- names in a list
abbrev pub names_tree : List Name → List Tree.Name
names_tree ns = map name_tree ns

-- the functions of the program
abbrev pub functions_in : FunctionNumbers → List Tree.Name
functions_in n = func_names n.funcs.now

abbrev pub functions_of : Scope → List Tree.Name
functions_of s = functions_in s.functions.now

abbrev pub names_of_scope : Scope → List Tree.Name
names_of_scope s = names_tree s.names.names.items
