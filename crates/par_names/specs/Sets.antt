-- What lists and sets of names show.
use Rattle.std.specs.Prelude.{ℕ, Bool, true, List, map, Option, Some, None}
use Rattle.std.specs.List.{list_any}
use Rattle.std.specs.Str.{bytes_eq}
use Rattle.std.specs.Ordering.{nat_cmp}
use Rattle.std.specs.Cmp.Lexicographic.{slice_cmp}
use Rattle.std.specs.BTreeSet.{contains_by}
use denote.Ref.{Bor}
use Rattle.par_tree.specs.Tree.{Name}
use Rattle.par_names.specs.declared.name_set.NameSet.{NameSet}

-- the names in a list of references to names
abbrev pub names_behind : List (Bor (List ℕ)) → List Name
names_behind rs = map (λ (r : Bor (List ℕ)). r.now) rs

-- the set has the name
abbrev pub has : NameSet → Name → Bool
has s x = contains_by (λ (k : Bor (List ℕ)). slice_cmp nat_cmp x k.now) s.names

-- the name is asked for: it is in the set, or there is none
abbrev pub is_asked : Option NameSet → Name → Bool
is_asked None x = true
is_asked (Some s) x = has s x
