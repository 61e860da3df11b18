-- The names of slots, put together.
use Rattle.std.proofs.Common.{◌≡◌, List, [], ◌∷◌, ◌++◌, refl, sym, ap, ◌∙◌}
use Rattle.par_tree.specs.Tree.{Name}
use Rattle.std.specs.Prelude.{Result, Ok, Err, IfOk}
use Rattle.std.specs.declared.vec.Vec.{Vec}
use Rattle.std.specs.declared.alloc.Global.{Global}
use Rattle.std.specs.declared.alloc.AllocError.{AllocError}
use Rattle.par_tree.specs.declared.name.Name.{Name as RustName}
use Rattle.node_table.specs.Names.{with_name, with_names}
use Rattle.frame_code.specs.Scopes.{names_tree}

pub with_names_append : (names xs ys : List Name) → with_names names (xs ++ ys) ≡ with_names (with_names names xs) ys
with_names_append names [] ys = refl
with_names_append names (x ∷ xs) ys = with_names_append (with_name names x) xs ys

-- two parts, one behind the other
pub with_two : (names mid end xs ys : List Name) → mid ≡ with_names names xs → end ≡ with_names mid ys → end ≡ with_names names (xs ++ ys)
with_two names mid end xs ys e f = f ∙ ap (λ v. with_names v ys) e ∙ sym (with_names_append names xs ys)

-- the second of two parts, where the first is made
pub with_part : (names mid xs ys all : List Name) (r : Result (Vec RustName Global) AllocError) → mid ≡ with_names names xs → all ≡ xs ++ ys → IfOk r (λ v. names_tree v.items ≡ with_names mid ys) → IfOk r (λ v. names_tree v.items ≡ with_names names all)
with_part names mid xs ys all (Ok v) e a h = with_two names mid (names_tree v.items) xs ys e h ∙ ap (λ zs. with_names names zs) (sym a)
with_part names mid xs ys all (Err f) e a h = tt
