-- What a table finds by a number: the function of a call, and the node of a statement.
use Rattle.std.proofs.Common.{◌≡◌, ℕ, zero, suc, ◌<◌, List, [], ◌∷◌, map, length, Some, refl, sym, ◌∙◌, subst, arith}
use Rattle.std.specs.Prelude.{slice_get}
use Rattle.std.specs.List.{All}
use Rattle.std.proofs.lemmas.List.Elements.{All-cons, All-nil}
use Rattle.std.proofs.lemmas.Option.{slice_get_within}
use Rattle.par_tree.specs.Tree.{Name, Body, done, step, Func, Program}
use Rattle.par_ownership.specs.Ownership.{Ownership, function_of}
use Rattle.par_ownership.proofs.NewNames.{first_of_its_name}
use Rattle.node_table.specs.Names.{name_at, IsSlot}
use Rattle.node_table.specs.Table.{Node, Function, Table}
use Rattle.node_table.specs.Programs.{IsBody, IsFunc, AreFuncs, name_of, function_names, IsTableOf}
use Rattle.node_table.specs.Laws.{IsCallee}

-- a number below the number of functions is that of a function, whose name is read under it, and which the table has
record Stands (t : List Node) (functions : List Name) (fs : List Func) (cs : List Function) (n : ℕ) : Type 0 where
  func : Func
  code : Function
  here : slice_get fs n ≡ Some func
  named : name_at (map name_of fs) n ≡ func.name
  there : slice_get cs n ≡ Some code
  is : IsFunc t functions func code

stands : (t : List Node) (functions : List Name) (fs : List Func) (cs : List Function) (n : ℕ) → AreFuncs t functions fs cs → n < length (map name_of fs) → Stands t functions fs cs n
stands t functions [] cs n h lt = let never : ⊥ = omega arith in absurd never
stands t functions (f ∷ fs) [] n h lt = absurd h
stands t functions (f ∷ fs) (c ∷ cs) zero h lt = record { func = f; code = c; here = refl; named = refl; there = refl; is = h.0 }
stands t functions (f ∷ fs) (c ∷ cs) (suc n) h lt =
    let less : n < length (map name_of fs) = omega arith in
    let rest = stands t functions fs cs n h.1 less in
    record { func = rest.func; code = rest.code; here = rest.here; named = rest.named; there = rest.there; is = rest.is }

pub callee : (p : Program) (t : Table) (n : ℕ) (x : Name) → Ownership p → IsTableOf p t → IsSlot (function_names p) n x → IsCallee p t n x
callee p t n x owns is slot =
    let at = stands t.nodes (function_names p) p t.funcs n is.functions slot.below in
    let same : at.func.name ≡ x = sym at.named ∙ slot.reads in
    record {
      func = at.func;
      code = at.code;
      found = subst (λ y. function_of p y ≡ Some at.func) same (first_of_its_name p owns n at.func at.here);
      there = at.there;
      is = at.is;
    }

pub body_below : (t : List Node) (functions names : List Name) (b : Body) (low : ℕ) (ns : List ℕ) → IsBody t functions names b low ns → All (λ n. n < length t) ns
body_below t functions names done low [] h = All-nil (λ n. n < length t)
body_below t functions names done low (n ∷ ns) h = absurd h
body_below t functions names (step line s rest) low [] h = absurd h
body_below t functions names (step line s rest) low (n ∷ ns) h =
    All-cons (λ m. m < length t) n ns (slice_get_within t n h.1.0 h.1.1) (body_below t functions names rest low ns h.2)
