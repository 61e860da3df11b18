-- The function of a number: the one that a call of its name finds, and the one of `main`.
use Rattle.std.proofs.Common.{◌≡◌, ℕ, zero, suc, List, [], ◌∷◌, map, Some, refl, sym, ◌∙◌, subst, arith}
use Rattle.std.specs.Prelude.{slice_get, ◌<◌}
use Rattle.depth_first_run.specs.Passed.Tree.{Name, Func, Program}
use Rattle.depth_first_run.specs.Passed.Ownership.{Ownership, function_of}
use Rattle.depth_first_run.proofs.Passed.NewNames.{first_of_its_name}
use Rattle.node_table.specs.Names.{IsSlot}
use Rattle.node_table.specs.Table.{Node, Function, Table}
use Rattle.node_table.specs.Programs.{IsFunc, AreFuncs, name_of, function_names, IsTableOf}
use Rattle.thread_stack.specs.Frames.{IsFunctionOf}

some_same : {A : Type 0} (x y : A) → Some x ≡ Some y → x ≡ y
some_same x y e = cc

-- the functions of a table stand in the order of the program
nth_function : (t : List Node) (functions : List Name) (fs : List Func) (cs : List Function) (n : ℕ) (g : Func) → AreFuncs t functions fs cs → slice_get fs n ≡ Some g
    → (c : Function) × (slice_get cs n ≡ Some c) × IsFunc t functions g c
nth_function t functions [] cs n g h there = cc
nth_function t functions (f ∷ fs) [] n g h there = absurd h
nth_function t functions (f ∷ fs) (c ∷ cs) zero g h there = (c, refl, subst (λ (x : Func). IsFunc t functions x c) (some_same f g there) h.0)
nth_function t functions (f ∷ fs) (c ∷ cs) (suc n) g h there = nth_function t functions fs cs n g h.1 there

-- a function of the program is the one of its number
pub numbered : (p : Program) (t : Table) (n : ℕ) (g : Func) → IsTableOf p t → slice_get p n ≡ Some g → IsFunctionOf p t n g
numbered p t n g table there =
    let found = nth_function t.nodes (function_names p) p t.funcs n g table.functions there in
    record { of_program = there; code = found.0; there = found.1; is = found.2 }

-- the number that reads as a name is that of a function with this name
slot_at : (p : List Func) (n : ℕ) (x : Name) → IsSlot (map name_of p) n x → (g : Func) × (slice_get p n ≡ Some g) × (g.name ≡ x)
slot_at [] n x h = absurd (none h.below)
  where
    none : n < 0 → ⊥
    none below = omega (arith, below)
slot_at (f ∷ fs) zero x h = (f, refl, h.reads)
slot_at (f ∷ fs) (suc n) x h = slot_at fs n x (record { reads = h.reads; below = let b = h.below in omega (arith, b) })

-- a call finds the function of its number
pub found_of_number : (p : Program) (t : Table) (n : ℕ) (x : Name) (g : Func) → Ownership p → IsTableOf p t → IsSlot (function_names p) n x → function_of p x ≡ Some g → IsFunctionOf p t n g
found_of_number p t n x g owned table slot found =
    let here = slot_at p n x slot in
    let by_name = subst (λ (y : Name). function_of p y ≡ Some here.0) here.2 (first_of_its_name p owned n here.0 here.1) in
    let same : here.0 ≡ g = some_same here.0 g (sym by_name ∙ found) in
    numbered p t n g table (subst (λ (f : Func). slice_get p n ≡ Some f) same here.1)
