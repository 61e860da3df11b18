-- What an accepted program is, for those who run it.
use Rattle.std.specs.Prelude.{◌≡◌, ℕ, true, false, List, [], ◌∷◌, slice_get, Some}
use Rattle.par_tree.specs.Tree.{Name, Program, Func}
use Rattle.par_ownership.specs.Ownership.{Ownership, function_of, hands_back, main_name}
use Rattle.accepted_source.specs.Calls.{EachCall, IsCall}
use Rattle.par_tree.specs.Names.{is_among, is_written_in, declared_in}

-- P holds of each function of a list
abbrev pub EachFunction : (Func → Type 0) → List Func → Type 0
EachFunction P [] = Unit {0}
EachFunction P (f ∷ rest) = P f × EachFunction P rest

-- each call is one that can be done
abbrev pub CallsAreCalls : Type 0
CallsAreCalls = (p : Program) → Ownership p → EachFunction (λ f. EachCall (IsCall p) f.body) p

-- what is written in a function is declared there
abbrev pub IsDeclared : Func → Type 0
IsDeclared f = (x : Name) → is_written_in x f ≡ true → is_among x (declared_in f) ≡ true

abbrev pub NamesAreDeclared : Type 0
NamesAreDeclared = (p : Program) → Ownership p → EachFunction IsDeclared p

-- `main` takes nothing and hands no block back
pub record IsMain (f : Func) : Type 0 where
  pub takes_nothing : f.params ≡ []
  pub hands_nothing : hands_back f.ret ≡ false

abbrev pub MainIsThere : Type 0
MainIsThere = (p : Program) → Ownership p → (f : Func) × (function_of p main_name ≡ Some f) × IsMain f

-- functions of different numbers have different names
abbrev pub FunctionNamesDiffer : Type 0
FunctionNamesDiffer =
    (p : Program) → Ownership p → (i j : ℕ) (f g : Func) → slice_get p i ≡ Some f → slice_get p j ≡ Some g → f.name ≡ g.name → i ≡ j
