-- Lists of statements, read one by one.
use Rattle.std.proofs.Common.{◌≡◌, ℕ, zero, suc, ◌+◌, ◌≤◌, ◌<◌, List, [], ◌∷◌, length, drop, Some, refl, sym, ap, ◌∙◌, subst, arith}
use Rattle.std.specs.Prelude.{slice_get}
use Rattle.std.proofs.lemmas.List.{length-drop, drop_all}
use Rattle.depth_first_run.specs.Passed.Tree.{Name, Func, Program, Stmt, Body, done, step}
use Rattle.depth_first_run.specs.Middle.{before_all, does, statements}
use Rattle.depth_first_run.specs.Middle as middles
use Rattle.node_table.specs.Table.{Table}
use Rattle.node_table.specs.Programs.{IsNone}
use Rattle.thread_stack.specs.declared.list_of.ListOf.{ListOf}
use Rattle.thread_stack.specs.declared.frame.Frame.{Frame}
use Rattle.thread_stack.specs.declared.frame.Frame.TheVariants.{Statements}
use Rattle.thread_stack.specs.Lists.{numbers_of, numbers_from}
use Rattle.thread_stack.specs.Frames.{IsNode, AreStatements, AreFrames, names_now}

some_same : (m n : ℕ) → Some m ≡ Some n → m ≡ n
some_same m n e = cc

-- no numbers are no statements
pub no_statements : (p : Program) (t : Table) (names : List Name) (b : Body) → AreStatements p t names [] b → b ≡ done
no_statements p t names done h = refl
no_statements p t names (step line s rest) h = absurd h.1

-- what a list begins with: the statement of its first number, and the statements of the others
pub record FirstOf (p : Program) (t : Table) (names : List Name) (n : ℕ) (ns : List ℕ) (b : Body) : Type 0 where
  pub line : ℕ
  pub stmt : Stmt
  pub rest : Body
  pub is : b ≡ step line stmt rest
  pub node : IsNode p t names n line stmt
  pub later : AreStatements p t names ns rest

pub first_statement : (p : Program) (t : Table) (names : List Name) (n : ℕ) (ns : List ℕ) (b : Body) → AreStatements p t names (n ∷ ns) b → FirstOf p t names n ns b
first_statement p t names n ns done h = absurd h.1
first_statement p t names n ns (step line s rest) h = record {
  line = line;
  stmt = s;
  rest = rest;
  is = refl;
  node = record { node = h.1.1.0; there = h.1.1.1; on_line = h.1.1.2; is = h.1.1.3 };
  later = (h.0, h.1.2);
}

none_left : (ns : List ℕ) → IsNone ns → ns ≡ []
none_left [] h = refl
none_left (n ∷ ns) h = absurd h

-- a list with a statement at its place is a frame; a list without one is none
pub list_frame : (p : Program) (t : Table) (gs : List Func) (list : ListOf) (next : ℕ) (b : Body) (xs : List Frame) (fs : List middles.Frame) → next < length (numbers_of t list) → AreStatements p t (names_now gs) (numbers_from t list next) b → AreFrames p t gs xs fs
    → AreFrames p t gs (Statements list next ∷ xs) (before_all b fs)
list_frame p t gs list next done xs fs some h frames =
    let none = ap (λ (ns : List ℕ). length ns) (none_left (numbers_from t list next) h.1) in
    let rest = length-drop next (numbers_of t list) in
    absurd (omega (arith, none, rest, some))
list_frame p t gs list next (step line s rest) xs fs some h frames = ((step line s rest, refl, h), frames)

pub no_frame : (p : Program) (t : Table) (gs : List Func) (list : ListOf) (next : ℕ) (b : Body) (xs : List Frame) (fs : List middles.Frame) → length (numbers_of t list) ≤ next → AreStatements p t (names_now gs) (numbers_from t list next) b → AreFrames p t gs xs fs
    → AreFrames p t gs xs (before_all b fs)
no_frame p t gs list next b xs fs none h frames =
    let empty = no_statements p t (names_now gs) b (subst (λ (ns : List ℕ). AreStatements p t (names_now gs) ns b) (drop_all next (numbers_of t list) none) h) in
    subst (λ (a : Body). AreFrames p t gs xs (before_all a fs)) (sym empty) frames

drop_suc : (next n : ℕ) (ns : List ℕ) → slice_get ns next ≡ Some n → drop next ns ≡ n ∷ drop (suc next) ns
drop_suc zero n [] there = cc
drop_suc zero n (m ∷ ns) there = ap (λ (x : ℕ). x ∷ ns) (some_same m n there)
drop_suc (suc next) n [] there = cc
drop_suc (suc next) n (m ∷ ns) there = drop_suc next n ns there

pub drop_one : (next n : ℕ) (ns : List ℕ) → slice_get ns next ≡ Some n → drop next ns ≡ n ∷ drop (next + 1) ns
drop_one next n ns there = drop_suc next n ns there ∙ ap (λ (k : ℕ). n ∷ drop k ns) (let e : suc next ≡ next + 1 = omega arith in e)

-- the list of a frame, one statement after the other: at its place stands the first one, and the rest stands from the next place on
pub at_place : (p : Program) (t : Table) (names : List Name) (list : ListOf) (next n : ℕ) (b : Body) → slice_get (numbers_of t list) next ≡ Some n → AreStatements p t names (numbers_from t list next) b
    → FirstOf p t names n (numbers_from t list (next + 1)) b
at_place p t names list next n b there h =
    first_statement p t names n (numbers_from t list (next + 1)) b
    (subst (λ (ns : List ℕ). AreStatements p t names ns b) (drop_one next n (numbers_of t list) there) h)
