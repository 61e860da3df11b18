-- What the values of the checker show: an environment, a refusal, and the answers of the walk.
use Rattle.std.specs.Prelude.{◌≡◌, ℕ, Bool, if◌then◌else◌, List, map, Option, Some, None, Result, Ok, Err}
use Rattle.std.specs.Str.{bytes_eq}
use Rattle.std.specs.declared.vec.Vec.{Vec}
use Rattle.std.specs.declared.alloc.Global.{Global}
use Rattle.par_ownership.specs.Environment
use Rattle.par_ownership.specs.Environment.{Environment, with_entry, lent_entry, opened}
use Rattle.par_ownership.specs.Walk
use Rattle.par_tree.specs.Tree
use Rattle.par_tree.specs.View.{func_tree}
use Rattle.par_tree.specs.declared.func.Func.{Func}
use Rattle.block_check.specs.declared.kind.Kind.{Kind}
use Rattle.block_check.specs.declared.kind.Kind.TheVariants.{Integer, Own, Lent}
use Rattle.block_check.specs.declared.entry.Entry.{Entry}
use Rattle.block_check.specs.declared.refusal.Refusal.{Refusal}
use Rattle.block_check.specs.declared.refusal.Fail.{Fail}
use Rattle.block_check.specs.declared.refusal.Fail.TheVariants.{Memory, Refused}

abbrev pub kind_shown : Kind → Environment.Kind
kind_shown Integer = Environment.integer
kind_shown Own = Environment.own
kind_shown Lent = Environment.lent

abbrev pub entry_shown : Entry → Environment.Entry
entry_shown e = record { name = e.name.now; kind = kind_shown e.kind; held = e.held; line = e.line }

abbrev pub entries_shown : List Entry → Environment
entries_shown es = map entry_shown es

abbrev pub refusal_shown : Refusal → Walk.Refusal
refusal_shown r = record { kind = r.kind; line = r.line; name = r.name.now }

-- a test passes where nothing is refused, and else gives the first refusal
abbrev pub Tests : {T : Type 0} → Result T Fail → Option Walk.Refusal → Type 0
Tests (Ok x) o = o ≡ None
Tests (Err Memory) o = Unit {0}
Tests (Err (Refused r)) o = o ≡ Some (refusal_shown r)

-- a walk gives the environment behind it, or the first refusal
abbrev pub Walks : {T : Type 0} → (T → Environment) → Result T Fail → Result Environment Walk.Refusal → Type 0
Walks view (Ok x) w = w ≡ Ok (view x)
Walks view (Err Memory) w = Unit {0}
Walks view (Err (Refused r)) w = w ≡ Err (refusal_shown r)

-- the environment in a `Vec`
abbrev pub env_shown : Vec Entry Global → Environment
env_shown v = entries_shown v.items

-- an entry of the code with its mark
abbrev pub marked_entry : List ℕ → Bool → Entry → Entry
marked_entry name held e = if bytes_eq e.name.now name then record e { held = held } else e

-- the functions of a program
abbrev pub funcs_tree : List Func → Tree.Program
funcs_tree fs = map func_tree fs

-- the head of a `split`, up to the environment in which its body begins
abbrev pub split_opened : ℕ → Environment → Tree.Name → Tree.Expr → Tree.Name → Tree.Name → Result Environment Walk.Refusal
split_opened line env b e l r =
    Walk.guarded (Walk.block_refusal line env b)
    (Walk.guarded (Walk.expr_refusal line env e)
    (Walk.guarded (Walk.fresh_refusal line env l)
    (Walk.guarded (Walk.fresh_refusal line (with_entry env (lent_entry l line)) r) (Ok (opened env b l r line)))))
