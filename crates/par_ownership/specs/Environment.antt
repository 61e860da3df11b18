-- The names that are visible at a place of a function, and which blocks are held there.
use Rattle.std.specs.Prelude.{ℕ, Bool, true, false, not, ◌&&◌, List, [], ◌∷◌, ◌++◌, map, Option, if◌then◌else◌}
use Rattle.std.specs.List.{find}
use Rattle.std.specs.Str.{bytes_eq}
use Rattle.par_tree.specs.Tree
use Rattle.par_tree.specs.Tree.{Name}

-- what a name stands for: an integer, a block that the function owns, a block that is lent to it
pub data Kind : Type 0 where
  integer : Kind
  own : Kind
  lent : Kind

abbrev pub is_block : Kind → Bool
is_block integer = false
is_block own = true
is_block lent = true

abbrev pub is_own : Kind → Bool
is_own integer = false
is_own own = true
is_own lent = false

-- a declared name: what it stands for, whether it is a block that is held, and the line of its declaration
pub record Entry : Type 0 where
  pub name : Name
  pub kind : Kind
  pub held : Bool
  pub line : ℕ

-- the visible names, in the order of their declarations
abbrev pub Environment : Type 0
Environment = List Entry

abbrev pub has_name : Name → Entry → Bool
has_name x e = bytes_eq e.name x

-- what is declared under a name
abbrev pub entry_of : Environment → Name → Option Entry
entry_of env x = find (has_name x) env

abbrev pub integer_entry : Name → ℕ → Entry
integer_entry x line = record { name = x; kind = integer; held = false; line = line }

abbrev pub block_entry : Name → ℕ → Entry
block_entry b line = record { name = b; kind = own; held = true; line = line }

abbrev pub lent_entry : Name → ℕ → Entry
lent_entry b line = record { name = b; kind = lent; held = true; line = line }

abbrev pub with_entry : Environment → Entry → Environment
with_entry env e = env ++ e ∷ []

-- the block of this name is held from now on, or gone from now on
abbrev pub marked : Name → Bool → Entry → Entry
marked b held e = if has_name b e then record e { held = held } else e

abbrev pub regained : Environment → Name → Environment
regained env b = map (marked b true) env

abbrev pub without : Environment → Name → Environment
without env b = map (marked b false) env

-- inside a `split` its two names are lent blocks, and its block is gone
abbrev pub opened : Environment → Name → Name → Name → ℕ → Environment
opened env b l r line = without (with_entry (with_entry env (lent_entry l line)) (lent_entry r line)) b

-- the blocks that an argument list gives away are gone
abbrev pub after_gives : Environment → List Tree.Arg → Environment
after_gives env [] = env
after_gives env (Tree.give b ∷ rest) = after_gives (without env b) rest
after_gives env (other ∷ rest) = after_gives env rest

-- the block that a call hands back is declared and held
abbrev pub after_answer : Environment → Tree.Target → ℕ → Environment
after_answer env (Tree.block b) line = with_entry env (block_entry b line)
after_answer env other line = env

-- a block that was held on one side is held where it is held on the other side too
abbrev pub held_also : Bool → Entry → Entry
held_also other e = record e { held = e.held && other }

-- a block is held where it is held in both
abbrev pub held_in_both : Environment → Environment → Environment
held_in_both [] others = []
held_in_both (e ∷ es) [] = []
held_in_both (e ∷ es) (f ∷ fs) = held_also f.held e ∷ held_in_both es fs

-- an owned block that is held has yet to be freed
abbrev pub is_released : Entry → Bool
is_released e = not (is_own e.kind && e.held)

-- what a parameter declares
abbrev pub param_entry : Tree.Param → ℕ → Entry
param_entry q line = of_kind q.kind
  where
    of_kind : Tree.ParamKind → Entry
    of_kind Tree.by_value = integer_entry q.name line
    of_kind Tree.lent = lent_entry q.name line
    of_kind Tree.owned = block_entry q.name line
