-- The names of a function's slots: those that it declares, each once, in the order of the text.
use Rattle.std.specs.Prelude.{◌≡◌, ℕ, ◌<◌, if◌then◌else◌, List, [], ◌∷◌, ◌++◌, length, slice_get}
use Rattle.std.specs.Option.{unwrap_or}
use Rattle.par_tree.specs.Tree.{Name, Func}
use Rattle.par_tree.specs.Names.{is_among, declared_in}

-- a name behind others, unless it is among them
abbrev pub with_name : List Name → Name → List Name
with_name names x = if is_among x names then names else names ++ x ∷ []

abbrev pub with_names : List Name → List Name → List Name
with_names names [] = names
with_names names (x ∷ xs) = with_names (with_name names x) xs

abbrev pub slot_names : Func → List Name
slot_names f = with_names [] (declared_in f)

-- the name of a slot, and no bytes where there is none
abbrev pub name_at : List Name → ℕ → Name
name_at names s = unwrap_or (slice_get names s) []

-- the slot is that of this name
pub record IsSlot (names : List Name) (s : ℕ) (x : Name) : Type 0 where
  pub reads : name_at names s ≡ x
  pub below : s < length names
