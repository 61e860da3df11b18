-- Which lists of statements a program has flat code of.
use Rattle.std.specs.Prelude.{◌≡◌, ℕ, ◌+◌, ◌*◌, ◌^◌, ◌<◌, ◌≤◌, ◌⊎◌, List, [], ◌∷◌, ◌++◌, length, Some, slice_get}
use Rattle.node_table.specs.Table.{Function, Table}
use Rattle.thread_stack.specs.declared.list_of.ListOf.{ListOf}
use Rattle.thread_stack.specs.declared.list_of.ListOf.TheVariants.{Body}
use Rattle.thread_stack.specs.Lists.{numbers_of}
use Rattle.flat_code.specs.Passed.Codes.{IsWholeCode}
use Rattle.flat_code.specs.Fits.{CanBeFlat}
use Rattle.flat_code.specs.Made.{code_length}
use Rattle.flat_code.specs.Refused.{most_places}
use Rattle.flat_code.specs.Shown.{flat_shown}
use Rattle.flat_program.specs.declared.flat_list.FlatList.{FlatList}
use Rattle.flat_program.specs.declared.flat_program.FlatProgram.{FlatProgram}
use Rattle.flat_program.specs.Entries.{HasStart}

-- for how many intermediate numbers a row may have slots
abbrev pub most_numbers : ℕ
most_numbers = 256

-- how many lists have a number, and how many functions are looked at
abbrev pub most_lists : ℕ
most_lists = 2 ^ 32

abbrev pub most_functions : ℕ
most_functions = 4294967295

-- A list can have code in a function with k slots: there is room for its intermediate numbers in some row that may be, and each of its places
-- has a number.
pub record CanHaveCode (t : Table) (k : ℕ) (list : ListOf) : Type 0 where
  pub size : ℕ
  pub near : size < k + most_numbers
  pub below : size < 2 ^ 16
  pub can : CanBeFlat t k size list
  pub short : code_length t k list ≤ most_places

-- one of the lists that were made is its code, from the place 0 on
pub record HasCode (t : Table) (made : List FlatList) (k : ℕ) (list : ListOf) : Type 0 where
  pub number : ℕ
  pub flat : FlatList
  pub there : slice_get made number ≡ Some flat
  pub slots : flat.slots ≡ k
  pub code : IsWholeCode t (flat_shown flat.places.items) k flat.size list 0

-- it has code if it can, and if there are numbers for all lists
abbrev pub HasCodeIfCan : Table → List FlatList → (k : ℕ) → ListOf → Type 0
HasCodeIfCan t made k list = CanHaveCode t k list → length made < most_lists → HasCode t made k list

-- the bodies of so many functions, each of which has so many slots as its function
abbrev pub HasBodies : Table → List FlatList → (many : ℕ) → Type 0
HasBodies t made many =
    (func : ℕ) (f : Function) → func < many → slice_get t.funcs func ≡ Some f → HasCodeIfCan t made f.slots (Body func)

-- lists are made after those that there are
abbrev pub Grows : (before after : List FlatList) → Type 0
Grows before after = (more : List FlatList) × (after ≡ before ++ more)

-- a list is put after the others, if there is a number for it
abbrev pub IsPutAfter : (before : List FlatList) → FlatList → (after : List FlatList) → Type 0
IsPutAfter before flat after = (after ≡ before ++ flat ∷ []) ⊎ ((after ≡ before) × (most_lists ≤ length before))

-- the first statement of a list that can have code has a start, if there are numbers for all lists
abbrev pub HasStartIfCan : Table → FlatProgram → (k : ℕ) → ListOf → Type 0
HasStartIfCan t p k list =
    CanHaveCode t k list → length p.lists.items < most_lists → (n : ℕ) → slice_get (numbers_of t list) 0 ≡ Some n → n * 2 < length p.starts.items
    → HasStart p.starts.items (n * 2)

-- that of the body of each of so many functions has one
abbrev pub HasBodyStarts : Table → FlatProgram → (many : ℕ) → Type 0
HasBodyStarts t p many = (func : ℕ) (f : Function) → func < many → slice_get t.funcs func ≡ Some f → HasStartIfCan t p f.slots (Body func)

-- there are two entries for the starts of each node
abbrev pub IsSized : Table → FlatProgram → Type 0
IsSized t p = length p.starts.items ≡ length t.nodes * 2
