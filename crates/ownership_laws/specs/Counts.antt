-- How many blocks a thread holds under a name, and how many an environment says that it holds.
use Rattle.std.specs.Prelude.{ℕ, ◌+◌, Bool, true, false, ◌&&◌, if◌then◌else◌, List, [], ◌∷◌}
use Rattle.std.specs.Str.{bytes_eq}
use Rattle.depth_first_run.specs.Passed.Tree.{Name}
use Rattle.depth_first_run.specs.Passed.Environment.{Kind, integer, own, lent, is_block, Entry, Environment}
use Rattle.depth_first_run.specs.Stores.{Held}

-- 1 where it holds
abbrev pub one_if : Bool → ℕ
one_if true = 1
one_if false = 0

-- 1 where the names are the same
unfoldable pub hit : Name → Name → ℕ
hit a b = one_if (bytes_eq a b)

-- the held blocks of a name
unfoldable pub count : List Held → Name → ℕ
count [] x = 0
count (h ∷ hs) x = hit h.name x + count hs x

-- what an entry says of a name: of the first entry of the name, or where there is none
unfoldable pub found : {A : Type 0} → (Entry → A) → A → Environment → Name → A
found f none [] x = none
found f none (e ∷ es) x = if bytes_eq e.name x then f e else found f none es x

-- the entry is a block that is held; is a block; is a lent block
abbrev pub held_entry : Entry → ℕ
held_entry e = one_if (is_block e.kind && e.held)

abbrev pub block_entry_of : Entry → ℕ
block_entry_of e = one_if (is_block e.kind)

abbrev pub is_lent : Kind → Bool
is_lent integer = false
is_lent own = false
is_lent lent = true

abbrev pub lent_entry_of : Entry → ℕ
lent_entry_of e = one_if (is_lent e.kind)

abbrev pub seen_entry : Entry → ℕ
seen_entry e = 1

-- 1 where the name is a block that is held; is a block; is a lent block; is visible
abbrev pub held_in : Environment → Name → ℕ
held_in env x = found held_entry 0 env x

abbrev pub block_in : Environment → Name → ℕ
block_in env x = found block_entry_of 0 env x

abbrev pub lent_in : Environment → Name → ℕ
lent_in env x = found lent_entry_of 0 env x

abbrev pub seen_in : Environment → Name → ℕ
seen_in env x = found seen_entry 0 env x
