-- What callers may use of names.
use Rattle.std.specs.Prelude.{◌≡◌}
use Rattle.par_tree.specs.Tree.{Name, Body}
use Rattle.par_tree.specs.Names.{is_among, names_in_body, assigns_in_body, body_names, body_assigned}

-- a test holds of just the names that are listed
abbrev pub TestsFindTheListed : Type 0
TestsFindTheListed =
    (x : Name) (b : Body) → (is_among x (body_names b) ≡ names_in_body x b) × (is_among x (body_assigned b) ≡ assigns_in_body x b)
