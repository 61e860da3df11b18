-- The slots whose names pass a test.
use Rattle.std.proofs.Common.{◌≡◌, ℕ, ◌+◌, ◌<◌, ◌≤◌, Bool, true, false, cond, List, [], ◌∷◌, ◌++◌, drop, length, get_or, refl, sym, ap, ◌∙◌, subst}
use Rattle.std.proofs.lemmas.List.{length-map}
use Rattle.std.specs.List.{filter}
use Rattle.par_tree.specs.Tree
use Rattle.par_tree.specs.View.{name_tree}
use Rattle.par_tree.specs.declared.name.Name.{Name}
use Rattle.node_table.specs.Names.{name_at}
use Rattle.node_table.specs.Reading.{AreSlots}
use Rattle.node_table.proofs.Lists.{Continues, continues_next, continues_past, continues_end}
use Rattle.frame_code.specs.Scopes.{names_tree}
use Rattle.frame_code.proofs.Places.{name_at-item}

slot_with : (all : List Tree.Name) (test : Tree.Name → Bool) (n : ℕ) (x : Tree.Name) (rest : List Tree.Name) (more : List ℕ) → test x ≡ true → name_at all n ≡ x → n < length all → AreSlots all more (filter test rest) → AreSlots all (n ∷ more) (filter test (x ∷ rest))
slot_with all test n x rest more e same lt h =
    subst (λ b. AreSlots all (n ∷ more) (cond b (x ∷ filter test rest) (filter test rest))) (sym e) (λ i. same i ∷ h.0 i, (lt, h.1))

slot_without : (all : List Tree.Name) (test : Tree.Name → Bool) (x : Tree.Name) (rest : List Tree.Name) (more : List ℕ) → test x ≡ false → AreSlots all more (filter test rest) → AreSlots all more (filter test (x ∷ rest))
slot_without all test x rest more e h = subst (λ b. AreSlots all more (cond b (x ∷ filter test rest) (filter test rest))) (sym e) h

-- the slots are those of the names that pass the test
abbrev pub Picked : List Name → (Tree.Name → Bool) → List ℕ → List Name → Type 0
Picked all test found ns = AreSlots (names_tree all) found (filter test (names_tree ns))

-- the slots so far, with those of the names that are left, are the slots of all
abbrev pub Picks : List Name → (Tree.Name → Bool) → List ℕ → ℕ → Type 0
Picks all test found i = Continues (Picked all test) all found i

pub picks_one : (all : List Name) (test : Tree.Name → Bool) (found new : List ℕ) (i : ℕ) (x : Name) → i < length all → x ≡ get_or all i x → test (name_tree x) ≡ true → new ≡ found ++ i ∷ [] → Picks all test found i → Picks all test new (i + 1)
picks_one all test found new i x lt is e n h =
    let below : i < length (names_tree all) = subst (λ m. i < m) (sym (length-map all name_tree)) lt in
    let named : name_at (names_tree all) i ≡ name_tree x = name_at-item all i x lt ∙ ap name_tree (sym is) in
    continues_next (Picked all test) all found new i i x lt is n h (λ more p. slot_with (names_tree all) test i (name_tree x) (names_tree (drop (i + 1) all)) more e named below p)

pub picks_none : (all : List Name) (test : Tree.Name → Bool) (found : List ℕ) (i : ℕ) (x : Name) → i < length all → x ≡ get_or all i x → test (name_tree x) ≡ false → Picks all test found i → Picks all test found (i + 1)
picks_none all test found i x lt is e h =
    continues_past (Picked all test) all found i x lt is h (λ more p. slot_without (names_tree all) test (name_tree x) (names_tree (drop (i + 1) all)) more e p)

pub picks_end : (all : List Name) (test : Tree.Name → Bool) (found : List ℕ) (i : ℕ) → length all ≤ i → Picks all test found i → Picked all test found all
picks_end all test found i ge h = continues_end (Picked all test) all found i ge h (refl, tt)
