-- What a set has behind an insertion, and behind the insertion of a list.
use Rattle.std.proofs.Common.{◌≡◌, ℕ, Bool, true, false, ◌||◌, List, [], ◌∷◌, ◌++◌, Bor, ◌+◌, ◌<◌, length, get_or, take, cond, Option, ⊎_elim, sym, ap, ◌∙◌}
use Rattle.std.specs.Str.{bytes_eq}
use Rattle.std.specs.Ordering.{nat_cmp, is_eq}
use Rattle.std.specs.Cmp.Lexicographic.{slice_cmp, bytes_decides}
use Rattle.std.specs.BTreeSet.{BTreeSet, Updates}
use Rattle.std.proofs.Math.Bool.{or_comm}
use Rattle.std.proofs.lemmas.Bool.{cases_Bool}
use Rattle.std.proofs.lemmas.List.{take_more, map-append}
use Rattle.std.proofs.lemmas.Map.Text.{is_eq-slice_cmp}
use Rattle.par_tree.specs.Tree.{Name}
use Rattle.par_tree.specs.Names.{is_among}
use Rattle.par_names.specs.Sets.{names_behind, has, is_asked}
use Rattle.par_names.specs.declared.name_set.NameSet.{NameSet}
use Rattle.par_names.proofs.Found.{or-false, among-append, among-one}

-- a reference to a name
referred : Name → Bor (List ℕ)
referred x = record { ref_ptr = (0, 0); now = x }

chosen : (a b c : Bool) → a ≡ b → cond a true c ≡ (b || c)
chosen true b c e = ap (λ d. d || c) e
chosen false b c e = ap (λ d. d || c) e

-- an inserted name is in the set, and the others stay as they were
inserted : (s n : BTreeSet (Bor (List ℕ))) (w : Bor (List ℕ)) → Updates (λ (x y : Bor (List ℕ)). slice_cmp nat_cmp x.now y.now) s n w true → (x : Name) → has (record { names = n }) x ≡ (bytes_eq w.now x || has (record { names = s }) x)
unfolding referred
inserted s n w h x = h.0 (referred x) ∙ chosen (is_eq (slice_cmp nat_cmp w.now x)) (bytes_eq w.now x) (has (record { names = s }) x) (is_eq-slice_cmp w.now x)

-- a name is among one element more of a list
among-more : (x : Name) (list : List (Bor (List ℕ))) (i : ℕ) (d : Bor (List ℕ)) → i < length list → is_among x (names_behind (take (i + 1) list)) ≡ (is_among x (names_behind (take i list)) || bytes_eq (get_or list i d).now x)
among-more x list i d inside =
    let w = (get_or list i d).now in
    let front = names_behind (take i list) in
    ap (λ (l : List (Bor (List ℕ))). is_among x (names_behind l)) (take_more list i d inside)
    ∙ ap (is_among x) (map-append (λ (r : Bor (List ℕ)). r.now) (take i list) (get_or list i d ∷ []))
    ∙ among-append x front (w ∷ [])
    ∙ ap (λ c. is_among x front || c) (among-one x w)

-- the set has the names of a list that are asked for
abbrev pub HasAsked : Option NameSet → BTreeSet (Bor (List ℕ)) → List (Bor (List ℕ)) → Type 0
HasAsked asked s list = (x : Name) → is_asked asked x ≡ true → has (record { names = s }) x ≡ is_among x (names_behind list)

-- one name more of a list is inserted
pub one_more : (asked : Option NameSet) (list : List (Bor (List ℕ))) (i : ℕ) (d : Bor (List ℕ)) (s n : BTreeSet (Bor (List ℕ))) → i < length list → Updates (λ (x y : Bor (List ℕ)). slice_cmp nat_cmp x.now y.now) s n (get_or list i d) true
    → HasAsked asked s (take i list) → HasAsked asked n (take (i + 1) list)
one_more asked list i d s n inside h before x a =
    let w = (get_or list i d).now in
    inserted s n (get_or list i d) h x
    ∙ ap (λ c. bytes_eq w x || c) (before x a)
    ∙ or_comm (bytes_eq w x) (is_among x (names_behind (take i list)))
    ∙ sym (among-more x list i d inside)

different : (asked : Option NameSet) (w x : Name) → is_asked asked w ≡ false → is_asked asked x ≡ true → bytes_eq w x ≡ false
different asked w x f a =
    ⊎_elim
    (λ t. let e = ap (is_asked asked) ((bytes_decides w x).0 t) in let never : ⊥ = cc in absurd never)
    (λ g. g)
    (cases_Bool (bytes_eq w x))

-- a name that is not asked for is left out
pub left_out : (asked : Option NameSet) (list : List (Bor (List ℕ))) (i : ℕ) (d : Bor (List ℕ)) (s : BTreeSet (Bor (List ℕ))) → i < length list → is_asked asked (get_or list i d).now ≡ false
    → HasAsked asked s (take i list) → HasAsked asked s (take (i + 1) list)
left_out asked list i d s inside f before x a =
    let w = (get_or list i d).now in
    let front = names_behind (take i list) in
    before x a
    ∙ sym (or-false (is_among x front))
    ∙ ap (λ c. is_among x front || c) (sym (different asked w x f a))
    ∙ sym (among-more x list i d inside)
