-- The arguments of items are read in one way.
use Rattle.std.proofs.Common.{◌≡◌, ℕ, Bool, true, false, List, [], ◌∷◌, ◌++◌, length, get_or, drop, append_assoc, ap, sym, ◌∙◌, refl, subst, arith}
use Rattle.std.specs.Prelude.{codes, Option, Some, None, unwrap_or, if◌then◌else◌}
use Rattle.std.specs.List.{flat_map}
use Rattle.std.specs.Str.{bytes_eq}
use Rattle.std.specs.String.{string_bytes}
use Rattle.std.specs.declared.string.String.{String}
use Rattle.std.specs.declared.alloc.Global.{Global}
use Rattle.byte_cuts.specs.Lacks.{Lacks}
use Rattle.byte_cuts.proofs.Cuts.{cut_once, not_cut, lacks_from}
use Rattle.command_line.specs.declared.setting.Setting.{Setting}
use Rattle.command_line.specs.declared.setting.Setting.TheVariants.{Quota, Workers, Arena, Steps, Deques, Seed}
use Rattle.command_line.specs.Arguments.{arguments_of, name_of, Item, option, plain, spelled, plain_of, IsValue}
use Rattle.command_line.specs.Reading.{SeenGroups, MaySetGroups, NoOption}

-- a name has no `=`
name_lacks : (s : Setting) → Lacks 61 (name_of s)
name_lacks Quota = lacks_from 61 (codes "k") refl
name_lacks Workers = lacks_from 61 (codes "p") refl
name_lacks Arena = lacks_from 61 (codes "arena") refl
name_lacks Steps = lacks_from 61 (codes "steps") refl
name_lacks Deques = lacks_from 61 (codes "deques") refl
name_lacks Seed = lacks_from 61 (codes "seed") refl

-- two options have two names
abbrev setting_of : List ℕ → Option Setting
setting_of name =
    if bytes_eq name (codes "k") then Some Quota
    else if bytes_eq name (codes "p") then Some Workers
    else if bytes_eq name (codes "arena") then Some Arena
    else if bytes_eq name (codes "steps") then Some Steps
    else if bytes_eq name (codes "deques") then Some Deques
    else if bytes_eq name (codes "seed") then Some Seed
    else None

named_back : (s : Setting) → setting_of (name_of s) ≡ Some s
named_back Quota = refl
named_back Workers = refl
named_back Arena = refl
named_back Steps = refl
named_back Deques = refl
named_back Seed = refl

pub name_one : (s t : Setting) → name_of s ≡ name_of t → s ≡ t
name_one s t e = ap (λ (o : Option Setting). unwrap_or o s) (sym (named_back s) ∙ ap setting_of e ∙ named_back t)

body_of : (xs ys : List ℕ) → 45 ∷ 45 ∷ xs ≡ 45 ∷ 45 ∷ ys → xs ≡ ys
body_of xs ys e = ap (λ (l : List ℕ). drop 2 l) e

pub first_of_them : (x y : List ℕ) (xs ys : List (List ℕ)) → x ∷ xs ≡ y ∷ ys → x ≡ y
first_of_them x y xs ys e = ap (λ (l : List (List ℕ)). get_or l 0 []) e

pub others_of_them : (x y : List ℕ) (xs ys : List (List ℕ)) → x ∷ xs ≡ y ∷ ys → xs ≡ ys
others_of_them x y xs ys e = ap (λ (l : List (List ℕ)). drop 1 l) e

-- one option is spelled by the front of some arguments
pub one_option :
    (s t : Setting) (v w : List ℕ) (b d : Bool) (ps qs : List (List ℕ)) → spelled (option s v b) ++ ps ≡ spelled (option t w d) ++ qs →
    (option s v b ≡ option t w d) × (ps ≡ qs)
one_option s t v w true true ps qs e =
    let cut = cut_once 61 (name_of s) (name_of t) v w (name_lacks s) (name_lacks t) (body_of _ _ (first_of_them _ _ _ _ e)) in (
      ap (λ (x : Setting). option x v true) (name_one s t cut.0) ∙ ap (λ (x : List ℕ). option t x true) cut.1,
      others_of_them _ _ _ _ e,
    )
one_option s t v w true false ps qs e =
    absurd (not_cut (name_of t) 61 (name_lacks t) (name_of s) v (sym (body_of _ _ (first_of_them _ _ _ _ e))))
one_option s t v w false true ps qs e =
    absurd (not_cut (name_of s) 61 (name_lacks s) (name_of t) w (body_of _ _ (first_of_them _ _ _ _ e)))
one_option s t v w false false ps qs e =
    let more = others_of_them _ _ _ _ e in (
      ap (λ (x : Setting). option x v false) (name_one s t (body_of _ _ (first_of_them _ _ _ _ e)))
          ∙ ap (λ (x : List ℕ). option t x false) (first_of_them _ _ _ _ more),
      others_of_them _ _ _ _ more,
    )

-- an option begins with `--`
pub dashed :
    (s : Setting) (v : List ℕ) (b : Bool) (argument : List ℕ) (rest more : List (List ℕ)) → argument ∷ rest ≡ spelled (option s v b) ++ more →
    (body : List ℕ) × (argument ≡ codes "--" ++ body)
dashed s v true argument rest more e = (name_of s ++ (codes "=" ++ v), first_of_them _ _ _ _ e)
dashed s v false argument rest more e = (name_of s, first_of_them _ _ _ _ e)

-- the argument does not begin so
abbrev pub NotDashed : List ℕ → Type 0
NotDashed argument = (body : List ℕ) → ¬ (argument ≡ codes "--" ++ body)

-- no plain argument among the items does
abbrev pub ArePlain : List Item → Type 0
ArePlain [] = Unit {0}
ArePlain (option s v joined ∷ items) = ArePlain items
ArePlain (plain argument ∷ items) = NotDashed argument × ArePlain items

-- a value does not
pub value_not_dashed : (argument : List ℕ) → IsValue argument → NotDashed argument
value_not_dashed argument is body e =
    let digits : IsValue (45 ∷ 45 ∷ body) = subst (λ (w : List ℕ). IsValue w) e is in
    omega (arith, digits.0.1.0)

abbrev AreValues : List (List ℕ) → Type 0
AreValues [] = Unit {0}
AreValues (argument ∷ arguments) = IsValue argument × AreValues arguments

plain_from : (items : List Item) → AreValues (plain_of items) → ArePlain items
plain_from [] values = tt
plain_from (option s v joined ∷ items) values = plain_from items values
plain_from (plain argument ∷ items) values = (value_not_dashed argument values.0, plain_from items values.1)

pub plain_if_may : (wanted : Bool) (items : List Item) → MaySetGroups wanted (plain_of items) → ArePlain items
plain_if_may wanted items may = plain_from items (values (plain_of items) may)
  where
    values : (arguments : List (List ℕ)) → MaySetGroups wanted arguments → AreValues arguments
    values [] may = tt
    values (w ∷ []) may = (may.1.0, tt)
    values (w ∷ x ∷ arguments) may = absurd may

pub plain_if_seen : (wanted : Bool) (items : List Item) (o : Option ℕ) → SeenGroups wanted (plain_of items) o → ArePlain items
plain_if_seen wanted items o seen = plain_from items (values (plain_of items) o seen)
  where
    values : (arguments : List (List ℕ)) (o : Option ℕ) → SeenGroups wanted arguments o → AreValues arguments
    values [] o seen = tt
    values (w ∷ []) None seen = absurd seen
    values (w ∷ []) (Some n) seen = (seen.1.0, tt)
    values (w ∷ x ∷ arguments) o seen = absurd seen

-- each item has an argument
pub some_word : (item : Item) (more : List (List ℕ)) → ¬ ([] ≡ spelled item ++ more)
some_word (option s v true) more e = omega (arith, ap (λ (l : List (List ℕ)). length l) e)
some_word (option s v false) more e = omega (arith, ap (λ (l : List (List ℕ)). length l) e)
some_word (plain argument) more e = omega (arith, ap (λ (l : List (List ℕ)). length l) e)

-- items that begin as others do go on where those end
pub goes_on :
    (begun items : List Item) (rest : List (List ℕ)) → ArePlain begun → ArePlain items →
    flat_map spelled items ≡ flat_map spelled begun ++ rest →
    (tail : List Item) × ((items ≡ begun ++ tail) × (rest ≡ flat_map spelled tail))
goes_on [] items rest p q e = (items, (refl, sym e))
goes_on (b ∷ begun) [] rest p q e =
    absurd (some_word b (flat_map spelled begun ++ rest) (e ∙ append_assoc (spelled b) (flat_map spelled begun) rest))
goes_on (option t w d ∷ begun) (option s v b ∷ items) rest p q e =
    let one = one_option s t v w b d (flat_map spelled items) (flat_map spelled begun ++ rest)
    (e ∙ append_assoc (spelled (option t w d)) (flat_map spelled begun) rest) in
    let more = goes_on begun items rest p q one.1 in
    (more.0, (ap (λ (x : Item). x ∷ items) one.0 ∙ ap (λ (xs : List Item). option t w d ∷ xs) more.1.0, more.1.1))
goes_on (option t w d ∷ begun) (plain u ∷ items) rest p q e =
    let begins = dashed t w d u (flat_map spelled items) (flat_map spelled begun ++ rest)
    (e ∙ append_assoc (spelled (option t w d)) (flat_map spelled begun) rest) in
    absurd (q.0 begins.0 begins.1)
goes_on (plain u ∷ begun) (option s v b ∷ items) rest p q e =
    let begins = dashed s v b u (flat_map spelled begun ++ rest) (flat_map spelled items) (sym e) in
    absurd (p.0 begins.0 begins.1)
goes_on (plain u ∷ begun) (plain x ∷ items) rest p q e =
    let more = goes_on begun items rest p.1 q.1 (others_of_them _ _ _ _ e) in (
      more.0,
      (ap (λ (w : List ℕ). plain w ∷ items) (first_of_them _ _ _ _ e) ∙ ap (λ (xs : List Item). plain u ∷ xs) more.1.0, more.1.1),
    )

-- an argument with `=` whose name is none of an option's
pub no_named :
    (arguments rest : List (String Global)) (argument : String Global) (bytes body name value : List ℕ) → arguments ≡ argument ∷ rest →
    bytes ≡ string_bytes argument → bytes ≡ codes "--" ++ body → body ≡ name ++ 61 ∷ value → Lacks 61 name →
    ((s : Setting) → ¬ (name ≡ name_of s)) → NoOption (arguments_of arguments)
no_named arguments rest argument bytes body name value are is begins cut lacks none t v joined more e = by_form t v joined (sym whole ∙ e)
  where
    whole : arguments_of arguments ≡ (45 ∷ 45 ∷ (name ++ 61 ∷ value)) ∷ arguments_of rest
    whole = ap arguments_of are ∙ ap (λ (b : List ℕ). b ∷ arguments_of rest) (sym is ∙ begins ∙ ap (λ (b : List ℕ). 45 ∷ 45 ∷ b) cut)

    by_form : (s : Setting) (v : List ℕ) (b : Bool) → (45 ∷ 45 ∷ (name ++ 61 ∷ value)) ∷ arguments_of rest ≡ spelled (option s v b) ++ more → ⊥
    by_form s v true e =
        none s (cut_once 61 name (name_of s) value v lacks (name_lacks s) (body_of _ _ (first_of_them _ _ _ _ e))).0
    by_form s v false e =
        not_cut (name_of s) 61 (name_lacks s) name value (sym (body_of _ _ (first_of_them _ _ _ _ e)))
