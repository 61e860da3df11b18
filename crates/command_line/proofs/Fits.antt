-- One item more, and the numbers that the items give.
use Rattle.std.proofs.Common.{◌≡◌, ℕ, Bool, true, false, List, [], ◌∷◌, ◌++◌, append-nil, ap, sym, ◌∙◌, refl, subst, arith}
use Rattle.std.specs.Prelude.{Option, Some, None, if◌then◌else◌, is_some}
use Rattle.std.specs.Str.Parse.{digits_value}
use Rattle.std.proofs.lemmas.Slice.Eq.{bytes_eq-Decides}
use Rattle.std.proofs.lemmas.Bool.Decides.{nat_tests}
use Rattle.command_line.specs.declared.command_kind.CommandKind.{CommandKind}
use Rattle.command_line.specs.declared.numbers.Numbers.{Numbers}
use Rattle.command_line.specs.declared.setting.Setting.{Setting}
use Rattle.command_line.specs.declared.setting.Setting.TheVariants.{Quota, Workers, Arena, Steps, Deques, Seed}
use Rattle.command_line.specs.Arguments.{Item, option, plain, name_of, has, wants_groups, is_same, values_of, plain_of, Gives, TellsGroups, AllHad}
use Rattle.command_line.specs.Reading.{slot, IsWith, Seen, SeenGroups, MaySet, MaySetGroups, MayFit, MoreFit, NoneFit, MoreTell, NoneTell}
use Rattle.command_line.proofs.Items.{name_one}

pub values_of-append : (s : Setting) (xs ys : List Item) → values_of s (xs ++ ys) ≡ values_of s xs ++ values_of s ys
values_of-append s [] ys = refl
values_of-append s (plain w ∷ xs) ys = values_of-append s xs ys
values_of-append s (option t v b ∷ xs) ys = step (is_same t s) (values_of-append s xs ys)
  where
    step : (same : Bool) → values_of s (xs ++ ys) ≡ values_of s xs ++ values_of s ys →
        (if same then v ∷ values_of s (xs ++ ys) else values_of s (xs ++ ys)) ≡
        (if same then v ∷ values_of s xs else values_of s xs) ++ values_of s ys
    step true more = ap (λ (l : List (List ℕ)). v ∷ l) more
    step false more = more

plain_of-append : (xs ys : List Item) → plain_of (xs ++ ys) ≡ plain_of xs ++ plain_of ys
plain_of-append [] ys = refl
plain_of-append (option s v b ∷ xs) ys = plain_of-append xs ys
plain_of-append (plain w ∷ xs) ys = ap (λ (l : List (List ℕ)). w ∷ l) (plain_of-append xs ys)

same_self : (s : Setting) → is_same s s ≡ true
same_self Quota = refl
same_self Workers = refl
same_self Arena = refl
same_self Steps = refl
same_self Deques = refl
same_self Seed = refl

same_is : (s t : Setting) → is_same s t ≡ true → s ≡ t
same_is s t same =
    let names : name_of s ≡ name_of t = grind (arith, nat_tests, bytes_eq-Decides (name_of s) (name_of t), same) in
    name_one s t names

-- the values where an item stands among others
values_at :
    (s : Setting) (items more : List Item) (v : List ℕ) (b : Bool) →
    values_of s (items ++ option s v b ∷ more) ≡ values_of s items ++ v ∷ values_of s more
values_at s items more v b =
    values_of-append s items (option s v b ∷ more)
    ∙ ap (λ (same : Bool). values_of s items ++ (if same then v ∷ values_of s more else values_of s more)) (same_self s)

-- which options a command has
had_at :
    (kind : CommandKind) (items more : List Item) (s : Setting) (v : List ℕ) (b : Bool) → AllHad kind (items ++ option s v b ∷ more) →
    has kind s ≡ true
had_at kind [] more s v b had = had.0
had_at kind (option t w d ∷ items) more s v b had = had_at kind items more s v b had.1
had_at kind (plain w ∷ items) more s v b had = had_at kind items more s v b had

had_both : (kind : CommandKind) (xs ys : List Item) → AllHad kind xs → AllHad kind ys → AllHad kind (xs ++ ys)
had_both kind [] ys had this = this
had_both kind (option t w d ∷ xs) ys had this = (had.0, had_both kind xs ys had.1 this)
had_both kind (plain w ∷ xs) ys had this = had_both kind xs ys had this

-- the command has no such option
pub not_had : (kind : CommandKind) (numbers : Numbers) (s : Setting) (v : List ℕ) → has kind s ≡ false → NoneFit kind numbers s v
not_had kind numbers s v none items more joined fit may =
    no (sym none ∙ had_at kind items more s v joined may.had)
  where
    no : false ≡ true → ⊥
    no e = cc

-- the option was given before
given_twice : (kind : CommandKind) (s : Setting) (vs more : List (List ℕ)) (v : List ℕ) (n : ℕ) → Seen kind s vs (Some n) → MaySet kind s (vs ++ v ∷ more) → ⊥
given_twice kind s [] more v n seen may = seen
given_twice kind s (w ∷ []) more v n seen may = may
given_twice kind s (w ∷ x ∷ vs) more v n seen may = seen

pub twice : (kind : CommandKind) (numbers : Numbers) (s : Setting) (v : List ℕ) → is_some (slot numbers s) ≡ true → NoneFit kind numbers s v
twice kind numbers s v given items more joined fit may =
    by_slot (slot numbers s) given (fit.seen s)
  where
    by_slot : (o : Option ℕ) → is_some o ≡ true → Seen kind s (values_of s items) o → ⊥
    by_slot None given seen = cc
    by_slot (Some n) given seen = given_twice kind s (values_of s items) (values_of s more) v n seen
        (subst (λ (l : List (List ℕ)). MaySet kind s l) (values_at s items more v joined) (may.may s))

-- the option may not have the value
one_value : (kind : CommandKind) (s : Setting) (vs more : List (List ℕ)) (v : List ℕ) → MaySet kind s (vs ++ v ∷ more) → Gives kind s v (digits_value 10 v)
one_value kind s [] [] v may = may
one_value kind s [] (x ∷ more) v may = absurd may
one_value kind s (w ∷ []) more v may = absurd may
one_value kind s (w ∷ x ∷ vs) more v may = absurd may

pub not_given :
    (kind : CommandKind) (numbers : Numbers) (s : Setting) (v : List ℕ) → ((n : ℕ) → ¬ Gives kind s v n) → NoneFit kind numbers s v
not_given kind numbers s v none items more joined fit may =
    none (digits_value 10 v)
    (one_value kind s (values_of s items) (values_of s more) v
    (subst (λ (l : List (List ℕ)). MaySet kind s l) (values_at s items more v joined) (may.may s)))

not_some : (o : Option ℕ) → is_some o ≡ false → o ≡ None
not_some None e = refl
not_some (Some n) e = cc

-- the option was not given, and has the value now
seen_more :
    (kind : CommandKind) (t : Setting) (same : Bool) (vs : List (List ℕ)) (v : List ℕ) (n : ℕ) (o : Option ℕ) → Seen kind t vs o → (same ≡ true → o ≡ None) →
    (same ≡ true → Gives kind t v n) → Seen kind t (vs ++ (if same then v ∷ [] else [])) (if same then Some n else o)
seen_more kind t false vs v n o seen fresh gives = subst (λ (l : List (List ℕ)). Seen kind t l o) (sym (append-nil vs)) seen
seen_more kind t true vs v n o seen fresh gives =
    fill vs (subst (λ (p : Option ℕ). Seen kind t vs p) (fresh refl) seen)
  where
    fill : (vs : List (List ℕ)) → Seen kind t vs None → Seen kind t (vs ++ v ∷ []) (Some n)
    fill [] seen = gives refl
    fill (w ∷ []) seen = absurd seen
    fill (w ∷ x ∷ vs) seen = absurd seen

pub one_more :
    (kind : CommandKind) (numbers after : Numbers) (s : Setting) (v : List ℕ) (n : ℕ) → has kind s ≡ true →
    is_some (slot numbers s) ≡ false → Gives kind s v n → IsWith numbers s n after → after.groups ≡ numbers.groups →
    MoreFit kind numbers s v after
one_more kind numbers after s v n had fresh gives is kept items joined fit = record {
  had = had_both kind items (option s v joined ∷ []) fit.had (had, tt);
  seen = λ t. subst (λ (o : Option ℕ). Seen kind t (values_of t (items ++ option s v joined ∷ [])) o) (sym (is t))
      (subst (λ (l : List (List ℕ)). Seen kind t l (if is_same s t then Some n else slot numbers t))
      (sym (values_of-append t items (option s v joined ∷ [])))
      (seen_more kind t (is_same s t) (values_of t items) v n (slot numbers t) (fit.seen t)
      (λ same. subst (λ (u : Setting). slot numbers u ≡ None) (same_is s t same) (not_some (slot numbers s) fresh))
      (λ same. subst (λ (u : Setting). Gives kind u v n) (same_is s t same) gives)));
  groups = subst (λ (o : Option ℕ). SeenGroups (wants_groups kind) (plain_of (items ++ option s v joined ∷ [])) o) (sym kept)
      (subst (λ (l : List (List ℕ)). SeenGroups (wants_groups kind) l numbers.groups) (sym same_words) fit.groups);
}
  where
    same_words : plain_of (items ++ option s v joined ∷ []) ≡ plain_of items
    same_words = plain_of-append items (option s v joined ∷ []) ∙ append-nil (plain_of items)

-- a plain argument among others is the only one
only_argument :
    (wanted : Bool) (arguments more : List (List ℕ)) (argument : List ℕ) → MaySetGroups wanted (arguments ++ argument ∷ more) →
    (arguments ≡ []) × (wanted ≡ true) × TellsGroups argument (digits_value 10 argument)
only_argument wanted [] [] argument may = (refl, may.0, may.1)
only_argument wanted [] (x ∷ more) argument may = absurd may
only_argument wanted (w ∷ []) more argument may = absurd may
only_argument wanted (w ∷ x ∷ arguments) more argument may = absurd may

pub only_plain :
    (kind : CommandKind) (items more : List Item) (argument : List ℕ) → MayFit kind (items ++ plain argument ∷ more) →
    (plain_of items ≡ []) × (wants_groups kind ≡ true) × TellsGroups argument (digits_value 10 argument)
only_plain kind items more argument may =
    only_argument (wants_groups kind) (plain_of items) (plain_of more) argument
    (subst (λ (l : List (List ℕ)). MaySetGroups (wants_groups kind) l) (plain_of-append items (plain argument ∷ more)) may.groups)

-- the command wants no groups
pub not_wanted : (kind : CommandKind) (numbers : Numbers) (argument : List ℕ) → wants_groups kind ≡ false → NoneTell kind numbers argument
not_wanted kind numbers argument none items more fit may = no (sym none ∙ (only_plain kind items more argument may).1)
  where
    no : false ≡ true → ⊥
    no e = cc

-- the groups were told before
pub told_twice : (kind : CommandKind) (numbers : Numbers) (argument : List ℕ) → is_some numbers.groups ≡ true → NoneTell kind numbers argument
told_twice kind numbers argument told items more fit may =
    by_groups numbers.groups told
    (subst (λ (l : List (List ℕ)). SeenGroups (wants_groups kind) l numbers.groups) (only_plain kind items more argument may).0 fit.groups)
  where
    by_groups : (o : Option ℕ) → is_some o ≡ true → SeenGroups (wants_groups kind) [] o → ⊥
    by_groups None told seen = cc
    by_groups (Some n) told seen = seen

-- the argument tells none
pub not_told : (kind : CommandKind) (numbers : Numbers) (argument : List ℕ) → ((n : ℕ) → ¬ TellsGroups argument n) → NoneTell kind numbers argument
not_told kind numbers argument none items more fit may = none (digits_value 10 argument) (only_plain kind items more argument may).2

-- the groups were not told, and are told now
pub groups_told :
    (kind : CommandKind) (numbers : Numbers) (argument : List ℕ) (n : ℕ) → wants_groups kind ≡ true → is_some numbers.groups ≡ false →
    TellsGroups argument n → MoreTell kind numbers argument (record numbers { groups = Some n })
groups_told kind numbers argument n wanted fresh tells items fit = record {
  had = had_both kind items (plain argument ∷ []) fit.had tt;
  seen = λ t. subst (λ (o : Option ℕ). Seen kind t (values_of t (items ++ plain argument ∷ [])) o) (sym (same_slot t))
      (subst (λ (l : List (List ℕ)). Seen kind t l (slot numbers t)) (sym (same_values t)) (fit.seen t));
  groups = subst (λ (l : List (List ℕ)). SeenGroups (wants_groups kind) l (Some n)) (sym (plain_of-append items (plain argument ∷ [])))
      (fill (plain_of items)
      (subst (λ (o : Option ℕ). SeenGroups (wants_groups kind) (plain_of items) o) (not_some numbers.groups fresh) fit.groups));
}
  where
    same_slot : (t : Setting) → slot (record numbers { groups = Some n }) t ≡ slot numbers t
    same_slot Quota = refl
    same_slot Workers = refl
    same_slot Arena = refl
    same_slot Steps = refl
    same_slot Deques = refl
    same_slot Seed = refl

    same_values : (t : Setting) → values_of t (items ++ plain argument ∷ []) ≡ values_of t items
    same_values t = values_of-append t items (plain argument ∷ []) ∙ append-nil (values_of t items)

    fill : (arguments : List (List ℕ)) → SeenGroups (wants_groups kind) arguments None →
        SeenGroups (wants_groups kind) (arguments ++ argument ∷ []) (Some n)
    fill [] seen = (wanted, tells)
    fill (w ∷ []) seen = absurd seen
    fill (w ∷ x ∷ arguments) seen = absurd seen
