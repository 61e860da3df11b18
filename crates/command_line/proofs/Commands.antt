-- From the items to the command, and back.
use Rattle.std.proofs.Common.{◌≡◌, ◌≢◌, ◌≤◌, ℕ, Bool, true, false, List, [], ◌∷◌, ◌++◌, length, get_or, drop, append_assoc, append-nil, ap, sym, ◌∙◌, refl, subst, arith}
use Rattle.std.specs.Prelude.{nat_eq, codes, Option, Some, None, unwrap_or, if◌then◌else◌}
use Rattle.std.specs.List.{flat_map}
use Rattle.std.proofs.lemmas.Grind.{flat_map-append}
use Rattle.std.specs.Str.{bytes_eq}
use Rattle.std.specs.declared.string.String.{String}
use Rattle.std.specs.declared.alloc.Global.{Global}
use Rattle.command_line.specs.declared.command.Command.{Command}
use Rattle.command_line.specs.declared.command_kind.CommandKind.{CommandKind}
use Rattle.command_line.specs.declared.command_kind.CommandKind.TheVariants.{Play, Async, Run, Peak, Check, Make, Loops, Expand, Trail, Verify}
use Rattle.command_line.specs.declared.numbers.Numbers.{Numbers}
use Rattle.command_line.specs.declared.setting.Setting.{Setting}
use Rattle.command_line.specs.declared.setting.Setting.TheVariants.{Quota, Workers, Arena, Steps, Deques, Seed}
use Rattle.language_limits.specs.declared.TheConstants.{MOST_ACTIONS, MOST_GROUPS}
use Rattle.command_line.specs.Arguments.{arguments_of, kind_name, Item, spelled, values_of, plain_of, wants_groups, most_steps, rule_of, InRange, TellsGroups, Sets, SetsGroups, AllHad, number_of, IsCommand}
use Rattle.command_line.specs.Reading.{slot, or_default, no_numbers, Seen, SeenGroups, MaySet, MaySetGroups, MayFit, GoesOn, NoneGoesOn, AreItems, NoItems, AreRead}
use Rattle.command_line.proofs.Items.{some_word, goes_on, ArePlain, plain_if_may, plain_if_seen}

-- a test of arguments has told that there are some
pub some_words : (arguments : List (String Global)) → false ≡ nat_eq (length arguments) 0 → arguments_of arguments ≢ []
some_words [] e none = no e
  where
    no : false ≡ true → ⊥
    no e = cc
some_words (w ∷ arguments) e none = omega (arith, ap (λ (l : List (List ℕ)). length l) none)

-- nothing was read
pub none_read : (kind : CommandKind) (arguments : List (List ℕ)) → AreRead kind arguments arguments no_numbers
none_read kind arguments = record { items = []; written = refl; fit = record { had = tt; seen = none; groups = tt } }
  where
    none : (s : Setting) → Seen kind s [] (slot no_numbers s)
    none Quota = tt
    none Workers = tt
    none Arena = tt
    none Steps = tt
    none Deques = tt
    none Seed = tt

-- an item more was read
pub one_read :
    (kind : CommandKind) (arguments rest after : List (List ℕ)) (numbers more : Numbers) → AreRead kind arguments rest numbers →
    GoesOn kind numbers rest more after → AreRead kind arguments after more
one_read kind arguments rest after numbers more read next = record {
  items = read.items ++ next.item ∷ [];
  written =
      read.written
      ∙ ap (λ (l : List (List ℕ)). flat_map spelled read.items ++ l) next.written
      ∙ sym (append_assoc (flat_map spelled read.items) (spelled next.item) after)
      ∙ ap (λ (l : List (List ℕ)). l ++ after)
      (ap (λ (l : List (List ℕ)). flat_map spelled read.items ++ l) (sym (append-nil (spelled next.item)))
      ∙ sym (flat_map-append spelled read.items (next.item ∷ [])));
  fit = next.fit read.items read.fit;
}

-- what was read to the end
pub all_read : (kind : CommandKind) (arguments rest : List (List ℕ)) (numbers : Numbers) → AreRead kind arguments rest numbers → rest ≡ [] →
    AreItems kind arguments numbers
all_read kind arguments rest numbers read none = record {
  items = read.items;
  written = read.written ∙ ap (λ (l : List (List ℕ)). flat_map spelled read.items ++ l) none ∙ append-nil (flat_map spelled read.items);
  fit = read.fit;
}

-- arguments with which no command goes on
pub no_items :
    (kind : CommandKind) (arguments rest : List (List ℕ)) (numbers : Numbers) → AreRead kind arguments rest numbers → rest ≢ [] →
    NoneGoesOn kind numbers rest → NoItems kind arguments
no_items kind arguments rest numbers read some none items e may =
    let wanted = wants_groups kind in
    let more = goes_on read.items items rest (plain_if_seen wanted read.items numbers.groups read.fit.groups)
    (plain_if_may wanted items may.groups) (sym e ∙ read.written) in
    by_tail more.0 more.1.0 more.1.1
  where
    by_tail : (tail : List Item) → items ≡ read.items ++ tail → rest ≡ flat_map spelled tail → ⊥
    by_tail [] are e = some e
    by_tail (t ∷ tail) are e = none read.items tail t read.fit e (subst (λ (l : List Item). MayFit kind l) are may)

-- the kinds have different arguments
abbrev kind_of : List ℕ → Option CommandKind
kind_of argument =
    if bytes_eq argument (codes "play") then Some Play
    else if bytes_eq argument (codes "async") then Some Async
    else if bytes_eq argument (codes "run") then Some Run
    else if bytes_eq argument (codes "peak") then Some Peak
    else if bytes_eq argument (codes "check") then Some Check
    else if bytes_eq argument (codes "make") then Some Make
    else if bytes_eq argument (codes "loops") then Some Loops
    else if bytes_eq argument (codes "expand") then Some Expand
    else if bytes_eq argument (codes "trail") then Some Trail
    else if bytes_eq argument (codes "verify") then Some Verify
    else None

kind_back : (kind : CommandKind) → kind_of (kind_name kind) ≡ Some kind
kind_back Play = refl
kind_back Async = refl
kind_back Run = refl
kind_back Peak = refl
kind_back Check = refl
kind_back Make = refl
kind_back Loops = refl
kind_back Expand = refl
kind_back Trail = refl
kind_back Verify = refl

kind_one : (a b : CommandKind) → kind_name a ≡ kind_name b → a ≡ b
kind_one a b e = ap (λ (o : Option CommandKind). unwrap_or o a) (sym (kind_back a) ∙ ap kind_of e ∙ kind_back b)

first_word : (x y : List ℕ) (xs ys : List (List ℕ)) → x ∷ xs ≡ y ∷ ys → x ≡ y
first_word x y xs ys e = ap (λ (l : List (List ℕ)). get_or l 0 []) e

other_words : (x y : List ℕ) (xs ys : List (List ℕ)) → x ∷ xs ≡ y ∷ ys → xs ≡ ys
other_words x y xs ys e = ap (λ (l : List (List ℕ)). drop 1 l) e

-- what sets an option may set it
may_set : (kind : CommandKind) (s : Setting) (vs : List (List ℕ)) (n : ℕ) → Sets kind s vs n → MaySet kind s vs
may_set kind s [] n sets = tt
may_set kind s (v ∷ []) n sets = (sets.0, subst (λ (m : ℕ). InRange kind s m) sets.2 sets.1, refl)
may_set kind s (v ∷ w ∷ vs) n sets = absurd sets

seen_sets : (kind : CommandKind) (s : Setting) (vs : List (List ℕ)) (o : Option ℕ) → Seen kind s vs o → Sets kind s vs (or_default kind s o)
seen_sets kind s [] None seen = refl
seen_sets kind s [] (Some n) seen = absurd seen
seen_sets kind s (v ∷ []) None seen = absurd seen
seen_sets kind s (v ∷ []) (Some n) seen = seen
seen_sets kind s (v ∷ w ∷ vs) None seen = absurd seen
seen_sets kind s (v ∷ w ∷ vs) (Some n) seen = absurd seen

sets_one : (kind : CommandKind) (s : Setting) (vs : List (List ℕ)) (m n : ℕ) → Sets kind s vs m → Sets kind s vs n → m ≡ n
sets_one kind s [] m n a b = a ∙ sym b
sets_one kind s (v ∷ []) m n a b = a.2 ∙ sym b.2
sets_one kind s (v ∷ w ∷ vs) m n a b = absurd a

-- what sets the groups may set them
may_set_groups : (wanted : Bool) (arguments : List (List ℕ)) (n : ℕ) → SetsGroups wanted arguments n → MaySetGroups wanted arguments
may_set_groups true [] n sets = absurd sets
may_set_groups true (w ∷ []) n sets =
    (refl, (sets.0, subst (λ (m : ℕ). 1 ≤ m) sets.3 sets.1, subst (λ (m : ℕ). m ≤ MOST_GROUPS) sets.3 sets.2, refl))
may_set_groups true (w ∷ x ∷ arguments) n sets = absurd sets
may_set_groups false [] n sets = tt
may_set_groups false (w ∷ arguments) n sets = absurd sets

none_some : (n : ℕ) → let nothing : Option ℕ = None in nothing ≡ Some n → ⊥
none_some n e = cc

none_wanted : false ≡ true → ⊥
none_wanted e = cc

seen_sets_groups :
    (wanted : Bool) (arguments : List (List ℕ)) (o : Option ℕ) (n : ℕ) → SeenGroups wanted arguments o → (if wanted then o else Some 0) ≡ Some n →
    SetsGroups wanted arguments n
seen_sets_groups true [] None n seen e = absurd (none_some n e)
seen_sets_groups true [] (Some m) n seen e = absurd seen
seen_sets_groups true (w ∷ []) None n seen e = absurd seen
seen_sets_groups true (w ∷ []) (Some m) n seen e = subst (λ (k : ℕ). TellsGroups w k) (ap (λ (o : Option ℕ). unwrap_or o 0) e) seen.1
seen_sets_groups true (w ∷ x ∷ arguments) o n seen e = absurd seen
seen_sets_groups false [] o n seen e = sym (ap (λ (o : Option ℕ). unwrap_or o 0) e)
seen_sets_groups false (w ∷ []) None n seen e = absurd seen
seen_sets_groups false (w ∷ []) (Some m) n seen e = absurd (none_wanted seen.0)
seen_sets_groups false (w ∷ x ∷ arguments) o n seen e = absurd seen

sets_groups_one : (wanted : Bool) (arguments : List (List ℕ)) (m n : ℕ) → SetsGroups wanted arguments m → SetsGroups wanted arguments n → m ≡ n
sets_groups_one true [] m n a b = absurd a
sets_groups_one true (w ∷ []) m n a b = a.3 ∙ sym b.3
sets_groups_one true (w ∷ x ∷ arguments) m n a b = absurd a
sets_groups_one false [] m n a b = a ∙ sym b
sets_groups_one false (w ∷ arguments) m n a b = absurd a

-- the arguments of a command begin with its argument, and the others are its items
pub no_command :
    (arguments rest : List (List ℕ)) (argument : List ℕ) (kind : CommandKind) → arguments ≡ argument ∷ rest → argument ≡ kind_name kind → NoItems kind rest →
    (command : Command) → ¬ IsCommand arguments command
no_command arguments rest argument kind are is none command c =
    let e = sym are ∙ c.written in
    let same : kind ≡ command.kind = kind_one kind command.kind (sym is ∙ first_word _ _ _ _ e) in
    none c.items (other_words _ _ _ _ e)
    (record {
      had = subst (λ (k : CommandKind). AllHad k c.items) (sym same) c.had;
      may = λ s. subst (λ (k : CommandKind). MaySet k s (values_of s c.items)) (sym same)
          (may_set command.kind s (values_of s c.items) (number_of command s) (c.sets s));
      groups = subst (λ (k : CommandKind). MaySetGroups (wants_groups k) (plain_of c.items)) (sym same)
          (may_set_groups (wants_groups command.kind) (plain_of c.items) command.groups c.groups);
    })

pub no_kind :
    (arguments rest : List (List ℕ)) (argument : List ℕ) → arguments ≡ argument ∷ rest → ((kind : CommandKind) → ¬ (argument ≡ kind_name kind)) →
    (command : Command) → ¬ IsCommand arguments command
no_kind arguments rest argument are none command c = none command.kind (first_word _ _ _ _ (sym are ∙ c.written))

pub no_word : (arguments : List (List ℕ)) → arguments ≡ [] → (command : Command) → ¬ IsCommand arguments command
no_word arguments none command c = omega (arith, ap (λ (l : List (List ℕ)). length l) (sym none ∙ c.written))

pub a_command :
    (arguments rest : List (List ℕ)) (argument : List ℕ) (command : Command) (numbers : Numbers) → arguments ≡ argument ∷ rest →
    argument ≡ kind_name command.kind → AreItems command.kind rest numbers → command.k ≡ or_default command.kind Quota numbers.quota →
    command.p ≡ or_default command.kind Workers numbers.workers → command.arena ≡ or_default command.kind Arena numbers.arena →
    command.steps ≡ or_default command.kind Steps numbers.steps → command.deques ≡ or_default command.kind Deques numbers.deques →
    command.seed ≡ or_default command.kind Seed numbers.seed →
    (if wants_groups command.kind then numbers.groups else Some 0) ≡ Some command.groups → IsCommand arguments command
a_command arguments rest argument command numbers are is read k p arena steps deques seed groups = record {
  items = read.items;
  written =
      are
      ∙ ap (λ (w : List ℕ). w ∷ rest) is
      ∙ ap (λ (l : List (List ℕ)). kind_name command.kind ∷ l) read.written;
  had = read.fit.had;
  sets = λ s. subst (λ (n : ℕ). Sets command.kind s (values_of s read.items) n) (sym (number s))
      (seen_sets command.kind s (values_of s read.items) (slot numbers s) (read.fit.seen s));
  groups = seen_sets_groups (wants_groups command.kind) (plain_of read.items) numbers.groups command.groups read.fit.groups groups;
}
  where
    number : (s : Setting) → number_of command s ≡ or_default command.kind s (slot numbers s)
    number Quota = k
    number Workers = p
    number Arena = arena
    number Steps = steps
    number Deques = deques
    number Seed = seed

-- a default is a number that the option may have
default_in_range : (kind : CommandKind) (s : Setting) → InRange kind s (rule_of kind s).default
default_in_range kind Quota = search (arith)
default_in_range kind Workers = search (arith)
default_in_range kind Arena = search (arith)
default_in_range kind Steps = search (arith)
default_in_range kind Deques = search (arith)
default_in_range kind Seed = search (arith)

-- what sets an option is a number that it may have
pub sets_in_range : (kind : CommandKind) (s : Setting) (vs : List (List ℕ)) (n : ℕ) → Sets kind s vs n → InRange kind s n
sets_in_range kind s [] n sets = subst (λ (m : ℕ). InRange kind s m) (sym sets) (default_in_range kind s)
sets_in_range kind s (v ∷ []) n sets = sets.1
sets_in_range kind s (v ∷ w ∷ vs) n sets = absurd sets

-- no command allows more actions than a run may have
pub few_steps : (kind : CommandKind) → most_steps kind ≤ MOST_ACTIONS
few_steps Play = omega arith
few_steps Async = omega arith
few_steps Run = omega arith
few_steps Peak = omega arith
few_steps Check = omega arith
few_steps Make = omega arith
few_steps Loops = omega arith
few_steps Expand = omega arith
few_steps Trail = omega arith
few_steps Verify = omega arith

-- the number of an option is one that it may have
pub in_range :
    (kind : CommandKind) (arguments : List (List ℕ)) (numbers : Numbers) (s : Setting) → AreItems kind arguments numbers →
    InRange kind s (or_default kind s (slot numbers s))
in_range kind arguments numbers s read =
    sets_in_range kind s (values_of s read.items) (or_default kind s (slot numbers s))
    (seen_sets kind s (values_of s read.items) (slot numbers s) (read.fit.seen s))

-- the groups of a command that wants some
pub groups_in_range :
    (arguments : List (List ℕ)) (command : Command) → IsCommand arguments command → wants_groups command.kind ≡ true →
    (1 ≤ command.groups) × (command.groups ≤ MOST_GROUPS)
groups_in_range arguments command c wants =
    by_words (plain_of c.items) (subst (λ (wanted : Bool). SetsGroups wanted (plain_of c.items) command.groups) wants c.groups)
  where
    by_words : (plain_words : List (List ℕ)) → SetsGroups true plain_words command.groups →
        (1 ≤ command.groups) × (command.groups ≤ MOST_GROUPS)
    by_words [] sets = absurd sets
    by_words (w ∷ []) sets = (sets.1, sets.2)
    by_words (w ∷ x ∷ plain_words) sets = absurd sets

-- the items of a command are read in one way
plain_in_command : (arguments : List (List ℕ)) (command : Command) (c : IsCommand arguments command) → ArePlain c.items
plain_in_command arguments command c =
    plain_if_may (wants_groups command.kind) c.items
    (may_set_groups (wants_groups command.kind) (plain_of c.items) command.groups c.groups)

same_items : (xs ys : List Item) → ArePlain xs → ArePlain ys → flat_map spelled ys ≡ flat_map spelled xs → ys ≡ xs
same_items xs ys p q e =
    let more = goes_on xs ys [] p q (e ∙ sym (append-nil (flat_map spelled xs))) in
    nothing more.0 more.1.0 more.1.1
  where
    nothing : (tail : List Item) → ys ≡ xs ++ tail → [] ≡ flat_map spelled tail → ys ≡ xs
    nothing [] are e = are ∙ append-nil xs
    nothing (t ∷ tail) are e = absurd (some_word t (flat_map spelled tail) e)

-- the number of groups is missing
pub no_groups :
    (arguments rest : List (List ℕ)) (argument : List ℕ) (kind : CommandKind) (numbers : Numbers) → arguments ≡ argument ∷ rest → argument ≡ kind_name kind →
    AreItems kind rest numbers → (if wants_groups kind then numbers.groups else Some 0) ≡ None → (command : Command) →
    ¬ IsCommand arguments command
no_groups arguments rest argument kind numbers are is read missing command c =
    let e = sym are ∙ c.written in
    let kinds : kind ≡ command.kind = kind_one kind command.kind (sym is ∙ first_word _ _ _ _ e) in
    let items : c.items ≡ read.items =
    same_items read.items c.items (plain_if_seen (wants_groups kind) read.items numbers.groups read.fit.groups)
    (plain_in_command arguments command c) (sym (other_words _ _ _ _ e) ∙ read.written) in
    let sets : SetsGroups (wants_groups kind) (plain_of read.items) command.groups =
    subst (λ (k : CommandKind). SetsGroups (wants_groups k) (plain_of read.items) command.groups) (sym kinds)
    (subst (λ (l : List Item). SetsGroups (wants_groups command.kind) (plain_of l) command.groups) items c.groups) in
    none (wants_groups kind) (plain_of read.items) numbers.groups missing read.fit.groups sets
  where
    none :
        (wanted : Bool) (plain_words : List (List ℕ)) (o : Option ℕ) → (if wanted then o else Some 0) ≡ None →
        SeenGroups wanted plain_words o → SetsGroups wanted plain_words command.groups → ⊥
    none true [] o missing seen sets = sets
    none true (w ∷ []) None missing seen sets = seen
    none true (w ∷ []) (Some n) missing seen sets = none_some n (sym missing)
    none true (w ∷ x ∷ plain_words) o missing seen sets = sets
    none false plain_words o missing seen sets = none_some 0 (sym missing)

-- arguments are at most one command
pub one_command : (arguments : List (List ℕ)) (a b : Command) → IsCommand arguments a → IsCommand arguments b → b ≡ a
one_command arguments a b is_a is_b =
    let e = sym is_b.written ∙ is_a.written in
    let kinds : b.kind ≡ a.kind = kind_one b.kind a.kind (first_word _ _ _ _ e) in
    let items : is_b.items ≡ is_a.items =
    same_items is_a.items is_b.items (plain_in_command arguments a is_a) (plain_in_command arguments b is_b) (other_words _ _ _ _ e) in
    let same : (s : Setting) → number_of b s ≡ number_of a s =
    λ s. sets_one a.kind s (values_of s is_a.items) (number_of b s) (number_of a s)
    (subst (λ (k : CommandKind). Sets k s (values_of s is_a.items) (number_of b s)) kinds
    (subst (λ (l : List Item). Sets b.kind s (values_of s l) (number_of b s)) items (is_b.sets s))) (is_a.sets s) in
    let groups : b.groups ≡ a.groups =
    sets_groups_one (wants_groups a.kind) (plain_of is_a.items) b.groups a.groups
    (subst (λ (k : CommandKind). SetsGroups (wants_groups k) (plain_of is_a.items) b.groups) kinds
    (subst (λ (l : List Item). SetsGroups (wants_groups b.kind) (plain_of l) b.groups) items is_b.groups)) is_a.groups in
    λ i. record {
      kind = kinds i;
      k = same Quota i;
      p = same Workers i;
      arena = same Arena i;
      steps = same Steps i;
      deques = same Deques i;
      seed = same Seed i;
      groups = groups i;
    }
