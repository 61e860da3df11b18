-- What the reading of the arguments finds on the way.
use Rattle.std.specs.Prelude.{◌≡◌, ℕ, Bool, true, if◌then◌else◌, List, [], ◌∷◌, ◌++◌, Option, None, Some, unwrap_or}
use Rattle.std.specs.List.{flat_map}
use Rattle.std.specs.Str.Parse.{digits_value}
use Rattle.command_line.specs.declared.command_kind.CommandKind.{CommandKind}
use Rattle.command_line.specs.declared.numbers.Numbers.{Numbers}
use Rattle.command_line.specs.declared.setting.Setting.{Setting}
use Rattle.command_line.specs.declared.setting.Setting.TheVariants.{Quota, Workers, Arena, Steps, Deques, Seed}
use Rattle.command_line.specs.Arguments.{Item, option, plain, spelled, is_same, values_of, plain_of, rule_of, Gives, TellsGroups, wants_groups, AllHad}

-- the arguments do not begin with an option
abbrev pub NoOption : List (List ℕ) → Type 0
NoOption arguments = (s : Setting) (v : List ℕ) (joined : Bool) (more : List (List ℕ)) → ¬ (arguments ≡ spelled (option s v joined) ++ more)

-- the arguments begin with an option and its value, in one argument or in two, and go on with others
abbrev pub IsNext : List (List ℕ) → Setting → List ℕ → List (List ℕ) → Type 0
IsNext arguments s v more = (joined : Bool) × (arguments ≡ spelled (option s v joined) ++ more)

-- the number that was given to an option
abbrev pub slot : Numbers → Setting → Option ℕ
slot numbers Quota = numbers.quota
slot numbers Workers = numbers.workers
slot numbers Arena = numbers.arena
slot numbers Steps = numbers.steps
slot numbers Deques = numbers.deques
slot numbers Seed = numbers.seed

-- or its default
abbrev pub or_default : CommandKind → Setting → Option ℕ → ℕ
or_default kind s o = unwrap_or o (rule_of kind s).default

-- nothing was given
abbrev pub no_numbers : Numbers
no_numbers = record { quota = None; workers = None; arena = None; steps = None; deques = None; seed = None; groups = None }

-- one option has a number now, and the others are as before
abbrev pub IsWith : Numbers → Setting → ℕ → Numbers → Type 0
IsWith before s n after = (t : Setting) → slot after t ≡ (if is_same s t then Some n else slot before t)

-- the values of an option are one that gives this number, or none where there is no number
abbrev pub Seen : CommandKind → Setting → List (List ℕ) → Option ℕ → Type 0
Seen kind s [] None = Unit {0}
Seen kind s [] (Some n) = ⊥
Seen kind s (value ∷ []) None = ⊥
Seen kind s (value ∷ []) (Some n) = Gives kind s value n
Seen kind s (value ∷ again ∷ values) o = ⊥

-- the plain words are one that tells this number of groups, where groups are wanted, or none where there is no number
abbrev pub SeenGroups : (wanted : Bool) → List (List ℕ) → Option ℕ → Type 0
SeenGroups wanted [] None = Unit {0}
SeenGroups wanted [] (Some n) = ⊥
SeenGroups wanted (argument ∷ []) None = ⊥
SeenGroups wanted (argument ∷ []) (Some n) = (wanted ≡ true) × TellsGroups argument n
SeenGroups wanted (argument ∷ again ∷ arguments) o = ⊥

-- the values of an option may be those of a command
abbrev pub MaySet : CommandKind → Setting → List (List ℕ) → Type 0
MaySet kind s [] = Unit {0}
MaySet kind s (value ∷ []) = Gives kind s value (digits_value 10 value)
MaySet kind s (value ∷ again ∷ values) = ⊥

-- the plain words may be those of a command
abbrev pub MaySetGroups : (wanted : Bool) → List (List ℕ) → Type 0
MaySetGroups wanted [] = Unit {0}
MaySetGroups wanted (argument ∷ []) = (wanted ≡ true) × TellsGroups argument (digits_value 10 argument)
MaySetGroups wanted (argument ∷ again ∷ arguments) = ⊥

-- the items give these numbers to a command
pub record Fit (kind : CommandKind) (items : List Item) (numbers : Numbers) : Type 0 where
  pub had : AllHad kind items
  pub seen : (s : Setting) → Seen kind s (values_of s items) (slot numbers s)
  pub groups : SeenGroups (wants_groups kind) (plain_of items) numbers.groups

-- the items may be those of a command
pub record MayFit (kind : CommandKind) (items : List Item) : Type 0 where
  pub had : AllHad kind items
  pub may : (s : Setting) → MaySet kind s (values_of s items)
  pub groups : MaySetGroups (wants_groups kind) (plain_of items)

-- with one option more the numbers are these
abbrev pub MoreFit : CommandKind → Numbers → Setting → List ℕ → Numbers → Type 0
MoreFit kind before s v after =
    (items : List Item) (joined : Bool) → Fit kind items before → Fit kind (items ++ option s v joined ∷ []) after

-- no command has one option more, and further items
abbrev pub NoneFit : CommandKind → Numbers → Setting → List ℕ → Type 0
NoneFit kind before s v =
    (items more : List Item) (joined : Bool) → Fit kind items before → ¬ MayFit kind (items ++ option s v joined ∷ more)

-- with one plain argument more the numbers are these
abbrev pub MoreTell : CommandKind → Numbers → List ℕ → Numbers → Type 0
MoreTell kind before argument after = (items : List Item) → Fit kind items before → Fit kind (items ++ plain argument ∷ []) after

-- no command has one plain argument more, and further items
abbrev pub NoneTell : CommandKind → Numbers → List ℕ → Type 0
NoneTell kind before argument = (items more : List Item) → Fit kind items before → ¬ MayFit kind (items ++ plain argument ∷ more)

-- the arguments begin with an item, with which the numbers are these, and go on with the rest
pub record GoesOn (kind : CommandKind) (before : Numbers) (arguments : List (List ℕ)) (after : Numbers) (rest : List (List ℕ)) : Type 0 where
  pub item : Item
  pub written : arguments ≡ spelled item ++ rest
  pub fit : (items : List Item) → Fit kind items before → Fit kind (items ++ item ∷ []) after

-- no command goes on with these arguments
abbrev pub NoneGoesOn : CommandKind → Numbers → List (List ℕ) → Type 0
NoneGoesOn kind before arguments =
    (items more : List Item) (item : Item) → Fit kind items before → arguments ≡ spelled item ++ flat_map spelled more →
    ¬ MayFit kind (items ++ item ∷ more)

-- the arguments are items of a command with these numbers
pub record AreItems (kind : CommandKind) (arguments : List (List ℕ)) (numbers : Numbers) : Type 0 where
  pub items : List Item
  pub written : arguments ≡ flat_map spelled items
  pub fit : Fit kind items numbers

-- the arguments are no items of a command
abbrev pub NoItems : CommandKind → List (List ℕ) → Type 0
NoItems kind arguments = (items : List Item) → arguments ≡ flat_map spelled items → ¬ MayFit kind items

-- the arguments begin with items that give these numbers, and go on with the rest
pub record AreRead (kind : CommandKind) (arguments rest : List (List ℕ)) (numbers : Numbers) : Type 0 where
  pub items : List Item
  pub written : arguments ≡ flat_map spelled items ++ rest
  pub fit : Fit kind items numbers
