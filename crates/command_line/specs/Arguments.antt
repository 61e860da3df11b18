-- Which arguments are a command.
use Rattle.std.specs.Prelude.{◌≡◌, ℕ, ◌≤◌, ◌%◌, Bool, true, false, if◌then◌else◌, List, [], ◌∷◌, ◌++◌, length, map, codes}
use Rattle.std.specs.List.{flat_map}
use Rattle.std.specs.Str.{bytes_eq}
use Rattle.std.specs.Str.Parse.{IsNumeral, digits_value}
use Rattle.std.specs.String.{string_bytes}
use Rattle.std.specs.declared.string.String.{String}
use Rattle.std.specs.declared.alloc.Global.{Global}
use Rattle.language_limits.specs.declared.TheConstants.{DEFAULT_ARENA, DEFAULT_QUOTA, DEFAULT_SEED, DEFAULT_WORKERS, GREATEST_QUOTA, GREATEST_SEED, LEAST_QUOTA, MOST_ACTIONS, MOST_DEQUES, MOST_GROUPS, MOST_TRAIL_ACTIONS, MOST_WORDS, MOST_WORKERS}
use Rattle.command_line.specs.declared.command.Command.{Command}
use Rattle.command_line.specs.declared.command_kind.CommandKind.{CommandKind}
use Rattle.command_line.specs.declared.command_kind.CommandKind.TheVariants.{Play, Async, Run, Peak, Check, Make, Loops, Expand, Trail, Verify}
use Rattle.command_line.specs.declared.rule.Rule.{Rule}
use Rattle.command_line.specs.declared.setting.Setting.{Setting}
use Rattle.command_line.specs.declared.setting.Setting.TheVariants.{Quota, Workers, Arena, Steps, Deques, Seed}

-- the bytes of each argument
abbrev pub arguments_of : List (String Global) → List (List ℕ)
arguments_of arguments = map string_bytes arguments

-- the argument of a command
abbrev pub kind_name : CommandKind → List ℕ
kind_name Play = codes "play"
kind_name Async = codes "async"
kind_name Run = codes "run"
kind_name Peak = codes "peak"
kind_name Check = codes "check"
kind_name Make = codes "make"
kind_name Loops = codes "loops"
kind_name Expand = codes "expand"
kind_name Trail = codes "trail"
kind_name Verify = codes "verify"

-- the name of an option, without its `--`
abbrev pub name_of : Setting → List ℕ
name_of Quota = codes "k"
name_of Workers = codes "p"
name_of Arena = codes "arena"
name_of Steps = codes "steps"
name_of Deques = codes "deques"
name_of Seed = codes "seed"

-- the most actions that a command allows a run: a recorded one has fewer
abbrev pub most_steps : CommandKind → ℕ
most_steps Trail = MOST_TRAIL_ACTIONS
most_steps kind = MOST_ACTIONS

-- the numbers that it may have in a command, and its default; the words of a quota and of an arena are whole pieces
abbrev pub rule_of : CommandKind → Setting → Rule
rule_of kind Quota = record { least = LEAST_QUOTA; most = GREATEST_QUOTA; unit = LEAST_QUOTA; default = DEFAULT_QUOTA }
rule_of kind Workers = record { least = 1; most = MOST_WORKERS; unit = 1; default = DEFAULT_WORKERS }
rule_of kind Arena = record { least = LEAST_QUOTA; most = MOST_WORDS; unit = LEAST_QUOTA; default = DEFAULT_ARENA }
rule_of kind Steps = record { least = 1; most = most_steps kind; unit = 1; default = most_steps kind }
rule_of kind Deques = record { least = 1; most = MOST_DEQUES; unit = 1; default = MOST_DEQUES }
rule_of kind Seed = record { least = 0; most = GREATEST_SEED; unit = 1; default = DEFAULT_SEED }

-- whether a command has an option: those that play or run have each, but a ready list has no limit of deques; and `peak` has two
abbrev pub has : CommandKind → Setting → Bool
has Play s = true
has Async Deques = false
has Async s = true
has Run s = true
has Make s = true
has Loops s = true
has Trail s = true
has Peak Quota = true
has Peak Steps = true
has kind s = false

-- whether a command wants a plain argument, its number of groups
abbrev pub wants_groups : CommandKind → Bool
wants_groups Make = true
wants_groups kind = false

-- what stands behind the argument of a command: an option with its value, joined in one argument or in two; or a plain argument
pub data Item : Type 0 where
  option : (setting : Setting) (value : List ℕ) (joined : Bool) → Item
  plain : (argument : List ℕ) → Item

-- its arguments: `--name=value`, or `--name` and `value`, or the plain argument
abbrev pub spelled : Item → List (List ℕ)
spelled (option s value true) = (codes "--" ++ (name_of s ++ (codes "=" ++ value))) ∷ []
spelled (option s value false) = (codes "--" ++ name_of s) ∷ value ∷ []
spelled (plain argument) = argument ∷ []

-- whether two options are the same one
abbrev pub is_same : Setting → Setting → Bool
is_same s t = bytes_eq (name_of s) (name_of t)

-- the values that the items give to an option
abbrev pub values_of : Setting → List Item → List (List ℕ)
values_of s [] = []
values_of s (option t value joined ∷ items) = if is_same t s then value ∷ values_of s items else values_of s items
values_of s (plain argument ∷ items) = values_of s items

-- the plain words among the items
abbrev pub plain_of : List Item → List (List ℕ)
plain_of [] = []
plain_of (option s value joined ∷ items) = plain_of items
plain_of (plain argument ∷ items) = argument ∷ plain_of items

-- a value: 1 to 20 decimal digits
abbrev pub IsValue : List ℕ → Type 0
IsValue text = IsNumeral 10 text × (length text ≤ 20)

-- the option of a command may have this number
abbrev pub InRange : CommandKind → Setting → ℕ → Type 0
InRange kind s n = ((rule_of kind s).least ≤ n) × (n ≤ (rule_of kind s).most) × (n % (rule_of kind s).unit ≡ 0)

-- a value gives this number to an option of a command
abbrev pub Gives : CommandKind → Setting → List ℕ → ℕ → Type 0
Gives kind s value n = IsValue value × InRange kind s n × (n ≡ digits_value 10 value)

-- the number of an option: what its one value gives, or its default where there is none; it has no two values
abbrev pub Sets : CommandKind → Setting → List (List ℕ) → ℕ → Type 0
Sets kind s [] n = n ≡ (rule_of kind s).default
Sets kind s (value ∷ []) n = Gives kind s value n
Sets kind s values n = ⊥

-- a plain argument tells this number of groups: it is a value like those of options, and so no argument that begins with `--`
abbrev pub TellsGroups : List ℕ → ℕ → Type 0
TellsGroups argument n = IsValue argument × (1 ≤ n) × (n ≤ MOST_GROUPS) × (n ≡ digits_value 10 argument)

-- the groups of a command that wants some are what its one plain argument tells; another command has no plain argument, and 0 groups
abbrev pub SetsGroups : (wanted : Bool) → (plain_words : List (List ℕ)) → ℕ → Type 0
SetsGroups true (argument ∷ []) n = TellsGroups argument n
SetsGroups false [] n = n ≡ 0
SetsGroups wanted arguments n = ⊥

-- the command has each of the options
abbrev pub AllHad : CommandKind → List Item → Type 0
AllHad kind [] = Unit {0}
AllHad kind (option s value joined ∷ items) = (has kind s ≡ true) × AllHad kind items
AllHad kind (plain argument ∷ items) = AllHad kind items

-- the number of an option in a command
abbrev pub number_of : Command → Setting → ℕ
number_of command Quota = command.k
number_of command Workers = command.p
number_of command Arena = command.arena
number_of command Steps = command.steps
number_of command Deques = command.deques
number_of command Seed = command.seed

-- the arguments are this command: its argument, and behind it, in any order, options that it has, each at most once, and its number
-- of groups where it wants one
pub record IsCommand (arguments : List (List ℕ)) (command : Command) : Type 0 where
  pub items : List Item
  pub written : arguments ≡ kind_name command.kind ∷ flat_map spelled items
  pub had : AllHad command.kind items
  pub sets : (s : Setting) → Sets command.kind s (values_of s items) (number_of command s)
  pub groups : SetsGroups (wants_groups command.kind) (plain_of items) command.groups
