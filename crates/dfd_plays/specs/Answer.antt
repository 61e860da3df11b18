-- What a call of the program answers, and why.
use Rattle.std.specs.Prelude.{◌≡◌, ℕ, suc, ◌≤◌, true, List, Option, take}
use Rattle.canonical_text.specs.Canonical.{canonical}
use Rattle.command_line.specs.Arguments.{IsCommand, InRange, number_of, wants_groups}
use Rattle.command_line.specs.declared.command.Command.{Command}
use Rattle.command_line.specs.declared.command_kind.CommandKind.{CommandKind}
use Rattle.command_line.specs.declared.command_kind.CommandKind.TheVariants.{Play, Async, Run, Peak, Check as Checks, Make, Loops, Expand, Trail, Verify}
use Rattle.command_line.specs.declared.setting.Setting.{Setting}
use Rattle.language_limits.specs.declared.TheConstants.{LONGEST_TEXT, MOST_GROUPS, MOST_TRAIL}
use Rattle.par_tree.specs.Tree.{Program}
use Rattle.dfd_plays.specs.Expanding.{ExpansionGives, ExpandMakes}
use Rattle.dfd_plays.specs.Make.{MakeMakes, source_of}
use Rattle.dfd_plays.specs.Peak.{PeakMakes}
use Rattle.dfd_plays.specs.Async.{AsyncMakes}
use Rattle.dfd_plays.specs.Play.{PlayMakes}
use Rattle.dfd_plays.specs.Threads.{RunMakes}
use Rattle.dfd_plays.specs.Messages.{usage_text, read_fault_text}
use Rattle.dfd_plays.specs.Sources.{SourceGives}
use Rattle.dfd_plays.specs.Trails.{TrailMakes, VerifyGives}
use Rattle.byte_streams.specs.Sink.{Takes}
use Rattle.byte_streams.specs.Source.{IsRead}
use Rattle.dfd_plays.specs.declared.status.Status.{Status}
use Rattle.dfd_plays.specs.declared.status.Status.TheVariants.{Done, Usage, ReadFault, WriteFault, OutOfMemory}

-- what the command `check` makes of a program: its canonical text
abbrev pub CheckMakes : Program → Status → List ℕ → Type 0
CheckMakes p Done text = text ≡ canonical p
CheckMakes p status text = ⊥

-- What a command of a kind makes of the bytes of a source: `loops` what `play` makes of their expansion;
-- `expand` reads no program; and `verify` reads a trail, which has a source.
abbrev pub KindGives : CommandKind → Command → (bytes : List ℕ) → Status → List ℕ → Type 0
KindGives Play command bytes = SourceGives (PlayMakes command) bytes
KindGives Async command bytes = SourceGives (AsyncMakes command) bytes
KindGives Run command bytes = SourceGives (RunMakes command) bytes
KindGives Peak command bytes = SourceGives (PeakMakes command.k command.steps) bytes
KindGives Checks command bytes = SourceGives CheckMakes bytes
KindGives Make command bytes = SourceGives (MakeMakes command bytes) bytes
KindGives Loops command bytes = ExpansionGives (SourceGives (PlayMakes command)) bytes
KindGives Expand command bytes = ExpansionGives ExpandMakes bytes
KindGives Trail command bytes = SourceGives (TrailMakes command bytes) bytes
KindGives Verify command bytes = VerifyGives bytes

-- what a command makes of the bytes of a source
abbrev pub BytesGive : Command → (bytes : List ℕ) → Status → List ℕ → Type 0
BytesGive command = KindGives command.kind command

-- how many bytes a command reads at most: one more than a text, or a trail, may have
abbrev pub most_read : CommandKind → ℕ
most_read Verify = suc MOST_TRAIL
most_read kind = suc LONGEST_TEXT

-- what a command answers that reads its source: where the source failed, just this, else what it makes of the bytes
-- that it read
abbrev pub ReadGives : Command → (failed : Type 0) → (left left' : Option (List ℕ)) → Status → List ℕ → Type 0
ReadGives command failed left left' ReadFault text = failed × (text ≡ read_fault_text)
ReadGives command failed left left' status text =
    (bytes : List ℕ) × (IsRead (most_read command.kind) left left' bytes × BytesGive command bytes status text)

-- what a command answers: `make` reads nothing, and answers what it makes of its made source
abbrev pub KindAnswers : CommandKind → Command → (failed : Type 0) → (left left' : Option (List ℕ)) → Status → List ℕ → Type 0
KindAnswers Make command failed left left' = BytesGive command (source_of command)
KindAnswers kind command failed left left' = ReadGives command failed left left'

abbrev pub CommandGives : Command → (failed : Type 0) → (left left' : Option (List ℕ)) → Status → List ℕ → Type 0
CommandGives command = KindAnswers command.kind command

-- the numbers of a command are those that its options may have, and where it wants groups it has 1 to 8,000
pub record HasRanges (command : Command) : Type 0 where
  pub numbers : (s : Setting) → InRange command.kind s (number_of command s)
  pub groups : wants_groups command.kind ≡ true → (1 ≤ command.groups) × (command.groups ≤ MOST_GROUPS)

-- the words are a command that reads nothing
abbrev pub ReadsNothing : List (List ℕ) → Type 0
ReadsNothing words = (command : Command) × IsCommand words command × (command.kind ≡ Make)

-- the words are a command
abbrev pub IsSomeCommand : List (List ℕ) → Type 0
IsSomeCommand words = (command : Command) × IsCommand words command

-- the words are no command
abbrev pub NoCommand : List (List ℕ) → Type 0
NoCommand words = (command : Command) → ¬ IsCommand words command

-- what a call with these words answers
abbrev pub CallGives : List (List ℕ) → (failed : Type 0) → (left left' : Option (List ℕ)) → Status → List ℕ → Type 0
CallGives words failed left left' Usage text = NoCommand words × (text ≡ usage_text)
CallGives words failed left left' status text =
    (command : Command) × (IsCommand words command × CommandGives command failed left left' status text)

-- how a call ends that has such an answer to write: the sink took the whole text, or failed behind a front of it; or
-- there was no memory, and it took nothing
abbrev pub Ends : (Status → List ℕ → Type 0) → (taken taken' : Option (List ℕ)) → Status → Type 0
Ends gives taken taken' WriteFault =
    (status : Status) × ((text : List ℕ) × ((count : ℕ) × (gives status text × Takes taken taken' (take count text))))
Ends gives taken taken' OutOfMemory = Unit {0}
Ends gives taken taken' status = (text : List ℕ) × (gives status text × Takes taken taken' text)
