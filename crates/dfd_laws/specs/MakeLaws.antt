-- What a caller may use of `make`: its source is accepted, its program meets no fault, and its summary has the numbers of the groups.
use Rattle.std.specs.Prelude.{◌≡◌, ◌≢◌, ◌⊎◌, ℕ, ◌-◌, ◌*◌, pos, List, Option}
use Rattle.byte_streams.specs.Faults.{Rose}
use Rattle.command_line.specs.Arguments.{IsCommand}
use Rattle.command_line.specs.declared.command.Command.{Command}
use Rattle.command_line.specs.declared.command_kind.CommandKind.TheVariants.{Make}
use Rattle.run_report.specs.Texts.{summary_text}
use Rattle.run_report.specs.declared.summary.Summary.{Summary}
use Rattle.dfd_plays.specs.Answer.{BytesGive, CallGives, Ends, HasRanges}
use Rattle.dfd_plays.specs.Make.{source_of}
use Rattle.dfd_plays.specs.declared.status.Status.{Status}
use Rattle.dfd_plays.specs.declared.status.Status.TheVariants.{Done, Syntax, Check, UserFault, StepsSpent, ArenaFull, DequesFull}

-- the play of a made source ends well, or a limit stops it
abbrev pub MadeSourcesAreAccepted : Type 0
MadeSourcesAreAccepted = (command : Command) (status : Status) (text : List ℕ) → HasRanges command → command.kind ≡ Make
    → BytesGive command (source_of command) status text
    → (status ≡ Done) ⊎ ((status ≡ StepsSpent) ⊎ ((status ≡ ArenaFull) ⊎ (status ≡ DequesFull)))

-- so a call of `make` never says that its source is refused or that its program has a fault, whatever the streams do
abbrev pub MakesMeetNoFault : Type 0
MakesMeetNoFault = (words : List (List ℕ)) (command : Command) (faults faults' : ℕ) (left left' taken taken' : Option (List ℕ)) (status : Status)
    → IsCommand words command → command.kind ≡ Make → Ends (CallGives words (Rose faults faults') left left') taken taken' status
    → (status ≢ Syntax) × (status ≢ Check) × (status ≢ UserFault)

-- the text is a summary that says that 2 * groups numbers were printed, and that their sum is groups * (groups - 1)
pub record IsMadeSummary (groups : ℕ) (text : List ℕ) (shown : Summary) : Type 0 where
  pub is : text ≡ summary_text shown
  pub lines : shown.lines ≡ 2 * groups
  pub total : shown.total ≡ pos (groups * (groups - 1))

-- and `make` writes such a text of each play that ends
abbrev pub MadeSummariesAddUp : Type 0
MadeSummariesAddUp = (command : Command) (text : List ℕ) → HasRanges command → command.kind ≡ Make
    → BytesGive command (source_of command) Done text → ∥ ((shown : Summary) × IsMadeSummary command.groups text shown) ∥₁
