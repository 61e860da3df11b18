-- What a caller may use.
use Rattle.std.specs.Prelude.{◌≡◌, ◌≢◌, ◌↔◌, ◌⊎◌, ℕ, List, Ok}
use Rattle.command_line.specs.Arguments.{IsCommand}
use Rattle.command_line.specs.declared.command.Command.{Command}
use Rattle.command_line.specs.declared.command_kind.CommandKind.TheVariants.{Play, Run, Loops, Trail, Verify}
use Rattle.loop_expand.specs.Expansion.{Expands}
use Rattle.dfd_plays.specs.Answer.{BytesGive, HasRanges}
use Rattle.par_ownership.specs.Accepted.{IsAccepted}
use Rattle.par_text.specs.Judging.{IsText}
use Rattle.par_tree.specs.Tree.{Program}
use Rattle.serial_meaning.specs.Settings.{setting_of}
use Rattle.trail_check.specs.CheckLaws.{IsBounded}
use Rattle.trail_meaning.specs.Shown.{TrailShown}
use Rattle.trail_text.specs.TrailText.{IsTrail}
use Rattle.dfd_plays.specs.declared.status.Status.{Status}
use Rattle.dfd_plays.specs.declared.status.Status.TheVariants.{Done, UserFault}

-- a command that starts no threads has one answer to the bytes of a source, one status and one text
abbrev pub CommandsHaveOneAnswer : Type 0
CommandsHaveOneAnswer =
    (command : Command) (bytes : List ℕ) (s s' : Status) (t t' : List ℕ) → HasRanges command → command.kind ≢ Run →
    BytesGive command bytes s t → BytesGive command bytes s' t' → (s ≡ s') × (t ≡ t')

-- a command has an answer to the bytes of a source
abbrev pub CommandsHaveAnAnswer : Type 0
CommandsHaveAnAnswer =
    (command : Command) (bytes : List ℕ) → HasRanges command → (s : Status) × ((t : List ℕ) × BytesGive command bytes s t)

-- where the bytes have an expansion, `loops` answers what `play` with the same numbers answers to it
abbrev pub LoopsArePlays : Type 0
LoopsArePlays =
    (command : Command) (bytes expanded : List ℕ) → Expands bytes (Ok expanded) → (s : Status) (t : List ℕ) →
    BytesGive (record command { kind = Loops }) bytes s t ↔ BytesGive (record command { kind = Play }) expanded s t

-- a command that was read has its ranges: so `serve` may do it
abbrev pub CommandsHaveRanges : Type 0
CommandsHaveRanges = (words : List (List ℕ)) (command : Command) → IsCommand words command → HasRanges command

-- what `trail` writes of a play that ends, well or with a fault, `verify` accepts
abbrev pub RecordedTrailsAreAccepted : Type 0
RecordedTrailsAreAccepted = (command : Command) (bytes trail : List ℕ) (status : Status) → HasRanges (record command { kind = Trail })
    → BytesGive (record command { kind = Trail }) bytes status trail → (status ≡ Done) ⊎ (status ≡ UserFault)
    → (text : List ℕ) × BytesGive (record command { kind = Verify }) trail Done text

-- what `verify` accepts is a trail, of an accepted program, and the bound holds after each of its events
abbrev pub VerifiedTrailsAreBounded : Type 0
VerifiedTrailsAreBounded = (command : Command) (bytes text : List ℕ) → BytesGive (record command { kind = Verify }) bytes Done text
    → (t : TrailShown) × (p : Program) × IsTrail bytes t × IsText t.source p × IsAccepted p × IsBounded (setting_of p t.k) t
