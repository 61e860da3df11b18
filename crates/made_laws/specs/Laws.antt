-- What a caller may use: what a made source is, and what it does.
use Rattle.std.specs.Prelude.{◌≡◌, ℕ, ◌-◌, ◌*◌, ◌≤◌, pos, length}
use Rattle.language_limits.specs.declared.TheConstants.{MOST_GROUPS}
use Rattle.par_text.specs.Judging.{IsText}
use Rattle.par_ownership.specs.Ownership.{Ownership}
use Rattle.depth_first_list.specs.Passed.FinishVariants.{Done}
use Rattle.depth_first_run.specs.States.{Setting, State}
use Rattle.depth_first_run.specs.Run.{whole, lines_of, finish_of_run}
use Rattle.made_source.specs.MadeSource.{made_source}
use Rattle.made_laws.specs.MadeProgram.{made_program}
use Rattle.made_laws.specs.MadeRun.{made_lines, sum_of_lines, AllowsGroups}

-- a made source is a text, and its tree is the made program
abbrev pub MadeSourcesAreTexts : Type 0
MadeSourcesAreTexts = (n : ℕ) → n ≤ MOST_GROUPS → IsText (made_source n) (made_program n)

-- a made program keeps the rules of ownership
abbrev pub MadeProgramsKeepTheRules : Type 0
MadeProgramsKeepTheRules = (n : ℕ) → n ≤ MOST_GROUPS → Ownership (made_program n)

-- whatever the quota, the depth-first run of a made program prints the number of each group twice, in order, and meets no fault
abbrev pub MadeProgramsPrintTwice : Type 0
MadeProgramsPrintTwice = (c : Setting) (n : ℕ) → n ≤ MOST_GROUPS → c.program ≡ made_program n → AllowsGroups n c
    → (lines_of (State.items (whole c)) ≡ made_lines n) × (finish_of_run c ≡ Done)

-- these are 2 * n numbers, whose sum is n * (n - 1)
abbrev pub MadeLinesAddUp : Type 0
MadeLinesAddUp = (n : ℕ) → (length (made_lines n) ≡ 2 * n) × (sum_of_lines (made_lines n) ≡ pos (n * (n - 1)))
