-- The text of a trail, line by line.
use Rattle.std.specs.Prelude.{◌≡◌, ℕ, ◌≤◌, List, [], ◌∷◌, ◌++◌, length, map, codes}
use Rattle.std.specs.List.{concat}
use Rattle.std.specs.Fmt.{decimal}
use Rattle.trail_meaning.specs.Shown.{TrailShown}
use Rattle.trail_meaning.specs.Ranges.{HasTrailRanges}
use Rattle.language_limits.specs.declared.TheConstants.{MOST_TRAIL}
use Rattle.trail_meaning.specs.declared.trail_event.TrailEvent.{TrailEvent}
use Rattle.trail_meaning.specs.declared.trail_kind.TrailKind.{TrailKind}
use Rattle.trail_meaning.specs.declared.trail_kind.TrailKind.TheVariants.{Steal, Act, Suspend, GiveUp}
use Rattle.trail_meaning.specs.declared.trail_numbers.TrailNumbers.{TrailNumbers}

-- one text after another
infixr 5 ◌⊕◌
abbrev pub ◌⊕◌ : List ℕ → List ℕ → List ℕ
u ⊕ v = u ++ v

-- the first line: the setting of the play
abbrev pub head_line : ℕ → ℕ → ℕ → ℕ → ℕ → List ℕ
head_line k p arena steps deques =
    codes "trail k " ⊕ decimal k ⊕ codes " p " ⊕ decimal p ⊕ codes " arena " ⊕ decimal arena ⊕ codes " steps " ⊕ decimal steps
    ⊕ codes " deques " ⊕ decimal deques ⊕ codes "\n"

-- the second line: how many bytes the source has
abbrev pub source_front : ℕ → List ℕ
source_front n = codes "source " ⊕ decimal n ⊕ codes "\n"

-- and these bytes, whatever they are
abbrev pub source_line : List ℕ → List ℕ
source_line source = source_front (length source) ⊕ source ⊕ codes "\n"

-- the words for what a worker did
abbrev pub kind_words : TrailKind → List ℕ
kind_words (Steal place) = codes "steal " ⊕ decimal place
kind_words Act = codes "act"
kind_words Suspend = codes "suspend"
kind_words GiveUp = codes "giveup"

-- the line of an event
abbrev pub event_line : TrailEvent → List ℕ
event_line event = decimal event.worker ⊕ codes " " ⊕ kind_words event.kind ⊕ codes "\n"

-- the last line: the numbers that the play ended with
abbrev pub end_line : TrailNumbers → List ℕ
end_line n =
    codes "end periods " ⊕ decimal n.periods ⊕ codes " ahead " ⊕ decimal n.ahead ⊕ codes " high " ⊕ decimal n.high ⊕ codes "\n"

-- the lines of a trail, each with its LF
abbrev pub trail_lines : TrailShown → List (List ℕ)
trail_lines t =
    head_line t.k t.p t.arena t.steps t.deques ∷ source_line t.source ∷ (map event_line t.events ++ end_line t.numbers ∷ [])

abbrev pub trail_text : TrailShown → List ℕ
trail_text t = concat (trail_lines t)

-- the bytes are the text of this trail, whose numbers are in range
abbrev pub IsTrail : List ℕ → TrailShown → Type 0
IsTrail bytes t = HasTrailRanges t × (length bytes ≤ MOST_TRAIL) × (bytes ≡ trail_text t)
