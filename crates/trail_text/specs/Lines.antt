-- How bytes do not begin.
use Rattle.std.specs.Prelude.{◌≡◌, ℕ, ◌<◌, ◌≤◌, ◌^◌, List, ◌∷◌, ◌++◌, length}
use Rattle.std.specs.Fmt.{decimal}
use Rattle.language_limits.specs.declared.TheConstants.{LONGEST_TEXT}
use Rattle.trail_meaning.specs.Ranges.{IsWithin, FitSetting, FitsKind, FitsEvent, FitNumbers}
use Rattle.trail_meaning.specs.declared.trail_event.TrailEvent.{TrailEvent}
use Rattle.trail_meaning.specs.declared.trail_kind.TrailKind.{TrailKind}
use Rattle.trail_meaning.specs.declared.trail_numbers.TrailNumbers.{TrailNumbers}
use Rattle.trail_text.specs.TrailText.{head_line, source_line, kind_words, event_line, end_line}

-- a name, a number, the byte that ends it, and more
abbrev pub number_then : List ℕ → ℕ → ℕ → List ℕ → List ℕ
number_then name n stop more = name ++ (decimal n ++ stop ∷ more)

-- the bytes do not begin with the name and a number of 64 bits
abbrev pub NoNumber : List ℕ → ℕ → List ℕ → Type 0
NoNumber name stop bytes = (n : ℕ) (more : List ℕ) → n < 2 ^ 64 → ¬ (bytes ≡ number_then name n stop more)

-- they do not begin with the name and a number from `least` to `most`
abbrev pub NoneWithin : List ℕ → ℕ → ℕ → ℕ → List ℕ → Type 0
NoneWithin name stop least most bytes = (n : ℕ) (more : List ℕ) → IsWithin least most n → ¬ (bytes ≡ number_then name n stop more)

-- they do not begin with the name and a number below `bound`
abbrev pub NoneBelow : List ℕ → ℕ → ℕ → List ℕ → Type 0
NoneBelow name stop bound bytes = (n : ℕ) (more : List ℕ) → n < bound → ¬ (bytes ≡ number_then name n stop more)

-- they do not begin with a trail's first line
abbrev pub NoHead : List ℕ → Type 0
NoHead bytes =
    (k p arena steps deques : ℕ) (more : List ℕ) → FitSetting k p arena steps deques → ¬ (bytes ≡ head_line k p arena steps deques ++ more)

-- they do not begin with its second line
abbrev pub NoSource : List ℕ → Type 0
NoSource bytes = (source more : List ℕ) → length source ≤ LONGEST_TEXT → ¬ (bytes ≡ source_line source ++ more)

-- they do not begin with what a worker did
abbrev pub NoKind : List ℕ → Type 0
NoKind bytes = (kind : TrailKind) (more : List ℕ) → FitsKind kind → ¬ (bytes ≡ kind_words kind ++ 10 ∷ more)

-- they do not begin with the line of an event of one of p workers
abbrev pub NoEvent : ℕ → List ℕ → Type 0
NoEvent p bytes = (event : TrailEvent) (more : List ℕ) → FitsEvent p event → ¬ (bytes ≡ event_line event ++ more)

-- they do not begin with a trail's last line
abbrev pub NoEnd : List ℕ → Type 0
NoEnd bytes = (n : TrailNumbers) (more : List ℕ) → FitNumbers n → ¬ (bytes ≡ end_line n ++ more)
