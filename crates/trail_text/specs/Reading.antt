-- When bytes are no trail, and the place of the line that shows it.
use Rattle.std.specs.Prelude.{◌≡◌, ℕ, ◌<◌, ◌≤◌, ◌+◌, List, [], ◌∷◌, ◌++◌, length}
use Rattle.std.specs.List.{concat}
use Rattle.trail_meaning.specs.Shown.{TrailShown}
use Rattle.trail_meaning.specs.Ranges.{HasTrailRanges}
use Rattle.language_limits.specs.declared.TheConstants.{MOST_TRAIL}
use Rattle.trail_text.specs.TrailText.{trail_lines, trail_text}
use Rattle.trail_text.specs.declared.trail_fail.TrailFail.{TrailFail}
use Rattle.trail_text.specs.declared.trail_fail.TrailFail.TheVariants.{NotTrail, OutOfMemory}

-- some trail begins with these lines; the second one has the bytes of its source
abbrev pub Begins : List (List ℕ) → Type 0
Begins lines = (t : TrailShown) × (HasTrailRanges t × ((more : List (List ℕ)) × (trail_lines t ≡ lines ++ more)))

-- the bytes are the text of no trail
abbrev pub NoTrail : List ℕ → Type 0
NoTrail text = (t : TrailShown) → HasTrailRanges t → ¬ (text ≡ trail_text t)

-- the bytes are the text of no trail, and `rest` begins with the first line that breaks the form: some trail begins with the
-- lines before it, and no trail that does goes on with a line with which `rest` begins. If a line is missing, `rest` is empty.
pub record BreaksAt (text rest : List ℕ) : Type 0 where
  pub front : List (List ℕ)
  pub spelled : text ≡ concat front ++ rest
  pub begins : Begins front
  pub breaks : (next more : List ℕ) → rest ≡ next ++ more → ¬ Begins (front ++ next ∷ [])
  pub no_trail : NoTrail text

-- the bytes are refused at this place: after the most bytes of a trail if there are more, else at the line that breaks the form
pub data IsRefused (text : List ℕ) (at : ℕ) : Type 0 where
  too_long : MOST_TRAIL < length text → at ≡ MOST_TRAIL → IsRefused text at
  broken : length text ≤ MOST_TRAIL → (rest : List ℕ) → BreaksAt text rest → at + length rest ≡ length text → IsRefused text at

-- the answer to bytes that are not read as a trail; it may be want of memory at any time
abbrev pub IsFailure : List ℕ → TrailFail → Type 0
IsFailure text OutOfMemory = Unit {0}
IsFailure text (NotTrail at) = IsRefused text at
