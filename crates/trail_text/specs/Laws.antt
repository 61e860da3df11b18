-- Each text is the text of one trail, or is refused at one place.
use Rattle.std.specs.Prelude.{◌≡◌, ℕ, ◌⊎◌, List}
use Rattle.trail_meaning.specs.Shown.{TrailShown}
use Rattle.trail_text.specs.TrailText.{IsTrail}
use Rattle.trail_text.specs.Reading.{IsRefused}

-- bytes are the text of at most one trail
abbrev pub OneTrail : Type 0
OneTrail = (text : List ℕ) (t u : TrailShown) → IsTrail text t → IsTrail text u → t ≡ u

-- they are refused at one place at most
abbrev pub OnePlace : Type 0
OnePlace = (text : List ℕ) (at at' : ℕ) → IsRefused text at → IsRefused text at' → at ≡ at'

-- never both
abbrev pub NeverBoth : Type 0
NeverBoth = (text : List ℕ) (t : TrailShown) (at : ℕ) → IsTrail text t → ¬ IsRefused text at

-- and always one of the two
abbrev pub EachRead : Type 0
EachRead = (text : List ℕ) → ((t : TrailShown) × IsTrail text t) ⊎ ((at : ℕ) × IsRefused text at)
