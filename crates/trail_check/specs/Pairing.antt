-- The pass over a list that finds the partners of its places.
use Rattle.std.specs.Prelude.{◌≡◌, ℕ, ◌<◌, ◌⊎◌, List, [], ◌∷◌, ◌++◌, length, set, Option, Some, None}
use Rattle.dag_order.specs.declared.kind.Kind.{Kind}
use Rattle.dag_order.specs.declared.kind.Kind.TheVariants.{Fork, Join, Alloc, Release, Dummy, End, Fault}

-- What is known after the first places: the partner of each, if it was found; the Forks whose child has not ended; and the Ends of
-- children that have not been joined; the newest first.
pub record Pairs : Type 0 where
  pub partners : List (Option ℕ)
  pub running : List ℕ
  pub ended : List ℕ

-- before the first place
abbrev pub no_pairs : Pairs
no_pairs = record { partners = []; running = []; ended = [] }

-- after an End at this place, which is the partner of the newest Fork
abbrev pub after_end : ℕ → List (Option ℕ) → List ℕ → List ℕ → Pairs
after_end place partners [] ended = record { partners = partners ++ None ∷ []; running = []; ended = ended }
after_end place partners (f ∷ older) ended =
    record { partners = set partners f (Some place) ++ None ∷ []; running = older; ended = place ∷ ended }

-- after a Join at this place, which is the partner of the newest End
abbrev pub after_join : ℕ → List (Option ℕ) → List ℕ → List ℕ → Pairs
after_join place partners running [] = record { partners = partners ++ None ∷ []; running = running; ended = [] }
after_join place partners running (e ∷ older) =
    record { partners = set partners e (Some place) ++ Some e ∷ []; running = running; ended = older }

-- after an action that has no partner
abbrev pub after_other : Pairs → Pairs
after_other p = record { partners = p.partners ++ None ∷ []; running = p.running; ended = p.ended }

-- after the next place, by the kind of its action
abbrev pub after : ℕ → Kind → Pairs → Pairs
after place Fork p = record { partners = p.partners ++ None ∷ []; running = place ∷ p.running; ended = p.ended }
after place Join p = after_join place p.partners p.running p.ended
after place Alloc p = after_other p
after place Release p = after_other p
after place Dummy p = after_other p
after place End p = after_end place p.partners p.running p.ended
after place Fault p = after_other p

-- a place is in a list of places
abbrev pub IsIn : ℕ → List ℕ → Type 0
IsIn x [] = ⊥
IsIn x (y ∷ ys) = (x ≡ y) ⊎ IsIn x ys

-- The Forks and the Ends that are kept are among the places that were passed.
abbrev pub ArePassed : Pairs → Type 0
ArePassed p = (x : ℕ) → (IsIn x p.running → x < length p.partners) × (IsIn x p.ended → x < length p.partners)
