-- Steps of a law over what is shown, counted and noted, beside which hands without places hold nothing. Each lemma leads from what a call owes
-- for the law alone to what it owes for both.
use Rattle.std.proofs.Common.{◌≡◌, ◌≢◌, ℕ, ◌<◌, List, [], ◌∷◌, ◌++◌, set, ◌⊎◌, inl, inr, refl, sym, ap, ◌∙◌, subst, arith}
use mathlib.Core.Option.{some}
use lib.ListN.{get_elem?}
use Rattle.atomic_table.proofs.Lists.{at_set, at_snoc}
use Rattle.turn_table.specs.declared.look.Look.{Look}
use Rattle.turn_table.specs.declared.look.Look.TheVariants.{Took, Refused, Counted}
use Rattle.turn_table.specs.declared.hand.Hand.{Hand}
use Rattle.turn_table.specs.Hands.{fresh, spent, noted, took, refused, counted, gave}
use Rattle.turn_table.specs.Seats.{SeatView}
use Rattle.turn_table.specs.Law.{Stands, TakeKeeps, HeldKeeps, CountKeeps, PutKeeps, SplitKeeps, JoinKeeps}
use Rattle.turn_table.specs.Notes.{OverNotes}
use Rattle.turn_table.specs.Places.{Rests, WithPlaces}

module _ {V N : Type 0} (places_in : N → ℕ) where
  set_case : (hands : List (Hand V N)) (id : ℕ) (g : Hand V N) → Rests places_in hands → (places_in g.note ≡ 0 → g.holds ≡ []) → (j : ℕ) (h : Hand V N) → places_in h.note ≡ 0
      → ((j ≡ id) × (g ≡ h)) ⊎ ((j ≢ id) × (get_elem? hands j ≡ some h)) → h.holds ≡ []
  set_case hands id g rests its j h none (inl here) = subst (λ (x : Hand V N). x.holds ≡ []) here.1 (its (ap (λ (x : Hand V N). places_in x.note) here.1 ∙ none))
  set_case hands id g rests its j h none (inr there) = rests j h there.1 none

  -- a hand is another one now, which holds nothing if it has no places
  pub rests_set : (hands : List (Hand V N)) (id : ℕ) (g : Hand V N) → Rests places_in hands → (places_in g.note ≡ 0 → g.holds ≡ []) → Rests places_in (set hands id g)
  rests_set hands id g rests its j h at none = set_case hands id g rests its j h none (at_set hands id j g h at)

  longer_case : (hands : List (Hand V N)) (note : N) → Rests places_in hands → (j : ℕ) (h : Hand V N) → places_in h.note ≡ 0 → (get_elem? hands j ≡ some h) ⊎ (fresh note ≡ h) → h.holds ≡ []
  longer_case hands note rests j h none (inl before) = rests j h before none
  longer_case hands note rests j h none (inr new) = ap (λ (x : Hand V N). x.holds) (sym new)

  -- one hand more, which holds nothing
  pub rests_longer : (hands : List (Hand V N)) (note : N) → Rests places_in hands → Rests places_in (hands ++ fresh note ∷ [])
  rests_longer hands note rests j h at none = longer_case hands note rests j h none (at_snoc hands (fresh note) h j at)

module _ {K V N : Type 0} (places_in : N → ℕ) (P : K → List V → ℕ → List N → Type 0) (blank : N) (key : K) (seat : SeatView K V N) where
  abbrev F : K → List V → ℕ → List (Hand V N) → Type 0
  F = WithPlaces places_in P

  -- what holds of both holds of the law alone
  pub alone : (s : SeatView K V N) (shown : List V) (count : ℕ) (hands : List (Hand V N)) → Stands F blank key s shown count hands → Stands (OverNotes P) blank key s shown count hands
  alone s shown count hands st = record { fits = st.fits; kept = st.kept.0; mine = st.mine }

  pub take_rests : (i : ℕ) (note : Hand V N → Look V → N) → ((v : V) → 0 < places_in (note seat.hand (Took i v))) → TakeKeeps (OverNotes P) blank key seat i note → TakeKeeps F blank key seat i note
  take_rests i note placed keeps shown count hands st free v at = (
    keeps shown count hands (alone seat shown count hands st) free v at,
    rests_set places_in hands seat.number (took note seat.hand i v) st.kept.1 (λ none. let p = placed v in absurd (omega arith)),
  )

  pub held_rests : (i : ℕ) (note : Hand V N → Look V → N) → 0 < places_in (note seat.hand (Refused i 1)) → HeldKeeps (OverNotes P) blank key seat i note → HeldKeeps F blank key seat i note
  held_rests i note placed keeps shown count hands st one = (
    keeps shown count hands (alone seat shown count hands st) one,
    rests_set places_in hands seat.number (refused note seat.hand i 1) st.kept.1 (λ none. absurd (omega arith)),
  )

  pub count_rests : (note : Hand V N → Look V → N) → ((n : ℕ) → 0 < places_in (note seat.hand (Counted n))) → CountKeeps (OverNotes P) blank key seat note → CountKeeps F blank key seat note
  count_rests note placed keeps shown count hands st small = (
    keeps shown count hands (alone seat shown count hands st) small,
    rests_set places_in hands seat.number (counted note seat.hand count) st.kept.1 (λ none. let p = placed count in absurd (omega arith)),
  )

  pub put_rests : (i : ℕ) (value : V) (note : Hand V N → N) (f : ℕ → V → V) → 0 < places_in (note seat.hand) → PutKeeps (OverNotes P) blank key seat i value note f → PutKeeps F blank key seat i value note f
  put_rests i value note f placed keeps shown count hands st = (
    keeps shown count hands (alone seat shown count hands st),
    rests_set places_in hands seat.number (gave note f seat.hand i) st.kept.1 (λ none. absurd (omega arith)),
  )

  pub split_rests : (left right : N) → 0 < places_in left → SplitKeeps (OverNotes P) blank key seat left right → SplitKeeps F blank key seat left right
  split_rests left right placed keeps shown count hands st = (
    keeps shown count hands (alone seat shown count hands st),
    rests_longer places_in (set hands seat.number (noted seat.hand left)) right (rests_set places_in hands seat.number (noted seat.hand left) st.kept.1 (λ none. absurd (omega arith))),
  )

  pub join_rests : (from : SeatView K V N) (note : N) → 0 < places_in note → JoinKeeps (OverNotes P) blank key seat from note → JoinKeeps F blank key seat from note
  join_rests from note placed keeps shown count hands st two other = (
    keeps shown count hands (alone seat shown count hands st) (alone from shown count hands two) other,
    rests_set places_in (set hands seat.number (noted seat.hand note)) from.number (spent blank)
        (rests_set places_in hands seat.number (noted seat.hand note) st.kept.1 (λ none. absurd (omega arith))) (λ none. refl),
  )
