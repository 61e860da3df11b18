-- Steps of laws over what the slots show, the count word and what the seats note. Each lemma gives what a call of `Turns` owes.
use Rattle.std.proofs.Common.{◌≡◌, ℕ, ◌+◌, ◌%◌, ◌^◌, List, [], ◌∷◌, ◌++◌, set, refl, sym, ap, ◌∙◌, subst}
use mathlib.Core.Option.{some}
use mathlib.Core.List.{map-append}
use lib.ListN.{get_elem?}
use lib.Seq.{map-set}
use Rattle.atomic_table.proofs.Lists.{at_map, set_again}
use Rattle.turn_table.specs.declared.look.Look.{Look}
use Rattle.turn_table.specs.declared.look.Look.TheVariants.{Took, Refused, Counted}
use Rattle.turn_table.specs.declared.hand.Hand.{Hand}
use Rattle.turn_table.specs.Hands.{Shows, showing, without_slot, renewed, fresh, spent, noted, took, refused, counted, gave}
use Rattle.turn_table.specs.Seats.{SeatView}
use Rattle.turn_table.specs.Law.{TakeKeeps, HeldKeeps, CountKeeps, PutKeeps, SplitKeeps, JoinKeeps}
use Rattle.turn_table.specs.Notes.{notes, HasAs, OverNotes, NoteMay, TakeMay, CountMay, CountsOn, PutMay, SplitMay, JoinMay}
use Rattle.turn_table.proofs.Hands.{shows_without, showing_again}
use Rattle.turn_table.proofs.Standing.{shown_as}

module _ {V N : Type 0} where
  pub notes_set : (hands : List (Hand V N)) (id : ℕ) (g : Hand V N) → notes (set hands id g) ≡ set (notes hands) id g.note
  notes_set hands id g = map-set (λ (h : Hand V N). h.note) hands id g

  pub notes_at : (hands : List (Hand V N)) (id : ℕ) (h : Hand V N) → get_elem? hands id ≡ some h → get_elem? (notes hands) id ≡ some h.note
  notes_at hands id h at = at_map (λ (x : Hand V N). x.note) hands id h at

  -- a hand that notes what it noted
  pub notes_same : (hands : List (Hand V N)) (id : ℕ) (h g : Hand V N) → get_elem? hands id ≡ some h → g.note ≡ h.note → notes (set hands id g) ≡ notes hands
  notes_same hands id h g at e = notes_set hands id g ∙ ap (set (notes hands) id) e ∙ set_again (notes hands) id h.note (notes_at hands id h at)

renewed_same : {V : Type 0} (f : ℕ → V → V) → ((k : ℕ) (v : V) → f k v ≡ v) → (xs : List (ℕ × V)) → renewed f xs ≡ xs
renewed_same f e [] = refl
renewed_same f e (x ∷ xs) = λ k. (x.0, e x.0 x.1 k) ∷ renewed_same f e xs k

-- putting back what is shown changes nothing that is shown
pub quiet_shown : {V : Type 0} (shown : List V) (i : ℕ) (value : V) (f : ℕ → V → V) (xs : List (ℕ × V)) → Shows shown xs → HasAs i value xs → ((k : ℕ) (v : V) → f k v ≡ v) → showing shown ((i, value) ∷ renewed f (without_slot i xs)) ≡ shown
quiet_shown shown i value f xs s has same = ap (λ (ys : List (ℕ × _)). showing shown ((i, value) ∷ ys)) (renewed_same f same (without_slot i xs))
    ∙ showing_again shown ((i, value) ∷ without_slot i xs) (shown_as shown i value xs s has, shows_without shown i xs s)

module _ {K V N : Type 0} (P : K → List V → ℕ → List N → Type 0) (blank : N) (key : K) (seat : SeatView K V N) where
  abbrev F : K → List V → ℕ → List (Hand V N) → Type 0
  F = OverNotes P

  -- a take keeps the law where the seat notes what it noted
  pub take_quiet : (i : ℕ) (note : Hand V N → Look V → N) → ((l : Look V) → note seat.hand l ≡ seat.hand.note) → TakeKeeps F blank key seat i note
  take_quiet i note same shown count hands st free v at = subst (P key shown count) (sym (notes_same hands seat.number seat.hand (took note seat.hand i v) st.mine (same (Took i v)))) st.kept

  pub take_noted : (i : ℕ) (note : Hand V N → Look V → N) → ((v : V) → TakeMay P key seat i v (note seat.hand (Took i v))) → TakeKeeps F blank key seat i note
  take_noted i note may shown count hands st free v at = subst (P key shown count) (sym (notes_set hands seat.number (took note seat.hand i v)))
      (may v shown count (notes hands) st.kept st.fits.long (st.fits.shows seat.number seat.hand st.mine) (notes_at hands seat.number seat.hand st.mine) at)

  -- and so does one that is refused
  pub held_quiet : (i : ℕ) (note : Hand V N → Look V → N) → ((l : Look V) → note seat.hand l ≡ seat.hand.note) → HeldKeeps F blank key seat i note
  held_quiet i note same shown count hands st one = subst (P key shown count) (sym (notes_same hands seat.number seat.hand (refused note seat.hand i 1) st.mine (same (Refused i 1)))) st.kept

  pub held_noted : (i : ℕ) (note : Hand V N → Look V → N) → NoteMay P key seat (note seat.hand (Refused i 1)) → HeldKeeps F blank key seat i note
  held_noted i note may shown count hands st one = subst (P key shown count) (sym (notes_set hands seat.number (refused note seat.hand i 1)))
      (may shown count (notes hands) st.kept st.fits.long (st.fits.shows seat.number seat.hand st.mine) (notes_at hands seat.number seat.hand st.mine))

  -- a count keeps the law where the law lets the word go on
  pub count_quiet : (note : Hand V N → Look V → N) → ((l : Look V) → note seat.hand l ≡ seat.hand.note) → CountsOn P key seat → CountKeeps F blank key seat note
  count_quiet note same may shown count hands st small = subst (P key shown ((count + 1) % 2 ^ 64)) (sym (notes_same hands seat.number seat.hand (counted note seat.hand count) st.mine (same (Counted count))))
      (may shown count (notes hands) st.kept st.fits.long (st.fits.shows seat.number seat.hand st.mine) (notes_at hands seat.number seat.hand st.mine) small)

  pub count_noted : (note : Hand V N → Look V → N) → CountMay P key seat (λ n. note seat.hand (Counted n)) → CountKeeps F blank key seat note
  count_noted note may shown count hands st small = subst (P key shown ((count + 1) % 2 ^ 64)) (sym (notes_set hands seat.number (counted note seat.hand count)))
      (may shown count (notes hands) st.kept st.fits.long (st.fits.shows seat.number seat.hand st.mine) (notes_at hands seat.number seat.hand st.mine) small)

  -- a put back of what the slot shows, where the others show what they showed
  pub put_quiet : (i : ℕ) (value : V) (xs : List (ℕ × V)) (note : Hand V N → N) (f : ℕ → V → V) → seat.hand.holds ≡ xs → HasAs i value xs → ((k : ℕ) (v : V) → f k v ≡ v) → note seat.hand ≡ seat.hand.note → PutKeeps F blank key seat i value note f
  put_quiet i value xs note f is has same e shown count hands st = let has' = subst (HasAs i value) (sym is) has in subst (λ (z : List V × List N). P key z.0 count z.1)
      (λ k. (sym (quiet_shown shown i value f seat.hand.holds (st.fits.shows seat.number seat.hand st.mine) has' same) k, sym (notes_same hands seat.number seat.hand (gave note f seat.hand i) st.mine e) k)) st.kept

  -- the same, where the seat notes another thing
  pub put_noted : (i : ℕ) (value : V) (xs : List (ℕ × V)) (note : Hand V N → N) (f : ℕ → V → V) → seat.hand.holds ≡ xs → HasAs i value xs → ((k : ℕ) (v : V) → f k v ≡ v) → NoteMay P key seat (note seat.hand) → PutKeeps F blank key seat i value note f
  put_noted i value xs note f is has same may shown count hands st = let shows = st.fits.shows seat.number seat.hand st.mine in let has' = subst (HasAs i value) (sym is) has in subst (λ (z : List V × List N). P key z.0 count z.1)
      (λ k. (sym (quiet_shown shown i value f seat.hand.holds shows has' same) k, sym (notes_set hands seat.number (gave note f seat.hand i)) k))
      (may shown count (notes hands) st.kept st.fits.long shows (notes_at hands seat.number seat.hand st.mine))

  -- a put back that writes what several slots show, at once
  pub put_writes : (i : ℕ) (value : V) (note : Hand V N → N) (f : ℕ → V → V) → PutMay P key seat i value f (note seat.hand) → PutKeeps F blank key seat i value note f
  put_writes i value note f may shown count hands st = subst (P key (showing shown ((i, value) ∷ renewed f (without_slot i seat.hand.holds))) count) (sym (notes_set hands seat.number (gave note f seat.hand i)))
      (may shown count (notes hands) st.kept st.fits.long (st.fits.shows seat.number seat.hand st.mine) (notes_at hands seat.number seat.hand st.mine))

  pub split_noted : (left right : N) → SplitMay P key seat left right → SplitKeeps F blank key seat left right
  split_noted left right may shown count hands st = subst (P key shown count)
      (sym (map-append (λ (h : Hand V N). h.note) (set hands seat.number (noted seat.hand left)) (fresh right ∷ []) ∙ ap (λ (ns : List N). ns ++ right ∷ []) (notes_set hands seat.number (noted seat.hand left))))
      (may shown count (notes hands) st.kept st.fits.long (st.fits.shows seat.number seat.hand st.mine) (notes_at hands seat.number seat.hand st.mine))

  pub join_noted : (from : SeatView K V N) (note : N) → JoinMay P key blank seat from note → JoinKeeps F blank key seat from note
  join_noted from note may shown count hands st two other = subst (P key shown count)
      (sym (notes_set (set hands seat.number (noted seat.hand note)) from.number (spent blank) ∙ ap (λ (ns : List N). set ns from.number blank) (notes_set hands seat.number (noted seat.hand note))))
      (may shown count (notes hands) st.kept st.fits.long (st.fits.shows seat.number seat.hand st.mine) (notes_at hands seat.number seat.hand st.mine) other (notes_at hands from.number from.hand two.mine))
