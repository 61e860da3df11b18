-- A put back keeps the rule.
use Rattle.std.proofs.Common.{◌≡◌, ◌≢◌, ℕ, ◌<◌, ◌≤◌, true, inr, Option, Some, List, ◌∷◌, length, set, slice_index, refl, sym, ap, ◌∙◌, subst, arith, length-set, get_or-set_same, get_or-set_other}
use mathlib.Core.Option.{some, none, some-injective}
use mathlib.Core.Option as maybe
use mathlib.Core.Logic.{dite}
use native.Mathlib.Decide.{ℕ_discrete}
use lib.ListN.{get_elem?}
use Rattle.atomic_table.specs.Table.{Me, gives, Allows, put_back}
use Rattle.atomic_table.specs.Seated.{TableId}
use Rattle.atomic_table.proofs.Lists.{set_here, set_else}
use Rattle.turn_table.specs.declared.hand.Hand.{Hand}
use Rattle.turn_table.specs.declared.place.Place.{Place}
use Rattle.turn_table.specs.declared.opening.Opening.{Opening}
use Rattle.turn_table.specs.Hands.{Has, times, turn, without_slot, renewed, Shows, showing, gave}
use Rattle.turn_table.specs.Law.{PutKeeps}
use Rattle.turn_table.specs.Rows.{turn_word, Row, Rule}
use Rattle.turn_table.specs.Steps.{with, placed, Gave}
use Rattle.turn_table.proofs.Hands.{times_here, times_else, times_has, times_renewed, times_without, times_without_else, shows_within, shows_same, length-showing, showing_else, showing_shows, turn_set, turn_at, turn_two}
use Rattle.turn_table.proofs.Rows.{fits_set, in_seat, mine, stands, rewritten, meets, opened}

-- A hand that holds the slot i puts it back, and the slots that stay show new values
module _ {V N : Type 0} (hands : List (Hand V N)) (shown : List V) (id i : ℕ) (h g : Hand V N) (value : V) (f : ℕ → V → V) (at : get_elem? hands id ≡ some h) (once : (k : ℕ) → turn hands k ≤ 1) (has : Has i h.holds)
    (is : g.holds ≡ renewed f (without_slot i h.holds)) (shows : (j : ℕ) (o : Hand V N) → get_elem? hands j ≡ some o → Shows shown o.holds) where
  abbrev stay : List (ℕ × V)
  stay = renewed f (without_slot i h.holds)

  abbrev later : List V
  later = showing shown ((i, value) ∷ stay)

  pub gone : times i stay ≡ 0
  gone = let a = times_renewed f i (without_slot i h.holds) in let b = times_without i h.holds in let t = turn_at hands id h i at in let o = once i in omega arith

  pub kept_times : (k : ℕ) → k ≢ i → times k stay ≡ times k h.holds
  kept_times k n = times_renewed f k (without_slot i h.holds) ∙ times_without_else i k h.holds n

  pub turn_here : turn (set hands id g) i ≡ 0
  turn_here = let t = turn_set hands id h g i at in let d : times i g.holds ≡ times i stay = ap (times i) is in let z = gone in let a = turn_at hands id h i at in let o = once i in let p = times_has i h.holds has in omega arith

  pub turn_else : (k : ℕ) → k ≢ i → turn (set hands id g) k ≡ turn hands k
  turn_else k n = let t = turn_set hands id h g k at in let d : times k g.holds ≡ times k stay = ap (times k) is in let z = kept_times k n in omega arith

  pub put_once : (k : ℕ) → turn (set hands id g) k ≤ 1
  put_once k = dite (ℕ_discrete k i) (λ e. let q : turn (set hands id g) k ≡ 0 = ap (turn (set hands id g)) e ∙ turn_here in omega arith) (λ n. let q = turn_else k n in let o = once k in omega arith)

  pub all_within : (k : ℕ) → 0 < times k ((i, value) ∷ stay) → k < length shown
  all_within k pos = dite (ℕ_discrete k i) (λ e. subst (λ (z : ℕ). z < length shown) (sym e) (shows_within shown i h.holds (shows id h at) (times_has i h.holds has)))
      (λ n. let t = times_else k i value stay (λ e. n (sym e)) in let q = kept_times k n in shows_within shown k h.holds (shows id h at) (omega arith))

  pub all_once : (k : ℕ) → times k ((i, value) ∷ stay) ≤ 1
  all_once k = dite (ℕ_discrete k i) (λ e. let z : times k stay ≡ times i stay = ap (λ (y : ℕ). times y stay) e in let t = times_here k i value stay (sym e) in let w = gone in omega arith)
      (λ n. let t = times_else k i value stay (λ e. n (sym e)) in let q = kept_times k n in let a = turn_at hands id h k at in let o = once k in omega arith)

  pub all_show : Shows later ((i, value) ∷ stay)
  all_show = showing_shows shown ((i, value) ∷ stay) all_within all_once

  pub later_else : (k : ℕ) → k ≢ i → times k h.holds ≡ 0 → get_elem? later k ≡ get_elem? shown k
  later_else k n z = showing_else shown ((i, value) ∷ stay) k (let t = times_else k i value stay (λ e. n (sym e)) in let q = kept_times k n in omega arith)

  pub others_show : (k : ℕ) (o : Hand V N) → k ≢ id → get_elem? hands k ≡ some o → Shows later o.holds
  others_show k o n e = shows_same shown later o.holds (λ j pos. let t = turn_two hands id k h o j n at e in let c = once j in
      let none' : times j h.holds ≡ 0 = omega arith in later_else j (λ d. let p = times_has i h.holds has in let q : times j h.holds ≡ times i h.holds = ap (λ (y : ℕ). times y h.holds) d in omega arith) none') (shows k o e)

module _ {K V N : Type 0} (fact : K → List V → ℕ → List (Hand V N) → Type 0) (blank : N) (about : Opening K V) where
  abbrev key : K
  key = about.key.value

  pub gives_back : (table : TableId) (i id : ℕ) (me : Me (Option V) (Place K V N)) (value : V) (others : List (ℕ × Option V)) (note : Hand V N → N) (f : ℕ → V → V) → me.0.hand.seated ≡ true → me.1 ≡ (i, Some value) ∷ others → Has i me.0.hand.holds
      → PutKeeps fact blank key (placed table id me.0) i value note f → Allows (Rule fact blank about) table.slots id me (turn_word i) (λ _. 0) (λ _ m. Gave fact blank key table id i note f me m)
  gives_back table i id me value others note f seated is has law s rule wide at small =
      let r = opened fact blank about s id me.0 rule at seated in let h = me.0.hand in let hands : List (Hand V N) = r.hands in let mine' = mine fact blank about s r id me.0 at in
      let g : Hand V N = gave note f h i in let shown : List V = r.shown in let once = r.fits.once in let shows = r.fits.shows in
      let ks : List (ℕ × V) = stay hands shown id i h g value f mine' once has refl shows in
      let later' : List V = later hands shown id i h g value f mine' once has refl shows in
      let here = turn_here hands shown id i h g value f mine' once has refl shows in
      let else = turn_else hands shown id i h g value f mine' once has refl shows in
      let all = all_show hands shown id i h g value f mine' once has refl shows in
      let same = later_else hands shown id i h g value f mine' once has refl shows in
      let near : i < length s.homes = let w = shows_within shown i h.holds (shows id h mine') (times_has i h.holds has) in let l = r.fits.long in omega arith in
      let wide' = r.wide in
      let fits = fits_set blank (length s.homes) shown later' hands id h g r.fits mine' (length-showing shown ((i, value) ∷ ks) ∙ r.fits.long) (in_seat blank g seated)
      (put_once hands shown id i h g value f mine' once has refl shows) all.1 (others_show hands shown id i h g value f mine' once has refl shows) in
      let kept = law shown (slice_index s.words (turn_word (length s.homes))) hands (stands fact blank about table s r id me.0 wide at) in
      let kept' : fact key later' (slice_index (set s.words (turn_word i) 0) (turn_word (length s.homes))) (set hands id g) = subst (λ (n : ℕ). fact key later' n (set hands id g)) (sym (get_or-set_other s.words (turn_word i) (turn_word (length s.homes)) 0 0 (λ e. omega arith))) kept in
      let homes : List (maybe.Option (Option V)) = set s.homes i (some (Some value)) in
      let row = rewritten fact blank about s r id me.0 g (set s.words (turn_word i) 0) homes later' seated (length-set s.words (turn_word i) 0) (length-set s.homes i (some (Some value)))
      (λ j n. dite (ℕ_discrete j i) (λ e. subst (λ (k : ℕ). slice_index (set s.words (turn_word i) 0) (turn_word k) ≡ turn (set hands id g) k) (sym e) (get_or-set_same s.words (turn_word i) 0 0 (omega arith) ∙ sym here))
      (λ d. get_or-set_other s.words (turn_word i) (turn_word j) 0 0 (λ e. d (omega arith)) ∙ r.turns j n ∙ sym (else j d)))
      (λ j u z e. dite (ℕ_discrete j i)
      (λ d. let v : value ≡ u = some-injective value u (sym all.0 ∙ ap (λ (k : ℕ). get_elem? later' k) (sym d) ∙ e) in
      subst (λ (k : ℕ). get_elem? homes k ≡ some (some (Some u))) (sym d) (set_here s.homes i (some (Some value)) near ∙ ap (λ (x : V). some (some (Some x))) v))
      (λ d. let t = turn_at hands id h j mine' in let q = else j d in let gone' : times j h.holds ≡ 0 = omega arith in
      set_else s.homes i j (some (Some value)) d ∙ r.home j u (sym (else j d) ∙ z) (sym (same j d gone') ∙ e)))
      (λ j n z. dite (ℕ_discrete j i) (λ e. let q : turn (set hands id g) j ≡ 0 = ap (turn (set hands id g)) e ∙ here in absurd (omega arith))
      (λ d. set_else s.homes i j (some (Some value)) d ∙ r.out j n (subst (λ (k : ℕ). 0 < k) (else j d) z)))
      fits kept' in (
        with me.0 g,
        gives,
        tt,
        inr (subst (λ (hs : List (maybe.Option (Option V))). Row fact blank about record { words = set s.words (turn_word i) 0; homes = hs; views = set s.views id (with me.0 g) }) (ap (put_back s.homes) (sym is)) row),
        (refl, (later', slice_index s.words (turn_word (length s.homes)), set hands id g, meets fact blank about table s r id me.0 g later' (slice_index s.words (turn_word (length s.homes))) wide at fits kept)),
      )
