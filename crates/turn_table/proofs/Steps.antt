-- Each step keeps the rule.
use Rattle.std.proofs.Common.{◌≡◌, ◌≢◌, ℕ, zero, suc, ◌+◌, ◌%◌, ◌^◌, ◌<◌, ◌≤◌, eqb, true, inr, Option, Some, List, [], ◌∷◌, length, set, slice_index, refl, sym, ap, ◌∙◌, subst, arith, length-set, get_or-set_same, get_or-set_other}
use mathlib.Core.Option.{some, none}
use mathlib.Core.Logic.{dite}
use native.Mathlib.Decide.{ℕ_discrete}
use prog.Atomic.{either}
use lib.ListN.{get_elem?}
use Rattle.atomic_table.specs.Table.{State, Me, Act, keeps, takes, Allows, Valid, stepped, carried_after}
use Rattle.atomic_table.specs.Seated.{TableId}
use Rattle.atomic_table.proofs.Lists.{set_here, set_else, exchanged}
use Rattle.turn_table.specs.declared.look.Look.{Look}
use Rattle.turn_table.specs.declared.hand.Hand.{Hand}
use Rattle.turn_table.specs.declared.place.Place.{Place}
use Rattle.turn_table.specs.declared.opening.Opening.{Opening}
use Rattle.turn_table.specs.Hands.{times, turn, Shows, took, refused, counted}
use Rattle.turn_table.specs.Law.{Fits, TakeKeeps, HeldKeeps, CountKeeps}
use Rattle.turn_table.specs.Rows.{turn_word, Row, Rule}
use Rattle.turn_table.specs.Steps.{with, placed, Tried, Drew}
use Rattle.turn_table.proofs.Hands.{some_at, times_here, times_else, turn_set}
use Rattle.turn_table.proofs.Rows.{fits_set, mine, stands, rewritten, meets, opened, in_seat}

-- writing what is there changes nothing
pub set_read : (l : List ℕ) (i : ℕ) → set l i (slice_index l i) ≡ l
set_read [] i = refl
set_read (x ∷ xs) zero = refl
set_read (x ∷ xs) (suc i) = ap (λ (ys : List ℕ). x ∷ ys) (set_read xs i)

module _ {K V N : Type 0} (fact : K → List V → ℕ → List (Hand V N) → Type 0) (blank : N) (about : Opening K V) where
  abbrev St : Type 0
  St = State (Option V) (Place K V N)

  abbrev M : Type 0
  M = Me (Option V) (Place K V N)

  abbrev key : K
  key = about.key.value

  -- the step on word i to n is allowed, and tells this
  abbrev Goes : St → ℕ → ℕ → M → (M → Type 0) → ℕ → Type 0
  Goes s i id me told n = (w : Place K V N) × (a : Act (Option V)) × Valid s.homes me.1 a × Rule fact blank about (stepped s i n id me.1 w a) × told (w, carried_after me.1 a)

  -- a hand that holds the same slots as before
  turn_same : (hands : List (Hand V N)) (id : ℕ) (h g : Hand V N) → get_elem? hands id ≡ some h → g.holds ≡ h.holds → (i : ℕ) → turn (set hands id g) i ≡ turn hands i
  turn_same hands id h g at e i = let t = turn_set hands id h g i at in let d : times i g.holds ≡ times i h.holds = ap (times i) e in omega arith

  -- the hand changes, and no slot comes or goes
  told_more : (table : TableId) (s : St) (r : Row fact blank about s) (id : ℕ) (p : Place K V N) (g : Hand V N) (words : List ℕ) → get_elem? s.views id ≡ some p → g.seated ≡ true → g.holds ≡ p.hand.holds → length words ≡ length s.words
      → ((i : ℕ) → i < length s.homes → slice_index words (turn_word i) ≡ slice_index s.words (turn_word i)) → fact key r.shown (slice_index words (turn_word (length s.homes))) (set r.hands id g)
      → Fits blank (length s.homes) r.shown (set r.hands id g) × Row fact blank about record { words = words; homes = s.homes; views = set s.views id (with p g) }
  told_more table s r id p g words at seated e wide words_same kept =
      let mine' = mine fact blank about s r id p at in let same = turn_same r.hands id p.hand g mine' e in
      let fits = fits_set blank (length s.homes) r.shown r.shown r.hands id p.hand g r.fits mine' r.fits.long (in_seat blank g seated) (λ i. subst (λ (n : ℕ). n ≤ 1) (sym (same i)) (r.fits.once i))
      (subst (Shows r.shown) (sym e) (r.fits.shows id p.hand mine')) (λ k o _ q. r.fits.shows k o q) in (
        fits,
        rewritten fact blank about s r id p g words s.homes r.shown seated wide refl (λ i near. words_same i near ∙ r.turns i near ∙ sym (same i))
            (λ i v z. r.home i v (sym (same i) ∙ z)) (λ i near z. r.out i near (subst (λ (n : ℕ). 0 < n) (same i) z)) fits kept,
      )

  -- a take that finds the turn free
  hit : (table : TableId) (i id : ℕ) (me : M) (note : Hand V N → Look V → N) (s : St) (r : Row fact blank about s) → length s.homes ≡ table.slots → get_elem? s.views id ≡ some me.0 → me.0.hand.seated ≡ true → i < table.slots
      → TakeKeeps fact blank key (placed table id me.0) i note → slice_index s.words (turn_word i) ≡ 0 → Goes s (turn_word i) id me (Tried fact blank key table id i note me (slice_index s.words (turn_word i))) 1
  hit table i id me note s r wide at seated near law free =
      let h = me.0.hand in let hands : List (Hand V N) = r.hands in let near' : i < length s.homes = subst (λ (n : ℕ). i < n) (sym wide) near in let mine' = mine fact blank about s r id me.0 at in
      let zero' : turn hands i ≡ 0 = sym (r.turns i near') ∙ free in let found = some_at r.shown i (subst (λ (n : ℕ). i < n) (sym r.fits.long) near') in let v = found.0 in
      let g : Hand V N = took note h i v in
      let here : turn (set hands id g) i ≡ 1 = let t = turn_set hands id h g i mine' in let u = times_here i i v h.holds refl in omega arith in
      let else : (j : ℕ) → j ≢ i → turn (set hands id g) j ≡ turn hands j = λ j n. let t = turn_set hands id h g j mine' in let u = times_else j i v h.holds (λ e. n (sym e)) in omega arith in
      let once : (j : ℕ) → turn (set hands id g) j ≤ 1 = λ j. dite (ℕ_discrete j i) (λ e. let q : turn (set hands id g) j ≡ 1 = ap (turn (set hands id g)) e ∙ here in omega arith) (λ n. let q = else j n in let o = r.fits.once j in omega arith) in
      let fits = fits_set blank (length s.homes) r.shown r.shown hands id h g r.fits mine' r.fits.long (in_seat blank g seated) once (found.1, r.fits.shows id h mine') (λ k o _ q. r.fits.shows k o q) in
      let kept = law r.shown (slice_index s.words (turn_word (length s.homes))) hands (stands fact blank about table s r id me.0 wide at) zero' v found.1 in
      let w : Place K V N = with me.0 g in
      let wide' = r.wide in
      let kept' = subst (λ (n : ℕ). fact key r.shown n (set hands id g)) (sym (get_or-set_other s.words (turn_word i) (turn_word (length s.homes)) 1 0 (λ e. omega arith))) kept in
      let row = rewritten fact blank about s r id me.0 g (set s.words (turn_word i) 1) (set s.homes i none) r.shown seated (length-set s.words (turn_word i) 1) (length-set s.homes i none)
      (λ j n. dite (ℕ_discrete j i) (λ e. subst (λ (k : ℕ). slice_index (set s.words (turn_word i) 1) (turn_word k) ≡ turn (set hands id g) k) (sym e) (get_or-set_same s.words (turn_word i) 1 0 (omega arith) ∙ sym here))
      (λ d. get_or-set_other s.words (turn_word i) (turn_word j) 1 0 (λ e. d (omega arith)) ∙ r.turns j n ∙ sym (else j d)))
      (λ j u z. dite (ℕ_discrete j i) (λ e. let q : turn (set hands id g) j ≡ 1 = ap (turn (set hands id g)) e ∙ here in absurd (omega arith))
      (λ d e. set_else s.homes i j none d ∙ r.home j u (sym (else j d) ∙ z) e))
      (λ j n z. dite (ℕ_discrete j i) (λ e. subst (λ (k : ℕ). get_elem? (set s.homes i none) k ≡ some none) (sym e) (set_here s.homes i none near'))
      (λ d. set_else s.homes i j none d ∙ r.out j n (subst (λ (k : ℕ). 0 < k) (else j d) z)))
      fits kept' in (
        w,
        takes i (Some v),
        r.home i v zero' found.1,
        inr row,
        ((λ _. (v, refl, (r.shown, slice_index s.words (turn_word (length s.homes)), set hands id g, meets fact blank about table s r id me.0 g r.shown (slice_index s.words (turn_word (length s.homes))) wide at fits kept))), (λ n. absurd (n free))),
      )

  -- a take that finds it held
  miss : (table : TableId) (i id : ℕ) (me : M) (note : Hand V N → Look V → N) (s : St) (r : Row fact blank about s) → length s.homes ≡ table.slots → get_elem? s.views id ≡ some me.0 → me.0.hand.seated ≡ true → i < table.slots
      → HeldKeeps fact blank key (placed table id me.0) i note → slice_index s.words (turn_word i) ≢ 0 → Goes s (turn_word i) id me (Tried fact blank key table id i note me (slice_index s.words (turn_word i))) (slice_index s.words (turn_word i))
  miss table i id me note s r wide at seated near law taken =
      let h = me.0.hand in let hands : List (Hand V N) = r.hands in let near' : i < length s.homes = subst (λ (n : ℕ). i < n) (sym wide) near in
      let one : turn hands i ≡ 1 = let t = r.turns i near' in let o = r.fits.once i in omega arith in let seen : slice_index s.words (turn_word i) ≡ 1 = r.turns i near' ∙ one in
      let g : Hand V N = refused note h i (slice_index s.words (turn_word i)) in
      let kept : fact key r.shown (slice_index s.words (turn_word (length s.homes))) (set hands id g) = subst (λ (n : ℕ). fact key r.shown (slice_index s.words (turn_word (length s.homes))) (set hands id (refused note h i n))) (sym seen)
      (law r.shown (slice_index s.words (turn_word (length s.homes))) hands (stands fact blank about table s r id me.0 wide at) one) in
      let again : set s.words (turn_word i) (slice_index s.words (turn_word i)) ≡ s.words = set_read s.words (turn_word i) in
      let both = told_more table s r id me.0 g s.words at seated refl refl (λ j _. refl) kept in (
        with me.0 g,
        keeps,
        tt,
        inr (subst (λ (ws : List ℕ). Row fact blank about record { words = ws; homes = s.homes; views = set s.views id (with me.0 g) }) (sym again) both.1),
        ((λ z. absurd (taken z)), (λ _. (refl, (r.shown, slice_index s.words (turn_word (length s.homes)), set hands id g, meets fact blank about table s r id me.0 g r.shown (slice_index s.words (turn_word (length s.homes))) wide at both.0 kept, turn_same hands id h g (mine fact blank about s r id me.0 at) refl i ∙ sym (r.turns i near'))))),
      )

  pub tries : (table : TableId) (i id : ℕ) (me : M) (note : Hand V N → Look V → N) → me.0.hand.seated ≡ true → i < table.slots → TakeKeeps fact blank key (placed table id me.0) i note → HeldKeeps fact blank key (placed table id me.0) i note
      → Allows (Rule fact blank about) table.slots id me (turn_word i) (λ n. either (eqb n 0) 1 n) (Tried fact blank key table id i note me)
  tries table i id me note seated near takes' held s law wide at small = let r = opened fact blank about s id me.0 law at seated in
      exchanged (slice_index s.words (turn_word i)) 0 1 (Goes s (turn_word i) id me (Tried fact blank key table id i note me (slice_index s.words (turn_word i))))
      (hit table i id me note s r wide at seated near takes') (miss table i id me note s r wide at seated near held)

  pub draws : (table : TableId) (last id : ℕ) (me : M) (note : Hand V N → Look V → N) → last ≡ turn_word table.slots → me.0.hand.seated ≡ true → CountKeeps fact blank key (placed table id me.0) note
      → Allows (Rule fact blank about) table.slots id me last (λ n. (n + 1) % 2 ^ 64) (Drew fact blank key table id note me)
  draws table last id me note is seated law s rule wide at small =
      let r = opened fact blank about s id me.0 rule at seated in let h = me.0.hand in let n : ℕ = slice_index s.words last in let end : last ≡ turn_word (length s.homes) = is ∙ ap turn_word (sym wide) in
      let g : Hand V N = counted note h n in let words : List ℕ = set s.words last ((n + 1) % 2 ^ 64) in let was : slice_index s.words (turn_word (length s.homes)) ≡ n = ap (slice_index s.words) (sym end) in let wide' = r.wide in
      let kept : fact key r.shown ((n + 1) % 2 ^ 64) (set r.hands id g) = subst (λ (m : ℕ). fact key r.shown ((m + 1) % 2 ^ 64) (set r.hands id (counted note h m))) was
      (law r.shown (slice_index s.words (turn_word (length s.homes))) r.hands (stands fact blank about table s r id me.0 wide at) (subst (λ (m : ℕ). m < 2 ^ 64) (sym was) small)) in
      let now : slice_index words (turn_word (length s.homes)) ≡ (n + 1) % 2 ^ 64 = ap (slice_index words) (sym end) ∙ get_or-set_same s.words last ((n + 1) % 2 ^ 64) 0 (omega arith) in
      let both = told_more table s r id me.0 g words at seated refl (length-set s.words last ((n + 1) % 2 ^ 64)) (λ j near. get_or-set_other s.words last (turn_word j) ((n + 1) % 2 ^ 64) 0 (λ e. omega arith))
      (subst (λ (m : ℕ). fact key r.shown m (set r.hands id g)) (sym now) kept) in (
        with me.0 g,
        keeps,
        tt,
        inr both.1,
        (refl, (r.shown, (n + 1) % 2 ^ 64, set r.hands id g, meets fact blank about table s r id me.0 g r.shown ((n + 1) % 2 ^ 64) wide at both.0 kept)),
      )
