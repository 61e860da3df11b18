-- The rule of the table below: what a seat knows of a state, and what a later state owes.
use Rattle.std.proofs.Common.{◌≡◌, ◌≢◌, ℕ, zero, suc, ◌+◌, ◌<◌, ◌≤◌, true, false, true≢false, inl, inr, ⊎_elim, Option, Some, List, [], ◌∷◌, length, set, slice_index, sym, ap, ◌∙◌, subst, arith}
use mathlib.Core.Option.{some, none, some-injective, some-ne-none}
use mathlib.Core.Option as maybe
use lib.ListN.{get_elem?}
use lib.Seq.{map-set}
use Rattle.atomic_table.specs.Table.{State}
use Rattle.atomic_table.specs.Seated.{TableId}
use Rattle.atomic_table.proofs.Lists.{at_set, at_map, set_here}
use Rattle.turn_table.specs.declared.hand.Hand.{Hand}
use Rattle.turn_table.specs.declared.place.Place.{Place}
use Rattle.turn_table.specs.declared.opening.Opening.{Opening}
use Rattle.turn_table.specs.Hands.{turn, Shows, spent}
use Rattle.turn_table.specs.Law.{Fits, Stands}
use Rattle.turn_table.specs.Rows.{turn_word, Row, Rule, unopened, hands_of}
use Rattle.turn_table.specs.Steps.{with, placed}
use Rattle.turn_table.proofs.Hands.{at_within}

pub only : {A : Type 0} (a b : A) (i : ℕ) → get_elem? (a ∷ []) i ≡ some b → a ≡ b
only a b zero e = some-injective a b e
only a b (suc i) e = absurd (some-ne-none b (sym e))

-- one hand changes, and what is shown
pub fits_set : {V N : Type 0} (blank : N) (n : ℕ) (shown later : List V) (hands : List (Hand V N)) (id : ℕ) (h g : Hand V N) → Fits blank n shown hands → get_elem? hands id ≡ some h → length later ≡ n → (g.seated ≡ false → g ≡ spent blank)
    → ((i : ℕ) → turn (set hands id g) i ≤ 1) → Shows later g.holds → ((k : ℕ) (o : Hand V N) → k ≢ id → get_elem? hands k ≡ some o → Shows later o.holds) → Fits blank n later (set hands id g)
fits_set blank n shown later hands id h g f at long over once mine others = record {
  long = long;
  once = once;
  shows = λ j o e. ⊎_elim (λ (t : (j ≡ id) × (g ≡ o)). subst (λ (x : Hand _ _). Shows later x.holds) t.1 mine) (λ (t : (j ≢ id) × (get_elem? hands j ≡ some o)). others j o t.0 t.1) (at_set hands id j g o e);
  over = λ j o e z. ⊎_elim (λ (t : (j ≡ id) × (g ≡ o)). sym t.1 ∙ over (ap (λ (x : Hand _ _). x.seated) t.1 ∙ z)) (λ (t : (j ≢ id) × (get_elem? hands j ≡ some o)). f.over j o t.1 z) (at_set hands id j g o e);
}

-- a hand with a seat is not spent
pub in_seat : {V N : Type 0} (blank : N) (g : Hand V N) → g.seated ≡ true → g.seated ≡ false → g ≡ spent blank
in_seat blank g seated z = absurd (true≢false (sym seated ∙ z))

module _ {K V N : Type 0} (fact : K → List V → ℕ → List (Hand V N) → Type 0) (blank : N) (about : Opening K V) where
  abbrev key : K
  key = about.key.value

  abbrev St : Type 0
  St = State (Option V) (Place K V N)

  -- what the hands are, and that the seat's is one of them
  pub mine : (s : St) (r : Row fact blank about s) (id : ℕ) (p : Place K V N) → get_elem? s.views id ≡ some p → get_elem? r.hands id ≡ some p.hand
  mine s r id p at = subst (λ (hs : List (Hand V N)). get_elem? hs id ≡ some p.hand) r.same (at_map (λ (q : Place K V N). q.hand) s.views id p at)

  pub stands : (table : TableId) (s : St) (r : Row fact blank about s) (id : ℕ) (p : Place K V N) → length s.homes ≡ table.slots → get_elem? s.views id ≡ some p
      → Stands fact blank key (placed table id p) r.shown (slice_index s.words (turn_word (length s.homes))) r.hands
  stands table s r id p wide at = record { fits = subst (λ (n : ℕ). Fits blank n r.shown r.hands) wide r.fits; kept = r.kept; mine = mine s r id p at }

  pub same_set : (s : St) (r : Row fact blank about s) (id : ℕ) (w : Place K V N) → hands_of (set s.views id w) ≡ set r.hands id w.hand
  same_set s r id w = map-set (λ (q : Place K V N). q.hand) s.views id w ∙ ap (λ (hs : List (Hand V N)). set hs id w.hand) r.same

  -- one seat's hand changes, and with it words, homes and what is shown
  pub rewritten : (s : St) (r : Row fact blank about s) (id : ℕ) (p : Place K V N) (g : Hand V N) (words : List ℕ) (homes : List (maybe.Option (Option V))) (later : List V) → g.seated ≡ true → length words ≡ length s.words → length homes ≡ length s.homes
      → ((i : ℕ) → i < length s.homes → slice_index words (turn_word i) ≡ turn (set r.hands id g) i)
      → ((i : ℕ) (v : V) → turn (set r.hands id g) i ≡ 0 → get_elem? later i ≡ some v → get_elem? homes i ≡ some (some (Some v)))
      → ((i : ℕ) → i < length s.homes → 0 < turn (set r.hands id g) i → get_elem? homes i ≡ some none)
      → Fits blank (length s.homes) later (set r.hands id g) → fact key later (slice_index words (turn_word (length s.homes))) (set r.hands id g)
      → Row fact blank about record { words = words; homes = homes; views = set s.views id (with p g) }
  rewritten s r id p g words homes later seated wide long turns home out fits kept = record {
    shown = later;
    hands = set r.hands id g;
    same = same_set s r id (with p g);
    sized = long ∙ r.sized;
    wide = wide ∙ r.wide ∙ ap (λ n. turn_word n + 8) (sym long);
    turns = λ i near. turns i (omega arith);
    home = home;
    out = λ i near. out i (omega arith);
    opened = λ j q e z. ⊎_elim (λ (t : (j ≡ id) × (with p g ≡ q)). absurd (true≢false (sym seated ∙ ap (λ (x : Place K V N). x.hand.seated) t.1 ∙ z)))
        (λ (t : (j ≢ id) × (get_elem? s.views j ≡ some q)). r.opened j q t.1 z) (at_set s.views id j (with p g) q e);
    fits = subst (λ (n : ℕ). Fits blank n later (set r.hands id g)) (sym long) fits;
    kept = subst (λ (n : ℕ). fact key later (slice_index words (turn_word n)) (set r.hands id g)) (sym long) kept;
  }

  -- the state after, as the seat knows it
  pub meets : (table : TableId) (s : St) (r : Row fact blank about s) (id : ℕ) (p : Place K V N) (g : Hand V N) (later : List V) (count : ℕ) → length s.homes ≡ table.slots → get_elem? s.views id ≡ some p
      → Fits blank (length s.homes) later (set r.hands id g) → fact key later count (set r.hands id g) → Stands fact blank key (placed table id (with p g)) later count (set r.hands id g)
  meets table s r id p g later count wide at fits kept = record {
    fits = subst (λ (n : ℕ). Fits blank n later (set r.hands id g)) wide fits;
    kept = kept;
    mine = set_here r.hands id g (at_within r.hands id p.hand (mine s r id p at));
  }

module _ {K V N : Type 0} (fact : K → List V → ℕ → List (Hand V N) → Type 0) (blank : N) where
  -- where a seat has its hand, the row is open
  pub opened : (about : Opening K V) (s : State (Option V) (Place K V N)) (id : ℕ) (p : Place K V N) → Rule fact blank about s → get_elem? s.views id ≡ some p → p.hand.seated ≡ true → Row fact blank about s
  opened about s id p (inl u) at seated = absurd (true≢false (sym seated ∙ ap (λ (q : Place K V N). q.hand.seated) (sym (only (unopened about.key.value blank) p id (subst (λ (vs : List (Place K V N)). get_elem? vs id ≡ some p) u.views at)))))
  opened about s id p (inr r) at seated = r
