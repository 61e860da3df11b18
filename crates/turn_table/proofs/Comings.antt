-- How seats come and go.
use Rattle.std.proofs.Common.{◌≡◌, ◌≢◌, ℕ, zero, suc, ◌+◌, ◌<◌, ◌≤◌, true, false, true≢false, inl, inr, ⊎_elim, Option, Some, None, List, [], ◌∷◌, ◌++◌, map, length, set, replicate, slice_index, refl, sym, ap, ◌∙◌, subst, arith}
use mathlib.Core.Option.{some, none, some-injective, some-ne-none}
use mathlib.Core.Option as maybe
use mathlib.Core.List.{map-append}
use lib.ListN.{get_elem?, length-map, length-replicate}
use lib.Seq.{map-set}
use Rattle.atomic_table.specs.Table.{State, Me, keeps, Allows, Splits, Joins}
use Rattle.atomic_table.specs.Seated.{TableId}
use Rattle.atomic_table.proofs.Lists.{at_set, at_map, at_snoc, set_else}
use Rattle.turn_table.specs.declared.hand.Hand.{Hand}
use Rattle.turn_table.specs.declared.place.Place.{Place}
use Rattle.turn_table.specs.declared.opening.Opening.{Opening}
use Rattle.turn_table.specs.Hands.{times, turn, Shows, fresh, spent, noted}
use Rattle.turn_table.specs.Law.{Fits, SplitKeeps, JoinKeeps}
use Rattle.turn_table.specs.Rows.{turn_word, Row, Rule, unopened, hands_of}
use Rattle.turn_table.specs.Steps.{with, placed}
use Rattle.turn_table.proofs.Hands.{turn_set, turn_append}
use Rattle.turn_table.proofs.Steps.{set_read}
use Rattle.turn_table.proofs.Rows.{only, fits_set, in_seat, mine, stands, same_set, opened}

zeros : (n i : ℕ) → i < n → slice_index (replicate n 0) i ≡ 0
zeros zero i near = absurd (omega arith)
zeros (suc n) zero near = refl
zeros (suc n) (suc i) near = zeros n i (omega arith)

module _ {V N : Type 0} (blank : N) where
  -- a new seat holds nothing
  fits_more : (n : ℕ) (shown : List V) (hands : List (Hand V N)) (note : N) → Fits blank n shown hands → Fits blank n shown (hands ++ fresh note ∷ [])
  fits_more n shown hands note f = record {
    long = f.long;
    once = λ i. let t = turn_append hands (fresh note) i in let o = f.once i in omega arith;
    shows = λ j h e. ⊎_elim (f.shows j h) (λ (t : fresh note ≡ h). subst (λ (x : Hand V N). Shows shown x.holds) t tt) (at_snoc hands (fresh note) h j e);
    over = λ j h e z. ⊎_elim (λ (t : get_elem? hands j ≡ some h). f.over j h t z) (λ (t : fresh note ≡ h). absurd (true≢false (ap (λ (x : Hand V N). x.seated) t ∙ z))) (at_snoc hands (fresh note) h j e);
  }

  -- a hand that holds what it held, or is spent
  pub fits_same : (n : ℕ) (shown : List V) (hands : List (Hand V N)) (id : ℕ) (h g : Hand V N) → Fits blank n shown hands → get_elem? hands id ≡ some h → g.holds ≡ h.holds → (g.seated ≡ false → g ≡ spent blank) → Fits blank n shown (set hands id g)
  fits_same n shown hands id h g f at e over = fits_set blank n shown shown hands id h g f at f.long over
      (λ i. let t = turn_set hands id h g i at in let d : times i g.holds ≡ times i h.holds = ap (times i) e in let o = f.once i in omega arith)
      (subst (Shows shown) (sym e) (f.shows id h at)) (λ k o _ q. f.shows k o q)

module _ {K V N : Type 0} (fact : K → List V → ℕ → List (Hand V N) → Type 0) (blank : N) (about : Opening K V) where
  abbrev St : Type 0
  St = State (Option V) (Place K V N)

  abbrev key : K
  key = about.key.value

  -- the seats change, and no slot comes or goes
  reseated : (s : St) (r : Row fact blank about s) (views : List (Place K V N)) (hands : List (Hand V N)) → hands_of views ≡ hands → ((i : ℕ) → turn hands i ≡ turn r.hands i)
      → ((j : ℕ) (p : Place K V N) → get_elem? views j ≡ some p → p.hand.seated ≡ false → p.key ≡ None) → Fits blank (length s.homes) r.shown hands → fact key r.shown (slice_index s.words (turn_word (length s.homes))) hands
      → Rule fact blank about record { words = s.words; homes = s.homes; views = views }
  reseated s r views hands same turns opened fits kept = inr record {
    shown = r.shown;
    hands = hands;
    same = same;
    sized = r.sized;
    wide = r.wide;
    turns = λ i near. r.turns i near ∙ sym (turns i);
    home = λ i v z. r.home i v (sym (turns i) ∙ z);
    out = λ i near z. r.out i near (subst (λ (n : ℕ). 0 < n) (turns i) z);
    opened = opened;
    fits = fits;
    kept = kept;
  }

  opened_set : (views : List (Place K V N)) (id : ℕ) (q : Place K V N) → (q.hand.seated ≡ false → q.key ≡ None) → ((j : ℕ) (p : Place K V N) → get_elem? views j ≡ some p → p.hand.seated ≡ false → p.key ≡ None)
      → (j : ℕ) (p : Place K V N) → get_elem? (set views id q) j ≡ some p → p.hand.seated ≡ false → p.key ≡ None
  opened_set views id q mine' others j p e z = ⊎_elim (λ (t : (j ≡ id) × (q ≡ p)). ap (λ (x : Place K V N). x.key) (sym t.1) ∙ mine' (ap (λ (x : Place K V N). x.hand.seated) t.1 ∙ z))
      (λ (t : (j ≢ id) × (get_elem? views j ≡ some p)). others j p t.1 z) (at_set views id j q p e)

  pub splits : (table : TableId) (id : ℕ) (p : Place K V N) (left right : N) → p.hand.seated ≡ true → SplitKeeps fact blank key (placed table id p) left right
      → length about.values.value.items ≡ table.slots → Splits (Rule fact blank about) id p (with p (noted p.hand left)) (with p (fresh right))
  splits table id p left right seated law size s rule at =
      let r = opened fact blank about s id p rule at seated in let g : Hand V N = noted p.hand left in let hands : List (Hand V N) = set r.hands id g in let mine' = mine fact blank about s r id p at in
      let one : Fits blank (length s.homes) r.shown hands = fits_same blank (length s.homes) r.shown r.hands id p.hand g r.fits mine' refl (in_seat blank g seated) in
      reseated s r (set s.views id (with p g) ++ with p (fresh right) ∷ []) (hands ++ fresh right ∷ [])
      (map-append (λ (q : Place K V N). q.hand) (set s.views id (with p g)) (with p (fresh right) ∷ []) ∙ ap (λ (hs : List (Hand V N)). hs ++ fresh right ∷ []) (same_set fact blank about s r id (with p g)))
      (λ i. let t = turn_append hands (fresh right) i in let u = turn_set r.hands id p.hand g i mine' in omega arith)
      (λ j q e z. ⊎_elim (λ (t : get_elem? (set s.views id (with p g)) j ≡ some q). opened_set s.views id (with p g) (λ f. absurd (true≢false (sym seated ∙ f))) r.opened j q t z)
      (λ (t : with p (fresh right) ≡ q). absurd (true≢false (ap (λ (x : Place K V N). x.hand.seated) t ∙ z))) (at_snoc (set s.views id (with p g)) (with p (fresh right)) q j e))
      (fits_more blank (length s.homes) r.shown hands right one)
      (law r.shown (slice_index s.words (turn_word (length s.homes))) r.hands (stands fact blank about table s r id p (r.sized ∙ size) at))

  pub joins : (table : TableId) (id : ℕ) (p : Place K V N) (other : ℕ) (q : Place K V N) (note : N) → p.hand.seated ≡ true → q.hand.holds ≡ [] → JoinKeeps fact blank key (placed table id p) (placed table other q) note
      → length about.values.value.items ≡ table.slots → Joins (Rule fact blank about) id p other q (with p (noted p.hand note)) record { key = None; hand = spent blank }
  joins table id p other q note seated empty law size s rule at two at' =
      let r = opened fact blank about s id p rule at seated in let g : Hand V N = noted p.hand note in let hands : List (Hand V N) = set r.hands id g in let mine' = mine fact blank about s r id p at in
      let w : Place K V N = with p g in let gone : Place K V N = record { key = None; hand = spent blank } in let views : List (Place K V N) = set s.views id w in let n : ℕ = length s.homes in
      let was : get_elem? s.views other ≡ some q = sym (set_else s.views id other w two) ∙ at' in let theirs = mine fact blank about s r other q was in
      let theirs' : get_elem? hands other ≡ some q.hand = set_else r.hands id other g two ∙ theirs in
      let one : Fits blank n r.shown hands = fits_same blank n r.shown r.hands id p.hand g r.fits mine' refl (in_seat blank g seated) in
      reseated s r (set views other gone) (set hands other (spent blank))
      (map-set (λ (x : Place K V N). x.hand) views other gone ∙ ap (λ (hs : List (Hand V N)). set hs other (spent blank)) (same_set fact blank about s r id w))
      (λ i. let t = turn_set hands other q.hand (spent blank) i theirs' in let u = turn_set r.hands id p.hand g i mine' in let e : times i q.hand.holds ≡ 0 = ap (times i) empty in omega arith)
      (opened_set views other gone (λ _. refl) (opened_set s.views id w (λ f. absurd (true≢false (sym seated ∙ f))) r.opened))
      (fits_same blank n r.shown hands other q.hand (spent blank) one theirs' (sym empty) (λ _. refl))
      (law r.shown (slice_index s.words (turn_word n)) r.hands (stands fact blank about table s r id p (r.sized ∙ size) at) (stands fact blank about table s r other q (r.sized ∙ size) was) two)

  -- the first seat gets its note
  pub opens : (values : List V) (note : N) (slots id : ℕ) (me : Me (Option V) (Place K V N)) → fact key values 0 (fresh note ∷ []) → about.values.value.items ≡ map Some values → id ≡ 0 → me ≡ (unopened key blank, [])
      → Allows (Rule fact blank about) slots id me 0 (λ n. n) (λ _ m. m ≡ (with me.0 (fresh note), me.1))
  opens values note slots id me law are first is s (inl u) wide at small =
      let w : Place K V N = with me.0 (fresh note) in let hands : List (Hand V N) = fresh note ∷ [] in let n : ℕ = length s.homes in
      let homes : s.homes ≡ map some (map Some values) = u.homes ∙ ap (map some) are in
      let long : n ≡ length values = ap length homes ∙ length-map (map Some values) some ∙ length-map values Some in
      let zero' : (i : ℕ) → i ≤ n → slice_index s.words (turn_word i) ≡ 0 = λ i near. ap (λ (ws : List ℕ). slice_index ws (turn_word i)) u.words ∙ zeros (turn_word n + 8) (turn_word i) (omega arith) in
      let views : set s.views id w ≡ w ∷ [] = ap (λ (vs : List (Place K V N)). set vs id w) u.views ∙ ap (λ (j : ℕ). set (unopened key blank ∷ []) j w) first in
      let row : Row fact blank about record { words = s.words; homes = s.homes; views = w ∷ [] } = record {
        shown = values;
        hands = hands;
        same = refl;
        sized = ap length u.homes ∙ length-map about.values.value.items some;
        wide = ap length u.words ∙ length-replicate (turn_word n + 8) 0;
        turns = λ i near. zero' i (omega arith);
        home = λ i v _ e. ap (λ (hs : List (maybe.Option (Option V))). get_elem? hs i) homes ∙ at_map some (map Some values) i (Some v) (at_map Some values i v e);
        out = λ i near pos. absurd (omega arith);
        opened = λ j p e z. absurd (true≢false (ap (λ (x : Place K V N). x.hand.seated) (only w p j e) ∙ z));
        fits = record {
          long = sym long;
          once = λ i. omega arith;
          shows = λ j h e. subst (λ (x : Hand V N). Shows values x.holds) (only (fresh note) h j e) tt;
          over = λ j h e z. absurd (true≢false (ap (λ (x : Hand V N). x.seated) (only (fresh note) h j e) ∙ z));
        };
        kept = subst (λ (c : ℕ). fact key values c hands) (sym (zero' n (omega arith))) law;
      } in (
        w,
        keeps,
        tt,
        inr (subst (Row fact blank about) (λ k. record { words = sym (set_read s.words 0) k; homes = s.homes; views = sym views k }) row),
        refl,
      )
  opens values note slots id me law are first is s (inr r) wide at small = let none' : me.0.key ≡ None = r.opened id me.0 at (ap (λ (m : Me (Option V) (Place K V N)). m.0.hand.seated) is) in let some' : me.0.key ≡ Some key = ap (λ (m : Me (Option V) (Place K V N)). m.0.key) is in absurd (cc)
