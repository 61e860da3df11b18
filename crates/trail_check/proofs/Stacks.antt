-- What is known after each place, and how it changes with the next one.
use Rattle.std.proofs.Common.{◌≡◌, ◌↔◌, ℕ, suc, ◌≤◌, ◌<◌, List, [], ◌∷◌, ◌++◌, inl, inr, length, get_or, set, refl, sym, subst, ap, ◌∙◌, arith}
use Rattle.std.specs.Prelude.{Option, None, Some, unwrap_or}
use Rattle.std.proofs.lemmas.Bool.{cases_eq}
use Rattle.depth_first_list.specs.Actions.{forks, ends, Action}
use Rattle.depth_first_list.specs.Runs.{IsDepthFirst}
use Rattle.depth_first_list.specs.Facts.{deed_at}
use Rattle.trail_check.specs.Partners.{IsPartner}
use Rattle.trail_check.specs.Pairing.{Pairs, no_pairs, IsIn}
use Rattle.trail_check.proofs.GrowingLists.{get_left, get_last, get_set_here, get_set_other, length_set, length_more}
use Rattle.trail_check.proofs.Partnership.{one_partner}

-- a place that was passed has its partner at this place or later
pub record IsWaiting (l : List Action) (i x : ℕ) : Type 0 where
  pub passed : x < i
  pub partner : ℕ
  pub later : i ≤ partner
  pub is : IsPartner l x partner

abbrev pub IsFork : List Action → ℕ → Type 0
IsFork l x = (child : ℕ) × (deed_at l x ≡ forks child)

-- a list of places has the later ones first
abbrev pub Falls : List ℕ → Type 0
Falls [] = Unit {0}
Falls (y ∷ ys) = ((x : ℕ) → IsIn x ys → x < y) × Falls ys

-- before the place i the partners are those that were passed
pub record AreFound (l : List Action) (i : ℕ) (partners : List (Option ℕ)) : Type 0 where
  pub size : length partners ≡ i
  pub found : (x q : ℕ) → x < i → q < i → IsPartner l x q → get_or partners x None ≡ Some q
  pub real : (x q : ℕ) → x < i → get_or partners x None ≡ Some q → IsPartner l x q

-- and a stack has just the places of one sort that wait
pub record AreWaiting (l : List Action) (i : ℕ) (Sort : ℕ → Type 0) (stack : List ℕ) : Type 0 where
  pub each : (x : ℕ) → IsIn x stack ↔ (Sort x × IsWaiting l i x)
  pub falls : Falls stack

abbrev pub Ends : List Action → ℕ → Type 0
Ends l x = deed_at l x ≡ ends

pub record Stands (l : List Action) (i : ℕ) (p : Pairs) : Type 0 where
  pub partners : AreFound l i p.partners
  pub running : AreWaiting l i (IsFork l) p.running
  pub ended : AreWaiting l i (Ends l) p.ended

pub none_is_not_some : (q : ℕ) → ◌≡◌ {A = Option ℕ} None (Some q) → ⊥
none_is_not_some q e = cc

pub one_some : (p q : ℕ) → Some p ≡ Some q → p ≡ q
one_some p q e = ap (λ o. unwrap_or o p) e

pub begins : (l : List Action) → Stands l 0 no_pairs
begins l = record {
  partners = record { size = refl; found = λ x q lt up is. absurd (omega arith); real = λ x q lt is. absurd (omega arith) };
  running = record { each = λ x. (λ no. absurd no, λ w. let lt = (w.1).passed in absurd (omega arith)); falls = tt };
  ended = record { each = λ x. (λ no. absurd no, λ w. let lt = (w.1).passed in absurd (omega arith)); falls = tt };
}

module _ (k : ℕ) (l : List Action) (run : IsDepthFirst k l) (i : ℕ) (inside : i < length l) where
  -- a place that waits goes on to wait, if this one is not its partner
  waits_on : (x : ℕ) → (w : IsWaiting l i x) → (w.partner ≡ i → ⊥) → IsWaiting l (suc i) x
  waits_on x w other =
      let lt = w.passed in let le = w.later in
      record { passed = omega arith; partner = w.partner; later = elim (cases_eq w.partner i) [ inl e ↦ absurd (other e) | inr ne ↦ omega arith ]; is = w.is }

  waited : (x : ℕ) → IsWaiting l (suc i) x → (x ≡ i → ⊥) → IsWaiting l i x
  waited x w other =
      let lt = w.passed in let le = w.later in
      record { passed = elim (cases_eq x i) [ inl e ↦ absurd (other e) | inr ne ↦ omega arith ]; partner = w.partner; later = omega arith; is = w.is }

  -- a stack stays where no place of its sort is here, and none has its partner here
  pub stack_stays : (Sort : ℕ → Type 0) (stack : List ℕ) → AreWaiting l i Sort stack → (Sort i → IsWaiting l (suc i) i → ⊥)
      → ((x : ℕ) → x < i → Sort x → IsPartner l x i → ⊥) → AreWaiting l (suc i) Sort stack
  stack_stays Sort stack s not_here none = record {
    each = λ x. (
      λ m. let h = (s.each x).0 m in (h.0, waits_on x h.1 (λ e. none x (h.1).passed h.0 (subst (λ q. IsPartner l x q) e (h.1).is))),
      λ w. (s.each x).1 (w.0, waited x w.1 (λ e. not_here (subst Sort e w.0) (subst (λ y. IsWaiting l (suc i) y) e w.1))),
    );
    falls = s.falls;
  }

  -- this place is put on top, where it waits
  pub stack_grows : (Sort : ℕ → Type 0) (stack : List ℕ) → AreWaiting l i Sort stack → Sort i → (q : ℕ) → i < q → IsPartner l i q
      → ((x : ℕ) → x < i → Sort x → IsPartner l x i → ⊥) → AreWaiting l (suc i) Sort (i ∷ stack)
  stack_grows Sort stack s here q later partner none = record {
    each = λ x. (
      λ m. elim m [
        | inl e ↦ (subst Sort (sym e) here, subst (λ y. IsWaiting l (suc i) y) (sym e) (record { passed = omega arith; partner = q; later = omega arith; is = partner }))
        | inr old ↦ let h = (s.each x).0 old in (h.0, waits_on x h.1 (λ e. none x (h.1).passed h.0 (subst (λ q. IsPartner l x q) e (h.1).is)))
      ],
      λ w. elim (cases_eq x i) [ inl e ↦ inl e | inr ne ↦ inr ((s.each x).1 (w.0, waited x w.1 ne)) ],
    );
    falls = (λ x m. (((s.each x).0 m).1).passed, s.falls);
  }

  -- the top is taken off, where it is the one of its sort that has its partner here
  pub stack_falls : (Sort : ℕ → Type 0) (top : ℕ) (stack : List ℕ) → AreWaiting l i Sort (top ∷ stack) → (Sort i → ⊥) → IsPartner l top i
      → ((x : ℕ) → x < i → Sort x → IsPartner l x i → x ≡ top) → AreWaiting l (suc i) Sort stack
  stack_falls Sort top stack s not_here partner one = record {
    each = λ x. (
      λ m. let h = (s.each x).0 (inr m) in let less = s.falls.0 x m in
          (h.0, waits_on x h.1 (λ e. let same = one x (h.1).passed h.0 (subst (λ q. IsPartner l x q) e (h.1).is) in omega arith)),
      λ w. elim ((s.each x).1 (w.0, waited x w.1 (λ e. not_here (subst Sort e w.0)))) [
        | inl e ↦ let same : (w.1).partner ≡ i = one_partner k l run top (w.1).partner i (subst (λ y. IsPartner l y (w.1).partner) e (w.1).is) partner in
            let le = (w.1).later in absurd (omega arith)
        | inr m ↦ m
      ],
    );
    falls = s.falls.1;
  }

  -- a place without a partner before it, that is no partner of one before it, changes nothing that was found
  pub found_nothing : (partners : List (Option ℕ)) → AreFound l i partners → ((x : ℕ) → x < i → IsPartner l x i → ⊥)
      → ((q : ℕ) → q ≤ i → IsPartner l i q → ⊥) → AreFound l (suc i) (partners ++ None ∷ [])
  found_nothing partners f none own =
      let size : length partners ≡ i = f.size in
      record {
        size = length_more partners None ∙ ap suc size;
        found = λ x q x_up q_up is. elim (cases_eq x i) [
          | inl e ↦ absurd (own q (omega arith) (subst (λ y. IsPartner l y q) e is))
          | inr ne ↦ elim (cases_eq q i) [
            | inl e ↦ absurd (none x (omega arith) (subst (λ y. IsPartner l x y) e is))
            | inr nq ↦ get_left partners None None x (omega arith) ∙ f.found x q (omega arith) (omega arith) is
          ]
        ];
        real = λ x q x_up is. elim (cases_eq x i) [
          | inl e ↦ absurd (none_is_not_some q (sym (get_last partners None None) ∙ ap (λ m. get_or (partners ++ None ∷ []) m None) (size ∙ sym e) ∙ is))
          | inr ne ↦ f.real x q (omega arith) (sym (get_left partners None None x (omega arith)) ∙ is)
        ];
      }

  -- one place before it has this one as its partner
  pub found_one : (partners : List (Option ℕ)) → AreFound l i partners → (top : ℕ) → top < i → IsPartner l top i
      → ((x : ℕ) → x < i → IsPartner l x i → x ≡ top) → (own : Option ℕ) → ((q : ℕ) → q ≤ i → IsPartner l i q → own ≡ Some q)
      → ((q : ℕ) → own ≡ Some q → IsPartner l i q) → AreFound l (suc i) (set partners top (Some i) ++ own ∷ [])
  found_one partners f top lt partner one own complete sound =
      let size : length partners ≡ i = f.size in
      let now : List (Option ℕ) = set partners top (Some i) in
      let long : length now ≡ i = length_set partners (Some i) top ∙ size in
      let here : get_or now top None ≡ Some i = get_set_here partners (Some i) None top (omega arith) in
      let last : get_or (now ++ own ∷ []) i None ≡ own = ap (λ m. get_or (now ++ own ∷ []) m None) (sym long) ∙ get_last now own None in
      record {
        size = length_more now own ∙ ap suc long;
        found = λ x q x_up q_up is. elim (cases_eq x i) [
          | inl e ↦ ap (λ m. get_or (now ++ own ∷ []) m None) e ∙ last ∙ complete q (omega arith) (subst (λ y. IsPartner l y q) e is)
          | inr ne ↦ get_left now own None x (omega arith) ∙ elim (cases_eq x top) [
            | inl e ↦ let same : i ≡ q = one_partner k l run top i q partner (subst (λ y. IsPartner l y q) e is) in
                ap (λ m. get_or now m None) e ∙ here ∙ ap Some same
            | inr nt ↦ elim (cases_eq q i) [
              | inl e ↦ absurd (nt (one x (omega arith) (subst (λ y. IsPartner l x y) e is)))
              | inr nq ↦ get_set_other partners (Some i) None top x nt ∙ f.found x q (omega arith) (omega arith) is
            ]
          ]
        ];
        real = λ x q x_up is. elim (cases_eq x i) [
          | inl e ↦ subst (λ y. IsPartner l y q) (sym e) (sound q (sym last ∙ ap (λ m. get_or (now ++ own ∷ []) m None) (sym e) ∙ is))
          | inr ne ↦ let old : get_or now x None ≡ Some q = sym (get_left now own None x (omega arith)) ∙ is in
              elim (cases_eq x top) [
                | inl e ↦ let same : i ≡ q = one_some i q (sym here ∙ ap (λ m. get_or now m None) (sym e) ∙ old) in
                    subst (λ y. IsPartner l y q) (sym e) (subst (λ m. IsPartner l top m) same partner)
                | inr nt ↦ f.real x q (omega arith) (sym (get_set_other partners (Some i) None top x nt) ∙ old)
              ]
        ];
      }

  -- this place is one's partner if it waits for it here
  pub waits_here : (x : ℕ) → x < i → IsPartner l x i → IsWaiting l i x
  waits_here x lt is = record { passed = lt; partner = i; later = omega arith; is = is }
