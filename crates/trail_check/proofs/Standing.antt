-- What is known after each place of the pass is right, whatever the action there.
use Rattle.std.proofs.Common.{◌≡◌, ℕ, suc, ◌≤◌, ◌<◌, List, [], ◌∷◌, ◌++◌, ◌⊎◌, inl, inr, length, refl, sym, subst, ap, ◌∙◌, arith}
use Rattle.std.specs.Prelude.{Option, None, Some}
use Rattle.std.proofs.lemmas.Bool.{cases_eq}
use Rattle.dag_order.specs.LabelOrder.{fork_of}
use Rattle.depth_first_list.specs.Actions.{Deed, forks, joins, allocates, releases, dummy, faults, ends, Action, kind_of}
use Rattle.depth_first_list.specs.Runs.{IsDepthFirst}
use Rattle.depth_first_list.specs.Facts.{label_at, deed_at, StemsFrom}
use Rattle.depth_first_list.proofs.Whole.{forks_do_not_end, joins_do_not_end}
use Rattle.depth_first_list.proofs.ThreadLaws.{forked_once}
use Rattle.deque_machine.proofs.Labels.{one_parent, middle_of_fork}
use Rattle.trail_check.specs.Partners.{EndsAt, JoinsAt, IsPartner, of_fork, of_join, of_end, ArePartners}
use Rattle.trail_check.specs.Pairing.{Pairs, after, after_end, after_join, IsIn, ArePassed}
use Rattle.trail_check.proofs.Partnership.{forks_do_not_join, one_end, one_partner, span_to, Span, span, fork_before, join_after, end_before, joins_back, Ahead, to_end, to_join, ahead, not_crossed, newest_is_joined}
use Rattle.trail_check.proofs.Stacks.{IsWaiting, IsFork, AreFound, AreWaiting, Ends, Stands, none_is_not_some, one_some, stack_stays, stack_grows, stack_falls, found_nothing, found_one, waits_here}

one_forked : (c d : ℕ) → forks c ≡ forks d → c ≡ d
one_forked c d e = cc

one_joined : (c d : ℕ) → joins c ≡ joins d → c ≡ d
one_joined c d e = cc

-- a label is that of the root or of a child
root_or_fork : (t : List ℕ) → (t ≡ []) ⊎ ((parent : List ℕ) × (c : ℕ) × (t ≡ fork_of parent c))
root_or_fork [] = inl refl
root_or_fork (x ∷ t) = elim (root_or_fork t) [
  | inl root ↦ inr ([], x, ap (λ m. x ∷ m) root)
  | inr child ↦ inr (x ∷ child.0, child.1, ap (λ m. x ∷ m) child.2)
]

module _ (k : ℕ) (l : List Action) (run : IsDepthFirst k l) (i : ℕ) (inside : i < length l) where
  -- an action that is no Fork, Join or End
  pub by_other : (p : Pairs) → Stands l i p → ((c : ℕ) → deed_at l i ≡ forks c → ⊥) → ((c : ℕ) → deed_at l i ≡ joins c → ⊥) → (deed_at l i ≡ ends → ⊥)
      → Stands l (suc i) (record { partners = p.partners ++ None ∷ []; running = p.running; ended = p.ended })
  by_other p s no_fork no_join no_end = record {
    partners = found_nothing k l run i inside p.partners s.partners nobody (λ q le is. let j = joins_back k l run i q inside le is in no_join j.0 j.1);
    running = stack_stays k l run i inside (IsFork l) p.running s.running (λ h w. no_fork h.0 h.1) (λ x lt sort is. nobody x lt is);
    ended = stack_stays k l run i inside (Ends l) p.ended s.ended (λ h w. no_end h) (λ x lt sort is. nobody x lt is);
  }
    where
      nobody_by : (x : ℕ) → Ahead k l run x i → ⊥
      nobody_by x (to_end c is a) = no_end a.2
      nobody_by x (to_join u c is by a) = no_join c a.2

      nobody : (x : ℕ) → x < i → IsPartner l x i → ⊥
      nobody x lt is = nobody_by x (ahead k l run x i lt (omega arith) is)

  pub by_fork : (p : Pairs) → Stands l i p → (c : ℕ) → deed_at l i ≡ forks c
      → Stands l (suc i) (record { partners = p.partners ++ None ∷ []; running = i ∷ p.running; ended = p.ended })
  by_fork p s c deed =
      let child : Span k l run i c = span k l run i c inside deed in
      record {
        partners = found_nothing k l run i inside p.partners s.partners nobody (λ q le is. let j = joins_back k l run i q inside le is in forks_do_not_join c j.0 (sym deed ∙ j.1));
        running = stack_grows k l run i inside (IsFork l) p.running s.running (c, deed) child.last child.later (of_fork c deed child.ends) (λ x lt sort is. nobody x lt is);
        ended = stack_stays k l run i inside (Ends l) p.ended s.ended (λ h w. forks_do_not_end c (sym deed ∙ h)) (λ x lt sort is. nobody x lt is);
      }
    where
      nobody_by : (x : ℕ) → Ahead k l run x i → ⊥
      nobody_by x (to_end d is a) = forks_do_not_end c (sym deed ∙ a.2)
      nobody_by x (to_join u d is by a) = forks_do_not_join c d (sym deed ∙ a.2)

      nobody : (x : ℕ) → x < i → IsPartner l x i → ⊥
      nobody x lt is = nobody_by x (ahead k l run x i lt (omega arith) is)

  -- a Fork and its End, by the label there
  fork_of_here : (x c : ℕ) → x < i → deed_at l x ≡ forks c → IsPartner l x i → EndsAt l (fork_of (label_at l x) c) i
  fork_of_here x c lt is partner = by (ahead k l run x i lt (omega arith) partner)
    where
      by : Ahead k l run x i → EndsAt l (fork_of (label_at l x) c) i
      by (to_end d is' a) = subst (λ m. EndsAt l (fork_of (label_at l x) m) i) (one_forked d c (sym is' ∙ is)) a
      by (to_join u d is' labelled a) = absurd (forks_do_not_end c (sym is ∙ is'))

  one_fork_here : (x y : ℕ) → x < i → y < i → IsFork l x → IsFork l y → IsPartner l x i → IsPartner l y i → x ≡ y
  one_fork_here x y x_up y_up a b p q =
      let e = fork_of_here x a.0 x_up a.1 p in let d = fork_of_here y b.0 y_up b.1 q in
      let same : (label_at l x ≡ label_at l y) × (a.0 ≡ b.0) = one_parent (label_at l x) (label_at l y) a.0 b.0 (sym e.1 ∙ d.1) in
      forked_once k l run x y b.0 (omega arith) (omega arith) same.0 (a.1 ∙ ap forks same.1) b.1

  module _ (deed : deed_at l i ≡ ends) where
    is_fork_by : (x : ℕ) → Ahead k l run x i → IsFork l x
    is_fork_by x (to_end c is a) = (c, is)
    is_fork_by x (to_join u c is by a) = absurd (joins_do_not_end c (sym a.2 ∙ deed))

    is_fork : (x : ℕ) → x < i → IsPartner l x i → IsFork l x
    is_fork x lt is = is_fork_by x (ahead k l run x i lt (omega arith) is)

    no_partner_back : (q : ℕ) → q ≤ i → IsPartner l i q → ⊥
    no_partner_back q le is = let j = joins_back k l run i q inside le is in joins_do_not_end j.0 (sym j.1 ∙ deed)

    not_a_fork : IsFork l i → ⊥
    not_a_fork h = forks_do_not_end h.0 (sym h.1 ∙ deed)

    no_end_before : (x : ℕ) → x < i → Ends l x → IsPartner l x i → ⊥
    no_end_before x lt its is = let f = is_fork x lt is in forks_do_not_end f.0 (sym f.1 ∙ its)

    -- the Fork of this End
    its_fork : (parent : List ℕ) (c : ℕ) → label_at l i ≡ fork_of parent c → (g : ℕ) × (g < i) × IsFork l g × IsPartner l g i
    its_fork parent c label =
        let g = fork_before k l run parent c i (inside, label, deed) in
        (g.0, g.1, (c, g.3), of_fork c g.3 (inside, label ∙ ap (λ m. fork_of m c) (sym g.2), deed))

    -- where the newest Fork that waits is another's, that one began before it and ends before it
    top_is_partner : (f : ℕ) (older : List ℕ) → AreWaiting l i (IsFork l) (f ∷ older) → IsPartner l f i
    top_is_partner f older s =
        let h = (s.each f).0 (inl refl) in let c : ℕ = (h.0).0 in let w = h.1 in let f_up = w.passed in let q_up = w.later in
        elim (cases_eq w.partner i) [
          | inl e ↦ subst (λ m. IsPartner l f m) e w.is
          | inr ne ↦ by_end_of (ahead k l run f w.partner (omega arith) (omega arith) w.is) w.partner refl (omega arith) f_up
        ]
      where
        by_label : (c q : ℕ) → i < q → f < i → deed_at l f ≡ forks c → EndsAt l (fork_of (label_at l f) c) q → IsPartner l f i
        by_label c q up f_up is a =
            let stems : StemsFrom (fork_of (label_at l f) c) (label_at l i) = ((span_to k l run f c q (omega arith) is a).1 i inside).1 (f_up, omega arith) in
            elim (root_or_fork (label_at l i)) [
              | inl root ↦ absurd (middle_of_fork (label_at l f) c (subst (λ m. StemsFrom (fork_of (label_at l f) c) m) root stems))
              | inr of ↦ let g = its_fork of.0 of.1 of.2 in let g_up = g.1 in
                  elim ((s.each g.0).1 (g.2, waits_here k l run i inside g.0 g_up g.3)) [
                    | inl e ↦ subst (λ m. IsPartner l m i) e g.3
                    | inr m ↦ absurd (not_crossed k l run g.0 (g.2).0 f c i q (s.falls.0 g.0 m) f_up up (g.2).1 (fork_of_here g.0 (g.2).0 g_up (g.2).1 g.3) is a)
                  ]
            ]

        by_end_of : {q : ℕ} → Ahead k l run f q → (q' : ℕ) → q ≡ q' → i < q → f < i → IsPartner l f i
        by_end_of {q} (to_end c is a) q' e up f_up = by_label c q up f_up is a
        by_end_of {q} (to_join u c is by a) q' e up f_up = absurd (let h = ((s.each f).0 (inl refl)).0 in forks_do_not_end h.0 (sym h.1 ∙ is))

    pub by_end : (partners : List (Option ℕ)) (running ended : List ℕ) → AreFound l i partners → AreWaiting l i (IsFork l) running
        → AreWaiting l i (Ends l) ended → Stands l (suc i) (after_end i partners running ended)
    by_end partners [] ended f r e = record {
      partners = found_nothing k l run i inside partners f nobody no_partner_back;
      running = stack_stays k l run i inside (IsFork l) [] r (λ h w. not_a_fork h) (λ x lt sort is. nobody x lt is);
      ended = stack_stays k l run i inside (Ends l) ended e (λ h w. never w) no_end_before;
    }
      where
        nobody : (x : ℕ) → x < i → IsPartner l x i → ⊥
        nobody x lt is = (r.each x).1 (is_fork x lt is, waits_here k l run i inside x lt is)

        never_by : (q : ℕ) → i < q → Ahead k l run i q → ⊥
        never_by q up (to_end c is a) = forks_do_not_end c (sym is ∙ deed)
        never_by q up (to_join u c is by a) = let g = its_fork u c by in nobody g.0 g.1 g.3

        never : IsWaiting l (suc i) i → ⊥
        never w = let up = w.later in never_by w.partner (omega arith) (ahead k l run i w.partner (omega arith) inside w.is)
    by_end partners (top ∷ older) ended f r e =
        let partner : IsPartner l top i = top_is_partner top older r in
        let h = (r.each top).0 (inl refl) in let lt : top < i = (h.1).passed in
        let here = fork_of_here top (h.0).0 lt (h.0).1 partner in
        let j = join_after k l run (label_at l top) (h.0).0 i here in
        let one : (x : ℕ) → x < i → IsPartner l x i → x ≡ top = λ x x_up is. one_fork_here x top x_up lt (is_fork x x_up is) h.0 is partner in
        record {
          partners = found_one k l run i inside partners f top lt partner one None (λ q le is. absurd (no_partner_back q le is)) (λ q is. absurd (none_is_not_some q is));
          running = stack_falls k l run i inside (IsFork l) top older r not_a_fork partner (λ x x_up sort is. one x x_up is);
          ended = stack_grows k l run i inside (Ends l) ended e deed j.0 j.1 (of_end (label_at l top) (h.0).0 deed here.1 j.2) no_end_before;
        }

  module _ (child : ℕ) (deed : deed_at l i ≡ joins child) where
    not_an_end : deed_at l i ≡ ends → ⊥
    not_an_end h = joins_do_not_end child (sym deed ∙ h)

    -- the End of the joined child is the one that has its partner here
    one_end_by : (e x : ℕ) → EndsAt l (fork_of (label_at l i) child) e → x < i → Ahead k l run x i → x ≡ e
    one_end_by e x end lt (to_end c is a) = absurd (not_an_end a.2)
    one_end_by e x end lt (to_join u c is by a) =
        let same : c ≡ child = one_joined c child (sym a.2 ∙ deed) in
        one_end k l run (fork_of (label_at l i) child) x e
        (omega arith, by ∙ ap (λ m. fork_of m c) (sym a.1) ∙ ap (λ m. fork_of (label_at l i) m) same, is) end

    no_fork_by : (x : ℕ) → IsFork l x → Ahead k l run x i → ⊥
    no_fork_by x sort (to_end c is a) = not_an_end a.2
    no_fork_by x sort (to_join u c is by a) = forks_do_not_end sort.0 (sym sort.1 ∙ is)

    -- the newest End that waits is that of the joined child
    top_is_its_end : (e : ℕ) → e < i → EndsAt l (fork_of (label_at l i) child) e → IsPartner l e i → (top : ℕ) (older : List ℕ)
        → AreWaiting l i (Ends l) (top ∷ older) → top ≡ e
    top_is_its_end e lt end partner top older s =
        elim ((s.each e).1 (end.2, waits_here k l run i inside e lt partner)) [
          | inl same ↦ sym same
          | inr m ↦ let h = (s.each top).0 (inl refl) in let w = h.1 in let up = w.passed in let later = w.later in
              by (s.falls.0 e m) up h.0 w.partner later (ahead k l run top w.partner (omega arith) (omega arith) w.is)
        ]
      where
        by : e < top → top < i → Ends l top → (q : ℕ) → i ≤ q → Ahead k l run top q → top ≡ e
        by less up its q later (to_end c is a) = absurd (forks_do_not_end c (sym is ∙ its))
        by less up its q later (to_join u c is labelled a) = elim (cases_eq q i) [
          | inl same ↦ one_end_by e top end up (to_join u c is labelled (subst (λ m. JoinsAt l u c m) same a))
          | inr ne ↦ absurd (newest_is_joined k l run i e top q child c u inside deed end (omega arith, labelled, is) a less up (omega arith))
        ]

    pub by_join : (partners : List (Option ℕ)) (running ended : List ℕ) → AreFound l i partners → AreWaiting l i (IsFork l) running
        → AreWaiting l i (Ends l) ended → Stands l (suc i) (after_join i partners running ended)
    by_join partners running ended f r s = go (end_before k l run i child inside deed) ended s
      where
        go : (e : ℕ) × (e < i) × EndsAt l (fork_of (label_at l i) child) e → (ended : List ℕ) → AreWaiting l i (Ends l) ended
            → Stands l (suc i) (after_join i partners running ended)
        go e [] s =
            let partner : IsPartner l e.0 i = of_end (label_at l i) child (e.2).2 (e.2).1 (inside, refl, deed) in
            let no : IsIn e.0 [] = (s.each e.0).1 ((e.2).2, waits_here k l run i inside e.0 e.1 partner) in absurd no
        go e (top ∷ older) s =
            let its : IsPartner l e.0 i = of_end (label_at l i) child (e.2).2 (e.2).1 (inside, refl, deed) in
            let same : top ≡ e.0 = top_is_its_end e.0 e.1 e.2 its top older s in
            let partner : IsPartner l top i = subst (λ m. IsPartner l m i) (sym same) its in
            let own : IsPartner l i top = of_join child deed (subst (λ m. EndsAt l (fork_of (label_at l i) child) m) (sym same) e.2) in
            let one : (x : ℕ) → x < i → IsPartner l x i → x ≡ top =
            λ x lt is. one_end_by e.0 x e.2 lt (ahead k l run x i lt (omega arith) is) ∙ sym same in
            let e_up = e.1 in
            record {
              partners = found_one k l run i inside partners f top (omega arith) partner one (Some top)
                  (λ q le is. ap Some (one_partner k l run i top q own is)) (λ q is. subst (λ m. IsPartner l i m) (one_some top q is) own);
              running = stack_stays k l run i inside (IsFork l) running r (λ h w. forks_do_not_join h.0 child (sym h.1 ∙ deed))
                  (λ x lt sort is. no_fork_by x sort (ahead k l run x i lt (omega arith) is));
              ended = stack_falls k l run i inside (Ends l) top older s not_an_end partner (λ x lt sort is. one x lt is);
            }

  by_deed : (p : Pairs) → Stands l i p → (d : Deed) → deed_at l i ≡ d → Stands l (suc i) (after i (kind_of d) p)
  by_deed p s (forks c) is = by_fork p s c is
  by_deed p s (joins c) is = by_join c is p.partners p.running p.ended s.partners s.running s.ended
  by_deed p s allocates is = by_other p s (λ c e. let no : allocates ≡ forks c = sym is ∙ e in cc) (λ c e. let no : allocates ≡ joins c = sym is ∙ e in cc) (λ e. let no : allocates ≡ ends = sym is ∙ e in cc)
  by_deed p s releases is = by_other p s (λ c e. let no : releases ≡ forks c = sym is ∙ e in cc) (λ c e. let no : releases ≡ joins c = sym is ∙ e in cc) (λ e. let no : releases ≡ ends = sym is ∙ e in cc)
  by_deed p s dummy is = by_other p s (λ c e. let no : dummy ≡ forks c = sym is ∙ e in cc) (λ c e. let no : dummy ≡ joins c = sym is ∙ e in cc) (λ e. let no : dummy ≡ ends = sym is ∙ e in cc)
  by_deed p s faults is = by_other p s (λ c e. let no : faults ≡ forks c = sym is ∙ e in cc) (λ c e. let no : faults ≡ joins c = sym is ∙ e in cc) (λ e. let no : faults ≡ ends = sym is ∙ e in cc)
  by_deed p s ends is = by_end is p.partners p.running p.ended s.partners s.running s.ended

  pub goes_on : (p : Pairs) → Stands l i p → Stands l (suc i) (after i (kind_of (deed_at l i)) p)
  goes_on p s = by_deed p s (deed_at l i) refl

-- what was kept was passed
pub are_passed : (l : List Action) (i : ℕ) (p : Pairs) → Stands l i p → ArePassed p
are_passed l i p s x =
    let size = (s.partners).size in (
      λ m. let lt = ((((s.running).each x).0 m).1).passed in omega arith,
      λ m. let lt = ((((s.ended).each x).0 m).1).passed in omega arith,
    )

partner_inside : (l : List Action) (i n : ℕ) → IsPartner l i n → n < length l
partner_inside l i n (of_fork c is a) = a.0
partner_inside l i n (of_join c is a) = a.0
partner_inside l i n (of_end u c is by a) = a.0

-- after all places all partners are found
pub all_found : (l : List Action) (p : Pairs) → Stands l (length l) p → ArePartners l p.partners
all_found l p s = record {
  size = (s.partners).size;
  each = λ i n lt. (λ is. (s.partners).real i n lt is, λ partner. (s.partners).found i n lt (partner_inside l i n partner) partner);
}
