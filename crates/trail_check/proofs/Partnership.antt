-- The partner of a place is one, and where it is.
use Rattle.std.proofs.Common.{◌≡◌, ◌↔◌, ℕ, ◌+◌, ◌≤◌, ◌<◌, List, [], ◌∷◌, ◌++◌, inl, inr, length, refl, sym, subst, ap, ◌∙◌, arith, length-append}
use Rattle.std.proofs.lemmas.List.{append-nil}
use Rattle.std.proofs.lemmas.Bool.{cases_order}
use Rattle.dag_order.specs.LabelOrder.{fork_of}
use Rattle.depth_first_list.specs.Actions.{forks, joins, ends, Action}
use Rattle.depth_first_list.specs.Runs.{IsDepthFirst}
use Rattle.depth_first_list.specs.Facts.{label_at, deed_at, StemsFrom}
use Rattle.depth_first_list.proofs.Own.{one_fork}
use Rattle.depth_first_list.proofs.Whole.{stems_of_fork, stems_itself, own_inside, HasWhole, own_whole, forks_do_not_end, joins_do_not_end}
use Rattle.depth_first_list.proofs.ThreadLaws.{fork_stands_before, child_stands_together, child_stands_before_parent, end_is_last}
use Rattle.depth_first_list.proofs.JoinLaws.{each_child_is_joined, join_stands_behind_child, joins_the_newest_law, joined_once_law}
use Rattle.deque_machine.proofs.Labels.{one_parent, above_a_fork}
use Rattle.trail_check.specs.Partners.{EndsAt, JoinsAt, IsPartner, of_fork, of_join, of_end}
use Rattle.trail_check.proofs.NextPlaces.{stems_up_to_end}

pub forks_do_not_join : (c d : ℕ) → forks c ≡ joins d → ⊥
forks_do_not_join c d e = cc

one_joined : (c d : ℕ) → joins c ≡ joins d → c ≡ d
one_joined c d e = cc

module _ (k : ℕ) (l : List Action) (run : IsDepthFirst k l) where
  pub one_end : (label : List ℕ) (n m : ℕ) → EndsAt l label n → EndsAt l label m → n ≡ m
  one_end label n m a b =
      let less : n ≤ m = end_is_last k l run n m a.0 b.0 (a.1 ∙ sym b.1) b.2 in
      let more : m ≤ n = end_is_last k l run m n b.0 a.0 (b.1 ∙ sym a.1) a.2 in omega arith

  pub one_join : (label : List ℕ) (child n m : ℕ) → JoinsAt l label child n → JoinsAt l label child m → n ≡ m
  one_join label child n m a b = joined_once_law k l run n m child a.0 b.0 (a.1 ∙ sym b.1) a.2 b.2

  -- the partner is one
  pub one_partner : (i n m : ℕ) → IsPartner l i n → IsPartner l i m → n ≡ m
  one_partner i n m (of_fork c is a) (of_fork d is' b) =
      one_end (fork_of (label_at l i) d) n m (subst (λ x. EndsAt l (fork_of (label_at l i) x) n) (one_fork c d (sym is ∙ is')) a) b
  one_partner i n m (of_fork c is a) (of_join d is' b) = absurd (forks_do_not_join c d (sym is ∙ is'))
  one_partner i n m (of_fork c is a) (of_end u d is' by b) = absurd (forks_do_not_end c (sym is ∙ is'))
  one_partner i n m (of_join c is a) (of_fork d is' b) = absurd (forks_do_not_join d c (sym is' ∙ is))
  one_partner i n m (of_join c is a) (of_join d is' b) =
      one_end (fork_of (label_at l i) d) n m (subst (λ x. EndsAt l (fork_of (label_at l i) x) n) (one_joined c d (sym is ∙ is')) a) b
  one_partner i n m (of_join c is a) (of_end u d is' by b) = absurd (joins_do_not_end c (sym is ∙ is'))
  one_partner i n m (of_end u c is by a) (of_fork d is' b) = absurd (forks_do_not_end d (sym is' ∙ is))
  one_partner i n m (of_end u c is by a) (of_join d is' b) = absurd (joins_do_not_end d (sym is' ∙ is))
  one_partner i n m (of_end u c is by a) (of_end v d is' by' b) =
      let same : (u ≡ v) × (c ≡ d) = one_parent u v c d (sym by ∙ by') in
      one_join v d n m (subst (λ x. JoinsAt l v x n) same.1 (subst (λ x. JoinsAt l x c n) same.0 a)) b

  -- the End of the child that a Fork begins is after the Fork, and the child's list is between
  pub record Span (f child : ℕ) : Type 0 where
    pub last : ℕ
    pub later : f < last
    pub ends : EndsAt l (fork_of (label_at l f) child) last
    pub together : (i : ℕ) → i < length l → StemsFrom (fork_of (label_at l f) child) (label_at l i) ↔ ((f < i) × (i ≤ last))

  pub span : (f child : ℕ) → f < length l → deed_at l f ≡ forks child → Span f child
  span f child inside deed =
      let c = child_stands_together k l run f child inside deed in
      record { last = c.0; later = c.1; ends = (c.2, c.3, c.4); together = c.5 }

  -- the place of an End is the last one of the span of its Fork
  pub span_to : (f child n : ℕ) → f < length l → deed_at l f ≡ forks child → EndsAt l (fork_of (label_at l f) child) n
      → (f < n) × ((i : ℕ) → i < length l → StemsFrom (fork_of (label_at l f) child) (label_at l i) ↔ ((f < i) × (i ≤ n)))
  span_to f child n inside deed end =
      let s = span f child inside deed in
      let same : s.last ≡ n = one_end (fork_of (label_at l f) child) s.last n s.ends end in
      subst (λ m. (f < m) × ((i : ℕ) → i < length l → StemsFrom (fork_of (label_at l f) child) (label_at l i) ↔ ((f < i) × (i ≤ m)))) same (s.later, s.together)

  -- the Fork of an End
  pub fork_before : (parent : List ℕ) (child n : ℕ) → EndsAt l (fork_of parent child) n
      → (f : ℕ) × (f < n) × (label_at l f ≡ parent) × (deed_at l f ≡ forks child)
  fork_before parent child n end = fork_stands_before k l run n child parent [] end.0 end.1

  -- the Join of an End is after it
  pub join_after : (parent : List ℕ) (child n : ℕ) → EndsAt l (fork_of parent child) n → (j : ℕ) × (n < j) × JoinsAt l parent child j
  join_after parent child n end =
      let f = fork_before parent child n end in
      let f_in : f.0 < length l = (let up : f.0 < n = f.1 in let inside : n < length l = end.0 in omega arith) in
      let j = each_child_is_joined k l run f.0 child f_in f.3 in
      let stems : StemsFrom (fork_of (label_at l f.0) child) (label_at l n) =
      subst (λ m. StemsFrom (fork_of m child) (label_at l n)) (sym f.2) (subst (λ m. StemsFrom (fork_of parent child) m) (sym end.1) (stems_itself (fork_of parent child))) in
      let up : n < j.0 = child_stands_before_parent k l run f.0 n j.0 child end.0 j.2 j.1 f.3 j.3 stems in
      (j.0, up, (j.2, j.3 ∙ f.2, j.4))

  -- the End of a joined child is before the Join
  pub end_before : (j child : ℕ) → j < length l → deed_at l j ≡ joins child → (e : ℕ) × (e < j) × EndsAt l (fork_of (label_at l j) child) e
  end_before j child inside deed =
      let b = join_stands_behind_child k l run j child inside deed in
      let up : b.1 < j = b.3 in
      (b.1, up, (omega arith, b.6, b.7))

  -- a place that has a partner before it is a Join
  pub joins_back : (i q : ℕ) → i < length l → q ≤ i → IsPartner l i q → (child : ℕ) × (deed_at l i ≡ joins child)
  joins_back i q inside le (of_fork c is a) = let s = span_to i c q inside is a in let up : i < q = s.0 in absurd (omega arith)
  joins_back i q inside le (of_join c is a) = (c, is)
  joins_back i q inside le (of_end u c is by a) =
      let j = join_after u c i (inside, by, is) in let up : i < j.0 = j.1 in
      let same : j.0 ≡ q = one_join u c j.0 q j.2 a in absurd (omega arith)

  -- a place before its partner is a Fork, or the End of a child
  pub data Ahead (x i : ℕ) : Type 0 where
    to_end : (child : ℕ) → deed_at l x ≡ forks child → EndsAt l (fork_of (label_at l x) child) i → Ahead x i
    to_join : (parent : List ℕ) (child : ℕ) → deed_at l x ≡ ends → label_at l x ≡ fork_of parent child → JoinsAt l parent child i → Ahead x i

  pub ahead : (x i : ℕ) → x < i → x < length l → IsPartner l x i → Ahead x i
  ahead x i lt inside (of_fork c is a) = to_end c is a
  ahead x i lt inside (of_join c is a) =
      let e = end_before x c inside is in let up : e.0 < x = e.1 in
      let same : e.0 ≡ i = one_end (fork_of (label_at l x) c) e.0 i e.2 a in absurd (omega arith)
  ahead x i lt inside (of_end u c is by a) = to_join u c is by a

  -- of two Forks the one whose child ends later is not the newer one, if the older child has not ended before it
  pub not_crossed : (g d f c i q : ℕ) → g < f → f < i → i < q → deed_at l g ≡ forks d → EndsAt l (fork_of (label_at l g) d) i
      → deed_at l f ≡ forks c → EndsAt l (fork_of (label_at l f) c) q → ⊥
  not_crossed g d f c i q gf fi iq gd ge fd fe =
      let i_in : i < length l = ge.0 in let q_in : q < length l = fe.0 in
      let outer = span_to g d i (omega arith) gd ge in
      let inner = span_to f c q (omega arith) fd fe in
      let a : StemsFrom (fork_of (label_at l g) d) (label_at l f) = (outer.1 f (omega arith)).1 (gf, omega arith) in
      let b : StemsFrom (fork_of (label_at l f) c) (label_at l i) = (inner.1 i i_in).1 (fi, omega arith) in
      let long : length (label_at l f) ≡ length (label_at l i) + length a.0 =
      ap length a.1 ∙ length-append (fork_of (label_at l g) d) a.0 ∙ ap (λ m. length m + length a.0) (sym ge.1) in
      let short : length (label_at l i) ≡ length (label_at l f) + 1 + length b.0 =
      ap length b.1 ∙ length-append (fork_of (label_at l f) c) b.0 ∙ ap (λ m. m + length b.0) (length-append (label_at l f) (c ∷ [])) in
      omega arith

  -- a Join is of the newest End that is not joined
  pub newest_is_joined : (i e e' q : ℕ) (child d : ℕ) (u : List ℕ) → i < length l → deed_at l i ≡ joins child
      → EndsAt l (fork_of (label_at l i) child) e → EndsAt l (fork_of u d) e' → JoinsAt l u d q → e < e' → e' < i → i < q → ⊥
  newest_is_joined i e e' q child d u inside deed end end' join ee ei iq =
      let f = fork_before (label_at l i) child e end in
      let g = fork_before u d e' end' in
      let f_up : f.0 < e = f.1 in let g_up : g.0 < e' = g.1 in
      elim (cases_order g.0 e) [
        | inl same ↦ forks_do_not_end d (sym g.3 ∙ ap (λ m. deed_at l m) same ∙ end.2)
        | inr r ↦ elim r [ inl lt ↦ around g.0 g_up g.2 g.3 lt | inr gt ↦ beside f.0 f_up f.2 f.3 g.0 g_up g.2 g.3 gt ]
      ]
    where
      -- the newer child began before the older one ended
      around : (g : ℕ) → g < e' → label_at l g ≡ u → deed_at l g ≡ forks d → g < e → ⊥
      around g g_up of_u gd lt =
          let s = span_to g d e' (omega arith) gd (subst (λ m. EndsAt l (fork_of m d) e') (sym of_u) end') in
          let stems : StemsFrom (fork_of (label_at l g) d) (label_at l e) = (s.1 e (omega arith)).1 (lt, omega arith) in
          let name : List ℕ = fork_of (label_at l g) d in
          elim (above_a_fork name (label_at l i) child (subst (λ m. StemsFrom name m) end.1 stems)) [
            | inl same ↦ let one : e ≡ e' = one_end name e e' (subst (λ m. EndsAt l m e) (sym same) end)
                (subst (λ m. EndsAt l (fork_of m d) e') (sym of_u) end') in omega arith
            | inr up ↦ let there = (s.1 i inside).0 up in let no : i ≤ e' = there.1 in omega arith
          ]

      by_thread : (f : ℕ) → f < e → label_at l f ≡ label_at l i → deed_at l f ≡ forks child
          → (g : ℕ) → g < e' → label_at l g ≡ u → deed_at l g ≡ forks d → e < g → (below : List ℕ) → label_at l g ≡ label_at l i ++ below → ⊥
      by_thread f f_up of_t fd g g_up of_u gd gt [] is =
          let same : label_at l g ≡ label_at l i = is ∙ append-nil (label_at l i) in
          let h = joins_the_newest_law k l run f g i child d inside (omega arith) (omega arith) deed of_t fd same gd in
          let up : h.0 < i = h.2 in
          let one : h.0 ≡ q = one_join u d h.0 q (omega arith, h.3 ∙ sym same ∙ of_u, h.4) join in omega arith
      by_thread f f_up of_t fd g g_up of_u gd gt (c ∷ rest) is =
          let h = fork_stands_before k l run g c (label_at l i) rest (omega arith) is in
          let up : h.0 < g = h.1 in
          let stems = stems_of_fork (label_at l h.0) (label_at l q) rest c (join.1 ∙ sym of_u ∙ is ∙ ap (λ m. m ++ c ∷ rest) (sym h.2)) in
          let no : q < i = child_stands_before_parent k l run h.0 q i c join.0 inside (omega arith) h.3 (sym h.2) stems in omega arith

      -- the newer child began after the older one ended
      beside : (f : ℕ) → f < e → label_at l f ≡ label_at l i → deed_at l f ≡ forks child
          → (g : ℕ) → g < e' → label_at l g ≡ u → deed_at l g ≡ forks d → e < g → ⊥
      beside f f_up of_t fd g g_up of_u gd gt =
          let h : HasWhole l (label_at l i) = own_whole k l run i inside in
          let w = h.whole in
          let at_f : (h.s ≤ f) × (f ≤ h.e) = own_inside l (label_at l i) h.s h.e w f (omega arith) of_t in
          let at_i : (h.s ≤ i) × (i ≤ h.e) = own_inside l (label_at l i) h.s h.e w i inside refl in
          let lo = at_f.0 in let hi = at_i.1 in
          let stems = stems_up_to_end l (label_at l i) h.s h.e w g (omega arith) (omega arith) in
          by_thread f f_up of_t fd g g_up of_u gd gt stems.0 stems.1
