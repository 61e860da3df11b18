-- Where each thread goes on: its next action is directly after this one, or after the child that this one forks.
use Rattle.std.proofs.Common.{◌≡◌, ◌↔◌, ℕ, suc, ◌≤◌, ◌<◌, List, [], ◌∷◌, ◌++◌, inl, inr, length, refl, sym, subst, ap, ◌∙◌, arith}
use Rattle.std.proofs.lemmas.List.{append-nil}
use Rattle.std.proofs.lemmas.Bool.{cases_order, cases_eq, cases_lt}
use Rattle.dag_order.specs.LabelOrder.{fork_of}
use Rattle.depth_first_list.specs.Actions.{forks, Action}
use Rattle.depth_first_list.specs.Runs.{IsDepthFirst}
use Rattle.depth_first_list.specs.Facts.{label_at, index_at, deed_at, StemsFrom}
use Rattle.depth_first_list.proofs.Own.{one_fork}
use Rattle.depth_first_list.proofs.Whole.{Whole, whole_place, end_label, end_deed, own_inside, stems_itself, stems_of_fork, HasWhole, own_whole}
use Rattle.depth_first_list.proofs.ThreadLaws.{index_rises_law, no_index_is_skipped, fork_stands_before, child_stands_together, child_stands_before_parent}
use Rattle.depth_first_list.proofs.JoinLaws.{each_child_is_joined}
use Rattle.trail_check.specs.PlaceLaws.{GoesOnAt, NextFollows, ParentFollows}

-- up to the End of a thread is that thread and what stems from it
pub stems_up_to_end : (l : List Action) (label : List ℕ) (s e : ℕ) → Whole l label s e → (p : ℕ) → s ≤ p → p ≤ e → StemsFrom label (label_at l p)
stems_up_to_end l label s e w p lo hi = elim (cases_eq p e) [
  | inl last ↦ subst (λ m. StemsFrom label m) (sym (ap (λ m. label_at l m) last ∙ end_label l label s e w)) (stems_itself label)
  | inr ne ↦ elim (whole_place l label s e w p lo (omega arith)) [
    | inl own ↦ subst (λ m. StemsFrom label m) (sym own.label_is) (stems_itself label)
    | inr b ↦ (b.child ∷ b.rest, b.is)
  ]
]

module _ (k : ℕ) (l : List Action) (run : IsDepthFirst k l) where
  -- a place of the same thread after this one, with no place of the thread between, is that of its next action
  next_of_thread : (i n : ℕ) → i < n → n < length l → label_at l n ≡ label_at l i
      → ((q : ℕ) → i < q → q < n → label_at l q ≡ label_at l i → ⊥) → GoesOnAt l i n
  next_of_thread i n lt inside same none =
      let rises : index_at l i < index_at l n = index_rises_law k l run i n inside lt (sym same) in
      record {
        inside = inside;
        same_thread = same;
        next_index = elim (cases_lt (suc (index_at l i)) (index_at l n)) [
          | inl more ↦ let q = no_index_is_skipped k l run n (suc (index_at l i)) inside more in
              let before : q.0 < n = q.1 in let index : index_at l q.0 ≡ suc (index_at l i) = q.3 in
              elim (cases_order i q.0) [
                | inl e ↦ let i_index : index_at l i ≡ index_at l q.0 = ap (λ m. index_at l m) e in absurd (omega arith)
                | inr r ↦ elim r [
                  | inl gt ↦ absurd (none q.0 gt before (q.2 ∙ same))
                  | inr less ↦ let up : index_at l q.0 < index_at l i = index_rises_law k l run q.0 i (omega arith) less (q.2 ∙ same) in absurd (omega arith)
                ]
              ]
          | inr le ↦ omega arith
        ];
      }

  -- what stems from a thread is of the thread, or of one of its children
  own_or_child : (i n : ℕ) → n < length l → (below : List ℕ) → label_at l n ≡ label_at l i ++ below
      → ((g d : ℕ) (rest : List ℕ) → g < n → label_at l g ≡ label_at l i → deed_at l g ≡ forks d → label_at l n ≡ label_at l i ++ d ∷ rest → ⊥)
      → label_at l n ≡ label_at l i
  own_or_child i n inside [] is none = is ∙ append-nil (label_at l i)
  own_or_child i n inside (d ∷ rest) is none =
      let g = fork_stands_before k l run n d (label_at l i) rest inside is in absurd (none g.0 d rest g.1 g.2 g.3 is)

  -- a child's later fork is after all that an older one has
  not_of_older : (g d n i : ℕ) (rest : List ℕ) → n < length l → i < length l → label_at l g ≡ label_at l i → deed_at l g ≡ forks d
      → label_at l n ≡ label_at l i ++ d ∷ rest → g < i → i < n → ⊥
  not_of_older g d n i rest n_in i_in same deed is lt up =
      let stems = stems_of_fork (label_at l g) (label_at l n) rest d (is ∙ ap (λ m. m ++ d ∷ rest) (sym same)) in
      let before : n < i = child_stands_before_parent k l run g n i d n_in i_in lt deed (sym same) stems in omega arith

  pub next_follows_at : NextFollows l
  next_follows_at i inside no_fork no_end =
      let h : HasWhole l (label_at l i) = own_whole k l run i inside in
      let w = h.whole in let e_in = w.inside in
      let there : (h.s ≤ i) × (i ≤ h.e) = own_inside l (label_at l i) h.s h.e w i inside refl in
      let lo = there.0 in let hi = there.1 in
      let before : i < h.e = elim (cases_eq i h.e) [
        | inl same ↦ absurd (no_end (ap (λ m. deed_at l m) same ∙ end_deed l (label_at l i) h.s h.e w))
        | inr ne ↦ omega arith
      ] in
      let stems = stems_up_to_end l (label_at l i) h.s h.e w (suc i) (omega arith) (omega arith) in
      next_of_thread i (suc i) (omega arith) (omega arith)
      (own_or_child i (suc i) (omega arith) stems.0 stems.1
      (λ g d rest lt same deed is. elim (cases_eq g i) [
        | inl e ↦ no_fork d (ap (λ m. deed_at l m) (sym e) ∙ deed)
        | inr ne ↦ not_of_older g d (suc i) i rest (omega arith) inside same deed is (omega arith) (omega arith)
      ]))
      (λ q gt lt same. omega arith)

  pub parent_follows_at : ParentFollows l
  parent_follows_at f child inside deed =
      let c = child_stands_together k l run f child inside deed in
      let last : ℕ = c.0 in let after : f < last = c.1 in let last_in : last < length l = c.2 in
      let together : (i : ℕ) → i < length l → StemsFrom (fork_of (label_at l f) child) (label_at l i) ↔ ((f < i) × (i ≤ last)) = c.5 in
      let j = each_child_is_joined k l run f child inside deed in
      let own_is_later : (q : ℕ) → q < length l → f < q → label_at l q ≡ label_at l f → last < q =
      λ q q_in lt same. child_stands_before_parent k l run f last q child last_in q_in lt deed same ((together last last_in).1 (after, omega arith)) in
      let j_in : j.0 < length l = j.2 in
      let j_later : last < j.0 = own_is_later j.0 j_in j.1 j.3 in
      let h : HasWhole l (label_at l f) = own_whole k l run f inside in
      let w = h.whole in
      let at_f : (h.s ≤ f) × (f ≤ h.e) = own_inside l (label_at l f) h.s h.e w f inside refl in
      let at_j : (h.s ≤ j.0) × (j.0 ≤ h.e) = own_inside l (label_at l f) h.s h.e w j.0 j_in j.3 in
      let lo = at_f.0 in let hi = at_j.1 in
      let stems = stems_up_to_end l (label_at l f) h.s h.e w (suc last) (omega arith) (omega arith) in
      let same = own_or_child f (suc last) (omega arith) stems.0 stems.1
      (λ g d rest lt mine fork is. elim (cases_order g f) [
        | inl e ↦ let one : d ≡ child = one_fork d child (sym fork ∙ ap (λ m. deed_at l m) e ∙ deed) in
            let up = (together (suc last) (omega arith)).0 (stems_of_fork (label_at l f) (label_at l (suc last)) rest child (is ∙ ap (λ m. label_at l f ++ m ∷ rest) one)) in
            let no : suc last ≤ last = up.1 in omega arith
        | inr r ↦ elim r [
          | inl less ↦ not_of_older g d (suc last) f rest (omega arith) inside mine fork is less (omega arith)
          | inr gt ↦ let later : last < g = own_is_later g (omega arith) gt mine in omega arith
        ]
      ]) in
      record {
        last = last;
        after = after;
        of_child = c.3;
        its_end = c.4;
        together = together;
        parent = next_of_thread f (suc last) (omega arith) (omega arith) same (λ q gt lt mine. let later : last < q = own_is_later q (omega arith) gt mine in omega arith);
      }

pub next_follows : (k : ℕ) (l : List Action) → IsDepthFirst k l → NextFollows l
next_follows k l run = next_follows_at k l run

pub parent_follows : (k : ℕ) (l : List Action) → IsDepthFirst k l → ParentFollows l
parent_follows k l run = parent_follows_at k l run
