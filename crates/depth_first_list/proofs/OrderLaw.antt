-- The order of labels is the order of the list, and what of it is done first.
use Rattle.std.proofs.Common.{◌≡◌, ℕ, zero, suc, ◌+◌, ◌≤◌, ◌<◌, ◌⊎◌, List, ◌∷◌, ◌++◌, inl, inr, length, refl, sym, subst, ap, ◌∙◌, arith}
use Rattle.std.proofs.lemmas.Bool.{cases_order, cases_lt, cases_eq}
use Rattle.dag_order.specs.LabelOrder.{fork_of, Before, ProperlyExtends, FirstDiffersLower}
use Rattle.dag_order.specs.LabelLaws.{before_in_words, three_ways, never_before_itself}
use Rattle.depth_first_list.specs.Actions.{forks, Action}
use Rattle.depth_first_list.specs.Runs.{IsDepthFirst}
use Rattle.depth_first_list.specs.Facts.{label_at, deed_at, StemsFrom, IsDone, IsLive, IsNext}
use Rattle.depth_first_list.specs.Laws.{ForksAreInOrder, LabelsFollowTheList, LiveHasNext, FirstMissingIsNext}
use Rattle.depth_first_list.proofs.Own.{one_fork}
use Rattle.depth_first_list.proofs.Whole.{stems_of_fork}
use Rattle.depth_first_list.proofs.ThreadLaws.{fork_stands_before, child_stands_before_parent, child_stands_together, each_thread_ends, end_is_last, forks_are_in_order}

-- what stems from a thread at the next fork of which the thread has more to do comes first
behind_extension : (k : ℕ) (l : List Action) → IsDepthFirst k l → (done : ℕ → ℕ) → IsDone l done → (a b : List ℕ) (m n : ℕ) → IsLive l done a
    → IsNext l done a m → IsNext l done b n → ProperlyExtends a b → m < n
behind_extension k l run done closed a b m n a_live m_next n_next longer =
    let child : ℕ = longer.0 in let rest : List ℕ = longer.1 in
    let m_label : label_at l m ≡ b ++ child ∷ rest = m_next.by ∙ longer.2 in
    let m_in = m_next.inside in let n_in = n_next.inside in
    let f = fork_stands_before k l run m child b rest m_in m_label in
    let f_label : label_at l f.0 ≡ b = f.2 in let f_deed : deed_at l f.0 ≡ forks child = f.3 in let f_before : f.0 < m = f.1 in
    let a_stems : StemsFrom (fork_of (label_at l f.0) child) a =
    stems_of_fork (label_at l f.0) a rest child (longer.2 ∙ ap (λ t. t ++ child ∷ rest) (sym f_label)) in
    let f_done : 0 < done f.0 = a_live.forked f.0 child (omega arith) f_deed a_stems in
    let missing = n_next.missing in
    elim (cases_order f.0 n) [
      | inl same ↦ let alike : done f.0 ≡ done n = ap done same in absurd (omega arith)
      | inr r ↦ elim r [
        | inl lt ↦ child_stands_before_parent k l run f.0 m n child m_in n_in lt f_deed (n_next.by ∙ sym f_label)
            (subst (λ t. StemsFrom (fork_of (label_at l f.0) child) t) (sym m_next.by) a_stems)
        | inr gt ↦ let n_done : 0 < done n = closed.earlier n f.0 gt (omega arith) (n_next.by ∙ sym f_label) f_done in absurd (omega arith)
      ]
    ]

-- what stems from an earlier fork of a thread comes before what stems from a later one
behind_lower : (k : ℕ) (l : List Action) → IsDepthFirst k l → (a b : List ℕ) (m n : ℕ) → m < length l → n < length l → label_at l m ≡ a → label_at l n ≡ b
    → FirstDiffersLower a b → m < n
behind_lower k l run a b m n m_in n_in m_is n_is lower =
    let same : List ℕ = lower.0 in let j : ℕ = lower.1 in let i : ℕ = lower.2 in
    let f = fork_stands_before k l run m j same lower.3 m_in (m_is ∙ lower.6) in
    let g = fork_stands_before k l run n i same lower.4 n_in (n_is ∙ lower.7) in
    let f_before : f.0 < m = f.1 in let g_before : g.0 < n = g.1 in let less : j < i = lower.5 in
    let f_label : label_at l f.0 ≡ same = f.2 in let g_label : label_at l g.0 ≡ same = g.2 in
    let f_deed : deed_at l f.0 ≡ forks j = f.3 in let g_deed : deed_at l g.0 ≡ forks i = g.3 in
    let order : ForksAreInOrder l = forks_are_in_order k l run in
    let stems : StemsFrom (fork_of (label_at l f.0) j) (label_at l m) =
    stems_of_fork (label_at l f.0) (label_at l m) lower.3 j (m_is ∙ lower.6 ∙ ap (λ t. t ++ j ∷ lower.3) (sym f_label)) in
    elim (cases_order f.0 g.0) [
      | inl e ↦ let twice : j ≡ i = one_fork j i (sym f_deed ∙ ap (λ t. deed_at l t) e ∙ g_deed) in absurd (omega arith)
      | inr r ↦ elim r [
        | inl lt ↦ let ahead : m < g.0 = child_stands_before_parent k l run f.0 m g.0 j m_in (omega arith) lt f_deed (g_label ∙ sym f_label) stems in omega arith
        | inr gt ↦ let back : i < j = order.rising g.0 f.0 i j (omega arith) gt (g_label ∙ sym f_label) g_deed f_deed in absurd (omega arith)
      ]
    ]

pub labels_follow_the_list : (k : ℕ) (l : List Action) → IsDepthFirst k l → LabelsFollowTheList l
labels_follow_the_list k l run done closed a b m n a_live b_live m_next n_next before =
    elim (before_in_words a b before) [
      | inl longer ↦ behind_extension k l run done closed a b m n a_live m_next n_next longer
      | inr lower ↦ behind_lower k l run a b m n m_next.inside n_next.inside m_next.by n_next.by lower
    ]

-- the first place that is missing
pub first_missing_is_next : (k : ℕ) (l : List Action) → IsDepthFirst k l → FirstMissingIsNext l
first_missing_is_next k l run done closed i inside missing before = (
  record {
    acts = (i, inside, refl);
    forked = λ f child f_in deed stems.
        let block = child_stands_together k l run f child f_in deed in
        let there : (f < i) × (i ≤ block.0) = (block.5 i inside).0 stems in before f there.0;
    goes_on = λ e e_in mine deed.
        let last : i ≤ e = end_is_last k l run i e inside e_in (sym mine) deed in
        elim (cases_lt 0 (done e)) [
          | inr none ↦ omega arith
          | inl some ↦ elim (cases_eq i e) [
            | inl same ↦ ap done (sym same) ∙ missing
            | inr ne ↦ let did : 0 < done i = closed.earlier i e (omega arith) e_in (sym mine) some in absurd (omega arith)
          ]
        ];
  },
  record { inside = inside; by = refl; missing = missing; earlier = λ j lt mine. before j lt },
)

-- two labels are the same, or not
same_label : (a b : List ℕ) → (a ≡ b) ⊎ (a ≡ b → ⊥)
same_label a b = elim (three_ways a b) [
  | inl before ↦ inr (λ e. never_before_itself b (subst (λ t. Before t b) e before))
  | inr r ↦ elim r [
    | inl same ↦ inl same
    | inr behind ↦ inr (λ e. never_before_itself b (subst (λ t. Before b t) e behind))
  ]
]

-- the first place of a thread that is missing, from n on, where the one at e is
first_missing : (l : List Action) (done : ℕ → ℕ) (label : List ℕ) (e : ℕ) → e < length l → label_at l e ≡ label → done e ≡ 0
    → (turns n : ℕ) → n + turns ≡ e → ((i : ℕ) → i < n → label_at l i ≡ label → 0 < done i) → (m : ℕ) × IsNext l done label m
first_missing l done label e e_in mine missing zero n at_end earlier =
    let same : n ≡ e = omega arith in (
      n,
      record {
        inside = omega arith;
        by = ap (λ t. label_at l t) same ∙ mine;
        missing = ap done same ∙ missing;
        earlier = earlier;
      },
    )
first_missing l done label e e_in mine missing (suc turns) n before earlier =
    first_missing_by l done label n (omega arith) (same_label (label_at l n) label) (cases_lt 0 (done n)) earlier
    (λ further. first_missing l done label e e_in mine missing turns (suc n) (omega arith) further)
  where
    first_missing_by : (l : List Action) (done : ℕ → ℕ) (label : List ℕ) (n : ℕ) → n < length l → (label_at l n ≡ label) ⊎ (label_at l n ≡ label → ⊥)
        → (0 < done n) ⊎ (done n ≤ 0) → ((i : ℕ) → i < n → label_at l i ≡ label → 0 < done i)
        → (((i : ℕ) → i < suc n → label_at l i ≡ label → 0 < done i) → (m : ℕ) × IsNext l done label m) → (m : ℕ) × IsNext l done label m
    first_missing_by l done label n n_in (inr other) did earlier later =
        later (λ i lt is. elim (cases_eq i n) [ inl here ↦ absurd (other (ap (λ t. label_at l t) (sym here) ∙ is)) | inr ne ↦ earlier i (omega arith) is ])
    first_missing_by l done label n n_in (inl own) (inl did) earlier later =
        later (λ i lt is. elim (cases_eq i n) [ inl here ↦ subst (λ t. 0 < done t) (sym here) did | inr ne ↦ earlier i (omega arith) is ])
    first_missing_by l done label n n_in (inl own) (inr none) earlier later =
        (n, record { inside = n_in; by = own; missing = omega arith; earlier = earlier })

pub live_has_next : (k : ℕ) (l : List Action) → IsDepthFirst k l → LiveHasNext l
live_has_next k l run done label live =
    let end = each_thread_ends k l run live.acts.0 live.acts.1 in
    let mine : label_at l end.0 ≡ label = end.3 ∙ live.acts.2 in
    first_missing l done label end.0 end.2 mine (live.goes_on end.0 end.2 mine end.4) end.0 0 (omega arith) (λ j lt is. absurd (omega arith))
