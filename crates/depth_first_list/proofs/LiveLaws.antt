-- What is live by some moment, and what the next action of a live thread says of the others.
use Rattle.std.proofs.Common.{◌≡◌, ℕ, ◌≤◌, ◌<◌, List, [], ◌∷◌, ◌++◌, inl, inr, length, sym, subst, ap, ◌∙◌, arith}
use Rattle.std.proofs.lemmas.List.{append_assoc, append-nil}
use Rattle.std.proofs.lemmas.Bool.{cases_order, cases_lt, cases_eq}
use Rattle.dag_order.specs.LabelOrder.{fork_of}
use Rattle.dag_order.specs.LabelLaws.{three_ways}
use Rattle.depth_first_list.specs.Actions.{forks, joins, ends, Action}
use Rattle.depth_first_list.specs.Runs.{IsDepthFirst}
use Rattle.depth_first_list.specs.Facts.{label_at, index_at, deed_at, IsDone, IsLive, IsNext, HasDone}
use Rattle.depth_first_list.specs.Laws.{ForksAreInOrder, EndMeansAll, RootEndMeansAll, ParentsAreLive, JoinsTheLastLive, NextIsOfItsIndex, FirstMissingGoesFirst, FirstMissingNeverWaits}
use Rattle.depth_first_list.proofs.Whole.{stems_of_fork, joins_do_not_end}
use Rattle.depth_first_list.proofs.ThreadLaws.{index_rises_law, fork_stands_before, forks_are_in_order, each_thread_ends, end_is_last}
use Rattle.depth_first_list.proofs.JoinLaws.{join_stands_behind_child, joins_the_newest_law, each_child_is_joined}
use Rattle.depth_first_list.proofs.OrderLaw.{labels_follow_the_list, live_has_next, first_missing_is_next}

-- where the Join of a child is done, the child has ended
joined_has_ended : (k : ℕ) (l : List Action) → IsDepthFirst k l → (done : ℕ → ℕ) → IsDone l done → (thread : List ℕ) (j child : ℕ)
    → j < length l → label_at l j ≡ thread → deed_at l j ≡ joins child → 0 < done j
    → (c : ℕ) × (c < length l) × (label_at l c ≡ fork_of thread child) × (deed_at l c ≡ ends) × (0 < done c)
joined_has_ended k l run done closed thread j child j_in mine deed did =
    let ended = join_stands_behind_child k l run j child j_in deed in
    let before : ended.1 < j = ended.3 in
    let inside : ended.1 < length l = omega arith in
    (ended.1, inside, ended.6 ∙ ap (λ t. fork_of t child) mine, ended.7, closed.child_ended ended.1 j child inside j_in deed ended.6 ended.7 did)

-- where a thread has ended, each child that it forked has
child_has_ended : (k : ℕ) (l : List Action) → IsDepthFirst k l → (done : ℕ → ℕ) → IsDone l done → (e f child : ℕ)
    → e < length l → deed_at l e ≡ ends → 0 < done e → f < length l → label_at l f ≡ label_at l e → deed_at l f ≡ forks child
    → (c : ℕ) × (c < length l) × (label_at l c ≡ fork_of (label_at l e) child) × (deed_at l c ≡ ends) × (0 < done c)
child_has_ended k l run done closed e f child e_in e_deed e_done f_in f_label f_deed =
    let join = each_child_is_joined k l run f child f_in f_deed in
    let j_in : join.0 < length l = join.2 in let j_deed : deed_at l join.0 ≡ joins child = join.4 in
    let j_label : label_at l join.0 ≡ label_at l e = join.3 ∙ f_label in
    let last : join.0 ≤ e = end_is_last k l run join.0 e j_in e_in j_label e_deed in
    let j_done : 0 < done join.0 = elim (cases_eq join.0 e) [
      | inl same ↦ absurd (joins_do_not_end child (sym j_deed ∙ ap (λ m. deed_at l m) same ∙ e_deed))
      | inr ne ↦ closed.earlier join.0 e (omega arith) e_in j_label e_done
    ] in
    joined_has_ended k l run done closed (label_at l e) join.0 child j_in j_label j_deed j_done

-- so has each that stems from it
all_have_ended : (k : ℕ) (l : List Action) → IsDepthFirst k l → (done : ℕ → ℕ) → IsDone l done → (below : List ℕ) (e i : ℕ)
    → e < length l → deed_at l e ≡ ends → 0 < done e → i < length l → label_at l i ≡ label_at l e ++ below → 0 < done i
all_have_ended k l run done closed [] e i e_in e_deed e_done i_in is =
    let same : label_at l i ≡ label_at l e = is ∙ append-nil (label_at l e) in
    let last : i ≤ e = end_is_last k l run i e i_in e_in same e_deed in
    elim (cases_eq i e) [
      | inl here ↦ subst (λ m. 0 < done m) (sym here) e_done
      | inr ne ↦ closed.earlier i e (omega arith) e_in same e_done
    ]
all_have_ended k l run done closed (child ∷ below) e i e_in e_deed e_done i_in is =
    let fork = fork_stands_before k l run i child (label_at l e) below i_in is in
    let f_before : fork.0 < i = fork.1 in
    let ended = child_has_ended k l run done closed e fork.0 child e_in e_deed e_done (omega arith) fork.2 fork.3 in
    all_have_ended k l run done closed below ended.0 i ended.1 ended.3 ended.4 i_in
    (is ∙ sym (append_assoc (label_at l e) (child ∷ []) below) ∙ ap (λ t. t ++ below) (sym ended.2))

pub end_means_all : (k : ℕ) (l : List Action) → IsDepthFirst k l → EndMeansAll l
end_means_all k l run done closed e i e_in i_in deed did stems =
    all_have_ended k l run done closed stems.0 e i e_in deed did i_in stems.1

pub root_end_means_all : (k : ℕ) (l : List Action) → IsDepthFirst k l → RootEndMeansAll l
root_end_means_all k l run done closed e i e_in i_in label deed did =
    end_means_all k l run done closed e i e_in i_in deed did (label_at l i, ap (λ t. t ++ label_at l i) (sym label))

-- of a thread from which a live one stems no End is done
not_ended : (k : ℕ) (l : List Action) → IsDepthFirst k l → (done : ℕ → ℕ) → IsDone l done → (parent below : List ℕ) → IsLive l done (parent ++ below)
    → (e : ℕ) → e < length l → label_at l e ≡ parent → deed_at l e ≡ ends → done e ≡ 0
not_ended k l run done closed parent below live e e_in mine deed =
    let end = each_thread_ends k l run live.acts.0 live.acts.1 in
    let end_is : label_at l end.0 ≡ parent ++ below = end.3 ∙ live.acts.2 in
    let missing : done end.0 ≡ 0 = live.goes_on end.0 end.2 end_is end.4 in
    elim (cases_lt 0 (done e)) [
      | inr none ↦ omega arith
      | inl some ↦ let all : 0 < done end.0 = end_means_all k l run done closed e end.0 e_in end.2 deed some (below, end_is ∙ ap (λ t. t ++ below) (sym mine)) in
          absurd (omega arith)
    ]

-- a thread from which one that acts stems acts
parent_acts : (k : ℕ) (l : List Action) → IsDepthFirst k l → (parent below : List ℕ) (i : ℕ) → i < length l → label_at l i ≡ parent ++ below
    → (p : ℕ) × (p < length l) × (label_at l p ≡ parent)
parent_acts k l run parent [] i inside is = (i, inside, is ∙ append-nil parent)
parent_acts k l run parent (child ∷ below) i inside is =
    let fork = fork_stands_before k l run i child parent below inside is in
    let before : fork.0 < i = fork.1 in (fork.0, omega arith, fork.2)

pub parents_are_live : (k : ℕ) (l : List Action) → IsDepthFirst k l → ParentsAreLive l
parents_are_live k l run done closed parent below live = record {
  acts = parent_acts k l run parent below live.acts.0 live.acts.1 live.acts.2;
  forked = λ f child f_in deed stems. live.forked f child f_in deed
      (stems.0 ++ below, ap (λ t. t ++ below) stems.1 ∙ append_assoc (fork_of (label_at l f) child) stems.0 below);
  goes_on = λ e e_in mine deed. not_ended k l run done closed parent below live e e_in mine deed;
}

pub joins_the_last_live : (k : ℕ) (l : List Action) → IsDepthFirst k l → JoinsTheLastLive l
joins_the_last_live k l run done closed thread n child later below next deed newer live =
    let n_in = next.inside in let n_missing = next.missing in
    let join = join_stands_behind_child k l run n child n_in deed in
    let f_before : join.0 < join.1 = join.2 in let e_before : join.1 < n = join.3 in
    let f_label : label_at l join.0 ≡ label_at l n = join.4 in let f_deed : deed_at l join.0 ≡ forks child = join.5 in
    let i : ℕ = live.acts.0 in
    let fork = fork_stands_before k l run i later thread below live.acts.1 live.acts.2 in
    let g : ℕ = fork.0 in let g_before : g < i = fork.1 in let i_in = live.acts.1 in
    let g_label : label_at l g ≡ thread = fork.2 in let g_deed : deed_at l g ≡ forks later = fork.3 in
    let g_done : 0 < done g = live.forked g later (omega arith) g_deed
    (stems_of_fork (label_at l g) (thread ++ later ∷ below) below later (ap (λ t. t ++ later ∷ below) (sym g_label))) in
    let order : ForksAreInOrder l = forks_are_in_order k l run in
    let behind : join.0 < g = elim (cases_order join.0 g) [
      | inl same ↦ absurd (no_two child later newer (sym f_deed ∙ ap (λ m. deed_at l m) same ∙ g_deed))
      | inr r ↦ elim r [
        | inl lt ↦ lt
        | inr gt ↦ let back : later < child = order.rising g join.0 later child (omega arith) gt (g_label ∙ sym next.by ∙ sym f_label) g_deed f_deed in absurd (omega arith)
      ]
    ] in
    let before : g < n = elim (cases_lt g n) [
      | inl lt ↦ lt
      | inr ge ↦ elim (cases_eq n g) [
        | inl same ↦ let alike : done n ≡ done g = ap done same in absurd (omega arith)
        | inr ne ↦ let n_done : 0 < done n = closed.earlier n g (omega arith) (omega arith) (next.by ∙ sym g_label) g_done in absurd (omega arith)
      ]
    ] in
    let joined = joins_the_newest_law k l run join.0 g n child later n_in behind before deed f_label f_deed (g_label ∙ sym next.by) g_deed in
    let h_before : joined.0 < n = joined.2 in
    let h : ℕ = joined.0 in
    let h_label : label_at l h ≡ thread = ◌∙◌ {a = label_at l h} joined.3 next.by in
    let h_done : 0 < done joined.0 = next.earlier joined.0 h_before h_label in
    let ended = joined_has_ended k l run done closed thread joined.0 later (omega arith) h_label joined.4 h_done in
    let c_done : 0 < done ended.0 = ended.4 in
    let child_live : IsLive l done (fork_of thread later ++ below) = subst (λ t. IsLive l done t) (sym (append_assoc thread (later ∷ []) below)) live in
    let c_missing : done ended.0 ≡ 0 = not_ended k l run done closed (fork_of thread later) below child_live ended.0 ended.1 ended.2 ended.3 in
    omega arith
  where
    no_two : (j k : ℕ) → j < k → forks j ≡ forks k → ⊥
    no_two j k lt e = let same : j ≡ k = one e in omega arith
      where
        one : forks j ≡ forks k → j ≡ k
        one e = cc

pub next_is_of_its_index : (k : ℕ) (l : List Action) → IsDepthFirst k l → NextIsOfItsIndex l
next_is_of_its_index k l run done closed label n n_in mine = (λ next. counted next, λ count. first count)
  where
    counted : IsNext l done label n → HasDone l done label (index_at l n)
    counted next = record {
      those = λ i i_in is less. elim (cases_lt i n) [
        | inl lt ↦ next.earlier i lt is
        | inr ge ↦ elim (cases_eq i n) [
          | inl same ↦ let alike : index_at l i ≡ index_at l n = ap (λ m. index_at l m) same in absurd (omega arith)
          | inr ne ↦ let rises : index_at l n < index_at l i = index_rises_law k l run n i i_in (omega arith) (mine ∙ sym is) in absurd (omega arith)
        ]
      ];
      no_more = λ i i_in is more. elim (cases_lt 0 (done i)) [
        | inr none ↦ omega arith
        | inl some ↦ let missing = next.missing in
            elim (cases_order n i) [
              | inl same ↦ let alike : done n ≡ done i = ap done same in absurd (omega arith)
              | inr r ↦ elim r [
                | inl lt ↦ let n_done : 0 < done n = closed.earlier n i lt i_in (mine ∙ sym is) some in absurd (omega arith)
                | inr gt ↦ let rises : index_at l i < index_at l n = index_rises_law k l run i n n_in gt (is ∙ sym mine) in absurd (omega arith)
              ]
            ]
      ];
    }

    first : HasDone l done label (index_at l n) → IsNext l done label n
    first count = record {
      inside = n_in;
      by = mine;
      missing = count.no_more n n_in mine (omega arith);
      earlier = λ i lt is. count.those i (omega arith) is (index_rises_law k l run i n n_in lt (is ∙ sym mine));
    }

pub first_missing_goes_first : (k : ℕ) (l : List Action) → IsDepthFirst k l → FirstMissingGoesFirst l
first_missing_goes_first k l run done closed i inside missing before other live =
    elim (three_ways (label_at l i) other) [
      | inl ahead ↦ inr ahead
      | inr r ↦ elim r [
        | inl same ↦ inl (sym same)
        | inr behind ↦ let mine = first_missing_is_next k l run done closed i inside missing before in
            let next = live_has_next k l run done other live in
            let there = next.1 in let other_missing = there.missing in
            let lt : next.0 < i = labels_follow_the_list k l run done closed other (label_at l i) next.0 i live mine.0 next.1 mine.1 behind in
            let did : 0 < done next.0 = before next.0 lt in absurd (omega arith)
      ]
    ]

pub first_missing_never_waits : (k : ℕ) (l : List Action) → IsDepthFirst k l → FirstMissingNeverWaits l
first_missing_never_waits k l run done closed i child inside missing before deed live =
    let join = join_stands_behind_child k l run i child inside deed in
    let e_before : join.1 < i = join.3 in
    let e_done : 0 < done join.1 = before join.1 e_before in
    let e_missing : done join.1 ≡ 0 = live.goes_on join.1 (omega arith) join.6 join.7 in
    omega arith
