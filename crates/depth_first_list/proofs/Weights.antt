-- What a Fork, an End and a Dummy weigh.
use Rattle.std.proofs.Common.{◌≡◌, ℕ, ◌<◌, List, [], ◌∷◌, ◌++◌, length, refl, sym, subst, ap, ◌∙◌, arith}
use Rattle.dag_order.specs.LabelOrder.{fork_of}
use Rattle.depth_first_list.specs.Shapes.{Shape, leaf, forked}
use Rattle.depth_first_list.specs.Actions.{Deed, forks, joins, allocates, releases, dummy, faults, ends, Action, record_words, weight_of}
use Rattle.depth_first_list.specs.Runs.{Point, start, next_child, action_at_point, after_fork, end_at, after_tree, tree_run, tree_for, IsPlain, Runs, rests, goes_on, acts, forks_a_child, joins_the_newest, allocates_behind_a_tree, IsDepthFirst}
use Rattle.depth_first_list.specs.Facts.{action_at, label_at, deed_at, words_at}
use Rattle.depth_first_list.specs.Laws.{ForksTakeRecords, ChildEndsGiveBack, RootEndIsWeightless, DummiesAreWeightless}
use Rattle.depth_first_list.proofs.Whole.{sits_itself}
use Rattle.depth_first_list.proofs.Trees.{Every, every_append, every_place}

-- the words of the record block of a thread
abbrev record_of : List ℕ → ℕ
record_of [] = 0
record_of (ordinal ∷ below) = record_words

child_record : (parent : List ℕ) (child : ℕ) → record_of (fork_of parent child) ≡ record_words
child_record [] child = refl
child_record (ordinal ∷ parent) child = refl

abbrev IsWords : Deed → List ℕ → ℕ → Type 0
IsWords (forks child) label words = words ≡ record_words
IsWords (joins child) label words = Unit {0}
IsWords allocates label words = Unit {0}
IsWords releases label words = Unit {0}
IsWords dummy label words = words ≡ 0
IsWords faults label words = Unit {0}
IsWords ends label words = words ≡ record_of label

abbrev HasWords : Action → Type 0
HasWords x = IsWords x.deed x.label x.words

tree_words : (shape : Shape) (a : List ℕ) (p : Point) → Every HasWords (tree_run a p shape)
tree_words leaf a p = (refl, tt)
tree_words (forked child own) a p =
    let kid : List ℕ = fork_of a (next_child p) in
    let join : List Action = action_at_point a (after_tree (after_fork p) own) (joins (next_child p)) 0 ∷ [] in (
      refl,
      every_append HasWords (tree_run kid start child) (end_at kid (after_tree start child) record_words ∷ (tree_run a (after_fork p) own ++ join))
          (tree_words child kid start) (
            sym (child_record a (next_child p)),
            every_append HasWords (tree_run a (after_fork p) own) join (tree_words own a (after_fork p)) (tt, tt),
          ),
    )

plain_words : (k : ℕ) (deed : Deed) (label : List ℕ) (words : ℕ) → IsPlain k deed words → IsWords deed label words
plain_words k (forks child) label words h = absurd h
plain_words k (joins child) label words h = absurd h
plain_words k allocates label words h = tt
plain_words k releases label words h = tt
plain_words k dummy label words h = absurd h
plain_words k faults label words h = tt
plain_words k ends label words h = absurd h

run_words : (k : ℕ) (a : List ℕ) (p : Point) (l : List Action) (q : Point) → Runs k a p l q → Every HasWords l
run_words k a p l q (rests label point) = tt
run_words k a p l q (goes_on label p' m q' front back one two) =
    every_append HasWords front back (run_words k label p' front m one) (run_words k label m back q' two)
run_words k a p l q (acts label p' deed words plain) = (plain_words k deed label words plain, tt)
run_words k a p l q (forks_a_child label p' c below run joined) =
    let kid : List ℕ = fork_of label (next_child p') in (
      refl,
      every_append HasWords below (end_at kid c record_words ∷ []) (run_words k kid start below c run) (sym (child_record label (next_child p')), tt),
    )
run_words k a p l q (joins_the_newest label p' child older words is) = (tt, tt)
run_words k a p l q (allocates_behind_a_tree label p' words large) =
    every_append HasWords (tree_run label p' (tree_for k words)) (action_at_point label (after_tree p' (tree_for k words)) allocates words ∷ [])
    (tree_words (tree_for k words) label p') (tt, tt)

words_there : (k : ℕ) (l : List Action) → IsDepthFirst k l → (i : ℕ) → i < length l → HasWords (action_at l i)
words_there k l run i inside =
    let all : Every HasWords (run.below ++ end_at [] run.last 0 ∷ []) =
    every_append HasWords run.below (end_at [] run.last 0 ∷ []) (run_words k [] start run.below run.last run.runs) (refl, tt) in
    every_place (action_at l) HasWords l 0 (sits_itself l) (subst (λ m. Every HasWords m) (sym run.is) all) i (omega arith) (omega arith)

-- the words of a place, by what is done there
words_by : (k : ℕ) (l : List Action) → IsDepthFirst k l → (i : ℕ) (deed : Deed) → i < length l → deed_at l i ≡ deed → IsWords deed (label_at l i) (words_at l i)
words_by k l run i deed inside is = subst (λ d. IsWords d (label_at l i) (words_at l i)) is (words_there k l run i inside)

pub forks_take_records : (k : ℕ) (l : List Action) → IsDepthFirst k l → ForksTakeRecords l
forks_take_records k l run f child inside is =
    let words : words_at l f ≡ record_words = words_by k l run f (forks child) inside is in
    (words, ap (λ d. weight_of d (words_at l f)) is ∙ ap (λ n. weight_of (forks child) n) words)

pub child_ends_give_back : (k : ℕ) (l : List Action) → IsDepthFirst k l → ChildEndsGiveBack l
child_ends_give_back k l run e child parent inside is mine =
    let words : words_at l e ≡ record_words = words_by k l run e ends inside is ∙ ap (λ a. record_of a) mine ∙ child_record parent child in
    (words, ap (λ d. weight_of d (words_at l e)) is ∙ ap (λ n. weight_of ends n) words)

pub root_end_is_weightless : (k : ℕ) (l : List Action) → IsDepthFirst k l → RootEndIsWeightless l
root_end_is_weightless k l run e inside is mine =
    let words : words_at l e ≡ 0 = words_by k l run e ends inside is ∙ ap (λ a. record_of a) mine in
    (words, ap (λ d. weight_of d (words_at l e)) is ∙ ap (λ n. weight_of ends n) words)

pub dummies_are_weightless : (k : ℕ) (l : List Action) → IsDepthFirst k l → DummiesAreWeightless l
dummies_are_weightless k l run i inside is =
    let words : words_at l i ≡ 0 = words_by k l run i dummy inside is in
    (words, ap (λ d. weight_of d (words_at l i)) is)
