-- Labels by births, and what keeps them.
use Rattle.std.proofs.Common.{◌≡◌, ℕ, ◌⊎◌, ◌≢◌, List, [], ◌∷◌, ◌++◌, length, map, inl, inr, refl, sym, ap, subst, ◌∙◌, arith, append-nil}
use Rattle.std.specs.Prelude.{Some, slice_get, option_map}
use Rattle.std.specs.Option.{option_and_then}
use Rattle.std.proofs.lemmas.Bool.{cases_eq}
use Rattle.std.proofs.lemmas.List.{reverse-append}
use Rattle.std.proofs.lemmas.Option.{same_Some, slice_get-map}
use Rattle.dag_order.specs.declared.thread_id.ThreadId.{ThreadId}
use Rattle.dag_order.specs.declared.birth.Birth.{Birth}
use Rattle.dag_order.specs.LabelOrder.{fork_of}
use Rattle.dag_order.specs.Births.{root, birth_of, birth_in, Leads}
use Rattle.dag_order.specs.Births as births
use Rattle.depth_first_list.specs.Actions.{Action}
use Rattle.deque_machine.specs.Lists.{Among}
use Rattle.deque_machine.proofs.Lists.{each_among}
use Rattle.open_periods.specs.Periods.{Period, InOrder, Replaces}
use Rattle.open_periods.specs.Names.{id_of, HasLabel, of_root, of_fork}
use Rattle.open_periods.specs.Laws.{OneLabel, LabelsStayAtABeginning, LabelsStay, NextIsNew, ForkedIsLabelled, LabelsAreByBirths}
use Rattle.open_periods.proofs.Sorting.{Place, place_of, one_of_a_number, within, none_at_end, get_middle}

-- how a thread comes by its label
pub record Forked (periods : List Period) (id : ThreadId) (label : List ℕ) : Type 0 where
  pub by : Period
  pub nth : ℕ
  pub birth : Birth
  pub parent : List ℕ
  pub there : Among by periods
  pub born : slice_get by.born nth ≡ Some birth
  pub above : HasLabel periods birth.parent parent
  pub id_is : id ≡ id_of by nth
  pub label_is : label ≡ fork_of parent birth.ordinal

pub how : (periods : List Period) (id : ThreadId) (label : List ℕ) → HasLabel periods id label → ((id ≡ root) × (label ≡ [])) ⊎ Forked periods id label
how periods id label of_root = inl (refl, refl)
how periods id label (of_fork p nth birth parent there born above) = inr (record {
  by = p;
  nth = nth;
  birth = birth;
  parent = parent;
  there = there;
  born = born;
  above = above;
  id_is = refl;
  label_is = refl;
})

-- the root is no thread of a period
root_is_of_none : {periods sorted : List Period} → InOrder periods sorted → (p : Period) (nth : ℕ) → Among p periods → root ≡ id_of p nth → ⊥
unfolding Place
root_is_of_none order p nth there same =
    let known = place_of order p there in let e : 0 ≡ p.number = ap (λ t. ThreadId.period t) same in absurd (omega (arith, e, known.1))

labels_agree : {periods sorted : List Period} → InOrder periods sorted → (id : ThreadId) (a b : List ℕ) → HasLabel periods id a → HasLabel periods id b → a ≡ b
labels_agree {periods} {sorted} order id a b of_root other = elim (how periods id b other) [
  | inl is ↦ sym is.1
  | inr forked ↦ absurd (root_is_of_none order forked.by forked.nth forked.there forked.id_is)
]
labels_agree {periods} {sorted} order id a b (of_fork p nth birth parent there born above) other = elim (how periods id b other) [
  | inl is ↦ absurd (root_is_of_none order p nth there (sym is.0))
  | inr forked ↦
      let same_period : p ≡ forked.by = one_of_a_number order p forked.by there forked.there (ap (λ t. ThreadId.period t) forked.id_is) in
      let same_nth : nth ≡ forked.nth = ap (λ t. ThreadId.nth t) forked.id_is in
      let same_birth : birth ≡ forked.birth = same_Some birth forked.birth (sym born ∙ ap (λ q. slice_get (Period.born q) nth) same_period
      ∙ ap (slice_get forked.by.born) same_nth ∙ forked.born) in
      let at_its : HasLabel periods birth.parent forked.parent = subst (λ t. HasLabel periods (Birth.parent t) forked.parent) (sym same_birth) forked.above in
      ap (λ t. fork_of t birth.ordinal) (labels_agree order birth.parent parent forked.parent above at_its)
      ∙ ap (λ t. fork_of forked.parent (Birth.ordinal t)) same_birth ∙ sym forked.label_is
]

pub one_label : (k : ℕ) (l : List Action) → OneLabel k l
one_label k l periods books id a b t left right = labels_agree t.in_order id a b left right

-- each period stands among the next ones, with as many births or more
Grows : List Period → List Period → Type 0
Grows periods next = (p : Period) → Among p periods → (q : Period) × Among q next × (q.number ≡ p.number) × (more : List Birth) × (q.born ≡ p.born ++ more)

label_stays : (periods next : List Period) → Grows periods next → (id : ThreadId) (label : List ℕ) → HasLabel periods id label → HasLabel next id label
unfolding Grows
label_stays periods next grows id label of_root = of_root
label_stays periods next grows id label (of_fork p nth birth parent there born above) =
    let q = grows p there in
    let found : slice_get (Period.born q.0) nth ≡ Some birth = ap (λ t. slice_get t nth) q.4 ∙ within p.born q.3 birth nth born in
    subst (λ n. HasLabel next (record { period = n; nth = nth }) (fork_of parent birth.ordinal)) q.2
    (of_fork q.0 nth birth parent q.1 found (label_stays periods next grows birth.parent parent above))

pub labels_stay_at_a_beginning : LabelsStayAtABeginning
unfolding Grows
labels_stay_at_a_beginning periods next new id label adds has =
    label_stays periods next (λ p there. (p, each_among (λ q. Among q next) p periods adds.kept there, refl, [], sym (append-nil p.born))) id label has

grown : {periods sorted : List Period} → InOrder periods sorted → (next : List Period) (old new : Period) (more : List Birth) → Replaces periods old new next → new.born ≡ old.born ++ more
    → Grows periods next
unfolding Grows
grown {periods} {sorted} order next old new more change born p there = elim (cases_eq p.number old.number) [
  | inl same ↦
      let e : p ≡ old = one_of_a_number order p old there change.was_there same in
      (new, change.there, change.same_number ∙ sym same, more, born ∙ ap (λ t. Period.born t ++ more) (sym e))
  | inr other ↦ (p, each_among (λ q. q.number ≢ old.number → Among q next) p periods change.kept there other, refl, [], sym (append-nil p.born))
]

pub labels_stay : (k : ℕ) (l : List Action) → LabelsStay k l
labels_stay k l periods next books old new more id label t change born has =
    label_stays periods next (grown t.in_order next old new more change born) id label has

pub next_is_new : (k : ℕ) (l : List Action) → NextIsNew k l
next_is_new k l periods books p label t there has = elim (how periods (id_of p (length p.born)) label has) [
  | inl is ↦ root_is_of_none t.in_order p (length p.born) there (sym is.0)
  | inr forked ↦
      let e : p ≡ forked.by = one_of_a_number t.in_order p forked.by there forked.there (ap (λ i. ThreadId.period i) forked.id_is) in
      let n : length p.born ≡ forked.nth = ap (λ i. ThreadId.nth i) forked.id_is in
      none_at_end p.born forked.birth (ap (λ q. slice_get (Period.born q) (length p.born)) e ∙ ap (slice_get forked.by.born) n ∙ forked.born)
]

pub forked_is_labelled : (k : ℕ) (l : List Action) → ForkedIsLabelled k l
forked_is_labelled k l periods next books old new birth parent t change born has =
    let stays = label_stays periods next (grown t.in_order next old new (birth ∷ []) change born) birth.parent parent has in
    let found : slice_get new.born (length old.born) ≡ Some birth = ap (λ xs. slice_get xs (length old.born)) born ∙ get_middle old.born birth [] in
    subst (λ n. HasLabel next (record { period = n; nth = length old.born }) (fork_of parent birth.ordinal)) change.same_number
    (of_fork new (length old.born) birth parent change.there found stays)

-- the birth of a thread in the list of the births of the periods
pub born_of : {periods sorted : List Period} → InOrder periods sorted → (p : Period) (nth : ℕ) (birth : Birth) → Among p periods → slice_get p.born nth ≡ Some birth
    → birth_of (map (λ q. Period.born q) sorted) (id_of p nth) ≡ Some birth
unfolding Place
born_of {periods} {sorted} order p nth birth there born =
    let known = place_of order p there in
    let listed : slice_get (map (λ q. Period.born q) sorted) known.0 ≡ Some p.born = slice_get-map (λ q. Period.born q) sorted known.0 ∙ ap (option_map (λ q. Period.born q)) known.2 in
    ap (λ n. birth_in (map (λ q. Period.born q) sorted) n nth) known.1 ∙ ap (option_and_then (λ bs. slice_get bs nth)) listed ∙ born

pub labels_are_by_births : (k : ℕ) (l : List Action) → LabelsAreByBirths k l
labels_are_by_births k l periods books id label t of_root = refl
labels_are_by_births k l periods books id label t (of_fork p nth birth parent there born above) =
    let all = map (λ q. Period.born q) t.sorted in
    let leads : births.HasLabel all birth.parent parent = labels_are_by_births k l periods books birth.parent parent t above in
    subst (λ way. Leads all (id_of p nth) way root) (sym (reverse-append parent (birth.ordinal ∷ [])))
    (birth, born_of t.in_order p nth birth there born, refl, leads)
