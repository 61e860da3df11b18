-- A thread of the parts has done no more actions than are done.
use Rattle.std.proofs.Common.{◌≡◌, ℕ, zero, suc, ◌≤◌, ◌<◌, List, [], ◌∷◌, length, inl, inr, refl, ap, ◌∙◌, arith}
use Rattle.std.proofs.lemmas.Bool.{cases_order}
use Rattle.open_periods.specs.Passed.Actions.{Action}
use Rattle.open_periods.specs.Passed.Facts.{label_at, index_at, HasDone, IsNext}
use Rattle.open_periods.specs.Passed.DepthFirstListLaws.{NoIndexIsSkipped}
use Rattle.open_periods.specs.Passed.DepthFirstListRuns.{IsDepthFirst}
use Rattle.open_periods.proofs.Passed.LiveLaws.{next_is_of_its_index}
use Rattle.open_periods.proofs.Passed.OrderLaw.{live_has_next}
use Rattle.open_periods.proofs.Passed.ThreadLaws.{no_index_is_skipped}
use Rattle.deque_machine.specs.Lists.{Among, Each, Differ}
use Rattle.deque_machine.specs.Books.{booked}
use Rattle.deque_machine.proofs.Lists.{among_times, each_among, each_map}
use Rattle.deque_machine.specs.Moments.{done_at}
use Rattle.deque_machine.specs.Machine.{Setting}
use Rattle.deque_machine.proofs.Ends.{few_among}
use Rattle.moment_shown.specs.Laws.{ThreadsCountWithin}
use Rattle.moment_shown.proofs.Forking.{lives}

-- an action of a thread with a smaller index than n
IsEarly : List Action → List ℕ → ℕ → ℕ → Type 0
IsEarly l label n i = (i < length l) × (label_at l i ≡ label) × (index_at l i < n)

-- before an action stand as many of its thread as its index says, at different places
earlier_ones : (l : List Action) (label : List ℕ) (p : ℕ) → NoIndexIsSkipped l → p < length l → label_at l p ≡ label → (n : ℕ) → n ≤ index_at l p
    → (places : List ℕ) × (length places ≡ n) × Differ places × Each (IsEarly l label n) places
unfolding IsEarly
earlier_ones l label p skipped inside by zero few = ([], refl, tt, tt)
earlier_ones l label p skipped inside by (suc n) few =
    let rest = earlier_ones l label p skipped inside by n (omega (arith, few)) in
    let q = skipped p n inside (omega (arith, few)) in
    let before = q.1 in let index = q.3 in (
      q.0 ∷ rest.0,
      ap suc rest.1,
      (λ again. let early = each_among (IsEarly l label n) q.0 rest.0 rest.3 again in let less = early.2 in omega (arith, less, index), rest.2),
      (
        (omega (arith, before, inside), q.2 ∙ by, omega (arith, index)),
        each_map (IsEarly l label n) (IsEarly l label (suc n)) rest.0 (λ i there early. let less = early.2 in (early.0, early.1, omega (arith, less))) rest.3,
      ),
    )

-- a next action has as many before it as are done
count_of_next : (k : ℕ) (l : List Action) → IsDepthFirst k l → (done : ℕ → ℕ) → (label : List ℕ) (p count : ℕ) → IsNext l done label p
    → HasDone l done label (index_at l p) → HasDone l done label count → index_at l p ≡ count
count_of_next k l run done label p count next own has = elim (cases_order (index_at l p) count) [
  | inl same ↦ same
  | inr other ↦ elim other [
    | inl less ↦ let did = has.those p next.inside next.by less in let none = next.missing in absurd (omega (arith, did, none))
    | inr more ↦
        let q = no_index_is_skipped k l run p count next.inside more in
        let before = q.1 in let index = q.3 in let inside = next.inside in
        let did = own.those q.0 (omega (arith, before, inside)) (q.2 ∙ next.by) (omega (arith, index, more)) in
        let none = has.no_more q.0 (omega (arith, before, inside)) (q.2 ∙ next.by) (omega (arith, index)) in absurd (omega (arith, did, none))
  ]
]

pub threads_count_within : (s : Setting) → 0 < s.quota → IsDepthFirst s.quota s.list → ThreadsCountWithin s
unfolding IsEarly
threads_count_within s some run m parts x lawful shows there =
    let stands = shows.threads x there in
    let next = live_has_next s.quota s.list run (done_at m) x.label (lives s run m lawful parts shows x there) in
    let own = (next_is_of_its_index s.quota s.list run (done_at m) (lawful.periods.lawful).first_actions x.label next.0 (next.1).inside (next.1).by).0 next.1 in
    let count : index_at s.list next.0 ≡ x.done = count_of_next s.quota s.list run (done_at m) x.label next.0 x.done next.1 own stands.has_done in
    let ones = earlier_ones s.list x.label next.0 (no_index_is_skipped s.quota s.list run) (next.1).inside (next.1).by (index_at s.list next.0) (omega arith) in
    let few = few_among ones.0 (booked m.books) ones.2
    (each_map (IsEarly s.list x.label (index_at s.list next.0)) (λ i. Among i (booked m.books)) ones.0
    (λ i among early. among_times i (booked m.books) (own.those i early.0 early.1 early.2)) ones.3) in
    let many = ones.1 in omega (arith, few, many, count)
