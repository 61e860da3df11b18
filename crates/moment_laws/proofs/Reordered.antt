-- Waiting threads and results in another order.
use Rattle.std.proofs.Common.{◌≡◌, ◌≢◌, ℕ, zero, suc, ◌≤◌, ◌<◌, ◌⊎◌, List, [], ◌∷◌, length, map, get_or, inl, inr, refl, sym, ap, subst, ◌∙◌, arith}
use Rattle.std.specs.Prelude.{Contains, sum_by, pos}
use Rattle.std.specs.List.Sorted.{IsPermutation}
use Rattle.std.proofs.lemmas.List.Sums.{sum_by-cons}
use Rattle.std.proofs.lemmas.List.Sorted.{IsPermutation-sym, Contains-permutation, sum_by-IsPermutation}
use Rattle.open_periods.specs.Passed.Actions.{Action}
use Rattle.open_periods.specs.Passed.Lists.{Among, Differ, total}
use Rattle.open_periods.proofs.Passed.Lists.{each_from, each_among, each_map}
use Rattle.open_periods.specs.Passed.Moments.{Waiting, done_at}
use Rattle.open_periods.proofs.Passed.Progress.{same_label}
use Rattle.open_periods.specs.Passed.ThreadId.{ThreadId}
use Rattle.moment_shown.specs.Parts.{Child, Thread, Result, IsIn, label_of, thread_words, result_words, words_of}
use Rattle.moment_shown.specs.Standing.{ChildStands, ThreadStands, ResultStands, IsWaiting, result_label}
use Rattle.moment_laws.specs.Orders.{OrderIsOfNoAccount}

module _ {X : Type 0} where
  -- to stand in a list, in the words of std, and back
  pub contains_of : (x : X) (xs : List X) → Among x xs → Contains xs x
  contains_of x [] there = absurd there
  contains_of x (y ∷ xs) there = elim there [
    | inl same ↦ (0, omega arith, sym same)
    | inr later ↦ let rest = contains_of x xs later in let few = rest.1 in (suc rest.0, omega (arith, few), rest.2)
  ]

  pub among_of : (x : X) (xs : List X) (k : ℕ) → k < length xs → get_or xs k x ≡ x → Among x xs
  among_of x [] k few is = absurd (omega (arith, few))
  among_of x (y ∷ xs) zero few is = inl (sym is)
  among_of x (y ∷ xs) (suc k) few is = inr (among_of x xs k (omega (arith, few)) is)

  -- what stands in a list stands in it in another order, and sums stay
  pub among_moved : (xs ys : List X) → IsPermutation xs ys → (x : X) → Among x xs → Among x ys
  among_moved xs ys moved x there = let found = Contains-permutation xs ys x moved (contains_of x xs there) in among_of x ys found.0 found.1 found.2

  total_is_sum : (f : X → ℕ) (xs : List X) → total f xs ≡ sum_by f xs
  total_is_sum f [] = refl
  total_is_sum f (x ∷ xs) = let rest = total_is_sum f xs in let more = sum_by-cons f x xs in omega (arith, rest, more)

  total_moved : (f : X → ℕ) (xs ys : List X) → IsPermutation xs ys → total f ys ≡ total f xs
  total_moved f xs ys moved = total_is_sum f ys ∙ sum_by-IsPermutation f xs ys moved ∙ sym (total_is_sum f xs)

-- 1 where two labels are the same
hit_of : {A B : Type 0} → A ⊎ B → ℕ
hit_of (inl same) = 1
hit_of (inr other) = 0

hit : List ℕ → List ℕ → ℕ
hit a b = hit_of (same_label a b)

hit_same : (a b : List ℕ) → a ≡ b → hit a b ≡ 1
unfolding hit hit_of
hit_same a b same = by_cases (same_label a b)
  where
    by_cases : (e : (a ≡ b) ⊎ (a ≢ b)) → hit_of e ≡ 1
    by_cases (inl is) = refl
    by_cases (inr other) = absurd (other same)

hit_other : (a b : List ℕ) → a ≢ b → hit a b ≡ 0
unfolding hit hit_of
hit_other a b other = by_cases (same_label a b)
  where
    by_cases : (e : (a ≡ b) ⊎ (a ≢ b)) → hit_of e ≡ 0
    by_cases (inl is) = absurd (other is)
    by_cases (inr o) = refl

module _ {X : Type 0} (f : X → List ℕ) where
  -- how often a label stands in a list
  hits : List ℕ → List X → ℕ
  hits label xs = total (λ x. hit label (f x)) xs

  no_hits : (label : List ℕ) (xs : List X) → ¬ Among label (map f xs) → hits label xs ≡ 0
  unfolding hits
  no_hits label [] none = refl
  no_hits label (x ∷ xs) none =
      let here = hit_other label (f x) (λ same. none (inl same)) in let rest = no_hits label xs (λ there. none (inr there)) in omega (arith, here, rest)

  some_hits : (label : List ℕ) (xs : List X) → Among label (map f xs) → 0 < hits label xs
  unfolding hits
  some_hits label [] there = absurd there
  some_hits label (x ∷ xs) there = elim there [
    | inl same ↦ let here = hit_same label (f x) same in omega (arith, here)
    | inr later ↦ let rest = some_hits label xs later in omega (arith, rest)
  ]

  hit_once : (label : List ℕ) (xs : List X) → Differ (map f xs) → hits label xs ≤ 1
  unfolding hits
  hit_once label [] differ = omega arith
  hit_once label (x ∷ xs) differ = elim (same_label label (f x)) [
    | inl same ↦
        let here = hit_same label (f x) same in let rest = no_hits label xs (subst (λ t. ¬ Among t (map f xs)) (sym same) differ.0) in omega (arith, here, rest)
    | inr other ↦ let here = hit_other label (f x) other in let rest = hit_once label xs differ.1 in omega (arith, here, rest)
  ]

  differ_of : (xs : List X) → ((label : List ℕ) → hits label xs ≤ 1) → Differ (map f xs)
  unfolding hits
  differ_of [] once = tt
  differ_of (x ∷ xs) once = (
    λ there. let here = hit_same (f x) (f x) refl in let rest = some_hits (f x) xs there in let most = once (f x) in absurd (omega (arith, here, rest, most)),
    differ_of xs (λ label. let most = once label in omega (arith, most)),
  )

  differ_moved : (xs ys : List X) → IsPermutation xs ys → Differ (map f xs) → Differ (map f ys)
  unfolding hits
  differ_moved xs ys moved differ = differ_of ys (λ label. let same = total_moved (λ x. hit label (f x)) xs ys moved in let once = hit_once label xs differ in omega (arith, same, once))

pub order_is_of_no_account : (k : ℕ) (l : List Action) → OrderIsOfNoAccount k l
order_is_of_no_account k l parts m waiting results shows threads_moved results_moved = record {
  deques = shows.deques;
  waits = each_from (λ x. (w : Waiting) × Among w m.waiting × IsWaiting x w) waiting
      (λ x there. each_among (λ y. (w : Waiting) × Among w m.waiting × IsWaiting y w) x parts.waiting shows.waits (waited x there));
  waiting = each_map (λ w. (x : Thread) × Among x parts.waiting × IsWaiting x w) (λ w. (x : Thread) × Among x waiting × IsWaiting x w) m.waiting
      (λ w among was. (was.0, among_moved parts.waiting waiting threads_moved was.0 was.1, was.2)) shows.waiting;
  wait_once = differ_moved label_of parts.waiting waiting threads_moved shows.wait_once;
  books = shows.books;
  threads = λ x there. thread x (shows.threads x (was_in x there));
  results = λ r there. result r (shows.results r (was_result r there));
  kept_once = differ_moved result_label parts.results results results_moved shows.kept_once;
  words = shows.words ∙ ap pos same_words;
}
  where
    waited : (x : Thread) → Among x waiting → Among x parts.waiting
    waited x there = among_moved waiting parts.waiting (IsPermutation-sym parts.waiting waiting threads_moved) x there

    was_result : (r : Result) → Among r results → Among r parts.results
    was_result r there = among_moved results parts.results (IsPermutation-sym parts.results results results_moved) r there

    was_in : (x : Thread) → IsIn x (record parts { waiting = waiting; results = results }) → IsIn x parts
    was_in x there = elim there [ inl in_deque ↦ inl in_deque | inr waits ↦ inr (waited x waits) ]

    child : (id : ThreadId) (label : List ℕ) (c : Child) → ChildStands l (done_at m) parts id label c
        → ChildStands l (done_at m) (record parts { waiting = waiting; results = results }) id label c
    child id label c was = record {
      labelled = was.labelled;
      forked = was.forked;
      ended = λ ended. elim (was.ended ended) [
        | inl given ↦ inl given
        | inr kept ↦ inr (kept.0, among_moved parts.results results results_moved kept.0 kept.1, kept.2)
      ];
      delivered = λ given. ((was.delivered given).0, λ kept. (was.delivered given).1 (kept.0, was_result kept.0 kept.1, kept.2));
      is_thread = λ y there. was.is_thread y (was_in y there);
      is_result = λ r there. was.is_result r (was_result r there);
    }

    thread : (x : Thread) → ThreadStands l (done_at m) parts x → ThreadStands l (done_at m) (record parts { waiting = waiting; results = results }) x
    thread x was = record {
      labelled = was.labelled;
      has_done = was.has_done;
      children = each_map (ChildStands l (done_at m) parts x.id x.label) (ChildStands l (done_at m) (record parts { waiting = waiting; results = results }) x.id x.label) x.children
          (λ c among stands. child x.id x.label c stands) was.children;
      all_children = was.all_children;
      ordinals_differ = was.ordinals_differ;
    }

    result : (r : Result) → ResultStands l (done_at m) parts r → ResultStands l (done_at m) (record parts { waiting = waiting; results = results }) r
    result r was = record { labelled = was.labelled; ended = was.ended }

    same_words : words_of parts ≡ words_of (record parts { waiting = waiting; results = results })
    same_words =
        let a = total_moved thread_words parts.waiting waiting threads_moved in let b = total_moved result_words parts.results results results_moved in omega (arith, a, b)
