-- How many entries there can be.
use Rattle.std.proofs.Common.{◌≡◌, ℕ, suc, ◌+◌, ◌*◌, ◌≤◌, ◌<◌, List, [], ◌∷◌, ◌++◌, length, map, inl, inr, refl, sym, ap, subst, ◌∙◌, arith, pos}
use Rattle.std.proofs.lemmas.Int.{ints}
use Rattle.std.specs.Prelude.{ℤ}
use Rattle.dag_order.specs.LabelOrder.{Before}
use Rattle.depth_first_list.specs.Actions.{record_words}
use Rattle.depth_first_list.specs.Runs.{IsDepthFirst}
use Rattle.deque_machine.specs.Lists.{Each, total}
use Rattle.deque_machine.proofs.Lists.{same_tail, cons_is_not_nil}
use Rattle.deque_machine.specs.Moments.{threads_in, live_at, Rises}
use Rattle.deque_machine.specs.Machine.{Setting}
use Rattle.moment_laws.specs.Passed.Parts.{Thread, Deque, deque_shown, deque_words, thread_words, label_of, words_of}
use Rattle.ready_machine.specs.Entries.{IsEntry}
use Rattle.ready_machine.specs.Standing.{HasRecord, EntriesAreFew}

-- nothing is after the root in the order
none_after_root : (ds : List Deque) → Each IsEntry (map deque_shown ds) → Each (Before []) (threads_in (map deque_shown ds)) → ds ≡ []
none_after_root [] entries behind = refl
none_after_root (d ∷ ds) entries behind = absurd (by_threads (map label_of d.threads) (entries.0).1 behind)
  where
    by_threads : (labels : List (List ℕ)) → labels ≡ (entries.0).0 ∷ [] → Each (Before []) (labels ++ threads_in (map deque_shown ds)) → ⊥
    by_threads [] is behind = cons_is_not_nil (entries.0).0 [] (sym is)
    by_threads (label ∷ labels) is behind = behind.0

few : (ds : List Deque) → Each IsEntry (map deque_shown ds) → Rises (threads_in (map deque_shown ds))
    → Each (λ d. Each HasRecord d.threads) ds
    → record_words * length ds ≤ record_words + total deque_words ds
few [] entries rises has = omega arith
few (d ∷ ds) entries rises has =
    by_threads d.threads refl (entries.0).1 has.0 rises (λ later. few ds entries.1 later has.1)
    (λ behind. none_after_root ds entries.1 behind)
  where
    by_threads : (threads : List Thread) → d.threads ≡ threads → map label_of threads ≡ (entries.0).0 ∷ [] → Each HasRecord threads
        → Rises (map label_of threads ++ threads_in (map deque_shown ds))
        → (Rises (threads_in (map deque_shown ds)) → record_words * length ds ≤ record_words + total deque_words ds)
        → (Each (Before []) (threads_in (map deque_shown ds)) → ds ≡ [])
        → record_words * suc (length ds) ≤ record_words + (total thread_words d.threads + total deque_words ds)
    by_threads [] are is has rises rest none = absurd (cons_is_not_nil (entries.0).0 [] (sym is))
    by_threads (t ∷ u ∷ more) are is has rises rest none =
        absurd (cons_is_not_nil (label_of u) (map label_of more) (same_tail (label_of t) (entries.0).0
        (label_of u ∷ map label_of more) [] is))
    by_threads (t ∷ []) are is has rises rest none =
        let words : total thread_words d.threads ≡ t.words + 0 = ap (total thread_words) are in
        elim has.0 [
          | inr record_there ↦ let later = rest rises.1 in omega (arith, record_there, later, words)
          | inl root ↦
              let empty : ds ≡ [] = none (subst (λ l. Each (Before l) (threads_in (map deque_shown ds))) root rises.0) in
              let size : length ds ≡ 0 = ap length empty in omega (arith, size)
        ]

pub entries_are_few : (s : Setting) → 0 < s.quota → IsDepthFirst s.quota s.list → EntriesAreFew s
entries_are_few s some list shown moved m stands has =
    let shows = (stands.standing).shows in
    let deques = shows.deques in
    let size : length m.deques ≡ length shown.parts.deques = ap length deques ∙ as_many shown.parts.deques in
    let most = few shown.parts.deques (subst (λ t. Each IsEntry t) deques stands.entries)
    (subst (λ t. Rises (threads_in t)) deques (((stands.standing).lawful).order).rises) has in
    let live : shown.live ≡ words_of shown.parts = same_words (live_at s.list m) shown.live (words_of shown.parts)
    (stands.standing).live shows.words in
    omega (arith, size, most, live)
  where
    as_many : (ds : List Deque) → length (map deque_shown ds) ≡ length ds
    as_many [] = refl
    as_many (d ∷ ds) = ap suc (as_many ds)

    same_words : (x : ℤ) (a b : ℕ) → pos a ≡ x → x ≡ pos b → a ≡ b
    same_words x a b p q = omega (arith, ints, p, q)
