-- The words in use are at most the peak and two quotas for each period ahead.
use Rattle.std.proofs.Common.{◌≡◌, ℕ, zero, suc, ◌+◌, ◌-◌, ◌*◌, ◌≤◌, ◌<◌, ◌⊎◌, cond, nat_le, Bool, true, false, ◌||◌, List, [], ◌∷◌, ◌++◌, length, take, ℤ, pos, ◌+ℤ◌, ◌≤ℤ◌, ◌<ℤ◌, inl, inr, refl, sym, ap, subst, ◌∙◌, arith, true≢false}
use Rattle.std.proofs.lemmas.Bool.{cases_eq, cases_lt, leb-false}
use Rattle.std.proofs.lemmas.Int.{ints}
use Rattle.std.proofs.Math.Nat.{mul-add, add-mul}
use Rattle.std.proofs.lemmas.Nat.{mul-le}
use Rattle.depth_first_run.proofs.Passed.QuotaLaws.{dummies_cover}
use Rattle.depth_first_run.specs.Passed.Quotas.{dummies_of}
use Rattle.depth_first_run.specs.Passed.Shapes.{is_dummy}
use Rattle.depth_first_run.specs.Passed.Actions.{Deed, forks, joins, allocates, releases, dummy, faults, ends, Action, kind_of, record_words, weight_of, live_words, peak}
use Rattle.depth_first_run.specs.Passed.Runs.{IsDepthFirst}
use Rattle.depth_first_run.specs.Passed.Facts.{weight_at, deed_at, words_at}
use Rattle.depth_first_run.specs.Passed.Laws.{leaves_at, dummies_from, IsOfTree, IsLarge, IsInTreeOf, TreeStandsBefore, PeakIsHighest}
use Rattle.depth_first_run.proofs.Passed.TreeLaws.{trees_stand_before, trees_are_done_first}
use Rattle.depth_first_run.proofs.Passed.Peak.{peak_is_highest}
use Rattle.deque_machine.specs.Lists.{Each, total, times}
use Rattle.deque_machine.specs.Books.{Book, booked, done_in, words_in_use, charge, charge_at, IsPrefix, goes_past, one_if_ahead, periods_ahead}
use Rattle.deque_machine.specs.Lawful.{LawfulBooks, DummyEnds}
use Rattle.deque_machine.specs.BookLaws.{Accounting, ArenaLaw}
use Rattle.deque_machine.proofs.Lists.{each_from, times_among}
use Rattle.deque_machine.proofs.Parts.{part, part_done, part_missing, part_empty, part_append, part_below, part_sum, part_times, part_none, early, early_all, split_at}
use Rattle.deque_machine.proofs.Words.{fork_weight}

-- the words of an Alloc that the quota does not cover, and its dummies
large_of : ℕ → Deed → ℕ → ℕ
large_of k (forks child) words = 0
large_of k (joins child) words = 0
large_of k allocates words = cond (nat_le words k) 0 words
large_of k releases words = 0
large_of k dummy words = 0
large_of k faults words = 0
large_of k ends words = 0

large_at : ℕ → List Action → ℕ → ℕ
large_at k l i = large_of k (deed_at l i) (words_at l i)

wanted_of : ℕ → Deed → ℕ → ℕ → ℕ
wanted_of k (forks child) words leaves = 0
wanted_of k (joins child) words leaves = 0
wanted_of k allocates words leaves = cond (nat_le words k) 0 leaves
wanted_of k releases words leaves = 0
wanted_of k dummy words leaves = 0
wanted_of k faults words leaves = 0
wanted_of k ends words leaves = 0

wanted_at : ℕ → List Action → ℕ → ℕ
wanted_at k l i = wanted_of k (deed_at l i) (words_at l i) (leaves_at k l i)

dummy_of : Deed → ℕ
dummy_of deed = cond (is_dummy (kind_of deed)) 1 0

dummy_at : List Action → ℕ → ℕ
dummy_at l i = dummy_of (deed_at l i)

-- what a weight adds is a charge, or the words of a large Alloc
gained : (k : ℕ) (l : List Action) → IsDepthFirst k l → (i : ℕ) → i < length l → weight_at l i ≤ℤ pos (charge_at k l i + large_at k l i)
unfolding large_at large_of
gained k l run i inside = by_deed k (deed_at l i) (words_at l i) (λ child is. subst (λ d. weight_of d (words_at l i) ≤ℤ pos record_words) is (fork_weight k l run i child inside is))
  where
    small : (k words : ℕ) (b : Bool) → pos words ≤ℤ pos (cond b words 0 + cond b 0 words)
    small k words true = omega (arith, ints)
    small k words false = omega (arith, ints)

    by_deed : (k : ℕ) (deed : Deed) (words : ℕ) → ((child : ℕ) → deed ≡ forks child → weight_of (forks child) words ≤ℤ pos record_words)
        → weight_of deed words ≤ℤ pos (charge k deed words + large_of k deed words)
    by_deed k (forks child) words fork = let f = fork child refl in omega (arith, ints, f)
    by_deed k (joins child) words fork = omega (arith, ints)
    by_deed k allocates words fork = small k words (nat_le words k)
    by_deed k releases words fork = omega (arith, ints)
    by_deed k dummy words fork = omega (arith, ints)
    by_deed k faults words fork = omega (arith, ints)
    by_deed k ends words fork = omega (arith, ints)

-- the words of a large Alloc are at most a quota for each of its dummies
covered : (k : ℕ) (l : List Action) → 0 < k → (i : ℕ) → large_at k l i ≤ k * wanted_at k l i
unfolding large_at wanted_at large_of wanted_of
covered k l some i = by_deed k some (deed_at l i) (words_at l i)
  where
    large : (k words : ℕ) → 0 < k → (b : Bool) → nat_le words k ≡ b → cond b 0 words ≤ k * cond b 0 (dummies_of words k)
    large k words some true is = omega arith
    large k words some false is = dummies_cover words k some (leb-false words k is)

    by_deed : (k : ℕ) → 0 < k → (deed : Deed) (words : ℕ) → large_of k deed words ≤ k * wanted_of k deed words (dummies_of words k)
    by_deed k some (forks child) words = omega arith
    by_deed k some (joins child) words = omega arith
    by_deed k some allocates words = large k words some (nat_le words k) refl
    by_deed k some releases words = omega arith
    by_deed k some dummy words = omega arith
    by_deed k some faults words = omega arith
    by_deed k some ends words = omega arith

-- the tree before a large Alloc has no large Alloc in it
tree_wants_none : (k : ℕ) (l : List Action) (i : ℕ) → IsOfTree (deed_at l i) → wanted_at k l i ≡ 0
unfolding wanted_at wanted_of
tree_wants_none k l i of_tree = by_deed k (deed_at l i) (words_at l i) (leaves_at k l i) of_tree
  where
    by_deed : (k : ℕ) (deed : Deed) (words leaves : ℕ) → IsOfTree deed → wanted_of k deed words leaves ≡ 0
    by_deed k (forks child) words leaves of_tree = refl
    by_deed k (joins child) words leaves of_tree = refl
    by_deed k allocates words leaves of_tree = absurd of_tree
    by_deed k releases words leaves of_tree = refl
    by_deed k dummy words leaves of_tree = refl
    by_deed k faults words leaves of_tree = refl
    by_deed k ends words leaves of_tree = refl

-- what wants dummies is a large Alloc, which wants its leaves; all else wants none
wants : (k : ℕ) (l : List Action) (i : ℕ) → i < length l → (IsLarge k l i × (wanted_at k l i ≡ leaves_at k l i)) ⊎ (wanted_at k l i ≡ 0)
unfolding wanted_at wanted_of
wants k l i inside = by_deed k (deed_at l i) (words_at l i) (leaves_at k l i) refl
  where
    allocated : (k words leaves : ℕ) (b : Bool) → nat_le words k ≡ b → ((k < words) × (cond b 0 leaves ≡ leaves)) ⊎ (cond b 0 leaves ≡ 0)
    allocated k words leaves true is = inr refl
    allocated k words leaves false is = inl (leb-false words k is, refl)

    by_deed : (k : ℕ) (deed : Deed) (words leaves : ℕ) → deed_at l i ≡ deed
        → ((i < length l) × (deed_at l i ≡ allocates) × (k < words)) × (wanted_of k deed words leaves ≡ leaves) ⊎ (wanted_of k deed words leaves ≡ 0)
    by_deed k (forks child) words leaves is = inr refl
    by_deed k (joins child) words leaves is = inr refl
    by_deed k allocates words leaves is = elim (allocated k words leaves (nat_le words k) refl) [
      | inl large ↦ inl ((inside, is, large.0), large.1)
      | inr none ↦ inr none
    ]
    by_deed k releases words leaves is = inr refl
    by_deed k dummy words leaves is = inr refl
    by_deed k faults words leaves is = inr refl
    by_deed k ends words leaves is = inr refl

-- over places that are all done, the dummies sum up
walked_dummies : (l : List Action) (xs : List ℕ) (n s c : ℕ) → n ≤ s → ((i : ℕ) → s ≤ i → i < s + c → times i xs ≡ 1)
    → part n (s + c) (dummy_at l) xs ≡ part n s (dummy_at l) xs + dummies_from l s c
unfolding dummy_at dummy_of
walked_dummies l xs n s zero from all = let same : part n (s + 0) (dummy_at l) xs ≡ part n s (dummy_at l) xs = (let e : s + 0 ≡ s = omega arith in ap (λ t. part n t (dummy_at l) xs) e) in omega (arith, same)
walked_dummies l xs n s (suc c) from all =
    let same : part n (s + suc c) (dummy_at l) xs ≡ part n (suc s + c) (dummy_at l) xs = (let e : s + suc c ≡ suc s + c = omega arith in ap (λ t. part n t (dummy_at l) xs) e) in
    let rest = walked_dummies l xs n (suc s) c (omega arith) (λ i low high. all i (omega arith) (omega arith)) in
    let here = part_done n s (dummy_at l) xs from (all s (omega arith) (omega arith)) in
    same ∙ rest ∙ ap (λ t. t + dummies_from l (suc s) c) here ∙ joined (part n s (dummy_at l) xs) (dummies_from l (suc s) c)
  where
    as_counted : (i : ℕ) → dummy_at l i ≡ cond (is_dummy (kind_of (deed_at l i))) 1 0
    as_counted i = refl

    counted : (a b c d : ℕ) → c ≡ d → a + c + b ≡ a + (d + b)
    counted a b c d same = omega arith

    joined : (a b : ℕ) → a + dummy_at l s + b ≡ a + (cond (is_dummy (kind_of (deed_at l s))) 1 0 + b)
    joined a b = counted a b (dummy_at l s) (cond (is_dummy (kind_of (deed_at l s))) 1 0) (as_counted s)

-- and where nothing wants dummies, nothing is added
walked_wanted : (k : ℕ) (l : List Action) (xs : List ℕ) (n s c : ℕ) → n ≤ s → ((i : ℕ) → s ≤ i → i < s + c → times i xs ≡ 1)
    → ((i : ℕ) → s ≤ i → i < s + c → wanted_at k l i ≡ 0) → part n (s + c) (wanted_at k l) xs ≡ part n s (wanted_at k l) xs
walked_wanted k l xs n s zero from all none = (let e : s + 0 ≡ s = omega arith in ap (λ t. part n t (wanted_at k l) xs) e)
walked_wanted k l xs n s (suc c) from all none =
    let same : part n (s + suc c) (wanted_at k l) xs ≡ part n (suc s + c) (wanted_at k l) xs = (let e : s + suc c ≡ suc s + c = omega arith in ap (λ t. part n t (wanted_at k l) xs) e) in
    let rest = walked_wanted k l xs n (suc s) c (omega arith) (λ i low high. all i (omega arith) (omega arith)) (λ i low high. none i (omega arith) (omega arith)) in
    let here = part_done n s (wanted_at k l) xs from (all s (omega arith) (omega arith)) in
    let nothing = none s (omega arith) (omega arith) in
    omega (arith, same, rest, here, nothing)

-- from n on, what is done of large Allocs wants no more dummies than are done
wanted_are_done : (k : ℕ) (l : List Action) (books : List Book) (n : ℕ) → 0 < k → IsDepthFirst k l → LawfulBooks k l books → IsPrefix l (done_in books) n
    → (turns m : ℕ) → m ≤ turns → m ≤ length l → part n m (wanted_at k l) (booked books) ≤ part n m (dummy_at l) (booked books)
wanted_are_done k l books n some run lawful prefix turns zero few inside = let none = part_empty n 0 (wanted_at k l) (booked books) (omega arith) in omega (arith, none)
wanted_are_done k l books n some run lawful prefix zero (suc m) few inside = absurd (omega arith)
wanted_are_done k l books n some run lawful prefix (suc turns) (suc m) few inside =
    elim (cases_lt m n) [
      | inl low ↦ let none = part_empty n (suc m) (wanted_at k l) (booked books) (omega arith) in omega (arith, none)
      | inr from ↦ elim (cases_eq (done_in books m) 0) [
        | inl missing ↦
            let a = part_missing n m (wanted_at k l) (booked books) from missing in
            let b = part_missing n m (dummy_at l) (booked books) from missing in
            let before = wanted_are_done k l books n some run lawful prefix turns m (omega arith) (omega arith) in omega (arith, a, b, before)
        | inr there ↦
            let once_at = lawful.different m in
            let once : done_in books m ≡ 1 = omega arith in
            let a = part_done n m (wanted_at k l) (booked books) from once in
            let b = part_done n m (dummy_at l) (booked books) from once in
            let before = wanted_are_done k l books n some run lawful prefix turns m (omega arith) (omega arith) in
            elim (wants k l m (omega arith)) [
              | inr none ↦ omega (arith, a, b, before, none)
              | inl large ↦
                  let tree : TreeStandsBefore k l m = trees_stand_before k l some run m large.0 in
                  let earlier = wanted_are_done k l books n some run lawful prefix turns tree.first in
                  through m (omega arith) from once a b large.0 large.1 tree earlier
            ]
      ]
    ]
  where
    through : (m : ℕ) → m ≤ turns → n ≤ m → done_in books m ≡ 1
        → part n (suc m) (wanted_at k l) (booked books) ≡ part n m (wanted_at k l) (booked books) + wanted_at k l m
        → part n (suc m) (dummy_at l) (booked books) ≡ part n m (dummy_at l) (booked books) + dummy_at l m
        → IsLarge k l m → wanted_at k l m ≡ leaves_at k l m → (tree : TreeStandsBefore k l m)
        → (tree.first ≤ turns → tree.first ≤ length l → part n tree.first (wanted_at k l) (booked books) ≤ part n tree.first (dummy_at l) (booked books))
        → part n (suc m) (wanted_at k l) (booked books) ≤ part n (suc m) (dummy_at l) (booked books)
    through m fits from once a b large wanted tree earlier =
        let size = tree.size in let below = tree.begins_before in let m_in = large.0 in
        let in_tree : (i : ℕ) → tree.first ≤ i → i < m → IsInTreeOf k l m i = λ i low high. (high, omega (arith, size)) in
        let did : (i : ℕ) → tree.first ≤ i → i < m → 0 < done_in books i = λ i low high.
        trees_are_done_first k l some run (done_in books) lawful.first_actions m i large (in_tree i low high) (omega (arith, once)) in
        let all : (i : ℕ) → tree.first ≤ i → i < m → times i (booked books) ≡ 1 = λ i low high.
        let d = did i low high in let most = lawful.different i in omega arith in
        let reached : n ≤ tree.first = elim (cases_lt tree.first n) [
          | inr le ↦ le
          | inl past ↦ let missing = prefix.next_missing (omega arith) in elim (cases_lt n m) [
            | inl lt ↦ let d = did n (omega arith) lt in absurd (omega arith)
            | inr le ↦ let e : n ≡ m = omega arith in let twice : done_in books n ≡ done_in books m = ap (done_in books) e in absurd (omega arith)
          ]
        ] in
        let behind : tree.first + (m - tree.first) ≡ m = omega arith in
        let up : part n m (dummy_at l) (booked books) ≡ part n tree.first (dummy_at l) (booked books) + leaves_at k l m =
        ap (λ t. part n t (dummy_at l) (booked books)) (sym behind)
        ∙ walked_dummies l (booked books) n tree.first (m - tree.first) reached (λ i low high. all i low (omega arith))
        ∙ ap (λ t. part n tree.first (dummy_at l) (booked books) + t) tree.dummies in
        let still : part n m (wanted_at k l) (booked books) ≡ part n tree.first (wanted_at k l) (booked books) =
        ap (λ t. part n t (wanted_at k l) (booked books)) (sym behind)
        ∙ walked_wanted k l (booked books) n tree.first (m - tree.first) reached (λ i low high. all i low (omega arith))
        (λ i low high. tree_wants_none k l i (tree.of_tree i low (omega arith))) in
        let before = earlier (omega arith) (omega arith) in
        omega (arith, a, b, wanted, up, still, before)

-- a period that is not ahead ran nothing from n on
not_past : (n : ℕ) (xs : List ℕ) → goes_past n xs ≡ false → Each (λ i. i < n) xs
not_past n [] is = tt
not_past n (x ∷ xs) is = by_first (nat_le n x) (goes_past n xs) refl is (λ rest. not_past n xs rest)
  where
    by_first : (a b : Bool) → nat_le n x ≡ a → (a || b) ≡ false → (b ≡ false → Each (λ i. i < n) xs) → (x < n) × Each (λ i. i < n) xs
    by_first true b a_is is later = absurd (true≢false is)
    by_first false b a_is is later = (leb-false n x a_is, later is)

-- a part of a book is nothing where its period is not ahead, and never more than the whole
book_part : (n m k : ℕ) (f : ℕ → ℕ) (book : Book) → total f book.ran ≤ k → part n m f book.ran ≤ k * one_if_ahead n book
book_part n m k f book most = by_ahead (goes_past n book.ran) refl
  where
    by_ahead : (b : Bool) → goes_past n book.ran ≡ b → part n m f book.ran ≤ k * cond b 1 0
    by_ahead true is = let below = part_below n m f book.ran in omega (arith, below)
    by_ahead false is = let none = part_none n m f book.ran (not_past n book.ran is) in omega (arith, none)

-- so all periods together have at most k for each that is ahead
books_part : (n m k : ℕ) (f : ℕ → ℕ) (books : List Book) → Each (λ book. total f book.ran ≤ k) books → part n m f (booked books) ≤ k * periods_ahead n books
books_part n m k f [] all = let none = part_none n m f [] tt in omega (arith, none)
books_part n m k f (book ∷ later) all =
    let here = book_part n m k f book all.0 in
    let rest = books_part n m k f later all.1 in
    let sum = part_append n m f book.ran (booked later) in
    let d = mul-add k (one_if_ahead n book) (periods_ahead n later) in omega (arith, here, rest, sum, d)

-- a period runs at most one Dummy
one_dummy : (l : List Action) (xs : List ℕ) → ((front back : List ℕ) (i : ℕ) → xs ≡ front ++ i ∷ back → deed_at l i ≡ dummy → back ≡ []) → total (dummy_at l) xs ≤ 1
unfolding dummy_at dummy_of
one_dummy l [] last = omega arith
one_dummy l (x ∷ xs) last = by_deed (deed_at l x) refl (one_dummy l xs (λ front back i is deed. last (x ∷ front) back i (ap (λ t. x ∷ t) is) deed))
  where
    by_deed : (deed : Deed) → deed_at l x ≡ deed → total (dummy_at l) xs ≤ 1 → dummy_of deed + total (dummy_at l) xs ≤ 1
    by_deed (forks child) is rest = omega arith
    by_deed (joins child) is rest = omega arith
    by_deed allocates is rest = omega arith
    by_deed releases is rest = omega arith
    by_deed dummy is rest = let none : xs ≡ [] = last [] xs x refl is in let nothing : total (dummy_at l) xs ≡ 0 = ap (λ t. total (dummy_at l) t) none in omega arith
    by_deed faults is rest = omega arith
    by_deed ends is rest = omega arith

one_dummy_each : (l : List Action) (books : List Book) → Each (DummyEnds l) books → Each (λ book. total (dummy_at l) book.ran ≤ 1) books
one_dummy_each l [] all = tt
one_dummy_each l (book ∷ later) all =
    (one_dummy l book.ran (λ front back i is deed. (all.0 front back i is deed).0), one_dummy_each l later all.1)

-- the words in use, by the prefix, the charges and the large Allocs
pub accounting : (k : ℕ) (l : List Action) → 0 < k → IsDepthFirst k l → Accounting k l
accounting k l some run books n lawful prefix =
    let xs : List ℕ = booked books in
    let gain : ℕ → ℕ = λ i. charge_at k l i + large_at k l i in
    let inside : Each (λ i. i < length l) xs = each_from (λ i. i < length l) xs (λ i there. lawful.of_the_list i (times_among i xs there)) in
    let cut : words_in_use l books ≤ℤ (early (weight_at l) n xs +ℤ pos (part n (length l) gain xs)) = split_at l n (length l) gain xs (gained k l run) inside in
    let once : (i : ℕ) → i < n → times i xs ≡ 1 = λ i lt. let d = prefix.all_done i lt in let most = lawful.different i in omega arith in
    let front : early (weight_at l) n xs ≡ live_words (take n l) = early_all l n xs prefix.inside once in
    let highest : PeakIsHighest l = peak_is_highest l in
    let top : live_words (take n l) ≤ℤ peak l = highest.never_above n in
    let parts : part n (length l) gain xs ≡ part n (length l) (charge_at k l) xs + part n (length l) (large_at k l) xs = part_sum n (length l) (charge_at k l) (large_at k l) xs in
    let charges : part n (length l) (charge_at k l) xs ≤ k * periods_ahead n books = books_part n (length l) k (charge_at k l) books lawful.within in
    let large : part n (length l) (large_at k l) xs ≤ k * part n (length l) (wanted_at k l) xs = part_times n (length l) k (large_at k l) (wanted_at k l) xs (covered k l some) in
    let wanted : part n (length l) (wanted_at k l) xs ≤ part n (length l) (dummy_at l) xs = wanted_are_done k l books n some run lawful prefix (length l) (length l) (omega arith) (omega arith) in
    let dummies : part n (length l) (dummy_at l) xs ≤ 1 * periods_ahead n books = books_part n (length l) 1 (dummy_at l) books (one_dummy_each l books lawful.dummies_end) in
    let times_k : k * part n (length l) (wanted_at k l) xs ≤ k * periods_ahead n books = mul-le k (part n (length l) (wanted_at k l) xs) k (periods_ahead n books) (omega arith) (omega (arith, wanted, dummies)) in
    let twice : 2 * k * periods_ahead n books ≡ k * periods_ahead n books + k * periods_ahead n books = twice_product k (periods_ahead n books) in
    ends_well (words_in_use l books) (early (weight_at l) n xs) (peak l) (part n (length l) gain xs) (2 * k * periods_ahead n books) cut
    (subst (λ t. t ≤ℤ peak l) (sym front) top)
    (omega (arith, parts, charges, large, times_k, twice))
  where
    twice_product : (a b : ℕ) → 2 * a * b ≡ a * b + a * b
    twice_product a b = ap (λ t. t * b) (omega arith) ∙ add-mul a a b

    ends_well : (live front top : ℤ) (late most : ℕ) → live ≤ℤ (front +ℤ pos late) → front ≤ℤ top → late ≤ most → live ≤ℤ (top +ℤ pos most)
    ends_well live front top late most a b c = omega (arith, ints)

-- where more words are in use than so many periods allow, more periods are ahead
pub arena_law : (k : ℕ) (l : List Action) → 0 < k → IsDepthFirst k l → ArenaLaw k l
arena_law k l some run books n periods lawful prefix above = elim (cases_lt periods (periods_ahead n books)) [
  | inl more ↦ more
  | inr few ↦ let most = accounting k l some run books n lawful prefix in
      let products : 2 * k * periods_ahead n books ≤ 2 * k * periods = mul-le (2 * k) (periods_ahead n books) (2 * k) periods (omega arith) few in
      absurd (too_many (words_in_use l books) (peak l) (2 * k * periods_ahead n books) (2 * k * periods) most above products)
]
  where
    too_many : (live top : ℤ) (ahead most : ℕ) → live ≤ℤ (top +ℤ pos ahead) → (top +ℤ pos most) <ℤ live → ahead ≤ most → ⊥
    too_many live top ahead most a b c = omega (arith, ints)
