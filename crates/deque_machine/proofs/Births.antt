-- Each event keeps births in order.
use Rattle.std.proofs.Common.{◌≡◌, ℕ, ◌⊎◌, List, [], ◌∷◌, ◌++◌, inl, inr, sym, ap, subst, ◌∙◌, append_assoc, append-nil}
use Rattle.std.specs.Prelude.{Some}
use Rattle.dag_order.specs.LabelOrder.{fork_of}
use Rattle.depth_first_run.specs.Passed.Actions.{forks, Action}
use Rattle.depth_first_run.specs.Passed.Runs.{IsDepthFirst}
use Rattle.depth_first_run.specs.Passed.Facts.{label_at, deed_at, IsDone, IsLive}
use Rattle.deque_machine.specs.Lists.{Among, Each}
use Rattle.deque_machine.specs.Books.{Book, booked, done_in}
use Rattle.deque_machine.proofs.Lists.{each_map, each_from, each_among, among_left, among_right, among_parts, among_times, by_end}
use Rattle.deque_machine.specs.Moments.{Deque}
use Rattle.deque_machine.specs.LawfulOrder.{IsRootOrBorn, ParentsFirst, BornBy, OwnedBorn}
use Rattle.deque_machine.proofs.LiveThreads.{fork_is_done}
use Rattle.deque_machine.proofs.Labels.{one_parent}

-- all of one list stand in another
abbrev pub Within : List ℕ → List ℕ → Type 0
Within xs ys = (x : ℕ) → Among x xs → Among x ys

pub born_wider : (l : List Action) (xs ys : List ℕ) (t : List ℕ) → Within xs ys → IsRootOrBorn l xs t → IsRootOrBorn l ys t
born_wider l xs ys t wider born = elim born [ inl root ↦ inl root | inr b ↦ inr (b.0, b.1, wider b.0 b.2, b.3, b.4) ]

parents_wider : (l : List Action) (a b xs : List ℕ) → Within a b → ParentsFirst l a xs → ParentsFirst l b xs
parents_wider l a b [] wider all = tt
parents_wider l a b (x ∷ xs) wider all = (
  (λ child deed. born_wider l a b (label_at l x) wider (all.0 child deed)),
  parents_wider l (x ∷ a) (x ∷ b) xs (λ y there. elim there [ inl same ↦ inl same | inr later ↦ inr (wider y later) ]) all.1,
)

-- one more place, whose thread was born before it
pub parents_insert : (l : List Action) (before xs ys : List ℕ) (p : ℕ)
    → ((seen : List ℕ) → ((y : ℕ) → Among y before ⊎ Among y xs → Among y seen) → (child : ℕ) → deed_at l p ≡ forks child → IsRootOrBorn l seen (label_at l p))
    → ParentsFirst l before (xs ++ ys) → ParentsFirst l before (xs ++ p ∷ ys)
parents_insert l before [] ys p born all =
    ((λ child deed. born before (λ y there. elim there [ inl b ↦ b | inr none ↦ absurd none ]) child deed), parents_wider l before (p ∷ before) ys (λ y there. inr there) all)
parents_insert l before (x ∷ xs) ys p born all = (
  all.0,
  parents_insert l (x ∷ before) xs ys p
      (λ seen wider child deed. born seen (λ y there. elim there [
        | inl b ↦ wider y (inl (inr b))
        | inr r ↦ elim r [ inl same ↦ wider y (inl (inl same)) | inr later ↦ wider y (inr later) ]
      ]) child deed) all.1,
)

-- a thread that was born is one of those that a parent forked, after its own birth
pub parent_born : (l : List Action) (before xs : List ℕ) (t parent : List ℕ) (child : ℕ) → t ≡ fork_of parent child
    → ParentsFirst l before xs → (f c : ℕ) → Among f xs → deed_at l f ≡ forks c → t ≡ fork_of (label_at l f) c → (seen : List ℕ) → Within before seen → Within xs seen
    → IsRootOrBorn l seen parent
parent_born l before [] t parent child is all f c there deed born seen old new = absurd there
parent_born l before (x ∷ xs) t parent child is all f c there deed born seen old new = elim there [
  | inl same ↦
      let mine : label_at l x ≡ parent = ap (λ u. label_at l u) (sym same) ∙ (one_parent (label_at l f) parent c child (sym born ∙ is)).0 in
      subst (IsRootOrBorn l seen) mine (born_wider l before seen (label_at l x) old (all.0 c (ap (λ u. deed_at l u) (sym same) ∙ deed)))
  | inr later ↦ parent_born l (x ∷ before) xs t parent child is all.1 f c later deed born seen
      (λ y there. elim there [ inl same ↦ new y (inl same) | inr b ↦ old y b ]) (λ y there. new y (inr there))
]

-- a live thread is the root or was born
pub live_is_born : (k : ℕ) (l : List Action) → IsDepthFirst k l → (books : List Book) → IsDone l (done_in books) → (t : List ℕ) → IsLive l (done_in books) t
    → IsRootOrBorn l (booked books) t
live_is_born k l run books closed t live = elim (by_end t) [
  | inl root ↦ inl root
  | inr cut ↦
      let f = fork_is_done k l run (done_in books) closed t cut.0 [] cut.1 live cut.2 in
      inr (f.0, cut.1, among_times f.0 (booked books) f.4, f.3, cut.2 ∙ ap (λ u. fork_of u cut.1) (sym f.2))
]

-- what a deque has of those that were there: their owner, and of one of them all its threads
abbrev pub HasOf : List Deque → Deque → Type 0
HasOf deques d = (e : Deque) × Among e deques × (d.owner ≡ e.owner) × ((t : List ℕ) → Among t d.threads → Among t e.threads)

-- other deques, of which those of this owner were there
pub born_by_kept : (l : List Action) (deques others : List Deque) (before seen : List ℕ) (book : Book) → Within before seen
    → ((worker : ℕ) → book.owner ≡ Some worker → Each (λ d. d.owner ≡ Some worker → HasOf deques d) others)
    → BornBy l deques before book → BornBy l others seen book
born_by_kept l deques others before seen book wider has born worker is =
    each_map (λ d. d.owner ≡ Some worker → HasOf deques d) (λ d. d.owner ≡ Some worker → Each (IsRootOrBorn l (seen ++ book.ran)) d.threads) others
    (λ d among of owned.
    let e = of owned in
    let all : Each (IsRootOrBorn l (before ++ book.ran)) (e.0).threads =
    each_among (λ d. d.owner ≡ Some worker → Each (IsRootOrBorn l (before ++ book.ran)) d.threads) e.0 deques (born worker is) e.1 (sym e.2 ∙ owned) in
    each_from (IsRootOrBorn l (seen ++ book.ran)) d.threads (λ t there. born_wider l (before ++ book.ran) (seen ++ book.ran) t
    (λ x among. elim (among_parts x before book.ran among) [ inl b ↦ among_left x seen book.ran (wider x b) | inr r ↦ among_right x seen book.ran r ])
    (each_among (IsRootOrBorn l (before ++ book.ran)) t (e.0).threads all (e.3 t there))))
    (has worker is)

-- a list of books
pub owned_kept : (l : List Action) (deques others : List Deque) (before seen : List ℕ) (books : List Book) → Within before seen
    → Each (λ book. (worker : ℕ) → book.owner ≡ Some worker → Each (λ d. d.owner ≡ Some worker → HasOf deques d) others) books
    → OwnedBorn l deques before books → OwnedBorn l others seen books
owned_kept l deques others before seen [] wider has all = tt
owned_kept l deques others before seen (book ∷ books) wider has all = (
  born_by_kept l deques others before seen book wider has.0 all.0,
  owned_kept l deques others (before ++ book.ran) (seen ++ book.ran) books
      (λ x among. elim (among_parts x before book.ran among) [ inl b ↦ among_left x seen book.ran (wider x b) | inr r ↦ among_right x seen book.ran r ]) has.1 all.1,
)

-- the middle of a list of books
pub owned_parts : (l : List Action) (deques : List Deque) (before : List ℕ) (older newer : List Book) → OwnedBorn l deques before (older ++ newer)
    → OwnedBorn l deques before older × OwnedBorn l deques (before ++ booked older) newer
owned_parts l deques before [] newer all = (tt, subst (λ t. OwnedBorn l deques t newer) (sym (append-nil before)) all)
owned_parts l deques before (book ∷ older) newer all =
    let rest = owned_parts l deques (before ++ book.ran) older newer all.1 in
    ((all.0, rest.0), subst (λ t. OwnedBorn l deques t newer) (append_assoc before book.ran (booked older)) rest.1)

pub owned_join : (l : List Action) (deques : List Deque) (before : List ℕ) (older newer : List Book) → OwnedBorn l deques before older
    → OwnedBorn l deques (before ++ booked older) newer → OwnedBorn l deques before (older ++ newer)
owned_join l deques before [] newer all rest = subst (λ t. OwnedBorn l deques t newer) (append-nil before) rest
owned_join l deques before (book ∷ older) newer all rest =
    (all.0, owned_join l deques (before ++ book.ran) older newer all.1 (subst (λ t. OwnedBorn l deques t newer) (sym (append_assoc before book.ran (booked older))) rest))

pub parents_front : (l : List Action) (before xs ys : List ℕ) → ParentsFirst l before (xs ++ ys) → ParentsFirst l before xs
parents_front l before [] ys all = tt
parents_front l before (x ∷ xs) ys all = (all.0, parents_front l (x ∷ before) xs ys all.1)
