-- Each thread of a depth-first list has its run in one piece of the list.
use Rattle.std.proofs.Common.{◌≡◌, ℕ, suc, ◌≤◌, ◌<◌, List, [], ◌∷◌, ◌++◌, ◌⊎◌, inl, inr, length, refl, sym, subst, ap, ◌∙◌, arith, length-append}
use Rattle.std.proofs.lemmas.List.{append_assoc, append-nil}
use Rattle.std.proofs.lemmas.Bool.{cases_order, cases_eq}
use Rattle.dag_order.specs.LabelOrder.{fork_of}
use Rattle.depth_first_list.specs.Actions.{Deed, forks, joins, ends, Action}
use Rattle.depth_first_list.specs.Runs.{start, end_at, IsDepthFirst}
use Rattle.depth_first_list.specs.Facts.{action_at, label_at, deed_at, StemsFrom}
use Rattle.depth_first_list.proofs.Trace.{stays, Sits, sits_front, sits_back, traced}
use Rattle.depth_first_list.proofs.Steps.{Child, IsBelow, Steps, steps, GoesOn, goes_on, IsOwn, each_place}
use Rattle.depth_first_list.proofs.Own.{Between, one_child, not_own, Found, fork_found, ChildBlock, child_block}

-- the list stands at its own places
sits_behind : (x : Action) (l m : List Action) (s : ℕ) → Sits (action_at l) s m → Sits (action_at (x ∷ l)) (suc s) m
sits_behind x l [] s h = tt
sits_behind x l (y ∷ m) s h = (h.0, sits_behind x l m (suc s) h.1)

pub sits_itself : (l : List Action) → Sits (action_at l) 0 l
sits_itself [] = tt
sits_itself (x ∷ l) = (refl, sits_behind x l l 0 (sits_itself l))

-- the run of the thread with this label stands at the places from s to e, and nothing of it stands elsewhere
pub record Whole (l : List Action) (label : List ℕ) (s e : ℕ) : Type 0 where
  pub child : Child (action_at l) label s e
  pub inside : e < length l
  pub only : (i : ℕ) → i < length l → StemsFrom label (label_at l i) → (s ≤ i) × (i ≤ e)

pub own_steps : (l : List Action) (label : List ℕ) (s e : ℕ) (w : Whole l label s e) → Steps (action_at l) label s start e w.child.last
own_steps l label s e w = steps (action_at l) label s start e w.child.last w.child.trace

-- where the run of the root stands
pub record RootWhole (l : List Action) : Type 0 where
  pub e : ℕ
  pub size : length l ≡ suc e
  pub whole : Whole l [] 0 e

pub root_whole : (k : ℕ) (l : List Action) → IsDepthFirst k l → RootWhole l
root_whole k l run =
    let end : List Action = end_at [] run.last 0 ∷ [] in
    let e : ℕ = length run.below in
    let both = length-append run.below end in
    let long : length l ≡ length (run.below ++ end) = ap (λ m. length m) run.is in
    let sits : Sits (action_at l) 0 (run.below ++ end) = subst (λ m. Sits (action_at l) 0 m) run.is (sits_itself l) in
    let back : Sits (action_at l) e end = sits_back (action_at l) 0 e run.below end (omega arith) sits in
    record {
      e = e;
      size = omega (arith, both, long);
      whole = record {
        child = record {
          last = run.last;
          trace = traced (action_at l) k [] start run.below run.last run.runs 0 e e run.last (omega arith)
              (sits_front (action_at l) 0 run.below end sits) (stays [] e run.last);
          held = 0;
          joined = run.all_joined;
          end = back.0;
        };
        inside = omega (arith, both, long);
        only = λ i lt stems. (omega arith, omega (arith, both, long));
      };
    }

-- a place of the thread itself or of one that stems from it
pub whole_place : (l : List Action) (label : List ℕ) (s e : ℕ) (w : Whole l label s e) (i : ℕ) → s ≤ i → i < e
    → IsOwn label start w.child.last (action_at l i) ⊎ IsBelow label 0 w.child.last.forks_done (label_at l i)
whole_place l label s e w i lo hi = each_place (action_at l) label s start e w.child.last (own_steps l label s e w) i lo hi

pub end_label : (l : List Action) (label : List ℕ) (s e : ℕ) → Whole l label s e → label_at l e ≡ label
end_label l label s e w = ap (λ x. x.label) w.child.end

pub end_deed : (l : List Action) (label : List ℕ) (s e : ℕ) → Whole l label s e → deed_at l e ≡ ends
end_deed l label s e w = ap (λ x. x.deed) w.child.end

pub stems_itself : (label : List ℕ) → StemsFrom label label
stems_itself label = ([], sym (append-nil label))

pub own_inside : (l : List Action) (label : List ℕ) (s e : ℕ) → Whole l label s e → (i : ℕ) → i < length l → label_at l i ≡ label → (s ≤ i) × (i ≤ e)
own_inside l label s e w i lt mine = w.only i lt (subst (λ m. StemsFrom label m) (sym mine) (stems_itself label))

pub stems_further : (a label : List ℕ) (k : ℕ) → StemsFrom (fork_of a k) label → (rest : List ℕ) × (label ≡ a ++ k ∷ rest)
stems_further a label k h = (h.0, h.1 ∙ append_assoc a (k ∷ []) h.0)

pub stems_of_fork : (a label rest : List ℕ) (k : ℕ) → label ≡ a ++ k ∷ rest → StemsFrom (fork_of a k) label
stems_of_fork a label rest k e = (rest, e ∙ sym (append_assoc a (k ∷ []) rest))

pub not_the_end : (l : List Action) (label : List ℕ) (s e : ℕ) → Whole l label s e → (i : ℕ) → (deed : Deed) → (deed ≡ ends → ⊥) → deed_at l i ≡ deed → i ≤ e → i < e
not_the_end l label s e w i deed other is le = elim (cases_order i e) [
  | inl same ↦ absurd (other (sym is ∙ ap (λ m. deed_at l m) same ∙ end_deed l label s e w))
  | inr r ↦ elim r [ inl lt ↦ lt | inr gt ↦ absurd (omega arith) ]
]

pub forks_do_not_end : (k : ℕ) → forks k ≡ ends → ⊥
forks_do_not_end k e = cc

pub joins_do_not_end : (k : ℕ) → joins k ≡ ends → ⊥
joins_do_not_end k e = cc

-- the run of a child in its parent's
pub record ChildWhole (l : List Action) (label : List ℕ) (f above : ℕ) : Type 0 where
  pub e : ℕ
  pub up_to : e < above
  pub later : f < e
  pub whole : Whole l label (suc f) e

pub child_whole : (l : List Action) (label : List ℕ) (s e : ℕ) → Whole l label s e → (f k : ℕ) → f < length l → label_at l f ≡ label → deed_at l f ≡ forks k
    → ChildWhole l (fork_of label k) f e
child_whole l label s e w f k inside mine deed =
    let place : (s ≤ f) × (f ≤ e) = own_inside l label s e w f inside mine in
    let lt : f < e = not_the_end l label s e w f (forks k) (forks_do_not_end k) deed place.1 in
    let block : ChildBlock (action_at l) label s f e k =
    child_block (action_at l) label s start e w.child.last (own_steps l label s e w) f k place.0 lt mine deed in
    let below : Steps (action_at l) (fork_of label k) (suc f) start block.e block.child.last =
    steps (action_at l) (fork_of label k) (suc f) start block.e block.child.last block.child.trace in
    let on : GoesOn (suc f) start block.e block.child.last = goes_on (action_at l) (fork_of label k) (suc f) start block.e block.child.last below in
    let up = block.up_to in let w_in = w.inside in let on_place = on.place in
    record {
      e = block.e;
      up_to = up;
      later = omega arith;
      whole = record {
        child = block.child;
        inside = omega arith;
        only = λ i i_in stems.
            let far : (rest : List ℕ) × (label_at l i ≡ label ++ k ∷ rest) = stems_further label (label_at l i) k stems in
            let there : (s ≤ i) × (i ≤ e) = w.only i i_in (k ∷ far.0, far.1) in
            let i_up = there.1 in
            elim (cases_eq i e) [
              | inl same ↦ absurd (not_own label (label_at l i) far.0 k (ap (λ m. label_at l m) same ∙ end_label l label s e w) far.1)
              | inr ne ↦ let found : (f < i) × (i ≤ block.e) = block.only i far.0 there.0 (omega arith) far.1 in
                  let found_lt = found.0 in (omega arith, found.1)
            ];
      };
    }

-- a fork of each child that something stems from
pub fork_of_child : (l : List Action) (label : List ℕ) (s e : ℕ) → Whole l label s e → (i k : ℕ) (rest : List ℕ) → i < length l → label_at l i ≡ label ++ k ∷ rest
    → Found (action_at l) label s e (forks k)
fork_of_child l label s e w i k rest inside is =
    let there : (s ≤ i) × (i ≤ e) = w.only i inside (k ∷ rest, is) in
    let up = there.1 in
    elim (cases_eq i e) [
      | inl same ↦ absurd (not_own label (label_at l i) rest k (ap (λ m. label_at l m) same ∙ end_label l label s e w) is)
      | inr ne ↦ elim (whole_place l label s e w i there.0 (omega arith)) [
        | inl own ↦ absurd (not_own label (label_at l i) rest k own.label_is is)
        | inr b ↦ let z : Between 0 w.child.last.forks_done k = one_child label 0 w.child.last.forks_done k rest (label_at l i) is b in
            fork_found (action_at l) label s start e w.child.last (own_steps l label s e w) k z.from z.up_to
      ]
    ]

pub record HasWhole (l : List Action) (label : List ℕ) : Type 0 where
  pub s : ℕ
  pub e : ℕ
  pub whole : Whole l label s e

-- each thread that acts, and each that such a thread stems from, has its run in the list
pub find_whole : (l : List Action) (rest : List ℕ) (from : List ℕ) (s e : ℕ) → Whole l from s e
    → (i : ℕ) (label below : List ℕ) → i < length l → label_at l i ≡ label ++ below → label ≡ from ++ rest → HasWhole l label
find_whole l [] from s e w i label below inside is reached =
    let same : label ≡ from = reached ∙ append-nil from in
    subst (λ m. HasWhole l m) (sym same) (record { s = s; e = e; whole = w })
find_whole l (k ∷ rest) from s e w i label below inside is reached =
    let on : label_at l i ≡ from ++ k ∷ (rest ++ below) =
    is ∙ ap (λ m. m ++ below) reached ∙ append_assoc from (k ∷ rest) below in
    let f : Found (action_at l) from s e (forks k) = fork_of_child l from s e w i k (rest ++ below) inside on in
    let e_in = w.inside in let f_up = f.up_to in
    let child : ChildWhole l (fork_of from k) f.i e = child_whole l from s e w f.i k (omega arith) f.label_is f.deed_is in
    find_whole l rest (fork_of from k) (suc f.i) child.e child.whole i label below inside is
    (reached ∙ sym (append_assoc from (k ∷ []) rest))

pub thread_whole : (k : ℕ) (l : List Action) → IsDepthFirst k l → (i : ℕ) (label below : List ℕ) → i < length l → label_at l i ≡ label ++ below → HasWhole l label
thread_whole k l run i label below inside is =
    let root : RootWhole l = root_whole k l run in
    find_whole l label [] 0 root.e root.whole i label below inside is refl

pub own_whole : (k : ℕ) (l : List Action) → IsDepthFirst k l → (i : ℕ) → i < length l → HasWhole l (label_at l i)
own_whole k l run i inside = thread_whole k l run i (label_at l i) [] inside (sym (append-nil (label_at l i)))
