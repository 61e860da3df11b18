-- A result that is delivered leaves its parent at its point.
use Rattle.std.proofs.Common.{◌≡◌, ℕ, ◌+◌, false, List, [], ◌∷◌, ◌++◌, map, Option, Some, None, is_some, refl, sym, ◌∙◌, ap, subst, arith, append_assoc}
use Rattle.std.specs.Prelude.{reverse}
use mathlib.Core.List.{reverse-append}
use Rattle.dag_order.specs.LabelOrder.{fork_of}
use Rattle.block_arena.specs.declared.record_block.RecordBlock.{RecordBlock}
use Rattle.thread_run.specs.Passed.Tree.{Func}
use Rattle.thread_state.specs.Passed.States.{Setting, State, Item}
use Rattle.thread_state.specs.Passed.Middle.{Frame}
use Rattle.node_table.specs.Table.{Table}
use Rattle.thread_run.specs.Passed.Threads as threads
use Rattle.thread_run.specs.Passed.Threads.{open_children}
use Rattle.thread_run.specs.Stands.{InState}
use Rattle.thread_run.specs.declared.run.ThreadRun.{ThreadRun}
use Rattle.thread_frames.specs.Views.{newest, id_of, told_as, brought, all_brought, ended_words, ended_label, child_shown}
use Rattle.thread_frames.specs.Children.{IsResultFor}
use Rattle.thread_frames.specs.Points.{At, Stands, AreChildren, IsEndOf, function_of_child}
use Rattle.thread_frames.specs.declared.ended.Ended.{Ended}
use Rattle.thread_frames.specs.declared.next.Next.TheVariants as next
use Rattle.thread_frames.specs.declared.open_child.OpenChild.{OpenChild}
use Rattle.thread_frames.specs.declared.prepared.Prepared.{Prepared}
use Rattle.thread_frames.specs.declared.prepared.Prepared.TheVariants.{Nothing, Fork, Join, Alloc, Release, Dummy, Fault, End}
use Rattle.thread_frames.proofs.Places.{given}

-- ---- what does not change

pub newest_given : (left : List OpenChild) (x : OpenChild) (right : List OpenChild) (e : Ended)
    → id_of (newest (left ++ given x e ∷ right)) ≡ id_of (newest (left ++ x ∷ right))
newest_given [] x [] e = refl
newest_given [] x (y ∷ right) e = refl
newest_given (l ∷ []) x right e = newest_given [] x right e
newest_given (l ∷ m ∷ left) x right e = newest_given (m ∷ left) x right e

pub told_given : (left : List OpenChild) (x : OpenChild) (right : List OpenChild) (e : Ended) (p : Prepared)
    → told_as (left ++ given x e ∷ right) p ≡ told_as (left ++ x ∷ right) p
told_given left x right e Nothing = refl
told_given left x right e (Fork forking room) = refl
told_given left x right e (Join branch assigned) = ap (λ i. Some (next.Join i)) (newest_given left x right e)
told_given left x right e (Alloc slot len words shell) = refl
told_given left x right e (Release slot words) = refl
told_given left x right e Dummy = refl
told_given left x right e (Fault fault) = refl
told_given left x right e End = refl

none_there : (o : Option Ended) → is_some o ≡ false → o ≡ None
none_there None e = refl
none_there (Some x) e = let never : ⊥ = cc in absurd never

pub words_given : (left : List OpenChild) (x : OpenChild) (right : List OpenChild) (e : Ended) → is_some x.ended ≡ false
    → all_brought (left ++ given x e ∷ right) ≡ all_brought (left ++ x ∷ right) + ended_words e
words_given [] x right e none = let no = ap brought (none_there x.ended none) in omega (arith, no)
words_given (l ∷ left) x right e none = let rest = words_given left x right e none in omega (arith, rest)

functions_given : (us : List OpenChild) (x : OpenChild) (vs : List OpenChild) (e : Ended)
    → map function_of_child (us ++ given x e ∷ vs) ≡ map function_of_child (us ++ x ∷ vs)
functions_given [] x vs e = refl
functions_given (u ∷ us) x vs e = ap (λ fs. u.func ∷ fs) (functions_given us x vs e)

-- ---- the children, the newest first

pub turned : {A : Type 0} (left : List A) (x : A) (right : List A) → reverse (left ++ x ∷ right) ≡ reverse right ++ x ∷ reverse left
turned left x right =
    reverse-append left (x ∷ right) ∙ ap (λ ys. ys ++ reverse left) (reverse-append (x ∷ []) right) ∙ append_assoc (reverse right) (x ∷ []) (reverse left)

children_given : (c : Setting) (t : Table) (label : List ℕ) (os : List threads.OpenChild) (older : List (List Item)) (us : List OpenChild) (x : OpenChild)
    (vs : List OpenChild) (e : Ended) → IsEndOf c t (ended_label e) e.func e → ended_label e ≡ fork_of label x.ordinal → e.func ≡ x.func
    → AreChildren c t label os older (us ++ x ∷ vs) → AreChildren c t label os older (us ++ given x e ∷ vs)
children_given c t label [] [] [] x vs e h l f k = absurd k
children_given c t label [] [] (u ∷ us) x vs e h l f k = absurd k
children_given c t label [] (before ∷ older) us x vs e h l f k = absurd k
children_given c t label (o ∷ os) [] us x vs e h l f k = absurd k
children_given c t label (o ∷ os) (before ∷ older) [] x vs e h l f k = (
  record {
    ordinal = k.0.ordinal;
    tells = k.0.tells;
    result =
        subst (λ (n : List ℕ). IsEndOf c t n x.func e) (l ∙ ap (fork_of label) k.0.ordinal)
        (subst (λ (g : Option ℕ). IsEndOf c t (ended_label e) g e) f h);
  },
  k.1,
)
children_given c t label (o ∷ os) (before ∷ older) (u ∷ us) x vs e h l f k = (k.0, children_given c t label os older us x vs e h l f k.1)

-- ---- the thread

pub stands_in : (c : Setting) (t : Table) (gs : List Func) (run : ThreadRun) (p : Prepared) (own : List Frame) (s : State) (part : List Item)
    → Stands c t gs run p own s part → InState gs run.state s
stands_in c t gs run Nothing own s part h = h.state
stands_in c t gs run (Fork forking room) own s part h = h.0.state
stands_in c t gs run (Join branch assigned) own s part h = h.0.state
stands_in c t gs run (Alloc slot len words shell) own s part h = h.0.state
stands_in c t gs run (Release slot words) own s part h = h.state
stands_in c t gs run Dummy own s part h = h.state
stands_in c t gs run (Fault fault) own s part h = h.state
stands_in c t gs run End own s part h = h.state

pub at_given : (c : Setting) (t : Table) (func : Option ℕ) (run : ThreadRun) (block : Option RecordBlock) (p : Prepared) (left : List OpenChild) (x : OpenChild)
    (right : List OpenChild) (e : Ended) → IsResultFor run.state.label e (child_shown x) → IsEndOf c t (ended_label e) e.func e
    → At c t func run (left ++ x ∷ right) block p → At c t func run (left ++ given x e ∷ right) block p
at_given c t func run block p left x right e fits h a =
    let label = (stands_in c t a.functions run p a.own a.at a.part a.stands).label in
    let kids : AreChildren c t a.at.label (open_children a.own) a.older (reverse right ++ x ∷ reverse left) =
    subst (λ xs. AreChildren c t a.at.label (open_children a.own) a.older xs) (turned left x right) a.children in
    let given_kids = children_given c t a.at.label (open_children a.own) a.older (reverse right) x (reverse left) e h
    (fits.labelled ∙ ap (λ l. fork_of l x.ordinal) label) fits.func kids in
    record {
      functions = a.functions;
      own = a.own;
      at = a.at;
      part = a.part;
      older = a.older;
      point = a.point;
      stands = a.stands;
      children = subst (λ xs. AreChildren c t a.at.label (open_children a.own) a.older xs) (sym (turned left (given x e) right)) given_kids;
      run_in =
          a.run_in
          ∙ ap (λ xs. map function_of_child xs ++ func ∷ []) (turned left x right)
          ∙ ap (λ fs. fs ++ func ∷ []) (sym (functions_given (reverse right) x (reverse left) e))
          ∙ ap (λ xs. map function_of_child xs ++ func ∷ []) (sym (turned left (given x e) right));
      record_block = a.record_block;
    }
