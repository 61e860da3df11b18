-- The next action of the run is the next one of the depth-first list.
use Rattle.std.proofs.Common.{◌≡◌, ℕ, ◌+◌, ◌≤◌, ◌<◌, List, [], ◌∷◌, ◌++◌, take, length, sym, ap, ◌∙◌, subst, arith}
use Rattle.std.specs.Prelude.{Option, None, Some, Result, Ok, Err, MatchResult, IsErrAnd}
use Rattle.std.proofs.Math.Logic.{∥∥₁_elim}
use Rattle.std.proofs.lemmas.List.{length-take-le}
use denote.Struct.Props.{props}
use Rattle.depth_first_list.specs.Actions.{Action}
use Rattle.depth_first_list.specs.Facts.{action_at, label_at, index_at, deed_at, words_at}
use Rattle.depth_first_list.specs.Laws.{HasAction, NextPlaces}
use Rattle.depth_first_list.specs.Runs.{IsDepthFirst}
use Rattle.depth_first_list.proofs.ThreadLaws as laws
use Rattle.depth_first_list.proofs.NextPlaces as laws_of_places
use Rattle.depth_first_run.specs.States.{Setting}
use Rattle.depth_first_run.specs.Run.{list_of}
use Rattle.depth_first_run.proofs.Built.{whole_is_depth_first}
use Rattle.thread_frames.specs.declared.ended.Ended.{Ended}
use Rattle.thread_frames.specs.declared.next.Next.{Next}
use Rattle.thread_frames.specs.declared.next.Next.TheVariants.{Fork, Join, Alloc, Release, Dummy, End, Fault}
use Rattle.thread_frames.specs.declared.thread.Thread.{Thread}
use Rattle.thread_frames.specs.Actions.{IsOfTheList, TellsWords, TellsJoin, deed_of}
use Rattle.thread_frames.specs.Views.{label_of, done_of, newest, result_of}
use Rattle.serial_journal.specs.Journals.{KeepsUp, action_named}
use Rattle.serial_journal.specs.Stops.{OnStop}
use Rattle.serial_journal.specs.declared.journal.Journal.{Journal}
use Rattle.serial_journal.specs.declared.serial_stop.SerialStop.{SerialStop}
use Rattle.serial_journal.specs.declared.serial_stop.SerialStop.TheVariants.{StepsSpent, OutOfMemory}
use Rattle.serial_meaning.specs.Writing.{NeverSpent}
use Rattle.serial_meaning.proofs.Lists.{same_deed, one_more}

-- the list of a program keeps the laws of depth-first lists
pub is_depth_first : (c : Setting) → IsDepthFirst c.quota (list_of c)
is_depth_first c = whole_is_depth_first c

pub next_places : (c : Setting) → NextPlaces (list_of c)
next_places c = laws_of_places.next_places c.quota (list_of c) (is_depth_first c)

-- the words that an action tells are of one number, or of none
one_proof : (x : Thread) (next : Next) (words : ℕ) → IsProp (TellsWords x next words)
one_proof x Fork words = search props
one_proof x (Join child) words = by_result (result_of (newest x.children.items))
  where
    by_result : (o : Option Ended) → IsProp (TellsJoin x o words)
    by_result None = search props
    by_result (Some ended) = search props
one_proof x (Alloc asked) words = search props
one_proof x (Release given) words = search props
one_proof x Dummy words = search props
one_proof x (Fault fault) words = search props
one_proof x End words = search props

-- the action at the place where a thread is: what it does next, with its words
pub record NextIs (l : List Action) (n : ℕ) (x : Thread) (next : Next) : Type 0 where
  pub inside : n < length l
  pub action : action_at l n ≡ action_named (label_of x) (done_of x) (deed_of x next) (words_at l n)
  pub label : label_at l n ≡ label_of x
  pub index : index_at l n ≡ done_of x
  pub deed : deed_at l n ≡ deed_of x next
  pub words : TellsWords x next (words_at l n)

pub next_is : (c : Setting) (n : ℕ) (x : Thread) (next : Next) → HasAction (list_of c) n (label_of x) (done_of x) → ∥ IsOfTheList c x next ∥₁ → NextIs (list_of c) n x next
next_is c n x next at told = record {
  inside = at.0;
  action = λ i. record { label = at.1 i; index = at.2 i; deed = deed i; words = words_at l n };
  label = at.1;
  index = at.2;
  deed = deed;
  words = ∥∥₁_elim told (one_proof x next (words_at l n)) (λ is. subst (λ m. TellsWords x next (words_at l m)) (here is) is.words);
}
  where
    l : List Action
    l = list_of c

    here : (is : IsOfTheList c x next) → is.place ≡ n
    here is = laws.names_differ c.quota l (is_depth_first c) is.place n is.inside at.0 (is.labelled ∙ sym at.1) (is.index ∙ sym at.2)

    deed : deed_at l n ≡ deed_of x next
    deed = same_deed told (deed_at l n) (deed_of x next) (λ is. ap (λ m. deed_at l m) (sym (here is)) ∙ is.deed)

-- one action more is written down
pub written : (l : List Action) (n limit : ℕ) (a : Action) (j : Journal) → n < length l → action_at l n ≡ a → KeepsUp limit (take n l ++ a ∷ []) j
    → KeepsUp limit (take (n + 1) l) j
written l n limit a j inside is keeps = subst (λ actions. KeepsUp limit actions j) (one_more l n a inside is) keeps

-- the limit does not stop an action that comes before it
pub never_spent : {A : Type 0} (Q : A → Type 0) (l : List Action) (n limit : ℕ) (r : Result A SerialStop) → n ≤ length l → n < limit
    → MatchResult r Q (λ stop. OnStop stop (limit ≤ length (take n l))) → NeverSpent r
never_spent Q l n limit (Ok x) inside before h = tt
never_spent Q l n limit (Err StepsSpent) inside before h = let long = length-take-le n l inside in omega (arith, long, before, h)
never_spent Q l n limit (Err OutOfMemory) inside before h = tt

pub never_stops : (l : List Action) (n limit : ℕ) (stop : SerialStop) → n ≤ length l → n < limit → OnStop stop (limit ≤ length (take n l)) → OnStop stop ⊥
never_stops l n limit StepsSpent inside before h = let long = length-take-le n l inside in omega (arith, long, before, h)
never_stops l n limit OutOfMemory inside before h = tt

-- the answer of a call that ends by another's refusal
pub stopped_so : {A : Type 0} (r : Result A SerialStop) (stop : SerialStop) → IsErrAnd r (λ y. y ≡ stop) → OnStop stop ⊥ → NeverSpent r
stopped_so (Ok x) stop h o = absurd h
stopped_so (Err y) stop h o = subst (λ (z : SerialStop). OnStop z ⊥) (sym h) o

pub stops_never : {A : Type 0} (Q : A → Type 0) (S : Type 0) (r : Result A SerialStop) (stop : SerialStop) → IsErrAnd r (λ y. y ≡ stop) → OnStop stop ⊥ → MatchResult r Q (λ other. OnStop other S)
stops_never Q S (Ok x) stop h o = absurd h
stops_never Q S (Err StepsSpent) stop h o = absurd (subst (λ (z : SerialStop). OnStop z ⊥) (sym h) o)
stops_never Q S (Err OutOfMemory) stop h o = tt
