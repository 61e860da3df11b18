-- An action that the thread that runs does by itself.
use Rattle.std.proofs.Common.{append-nil, ◌-◌, ◌≡◌, ℕ, suc, ◌+◌, ◌≤◌, List, [], ◌∷◌, ◌++◌, take, reverse, length, refl, sym, ap, ◌∙◌, subst, arith}
use Rattle.std.specs.Prelude.{IsTrue, is_some, map, Option, None, Some, Result, Ok, MatchResult}
use Rattle.dag_order.specs.Births.{root, HasLabel}
use Rattle.dag_order.specs.declared.birth.Birth.{Birth}
use Rattle.depth_first_list.specs.Actions.{Action, Deed, kind_of}
use Rattle.depth_first_list.specs.Facts.{label_at, index_at, words_at}
use Rattle.depth_first_list.specs.Laws.{HasAction, IsAlone}
use Rattle.depth_first_run.specs.States.{Setting}
use Rattle.depth_first_run.specs.Run.{list_of}
use Rattle.node_table.specs.Table.{Table}
use Rattle.thread_points.specs.Points.{Each}
use Rattle.thread_frames.specs.declared.ended.Ended.{Ended}
use Rattle.thread_frames.specs.declared.open_child.OpenChild.{OpenChild}
use Rattle.thread_frames.specs.declared.next.Next.{Next}
use Rattle.thread_frames.specs.declared.next.Next.TheVariants.{Fork, Join, Alloc, Release, Dummy, End, Fault}
use Rattle.thread_frames.specs.declared.thread.Thread.{Thread}
use Rattle.thread_frames.specs.Actions.{IsStill, HasActed, HasJoined, JoinsNewest, TellsJoin, is_there, deed_of}
use Rattle.thread_frames.specs.Points.{IsAtPoint}
use Rattle.thread_frames.specs.Views.{Child, child_shown, children_of, newest, result_of, released_by, join_words_of, label_of, done_of, thread_words}
use Rattle.serial_journal.specs.Journals.{KeepsUp, births_of, action_named}
use Rattle.serial_journal.specs.Telling.{IsNoFork}
use Rattle.serial_journal.specs.declared.journal.Journal.{Journal}
use Rattle.serial_journal.specs.declared.serial_stop.SerialStop.{SerialStop}
use Rattle.serial_meaning.specs.Doing.{kind_of_next, DoesAlone, JoinsDelivered, ActsAlone}
use Rattle.serial_meaning.specs.Stacks.{IsDelivered, IsBornWithin, AreWaiting, Stand, all_words, below}
use Rattle.serial_meaning.specs.Writing.{AreForked, Write}
use Rattle.serial_meaning.specs.declared.run.Run.{Run}
use Rattle.serial_meaning.proofs.Lists.{each_front}
use Rattle.serial_meaning.proofs.Next.{NextIs, next_places, written}
use Rattle.serial_meaning.proofs.Standing.{waiting_later, waiting_so, labels_same}

-- the newest child of a thread, all of whose children are delivered, is delivered
pub newest_there : (children : List Child) (next : Next) → JoinsNewest next children → Each IsDelivered children → JoinsDelivered next children
newest_there children Fork joins all = tt
newest_there children (Join child) joins all = by_list children joins all
  where
    by_list : (xs : List Child) → JoinsNewest (Join child) xs → Each IsDelivered xs → IsTrue (is_there (newest xs))
    by_list [] joins all = absurd joins
    by_list (x ∷ []) joins all = all.0
    by_list (x ∷ y ∷ xs) joins all = by_list (y ∷ xs) joins all.1
newest_there children (Alloc words) joins all = tt
newest_there children (Release words) joins all = tt
newest_there children Dummy joins all = tt
newest_there children (Fault fault) joins all = tt
newest_there children End joins all = tt

pub alone_deed : (x : Thread) (next : Next) → DoesAlone next → IsAlone (deed_of x next)
alone_deed x Fork h = absurd h
alone_deed x (Join child) h = tt
alone_deed x (Alloc words) h = tt
alone_deed x (Release words) h = tt
alone_deed x Dummy h = tt
alone_deed x (Fault fault) h = tt
alone_deed x End h = absurd h

pub kinds_same : (x : Thread) (next : Next) → kind_of_next next ≡ kind_of (deed_of x next)
kinds_same x Fork = refl
kinds_same x (Join child) = refl
kinds_same x (Alloc words) = refl
kinds_same x (Release words) = refl
kinds_same x Dummy = refl
kinds_same x (Fault fault) = refl
kinds_same x End = refl

pub no_fork : (x : Thread) (next : Next) → DoesAlone next → IsNoFork (deed_of x next)
no_fork x Fork h = absurd h
no_fork x (Join child) h = tt
no_fork x (Alloc words) h = tt
no_fork x (Release words) h = tt
no_fork x Dummy h = tt
no_fork x (Fault fault) h = tt
no_fork x End h = absurd h

-- ---- single actions

pub acts_with : (before after : Thread) (out more : ℕ) → HasActed before after → thread_words after + out ≡ thread_words before + more
    → ((t : Table) (k : ℕ) → IsAtPoint t k before → IsAtPoint t k after) → ActsAlone before after out more
acts_with before after out more h words point = record {
  same = h.same;
  done = h.done;
  joined = [];
  children = sym h.children ∙ sym (append-nil (children_of after));
  words = words;
  point = point;
}

pub acts_joined : (before after : Thread) (out more words : ℕ) → HasJoined words before after → words ≤ out → more ≡ out - words
    → ((t : Table) (k : ℕ) → IsAtPoint t k before → IsAtPoint t k after) → ActsAlone before after out more
acts_joined before after out more words h within less point =
    let left = h.words_left in
    record { same = h.same; done = h.done; joined = h.joined ∷ []; children = h.children; words = omega (arith, left, within, less); point = point }

-- the words of the Join of a child that is delivered
pub join_tells : (x : Thread) (words : ℕ) → IsTrue (is_there (newest (children_of x))) → TellsJoin x (result_of (newest x.children.items)) words → words ≡ join_words_of x
join_tells x words there tells = go x.children.items there tells
  where
    by_result : (o : Option Ended) → IsTrue (is_some o) → TellsJoin x o words → words ≡ released_by x o
    by_result None some tells = let never : ⊥ = cc in absurd never
    by_result (Some ended) some tells = tells

    go : (xs : List OpenChild) → IsTrue (is_there (newest (map child_shown xs))) → TellsJoin x (result_of (newest xs)) words → words ≡ released_by x (result_of (newest xs))
    go [] there tells = let never : ⊥ = cc in absurd never
    go (o ∷ []) there tells = by_result o.ended there tells
    go (o ∷ p ∷ xs) there tells = go (p ∷ xs) there tells

-- ---- the threads

-- a thread with the same id and label is named as before
pub named_so : (births more : List Birth) (a b : Thread) → more ≡ births → b.id ≡ a.id → label_of b ≡ label_of a → HasLabel (births ∷ []) a.id (label_of a) → HasLabel (more ∷ []) b.id (label_of b)
named_so births more a b same id label is =
    subst (λ bs. HasLabel (bs ∷ []) b.id (label_of b)) (sym same)
    (subst (λ i. HasLabel (births ∷ []) i (label_of b)) (sym id) (subst (λ l. HasLabel (births ∷ []) a.id l) (sym label) is))

-- the threads below a top thread that is another but for its name, some actions later
pub stack_so : (t : Table) (k : ℕ) (before after : Run) → after.parents.items ≡ before.parents.items → births_of after.journal ≡ births_of before.journal → before.done ≤ after.done
    → after.top.id ≡ before.top.id → after.top.func ≡ before.top.func → label_of after.top ≡ label_of before.top
    → AreWaiting t k before.done (births_of before.journal) before.top (below before) → AreWaiting t k after.done (births_of after.journal) after.top (below after)
stack_so t k before after parents births on id func label stack =
    let long = ap length births in
    subst (λ xs. AreWaiting t k after.done (births_of after.journal) after.top xs) (sym (ap (λ xs. reverse xs) parents))
    (waiting_so t k after.done (births_of after.journal) before.top after.top (below before) id func label
    (waiting_later t k before.done after.done (births_of before.journal) (births_of after.journal) before.top (below before) on (labels_same (births_of before.journal) (births_of after.journal) births) (omega (arith, long)) stack))

pub born_so : (count more : ℕ) (xs : List Child) → more ≡ count → Each (IsBornWithin count) xs → Each (IsBornWithin more) xs
born_so count more xs same h = subst (λ n. Each (IsBornWithin n) xs) (sym same) h

pub stand_acted : (t : Table) (k : ℕ) (before after : Run) → Stand t k before → ActsAlone before.top after.top before.pool.live after.pool.live
    → after.parents.items ≡ before.parents.items → births_of after.journal ≡ births_of before.journal → after.done ≡ before.done + 1 → Stand t k after
stand_acted t k before after s acts parents births done =
    let words = acts.words in let live = s.live in let few = s.top.few in let more = acts.done in
    let rest = ap (λ xs. all_words (reverse xs)) parents in
    record {
      top = record {
        point = acts.point t k s.top.point;
        named = named_so (births_of before.journal) (births_of after.journal) before.top after.top births acts.same.id acts.same.label s.top.named;
        few = omega (arith, few, more, done);
        born = born_so (length (births_of before.journal)) (length (births_of after.journal)) (children_of after.top) (ap length births)
            (each_front (IsBornWithin (length (births_of before.journal))) (children_of after.top) acts.joined
            (subst (λ xs. Each (IsBornWithin (length (births_of before.journal))) xs) acts.children s.top.born));
      };
      delivered = each_front IsDelivered (children_of after.top) acts.joined (subst (λ xs. Each IsDelivered xs) acts.children s.delivered);
      stack = stack_so t k before after parents births (omega (arith, done)) acts.same.id acts.same.func acts.same.label s.stack;
      live = omega (arith, words, live, rest);
    }

-- on the way to its next action
pub stand_still : (t : Table) (k : ℕ) (before after : Run) → Stand t k before → IsStill before.top after.top → IsAtPoint t k after.top
    → after.parents.items ≡ before.parents.items → after.journal ≡ before.journal → after.pool ≡ before.pool → after.done ≡ before.done → Stand t k after
stand_still t k before after s still point parents journal pool done =
    let births = ap births_of journal in
    let words = still.words in let live = s.live in let few = s.top.few in let same = still.done in
    let rest = ap (λ xs. all_words (reverse xs)) parents in
    let out = ap (λ p. p.live) pool in
    record {
      top = record {
        point = point;
        named = named_so (births_of before.journal) (births_of after.journal) before.top after.top births still.same.id still.same.label s.top.named;
        few = omega (arith, few, same, done);
        born = born_so (length (births_of before.journal)) (length (births_of after.journal)) (children_of after.top) (ap length births)
            (subst (λ xs. Each (IsBornWithin (length (births_of before.journal))) xs) (sym still.children) s.top.born);
      };
      delivered = subst (λ xs. Each IsDelivered xs) (sym still.children) s.delivered;
      stack = stack_so t k before after parents births (omega (arith, done)) still.same.id still.same.func still.same.label s.stack;
      live = omega (arith, words, live, rest, out);
    }

-- ---- what is written down

pub forked_so : (l : List Action) (n m : ℕ) (a b : Thread) (xs : List Thread) → n ≤ m → label_of b ≡ label_of a → AreForked l n a xs → AreForked l m b xs
forked_so l n m a b [] on label h = tt
forked_so l n m a b (x ∷ xs) on label h = (
  (let f = h.0 in let lt = f.before in record { place = f.place; child = f.child; before = omega (arith, lt, on); by = f.by; deed = f.deed; child_is = label ∙ f.child_is; since = f.since }),
  forked_so l n m x x xs on refl h.1,
)

-- an action of the list by another thread of the same label that has done as much
pub action_so : (l : List Action) (n m : ℕ) (label other : List ℕ) (index number : ℕ) → m ≡ n → other ≡ label → number ≡ index → HasAction l n label index → HasAction l m other number
action_so l n m label other index number at same count h =
    subst (λ i. HasAction l i other number) (sym at) (h.0, h.1 ∙ sym same, h.2 ∙ sym count)

pub write_acted : (c : Setting) (limit : ℕ) (before after : Run) (next : Next) → Write c limit before → NextIs (list_of c) before.done before.top next → DoesAlone next
    → ActsAlone before.top after.top before.pool.live after.pool.live → after.parents.items ≡ before.parents.items → after.done ≡ before.done + 1
    → KeepsUp limit (take before.done (list_of c) ++ action_named (label_of before.top) (done_of before.top) (deed_of before.top next) (words_at (list_of c) before.done) ∷ []) after.journal
    → Write c limit after
write_acted c limit before after next w is alone acts parents done keeps =
    let l : List Action = list_of c in
    let n : ℕ = before.done in
    let at : HasAction l (suc n) (label_at l n) (suc (index_at l n)) =
    (next_places c).goes_on n is.inside (subst IsAlone (sym is.deed) (alone_deed before.top next alone)) in
    let more = acts.done in let index = is.index in
    record {
      keeps = subst (λ m. KeepsUp limit (take m l) after.journal) (sym done) (written l n limit _ after.journal is.inside is.action keeps);
      next = action_so l (suc n) after.done (label_at l n) (label_of after.top) (suc (index_at l n)) (done_of after.top) (omega (arith, done)) (acts.same.label ∙ sym is.label) (omega (arith, more, index)) at;
      forked = subst (λ xs. AreForked l after.done after.top xs) (sym (ap (λ xs. reverse xs) parents)) (forked_so l n after.done before.top after.top (below before) (omega (arith, done)) acts.same.label w.forked);
    }

pub write_still : (c : Setting) (limit : ℕ) (before after : Run) → Write c limit before → IsStill before.top after.top
    → after.parents.items ≡ before.parents.items → after.journal ≡ before.journal → after.done ≡ before.done → Write c limit after
write_still c limit before after w still parents journal done =
    let l : List Action = list_of c in
    record {
      keeps = subst (λ j. KeepsUp limit (take after.done l) j) (sym journal) (subst (λ m. KeepsUp limit (take m l) before.journal) (sym done) w.keeps);
      next = action_so l before.done after.done (label_of before.top) (label_of after.top) (done_of before.top) (done_of after.top) done still.same.label still.done w.next;
      forked = subst (λ xs. AreForked l after.done after.top xs) (sym (ap (λ xs. reverse xs) parents)) (forked_so l before.done after.done before.top after.top (below before) (omega (arith, done)) still.same.label w.forked);
    }

-- what the journal has written down behind an action, by the names that the code has for its parts
pub told_so : (limit index words told : ℕ) (l : List Action) (n : ℕ) (x : Thread) (deed : Deed) (journal : Journal) → index ≡ done_of x → told ≡ words
    → KeepsUp limit (take n l ++ action_named (label_of x) index deed told ∷ []) journal
    → KeepsUp limit (take n l ++ action_named (label_of x) (done_of x) deed words ∷ []) journal
told_so limit index words told l n x deed journal same told_is keeps =
    subst (λ i. KeepsUp limit (take n l ++ action_named (label_of x) i deed words ∷ []) journal) same
    (subst (λ w. KeepsUp limit (take n l ++ action_named (label_of x) index deed w ∷ []) journal) told_is keeps)

pub well : {A : Type 0} (P : A → Type 0) (Q : SerialStop → Type 0) (x : A) (r : Result A SerialStop) → r ≡ Ok x → MatchResult r P Q → P x
well P Q x r e h = subst (λ y. MatchResult y P Q) e h

-- ---- the beginning

pub stand_begun : (t : Table) (k : ℕ) (run : Run) → IsAtPoint t k run.top → run.top.id ≡ root → label_of run.top ≡ [] → done_of run.top ≡ 0 → children_of run.top ≡ [] → thread_words run.top ≡ 0
    → run.parents.items ≡ [] → births_of run.journal ≡ [] → run.pool.live ≡ 0 → run.done ≡ 0 → Stand t k run
stand_begun t k run point id label done children words parents births live count =
    let none = ap (λ xs. all_words (reverse xs)) parents in
    record {
      top = record {
        point = point;
        named = subst (λ i. HasLabel (births_of run.journal ∷ []) i (label_of run.top)) (sym id) (subst (λ l. HasLabel (births_of run.journal ∷ []) root l) (sym label) refl);
        few = omega (arith, done);
        born = subst (λ xs. Each (IsBornWithin (length (births_of run.journal))) xs) (sym children) tt;
      };
      delivered = subst (λ xs. Each IsDelivered xs) (sym children) tt;
      stack = subst (λ xs. AreWaiting t k run.done (births_of run.journal) run.top xs) (sym (ap (λ xs. reverse xs) parents)) label;
      live = omega (arith, live, words, none);
    }

pub write_begun : (c : Setting) (limit : ℕ) (run : Run) → label_of run.top ≡ [] → done_of run.top ≡ 0 → run.parents.items ≡ [] → run.done ≡ 0 → KeepsUp limit [] run.journal → Write c limit run
write_begun c limit run label done parents count keeps = record {
  keeps = subst (λ n. KeepsUp limit (take n (list_of c)) run.journal) (sym count) keeps;
  next = action_so (list_of c) 0 run.done [] (label_of run.top) 0 (done_of run.top) count label done (next_places c).begins;
  forked = subst (λ xs. AreForked (list_of c) run.done run.top xs) (sym (ap (λ xs. reverse xs) parents)) tt;
}
