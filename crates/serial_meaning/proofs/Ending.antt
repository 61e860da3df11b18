-- The End of a thread, whose result goes to its parent, and that of the root.
use Rattle.std.proofs.Common.{◌≡◌, ℕ, suc, ◌+◌, ◌<◌, Bool, true, false, List, [], ◌∷◌, ◌++◌, take, reverse, length, inl, inr, refl, sym, ap, ◌∙◌, subst, arith}
use Rattle.std.specs.Prelude.{nat_eq, ◌&&◌}
use Rattle.std.proofs.lemmas.Bool.{ne_eqb}
use Rattle.std.proofs.lemmas.List.{take_all}
use Rattle.std.proofs.lemmas.Bool.Decides.{eqb_tells}
use Rattle.dag_order.specs.LabelOrder.{fork_of}
use Rattle.dag_order.specs.declared.thread_id.ThreadId.{ThreadId}
use Rattle.depth_first_list.specs.Actions.{Action, ends}
use Rattle.depth_first_list.specs.Facts.{label_at, index_at}
use Rattle.depth_first_list.specs.Laws.{HasAction}
use Rattle.depth_first_list.proofs.ThreadLaws as laws
use Rattle.depth_first_run.specs.States.{Setting}
use Rattle.depth_first_run.specs.Run.{list_of}
use Rattle.node_table.specs.Table.{Table}
use Rattle.thread_points.specs.Points.{Each}
use Rattle.thread_frames.specs.declared.ended.Ended.{Ended}
use Rattle.thread_frames.specs.declared.next.Next.TheVariants as nexts
use Rattle.thread_frames.specs.declared.thread.Thread.{Thread}
use Rattle.thread_frames.specs.Actions.{IsSame}
use Rattle.thread_frames.specs.Children.{same_id, delivered_if, with_delivered, either_of, IsResultFor, IsAwaited}
use Rattle.thread_frames.specs.Points.{IsAtPoint}
use Rattle.thread_frames.specs.Views.{Child, children_of, label_of, done_of, thread_words, ended_words}
use Rattle.serial_journal.specs.Journals.{KeepsUp, births_of, action_named}
use Rattle.serial_journal.specs.declared.journal.Journal.{Journal}
use Rattle.serial_meaning.specs.Ending.{HasEnded}
use Rattle.serial_meaning.specs.Stacks.{IsDelivered, IsBornWithin, IsMember, WaitsFor, AreWaiting, Stand, all_words, below}
use Rattle.serial_meaning.specs.Writing.{Forked, AreForked, Write}
use Rattle.serial_meaning.specs.declared.run.Run.{Run}
use Rattle.serial_meaning.proofs.Acting.{forked_so, action_so, named_so, born_so}
use Rattle.serial_meaning.proofs.Lists.{each_one_more, newest_first}
use Rattle.serial_meaning.proofs.Next.{NextIs, is_depth_first, next_places, written}
use Rattle.serial_meaning.proofs.Standing.{waiting_later, waiting_so, labels_same}

-- ---- the child among the open children of its parent

and_false : (a b : Bool) → b ≡ false → (a && b) ≡ false
and_false true b e = e
and_false false b e = refl

other_id : (x id : ThreadId) → x.nth < id.nth → same_id x id ≡ false
other_id x id less = and_false (nat_eq x.period id.period) (nat_eq x.nth id.nth) (ne_eqb x.nth id.nth (λ e. omega (arith, e, less)))

nat_same : (n : ℕ) → nat_eq n n ≡ true
nat_same n = elim (eqb_tells n n) [ inl same ↦ same.0 | inr other ↦ absurd (other.1 refl) ]

own_id : (x id : ThreadId) → x ≡ id → same_id x id ≡ true
own_id x id e = subst (λ y. same_id x y ≡ true) e ((λ i. nat_same x.period i && nat_same x.nth i))

awaited_last : (label : List ℕ) (ended : Ended) (older : List Child) (child : Child) → Each (IsBornWithin ended.id.nth) older → child.id ≡ ended.id → IsResultFor label ended child
    → IsAwaited label ended (older ++ child ∷ [])
awaited_last label ended [] child earlier id is = subst (λ b. either_of b (IsResultFor label ended child) ⊥) (sym (own_id child.id ended.id id)) is
awaited_last label ended (x ∷ xs) child earlier id is =
    subst (λ b. either_of b (IsResultFor label ended x) (IsAwaited label ended (xs ++ child ∷ []))) (sym (other_id x.id ended.id earlier.0)) (awaited_last label ended xs child earlier.1 id is)

last_delivered : (id : ThreadId) (older : List Child) (child : Child) → Each (IsBornWithin id.nth) older → child.id ≡ id
    → with_delivered id (older ++ child ∷ []) ≡ older ++ record child { delivered = true } ∷ []
last_delivered id [] child earlier is = ap (λ b. delivered_if b child [] []) (own_id child.id id is)
last_delivered id (x ∷ xs) child earlier is =
    ap (λ b. delivered_if b x (xs ++ child ∷ []) (with_delivered id (xs ++ child ∷ []))) (other_id x.id id earlier.0) ∙ ap (λ ys. x ∷ ys) (last_delivered id xs child earlier.1 is)

-- ---- the threads

module _ (t : Table) (k : ℕ) (before mid : Run) (ended : Ended) (parent : Thread) (rest : List Thread) (s : Stand t k before) (e : HasEnded t k before mid ended)
    (popped : mid.parents.items ≡ rest ++ parent ∷ []) where
  pub below_was : below before ≡ parent ∷ reverse rest
  below_was = newest_first rest before.parents.items parent (sym e.parents ∙ popped)

  pub stack_was : IsMember t k before.done (births_of before.journal) parent × WaitsFor before.top parent × AreWaiting t k before.done (births_of before.journal) parent (reverse rest)
  stack_was = subst (λ xs. AreWaiting t k before.done (births_of before.journal) before.top xs) below_was s.stack

  abbrev w : WaitsFor before.top parent
  w = stack_was.1

  abbrev child : Child
  child = record { id = before.top.id; ordinal = w.ordinal; func = before.top.func; delivered = false }

  earlier : Each (IsBornWithin ended.id.nth) w.older
  earlier = subst (λ (i : ThreadId). Each (IsBornWithin i.nth) w.older) (sym e.id) w.earlier

  pub is_awaited : IsAwaited (label_of parent) ended (children_of parent)
  is_awaited = subst (λ xs. IsAwaited (label_of parent) ended xs) (sym w.children)
      (awaited_last (label_of parent) ended w.older child earlier (sym e.id) (record { waits = refl; labelled = e.labelled ∙ w.labelled; func = e.func }))

  -- what a delivery makes of the parent
  module _ (after : Run) (same : IsSame parent after.top) (as_before : done_of after.top ≡ done_of parent) (children : children_of after.top ≡ with_delivered ended.id (children_of parent))
      (words : thread_words after.top ≡ thread_words parent + ended_words ended) (parents : after.parents.items ≡ rest) (journal : after.journal ≡ mid.journal)
      (pool : after.pool ≡ mid.pool) (done : after.done ≡ mid.done) where
    births : births_of after.journal ≡ births_of before.journal
    births = ap births_of journal ∙ e.births

    children_are : children_of after.top ≡ w.older ++ record child { delivered = true } ∷ []
    children_are = children ∙ ap (with_delivered ended.id) w.children ∙ last_delivered ended.id w.older child earlier (sym e.id)

    below_is : below after ≡ reverse rest
    below_is = ap (λ xs. reverse xs) parents

    count : after.done ≡ before.done + 1
    count = done ∙ e.done

    born : Each (IsBornWithin (length (births_of before.journal))) (children_of after.top)
    born = subst (λ xs. Each (IsBornWithin (length (births_of before.journal))) xs) (sym children_are) (again w.older (subst (λ xs. Each (IsBornWithin (length (births_of before.journal))) xs) w.children stack_was.0.born))
      where
        again : (xs : List Child) → Each (IsBornWithin (length (births_of before.journal))) (xs ++ child ∷ []) → Each (IsBornWithin (length (births_of before.journal))) (xs ++ record child { delivered = true } ∷ [])
        again [] h = h
        again (x ∷ xs) h = (h.0, again xs h.1)

    pub stand_handed : IsAtPoint t k after.top → Stand t k after
    stand_handed point =
        let few = stack_was.0.few in let on = count in let long = ap length births in let live = e.live in
        let rest_words = ap all_words below_is in let all = ap all_words below_was in let out = ap (λ p. p.live) pool in
        record {
          top = record {
            point = point;
            named = named_so (births_of before.journal) (births_of after.journal) parent after.top births same.id same.label stack_was.0.named;
            few = omega (arith, few, on, as_before);
            born = born_so (length (births_of before.journal)) (length (births_of after.journal)) (children_of after.top) (ap length births) born;
          };
          delivered = subst (λ xs. Each IsDelivered xs) (sym children_are) (each_one_more IsDelivered w.older (record child { delivered = true }) w.delivered refl);
          stack = subst (λ xs. AreWaiting t k after.done (births_of after.journal) after.top xs) (sym below_is)
              (waiting_so t k after.done (births_of after.journal) parent after.top (reverse rest) same.id same.func same.label
              (waiting_later t k before.done after.done (births_of before.journal) (births_of after.journal) parent (reverse rest) (omega (arith, on))
              (labels_same (births_of before.journal) (births_of after.journal) births) (omega (arith, long)) stack_was.2));
          live = omega (arith, words, live, rest_words, all, out);
        }

    pub write_handed : (c : Setting) (limit : ℕ) → Write c limit before → NextIs (list_of c) before.done before.top nexts.End
        → KeepsUp limit (take (before.done + 1) (list_of c)) mid.journal → Write c limit after
    write_handed c limit wrote is keeps =
        let l : List Action = list_of c in
        let n : ℕ = before.done in
        let forked = subst (λ xs. AreForked l n before.top xs) below_was wrote.forked in
        let f : Forked l n before.top parent = forked.0 in
        let early = f.before in let inside = is.inside in let since = f.since in let on = count in
        let at : HasAction l (suc n) (label_at l f.place) (suc (index_at l f.place)) =
        (next_places c).returns f.place f.child n (omega (arith, early, inside)) f.deed is.inside (is.label ∙ f.child_is ∙ ap (λ m. fork_of m f.child) (sym f.by)) is.deed in
        record {
          keeps = subst (λ m. KeepsUp limit (take m l) after.journal) (sym count) (subst (λ j. KeepsUp limit (take (n + 1) l) j) (sym journal) keeps);
          next = action_so l (suc n) after.done (label_at l f.place) (label_of after.top) (suc (index_at l f.place)) (done_of after.top) (omega (arith, on)) (same.label ∙ sym f.by) (omega (arith, as_before, since)) at;
          forked = subst (λ xs. AreForked l after.done after.top xs) (sym below_is) (forked_so l n after.done parent after.top (reverse rest) (omega (arith, on)) same.label forked.1);
        }

-- the End is written down
pub end_written : (t : Table) (k : ℕ) (c : Setting) (limit : ℕ) (before mid : Run) (ended : Ended) → HasEnded t k before mid ended → Write c limit before → NextIs (list_of c) before.done before.top nexts.End
    → KeepsUp limit (take (before.done + 1) (list_of c)) mid.journal
end_written t k c limit before mid ended e w is =
    written (list_of c) before.done limit _ mid.journal is.inside (is.action ∙ (λ i. action_named (label_of before.top) (done_of before.top) ends (is.words i)))
    (e.written limit (take before.done (list_of c)) w.keeps)

-- ---- the root

pub root_label : (t : Table) (k : ℕ) (before : Run) → Stand t k before → before.parents.items ≡ [] → label_of before.top ≡ []
root_label t k before s none = subst (λ xs. AreWaiting t k before.done (births_of before.journal) before.top xs) (ap (λ xs. reverse xs) none) s.stack

-- its End is the last action
pub all_written : (c : Setting) (n limit : ℕ) (x : Thread) (journal : Journal) → NextIs (list_of c) n x nexts.End → label_of x ≡ [] → KeepsUp limit (take (n + 1) (list_of c)) journal
    → KeepsUp limit (list_of c) journal
all_written c n limit x journal is root keeps =
    let l : List Action = list_of c in
    let last = laws.root_ends c.quota l (is_depth_first c) in
    let size = last.1 in
    let inside = is.inside in
    let one_way = laws.end_is_last c.quota l (is_depth_first c) n last.0 is.inside (omega (arith, size)) (is.label ∙ root ∙ sym last.2) last.3 in
    let other_way = laws.end_is_last c.quota l (is_depth_first c) last.0 n (omega (arith, size)) is.inside (last.2 ∙ sym (is.label ∙ root)) is.deed in
    subst (λ actions. KeepsUp limit actions journal) (take_all (n + 1) l (omega (arith, size, one_way, other_way))) keeps
