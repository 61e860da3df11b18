-- Where the top thread of a worker's deque is before the Join of its newest open child.
use Rattle.std.proofs.Common.{◌≡◌, ◌≢◌, ℕ, ◌<◌, List, [], ◌∷◌, map, length, inl, inr, refl, sym, subst, ◌∙◌, arith, true≢false}
use Rattle.std.specs.Prelude.{None, Some, false}
use Rattle.std.proofs.lemmas.Bool.{cases_lt}
use Rattle.std.proofs.lemmas.Option.{none-some}
use Rattle.dag_order.specs.declared.thread_id.ThreadId.{ThreadId}
use Rattle.dag_order.specs.LabelOrder.{fork_of}
use Rattle.depth_first_list.specs.Actions.{joins, ends}
use Rattle.depth_first_list.specs.Facts.{label_at, deed_at, IsLive}
use Rattle.depth_first_list.specs.Runs.{IsDepthFirst}
use Rattle.hall_slots.specs.Passed.Lists.{Among, Each, Differ}
use Rattle.hall_slots.proofs.Passed.DequeMachineLists.{each_among, each_at, each_from, among_here}
use Rattle.hall_slots.specs.Passed.Moments as machine
use Rattle.hall_slots.specs.Passed.Moments.{Moment, done_at, threads_in}
use Rattle.hall_slots.specs.Passed.Machine.{Setting}
use Rattle.hall_slots.specs.Passed.LawfulOrder.{IsLawful, ChildrenAbove}
use Rattle.hall_slots.proofs.Passed.DequeMachineLabels.{one_parent}
use Rattle.hall_slots.proofs.Passed.LiveThreads.{child_live_at_join}
use Rattle.hall_slots.proofs.Passed.Shapes.{in_threads}
use Rattle.open_periods.specs.Names.{HasLabel}
use Rattle.open_periods.proofs.Labels.{one_label}
use Rattle.moment_shown.specs.Parts.{Child, Thread, Result, Parts, deque_shown, label_of}
use Rattle.moment_shown.specs.Standing.{ChildStands, EndedIn, Shows, ordinal_of}
use Rattle.moment_shown.specs.Events.{Works, IsNextOf}
use Rattle.moment_shown.proofs.Placing.{closed, top_stands, waiting_differs, next_at_top}
use Rattle.moment_shown.proofs.Shown.{deques_shown, among_map}

-- the deque of a worker as the moment has it, and its top thread, which is live
module _ (s : Setting) (m : Moment) (lawful : IsLawful s m) (parts : Parts) (shows : Shows s.quota s.list parts m) (worker : ℕ) (o : Works parts worker) where
  abbrev pub its_deque : machine.Deque
  its_deque = record { id = o.id; owner = Some worker; threads = label_of o.top ∷ map label_of o.under }

  pub in_its_deque : (P : machine.Deque → Type 0) → Each P m.deques → P its_deque
  in_its_deque P all = each_at P (map deque_shown o.left) its_deque (map deque_shown o.right) (subst (Each P) (deques_shown s.quota s.list parts m shows worker o) all)

  pub top_is_live : IsLive s.list (done_at m) o.top.label
  top_is_live =
      let there : Among its_deque m.deques = subst (Among its_deque) (sym (deques_shown s.quota s.list parts m shows worker o)) (among_here its_deque (map deque_shown o.left) (map deque_shown o.right)) in
      each_among (IsLive s.list (done_at m)) o.top.label (threads_in m.deques) lawful.order.all_live (in_threads o.top.label its_deque m.deques there (inl refl))

module _ (s : Setting) (run : IsDepthFirst s.quota s.list) (m : Moment) (lawful : IsLawful s m) (parts : Parts) (shows : Shows s.quota s.list parts m) (worker : ℕ) (o : Works parts worker)
    (newest : Child) (older : List Child) (children : o.top.children ≡ newest ∷ older) where
  children_stand : Each (ChildStands s.list (done_at m) parts o.top.id o.top.label) (newest ∷ older)
  children_stand = subst (Each (ChildStands s.list (done_at m) parts o.top.id o.top.label)) children (top_stands s run m lawful parts shows worker o).children

  -- who has the id of the child has its label
  one_of_it : (who : ThreadId) (label : List ℕ) → who ≡ newest.id → HasLabel parts.periods who label → label ≡ fork_of o.top.label newest.ordinal
  one_of_it who label is has = one_label s.quota s.list parts.periods m.books newest.id label (fork_of o.top.label newest.ordinal) shows.books
      (subst (λ x. HasLabel parts.periods x label) is has) children_stand.0.labelled

  -- no older open child has the id
  pub other_children : Each (λ c. Child.id c ≢ newest.id) older
  other_children = each_from (λ c. Child.id c ≢ newest.id) older (λ c there same.
      let stands = each_among (ChildStands s.list (done_at m) parts o.top.id o.top.label) c older children_stand.1 there in
      let ordinal : c.ordinal ≡ newest.ordinal = (one_parent o.top.label o.top.label c.ordinal newest.ordinal (one_of_it c.id (fork_of o.top.label c.ordinal) same stands.labelled)).1 in
      let differ = subst (λ cs. Differ (map ordinal_of cs)) children (top_stands s run m lawful parts shows worker o).ordinals_differ in
      differ.0 (subst (λ n. Among n (map ordinal_of older)) ordinal (among_map ordinal_of c older there)))

  -- no thread waits for it
  pub unwaited : (x : Thread) → Among x parts.waiting → (first : Child) (rest : List Child) → x.children ≡ first ∷ rest → first.id ≢ newest.id
  unwaited x there first rest are same =
      let its = subst (Each (ChildStands s.list (done_at m) parts x.id x.label)) are (shows.threads x (inr there)).children in
      let label = (one_parent x.label o.top.label first.ordinal newest.ordinal (one_of_it first.id (fork_of x.label first.ordinal) same its.0.labelled)).0 in
      waiting_differs s run m lawful parts shows worker o x there label

  -- a result under its id is that of the child
  pub its_result : (r : Result) → Among r parts.results → r.id ≡ newest.id → (r.label ≡ fork_of o.top.label newest.ordinal) × (r.func ≡ newest.func)
  its_result r there is =
      let label = one_of_it r.id r.label is (shows.results r there).labelled in (label, (children_stand.0.is_result r there label).1)

  module _ (place : ℕ) (is_next : IsNextOf s.list o.top place (joins newest.ordinal)) (waits : newest.delivered ≡ false) (unkept : Each (λ r. Result.id r ≢ newest.id) parts.results) where
    goes_on : EndedIn s.list (done_at m) (fork_of o.top.label newest.ordinal) → ⊥
    goes_on ended = elim (children_stand.0.ended ended) [
      | inl given ↦ true≢false (sym given ∙ waits)
      | inr kept ↦ each_among (λ r. Result.id r ≢ newest.id) kept.0 parts.results unkept kept.1 kept.2
    ]

    not_done : (e : ℕ) → e < length s.list → label_at s.list e ≡ fork_of o.top.label newest.ordinal → deed_at s.list e ≡ ends → done_at m e ≡ 0
    not_done e inside label deed = elim (cases_lt 0 (done_at m e)) [
      | inl did ↦ absurd (goes_on (e, inside, label, deed, did))
      | inr none ↦ omega (arith, none)
    ]

    -- the thread is alone in its deque if the child has not ended
    pub waits_alone : o.under ≡ []
    waits_alone = by_under o.under (in_its_deque s m lawful parts shows worker o (λ d. ChildrenAbove s.list (done_at m) None (machine.Deque.threads d)) lawful.order.children_above)
        (child_live_at_join s.quota s.list run (done_at m) (closed s run m lawful parts shows worker o) o.top.label place newest.ordinal (top_is_live s m lawful parts shows worker o)
        (next_at_top s run m lawful parts shows worker o place (joins newest.ordinal) is_next) is_next.does not_done)
      where
        by_under : (xs : List Thread) → ChildrenAbove s.list (done_at m) None (o.top.label ∷ map label_of xs) → IsLive s.list (done_at m) (fork_of o.top.label newest.ordinal) → xs ≡ []
        by_under [] above live = refl
        by_under (x ∷ xs) above live = absurd (none-some (fork_of o.top.label newest.ordinal) (above.0 newest.ordinal live))
