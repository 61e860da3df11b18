-- Where the top thread of a worker's deque is before its End.
use Rattle.std.proofs.Common.{◌≡◌, ◌≢◌, ℕ, List, [], ◌∷◌, map, inr, refl, sym, subst, ◌∙◌, arith}
use Rattle.std.specs.Prelude.{Bool, true, false}
use Rattle.dag_order.specs.Births.{root}
use Rattle.dag_order.specs.declared.thread_id.ThreadId.{ThreadId}
use Rattle.dag_order.specs.LabelOrder.{fork_of}
use Rattle.depth_first_list.specs.Runs.{IsDepthFirst}
use Rattle.hall_slots.specs.Passed.Lists.{Among}
use Rattle.hall_slots.proofs.Passed.DequeMachineLists.{each_among}
use Rattle.hall_slots.specs.Passed.Moments as machine
use Rattle.hall_slots.specs.Passed.Moments.{Moment, done_at}
use Rattle.hall_slots.specs.Passed.Machine.{Setting}
use Rattle.hall_slots.specs.Passed.LawfulOrder.{IsLawful, Stacked}
use Rattle.hall_slots.proofs.Passed.DequeMachineLabels.{fork_is_not_root}
use Rattle.open_periods.specs.Periods.{Period}
use Rattle.open_periods.specs.Names.{HasLabel, of_root, of_fork}
use Rattle.open_periods.proofs.Labels.{one_label}
use Rattle.moment_shown.specs.Parts.{Child, Thread, Result, Parts, IsIn, label_of}
use Rattle.moment_shown.specs.Standing.{ChildStands, EndedIn, Shows}
use Rattle.moment_shown.specs.Events.{Works}
use Rattle.moment_shown.proofs.Placing.{top_is_in, top_stands}
use Rattle.hall_parts.specs.Passed.MomentLawsResults.{IsChildOf}
use Rattle.hall_actions.proofs.AtJoin.{in_its_deque, top_is_live}

-- the thread whose label has no ordinals has the id of the root
root_is : (periods : List Period) (id : ThreadId) (label : List ℕ) → HasLabel periods id label → label ≡ [] → id ≡ root
root_is periods id label of_root is = refl
root_is periods id label (of_fork p nth birth parent there born named) is = absurd (fork_is_not_root parent birth.ordinal is)

module _ (s : Setting) (run : IsDepthFirst s.quota s.list) (m : Moment) (lawful : IsLawful s m) (parts : Parts) (shows : Shows s.quota s.list parts m) (worker : ℕ) (o : Works parts worker) where
  -- who has its id has its label
  its_label : (id : ThreadId) (label : List ℕ) → id ≡ o.top.id → HasLabel parts.periods id label → label ≡ o.top.label
  its_label id label is has = one_label s.quota s.list parts.periods m.books o.top.id label o.top.label shows.books (subst (λ x. HasLabel parts.periods x label) is has)
      (top_stands s run m lawful parts shows worker o).labelled

  goes_on : (label : List ℕ) → label ≡ o.top.label → EndedIn s.list (done_at m) label → ⊥
  goes_on label is ended =
      let none = (top_is_live s m lawful parts shows worker o).goes_on ended.0 ended.1 (ended.2 ∙ is) ended.3 in let did = ended.4 in absurd (omega (arith, none, did))

  -- no result has its id
  pub not_kept : (r : Result) → Among r parts.results → r.id ≢ o.top.id
  not_kept r there is = let result = shows.results r there in goes_on r.label (its_label r.id r.label is result.labelled) result.ended

  -- an open child that has its id is it
  pub is_child : (x : Thread) → IsIn x parts → (c : Child) → Among c x.children → c.id ≡ o.top.id → IsChildOf x o.top c
  is_child x x_in c there is =
      let stands = each_among (ChildStands s.list (done_at m) parts x.id x.label) c x.children (shows.threads x x_in).children there in
      let label : fork_of x.label c.ordinal ≡ o.top.label = its_label c.id (fork_of x.label c.ordinal) is stands.labelled in record {
        waits = waits_by c stands label c.delivered refl;
        labelled = sym label;
        func = (stands.is_thread o.top (top_is_in s run m lawful parts shows worker o) (sym label)).2;
      }
    where
      waits_by : (c : Child) → ChildStands s.list (done_at m) parts x.id x.label c → fork_of x.label c.ordinal ≡ o.top.label → (b : Bool) → c.delivered ≡ b → c.delivered ≡ false
      waits_by c stands label true given = absurd (goes_on (fork_of x.label c.ordinal) label (stands.delivered given).0)
      waits_by c stands label false none = none

  -- the root is alone, has the id of the root, and is nobody's child
  pub root_alone : o.top.label ≡ [] → o.under ≡ []
  root_alone is = by_under o.under (in_its_deque s m lawful parts shows worker o (λ d. Stacked (machine.Deque.threads d)) lawful.order.stacked)
    where
      by_under : (xs : List Thread) → Stacked (o.top.label ∷ map label_of xs) → xs ≡ []
      by_under [] stacked = refl
      by_under (x ∷ xs) stacked = absurd (fork_is_not_root x.label stacked.0.0 (sym stacked.0.1 ∙ is))

  pub root_id : o.top.label ≡ [] → o.top.id ≡ root
  root_id is = root_is parts.periods o.top.id o.top.label (top_stands s run m lawful parts shows worker o).labelled is

  pub root_unwaited : o.top.label ≡ [] → (x : Thread) → Among x parts.waiting → (c : Child) → Among c x.children → c.id ≢ o.top.id
  root_unwaited is x there c its same = let child = is_child x (inr there) c its same in fork_is_not_root x.label c.ordinal (sym child.labelled ∙ is)
