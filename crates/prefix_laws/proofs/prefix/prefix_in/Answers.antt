use Rattle.std.proofs.Common.{sym, subst, inl, inr, refl}
use Rattle.std.proofs.lemmas.Bool.{cases_eq}
use Rattle.containers.specs.BoundedList.{entries}
use Rattle.deque_machine.specs.Lists.{Among}
use Rattle.prefix_laws.specs.Prefixes.{all_ran, places_behind}
use Rattle.prefix_laws.proofs.Counting.{less}
use Rattle.prefix_laws.proofs.prefix.prefix_in.Goals as goal

pub actions-preserved : goal.actions-preserved
actions-preserved c = λ i below. elim (cases_eq i c.actions.place) [
  | inl same ↦ subst (λ n. Among n (all_ran (places_behind (entries c.args.books.now)))) (sym same) (c.if-not-is_done.ensures.0 refl)
  | inr other ↦ c.actions.invariant i (less i c.actions.place below other)
]
