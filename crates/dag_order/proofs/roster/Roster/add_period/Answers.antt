-- The new list of lists ends in the new births, which may follow.
use Rattle.std.proofs.Common.{◌≡◌, [], ◌∷◌, ◌++◌, map, subst, sym}
use Rattle.std.proofs.lemmas.List.{map_push}
use Rattle.containers.specs.BoundedList.{entries}
use Rattle.dag_order.specs.Births.{ParentsComeFirst}
use Rattle.dag_order.proofs.BirthLaws.{births_follow}
use Rattle.dag_order.proofs.roster.Roster.add_period.Goals as goal

pub invariant_of-self-2 : goal.invariant_of-self-2
invariant_of-self-2 c =
    let e : map (λ births. entries births) (entries c.add.new.self) ≡ c.args.self.now ++ entries c.args.births ∷ [] =
    rw (c.add.ensures.entries, c.reserve.ensures.entries, map_push, c.self.view_is) in
    subst ParentsComeFirst (sym e) (births_follow c.args.self.now (entries c.args.births) (subst ParentsComeFirst c.self.view_is c.self.invariant) c.requires)
