-- The End that is taken was passed.
use Rattle.std.proofs.Common.{rules, inl, refl, sym, subst}
use Rattle.trail_check.specs.Pairing.{IsIn}
use Rattle.trail_check.proofs.GrowingLists.{popped}
use Rattle.trail_check.proofs.pairing.Pairing.pass_join.Goals as goal

pub index_mut-requires : goal.index_mut-requires
index_mut-requires c =
    let lt = (c.requires c.in-Some.end).1 (subst (λ m. IsIn c.in-Some.end m) (sym (popped _ _ c.in-Some.end c.in-Some.ensures.items)) (inl refl)) in
    search (rules, lt)
