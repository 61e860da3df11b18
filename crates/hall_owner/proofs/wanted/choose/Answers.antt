use Rattle.std.proofs.Common.{subst}
use Rattle.hall_owner.specs.Asked.{IsWantedOfList}
use Rattle.hall_owner.proofs.wanted.choose.Goals as goal

pub returns-in-GiveUp : goal.returns-in-GiveUp
returns-in-GiveUp c key next asked = subst (IsWantedOfList key c.args.at.now next) c.in-GiveUp.is asked

pub returns-in-Dummy : goal.returns-in-Dummy
returns-in-Dummy c key next asked = subst (IsWantedOfList key c.args.at.now next) c.in-Dummy.is asked

pub returns-in-Kept : goal.returns-in-Kept
returns-in-Kept c key next asked = c.choose_join.ensures key next (subst (IsWantedOfList key c.args.at.now next) c.in-Kept.is asked)

pub returns-in-End : goal.returns-in-End
returns-in-End c key next asked = c.choose_end.ensures key next (subst (IsWantedOfList key c.args.at.now next) c.in-End.is asked)
