-- What an owner asks for by its lane, and chooses by the list.
use Rattle.std.proofs.Common.{inl, inr, sym, subst}
use Rattle.hall_actions.specs.Passed.HallNames.{HallKey, Next}
use Rattle.hall_actions.specs.declared.at_next.AtNext.{AtNext}
use Rattle.hall_owner.specs.Asked.{IsWantedOfList}
use Rattle.hall_owner.specs.Decided.{ActionNeedsList}
use Rattle.hall_owner.specs.Refusing.{AsksForList}
use Rattle.hall_owner.specs.declared.wanted.ListWanted.{ListWanted}
use Rattle.hall_owner.specs.declared.wanted.ListWanted.TheVariants.{GiveUp, Dummy, Kept, End}

-- it needs the list for its action, or since the quota is spent
pub asks_for_list : (key : HallKey) (at : AtNext) (next : Next) (wanted : ListWanted) → IsWantedOfList key at next wanted → AsksForList key at next
asks_for_list key at next GiveUp asked = inr asked
asks_for_list key at next Dummy asked = inl (subst (ActionNeedsList at) (sym asked) tt)
asks_for_list key at next (Kept child) asked = inl (subst (ActionNeedsList at) (sym asked.0) asked.1)
asks_for_list key at next End asked = inl (subst (ActionNeedsList at) (sym asked.0) asked.1)
