use Rattle.std.proofs.Common.{ℕ, ◌∷◌, ◌++◌, refl, subst}
use Rattle.std.specs.Prelude.{◌≡◌, None, Some, slice_set}
use Rattle.deque_list.specs.declared.place.Place.{Place}
use Rattle.deque_list.specs.Ids.{StandsAt}
use Rattle.hall_slots.specs.Passed.Parts.{place_with}
use Rattle.hall_slots.specs.declared.list_slot.ListSlot.{ListSlot}
use Rattle.hall_thief.proofs.Parted.{owned, robbed_of, stands_in}
use Rattle.hall_thief.proofs.thefts.own_in.Goals as goal

pub take_over-requires : goal.take_over-requires
take_over-requires c = record { unowned = (_, place_with c.args.id None, stands_in c.args.list.now c.get_mut-list.result.now c.get_mut-list.ensures.value c.args.id None c.requires.has, refl) }

pub returns : goal.returns
returns c has = robbed_of c.args.list.now c.get_mut-list.result.now c.get_mut-list.ensures.value c.take_over.new.self c.args.number (has.left ++ place_with c.args.id (Some c.args.worker) ∷ has.right)
    (owned has c.args.worker c.take_over.new.self.places
    (subst (λ (l : ListSlot). (rank : ℕ) (place : Place) → StandsAt l.part.order.places c.args.id rank place
    → c.take_over.new.self.places ≡ slice_set l.part.order.places rank (record place { owner = Some c.args.worker })) c.get_mut-list.ensures.value c.take_over.ensures.place))
    c.take_over.ensures.most c.requires.number c.requires.open
