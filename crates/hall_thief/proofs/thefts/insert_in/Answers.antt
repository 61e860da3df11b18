use Rattle.std.proofs.Common.{ℕ, ◌+◌, ◌∷◌, ◌++◌, ap, ◌∙◌, subst}
use Rattle.std.specs.Prelude.{◌≡◌, Some, insert}
use Rattle.hall_thief.specs.HallNames.{DequeId, ListSlot}
use Rattle.deque_list.specs.declared.place.Place.{Place}
use Rattle.deque_list.specs.Ids.{IsSmallestFree, StandsAt, place_ids}
use Rattle.deque_list.proofs.LawLemmas.{one_smallest_free}
use Rattle.hall_slots.specs.Passed.Parts.{place_with}
use Rattle.hall_thief.proofs.Parted.{beside, robbed_of, live_in}
use Rattle.hall_thief.proofs.thefts.insert_in.Goals as goal

pub insert_right-requires : goal.insert_right-requires
insert_right-requires c = live_in c.args.list.now c.get_mut-list.result.now c.get_mut-list.ensures.value c.args.victim c.requires.has.0 c.requires.has.1

pub returns : goal.returns
returns c owner has =
    let same = c.get_mut-list.ensures.value in
    let new = place_with c.in-Ok.field-0 (Some c.args.worker) in
    let id : c.in-Ok.field-0 ≡ c.args.id = one_smallest_free (place_ids c.args.list.now.part.order.places) c.in-Ok.field-0 c.args.id
    (subst (λ (l : ListSlot). IsSmallestFree (place_ids l.part.order.places) c.in-Ok.field-0) same c.in-Ok.ensures.id) c.requires.id in
    robbed_of c.args.list.now c.get_mut-list.result.now same c.insert_right.new.self c.args.number (has.left ++ place_with c.args.victim owner ∷ place_with c.args.id (Some c.args.worker) ∷ has.right)
    (beside owner has new c.insert_right.new.self.places
    (subst (λ (l : ListSlot). (rank : ℕ) (place : Place) → StandsAt l.part.order.places c.args.victim rank place → c.insert_right.new.self.places ≡ insert l.part.order.places (rank + 1) new) same c.in-Ok.ensures.ok)
    ∙ ap (λ (d : DequeId). has.left ++ place_with c.args.victim owner ∷ place_with d (Some c.args.worker) ∷ has.right) id)
    c.in-Ok.ensures.most c.requires.number c.requires.open
