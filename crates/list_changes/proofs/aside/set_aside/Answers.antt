use Rattle.std.proofs.Common.{[], ◌∷◌, ap, sym, subst, ◌∙◌, arith, length}
use Rattle.std.specs.Prelude.{slice_get}
use Rattle.std.proofs.lemmas.Option.{none-some}
use Rattle.deque_list.specs.Ids.{IsLive, IsSmallestFree}
use Rattle.open_periods.proofs.Sorting.{get_middle}
use Rattle.open_periods.proofs.Seats.{as_long}
use Rattle.list_changes.proofs.Putting.{live}
use Rattle.list_changes.proofs.Stealing.{held, rank_of, is_live, last_place, never_refused, put_beside}
use Rattle.list_changes.proofs.Cutting.{new_stands, unowned_beside}
use Rattle.list_changes.proofs.aside.set_aside.Goals as goal

pub take_bottom-requires : goal.take_bottom-requires
take_bottom-requires g c = is_live c.requires.two.3

pub unreachable-requires : goal.unreachable-requires
unreachable-requires g c =
    let v = c.requires.two in
    none-some v.2 (c.in_default.ensures.item (length v.3.left) (held v.3) (rank_of v.3)
    ∙ ap (slice_get (v.1 ∷ v.2 ∷ [])) (last_place (v.1 ∷ []) v.2) ∙ get_middle (v.1 ∷ []) v.2 [])

pub insert_right-requires : goal.insert_right-requires
insert_right-requires g c = subst (λ ids. IsLive ids c.args.deque) (sym c.in-Some.ensures.ids) (is_live c.requires.two.3)

pub unreachable-requires-in_default-insert_right : goal.unreachable-requires-in_default-insert_right
unreachable-requires-in_default-insert_right g c =
    let v = c.requires.two in
    let many = ap length (c.in-Some.ensures.deque (length v.3.left) (held v.3) (rank_of v.3)) ∙ as_long c.args.list.now.deques (length v.3.left) _ in
    let most = c.in-Some.ensures.rest.most in
    let few = c.requires.few_deques in
    never_refused c.take_bottom.new.self c.in_default-insert_right.field-0.1 (c.in-Some.ensures.rest.spare ∙ c.requires.room) (omega (arith, many, most, few))
    c.in_default-insert_right.ensures.full c.in_default-insert_right.ensures.prepared

pub give_up-requires : goal.give_up-requires
give_up-requires g c =
    let v = c.requires.two in
    live (new_stands v.0 v.1 v.2 v.3 0 c.insert_right.new.self c.in-Ok.id
    (put_beside v.0 v.1 [] v.2 v.3 0 c.take_bottom.new.self c.insert_right.new.self c.in-Some.bottom c.in-Ok.id
    c.in-Some.ensures.item c.in-Some.ensures.deque c.in-Ok.ensures.ok (c.in-Ok.ensures.most ∙ c.in-Some.ensures.rest.most)))

pub returns-clause-deques : goal.returns-clause-deques
returns-clause-deques g c owner top bottom holds =
    unowned_beside owner top bottom holds 0 c.insert_right.new.self c.give_up.new.self c.in-Ok.id
    (put_beside owner top [] bottom holds 0 c.take_bottom.new.self c.insert_right.new.self c.in-Some.bottom c.in-Ok.id
    c.in-Some.ensures.item c.in-Some.ensures.deque c.in-Ok.ensures.ok (c.in-Ok.ensures.most ∙ c.in-Some.ensures.rest.most))
    c.give_up.ensures.deque c.give_up.ensures.rest.most

pub returns-clause-id : goal.returns-clause-id
returns-clause-id g c = subst (λ ids. IsSmallestFree ids c.in-Ok.id) c.in-Some.ensures.ids c.in-Ok.ensures.id

pub returns-clause-spent : goal.returns-clause-spent
returns-clause-spent g c = c.give_up.ensures.rest.spare ∙ c.in-Ok.ensures.spent
