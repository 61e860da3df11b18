use Rattle.std.proofs.Common.{[], ◌∷◌, ◌++◌, sym, ap, subst, ◌∙◌, arith, length}
use Rattle.std.specs.Prelude.{slice_get}
use Rattle.std.proofs.lemmas.Option.{none-some}
use Rattle.deque_list.specs.Ids.{IsLive, IsSmallestFree}
use Rattle.open_periods.proofs.Sorting.{get_middle}
use Rattle.open_periods.proofs.Seats.{as_long}
use Rattle.list_changes.proofs.Stealing.{held, rank_of, is_live, last_place, never_refused, put_beside, stole_beside}
use Rattle.list_changes.proofs.Seating.{taken_by_begin}
use Rattle.list_changes.proofs.stolen.steal_beside.Goals as goal

pub take_bottom-requires : goal.take_bottom-requires
take_bottom-requires g c = is_live c.requires.victim.4

pub unreachable-requires : goal.unreachable-requires
unreachable-requires g c =
    let v = c.requires.victim in
    none-some v.3 (c.in_default.ensures.item (length v.4.left) (held v.4) (rank_of v.4)
    ∙ ap (slice_get (v.1 ∷ (v.2 ++ v.3 ∷ []))) (last_place (v.1 ∷ v.2) v.3) ∙ get_middle (v.1 ∷ v.2) v.3 [])

pub insert_right-requires : goal.insert_right-requires
insert_right-requires g c = subst (λ ids. IsLive ids c.args.victim) (sym c.in-Some.ensures.ids) (is_live c.requires.victim.4)

pub unreachable-requires-in_default-insert_right : goal.unreachable-requires-in_default-insert_right
unreachable-requires-in_default-insert_right g c =
    let v = c.requires.victim in
    let many = ap length (c.in-Some.ensures.deque (length v.4.left) (held v.4) (rank_of v.4)) ∙ as_long c.args.list.now.deques (length v.4.left) _ in
    let most = c.in-Some.ensures.rest.most in
    let few = c.requires.few_deques in
    never_refused c.take_bottom.new.self c.in_default-insert_right.field-0.1 (c.in-Some.ensures.rest.spare ∙ c.requires.room) (omega (arith, many, most, few))
    c.in_default-insert_right.ensures.full c.in_default-insert_right.ensures.prepared

pub returns-clause-deques : goal.returns-clause-deques
returns-clause-deques g c owner first others bottom holds =
    put_beside owner first others bottom holds c.args.worker c.take_bottom.new.self c.insert_right.new.self c.in-Some.bottom c.in-Ok.id
    c.in-Some.ensures.item c.in-Some.ensures.deque c.in-Ok.ensures.ok (c.in-Ok.ensures.most ∙ c.in-Some.ensures.rest.most)

pub returns-clause-steals : goal.returns-clause-steals
returns-clause-steals g c =
    stole_beside c.args.worker c.args.victim c.args.list.now c.args.table.now c.insert_right.new.self c.begin.new.self c.args.period c.begin.ensures.periods c.requires.number c.requires.unused
    c.requires.ran_nothing c.requires.bore_none c.in-Ok.id c.requires.marked
    (λ owner first others bottom holds. put_beside owner first others bottom holds c.args.worker c.take_bottom.new.self c.insert_right.new.self c.in-Some.bottom c.in-Ok.id
    c.in-Some.ensures.item c.in-Some.ensures.deque c.in-Ok.ensures.ok (c.in-Ok.ensures.most ∙ c.in-Some.ensures.rest.most))
    (subst (λ ids. ¬ IsLive ids c.in-Ok.id) c.in-Some.ensures.ids c.in-Ok.ensures.id.0)

pub returns-clause-seats : goal.returns-clause-seats
returns-clause-seats g c =
    taken_by_begin c.args.worker c.args.table.now c.begin.new.self c.begin.ensures.others c.begin.ensures.workers c.in-Ok.id c.args.period c.begin.ensures.seat c.begin.ensures.begun

pub returns-clause-id : goal.returns-clause-id
returns-clause-id g c = subst (λ ids. IsSmallestFree ids c.in-Ok.id) c.in-Some.ensures.ids c.in-Ok.ensures.id
