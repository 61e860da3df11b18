-- The bottom thread gets a deque of its own, if there may be one more.
use Rattle.std.proofs.Common.{◌≡◌, ◌∷◌, [], ◌++◌, length, refl, sym, ap, subst, ◌∙◌, true≢false}
use Rattle.std.specs.Prelude.{Some, is_some, slice_get}
use Rattle.deque_list.specs.Ids.{IsLive, IsSmallestFree}
use Rattle.trail_check.specs.declared.checker.Checker.{Checker}
use Rattle.trail_check.specs.Holds.{deque_with}
use Rattle.trail_check.proofs.Moves.{rank_of, bottom_is, put_beside}
use Rattle.trail_check.proofs.Victims.{two_threads, holds_items, not_memory, as_many}
use Rattle.trail_check.proofs.Refusing.{no_more_deques}
use Rattle.trail_check.proofs.Stealing.{beside_came}
use Rattle.trail_check.proofs.checker.Checker.steal_beside.Goals as goal

pub take_bottom-requires : goal.take_bottom-requires
take_bottom-requires c = c.requires.live

pub returns-in_default-clause-came : goal.returns-in_default-clause-came
returns-in_default-clause-came c = λ s limits run m stands can two.
    let now : Checker = c.args.self.now in
    let items = two_threads can.items two in
    let h = holds_items now.deques.deques c.args.victim can.owner can.items can.holds (items.0 ∷ (items.1 ++ items.2 ∷ [])) items.3 in
    absurd (true≢false (sym (ap is_some (sym c.in_default.is ∙ bottom_is can.owner items.0 items.1 items.2 h c.take_bottom.result c.take_bottom.ensures.item))))

pub insert_right-requires : goal.insert_right-requires
insert_right-requires c = subst (λ t. IsLive t c.args.victim) (sym c.take_bottom.ensures.ids) c.requires.live

pub returns-in-Err-default-Full-clause-came : goal.returns-in-Err-default-Full-clause-came
returns-in-Err-default-Full-clause-came c = λ s limits run m stands can two.
    let now : Checker = c.args.self.now in
    let full = (c.in-Err-default-Full.ensures.full c.in-Err-default-Full.field-0-1-0).0 c.in-Err-default-Full.field-0-1-is in
    let many = as_many c.take_bottom.new.self.deques now.deques.deques c.take_bottom.ensures.ids in
    no_more_deques s limits run m now stands c.args.worker c.args.place (deque_with c.args.victim can.owner can.items)
    (subst (λ n. slice_get now.deques.deques n ≡ Some (deque_with c.args.victim can.owner can.items)) can.at (rank_of can.holds).0) two
    (sym many ∙ full.0 ∙ c.take_bottom.ensures.rest.most)

pub returns-clause-came : goal.returns-clause-came
returns-clause-came c = λ s limits run m stands can two.
    let now : Checker = c.args.self.now in
    let items = two_threads can.items two in
    let h = holds_items now.deques.deques c.args.victim can.owner can.items can.holds (items.0 ∷ (items.1 ++ items.2 ∷ [])) items.3 in
    beside_came s limits run m now stands c.args.worker c.args.place c.args.victim can items.0 items.1 items.2 items.3 c.in-Ok.id
    (subst (λ t. IsSmallestFree t c.in-Ok.id) c.take_bottom.ensures.ids c.in-Ok.ensures.id)
    (record now { deques = c.insert_right.new.self; seats = c.write.new.list; tally = c.begin.new.self })
    (record {
      actions = refl;
      partners = refl;
      quota = refl;
      workers = refl;
      arena = refl;
      steps = refl;
      most = refl;
      list_most = c.in-Ok.ensures.most ∙ c.take_bottom.ensures.rest.most;
    })
    c.begin.ensures
    (put_beside can.owner items.0 items.1 items.2 h c.args.worker c.take_bottom.new.self.deques c.insert_right.new.self.deques c.in-Some.bottom c.in-Ok.id
    c.in-Some.ensures.item c.take_bottom.ensures.deque c.in-Ok.ensures.ok)
    c.write.ensures refl

pub returns-in-Err-default-OutOfMemory-clause-full : goal.returns-in-Err-default-OutOfMemory-clause-full
returns-in-Err-default-OutOfMemory-clause-full c many =
    let taken = c.take_bottom.new.self in
    let same : length taken.deques ≡ length c.args.self.now.deques.deques = as_many taken.deques c.args.self.now.deques.deques c.take_bottom.ensures.ids in
    let full = (c.in-Err-default-OutOfMemory.ensures.full taken.most).1 (same ∙ many ∙ sym c.take_bottom.ensures.rest.most, refl) in
    absurd (not_memory taken.most (sym full ∙ c.in-Err-default-OutOfMemory.field-0-1-is))
