use Rattle.std.proofs.Common.{rules, arith, ◌≤◌, ◌+◌, ◌≡◌, suc, subst, ap, ◌∙◌}
use Rattle.node_table.specs.Shown.{expr_shown}
use Rattle.flat_expressions.specs.Codes.{HasRoom}
use Rattle.flat_expressions.specs.Shown.{operand_shown, acts_shown}
use Rattle.flat_code.specs.Room.{most_slots}
use Rattle.flat_code.specs.Made.{acts_placed}
use Rattle.flat_code.specs.Shown.{frames_shown, places_shown}
use Rattle.flat_code.proofs.More.{room_more}
use Rattle.flat_code.proofs.Acting.{put_made}
use Rattle.flat_code.proofs.placing.put_places.Goals as goal

pub lower_operand-requires : goal.lower_operand-requires
lower_operand-requires c =
    let low : c.args.scope.now.size ≤ most_slots = search rules in
    room_more (expr_shown c.args.index.now) c.args.scope.now.slots c.args.scope.now.size most_slots low c.requires.3

pub lower_operand-requires-2 : goal.lower_operand-requires-2
lower_operand-requires-2 c =
    let low : c.args.scope.now.size ≤ most_slots = search rules in
    let next : suc c.args.scope.now.slots ≡ c.args.scope.now.slots + 1 = omega arith in
    let room = room_more (expr_shown c.args.value.now) (suc c.args.scope.now.slots) c.args.scope.now.size most_slots low c.requires.5 in
    subst (λ n. HasRoom most_slots (expr_shown c.args.value.now) n) next room

pub returns : goal.returns
returns c =
    put_made c.args.block (expr_shown c.args.index.now) (expr_shown c.args.value.now) c.args.scope.now.slots (frames_shown c.args.here.now)
    (operand_shown c.in_ok-index.index) (operand_shown c.in_ok-from.from) (acts_shown c.new-acts.result.items) (acts_shown c.lower_operand.new.acts.items)
    (acts_shown c.lower_operand-2.new.acts.items)
    (places_shown c.in_ok-places.places.items)
    _
    (ap acts_shown c.new-acts.ensures.items)
    c.in_ok-index.ensures
    c.in_ok-from.ensures
    (c.in_ok-places.ensures ∙ ap (λ xs. acts_placed (frames_shown c.args.here.now) (acts_shown xs)) c.deref.ensures.value)
    c.in_ok-add_place.ensures
