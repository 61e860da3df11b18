use Rattle.std.proofs.Common.{◌∙◌, arith, inl, inr}
use Rattle.block_arena.proofs.Fronts.{shown-length, shown-room, shown-left, shown-right, rejoins}
use Rattle.block_arena.proofs.numbers.Numbers.split.Goals as goal

pub move_tail-requires-clause-room : goal.move_tail-requires-clause-room
move_tail-requires-clause-room c =
    let inside = c.self.inside in
    let len = shown-length inside.pieces inside.len c.args.self c.self.view_is c.self.invariant.exact in
    let room = rw len at c.requires in
    omega arith

pub returns-clause-cut : goal.returns-clause-cut
returns-clause-cut c =
    let inside = c.self.inside in
    let len = shown-length inside.pieces inside.len c.args.self c.self.view_is c.self.invariant.exact in
    let within = c.if-self-at.false in
    record { between = c.if-at-ne0.false; within = rw len within }

pub returns-clause-left : goal.returns-clause-left
returns-clause-left c =
    shown-left c.self.inside.pieces c.move_tail.new.from c.self.inside.len c.args.at c.args.self c.self.view_is
    c.move_tail.ensures.kept c.move_tail.ensures.from_room c.if-at-ne0.false c.if-self-at.false

pub returns-clause-right : goal.returns-clause-right
returns-clause-right c =
    let moved = rw c.into_list-rest.ensures.empty at c.move_tail.ensures.moved in
    shown-right c.self.inside.pieces c.move_tail.new.to c.self.inside.len c.args.at c.args.shell c.args.self
    c.self.view_is moved (c.move_tail.ensures.to_room ∙ c.into_list-rest.ensures.room) c.if-at-ne0.false
    c.if-self-at.false

pub returns-clause-joinable : goal.returns-clause-joinable
returns-clause-joinable c =
    let inside = c.self.inside in
    let len = shown-length inside.pieces inside.len c.args.self c.self.view_is c.self.invariant.exact in
    let room = shown-room inside.pieces inside.len c.args.self c.self.view_is in
    (rejoins c.args.self _ _ c.args.at c.args.shell (returns-clause-left c) (returns-clause-right c)
    (returns-clause-cut c) (rw (len, room) (omega arith)) (rw len (omega arith))).0

pub returns-clause-rejoined : goal.returns-clause-rejoined
returns-clause-rejoined c =
    let inside = c.self.inside in
    let len = shown-length inside.pieces inside.len c.args.self c.self.view_is c.self.invariant.exact in
    let room = shown-room inside.pieces inside.len c.args.self c.self.view_is in
    (rejoins c.args.self _ _ c.args.at c.args.shell (returns-clause-left c) (returns-clause-right c)
    (returns-clause-cut c) (rw (len, room) (omega arith)) (rw len (omega arith))).1

pub returns-clause-refused : goal.returns-clause-refused
returns-clause-refused c =
    let inside = c.self.inside in
    let len = shown-length inside.pieces inside.len c.args.self c.self.view_is c.self.invariant.exact in
    (λ h. (cc), λ h. elim h [ inl part ↦ absurd (part c.if-at-ne0.false) | inr past ↦ absurd (omega arith) ])
