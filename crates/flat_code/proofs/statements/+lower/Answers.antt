use Rattle.std.proofs.Common.{Some, sym, ap, ◌≡◌, ◌∙◌, ◌+◌, ◌≤◌, List, subst, length}
use Rattle.std.specs.Prelude.{option_copied}
use Rattle.std.proofs.lemmas.Result.{IfOk-weaker}
use Rattle.node_table.specs.Codes.{nodes_of}
use Rattle.node_table.specs.Shown.{kind_shown}
use Rattle.thread_stack.specs.Lists.{kind_at}
use Rattle.flat_code.specs.Shown.{frames_shown, places_shown, table_of}
use Rattle.node_table.specs.Shown.{expr_shown}
use Rattle.flat_code.specs.Made.{Placed, node_made}
use Rattle.flat_code.specs.Refused.{most_places}
use Rattle.flat_code.proofs.Lengths.{if_too_long, handed_on, test_in_if, first_in_if, arms_in_if, test_in_while, inside_in_while, end_in_while}
use Rattle.flat_code.proofs.OneNode.{made_by_kind, kind_there}
use Rattle.flat_code.proofs.statements.+lower.Goals as goal

pub lower_node-returns-clause-places : goal.lower_node-returns-clause-places
lower_node-returns-clause-places t c =
    let scope = c.args.scope.now in
    let site = c.args.site.now in
    let there : kind_at (table_of scope) site.number ≡ Some (kind_shown c.in-Some.node.now.kind) =
    kind_there (nodes_of scope.table.now) site.number c.in-Some.node.now (sym c.node.ensures ∙ ap option_copied c.in-Some.is) in
    IfOk-weaker c.lower_kind.result _ _
    (λ v made.
    made
    ∙ made_by_kind (table_of scope) scope.slots scope.size c.args.depth site.place site.number (frames_shown site.here.now) (frames_shown site.behind.now)
    (kind_shown c.in-Some.node.now.kind) c.requires there)
    c.lower_kind.ensures.places

pub lower_node-returns-clause-long : goal.lower_node-returns-clause-long
lower_node-returns-clause-long t c =
    let scope = c.args.scope.now in
    let site = c.args.site.now in
    let there : kind_at (table_of scope) site.number ≡ Some (kind_shown c.in-Some.node.now.kind) =
    kind_there (nodes_of scope.table.now) site.number c.in-Some.node.now (sym c.node.ensures ∙ ap option_copied c.in-Some.is) in
    let same = made_by_kind (table_of scope) scope.slots scope.size c.args.depth site.place site.number (frames_shown site.here.now)
    (frames_shown site.behind.now) (kind_shown c.in-Some.node.now.kind) c.requires there in
    if_too_long c.lower_kind.result _ _ (λ h. subst (λ (ps : List Placed). most_places ≤ site.place + length ps) same h) c.lower_kind.ensures.long

pub lower_if-returns-in_err-start-clause-long : goal.lower_if-returns-in_err-start-clause-long
lower_if-returns-in_err-start-clause-long t c =
    let scope = c.args.scope.now in
    let site = c.args.site.now in
    let e = expr_shown c.args.cond.now in
    handed_on c.from_residual-in_err-start.result c.in_err-start.field-0.0 _ _ c.from_residual-in_err-start.ensures.1
    (λ h. test_in_if (node_made (table_of scope) scope.slots c.args.depth) site.place site.number e scope.slots (frames_shown site.here.now)
    (frames_shown site.behind.now) c.args.then.now c.args.other.now most_places (h e scope.slots c.in_ok-condition.ensures))
    c.in_err-start.ensures.long

pub lower_if-returns-in_err-first-clause-long : goal.lower_if-returns-in_err-first-clause-long
lower_if-returns-in_err-first-clause-long t c =
    let scope = c.args.scope.now in
    let site = c.args.site.now in
    let e = expr_shown c.args.cond.now in
    handed_on c.from_residual-in_err-first.result c.in_err-first.field-0.0 _ _ c.from_residual-in_err-first.ensures.1
    (λ h. first_in_if (node_made (table_of scope) scope.slots c.args.depth) site.place site.number e scope.slots (frames_shown site.here.now)
    (frames_shown site.behind.now) c.args.then.now c.args.other.now most_places c.in_ok-start.start
    (c.in_ok-start.ensures.place e scope.slots c.in_ok-condition.ensures) h)
    c.in_err-first.ensures.long

pub lower_if-returns-in_err-arms-clause-long : goal.lower_if-returns-in_err-arms-clause-long
lower_if-returns-in_err-arms-clause-long t c =
    let scope = c.args.scope.now in
    let site = c.args.site.now in
    let e = expr_shown c.args.cond.now in
    handed_on c.from_residual-in_err-arms.result c.in_err-arms.field-0.0 _ _ c.from_residual-in_err-arms.ensures.1
    (λ h. arms_in_if (node_made (table_of scope) scope.slots c.args.depth) site.place site.number e scope.slots (frames_shown site.here.now)
    (frames_shown site.behind.now) c.args.then.now c.args.other.now most_places c.in_ok-start.start (places_shown c.in_ok-first.first.items)
    (c.in_ok-start.ensures.place e scope.slots c.in_ok-condition.ensures) c.in_ok-first.ensures.places h)
    c.in_err-arms.ensures.long

pub lower_while-returns-in_err-start-clause-long : goal.lower_while-returns-in_err-start-clause-long
lower_while-returns-in_err-start-clause-long t c =
    let scope = c.args.scope.now in
    let site = c.args.site.now in
    let e = expr_shown c.args.cond.now in
    handed_on c.from_residual-in_err-start.result c.in_err-start.field-0.0 _ _ c.from_residual-in_err-start.ensures.1
    (λ h. test_in_while (node_made (table_of scope) scope.slots c.args.depth) site.place site.number e scope.slots (frames_shown site.here.now)
    (frames_shown site.behind.now) c.args.body.now most_places (h e scope.slots c.in_ok-condition.ensures))
    c.in_err-start.ensures.long

pub lower_while-returns-in_err-inside-clause-long : goal.lower_while-returns-in_err-inside-clause-long
lower_while-returns-in_err-inside-clause-long t c =
    let scope = c.args.scope.now in
    let site = c.args.site.now in
    let e = expr_shown c.args.cond.now in
    handed_on c.from_residual-in_err-inside.result c.in_err-inside.field-0.0 _ _ c.from_residual-in_err-inside.ensures.1
    (λ h. inside_in_while (node_made (table_of scope) scope.slots c.args.depth) site.place site.number e scope.slots (frames_shown site.here.now)
    (frames_shown site.behind.now) c.args.body.now most_places c.in_ok-start.start (frames_shown c.deref.result.now)
    (c.in_ok-start.ensures.place e scope.slots c.in_ok-condition.ensures)
    (ap frames_shown c.deref.ensures.value ∙ c.in_ok-again.ensures) h)
    c.in_err-inside.ensures.long

pub lower_while-returns-clause-long : goal.lower_while-returns-clause-long
lower_while-returns-clause-long t c =
    let scope = c.args.scope.now in
    let site = c.args.site.now in
    let e = expr_shown c.args.cond.now in
    if_too_long c.loop_places.result _ _
    (λ h. end_in_while (node_made (table_of scope) scope.slots c.args.depth) site.place site.number e scope.slots (frames_shown site.here.now)
    (frames_shown site.behind.now) c.args.body.now most_places c.in_ok-start.start (frames_shown c.deref.result.now)
    (places_shown c.in_ok-inside.inside.items) (c.in_ok-start.ensures.place e scope.slots c.in_ok-condition.ensures)
    (ap frames_shown c.deref.ensures.value ∙ c.in_ok-again.ensures) c.in_ok-inside.ensures.places (h e scope.slots c.in_ok-condition.ensures))
    c.loop_places.ensures.long
