use Rattle.std.proofs.Common.{[], ◌∷◌, ◌++◌, length, sym, ap, ◌≡◌, ◌∙◌}
use Rattle.std.proofs.lemmas.List.{length-map}
use Rattle.node_table.specs.Codes.{nodes_of, code_shown}
use Rattle.node_table.specs.Shown.{node_shown}
use Rattle.thread_stack.specs.Lists.{numbers_of}
use Rattle.flat_statements.specs.Flat.{leaves}
use Rattle.flat_code.specs.Made.{placed, list_made, node_made}
use Rattle.flat_code.specs.Shown.{places_shown}
use Rattle.flat_code.proofs.Forwards.{made_forward}
use Rattle.flat_code.proofs.MadeCode.{made_is_code}
use Rattle.flat_code.proofs.Starting.{made_begins}
use Rattle.flat_code.proofs.lowering.lower_whole.Goals as goal

pub returns-clause-code : goal.returns-clause-code
returns-clause-code c =
    let t = code_shown c.args.table.now in
    let k = c.args.slots in
    let deep : c.len.result ≡ length t.nodes = c.len.ensures ∙ sym (length-map (nodes_of c.args.table.now) node_shown) in
    let inside =
    c.in_ok-places.ensures.places
    ∙ ap (λ ns. list_made (node_made t k c.len.result) ns c.args.list 0 [] 0) c.numbers-inside.ensures
    ∙ ap (λ d. list_made (node_made t k d) (numbers_of t c.args.list) c.args.list 0 [] 0) deep in
    made_is_code t k c.args.size c.args.list (places_shown c.add_place.new.places.items) c.requires
    (c.in_ok-add_place.ensures ∙ ap (λ ps. ps ++ placed leaves [] ∷ []) inside)

pub returns-clause-forward : goal.returns-clause-forward
returns-clause-forward c =
    let t = code_shown c.args.table.now in
    let k = c.args.slots in
    let inside = c.in_ok-places.ensures.places ∙ ap (λ ns. list_made (node_made t k c.len.result) ns c.args.list 0 [] 0) c.numbers-inside.ensures in
    made_forward t k c.len.result c.args.list (places_shown c.add_place.new.places.items)
    (c.in_ok-add_place.ensures ∙ ap (λ ps. ps ++ placed leaves [] ∷ []) inside)

pub returns-clause-begins : goal.returns-clause-begins
returns-clause-begins c =
    let t = code_shown c.args.table.now in
    let k = c.args.slots in
    let deep : c.len.result ≡ length t.nodes = c.len.ensures ∙ sym (length-map (nodes_of c.args.table.now) node_shown) in
    let inside =
    c.in_ok-places.ensures.places
    ∙ ap (λ ns. list_made (node_made t k c.len.result) ns c.args.list 0 [] 0) c.numbers-inside.ensures
    ∙ ap (λ d. list_made (node_made t k d) (numbers_of t c.args.list) c.args.list 0 [] 0) deep in
    made_begins t k c.args.size c.args.list (places_shown c.add_place.new.places.items) c.requires
    (c.in_ok-add_place.ensures ∙ ap (λ ps. ps ++ placed leaves [] ∷ []) inside)
