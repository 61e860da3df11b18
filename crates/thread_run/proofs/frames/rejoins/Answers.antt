use Rattle.std.proofs.Common.{◌≡◌, ◌∙◌, Option, Some, refl, sym, ap, subst}
use Rattle.std.specs.Option.{option_map}
use Rattle.std.proofs.lemmas.Option.{slice_get-map}
use Rattle.node_table.specs.Codes.{code_shown, nodes_of}
use Rattle.node_table.specs.Shown.{node_shown, kind_shown, expr_shown}
use Rattle.node_table.specs.Table.{Kind, split_node}
use Rattle.thread_state.specs.States.{own_row}
use Rattle.thread_run.specs.Rejoining.{CanRejoinAt}
use Rattle.node_table.specs.declared.node.Node.{Node}
use Rattle.thread_stack.specs.Lists.{kind_at}
use Rattle.thread_run.proofs.Arms.{kind_there}
use Rattle.thread_run.proofs.EndSteps.{IsSplitKind, rejoin_at, never_split, split_there}
use Rattle.thread_run.proofs.frames.rejoins.Goals as goal

pub returns-in-Ok-clause-meaning : goal.returns-in-Ok-clause-meaning
returns-in-Ok-clause-meaning c = λ k setting gs f xs fs s of_table frame frames is.
    rejoin_at setting (code_shown c.args.code.now) gs c.args.state.now c.rejoin.new.self xs fs s f c.args.number
    c.in-Split.block (expr_shown c.in-Split.at) c.in-Split.left c.in-Split.right c.in-Split.body.items frame
    (kind_there (code_shown c.args.code.now) c.args.number (node_shown c.in-Some.node.now)
    (split_node c.in-Split.block (expr_shown c.in-Split.at) c.in-Split.left c.in-Split.right c.in-Split.body.items)
    (slice_get-map node_shown (nodes_of c.args.code.now) c.args.number ∙ ap (λ (o : Option Node). option_map node_shown o) (sym c.in-Some.ensures))
    (ap kind_shown c.in-Split.is))
    frames is c.in-Ok.ensures.state

pub rejoin-requires : goal.rejoin-requires
rejoin-requires c = λ going.
    subst (λ (o : Option Kind). CanRejoinAt (own_row c.args.state.now) o)
    (kind_there (code_shown c.args.code.now) c.args.number (node_shown c.in-Some.node.now)
    (split_node c.in-Split.block (expr_shown c.in-Split.at) c.in-Split.left c.in-Split.right c.in-Split.body.items)
    (slice_get-map node_shown (nodes_of c.args.code.now) c.args.number ∙ ap (λ (o : Option Node). option_map node_shown o) (sym c.in-Some.ensures))
    (ap kind_shown c.in-Split.is))
    (c.requires going)

pub returns-in_default-kind-clause-meaning : goal.returns-in_default-kind-clause-meaning
returns-in_default-kind-clause-meaning c = λ k setting gs f xs fs s of_table frame frames is.
    let there : kind_at (code_shown c.args.code.now) c.args.number ≡ Some (kind_shown c.in-Some.node.now.kind) =
    kind_there (code_shown c.args.code.now) c.args.number (node_shown c.in-Some.node.now) (kind_shown c.in-Some.node.now.kind)
    (slice_get-map node_shown (nodes_of c.args.code.now) c.args.number ∙ ap (λ (o : Option Node). option_map node_shown o) (sym c.in-Some.ensures)) refl in
    absurd (never_split c.in-Some.node.now.kind c.in_default-kind.not-Split
    (subst IsSplitKind there (split_there setting.program (code_shown c.args.code.now) gs c.args.number f frame)))
