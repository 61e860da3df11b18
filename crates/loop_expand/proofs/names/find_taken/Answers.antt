use Rattle.std.proofs.Common.{Some, sym, ◌∙◌}
use Rattle.std.proofs.lemmas.Bool.{false≢true}
use Rattle.loop_expand.specs.Expansion.{IsTaken}
use Rattle.loop_expand.proofs.FirstNames.{found_here, found_behind}
use Rattle.loop_expand.proofs.names.find_taken.Goals as goal

pub returns-then-branch : goal.returns-then-branch
returns-then-branch c =
    c.tokens.invariant (Some c.in-Some.token.now.at)
    (found_here (IsTaken c.args.text.now c.args.count) c.tokens.rest.now c.in-Some.token.now c.in-Some.behind.now c.in-Some.ensures.cases.0 ((c.in_ok-is_taken.ensures c.in-Some.behind.now).0 c.if-branch.true))

pub tokens-preserved : goal.tokens-preserved
tokens-preserved c = λ found more.
    c.tokens.invariant found
    (found_behind (IsTaken c.args.text.now c.args.count) c.tokens.rest.now c.in-Some.token.now c.in-Some.behind.now c.in-Some.ensures.cases.0 found
    (λ here. false≢true (sym c.if-branch.false ∙ (c.in_ok-is_taken.ensures c.in-Some.behind.now).1 here)) more)
