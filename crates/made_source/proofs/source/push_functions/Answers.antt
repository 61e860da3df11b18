use Rattle.made_source.specs.MadeSource.{function_lines}
use Rattle.made_source.proofs.Growing.{some_lines}
use Rattle.made_source.proofs.source.push_functions.Goals as goal

pub functions-preserved : goal.functions-preserved
functions-preserved c =
    some_lines (function_lines c.args.groups) _ _ _ c.functions.function c.functions.invariant c.in_ok-push_function.ensures
