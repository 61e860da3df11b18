use Rattle.std.proofs.Common.{◌≡◌, ◌-◌, map, []}
use Rattle.par_text.specs.Reading.{read_many, read_as}
use Rattle.par_text.specs.Parsing.{read}
use Rattle.par_lex.specs.Words.{words}
use Rattle.par_parse.proofs.Loops.{with_front}
use Rattle.par_text.specs.Kinds.{is}
use Rattle.par_tree.specs.View.{func_tree}
use Rattle.par_text.specs.declared.kind.Kind.TheVariants.{Fn}
use Rattle.par_text.specs.Grammar.{listed, func_rule, more_funcs}
use Rattle.par_parse.proofs.functions.more_funcs.Given as goal

abbrev pub invariant-more : goal.invariant-more
invariant-more l =
    with_front listed (map func_tree l.funcs.items) (read_many (is Fn) listed [] (read l.depth func_rule) (l.end - l.counter) (words l.text l.rest)) ≡ read_as (listed (func_tree l.fn.first)) (read l.depth more_funcs) (words l.text l.tokens)
