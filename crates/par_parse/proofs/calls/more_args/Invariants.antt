use Rattle.std.proofs.Common.{◌≡◌, ◌-◌, map, []}
use Rattle.par_text.specs.Reading.{read_many, read_as}
use Rattle.par_text.specs.Parsing.{read}
use Rattle.par_lex.specs.Words.{words}
use Rattle.par_parse.proofs.Loops.{with_front}
use Rattle.par_text.specs.Kinds.{is}
use Rattle.par_tree.specs.View.{arg_tree}
use Rattle.par_text.specs.declared.kind.Kind.TheVariants.{Comma}
use Rattle.par_text.specs.Grammar.{listed, next_arg, more_args}
use Rattle.par_parse.proofs.calls.more_args.Given as goal

abbrev pub invariant-more : goal.invariant-more
invariant-more l =
    with_front listed (map arg_tree l.args.items) (read_many (is Comma) listed [] (read l.depth next_arg) (l.end - l.counter) (words l.text l.rest)) ≡ read_as (listed (arg_tree l.fn.first)) (read l.depth more_args) (words l.text l.tokens)
