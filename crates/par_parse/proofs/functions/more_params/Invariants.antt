use Rattle.std.proofs.Common.{◌≡◌, ℕ, ◌-◌, map, []}
use Rattle.par_text.specs.Reading.{read_many, read_as}
use Rattle.par_text.specs.Parsing.{read}
use Rattle.par_lex.specs.Words.{words}
use Rattle.par_parse.proofs.Loops.{with_front}
use Rattle.par_text.specs.Kinds.{is}
use Rattle.par_tree.specs.View.{param_tree}
use Rattle.par_text.specs.declared.kind.Kind.TheVariants.{Comma}
use Rattle.par_text.specs.Grammar.{listed, next_param, more_params}
use Rattle.par_parse.proofs.functions.more_params.Given as goal

abbrev pub invariant-more : goal.invariant-more
invariant-more l =
    (n : ℕ) → with_front listed (map param_tree l.params.items) (read_many (is Comma) listed [] (read n next_param) (l.end - l.counter) (words l.text l.rest)) ≡ read_as (listed (param_tree l.fn.first)) (read n more_params) (words l.text l.tokens)
