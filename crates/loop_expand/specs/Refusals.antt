-- Refusals of tokens, as refusals of an expansion.
use Rattle.par_lex.specs.declared.parse_fail.ParseFail.{ParseFail}
use Rattle.par_lex.specs.declared.parse_fail.ParseFail.TheVariants.{Refused as LexRefused, OutOfMemory as LexOutOfMemory}
use Rattle.loop_expand.specs.declared.expand_fail.ExpandFail.{ExpandFail}
use Rattle.loop_expand.specs.declared.expand_fail.ExpandFail.TheVariants.{Refused, OutOfMemory}

-- the refusal of tokens as a refusal of the expansion
abbrev pub of_lexer : ParseFail → ExpandFail
of_lexer (LexRefused e) = Refused e
of_lexer LexOutOfMemory = OutOfMemory
