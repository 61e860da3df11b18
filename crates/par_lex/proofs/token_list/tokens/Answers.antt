use Rattle.std.proofs.Common.{List, map, ap, ◌∙◌}
use Rattle.par_text.specs.Lexing.{text_tokens}
use Rattle.par_lex.specs.declared.lexeme.Lexeme.{Lexeme}
use Rattle.par_lex.specs.Places.{lexeme_place}
use Rattle.par_lex.proofs.Places.{gives_places}
use Rattle.par_lex.proofs.token_list.tokens.Goals as goal

pub returns : goal.returns
returns c =
    gives_places c.in_ok-places.field-0 c.args.text.now c.in_ok-lexemes.lexemes.items (text_tokens c.args.text.now)
    (c.in_ok-places.ensures ∙ ap (λ (ls : List Lexeme). map lexeme_place ls) c.deref.ensures.value) c.in_ok-lexemes.ensures.tokens
