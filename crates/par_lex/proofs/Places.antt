-- The places of tokens, by the lexemes that the lexer has.
use Rattle.std.proofs.Common.{◌≡◌, ℕ, List, [], ◌∷◌, map, Ok, refl, sym, ap, ◌∙◌, subst}
use Rattle.std.specs.declared.vec.Vec.{Vec}
use Rattle.std.specs.declared.alloc.Global.{Global}
use Rattle.par_text.specs.Lexing.{Lexed}
use Rattle.par_lex.specs.declared.lexeme.Lexeme.{Lexeme}
use Rattle.par_lex.specs.declared.token.Token.{Token}
use Rattle.par_lex.specs.Words.{words}
use Rattle.par_lex.specs.Places.{lexeme_place, word_place, GivesPlaces}

places-words : (text : List ℕ) (ls : List Lexeme) → map lexeme_place ls ≡ map word_place (words text ls)
unfolding words
places-words text [] = refl
places-words text (l ∷ ls) = ap (λ (xs : List Token). lexeme_place l ∷ xs) (places-words text ls)

pub gives_places : (v : Vec Token Global) (text : List ℕ) (ls : List Lexeme) (tokens : Lexed) → v.items ≡ map lexeme_place ls → tokens ≡ Ok (words text ls) → GivesPlaces (Ok v) tokens
gives_places v text ls tokens e h = subst (λ (l : Lexed). GivesPlaces (Ok v) l) (sym h) (e ∙ places-words text ls)
