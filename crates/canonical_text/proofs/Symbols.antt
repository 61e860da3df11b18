-- Each word and each symbol of the grammar is read as itself.
use Rattle.std.proofs.Common.{◌≡◌, ℕ, Bool, true, List, [], ◌∷◌, Ok, refl}
use Rattle.std.specs.Prelude.{codes}
use Rattle.par_text.specs.declared.kind.Kind.{Kind}
use Rattle.par_text.specs.declared.kind.Kind.TheVariants as k
use Rattle.par_text.specs.Rule.{token}
use Rattle.par_text.specs.Lexing.{is_allowed, piece_rest, is_lexeme, form_of, symbol_kind, keyword_kind}
use Rattle.canonical_text.proofs.Claims.{Fits, Always}
use Rattle.canonical_text.proofs.Leaves.{word_fits, symbol_fits, comparing-whole}

-- a byte that opens a construct
pub record Opening (j : Kind) (c : ℕ) : Type 0 where
  pub lexeme : is_lexeme (c ∷ []) ≡ true
  pub form : form_of (c ∷ []) ≡ Ok j
  pub whole : (cs : List ℕ) → piece_rest c cs ≡ 0
  pub allowed : is_allowed c ≡ true

pub opens-LeftParen : Opening k.LeftParen 40
unfolding form_of symbol_kind keyword_kind piece_rest
opens-LeftParen = record { lexeme = refl; form = refl; whole = λ cs. refl; allowed = refl }

pub opens-LeftBracket : Opening k.LeftBracket 91
unfolding form_of symbol_kind keyword_kind piece_rest
opens-LeftBracket = record { lexeme = refl; form = refl; whole = λ cs. refl; allowed = refl }

pub opens-LeftBrace : Opening k.LeftBrace 123
unfolding form_of symbol_kind keyword_kind piece_rest
opens-LeftBrace = record { lexeme = refl; form = refl; whole = λ cs. refl; allowed = refl }

pub opens-Minus : Opening k.Minus 45
unfolding form_of symbol_kind keyword_kind piece_rest
opens-Minus = record { lexeme = refl; form = refl; whole = λ cs. refl; allowed = refl }

module _ {most : ℕ} {i : Bool} {n : ℕ} where
  pub reads-Fn : Fits most i n (token k.Fn) Always (codes "fn")
  unfolding form_of symbol_kind keyword_kind piece_rest
  reads-Fn = word_fits k.Fn 102 (110 ∷ []) refl refl refl refl

  pub reads-Let : Fits most i n (token k.Let) Always (codes "let")
  unfolding form_of symbol_kind keyword_kind piece_rest
  reads-Let = word_fits k.Let 108 (101 ∷ 116 ∷ []) refl refl refl refl

  pub reads-Alloc : Fits most i n (token k.Alloc) Always (codes "alloc")
  unfolding form_of symbol_kind keyword_kind piece_rest
  reads-Alloc = word_fits k.Alloc 97 (108 ∷ 108 ∷ 111 ∷ 99 ∷ []) refl refl refl refl

  pub reads-Free : Fits most i n (token k.Free) Always (codes "free")
  unfolding form_of symbol_kind keyword_kind piece_rest
  reads-Free = word_fits k.Free 102 (114 ∷ 101 ∷ 101 ∷ []) refl refl refl refl

  pub reads-If : Fits most i n (token k.If) Always (codes "if")
  unfolding form_of symbol_kind keyword_kind piece_rest
  reads-If = word_fits k.If 105 (102 ∷ []) refl refl refl refl

  pub reads-Else : Fits most i n (token k.Else) Always (codes "else")
  unfolding form_of symbol_kind keyword_kind piece_rest
  reads-Else = word_fits k.Else 101 (108 ∷ 115 ∷ 101 ∷ []) refl refl refl refl

  pub reads-While : Fits most i n (token k.While) Always (codes "while")
  unfolding form_of symbol_kind keyword_kind piece_rest
  reads-While = word_fits k.While 119 (104 ∷ 105 ∷ 108 ∷ 101 ∷ []) refl refl refl refl

  pub reads-Call : Fits most i n (token k.Call) Always (codes "call")
  unfolding form_of symbol_kind keyword_kind piece_rest
  reads-Call = word_fits k.Call 99 (97 ∷ 108 ∷ 108 ∷ []) refl refl refl refl

  pub reads-Print : Fits most i n (token k.Print) Always (codes "print")
  unfolding form_of symbol_kind keyword_kind piece_rest
  reads-Print = word_fits k.Print 112 (114 ∷ 105 ∷ 110 ∷ 116 ∷ []) refl refl refl refl

  pub reads-Par : Fits most i n (token k.Par) Always (codes "par")
  unfolding form_of symbol_kind keyword_kind piece_rest
  reads-Par = word_fits k.Par 112 (97 ∷ 114 ∷ []) refl refl refl refl

  pub reads-And : Fits most i n (token k.And) Always (codes "and")
  unfolding form_of symbol_kind keyword_kind piece_rest
  reads-And = word_fits k.And 97 (110 ∷ 100 ∷ []) refl refl refl refl

  pub reads-Split : Fits most i n (token k.Split) Always (codes "split")
  unfolding form_of symbol_kind keyword_kind piece_rest
  reads-Split = word_fits k.Split 115 (112 ∷ 108 ∷ 105 ∷ 116 ∷ []) refl refl refl refl

  pub reads-At : Fits most i n (token k.At) Always (codes "at")
  unfolding form_of symbol_kind keyword_kind piece_rest
  reads-At = word_fits k.At 97 (116 ∷ []) refl refl refl refl

  pub reads-Into : Fits most i n (token k.Into) Always (codes "into")
  unfolding form_of symbol_kind keyword_kind piece_rest
  reads-Into = word_fits k.Into 105 (110 ∷ 116 ∷ 111 ∷ []) refl refl refl refl

  pub reads-Return : Fits most i n (token k.Return) Always (codes "return")
  unfolding form_of symbol_kind keyword_kind piece_rest
  reads-Return = word_fits k.Return 114 (101 ∷ 116 ∷ 117 ∷ 114 ∷ 110 ∷ []) refl refl refl refl

  pub reads-Use : Fits most i n (token k.Use) Always (codes "use")
  unfolding form_of symbol_kind keyword_kind piece_rest
  reads-Use = word_fits k.Use 117 (115 ∷ 101 ∷ []) refl refl refl refl

  pub reads-Own : Fits most i n (token k.Own) Always (codes "own")
  unfolding form_of symbol_kind keyword_kind piece_rest
  reads-Own = word_fits k.Own 111 (119 ∷ 110 ∷ []) refl refl refl refl

  pub reads-Len : Fits most i n (token k.Len) Always (codes "len")
  unfolding form_of symbol_kind keyword_kind piece_rest
  reads-Len = word_fits k.Len 108 (101 ∷ 110 ∷ []) refl refl refl refl

  pub reads-RightParen : Fits most i n (token k.RightParen) Always (codes ")")
  unfolding form_of symbol_kind keyword_kind piece_rest
  reads-RightParen = symbol_fits k.RightParen 41 ([]) refl refl (λ rest clear. refl) refl

  pub reads-RightBrace : Fits most i n (token k.RightBrace) Always (codes "}")
  unfolding form_of symbol_kind keyword_kind piece_rest
  reads-RightBrace = symbol_fits k.RightBrace 125 ([]) refl refl (λ rest clear. refl) refl

  pub reads-RightBracket : Fits most i n (token k.RightBracket) Always (codes "]")
  unfolding form_of symbol_kind keyword_kind piece_rest
  reads-RightBracket = symbol_fits k.RightBracket 93 ([]) refl refl (λ rest clear. refl) refl

  pub reads-Comma : Fits most i n (token k.Comma) Always (codes ",")
  unfolding form_of symbol_kind keyword_kind piece_rest
  reads-Comma = symbol_fits k.Comma 44 ([]) refl refl (λ rest clear. refl) refl

  pub reads-Semicolon : Fits most i n (token k.Semicolon) Always (codes ";")
  unfolding form_of symbol_kind keyword_kind piece_rest
  reads-Semicolon = symbol_fits k.Semicolon 59 ([]) refl refl (λ rest clear. refl) refl

  pub reads-Plus : Fits most i n (token k.Plus) Always (codes "+")
  unfolding form_of symbol_kind keyword_kind piece_rest
  reads-Plus = symbol_fits k.Plus 43 ([]) refl refl (λ rest clear. refl) refl

  pub reads-Minus : Fits most i n (token k.Minus) Always (codes "-")
  unfolding form_of symbol_kind keyword_kind piece_rest
  reads-Minus = symbol_fits k.Minus 45 ([]) refl refl (λ rest clear. refl) refl

  pub reads-Star : Fits most i n (token k.Star) Always (codes "*")
  unfolding form_of symbol_kind keyword_kind piece_rest
  reads-Star = symbol_fits k.Star 42 ([]) refl refl (λ rest clear. refl) refl

  pub reads-Slash : Fits most i n (token k.Slash) Always (codes "/")
  unfolding form_of symbol_kind keyword_kind piece_rest
  reads-Slash = symbol_fits k.Slash 47 ([]) refl refl (λ rest clear. refl) refl

  pub reads-Percent : Fits most i n (token k.Percent) Always (codes "%")
  unfolding form_of symbol_kind keyword_kind piece_rest
  reads-Percent = symbol_fits k.Percent 37 ([]) refl refl (λ rest clear. refl) refl

  pub reads-LessEqual : Fits most i n (token k.LessEqual) Always (codes "<=")
  unfolding form_of symbol_kind keyword_kind piece_rest
  reads-LessEqual = symbol_fits k.LessEqual 60 (61 ∷ []) refl refl (λ rest clear. refl) refl

  pub reads-GreaterEqual : Fits most i n (token k.GreaterEqual) Always (codes ">=")
  unfolding form_of symbol_kind keyword_kind piece_rest
  reads-GreaterEqual = symbol_fits k.GreaterEqual 62 (61 ∷ []) refl refl (λ rest clear. refl) refl

  pub reads-EqualEqual : Fits most i n (token k.EqualEqual) Always (codes "==")
  unfolding form_of symbol_kind keyword_kind piece_rest
  reads-EqualEqual = symbol_fits k.EqualEqual 61 (61 ∷ []) refl refl (λ rest clear. refl) refl

  pub reads-NotEqual : Fits most i n (token k.NotEqual) Always (codes "!=")
  unfolding form_of symbol_kind keyword_kind piece_rest
  reads-NotEqual = symbol_fits k.NotEqual 33 (61 ∷ []) refl refl (λ rest clear. refl) refl

  pub reads-Assign : Fits most i n (token k.Assign) Always (codes "=")
  unfolding form_of symbol_kind keyword_kind piece_rest
  reads-Assign = symbol_fits k.Assign 61 [] refl refl (comparing-whole 61 refl refl) refl

  pub reads-Less : Fits most i n (token k.Less) Always (codes "<")
  unfolding form_of symbol_kind keyword_kind piece_rest
  reads-Less = symbol_fits k.Less 60 [] refl refl (comparing-whole 60 refl refl) refl

  pub reads-Greater : Fits most i n (token k.Greater) Always (codes ">")
  unfolding form_of symbol_kind keyword_kind piece_rest
  reads-Greater = symbol_fits k.Greater 62 [] refl refl (comparing-whole 62 refl refl) refl
