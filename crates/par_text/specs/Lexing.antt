-- The tokens of bytes: each as long as it can be, with its kind, its place and its line.
use Rattle.std.specs.Prelude.{ℕ, zero, suc, ℤ, pos, ◌+◌, ◌-◌, ◌*◌, ◌==◌, Bool, false, ◌&&◌, ◌||◌, not, nat_le, nat_lt, if◌then◌else◌, List, [], ◌∷◌, length, take, Option, Some, None, Result, Ok, Err, codes}
use Rattle.std.specs.Str.{bytes_eq}
use Rattle.std.specs.List.{list_all}
use Rattle.par_text.specs.declared.kind.Kind.{Kind}
use Rattle.par_text.specs.declared.kind.Kind.TheVariants.{Name, Number, LeftParen, RightParen, LeftBrace, RightBrace, LeftBracket, RightBracket, Comma, Semicolon, Assign, Plus, Minus, Star, Slash, Percent, Less, LessEqual, Greater, GreaterEqual, EqualEqual, NotEqual, Fn, Let, Alloc, Free, If, While, Call, Print, Par, Split, Else, And, At, Into, Return, Use, Own, Len}
use Rattle.par_text.specs.declared.syntax_error.SyntaxKind.{SyntaxKind}
use Rattle.par_text.specs.declared.syntax_error.SyntaxKind.TheVariants.{BadByte, BadToken, NumberTooLarge, TooLong}
use Rattle.par_text.specs.declared.syntax_error.SyntaxError.{SyntaxError}
use Rattle.par_text.specs.Rule.{Token}
use Rattle.language_limits.specs.declared.TheConstants.{GREATEST_NUMBER, LONGEST_NAME, LONGEST_TEXT}

-- bytes

abbrev pub is_between : ℕ → ℕ → ℕ → Bool
is_between least most c = nat_le least c && nat_le c most

-- a letter or `_`
abbrev pub is_letter : ℕ → Bool
is_letter c = is_between 65 90 c || (is_between 97 122 c || c == 95)

abbrev pub is_digit : ℕ → Bool
is_digit c = is_between 48 57 c

abbrev pub is_word : ℕ → Bool
is_word c = is_letter c || is_digit c

-- space, tab, LF, CR
abbrev pub is_blank : ℕ → Bool
is_blank c = c == 32 || (c == 9 || (c == 10 || c == 13))

abbrev pub is_allowed : ℕ → Bool
is_allowed c = is_between 32 126 c || (c == 9 || (c == 10 || c == 13))

abbrev pub is_not_newline : ℕ → Bool
is_not_newline c = not (c == 10)

-- `<`, `>`, `=` or `!`, which make one token with a `=` behind them
abbrev pub takes_equal : ℕ → Bool
takes_equal c = c == 60 || (c == 62 || (c == 61 || c == 33))

abbrev pub begins_with_equal : List ℕ → Bool
begins_with_equal [] = false
begins_with_equal (c ∷ cs) = c == 61

-- how many bytes at the front pass
abbrev pub run : (ℕ → Bool) → List ℕ → ℕ
run p [] = 0
run p (c ∷ cs) = if p c then suc (run p cs) else 0

-- pieces

-- How many more bytes the piece has that begins with c: a word and a comment are as long as they can
-- be, `<=`, `>=`, `==` and `!=` are one piece, and each other byte is a piece of its own.
unfoldable pub piece_rest : ℕ → List ℕ → ℕ
piece_rest c cs =
    if is_word c then run is_word cs
    else (if c == 35 then run is_not_newline cs
    else (if takes_equal c && begins_with_equal cs then 1 else 0))

pub record Piece : Type 0 where
  pub bytes : List ℕ
  pub at : ℕ
  pub line : ℕ

abbrev pub line_after : ℕ → ℕ → ℕ
line_after c line = if c == 10 then line + 1 else line

-- the pieces of what is left, where so many bytes still belong to the piece before
unfoldable pub pieces : ℕ → ℕ → ℕ → List ℕ → List Piece
pieces skip at line [] = []
pieces zero at line (c ∷ cs) =
    record { bytes = c ∷ take (piece_rest c cs) cs; at = at; line = line } ∷ pieces (piece_rest c cs) (at + 1) (line_after c line) cs
pieces (suc skip) at line (c ∷ cs) = pieces skip (at + 1) (line_after c line) cs

-- a piece that is no blank and no comment
abbrev pub is_lexeme : List ℕ → Bool
is_lexeme [] = false
is_lexeme (c ∷ cs) = not (is_blank c || c == 35)

-- forms

-- the symbols, each with its kind
abbrev pub symbols : List (List ℕ × Kind)
symbols =
    (codes "(", LeftParen) ∷ (codes ")", RightParen) ∷ (codes "{", LeftBrace) ∷ (codes "}", RightBrace) ∷
    (codes "[", LeftBracket) ∷ (codes "]", RightBracket) ∷ (codes ",", Comma) ∷ (codes ";", Semicolon) ∷
    (codes "=", Assign) ∷ (codes "+", Plus) ∷ (codes "-", Minus) ∷ (codes "*", Star) ∷ (codes "/", Slash) ∷
    (codes "%", Percent) ∷ (codes "<", Less) ∷ (codes "<=", LessEqual) ∷ (codes ">", Greater) ∷
    (codes ">=", GreaterEqual) ∷ (codes "==", EqualEqual) ∷ (codes "!=", NotEqual) ∷ []

-- the keywords, each with its kind
abbrev pub keywords : List (List ℕ × Kind)
keywords =
    (codes "fn", Fn) ∷ (codes "let", Let) ∷ (codes "alloc", Alloc) ∷ (codes "free", Free) ∷ (codes "if", If) ∷
    (codes "else", Else) ∷ (codes "while", While) ∷ (codes "call", Call) ∷ (codes "print", Print) ∷ (codes "par", Par) ∷
    (codes "and", And) ∷ (codes "split", Split) ∷ (codes "at", At) ∷ (codes "into", Into) ∷ (codes "return", Return) ∷
    (codes "use", Use) ∷ (codes "own", Own) ∷ (codes "len", Len) ∷ []

-- the kind of a word of a list
abbrev pub kind_in : List (List ℕ × Kind) → List ℕ → Option Kind
kind_in [] w = None
kind_in (entry ∷ rest) w = if bytes_eq entry.0 w then Some entry.1 else kind_in rest w

unfoldable pub symbol_kind : List ℕ → Option Kind
symbol_kind w = kind_in symbols w

unfoldable pub keyword_kind : List ℕ → Option Kind
keyword_kind w = kind_in keywords w

-- the number that digits spell, behind others
unfoldable pub value_from : ℕ → List ℕ → ℕ
value_from v [] = v
value_from v (c ∷ cs) = value_from (v * 10 + (c - 48)) cs

abbrev pub greatest_number : ℕ
greatest_number = GREATEST_NUMBER

abbrev pub longest_name : ℕ
longest_name = LONGEST_NAME

abbrev pub of_known : Option Kind → Result Kind SyntaxKind
of_known (Some j) = Ok j
of_known None = Err BadToken

-- a keyword, or a name that is not too long
abbrev pub of_word : Option Kind → List ℕ → Result Kind SyntaxKind
of_word (Some j) w = Ok j
of_word None w = if nat_le (length w) longest_name then Ok Name else Err BadToken

-- digits alone, with a value that is not too large
abbrev pub of_digits : List ℕ → Result Kind SyntaxKind
of_digits w =
    if list_all is_digit w then (if nat_le (value_from 0 w) greatest_number then Ok Number else Err NumberTooLarge)
    else Err BadToken

-- the kind of a piece that is no blank and no comment
unfoldable pub form_of : List ℕ → Result Kind SyntaxKind
form_of [] = Err BadToken
form_of (c ∷ cs) =
    if is_digit c then of_digits (c ∷ cs)
    else (if is_letter c then of_word (keyword_kind (c ∷ cs)) (c ∷ cs)
    else of_known (symbol_kind (c ∷ cs)))

-- the value of digits, and 0 for what does not begin with one
abbrev pub value_of : List ℕ → ℤ
value_of [] = pos 0
value_of (c ∷ cs) = if is_digit c then pos (value_from 0 (c ∷ cs)) else pos 0

abbrev pub token_from : Piece → Kind → Token
token_from p j = record { kind = j; bytes = p.bytes; value = value_of p.bytes; at = p.at; len = length p.bytes; line = p.line }

-- texts

abbrev pub Lexed : Type 0
Lexed = Result (List Token) SyntaxError

abbrev pub with_token : Token → Lexed → Lexed
with_token t (Ok ts) = Ok (t ∷ ts)
with_token t (Err e) = Err e

abbrev pub with_form : Piece → Result Kind SyntaxKind → Lexed → Lexed
with_form p (Ok j) rest = with_token (token_from p j) rest
with_form p (Err f) rest = Err record { kind = f; at = p.at }

-- a piece in front of tokens: blanks and comments leave no trace
unfoldable pub with_piece : Piece → Lexed → Lexed
with_piece p rest = if is_lexeme p.bytes then with_form p (form_of p.bytes) rest else rest

-- the tokens of pieces, or the first piece that has no form
unfoldable pub lexed : List Piece → Lexed
lexed [] = Ok []
lexed (p ∷ ps) = with_piece p (lexed ps)

-- the place of the first byte that no text has
unfoldable pub forbidden : ℕ → List ℕ → Option ℕ
forbidden at [] = None
forbidden at (c ∷ cs) = if is_allowed c then forbidden (at + 1) cs else Some at

abbrev pub longest_text : ℕ
longest_text = LONGEST_TEXT

abbrev pub of_allowed : Option ℕ → List ℕ → Lexed
of_allowed (Some at) text = Err record { kind = BadByte; at = at }
of_allowed None text = lexed (pieces 0 0 1 text)

-- The tokens of a text. Too long a text is refused first, then the first byte that no text has, then
-- the first piece that is no token.
unfoldable pub text_tokens : List ℕ → Lexed
text_tokens text =
    if nat_lt longest_text (length text) then Err record { kind = TooLong; at = longest_text }
    else of_allowed (forbidden 0 text) text
