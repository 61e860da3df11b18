-- The kinds of token, by number.
use Rattle.std.specs.Prelude.{ℕ, Bool, true, ◌==◌, ◌&&◌, List, [], ◌∷◌}
use Rattle.par_text.specs.declared.kind.Kind.{Kind}
use Rattle.par_text.specs.declared.kind.Kind.TheVariants.{End, Name, Number, LeftParen, RightParen, LeftBrace, RightBrace, LeftBracket, RightBracket, Comma, Semicolon, Assign, Plus, Minus, Star, Slash, Percent, Less, LessEqual, Greater, GreaterEqual, EqualEqual, NotEqual, Fn, Let, Alloc, Free, If, Else, While, Call, Print, Par, And, Split, At, Into, Return, Use, Own, Len}

abbrev pub kind_number : Kind → ℕ
kind_number End = 0
kind_number Name = 1
kind_number Number = 2
kind_number LeftParen = 3
kind_number RightParen = 4
kind_number LeftBrace = 5
kind_number RightBrace = 6
kind_number LeftBracket = 7
kind_number RightBracket = 8
kind_number Comma = 9
kind_number Semicolon = 10
kind_number Assign = 11
kind_number Plus = 12
kind_number Minus = 13
kind_number Star = 14
kind_number Slash = 15
kind_number Percent = 16
kind_number Less = 17
kind_number LessEqual = 18
kind_number Greater = 19
kind_number GreaterEqual = 20
kind_number EqualEqual = 21
kind_number NotEqual = 22
kind_number Fn = 23
kind_number Let = 24
kind_number Alloc = 25
kind_number Free = 26
kind_number If = 27
kind_number Else = 28
kind_number While = 29
kind_number Call = 30
kind_number Print = 31
kind_number Par = 32
kind_number And = 33
kind_number Split = 34
kind_number At = 35
kind_number Into = 36
kind_number Return = 37
kind_number Use = 38
kind_number Own = 39
kind_number Len = 40

-- the test for one kind
abbrev pub is : Kind → Kind → Bool
is k j = kind_number k == kind_number j

-- a test holds of each kind in a list
abbrev pub holds_of_all : (Kind → Bool) → List Kind → Bool
holds_of_all p [] = true
holds_of_all p (k ∷ ks) = p k && holds_of_all p ks

abbrev pub kinds : List Kind
kinds =
    End ∷ Name ∷ Number ∷ LeftParen ∷ RightParen ∷ LeftBrace ∷ RightBrace ∷ LeftBracket ∷
    RightBracket ∷ Comma ∷ Semicolon ∷ Assign ∷ Plus ∷ Minus ∷ Star ∷ Slash ∷ Percent ∷
    Less ∷ LessEqual ∷ Greater ∷ GreaterEqual ∷ EqualEqual ∷ NotEqual ∷ Fn ∷ Let ∷ Alloc ∷
    Free ∷ If ∷ Else ∷ While ∷ Call ∷ Print ∷ Par ∷ And ∷ Split ∷
    At ∷ Into ∷ Return ∷ Use ∷ Own ∷ Len ∷ []
