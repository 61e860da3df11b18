-- Each kind has a number of its own, and what holds of all listed kinds holds of each.
use Rattle.std.proofs.Common.{◌≡◌, ℕ, zero, suc, Bool, true, false, ◌&&◌, List, [], ◌∷◌, Some, refl, sym, ap, ◌∙◌, eq-eqb}
use Rattle.std.proofs.lemmas.Bool.{eqb-true}
use Rattle.std.specs.Prelude.{slice_get}
use Rattle.par_text.specs.declared.kind.Kind.{Kind}
use Rattle.par_text.specs.declared.kind.Kind.TheVariants.{End, Name, Number, LeftParen, RightParen, LeftBrace, RightBrace, LeftBracket, RightBracket, Comma, Semicolon, Assign, Plus, Minus, Star, Slash, Percent, Less, LessEqual, Greater, GreaterEqual, EqualEqual, NotEqual, Fn, Let, Alloc, Free, If, Else, While, Call, Print, Par, And, Split, At, Into, Return, Use, Own, Len}
use Rattle.par_text.specs.Kinds.{kind_number, is, holds_of_all, kinds}

kind_at-number : (k : Kind) → slice_get kinds (kind_number k) ≡ Some k
kind_at-number End = refl
kind_at-number Name = refl
kind_at-number Number = refl
kind_at-number LeftParen = refl
kind_at-number RightParen = refl
kind_at-number LeftBrace = refl
kind_at-number RightBrace = refl
kind_at-number LeftBracket = refl
kind_at-number RightBracket = refl
kind_at-number Comma = refl
kind_at-number Semicolon = refl
kind_at-number Assign = refl
kind_at-number Plus = refl
kind_at-number Minus = refl
kind_at-number Star = refl
kind_at-number Slash = refl
kind_at-number Percent = refl
kind_at-number Less = refl
kind_at-number LessEqual = refl
kind_at-number Greater = refl
kind_at-number GreaterEqual = refl
kind_at-number EqualEqual = refl
kind_at-number NotEqual = refl
kind_at-number Fn = refl
kind_at-number Let = refl
kind_at-number Alloc = refl
kind_at-number Free = refl
kind_at-number If = refl
kind_at-number Else = refl
kind_at-number While = refl
kind_at-number Call = refl
kind_at-number Print = refl
kind_at-number Par = refl
kind_at-number And = refl
kind_at-number Split = refl
kind_at-number At = refl
kind_at-number Into = refl
kind_at-number Return = refl
kind_at-number Use = refl
kind_at-number Own = refl
kind_at-number Len = refl

pub is-self : (k j : Kind) → j ≡ k → is k j ≡ true
is-self k j e = eq-eqb (kind_number k) (kind_number j) (ap kind_number (sym e))

pub same_from_is : (k j : Kind) → is k j ≡ true → j ≡ k
same_from_is k j e =
    let numbers : kind_number k ≡ kind_number j = eqb-true (kind_number k) (kind_number j) e in
    let some : Some j ≡ Some k = sym (kind_at-number j) ∙ ap (λ (n : ℕ). slice_get kinds n) (sym numbers) ∙ kind_at-number k in
    cc

pub both_true : (a b : Bool) → (a && b) ≡ true → (a ≡ true) × (b ≡ true)
both_true true b e = (refl, e)
both_true false b e = cc

pick : (p : Kind → Bool) (ks : List Kind) (i : ℕ) (k : Kind) → holds_of_all p ks ≡ true → slice_get ks i ≡ Some k → p k ≡ true
pick p [] i k h e = cc
pick p (j ∷ ks) zero k h e = let same : j ≡ k = cc in ap p (sym same) ∙ (both_true (p j) (holds_of_all p ks) h).0
pick p (j ∷ ks) (suc i) k h e = pick p ks i k (both_true (p j) (holds_of_all p ks) h).1 e

pub of_each : (p : Kind → Bool) → holds_of_all p kinds ≡ true → (k : Kind) → p k ≡ true
of_each p h k = pick p kinds (kind_number k) k h (kind_at-number k)
