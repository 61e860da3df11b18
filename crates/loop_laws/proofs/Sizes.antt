-- The size of a loop over parts is at least 16.
use Rattle.std.proofs.Common.{◌≡◌, ◌≤◌, Bool, true, false, List, [], ◌∷◌, ◌++◌, refl, sym, subst, true≢false}
use Rattle.std.specs.Prelude.{IsTrue, ◌&&◌, nat_le, pos, negsuc, ℤ}
use Rattle.std.proofs.lemmas.Bool.{leb-true}
use Rattle.par_lex.specs.declared.lexeme.Lexeme.{Lexeme}
use Rattle.par_text.specs.declared.kind.Kind.TheVariants.{RightParen, Semicolon}
use Rattle.loop_expand.specs.Loops.{Range, numbers, parts, Loop, word, sign, StandFirst, range_form, others_form, is_size, BeginsLoop, AreLoops, no_token, no_call, one_loop}
use Rattle.loop_laws.specs.HelperFunctions.{words_of}

-- the parts of a range have at least 16 words
abbrev pub IsRanged : Range → Type 0
IsRanged (numbers low high) = Unit {0}
IsRanged (parts block most) = 16 ≤ words_of most.value

left_holds : (a b : Bool) → IsTrue (a && b) → a ≡ true
left_holds true b both = refl
left_holds false b both = both

size_at_least : (v : ℤ) → IsTrue (is_size v) → 16 ≤ words_of v
size_at_least (pos n) is = leb-true 16 n (left_holds (nat_le 16 n) _ is)
size_at_least (negsuc n) is = absurd (true≢false (sym is))

-- a loop that begins tokens
begun : (l : Loop) (ts : List Lexeme) (range : Range) → l.range ≡ range → BeginsLoop l ts → IsRanged range
begun l ts (numbers low high) is b = tt
begun l ts (parts block most) is b =
    size_at_least most.value (subst (λ (r : Range). StandFirst (range_form r ++ (others_form l.others ++ (sign RightParen ∷ word Semicolon l.closing ∷ []))) b.1.2.2.2.2.2.0 b.0) is b.1.2.2.2.2.2.2).2.2.2.1.2

abbrev EachRanged : List Loop → Type 0
EachRanged [] = Unit {0}
EachRanged (l ∷ ls) = IsRanged l.range × EachRanged ls

all_ranged : (ts : List Lexeme) (ls : List Loop) → AreLoops ts ls → EachRanged ls
all_ranged [] [] no_token = tt
all_ranged [] (l ∷ ls) x = elim x [ ]
all_ranged (t ∷ ts) [] x = tt
all_ranged (t ∷ ts) ls (no_call _ _ _ other are) = all_ranged ts ls are
all_ranged (t ∷ ts) (l ∷ ls) (one_loop _ _ _ _ begins are) = (begun l (t ∷ ts) l.range refl begins, all_ranged ts ls are)

one_ranged : (before : List Loop) (l : Loop) (behind : List Loop) → EachRanged (before ++ l ∷ behind) → IsRanged l.range
one_ranged [] l behind r = r.0
one_ranged (x ∷ before) l behind r = one_ranged before l behind r.1

pub ranged : (ts : List Lexeme) (ls : List Loop) → AreLoops ts ls → (before : List Loop) (l : Loop) (behind : List Loop) → ls ≡ before ++ l ∷ behind → IsRanged l.range
ranged ts ls are before l behind is = one_ranged before l behind (subst EachRanged is (all_ranged ts ls are))
