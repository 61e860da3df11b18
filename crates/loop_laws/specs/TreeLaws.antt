-- What the program of an expansion has in place of loops.
use Rattle.std.specs.Prelude.{◌≡◌, ℕ, ◌<◌, List, ◌∷◌, ◌++◌, length, map, Some, None, Ok}
use Rattle.par_tree.specs.Tree.{Program}
use Rattle.par_text.specs.Rule.{Token}
use Rattle.par_text.specs.Lexing.{text_tokens}
use Rattle.par_text.specs.Judging.{IsText}
use Rattle.par_ownership.specs.Ownership.{function_of, Ownership}
use Rattle.loop_expand.specs.Loops.{Loop, AreLoops}
use Rattle.loop_expand.specs.Texts.{sum_name}
use Rattle.loop_expand.specs.Expansion.{Nowhere, IsTaken, lexeme_of, replaced, expansion, Expands}
use Rattle.loop_laws.specs.HelperFunctions.{helper_function, helper_functions}
use Rattle.loop_laws.specs.LoopCalls.{IsCall, OfSomeStatement, Calls, OfEachStatement}

-- A program, as the expansion of a text with these loops: first the functions of the text in which each loop is
-- replaced, none of them with the name of a helper, and then the helpers, each on a line of its own.
pub record IsExpanded (text : List ℕ) (ls : List Loop) (p : Program) : Type 0 where
  pub front : Program
  pub line : ℕ
  pub all : p ≡ front ++ helper_functions text 0 line ls
  pub is_text : IsText (replaced text ls) front
  pub names : (j : ℕ) → j < length ls → function_of front (sum_name j) ≡ None

-- The functions of an accepted expansion are those of the text in which each loop is replaced, and then the helpers.
abbrev pub HelpersStandBehind : Type 0
HelpersStandBehind =
    (text : List ℕ) (ts : List Token) (ls : List Loop) (p : Program) → text_tokens text ≡ Ok ts → AreLoops (map lexeme_of ts) ls
    → IsText (expansion text ls) p → Ownership p → IsExpanded text ls p

-- In an accepted expansion the function `__sumJ` is the helper of loop J, on some line.
abbrev pub EachLoopHasItsHelper : Type 0
EachLoopHasItsHelper =
    (text : List ℕ) (ts : List Token) (before : List Loop) (l : Loop) (behind : List Loop) (p : Program) → text_tokens text ≡ Ok ts
    → AreLoops (map lexeme_of ts) (before ++ l ∷ behind) → IsText (expansion text (before ++ l ∷ behind)) p → Ownership p
    → (line : ℕ) × (function_of p (sum_name (length before)) ≡ Some (helper_function text (length before) l line))

-- In each program of the text in which each loop is replaced, some statement is the call of the helper of loop J, with what
-- the loop says.
abbrev pub EachLoopIsACall : Type 0
EachLoopIsACall =
    (text : List ℕ) (ts : List Token) (before : List Loop) (l : Loop) (behind : List Loop) (p : Program) → text_tokens text ≡ Ok ts
    → AreLoops (map lexeme_of ts) (before ++ l ∷ behind) → IsText (replaced text (before ++ l ∷ behind)) p
    → OfSomeStatement (IsCall text (length before) l) p

-- Where no name of the text is that of a helper, each statement that calls the helper of loop J is the call of this loop.
abbrev pub EachCallIsOfItsLoop : Type 0
EachCallIsOfItsLoop =
    (text : List ℕ) (ts : List Token) (before : List Loop) (l : Loop) (behind : List Loop) (p : Program) → text_tokens text ≡ Ok ts
    → AreLoops (map lexeme_of ts) (before ++ l ∷ behind) → Nowhere (IsTaken text (length (before ++ l ∷ behind))) (map lexeme_of ts)
    → IsText (replaced text (before ++ l ∷ behind)) p
    → OfEachStatement (λ s. Calls (sum_name (length before)) s → IsCall text (length before) l s) p

-- A loop in a program and in the functions that stand before the helpers: the function `__sumJ` is its helper, some statement
-- is its call, and no other statement calls the helper.
pub record HasLoop (text : List ℕ) (j : ℕ) (l : Loop) (front p : Program) : Type 0 where
  pub line : ℕ
  pub helper : function_of p (sum_name j) ≡ Some (helper_function text j l line)
  pub called : OfSomeStatement (IsCall text j l) front
  pub others : OfEachStatement (λ s. Calls (sum_name j) s → IsCall text j l s) front

-- A program is the expansion of a text, with each loop of the text.
pub record IsExpansionOf (text : List ℕ) (p : Program) : Type 0 where
  pub tokens : List Token
  pub loops : List Loop
  pub lexed : text_tokens text ≡ Ok tokens
  pub are : AreLoops (map lexeme_of tokens) loops
  pub expanded : IsExpanded text loops p
  pub each : (before : List Loop) (l : Loop) (behind : List Loop) → loops ≡ before ++ l ∷ behind → HasLoop text (length before) l expanded.front p

-- What an accepted expansion is, of whatever text.
abbrev pub ExpansionsAreSo : Type 0
ExpansionsAreSo = (text bytes : List ℕ) (p : Program) → Expands text (Ok bytes) → IsText bytes p → Ownership p → IsExpansionOf text p
