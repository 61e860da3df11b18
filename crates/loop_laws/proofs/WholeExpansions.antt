-- All that is known of the program of an expansion.
use Rattle.std.proofs.Common.{◌≡◌, ℕ, List, ◌∷◌, ◌++◌, length, map, Result, Ok, Err, refl, subst}
use Rattle.par_tree.specs.Tree.{Program}
use Rattle.par_text.specs.Rule.{Token}
use Rattle.par_text.specs.Lexing.{Lexed, text_tokens}
use Rattle.par_text.specs.Judging.{IsText}
use Rattle.par_ownership.specs.Ownership.{Ownership}
use Rattle.loop_expand.specs.declared.expand_fail.ExpandFail.{ExpandFail}
use Rattle.loop_expand.specs.declared.expand_fail.ExpandFail.TheVariants.{Refused}
use Rattle.loop_expand.specs.Loops.{Loop, AreLoops}
use Rattle.loop_expand.specs.Expansion.{Nowhere, IsTaken, lexeme_of, replaced, expansion, LexedExpand}
use Rattle.loop_laws.specs.TreeLaws.{IsExpanded, HasLoop, IsExpansionOf, ExpansionsAreSo}
use Rattle.loop_laws.proofs.Expanded.{helpers_stand_behind, each_loop_has_its_helper}
use Rattle.loop_laws.proofs.LoopCalls.{each_loop_is_a_call}
use Rattle.loop_laws.proofs.OneCall.{each_call_is_of_its_loop}

module _ (text : List ℕ) (ts : List Token) (ls : List Loop) (p : Program) (has : text_tokens text ≡ Ok ts) (loops : AreLoops (map lexeme_of ts) ls) (free : Nowhere (IsTaken text (length ls)) (map lexeme_of ts)) (is_ : IsText (expansion text ls) p) (own : Ownership p) where
  has_loop : (e : IsExpanded text ls p) (before : List Loop) (l : Loop) (behind : List Loop) → ls ≡ before ++ l ∷ behind → HasLoop text (length before) l e.front p
  has_loop e before l behind cut =
      let are : AreLoops (map lexeme_of ts) (before ++ l ∷ behind) = subst (AreLoops (map lexeme_of ts)) cut loops in
      let front_is = subst (λ ms. IsText (replaced text ms) e.front) cut e.is_text in
      let helper = each_loop_has_its_helper text ts before l behind p has are (subst (λ ms. IsText (expansion text ms) p) cut is_) own in
      record {
        line = helper.0;
        helper = helper.1;
        called = each_loop_is_a_call text ts before l behind e.front has are front_is;
        others = each_call_is_of_its_loop text ts before l behind e.front has are (subst (λ ms. Nowhere (IsTaken text (length ms)) (map lexeme_of ts)) cut free) front_is;
      }

  expansion_of : IsExpansionOf text p
  expansion_of =
      let e = helpers_stand_behind text ts ls p has loops is_ own in
      record { tokens = ts; loops = ls; lexed = has; are = loops; expanded = e; each = λ before l behind cut. has_loop e before l behind cut }

pub expansions_are_so : ExpansionsAreSo
expansions_are_so text bytes p expands is_ own = by_tokens (text_tokens text) refl expands
  where
    by_tokens : (o : Lexed) → text_tokens text ≡ o → LexedExpand text o (Ok bytes) → IsExpansionOf text p
    by_tokens (Ok ts) has (ls, loops, free, same) = expansion_of text ts ls p has loops free (subst (λ bs. IsText bs p) same is_) own
    by_tokens (Err e) has h = absurd (never h)
      where
        never : ◌≡◌ {A = Result (List ℕ) ExpandFail} (Ok bytes) (Err (Refused e)) → ⊥
        never h = cc
