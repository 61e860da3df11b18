-- The first token from which on something holds, found from the left, and names by their numbers.
use Rattle.std.proofs.Common.{◌≡◌, ℕ, ◌<◌, ◌^◌, List, ◌∷◌, inl, inr, refl, sym, ap, ◌∙◌, subst}
use Rattle.std.specs.Prelude.{Option, Some, None, Result}
use Rattle.std.specs.Result.{result_ok}
use Rattle.std.specs.Fmt.{decimal}
use Rattle.std.specs.Str.{IsUtf8}
use Rattle.std.specs.Str.Parse.{ParsesUnsigned}
use Rattle.std.proofs.lemmas.Str.{IsUtf8-from_ascii}
use Rattle.std.proofs.lemmas.Fmt.{IsAscii-decimal, parse-decimal}
use Rattle.par_lex.specs.declared.lexeme.Lexeme.{Lexeme}
use Rattle.loop_expand.specs.Expansion.{FirstAt, Nowhere}
use Rattle.loop_expand.specs.Answers.{FindsFirst}

-- digits that are no text write no number
pub no_text : (digits : List ℕ) → ¬ (IsUtf8 digits) → (n : ℕ) → n < 2 ^ 64 → digits ≡ decimal n → ⊥
no_text digits none n small e = none (subst IsUtf8 (sym e) (IsUtf8-from_ascii (decimal n) (IsAscii-decimal n small)))

pub parsed : {E : Type 0} (digits text : List ℕ) (r : Result ℕ E) (o : Option ℕ) → text ≡ digits → o ≡ result_ok r → ParsesUnsigned 64 10 text r
    → (n : ℕ) → n < 2 ^ 64 → digits ≡ decimal n → o ≡ Some n
parsed digits text r o same answer told n small e = answer ∙ ap result_ok (parse-decimal 64 n text r small small (same ∙ e) told)

module _ (P : List Lexeme → Type 0) (rest : List Lexeme) (t : Lexeme) (behind : List Lexeme) (split : rest ≡ t ∷ behind) where
  pub found_here : P (t ∷ behind) → FindsFirst (Some t.at) P rest
  found_here here = subst (λ (l : List Lexeme). FirstAt P l t.at) (sym split) (inl (here, refl))

  pub found_behind : (found : Option ℕ) → ¬ (P (t ∷ behind)) → FindsFirst found P behind → FindsFirst found P rest
  found_behind None other more = subst (λ (l : List Lexeme). Nowhere P l) (sym split) (other, more)
  found_behind (Some at) other more = subst (λ (l : List Lexeme). FirstAt P l at) (sym split) (inr (other, more))
