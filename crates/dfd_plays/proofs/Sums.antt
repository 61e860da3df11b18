-- Sums that wrap, and the length of a text.
use Rattle.std.proofs.Common.{◌≡◌, ℕ, ℤ, pos, ◌≤◌, ◌<◌, ◌+◌, ◌%◌, Bool, true, false, cond, List, length, drop, get_or, Ok, Err, Fits, w64, to_z, of_z, refl, sym, ap, ◌∙◌, subst}
use Rattle.std.proofs.Math.Facts.{of_z-to_z}
use Rattle.std.proofs.lemmas.List.{drop_more}
use Rattle.std.specs.Prelude.{nat_lt}
use Rattle.std.proofs.lemmas.Bool.{ltb-false}
use Rattle.language_limits.specs.declared.TheConstants.{LONGEST_TEXT}
use Rattle.par_text.specs.Judging.{IsText}
use Rattle.par_text.specs.Lexing.{Lexed, of_allowed, forbidden, longest_text, text_tokens}
use Rattle.par_text.specs.Rule.{Token}
use Rattle.par_text.specs.declared.syntax_error.SyntaxError.{SyntaxError}
use Rattle.par_text.specs.declared.syntax_error.SyntaxKind.TheVariants.{TooLong}
use Rattle.par_tree.specs.Tree.{Program}
use Rattle.dfd_plays.specs.Make.{sum_with, sum_of}

abbrev IsOk : Lexed → Type 0
IsOk (Ok ts) = Unit {0}
IsOk (Err e) = ⊥

never : (e : SyntaxError) (ts : List Token) → ◌≡◌ {A = Lexed} (Err e) (Ok ts) → ⊥
never e ts same = subst IsOk (sym same) tt

-- a text is no longer than a text may be
pub short_text : (text : List ℕ) (p : Program) → IsText text p → length text ≤ LONGEST_TEXT
unfolding text_tokens
short_text text p is = go (nat_lt longest_text (length text)) refl is.lexed
  where
    go : (b : Bool) → nat_lt longest_text (length text) ≡ b
        → cond b (Err (record { kind = TooLong; at = longest_text })) (of_allowed (forbidden 0 text) text) ≡ Ok is.tokens
        → length text ≤ LONGEST_TEXT
    go true h e = absurd (never _ is.tokens e)
    go false h e = ltb-false longest_text (length text) h

-- one number more is sum_with
pub one_more : (sum i : ℕ) (numbers : List ℤ) → Fits w64 sum → i < length numbers →
    sum_with (to_z w64 sum) (drop i numbers) ≡ sum_of numbers →
    sum_with (to_z w64 ((sum + of_z w64 (get_or numbers i (pos 0))) % 18446744073709551616)) (drop (i + 1) numbers) ≡ sum_of numbers
one_more sum i numbers fits inside so_far =
    ap (λ (n : ℕ). sum_with (to_z w64 ((n + of_z w64 (get_or numbers i (pos 0))) % 18446744073709551616)) (drop (i + 1) numbers)) (sym (of_z-to_z fits))
    ∙ ap (λ (l : List ℤ). sum_with (to_z w64 sum) l) (sym (drop_more numbers i (pos 0) inside))
    ∙ so_far
