-- The statements of a made source as phrases, and its groups.
use Rattle.std.proofs.Common.{◌≡◌, ℕ, suc, ◌≤◌, List, [], ◌∷◌, ◌++◌, refl, ap, ◌∙◌}
use Rattle.std.specs.Prelude.{pos, Some, None, codes}
use Rattle.std.specs.Fmt.{decimal}
use Rattle.par_tree.specs.Tree.{Name, Expr, num, get, unused, alloc_stmt, put_stmt, print_stmt, free_stmt, call_stmt}
use Rattle.par_text.specs.Rule.{expression}
use Rattle.par_text.specs.Lexing.{greatest_number}
use Rattle.par_text.specs.Grammar.{named, index_rule, factor_rule, named_value, allocated, alloc_rule, free_rule, print_rule, written, written_value, write_rule, arg_list, args_rule, answering, callee_rule, plain_call, any_call, call_rule, stmt_rule}
use Rattle.canonical_text.proofs.Claims.{Always}
use Rattle.canonical_text.proofs.Leaves.{IsName, name_fits, name_token_fits, number_fits}
use Rattle.canonical_text.proofs.Symbols.{opens-LeftParen, opens-LeftBracket, reads-Alloc, reads-Free, reads-Call, reads-Print, reads-Assign, reads-Semicolon, reads-RightParen, reads-RightBracket}
use Rattle.loop_laws.proofs.Phrases.{leaf, pair_says, then_says, before_says, first_says, second_says, nothing_says, spaced, nest_says, within_says}
use Rattle.loop_laws.proofs.Expressions.{IsFactor, IsExpression, zero_number, number, term_alone, factor_alone, sum_alone}
use Rattle.loop_laws.proofs.TreeLines.{stmt_on}
use Rattle.loop_laws.proofs.Statements.{IsStatement, IsBody, statement, last_statement, braces}
use Rattle.made_laws.specs.MadeProgram.{branch_body}

-- expressions

numeral : {most n : ℕ} (v : ℕ) → v ≤ greatest_number → IsFactor most n (num (pos v)) (λ t. decimal v ++ t)
unfolding factor_rule
numeral v small = second_says (second_says
    (second_says (second_says (leaf (decimal v) (number_fits (pos v) (record { value = v; is = refl; small = small }))))))

element : {most n : ℕ} {i : Expr} {f : List ℕ → List ℕ} (b : Name) → IsName b → IsExpression most n i f
    → IsFactor most (suc n) (get b i) (λ t. b ++ (91 ∷ f (93 ∷ t)))
unfolding factor_rule index_rule
element {i = i} b h p =
    first_says (pair_says {Q = λ o. o ≡ Some i} named (λ rest c. (refl, refl)) (λ y o d e. ap (λ z. named y z) e ∙ ap (λ z. get z i) d) (leaf b (name_fits b h))
    (first_says (nest_says opens-LeftBracket
    (before_says (λ rest c. (refl, refl)) (within_says {s = expression} (λ e. Some e) (λ y q. ap (λ z. Some z) q) p) (leaf (codes "]") reads-RightBracket)))))

whole : {most n : ℕ} {e : Expr} {f : List ℕ → List ℕ} → IsFactor most n e f → IsExpression most n e f
whole p = sum_alone (term_alone (factor_alone p))

-- statements

-- `alloc x = e;`
allocates : {most n line : ℕ} {e : Expr} {f : List ℕ → List ℕ} (x : Name) → IsName x → IsExpression most n e f
    → IsStatement most n line (alloc_stmt x e) (λ t. codes "alloc " ++ (x ++ (codes " = " ++ f (59 ∷ t))))
unfolding stmt_rule alloc_rule named_value
allocates {e = e} x h p =
    second_says (first_says (pair_says {P = Always} {Q = λ v. v ≡ (x, e)} (λ t v. (t.line, allocated v)) (λ rest c. (refl, refl))
    (λ t v a b. ap (λ z. allocated z) b)
    (leaf (codes "alloc") reads-Alloc)
    (spaced (pair_says (λ y z. (y, z)) (λ rest c. (refl, refl)) (λ y z a b. ap (λ v. (y, v)) b ∙ ap (λ v. (v, e)) a) (leaf x (name_fits x h))
    (before_says (λ rest c. (refl, refl)) (then_says (λ rest c. (refl, refl)) (spaced (leaf (codes "=") reads-Assign)) (spaced p))
    (leaf (codes ";") reads-Semicolon))))))

-- `b[i] = e;`
puts : {most n line : ℕ} {i e : Expr} {f g : List ℕ → List ℕ} (b : Name) → IsName b → IsExpression most n i f → IsExpression most (suc n) e g
    → IsStatement most (suc n) line (put_stmt b i e) (λ t. b ++ (91 ∷ f (93 ∷ 32 ∷ 61 ∷ 32 ∷ g (59 ∷ t))))
unfolding stmt_rule write_rule written_value index_rule
puts {line = line} {i = i} {e = e} b h p q =
    second_says (second_says (second_says (second_says (second_says (second_says (second_says (second_says (second_says
    (pair_says {Q = λ v. v ≡ (Some i, e)} (λ t v. (t.line, written t.bytes v)) (λ rest c. (refl, refl))
    (λ t v a d. ap (λ z. stmt_on line (written t.bytes z)) d ∙ ap (λ z. put_stmt z i e) a) (leaf b (name_token_fits b h))
    (pair_says {P = λ o. o ≡ Some i} (λ o z. (o, z)) (λ rest c. (refl, refl)) (λ o z a d. ap (λ v. (o, v)) d ∙ ap (λ v. (v, e)) a)
    (first_says (nest_says opens-LeftBracket
    (before_says (λ rest c. (refl, refl)) (within_says {s = expression} (λ y. Some y) (λ y d. ap (λ z. Some z) d) p) (leaf (codes "]") reads-RightBracket))))
    (before_says (λ rest c. (refl, refl)) (then_says (λ rest c. (refl, refl)) (spaced (leaf (codes "=") reads-Assign)) (spaced q))
    (leaf (codes ";") reads-Semicolon))))))))))))

-- `print e;`
prints : {most n line : ℕ} {e : Expr} {f : List ℕ → List ℕ} → IsExpression most n e f
    → IsStatement most n line (print_stmt e) (λ t. codes "print " ++ f (59 ∷ t))
unfolding stmt_rule print_rule
prints {e = e} p =
    second_says (second_says (second_says (second_says (second_says (second_says (first_says
    (pair_says {P = Always} {Q = λ y. y ≡ e} (λ t y. (t.line, print_stmt y)) (λ rest c. (refl, refl)) (λ t y a b. ap print_stmt b)
    (leaf (codes "print") reads-Print)
    (spaced (before_says (λ rest c. (refl, refl)) p (leaf (codes ";") reads-Semicolon))))))))))

-- `free b;`
frees : {most n line : ℕ} (b : Name) → IsName b → IsStatement most n line (free_stmt b) (λ t. codes "free " ++ (b ++ (59 ∷ t)))
unfolding stmt_rule free_rule
frees b h =
    second_says (second_says (first_says
    (pair_says {P = Always} {Q = λ y. y ≡ b} (λ t y. (t.line, free_stmt y)) (λ rest c. (refl, refl)) (λ t y a d. ap free_stmt d)
    (leaf (codes "free") reads-Free)
    (spaced (before_says (λ rest c. (refl, refl)) (leaf b (name_fits b h)) (leaf (codes ";") reads-Semicolon))))))

-- `call f();`
pub calls_alone : {most n line : ℕ} (f : Name) → IsName f
    → IsStatement most (suc n) line (call_stmt unused f []) (λ t. codes "call " ++ (f ++ (40 ∷ 41 ∷ 59 ∷ t)))
unfolding stmt_rule call_rule any_call plain_call callee_rule args_rule arg_list
calls_alone {line = line} f h =
    second_says (second_says (second_says (second_says (second_says (first_says
    (pair_says {P = Always} {Q = λ s. s ≡ call_stmt unused f []} (λ t s. (t.line, s)) (λ rest c. (refl, refl)) (λ t s d e. ap (λ z. stmt_on line z) e)
    (leaf (codes "call") reads-Call)
    (before_says (λ rest c. (refl, refl))
    (spaced (second_says (pair_says {P = λ y. y ≡ f} {Q = λ v. v ≡ (None, [])} answering (λ rest c. (refl, refl))
    (λ y v d e. ap (λ z. answering y z) e ∙ ap (λ z. call_stmt unused z []) d)
    (leaf f (name_fits f h))
    (pair_says {P = λ o. o ≡ None} {Q = λ l. l ≡ []} (λ o l. (o, l)) (λ rest c. (refl, refl)) (λ o l d e. ap (λ z. (o, z)) e ∙ ap (λ z. (z, [])) d)
    (second_says (nothing_says refl))
    (nest_says opens-LeftParen (before_says (λ rest c. (refl, refl)) (second_says (nothing_says refl)) (leaf (codes ")") reads-RightParen)))))))
    (leaf (codes ";") reads-Semicolon))))))))

-- a branch, and a group

zero_index : {most n : ℕ} → IsExpression most n (num (pos 0)) (λ t. codes "0" ++ t)
zero_index = whole (number (codes "0") (pos 0) zero_number)

unfoldable pub branch_put : Name → ℕ → ℕ → List ℕ → List ℕ
branch_put name length i t =
    codes "{ alloc " ++ (name ++ (codes " = " ++ (decimal length ++ (codes "; " ++ (name ++ (codes "[0] = " ++ (decimal i ++
    (codes "; print " ++ (name ++ (codes "[0]; free " ++ (name ++ (codes "; }" ++ t))))))))))))

pub branch_says : {most n line : ℕ} (name : Name) (length i : ℕ) → IsName name → length ≤ greatest_number → i ≤ greatest_number
    → IsBody most (suc (suc n)) line (branch_body name length i line) (branch_put name length i)
unfolding branch_put
branch_says name length i named short small =
    braces (statement (λ rest c. (refl, refl)) (allocates name named (whole (numeral length short)))
    (statement (λ rest c. (refl, refl)) (puts name named zero_index (whole (numeral i small)))
    (statement (λ rest c. (refl, refl)) (prints (whole (element name named zero_index)))
    (last_statement (frees name named)))))
