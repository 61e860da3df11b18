-- The line of a group is read as the group.
use Rattle.std.proofs.Common.{◌≡◌, ℕ, suc, ◌^◌, ◌<◌, false, List, [], ◌++◌, refl, sym, ap, ◌∙◌, subst, append_assoc, arith}
use Rattle.std.specs.Prelude.{codes}
use Rattle.std.specs.Fmt.{decimal}
use Rattle.std.proofs.lemmas.List.{append-nil}
use Rattle.par_text.specs.Grammar.{stmt_rule}
use Rattle.canonical_text.proofs.Claims.{Fits, same_fits}
use Rattle.loop_laws.proofs.Pieces.{OnOneLine}
use Rattle.loop_laws.proofs.TreeLines.{stmt_on}
use Rattle.loop_laws.proofs.Statements.{forks}
use Rattle.par_tree.specs.Tree.{Name}
use Rattle.made_source.specs.MadeSource.{left_length, right_length, branch, group_line, call_line}
use Rattle.made_laws.specs.MadeProgram.{left_block, right_block, group, call, function_name}
use Rattle.made_laws.proofs.GroupPhrases.{branch_put, branch_says, calls_alone}
use Rattle.made_laws.proofs.Numerals.{join_line, decimal_line, left_is_name, right_is_name, function_is_name, function_line}

-- the text of a branch, with what follows

regrouped : (p x q d r s e v w y t : List ℕ)
    → (p ++ x ++ q ++ d ++ r) ++ (x ++ s ++ e ++ r) ++ (v ++ x ++ w ++ x ++ y) ++ t
    ≡ p ++ (x ++ (q ++ (d ++ (r ++ (x ++ (s ++ (e ++ (r ++ (v ++ (x ++ (w ++ (x ++ (y ++ t)))))))))))))
regrouped p x q d r s e v w y t = simp append_assoc refl

branch_text : (name : Name) (length i : ℕ) (t : List ℕ) → branch name length i ++ t ≡ branch_put name length i t
unfolding branch branch_put
branch_text name length i t =
    regrouped (codes "{ alloc ") name (codes " = ") (decimal length) (codes "; ") (codes "[0] = ") (decimal i) (codes "print ") (codes "[0]; free ")
    (codes "; }") t

group_put : ℕ → List ℕ
group_put i = codes "par " ++ branch_put left_block (left_length i) i (codes " and " ++ branch_put right_block (right_length i) i [])

group_text : (i : ℕ) → group_put i ≡ group_line i
unfolding group_put group_line
group_text i =
    let a : List ℕ = branch left_block (left_length i) i in
    let b : List ℕ = branch right_block (right_length i) i in
    ap (λ (z : List ℕ). codes "par " ++ branch_put left_block (left_length i) i (codes " and " ++ z))
    (sym (branch_text right_block (right_length i) i []) ∙ append-nil b)
    ∙ ap (λ (z : List ℕ). codes "par " ++ z) (sym (branch_text left_block (left_length i) i (codes " and " ++ b)) ∙ sym (append_assoc a (codes " and ") b))
    ∙ sym (append_assoc (codes "par ") (a ++ codes " and ") b)
    ∙ ap (λ (z : List ℕ). z ++ b) (sym (append_assoc (codes "par ") a (codes " and ")))

pub group_fits : {most n line : ℕ} (i : ℕ) → i < 8000 → Fits most false (suc (suc n)) stmt_rule (λ y. stmt_on line y.1 ≡ group i line) (group_line i)
unfolding group_put
group_fits i low =
    same_fits (group_text i)
    (forks (branch_says left_block (left_length i) i left_is_name (omega arith) (omega arith))
    (branch_says right_block (right_length i) i right_is_name (omega arith) (omega arith))).fits

pub call_fits : {most n line : ℕ} (j : ℕ) → j < 2 ^ 64 → Fits most false (suc n) stmt_rule (λ y. stmt_on line y.1 ≡ call j line) (call_line j)
call_fits j low = same_fits (call_text j) (calls_alone (function_name j) (function_is_name j low)).fits
  where
    call_text : (j : ℕ) → codes "call " ++ (function_name j ++ codes "();") ≡ call_line j
    call_text j = refl

-- it is on one line

branch_line : (name : Name) (length i : ℕ) (t : List ℕ) → OnOneLine name → OnOneLine (decimal length) → OnOneLine (decimal i) → OnOneLine t
    → OnOneLine (branch_put name length i t)
unfolding branch_put
branch_line name length i t x d e h =
    join_line name _ x (join_line (decimal length) _ d (join_line name _ x (join_line (decimal i) _ e (join_line name _ x (join_line name _ x h)))))

pub group_one_line : (i : ℕ) → i < 8000 → OnOneLine (group_line i)
unfolding group_put
group_one_line i low =
    let number : OnOneLine (decimal i) = decimal_line i (omega arith) in
    subst OnOneLine (group_text i)
    (branch_line left_block (left_length i) i _ refl (decimal_line (left_length i) (omega arith)) number
    (branch_line right_block (right_length i) i [] refl (decimal_line (right_length i) (omega arith)) number refl))

pub call_one_line : (j : ℕ) → j < 2 ^ 64 → OnOneLine (call_line j)
call_one_line j low = join_line (function_name j) (codes "();") (function_line j low) refl
