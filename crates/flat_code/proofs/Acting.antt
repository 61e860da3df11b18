-- Places, put one after another.
use Rattle.std.proofs.Common.{◌≡◌, ℕ, suc, ◌+◌, List, [], ◌∷◌, ◌++◌, length, refl, sym, ap, ◌∙◌, arith, append_assoc}
use Rattle.node_table.specs.Table.{Expr}
use Rattle.thread_stack.specs.declared.frame.Frame.{Frame}
use Rattle.flat_expressions.specs.Acts.{Operand, Act, write_at}
use Rattle.flat_expressions.specs.Codes.{operand_of, operand_code, put_code}
use Rattle.flat_statements.specs.Flat.{doing}
use Rattle.flat_code.specs.Made.{Placed, placed, acts_placed}

pub acts_placed-append : (here : List Frame) (xs ys : List Act) → acts_placed here (xs ++ ys) ≡ acts_placed here xs ++ acts_placed here ys
acts_placed-append here [] ys = refl
acts_placed-append here (x ∷ xs) ys = ap (λ ps. placed (doing x) here ∷ ps) (acts_placed-append here xs ys)

pub length-acts_placed : (here : List Frame) (xs : List Act) → length (acts_placed here xs) ≡ length xs
length-acts_placed here [] = refl
length-acts_placed here (x ∷ xs) = ap suc (length-acts_placed here xs)

-- a write to a block: the acts of the index, those of the number, and the write
pub put_made : (b : ℕ) (i e : Expr) (k : ℕ) (here : List Frame) (at from : Operand) (none one two : List Act) (old new : List Placed) → none ≡ []
    → (at ≡ operand_of i k) × (one ≡ none ++ operand_code i k)
    → (from ≡ operand_of e (k + 1)) × (two ≡ one ++ operand_code e (k + 1))
    → old ≡ acts_placed here two → new ≡ old ++ placed (doing (write_at b at from)) here ∷ [] → new ≡ acts_placed here (put_code b i e k)
put_made b i e k here at from none one two old new empty index number acts made =
    let next : k + 1 ≡ suc k = omega arith in
    let last = write_at b at from in
    let same : last ≡ write_at b (operand_of i k) (operand_of e (suc k)) =
    ap (λ a. write_at b a from) index.0 ∙ ap (λ a. write_at b (operand_of i k) a) (number.0 ∙ ap (λ n. operand_of e n) next) in
    let both : two ≡ operand_code i k ++ operand_code e (suc k) =
    number.1
    ∙ ap (λ xs. xs ++ operand_code e (k + 1)) (index.1 ∙ ap (λ xs. xs ++ operand_code i k) empty)
    ∙ ap (λ n. operand_code i k ++ operand_code e n) next in
    made
    ∙ ap (λ ps. ps ++ placed (doing last) here ∷ []) acts
    ∙ sym (acts_placed-append here two (last ∷ []))
    ∙ ap (λ xs. acts_placed here (xs ++ last ∷ [])) both
    ∙ ap (λ xs. acts_placed here xs) (append_assoc (operand_code i k) (operand_code e (suc k)) (last ∷ []))
    ∙ ap (λ a. acts_placed here (operand_code i k ++ (operand_code e (suc k) ++ a ∷ []))) same
