-- What is read inside a construct, with one place less.
use Rattle.std.proofs.Common.{◌≡◌, ℕ, suc, ◌-◌, ◌<◌, List, ap, arith}
use Rattle.par_text.specs.Rule.{Token, Nonterminal, expression}
use Rattle.par_text.specs.Grammar.{rule, expr_rule}
use Rattle.par_text.specs.Parsing.{read_inner, read}

pub inner_below : (n m : ℕ) (s : Nonterminal) (ts : List Token) → n ≡ suc m → read_inner n s ts ≡ read m (rule s) ts
unfolding read_inner
inner_below n m s ts e = ap (λ (i : ℕ). read_inner i s ts) e

pub inner_expression : (n : ℕ) (ts : List Token) → 0 < n → read_inner n expression ts ≡ read (n - 1) expr_rule ts
inner_expression n ts lt = inner_below n (n - 1) expression ts (omega arith)
