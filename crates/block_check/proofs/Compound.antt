-- What the compound statements do, from what their parts do.
use Rattle.std.proofs.Common.{◌≡◌, ℕ, List, length, Option, Some, None, Result, Ok, refl, sym, ap, subst, ◌∙◌}
use Rattle.par_tree.specs.Tree.{Name}
use Rattle.par_ownership.specs.Environment.{Environment, held_in_both, regained}
use Rattle.par_ownership.specs.Walk.{Refusal, guarded, ended, arms_refusal, after_arms, after_round, after_branches, after_split}
use Rattle.block_check.specs.Shown.{entries_shown}
use Rattle.block_check.specs.declared.entry.Entry.{Entry}

pub same_ok : (a b : Environment) → ◌≡◌ {A = Result Environment Refusal} (Ok a) (Ok b) → a ≡ b
same_ok a b e = cc

-- a copy shows what it was made from
pub copied : (b : Environment) (es xs : List Entry) → ◌≡◌ {A = Result Environment Refusal} (Ok (entries_shown es)) (Ok b) → es ≡ xs → b ≡ entries_shown xs
copied b es xs e f = sym (same_ok (entries_shown es) b e) ∙ ap entries_shown f

module _ (n : ℕ) (env : Environment) (visible : n ≡ length env) (A B : Environment → Result Environment Refusal) where
  at_visible : (from end : Environment) → from ≡ env → ended n (A from) ≡ Ok end → ended (length env) (A env) ≡ Ok end
  at_visible from end same e = subst (λ (m : ℕ). ended m (A env) ≡ Ok end) visible (subst (λ (v : Environment). ended n (A v) ≡ Ok end) same e)

pub walked_if : (line n : ℕ) (env saved one two : Environment) (o : Option Refusal) (A B : Environment → Result Environment Refusal) → n ≡ length env → o ≡ None → saved ≡ env → ended n (A env) ≡ Ok one → ended n (B saved) ≡ Ok two → guarded o (after_arms line (ended (length env) (A env)) (ended (length env) (B env))) ≡ guarded (arms_refusal line one two) (Ok one)
walked_if line n env saved one two o A B visible passed same e f =
    ap (λ (q : Option Refusal). guarded q (after_arms line (ended (length env) (A env)) (ended (length env) (B env)))) passed
    ∙ ap (λ (r : Result Environment Refusal). after_arms line r (ended (length env) (B env))) (at_visible n env visible A A env one refl e)
    ∙ ap (λ (r : Result Environment Refusal). after_arms line (Ok one) r) (at_visible n env visible B B saved two same f)

pub walked_while : (line n : ℕ) (env round end : Environment) (o : Option Refusal) (A : Environment → Result Environment Refusal) → n ≡ length env → o ≡ None → round ≡ env → ended n (A round) ≡ Ok end → guarded o (after_round line env (ended (length env) (A env))) ≡ guarded (arms_refusal line env end) (Ok env)
walked_while line n env round end o A visible passed same e =
    ap (λ (q : Option Refusal). guarded q (after_round line env (ended (length env) (A env)))) passed
    ∙ ap (λ (r : Result Environment Refusal). after_round line env r) (at_visible n env visible A A round end same e)

pub walked_par : (n : ℕ) (env forked one two : Environment) (o : Option Refusal) (A B : Environment → Result Environment Refusal) → n ≡ length env → o ≡ None → forked ≡ env → ended n (A forked) ≡ Ok one → ended n (B env) ≡ Ok two → guarded o (after_branches (ended (length env) (A env)) (ended (length env) (B env))) ≡ Ok (held_in_both one two)
walked_par n env forked one two o A B visible passed same e f =
    ap (λ (q : Option Refusal). guarded q (after_branches (ended (length env) (A env)) (ended (length env) (B env)))) passed
    ∙ ap (λ (r : Result Environment Refusal). after_branches r (ended (length env) (B env))) (at_visible n env visible A A forked one same e)
    ∙ ap (λ (r : Result Environment Refusal). after_branches (Ok one) r) (at_visible n env visible B B env two refl f)

-- a guard that passes
pub through : (o : Option Refusal) (a rest : Result Environment Refusal) (env : Environment) → guarded o a ≡ Ok env → (guarded o rest ≡ rest) × (a ≡ Ok env)
through None a rest env e = (refl, e)
through (Some q) a rest env e = let never : ⊥ = cc in absurd never

pub walked_split : (m n : ℕ) (b : Name) (opened env end : Environment) (o p q r : Option Refusal) (A : Environment → Result Environment Refusal) → n ≡ m → guarded o (guarded p (guarded q (guarded r (Ok opened)))) ≡ Ok env → ended n (A env) ≡ Ok end → guarded o (guarded p (guarded q (guarded r (after_split b (ended m (A opened)))))) ≡ Ok (regained end b)
walked_split m n b opened env end o p q r A visible head e =
    let body = after_split b (ended m (A opened)) in
    let s1 = through o (guarded p (guarded q (guarded r (Ok opened)))) (guarded p (guarded q (guarded r body))) env head in
    let s2 = through p (guarded q (guarded r (Ok opened))) (guarded q (guarded r body)) env s1.1 in
    let s3 = through q (guarded r (Ok opened)) (guarded r body) env s2.1 in
    let s4 = through r (Ok opened) body env s3.1 in
    let same : env ≡ opened = sym (same_ok opened env s4.1) in
    s1.0 ∙ s2.0 ∙ s3.0 ∙ s4.0
    ∙ ap (λ (w : Result Environment Refusal). after_split b w) (subst (λ (k : ℕ). ended k (A opened) ≡ Ok end) visible (subst (λ (v : Environment). ended n (A v) ≡ Ok end) same e))
