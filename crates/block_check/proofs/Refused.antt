-- A statement is refused where a part of it is.
use Rattle.std.proofs.Common.{◌≡◌, ℕ, length, Option, None, Result, Ok, Err, refl, sym, ap, subst, ◌∙◌}
use Rattle.par_tree.specs.Tree.{Name}
use Rattle.par_ownership.specs.Environment.{Environment}
use Rattle.par_ownership.specs.Walk.{Refusal, guarded, ended, after_arms, after_round, after_branches, after_split}
use Rattle.block_check.specs.Shown.{refusal_shown, Walks}
use Rattle.block_check.specs.declared.refusal.Fail.{Fail}
use Rattle.block_check.specs.declared.refusal.Fail.TheVariants.{Memory, Refused}
use Rattle.block_check.proofs.Compound.{same_ok, through}

refused_at : {S T : Type 0} (u : S → Environment) (v : T → Environment) (e : Fail) (part whole : Result Environment Refusal) → ((q : Refusal) → part ≡ Err q → whole ≡ Err q) → Walks {T = S} u (Err e) part → Walks {T = T} v (Err e) whole
refused_at u v Memory part whole f h = tt
refused_at u v (Refused r) part whole f h = f (refusal_shown r) h

-- what fails with the failure of a part fails as the whole does
pub refused : {S T : Type 0} (u : S → Environment) (v : T → Environment) (result : Result T Fail) (e e' : Fail) (part whole : Result Environment Refusal) → result ≡ Err e' → e' ≡ e → ((q : Refusal) → part ≡ Err q → whole ≡ Err q) → Walks {T = S} u (Err e) part → Walks v result whole
refused {S} {T} u v result e e' part whole is same f h =
    subst (λ (r : Result T Fail). Walks v r whole) (sym (is ∙ ap (λ (x : Fail). Err x) same)) (refused_at u v e part whole f h)

module _ (n : ℕ) (env : Environment) (visible : n ≡ length env) where
  at_visible : (A : Environment → Result Environment Refusal) (from : Environment) (r : Result Environment Refusal) → from ≡ env → ended n (A from) ≡ r → ended (length env) (A env) ≡ r
  at_visible A from r same e = subst (λ (m : ℕ). ended m (A env) ≡ r) visible (subst (λ (v : Environment). ended n (A v) ≡ r) same e)

  module _ (o : Option Refusal) (passed : o ≡ None) (A B : Environment → Result Environment Refusal) (q : Refusal) where
    pub refused_then : (line : ℕ) → ended n (A env) ≡ Err q → guarded o (after_arms line (ended (length env) (A env)) (ended (length env) (B env))) ≡ Err q
    refused_then line e =
        ap (λ (p : Option Refusal). guarded p (after_arms line (ended (length env) (A env)) (ended (length env) (B env)))) passed
        ∙ ap (λ (r : Result Environment Refusal). after_arms line r (ended (length env) (B env))) (at_visible A env (Err q) refl e)

    pub refused_else : (line : ℕ) (saved one : Environment) → saved ≡ env → ended n (A env) ≡ Ok one → ended n (B saved) ≡ Err q → guarded o (after_arms line (ended (length env) (A env)) (ended (length env) (B env))) ≡ Err q
    refused_else line saved one same e f =
        ap (λ (p : Option Refusal). guarded p (after_arms line (ended (length env) (A env)) (ended (length env) (B env)))) passed
        ∙ ap (λ (r : Result Environment Refusal). after_arms line r (ended (length env) (B env))) (at_visible A env (Ok one) refl e)
        ∙ ap (λ (r : Result Environment Refusal). after_arms line (Ok one) r) (at_visible B saved (Err q) same f)

    pub refused_round : (line : ℕ) (round : Environment) → round ≡ env → ended n (A round) ≡ Err q → guarded o (after_round line env (ended (length env) (A env))) ≡ Err q
    refused_round line round same e =
        ap (λ (p : Option Refusal). guarded p (after_round line env (ended (length env) (A env)))) passed
        ∙ ap (λ (r : Result Environment Refusal). after_round line env r) (at_visible A round (Err q) same e)

    pub refused_left : (forked : Environment) → forked ≡ env → ended n (A forked) ≡ Err q → guarded o (after_branches (ended (length env) (A env)) (ended (length env) (B env))) ≡ Err q
    refused_left forked same e =
        ap (λ (p : Option Refusal). guarded p (after_branches (ended (length env) (A env)) (ended (length env) (B env)))) passed
        ∙ ap (λ (r : Result Environment Refusal). after_branches r (ended (length env) (B env))) (at_visible A forked (Err q) same e)

    pub refused_right : (forked one : Environment) → forked ≡ env → ended n (A forked) ≡ Ok one → ended n (B env) ≡ Err q → guarded o (after_branches (ended (length env) (A env)) (ended (length env) (B env))) ≡ Err q
    refused_right forked one same e f =
        ap (λ (p : Option Refusal). guarded p (after_branches (ended (length env) (A env)) (ended (length env) (B env)))) passed
        ∙ ap (λ (r : Result Environment Refusal). after_branches r (ended (length env) (B env))) (at_visible A forked (Ok one) same e)
        ∙ ap (λ (r : Result Environment Refusal). after_branches (Ok one) r) (at_visible B env (Err q) refl f)

pub refused_body : (m n : ℕ) (b : Name) (opened env : Environment) (o p q r : Option Refusal) (A : Environment → Result Environment Refusal) (x : Refusal) → n ≡ m → guarded o (guarded p (guarded q (guarded r (Ok opened)))) ≡ Ok env → ended n (A env) ≡ Err x → guarded o (guarded p (guarded q (guarded r (after_split b (ended m (A opened)))))) ≡ Err x
refused_body m n b opened env o p q r A x visible head e =
    let body = after_split b (ended m (A opened)) in
    let s1 = through o (guarded p (guarded q (guarded r (Ok opened)))) (guarded p (guarded q (guarded r body))) env head in
    let s2 = through p (guarded q (guarded r (Ok opened))) (guarded q (guarded r body)) env s1.1 in
    let s3 = through q (guarded r (Ok opened)) (guarded r body) env s2.1 in
    let s4 = through r (Ok opened) body env s3.1 in
    let same : env ≡ opened = sym (same_ok opened env s4.1) in
    s1.0 ∙ s2.0 ∙ s3.0 ∙ s4.0
    ∙ ap (λ (w : Result Environment Refusal). after_split b w) (subst (λ (k : ℕ). ended k (A opened) ≡ Err x) visible (subst (λ (v : Environment). ended n (A v) ≡ Err x) same e))
