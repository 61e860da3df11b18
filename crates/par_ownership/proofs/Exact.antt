-- A test that says exactly whether a fact holds, a walk that ends exactly where a relation holds, and how
-- both are put together.
use Rattle.std.proofs.Common.{◌≡◌, ℕ, Bool, true, false, ◌&&◌, [], ◌∷◌, take, drop, Option, Some, None, Result, Ok, Err, refl, sym, ap, subst}
use Rattle.par_tree.specs.Tree.{Name}
use Rattle.par_ownership.specs.declared.check_kind.CheckKind.{CheckKind}
use Rattle.par_ownership.specs.declared.check_kind.CheckKind.TheVariants.{NotFreed, ArmsDiffer}
use Rattle.std.specs.List.{list_all}
use Rattle.par_ownership.specs.Environment.{Environment, held_in_both, regained, is_released}
use Rattle.par_ownership.specs.Ownership.{Within, HoldTheSame}
use Rattle.par_ownership.specs.Walk.{Refusal, unless, first_of, guarded, then_walk, ended, after_arms, after_round, after_branches, after_split, is_same, arms_refusal, end_refusal}

-- the test refuses nothing exactly where P holds
pub record Tells (o : Option Refusal) (P : Type 0) : Type 0 where
  pub sound : o ≡ None → P
  pub complete : P → o ≡ None

-- the walk ends with an environment exactly where R holds of it
pub record Exact (r : Result Environment Refusal) (R : Environment → Type 0) : Type 0 where
  pub sound : (after : Environment) → r ≡ Ok after → R after
  pub complete : (after : Environment) → R after → r ≡ Ok after

pub tells_nothing : Tells None (Unit {0})
tells_nothing = record { sound = λ h. tt; complete = λ h. refl }

pub tells_never : (kind : CheckKind) (line : ℕ) (x : Name) → Tells (unless false kind line x) ⊥
tells_never kind line x = record { sound = λ h. cc; complete = λ h. absurd h }

pub tells_unless : (b : Bool) (kind : CheckKind) (line : ℕ) (x : Name) → Tells (unless b kind line x) (b ≡ true)
tells_unless true kind line x = record { sound = λ h. refl; complete = λ h. refl }
tells_unless false kind line x = record { sound = λ h. cc; complete = λ h. cc }

pub tells_as : {o : Option Refusal} {P Q : Type 0} → Tells o P → (P → Q) → (Q → P) → Tells o Q
tells_as t f g = record { sound = λ h. f (t.sound h); complete = λ h. t.complete (g h) }

pub tells_first : {a b : Option Refusal} {P Q : Type 0} → Tells a P → Tells b Q → Tells (first_of a b) (P × Q)
tells_first {a = None} s t = record { sound = λ h. (s.sound refl, t.sound h); complete = λ h. t.complete h.1 }
tells_first {a = Some r} s t = record { sound = λ h. cc; complete = λ h. s.complete h.0 }

pub exact_ok : (env : Environment) → Exact (Ok env) (λ after. after ≡ env)
exact_ok env = record { sound = λ after h. cc; complete = λ after h. cc }

pub exact_as : {r : Result Environment Refusal} {R S : Environment → Type 0} → Exact r R → ((after : Environment) → R after → S after) → ((after : Environment) → S after → R after) → Exact r S
exact_as x f g = record { sound = λ after h. f after (x.sound after h); complete = λ after h. x.complete after (g after h) }

pub exact_guarded : {o : Option Refusal} {P : Type 0} {r : Result Environment Refusal} {R : Environment → Type 0} → Tells o P → Exact r R → Exact (guarded o r) (λ after. P × R after)
exact_guarded {o = None} t x = record { sound = λ after h. (t.sound refl, x.sound after h); complete = λ after h. x.complete after h.1 }
exact_guarded {o = Some q} t x = record {
  sound = λ after h. let no : ⊥ = cc in absurd no;
  complete = λ after h. let no : Some q ≡ None = t.complete h.0 in let never : ⊥ = cc in absurd never;
}

pub exact_then : {r : Result Environment Refusal} {R : Environment → Type 0} {next : Environment → Result Environment Refusal} {N : Environment → Environment → Type 0} → Exact r R → ((env : Environment) → Exact (next env) (N env)) → Exact (then_walk r next) (λ after. (middle : Environment) × R middle × N middle after)
exact_then {r = Ok env} {next = next} x y = record {
  sound = λ after h. (env, x.sound env refl, (y env).sound after h);
  complete = λ after h. let e : next h.0 ≡ Ok after = (y h.0).complete after h.2 in let same : Ok env ≡ Ok h.0 = x.complete h.0 h.1 in cc;
}
exact_then {r = Err q} x y = record {
  sound = λ after h. let no : ⊥ = cc in absurd no;
  complete = λ after h. let same : Err q ≡ Ok h.0 = x.complete h.0 h.1 in let no : ⊥ = cc in absurd no;
}

-- the environment with which a walk ends
pub same_end : (a b : Environment) → ◌≡◌ {A = Result Environment Refusal} (Ok a) (Ok b) → a ≡ b
same_end a b e = cc

-- both of two tests
pub tells_both : {o : Option Refusal} (a b : Bool) → Tells o ((a ≡ true) × (b ≡ true)) → Tells o ((a && b) ≡ true)
tells_both true b t = tells_as t (λ h. h.1) (λ h. (refl, h))
tells_both false b t = tells_as t (λ h. h.0) (λ h. let no : ⊥ = cc in absurd no)

-- the entries of a list are released exactly where none is left to be freed
pub tells_end : (env : Environment) → Tells (end_refusal env) (list_all is_released env ≡ true)
tells_end [] = record { sound = λ h. refl; complete = λ h. refl }
tells_end (e ∷ rest) = tells_both (is_released e) (list_all is_released rest) (tells_first (tells_unless (is_released e) NotFreed e.line e.name) (tells_end rest))

tells_same : (line : ℕ) (x : Name) (a b : Bool) → Tells (unless (is_same a b) ArmsDiffer line x) (a ≡ b)
tells_same line x true true = record { sound = λ h. refl; complete = λ h. refl }
tells_same line x true false = record { sound = λ h. let no : ⊥ = cc in absurd no; complete = λ h. let no : ⊥ = cc in absurd no }
tells_same line x false true = record { sound = λ h. let no : ⊥ = cc in absurd no; complete = λ h. let no : ⊥ = cc in absurd no }
tells_same line x false false = record { sound = λ h. refl; complete = λ h. refl }

pub tells_arms : (line : ℕ) (env other : Environment) → Tells (arms_refusal line env other) (HoldTheSame env other)
tells_arms line [] other = tells_nothing
tells_arms line (e ∷ es) [] = tells_nothing
tells_arms line (e ∷ es) (f ∷ fs) = tells_first (tells_same line e.name e.held f.held) (tells_arms line es fs)

-- a list with its end
pub exact_ended : {r : Result Environment Refusal} (R : Environment → Environment → Type 0) (n : ℕ) (env : Environment) → Exact r (R env) → Exact (ended n r) (Within n R env)
exact_ended {r = Ok end} R n env x =
    exact_as (exact_guarded (tells_end (drop n end)) (exact_ok (take n end)))
    (λ after h. (end, x.sound end refl, h.0, h.1))
    (λ after h. let same : h.0 ≡ end = sym (same_end end h.0 (x.complete h.0 h.1)) in
    (subst (λ (v : Environment). list_all is_released (drop n v) ≡ true) same h.2, subst (λ (v : Environment). after ≡ take n v) same h.3))
exact_ended {r = Err q} R n env x = record {
  sound = λ after h. let no : ⊥ = cc in absurd no;
  complete = λ after h. let same : Err q ≡ Ok h.0 = x.complete h.0 h.1 in let no : ⊥ = cc in absurd no;
}

-- the arms of an `if`
pub exact_arms : {a b : Result Environment Refusal} {A B : Environment → Type 0} (line : ℕ) → Exact a A → Exact b B → Exact (after_arms line a b) (λ after. A after × ((other : Environment) × B other × HoldTheSame after other))
exact_arms {a = Ok env} {b = Ok other} line x y =
    exact_as (exact_guarded (tells_arms line env other) (exact_ok env))
    (λ after h. (x.sound after (ap Ok (sym h.1)), (other, y.sound other refl, subst (λ (v : Environment). HoldTheSame v other) (sym h.1) h.0)))
    (λ after h. let first : after ≡ env = sym (same_end env after (x.complete after h.0)) in
    let second : h.1.0 ≡ other = sym (same_end other h.1.0 (y.complete h.1.0 h.1.1)) in
    (subst (λ (v : Environment). HoldTheSame v other) first (subst (λ (v : Environment). HoldTheSame after v) second h.1.2), first))
exact_arms {a = Ok env} {b = Err q} line x y = record {
  sound = λ after h. let no : ⊥ = cc in absurd no;
  complete = λ after h. let e : Err q ≡ Ok h.1.0 = y.complete h.1.0 h.1.1 in let no : ⊥ = cc in absurd no;
}
exact_arms {a = Err q} {b = b} line x y = record {
  sound = λ after h. let no : ⊥ = cc in absurd no;
  complete = λ after h. let e : Err q ≡ Ok after = x.complete after h.0 in let no : ⊥ = cc in absurd no;
}

-- the body of a loop
pub exact_round : {r : Result Environment Refusal} {R : Environment → Type 0} (line : ℕ) (env : Environment) → Exact r R → Exact (after_round line env r) (λ after. ((end : Environment) × R end × HoldTheSame env end) × (after ≡ env))
exact_round {r = Ok end} {R = R} line env x =
    exact_as (exact_guarded (tells_arms line env end) (exact_ok env))
    (λ after h. ((end, x.sound end refl, h.0), h.1))
    (λ after h. let same : h.0.0 ≡ end = (let e : Ok end ≡ Ok h.0.0 = x.complete h.0.0 h.0.1 in cc) in
    (subst (λ (v : Environment). HoldTheSame env v) same h.0.2, h.1))
exact_round {r = Err q} line env x = record {
  sound = λ after h. let no : ⊥ = cc in absurd no;
  complete = λ after h. let e : Err q ≡ Ok h.0.0 = x.complete h.0.0 h.0.1 in let no : ⊥ = cc in absurd no;
}

-- the branches of a `par`
pub exact_branches : {a b : Result Environment Refusal} {A B : Environment → Type 0} → Exact a A → Exact b B → Exact (after_branches a b) (λ after. (left : Environment) × A left × ((right : Environment) × B right × (after ≡ held_in_both left right)))
exact_branches {a = Ok left} {b = Ok right} x y = record {
  sound = λ after h. (left, x.sound left refl, (right, y.sound right refl, cc));
  complete = λ after h.
      let e : Ok left ≡ Ok h.0 = x.complete h.0 h.1 in
      let f : Ok right ≡ Ok h.2.0 = y.complete h.2.0 h.2.1 in
      let g : after ≡ held_in_both h.0 h.2.0 = h.2.2 in
      cc;
}
exact_branches {a = Ok left} {b = Err q} x y = record {
  sound = λ after h. let no : ⊥ = cc in absurd no;
  complete = λ after h. let e : Err q ≡ Ok h.2.0 = y.complete h.2.0 h.2.1 in let no : ⊥ = cc in absurd no;
}
exact_branches {a = Err q} {b = b} x y = record {
  sound = λ after h. let no : ⊥ = cc in absurd no;
  complete = λ after h. let e : Err q ≡ Ok h.0 = x.complete h.0 h.1 in let no : ⊥ = cc in absurd no;
}

-- the body of a `split`
pub exact_split : {r : Result Environment Refusal} {R : Environment → Type 0} (b : Name) → Exact r R → Exact (after_split b r) (λ after. (end : Environment) × R end × (after ≡ regained end b))
exact_split {r = Ok end} b x = record {
  sound = λ after h. (end, x.sound end refl, cc);
  complete = λ after h.
      let e : Ok end ≡ Ok h.0 = x.complete h.0 h.1 in
      let g : after ≡ regained h.0 b = h.2 in
      cc;
}
exact_split {r = Err q} b x = record {
  sound = λ after h. let no : ⊥ = cc in absurd no;
  complete = λ after h. let e : Err q ≡ Ok h.0 = x.complete h.0 h.1 in let no : ⊥ = cc in absurd no;
}

-- two tests before what follows
pub exact_two : {P : Type 0} {r : Result Environment Refusal} {R : Environment → Type 0} (a b : Option Refusal) → Tells (first_of a b) P → Exact r R → Exact (guarded a (guarded b r)) (λ after. P × R after)
exact_two None b t x = exact_guarded t x
exact_two (Some q) b t x = exact_guarded t x
