-- Answers that differ.
use Rattle.std.proofs.Common.{◌≡◌, ap, subst}
use Rattle.std.specs.Prelude.{Option, None, Some, Result, Ok, Err}

IsOk : {A E : Type 0} → Result A E → Type 0
IsOk (Ok x) = Unit {0}
IsOk (Err e) = ⊥

-- a value is no error
pub ok_or_err : {A E : Type 0} (x : A) (e : E) → Ok x ≡ Err e → ⊥
unfolding IsOk
ok_or_err x e same = subst IsOk same tt

HasSome : {A E : Type 0} → Result (Option A) E → Type 0
HasSome (Ok None) = ⊥
HasSome (Ok (Some x)) = Unit {0}
HasSome (Err e) = ⊥

-- something is not nothing
pub some_or_none : {A E : Type 0} (x : A) → ◌≡◌ {A = Result (Option A) E} (Ok (Some x)) (Ok None) → ⊥
unfolding HasSome
some_or_none x same = subst HasSome same tt

error_in : {A E : Type 0} → E → Result A E → E
error_in other (Ok x) = other
error_in other (Err e) = e

-- the same errors
pub same_err : {A E : Type 0} (a b : E) → ◌≡◌ {A = Result A E} (Err a) (Err b) → a ≡ b
unfolding error_in
same_err a b same = ap (error_in a) same
