-- Where a call ends, and which seat it is then.
use Rattle.std.proofs.Common.{◌≡◌, ◌≢◌, ℕ, ◌<◌, List, [], length, sym, ap, ◌∙◌, subst, arith}
use Rattle.std.specs.Result.{IsErrAnd}
use Rattle.std.specs.Prelude.{Result, Ok, Err, MatchResult, OnOk}
use Rattle.hall_actions.specs.Passed.HallNames.{Thread, IsSeatOf}
use Rattle.turn_table.specs.Seats.{SeatView, with_hand}
use Rattle.turn_table.specs.declared.hand.Hand.{Hand}
use Rattle.turn_table.specs.declared.turns.Turns.{Turns}
use Rattle.hall_actions.specs.declared.refused.ActRefused.{ActRefused}

-- an exit by `?`
pub exit : {T : Type 0} (P : Result T ActRefused → Type 0) (r : Result T ActRefused) (refused : ActRefused) → IsErrAnd r (λ y. y ≡ refused)
    → P (Err refused) → P r
exit P (Ok value) refused is p = absurd is
exit P (Err found) refused is p = subst (λ y. P (Err y)) (sym is) p

-- one thing after a call that was done, and another one after one that failed
pub either : {T E : Type 0} (A B : Type 0) (r : Result T E) → OnOk r A → B → MatchResult r (λ value. A) (λ error. B)
either A B (Ok value) done failed = done
either A B (Err error) done failed = failed

-- it is a seat of the same table
pub here_too : {V L K N : Type 0} (turns : Turns V L K N) (before after : SeatView K V N) {hand : Hand V N} → after ≡ with_hand before hand
    → IsSeatOf turns before → IsSeatOf turns after
here_too turns before after is here = (ap (λ s. s.table) is ∙ here.0, ap (λ s. s.key) is ∙ here.1)

-- a thread is below, if there are some
pub some_below : (n : ℕ) (under : List Thread) → 0 < n → n ≡ length under → under ≢ []
some_below n under some is none =
    let never : 0 < 0 = subst (λ (xs : List Thread). 0 < length xs) none (subst (λ m. 0 < m) is some) in absurd (omega (arith, never))
