-- The verdict on a trail whose events were all followed.
use Rattle.std.proofs.Common.{◌≡◌, ℕ, ◌<◌, ◌≤◌, ◌&&◌, not, Bool, true, false, List, [], length, refl, ap, subst, sym}
use Rattle.std.proofs.Math.Dec.{eqb}
use Rattle.std.proofs.lemmas.Bool.{eq-eqb, eqb-true}
use Rattle.std.specs.Prelude.{◌≢◌, Result, Ok, Err, IsErrAnd, MatchResult}
use Rattle.deque_machine.specs.Books.{booked}
use Rattle.depth_first_run.specs.States as program
use Rattle.depth_first_run.specs.Run.{list_of}
use Rattle.deque_machine.specs.Machine.{Setting, HasEnded}
use Rattle.deque_machine.specs.Play.{Limits}
use Rattle.trail_check.specs.Verdicts.{AreNumbers, accepted, not_ended, wrong_numbers, IsVerdict, is_accepted, is_unended, is_wrong}
use Rattle.trail_meaning.specs.Shown.{TrailShown}
use Rattle.trail_meaning.specs.declared.trail_event.TrailEvent.{TrailEvent}
use Rattle.trail_meaning.specs.declared.trail_numbers.TrailNumbers.{TrailNumbers}
use Rattle.trail_check.specs.declared.checker.Checker.{Checker}
use Rattle.serial_journal.specs.Stops.{OnStop}
use Rattle.serial_journal.specs.declared.serial_stop.SerialStop.{SerialStop}
use Rattle.serial_journal.specs.declared.serial_stop.SerialStop.TheVariants as stops
use Rattle.trail_check.specs.Checking.{trail_terms, trail_machine, fail_of, ChecksTrail}
use Rattle.trail_check.specs.Judging.{HasFollowed, GivesVerdict}
use Rattle.trail_check.specs.declared.verify_fail.VerifyFail.{VerifyFail}
use Rattle.trail_check.specs.declared.verify_fail.VerifyFail.TheVariants.{LongRun, BadEvent, NotEnded, WrongNumbers, OutOfMemory}

-- whether two trails have the same numbers
all_true : (x y z : Bool) → false ≡ not (x && (y && z)) → (x ≡ true) × (y ≡ true) × (z ≡ true)
all_true true true true h = (refl, refl, refl)
all_true true true false h = absurd (cc)
all_true true false z h = absurd (cc)
all_true false y z h = absurd (cc)

not_all : (x y z : Bool) → x ≡ true → y ≡ true → z ≡ true → true ≡ not (x && (y && z)) → ⊥
not_all true true true a b d h = cc
not_all true true false a b d h = cc
not_all true false z a b d h = cc
not_all false y z a b d h = cc

pub same_numbers : (a b : TrailNumbers) → false ≡ not (eqb a.periods b.periods && (eqb a.ahead b.ahead && eqb a.high b.high)) → a ≡ b
same_numbers a b tests =
    let all = all_true (eqb a.periods b.periods) (eqb a.ahead b.ahead) (eqb a.high b.high) tests in
    let periods = eqb-true a.periods b.periods all.0 in let ahead = eqb-true a.ahead b.ahead all.1 in let high = eqb-true a.high b.high all.2 in
    λ i. record { periods = periods i; ahead = ahead i; high = high i }

pub other_numbers : (a b : TrailNumbers) → true ≡ not (eqb a.periods b.periods && (eqb a.ahead b.ahead && eqb a.high b.high)) → a ≢ b
other_numbers a b tests same =
    not_all (eqb a.periods b.periods) (eqb a.ahead b.ahead) (eqb a.high b.high) (eq-eqb a.periods b.periods (ap (λ x. x.periods) same))
    (eq-eqb a.ahead b.ahead (ap (λ x. x.ahead) same)) (eq-eqb a.high b.high (ap (λ x. x.high) same)) tests

module _ (s : Setting) (limits : Limits) (events : List TrailEvent) (numbers : TrailNumbers) (checker : Checker) (had : HasFollowed s limits events checker) where
  pub unended : ¬ HasEnded s had.moment [] → (n : ℕ) → n ≡ length events → IsVerdict s limits events numbers (not_ended n)
  unended none n is = subst (λ x. IsVerdict s limits events numbers (not_ended x)) (sym is) (is_unended had.run had.moment had.follows none)

  pub wrong : HasEnded s had.moment [] → (right : TrailNumbers) → AreNumbers s had.run had.moment right → right ≢ numbers
      → IsVerdict s limits events numbers (wrong_numbers right)
  wrong ended right are differ = is_wrong had.run had.moment right (record { follows = had.follows; ended = ended }) are differ

  pub right : HasEnded s had.moment [] → (own : TrailNumbers) → AreNumbers s had.run had.moment own → own ≡ numbers
      → (n : ℕ) → n ≡ length (booked had.moment.books) → IsVerdict s limits events numbers (accepted n)
  right ended own are same n is = subst (λ x. IsVerdict s limits events numbers (accepted x)) (sym is)
      (is_accepted had.run had.moment (record { follows = had.follows; ended = ended }) (subst (AreNumbers s had.run had.moment) same are))

-- the exit by an error
pub err_exit : {T E : Type 0} (Q : T → Type 0) (P : E → Type 0) (r : Result T E) (e : E) → IsErrAnd r (λ y. y ≡ e) → P e → MatchResult r Q P
err_exit Q P (Ok x) e h p = absurd h
err_exit Q P (Err y) e h p = subst P (sym h) p

pub fail_exit : (s : Setting) (limits : Limits) (events : List TrailEvent) (numbers : TrailNumbers) (r : Result ℕ VerifyFail) (e : VerifyFail)
    → IsErrAnd r (λ y. y ≡ e) → GivesVerdict s limits events numbers (Err e) → GivesVerdict s limits events numbers r
fail_exit s limits events numbers (Ok n) e h gives = absurd h
fail_exit s limits events numbers (Err fail) e h gives = subst (λ x. GivesVerdict s limits events numbers (Err x)) (sym h) gives

-- the verdict on a trail is its answer, if the depth-first list is not longer than the trail allows
pub checked : (c : program.Setting) (t : TrailShown) (result : Result ℕ VerifyFail) → length (list_of c) ≤ t.steps
    → GivesVerdict (trail_machine c t) (trail_terms t).limits t.events t.numbers result → ChecksTrail c t result
checked c t (Ok actions) within gives = (within, gives)
checked c t (Err (LongRun limit)) within gives = absurd gives
checked c t (Err (BadEvent event)) within gives = (within, gives)
checked c t (Err (NotEnded n)) within gives = (within, gives)
checked c t (Err (WrongNumbers numbers)) within gives = (within, gives)
checked c t (Err OutOfMemory) within gives = tt

-- and so is what is answered where the depth-first run was stopped
pub stopped : (c : program.Setting) (t : TrailShown) (stop : SerialStop) → OnStop stop (t.steps < length (list_of c)) → ChecksTrail c t (Err (fail_of t.steps stop))
stopped c t stops.StepsSpent long = (refl, long)
stopped c t stops.OutOfMemory free = tt
