-- A trail has one answer, and what an accepted trail is known by.
use Rattle.std.proofs.Common.{◌≡◌, ℕ, ◌≤◌, ◌<◌, ◌⊎◌, List, length, inl, inr, refl, sym, ap, subst, ◌∙◌, arith, pos, ◌≤ℤ◌}
use Rattle.std.specs.Prelude.{◌≢◌, Result, Ok, Err}
use Rattle.std.proofs.lemmas.Bool.{cases_order}
use Rattle.deque_machine.specs.Books.{bound, periods_marked}
use Rattle.depth_first_run.specs.States.{Setting}
use Rattle.depth_first_run.specs.Run.{list_of}
use Rattle.depth_first_run.proofs.Built.{whole_is_depth_first}
use Rattle.deque_machine.specs.Machine as machine
use Rattle.deque_machine.specs.Moments.{Moment, opening}
use Rattle.deque_machine.specs.Play.{Limits}
use Rattle.deque_machine.specs.Runs.{Pair, high_water_mark}
use Rattle.deque_machine.proofs.Reached.{marked_bound}
use Rattle.trail_check.specs.Good.{IsGood}
use Rattle.trail_check.specs.Verdicts.{AreNumbers, TrailVerdict, accepted, bad_event, not_ended, wrong_numbers, IsVerdict, is_accepted}
use Rattle.trail_check.proofs.Steps.{are_run}
use Rattle.trail_check.proofs.Bounded.{accepted_are_bounded}
use Rattle.trail_check.proofs.OneVerdict.{one_verdict}
use Rattle.trail_check.proofs.AVerdict.{a_verdict}
use Rattle.trail_meaning.specs.Shown.{TrailShown}
use Rattle.trail_meaning.specs.declared.trail_event.TrailEvent.{TrailEvent}
use Rattle.trail_meaning.specs.declared.trail_numbers.TrailNumbers.{TrailNumbers}
use Rattle.trail_check.specs.Checking.{trail_terms, trail_machine, HasVerdict, ChecksTrail}
use Rattle.trail_check.specs.CheckLaws.{IsAnswer, OneAnswer, AnAnswer, AcceptedTrailsAreBounded}
use Rattle.trail_check.specs.declared.verify_fail.VerifyFail.{VerifyFail}
use Rattle.trail_check.specs.declared.verify_fail.VerifyFail.TheVariants.{LongRun, BadEvent, NotEnded, WrongNumbers, OutOfMemory}

-- the answer that gives a verdict
abbrev answer_of : TrailVerdict → Result ℕ VerifyFail
answer_of (accepted actions) = Ok actions
answer_of (bad_event event) = Err (BadEvent event)
answer_of (not_ended events) = Err (NotEnded events)
answer_of (wrong_numbers right) = Err (WrongNumbers right)

-- an answer refuses a long run, or gives a verdict
data Says (c : Setting) (t : TrailShown) (answer : Result ℕ VerifyFail) : Type 0 where
  of_long : t.steps < length (list_of c) → answer ≡ Err (LongRun t.steps) → Says c t answer
  of_verdict : (v : TrailVerdict) → HasVerdict c t v → answer ≡ answer_of v → Says c t answer

says : (c : Setting) (t : TrailShown) (answer : Result ℕ VerifyFail) → IsAnswer c t answer → Says c t answer
says c t (Ok actions) is = of_verdict (accepted actions) is.1 refl
says c t (Err (LongRun limit)) is = of_long is.1.1 (ap (λ n. Err (LongRun n)) is.1.0)
says c t (Err (BadEvent event)) is = of_verdict (bad_event event) is.1 refl
says c t (Err (NotEnded events)) is = of_verdict (not_ended events) is.1 refl
says c t (Err (WrongNumbers right)) is = of_verdict (wrong_numbers right) is.1 refl
says c t (Err OutOfMemory) is = absurd (is.0 refl)

same : (c : Setting) (t : TrailShown) (one other : Result ℕ VerifyFail) → 0 < c.quota → Says c t one → Says c t other → one ≡ other
same c t one other some (of_long long is) (of_long long' is') = is ∙ sym is'
same c t one other some (of_long long is) (of_verdict v has is') = let within = has.0 in absurd (omega (arith, long, within))
same c t one other some (of_verdict v has is) (of_long long is') = let within = has.0 in absurd (omega (arith, long, within))
same c t one other some (of_verdict v has is) (of_verdict w has' is') =
    is ∙ ap answer_of (one_verdict (trail_machine c t) some (whole_is_depth_first c) (trail_terms t).limits t.events t.numbers v w has.1 has'.1) ∙ sym is'

pub one_answer : OneAnswer
one_answer c t one other some a b = same c t one other some (says c t one a) (says c t other b)

-- an answer that is accepted, or another one
abbrev wanting : Result ℕ VerifyFail → Type 0
wanting (Err OutOfMemory) = Unit {0}
wanting other = ⊥

no_want : (v : TrailVerdict) → answer_of v ≢ Err OutOfMemory
no_want (accepted actions) is = subst wanting (sym is) tt
no_want (bad_event event) is = subst wanting (sym is) tt
no_want (not_ended events) is = subst wanting (sym is) tt
no_want (wrong_numbers right) is = subst wanting (sym is) tt

no_want_of_long : (limit : ℕ) → ◌≢◌ {A = Result ℕ VerifyFail} (Err (LongRun limit)) (Err OutOfMemory)
no_want_of_long limit is = subst wanting (sym is) tt

gives : (c : Setting) (t : TrailShown) (v : TrailVerdict) → HasVerdict c t v → ChecksTrail c t (answer_of v)
gives c t (accepted actions) has = has
gives c t (bad_event event) has = has
gives c t (not_ended events) has = has
gives c t (wrong_numbers right) has = has

within_or_long : (a b : ℕ) → (a ≤ b) ⊎ (b < a)
within_or_long a b = elim (cases_order a b) [
  | inl is ↦ inl (omega (arith, is))
  | inr r ↦ elim r [
    | inl less ↦ inl (omega (arith, less))
    | inr more ↦ inr more
  ]
]

pub an_answer : AnAnswer
an_answer c t some = elim (within_or_long (length (list_of c)) t.steps) [
  | inl within ↦ let v = a_verdict (trail_machine c t) some (whole_is_depth_first c) (trail_terms t).limits t.events t.numbers in
      (answer_of v.0, (no_want v.0, gives c t v.0 (within, v.1)))
  | inr long ↦ (Err (LongRun t.steps), (no_want_of_long t.steps, (refl, long)))
]

-- an accepted trail: its run
record Accepted (s : machine.Setting) (limits : Limits) (events : List TrailEvent) (numbers : TrailNumbers) : Type 0 where
  run : List Pair
  last : Moment
  good : IsGood s limits events run last
  are : AreNumbers s run last numbers

run_of : (s : machine.Setting) (limits : Limits) (events : List TrailEvent) (numbers : TrailNumbers) (n : ℕ) → IsVerdict s limits events numbers (accepted n)
    → Accepted s limits events numbers
run_of s limits events numbers n (is_accepted run last good are) = record { run = run; last = last; good = good; are = are }

pub accepted_trails_are_bounded : AcceptedTrailsAreBounded
accepted_trails_are_bounded c t actions some checks =
    let s = trail_machine c t in let limits = (trail_terms t).limits in let list = whole_is_depth_first c in
    let a : Accepted s limits t.events t.numbers = run_of s limits t.events t.numbers actions checks.1 in
    let reaches = are_run s some list limits opening t.events a.run a.last a.good.follows in
    let high : high_water_mark s.list a.run ≤ℤ bound s.quota s.list (periods_marked a.last.books) = marked_bound s some list a.run a.last reaches in
    record {
      run = a.run;
      last = a.last;
      good = a.good;
      numbers = a.are;
      each = accepted_are_bounded s some list limits t.events a.run a.last a.good;
      high = subst (λ n. pos t.numbers.high ≤ℤ bound s.quota s.list n) (sym a.are.ahead)
          (subst (λ n. n ≤ℤ bound s.quota s.list (periods_marked a.last.books)) (sym a.are.high) high);
    }
