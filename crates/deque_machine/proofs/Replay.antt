-- The computed machine is the machine, and a replay is a run.
use Rattle.std.proofs.Common.{◌≡◌, ℕ, suc, ◌+◌, ◌<◌, true≢false, List, [], ◌∷◌, ◌++◌, length, refl, sym, ap, subst, ◌∙◌, arith}
use Rattle.std.specs.Prelude.{Option, None, Some, is_some, is_ok}
use Rattle.std.specs.declared.result.Result.{Result}
use Rattle.std.specs.declared.result.Result.TheVariants.{Ok, Err}
use Rattle.depth_first_run.specs.Passed.Runs.{IsDepthFirst}
use Rattle.deque_machine.specs.Moments.{Moment, opening}
use Rattle.deque_machine.specs.Machine.{Setting, May}
use Rattle.deque_machine.specs.LawfulOrder.{IsLawful}
use Rattle.deque_machine.specs.Runs.{Pair, Reaches}
use Rattle.deque_machine.proofs.Kept.{kept, opening_is_lawful}
use Rattle.deque_machine.specs.Step.{step, replay, replay_on}
use Rattle.deque_machine.specs.StepLaws.{StepIsTheMachine, ReplayReaches, ReplayFails}
use Rattle.deque_machine.proofs.StepSound.{step_sound}
use Rattle.deque_machine.proofs.StepComplete.{step_complete}

moment_or : Moment → Result Moment ℕ → Moment
moment_or m (Ok n) = n
moment_or m (Err k) = m

number_or : ℕ → Result Moment ℕ → ℕ
number_or n (Ok m) = n
number_or n (Err k) = k

same_ok : (a b : Moment) → ◌≡◌ {A = Result Moment ℕ} (Ok a) (Ok b) → a ≡ b
unfolding moment_or
same_ok a b is = ap (moment_or a) is

same_err : (a b : ℕ) → ◌≡◌ {A = Result Moment ℕ} (Err a) (Err b) → a ≡ b
unfolding number_or
same_err a b is = ap (number_or a) is

ok_is_no_err : (m : Moment) (n : ℕ) → ¬ (◌≡◌ {A = Result Moment ℕ} (Ok m) (Err n))
ok_is_no_err m n is = true≢false (ap is_ok is)

-- where a replay fails, from any moment on, behind n pairs
record FailsFrom (s : Setting) (first : Moment) (pairs : List Pair) (n k : ℕ) : Type 0 where
  front : List Pair
  pair : Pair
  back : List Pair
  is : pairs ≡ front ++ pair ∷ back
  number : k ≡ suc (n + length front)
  moment : Moment
  reached : Reaches s first front moment
  no_case : (after : Moment) → ¬ May s moment pair.worker pair.event after

module _ (s : Setting) (some : 0 < s.quota) (list : IsDepthFirst s.quota s.list) where
  pub step_is_the_machine : StepIsTheMachine s
  step_is_the_machine m after worker event lawful = (step_complete s m lawful worker event after, step_sound s m worker event after)

  reaches_from : (pairs : List Pair) (n : ℕ) (first last : Moment) → IsLawful s first → replay_on s n (Some first) pairs ≡ Ok last → Reaches s first pairs last
  reaches_from [] n first last lawful is = same_ok first last is
  reaches_from (pair ∷ later) n first last lawful is =
      by_step (step s first pair.worker pair.event) refl is (λ next lawful is. reaches_from later (suc n) next last lawful is)
    where
      by_step : (o : Option Moment) → step s first pair.worker pair.event ≡ o → replay_on s (suc n) o later ≡ Ok last
          → ((next : Moment) → IsLawful s next → replay_on s (suc n) (Some next) later ≡ Ok last → Reaches s next later last) → Reaches s first (pair ∷ later) last
      by_step None stepped is further = absurd (ok_is_no_err last (suc n) (sym is))
      by_step (Some next) stepped is further =
          let may : May s first pair.worker pair.event next = step_sound s first pair.worker pair.event next stepped in
          (next, may, further next (kept s list first lawful pair.worker pair.event next may) is)

  from_reaches : (pairs : List Pair) (n : ℕ) (first last : Moment) → IsLawful s first → Reaches s first pairs last → replay_on s n (Some first) pairs ≡ Ok last
  from_reaches [] n first last lawful reaches = ap Ok reaches
  from_reaches (pair ∷ later) n first last lawful reaches =
      ap (λ o. replay_on s (suc n) o later) (step_complete s first lawful pair.worker pair.event reaches.0 reaches.1)
      ∙ from_reaches later (suc n) reaches.0 last (kept s list first lawful pair.worker pair.event reaches.0 reaches.1) reaches.2

  pub replay_reaches : ReplayReaches s
  replay_reaches pairs m = (reaches_from pairs 0 opening m (opening_is_lawful s list), from_reaches pairs 0 opening m (opening_is_lawful s list))

  fails_from : (pairs : List Pair) (n k : ℕ) (first : Moment) → IsLawful s first → replay_on s n (Some first) pairs ≡ Err k → FailsFrom s first pairs n k
  fails_from [] n k first lawful is = absurd (ok_is_no_err first k is)
  fails_from (pair ∷ later) n k first lawful is =
      by_step (step s first pair.worker pair.event) refl is (λ next lawful is. fails_from later (suc n) k next lawful is)
    where
      by_step : (o : Option Moment) → step s first pair.worker pair.event ≡ o → replay_on s (suc n) o later ≡ Err k
          → ((next : Moment) → IsLawful s next → replay_on s (suc n) (Some next) later ≡ Err k → FailsFrom s next later (suc n) k) → FailsFrom s first (pair ∷ later) n k
      by_step None stepped is further =
          let same : suc n ≡ k = same_err (suc n) k is in
          record {
            front = [];
            pair = pair;
            back = later;
            is = refl;
            number = omega arith;
            moment = first;
            reached = refl;
            no_case = λ after may. true≢false (sym (ap is_some (sym stepped ∙ step_complete s first lawful pair.worker pair.event after may)));
          }
      by_step (Some next) stepped is further =
          let may : May s first pair.worker pair.event next = step_sound s first pair.worker pair.event next stepped in
          let f : FailsFrom s next later (suc n) k = further next (kept s list first lawful pair.worker pair.event next may) is in
          let number = f.number in
          record {
            front = pair ∷ f.front;
            pair = f.pair;
            back = f.back;
            is = ap (λ t. pair ∷ t) f.is;
            number = omega arith;
            moment = f.moment;
            reached = (next, may, f.reached);
            no_case = f.no_case;
          }

  from_fails : (front : List Pair) (pair : Pair) (back : List Pair) (n : ℕ) (first moment : Moment) → IsLawful s first → Reaches s first front moment
      → ((after : Moment) → ¬ May s moment pair.worker pair.event after) → replay_on s n (Some first) (front ++ pair ∷ back) ≡ Err (suc (n + length front))
  from_fails [] pair back n first moment lawful reaches no_case =
      by_step (step s first pair.worker pair.event) refl
    where
      number : suc n ≡ suc (n + 0)
      number = omega arith

      by_step : (o : Option Moment) → step s first pair.worker pair.event ≡ o → replay_on s (suc n) o back ≡ Err (suc (n + 0))
      by_step None stepped = ap Err number
      by_step (Some next) stepped = absurd (subst (λ m. (after : Moment) → ¬ May s m pair.worker pair.event after) (sym reaches) no_case next
          (step_sound s first pair.worker pair.event next stepped))
  from_fails (done ∷ front) pair back n first moment lawful reaches no_case =
      ap (λ o. replay_on s (suc n) o (front ++ pair ∷ back)) (step_complete s first lawful done.worker done.event reaches.0 reaches.1)
      ∙ from_fails front pair back (suc n) reaches.0 moment (kept s list first lawful done.worker done.event reaches.0 reaches.1) reaches.2 no_case
      ∙ ap Err (more n (length front))
    where
      more : (a b : ℕ) → suc (suc a + b) ≡ suc (a + suc b)
      more a b = omega arith

  pub replay_fails : ReplayFails s
  replay_fails pairs n = (
    (λ is. let f : FailsFrom s opening pairs 0 n = fails_from pairs 0 n opening (opening_is_lawful s list) is in
        let number = f.number in
        record { front = f.front; pair = f.pair; back = f.back; is = f.is; number = omega arith; moment = f.moment; reached = f.reached; no_case = f.no_case }),
    (λ f. let number = f.number in let same : suc (0 + length f.front) ≡ n = omega arith in
        ap (replay s) f.is ∙ from_fails f.front f.pair f.back 0 opening f.moment (opening_is_lawful s list) f.reached f.no_case ∙ ap Err same),
  )
