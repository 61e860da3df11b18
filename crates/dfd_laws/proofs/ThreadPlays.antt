-- Each play is a run that threads may come to.
use Rattle.std.proofs.Common.{◌≡◌, ℕ, suc, ◌<◌, Bool, true, false, List, [], length, append-nil, arith, refl, sym, subst}
use Rattle.std.specs.Prelude.{nat_le}
use borrow.Author.Tests.{leb-true, leb-false}
use Rattle.command_line.specs.declared.command.Command.{Command}
use Rattle.command_line.specs.declared.setting.Setting.TheVariants.{Quota}
use Rattle.depth_first_list.specs.Runs.{IsDepthFirst}
use Rattle.depth_first_run.proofs.Built.{whole_is_depth_first}
use Rattle.depth_first_run.specs.Run.{list_of}
use Rattle.deque_machine.proofs.Playing.{excluded, plays_are_runs}
use Rattle.deque_machine.specs.Machine.{Setting, Event}
use Rattle.deque_machine.specs.Moments.{Moment, opening}
use Rattle.deque_machine.specs.Play.{CanMove, Limits, Stop, arena_full, steps_spent, deques_full, Ending, stopped, Meets, no_steps}
use Rattle.deque_machine.specs.Runs.{Pair}
use Rattle.hall_machine.proofs.Stops.{in_range}
use Rattle.hall_machine.specs.Runs.{MeetsOnTheWay, StopHasCause}
use Rattle.deque_machine.proofs.OnePlay.{endings_have_causes}
use Rattle.deque_machine.specs.StepLaws.{PlayHasCause}
use Rattle.par_tree.specs.Tree.{Program}
use Rattle.dfd_plays.specs.Answer.{HasRanges}
use Rattle.dfd_plays.specs.Play.{IsPlay, play_setting, play_terms, play_machine, seeded_words}
use Rattle.dfd_plays.specs.Threads.{IsRunByThreads}

limit_is : (s : Setting) (limits : Limits) (m : Moment) (event : Event) (limit : ℕ) → Meets s limits m event (steps_spent limit) → limit ≡ limits.actions
limit_is s limits m event limit (no_steps place fits spent) = refl

module _ (command : Command) (p : Program) (ranges : HasRanges command) where
  some_quota : 0 < command.k
  some_quota = omega (arith, (ranges.numbers Quota).0)

  listed : IsDepthFirst command.k (list_of (play_setting command p))
  listed = whole_is_depth_first (play_setting command p)

  -- a play is stopped at the last moment of its run
  meets_last : (run : List Pair) (last : Moment) (stop : Stop) → IsPlay command p run last (stopped stop) →
      MeetsOnTheWay (play_machine command p) (play_terms command).limits run stop
  meets_last run last stop plays =
      let s = play_machine command p in
      let words = seeded_words command.seed in
      let limits = (play_terms command).limits in
      let reaches = (plays_are_runs s some_quota listed limits words run last (stopped stop) plays).0 in
      let cause = endings_have_causes s some_quota listed limits words run last (stopped stop) plays in
      let below = in_range s.workers (words cause.0) (CanMove s last) (cause.1).worker (cause.2).first in
      (run, [], sym (append-nil run), last, reaches, ((cause.1).worker, below, words (suc cause.0), (cause.1).event, (cause.2).wants, cause.3))

  spent : (run : List Pair) (last : Moment) (limit : ℕ) → IsPlay command p run last (stopped (steps_spent limit)) →
      StopHasCause (play_machine command p) (play_terms command).limits run (steps_spent limit)
  spent run last limit plays =
      let s = play_machine command p in
      let limits = (play_terms command).limits in
      let cause = endings_have_causes s some_quota listed limits (seeded_words command.seed) run last (stopped (steps_spent limit)) plays in
      (limit_is s limits last (cause.1).event limit cause.3, by_length (nat_le (length s.list) limits.actions) refl)
    where
      by_length : (b : Bool) → nat_le (length (list_of (play_setting command p))) command.steps ≡ b →
          command.steps < length (list_of (play_setting command p))
      by_length true e =
          absurd (excluded (play_machine command p) some_quota listed (play_terms command).limits (seeded_words command.seed) run last
          (steps_spent limit) (leb-true (length (list_of (play_setting command p))) command.steps e) plays)
      by_length false e = leb-false (length (list_of (play_setting command p))) command.steps e

  stop_has_cause : (run : List Pair) (last : Moment) (stop : Stop) → IsPlay command p run last (stopped stop) →
      StopHasCause (play_machine command p) (play_terms command).limits run stop
  stop_has_cause run last (arena_full live asked) plays = meets_last run last (arena_full live asked) plays
  stop_has_cause run last (deques_full deques) plays = meets_last run last (deques_full deques) plays
  stop_has_cause run last (steps_spent limit) plays = spent run last limit plays

  pub plays_in_threads : (run : List Pair) (last : Moment) (ending : Ending) → IsPlay command p run last ending → IsRunByThreads command p run last ending
  plays_in_threads run last ending plays =
      let s = play_machine command p in
      let words = seeded_words command.seed in
      let limits = (play_terms command).limits in
      let is = plays_are_runs s some_quota listed limits words run last ending plays in
      let cause = endings_have_causes s some_quota listed limits words run last ending plays in record {
        reaches = is.0;
        ended = λ finishes. subst (PlayHasCause s limits words 0 opening run last) finishes cause;
        none_free = λ finishes. is.1;
        stopped_by = λ stop stops. stop_has_cause run last stop (subst (IsPlay command p run last) stops plays);
      }
