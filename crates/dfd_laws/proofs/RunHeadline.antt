-- What holds of each run by threads, by the laws of the machine.
use Rattle.std.proofs.Common.{◌≡◌, ◌≢◌, ◌⊎◌, ℕ, ◌<◌, ◌≤◌, List, ◌++◌, length, ℤ, pos, inl, inr, arith, refl, subst}
use Rattle.std.specs.Prelude.{◌≤ℤ◌}
use Rattle.command_line.specs.declared.command.Command.{Command}
use Rattle.command_line.specs.declared.setting.Setting.TheVariants.{Quota}
use Rattle.depth_first_list.specs.Runs.{IsDepthFirst}
use Rattle.depth_first_run.proofs.Built.{whole_is_depth_first}
use Rattle.depth_first_run.specs.Run.{finish_of_run}
use Rattle.deque_machine.proofs.Playing.{Excluded, wanted_meets_none}
use Rattle.deque_machine.specs.Books.{bound}
use Rattle.deque_machine.specs.Moments.{Moment, opening}
use Rattle.deque_machine.specs.Play.{Ending, Stop, stopped, arena_full, steps_spent, deques_full, Wants, words_taken, one_if_fork}
use Rattle.deque_machine.specs.Runs.{Pair, Reaches}
use Rattle.deque_machine.specs.Lists.{total}
use Rattle.hall_machine.specs.Runs.{MeetsOnTheWay}
use Rattle.par_tree.specs.Tree.{Program}
use Rattle.run_report.specs.Shown.{ReportShown}
use Rattle.dfd_plays.specs.Answer.{HasRanges}
use Rattle.dfd_plays.specs.Peak.{finish_status}
use Rattle.dfd_plays.specs.Play.{play_setting, play_terms, play_machine}
use Rattle.dfd_plays.specs.Threads.{IsRunByThreads, RunMakes}
use Rattle.dfd_plays.specs.declared.status.Status.{Status}
use Rattle.dfd_plays.specs.declared.status.Status.TheVariants.{Done, UserFault, DequesFull}
use Rattle.dfd_laws.specs.Headline.{play_list, BoundStays, IsBoundedReport}
use Rattle.dfd_laws.specs.RunHeadline.{CoversOnTheWay, RunStopsLate}
use Rattle.dfd_laws.proofs.Headline.{bounded_reports, run_is_bounded, mark_is_bounded, fills_late, statuses_left}

module _ (command : Command) (p : Program) (ranges : HasRanges command) where
  pub moments_are_bounded : (run : List Pair) (last : Moment) (ending : Ending) → IsRunByThreads command p run last ending →
      (front rest : List Pair) → run ≡ front ++ rest → BoundStays (Reaches (play_machine command p) opening) command p front last
  moments_are_bounded run last ending runs = run_is_bounded command p ranges run last runs.reaches

  pub reports_are_bounded : (status : Status) (text : List ℕ) → RunMakes command p status text → (status ≡ Done) ⊎ (status ≡ UserFault) →
      (status ≡ finish_status (finish_of_run (play_setting command p))) × ∥ ((shown : ReportShown) × IsBoundedReport command p text shown) ∥₁
  reports_are_bounded =
      bounded_reports IsRunByThreads command p (λ run last ending runs. mark_is_bounded command p ranges run last runs.reaches)

  -- a stop that a run met on its way is not excluded there
  met_none : (run : List Pair) (stop : Stop) (met : MeetsOnTheWay (play_machine command p) (play_terms command).limits run stop) →
      Excluded (play_machine command p) (play_terms command).limits met.3 stop → ⊥
  met_none run stop met none =
      let some : 0 < command.k = omega (arith, (ranges.numbers Quota).0) in
      let listed : IsDepthFirst command.k (play_list command p) = whole_is_depth_first (play_setting command p) in
      let at = met.5 in
      wanted_meets_none (play_machine command p) some listed (play_terms command).limits met.0 met.3 met.4 at.0 at.2 at.3 at.1 at.4 stop at.5 none

  -- the arena stops a run where it has no room for an action that the rules want of a worker
  pub arenas_stop_late : (run : List Pair) (last : Moment) (live : ℤ) (asked : ℕ) →
      IsRunByThreads command p run last (stopped (arena_full live asked)) →
      (periods : ℕ) → bound command.k (play_list command p) periods ≤ℤ pos command.arena → RunStopsLate command p run live asked periods
  arenas_stop_late run last live asked runs periods room =
      let met = runs.stopped_by (arena_full live asked) refl in
      let at = met.5 in
      let stops = fills_late command p ranges met.0 met.3 met.4 at.0 at.2 at.3 at.1 at.4 live asked at.5 periods room in record {
        front = met.0;
        rest = met.1;
        is = met.2;
        moment = met.3;
        reached = met.4;
        worker = at.0;
        below = at.1;
        word = at.2;
        place = stops.0;
        wants = subst (Wants (play_machine command p) met.3 at.0 at.2) stops.1 at.4;
        late = stops.2;
      }

  -- an arena stops no run that has room for all words that are ever taken, or for the bound at each moment on the way
  pub arena_suffices : (run : List Pair) (last : Moment) (ending : Ending) → IsRunByThreads command p run last ending →
      (total words_taken (play_list command p) ≤ command.arena) ⊎ CoversOnTheWay command p run → (live : ℤ) (asked : ℕ) →
      ending ≢ stopped (arena_full live asked)
  arena_suffices run last ending runs room live asked is =
      let met = runs.stopped_by (arena_full live asked) is in
      met_none run (arena_full live asked) met (elim room [
        | inl words ↦ inl words
        | inr covers ↦ inr (covers met.0 met.1 met.2 met.3 met.4)
      ])

  -- more deques than the list has Forks are never all there
  pub deques_suffice : (run : List Pair) (last : Moment) (ending : Ending) → IsRunByThreads command p run last ending →
      total one_if_fork (play_list command p) < command.deques → (deques : ℕ) → ending ≢ stopped (deques_full deques)
  deques_suffice run last ending runs many deques is = met_none run (deques_full deques) (runs.stopped_by (deques_full deques) is) many

  -- and a limit of as many actions as there are stops none
  lasts : length (play_list command p) ≤ command.steps → (run : List Pair) (last : Moment) (ending : Ending) →
      IsRunByThreads command p run last ending → (limit : ℕ) → ending ≢ stopped (steps_spent limit)
  lasts actions run last ending runs limit is = let few = (runs.stopped_by (steps_spent limit) is).1 in omega (arith, few, actions)

  pub statuses_with_room : (status : Status) (text : List ℕ) → RunMakes command p status text →
      total words_taken (play_list command p) ≤ command.arena → length (play_list command p) ≤ command.steps →
      (status ≡ Done) ⊎ ((status ≡ UserFault) ⊎ (status ≡ DequesFull))
  statuses_with_room status text makes words actions = statuses_left IsRunByThreads command p
      (λ run last ending runs. arena_suffices run last ending runs (inl words)) (lasts actions) status text makes
