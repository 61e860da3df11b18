-- What holds of each play of `async` with one worker.
use Rattle.std.proofs.Common.{◌≡◌, ◌≢◌, ◌⊎◌, subst, ℕ, ◌*◌, ◌<◌, List, ◌++◌, length, ℤ, pos, ◌+ℤ◌, ◌≤ℤ◌, arith, refl, ◌∙◌}
use Rattle.std.proofs.Math.Logic.{∥∥₁_map}
use Rattle.std.proofs.lemmas.Int.{ints}
use Rattle.command_line.specs.declared.command.Command.{Command}
use Rattle.command_line.specs.declared.setting.Setting.TheVariants.{Quota}
use Rattle.depth_first_list.specs.Actions.{peak}
use Rattle.depth_first_list.specs.Runs.{IsDepthFirst}
use Rattle.depth_first_run.proofs.Built.{whole_is_depth_first}
use Rattle.depth_first_run.specs.Run.{whole, lines_of, finish_of_run}
use Rattle.deque_machine.specs.Moments.{Moment, opening}
use Rattle.deque_machine.specs.Play.{Ending, finished, stopped, arena_full}
use Rattle.deque_machine.specs.Runs.{Pair}
use Rattle.deque_machine.specs.Books.{periods_marked}
use Rattle.par_tree.specs.Tree.{Program}
use Rattle.ready_machine.proofs.Playing.{plays_are_runs, endings_have_causes, arenas_with_the_bound_last}
use Rattle.ready_machine.specs.ReadyMachine.{ReadyReaches}
use Rattle.run_report.specs.Shown.{ReportShown}
use Rattle.dfd_plays.specs.Answer.{HasRanges}
use Rattle.dfd_plays.specs.Async.{IsAsyncPlay, AsyncMakes, async_terms, async_machine}
use Rattle.dfd_plays.specs.Play.{TellsEnding, Reports, play_setting, seeded_words}
use Rattle.dfd_plays.specs.declared.status.Status.{Status}
use Rattle.dfd_plays.specs.declared.status.Status.TheVariants.{Done, UserFault}
use Rattle.dfd_laws.specs.AsyncHeadline.{StaysLow, IsLowReport}
use Rattle.dfd_laws.specs.Headline.{play_list}
use Rattle.dfd_laws.proofs.OneWorker.{none_marked, none_ahead, never_above_peak, in_list_order, peak_covers, high_is_peak}
use Rattle.dfd_laws.proofs.Statuses.{not_stopped}

module _ (command : Command) (p : Program) (ranges : HasRanges command) where
  some_quota : 0 < command.k
  some_quota = omega (arith, (ranges.numbers Quota).0)

  listed : IsDepthFirst command.k (play_list command p)
  listed = whole_is_depth_first (play_setting command p)

  pub async_of_one_stays_low : command.p ≡ 1 → (run : List Pair) (last : Moment) (ending : Ending) → IsAsyncPlay command p run last ending →
      (front rest : List Pair) → run ≡ front ++ rest → (m : Moment) → ReadyReaches (async_machine command p) opening front m →
      StaysLow command p front m
  async_of_one_stays_low one run last ending plays front rest is m reaches = record {
    as_listed = in_list_order (async_machine command p) some_quota listed one front m reaches;
    none_marked = none_marked (async_machine command p) some_quota listed one front m reaches;
    none_ahead = λ n prefix. none_ahead (async_machine command p) some_quota listed one front m n reaches prefix;
    low = never_above_peak (async_machine command p) some_quota listed one front m reaches;
  }

  reported : command.p ≡ 1 → (run : List Pair) (last : Moment) (ending : Ending) (status : Status) (text : List ℕ) →
      IsAsyncPlay command p run last ending → TellsEnding (Reports (play_setting command p)) (play_setting command p) run last ending status text →
      (status ≡ Done) ⊎ (status ≡ UserFault) → (shown : ReportShown) × IsLowReport command p text shown
  reported one run last (stopped stop) status text plays told ended = absurd (not_stopped status stop told.0 ended)
  reported one run last finished status text plays told ended =
      let s = async_machine command p in
      let words = seeded_words command.seed in
      let reaches = (plays_are_runs s (async_terms command).limits words run last finished plays).0 in
      let has = endings_have_causes s (async_terms command).limits words run last finished plays in
      let high : pos told.1.0 ≡ peak (play_list command p) = told.1.1.0 ∙ high_is_peak s some_quota listed one run last reaches has in (
        record {
          lines = lines_of (whole (play_setting command p)).items;
          finish = finish_of_run (play_setting command p);
          periods = length last.books;
          ahead = periods_marked last.books;
          high = told.1.0;
        },
        record {
          report = record {
            is = told.1.1.1;
            lines = refl;
            finish = refl;
            bounded = within (pos told.1.0) (peak (play_list command p)) (2 * command.k * periods_marked last.books) high;
          };
          none_ahead = none_marked s some_quota listed one run last reaches;
          high = high;
        },
      )
    where
      within : (x top : ℤ) (more : ℕ) → x ≡ top → x ≤ℤ (top +ℤ pos more)
      within x top more is = omega (arith, ints, is)

  pub async_of_one_reports_the_peak : command.p ≡ 1 → (status : Status) (text : List ℕ) → AsyncMakes command p status text →
      (status ≡ Done) ⊎ (status ≡ UserFault) → ∥ ((shown : ReportShown) × IsLowReport command p text shown) ∥₁
  async_of_one_reports_the_peak one status text makes ended =
      ∥∥₁_map makes (λ w. reported one w.0 w.1 w.2 status text w.3 w.4 ended)

  pub async_of_one_lasts_at_the_peak : command.p ≡ 1 → (run : List Pair) (last : Moment) (ending : Ending) → IsAsyncPlay command p run last ending →
      peak (play_list command p) ≤ℤ pos command.arena → (live : ℤ) (asked : ℕ) → ending ≢ stopped (arena_full live asked)
  async_of_one_lasts_at_the_peak one run last ending plays room live asked is =
      let s = async_machine command p in
      let words = seeded_words command.seed in
      let reaches = (plays_are_runs s (async_terms command).limits words run last ending plays).0 in
      arenas_with_the_bound_last s some_quota listed (async_terms command).limits words run last live asked
      (peak_covers s some_quota listed one run last command.arena reaches room)
      (subst (λ e. IsAsyncPlay command p run last e) is plays)
