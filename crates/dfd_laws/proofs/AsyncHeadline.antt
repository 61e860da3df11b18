-- What holds of each play of `async`, by the laws of the ready list.
use Rattle.std.proofs.Common.{◌≡◌, ◌⊎◌, inl, inr, ℕ, ◌<◌, ◌≤◌, ℤ, List, [], ◌∷◌, ◌++◌, length, pos, arith, refl, sym, ap, subst, ◌∙◌}
use Rattle.std.proofs.Math.Logic.{∥∥₁_elim}
use denote.Struct.Props.{props}
use Rattle.std.specs.Prelude.{◌≤ℤ◌}
use Rattle.command_line.specs.declared.command.Command.{Command}
use Rattle.command_line.specs.declared.setting.Setting.TheVariants.{Quota, Workers}
use Rattle.dag_order.specs.declared.finish.Finish.{Finish}
use Rattle.dag_order.specs.declared.finish.Finish.TheVariants as finishes
use Rattle.depth_first_list.specs.Runs.{IsDepthFirst}
use Rattle.depth_first_run.proofs.Built.{whole_is_depth_first}
use Rattle.depth_first_run.specs.Run.{finish_of_run}
use Rattle.deque_machine.specs.Machine.{Setting}
use Rattle.deque_machine.specs.Moments.{Moment, opening}
use Rattle.deque_machine.specs.Play.{Ending, finished, stopped, arena_full, steps_spent, deques_full, words_taken}
use Rattle.deque_machine.specs.Runs.{Pair, high_water_mark}
use Rattle.deque_machine.specs.Books.{periods_marked, bound}
use Rattle.deque_machine.specs.Lists.{total}
use Rattle.par_tree.specs.Tree.{Program}
use Rattle.ready_machine.proofs.Along.{reached_is_ready, bound_in_ready, ahead_is_marked, marks_never_fall, marked_bound, arena_refuses, events_keep_ready}
use Rattle.ready_machine.proofs.Coming.{wanted_may_come}
use Rattle.ready_machine.proofs.Ends.{runs_end}
use Rattle.ready_machine.proofs.Playing.{plays_are_runs, plays_end, plays_finish, endings_have_causes, lists_never_fill, actions_suffice, arenas_with_room_last, arenas_with_the_bound_last}
use Rattle.ready_machine.proofs.Sharing.{opening_is_ready}
use Rattle.ready_machine.specs.Entries.{IsReadyList}
use Rattle.ready_machine.specs.PlayLaws.{ReadyCoversNext}
use Rattle.ready_machine.specs.ReadyMachine.{MayReady, ReadyReaches}
use Rattle.ready_machine.specs.ReadyPlay.{CanGo, ReadyTurn}
use Rattle.ready_machine.proofs.Ones.{one_way}
use Rattle.run_report.specs.Shown.{ReportShown}
use Rattle.dfd_plays.specs.Answer.{HasRanges}
use Rattle.dfd_plays.specs.Async.{IsAsyncPlay, AsyncMakes, async_terms, async_machine}
use Rattle.dfd_laws.specs.AsyncHeadline.{AsyncHasDrawn}
use Rattle.dfd_laws.specs.Headline.{play_list, BoundHolds, BoundStays, IsBoundedReport, HasShortPlays, StopsLate, LastsInArena, LastsInActions}
use Rattle.dfd_plays.specs.Peak.{finish_status}
use Rattle.dfd_plays.specs.Play.{TellsEnding, Reports, play_setting, seeded_words}
use Rattle.dfd_plays.specs.Status.{code_of}
use Rattle.dfd_plays.specs.declared.status.Status.{Status}
use Rattle.dfd_plays.specs.declared.status.Status.TheVariants.{Done, UserFault, DequesFull}
use Rattle.dfd_laws.proofs.ArenaStops.{filling_weighs, filled, asked_at}
use Rattle.dfd_laws.proofs.Headline.{in_range, bounded_reports}
use Rattle.dfd_laws.proofs.Statuses.{same_status}

-- a front of a run reaches a moment, and the rest goes on from there
reached_front : (s : Setting) (front rest : List Pair) (first last : Moment) → ReadyReaches s first (front ++ rest) last →
    (m : Moment) × ReadyReaches s first front m × ReadyReaches s m rest last
reached_front s [] rest first last reaches = (first, refl, reaches)
reached_front s (pair ∷ front) rest first last reaches =
    let more = reached_front s front rest reaches.0 last reaches.2 in (more.0, (reaches.0, reaches.1, more.1), more.2)

-- and it reaches no other
one_reached : (s : Setting) → 0 < s.quota → IsDepthFirst s.quota s.list → (run : List Pair) (first one other : Moment) → IsReadyList s first →
    ReadyReaches s first run one → ReadyReaches s first run other → one ≡ other
one_reached s some list [] first one other lawful reaches reaches' = sym reaches ∙ reaches'
one_reached s some list (pair ∷ run) first one other lawful reaches reaches' =
    let same : reaches.0 ≡ reaches'.0 = one_way s some list first reaches.0 reaches'.0 pair.worker pair.event lawful reaches.1 reaches'.1 in
    one_reached s some list run reaches.0 one other (events_keep_ready s some list first reaches.0 pair.worker pair.event lawful reaches.1) reaches.2
    (subst (λ m. ReadyReaches s m run other) (sym same) reaches'.2)

-- the status of a finish is not that of a full list
not_finish : (finish : Finish) → finish_status finish ≡ DequesFull → ⊥
not_finish finishes.Done is = omega (arith, ap code_of is)
not_finish (finishes.Faulted at) is = omega (arith, ap code_of is)

module _ (command : Command) (p : Program) (ranges : HasRanges command) where
  some_quota : 0 < command.k
  some_quota = omega (arith, (ranges.numbers Quota).0)

  listed : IsDepthFirst command.k (play_list command p)
  listed = whole_is_depth_first (play_setting command p)

  holds_at : (run : List Pair) (m : Moment) → ReadyReaches (async_machine command p) opening run m → BoundHolds command p m
  holds_at run m reaches = let ready = reached_is_ready (async_machine command p) some_quota listed run m reaches in record {
    bounded = λ n prefix. bound_in_ready (async_machine command p) some_quota listed run m n reaches prefix;
    in_order = ready.lawful.order.rises;
    once = ready.lawful.periods.lawful.different;
  }

  pub async_moments_are_bounded : (run : List Pair) (last : Moment) (ending : Ending) → IsAsyncPlay command p run last ending →
      (front rest : List Pair) → run ≡ front ++ rest → BoundStays (ReadyReaches (async_machine command p) opening) command p front last
  async_moments_are_bounded run last ending plays front rest is =
      let s = async_machine command p in
      let reaches = (plays_are_runs s (async_terms command).limits (seeded_words command.seed) run last ending plays).0 in
      let cut = reached_front s front rest opening last (subst (λ r. ReadyReaches s opening r last) is reaches) in
      record {
        moment = cut.0;
        reached = cut.1;
        each = λ m reached. holds_at front m reached;
        told = λ m n reached prefix.
            let same : m ≡ cut.0 = one_reached s some_quota listed front opening m cut.0 (opening_is_ready s listed) reached cut.1 in
            let ahead = ahead_is_marked s some_quota listed front m n reached prefix in
            let ready = reached_is_ready s some_quota listed front m reached in
            let marked = marks_never_fall s some_quota listed rest m last ready (subst (λ x. ReadyReaches s x rest last) (sym same) cut.2) in
            omega (arith, ahead, marked);
      }

  -- the high-water mark of a play is within the bound of its marked periods
  marks_bound : (run : List Pair) (last : Moment) (ending : Ending) → IsAsyncPlay command p run last ending →
      high_water_mark (play_list command p) run ≤ℤ bound command.k (play_list command p) (periods_marked last.books)
  marks_bound run last ending plays =
      let reaches = (plays_are_runs (async_machine command p) (async_terms command).limits (seeded_words command.seed) run last ending plays).0 in
      marked_bound (async_machine command p) some_quota listed run last reaches

  pub async_reports_are_bounded : (status : Status) (text : List ℕ) → AsyncMakes command p status text → (status ≡ Done) ⊎ (status ≡ UserFault) →
      (status ≡ finish_status (finish_of_run (play_setting command p))) × ∥ ((shown : ReportShown) × IsBoundedReport command p text shown) ∥₁
  async_reports_are_bounded = bounded_reports IsAsyncPlay command p marks_bound

  -- the status of a play that ended otherwise is another one
  full : (run : List Pair) (last : Moment) (ending : Ending) (status : Status) (text : List ℕ) → IsAsyncPlay command p run last ending →
      TellsEnding (Reports (play_setting command p)) (play_setting command p) run last ending status text → status ≡ DequesFull → ⊥
  full run last finished status text plays told is =
      not_finish (finish_of_run (play_setting command p)) (sym told.0 ∙ is)
  full run last (stopped (arena_full live asked)) status text plays told is = omega (arith, ap code_of (sym told.0 ∙ is))
  full run last (stopped (steps_spent limit)) status text plays told is = omega (arith, ap code_of (sym told.0 ∙ is))
  full run last (stopped (deques_full deques)) status text plays told is =
      lists_never_fill (async_machine command p) some_quota listed (async_terms command).limits (seeded_words command.seed) run last deques plays

  pub async_lists_never_fill : (status : Status) (text : List ℕ) → AsyncMakes command p status text → status ≡ DequesFull → ⊥
  async_lists_never_fill status text makes is =
      ∥∥₁_elim makes (λ x y. absurd x) (λ w. full w.0 w.1 w.2 status text w.3 w.4 is)

  pub async_plays_end : HasShortPlays IsAsyncPlay command p
  async_plays_end =
      let s = async_machine command p in
      let quota = (ranges.numbers Quota).0 in
      let workers = (ranges.numbers Workers).0 in record {
        there_is_one = plays_end s some_quota listed (omega (arith, quota)) (omega (arith, workers)) (async_terms command).limits (seeded_words command.seed);
        each_is_short = λ run last ending plays.
            let reaches = plays_are_runs s (async_terms command).limits (seeded_words command.seed) run last ending plays in
            runs_end s some_quota listed (omega (arith, quota)) run last reaches.0 reaches.1;
      }

  pub async_arenas_stop_late : (run : List Pair) (last : Moment) (live : ℤ) (asked : ℕ) →
      IsAsyncPlay command p run last (stopped (arena_full live asked)) →
      (periods : ℕ) → bound command.k (play_list command p) periods ≤ℤ pos command.arena →
      StopsLate AsyncHasDrawn ReadyTurn MayReady command p run last live asked periods
  async_arenas_stop_late run last live asked plays periods room =
      let s = async_machine command p in
      let words = seeded_words command.seed in
      let limits = (async_terms command).limits in
      let ending = stopped (arena_full live asked) in
      let cause = endings_have_causes s limits words run last ending plays in
      let reaches = (plays_are_runs s limits words run last ending plays).0 in
      let ready : IsReadyList s last = reached_is_ready s some_quota listed run last reaches in
      let fills = filled s limits last (cause.1).event live asked cause.3 in
      let asks = asked_at s limits last (cause.1).event live asked fills.0 fills.1 cause.3 in
      let below = in_range command.p (words cause.0) (CanGo last) (cause.1).worker (cause.2).first in
      let comes = wanted_may_come s listed last (cause.1).worker (cause.1).event ready below (cause.2).wants in record {
        drawn = cause.0;
        drew = cause.4;
        worker = (cause.1).worker;
        place = fills.0;
        turn = subst (λ e. ReadyTurn s words cause.0 last (record { worker = (cause.1).worker; event = e })) fills.1 cause.2;
        late = record {
          live_is = asks.0;
          asked_is = asks.1;
          fills = fills.2;
          after = comes.0;
          may = subst (λ e. MayReady s last (cause.1).worker e comes.0) fills.1 comes.1;
          more_ahead = λ other next later full may n prefix.
              arena_refuses s some_quota listed run last later other next n periods command.arena reaches may room
              (filling_weighs s limits last next full) prefix;
        };
      }

  pub async_arenas_suffice : (run : List Pair) (last : Moment) (ending : Ending) → IsAsyncPlay command p run last ending → LastsInArena ReadyCoversNext command p last ending
  async_arenas_suffice run last ending plays (inl room) live asked is =
      arenas_with_room_last (async_machine command p) some_quota listed (async_terms command).limits (seeded_words command.seed) run last live asked room
      (subst (λ e. IsAsyncPlay command p run last e) is plays)
  async_arenas_suffice run last ending plays (inr covers) live asked is =
      arenas_with_the_bound_last (async_machine command p) some_quota listed (async_terms command).limits (seeded_words command.seed) run last live asked covers
      (subst (λ e. IsAsyncPlay command p run last e) is plays)

  pub async_actions_suffice : (run : List Pair) (last : Moment) (ending : Ending) → IsAsyncPlay command p run last ending → LastsInActions command p last ending
  async_actions_suffice run last ending plays room limit is =
      actions_suffice (async_machine command p) some_quota listed (async_terms command).limits (seeded_words command.seed) run last limit room
      (subst (λ e. IsAsyncPlay command p run last e) is plays)

  pub async_plays_with_room_finish : (run : List Pair) (last : Moment) (ending : Ending) → IsAsyncPlay command p run last ending →
      total words_taken (play_list command p) ≤ command.arena → length (play_list command p) ≤ command.steps → ending ≡ finished
  async_plays_with_room_finish run last ending plays words actions =
      plays_finish (async_machine command p) some_quota listed (async_terms command).limits (seeded_words command.seed) run last ending words actions plays

  told_finished : (run : List Pair) (last : Moment) (ending : Ending) (status : Status) (text : List ℕ) → ending ≡ finished →
      TellsEnding (Reports (play_setting command p)) (play_setting command p) run last ending status text →
      status ≡ finish_status (finish_of_run (play_setting command p))
  told_finished run last ending status text is told =
      (subst (λ e. TellsEnding (Reports (play_setting command p)) (play_setting command p) run last e status text) is told).0

  pub async_statuses_with_room : (status : Status) (text : List ℕ) → AsyncMakes command p status text →
      total words_taken (play_list command p) ≤ command.arena → length (play_list command p) ≤ command.steps →
      status ≡ finish_status (finish_of_run (play_setting command p))
  async_statuses_with_room status text makes words actions =
      same_status status (finish_status (finish_of_run (play_setting command p))) (∥∥₁_elim makes (search props)
      (λ w. ap code_of (told_finished w.0 w.1 w.2 status text (async_plays_with_room_finish w.0 w.1 w.2 w.3 words actions) w.4)))
