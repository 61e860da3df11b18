-- What holds of each play, by the laws of the machine.
use Rattle.std.proofs.Common.{◌≡◌, ◌≢◌, ◌⊎◌, inl, inr, ℕ, suc, ◌+◌, ◌<◌, ◌≤◌, List, [], ◌∷◌, ◌++◌, length, ℤ, pos, arith, refl, sym, ap, subst, ◌∙◌}
use Rattle.std.proofs.Math.Logic.{∥∥₁_elim, ∥∥₁_map}
use Rattle.std.proofs.Math.Nat.{mod-lt}
use Rattle.std.proofs.lemmas.Bool.{cases_eq}
use denote.Struct.Props.{props}
use Rattle.std.specs.Prelude.{◌≤ℤ◌}
use Rattle.command_line.specs.declared.command.Command.{Command}
use Rattle.command_line.specs.declared.setting.Setting.TheVariants.{Quota, Workers}
use Rattle.dag_order.specs.declared.finish.Finish.{Finish}
use Rattle.dag_order.specs.declared.finish.Finish.TheVariants as finishes
use Rattle.depth_first_list.specs.Runs.{IsDepthFirst}
use Rattle.depth_first_run.proofs.Built.{whole_is_depth_first}
use Rattle.depth_first_run.specs.Run.{whole, lines_of, finish_of_run}
use Rattle.deque_machine.proofs.Ends.{runs_end}
use Rattle.deque_machine.proofs.Kept.{opening_is_lawful}
use Rattle.deque_machine.proofs.Playing.{Excluded, excluded, plays_are_runs, plays_end, plays_finish, wanted_may_come}
use Rattle.deque_machine.proofs.Reached.{lawful_along, events_keep_lawful, bound_always, ahead_is_marked, marks_never_fall, marked_bound, arena_refuses}
use Rattle.deque_machine.specs.Completeness.{CoversNext}
use Rattle.deque_machine.specs.LawfulOrder.{IsLawful}
use Rattle.deque_machine.specs.Machine.{Setting, Event, does, May}
use Rattle.deque_machine.specs.Moments.{Moment, opening}
use Rattle.deque_machine.specs.Play.{Stop, arena_full, steps_spent, deques_full, Ending, finished, stopped, IsFirst, CanMove, Wants, Meets, Turn, words_taken, one_if_fork}
use Rattle.deque_machine.specs.Runs.{Pair, Reaches, high_water_mark}
use Rattle.deque_machine.specs.Books.{periods_marked, bound, booked}
use Rattle.deque_machine.specs.Lists.{total}
use Rattle.deque_machine.proofs.OnePlay.{one_way, endings_have_causes}
use Rattle.par_tree.specs.Tree.{Program}
use Rattle.run_report.specs.Shown.{ReportShown}
use Rattle.run_report.specs.declared.summary.Summary.{Summary}
use Rattle.dfd_plays.specs.Make.{MakeMakes, Summarizes, sum_of}
use Rattle.dfd_plays.specs.Answer.{HasRanges}
use Rattle.dfd_laws.specs.Headline.{play_list, BoundHolds, BoundStays, HasShortPlays, HasDrawn, FillsLate, StopsLate, LastsInArena, LastsInActions, LastsInDeques, IsBoundedReport, IsBoundedSummary}
use Rattle.dfd_plays.specs.Peak.{finish_status}
use Rattle.dfd_plays.specs.Play.{IsPlay, TellsRun, TellsEnding, Reports, PlayMakes, play_setting, play_terms, play_machine, seeded_words}
use Rattle.dfd_plays.specs.Status.{code_of}
use Rattle.dfd_plays.specs.declared.status.Status.{Status}
use Rattle.dfd_plays.specs.declared.status.Status.TheVariants.{Done, UserFault, DequesFull}
use Rattle.dfd_laws.proofs.ArenaStops.{filling_weighs, filled, asked_at}
use Rattle.dfd_laws.proofs.Statuses.{same_status, not_stopped}

-- a front of a run reaches a moment, and the rest goes on from there
reached_front : (s : Setting) (front rest : List Pair) (first last : Moment) → Reaches s first (front ++ rest) last →
    (m : Moment) × Reaches s first front m × Reaches s m rest last
reached_front s [] rest first last reaches = (first, refl, reaches)
reached_front s (pair ∷ front) rest first last reaches =
    let more = reached_front s front rest reaches.0 last reaches.2 in (more.0, (reaches.0, reaches.1, more.1), more.2)

-- and it reaches no other
one_reached : (s : Setting) → 0 < s.quota → IsDepthFirst s.quota s.list → (run : List Pair) (first one other : Moment) → IsLawful s first →
    Reaches s first run one → Reaches s first run other → one ≡ other
one_reached s some list [] first one other lawful reaches reaches' = sym reaches ∙ reaches'
one_reached s some list (pair ∷ run) first one other lawful reaches reaches' =
    let same : reaches.0 ≡ reaches'.0 = one_way s some list first reaches.0 reaches'.0 pair.worker pair.event lawful reaches.1 reaches'.1 in
    one_reached s some list run reaches.0 one other (events_keep_lawful s some list first reaches.0 pair.worker pair.event lawful reaches.1) reaches.2
    (subst (λ m. Reaches s m run other) (sym same) reaches'.2)

-- the first that passes is below n
pub in_range : (n word : ℕ) (Passes : ℕ → Type 0) (x : ℕ) → IsFirst n word Passes x → x < n
in_range n word Passes x first =
    let few = first.few in subst (λ t. t < n) (sym first.is) (mod-lt (word + first.turns) (let some : 0 < n = omega arith in some))

-- what is reported of runs of a kind whose high-water marks are within the bound
module _ (IsRun : Command → Program → List Pair → Moment → Ending → Type 0) (command : Command) (p : Program)
    (marked : (run : List Pair) (last : Moment) (ending : Ending) → IsRun command p run last ending →
    high_water_mark (play_list command p) run ≤ℤ bound command.k (play_list command p) (periods_marked last.books)) where
  reported : (run : List Pair) (last : Moment) (ending : Ending) (status : Status) (text : List ℕ) → IsRun command p run last ending →
      TellsEnding (Reports (play_setting command p)) (play_setting command p) run last ending status text → (status ≡ Done) ⊎ (status ≡ UserFault) →
      (status ≡ finish_status (finish_of_run (play_setting command p))) × ((shown : ReportShown) × IsBoundedReport command p text shown)
  reported run last (stopped stop) status text plays told ended = absurd (not_stopped status stop told.0 ended)
  reported run last finished status text plays told ended = (
    told.0,
    (
      record {
        lines = lines_of (whole (play_setting command p)).items;
        finish = finish_of_run (play_setting command p);
        periods = length last.books;
        ahead = periods_marked last.books;
        high = told.1.0;
      },
      record {
        is = told.1.1.1;
        lines = refl;
        finish = refl;
        bounded = subst (λ z. z ≤ℤ bound command.k (play_list command p) (periods_marked last.books)) (sym told.1.1.0)
            (marked run last finished plays);
      },
    ),
  )

  pub bounded_reports : (status : Status) (text : List ℕ) → TellsRun IsRun Reports command p status text → (status ≡ Done) ⊎ (status ≡ UserFault) →
      (status ≡ finish_status (finish_of_run (play_setting command p))) × ∥ ((shown : ReportShown) × IsBoundedReport command p text shown) ∥₁
  bounded_reports status text makes ended = (
    same_status status (finish_status (finish_of_run (play_setting command p)))
        (∥∥₁_elim makes (search props) (λ w. ap code_of (reported w.0 w.1 w.2 status text w.3 w.4 ended).0)),
    ∥∥₁_map makes (λ w. (reported w.0 w.1 w.2 status text w.3 w.4 ended).1),
  )

-- which statuses are left to runs of a kind that neither an arena nor a limit of actions stops
module _ (IsRun : Command → Program → List Pair → Moment → Ending → Type 0) (command : Command) (p : Program)
    (fits : (run : List Pair) (last : Moment) (ending : Ending) → IsRun command p run last ending → (live : ℤ) (asked : ℕ) →
    ending ≢ stopped (arena_full live asked))
    (lasts : (run : List Pair) (last : Moment) (ending : Ending) → IsRun command p run last ending → (limit : ℕ) →
    ending ≢ stopped (steps_spent limit)) where
  status_left : (run : List Pair) (last : Moment) (ending : Ending) (status : Status) (text : List ℕ) → IsRun command p run last ending →
      TellsEnding (Reports (play_setting command p)) (play_setting command p) run last ending status text →
      (status ≡ Done) ⊎ ((status ≡ UserFault) ⊎ (status ≡ DequesFull))
  status_left run last finished status text runs told = elim (finish_status_is (finish_of_run (play_setting command p))) [
    | inl done ↦ inl (told.0 ∙ done)
    | inr fault ↦ inr (inl (told.0 ∙ fault))
  ]
    where
      finish_status_is : (finish : Finish) → (finish_status finish ≡ Done) ⊎ (finish_status finish ≡ UserFault)
      finish_status_is finishes.Done = inl refl
      finish_status_is (finishes.Faulted fault) = inr refl
  status_left run last (stopped (arena_full live asked)) status text runs told =
      absurd (fits run last (stopped (arena_full live asked)) runs live asked refl)
  status_left run last (stopped (steps_spent limit)) status text runs told =
      absurd (lasts run last (stopped (steps_spent limit)) runs limit refl)
  status_left run last (stopped (deques_full deques)) status text runs told = inr (inr told.0)

  some_status : (n : ℕ) → (n ≡ 0) ⊎ ((n ≡ 6) ⊎ (n ≡ 9)) → (status : Status) → n ≡ code_of status →
      (status ≡ Done) ⊎ ((status ≡ UserFault) ⊎ (status ≡ DequesFull))
  some_status n among status is = elim among [
    | inl zero_is ↦ inl (same_status status Done (sym is ∙ zero_is))
    | inr other ↦ elim other [
      | inl six ↦ inr (inl (same_status status UserFault (sym is ∙ six)))
      | inr nine ↦ inr (inr (same_status status DequesFull (sym is ∙ nine)))
    ]
  ]

  pub statuses_left : (status : Status) (text : List ℕ) → TellsRun IsRun Reports command p status text →
      (status ≡ Done) ⊎ ((status ≡ UserFault) ⊎ (status ≡ DequesFull))
  statuses_left status text makes = some_status (code_of status) (among (cases_eq (code_of status) 0) (cases_eq (code_of status) 6)) status refl
    where
      of_one : (code : ℕ) → (status : Status) → (status ≡ Done) ⊎ ((status ≡ UserFault) ⊎ (status ≡ DequesFull)) → (code_of status ≡ 0 → ⊥) → (code_of status ≡ 6 → ⊥) → code_of status ≡ 9
      of_one code status (inl is) no_zero no_six = absurd (no_zero (ap code_of is))
      of_one code status (inr (inl is)) no_zero no_six = absurd (no_six (ap code_of is))
      of_one code status (inr (inr is)) no_zero no_six = ap code_of is

      among : (code_of status ≡ 0) ⊎ (code_of status ≢ 0) → (code_of status ≡ 6) ⊎ (code_of status ≢ 6) → (code_of status ≡ 0) ⊎ ((code_of status ≡ 6) ⊎ (code_of status ≡ 9))
      among (inl zero_is) six = inl zero_is
      among (inr no_zero) (inl six) = inr (inl six)
      among (inr no_zero) (inr no_six) = inr (inr (∥∥₁_elim makes (search props)
          (λ w. of_one 0 status (status_left w.0 w.1 w.2 status text w.3 w.4) no_zero no_six)))

module _ (command : Command) (p : Program) (ranges : HasRanges command) where
  some_quota : 0 < command.k
  some_quota = omega (arith, (ranges.numbers Quota).0)

  listed : IsDepthFirst command.k (play_list command p)
  listed = whole_is_depth_first (play_setting command p)

  holds_at : (run : List Pair) (m : Moment) → Reaches (play_machine command p) opening run m → BoundHolds command p m
  holds_at run m reaches =
      let lawful : IsLawful (play_machine command p) m =
      lawful_along (play_machine command p) listed run opening m (opening_is_lawful (play_machine command p) listed) reaches in record {
        bounded = λ n prefix. bound_always (play_machine command p) some_quota listed run m n reaches prefix;
        in_order = lawful.order.rises;
        once = lawful.periods.lawful.different;
      }

  -- whatever picks the events of a run
  pub run_is_bounded : (run : List Pair) (last : Moment) → Reaches (play_machine command p) opening run last →
      (front rest : List Pair) → run ≡ front ++ rest → BoundStays (Reaches (play_machine command p) opening) command p front last
  run_is_bounded run last reaches front rest is =
      let s = play_machine command p in
      let cut = reached_front s front rest opening last (subst (λ r. Reaches s opening r last) is reaches) in
      record {
        moment = cut.0;
        reached = cut.1;
        each = λ m reached. holds_at front m reached;
        told = λ m n reached prefix.
            let same : m ≡ cut.0 = one_reached s some_quota listed front opening m cut.0 (opening_is_lawful s listed) reached cut.1 in
            let ahead = ahead_is_marked s some_quota listed front m n reached prefix in
            let marked = marks_never_fall s some_quota listed rest m last (subst (λ x. Reaches s x rest last) (sym same) cut.2) in
            omega (arith, ahead, marked);
      }

  pub moments_are_bounded : (run : List Pair) (last : Moment) (ending : Ending) → IsPlay command p run last ending →
      (front rest : List Pair) → run ≡ front ++ rest → BoundStays (Reaches (play_machine command p) opening) command p front last
  moments_are_bounded run last ending plays =
      run_is_bounded run last
      (plays_are_runs (play_machine command p) some_quota listed (play_terms command).limits (seeded_words command.seed) run last ending plays).0

  pub plays_end_soon : HasShortPlays IsPlay command p
  plays_end_soon =
      let s = play_machine command p in
      let quota = (ranges.numbers Quota).0 in
      let workers = (ranges.numbers Workers).0 in record {
        there_is_one = plays_end s some_quota listed (omega (arith, quota)) (omega (arith, workers)) (play_terms command).limits (seeded_words command.seed);
        each_is_short = λ run last ending plays.
            let reaches = plays_are_runs s some_quota listed (play_terms command).limits (seeded_words command.seed) run last ending plays in
            runs_end s some_quota listed (omega (arith, quota)) run last reaches.0 reaches.1;
      }

  -- the high-water mark of a run, and so of a play, is within the bound of its marked periods
  pub mark_is_bounded : (run : List Pair) (last : Moment) → Reaches (play_machine command p) opening run last →
      high_water_mark (play_list command p) run ≤ℤ bound command.k (play_list command p) (periods_marked last.books)
  mark_is_bounded run last reaches = marked_bound (play_machine command p) some_quota listed run last reaches

  marks_bound : (run : List Pair) (last : Moment) (ending : Ending) → IsPlay command p run last ending →
      high_water_mark (play_list command p) run ≤ℤ bound command.k (play_list command p) (periods_marked last.books)
  marks_bound run last ending plays =
      mark_is_bounded run last
      (plays_are_runs (play_machine command p) some_quota listed (play_terms command).limits (seeded_words command.seed) run last ending plays).0

  pub reports_are_bounded : (status : Status) (text : List ℕ) → PlayMakes command p status text → (status ≡ Done) ⊎ (status ≡ UserFault) →
      (status ≡ finish_status (finish_of_run (play_setting command p))) × ∥ ((shown : ReportShown) × IsBoundedReport command p text shown) ∥₁
  reports_are_bounded = bounded_reports IsPlay command p marks_bound

  summed_up : (bytes : List ℕ) (run : List Pair) (last : Moment) (ending : Ending) (status : Status) (text : List ℕ) →
      IsPlay command p run last ending →
      TellsEnding (Summarizes (length bytes) (play_setting command p)) (play_setting command p) run last ending status text →
      (status ≡ Done) ⊎ (status ≡ UserFault) → (shown : Summary) × IsBoundedSummary command p text shown
  summed_up bytes run last (stopped stop) status text plays told ended = absurd (not_stopped status stop told.0 ended)
  summed_up bytes run last finished status text plays told ended = (
    record {
      bytes = length bytes;
      lines = length (lines_of (whole (play_setting command p)).items);
      total = sum_of (lines_of (whole (play_setting command p)).items);
      actions = length (booked last.books);
      periods = length last.books;
      ahead = periods_marked last.books;
      high = told.1.0;
    },
    record {
      is = told.1.1.1;
      bounded = subst (λ z. z ≤ℤ bound command.k (play_list command p) (periods_marked last.books)) (sym told.1.1.0)
          (marks_bound run last finished plays);
    },
  )

  pub summaries_are_bounded : (bytes : List ℕ) (status : Status) (text : List ℕ) → MakeMakes command bytes p status text →
      (status ≡ Done) ⊎ (status ≡ UserFault) → ∥ ((shown : Summary) × IsBoundedSummary command p text shown) ∥₁
  summaries_are_bounded bytes status text makes ended =
      ∥∥₁_map makes (λ w. summed_up bytes w.0 w.1 w.2 status text w.3 w.4 ended)

  -- so it is where an arena stops an event that the rules want of a worker, at a moment of a run
  pub fills_late : (run : List Pair) (m : Moment) → Reaches (play_machine command p) opening run m → (worker word : ℕ) (event : Event) →
      worker < command.p → Wants (play_machine command p) m worker word event → (live : ℤ) (asked : ℕ) →
      Meets (play_machine command p) (play_terms command).limits m event (arena_full live asked) →
      (periods : ℕ) → bound command.k (play_list command p) periods ≤ℤ pos command.arena →
      (place : ℕ) × (event ≡ does place) × FillsLate May command p m worker place live asked periods
  fills_late run m reaches worker word event below wants live asked meets periods room =
      let s = play_machine command p in
      let limits = (play_terms command).limits in
      let lawful : IsLawful s m = lawful_along s listed run opening m (opening_is_lawful s listed) reaches in
      let fills = filled s limits m event live asked meets in
      let asks = asked_at s limits m event live asked fills.0 fills.1 meets in
      let comes = wanted_may_come s some_quota listed m worker word event lawful below wants in (
        fills.0,
        fills.1,
        record {
          live_is = asks.0;
          asked_is = asks.1;
          fills = fills.2;
          after = comes.0;
          may = subst (λ e. May s m worker e comes.0) fills.1 comes.1;
          more_ahead = λ other next later full may n prefix.
              arena_refuses s some_quota listed run m later other next n periods command.arena reaches may room
              (filling_weighs s limits m next full) prefix;
        },
      )

  pub arenas_stop_late : (run : List Pair) (last : Moment) (live : ℤ) (asked : ℕ) → IsPlay command p run last (stopped (arena_full live asked)) →
      (periods : ℕ) → bound command.k (play_list command p) periods ≤ℤ pos command.arena →
      StopsLate HasDrawn Turn May command p run last live asked periods
  arenas_stop_late run last live asked plays periods room =
      let s = play_machine command p in
      let words = seeded_words command.seed in
      let limits = (play_terms command).limits in
      let ending = stopped (arena_full live asked) in
      let cause = endings_have_causes s some_quota listed limits words run last ending plays in
      let below = in_range command.p (words cause.0) (CanMove s last) (cause.1).worker (cause.2).first in
      let reaches = (plays_are_runs s some_quota listed limits words run last ending plays).0 in
      let stops = fills_late run last reaches (cause.1).worker (words (suc cause.0)) (cause.1).event below (cause.2).wants live asked cause.3
      periods room in record {
        drawn = cause.0;
        drew = cause.4;
        worker = (cause.1).worker;
        place = stops.0;
        turn = subst (λ e. Turn s words cause.0 last (record { worker = (cause.1).worker; event = e })) stops.1 cause.2;
        late = stops.2;
      }

  -- a play does not end with a stop that is excluded
  none_of : (run : List Pair) (last : Moment) (ending : Ending) (stop : Stop) → IsPlay command p run last ending →
      Excluded (play_machine command p) (play_terms command).limits last stop → ending ≡ stopped stop → ⊥
  none_of run last ending stop plays none is =
      excluded (play_machine command p) some_quota listed (play_terms command).limits (seeded_words command.seed) run last stop none
      (subst (λ e. IsPlay command p run last e) is plays)

  pub arenas_suffice : (run : List Pair) (last : Moment) (ending : Ending) → IsPlay command p run last ending → LastsInArena CoversNext command p last ending
  arenas_suffice run last ending plays room live asked = none_of run last ending (arena_full live asked) plays room

  pub actions_suffice : (run : List Pair) (last : Moment) (ending : Ending) → IsPlay command p run last ending → LastsInActions command p last ending
  actions_suffice run last ending plays room limit = none_of run last ending (steps_spent limit) plays room

  pub deques_suffice : (run : List Pair) (last : Moment) (ending : Ending) → IsPlay command p run last ending → LastsInDeques command p last ending
  deques_suffice run last ending plays room deques = none_of run last ending (deques_full deques) plays room

  -- so these statuses are left
  pub statuses_with_room : (status : Status) (text : List ℕ) → PlayMakes command p status text →
      total words_taken (play_list command p) ≤ command.arena → length (play_list command p) ≤ command.steps →
      (status ≡ Done) ⊎ ((status ≡ UserFault) ⊎ (status ≡ DequesFull))
  statuses_with_room status text makes words actions =
      statuses_left IsPlay command p (λ run last ending plays. arenas_suffice run last ending plays (inl words))
      (λ run last ending plays. actions_suffice run last ending plays actions) status text makes

  pub plays_with_room_finish : (run : List Pair) (last : Moment) (ending : Ending) → IsPlay command p run last ending →
      total words_taken (play_list command p) ≤ command.arena → length (play_list command p) ≤ command.steps →
      total one_if_fork (play_list command p) < command.deques → ending ≡ finished
  plays_with_room_finish run last ending plays words actions deques =
      plays_finish (play_machine command p) some_quota listed (play_terms command).limits (seeded_words command.seed) run last ending
      words actions deques plays
