-- The trail of a play that finishes is accepted.
use Rattle.std.proofs.Common.{◌≡◌, ℕ, ◌≤◌, ◌<◌, ◌^◌, [], length, refl, sym, ap, subst, ◌∙◌, arith, ℤ, pos, ◌≤ℤ◌}
use Rattle.std.proofs.lemmas.Int.{ints}
use Rattle.std.proofs.lemmas.List.{length-map}
use Rattle.std.specs.Prelude.{Ok}
use Rattle.depth_first_list.specs.Runs.{IsDepthFirst}
use Rattle.depth_first_run.specs.States.{Setting}
use Rattle.depth_first_run.proofs.Built.{whole_is_depth_first}
use Rattle.deque_machine.specs.Books.{booked}
use Rattle.deque_machine.specs.Machine as machine
use Rattle.deque_machine.specs.Moments.{opening}
use Rattle.deque_machine.specs.Runs.{Reaches}
use Rattle.deque_machine.proofs.Ends.{runs_are_short}
use Rattle.deque_machine.proofs.Kept.{opening_is_lawful}
use Rattle.deque_machine.proofs.Playing.{plays_are_runs}
use Rattle.trail_check.specs.Good.{IsGood}
use Rattle.trail_check.specs.Told.{event_in_trail, events_in_trail}
use Rattle.trail_check.specs.Verdicts.{is_accepted}
use Rattle.trail_check.proofs.Recorded.{plays_are_followed}
use Rattle.trail_meaning.specs.Ranges.{HasTrailRanges, FitEvents}
use Rattle.trail_meaning.specs.Shown.{TrailShown}
use Rattle.trail_check.proofs.Few.{few_from, few_marks}
use Rattle.trail_check.specs.Checking.{trail_terms, trail_machine, ChecksTrail}
use Rattle.trail_text.specs.TrailText.{IsTrail, trail_text}
use Rattle.dfd_laws.specs.RecordedTrails.{IsOfPlay, TrailsOfPlaysCheck}
use Rattle.dfd_laws.proofs.Counts.{all_done, last_within, high_fits}
use Rattle.dfd_laws.proofs.Fits.{fit_events}
use Rattle.dfd_laws.proofs.Lengths.{trail_is_short}

module _ (c : Setting) (t : TrailShown) (o : IsOfPlay c t) where
  abbrev s : machine.Setting
  s = trail_machine c t

  some_quota : 0 < s.quota
  some_quota = let same = o.quota in let least = o.setting.quota.0 in omega (arith, same, least)

  listed : IsDepthFirst s.quota s.list
  listed = whole_is_depth_first c

  good : IsGood s (trail_terms t).limits (events_in_trail o.run) o.run o.last
  good = plays_are_followed s some_quota listed (trail_terms t).limits o.words o.run o.last (let some = o.setting.deques.0 in omega (arith, some)) o.plays

  reaches : Reaches s opening o.run o.last
  reaches = (plays_are_runs s some_quota listed (trail_terms t).limits o.words o.run o.last _ o.plays).0

  few_actions : length (booked o.last.books) ≤ t.steps
  few_actions = (last_within s (trail_terms t).limits opening (events_in_trail o.run) o.run o.last
      (record { words = none t.arena; actions = omega arith; deques = let some = o.setting.deques.0 in omega (arith, some) }) good.follows).actions
    where
      none : (n : ℕ) → pos 0 ≤ℤ pos n
      none n = omega (arith, ints)

  few_events : length o.run ≤ 2000128
  few_events =
      let both = plays_are_runs s some_quota listed (trail_terms t).limits o.words o.run o.last _ o.plays in
      let short = runs_are_short s some_quota listed (let same = o.quota in let least = o.setting.quota.0 in omega (arith, same, least)) opening o.last o.run both.0
      (opening_is_lawful s listed) both.1 in
      let actions = few_actions in let most = o.setting.steps.1 in let workers = o.setting.workers.1 in omega (arith, short, actions, most, workers)

  events_fit : FitEvents t.p t.events
  events_fit = subst (FitEvents t.p) (sym o.events)
      (fit_events s (let few = o.setting.workers.1 in omega (arith, few)) (trail_terms t).limits o.words 0 opening o.run o.last _ o.plays)

  ranges : HasTrailRanges t
  ranges =
      let books = (few_from s o.run opening o.last reaches).0 in let marks = few_marks o.last.books in let few = few_events in
      let periods = o.numbers.periods in let ahead = o.numbers.ahead in
      let high = high_fits s some_quota listed (trail_terms t).limits [] opening (events_in_trail o.run) o.run o.last refl (none t.arena) good.follows in record {
        setting = o.setting;
        source = o.source;
        events = events_fit;
        numbers = (
          omega (arith, periods, books, few),
          omega (arith, ahead, marks, books, few),
          small t.numbers.high _ t.arena o.numbers.high high o.setting.arena.1,
        );
      }
    where
      none : (n : ℕ) → pos 0 ≤ℤ pos n
      none n = omega (arith, ints)

      small : (n : ℕ) (z : ℤ) (a : ℕ) → pos n ≡ z → z ≤ℤ pos a → a ≤ 67108864 → n < 2 ^ 64
      small n z a is few most = omega (arith, ints)

  pub is_trail : IsTrail (trail_text t) t
  is_trail = (
    ranges,
    trail_is_short t ranges (let size = ap length o.events ∙ length-map o.run event_in_trail in let few = few_events in omega (arith, size, few)),
    refl,
  )

  pub is_accepted_so : ChecksTrail c t (Ok (length (booked o.last.books)))
  is_accepted_so = (
    (let all = all_done s some_quota listed o.run o.last reaches good.ended in let few = few_actions in omega (arith, all, few)),
    is_accepted o.run o.last (subst (λ e. IsGood s (trail_terms t).limits e o.run o.last) (sym o.events) good) o.numbers,
  )

pub trails_of_plays_check : TrailsOfPlaysCheck
trails_of_plays_check c t o = (is_trail c t o, (length (booked o.last.books), is_accepted_so c t o))
