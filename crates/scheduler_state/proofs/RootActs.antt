-- That the root ends only by an action of its own.
use Rattle.std.proofs.Common.{◌≡◌, ℕ, ◌+◌, ◌<◌, ◌⊎◌, List, [], true, false, true≢false, inl, inr, refl, sym, ap, subst, ◌∙◌, arith}
use Rattle.dag_order.specs.Births.{root}
use Rattle.dag_order.specs.declared.thread_id.ThreadId.{ThreadId}
use Rattle.open_periods.specs.Passed.Actions.{Action}
use Rattle.open_periods.specs.Passed.Facts.{label_at}
use Rattle.open_periods.specs.Passed.Lists.{times, one_if_same}
use Rattle.open_periods.specs.Passed.Books.{done_in}
use Rattle.open_periods.proofs.Passed.Lists.{one_cases}
use Rattle.open_periods.proofs.Passed.Keeping.{done_more}
use Rattle.open_periods.specs.Passed.Moments.{Moment, done_at}
use Rattle.open_periods.specs.Passed.Machine.{Setting, Event, steals, does, suspends, gives_up, May, HasEnded}
use Rattle.open_periods.proofs.Passed.Labels.{fork_is_not_root}
use Rattle.moment_laws.proofs.Told as told_of
use Rattle.thread_map.specs.Kept.{same_thread}
use Rattle.open_periods.specs.Periods.{Period}
use Rattle.open_periods.specs.Names.{HasLabel, of_root, of_fork}
use Rattle.scheduler_state.specs.declared.event.Event.{Event as Told}
use Rattle.thread_frames.proofs.Found.{same_with_itself}
use Rattle.scheduler_state.specs.Outcomes.{Tells, tells_theft, tells_action, tells_wait, tells_give_up}
use Rattle.scheduler_state.specs.Ends.{is_of_root}

module _ (s : Setting) (m after : Moment) (worker : ℕ) where
  -- what is done behind an event was done before, or is its action
  done_before : (event : Event) → May s m worker event after → (i : ℕ) → 0 < done_at after i → (0 < done_at m i) ⊎ (event ≡ does i)
  done_before (steals place id) may i did =
      let quiet = told_of.tells s m worker (steals place id) after may in inl (subst (λ places. 0 < times i places) quiet.same did)
  done_before suspends may i did = let w = told_of.tells s m worker suspends after may in inl (subst (λ places. 0 < times i places) w.quiet.same did)
  done_before gives_up may i did = let quiet = told_of.tells s m worker gives_up after may in inl (subst (λ places. 0 < times i places) quiet.same did)
  done_before (does place) may i did =
      let a : told_of.Acted s m worker place after = told_of.tells s m worker (does place) after may in
      let now : done_at after i ≡ done_at m i + one_if_same i place =
      ap (λ books. done_in books i) a.books ∙ done_more a.owns.older a.owns.newer a.owns.book a.owner place i
      ∙ ap (λ books. done_in books i + one_if_same i place) (sym a.owns.books_are) in
      elim (one_cases i place) [
        | inl here ↦ inr (ap does (sym here.0))
        | inr other ↦ let none = other.1 in inl (omega (arith, did, now, none))
      ]

  -- the root alone has no ordinals in its label
  root_alone : (periods : List Period) (id : ThreadId) (label : List ℕ) → HasLabel periods id label → label ≡ [] → id ≡ root
  root_alone periods id label of_root none = refl
  root_alone periods id label (of_fork p nth birth parent there born above) none = absurd (fork_is_not_root parent birth.ordinal none)

  -- an event that is the action at a place of the root is told as an action of the root
  told_of_root : (l : List Action) (periods : List Period) (event : Event) (told : Told) → Tells l periods m worker event told → (place : ℕ) → event ≡ does place
      → label_at l place ≡ [] → is_of_root told ≡ true
  told_of_root l periods event told (tells_theft p id) place is label = cc
  told_of_root l periods event told (tells_wait o id named) place is label = cc
  told_of_root l periods event told (tells_give_up o id same) place is label = cc
  told_of_root l periods event told (tells_action p id named) place is label =
      let same : p ≡ place = cc in
      ap (same_thread root) (root_alone periods id.by (label_at l p) named.by (ap (label_at l) same ∙ label)) ∙ same_with_itself root

  -- behind an event that is not told as an action of the root it has not ended, where it had not before
  pub not_ended_by : (periods : List Period) (event : Event) (told : Told) → May s m worker event after → Tells s.list periods m worker event told
      → is_of_root told ≡ false → ¬ HasEnded s m [] → ¬ HasEnded s after []
  not_ended_by periods event told may tells other going ended = elim (done_before event may ended.0 ended.4) [
    | inl did ↦ going (ended.0, ended.1, ended.2, ended.3, did)
    | inr here ↦ true≢false (sym (told_of_root s.list periods event told tells ended.0 here ended.2) ∙ other)
  ]
