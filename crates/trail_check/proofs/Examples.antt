-- A worked trail of one worker, its verdict, and the verdicts where it was changed.
use Rattle.std.proofs.Common.{◌≡◌, ℕ, false, true≢false, List, [], ◌∷◌, refl, sym, ap, inl, inr, arith}
use Rattle.std.specs.Prelude.{Option, None, Some}
use Rattle.std.proofs.lemmas.Int.{ints}
use Rattle.depth_first_list.specs.Actions.{Deed, forks, joins, ends, Action}
use Rattle.deque_machine.specs.Books.{Book}
use Rattle.deque_machine.specs.Moments.{Moment, opening, deque_of, moment_of, done_at}
use Rattle.deque_machine.specs.Machine.{Setting, Event, steals, does}
use Rattle.deque_machine.specs.Play.{Limits, IsThiefsId}
use Rattle.deque_machine.specs.Runs.{Pair}
use Rattle.deque_machine.specs.Step.{step}
use Rattle.deque_machine.proofs.StepSound.{step_sound, none_is_not_some}
use Rattle.deque_machine.proofs.TestLaws.{ended_by_finds}
use Rattle.trail_meaning.specs.declared.trail_event.TrailEvent.{TrailEvent}
use Rattle.trail_meaning.specs.declared.trail_kind.TrailKind.{TrailKind}
use Rattle.trail_meaning.specs.declared.trail_kind.TrailKind.TheVariants.{Steal, Act}
use Rattle.trail_meaning.specs.declared.trail_numbers.TrailNumbers.{TrailNumbers}
use Rattle.trail_check.specs.Following.{Tells, tells_steal, tells_action, IsWithin, Leads, pair_of, Follows, stays, goes_on}
use Rattle.trail_check.specs.Good.{IsGood}
use Rattle.trail_check.specs.Verdicts.{AreNumbers, LeadsNowhere, accepted, bad_event, not_ended, wrong_numbers, IsVerdict, is_accepted, is_bad, is_unended, is_wrong}

abbrev act : List ℕ → ℕ → Deed → ℕ → Action
act label index deed words = record { label = label; index = index; deed = deed; words = words }

abbrev book : Option ℕ → List ℕ → Book
book owner ran = record { ahead = false; owner = owner; ran = ran }

-- A root that forks a child, which does nothing, and joins it. One worker with a quota of 16 words runs it, with room for just that.
abbrev one_fork : Setting
one_fork = record {
  list = act [] 0 (forks 1) 16 ∷ act (1 ∷ []) 0 ends 16 ∷ act [] 1 (joins 1) 0 ∷ act [] 2 ends 0 ∷ [];
  quota = 16;
  workers = 1;
}

abbrev just_room : Limits
just_room = record { capacity = 16; actions = 4; deques = 1 }

abbrev says : TrailKind → TrailEvent
says kind = record { worker = 0; kind = kind }

abbrev numbers : ℕ → TrailNumbers
numbers high = record { periods = 1; ahead = 0; high = high }

-- the moments after each event
abbrev stolen : Moment
stolen = moment_of (deque_of 0 (Some 0) ([] ∷ []) ∷ []) [] (book (Some 0) [] ∷ [])

abbrev forked : Moment
forked = moment_of (deque_of 0 (Some 0) ((1 ∷ []) ∷ [] ∷ []) ∷ []) [] (book (Some 0) (0 ∷ []) ∷ [])

abbrev child_ended : Moment
child_ended = moment_of (deque_of 0 (Some 0) ([] ∷ []) ∷ []) [] (book (Some 0) (0 ∷ 1 ∷ []) ∷ [])

abbrev joined : Moment
joined = moment_of (deque_of 0 (Some 0) ([] ∷ []) ∷ []) [] (book (Some 0) (0 ∷ 1 ∷ 2 ∷ []) ∷ [])

abbrev root_ended : Moment
root_ended = moment_of [] [] (book None (0 ∷ 1 ∷ 2 ∷ 3 ∷ []) ∷ [])

by_step : (m : Moment) (kind : TrailKind) (event : Event) (next : Moment) → Tells m kind event → step one_fork m 0 event ≡ Some next → IsWithin one_fork just_room next
    → Leads one_fork just_room m (says kind) event next
by_step m kind event next tells is within = record { tells = tells; may = step_sound one_fork m 0 event next is; within = within }

first_id : IsThiefsId opening 0 0
first_id = (deque_of 0 None ([] ∷ []), refl, inl ((λ stays. elim stays [ inl owned ↦ owned refl | inr two ↦ absurd (omega arith) ]), refl))

steal_leads : Leads one_fork just_room opening (says (Steal 0)) (steals 0 0) stolen
steal_leads = by_step opening (Steal 0) (steals 0 0) stolen (tells_steal 0 0 first_id) refl (record { words = omega (arith, ints); actions = omega arith; deques = omega arith })

fork_leads : Leads one_fork just_room stolen (says Act) (does 0) forked
fork_leads = by_step stolen Act (does 0) forked (tells_action 0) refl (record { words = omega (arith, ints); actions = omega arith; deques = omega arith })

end_leads : Leads one_fork just_room forked (says Act) (does 1) child_ended
end_leads = by_step forked Act (does 1) child_ended (tells_action 1) refl (record { words = omega (arith, ints); actions = omega arith; deques = omega arith })

join_leads : Leads one_fork just_room child_ended (says Act) (does 2) joined
join_leads = by_step child_ended Act (does 2) joined (tells_action 2) refl (record { words = omega (arith, ints); actions = omega arith; deques = omega arith })

root_leads : Leads one_fork just_room joined (says Act) (does 3) root_ended
root_leads = by_step joined Act (does 3) root_ended (tells_action 3) refl (record { words = omega (arith, ints); actions = omega arith; deques = omega arith })

-- the trail without its last event, and whole
abbrev cut_run : List Pair
cut_run = pair_of 0 (steals 0 0) ∷ pair_of 0 (does 0) ∷ pair_of 0 (does 1) ∷ pair_of 0 (does 2) ∷ []

abbrev whole_run : List Pair
whole_run = pair_of 0 (steals 0 0) ∷ pair_of 0 (does 0) ∷ pair_of 0 (does 1) ∷ pair_of 0 (does 2) ∷ pair_of 0 (does 3) ∷ []

abbrev cut_trail : List TrailEvent
cut_trail = says (Steal 0) ∷ says Act ∷ says Act ∷ says Act ∷ []

abbrev whole_trail : List TrailEvent
whole_trail = says (Steal 0) ∷ says Act ∷ says Act ∷ says Act ∷ says Act ∷ []

cut_follows : Follows one_fork just_room opening cut_trail cut_run joined
cut_follows =
    goes_on opening stolen joined (says (Steal 0)) (steals 0 0) (says Act ∷ says Act ∷ says Act ∷ []) (pair_of 0 (does 0) ∷ pair_of 0 (does 1) ∷ pair_of 0 (does 2) ∷ []) steal_leads
    (goes_on stolen forked joined (says Act) (does 0) (says Act ∷ says Act ∷ []) (pair_of 0 (does 1) ∷ pair_of 0 (does 2) ∷ []) fork_leads
    (goes_on forked child_ended joined (says Act) (does 1) (says Act ∷ []) (pair_of 0 (does 2) ∷ []) end_leads
    (goes_on child_ended joined joined (says Act) (does 2) [] [] join_leads (stays joined))))

whole_is_good : IsGood one_fork just_room whole_trail whole_run root_ended
whole_is_good = record {
  follows =
      goes_on opening stolen root_ended (says (Steal 0)) (steals 0 0) (says Act ∷ says Act ∷ says Act ∷ says Act ∷ [])
      (pair_of 0 (does 0) ∷ pair_of 0 (does 1) ∷ pair_of 0 (does 2) ∷ pair_of 0 (does 3) ∷ []) steal_leads
      (goes_on stolen forked root_ended (says Act) (does 0) (says Act ∷ says Act ∷ says Act ∷ []) (pair_of 0 (does 1) ∷ pair_of 0 (does 2) ∷ pair_of 0 (does 3) ∷ []) fork_leads
      (goes_on forked child_ended root_ended (says Act) (does 1) (says Act ∷ says Act ∷ []) (pair_of 0 (does 2) ∷ pair_of 0 (does 3) ∷ []) end_leads
      (goes_on child_ended joined root_ended (says Act) (does 2) (says Act ∷ []) (pair_of 0 (does 3) ∷ []) join_leads
      (goes_on joined root_ended root_ended (says Act) (does 3) [] [] root_leads (stays root_ended)))));
  ended = (3, omega arith, refl, refl, omega arith);
}

its_numbers : AreNumbers one_fork whole_run root_ended (numbers 16)
its_numbers = record { periods = refl; ahead = refl; high = refl }

-- it is accepted, with its four actions
pub whole_accepted : IsVerdict one_fork just_room whole_trail (numbers 16) (accepted 4)
whole_accepted = is_accepted whole_run root_ended whole_is_good its_numbers

-- with another high-water mark its numbers are wrong
pub high_is_wrong : IsVerdict one_fork just_room whole_trail (numbers 32) (wrong_numbers (numbers 16))
high_is_wrong = is_wrong whole_run root_ended (numbers 16) whole_is_good its_numbers (λ same. let e : 16 ≡ 32 = ap (λ n. n.high) same in absurd (omega (arith, e)))

-- without its last event it has not ended
pub cut_not_ended : IsVerdict one_fork just_room cut_trail (numbers 16) (not_ended 4)
cut_not_ended = is_unended cut_run joined cut_follows (λ ended. true≢false (sym
    (ended_by_finds one_fork.list (done_at joined) [] 4 ended.0 ended.1 ended.2 ended.3 ended.4)))

-- and with a steal from a deque that is not there its first event is bad
steals_nothing : LeadsNowhere one_fork just_room opening (says (Steal 1))
steals_nothing event next leads = by_kind event leads.tells
  where
    by_kind : (event : Event) → Tells opening (Steal 1) event → ⊥
    by_kind event (tells_steal place id named) = none_is_not_some named.0 named.1

pub steal_is_bad : IsVerdict one_fork just_room (says (Steal 1) ∷ says Act ∷ says Act ∷ says Act ∷ says Act ∷ []) (numbers 16) (bad_event 1)
steal_is_bad = is_bad [] (says Act ∷ says Act ∷ says Act ∷ says Act ∷ []) (says (Steal 1)) [] opening refl (stays opening) steals_nothing
