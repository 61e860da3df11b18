-- The numbers of a worker at work are within those of its hall.
use Rattle.std.proofs.Common.{◌≡◌, ℕ, ◌+◌, ◌≤◌, ◌<◌, min, List, ◌∷◌, ◌++◌, length, ap, subst, arith}
use Rattle.std.proofs.Common.{inl, refl, sym, Some}
use Rattle.std.proofs.lemmas.Int.{ints}
use Rattle.depth_first_list.specs.Runs.{IsDepthFirst}
use Rattle.hall_slots.specs.Passed.Machine.{Setting}
use Rattle.hall_slots.specs.Passed.Moments.{Moment}
use Rattle.hall_slots.specs.Passed.Play.{Limits}
use Rattle.hall_slots.specs.Passed.Books.{booked}
use Rattle.hall_slots.specs.Passed.Lawful.{IsWithin}
use Rattle.hall_slots.specs.Passed.Lists.{Among, Each, total}
use Rattle.hall_slots.proofs.Passed.DequeMachineLists.{each_at, among_here}
use Rattle.moment_shown.specs.Parts.{Deque, Parts, IsIn, deque_words}
use Rattle.moment_shown.proofs.Counting.{threads_count_within}
use Rattle.moment_shown.proofs.Shown.{used_is, book_of_it, deque_words_middle}
use Rattle.hall_machine.specs.Views.{View, one_if_counting}
use Rattle.hall_machine.specs.Values.{Hall, parts_of}
use Rattle.hall_machine.specs.Steps.{Step, Leads}
use Rattle.hall_machine.specs.Writing.{IsAtWork}
use Rattle.hall_machine.proofs.Own.{works, lefts, rights, deques_were}
use Rattle.hall_machine.specs.State.{RunningState}
use Rattle.hall_actions.specs.Within.{OwnersAreWithin}

module _ (s : Setting) (some : 0 < s.quota) (list : IsDepthFirst s.quota s.list) (limits : Limits) (h : Hall) (steps : List Step) (m : Moment) (leads : Leads s steps m) (count : ℕ)
    (views : List View) (worker : ℕ) (w : IsAtWork h worker) (state : RunningState s limits h steps m leads count views) where
  abbrev own_deque : Deque
  own_deque = record { id = w.id.0; owner = Some worker; threads = w.top ∷ w.under }

  abbrev left : List Deque
  left = lefts s h steps m state.stands w

  abbrev right : List Deque
  right = rights s h steps m state.stands w

  are : Parts.deques (parts_of h) ≡ left ++ own_deque ∷ right
  are = deques_were s h steps m state.stands w

  words_within : w.top.words ≤ h.pool.live
  words_within =
      let deques : total deque_words (Parts.deques (parts_of h)) ≡ total deque_words (left ++ own_deque ∷ right) = ap (total deque_words) are in
      let sum = deque_words_middle left right own_deque in
      let words = state.stands.standing.shows.words in let live = state.stands.standing.live in omega (arith, ints, deques, sum, words, live)

  top_is_in : IsIn w.top (parts_of h)
  top_is_in = inl (own_deque, subst (Among own_deque) (sym are) (among_here own_deque left right), inl refl)

  done_within : w.top.done ≤ limits.actions
  done_within =
      let few : w.top.done ≤ length (booked m.books) = threads_count_within s some list m (parts_of h) w.top state.stands.standing.lawful state.stands.standing.shows top_is_in in
      let counted : min count limits.actions ≡ length (booked m.books) + total one_if_counting views = state.crew.counted in omega (arith, few, counted)

  used_within : w.period.used ≤ s.quota
  used_within =
      let o = works s h steps m state.stands w in
      let book = book_of_it s.quota s.list (parts_of h) m state.stands.standing.shows worker o in
      let used = used_is s.quota s.list (parts_of h) m state.stands.standing.shows worker o in
      let within = each_at (IsWithin s.quota s.list) book.older book.book book.newer (subst (Each (IsWithin s.quota s.list)) book.books_are state.stands.standing.lawful.periods.lawful.within) in
      omega (arith, used, within)

pub owners_are_within : (s : Setting) → 0 < s.quota → IsDepthFirst s.quota s.list → OwnersAreWithin s
owners_are_within s some list limits h steps m leads count views worker w state = record {
  words = words_within s some list limits h steps m leads count views worker w state;
  done = done_within s some list limits h steps m leads count views worker w state;
  used = used_within s some list limits h steps m leads count views worker w state;
}
