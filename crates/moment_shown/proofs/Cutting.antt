-- A deque of two that is cut in two: whoever was in it is in one of the two.
use Rattle.std.proofs.Common.{◌≡◌, ℕ, ◌+◌, ◌<◌, List, [], ◌∷◌, ◌++◌, inl, inr, refl, sym, ap, subst, ◌∙◌, arith}
use Rattle.std.specs.Prelude.{Option, None, pos}
use Rattle.open_periods.specs.Passed.DepthFirstListRuns.{IsDepthFirst}
use Rattle.deque_machine.specs.Lists.{total}
use Rattle.deque_machine.specs.Moments.{done_at}
use Rattle.deque_machine.specs.Machine.{Setting}
use Rattle.moment_shown.specs.Parts.{Thread, Deque, Parts, IsIn, words_of, thread_words, deque_words, result_words}
use Rattle.moment_shown.specs.Cuts.{deque_with, SettingAsideShows}
use Rattle.moment_shown.proofs.Shown.{InDeques, shown_middle, by_deque, in_here, in_wider, deque_words_middle}
use Rattle.moment_shown.proofs.Moving.{thread_moves, result_moves}

module _ (left right : List Deque) (id new : ℕ) (owner : Option ℕ) (top bottom : Thread) where
  was_in_deques : (y : Thread) → InDeques y (left ++ deque_with id owner (top ∷ []) ∷ deque_with new None (bottom ∷ []) ∷ right)
      → InDeques y (left ++ deque_with id owner (top ∷ bottom ∷ []) ∷ right)
  was_in_deques y there = elim (by_deque y left (deque_with new None (bottom ∷ []) ∷ right) (deque_with id owner (top ∷ [])) there) [
    | inl here ↦ elim here [
      | inl is ↦ in_here y left right (deque_with id owner (top ∷ bottom ∷ [])) (inl is)
      | inr none ↦ absurd none
    ]
    | inr beside ↦ elim (by_deque y left right (deque_with new None (bottom ∷ [])) beside) [
      | inl here ↦ in_here y left right (deque_with id owner (top ∷ bottom ∷ [])) (inr here)
      | inr others ↦ in_wider y left right (deque_with id owner (top ∷ bottom ∷ [])) others
    ]
  ]

  same_words : total deque_words (left ++ deque_with id owner (top ∷ []) ∷ deque_with new None (bottom ∷ []) ∷ right)
      ≡ total deque_words (left ++ deque_with id owner (top ∷ bottom ∷ []) ∷ right)
  same_words =
      let was = deque_words_middle left right (deque_with id owner (top ∷ bottom ∷ [])) in
      let now = deque_words_middle left (deque_with new None (bottom ∷ []) ∷ right) (deque_with id owner (top ∷ [])) in
      omega (arith, was, now)

pub setting_aside_shows : (s : Setting) → 0 < s.quota → IsDepthFirst s.quota s.list → SettingAsideShows s
setting_aside_shows s some run m parts left right id new owner top bottom shows are =
    let next : Parts = record parts { deques = left ++ deque_with id owner (top ∷ []) ∷ deque_with new None (bottom ∷ []) ∷ right } in
    let was_in : (y : Thread) → IsIn y next → IsIn y parts = λ y there. elim there [
      | inl in_deques ↦ inl (subst (InDeques y) (sym are) (was_in_deques left right id new owner top bottom y in_deques))
      | inr waits ↦ inr waits
    ] in
    let words : words_of next ≡ words_of parts =
    ap (λ n. n + (total thread_words parts.waiting + total result_words parts.results))
    (same_words left right id new owner top bottom ∙ ap (total deque_words) (sym are)) in
    record {
      deques = sym (shown_middle left (deque_with new None (bottom ∷ []) ∷ right) (deque_with id owner (top ∷ [])));
      waits = shows.waits;
      waiting = shows.waiting;
      wait_once = shows.wait_once;
      books = shows.books;
      threads = λ x there. thread_moves s.list (done_at m) parts next refl (λ i label has. has) was_in x (shows.threads x (was_in x there));
      results = λ r there. result_moves s.list (done_at m) parts next refl (λ i label has. has) was_in r (shows.results r there);
      kept_once = shows.kept_once;
      words = shows.words ∙ ap pos (sym words);
    }
