-- How the End of the root comes.
use Rattle.std.proofs.Common.{◌≡◌, ℕ, ◌<◌, List, [], ◌∷◌, ◌++◌, inl, inr, refl, sym, ap, subst, ◌∙◌, arith}
use Rattle.open_periods.specs.Passed.ThreadId.{ThreadId}
use Rattle.open_periods.specs.Passed.Births.{root}
use Rattle.open_periods.specs.Passed.Actions.{ends}
use Rattle.open_periods.specs.Passed.DepthFirstListRuns.{IsDepthFirst}
use Rattle.open_periods.specs.Passed.Facts.{label_at, deed_at, words_at}
use Rattle.open_periods.specs.Passed.Lists.{times}
use Rattle.open_periods.specs.Passed.Books.{booked, done_in}
use Rattle.open_periods.proofs.Passed.Lists.{one_cases, cons_is_not_nil, middle_is_not_nil}
use Rattle.open_periods.proofs.Passed.Keeping.{done_more, ended_has_all}
use Rattle.open_periods.specs.Passed.Moments.{Moment, done_at}
use Rattle.open_periods.specs.Passed.Machine.{Setting, Event, steals, does, suspends, gives_up, May, HasEnded, books_with}
use Rattle.open_periods.specs.Passed.LawfulOrder.{IsLawful}
use Rattle.open_periods.specs.Passed.DequeMachineRuns.{place_of}
use Rattle.open_periods.proofs.Passed.KeptOrder.{own_dummy}
use Rattle.open_periods.proofs.Passed.LiveThreads.{join_is_no_end}
use Rattle.open_periods.proofs.Passed.OneAction.{end_is_no_fork}
use Rattle.open_periods.specs.Periods.{Period}
use Rattle.open_periods.specs.Names.{HasLabel, of_root, of_fork}
use Rattle.moment_shown.specs.Parts.{Result, Parts, IsKept}
use Rattle.moment_shown.specs.Standing.{Shows}
use Rattle.moment_shown.specs.Events.{Works, IsNextOf, MayDo, IsLeftBy, Does, does_alone, runs_dummy, joins_newest, forks_child, ends_above, ends_and_wakes, ends_and_leaves}
use Rattle.moment_shown.proofs.Placing.{top_stands}
use Rattle.moment_laws.specs.Results.{RootEndsOnce, RootLeavesItsResult, OthersEndNothing}
use Rattle.moment_laws.proofs.Told.{Acted, Quiet, Waited, tells}

pub root_ends_once : (s : Setting) → 0 < s.quota → IsDepthFirst s.quota s.list → RootEndsOnce s
root_ends_once s some run m after worker place lawful may ended =
    let a : Acted s m worker place after = tells s m worker (does place) after may in
    let one = ended_has_all s.quota s.list run m.books ended.0 lawful.periods.lawful ended.1 ended.2 ended.3 ended.4 place a.next.inside in
    let none = a.next.missing in absurd (omega (arith, one, none))

-- the thread whose label has no ordinals is the root
root_is : (periods : List Period) (id : ThreadId) (label : List ℕ) → HasLabel periods id label → label ≡ [] → id ≡ root
root_is periods id label of_root is = refl
root_is periods id label (of_fork p nth birth parent there born named) is = absurd (middle_is_not_nil parent birth.ordinal [] is)

module _ (s : Setting) (some : 0 < s.quota) (run : IsDepthFirst s.quota s.list) (m : Moment) (lawful : IsLawful s m) where
  -- the action behind which the root has ended is its End
  is_root_end : (after : Moment) (worker place : ℕ) → May s m worker (does place) after → HasEnded s after [] → (label_at s.list place ≡ []) × (deed_at s.list place ≡ ends)
  is_root_end after worker place may ended =
      let a : Acted s m worker place after = tells s m worker (does place) after may in
      let more = done_more a.owns.older a.owns.newer a.owns.book a.owner place ended.0 in
      let now : done_at after ended.0 ≡ done_in (books_with a.owns a.owner place) ended.0 = ap (λ b. done_in b ended.0) a.books in
      let was : done_at m ended.0 ≡ done_in (a.owns.older ++ a.owns.book ∷ a.owns.newer) ended.0 = ap (λ b. done_in b ended.0) a.owns.books_are in
      let did = ended.4 in
      elim (one_cases ended.0 place) [
        | inl here ↦ (ap (label_at s.list) (sym here.0) ∙ ended.2, ap (deed_at s.list) (sym here.0) ∙ ended.3)
        | inr other ↦ let none = other.1 in
            absurd (root_ends_once s some run m after worker place lawful may (ended.0, ended.1, ended.2, ended.3, omega (arith, more, now, was, did, none)))
      ]

  module _ (parts : Parts) (shows : Shows s.quota s.list parts m) (worker place : ℕ) (label : label_at s.list place ≡ []) (deed_is : deed_at s.list place ≡ ends) where
    left_by_root : (o : Works parts worker) (result : Result) → IsNextOf s.list o.top place ends → IsLeftBy s.list o.top place result → result.id ≡ root
    left_by_root o result is_next left = left.same_id
        ∙ root_is parts.periods o.top.id o.top.label (top_stands s run m lawful parts shows worker o).labelled (sym is_next.by ∙ label)

    root_kept : (next : Parts) → Does s.quota s.list parts worker place next → IsKept next.results root
    root_kept next (does_alone o deed new periods is_next may acted children words notes) =
        absurd (subst (λ d. MayDo s.quota o.period.used d (words_at s.list place)) (sym is_next.does ∙ deed_is) may)
    root_kept next (runs_dummy o new periods is_next acted children words notes) = absurd (own_dummy.no_end (sym is_next.does ∙ deed_is))
    root_kept next (joins_newest o newest older new periods children given is_next acted are words notes) = absurd (join_is_no_end newest.ordinal (sym is_next.does ∙ deed_is))
    root_kept next (forks_child o ordinal func new child periods is_next fits acted id parent named done func_is none children words notes) =
        absurd (end_is_no_fork ordinal (sym deed_is ∙ is_next.does))
    root_kept next (ends_above o parent below result periods is_next under left notes) = (result, inl refl, left_by_root o result is_next left)
    root_kept next (ends_and_wakes o before later parent newest older result periods is_next under waiting children newest_is left notes) = (result, inl refl, left_by_root o result is_next left)
    root_kept next (ends_and_leaves o result periods is_next under unwaited left notes) = (result, inl refl, left_by_root o result is_next left)

pub root_leaves_its_result : (s : Setting) → 0 < s.quota → IsDepthFirst s.quota s.list → RootLeavesItsResult s
root_leaves_its_result s some run m after parts next worker place lawful shows did may ended =
    let is = is_root_end s some run m lawful after worker place may ended in root_kept s some run m lawful parts shows worker place is.0 is.1 next did

-- with another event the same stands in the books
same_booked : (s : Setting) (m after : Moment) (worker : ℕ) (event : Event) → May s m worker event after → place_of event ≡ [] → booked after.books ≡ booked m.books
same_booked s m after worker (steals place id) may none = let q : Quiet m after 1 = tells s m worker (steals place id) after may in q.same
same_booked s m after worker (does place) may none = absurd (cons_is_not_nil place [] none)
same_booked s m after worker suspends may none = let w : Waited s m worker after = tells s m worker suspends after may in w.quiet.same
same_booked s m after worker gives_up may none = let q : Quiet m after 0 = tells s m worker gives_up after may in q.same

pub others_end_nothing : (s : Setting) → OthersEndNothing s
others_end_nothing s m after worker event label may none ended =
    (ended.0, ended.1, ended.2, ended.3, subst (λ places. 0 < times ended.0 places) (same_booked s m after worker event may none) ended.4)
