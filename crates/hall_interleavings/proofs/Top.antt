-- The thread on top of the lane of a worker at work, at the moment of the hall.
use Rattle.std.proofs.Common.{◌≡◌, ℕ, ◌<◌, ◌≤◌, true, false, Bool, List, refl, subst, arith}
use Rattle.open_periods.specs.Passed.DepthFirstListRuns.{IsDepthFirst}
use Rattle.deque_machine.specs.Lists.{Among, Each}
use Rattle.deque_machine.specs.Books.{charged}
use Rattle.deque_machine.specs.Lawful.{IsWithin}
use Rattle.deque_machine.proofs.Lists.{each_at, each_among}
use Rattle.deque_machine.specs.Moments.{Moment, done_at}
use Rattle.deque_machine.specs.Machine.{Setting, Owns}
use Rattle.moment_laws.specs.Passed.Parts.{Child, IsKept}
use Rattle.moment_laws.specs.Passed.Standing.{ThreadStands, ChildStands}
use Rattle.moment_laws.specs.Passed.MomentShownEvents.{Works}
use Rattle.moment_laws.proofs.Passed.Placing.{own, top_stands}
use Rattle.moment_laws.proofs.Passed.Shown.{used_is}
use Rattle.hall_machine.specs.Values.{Hall, parts_of}
use Rattle.hall_machine.specs.Steps.{Step}
use Rattle.hall_machine.specs.Standing.{HallStands}
use Rattle.hall_machine.specs.Writing.{IsAtWork}
use Rattle.hall_machine.proofs.Own.{works}

-- ---- ids

module _ (s : Setting) (some : 0 < s.quota) (list : IsDepthFirst s.quota s.list) (h : Hall) (steps : List Step) (m : Moment) (at : HallStands s h steps m) (worker : ℕ)
    (w : IsAtWork h worker) where
  abbrev pub o : Works (parts_of h) worker
  o = works s h steps m at w

  abbrev pub owner : Owns m worker
  owner = own s list m at.standing.lawful (parts_of h) at.standing.shows worker o

  -- its period has used no more than the quota
  pub used_within : w.period.used ≤ s.quota
  used_within =
      let used : w.period.used ≡ charged s.quota s.list owner.book.ran = used_is s.quota s.list (parts_of h) m at.standing.shows worker o in
      let within : charged s.quota s.list owner.book.ran ≤ s.quota = each_at (IsWithin s.quota s.list) owner.older owner.book owner.newer
      (subst (Each (IsWithin s.quota s.list)) owner.books_are at.standing.lawful.periods.lawful.within) in
      omega (arith, used, within)

  pub stands : ThreadStands s.list (done_at m) (parts_of h) w.top
  stands = top_stands s list m at.standing.lawful (parts_of h) at.standing.shows worker o

  -- ---- children

  pub child_stands : (child : Child) → Among child w.top.children → ChildStands s.list (done_at m) (parts_of h) w.top.id w.top.label child
  child_stands child there = each_among (ChildStands s.list (done_at m) (parts_of h) w.top.id w.top.label) child w.top.children stands.children there

  -- a result that is kept was not handed over
  pub kept_is_missing : (child : Child) → Among child w.top.children → IsKept h.list.results child.id → child.delivered ≡ false
  kept_is_missing child there kept = by_test child.delivered refl
    where
      by_test : (given : Bool) → child.delivered ≡ given → child.delivered ≡ false
      by_test false is = is
      by_test true is = absurd (((child_stands child there).delivered is).1 kept)
