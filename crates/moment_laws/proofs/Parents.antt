-- A parent that stands directly below a thread waits for its result.
use Rattle.std.proofs.Common.{◌≡◌, ℕ, ◌<◌, List, [], ◌∷◌, length, map, inl, inr, refl, sym, ap, subst, ◌∙◌, arith}
use Rattle.std.proofs.lemmas.Bool.{cases_lt}
use Rattle.std.specs.Prelude.{Bool, true, false, Some}
use Rattle.open_periods.specs.Passed.LabelOrder.{fork_of}
use Rattle.open_periods.specs.Passed.Actions.{joins, ends}
use Rattle.open_periods.specs.Passed.Facts.{label_at, deed_at, IsLive}
use Rattle.open_periods.specs.Passed.DepthFirstListRuns.{IsDepthFirst}
use Rattle.open_periods.specs.Passed.Lists.{Among, Each}
use Rattle.open_periods.proofs.Passed.Lists.{each_at, each_among, each_map, among_here}
use Rattle.open_periods.specs.Passed.Moments as machine
use Rattle.open_periods.specs.Passed.Moments.{Moment, done_at, threads_in}
use Rattle.open_periods.specs.Passed.Machine.{Setting}
use Rattle.open_periods.specs.Passed.LawfulOrder.{IsLawful, Stacked}
use Rattle.open_periods.proofs.Passed.LiveThreads.{fork_is_done}
use Rattle.open_periods.proofs.Passed.Shapes.{in_threads}
use Rattle.open_periods.proofs.Labels.{one_label}
use Rattle.open_periods.specs.Names.{HasLabel}
use Rattle.moment_shown.specs.Parts.{Child, Thread, Parts, IsIn, deque_shown, label_of}
use Rattle.moment_shown.specs.Standing.{Shows, EndedIn, ChildStands, ThreadStands}
use Rattle.moment_shown.specs.Events.{Works, IsNextOf}
use Rattle.moment_shown.proofs.Shown.{deques_shown}
use Rattle.moment_shown.proofs.Placing.{closed, top_is_in, top_stands, under_is_in, next_at_top}
use Rattle.moment_laws.specs.Results.{IsChildOf, ParentsAwait}

module _ (s : Setting) (run : IsDepthFirst s.quota s.list) (m : Moment) (parts : Parts) (worker place : ℕ) (o : Works parts worker) (parent : Thread) (below : List Thread)
    (lawful : IsLawful s m) (shows : Shows s.quota s.list parts m) (is_next : IsNextOf s.list o.top place ends) (under_is : o.under ≡ parent ∷ below) where
  -- the deque as the moment has it
  abbrev its_deque : machine.Deque
  its_deque = record { id = o.id; owner = Some worker; threads = label_of o.top ∷ map label_of o.under }

  its_parent : (ordinal : ℕ) × (o.top.label ≡ fork_of parent.label ordinal)
  its_parent =
      let all = subst (Each (λ d. Stacked (machine.Deque.threads d))) (deques_shown s.quota s.list parts m shows worker o) lawful.order.stacked in
      let stacked : Stacked (o.top.label ∷ map label_of o.under) = each_at (λ d. Stacked (machine.Deque.threads d)) (map deque_shown o.left) its_deque (map deque_shown o.right) all in
      (subst (λ us. Stacked (o.top.label ∷ map label_of us)) under_is stacked).0

  live : IsLive s.list (done_at m) o.top.label
  live =
      let there : Among its_deque m.deques = subst (Among its_deque) (sym (deques_shown s.quota s.list parts m shows worker o)) (among_here its_deque (map deque_shown o.left) (map deque_shown o.right)) in
      each_among (IsLive s.list (done_at m)) o.top.label (threads_in m.deques) lawful.order.all_live (in_threads o.top.label its_deque m.deques there (inl refl))

  not_ended : (label : List ℕ) → o.top.label ≡ label → EndedIn s.list (done_at m) label → ⊥
  not_ended label same ended = let none = live.goes_on ended.0 ended.1 (ended.2 ∙ sym same) ended.3 in let did = ended.4 in absurd (omega (arith, none, did))

  parent_in : IsIn parent parts
  parent_in = under_is_in s run m lawful parts shows worker o parent (subst (Among parent) (sym under_is) (inl refl))

  parent_stands : ThreadStands s.list (done_at m) parts parent
  parent_stands = shows.threads parent parent_in

  top_in : IsIn o.top parts
  top_in = top_is_in s run m lawful parts shows worker o

  -- the Join of it is not done
  unjoined : (j : ℕ) → j < length s.list → label_at s.list j ≡ parent.label → deed_at s.list j ≡ joins its_parent.0 → done_at m j ≡ 0
  unjoined j inside label deed = elim (cases_lt 0 (done_at m j)) [
    | inl did ↦
        let ended = (closed s run m lawful parts shows worker o).child_ended place j its_parent.0 is_next.inside inside deed
        (is_next.by ∙ its_parent.1 ∙ ap (λ l. fork_of l its_parent.0) (sym label)) is_next.does did in
        let none = (next_at_top s run m lawful parts shows worker o place ends is_next).missing in absurd (omega (arith, ended, none))
    | inr none ↦ omega (arith, none)
  ]

  its_entry : (child : Child) × Among child parent.children × (child.id ≡ o.top.id)
  its_entry =
      let f = fork_is_done s.quota s.list run (done_at m) (closed s run m lawful parts shows worker o) o.top.label parent.label [] its_parent.0 live its_parent.1 in
      let found = parent_stands.all_children f.0 its_parent.0 f.1 f.2 f.3 f.4 unjoined in
      let stands = each_among (ChildStands s.list (done_at m) parts parent.id parent.label) found.0 parent.children parent_stands.children found.1 in
      (found.0, found.1, sym (stands.is_thread o.top top_in (its_parent.1 ∙ ap (fork_of parent.label) (sym found.2))).0)

  is_child : (child : Child) → ChildStands s.list (done_at m) parts parent.id parent.label child → child.id ≡ o.top.id → IsChildOf parent o.top child
  is_child child stands is = record {
    waits = waits_by child.delivered refl;
    labelled = label;
    func = (stands.is_thread o.top top_in label).2;
  }
    where
      label : o.top.label ≡ fork_of parent.label child.ordinal
      label = one_label s.quota s.list parts.periods m.books o.top.id o.top.label (fork_of parent.label child.ordinal) shows.books (top_stands s run m lawful parts shows worker o).labelled
          (subst (λ id. HasLabel parts.periods id (fork_of parent.label child.ordinal)) is stands.labelled)

      waits_by : (b : Bool) → child.delivered ≡ b → child.delivered ≡ false
      waits_by true given = absurd (not_ended (fork_of parent.label child.ordinal) label (stands.delivered given).0)
      waits_by false none = none

  all_entries : Each (λ child. child.id ≡ o.top.id → IsChildOf parent o.top child) parent.children
  all_entries = each_map (ChildStands s.list (done_at m) parts parent.id parent.label) (λ child. child.id ≡ o.top.id → IsChildOf parent o.top child) parent.children
      (λ child there stands is. is_child child stands is) parent_stands.children

pub parents_await : (s : Setting) → 0 < s.quota → IsDepthFirst s.quota s.list → ParentsAwait s
parents_await s some run m parts worker place o parent below lawful shows is_next under_is =
    (its_entry s run m parts worker place o parent below lawful shows is_next under_is, all_entries s run m parts worker place o parent below lawful shows is_next under_is)
