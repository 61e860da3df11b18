-- What a scheduler shows of itself stands at moments, one after another.
use Rattle.std.proofs.Common.{◌≡◌, ℕ, ◌+◌, ◌<◌, List, [], ◌∷◌, ◌++◌, map, inl, inr, refl, sym, ap, subst, ◌∙◌, arith, append-nil}
use Rattle.std.specs.Prelude.{Bool, true, false, cond, filter, pos, ◌+ℤ◌}
use Rattle.std.specs.List.Sorted.{IsPermutation}
use Rattle.std.proofs.lemmas.List.Sorted.{IsPermutation-refl}
use Rattle.open_periods.specs.Passed.ThreadId.{ThreadId}
use Rattle.open_periods.specs.Passed.ActionId.{ActionId}
use Rattle.open_periods.specs.Passed.Births.{root}
use Rattle.open_periods.specs.Passed.LabelOrder.{fork_of}
use Rattle.open_periods.specs.Passed.Actions.{Action}
use Rattle.open_periods.specs.Passed.Facts.{action_at, label_at, weight_at}
use Rattle.open_periods.specs.Passed.DepthFirstListRuns.{IsDepthFirst}
use Rattle.open_periods.specs.Passed.Lists.{Among, Each}
use Rattle.open_periods.specs.Passed.Books.{Book}
use Rattle.open_periods.proofs.Passed.Lists.{each_at, among_middle, middle_is_not_nil}
use Rattle.open_periods.specs.Passed.Moments.{Moment, opening, done_at}
use Rattle.open_periods.specs.Passed.Machine.{Setting, Event, steals, does, suspends, gives_up, HasEnded}
use Rattle.open_periods.specs.Passed.LawfulOrder.{IsLawful}
use Rattle.open_periods.specs.Passed.DequeMachineRuns.{place_of, is_move}
use Rattle.open_periods.proofs.Passed.Kept.{kept, opening_is_lawful}
use Rattle.open_periods.specs.Passed.Moved.{Moved}
use Rattle.open_periods.specs.Periods.{Period}
use Rattle.open_periods.specs.Names.{HasLabel, IsNamed, of_root}
use Rattle.open_periods.specs.Telling.{Tell}
use Rattle.open_periods.proofs.Labels.{one_label}
use Rattle.moment_shown.specs.Parts.{Parts, Result, IsKept}
use Rattle.moment_shown.specs.Standing.{Shows, ChildStands}
use Rattle.moment_shown.specs.Laws.{Comes}
use Rattle.moment_shown.specs.Events.{Does, Steals, HandsOver, hands_over}
use Rattle.moment_shown.proofs.Acting.{actions_are_events}
use Rattle.moment_shown.proofs.Moving.{give_ups_are_events, waits_are_events, thefts_are_events}
use Rattle.moment_shown.proofs.Handing.{handing_over_is_no_event, root_is_the_opening}
use Rattle.moment_shown.proofs.Placing.{top_stands}
use Rattle.moment_laws.specs.Moves.{IsMoveOf, AreMovesOf, noted_if}
use Rattle.moment_laws.specs.Orders.{AreSame}
use Rattle.moment_laws.specs.Steps.{AddsNone}
use Rattle.moment_laws.specs.Standing.{Showing, StandsAt, StandsAfter, Keeps, Counts, Settles, as_they_are, handed_on, RootStands, SameStands, HandingsStand, ActionsStand, GiveUpsStand, WaitsStand, TheftsStand}
use Rattle.moment_laws.proofs.Told.{actions_are_added, others_add_none}
use Rattle.moment_laws.proofs.Ending.{root_leaves_its_result, others_end_nothing}
use Rattle.moment_laws.proofs.Reordered.{order_is_of_no_account, among_moved}
use Rattle.moment_laws.proofs.Labels.{moves_stay, moves_join, does_keeps_labels, give_up_keeps_labels, wait_keeps_labels, theft_keeps_labels, give_up_keeps_results, wait_keeps_results, theft_keeps_results}

-- a result is kept in another order
kept_moved : (before after : List Result) (id : ThreadId) → IsPermutation before after → IsKept before id → IsKept after id
kept_moved before after id moved kept = (kept.0, among_moved before after moved kept.0 kept.1, kept.2)

-- parts in another order show the same moment
same_show : (k : ℕ) (l : List Action) (before after : Parts) (m : Moment) → AreSame before after → Shows k l before m → Shows k l after m
same_show k l before after m same shows =
    let moved = order_is_of_no_account k l before m after.waiting after.results shows same.waiting same.results in
    let with_periods : Shows k l (record before { waiting = after.waiting; results = after.results; periods = after.periods }) m =
    subst (λ ps. Shows k l (record before { waiting = after.waiting; results = after.results; periods = ps }) m) (sym same.periods) moved in
    subst (λ ds. Shows k l (record after { deques = ds }) m) (sym same.deques) with_periods

-- moves in other periods, which are the same, and under another name for the same list
moves_kept : (before after : List Period) (ms ns : List Moved) (moved : List Action) → after ≡ before → ns ≡ ms → AreMovesOf before ms moved → AreMovesOf after ns moved
moves_kept before after ms ns moved periods same are =
    subst (λ ps. AreMovesOf ps ns moved) (sym periods) (subst (λ xs. AreMovesOf before xs moved) (sym same) are)

no_more : (n k : ℕ) → n ≡ k + 0 → n ≡ k
no_more n k is = omega (arith, is)

none_more : (n : ℕ) → n ≡ n + 0
none_more n = omega arith

-- the very same parts
pub the_same : (parts : Parts) → AreSame parts parts
the_same parts = record { deques = refl; waiting = IsPermutation-refl parts.waiting; results = IsPermutation-refl parts.results; periods = refl }

handed_periods : (parts : Parts) (worker : ℕ) (next : Parts) → HandsOver parts worker next → next.periods ≡ parts.periods
handed_periods parts worker next (hands_over o front later result left right child new results_are children_are child_is id parent label func same_done children words) = refl

-- the periods are the same
pub settled_periods : (worker : ℕ) (parts after : Parts) → Settles worker parts after → after.periods ≡ parts.periods
settled_periods worker parts after (as_they_are same) = same.periods
settled_periods worker parts after (handed_on next hands same) = same.periods ∙ handed_periods parts worker next hands

pub same_stands : (s : Setting) → SameStands s
same_stands s before after moved m at same keeps = record {
  lawful = at.lawful;
  shows = same_show s.quota s.list before.parts after.parts m same at.shows;
  live = ap pos keeps.live ∙ at.live;
  begun = no_more after.begun before.begun keeps.begun ∙ at.begun;
  moves = moves_kept before.parts.periods after.parts.periods before.moves after.moves moved same.periods keeps.moves at.moves;
  root_kept = λ ended. kept_moved before.parts.results after.parts.results root same.results (at.root_kept ended);
}

module _ (s : Setting) (some : 0 < s.quota) (list : IsDepthFirst s.quota s.list) where
  pub root_stands : RootStands s
  root_stands x shown id label done children words parts live begun moves = record {
    lawful = opening_is_lawful s list;
    shows = subst (λ ps. Shows s.quota s.list ps opening) (sym parts) (root_is_the_opening s some list x id label done children words);
    live = ap pos live;
    begun = begun;
    moves = subst (λ ms. AreMovesOf shown.parts.periods ms []) (sym moves) tt;
    root_kept = λ has. absurd (none_ended has);
  }
    where
      none_ended : ¬ HasEnded s opening []
      none_ended has = let did = has.4 in absurd (omega (arith, did))

  -- ---- a result that is handed over

  -- whoever was forked is not the root
  not_the_root : (periods : List Period) (books : List Book) → Tell s.quota s.list periods books → (id : ThreadId) (label : List ℕ) (ordinal : ℕ)
      → HasLabel periods id (fork_of label ordinal) → ¬ (id ≡ root)
  not_the_root periods books tell id label ordinal has is =
      middle_is_not_nil label ordinal [] (one_label s.quota s.list periods books root (fork_of label ordinal) [] tell (subst (λ x. HasLabel periods x (fork_of label ordinal)) is has) of_root)

  -- so the result of the root is kept still
  root_still_kept : (parts : Parts) (m : Moment) → IsLawful s m → Shows s.quota s.list parts m → (worker : ℕ) (next : Parts) → HandsOver parts worker next
      → IsKept parts.results root → IsKept next.results root
  root_still_kept parts m lawful shows worker next (hands_over o front later result left right child new results_are children_are child_is id parent label func same_done children words) kept =
      let r = kept.0 in
      let there : Among r (front ++ result ∷ later) = subst (Among r) results_are kept.1 in
      let child_stands = each_at (ChildStands s.list (done_at m) parts o.top.id o.top.label) left child right
      (subst (Each (ChildStands s.list (done_at m) parts o.top.id o.top.label)) children_are (top_stands s list m lawful parts shows worker o).children) in
      elim (among_middle r front result later there) [
        | inl is ↦ absurd (not_the_root parts.periods m.books shows.books child.id o.top.label child.ordinal child_stands.labelled
            (child_is ∙ sym (ap (λ x. Result.id x) is) ∙ kept.2))
        | inr beside ↦ (r, beside, kept.2)
      ]

  pub handings_stand : HandingsStand s
  handings_stand before after moved m worker next at hands same keeps = record {
    lawful = at.lawful;
    shows = same_show s.quota s.list next after.parts m same (handing_over_is_no_event s some list m before.parts worker next at.lawful at.shows hands);
    live = ap pos keeps.live ∙ at.live;
    begun = no_more after.begun before.begun keeps.begun ∙ at.begun;
    moves = moves_kept before.parts.periods after.parts.periods before.moves after.moves moved (same.periods ∙ handed_periods before.parts worker next hands) keeps.moves at.moves;
    root_kept = λ ended. kept_moved next.results after.parts.results root same.results
        (root_still_kept before.parts m at.lawful at.shows worker next hands (at.root_kept ended));
  }

  -- ---- an action

  noted_are : (periods : List Period) (move : Moved) (action : Action) → IsMoveOf periods move action → AreMovesOf periods (noted_if (is_move action) move) (filter is_move (action ∷ []))
  noted_are periods move action is = by_test (is_move action)
    where
      by_test : (b : Bool) → AreMovesOf periods (noted_if b move) (cond b (action ∷ []) [])
      by_test true = (is, tt)
      by_test false = tt

  acted_stands : (before after : Showing) (moved : List Action) (m : Moment) (worker place : ℕ) (next : Parts) (name : ActionId)
      → StandsAt s before moved m → Does s.quota s.list before.parts worker place next → AreSame next after.parts
      → IsNamed s.list before.parts.periods name place → Counts s.list place name before after → StandsAfter s after moved m worker (does place)
  acted_stands before after moved m worker place next name at acts same named counts =
      let comes : Comes s m worker (does place) next = actions_are_events s some list m before.parts worker place next at.lawful at.shows acts in
      let added = actions_are_added s m comes.0 worker place comes.1 in (
        comes.0,
        comes.1,
        record {
          lawful = kept s list m at.lawful worker (does place) comes.0 comes.1;
          shows = same_show s.quota s.list next after.parts comes.0 same comes.2;
          live = counts.live ∙ ap (λ x. x +ℤ weight_at s.list place) at.live ∙ sym added.live;
          begun = counts.begun ∙ at.begun ∙ sym added.books;
          moves = subst (λ ms. AreMovesOf after.parts.periods ms (moved ++ filter is_move (action_at s.list place ∷ []))) (sym counts.moves)
              (moves_join after.parts.periods before.moves (noted_if (is_move (action_at s.list place)) counts.move) moved (filter is_move (action_at s.list place ∷ []))
              (moves_stay before.parts.periods after.parts.periods stays before.moves moved at.moves)
              (noted_are after.parts.periods counts.move (action_at s.list place) (record {
                by = subst (λ i. HasLabel after.parts.periods i (label_at s.list place)) (ap (λ n. ActionId.by n) (sym counts.by)) (stays name.by (label_at s.list place) named.by);
                index = named.index ∙ ap (λ n. ActionId.index n) (sym counts.by);
                change = counts.change;
              })));
          root_kept = λ ended. kept_moved next.results after.parts.results root same.results
              (root_leaves_its_result s some list m comes.0 before.parts next worker place at.lawful at.shows acts comes.1 ended);
        },
      )
    where
      stays : (id : ThreadId) (label : List ℕ) → HasLabel before.parts.periods id label → HasLabel after.parts.periods id label
      stays id label has = subst (λ ps. HasLabel ps id label) (sym same.periods)
          (does_keeps_labels s.quota s.list before.parts worker place next m.books at.shows.books acts id label has)

  pub actions_stand : ActionsStand s
  actions_stand before after moved m worker place next name at acts (as_they_are same) named counts =
      acted_stands before after moved m worker place next name at acts same named counts
  actions_stand before after moved m worker place next name at acts (handed_on behind hands same) named counts =
      let between : Showing = record { parts = next; live = after.live; begun = after.begun; moves = after.moves } in
      let first = acted_stands before between moved m worker place next name at acts (the_same next) named
      (record { live = counts.live; begun = counts.begun; move = counts.move; by = counts.by; change = counts.change; moves = counts.moves }) in (
        first.0,
        first.1,
        handings_stand between after (moved ++ filter is_move (action_at s.list place ∷ [])) first.0 worker behind first.2 hands same
            (record { live = refl; begun = none_more after.begun; moves = refl }),
      )

  -- ---- an event that does nothing

  quiet_stands : (before after : Showing) (moved : List Action) (m : Moment) (worker : ℕ) (event : Event) (begun : ℕ) (next : Parts) → place_of event ≡ []
      → StandsAt s before moved m → AreSame next after.parts → Keeps before after begun → next.results ≡ before.parts.results
      → ((id : ThreadId) (label : List ℕ) → HasLabel before.parts.periods id label → HasLabel next.periods id label)
      → (comes : Comes s m worker event next) → AddsNone s.list m comes.0 begun → StandsAfter s after moved m worker event
  quiet_stands before after moved m worker event begun next idle at same keeps same_results stays comes adds = (
    comes.0,
    comes.1,
    record {
      lawful = kept s list m at.lawful worker event comes.0 comes.1;
      shows = same_show s.quota s.list next after.parts comes.0 same comes.2;
      live = ap pos keeps.live ∙ at.live ∙ sym adds.live;
      begun = keeps.begun ∙ ap (λ n. n + begun) at.begun ∙ sym adds.books;
      moves = subst (λ xs. AreMovesOf after.parts.periods after.moves xs) (sym (ap (λ places. moved ++ filter is_move (map (action_at s.list) places)) idle ∙ append-nil moved))
          (subst (λ ms. AreMovesOf after.parts.periods ms moved) (sym keeps.moves)
          (moves_stay before.parts.periods after.parts.periods (λ id label has. subst (λ ps. HasLabel ps id label) (sym same.periods) (stays id label has)) before.moves moved at.moves));
      root_kept = λ ended. kept_moved next.results after.parts.results root same.results
          (subst (λ rs. IsKept rs root) (sym same_results) (at.root_kept (others_end_nothing s m comes.0 worker event [] comes.1 idle ended)));
    },
  )

  pub give_ups_stand : GiveUpsStand s
  give_ups_stand before after moved m worker next at gives same keeps =
      let comes : Comes s m worker gives_up next = give_ups_are_events s some list m before.parts worker next at.lawful at.shows gives in
      quiet_stands before after moved m worker gives_up 0 next refl at same keeps (give_up_keeps_results before.parts worker next gives)
      (give_up_keeps_labels s.quota s.list before.parts worker next m.books at.shows.books gives) comes ((others_add_none s m comes.0 worker).1 comes.1)

  pub waits_stand : WaitsStand s
  waits_stand before after moved m worker next at waits same keeps =
      let comes : Comes s m worker suspends next = waits_are_events s some list m before.parts worker next at.lawful at.shows waits in
      quiet_stands before after moved m worker suspends 0 next refl at same keeps (wait_keeps_results s.list before.parts worker next waits)
      (wait_keeps_labels s.quota s.list before.parts worker next m.books at.shows.books waits) comes ((others_add_none s m comes.0 worker).0 comes.1)

  pub thefts_stand : TheftsStand s
  thefts_stand before after moved m worker place id next at steals_it same keeps =
      let theft : Steals s.workers (Rattle.std.specs.Prelude.length m.books) before.parts worker place id next =
      subst (λ n. Steals s.workers n before.parts worker place id next) at.begun steals_it in
      let comes : Comes s m worker (steals place id) next = thefts_are_events s some list m before.parts worker place id next at.lawful at.shows theft in
      quiet_stands before after moved m worker (steals place id) 1 next refl at same keeps (theft_keeps_results s.workers before.begun before.parts worker place id next steals_it)
      (theft_keeps_labels s.workers before.begun before.parts worker place id next steals_it) comes ((others_add_none s m comes.0 worker).2 place id comes.1)
