-- Once the root has ended, no event may come, so its End is the last event of a good trail.
use Rattle.std.proofs.Common.{◌≡◌, ℕ, ◌+◌, ◌<◌, List, [], ◌∷◌, ◌++◌, inl, inr, refl, sym, ap, subst, ◌∙◌, arith}
use Rattle.std.proofs.lemmas.Bool.{cases_lt}
use Rattle.depth_first_list.specs.Actions.{ends}
use Rattle.depth_first_list.specs.Runs.{IsDepthFirst}
use Rattle.depth_first_list.specs.Facts.{label_at, deed_at, IsLive}
use Rattle.depth_first_list.proofs.LiveLaws.{root_end_means_all}
use Rattle.depth_first_list.proofs.ThreadLaws.{each_thread_ends}
use Rattle.deque_machine.specs.Lists.{Each, total, one_if_same}
use Rattle.deque_machine.proofs.Lists.{each_at, one_cases}
use Rattle.deque_machine.specs.Moments.{Deque, Moment, opening, done_at, threads_in}
use Rattle.deque_machine.specs.Machine.{Setting, Event, steals, does, suspends, gives_up, Owns, HasEnded, May, steals_beside, takes_over, forks_child, joins_child, allocates_within, allocates_above, releases_words, meets_fault, runs_dummy, ends_above_parent, ends_and_wakes, ends_and_leaves, suspends_top, gives_deque_up}
use Rattle.deque_machine.specs.LawfulOrder.{IsLawful}
use Rattle.deque_machine.specs.Play.{Limits}
use Rattle.deque_machine.specs.Runs.{Pair, place_of}
use Rattle.deque_machine.proofs.Kept.{opening_is_lawful}
use Rattle.deque_machine.proofs.Movers.{Decided, ended_or_not}
use Rattle.deque_machine.proofs.Shapes.{threads_append}
use Rattle.trail_meaning.specs.declared.trail_event.TrailEvent.{TrailEvent}
use Rattle.trail_check.specs.Following.{Leads, pair_of, Follows, stays, goes_on}
use Rattle.trail_check.specs.GoodLaws.{NothingBehindTheEnd, EndsWithRoot, RootEndsLast}
use Rattle.trail_check.proofs.Adding.{adds_to_books}
use Rattle.trail_check.proofs.Steps.{leads_lawful, follows_lawful}

module _ (s : Setting) (list : IsDepthFirst s.quota s.list) (m : Moment) (lawful : IsLawful s m) (ended : HasEnded s m []) where
  -- no thread is live
  none_live : (thread : List ℕ) → ¬ IsLive s.list (done_at m) thread
  none_live thread live =
      let at = live.acts in
      let e = each_thread_ends s.quota s.list list at.0 at.1 in
      let missing = live.goes_on e.0 e.2 (e.3 ∙ at.2) e.4 in
      let did = root_end_means_all s.quota s.list list (done_at m) ((lawful.periods).lawful).first_actions ended.0 e.0 ended.1 e.2 ended.2 ended.3 ended.4 in
      absurd (omega (arith, missing, did))

  -- so no deque has a thread
  none_there : (left right : List Deque) (deque : Deque) (thread : List ℕ) (others : List (List ℕ)) → m.deques ≡ left ++ deque ∷ right
      → deque.threads ≡ thread ∷ others → ⊥
  none_there left right deque thread others is threads_are =
      let cut : threads_in m.deques ≡ threads_in left ++ thread ∷ (others ++ threads_in right) =
      ap threads_in is ∙ threads_append left (deque ∷ right) ∙ ap (λ t. threads_in left ++ (t ++ threads_in right)) threads_are in
      none_live thread (each_at (IsLive s.list (done_at m)) (threads_in left) thread (others ++ threads_in right)
      (subst (λ t. Each (IsLive s.list (done_at m)) t) cut (lawful.order).all_live))

  owns_none : (worker : ℕ) → ¬ Owns m worker
  owns_none worker o = none_there o.left o.right _ o.top o.under o.deques_are refl

  no_event : (worker : ℕ) (event : Event) (after : Moment) → ¬ May s m worker event after
  no_event worker event after (steals_beside left right victim first others bottom id idle reach deques_are threads_are new_id) =
      none_there left right victim first (others ++ bottom ∷ []) deques_are threads_are
  no_event worker event after (takes_over left right thread id idle reach deques_are) = none_there left right _ thread [] deques_are refl
  no_event worker event after (forks_child o place child at fits) = owns_none worker o
  no_event worker event after (joins_child o place child at has) = owns_none worker o
  no_event worker event after (allocates_within o place at small fits) = owns_none worker o
  no_event worker event after (allocates_above o place at large) = owns_none worker o
  no_event worker event after (releases_words o place at) = owns_none worker o
  no_event worker event after (meets_fault o place at) = owns_none worker o
  no_event worker event after (runs_dummy o place at) = owns_none worker o
  no_event worker event after (ends_above_parent o place child parent below at under_is top_is) = owns_none worker o
  no_event worker event after (ends_and_wakes o place before later parent at under_is waiting_is top_is) = owns_none worker o
  no_event worker event after (ends_and_leaves o place at under_is unwaited) = owns_none worker o
  no_event worker event after (suspends_top o place child at not_ended under_is) = owns_none worker o
  no_event worker event after (gives_deque_up o) = owns_none worker o

pub nothing_behind_the_end : (s : Setting) → 0 < s.quota → IsDepthFirst s.quota s.list → NothingBehindTheEnd s
nothing_behind_the_end s some list limits events run m after worker event follows ended =
    no_event s list m (follows_lawful s some list limits opening (opening_is_lawful s list) events run m follows) ended worker event after

-- an event after which the root has ended, and before which it had not, is its End
root_did : (s : Setting) (m : Moment) (worker : ℕ) (event : Event) (next : Moment) → May s m worker event next → ¬ HasEnded s m [] → HasEnded s next []
    → (place : ℕ) × (event ≡ does place) × (label_at s.list place ≡ []) × (deed_at s.list place ≡ ends)
root_did s m worker event next may before (place, inside, of_root, its_end, did) =
    by_event event (adds_to_books s (one_if_same place) m worker event next may)
  where
    none : done_at m place ≡ 0
    none = elim (cases_lt 0 (done_at m place)) [ inl some ↦ absurd (before (place, inside, of_root, its_end, some)) | inr low ↦ omega (arith, low) ]

    by_event : (event : Event) → done_at next place ≡ done_at m place + total (one_if_same place) (place_of event)
        → (p : ℕ) × (event ≡ does p) × (label_at s.list p ≡ []) × (deed_at s.list p ≡ ends)
    by_event (steals at id) sum = let zero_before = none in absurd (omega (arith, sum, zero_before, did))
    by_event suspends sum = let zero_before = none in absurd (omega (arith, sum, zero_before, did))
    by_event gives_up sum = let zero_before = none in absurd (omega (arith, sum, zero_before, did))
    by_event (does p) sum = elim (one_cases place p) [
      | inl same ↦ (p, refl, ap (label_at s.list) (sym same.0) ∙ of_root, ap (deed_at s.list) (sym same.0) ∙ its_end)
      | inr other ↦ let zero_before = none in let one = other.1 in absurd (omega (arith, sum, zero_before, did, one))
    ]

-- the root has not ended at the opening
not_yet : (s : Setting) → ¬ HasEnded s opening []
not_yet s (place, inside, of_root, its_end, did) = absurd (omega (arith, did))

module _ (s : Setting) (some : 0 < s.quota) (list : IsDepthFirst s.quota s.list) (limits : Limits) where
  -- after the End of the root a trail has no events
  nothing_more : (m : Moment) → IsLawful s m → HasEnded s m [] → (events : List TrailEvent) (run : List Pair) (last : Moment) → Follows s limits m events run last
      → (events ≡ []) × (m ≡ last)
  nothing_more m lawful ended events run last (stays a) = (refl, refl)
  nothing_more m lawful ended events run last (goes_on a next k told event later rest leads further) =
      absurd (no_event s list m lawful ended told.worker event next leads.may)

  ends_last : (m : Moment) → IsLawful s m → ¬ HasEnded s m [] → (events : List TrailEvent) (run : List Pair) (last : Moment) → Follows s limits m events run last
      → HasEnded s last [] → EndsWithRoot s limits m events last
  ends_last m lawful before events run last (stays a) ended = absurd (before ended)
  ends_last m lawful before events run last (goes_on a next k told event later rest leads further) ended =
      by_next (λ none. ends_last next (leads_lawful s some list limits m lawful told event next leads) none later rest last further ended) (ended_or_not s next [])
    where
      it : IsLawful s next
      it = leads_lawful s some list limits m lawful told event next leads

      by_next : (¬ HasEnded s next [] → EndsWithRoot s limits next later last) → Decided (HasEnded s next []) → EndsWithRoot s limits m (told ∷ later) last
      by_next further_on (inl done) =
          let end = nothing_more next it done later rest last further in
          let did = root_did s m told.worker event next leads.may before done in record {
            front = [];
            told = told;
            is = ap (λ t. told ∷ t) end.0;
            begun = [];
            before = m;
            follows = stays m;
            not_ended = before;
            place = did.0;
            of_root = did.2;
            its_end = did.3;
            leads = subst (λ x. Leads s limits m told (does did.0) x) end.1 (subst (λ e. Leads s limits m told e next) did.1 leads);
          }
      by_next further_on (inr none) =
          let e = further_on none in record {
            front = told ∷ e.front;
            told = e.told;
            is = ap (λ t. told ∷ t) e.is;
            begun = pair_of told.worker event ∷ e.begun;
            before = e.before;
            follows = goes_on m next e.before told event e.front e.begun leads e.follows;
            not_ended = e.not_ended;
            place = e.place;
            of_root = e.of_root;
            its_end = e.its_end;
            leads = e.leads;
          }

pub root_ends_last : (s : Setting) → 0 < s.quota → IsDepthFirst s.quota s.list → RootEndsLast s
root_ends_last s some list limits events run last good =
    ends_last s some list limits opening (opening_is_lawful s list) (not_yet s) events run last good.follows good.ended
