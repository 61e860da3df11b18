-- An event of a trail leads one way, and so do its events one after another.
use Rattle.std.proofs.Common.{◌≡◌, ℕ, ◌<◌, List, [], ◌∷◌, ◌++◌, inl, inr, refl, sym, ap, subst, ◌∙◌, arith}
use Rattle.std.specs.Prelude.{Option, None, Some, unwrap_or}
use Rattle.std.proofs.lemmas.Bool.{cases_order}
use Rattle.depth_first_list.specs.Runs.{IsDepthFirst}
use Rattle.depth_first_list.specs.Facts.{deed_at}
use Rattle.deque_machine.specs.Moments.{Moment, done_at}
use Rattle.deque_machine.specs.Machine.{Setting, Event, steals, does, May}
use Rattle.deque_machine.specs.LawfulOrder.{IsLawful}
use Rattle.deque_machine.specs.Runs.{Pair, Reaches}
use Rattle.deque_machine.specs.Play.{Limits, Stays, IsThiefsId}
use Rattle.deque_machine.proofs.Kept.{kept}
use Rattle.deque_machine.proofs.LiveThreads.{one_next}
use Rattle.deque_machine.specs.Tests.{is_next}
use Rattle.deque_machine.specs.Step.{Hand, hand_of, act_by, does_by}
use Rattle.deque_machine.proofs.OnePlay.{one_way}
use Rattle.deque_machine.proofs.StepComplete.{step_complete}
use Rattle.deque_machine.proofs.StepSound.{none_is_not_some, gate}
use Rattle.deque_machine.proofs.TestLaws.{is_next_is}
use Rattle.trail_meaning.specs.declared.trail_event.TrailEvent.{TrailEvent}
use Rattle.trail_meaning.specs.declared.trail_kind.TrailKind.{TrailKind}
use Rattle.trail_check.specs.Following.{Tells, tells_steal, tells_action, tells_wait, tells_give_up, Leads, pair_of, Follows, stays, goes_on}

-- the id of the thief's deque is one
pub one_id : (m : Moment) (place id other : ℕ) → IsThiefsId m place id → IsThiefsId m place other → id ≡ other
one_id m place id other a b =
    let same : a.0 ≡ b.0 = ap (λ o. unwrap_or o a.0) (sym a.1 ∙ b.1) in
    elim a.2 [
      | inl taken ↦ elim b.2 [
        | inl again ↦ taken.1 ∙ ap (λ d. d.id) same ∙ sym again.1
        | inr new ↦ absurd (taken.0 (subst Stays (sym same) new.0))
      ]
      | inr new ↦ elim b.2 [
        | inl taken ↦ absurd (taken.0 (subst Stays same new.0))
        | inr again ↦ let x = new.1 in let y = again.1 in elim (cases_order id other) [
          | inl e ↦ e
          | inr r ↦ elim r [
            | inl lt ↦ let had = again.2 id lt in absurd (omega arith)
            | inr gt ↦ let had = new.2 other gt in absurd (omega arith)
          ]
        ]
      ]
    ]

module _ (s : Setting) (list : IsDepthFirst s.quota s.list) (m : Moment) (lawful : IsLawful s m) (worker : ℕ) where
  -- the next action of the worker's top thread is one
  by_hand : (a b : ℕ) (hand : Option Hand) (after other : Moment) → does_by s m worker a hand ≡ Some after → does_by s m worker b hand ≡ Some other → a ≡ b
  by_hand a b None after other x y = absurd (none_is_not_some after x)
  by_hand a b (Some h) after other x y =
      let p = gate (is_next s.list (done_at m) h.top a) (act_by s m h worker a (deed_at s.list a)) after x in
      let q = gate (is_next s.list (done_at m) h.top b) (act_by s m h worker b (deed_at s.list b)) other y in
      one_next s.quota s.list list (done_at m) ((lawful.periods).lawful).first_actions h.top a b
      (is_next_is s.list (done_at m) h.top a p.0) (is_next_is s.list (done_at m) h.top b q.0)

  one_place : (a b : ℕ) (after other : Moment) → May s m worker (does a) after → May s m worker (does b) other → a ≡ b
  one_place a b after other x y =
      by_hand a b (hand_of m worker) after other (step_complete s m lawful worker (does a) after x) (step_complete s m lawful worker (does b) other y)

  -- a kind says one event that may come
  one_told : (kind : TrailKind) (event event' : Event) (after other : Moment) → Tells m kind event → Tells m kind event'
      → May s m worker event after → May s m worker event' other → event ≡ event'
  one_told kind event event' after other (tells_steal place id named) (tells_steal place' id' named') x y = ap (steals place) (one_id m place id id' named named')
  one_told kind event event' after other (tells_action place) (tells_action place') x y = ap does (one_place place place' after other x y)
  one_told kind event event' after other tells_wait tells_wait x y = refl
  one_told kind event event' after other tells_give_up tells_give_up x y = refl

module _ (s : Setting) (some : 0 < s.quota) (list : IsDepthFirst s.quota s.list) (limits : Limits) where
  -- so an event of a trail leads to one moment, by one event of the machine
  pub one_lead : (m : Moment) → IsLawful s m → (told : TrailEvent) (event event' : Event) (next next' : Moment) → Leads s limits m told event next
      → Leads s limits m told event' next' → (event ≡ event') × (next ≡ next')
  one_lead m lawful told event event' next next' a b =
      let same = one_told s list m lawful told.worker told.kind event event' next next' a.tells b.tells a.may b.may in
      (same, one_way s some list m next next' told.worker event lawful a.may (subst (λ e. May s m told.worker e next') (sym same) b.may))

  -- and it leads to a lawful one
  pub leads_lawful : (m : Moment) → IsLawful s m → (told : TrailEvent) (event : Event) (next : Moment) → Leads s limits m told event next → IsLawful s next
  leads_lawful m lawful told event next leads = kept s list m lawful told.worker event next leads.may

  -- what the events of a trail lead to is a run
  pub are_run : (m : Moment) (events : List TrailEvent) (run : List Pair) (last : Moment) → Follows s limits m events run last → Reaches s m run last
  are_run m events run last (stays m') = refl
  are_run m events run last (goes_on m' next last' told event later run' leads rest) = (next, leads.may, are_run next later run' last rest)

  pub follows_lawful : (m : Moment) → IsLawful s m → (events : List TrailEvent) (run : List Pair) (last : Moment) → Follows s limits m events run last → IsLawful s last
  follows_lawful m lawful events run last (stays m') = lawful
  follows_lawful m lawful events run last (goes_on m' next last' told event later run' leads rest) =
      follows_lawful next (leads_lawful m lawful told event next leads) later run' last rest

  -- there is one run for the events of a trail
  pub one_run : (m : Moment) → IsLawful s m → (events : List TrailEvent) (run run' : List Pair) (last last' : Moment) → Follows s limits m events run last
      → Follows s limits m events run' last' → (run ≡ run') × (last ≡ last')
  one_run m lawful [] run run' last last' (stays a) (stays b) = (refl, refl)
  one_run m lawful (told ∷ later) run run' last last' (goes_on a next l told' event later' rest leads further) (goes_on b next' k told'' event' later'' rest' leads' further') =
      let same = one_lead m lawful told event event' next next' leads leads' in
      let more = one_run next (leads_lawful m lawful told event next leads) later rest rest' last last' further
      (subst (λ x. Follows s limits x later rest' last') (sym same.1) further') in
      (ap (λ e. pair_of told.worker e ∷ rest) same.0 ∙ ap (λ t. pair_of told.worker event' ∷ t) more.0, more.1)

  -- The events of a trail, cut in two.
  pub record Halves (m : Moment) (front back : List TrailEvent) (last : Moment) : Type 0 where
    pub begun : List Pair
    pub rest : List Pair
    pub moment : Moment
    pub follows : Follows s limits m front begun moment
    pub further : Follows s limits moment back rest last

  pub halves : (m : Moment) (front back : List TrailEvent) (run : List Pair) (last : Moment) → Follows s limits m (front ++ back) run last → Halves m front back last
  halves m [] back run last follows = record { begun = []; rest = run; moment = m; follows = stays m; further = follows }
  halves m (told ∷ front) back run last (goes_on a next l told' event later rest leads further) =
      let h = halves next front back rest last further in record {
        begun = pair_of told.worker event ∷ h.begun;
        rest = h.rest;
        moment = h.moment;
        follows = goes_on m next h.moment told event front h.begun leads h.follows;
        further = h.further;
      }
