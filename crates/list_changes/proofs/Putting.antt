-- A list with the worker's deque in the middle, and what a thread that goes back is on the parts.
use Rattle.std.proofs.Common.{◌≡◌, ℕ, ◌+◌, List, [], ◌∷◌, ◌++◌, length, map, refl, sym, ap, subst, ◌∙◌}
use Rattle.std.specs.Prelude.{None, Some, slice_get, slice_set}
use Rattle.std.proofs.lemmas.List.{map-append}
use Rattle.std.proofs.lemmas.Option.{none-some, slice_get-map}
use Rattle.std.specs.Option.{option_map}
use Rattle.dag_order.specs.declared.action_id.ActionId.{ActionId}
use Rattle.dag_order.specs.declared.birth.Birth.{Birth}
use Rattle.deque_list.specs.declared.deque_id.DequeId.{DequeId}
use Rattle.deque_list.specs.Deques.{Deque, DequeAt, deque_ids}
use Rattle.deque_list.specs.DequeLists.{ListView, SameElsewhere, SameRoom}
use Rattle.open_periods.specs.Passed.Actions.{Action}
use Rattle.open_periods.specs.Passed.Lists.{Among}
use Rattle.open_periods.specs.Passed.Books.{charge_at}
use Rattle.open_periods.specs.Periods.{Period, Replaces}
use Rattle.open_periods.proofs.Sorting.{get_middle}
use Rattle.open_periods.specs.declared.table.PeriodTable.{PeriodTable}
use Rattle.open_periods.specs.Tables.{periods_of, period_at, seat_at, noted, shut}
use Rattle.open_periods.proofs.Seats.{some_shown}
use Rattle.open_periods.proofs.Lists.{replaced_twice}
use Rattle.moment_shown.specs.Parts as parts
use Rattle.moment_shown.specs.Events.{Works, Notes, name_of, Does, does_alone, runs_dummy, joins_newest, forks_child}
use Rattle.list_changes.specs.Shown.{deque_shown, deque_with, parts_of, Stands, Becomes, parts_under}
use Rattle.list_changes.specs.Events.{DidAlone, DidDummy, DidJoin, DidFork}

module _ {X : Type 0} where
  pub set_middle : (left : List X) (x y : X) (right : List X) → slice_set (left ++ x ∷ right) (length left) y ≡ left ++ y ∷ right
  set_middle [] x y right = refl
  set_middle (z ∷ left) x y right = ap (λ t. z ∷ t) (set_middle left x y right)

module _ {T : Type 0} where
  abbrev pub here : {list : ListView T} {worker : ℕ} {id : DequeId} {items : List T} → Stands list worker id items → Deque T
  here {list} {worker} {id} {items} stands = record { id = id; owner = Some worker; items = items }

  -- the deque stands at its rank
  pub at_rank : {list : ListView T} {worker : ℕ} {id : DequeId} {items : List T} (stands : Stands list worker id items) → DequeAt list.deques id (length stands.left) (here stands)
  at_rank stands = (ap (λ ds. slice_get ds (length stands.left)) stands.deques_are ∙ get_middle stands.left (here stands) stands.right, refl)

  pub live : {list : ListView T} {worker : ℕ} {id : DequeId} {items : List T} (stands : Stands list worker id items) → (rank : ℕ) × (slice_get (deque_ids list.deques) rank ≡ Some id)
  live {list} stands = (length stands.left, slice_get-map (λ d. Deque.id d) list.deques (length stands.left) ∙ ap (option_map (λ d. Deque.id d)) (at_rank stands).0)

  -- it has one item more on top
  abbrev pub pushed : {list : ListView T} {worker : ℕ} {id : DequeId} {items : List T} (stands : Stands list worker id items) (next : ListView T) (item : T)
      → ((rank : ℕ) (deque : Deque T) → DequeAt list.deques id rank deque → next.deques ≡ slice_set list.deques rank (record deque { items = item ∷ deque.items }))
      → Stands next worker id (item ∷ items)
  pushed {list} {worker} {id} {items} stands next item clause = record {
    left = stands.left;
    right = stands.right;
    deques_are = clause (length stands.left) (here stands) (at_rank stands)
        ∙ ap (λ ds. slice_set ds (length stands.left) (record { id = id; owner = Some worker; items = item ∷ items })) stands.deques_are
        ∙ set_middle stands.left (here stands) (record { id = id; owner = Some worker; items = item ∷ items }) stands.right;
  }

  -- its owner left it
  pub given_up : {list : ListView T} {worker : ℕ} {id : DequeId} {items : List T} (stands : Stands list worker id items) (next : ListView T)
      → ((rank : ℕ) (deque : Deque T) → DequeAt list.deques id rank deque → next.deques ≡ slice_set list.deques rank (record deque { owner = None }))
      → next.deques ≡ stands.left ++ record { id = id; owner = None; items = items } ∷ stands.right
  given_up {list} {worker} {id} {items} stands next clause =
      clause (length stands.left) (here stands) (at_rank stands)
      ∙ ap (λ ds. slice_set ds (length stands.left) (record { id = id; owner = None; items = items })) stands.deques_are
      ∙ set_middle stands.left (here stands) (record { id = id; owner = None; items = items }) stands.right

  -- what the deque has become, with one item more, with two, and with one and without an owner
  pub one_back : {list : ListView T} {worker : ℕ} {id : DequeId} {items : List T} (stands : Stands list worker id items) (next : ListView T) (item : T)
      → ((rank : ℕ) (deque : Deque T) → DequeAt list.deques id rank deque → next.deques ≡ slice_set list.deques rank (record deque { items = item ∷ deque.items }))
      → SameElsewhere list next id → Becomes stands next (deque_with id (Some worker) (item ∷ items) ∷ [])
  one_back stands next item push rest = record { deques = (pushed stands next item push).deques_are; most = rest.most; spare = rest.spare }

  pub both_back : {list : ListView T} {worker : ℕ} {id : DequeId} {items : List T} (stands : Stands list worker id items) (mid next : ListView T) (item child : T)
      → ((rank : ℕ) (deque : Deque T) → DequeAt list.deques id rank deque → mid.deques ≡ slice_set list.deques rank (record deque { items = item ∷ deque.items }))
      → ((rank : ℕ) (deque : Deque T) → DequeAt mid.deques id rank deque → next.deques ≡ slice_set mid.deques rank (record deque { items = child ∷ deque.items }))
      → SameElsewhere list mid id → SameElsewhere mid next id → Becomes stands next (deque_with id (Some worker) (child ∷ item ∷ items) ∷ [])
  both_back stands mid next item child push push_child rest rest_next = record {
    deques = (pushed (pushed stands mid item push) next child push_child).deques_are;
    most = rest_next.most ∙ rest.most;
    spare = rest_next.spare ∙ rest.spare;
  }

  pub back_unowned : {list : ListView T} {worker : ℕ} {id : DequeId} {items : List T} (stands : Stands list worker id items) (mid next : ListView T) (item : T)
      → ((rank : ℕ) (deque : Deque T) → DequeAt list.deques id rank deque → mid.deques ≡ slice_set list.deques rank (record deque { items = item ∷ deque.items }))
      → ((rank : ℕ) (deque : Deque T) → DequeAt mid.deques id rank deque → next.deques ≡ slice_set mid.deques rank (record deque { owner = None }))
      → SameElsewhere list mid id → SameRoom mid next → Becomes stands next (deque_with id None (item ∷ items) ∷ [])
  back_unowned stands mid next item push give rest rest_next = record {
    deques = given_up (pushed stands mid item push) next give;
    most = rest_next.most ∙ rest.most;
    spare = rest_next.spare ∙ rest.spare;
  }

  -- what a list with a deque in the middle shows
  pub shown_middle : (shown : T → parts.Thread) (left right : List (Deque T)) (d : Deque T)
      → map (deque_shown shown) (left ++ d ∷ right) ≡ map (deque_shown shown) left ++ deque_shown shown d ∷ map (deque_shown shown) right
  shown_middle shown left right d = map-append (deque_shown shown) left (d ∷ right)

-- what a worker works on, with a thread on top
module _ {T : Type 0} (shown : T → parts.Thread) (waiting : List parts.Thread) (results : List parts.Result) {list : ListView T} {worker : ℕ} {id : DequeId} {items : List T}
    (stands : Stands list worker id items) (table : PeriodTable) (period : Period) (is : period_at table worker ≡ Some period) (there : Among period (periods_of table)) (was : parts.Thread) where
  abbrev pub works : Works (parts_under shown waiting results stands table was) worker
  works = record {
    left = map (deque_shown shown) stands.left;
    id = id.0;
    top = was;
    under = map shown items;
    right = map (deque_shown shown) stands.right;
    period = period;
    deques_are = refl;
    period_there = there;
    open_for_it = let found = some_shown worker (seat_at table worker) period is in ap (λ p. Period.owner p) found.2;
  }

  -- its period with one action more
  pub notes : (k : ℕ) (l : List Action) (place words : ℕ) (births : List Birth) (name : ActionId) (after : List Period)
      → Replaces (periods_of table) period (noted period name words births) after → name ≡ name_of was → words ≡ charge_at k l place
      → Notes k l works place births (Some worker) after
  notes k l place words births name after replaces named charged = record {
    after = noted period name words births;
    replaces = replaces;
    same_ahead = refl;
    owner_is = let found = some_shown worker (seat_at table worker) period is in ap (λ p. Period.owner p) found.2;
    ran = ap (λ n. period.ran ++ n ∷ []) named;
    born = refl;
    used = λ w owner. ap (λ n. period.used + n) charged;
  }

  -- and closed
  pub notes_closed : (k : ℕ) (l : List Action) (place words : ℕ) (name : ActionId) (after : List Period)
      → Replaces (periods_of table) period (shut (noted period name words [])) after → name ≡ name_of was
      → Notes k l works place [] None after
  notes_closed k l place words name after replaces named = record {
    after = shut (noted period name words []);
    replaces = replaces;
    same_ahead = refl;
    owner_is = refl;
    ran = ap (λ n. period.ran ++ n ∷ []) named;
    born = refl;
    used = λ w owner. absurd (none-some w owner);
  }

-- the calls
module _ {T : Type 0} {worker : ℕ} {id : DequeId} (items : List T) (before : ListView T) (table : PeriodTable) (next : ListView T) (after : PeriodTable) where
  pub back_alone : (top : T) (name : ActionId) (words : ℕ)
      → ((rank : ℕ) (deque : Deque T) → DequeAt before.deques id rank deque → next.deques ≡ slice_set before.deques rank (record deque { items = top ∷ deque.items }))
      → ((p : Period) → period_at table worker ≡ Some p → Replaces (periods_of table) p (noted p name words []) (periods_of after))
      → (shown : T → parts.Thread) (waiting : List parts.Thread) (results : List parts.Result) (k : ℕ) (l : List Action) (period : Period) (was : parts.Thread) (place : ℕ)
      (stands : Stands before worker id items) → period_at table worker ≡ Some period → DidAlone k l period was (shown top) name words place
      → Does k l (parts_under shown waiting results stands table was) worker place (parts_of shown waiting results next after)
  back_alone top name words push note shown waiting results k l period was place stands is did =
      let replaces = note period is in
      let o = works shown waiting results stands table period is replaces.was_there was in
      let n = notes shown waiting results stands table period is replaces.was_there was k l place words [] name (periods_of after) replaces did.named did.charged in
      let deques = ap (map (deque_shown shown)) (pushed stands next top push).deques_are ∙ shown_middle shown stands.left stands.right (record { id = id; owner = Some worker; items = top ∷ items }) in
      subst (λ ds. Does k l (parts_under shown waiting results stands table was) worker place (record { deques = ds; waiting = waiting; results = results; periods = periods_of after })) (sym deques)
      (does_alone o did.deed (shown top) (periods_of after) did.next did.may did.acted did.children did.weighs n)

  pub back_joined : (top : T) (name : ActionId) (words : ℕ)
      → ((rank : ℕ) (deque : Deque T) → DequeAt before.deques id rank deque → next.deques ≡ slice_set before.deques rank (record deque { items = top ∷ deque.items }))
      → ((p : Period) → period_at table worker ≡ Some p → Replaces (periods_of table) p (noted p name words []) (periods_of after))
      → (shown : T → parts.Thread) (waiting : List parts.Thread) (results : List parts.Result) (k : ℕ) (l : List Action) (period : Period) (was : parts.Thread) (place : ℕ)
      (stands : Stands before worker id items) → period_at table worker ≡ Some period → DidJoin k l was (shown top) name words place
      → Does k l (parts_under shown waiting results stands table was) worker place (parts_of shown waiting results next after)
  back_joined top name words push note shown waiting results k l period was place stands is did =
      let replaces = note period is in
      let o = works shown waiting results stands table period is replaces.was_there was in
      let n = notes shown waiting results stands table period is replaces.was_there was k l place words [] name (periods_of after) replaces did.named did.charged in
      let deques = ap (map (deque_shown shown)) (pushed stands next top push).deques_are ∙ shown_middle shown stands.left stands.right (record { id = id; owner = Some worker; items = top ∷ items }) in
      subst (λ ds. Does k l (parts_under shown waiting results stands table was) worker place (record { deques = ds; waiting = waiting; results = results; periods = periods_of after })) (sym deques)
      (joins_newest o did.newest did.older (shown top) (periods_of after) did.children_were did.given did.next did.acted did.children did.weighs n)

  pub back_dummy : (top : T) (name : ActionId) (mid : ListView T) (middle : PeriodTable)
      → ((rank : ℕ) (deque : Deque T) → DequeAt before.deques id rank deque → mid.deques ≡ slice_set before.deques rank (record deque { items = top ∷ deque.items }))
      → ((rank : ℕ) (deque : Deque T) → DequeAt mid.deques id rank deque → next.deques ≡ slice_set mid.deques rank (record deque { owner = None }))
      → ((p : Period) → period_at table worker ≡ Some p → Replaces (periods_of table) p (noted p name 0 []) (periods_of middle))
      → ((p : Period) → period_at table worker ≡ Some p → period_at middle worker ≡ Some (noted p name 0 []))
      → ((p : Period) → period_at middle worker ≡ Some p → Replaces (periods_of middle) p (shut p) (periods_of after))
      → (shown : T → parts.Thread) (waiting : List parts.Thread) (results : List parts.Result) (k : ℕ) (l : List Action) (period : Period) (was : parts.Thread) (place : ℕ)
      (stands : Stands before worker id items) → period_at table worker ≡ Some period → DidDummy k l was (shown top) name 0 place
      → Does k l (parts_under shown waiting results stands table was) worker place (parts_of shown waiting results next after)
  back_dummy top name mid middle push give note told close shown waiting results k l period was place stands is did =
      let first = note period is in
      let replaces = replaced_twice (periods_of table) (periods_of middle) (periods_of after) period (noted period name 0 []) (shut (noted period name 0 [])) first
      (close (noted period name 0 []) (told period is)) in
      let o = works shown waiting results stands table period is first.was_there was in
      let n = notes_closed shown waiting results stands table period is first.was_there was k l place 0 name (periods_of after) replaces did.named in
      let on_top = pushed stands mid top push in
      let deques = ap (map (deque_shown shown)) (given_up on_top next give) ∙ shown_middle shown stands.left stands.right (record { id = id; owner = None; items = top ∷ items }) in
      subst (λ ds. Does k l (parts_under shown waiting results stands table was) worker place (record { deques = ds; waiting = waiting; results = results; periods = periods_of after })) (sym deques)
      (runs_dummy o (shown top) (periods_of after) did.next did.acted did.children did.same_words n)

  pub back_forked : (top child : T) (name : ActionId) (ordinal : ℕ) (mid : ListView T)
      → ((rank : ℕ) (deque : Deque T) → DequeAt before.deques id rank deque → mid.deques ≡ slice_set before.deques rank (record deque { items = top ∷ deque.items }))
      → ((rank : ℕ) (deque : Deque T) → DequeAt mid.deques id rank deque → next.deques ≡ slice_set mid.deques rank (record deque { items = child ∷ deque.items }))
      → ((p : Period) → period_at table worker ≡ Some p
      → Replaces (periods_of table) p (noted p name 16 (record { parent = name.by; ordinal = ordinal } ∷ [])) (periods_of after))
      → (shown : T → parts.Thread) (waiting : List parts.Thread) (results : List parts.Result) (k : ℕ) (l : List Action) (period : Period) (was : parts.Thread) (place : ℕ)
      (stands : Stands before worker id items) → period_at table worker ≡ Some period → DidFork k l period was (shown top) (shown child) name 16 place ordinal
      → Does k l (parts_under shown waiting results stands table was) worker place (parts_of shown waiting results next after)
  back_forked top child name ordinal mid push push_child note shown waiting results k l period was place stands is did =
      let replaces = note period is in
      let o = works shown waiting results stands table period is replaces.was_there was in
      let parent : name.by ≡ was.id = ap (λ n. ActionId.by n) did.named in
      let births : Replaces (periods_of table) period (noted period name 16 (record { parent = was.id; ordinal = ordinal } ∷ [])) (periods_of after) =
      subst (λ i. Replaces (periods_of table) period (noted period name 16 (record { parent = i; ordinal = ordinal } ∷ [])) (periods_of after)) parent replaces in
      let n = notes shown waiting results stands table period is replaces.was_there was k l place 16 (record { parent = was.id; ordinal = ordinal } ∷ []) name (periods_of after) births did.named did.charged in
      let both = pushed (pushed stands mid top push) next child push_child in
      let deques = ap (map (deque_shown shown)) both.deques_are ∙ shown_middle shown stands.left stands.right (record { id = id; owner = Some worker; items = child ∷ top ∷ items }) in
      subst (λ ds. Does k l (parts_under shown waiting results stands table was) worker place (record { deques = ds; waiting = waiting; results = results; periods = periods_of after })) (sym deques)
      (forks_child o ordinal (parts.Thread.func (shown child)) (shown top) (shown child) (periods_of after) did.next did.fits did.acted did.child_id did.child_parent did.child_label did.child_done refl did.child_children did.children did.sum n)
