-- What a thread that ended, or that waits, and a deque that is given up are on the parts.
use Rattle.std.proofs.Common.{◌≡◌, ℕ, List, [], ◌∷◌, ◌++◌, length, map, refl, sym, ap, subst, ◌∙◌}
use Rattle.std.specs.Prelude.{None, Some, slice_set, remove}
use Rattle.std.proofs.lemmas.List.{map-append}
use Rattle.dag_order.specs.declared.action_id.ActionId.{ActionId}
use Rattle.deque_list.specs.declared.deque_id.DequeId.{DequeId}
use Rattle.deque_list.specs.Deques.{Deque, DequeAt}
use Rattle.deque_list.specs.DequeLists.{ListView, SameElsewhere}
use Rattle.open_periods.specs.Passed.Actions.{ends, Action}
use Rattle.open_periods.specs.Passed.Facts.{words_at}
use Rattle.open_periods.specs.Passed.Books.{charge, charge_at}
use Rattle.open_periods.specs.Periods.{Period, Replaces}
use Rattle.open_periods.specs.declared.table.PeriodTable.{PeriodTable}
use Rattle.open_periods.specs.Tables.{periods_of, period_at, noted, shut}
use Rattle.open_periods.proofs.Lists.{replaced_twice}
use Rattle.moment_shown.specs.Parts as parts
use Rattle.moment_shown.specs.Events.{IsNextOf, Does, GivesUp, Suspends, ends_above, ends_and_wakes, ends_and_leaves, gives_up_deque, suspends_top}
use Rattle.list_changes.specs.Shown.{deque_shown, Stands, Becomes, parts_under}
use Rattle.list_changes.specs.Events.{EndsAbove, EndsAndWakes, EndsAndLeaves, GaveUp, Suspended}
use Rattle.list_changes.proofs.Putting.{at_rank, here, pushed, given_up, shown_middle, works, notes, notes_closed}

-- an End takes nothing of the quota
no_charge : (k : ℕ) (l : List Action) (x : parts.Thread) (place : ℕ) → IsNextOf l x place ends → 0 ≡ charge_at k l place
no_charge k l x place next = sym (ap (λ d. charge k d (words_at l place)) next.does)

module _ {X : Type 0} where
  pub remove_middle : (left : List X) (x : X) (right : List X) → remove (left ++ x ∷ right) (length left) ≡ left ++ right
  remove_middle [] x right = refl
  remove_middle (y ∷ left) x right = ap (λ t. y ∷ t) (remove_middle left x right)

module _ {T : Type 0} {worker : ℕ} {id : DequeId} (before : ListView T) (table : PeriodTable) (next : ListView T) (after : PeriodTable) where
  -- a deque that leaves the list
  pub left_out : (stands : Stands before worker id []) → ((rank : ℕ) (deque : Deque T) → DequeAt before.deques id rank deque → next.deques ≡ remove before.deques rank)
      → next.deques ≡ stands.left ++ stands.right
  left_out stands clause = clause (length stands.left) (here stands) (at_rank stands) ∙ ap (λ ds. remove ds (length stands.left)) stands.deques_are
      ∙ remove_middle stands.left (here stands) stands.right

  pub gone : (stands : Stands before worker id []) → ((rank : ℕ) (deque : Deque T) → DequeAt before.deques id rank deque → next.deques ≡ remove before.deques rank)
      → SameElsewhere before next id → Becomes stands next []
  gone stands clause rest = record { deques = left_out stands clause; most = rest.most; spare = rest.spare }

  pub gave_up : (items : List T) (top : T) (mid : ListView T)
      → ((rank : ℕ) (deque : Deque T) → DequeAt before.deques id rank deque → mid.deques ≡ slice_set before.deques rank (record deque { items = top ∷ deque.items }))
      → ((rank : ℕ) (deque : Deque T) → DequeAt mid.deques id rank deque → next.deques ≡ slice_set mid.deques rank (record deque { owner = None }))
      → ((p : Period) → period_at table worker ≡ Some p → Replaces (periods_of table) p (shut p) (periods_of after))
      → GaveUp worker id items before table next after top
  gave_up items top mid push give close shown waiting results period stands is =
      let replaces = close period is in
      let o = works shown waiting results stands table period is replaces.was_there (shown top) in
      let on_top = pushed stands mid top push in
      let deques = ap (map (deque_shown shown)) (given_up on_top next give) ∙ shown_middle shown stands.left stands.right (record { id = id; owner = None; items = top ∷ items }) in
      subst (λ ds. GivesUp (parts_under shown waiting results stands table (shown top)) worker (record { deques = ds; waiting = waiting; results = results; periods = periods_of after })) (sym deques)
      (gives_up_deque o (periods_of after) (record { after = shut period; replaces = replaces; closes = record { same_ahead = refl; same_ran = refl; same_born = refl; is_closed = refl } }))

  pub suspended : ((rank : ℕ) (deque : Deque T) → DequeAt before.deques id rank deque → next.deques ≡ remove before.deques rank)
      → ((p : Period) → period_at table worker ≡ Some p → Replaces (periods_of table) p (shut p) (periods_of after))
      → Suspended worker id before table next after
  suspended out close shown waiting results l period was place newest older stands is is_next children missing unkept =
      let replaces = close period is in
      let o = works shown waiting results stands table period is replaces.was_there was in
      let deques = ap (map (deque_shown shown)) (left_out stands out) ∙ map-append (deque_shown shown) stands.left stands.right in
      subst (λ ds. Suspends l (parts_under shown waiting results stands table was) worker (record { deques = ds; waiting = was ∷ waiting; results = results; periods = periods_of after })) (sym deques)
      (suspends_top o place newest older (periods_of after) is_next children missing unkept refl
      (record { after = shut period; replaces = replaces; closes = record { same_ahead = refl; same_ran = refl; same_born = refl; is_closed = refl } }))

  pub left_empty : (name : ActionId) (middle : PeriodTable)
      → ((rank : ℕ) (deque : Deque T) → DequeAt before.deques id rank deque → next.deques ≡ remove before.deques rank)
      → ((p : Period) → period_at table worker ≡ Some p → Replaces (periods_of table) p (noted p name 0 []) (periods_of middle))
      → ((p : Period) → period_at table worker ≡ Some p → period_at middle worker ≡ Some (noted p name 0 []))
      → ((p : Period) → period_at middle worker ≡ Some p → Replaces (periods_of middle) p (shut p) (periods_of after))
      → EndsAndLeaves worker id before table next after name
  left_empty name middle out note told close shown waiting results k l period was place result stands is did unwaited =
      let first = note period is in
      let replaces = replaced_twice (periods_of table) (periods_of middle) (periods_of after) period (noted period name 0 []) (shut (noted period name 0 [])) first
      (close (noted period name 0 []) (told period is)) in
      let o = works shown waiting results stands table period is first.was_there was in
      let n = notes_closed shown waiting results stands table period is first.was_there was k l place 0 name (periods_of after) replaces did.named in
      let deques = ap (map (deque_shown shown)) (left_out stands out) ∙ map-append (deque_shown shown) stands.left stands.right in
      subst (λ ds. Does k l (parts_under shown waiting results stands table was) worker place (record { deques = ds; waiting = waiting; results = result ∷ results; periods = periods_of after })) (sym deques)
      (ends_and_leaves o result (periods_of after) did.next refl unwaited did.left_by n)

  pub woken : (name : ActionId) (parent : T)
      → ((rank : ℕ) (deque : Deque T) → DequeAt before.deques id rank deque → next.deques ≡ slice_set before.deques rank (record deque { items = parent ∷ deque.items }))
      → ((p : Period) → period_at table worker ≡ Some p → Replaces (periods_of table) p (noted p name 0 []) (periods_of after))
      → EndsAndWakes worker id before table next after name parent
  woken name parent push note shown waiting front back results k l period was place result newest older stands is did waiting_is children newest_is =
      let replaces = note period is in
      let o = works shown waiting results stands table period is replaces.was_there was in
      let n = notes shown waiting results stands table period is replaces.was_there was k l place 0 [] name (periods_of after) replaces did.named (no_charge k l was place did.next) in
      let deques = ap (map (deque_shown shown)) (pushed stands next parent push).deques_are ∙ shown_middle shown stands.left stands.right (record { id = id; owner = Some worker; items = parent ∷ [] }) in
      subst (λ ds. Does k l (parts_under shown waiting results stands table was) worker place (record { deques = ds; waiting = front ++ back; results = result ∷ results; periods = periods_of after })) (sym deques)
      (ends_and_wakes o front back (shown parent) newest older result (periods_of after) did.next refl waiting_is children newest_is did.left_by n)

pub ended_above : {T : Type 0} {worker : ℕ} {id : DequeId} (list : ListView T) (table after : PeriodTable) (name : ActionId)
    → ((p : Period) → period_at table worker ≡ Some p → Replaces (periods_of table) p (noted p name 0 []) (periods_of after))
    → EndsAbove worker id list table after name
ended_above {T} {worker} {id} list table after name note shown waiting results k l period was place result parent below stands is did =
    let replaces = note period is in
    let o = works shown waiting results stands table period is replaces.was_there was in
    let n = notes shown waiting results stands table period is replaces.was_there was k l place 0 [] name (periods_of after) replaces did.named (no_charge k l was place did.next) in
    let deques = ap (map (deque_shown shown)) stands.deques_are ∙ shown_middle shown stands.left stands.right (record { id = id; owner = Some worker; items = parent ∷ below }) in
    subst (λ ds. Does k l (parts_under shown waiting results stands table was) worker place (record { deques = ds; waiting = waiting; results = result ∷ results; periods = periods_of after })) (sym deques)
    (ends_above o (shown parent) (map shown below) result (periods_of after) did.next refl did.left_by n)
