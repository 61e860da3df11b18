-- What the list says to an owner, perhaps once there is more room in it.
use Rattle.std.proofs.Common.{◌≡◌, ◌≤◌, false, List, [], sym, ap, ◌∙◌, subst}
use Rattle.std.specs.Prelude.{None, Some}
use Rattle.dag_order.specs.Births.{root}
use Rattle.hall_actions.specs.Passed.HallNames.{DequeId, Each, HallSeat, MeetsLaw, HallKey, LaneSlot, ListSlot, ThreadId, is_delivered, children_of, label_of}
use Rattle.hall_actions.specs.Passed.HallNames.{next_of, Ended, Thread, kept_under, HasAs}
use Rattle.hall_slots.specs.Passed.Parts.{Has}
use Rattle.space_ledger.specs.BooksList.{books_spare}
use Rattle.thread_frames.specs.Kept.{WaitsUnder, IsUnderItsId}
use Rattle.thread_frames.specs.declared.next.Next.TheVariants as nexts
use Rattle.hall_actions.specs.Passed.Rooms.{KeepsDeques, HasMoreToLeave, HasMoreToWait}
use Rattle.hall_actions.proofs.Ending.{leaves_are_read}
use Rattle.hall_actions.proofs.Joining.{joins_are_read, waits_are_read, results_are_awaited}
use Rattle.hall_actions.proofs.Listing.{lists_are_read}
use Rattle.hall_actions.specs.Lists.{ComesTo, ReadsJoin, ReadsLeave, ReadsList, ReadsWait}
use Rattle.hall_actions.specs.Reads.{HoldsItsLane}
use Rattle.hall_slots.specs.declared.slot.Slot.TheVariants as slots
use Rattle.hall_actions.specs.Ends.{CanLeave, CanWake}
use Rattle.hall_actions.specs.Kept.{CanJoinKept}
use Rattle.hall_actions.specs.Pauses.{CanClose, CanWait}

module _ (key : HallKey) (seat : HallSeat) (deque : DequeId) (lane : LaneSlot) (list : ListSlot) (holds : HoldsItsLane seat deque lane)
    (has_list : HasAs 0 (slots.List list) seat.hand.holds) (meets : MeetsLaw key seat) where
  reads : ReadsList key seat deque list
  reads = lists_are_read key seat deque lane list holds has_list meets

  pub closes : (now : ListSlot) → KeepsDeques list now → 1 ≤ books_spare now.part.books → CanClose deque now
  closes now keeps room = record {
    owner = Some seat.hand.note.worker;
    has = subst (λ order. Has order.places deque (Some seat.hand.note.worker)) (sym keeps.order) reads.has;
    books = room;
  }

  module _ (top : Thread) (under : List Thread) where
    -- before a Join
    module _ (child : ThreadId) (comes : ComesTo key lane top under (nexts.Join child)) (missing : is_delivered child (children_of top) ≡ false) where
      joining : ReadsJoin top child
      joining = joins_are_read key seat deque lane top under child holds meets comes

      module _ (none : kept_under list.part.results child ≡ None) where
        waiting : ReadsWait list under child
        waiting = waits_are_read key seat deque lane list top under child holds has_list meets comes missing none

        pub alone : under ≡ []
        alone = waiting.alone

        pub waits : (now : ListSlot) → HasMoreToWait list now → 1 ≤ now.part.waiting.spare → CanWait key now top child
        waits now more room = record {
          newest = joining.youngest;
          older = joining.older;
          children = joining.children;
          waits_for = joining.its_id;
          open_one = sym joining.delivered ∙ missing;
          joins_it = joining.joins_it;
          no_result = ap (λ kept. kept_under kept child) more.results ∙ none;
          ids = subst (λ kept. Each IsUnderItsId kept.entries) (sym more.results) reads.sound.under_ids;
          next = comes.listed;
          room = room;
          free = more.waiting.1 child ∙ waiting.free;
        }

      pub joins_kept : (ended : Ended) → kept_under list.part.results child ≡ Some ended → next_of top ≡ Some (nexts.Join child) → CanJoinKept key list top child
      joins_kept ended kept next = let its = results_are_awaited key seat deque lane list top under child ended holds has_list meets comes missing kept in record {
        next = next;
        only = joining.only;
        ended = ended;
        kept = kept;
        its_id = its.its_id;
        result = its.result;
        awaited = its.awaited;
      }

    -- before an End
    module _ (comes : ComesTo key lane top under nexts.End) where
      leaving : ReadsLeave key list top
      leaving = leaves_are_read key seat deque lane list top under holds has_list meets comes

      pub root_id : label_of top ≡ [] → top.id ≡ root
      root_id = leaving.root_id

      pub nobody : label_of top ≡ [] → kept_under list.part.waiting top.id ≡ None
      nobody = leaving.root_alone

      pub leaves : (now : ListSlot) → HasMoreToLeave list now → 1 ≤ now.part.results.spare → kept_under list.part.waiting top.id ≡ None → CanLeave now top.id
      leaves now more room none = record {
        room = room;
        free = more.results.1 top.id ∙ leaving.free;
        waiting = subst (λ kept. Each WaitsUnder kept.entries) (sym more.waiting) reads.sound.waiting;
        nobody = ap (λ kept. kept_under kept top.id) more.waiting ∙ none;
      }

      pub wakes : (parent : Thread) → kept_under list.part.waiting top.id ≡ Some parent → CanWake key list top
      wakes parent waits = let its = leaving.parent parent waits in record {
        parent = parent;
        waits = waits;
        under = its.under;
        awaits = its.awaits;
        point = its.point;
      }
