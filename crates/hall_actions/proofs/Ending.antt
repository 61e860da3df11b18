-- What an owner knows whose top thread is before its End.
use Rattle.std.proofs.Common.{◌≡◌, ◌≢◌, ℕ, ◌<◌, List, [], ◌∷◌, map, length, inl, inr, refl, sym, ap, ◌∙◌, subst, arith}
use Rattle.std.specs.Prelude.{Option, None, Some}
use base.Stored.{Coded-set}
use Rattle.dag_order.specs.Births.{root}
use Rattle.hall_parts.specs.HallNames.{DequeId, LaneSlot, ListSlot, HallKey, table_of, quota_of, terms_of, HallSeat, MeetsLaw, ThreadId, machine_of}
use Rattle.hall_parts.specs.HallNames.{IsResultFor, IsAtPoint, child_shown, thread_shown, result_shown, Child, children_of, ended_label, label_of, Ended}
use Rattle.hall_parts.specs.HallNames.{Thread, kept_under, id_code, HasAs, thread_that_waits}
use Rattle.hall_slots.proofs.Passed.Built.{whole_is_depth_first}
use Rattle.hall_slots.specs.Passed.Lists.{Among}
use Rattle.hall_slots.proofs.Passed.DequeMachineLists.{cons_is_not_nil, each_among}
use Rattle.moment_shown.specs.Parts as parts
use Rattle.moment_shown.proofs.Shown.{among_map}
use Rattle.hall_parts.specs.Passed.MomentLawsResults.{IsChildOf}
use Rattle.hall_parts.proofs.Passed.Parents.{parents_await}
use Rattle.thread_actions.specs.Results.{FirstAwaits}
use Rattle.thread_frames.specs.Kept.{IsUnderItsId, WaitsUnder, waiting_shown, result_kept}
use Rattle.thread_frames.specs.declared.next.Next.TheVariants as nexts
use Rattle.thread_frames.proofs.Found.{found_among}
use Rattle.thread_frames.proofs.Threads.{next_actions_stand}
use Rattle.scheduler_state.proofs.Joining.{awaited_one}
use Rattle.scheduler_state.proofs.Newest.{among_reversed}
use Rattle.hall_machine.specs.Values.{parts_of}
use Rattle.hall_slots.specs.declared.slot.Slot.TheVariants as slots
use Rattle.hall_actions.specs.Reads.{HoldsItsLane}
use Rattle.hall_actions.specs.Lists.{ComesTo, ReadsEnd, EndsAreRead, ReadsParent, ReadsLeave, LeavesAreRead}
use Rattle.hall_actions.proofs.AtEnd.{not_kept, is_child, root_alone, root_id, root_unwaited}
use Rattle.hall_actions.proofs.Awaiting.{awaited}
use Rattle.hall_actions.proofs.Listing.{gives, sound, waiting_is, results_are, that_wait}
use Rattle.hall_actions.proofs.Reading.{some_quota}
use Rattle.hall_actions.proofs.Topped.{gives_next, its_hall, o, lawful, parts_show}

-- the open child that is a thread waits for the result of this thread
result_for : (parent top : Thread) (ended : Ended) (x : Child) → IsChildOf (thread_shown parent) (thread_shown top) (child_shown x) → ended_label ended ≡ label_of top
    → ended.func ≡ Thread.func top → IsResultFor (label_of parent) ended x
result_for parent top ended x child label func = record { waits = child.waits; labelled = label ∙ child.labelled; func = func ∙ child.func }

module _ (key : HallKey) (seat : HallSeat) (deque : DequeId) (lane : LaneSlot) (has : HoldsItsLane seat deque lane) (meets : MeetsLaw key seat) (top : Thread) (under : List Thread)
    (comes : ComesTo key lane top under nexts.End) where
  below : (us : List Thread) → under ≡ us → FirstAwaits top us
  below [] is = tt
  below (parent ∷ rest) is = λ ended id label func.
      gives_next key seat deque lane has meets top under nexts.End comes (awaited_one (label_of parent) ended (children_of parent)) (λ c of law i.
      let known = parents_await (machine_of c (terms_of key)) (some_quota key seat deque lane has meets c law of) (whole_is_depth_first c) law.moment
      (parts_of (its_hall key seat deque lane has meets top under nexts.End comes c law)) seat.hand.note.worker i.place
      (o key seat deque lane has meets top under nexts.End comes c law) (thread_shown parent) (map thread_shown rest)
      (lawful key seat deque lane has meets top under nexts.End comes c law) (parts_show key seat deque lane has meets top under nexts.End comes c law)
      (next_actions_stand c top nexts.End i) (ap (map thread_shown) is) in
      awaited (label_of parent) ended (children_of parent) known.0.0 known.0.1 (known.0.2 ∙ sym id) (λ x there same.
      result_for parent top ended x (each_among (λ y. parts.Child.id y ≡ Thread.id top → IsChildOf (thread_shown parent) (thread_shown top) y) (child_shown x)
      (parts.Thread.children (thread_shown parent)) known.1 (among_reversed x (children_of parent) there) (same ∙ id)) label func))

  alone : label_of top ≡ [] → (us : List Thread) → under ≡ us → us ≡ []
  alone is [] are = refl
  alone is (x ∷ us) are = absurd (gives key seat deque lane has meets (λ a b. absurd a) (λ c of law.
      cons_is_not_nil (thread_shown x) (map thread_shown us) (sym (ap (map thread_shown) are)
      ∙ root_alone (machine_of c (terms_of key)) (whole_is_depth_first c) law.moment (lawful key seat deque lane has meets top under nexts.End comes c law)
      (parts_of (its_hall key seat deque lane has meets top under nexts.End comes c law)) (parts_show key seat deque lane has meets top under nexts.End comes c law)
      seat.hand.note.worker (o key seat deque lane has meets top under nexts.End comes c law) is)))

  forked : under ≢ [] → (label : List ℕ) → label_of top ≡ label → 0 < length label
  forked some [] is = absurd (some (alone is under refl))
  forked some (n ∷ label) is = omega arith

  reads_end : ReadsEnd top under
  reads_end = record { below = below under refl; alone = λ is. alone is under refl; forked = λ some. forked some (label_of top) refl }

  module _ (list : ListSlot) (first : HasAs 0 (slots.List list) seat.hand.holds) where
    free : (found : Option Ended) → kept_under list.part.results (Thread.id top) ≡ found → found ≡ None
    free None is = refl
    free (Some ended) is = absurd (gives key seat deque lane has meets (λ a b. absurd a) (λ c of law.
        let entry = found_among (Thread.id top) list.part.results.entries ended is in
        not_kept (machine_of c (terms_of key)) (whole_is_depth_first c) law.moment (lawful key seat deque lane has meets top under nexts.End comes c law)
        (parts_of (its_hall key seat deque lane has meets top under nexts.End comes c law)) (parts_show key seat deque lane has meets top under nexts.End comes c law)
        seat.hand.note.worker (o key seat deque lane has meets top under nexts.End comes c law) (result_shown ended)
        (subst (Among (result_shown ended)) (sym (results_are key seat deque lane has meets list first))
        (among_map result_kept (Thread.id top, ended) list.part.results.entries entry))
        (each_among IsUnderItsId (Thread.id top, ended) list.part.results.entries (sound key seat deque lane has meets list first).under_ids entry)))

    module _ (parent : Thread) (kept : kept_under list.part.waiting (Thread.id top) ≡ Some parent) where
      entry : Among {X = ThreadId × Thread} (Thread.id top, parent) list.part.waiting.entries
      entry = found_among (Thread.id top) list.part.waiting.entries parent kept

      waits_under : WaitsUnder (Thread.id top, parent)
      waits_under = each_among WaitsUnder (Thread.id top, parent) list.part.waiting.entries (sound key seat deque lane has meets list first).waiting entry

      newest_there : Among (waits_under.0) (parts.Thread.children (thread_shown parent))
      newest_there = subst (Among (waits_under.0)) (sym waits_under.2) (inl refl)

      parent_there : Among (thread_shown parent) (map waiting_shown list.part.waiting.entries)
      parent_there = among_map waiting_shown (Thread.id top, parent) list.part.waiting.entries entry

      awaits : FirstAwaits top (parent ∷ [])
      awaits = λ ended id label func. gives key seat deque lane has meets (awaited_one (label_of parent) ended (children_of parent)) (λ c of law.
          awaited (label_of parent) ended (children_of parent) waits_under.0 newest_there (waits_under.3 ∙ sym id) (λ x there same.
          result_for parent top ended x (is_child (machine_of c (terms_of key)) (whole_is_depth_first c) law.moment (lawful key seat deque lane has meets top under nexts.End comes c law)
          (parts_of (its_hall key seat deque lane has meets top under nexts.End comes c law)) (parts_show key seat deque lane has meets top under nexts.End comes c law)
          seat.hand.note.worker (o key seat deque lane has meets top under nexts.End comes c law) (thread_shown parent)
          (inr (subst (Among (thread_shown parent)) (sym (waiting_is key seat deque lane has meets list first)) parent_there)) (child_shown x)
          (among_reversed x (children_of parent) there) (same ∙ id)) label func))

      reads_parent : ReadsParent key top parent
      reads_parent = record {
        under = waits_under;
        awaits = awaits;
        point = each_among (IsAtPoint (table_of key) (quota_of key)) parent (map thread_that_waits list.part.waiting.entries) (that_wait key seat deque lane has meets list first)
            (among_map thread_that_waits (Thread.id top, parent) list.part.waiting.entries entry);
      }

    module _ (is : label_of top ≡ []) where
      root_nobody : (found : Option Thread) → kept_under list.part.waiting (Thread.id top) ≡ found → found ≡ None
      root_nobody None none = refl
      root_nobody (Some parent) kept = absurd (gives key seat deque lane has meets (λ a b. absurd a) (λ c of law.
          root_unwaited (machine_of c (terms_of key)) (whole_is_depth_first c) law.moment (lawful key seat deque lane has meets top under nexts.End comes c law)
          (parts_of (its_hall key seat deque lane has meets top under nexts.End comes c law)) (parts_show key seat deque lane has meets top under nexts.End comes c law)
          seat.hand.note.worker (o key seat deque lane has meets top under nexts.End comes c law) is (thread_shown parent)
          (subst (Among (thread_shown parent)) (sym (waiting_is key seat deque lane has meets list first)) (parent_there parent kept))
          (waits_under parent kept).0 (newest_there parent kept) (waits_under parent kept).3))

      its_id : Thread.id top ≡ root
      its_id = gives key seat deque lane has meets (Coded-set id_code (Thread.id top) root) (λ c of law.
          root_id (machine_of c (terms_of key)) (whole_is_depth_first c) law.moment (lawful key seat deque lane has meets top under nexts.End comes c law)
          (parts_of (its_hall key seat deque lane has meets top under nexts.End comes c law)) (parts_show key seat deque lane has meets top under nexts.End comes c law)
          seat.hand.note.worker (o key seat deque lane has meets top under nexts.End comes c law) is)

    reads_leave : ReadsLeave key list top
    reads_leave = record {
      free = free (kept_under list.part.results (Thread.id top)) refl;
      parent = reads_parent;
      root_id = its_id;
      root_alone = λ is. root_nobody is (kept_under list.part.waiting (Thread.id top)) refl;
    }

pub ends_are_read : EndsAreRead
ends_are_read key seat deque lane top under has meets comes = reads_end key seat deque lane has meets top under comes

pub leaves_are_read : LeavesAreRead
leaves_are_read key seat deque lane list top under has first meets comes = reads_leave key seat deque lane has meets top under comes list first
