-- What an owner knows whose top thread is before a Join.
use Rattle.std.proofs.Common.{◌≡◌, ◌≢◌, List, [], ◌∷◌, map, reverse, refl, sym, ap, ◌∙◌, subst}
use Rattle.std.specs.Prelude.{Option, None, Some, false}
use Rattle.hall_parts.specs.HallNames.{DequeId, LaneSlot, ListSlot, HallKey, table_of, quota_of, terms_of, HallSeat, MeetsLaw, ThreadId, machine_of}
use Rattle.hall_parts.specs.HallNames.{deed_of, is_there, IsAwaited, IsOnlyNewest, is_delivered, IsResult, child_shown, thread_shown, result_shown, Child}
use Rattle.hall_parts.specs.HallNames.{children_of, label_of, newest, ordinal_of as ordinal_in, Ended, Thread, kept_under, HasAs}
use Rattle.depth_first_list.specs.Actions.{joins}
use Rattle.hall_slots.proofs.Passed.Built.{whole_is_depth_first}
use Rattle.hall_slots.specs.Passed.Lists.{Among, Each}
use Rattle.hall_slots.proofs.Passed.DequeMachineLists.{cons_is_not_nil, each_among, each_from}
use Rattle.moment_shown.specs.Parts as parts
use Rattle.moment_shown.proofs.Shown.{among_map}
use Rattle.thread_frames.specs.Kept.{IsUnderItsId, WaitsUnder, waiting_shown, result_kept}
use Rattle.thread_frames.specs.declared.next.Next.TheVariants as nexts
use Rattle.thread_frames.proofs.Found.{found_among, none_found}
use Rattle.thread_frames.proofs.Threads.{newest_last}
use Rattle.scheduler_state.proofs.Joining.{awaited_one}
use Rattle.scheduler_state.proofs.Newest.{Cut, cut_newest, shown_cut, among_reversed, AreOthers, delivered_last, only_last, awaits_last}
use Rattle.hall_machine.specs.Values.{parts_of}
use Rattle.hall_slots.specs.declared.slot.Slot.TheVariants as slots
use Rattle.hall_actions.specs.Reads.{HoldsItsLane}
use Rattle.hall_actions.specs.Lists.{ComesTo, ReadsJoin, JoinsAreRead, ReadsWait, WaitsAreRead, ReadsResult, ResultsAreAwaited}
use Rattle.hall_actions.proofs.AtJoin.{other_children, unwaited, its_result, waits_alone}
use Rattle.hall_actions.proofs.Listing.{gives, sound, waiting_is, results_are}
use Rattle.hall_actions.proofs.Topped.{gives_next, its_hall, o, lawful, parts_show}

-- if nothing is kept under an id, no result has it
unkept : (id : ThreadId) (entries : List (ThreadId × Ended)) → Each IsUnderItsId entries → Each (λ e. e.0 ≢ id) entries
    → Each (λ r. parts.Result.id r ≢ id) (map result_kept entries)
unkept id [] under none = tt
unkept id (e ∷ entries) under none = (λ same. none.0 (sym under.0 ∙ same), unkept id entries under.1 none.1)

module _ (key : HallKey) (seat : HallSeat) (deque : DequeId) (lane : LaneSlot) (has : HoldsItsLane seat deque lane) (meets : MeetsLaw key seat) (top : Thread) (under : List Thread)
    (child : ThreadId) (comes : ComesTo key lane top under (nexts.Join child)) where
  cut : Cut (children_of top) child
  cut = cut_newest (children_of top) child comes.newest

  abbrev youngest : parts.Child
  youngest = child_shown (Cut.last cut)

  abbrev older : List parts.Child
  older = map child_shown (reverse (Cut.front cut))

  children_are : parts.Thread.children (thread_shown top) ≡ youngest ∷ older
  children_are = ap (λ cs. map child_shown (reverse cs)) (Cut.are cut) ∙ shown_cut (Cut.front cut) (Cut.last cut)

  newest_is : newest (children_of top) ≡ Some (Cut.last cut)
  newest_is = ap newest (Cut.are cut) ∙ newest_last (Cut.front cut) (Cut.last cut)

  joins_it : deed_of top (nexts.Join child) ≡ joins (Child.ordinal (Cut.last cut))
  joins_it = ap (λ x. joins (ordinal_in x)) newest_is

  others : AreOthers child (Cut.front cut)
  others = each_from (λ x. Child.id x ≢ child) (Cut.front cut) (λ x there same. gives key seat deque lane has meets (λ a b. absurd a) (λ c of law.
      each_among (λ y. parts.Child.id y ≢ Child.id (Cut.last cut)) (child_shown x) older
      (other_children (machine_of c (terms_of key)) (whole_is_depth_first c) law.moment (lawful key seat deque lane has meets top under (nexts.Join child) comes c law)
      (parts_of (its_hall key seat deque lane has meets top under (nexts.Join child) comes c law)) (parts_show key seat deque lane has meets top under (nexts.Join child) comes c law)
      seat.hand.note.worker (o key seat deque lane has meets top under (nexts.Join child) comes c law) youngest older children_are)
      (among_reversed x (Cut.front cut) there) (same ∙ sym (Cut.its_id cut))))

  delivered_is : is_delivered child (children_of top) ≡ Child.delivered (Cut.last cut)
  delivered_is = ap (is_delivered child) (Cut.are cut) ∙ delivered_last child (Cut.front cut) (Cut.last cut) others (Cut.its_id cut)

  reads_join : ReadsJoin top child
  reads_join = record {
    youngest = youngest;
    older = older;
    children = children_are;
    its_id = Cut.its_id cut;
    joins_it = joins_it;
    only = subst (IsOnlyNewest child) (sym (Cut.are cut)) (only_last child (Cut.front cut) (Cut.last cut) others (Cut.its_id cut));
    delivered = delivered_is;
    there = ap is_there newest_is;
  }

  module _ (list : ListSlot) (first : HasAs 0 (slots.List list) seat.hand.holds) (missing : is_delivered child (children_of top) ≡ false) where
    waits : Child.delivered (Cut.last cut) ≡ false
    waits = sym delivered_is ∙ missing

    -- no result of the child is kept
    module _ (none : kept_under list.part.results child ≡ None) where
      unkept_there : Each (λ r. parts.Result.id r ≢ Child.id (Cut.last cut)) (map result_kept list.part.results.entries)
      unkept_there = subst (λ (i : ThreadId). Each (λ r. parts.Result.id r ≢ i) (map result_kept list.part.results.entries)) (sym (Cut.its_id cut))
          (unkept child list.part.results.entries (sound key seat deque lane has meets list first).under_ids (none_found child list.part.results.entries none))

      alone : (us : List Thread) → under ≡ us → us ≡ []
      alone [] is = refl
      alone (x ∷ us) is = absurd (gives_next key seat deque lane has meets top under (nexts.Join child) comes (λ a b. absurd a) (λ c of law i.
          cons_is_not_nil (thread_shown x) (map thread_shown us) (sym (ap (map thread_shown) is)
          ∙ waits_alone (machine_of c (terms_of key)) (whole_is_depth_first c) law.moment (lawful key seat deque lane has meets top under (nexts.Join child) comes c law)
          (parts_of (its_hall key seat deque lane has meets top under (nexts.Join child) comes c law)) (parts_show key seat deque lane has meets top under (nexts.Join child) comes c law)
          seat.hand.note.worker (o key seat deque lane has meets top under (nexts.Join child) comes c law) youngest older children_are i.place
          (record { inside = i.inside; by = i.labelled; index = i.index; does = i.deed ∙ joins_it }) waits
          (subst (Each (λ r. parts.Result.id r ≢ Child.id (Cut.last cut))) (sym (results_are key seat deque lane has meets list first)) unkept_there))))

      free : (found : Option Thread) → kept_under list.part.waiting child ≡ found → found ≡ None
      free None is = refl
      free (Some x) is = absurd (gives key seat deque lane has meets (λ a b. absurd a) (λ c of law.
          let there = found_among child list.part.waiting.entries x is in
          let under_it = each_among WaitsUnder (child, x) list.part.waiting.entries (sound key seat deque lane has meets list first).waiting there in
          unwaited (machine_of c (terms_of key)) (whole_is_depth_first c) law.moment (lawful key seat deque lane has meets top under (nexts.Join child) comes c law)
          (parts_of (its_hall key seat deque lane has meets top under (nexts.Join child) comes c law)) (parts_show key seat deque lane has meets top under (nexts.Join child) comes c law)
          seat.hand.note.worker (o key seat deque lane has meets top under (nexts.Join child) comes c law) youngest older children_are (thread_shown x)
          (subst (Among (thread_shown x)) (sym (waiting_is key seat deque lane has meets list first)) (among_map waiting_shown (child, x) list.part.waiting.entries there))
          under_it.0 under_it.1 under_it.2 (under_it.3 ∙ sym (Cut.its_id cut))))

      reads_wait : ReadsWait list under child
      reads_wait = record { alone = alone under refl; free = free (kept_under list.part.waiting child) refl }

    -- a result of it is kept
    module _ (ended : Ended) (kept : kept_under list.part.results child ≡ Some ended) where
      entry : Among {X = ThreadId × Ended} (child, ended) list.part.results.entries
      entry = found_among child list.part.results.entries ended kept

      its_id : ended.id ≡ child
      its_id = each_among IsUnderItsId (child, ended) list.part.results.entries (sound key seat deque lane has meets list first).under_ids entry

      awaits_it : IsAwaited (label_of top) ended (children_of top)
      awaits_it = gives key seat deque lane has meets (awaited_one (label_of top) ended (children_of top)) (λ c of law.
          let of_child = its_result (machine_of c (terms_of key)) (whole_is_depth_first c) law.moment (lawful key seat deque lane has meets top under (nexts.Join child) comes c law)
          (parts_of (its_hall key seat deque lane has meets top under (nexts.Join child) comes c law)) (parts_show key seat deque lane has meets top under (nexts.Join child) comes c law)
          seat.hand.note.worker (o key seat deque lane has meets top under (nexts.Join child) comes c law) youngest older children_are (result_shown ended)
          (subst (Among (result_shown ended)) (sym (results_are key seat deque lane has meets list first)) (among_map result_kept (child, ended) list.part.results.entries entry))
          (its_id ∙ sym (Cut.its_id cut)) in
          subst (IsAwaited (label_of top) ended) (sym (Cut.are cut)) (awaits_last child (label_of top) ended its_id (Cut.front cut) (Cut.last cut) others (Cut.its_id cut)
          (record { waits = waits; labelled = of_child.0; func = of_child.1 })))

      reads_result : ReadsResult key top child ended
      reads_result = record {
        its_id = its_id;
        result = each_among (λ e. IsResult (table_of key) (quota_of key) e.1) (child, ended) list.part.results.entries (sound key seat deque lane has meets list first).results entry;
        awaited = awaits_it;
      }

pub joins_are_read : JoinsAreRead
joins_are_read key seat deque lane top under child has meets comes = reads_join key seat deque lane has meets top under child comes

pub waits_are_read : WaitsAreRead
waits_are_read key seat deque lane list top under child has first meets comes missing none = reads_wait key seat deque lane has meets top under child comes list first missing none

pub results_are_awaited : ResultsAreAwaited
results_are_awaited key seat deque lane list top under child ended has first meets comes missing kept = reads_result key seat deque lane has meets top under child comes list first missing ended kept
