-- An owner that took what its event needs: how it fails, and what it has in its hands once it asked for memory and counted.
use Rattle.std.proofs.Common.{◌≡◌, ℕ, ◌+◌, ◌≤◌, Bool, true, false, [], ◌++◌, inl, inr, refl, sym, ap, ◌∙◌, subst, arith}
use Rattle.std.specs.Prelude.{Option, None, Some}
use Rattle.hall_actions.specs.Passed.HallNames.{DequeId, HallSeat, HallKey, IsJoin, Next, with_hand}
use Rattle.hall_actions.proofs.InUse.{words_are_in_use}
use Rattle.hall_actions.proofs.Reading.{pools_are_sound}
use Rattle.hall_actions.proofs.Returned.{same_sound}
use Rattle.hall_actions.specs.Advancing.{HasLooked}
use Rattle.hall_actions.specs.declared.at_next.AtNext.{AtNext}
use Rattle.hall_actions.specs.Passed.EventParts.{IsNext, MayGoOn}
use Rattle.hall_actions.specs.Lists.{words_back}
use Rattle.hall_actions.specs.Passed.Puts.{HasPut}
use Rattle.hall_actions.specs.Passed.Taken.{its_lane, pool_and_lane, list_and_lane, all_three}
use Rattle.hall_actions.specs.Passed.Writes.{told_note}
use Rattle.hall_actions.specs.Quotas.{MayUse}
use Rattle.hall_actions.specs.WithList.{is_action, IsNamedAs}
use Rattle.hall_actions.specs.WithPool.{words_asked_by}
use Rattle.hall_owner.proofs.Failing.{fails_too}
use Rattle.hall_owner.proofs.Held.{all_pool, comes, is_ready, pool_held, with_pool}
use Rattle.hall_owner.proofs.Listed as listed
use Rattle.hall_owner.proofs.Noted.{decides_on, is_none, needs_count, noted_on, notes_on, owned_on, same_notes, slots_on, NobodyIn, SoundIn}
use Rattle.hall_owner.proofs.Refusals.{count_refusal, memory_refusal}
use Rattle.hall_owner.proofs.WithAll as all
use Rattle.hall_owner.specs.Acting.{HasDoneWith, IsRefusalWith}
use Rattle.hall_owner.specs.Decided.{IsTakenIf}
use Rattle.hall_owner.specs.Holding.{FailsBy, IsHolding, look_at_count}
use Rattle.hall_owner.specs.Ready.{IsReadyFor, IsReadyOn, ActsWithPool}
use Rattle.hall_owner.specs.Taken.{slots_of, HasRoomOf, IsActionOf, IsNotedOn}
use Rattle.hall_owner.specs.Taking.{note_with, AtPreparing, HasPrepared}
use Rattle.hall_owner.specs.declared.acting.Acted.{Acted}
use Rattle.hall_actions.specs.declared.refused.ActRefused.{ActRefused}
use Rattle.hall_owner.specs.declared.taken.Taken.{Taken}
use Rattle.hall_owner.specs.declared.taken.Taken.TheVariants.{OnLane, WithPool, WithList, WithAll}

module _ (key : HallKey) (seat : HallSeat) (deque : DequeId) (at : AtNext) (next : Next) (ready : ℕ) where
  pub sound_in : (taken : Taken) → IsReadyFor key seat deque at next ready taken → SoundIn key taken
  sound_in (OnLane child) r = tt
  sound_in (WithPool pool action charge) r = pools_are_sound key seat pool (pool_held key seat deque at next ready pool r.before.holding) r.meets
  sound_in (WithList list event) r = tt
  sound_in (WithAll list pool event) r = pools_are_sound key seat pool (all_pool key seat deque at next ready list pool r.before.holding) r.meets

  nobody_in : (taken : Taken) → IsReadyFor key seat deque at next ready taken → NobodyIn at taken
  nobody_in (OnLane child) r = tt
  nobody_in (WithPool pool action charge) r = tt
  nobody_in (WithList list event) r = listed.leaves_nobody key seat deque at next ready list r.before r.meets r.asked.0 event r.asked.1
  nobody_in (WithAll list pool event) r = tt

  -- how it fails
  pub fails_on : (taken : Taken) → IsReadyFor key seat deque at next ready taken → (refused : ActRefused) (after : HallSeat)
      → FailsBy (AtPreparing key.actions taken) seat refused after → FailsBy (IsRefusalWith key deque at next taken) seat refused after
  fails_on taken r refused after =
      let noted = noted_on taken deque at.top in
      let slots = slots_on key deque seat.hand.note.worker at next noted (owned_on taken deque) taken r.asked (sound_in taken r) (notes_on taken deque at.top) in
      fails_too (AtPreparing key.actions taken) (IsRefusalWith key deque at next taken) refused (λ more f. elim f [
        | inl short ↦ memory_refusal key deque at next taken noted slots more refused short
        | inr spent ↦ count_refusal key deque at next taken noted slots
            (needs_count deque at.top noted (owned_on taken deque) taken (notes_on taken deque at.top) spent.0) more refused spent.1
      ]) seat after

  module _ (middle : HallSeat) where
    abbrev Drew : Option ℕ → Type 0
    Drew count = middle ≡ with_hand seat (record {
      seated = seat.hand.seated;
      holds = seat.hand.holds;
      note = note_with count seat.hand.note;
      looks = seat.hand.looks ++ look_at_count count;
    })

    goes_on : (count : Option ℕ) → Drew count → MayGoOn seat deque → MayGoOn middle deque
    goes_on None drew goes = subst (λ (s : HallSeat). MayGoOn s deque) (sym drew) (record { placed = goes.placed; stays = goes.stays; owns = goes.owns })
    goes_on (Some found) drew goes = subst (λ (s : HallSeat). MayGoOn s deque) (sym drew) (record { placed = goes.placed; stays = goes.stays; owns = goes.owns })

    same_worker : (count : Option ℕ) → Drew count → middle.hand.note.worker ≡ seat.hand.note.worker
    same_worker None drew = ap (λ (s : HallSeat). s.hand.note.worker) drew
    same_worker (Some found) drew = ap (λ (s : HallSeat). s.hand.note.worker) drew

    pub same_seat : (count : Option ℕ) → Drew count → (middle.table ≡ seat.table) × (middle.key ≡ seat.key)
    same_seat None drew = (ap (λ (s : HallSeat). s.table) drew, ap (λ (s : HallSeat). s.key) drew)
    same_seat (Some found) drew = (ap (λ (s : HallSeat). s.table) drew, ap (λ (s : HallSeat). s.key) drew)

    counting : (taken : Taken) (count : Option ℕ) → IsTakenIf (IsActionOf taken true) count → Drew count → seat.hand.note.counting ≡ false
        → (b : Bool) → IsActionOf taken b → middle.hand.note.counting ≡ b
    counting taken None counts drew free true is = absurd (counts is)
    counting taken None counts drew free false is = ap (λ (s : HallSeat). s.hand.note.counting) drew ∙ free
    counting taken (Some found) counts drew free true is = ap (λ (s : HallSeat). s.hand.note.counting) drew
    counting taken (Some found) counts drew free false is = absurd (is_none taken is counts)

    -- the event may be done with it
    module _ (taken : Taken) (r : IsReadyFor key seat deque at next ready taken) (now : Taken) (p : HasPrepared key seat taken now middle) where
      still : IsHolding key middle deque (slots_of deque taken) at next ready
      still = record {
        goes = goes_on p.count p.drew r.before.holding.goes;
        lane = r.before.holding.lane;
        holds = ap (λ (s : HallSeat). s.hand.holds) p.drew ∙ r.before.holding.holds;
        is_next = r.before.holding.is_next;
      }

      counts : (b : Bool) → IsActionOf taken b → middle.hand.note.counting ≡ b
      counts = counting taken p.count p.counts p.drew r.before.free

    pub ready_on : (taken : Taken) → IsReadyFor key seat deque at next ready taken → (now : Taken) → HasPrepared key seat taken now middle
        → IsReadyOn key middle deque at ready now
    ready_on (OnLane child) r now p =
        let h = still (OnLane child) r now p in
        subst (IsReadyOn key middle deque at ready) (sym p.more) (record {
          may = record { goes = h.goes; counting = counts (OnLane child) r now p true refl };
          is = is_ready key middle deque (its_lane deque) at next ready h 1 (omega (arith));
          next = subst IsJoin (sym (h.is_next.next_is ∙ ap Some r.asked.0)) tt;
          delivered = r.asked.1;
          words = r.asked.3;
          listed = subst (IsNext key at.top) r.asked.0 h.is_next.listed;
        })
    ready_on (WithPool pool action charge) r now p =
        let h = still (WithPool pool action charge) r now p in
        let its = p.more.0 in
        let same = p.more.2 in
        let had = r.before.holding in
        let may = r.asked.1.uses in
        let back = words_are_in_use key seat deque had.lane pool at.top at.lane.items next (with_pool key seat deque at next ready pool had)
        (pool_held key seat deque at next ready pool had) r.meets (comes key seat deque (pool_and_lane deque pool) at next ready had)
        had.is_next.next_is had.is_next.point in
        let acts : ActsWithPool key middle deque at ready its next charge = record {
          may = record { goes = h.goes; counting = counts (WithPool pool action charge) r now p true refl };
          is = (pool, same, is_ready key middle deque (pool_and_lane deque pool) at next ready h 2 (omega (arith)));
          pool_ready = record {
            sound = same_sound key pool its same (sound_in (WithPool pool action charge) r);
            room = subst HasRoomOf p.more.1 p.room;
          };
          next_is = h.is_next.next_is;
          uses = subst (λ w. MayUse key w next charge at.top at.running.period) (sym (same_worker p.count p.drew)) may;
          fits = subst (λ q. q.live + words_asked_by next ≤ q.capacity) (sym same.pool) r.asked.2;
          back = subst (λ q. words_back at.top next ≤ q.live) (sym same.pool) back;
          suits = r.asked.1.suits;
        } in
        subst (IsReadyOn key middle deque at ready) (sym p.more.1)
        (subst (λ n. ActsWithPool key middle deque at ready its n charge) (sym r.asked.0) acts)
    ready_on (WithList list event) r now p =
        let h = still (WithList list event) r now p in
        subst (IsReadyOn key middle deque at ready) (sym p.more.1) (record {
          goes = h.goes;
          counting = counts (WithList list event) r now p (is_action event) refl;
          was = list;
          more = p.more.2;
          is = is_ready key middle deque (list_and_lane deque list) at next ready h 1 (omega (arith));
          can = listed.can key seat deque at next ready list r.before r.meets r.asked.0 event r.asked.1 p.more.0 p.more.2 (subst HasRoomOf p.more.1 p.room);
        })
    ready_on (WithAll list pool event) r now p =
        let h = still (WithAll list pool event) r now p in
        let room : HasRoomOf (WithAll p.more.0 p.more.1 event) = subst HasRoomOf p.more.2 p.room in
        subst (IsReadyOn key middle deque at ready) (sym p.more.2) (record {
          goes = h.goes;
          counting = counts (WithAll list pool event) r now p true refl;
          was = list;
          more = p.more.3;
          pool_was = pool;
          same = p.more.4;
          pool_ready = record { sound = same_sound key pool p.more.1 p.more.4 (sound_in (WithAll list pool event) r); room = room.1 };
          is = is_ready key middle deque (all_three deque list pool) at next ready h 1 (omega (arith));
          can = all.can key seat deque at next ready list pool r.before r.meets p.more.1 p.more.4 event r.asked.1 p.more.0 p.more.3 room.0;
        })

    -- and once it is done
    left : (count : Option ℕ) → Drew count → (acted : Acted) (after : HallSeat)
        → HasPut middle (told_note middle.hand.note acted.owned acted.event) [] after
        → HasLooked seat (look_at_count count) (told_note seat.hand.note acted.owned acted.event) after
    left None drew acted after put = put ∙ ap (λ (s : HallSeat). with_hand s (record {
      seated = s.hand.seated;
      holds = [];
      note = told_note s.hand.note acted.owned acted.event;
      looks = s.hand.looks;
    })) drew
    left (Some found) drew acted after put = put ∙ ap (λ (s : HallSeat). with_hand s (record {
      seated = s.hand.seated;
      holds = [];
      note = told_note s.hand.note acted.owned acted.event;
      looks = s.hand.looks;
    })) drew

    pub done_on : (taken : Taken) → IsReadyFor key seat deque at next ready taken → (now : Taken) → HasPrepared key seat taken now middle
        → (acted : Acted) (after : HallSeat) → IsNotedOn now deque at.top acted.event acted.owned → IsNamedAs at.top acted.event
        → HasPut middle (told_note middle.hand.note acted.owned acted.event) [] after
        → HasDoneWith key seat deque at next taken acted after
    done_on taken r now p acted after notes name put = record {
      count = p.count;
      decides = decides_on key deque seat.hand.note.worker at next acted.event acted.owned taken r.asked (sound_in taken r) (nobody_in taken r)
          (same_notes taken now p.more deque at.top acted.event acted.owned notes) name p.count p.counts p.below;
      leaves = left p.count p.drew acted after put;
    }
