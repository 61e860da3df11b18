-- The parts of a hall stay sound with each event of an owner.
use Rattle.std.proofs.Common.{◌≡◌, List, [], ◌∷◌, map, inl, inr, refl, sym, ap, ◌∙◌, subst}
use Rattle.std.proofs.lemmas.List.Sorted.{IsPermutation-sym, IsPermutation-map}
use Rattle.std.proofs.lemmas.Option.{none-some}
use Rattle.std.specs.List.Sorted.{IsPermutation}
use Rattle.dag_order.specs.Births.{root}
use Rattle.hall_parts.specs.HallNames.{Each, table_of, quota_of, Kept, ListShown, thread_that_waits}
use Rattle.hall_slots.proofs.Passed.DequeMachineLists.{each_from, each_among}
use Rattle.moment_laws.proofs.Reordered.{among_moved}
use Rattle.hall_slots.specs.Passed.ThreadFramesPoints.{IsAtPoint, IsResult}
use Rattle.hall_slots.specs.Passed.Ended.{Ended}
use Rattle.hall_slots.specs.Passed.Thread.{Thread}
use Rattle.hall_slots.specs.Passed.ThreadFramesKept.{WaitsUnder, IsUnderItsId}
use Rattle.hall_slots.specs.Passed.Roots.{end_of_root}
use Rattle.hall_slots.specs.Passed.HallMachinePoints.{LaneAtPoints}
use Rattle.hall_parts.specs.Writes.{IsShort, stays, loses_owner, goes}
use Rattle.hall_parts.specs.Staying.{LanesStaySound, GivenUpStaysSound, SuspendedStaysSound, LeftStaysSound, RootStaysSound, WokenStaysSound, HandedStaysSound}

module _ {X : Type 0} where
  -- what holds of each element holds of each in another order
  pub each_moved : (P : X → Type 0) (xs ys : List X) → IsPermutation xs ys → Each P xs → Each P ys
  each_moved P xs ys moved all = each_from P ys (λ y there. each_among P y xs all (among_moved ys xs (IsPermutation-sym xs ys moved) y there))

-- threads at their points are so in a lane
pub all_at : {T : Type 0} (At : T → Type 0) (Excused : Type 0) (threads : List T) → Each At threads → LaneAtPoints At Excused threads
all_at At Excused [] all = tt
all_at At Excused (top ∷ under) all = (inl all.0, all.1)

-- and an empty lane is in order
empty_at : {T : Type 0} (At : T → Type 0) (Excused : Type 0) (threads : List T) → threads ≡ [] → LaneAtPoints At Excused threads
empty_at At Excused threads empty = subst (LaneAtPoints At Excused) (sym empty) tt

pub lanes_stay_sound : LanesStaySound
lanes_stay_sound key seat deque list pool_was pool lane_was lane note on in_pool points = record {
  pool = in_pool;
  list = λ sound. sound;
  waiting = λ all. all;
  becomes = stays refl;
  points = points;
  ends = λ end is. is;
  finished = λ finish is. inl is;
  worker = on.worker;
  left = inl on.left;
  answered = λ e is. inl (sym on.answered ∙ is);
  found = on.found;
}

pub given_up_stays_sound : GivenUpStaysSound
given_up_stays_sound key seat deque list_was list pool lane_was lane note owner on has unowned rest idle points = record {
  pool = λ sound. sound;
  list = λ sound. record {
    most = rest.most ∙ sound.most;
    waiting = subst (λ (m : Kept Thread). Each WaitsUnder m.entries) (sym rest.waiting) sound.waiting;
    under_ids = subst (λ (m : Kept Ended). Each IsUnderItsId m.entries) (sym rest.results) sound.under_ids;
    results = subst (λ (m : Kept Ended). Each (λ entry. IsResult (table_of key) (quota_of key) entry.1) m.entries) (sym rest.results) sound.results;
  };
  waiting = λ all. subst (λ (m : Kept Thread). Each (IsAtPoint (table_of key) (quota_of key)) (map thread_that_waits m.entries)) (sym rest.waiting) all;
  becomes = loses_owner has.left has.right owner has.places_are (unowned owner has) idle;
  points = all_at (IsAtPoint (table_of key) (quota_of key)) (IsShort note list_was.part.order.places list.part.order.places) lane.lane.items points;
  ends = λ end is. rest.end ∙ is;
  finished = λ finish is. inl (sym rest.end ∙ is);
  worker = on.worker;
  left = inl on.left;
  answered = λ e is. inl (sym on.answered ∙ is);
  found = on.found;
}

pub suspended_stays_sound : SuspendedStaysSound
suspended_stays_sound key seat deque list_was list pool lane_was lane note owner child top on has gone rest waits results under point empty idle = record {
  pool = λ sound. sound;
  list = λ sound. record {
    most = rest.most ∙ sound.most;
    waiting = each_moved WaitsUnder ((child, top) ∷ list_was.part.waiting.entries) list.part.waiting.entries waits (under, sound.waiting);
    under_ids = subst (λ (m : Kept Ended). Each IsUnderItsId m.entries) (sym results) sound.under_ids;
    results = subst (λ (m : Kept Ended). Each (λ entry. IsResult (table_of key) (quota_of key) entry.1) m.entries) (sym results) sound.results;
  };
  waiting = λ all. each_moved (IsAtPoint (table_of key) (quota_of key)) (map thread_that_waits ((child, top) ∷ list_was.part.waiting.entries)) (map thread_that_waits list.part.waiting.entries)
      (IsPermutation-map thread_that_waits ((child, top) ∷ list_was.part.waiting.entries) list.part.waiting.entries waits) (point, all);
  becomes = goes has.left has.right owner has.places_are (gone owner has) empty idle;
  points = empty_at (IsAtPoint (table_of key) (quota_of key)) (IsShort note list_was.part.order.places list.part.order.places) lane.lane.items empty;
  ends = λ end is. rest.end ∙ is;
  finished = λ finish is. inl (sym rest.end ∙ is);
  worker = on.worker;
  left = inl on.left;
  answered = λ e is. inl (sym on.answered ∙ is);
  found = on.found;
}

pub left_stays_sound : LeftStaysSound
left_stays_sound key seat deque list_was list pool_was pool lane_was lane note owner id ended on has gone rest kept waiting its_id its_result in_pool empty idle = record {
  pool = in_pool;
  list = λ sound. record {
    most = rest.most ∙ sound.most;
    waiting = subst (λ (m : Kept Thread). Each WaitsUnder m.entries) (sym waiting) sound.waiting;
    under_ids = each_moved IsUnderItsId ((id, ended) ∷ list_was.part.results.entries) list.part.results.entries kept (its_id, sound.under_ids);
    results = each_moved (λ entry. IsResult (table_of key) (quota_of key) entry.1) ((id, ended) ∷ list_was.part.results.entries) list.part.results.entries kept (its_result, sound.results);
  };
  waiting = λ all. subst (λ (m : Kept Thread). Each (IsAtPoint (table_of key) (quota_of key)) (map thread_that_waits m.entries)) (sym waiting) all;
  becomes = goes has.left has.right owner has.places_are (gone owner has) empty idle;
  points = empty_at (IsAtPoint (table_of key) (quota_of key)) (IsShort note list_was.part.order.places list.part.order.places) lane.lane.items empty;
  ends = λ end is. rest.end ∙ is;
  finished = λ finish is. inl (sym rest.end ∙ is);
  worker = on.worker;
  left = inl on.left;
  answered = λ e is. inl (sym on.answered ∙ is);
  found = on.found;
}

pub root_stays_sound : RootStaysSound
root_stays_sound key seat deque list_was list pool lane_was lane note owner ended finish on has gone rest kept under waiting its_id its_result empty idle none ends =
    let left = left_stays_sound key seat deque list_was list pool pool lane_was lane note owner root ended on has gone rest kept waiting its_id its_result (λ sound. sound) empty idle in record {
      pool = λ sound. sound;
      list = λ sound. let now = left.list sound in record { most = now.most; waiting = now.waiting; under_ids = now.under_ids; results = now.results };
      waiting = left.waiting;
      becomes = left.becomes;
      points = left.points;
      ends = λ end is. absurd (none-some end (sym none ∙ is));
      finished = λ other is. inr (ap end_of_root under ∙ ends ∙ is);
      worker = on.worker;
      left = inl on.left;
      answered = λ e is. inl (sym on.answered ∙ is);
      found = on.found;
    }

pub woken_stays_sound : WokenStaysSound
woken_stays_sound key seat deque list_was list pool_was pool lane_was lane note child parent on taken rest results in_pool points = record {
  pool = in_pool;
  list = λ sound. record {
    most = rest.most ∙ sound.most;
    waiting = (each_moved WaitsUnder list_was.part.waiting.entries ((child, parent) ∷ list.part.waiting.entries) taken.entries sound.waiting).1;
    under_ids = subst (λ (m : Kept Ended). Each IsUnderItsId m.entries) (sym results) sound.under_ids;
    results = subst (λ (m : Kept Ended). Each (λ entry. IsResult (table_of key) (quota_of key) entry.1) m.entries) (sym results) sound.results;
  };
  waiting = λ all. (each_moved (IsAtPoint (table_of key) (quota_of key)) (map thread_that_waits list_was.part.waiting.entries) (map thread_that_waits ((child, parent) ∷ list.part.waiting.entries))
      (IsPermutation-map thread_that_waits list_was.part.waiting.entries ((child, parent) ∷ list.part.waiting.entries) taken.entries) all).1;
  becomes = stays (ap (λ (l : ListShown). l.places) taken.shown);
  points = all_at (IsAtPoint (table_of key) (quota_of key)) (IsShort note list_was.part.order.places list.part.order.places) lane.lane.items points;
  ends = λ end is. rest.end ∙ is;
  finished = λ finish is. inl (sym rest.end ∙ is);
  worker = on.worker;
  left = inl on.left;
  answered = λ e is. inl (sym on.answered ∙ is);
  found = on.found;
}

pub handed_stays_sound : HandedStaysSound
handed_stays_sound key seat deque list_was list pool_was pool lane_was lane note child top handed on there come rest waiting in_pool points = record {
  pool = in_pool;
  list = λ sound. record {
    most = rest.most ∙ sound.most;
    waiting = subst (λ (m : Kept Thread). Each WaitsUnder m.entries) (sym waiting) sound.waiting;
    under_ids = (each_moved IsUnderItsId list_was.part.results.entries ((child, come.ended) ∷ list.part.results.entries) come.results sound.under_ids).1;
    results = (each_moved (λ entry. IsResult (table_of key) (quota_of key) entry.1) list_was.part.results.entries ((child, come.ended) ∷ list.part.results.entries) come.results sound.results).1;
  };
  waiting = λ all. subst (λ (m : Kept Thread). Each (IsAtPoint (table_of key) (quota_of key)) (map thread_that_waits m.entries)) (sym waiting) all;
  becomes = stays (ap (λ (l : ListShown). l.places) there.shown);
  points = all_at (IsAtPoint (table_of key) (quota_of key)) (IsShort note list_was.part.order.places list.part.order.places) lane.lane.items points;
  ends = λ end is. rest.end ∙ is;
  finished = λ finish is. inl (sym rest.end ∙ is);
  worker = on.worker;
  left = inl on.left;
  answered = λ e is. inl (sym on.answered ∙ is);
  found = on.found;
}
