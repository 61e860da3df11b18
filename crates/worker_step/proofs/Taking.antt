-- The top thread is taken out of a worker's deque.
use Rattle.std.proofs.Common.{◌≡◌, ◌≢◌, ℕ, ◌<◌, ◌≤◌, List, [], ◌∷◌, ◌++◌, length, refl, sym, ap, subst, ◌∙◌, arith}
use denote.Struct.Props.{props}
use Rattle.std.proofs.Math.Logic.{∥∥₁_elim, ∥∥₁_map}
use Rattle.std.specs.Prelude.{Some, Result, slice_get, slice_set, drop}
use Rattle.deque_list.specs.declared.deque_id.DequeId.{DequeId}
use Rattle.deque_list.specs.Deques.{Deque, DequeAt}
use Rattle.deque_list.specs.DequeLists.{ListView}
use Rattle.open_periods.specs.Passed.Lists.{Each}
use Rattle.open_periods.proofs.Passed.Lists.{same_head, same_tail, each_at}
use Rattle.node_table.specs.Table.{Table}
use Rattle.thread_frames.specs.declared.thread.Thread.{Thread}
use Rattle.thread_frames.specs.Points.{IsAtPoint}
use Rattle.list_changes.specs.Shown.{deque_with, Stands}
use Rattle.list_changes.proofs.Putting.{at_rank, here, set_middle}
use Rattle.scheduler_state.specs.declared.event.Event.{Event}
use Rattle.scheduler_state.specs.declared.scheduler.Scheduler.{Scheduler}
use Rattle.play_rules.specs.declared.stop.Stop.{Stop}
use Rattle.scheduler_state.specs.Held.{held, held_under, OwnsNone}
use Rattle.scheduler_state.specs.Moments.{terms_of, HasRun, IsSound, CanGoOn}
use Rattle.scheduler_state.proofs.Still.{reordered_sound, reordered_points, reordered_stands, still_sound, still_points, still_stands}
use Rattle.scheduler_state.specs.Held.{IsReordered}
use Rattle.depth_first_run.specs.States.{Setting}
use Rattle.open_periods.specs.Passed.Moments.{Moment}
use Rattle.open_periods.specs.Passed.DequeMachineRuns.{Pair}
use Rattle.open_periods.specs.Periods.{Period}
use Rattle.open_periods.specs.Tables.{period_at, deque_at}
use Rattle.std.proofs.lemmas.Option.{same_Some}
use Rattle.language_limits.specs.declared.TheConstants.{GREATEST_COUNT}
use Rattle.thread_frames.specs.Views.{thread_words, next_of, done_of, children_of}
use Rattle.thread_frames.specs.Actions.{IsStill, IsOfTheList, JoinsNewest}
use Rattle.thread_frames.specs.declared.next.Next.{Next}
use Rattle.thread_frames.proofs.Placed.{placed_of}
use Rattle.scheduler_state.specs.Passed.Settings.{IsSettingOf}
use Rattle.worker_step.specs.Keeping.{KeepsRoom}
use Rattle.worker_step.specs.Memory.{HasMemory}
use Rattle.worker_step.specs.Tops.{TakesTop}
use Rattle.worker_step.specs.Steps.{IsBeforeAction, Comes}
use Rattle.scheduler_state.proofs.AtTop.{owns_none, words_within, used_within, counts_within}
use Rattle.scheduler_state.proofs.SeatDeques.{seat_deque}
use Rattle.thread_frames.proofs.Points.{point_one}
use Rattle.worker_step.proofs.Owning.{quota_is}

-- the deque without its top item
abbrev pub popped : {list next : ListView Thread} {worker : ℕ} {id : DequeId} {top : Thread} {items : List Thread} (stands : Stands list worker id (top ∷ items))
    → ((rank : ℕ) (deque : Deque Thread) → DequeAt list.deques id rank deque → next.deques ≡ slice_set list.deques rank (record deque { items = drop 1 deque.items }))
    → Stands next worker id items
popped {list} {next} {worker} {id} {top} {items} stands clause = record {
  left = stands.left;
  right = stands.right;
  deques_are = clause (length stands.left) (here stands) (at_rank stands)
      ∙ ap (λ ds. slice_set ds (length stands.left) (deque_with id (Some worker) items)) stands.deques_are
      ∙ set_middle stands.left (here stands) (deque_with id (Some worker) items) stands.right;
}

-- a list is cut at the only deque of a worker in one way
module _ (worker : ℕ) where
  abbrev Other : Deque Thread → Type 0
  Other deque = Deque.owner deque ≢ Some worker

  pub one_cut : (left right ours theirs : List (Deque Thread)) (x y : Deque Thread) → left ++ x ∷ right ≡ ours ++ y ∷ theirs → Deque.owner x ≡ Some worker → Deque.owner y ≡ Some worker
      → Each Other left → Each Other right → (left ≡ ours) × (x ≡ y) × (right ≡ theirs)
  one_cut [] right [] theirs x y same own_x own_y none_left none_right = (refl, same_head x y right theirs same, same_tail x y right theirs same)
  one_cut [] right (z ∷ ours) theirs x y same own_x own_y none_left none_right =
      absurd (each_at Other ours y theirs (subst (Each Other) (same_tail x z right (ours ++ y ∷ theirs) same) none_right) own_y)
  one_cut (z ∷ left) right [] theirs x y same own_x own_y none_left none_right =
      absurd (none_left.0 (ap (λ d. Deque.owner d) (same_head z y (left ++ x ∷ right) theirs same) ∙ own_y))
  one_cut (z ∷ left) right (w ∷ ours) theirs x y same own_x own_y none_left none_right =
      let rest = one_cut left right ours theirs x y (same_tail z w (left ++ x ∷ right) (ours ++ y ∷ theirs) same) own_x own_y none_left.1 none_right in
      let head = same_head z w (left ++ x ∷ right) (ours ++ y ∷ theirs) same in
      (λ i. head i ∷ rest.0 i, rest.1, rest.2)

-- so what is held with a thread on top is the same for each cut
pub same_under : (s : Scheduler) {worker : ℕ} {id : DequeId} {items others : List Thread} (stands : Stands s.list worker id items) (its : Stands s.list worker id others) (top : Thread)
    → OwnsNone worker stands.left stands.right → held_under s stands top ≡ held_under s its top
same_under s {worker} {id} {items} {others} stands its top none =
    let cut = one_cut worker stands.left stands.right its.left its.right (deque_with id (Some worker) items) (deque_with id (Some worker) others) (sym stands.deques_are ∙ its.deques_are) refl refl none.0 none.1 in
    let xs : ◌≡◌ {A = List Thread} items others = ap (λ d. Deque.items d) cut.1 in
    λ i. record (held s) { deques = cut.0 i ++ deque_with id (Some worker) (top ∷ xs i) ∷ cut.2 i }

-- that none of the others is the worker's is a proposition
none_one : (worker : ℕ) (ds : List (Deque Thread)) → IsProp (Each (λ d. Deque.owner d ≢ Some worker) ds)
none_one worker [] a b = refl
none_one worker (d ∷ ds) a b = λ i. ((λ is. nothing (a.0 is) (b.0 is) i), none_one worker ds a.1 b.1 i)
  where
    nothing : (x y : ⊥) → x ≡ y
    nothing x y = absurd x

pub owns_none_one : (worker : ℕ) (left right : List (Deque Thread)) → IsProp (OwnsNone worker left right)
owns_none_one worker left right a b = λ i. (none_one worker left a.0 b.0 i, none_one worker right a.1 b.1 i)

module _ (t : Table) (k limit : ℕ) (s : Scheduler) {worker : ℕ} {id : DequeId} {items : List Thread} (stands : Stands s.list worker id items) (top : Thread)
    (sound : IsSound t k (terms_of s limit) (held_under s stands top)) where
  none_here : OwnsNone worker stands.left stands.right
  none_here = ∥∥₁_elim sound.of_program (owns_none_one worker stands.left stands.right) (λ p. ∥∥₁_elim (sound.somewhere p.0 p.1) (owns_none_one worker stands.left stands.right) (λ a.
      owns_none s stands top p.0 (terms_of s limit) (quota_is t k p.0 p.1 sound.quota) a.0 a.1 a.2))

  pub sound_each : (others : List Thread) (its : Stands s.list worker id others) → IsSound t k (terms_of s limit) (held_under s its top)
  sound_each others its = subst (IsSound t k (terms_of s limit)) (same_under s stands its top none_here) sound

  pub points_each : CanGoOn t k (held_under s stands top) → (others : List Thread) (its : Stands s.list worker id others) → CanGoOn t k (held_under s its top)
  points_each points others its = subst (CanGoOn t k) (same_under s stands its top none_here) points

-- a worker's seat, in which its top thread is taken out behind a call that changed only memory
module _ (s first : Scheduler) (list : ListView Thread) {worker : ℕ} {id : DequeId} {top : Thread} {items : List Thread} (stands : Stands s.list worker id (top ∷ items))
    (same : IsReordered (held s) (held first)) (keeps : KeepsRoom s first)
    (pop : (rank : ℕ) (deque : Deque Thread) → DequeAt first.list.deques id rank deque → list.deques ≡ slice_set first.list.deques rank (record deque { items = drop 1 deque.items }))
    (most : list.most ≡ first.list.most) (spare : list.spare ≡ first.list.spare) where
  abbrev taken : Scheduler
  taken = record first { list = list }

  abbrev first_stands : Stands first.list worker id (top ∷ items)
  first_stands = record { left = stands.left; right = stands.right; deques_are = same.deques ∙ stands.deques_are }

  abbrev taken_stands : Stands taken.list worker id items
  taken_stands = popped first_stands pop

  under_was : held_under taken taken_stands top ≡ held first
  under_was = ap (λ ds. record (held first) { deques = ds }) (sym first_stands.deques_are)

  pub takes_top : deque_at s.table worker ≡ Some id → (p : Period) → period_at first.table worker ≡ Some p → HasMemory 2 (record first { list = list }) worker id
      → TakesTop worker id top s (record first { list = list })
  takes_top seat p period memory = record {
    seat = seat;
    items = items;
    stands = taken_stands;
    same = subst (IsReordered (held s)) (sym under_was) same;
    period = (p, period);
    memory = memory;
    keeps = record {
      terms = λ actions. (λ i. record (terms_of first actions) { limits = record { capacity = first.pool.capacity; actions = actions; deques = most i } }) ∙ keeps.terms actions;
      spare = spare ∙ keeps.spare;
    };
  }

-- with the top thread on its deque all is sound and can go on as before it was taken out, and stands where it stood
module _ (t : Table) (k limit : ℕ) (s taken : Scheduler) (worker : ℕ) (id : DequeId) (top : Thread) (takes : TakesTop worker id top s taken) where
  pub taken_sound : IsSound t k (terms_of s limit) (held s) → IsSound t k (terms_of taken limit) (held_under taken takes.stands top)
  taken_sound sound = subst (λ x. IsSound t k x (held_under taken takes.stands top)) (sym (takes.keeps.terms limit))
      (reordered_sound t k (terms_of s limit) (held s) (held_under taken takes.stands top) takes.same sound)

  pub taken_points : CanGoOn t k (held s) → CanGoOn t k (held_under taken takes.stands top)
  taken_points points = ∥∥₁_map points (reordered_points t k (held s) (held_under taken takes.stands top) takes.same)

  pub taken_at : (c : Setting) (run : List Pair) (m : Moment) → HasRun c (terms_of s limit) (held s) run m → HasRun c (terms_of taken limit) (held_under taken takes.stands top) run m
  taken_at c run m at = subst (λ x. HasRun c x (held_under taken takes.stands top) run m) (sym (takes.keeps.terms limit))
      (reordered_stands c (terms_of s limit) (held s) (held_under taken takes.stands top) run m takes.same at)

-- the thread that is on top is at its point, and its words are out
module _ (t : Table) (k limit : ℕ) (s : Scheduler) {worker : ℕ} {id : DequeId} {items : List Thread} (stands : Stands s.list worker id items) (top : Thread)
    (sound : IsSound t k (terms_of s limit) (held_under s stands top)) where
  pub point_at_top : CanGoOn t k (held_under s stands top) → IsAtPoint t k top
  point_at_top points = ∥∥₁_elim points (point_one t k top) (λ p.
      (each_at (λ d. Each (IsAtPoint t k) (Deque.items d)) stands.left (deque_with id (Some worker) (top ∷ items)) stands.right p.in_deques).0)

  pub words_at_top : thread_words top ≤ s.pool.live
  words_at_top = ∥∥₁_elim sound.of_program (search props) (λ p. ∥∥₁_elim (sound.somewhere p.0 p.1) (search props) (λ a.
      words_within s stands top p.0 (terms_of s limit) (quota_is t k p.0 p.1 sound.quota) a.0 a.1 a.2))

  pub done_at_top : done_of top ≤ s.done
  done_at_top = ∥∥₁_elim sound.of_program (search props) (λ p. ∥∥₁_elim (sound.somewhere p.0 p.1) (search props) (λ a.
      counts_within s stands top p.0 (terms_of s limit) (quota_is t k p.0 p.1 sound.quota) a.0 a.1 a.2))

  pub used_at_top : (p : Period) → period_at s.table worker ≡ Some p → p.used ≤ k
  used_at_top p is = ∥∥₁_elim sound.of_program (search props) (λ q. ∥∥₁_elim (sound.somewhere q.0 q.1) (search props) (λ a.
      subst (λ n. p.used ≤ n) q.1.quota (used_within s stands top q.0 (terms_of s limit) (quota_is t k q.0 q.1 sound.quota) a.0 a.1 a.2 p is)))

-- the deque of a worker's seat, with the item on top that was taken out
pub taken_out : (t : Table) (k limit : ℕ) (s first : Scheduler) (worker : ℕ) (id : DequeId) (top : Thread) → IsSound t k (terms_of s limit) (held s) → deque_at s.table worker ≡ Some id
    → IsReordered (held s) (held first)
    → ((rank : ℕ) (deque : Deque Thread) → DequeAt first.list.deques id rank deque → Some top ≡ slice_get (Deque.items deque) 0)
    → (items : List Thread) × Stands s.list worker id (top ∷ items)
taken_out t k limit s first worker id top sound seat same item =
    let its = seat_deque t k (terms_of s limit) s worker id sound seat in
    let here_first : Stands first.list worker id (its.0 ∷ its.1) = record { left = its.2.left; right = its.2.right; deques_are = same.deques ∙ its.2.deques_are } in
    let top_is : its.0 ≡ top = sym (same_Some top its.0 (item (length here_first.left) (here here_first) (at_rank here_first))) in
    (its.1, subst (λ x. Stands s.list worker id (x ∷ its.1)) top_is its.2)

-- the thread that was taken out and went on is before its next action
pub is_before : (t : Table) (k limit : ℕ) → k ≤ 1048576 → limit < GREATEST_COUNT → (s taken : Scheduler) (worker : ℕ) (id : DequeId) (top now : Thread) (next : Next)
    (takes : TakesTop worker id top s taken) → IsSound t k (terms_of s limit) (held s) → CanGoOn t k (held s) → IsStill top now → IsAtPoint t k now
    → next_of now ≡ Some next → done_of now < GREATEST_COUNT
    → ((c : Setting) → IsSettingOf t k c → ∥ IsOfTheList c now next ∥₁) → JoinsNewest next (children_of now) → IsBeforeAction t k limit taken worker id now next
is_before t k limit most limited s taken worker id top now next takes sound points still point is_next few of_the_list newest =
    let stands : Stands taken.list worker id takes.items = takes.stands in
    let under = taken_sound t k limit s taken worker id top takes sound in
    let later = still_sound taken stands top now still t k (terms_of taken limit) under in
    let went = ∥∥₁_map (taken_points t k limit s taken worker id top takes points) (still_points taken stands top now still t k point) in
    record {
      can = record {
        placed = placed_of t k now point;
        is_next = is_next;
        few = few;
        stands = (_, stands);
        memory = takes.memory;
        sum = later.sum;
        period = takes.period;
        used = λ q is. let used = used_at_top t k limit taken stands top under q is in omega (arith, used, most);
      };
      limited = limited;
      sound = λ others its. sound_each t k limit taken stands now later others its;
      points = λ others its. points_each t k limit taken stands now later went others its;
      of_the_list = of_the_list;
      newest = newest;
    }

-- what its step comes to, comes of what was held before it was taken out
pub comes_of_taken : (t : Table) (k limit : ℕ) (s taken after : Scheduler) (worker : ℕ) (id : DequeId) (top now : Thread) (takes : TakesTop worker id top s taken) → IsStill top now
    → (result : Result Event Stop) → Comes t k limit worker (held_under taken takes.stands now) taken after result → Comes t k limit worker (held s) s after result
comes_of_taken t k limit s taken after worker id top now takes still result comes = record {
  sound = comes.sound;
  points = comes.points;
  steps = λ c of run m word at. comes.steps c of run m word (subst (λ x. HasRun c x (held_under taken takes.stands now) run m) (sym (comes.keeps.terms limit))
      (still_stands taken takes.stands top now still c (terms_of taken limit) run m (taken_at t k limit s taken worker id top takes c run m
      (subst (λ x. HasRun c x (held s) run m) (comes.keeps.terms limit ∙ takes.keeps.terms limit) at))));
  keeps = record { terms = λ actions. comes.keeps.terms actions ∙ takes.keeps.terms actions; spare = comes.keeps.spare ∙ takes.keeps.spare };
}
