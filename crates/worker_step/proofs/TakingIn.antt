-- A thread that joins a child whose result was delivered, or is kept and comes to it.
use Rattle.std.proofs.Common.{◌≡◌, ℕ, ◌⊎◌, List, ◌∷◌, inl, inr, sym, ap, subst, ◌∙◌, arith}
use denote.Struct.Props.{props}
use Rattle.std.proofs.Math.Logic.{∥∥₁_elim, ∥∥₁_map, ∥∥₁_prop}
use Rattle.std.specs.Prelude.{true, false, Some, Ok}
use Rattle.dag_order.specs.declared.thread_id.ThreadId.{ThreadId}
use Rattle.dag_order.specs.LabelOrder.{fork_of}
use Rattle.deque_list.specs.declared.deque_id.DequeId.{DequeId}
use Rattle.deque_list.specs.Deques.{Deque}
use Rattle.depth_first_list.specs.Actions.{Deed, joins}
use Rattle.depth_first_run.specs.States.{Setting}
use Rattle.open_periods.specs.Passed.Lists.{Each}
use Rattle.open_periods.proofs.Passed.Lists.{each_at, each_among, each_change}
use Rattle.open_periods.specs.Passed.Moments.{Moment}
use Rattle.open_periods.specs.Passed.Machine.{HasEnded}
use Rattle.open_periods.specs.Passed.DequeMachineRuns.{Pair}
use Rattle.node_table.specs.Table.{Table}
use Rattle.open_periods.specs.Tables.{deque_at}
use Rattle.moment_shown.specs.Parts as parts
use Rattle.thread_map.specs.Kept.{Kept, kept_under}
use Rattle.scheduler_state.specs.Passed.Settings.{IsSettingOf}
use Rattle.thread_frames.specs.Actions.{IsOfTheList, deed_of, is_there}
use Rattle.thread_frames.specs.Children.{is_delivered, IsAwaited}
use Rattle.thread_frames.specs.Points.{IsAtPoint, IsResult}
use Rattle.thread_frames.specs.Views.{label_of, children_of, newest, next_of}
use Rattle.thread_frames.specs.declared.next.Next.TheVariants as nexts
use Rattle.thread_frames.specs.declared.ended.Ended.{Ended}
use Rattle.thread_frames.specs.declared.thread.Thread.{Thread}
use Rattle.thread_frames.proofs.Listing.{of_list, joins_newest}
use Rattle.thread_frames.proofs.Placed.{placed_of}
use Rattle.list_changes.specs.Shown.{deque_with, Stands}
use Rattle.scheduler_state.specs.declared.scheduler.Scheduler.{Scheduler}
use Rattle.scheduler_state.specs.declared.event.Event.{Event}
use Rattle.scheduler_state.specs.Held.{held_under, IsInOrder, AreAtPoints}
use Rattle.thread_frames.specs.Kept.{IsUnderItsId}
use Rattle.scheduler_state.specs.Moments.{terms_of, HasRun, IsSound}
use Rattle.open_periods.specs.Passed.Terms.{machine_of}
use Rattle.scheduler_state.proofs.Lists.{each_moved}
use Rattle.thread_frames.proofs.Found.{found_among}
use Rattle.thread_frames.proofs.Points.{point_one}
use Rattle.scheduler_state.proofs.Joining.{newest_child, joins_it, told, ended_when_delivered, ended_when_kept, awaited_one, to_come, given, handed}
use Rattle.worker_step.specs.Steps.{IsBeforeAction, Comes}
use Rattle.thread_actions.specs.Results.{HasCome}
use Rattle.worker_step.proofs.Owning.{quota_is}

-- the child of a Join
child_joined : Deed → ℕ
child_joined (Rattle.depth_first_list.specs.Actions.forks child) = 0
child_joined (joins child) = child
child_joined Rattle.depth_first_list.specs.Actions.allocates = 0
child_joined Rattle.depth_first_list.specs.Actions.releases = 0
child_joined Rattle.depth_first_list.specs.Actions.dummy = 0
child_joined Rattle.depth_first_list.specs.Actions.faults = 0
child_joined Rattle.depth_first_list.specs.Actions.ends = 0

module _ (t : Table) (k limit : ℕ) (s : Scheduler) {worker : ℕ} {id : DequeId} {items : List Thread} (stands : Stands s.list worker id items) (top : Thread) (child : ThreadId)
    (b : IsBeforeAction t k limit s worker id top (nexts.Join child)) where
  -- the top thread is at its point
  pub its_point : IsAtPoint t k top
  its_point = ∥∥₁_elim (b.points items stands) (point_one t k top) (λ p.
      (each_at (λ d. Each (IsAtPoint t k) (Deque.items d)) stands.left (deque_with id (Some worker) (top ∷ items)) stands.right p.in_deques).0)

  -- where the result was delivered, the newest child has it
  pub delivered_is : is_delivered child (children_of top) ≡ true → is_there (newest (children_of top)) ≡ true
  delivered_is is = ∥∥₁_elim (b.sound items stands).of_program (search props) (λ p. ∥∥₁_elim ((b.sound items stands).somewhere p.0 p.1) (search props) (λ a.
      ∥∥₁_elim (b.of_the_list p.0 p.1) (search props) (λ i. ∥∥₁_elim (b.sound items stands).in_order (search props) (λ o.
      sym (told s stands top p.0 (terms_of s limit) (quota_is t k p.0 p.1 (b.sound items stands).quota) a.0 a.1 a.2 child i b.newest o) ∙ is))))

  -- the child that is joined has ended, where its result was delivered or is kept
  pub joined_ended : (is_delivered child (children_of top) ≡ true) ⊎ ((ended : Ended) × (kept_under s.results child ≡ Some ended))
      → (c : Setting) (of : IsSettingOf t k c) (i : IsOfTheList c top (nexts.Join child)) (o : IsInOrder (held_under s stands top))
      → (run : List Pair) (m : Moment) → HasRun c (terms_of s limit) (held_under s stands top) run m → (ordinal : ℕ) → deed_of top (nexts.Join child) ≡ joins ordinal
      → HasEnded (machine_of c (terms_of s limit)) m (fork_of (label_of top) ordinal)
  unfolding child_joined
  joined_ended there c of i o run m at ordinal deed =
      let quota = quota_is t k c of (b.sound items stands).quota in
      let x = newest_child s stands top c (terms_of s limit) quota run m at child i b.newest o in
      let same : ◌≡◌ {A = ℕ} (parts.Child.ordinal x.0) ordinal =
      ap child_joined (sym (joins_it s stands top c (terms_of s limit) quota run m at child i b.newest o).does ∙ i.deed ∙ deed) in
      subst (λ n. HasEnded (machine_of c (terms_of s limit)) m (fork_of (label_of top) n)) same (elim there [
        | inl delivered ↦ ended_when_delivered s stands top c (terms_of s limit) quota run m at child i b.newest o delivered
        | inr kept ↦ ended_when_kept s stands top c (terms_of s limit) quota run m at child i b.newest o kept.0 kept.1
      ])

  -- a kept result may come where it was not delivered
  pub can_come : is_delivered child (children_of top) ≡ false → (ended : Ended) → kept_under s.results child ≡ Some ended → IsAwaited (label_of top) ended (children_of top)
  can_come missing ended is = ∥∥₁_elim (b.sound items stands).of_program (awaited_one (label_of top) ended (children_of top)) (λ p.
      ∥∥₁_elim ((b.sound items stands).somewhere p.0 p.1) (awaited_one (label_of top) ended (children_of top)) (λ a.
      ∥∥₁_elim (b.of_the_list p.0 p.1) (awaited_one (label_of top) ended (children_of top)) (λ i. ∥∥₁_elim (b.sound items stands).in_order (awaited_one (label_of top) ended (children_of top)) (λ o.
      to_come s stands top p.0 (terms_of s limit) (quota_is t k p.0 p.1 (b.sound items stands).quota) a.0 a.1 a.2 child i b.newest o ended is missing))))

  -- it has come
  module _ (missing : is_delivered child (children_of top) ≡ false) (results : Kept Ended) (now : Thread) (come : HasCome s.results results top now child) where
    abbrev pub later : Scheduler
    later = record s { results = results }

    abbrev pub later_stands : Stands later.list worker id items
    later_stands = record { left = stands.left; right = stands.right; deques_are = stands.deques_are }

    pub now_point : IsAtPoint t k now
    now_point = ∥∥₁_elim (b.sound items stands).results (point_one t k now) (λ r. come.given.point t k its_point
        (each_among (λ e. IsResult t k e.1) (child, come.ended) s.results.entries r (found_among child s.results.entries come.ended come.kept)))

    later_at : (c : Setting) → IsSettingOf t k c → IsInOrder (held_under s stands top) → (run : List Pair) (m : Moment) → HasRun c (terms_of s limit) (held_under s stands top) run m
        → HasRun c (terms_of later limit) (held_under later later_stands now) run m
    later_at c of o run m at = handed s stands top c (terms_of s limit) (quota_is t k c of (b.sound items stands).quota) run m at o child come.ended results.entries come.results now
        (can_come missing come.ended come.kept) come.given.same come.given.done come.given.children come.given.words

    later_order : IsInOrder (held_under s stands top) → IsInOrder (held_under later later_stands now)
    later_order o = record {
      owners = each_change (λ d. (w : ℕ) → Deque.owner d ≡ Some w → deque_at s.table w ≡ Some (Deque.id d)) stands.left
          (deque_with id (Some worker) (top ∷ items)) (deque_with id (Some worker) (now ∷ items)) stands.right o.owners
          (each_at (λ d. (w : ℕ) → Deque.owner d ≡ Some w → deque_at s.table w ≡ Some (Deque.id d)) stands.left (deque_with id (Some worker) (top ∷ items)) stands.right o.owners);
      waiting = o.waiting;
      results = (each_moved IsUnderItsId s.results.entries ((child, come.ended) ∷ results.entries) come.results o.results).1;
    }

    later_points : AreAtPoints t k (held_under s stands top) → AreAtPoints t k (held_under later later_stands now)
    later_points are = record {
      in_deques = each_change (λ d. Each (IsAtPoint t k) (Deque.items d)) stands.left (deque_with id (Some worker) (top ∷ items)) (deque_with id (Some worker) (now ∷ items)) stands.right are.in_deques
          (now_point, (each_at (λ d. Each (IsAtPoint t k) (Deque.items d)) stands.left (deque_with id (Some worker) (top ∷ items)) stands.right are.in_deques).1);
      waiting = are.waiting;
    }

    later_sound : IsSound t k (terms_of later limit) (held_under later later_stands now)
    later_sound = record {
      of_program = (b.sound items stands).of_program;
      quota = (b.sound items stands).quota;
      in_order = ∥∥₁_map (b.sound items stands).in_order later_order;
      sum = (b.sound items stands).sum;
      results = ∥∥₁_map (b.sound items stands).results (λ r. (each_moved (λ e. IsResult t k e.1) s.results.entries ((child, come.ended) ∷ results.entries) come.results r).1);
      somewhere = λ c of. ∥∥₁_elim ((b.sound items stands).somewhere c of) ∥∥₁_prop (λ a. ∥∥₁_map (b.sound items stands).in_order (λ o. (a.0, a.1, later_at c of o a.0 a.1 a.2)));
    }

    now_next : next_of now ≡ Some (nexts.Join child)
    now_next = come.given.next ∙ b.can.is_next

    -- the newest child has the result now
    pub now_there : is_there (newest (children_of now)) ≡ true
    now_there = ∥∥₁_elim (b.sound items stands).of_program (search props) (λ p. ∥∥₁_elim ((b.sound items stands).somewhere p.0 p.1) (search props) (λ a.
        ∥∥₁_elim (b.of_the_list p.0 p.1) (search props) (λ i. ∥∥₁_elim (b.sound items stands).in_order (search props) (λ o.
        (given s stands top p.0 (terms_of s limit) (quota_is t k p.0 p.1 (b.sound items stands).quota) a.0 a.1 a.2 child i b.newest o come.ended come.kept now come.given.children).0))))

-- the thread is before the same action, with the result
pub before_later : (t : Table) (k limit : ℕ) (s : Scheduler) (worker : ℕ) (id : DequeId) (top : Thread) (child : ThreadId) (b : IsBeforeAction t k limit s worker id top (nexts.Join child))
    → is_delivered child (children_of top) ≡ false → (results : Kept Ended) (now : Thread) → HasCome s.results results top now child
    → IsBeforeAction t k limit (record s { results = results }) worker id now (nexts.Join child)
before_later t k limit s worker id top child b missing results now come =
    let point : IsAtPoint t k now = now_point t k limit s b.can.stands.1 top child b missing results now come in
    let next : next_of now ≡ Some (nexts.Join child) = come.given.next ∙ b.can.is_next in
    record {
      can = record {
        placed = placed_of t k now point;
        is_next = next;
        few = let few = b.can.few in let same = come.given.done in omega (arith, few, same);
        stands = b.can.stands;
        memory = record {
          lane = b.can.memory.lane;
          table = b.can.memory.table;
          moves = b.can.memory.moves;
          waiting = b.can.memory.waiting;
          place = b.can.memory.place;
          results = let some = b.can.memory.results in let room = come.room in omega (arith, some, room);
        };
        sum = b.can.sum;
        period = b.can.period;
        used = b.can.used;
      };
      limited = b.limited;
      sound = λ items stands. later_sound t k limit s stands top child b missing results now come;
      points = λ items stands. ∥∥₁_map (b.points items stands) (later_points t k limit s stands top child b missing results now come);
      of_the_list = λ c of. ∥∥₁_map (point.at c of) (λ a. of_list c t now now.prepared (nexts.Join child) a next);
      newest = joins_newest t k now (nexts.Join child) point next;
    }

-- and what it comes to is what the step comes to
pub taken_in_comes : (t : Table) (k limit : ℕ) (s : Scheduler) {worker : ℕ} {id : DequeId} {items : List Thread} (stands : Stands s.list worker id items) (top : Thread) (child : ThreadId)
    (b : IsBeforeAction t k limit s worker id top (nexts.Join child)) (missing : is_delivered child (children_of top) ≡ false) (results : Kept Ended) (now : Thread)
    (come : HasCome s.results results top now child) (after : Scheduler) (told : Event)
    → Comes t k limit worker (held_under (record s { results = results }) (record { left = stands.left; right = stands.right; deques_are = stands.deques_are }) now) (record s { results = results }) after (Ok told)
    → Comes t k limit worker (held_under s stands top) s after (Ok told)
taken_in_comes t k limit s stands top child b missing results now come after told comes = record {
  sound = comes.sound;
  points = comes.points;
  steps = λ c of run m word at. ∥∥₁_elim (b.sound _ stands).in_order ∥∥₁_prop (λ o.
      comes.steps c of run m word (subst (λ x. HasRun c x (held_under (record s { results = results }) (record { left = stands.left; right = stands.right; deques_are = stands.deques_are }) now) run m) (sym (comes.keeps.terms limit))
      (later_at t k limit s stands top child b missing results now come c of o run m (subst (λ x. HasRun c x (held_under s stands top) run m) (comes.keeps.terms limit) at))));
  keeps = record { terms = comes.keeps.terms; spare = comes.keeps.spare };
}
