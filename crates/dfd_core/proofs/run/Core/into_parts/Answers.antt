use Rattle.std.proofs.Common.{◌≡◌, List, [], ◌∷◌, refl, sym, ap, subst, ◌∙◌}
use Rattle.std.specs.Prelude.{slice_get}
use Rattle.std.proofs.lemmas.Option.{same_Some}
use Rattle.deque_list.specs.Deques.{Deque, deque_ids}
use Rattle.deque_list.specs.declared.deque_id.DequeId.{DequeId}
use Rattle.thread_frames.specs.declared.thread.Thread.{Thread}
use Rattle.scheduler_state.specs.Held.{held}
use Rattle.thread_frames.specs.Roots.{IsRootAlone}
use Rattle.dfd_core.proofs.Apart.{one_deque, first, first_id, no_owner, root_alone, none_live}
use Rattle.dfd_core.proofs.run.Core.into_parts.Goals as goal

pub into_first-order-requires : goal.into_first-order-requires
into_first-order-requires c = one_deque _ _ _ (held c.args.self.scheduler) c.args.self.sound (c.args.self.points c.requires.0) c.args.self.end c.requires.1

pub returns-clause-first : goal.returns-clause-first
returns-clause-first c =
    let one = first _ _ _ (held c.args.self.scheduler) c.args.self.sound (c.args.self.points c.requires.0) c.args.self.end c.requires.1 in
    sym (same_Some _ _ (sym (ap (λ (ds : List (Deque Thread)). slice_get (deque_ids ds) 0) one.1) ∙ c.into_first-order.ensures.id))
    ∙ first_id _ _ _ (held c.args.self.scheduler) c.args.self.sound (c.args.self.points c.requires.0) c.args.self.end c.requires.1

pub returns-clause-order : goal.returns-clause-order
returns-clause-order c =
    let one = first _ _ _ (held c.args.self.scheduler) c.args.self.sound (c.args.self.points c.requires.0) c.args.self.end c.requires.1 in
    let unowned = no_owner _ _ _ (held c.args.self.scheduler) c.args.self.sound (c.args.self.points c.requires.0) c.args.self.end c.requires.1 in
    let id : ◌≡◌ {A = DequeId} (Deque.id one.0) c.into_first-order.result.1 =
    same_Some _ _ (sym (ap (λ (ds : List (Deque Thread)). slice_get (deque_ids ds) 0) one.1) ∙ c.into_first-order.ensures.id) in
    c.into_first-order.ensures.order one.0 (ap (λ (ds : List (Deque Thread)). slice_get ds 0) one.1)
    ∙ (λ i. record { id = id i; owner = unowned i } ∷ [])

pub returns-clause-lane : goal.returns-clause-lane
returns-clause-lane c =
    let one = first _ _ _ (held c.args.self.scheduler) c.args.self.sound (c.args.self.points c.requires.0) c.args.self.end c.requires.1 in
    subst (IsRootAlone _ _) (sym (c.into_first-order.ensures.lane one.0 (ap (λ (ds : List (Deque Thread)). slice_get ds 0) one.1)))
    (root_alone _ _ _ (held c.args.self.scheduler) c.args.self.sound (c.args.self.points c.requires.0) c.args.self.end c.requires.1)

pub returns-clause-pool : goal.returns-clause-pool
returns-clause-pool c = (none_live _ _ _ (held c.args.self.scheduler) c.args.self.sound (c.args.self.points c.requires.0) c.args.self.end c.requires.1, refl)
