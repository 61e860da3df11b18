use Rattle.std.proofs.Common.{◌≡◌, ◌≤◌, ◌<◌, sym, ap, subst, ◌∙◌, inl, inr, length, arith}
use Rattle.std.proofs.Math.Logic.{∥∥₁_elim, ∥∥₁_map, ∥∥₁_prop}
use Rattle.depth_first_list.specs.Actions.{record_words}
use Rattle.deque_machine.specs.Terms.{Terms}
use Rattle.depth_first_list.specs.QuotaWords.{quota_words}
use Rattle.node_table.specs.Codes.{code_shown}
use Rattle.scheduler_state.specs.declared.scheduler.Scheduler.{Scheduler}
use Rattle.scheduler_state.specs.Held.{held}
use Rattle.scheduler_state.specs.Moments.{IsSound, HasRun, terms_of}
use Rattle.scheduler_state.specs.Outcomes.{GoesOn, StopsBy}
use Rattle.async_core.proofs.Rooms.{both_prop, all_have, room_terms, room_run}
use Rattle.async_core.proofs.Wents.{one_or_fork, no_entries, room_before, room_after}
use Rattle.async_core.proofs.Entering.{aside_terms, aside_points, aside_sound, aside_went, meets_by}
use Rattle.async_core.proofs.events.event_of_entry.Goals as goal

pub set_parent_aside-requires-clause-room : goal.set_parent_aside-requires-clause-room
set_parent_aside-requires-clause-room c id top bottom stands =
    let s : Scheduler = c.args.scheduler.now in
    let s1 : Scheduler = record s { list = c.make_room.new.list } in
    let s2 : Scheduler = c.step_of_owner.new.scheduler in
    let terms : Terms = terms_of s c.args.limit in
    let same : terms_of s1 c.args.limit ≡ terms = room_terms s c.make_room.new.list c.make_room.ensures.deques c.make_room.ensures.most c.args.limit in
    let later : terms_of s2 c.args.limit ≡ terms = c.step_of_owner.ensures.terms c.args.limit ∙ same in
    let rooms : (length s.list.deques < s.list.most) × (length s2.list.deques < s.list.most) =
    ∥∥₁_elim c.requires.sound.of_program (both_prop _ _ _ _) (λ p. ∥∥₁_elim (c.requires.ready p.0 p.1) (both_prop _ _ _ _) (λ w.
    let at : HasRun p.0 terms (held s1) w.0 w.1 = room_run s c.make_room.new.list c.make_room.ensures.deques c.make_room.ensures.most p.0 terms w.0 w.1 w.2 in
    let covers = c.requires.sound.quota in let of = p.1.quota in
    let quota : record_words ≤ p.0.quota = omega (arith, covers, of) in
    ∥∥₁_elim (c.in-Ok.ensures.steps p.0 p.1 w.0 w.1 0 (subst (λ x. HasRun p.0 x (held s1) w.0 w.1) (sym same) at)) (both_prop _ _ _ _) (λ goes.
    let g : GoesOn p.0 terms (held s2) c.args.worker 0 w.0 w.1 c.in-Ok.event =
    subst (λ x. GoesOn p.0 x (held s2) c.args.worker 0 w.0 w.1 c.in-Ok.event) same goes in
    ∥∥₁_elim c.requires.points (both_prop _ _ _ _) (λ points.
    elim (one_or_fork p.0 terms quota (held s1) (held s2) w.0 w.1 at w.3 c.args.worker c.requires.within c.in-Ok.event g) [
      | inl entries ↦ absurd (no_entries p.0 terms quota (held s1) (held s2) w.0 w.1 at w.3 c.args.worker c.requires.within c.in-Ok.event g
          id top bottom stands.left stands.right stands.deques_are entries)
      | inr two ↦
          let has = all_have (code_shown c.args.code.now) (quota_words c.args.k) c.make_room.new.list.deques
          (subst (λ ds. Rattle.deque_machine.specs.Lists.Each (λ d. Rattle.deque_machine.specs.Lists.Each (Rattle.thread_frames.specs.Points.IsAtPoint (code_shown c.args.code.now) (quota_words c.args.k)) (Rattle.deque_list.specs.Deques.Deque.items d)) ds)
          (sym c.make_room.ensures.deques) points.in_deques) in
          let few = c.live-live.ensures.sound.within in let raised = c.live-live.ensures.sound.raised in
          let capacity : s2.pool.capacity ≡ s.pool.capacity = ap (λ (t : Terms). t.limits.capacity) later in
          let fits : s2.pool.live ≤ s.pool.capacity = omega (arith, few, raised, capacity) in
          let front = room_before p.0 terms quota (held s1) (held s2) w.0 w.1 at w.3 c.args.worker c.requires.within c.in-Ok.event g two has c.requires.most fits in
          let back = room_after p.0 terms quota (held s1) (held s2) w.0 w.1 at w.3 c.args.worker c.requires.within c.in-Ok.event g two has c.requires.most fits in
          (subst (λ ds. length ds < s.list.most) c.make_room.ensures.deques front, back)
    ]))))
    in
    let most : s2.list.most ≡ s.list.most = ap (λ (t : Terms). t.limits.deques) later in
    let back = rooms.1 in
    (c.step_of_owner.ensures.spare ∙ c.in_default.ensures.room rooms.0, omega (arith, back, most))

pub returns-in-Err-step_of_owner-clause-terms : goal.returns-in-Err-step_of_owner-clause-terms
returns-in-Err-step_of_owner-clause-terms c actions =
    c.step_of_owner.ensures.terms actions ∙ room_terms c.args.scheduler.now c.make_room.new.list c.make_room.ensures.deques c.make_room.ensures.most actions

pub returns-in-Err-step_of_owner-clause-steps : goal.returns-in-Err-step_of_owner-clause-steps
returns-in-Err-step_of_owner-clause-steps c setting of run m at ready =
    let s : Scheduler = c.args.scheduler.now in
    let s1 : Scheduler = record s { list = c.make_room.new.list } in
    let terms : Terms = terms_of s c.args.limit in
    let same : terms_of s1 c.args.limit ≡ terms = room_terms s c.make_room.new.list c.make_room.ensures.deques c.make_room.ensures.most c.args.limit in
    let now : HasRun setting terms (held s1) run m = room_run s c.make_room.new.list c.make_room.ensures.deques c.make_room.ensures.most setting terms run m at in
    meets_by setting terms (held c.step_of_owner.new.scheduler) c.args.worker c.requires.within run m ready c.in-Err-step_of_owner.stop
    (subst (λ x. StopsBy setting x (held c.step_of_owner.new.scheduler) c.args.worker 0 run m c.in-Err-step_of_owner.stop) same
    (c.in-Err-step_of_owner.ensures.steps setting of run m 0 (subst (λ x. HasRun setting x (held s1) run m) (sym same) now)))

pub returns-in-Ok-clause-terms : goal.returns-in-Ok-clause-terms
returns-in-Ok-clause-terms c actions =
    aside_terms c.args.worker c.step_of_owner.new.scheduler c.set_parent_aside.new.scheduler c.set_parent_aside.ensures actions
    ∙ c.step_of_owner.ensures.terms actions ∙ room_terms c.args.scheduler.now c.make_room.new.list c.make_room.ensures.deques c.make_room.ensures.most actions

pub returns-in-Ok-clause-steps : goal.returns-in-Ok-clause-steps
returns-in-Ok-clause-steps c setting of run m at ready =
    let s : Scheduler = c.args.scheduler.now in
    let s1 : Scheduler = record s { list = c.make_room.new.list } in
    let s2 : Scheduler = c.step_of_owner.new.scheduler in
    let terms : Terms = terms_of s c.args.limit in
    let same : terms_of s1 c.args.limit ≡ terms = room_terms s c.make_room.new.list c.make_room.ensures.deques c.make_room.ensures.most c.args.limit in
    let now : HasRun setting terms (held s1) run m = room_run s c.make_room.new.list c.make_room.ensures.deques c.make_room.ensures.most setting terms run m at in
    let covers = c.requires.sound.quota in let its = of.quota in
    let quota : record_words ≤ setting.quota = omega (arith, covers, its) in
    ∥∥₁_map (c.in-Ok.ensures.steps setting of run m 0 (subst (λ x. HasRun setting x (held s1) run m) (sym same) now)) (λ goes.
    aside_went c.args.worker s2 c.set_parent_aside.new.scheduler setting terms quota (held s1) run m now ready c.requires.within c.in-Ok.event
    (subst (λ x. GoesOn setting x (held s2) c.args.worker 0 run m c.in-Ok.event) same goes) c.set_parent_aside.ensures)

pub returns-in-Ok-clause-sound : goal.returns-in-Ok-clause-sound
returns-in-Ok-clause-sound c =
    let s : Scheduler = c.args.scheduler.now in
    let s2 : Scheduler = c.step_of_owner.new.scheduler in
    let s3 : Scheduler = c.set_parent_aside.new.scheduler in
    let terms : Terms = terms_of s c.args.limit in
    let later : terms_of s2 c.args.limit ≡ terms = c.step_of_owner.ensures.terms c.args.limit
    ∙ room_terms s c.make_room.new.list c.make_room.ensures.deques c.make_room.ensures.most c.args.limit in
    subst (λ x. IsSound (code_shown c.args.code.now) (quota_words c.args.k) x (held s3)) (sym (returns-in-Ok-clause-terms c c.args.limit))
    (aside_sound c.args.worker s2 s3 (code_shown c.args.code.now) (quota_words c.args.k) terms c.set_parent_aside.ensures
    (subst (λ x. IsSound (code_shown c.args.code.now) (quota_words c.args.k) x (held s2)) later c.step_of_owner.ensures.sound)
    (λ setting of. ∥∥₁_elim (c.requires.ready setting of) ∥∥₁_prop (λ w. ∥∥₁_map (returns-in-Ok-clause-steps c setting of w.0 w.1 w.2 w.3)
    (λ went. (_, went.next, went.stands)))))

pub returns-in-Ok-clause-points : goal.returns-in-Ok-clause-points
returns-in-Ok-clause-points c some =
    aside_points c.args.worker c.step_of_owner.new.scheduler c.set_parent_aside.new.scheduler (code_shown c.args.code.now) (quota_words c.args.k) c.set_parent_aside.ensures
    (c.in-Ok.ensures.points some)
