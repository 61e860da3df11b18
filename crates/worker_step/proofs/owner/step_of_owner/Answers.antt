use Rattle.std.proofs.Common.{sym, subst, ◌∙◌, arith}
use Rattle.node_table.specs.Codes.{code_shown}
use Rattle.depth_first_list.specs.QuotaWords.{quota_words}
use Rattle.scheduler_state.specs.declared.scheduler.Scheduler.{Scheduler}
use Rattle.scheduler_state.specs.Held.{held, held_under}
use Rattle.scheduler_state.specs.Moments.{terms_of, IsSound, HasRun}
use Rattle.scheduler_state.specs.Outcomes.{StepsTo}
use Rattle.scheduler_state.proofs.Still.{reordered_sound, reordered_stands, still_sound, still_stands}
use Rattle.worker_step.specs.Steps.{IsBeforeAction}
use Rattle.worker_step.proofs.Seated.{seated_has_left}
use Rattle.worker_step.proofs.Taking.{taken_sound, taken_points, taken_at, point_at_top, done_at_top, is_before, comes_of_taken}
use Rattle.worker_step.proofs.owner.step_of_owner.Goals as goal

pub take_top-requires-clause-sound : goal.take_top-requires-clause-sound
take_top-requires-clause-sound c = (code_shown c.args.code.now, quota_words c.args.k, c.args.limit, c.requires.sound)

pub returns-in_default-clause-sound : goal.returns-in_default-clause-sound
returns-in_default-clause-sound c =
    let s : Scheduler = c.args.scheduler.now in
    subst (λ x. IsSound (code_shown c.args.code.now) (quota_words c.args.k) x (held c.take_top.new.scheduler)) (sym (c.take_top.ensures.keeps.terms c.args.limit))
    (reordered_sound (code_shown c.args.code.now) (quota_words c.args.k) (terms_of s c.args.limit) (held s) (held c.take_top.new.scheduler) c.in_default.ensures.same c.requires.sound)

pub returns-in_default-clause-steps : goal.returns-in_default-clause-steps
returns-in_default-clause-steps c setting of run m word at =
    let s : Scheduler = c.args.scheduler.now in (
      reordered_stands setting (terms_of s c.args.limit) (held s) (held c.take_top.new.scheduler) run m c.in_default.ensures.same at,
      seated_has_left c.requires.sound.quota setting of (terms_of s c.args.limit) (held s) run m at c.args.worker word c.requires.owner,
    )

pub advance-requires-clause-point : goal.advance-requires-clause-point
advance-requires-clause-point c =
    let takes = c.in-Ok.ensures.takes in
    let sound = taken_sound (code_shown c.args.code.now) (quota_words c.args.k) c.args.limit c.args.scheduler.now c.take_top.new.scheduler c.args.worker c.in-Ok.deque c.in-Ok.top takes c.requires.sound in
    point_at_top (code_shown c.args.code.now) (quota_words c.args.k) c.args.limit c.take_top.new.scheduler takes.stands c.in-Ok.top sound
    (taken_points (code_shown c.args.code.now) (quota_words c.args.k) c.args.limit c.args.scheduler.now c.take_top.new.scheduler c.args.worker c.in-Ok.deque c.in-Ok.top takes c.requires.points)

pub advance-requires-clause-few : goal.advance-requires-clause-few
advance-requires-clause-few c =
    let takes = c.in-Ok.ensures.takes in
    let count = done_at_top (code_shown c.args.code.now) (quota_words c.args.k) c.args.limit c.take_top.new.scheduler takes.stands c.in-Ok.top
    (taken_sound (code_shown c.args.code.now) (quota_words c.args.k) c.args.limit c.args.scheduler.now c.take_top.new.scheduler c.args.worker c.in-Ok.deque c.in-Ok.top takes c.requires.sound) in
    let same = takes.same.done in let done = c.requires.done in let few = c.requires.few in omega (arith, count, same, done, few)

pub put_back-requires-clause-stands : goal.put_back-requires-clause-stands
put_back-requires-clause-stands c = let takes = c.in-Ok.ensures.takes in (takes.items, takes.stands)

pub go_on-requires : goal.go_on-requires
go_on-requires c = record {
  ready = (
    code_shown c.args.code.now,
    is_before (code_shown c.args.code.now) (quota_words c.args.k) c.args.limit c.args.k.is_quota.2 c.requires.few c.args.scheduler.now c.take_top.new.scheduler c.args.worker
        c.in-Ok.deque c.in-Ok.top c.advance.new.top c.in-Ok-advance.next c.in-Ok.ensures.takes c.requires.sound c.requires.points c.advance.ensures.still
        c.in-Ok-advance.ensures.point c.in-Ok-advance.ensures.next c.in-Ok-advance.ensures.few (λ setting of. c.in-Ok-advance.ensures.list setting of) c.in-Ok-advance.ensures.newest,
  );
}

pub returns-in-Ok-advance-clause-sound : goal.returns-in-Ok-advance-clause-sound
returns-in-Ok-advance-clause-sound c =
    let takes = c.in-Ok.ensures.takes in
    let before : IsBeforeAction (code_shown c.args.code.now) (quota_words c.args.k) c.args.limit c.take_top.new.scheduler c.args.worker c.in-Ok.deque c.advance.new.top c.in-Ok-advance.next =
    is_before (code_shown c.args.code.now) (quota_words c.args.k) c.args.limit c.args.k.is_quota.2 c.requires.few c.args.scheduler.now c.take_top.new.scheduler c.args.worker
    c.in-Ok.deque c.in-Ok.top c.advance.new.top c.in-Ok-advance.next takes c.requires.sound c.requires.points c.advance.ensures.still
    c.in-Ok-advance.ensures.point c.in-Ok-advance.ensures.next c.in-Ok-advance.ensures.few (λ setting of. c.in-Ok-advance.ensures.list setting of) c.in-Ok-advance.ensures.newest in
    let comes = comes_of_taken (code_shown c.args.code.now) (quota_words c.args.k) c.args.limit c.args.scheduler.now c.take_top.new.scheduler c.go_on.new.scheduler c.args.worker
    c.in-Ok.deque c.in-Ok.top c.advance.new.top takes c.advance.ensures.still c.go_on.result (c.go_on.ensures (code_shown c.args.code.now) before takes.items takes.stands) in
    comes.sound

pub returns-in-Ok-advance-clause-points : goal.returns-in-Ok-advance-clause-points
returns-in-Ok-advance-clause-points c =
    let takes = c.in-Ok.ensures.takes in
    let before : IsBeforeAction (code_shown c.args.code.now) (quota_words c.args.k) c.args.limit c.take_top.new.scheduler c.args.worker c.in-Ok.deque c.advance.new.top c.in-Ok-advance.next =
    is_before (code_shown c.args.code.now) (quota_words c.args.k) c.args.limit c.args.k.is_quota.2 c.requires.few c.args.scheduler.now c.take_top.new.scheduler c.args.worker
    c.in-Ok.deque c.in-Ok.top c.advance.new.top c.in-Ok-advance.next takes c.requires.sound c.requires.points c.advance.ensures.still
    c.in-Ok-advance.ensures.point c.in-Ok-advance.ensures.next c.in-Ok-advance.ensures.few (λ setting of. c.in-Ok-advance.ensures.list setting of) c.in-Ok-advance.ensures.newest in
    let comes = comes_of_taken (code_shown c.args.code.now) (quota_words c.args.k) c.args.limit c.args.scheduler.now c.take_top.new.scheduler c.go_on.new.scheduler c.args.worker
    c.in-Ok.deque c.in-Ok.top c.advance.new.top takes c.advance.ensures.still c.go_on.result (c.go_on.ensures (code_shown c.args.code.now) before takes.items takes.stands) in
    λ some. comes.points

pub returns-in-Ok-advance-clause-terms : goal.returns-in-Ok-advance-clause-terms
returns-in-Ok-advance-clause-terms c =
    let takes = c.in-Ok.ensures.takes in
    let before : IsBeforeAction (code_shown c.args.code.now) (quota_words c.args.k) c.args.limit c.take_top.new.scheduler c.args.worker c.in-Ok.deque c.advance.new.top c.in-Ok-advance.next =
    is_before (code_shown c.args.code.now) (quota_words c.args.k) c.args.limit c.args.k.is_quota.2 c.requires.few c.args.scheduler.now c.take_top.new.scheduler c.args.worker
    c.in-Ok.deque c.in-Ok.top c.advance.new.top c.in-Ok-advance.next takes c.requires.sound c.requires.points c.advance.ensures.still
    c.in-Ok-advance.ensures.point c.in-Ok-advance.ensures.next c.in-Ok-advance.ensures.few (λ setting of. c.in-Ok-advance.ensures.list setting of) c.in-Ok-advance.ensures.newest in
    let comes = comes_of_taken (code_shown c.args.code.now) (quota_words c.args.k) c.args.limit c.args.scheduler.now c.take_top.new.scheduler c.go_on.new.scheduler c.args.worker
    c.in-Ok.deque c.in-Ok.top c.advance.new.top takes c.advance.ensures.still c.go_on.result (c.go_on.ensures (code_shown c.args.code.now) before takes.items takes.stands) in
    comes.keeps.terms

pub returns-in-Ok-advance-clause-spare : goal.returns-in-Ok-advance-clause-spare
returns-in-Ok-advance-clause-spare c =
    let takes = c.in-Ok.ensures.takes in
    let before : IsBeforeAction (code_shown c.args.code.now) (quota_words c.args.k) c.args.limit c.take_top.new.scheduler c.args.worker c.in-Ok.deque c.advance.new.top c.in-Ok-advance.next =
    is_before (code_shown c.args.code.now) (quota_words c.args.k) c.args.limit c.args.k.is_quota.2 c.requires.few c.args.scheduler.now c.take_top.new.scheduler c.args.worker
    c.in-Ok.deque c.in-Ok.top c.advance.new.top c.in-Ok-advance.next takes c.requires.sound c.requires.points c.advance.ensures.still
    c.in-Ok-advance.ensures.point c.in-Ok-advance.ensures.next c.in-Ok-advance.ensures.few (λ setting of. c.in-Ok-advance.ensures.list setting of) c.in-Ok-advance.ensures.newest in
    let comes = comes_of_taken (code_shown c.args.code.now) (quota_words c.args.k) c.args.limit c.args.scheduler.now c.take_top.new.scheduler c.go_on.new.scheduler c.args.worker
    c.in-Ok.deque c.in-Ok.top c.advance.new.top takes c.advance.ensures.still c.go_on.result (c.go_on.ensures (code_shown c.args.code.now) before takes.items takes.stands) in
    comes.keeps.spare

pub returns-in-Ok-advance-clause-steps : goal.returns-in-Ok-advance-clause-steps
returns-in-Ok-advance-clause-steps c =
    let takes = c.in-Ok.ensures.takes in
    let before : IsBeforeAction (code_shown c.args.code.now) (quota_words c.args.k) c.args.limit c.take_top.new.scheduler c.args.worker c.in-Ok.deque c.advance.new.top c.in-Ok-advance.next =
    is_before (code_shown c.args.code.now) (quota_words c.args.k) c.args.limit c.args.k.is_quota.2 c.requires.few c.args.scheduler.now c.take_top.new.scheduler c.args.worker
    c.in-Ok.deque c.in-Ok.top c.advance.new.top c.in-Ok-advance.next takes c.requires.sound c.requires.points c.advance.ensures.still
    c.in-Ok-advance.ensures.point c.in-Ok-advance.ensures.next c.in-Ok-advance.ensures.few (λ setting of. c.in-Ok-advance.ensures.list setting of) c.in-Ok-advance.ensures.newest in
    let comes = comes_of_taken (code_shown c.args.code.now) (quota_words c.args.k) c.args.limit c.args.scheduler.now c.take_top.new.scheduler c.go_on.new.scheduler c.args.worker
    c.in-Ok.deque c.in-Ok.top c.advance.new.top takes c.advance.ensures.still c.go_on.result (c.go_on.ensures (code_shown c.args.code.now) before takes.items takes.stands) in
    λ setting of run m word at.
    subst (λ x. StepsTo setting x (held c.go_on.new.scheduler) c.args.worker word run m c.go_on.result) (comes.keeps.terms c.args.limit)
    (comes.steps setting of run m word (subst (λ x. HasRun setting x (held c.args.scheduler.now) run m) (sym (comes.keeps.terms c.args.limit)) at))

pub returns-in-Err-clause-sound : goal.returns-in-Err-clause-sound
returns-in-Err-clause-sound c =
    let takes = c.in-Ok.ensures.takes in
    let now : Scheduler = c.take_top.new.scheduler in
    let sound = taken_sound (code_shown c.args.code.now) (quota_words c.args.k) c.args.limit c.args.scheduler.now now c.args.worker c.in-Ok.deque c.in-Ok.top takes c.requires.sound in
    let later = still_sound now takes.stands c.in-Ok.top c.advance.new.top c.advance.ensures.still (code_shown c.args.code.now) (quota_words c.args.k) (terms_of now c.args.limit) sound in
    subst (λ x. IsSound (code_shown c.args.code.now) (quota_words c.args.k) x (held c.put_back.new.scheduler)) (sym (c.put_back.ensures.keeps.terms c.args.limit))
    (subst (IsSound (code_shown c.args.code.now) (quota_words c.args.k) (terms_of now c.args.limit)) (sym (c.put_back.ensures.held takes.items takes.stands)) later)

pub returns-in-Err-clause-terms : goal.returns-in-Err-clause-terms
returns-in-Err-clause-terms c actions = c.put_back.ensures.keeps.terms actions ∙ c.take_top.ensures.keeps.terms actions

pub returns-in-Err-clause-steps : goal.returns-in-Err-clause-steps
returns-in-Err-clause-steps c setting of run m word at =
    let takes = c.in-Ok.ensures.takes in
    let now : Scheduler = c.take_top.new.scheduler in
    let at_taken = taken_at (code_shown c.args.code.now) (quota_words c.args.k) c.args.limit c.args.scheduler.now now c.args.worker c.in-Ok.deque c.in-Ok.top takes setting run m at in
    let at_now = still_stands now takes.stands c.in-Ok.top c.advance.new.top c.advance.ensures.still setting (terms_of now c.args.limit) run m at_taken in (
      subst (λ h. HasRun setting (terms_of c.args.scheduler.now c.args.limit) h run m) (sym (c.put_back.ensures.held takes.items takes.stands))
          (subst (λ x. HasRun setting x (held_under now takes.stands c.advance.new.top) run m) (takes.keeps.terms c.args.limit) at_now),
      seated_has_left c.requires.sound.quota setting of (terms_of c.args.scheduler.now c.args.limit) (held c.args.scheduler.now) run m at c.args.worker word c.requires.owner,
    )
