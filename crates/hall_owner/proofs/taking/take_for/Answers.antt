use Rattle.std.proofs.Common.{refl, sym, subst}
use Rattle.depth_first_list.specs.QuotaWords.{quota_words}
use Rattle.turn_table.specs.Tables.{key_of}
use Rattle.thread_actions.specs.Readiness.{IsReadiness}
use Rattle.hall_owner.proofs.Following.{unseen}
use Rattle.hall_owner.proofs.taking.take_for.Goals as goal

pub returns-in-Lane-clause-seat : goal.returns-in-Lane-clause-seat
returns-in-Lane-clause-seat c = let r = c.requires.ready in (
  refl,
  record {
    took = unseen c.args.seat.now;
    meets = r.1.meets;
    asked = c.in-Lane.ensures (key_of c.args.row.now) c.args.seat.now c.args.deque r.0 r.1
        (subst (λ k. IsReadiness c.args.at.running.period.used (quota_words k) c.args.at.top c.args.next c.readiness_of-readiness.result) (sym c.requires.quota)
        c.readiness_of-readiness.ensures);
  },
)

pub take_pool_for-requires-clause-wanted : goal.take_pool_for-requires-clause-wanted
take_pool_for-requires-clause-wanted c = let r = c.requires.ready in
    c.in-Pool.ensures (key_of c.args.row.now) c.args.seat.now c.args.deque r.0 r.1
    (subst (λ k. IsReadiness c.args.at.running.period.used (quota_words k) c.args.at.top c.args.next c.readiness_of-readiness.result) (sym c.requires.quota)
    c.readiness_of-readiness.ensures)

pub take_list_for-requires-clause-wanted : goal.take_list_for-requires-clause-wanted
take_list_for-requires-clause-wanted c = let r = c.requires.ready in
    c.in-List.ensures (key_of c.args.row.now) c.args.seat.now c.args.deque r.0 r.1
    (subst (λ k. IsReadiness c.args.at.running.period.used (quota_words k) c.args.at.top c.args.next c.readiness_of-readiness.result) (sym c.requires.quota)
    c.readiness_of-readiness.ensures)

pub wanted_by-requires : goal.wanted_by-requires
wanted_by-requires c = let r = c.requires.ready in (
  key_of c.args.row.now,
  c.args.seat.now,
  c.args.deque,
  r.0,
  r.1,
  subst (λ k. IsReadiness c.args.at.running.period.used (quota_words k) c.args.at.top c.args.next c.readiness_of-readiness.result) (sym c.requires.quota)
      c.readiness_of-readiness.ensures,
)
