use Rattle.std.proofs.Common.{subst}
use Rattle.containers.specs.BoundedList.{spare}
use Rattle.turn_table.specs.Tables.{key_of}
use Rattle.hall_owner.specs.Ready.{IsReadyOn}
use Rattle.hall_owner.proofs.acting.act_on.Goals as goal

pub act_own_join-name-requires-clause-may : goal.act_own_join-name-requires-clause-may
act_own_join-name-requires-clause-may c = (subst (IsReadyOn (key_of c.args.row.now) c.args.seat.now c.args.deque c.args.at (spare c.args.memory.now.births)) c.in-OnLane.is c.requires.ready).may

pub act_own_join-name-requires-clause-ready : goal.act_own_join-name-requires-clause-ready
act_own_join-name-requires-clause-ready c = (subst (IsReadyOn (key_of c.args.row.now) c.args.seat.now c.args.deque c.args.at (spare c.args.memory.now.births)) c.in-OnLane.is c.requires.ready).is

pub act_own_join-name-requires-clause-next : goal.act_own_join-name-requires-clause-next
act_own_join-name-requires-clause-next c = (subst (IsReadyOn (key_of c.args.row.now) c.args.seat.now c.args.deque c.args.at (spare c.args.memory.now.births)) c.in-OnLane.is c.requires.ready).next

pub act_own_join-name-requires-clause-delivered : goal.act_own_join-name-requires-clause-delivered
act_own_join-name-requires-clause-delivered c = (subst (IsReadyOn (key_of c.args.row.now) c.args.seat.now c.args.deque c.args.at (spare c.args.memory.now.births)) c.in-OnLane.is c.requires.ready).delivered

pub act_own_join-name-requires-clause-words : goal.act_own_join-name-requires-clause-words
act_own_join-name-requires-clause-words c = (subst (IsReadyOn (key_of c.args.row.now) c.args.seat.now c.args.deque c.args.at (spare c.args.memory.now.births)) c.in-OnLane.is c.requires.ready).words

pub act_with_pool-name-requires-clause-may : goal.act_with_pool-name-requires-clause-may
act_with_pool-name-requires-clause-may c = (subst (IsReadyOn (key_of c.args.row.now) c.args.seat.now c.args.deque c.args.at (spare c.args.memory.now.births)) c.in-WithPool.is c.requires.ready).may

pub act_with_pool-name-requires-clause-ready : goal.act_with_pool-name-requires-clause-ready
act_with_pool-name-requires-clause-ready c = (subst (IsReadyOn (key_of c.args.row.now) c.args.seat.now c.args.deque c.args.at (spare c.args.memory.now.births)) c.in-WithPool.is c.requires.ready).is

pub act_with_pool-name-requires-clause-pool : goal.act_with_pool-name-requires-clause-pool
act_with_pool-name-requires-clause-pool c = (subst (IsReadyOn (key_of c.args.row.now) c.args.seat.now c.args.deque c.args.at (spare c.args.memory.now.births)) c.in-WithPool.is c.requires.ready).pool_ready

pub act_with_pool-name-requires-clause-next : goal.act_with_pool-name-requires-clause-next
act_with_pool-name-requires-clause-next c = (subst (IsReadyOn (key_of c.args.row.now) c.args.seat.now c.args.deque c.args.at (spare c.args.memory.now.births)) c.in-WithPool.is c.requires.ready).next_is

pub act_with_pool-name-requires-clause-uses : goal.act_with_pool-name-requires-clause-uses
act_with_pool-name-requires-clause-uses c = (subst (IsReadyOn (key_of c.args.row.now) c.args.seat.now c.args.deque c.args.at (spare c.args.memory.now.births)) c.in-WithPool.is c.requires.ready).uses

pub act_with_pool-name-requires-clause-fits : goal.act_with_pool-name-requires-clause-fits
act_with_pool-name-requires-clause-fits c = (subst (IsReadyOn (key_of c.args.row.now) c.args.seat.now c.args.deque c.args.at (spare c.args.memory.now.births)) c.in-WithPool.is c.requires.ready).fits

pub act_with_pool-name-requires-clause-back : goal.act_with_pool-name-requires-clause-back
act_with_pool-name-requires-clause-back c = (subst (IsReadyOn (key_of c.args.row.now) c.args.seat.now c.args.deque c.args.at (spare c.args.memory.now.births)) c.in-WithPool.is c.requires.ready).back

pub act_with_pool-name-requires-clause-suits : goal.act_with_pool-name-requires-clause-suits
act_with_pool-name-requires-clause-suits c = (subst (IsReadyOn (key_of c.args.row.now) c.args.seat.now c.args.deque c.args.at (spare c.args.memory.now.births)) c.in-WithPool.is c.requires.ready).suits

pub act_with_list-done-requires-clause-ready : goal.act_with_list-done-requires-clause-ready
act_with_list-done-requires-clause-ready c = (subst (IsReadyOn (key_of c.args.row.now) c.args.seat.now c.args.deque c.args.at (spare c.args.memory.now.births)) c.in-WithList.is c.requires.ready)

pub act_with_all-done-requires-clause-ready : goal.act_with_all-done-requires-clause-ready
act_with_all-done-requires-clause-ready c = (subst (IsReadyOn (key_of c.args.row.now) c.args.seat.now c.args.deque c.args.at (spare c.args.memory.now.births)) c.in-WithAll.is c.requires.ready)

pub act_own_join-name-requires-clause-listed : goal.act_own_join-name-requires-clause-listed
act_own_join-name-requires-clause-listed c = (c.in-OnLane._child, (subst (IsReadyOn (key_of c.args.row.now) c.args.seat.now c.args.deque c.args.at (spare c.args.memory.now.births)) c.in-OnLane.is c.requires.ready).listed)
