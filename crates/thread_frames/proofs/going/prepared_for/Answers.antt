use Rattle.std.proofs.Common.{refl, sym, subst}
use Rattle.node_table.specs.Codes.{code_shown}
use Rattle.thread_run.specs.declared.ready.Ready.{Ready}
use Rattle.thread_frames.specs.Preparing.{Prepares}
use Rattle.thread_frames.specs.declared.prepared.Prepared.TheVariants.{Fork, Join}
use Rattle.thread_frames.proofs.going.prepared_for.Goals as goal

pub returns-in_ok-room-in-Fork : goal.returns-in_ok-room-in-Fork
returns-in_ok-room-in-Fork c =
    subst (λ (x : Ready). Prepares (code_shown c.args.code.now) c.args.state.now x (Fork c.in-Fork.forking c.in_ok-room-in-Fork.room)) (sym c.in-Fork.is)
    (c.in_ok-room-in-Fork.room, refl, c.in_ok-room-in-Fork.ensures.room, c.in_ok-room-in-Fork.ensures.slots)

pub returns-in_ok-assigned-in-Join : goal.returns-in_ok-assigned-in-Join
returns-in_ok-assigned-in-Join c =
    subst (λ (x : Ready). Prepares (code_shown c.args.code.now) c.args.state.now x (Join c.in-Join.branch c.in_ok-assigned-in-Join.assigned)) (sym c.in-Join.is)
    (c.in_ok-assigned-in-Join.assigned, refl, c.in_ok-assigned-in-Join.ensures)
