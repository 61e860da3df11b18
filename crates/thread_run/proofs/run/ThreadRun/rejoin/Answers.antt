use Rattle.std.proofs.Common.{refl}
use Rattle.depth_first_list.specs.QuotaWords.{quota_words}
use Rattle.node_table.specs.Codes.{code_shown}
use Rattle.thread_stack.specs.declared.frame.Frame.TheVariants.{Rejoins}
use Rattle.thread_run.specs.declared.run.ThreadRun.{ThreadRun}
use Rattle.thread_run.proofs.Following.{rests_meaning, wants_meaning}
use Rattle.thread_run.proofs.Knowing.{can_rejoin}
use Rattle.thread_run.proofs.run.ThreadRun.rejoin.Goals as goal

pub rejoins-requires : goal.rejoins-requires
rejoins-requires c = can_rejoin (code_shown c.args.code.now) (quota_words c.args.k) c.args.self.now c.args.number c.requires.known

pub returns-in-Ok-clause-meaning : goal.returns-in-Ok-clause-meaning
returns-in-Ok-clause-meaning c =
    let run : ThreadRun = record { func = c.args.self.now.func; state = c.rejoins.new.state; frames = c.args.self.now.frames; told = c.args.self.now.told } in
    rests_meaning (code_shown c.args.code.now) (quota_words c.args.k) c.args.self.now run (Rejoins c.args.number) (λ gs. refl) refl refl refl (c.in-Ok.ensures.meaning (quota_words c.args.k))

pub returns-in-Err-clause-meaning : goal.returns-in-Err-clause-meaning
returns-in-Err-clause-meaning c =
    let run : ThreadRun = record { func = c.args.self.now.func; state = c.rejoins.new.state; frames = c.args.self.now.frames; told = c.args.self.now.told } in
    wants_meaning (code_shown c.args.code.now) (quota_words c.args.k) c.args.self.now run (Rejoins c.args.number) c.in-Err.error c.in-Err.error (c.in-Err.ensures.meaning (quota_words c.args.k))
