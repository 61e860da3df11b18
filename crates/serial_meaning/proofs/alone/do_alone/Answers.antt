use Rattle.std.proofs.Common.{◌≡◌, ◌∙◌, sym, ap, subst, arith}
use Rattle.std.specs.Prelude.{Some}
use Rattle.block_arena.specs.Region.{Region}
use Rattle.thread_frames.specs.declared.next.Next.{Next}
use Rattle.thread_frames.specs.Actions.{IsAlloc, IsRelease, IsDummy, IsFault, IsJoin, TellsWords}
use Rattle.thread_frames.specs.Views.{children_of, words_asked}
use Rattle.thread_frames.proofs.Bounds.{release_within}
use Rattle.serial_meaning.specs.Doing.{JoinsDelivered}
use Rattle.serial_meaning.proofs.Lists.{if_ok}
use Rattle.serial_meaning.proofs.Acting.{acts_with, join_tells}
use Rattle.serial_meaning.proofs.alone.do_alone.Goals as goal

pub do_alloc-requires-clause-next : goal.do_alloc-requires-clause-next
do_alloc-requires-clause-next c = subst IsAlloc (sym (c.requires.next ∙ ap Some c.in-Alloc.is)) tt

pub do_release-requires-clause-next : goal.do_release-requires-clause-next
do_release-requires-clause-next c = subst IsRelease (sym (c.requires.next ∙ ap Some c.in-Release.is)) tt

pub do_dummy-requires-clause-next : goal.do_dummy-requires-clause-next
do_dummy-requires-clause-next c = subst IsDummy (sym (c.requires.next ∙ ap Some c.in-Dummy.is)) tt

pub do_fault-requires-clause-next : goal.do_fault-requires-clause-next
do_fault-requires-clause-next c = subst IsFault (sym (c.requires.next ∙ ap Some c.in-Fault.is)) tt

pub do_join-requires-clause-next : goal.do_join-requires-clause-next
do_join-requires-clause-next c = subst IsJoin (sym (c.requires.next ∙ ap Some c.in-Join.is)) tt

pub do_alloc-requires-clause-words : goal.do_alloc-requires-clause-words
do_alloc-requires-clause-words c = ap words_asked (c.requires.next ∙ ap Some c.in-Alloc.is)

pub do_release-requires-clause-live : goal.do_release-requires-clause-live
do_release-requires-clause-live c =
    let asked = ap words_asked (c.requires.next ∙ ap Some c.in-Release.is) in
    let has = release_within c.args.thread.now c.in-Release.words c.requires.placed (c.requires.next ∙ ap Some c.in-Release.is) in
    let within = c.requires.live in omega (arith, asked, has, within)

pub do_join-requires-clause-delivered : goal.do_join-requires-clause-delivered
do_join-requires-clause-delivered c = subst (λ (n : Next). JoinsDelivered n (children_of c.args.thread.now)) c.in-Join.is c.requires.delivered

pub returns-in-Alloc-clause-words : goal.returns-in-Alloc-clause-words
returns-in-Alloc-clause-words c = λ words tells.
    if_ok (λ told. told ≡ c.in-Alloc.words) (λ told. told ≡ words) c.do_alloc.result (λ told same. same ∙ sym (subst (λ (n : Next). TellsWords c.args.thread.now n words) c.in-Alloc.is tells)) c.do_alloc.ensures.words

pub returns-in-Release-clause-acts : goal.returns-in-Release-clause-acts
returns-in-Release-clause-acts c =
    let less = c.do_release.ensures.words in let pool = ap (λ (r : Region). r.live) c.do_release.ensures.pool in
    let asked = ap words_asked (c.requires.next ∙ ap Some c.in-Release.is) in
    let has = release_within c.args.thread.now c.in-Release.words c.requires.placed (c.requires.next ∙ ap Some c.in-Release.is) in let within = c.requires.live in
    acts_with c.args.thread.now c.do_release.new.self c.args.pool.now.live c.do_release.new.pool.live c.do_release.ensures.acted (omega (arith, less, pool, asked, has, within)) c.do_release.ensures.point

pub returns-in-Release-clause-words : goal.returns-in-Release-clause-words
returns-in-Release-clause-words c = λ words tells. c.from.ensures ∙ sym (subst (λ (n : Next). TellsWords c.args.thread.now n words) c.in-Release.is tells)

pub returns-in-Dummy-clause-acts : goal.returns-in-Dummy-clause-acts
returns-in-Dummy-clause-acts c =
    let same = c.do_dummy.ensures.words in
    acts_with c.args.thread.now c.do_dummy.new.self c.args.pool.now.live c.args.pool.now.live c.do_dummy.ensures.acted (omega (arith, same)) c.do_dummy.ensures.point

pub returns-in-Dummy-clause-words : goal.returns-in-Dummy-clause-words
returns-in-Dummy-clause-words c = λ words tells. sym (subst (λ (n : Next). TellsWords c.args.thread.now n words) c.in-Dummy.is tells)

pub returns-in-Fault-clause-words : goal.returns-in-Fault-clause-words
returns-in-Fault-clause-words c = λ words tells. c.do_fault.ensures.words ∙ sym (subst (λ (n : Next). TellsWords c.args.thread.now n words) c.in-Fault.is tells)

pub returns-in-Join-clause-words : goal.returns-in-Join-clause-words
returns-in-Join-clause-words c = λ words tells.
    c.do_join.ensures.words ∙ sym (join_tells c.args.thread.now words (subst (λ (n : Next). JoinsDelivered n (children_of c.args.thread.now)) c.in-Join.is c.requires.delivered)
    (subst (λ (n : Next). TellsWords c.args.thread.now n words) c.in-Join.is tells))
