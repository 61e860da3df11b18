use Rattle.std.proofs.Common.{◌+◌, ◌∙◌, sym, subst}
use Rattle.hall_threads.specs.declared.answer.Answer.{Answer}
use Rattle.hall_threads.specs.declared.answer.Answer.TheVariants.{Over, Refused}
use Rattle.hall_threads.specs.Trying.{Tries}
use Rattle.hall_threads.specs.Working.{same_on}
use Rattle.hall_threads.proofs.Kept.{tries_keep}
use Rattle.hall_threads.proofs.Seen.{seen_by_try}
use Rattle.hall_threads.proofs.Underway.{IsUnderWay, adds_still, did_one, ends_at, found_one}
use Rattle.hall_threads.proofs.bounded.work_some.Goals as goal
use Rattle.hall_threads.proofs.bounded.work_some.Goals.{in-Did, in-Found}

pub tries-preserved : goal.tries-preserved
tries-preserved g c =
    let coming = g.C.Choices.coming in
    let same = same_on c.args.worker.now.seat c.tries.worker.seat c.make_try.new.seat c.tries.invariant.2
    (tries_keep c.args.hall.now (coming c.tries.worker.choices 0) c.tries.worker.seat c.make_try.new.seat c.make_try.result c.make_try.ensures.tries) in
    elim c.match-make_try.branch [
      | in-Did w ↦ (
        c.tries.invariant.0,
        c.make_try.ensures.here,
        same,
        subst (λ n. IsUnderWay c.args.hall.now (coming c.args.worker.now.choices) (coming c.make_try.new.choices) (c.tries.counter + 1) n c.args.worker.now.seat c.make_try.new.seat) (sym w.done-is)
            (did_one c.args.hall.now (coming c.args.worker.now.choices) (coming c.tries.worker.choices) (coming c.make_try.new.choices) c.tries.counter c.tries.done c.args.worker.now.seat c.tries.worker.seat
            c.make_try.new.seat c.tries.invariant.3 c.make_try.ensures.words w.in-Did.field-0
            (subst (λ (a : Answer). Tries c.args.hall.now (coming c.tries.worker.choices 0) c.tries.worker.seat c.make_try.new.seat a) w.in-Did.is c.make_try.ensures.tries)),
      )
      | in-Found w ↦ (
        c.tries.invariant.0,
        c.make_try.ensures.here,
        same,
        subst (λ n. IsUnderWay c.args.hall.now (coming c.args.worker.now.choices) (coming c.make_try.new.choices) (c.tries.counter + 1) n c.args.worker.now.seat c.make_try.new.seat) (sym w.done-is)
            (found_one c.args.hall.now (coming c.args.worker.now.choices) (coming c.tries.worker.choices) (coming c.make_try.new.choices) c.tries.counter c.tries.done c.args.worker.now.seat c.tries.worker.seat
            c.make_try.new.seat c.tries.invariant.3 c.make_try.ensures.words w.in-Found.field-0
            (subst (λ (a : Answer). Tries c.args.hall.now (coming c.tries.worker.choices 0) c.tries.worker.seat c.make_try.new.seat a) w.in-Found.is c.make_try.ensures.tries)),
      )
    ]

pub returns-in-Over-clause-some : goal.returns-in-Over-clause-some
returns-in-Over-clause-some g c =
    let coming = g.C.Choices.coming in (
      ends_at c.args.hall.now (coming c.args.worker.now.choices) (coming c.tries.worker.choices) (coming c.make_try.new.choices) c.tries.counter c.tries.done c.args.worker.now.seat c.tries.worker.seat
          c.make_try.new.seat c.tries.invariant.3 c.make_try.ensures.words c.args.tries (Over c.in-Over.end) c.tries-test.true c.in-Over.ensures.tries,
      seen_by_try c.args.hall.now (coming c.tries.worker.choices 0) c.tries.worker.seat c.make_try.new.seat c.in-Over.end c.in-Over.ensures.tries,
    )

pub returns-in-Refused-clause-some : goal.returns-in-Refused-clause-some
returns-in-Refused-clause-some g c =
    let coming = g.C.Choices.coming in (
      ends_at c.args.hall.now (coming c.args.worker.now.choices) (coming c.tries.worker.choices) (coming c.make_try.new.choices) c.tries.counter c.tries.done c.args.worker.now.seat c.tries.worker.seat
          c.make_try.new.seat c.tries.invariant.3 c.make_try.ensures.words c.args.tries (Refused c.in-Refused.why) c.tries-test.true c.in-Refused.ensures.tries,
      adds_still c.args.hall.now (coming c.args.worker.now.choices) (coming c.tries.worker.choices) (coming c.make_try.new.choices) c.tries.counter c.tries.done c.args.worker.now.seat c.tries.worker.seat
          c.make_try.new.seat c.tries.invariant.3 c.make_try.ensures.words c.in-Refused.why c.in-Refused.ensures.tries,
    )

pub returns-in-Refused-clause-lone : goal.returns-in-Refused-clause-lone
returns-in-Refused-clause-lone g c all = c.in-Refused.ensures.lone (c.tries.invariant.2.places ∙ all)
