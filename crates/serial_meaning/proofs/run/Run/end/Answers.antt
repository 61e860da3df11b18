use Rattle.serial_meaning.proofs.run.Run.end.Goals as goal

pub hand_over-requires : goal.hand_over-requires
hand_over-requires c =
    let r = c.requires.stand in record { ended = (r.0, r.1, c.args.self.now, r.2, c.in_ok-ended.ensures.ended r.0 r.1 r.2) }

pub returns-clause-stand : goal.returns-clause-stand
returns-clause-stand c = λ t k s. c.hand_over.ensures.stand t k c.args.self.now s (c.in_ok-ended.ensures.ended t k s)

pub returns-clause-write : goal.returns-clause-write
returns-clause-write c = λ limit t k setting of s told w less.
    c.hand_over.ensures.write limit t k setting c.args.self.now of s (c.in_ok-ended.ensures.ended t k s) told w less
