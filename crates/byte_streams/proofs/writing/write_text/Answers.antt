use Rattle.std.proofs.Common.{◌∙◌, arith}
use Rattle.std.proofs.Math.Seq.{take-add}
use Rattle.std.proofs.lemmas.List.{take_rest, length-drop}
use Rattle.byte_streams.proofs.Streams.{takes_both}
use Rattle.byte_streams.proofs.writing.write_text.Goals as goal

pub pushes-preserved : goal.pushes-preserved
pushes-preserved g c =
    let text = c.args.text.now in
    let fits = simp (take_rest, length-drop) at c.in_ok-written.ensures.fits in
    let took = rw (take_rest text c.pushes.written) at c.in_ok-written.ensures.takes in record {
      within = omega (arith, c.pushes-test.true);
      took = rw (take-add c.pushes.written c.in_ok-written.field-0 text) (takes_both _ _ _ _ _ c.pushes.invariant.took took);
      quiet = c.in_ok-written.ensures.counted ∙ c.pushes.invariant.quiet;
    }
