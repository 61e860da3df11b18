use Rattle.std.proofs.Common.{◌≡◌, ◌++◌, drop}
use Rattle.std.specs.Prelude.{string_bytes}
use Rattle.flat_code.specs.Listing.{frames_text}
use Rattle.flat_code.proofs.printing.push_mark.Given as goal

abbrev pub invariant-loop-frame : goal.invariant-loop-frame
invariant-loop-frame l =
    string_bytes l.text ++ frames_text (drop l.frame-index l.mark) ≡ string_bytes l.initial.text ++ frames_text l.mark
