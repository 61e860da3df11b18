-- Loops as the code holds them, as the loops of the definitions.
use Rattle.std.specs.Prelude.{List, map}
use Rattle.loop_expand.specs.declared.found_loop.Head.{Head as RustHead}
use Rattle.loop_expand.specs.declared.found_loop.Range.{Range as RustRange}
use Rattle.loop_expand.specs.declared.found_loop.Range.TheVariants.{Numbers, Parts}
use Rattle.loop_expand.specs.declared.found_loop.Loop.{Loop as RustLoop}
use Rattle.loop_expand.specs.Loops.{Range, numbers, parts, Loop}
use Rattle.loop_expand.specs.Reading.{Head, whole}
use Rattle.loop_expand.specs.Gives.{runs_shown}

abbrev pub head_shown : RustHead → Head
head_shown h = record { opening = h.opening.now; target = h.target.now; function = h.function.now }

abbrev pub range_shown : RustRange → Range
range_shown (Numbers low high) = numbers low.now high.now
range_shown (Parts block most) = parts block.now most.now

abbrev pub loop_shown : RustLoop → Loop
loop_shown l = whole (head_shown l.head) (range_shown l.range) (runs_shown l.others.items) l.closing.now

abbrev pub loops_shown : List RustLoop → List Loop
loops_shown ls = map loop_shown ls
