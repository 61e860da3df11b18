use Rattle.std.proofs.Common.{◌≡◌, ◌-◌, length}
use Rattle.loop_expand.specs.Reading.{read_others}
use Rattle.loop_expand.specs.Gives.{runs_shown}
use Rattle.loop_expand.proofs.Others.{with_front}
use Rattle.loop_expand.proofs.forms.read_others.Given as goal

abbrev pub invariant-others : goal.invariant-others
invariant-others l = with_front (runs_shown l.others.items) (read_others (l.end - l.counter) l.rest) ≡ read_others (length l.tokens) l.tokens
