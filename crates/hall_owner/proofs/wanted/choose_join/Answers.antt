use Rattle.std.proofs.Common.{rules}
use Rattle.hall_owner.proofs.wanted.choose_join.Goals as goal

pub returns-in-None : goal.returns-in-None
returns-in-None c key next asked = (asked.0, asked.1, c.in-None.ensures)

pub returns-in-Some-eq0 : goal.returns-in-Some-eq0
returns-in-Some-eq0 c key next asked = (asked.0, asked.1, c.in-Some-eq0.field-0, search rules, c.in-Some-eq0.ensures)
