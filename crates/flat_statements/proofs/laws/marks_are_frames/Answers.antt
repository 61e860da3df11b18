use Rattle.flat_statements.proofs.Reaching.{jump_mark}
use Rattle.flat_statements.proofs.laws.marks_are_frames.Goals as goal

pub returns : goal.returns
returns c = λ t f k size p s h. jump_mark t f k size s.frames h.code.0 p.place h.code.1 h.code.2 h.code.3
