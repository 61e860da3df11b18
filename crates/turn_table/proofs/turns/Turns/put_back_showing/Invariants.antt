use Rattle.turn_table.specs.Hands.{told, shown_by}
use Rattle.turn_table.proofs.turns.Turns.put_back_showing.Given as goal

abbrev pub ghost-give : goal.ghost-give
ghost-give g a = shown_by (told a._others.now)
