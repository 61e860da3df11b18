use Rattle.turn_table.proofs.turns.Turns.put_back.Given as goal

abbrev pub ghost-give : goal.ghost-give
ghost-give g a = g.M.Puts.shows
