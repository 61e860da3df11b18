use Rattle.trail_text.proofs.Readings.{one_trail, one_place, never_both}
use Rattle.trail_text.proofs.Deciding.{each_read}
use Rattle.trail_text.proofs.laws.texts_have_one_reading.Goals as goal

pub returns : goal.returns
returns c = record { one_trail = one_trail; one_place = one_place; never_both = never_both; each_read = each_read }
