-- The texts that say what became of a trail.
use Rattle.std.specs.Prelude.{ℕ, List, codes}
use Rattle.std.specs.Fmt.{decimal}
use Rattle.trail_text.specs.TrailText.{◌⊕◌}
use Rattle.trail_meaning.specs.declared.trail_numbers.TrailNumbers.{TrailNumbers}

-- the bytes are no trail: the place of the line that shows it
abbrev pub not_trail_text : ℕ → List ℕ
not_trail_text at = codes "trail NotTrail at " ⊕ decimal at ⊕ codes "\n"

-- the depth-first run of the source has more actions than the trail allows
abbrev pub long_run_text : ℕ → List ℕ
long_run_text limit = codes "trail LongRun limit " ⊕ decimal limit ⊕ codes "\n"

-- an event, from 1, that the machine does not allow
abbrev pub bad_event_text : ℕ → List ℕ
bad_event_text event = codes "trail BadEvent event " ⊕ decimal event ⊕ codes "\n"

-- so many events, and the root has not ended
abbrev pub not_ended_text : ℕ → List ℕ
not_ended_text events = codes "trail NotEnded events " ⊕ decimal events ⊕ codes "\n"

-- the right numbers, where those of the trail are wrong
abbrev pub wrong_numbers_text : TrailNumbers → List ℕ
wrong_numbers_text n =
    codes "trail WrongNumbers periods " ⊕ decimal n.periods ⊕ codes " ahead " ⊕ decimal n.ahead ⊕ codes " high " ⊕ decimal n.high ⊕ codes "\n"

-- an accepted trail: its numbers, and how many actions were done
abbrev pub trail_ok_text : TrailNumbers → ℕ → List ℕ
trail_ok_text n actions =
    codes "trail ok\nperiods " ⊕ decimal n.periods ⊕ codes "\nahead " ⊕ decimal n.ahead ⊕ codes "\nhigh " ⊕ decimal n.high
    ⊕ codes "\nactions " ⊕ decimal actions ⊕ codes "\n"
