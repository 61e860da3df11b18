-- What a try says of the end of the work.
use Rattle.work_loop.specs.declared.works.Tried.{Tried}
use Rattle.work_loop.specs.declared.works.Tried.TheVariants.{Did, Runs, Waits, Idles, Ended}

-- where the work has ended, it has ended so
abbrev pub EndsAs : {E : Type 0} → Tried E → (E → Type 0) → Type 0
EndsAs Did HasEnded = Unit {0}
EndsAs Runs HasEnded = Unit {0}
EndsAs Waits HasEnded = Unit {0}
EndsAs Idles HasEnded = Unit {0}
EndsAs (Ended end) HasEnded = HasEnded end
