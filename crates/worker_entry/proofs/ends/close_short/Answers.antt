use Rattle.std.proofs.Common.{inl, inr, refl, subst}
use Rattle.std.specs.Prelude.{Option}
use Rattle.play_rules.specs.declared.ends.RunEnd.{RunEnd}
use Rattle.hall_slots.specs.Closing.{HasSeen}
use Rattle.worker_entry.proofs.ends.close_short.Goals as goal

pub returns-in-Ok-Some-clause-closed : goal.returns-in-Ok-Some-clause-closed
returns-in-Ok-Some-clause-closed c = (
  c.requires.alone,
  refl,
  inl (
    c.requires.short,
    c.in-Ok-Some.field-0-0,
    (
      subst (λ (o : Option RunEnd). HasSeen c.args.last.place o c.see_end.new.seat) c.in-Ok-Some.field-0-is c.in-Ok-Some.ensures.seat,
      record { worker = refl; places = refl; owned = refl; stop = refl },
    ),
  ),
)

pub returns-in-Ok-None-clause-closed : goal.returns-in-Ok-None-clause-closed
returns-in-Ok-None-clause-closed c = (
  c.requires.alone,
  inl (
    inr c.requires.short,
    (
      subst (λ (o : Option RunEnd). HasSeen c.args.last.place o c.see_end.new.seat) c.in-Ok-None.field-0-is c.in-Ok-None.ensures.seat,
      record { worker = refl; places = refl; owned = refl; stop = refl },
    ),
  ),
  refl,
)
