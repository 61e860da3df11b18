use Rattle.std.proofs.Common.{[], ◌∷◌, inl, refl, ap, ◌∙◌}
use Rattle.scheduler_tests.proofs.Tallies.{Counts, take_keeps, held_keeps}
use Rattle.turn_table.proofs.NoteLaws.{put_quiet}
use Rattle.scheduler_tests.proofs.turn_tallies.touch.Goals as goal

pub take-requires-clause-keeps : goal.take-requires-clause-keeps
take-requires-clause-keeps c = (take_keeps tt c.args.seat.now c.args.i, held_keeps tt c.args.seat.now c.args.i)

pub put_back-requires-clause-keeps : goal.put_back-requires-clause-keeps
put_back-requires-clause-keeps c = let found = c.in_ok-found.found in
    put_quiet Counts 0 tt c.take.new.seat c.args.i found ((c.args.i, found) ∷ []) (λ h. h.note) (λ _ v. v)
    (ap (λ s. s.hand.holds) c.in_ok-found.ensures.seat ∙ ap (λ xs. (c.args.i, found) ∷ xs) c.requires.1) (inl (refl, refl)) (λ _ _. refl) refl
