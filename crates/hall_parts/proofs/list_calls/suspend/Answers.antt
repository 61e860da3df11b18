use Rattle.std.proofs.Common.{◌∷◌, map, sym, ap, subst, ◌∙◌}
use Rattle.std.proofs.lemmas.List.Sorted.{IsPermutation-map}
use Rattle.std.specs.List.Sorted.{IsPermutation}
use Rattle.thread_frames.specs.Kept.{waiting_shown}
use Rattle.hall_slots.specs.Passed.Values.{ListShown}
use Rattle.hall_parts.proofs.list_calls.suspend.Goals as goal

pub returns-clause-shown : goal.returns-clause-shown
returns-clause-shown c worker h w list id top =
    let now = map waiting_shown c.put.new.self.entries in (
      now,
      subst (λ xs. IsPermutation xs now)
          (ap (λ t. t ∷ map waiting_shown c.remove.new.self.part.waiting.entries) (sym top)
          ∙ ap (λ ws. w.top ∷ ws) (ap (λ m. map waiting_shown m.entries) c.remove.ensures.rest.waiting ∙ sym (ap (λ l. ListShown.waiting l) list)))
          (IsPermutation-map waiting_shown ((c.args.child, c.args.top) ∷ c.remove.new.self.part.waiting.entries) c.put.new.self.entries c.put.ensures.entries),
      ap {A = ListShown} (λ l. record l { waiting = now }) (c.remove.ensures.shown worker h w list id),
    )
