use Rattle.std.proofs.Common.{◌∷◌, map, sym, ap, subst, ◌∙◌}
use Rattle.std.proofs.lemmas.List.Sorted.{IsPermutation-map}
use Rattle.std.specs.List.Sorted.{IsPermutation}
use Rattle.thread_frames.specs.Kept.{result_kept}
use Rattle.hall_parts.specs.HallNames.{result_shown, ListShown}
use Rattle.hall_parts.proofs.list_calls.leave_result.Goals as goal

pub returns-clause-shown : goal.returns-clause-shown
returns-clause-shown c worker h w list id =
    let now = map result_kept c.put.new.self.entries in (
      now,
      subst (λ xs. IsPermutation xs now)
          (ap (λ rs. result_shown c.args.ended ∷ rs) (ap (λ m. map result_kept m.entries) c.remove.ensures.rest.results ∙ sym (ap (λ l. ListShown.results l) list)))
          (IsPermutation-map result_kept ((c.args.id, c.args.ended) ∷ c.remove.new.self.part.results.entries) c.put.new.self.entries c.put.ensures.entries),
      ap {A = ListShown} (λ l. record l { results = now }) (c.remove.ensures.shown worker h w list id),
    )
