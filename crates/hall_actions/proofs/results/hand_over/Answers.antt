use Rattle.std.proofs.Common.{◌≡◌, ◌∷◌, map, refl, sym, ap, ◌∙◌, subst}
use Rattle.std.proofs.lemmas.List.Sorted.{IsPermutation-map}
use Rattle.std.proofs.lemmas.Option.{same_Some}
use Rattle.hall_parts.specs.HallNames.{ThreadId, IsAwaited, IsOnlyNewest, children_of, join_words_of, label_of, Ended}
use Rattle.thread_frames.specs.Kept.{result_kept}
use Rattle.hall_parts.specs.Passed.Joins.{released}
use Rattle.hall_parts.proofs.Giving.{given_is_handed}
use Rattle.hall_actions.proofs.Handed.{has_result}
use Rattle.hall_actions.proofs.results.hand_over.Goals as goal

pub returns-clause-come : goal.returns-clause-come
returns-clause-come c = record {
  ended = c.in-Some.ended;
  kept = sym c.take.ensures.value ∙ c.in-Some.is;
  results = c.in-Some.ensures.entries;
  room = c.take.ensures.keeps_room;
  given = c.deliver.ensures.given;
}

pub returns-clause-shown : goal.returns-clause-shown
returns-clause-shown c =
    let joins = c.requires.1 in
    let kept = sym c.take.ensures.value ∙ c.in-Some.is in
    let same = same_Some joins.ended c.in-Some.ended (sym joins.kept ∙ kept) in
    record {
      ended = c.in-Some.ended;
      kept = kept;
      results = map result_kept c.take.new.self.entries;
      shown = refl;
      was = IsPermutation-map result_kept c.args.list.now.part.results.entries ((c.args.child, c.in-Some.ended) ∷ c.take.new.self.entries) c.in-Some.ensures.entries;
      handed = given_is_handed c.in-Some.ended c.args.top.now c.deliver.new.top
          (subst (λ e. IsAwaited (label_of c.args.top.now) e (children_of c.args.top.now)) same joins.awaited) c.deliver.ensures.given;
    }

pub returns-clause-words : goal.returns-clause-words
returns-clause-words c = λ ended kept.
    let joins = c.requires.1 in
    let same = same_Some c.in-Some.ended ended (sym c.in-Some.is ∙ c.take.ensures.value ∙ kept) in
    let only = subst (λ (i : ThreadId). IsOnlyNewest i (children_of c.args.top.now))
    (sym (ap (λ (e : Ended). e.id) (same_Some ended joins.ended (sym kept ∙ joins.kept)) ∙ joins.its_id)) joins.only in
    subst (λ (e : Ended). IsOnlyNewest e.id (children_of c.args.top.now) → join_words_of c.deliver.new.top ≡ released c.args.top.now.run.state e.state) same
    c.deliver.ensures.releases only

pub returns-clause-there : goal.returns-clause-there
returns-clause-there c = has_result c.requires.0 c.args.list.now c.args.top.now c.args.child c.requires.1 c.take.new.self c.deliver.new.top (record {
  ended = c.in-Some.ended;
  kept = sym c.take.ensures.value ∙ c.in-Some.is;
  results = c.in-Some.ensures.entries;
  room = c.take.ensures.keeps_room;
  given = c.deliver.ensures.given;
})
