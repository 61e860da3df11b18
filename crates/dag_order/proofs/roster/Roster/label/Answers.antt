-- Where the way stops, the answer is no label, and it names the one thread at which it stops.
use Rattle.std.proofs.Common.{ap, ◌∙◌, ◌≡◌, reverse, inl, inr, Err}
use Rattle.std.proofs.lemmas.Result.{err_from_is_err_and}
use Rattle.std.proofs.lemmas.List.{reverse-reverse}
use Rattle.containers.specs.BoundedList.{entries}
use Rattle.dag_order.specs.Births.{HasLabel}
use Rattle.dag_order.proofs.BirthLaws.{label_or_stop}
use Rattle.dag_order.proofs.BirthLemmas.{refused_alike}
use Rattle.dag_order.proofs.roster.Roster.label.Goals as goal

pub returns-in_err-ordinals_up-clause-stops : goal.returns-in_err-ordinals_up-clause-stops
returns-in_err-ordinals_up-clause-stops c =
    let p = err_from_is_err_and c.from_residual.result c.from_residual.ensures.1 in λ unknown stops.
    elim (refused_alike c.args.self.now c.args.id c.in_err-ordinals_up.field-0.0 (λ other is. c.in_err-ordinals_up.ensures.unknown other (ap (λ e. Err e) is)) unknown stops) [
      | inl is ↦ inl (p.1 ∙ ap (λ e. Err e) (p.2 ∙ is))
      | inr is ↦ inr (p.1 ∙ ap (λ e. Err e) (p.2 ∙ is))
    ]

pub returns-clause-stops : goal.returns-clause-stops
returns-clause-stops c =
    let reversed : c.from_ordinals.result ≡ reverse (entries c.in_ok-ordinals_up.field-0) = cc in
    let has : HasLabel c.args.self.now c.args.id c.from_ordinals.result = rw (reversed, reverse-reverse) c.in_ok-ordinals_up.ensures.way in λ unknown stops.
    absurd (label_or_stop c.args.self.now c.args.id unknown c.from_ordinals.result has stops)
