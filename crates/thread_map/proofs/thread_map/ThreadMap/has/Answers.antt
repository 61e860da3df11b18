use Rattle.std.proofs.Common.{ap, sym, ◌∙◌}
use Rattle.thread_map.specs.Kept.{kept_under}
use Rattle.std.specs.Prelude.{is_some}
use Rattle.thread_map.proofs.thread_map.ThreadMap.has.Goals as goal

pub returns : goal.returns
returns g c =
    let seen = c.contains_key.ensures ∙ ap (λ kept. is_some (kept_under kept c.args.id)) c.self.view_is in
    (λ yes'. sym seen ∙ yes', λ some. seen ∙ some)
