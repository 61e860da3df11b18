use Rattle.std.proofs.Common.{◌≡◌, reverse}
use Rattle.std.proofs.lemmas.List.{reverse-reverse}
use Rattle.containers.specs.BoundedList.{entries}
use Rattle.prefix_laws.proofs.labels.label_of.Goals as goal

pub returns : goal.returns
returns c =
    let reversed : c.from_ordinals.result ≡ reverse (entries c.in_ok-ordinals_up.field-0) = cc in
    rw (reversed, reverse-reverse) c.in_ok-ordinals_up.ensures
