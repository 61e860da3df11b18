-- What contracts see of a `Pairing`.
use Rattle.std.specs.Prelude.{reverse}
use Rattle.trail_check.specs.Pairing.{Pairs}
use Rattle.trail_check.specs.declared.pairing.Pairing.{Pairing}

-- what it knows, its stacks with the newest first
abbrev pub pairs_of : Pairing → Pairs
pairs_of p = record { partners = p.partners.items; running = reverse p.running.items; ended = reverse p.ended.items }
