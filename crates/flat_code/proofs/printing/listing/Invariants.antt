use Rattle.std.proofs.Common.{◌≡◌, ◌++◌, drop}
use Rattle.std.specs.Prelude.{string_bytes}
use Rattle.flat_code.specs.Listing.{places_text}
use Rattle.flat_code.proofs.printing.listing.Given as goal

abbrev pub invariant-loop-number : goal.invariant-loop-number
invariant-loop-number l = string_bytes l.text ++ places_text l.number (drop l.number l.places) ≡ places_text 0 l.places
