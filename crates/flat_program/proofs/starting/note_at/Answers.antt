use Rattle.std.proofs.Common.{◌≡◌, ◌<◌, length, IsTrue, ap, subst, arith, rules}
use Rattle.flat_code.specs.Shown.{flat_shown}
use Rattle.flat_code.specs.Starts.{IsWithinStatement}
use Rattle.flat_program.proofs.Starts.{places_long}
use Rattle.flat_program.proofs.starting.note_at.Goals as goal

pub returns-in-Some-last-clause-starts : goal.returns-in-Some-last-clause-starts
returns-in-Some-last-clause-starts c ls is all =
    let flat = c.args.flat.now in
    let items = flat.places.items in
    let first : IsTrue c.is_first.result = search rules in
    let lookup = c.in-Some.ensures.lookup in
    let long : length c.deref.result.now ≡ length items = ap (λ ps. length ps) c.deref.ensures.value in
    let below = lookup.3.0 in
    let all_long = places_long items in
    let within : c.args.place < length (flat_shown items).places = omega (arith, below, long, all_long) in
    let not_within : IsWithinStatement (flat_shown items) c.args.place → ⊥ =
    subst (λ ps. IsWithinStatement (flat_shown ps) c.args.place → ⊥) c.deref-2.ensures.value (c.is_first.ensures.first first) in
    c.note.ensures.starts ls
    (flat, is, record { code = c.requires.others c.args.place within not_within; forward = c.requires.forward; room = c.requires.room; deep = c.requires.deep }) all
