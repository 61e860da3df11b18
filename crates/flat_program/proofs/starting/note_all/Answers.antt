use Rattle.node_table.specs.Codes.{code_shown}
use Rattle.flat_program.proofs.Entries.{keeps_both, noted_next}
use Rattle.flat_program.proofs.starting.note_all.Goals as goal

pub loop-place-preserved : goal.loop-place-preserved
loop-place-preserved c =
    let first = c.args.starts.now.items in
    let old = c.loop-place.starts.items in
    let new = c.note_at.new.starts.items in
    let before = c.loop-place.invariant in
    let keeps = c.note_at.ensures.keeps in (
      λ ls is all. c.note_at.ensures.starts ls is (before.0 ls is all),
      keeps_both first old new before.1 keeps,
      λ some entry begins within. noted_next (code_shown c.args.table.now) c.args.flat.now first old new c.loop-place.place entry before.1 keeps before.2
          c.note_at.ensures.has begins within,
    )
