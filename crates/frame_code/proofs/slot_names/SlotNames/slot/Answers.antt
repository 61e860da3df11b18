use Rattle.std.proofs.Common.{◌<◌, length, arith, sym, ap, ◌∙◌, subst}
use Rattle.std.proofs.lemmas.Grind.{common_steps}
use Rattle.std.proofs.lemmas.List.{length-map}
use Rattle.std.proofs.lemmas.Slice.Eq.{bytes_eq-Decides}
use Rattle.par_tree.specs.View.{name_tree}
use Rattle.frame_code.proofs.Places.{name_at-item}
use Rattle.frame_code.proofs.slot_names.SlotNames.slot.Goals as goal

pub returns-then-eq : goal.returns-then-eq
returns-then-eq c =
    let ns = c.args.self.now.names.items in
    let i = c.loop-i.i in
    let lt : i < length ns = grind (arith, common_steps) in
    record {
      reads =
          name_at-item ns i c.index.result.now lt
          ∙ ap name_tree (sym c.index.ensures)
          ∙ (bytes_eq-Decides c.index.result.now.bytes.items c.args.name.now.bytes.items).0 (sym c.if-eq.ensures);
      below = subst (λ n. i < n) (sym (length-map ns name_tree)) lt;
    }
