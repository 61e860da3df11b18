use Rattle.std.proofs.Common.{◌≡◌, ◌++◌, ◌∷◌, [], length, map, take, sym, ap, ◌∙◌, arith}
use Rattle.std.proofs.Math.Logic.{∥∥₁_map}
use Rattle.std.proofs.Math.Seq.{take-length}
use Rattle.std.proofs.lemmas.Slice.Zip.{AllZip-long}
use Rattle.containers.specs.BoundedList.{entries}
use Rattle.depth_first_run.specs.Run.{actions_of}
use Rattle.serial_journal.specs.Telling.{ShowsAction}
use Rattle.prefix_laws.specs.Naming.{name_shown}
use Rattle.prefix_laws.proofs.Naming.{zip_at, names_more, same_name}
use Rattle.prefix_laws.proofs.names.names_in.Goals as goal

pub name_of-requires : goal.name_of-requires
name_of-requires c = ∥∥₁_map c.requires (λ told.
    let shown = zip_at (ShowsAction (entries c.args.serial.now.births)) (actions_of told.0) (entries c.args.serial.now.actions) c.actions.place c.in-Some.action.now
    told.1.actions_are (sym c.in-Some.ensures) in
    (shown.0.label, shown.2.label))

pub actions-preserved : goal.actions-preserved
actions-preserved c = λ items told.
    let shown = zip_at (ShowsAction (entries c.args.serial.now.births)) (actions_of items) (entries c.args.serial.now.actions) c.actions.place c.in-Some.action.now
    told.actions_are (sym c.in-Some.ensures) in
    c.add.ensures.entries ∙ ap (λ ns. ns ++ c.in_ok-name.name ∷ []) c.in_ok-reserve.ensures.entries
    ∙ names_more (entries c.actions.names) c.in_ok-name.name (actions_of items) c.actions.place shown.0 shown.1 (c.actions.invariant items told)
    (same_name (entries c.args.serial.now.births ∷ []) c.in-Some.action.now.name c.in_ok-name.name shown.0.label shown.0.index c.in_ok-name.ensures.label c.in_ok-name.ensures.index shown.2.label shown.2.index)

pub returns : goal.returns
returns c = λ items told.
    let long = AllZip-long (ShowsAction (entries c.args.serial.now.births)) (actions_of items) (entries c.args.serial.now.actions) told.actions_are in
    let all = c.actions-test.false in let within = c.actions.auto.place-end in let many = c.len-place-end.ensures in
    let end : c.actions.place ≡ length (actions_of items) = omega (arith, long, all, within, many) in
    c.actions.invariant items told ∙ ap (λ n. map name_shown (take n (actions_of items))) end ∙ ap (map name_shown) (take-length (actions_of items))
