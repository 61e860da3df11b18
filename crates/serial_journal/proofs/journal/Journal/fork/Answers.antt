use Rattle.std.proofs.lemmas.Int.{to_z-of_z}
use Rattle.std.proofs.Common.{arith, length-append, rules, SFits, to_z, of_z, w64, ℤ, ◌≡◌, ◌≤◌, ◌∷◌, [], ◌++◌, ap, ◌∙◌, subst, sym, pos, List, length}
use Rattle.dag_order.specs.declared.birth.Birth.{Birth}
use Rattle.dag_order.specs.declared.thread_id.ThreadId.{ThreadId}
use Rattle.dag_order.specs.declared.kind.Kind.TheVariants.{Fork}
use Rattle.dag_order.specs.Births.{HasLabel}
use Rattle.dag_order.specs.LabelOrder.{fork_of}
use Rattle.containers.specs.BoundedList.{entries}
use Rattle.containers.specs.declared.bounded_list.BoundedList.{BoundedList}
use Rattle.serial_journal.specs.declared.journal.Journal.{Journal}
use Rattle.serial_journal.specs.declared.action.Action.{Action as Shown}
use Rattle.serial_journal.specs.Journals.{births_of, KeepsLabels, KeepsUp}
use Rattle.serial_journal.proofs.Known.{labels_stay, child_has_label}
use Rattle.serial_journal.proofs.Keeping.{fork_kept, room_kept, small_of_no_account, limit_reached, stopping}
use Rattle.serial_journal.proofs.journal.Journal.fork.Goals as goal

pub returns-in-Err-clause-keeps_up : goal.returns-in-Err-clause-keeps_up
returns-in-Err-clause-keeps_up c = λ limit actions label keeps labelled.
    stopping (c.args.self.now.limit ≤ length (entries c.args.self.now.actions)) (limit ≤ length actions) c.in-Err.stop
    (limit_reached limit actions c.args.self.now keeps) c.in-Err.ensures.cases

pub returns-clause-labels : goal.returns-clause-labels
returns-clause-labels c =
    let birth : Birth = record { parent = c.args.name.by; ordinal = c.args.ordinal } in
    let added : entries c.add.new.self ≡ births_of c.args.self.now ++ birth ∷ [] =
    c.add.ensures.entries ∙ ap (λ (bs : BoundedList Birth). entries bs ++ birth ∷ []) c.in_default.ensures.births
    ∙ ap (λ (bs : List Birth). bs ++ birth ∷ []) c.in_ok-reserve.ensures.entries in
    subst (λ (bs : List Birth). KeepsLabels (births_of c.args.self.now) bs) (sym added) (labels_stay (births_of c.args.self.now) (birth ∷ []))

pub returns-clause-nth : goal.returns-clause-nth
returns-clause-nth c = c.len-nth.ensures

pub returns-clause-more : goal.returns-clause-more
returns-clause-more c =
    let birth : Birth = record { parent = c.args.name.by; ordinal = c.args.ordinal } in
    let added : entries c.add.new.self ≡ births_of c.args.self.now ++ birth ∷ [] =
    c.add.ensures.entries ∙ ap (λ (bs : BoundedList Birth). entries bs ++ birth ∷ []) c.in_default.ensures.births
    ∙ ap (λ (bs : List Birth). bs ++ birth ∷ []) c.in_ok-reserve.ensures.entries in
    let long = length-append (births_of c.args.self.now) (birth ∷ []) in
    let same = ap length added in omega (arith, long, same)

pub returns-clause-child : goal.returns-clause-child
returns-clause-child c = λ label labelled.
    let birth : Birth = record { parent = c.args.name.by; ordinal = c.args.ordinal } in
    let same : births_of (record c.args.self.now { births = c.reserve.new.self; small = c.self-1.given.0 }) ≡ births_of c.args.self.now = c.in_ok-reserve.ensures.entries in
    let added : entries c.add.new.self ≡ births_of c.args.self.now ++ birth ∷ [] =
    c.add.ensures.entries ∙ ap (λ (bs : BoundedList Birth). entries bs ++ birth ∷ []) c.in_default.ensures.births
    ∙ ap (λ (bs : List Birth). bs ++ birth ∷ []) same in
    let id : ThreadId = record { period = 1; nth = length (births_of c.args.self.now) } in
    let child : HasLabel (entries c.add.new.self ∷ []) id (fork_of label c.args.ordinal) =
    subst (λ (bs : List Birth). HasLabel (bs ∷ []) id (fork_of label c.args.ordinal)) (sym added) (child_has_label (births_of c.args.self.now) c.args.name.by c.args.ordinal label labelled) in
    subst (λ n. HasLabel (entries c.add.new.self ∷ []) (record { period = 1; nth = n }) (fork_of label c.args.ordinal)) (sym c.len-nth.ensures) child

pub returns-clause-keeps_up : goal.returns-clause-keeps_up
returns-clause-keeps_up c = λ limit actions label keeps labelled.
    let birth : Birth = record { parent = c.args.name.by; ordinal = c.args.ordinal } in
    let fits : SFits w64 c.from.result = search rules in
    let change : ℤ = to_z w64 (of_z w64 c.from.result) in
    let weighs : change ≡ pos c.args.words = to_z-of_z w64 c.from.result fits ∙ c.from.ensures in
    let shown : Shown = record { name = c.args.name; kind = Fork; change = change } in
    let roomy : Journal = record c.args.self.now { births = c.reserve.new.self; small = c.self-1.given.0 } in
    let same : births_of roomy ≡ births_of c.args.self.now = c.in_ok-reserve.ensures.entries in
    let kept : KeepsUp limit actions roomy = small_of_no_account limit actions _ c.self-1.given.0 (room_kept limit actions c.args.self.now c.reserve.new.self same keeps) in
    let added : entries c.add.new.self ≡ births_of roomy ++ birth ∷ [] =
    c.add.ensures.entries ∙ ap (λ (bs : BoundedList Birth). entries bs ++ birth ∷ []) c.in_default.ensures.births in
    let known : HasLabel (births_of roomy ∷ []) c.args.name.by label = subst (λ (bs : List Birth). HasLabel (bs ∷ []) c.args.name.by label) (sym same) labelled in
    let id : ThreadId = record { period = 1; nth = length (births_of roomy) } in
    let child : HasLabel (entries c.add.new.self ∷ []) id (fork_of label c.args.ordinal) =
    subst (λ (bs : List Birth). HasLabel (bs ∷ []) id (fork_of label c.args.ordinal)) (sym added) (child_has_label (births_of roomy) c.args.name.by c.args.ordinal label known) in
    let at : length (births_of roomy) ≡ c.len-nth.result = ap length same ∙ sym c.len-nth.ensures in (
      small_of_no_account limit _ _ c.self-2-1.given.0
          (fork_kept limit actions label c.args.name c.args.ordinal c.args.words change c.add.new.self roomy c.write_down.new.self weighs c.in_default.ensures.cases added kept known),
      subst (λ n. HasLabel (entries c.add.new.self ∷ []) (record { period = 1; nth = n }) (fork_of label c.args.ordinal)) at child,
    )
